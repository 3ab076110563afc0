-- What a happening does to the target, and which end speaks at it (docs/EXCHANGE.md, "Runs").
use Rattle.std.specs.Prelude.{◌≡◌, ℕ, List, [], ◌∷◌, Option, Some, None, ⊤}
use Rattle.accept_rules.specs.Permissions.{Accepts}
use Rattle.disk_layout.specs.Holds.{Outline}
use Rattle.exchange_trace.specs.declared.trace.Side.TheVariants as sides
use Rattle.exchange_trace.specs.Happenings.{DatagramView, HappeningView, Booted, Delivered, Info_started, Injected, Ticked, Upload_started}
use Rattle.exchange_trace.specs.Logs.{Event}
use Rattle.exchange_trace.specs.Steps.{Note, Boot_refused, Came_up, Went_down}
use Rattle.session_rules.specs.Target.{TargetView, new_target}
use Rattle.replay_rules.specs.BothEnds.{Setting, TargetStanding, come_up, gone_down, reached}
use Rattle.replay_rules.specs.Ties.{kept_by, target_next, target_says}

-- What a turn does to the target, where this would reach it and its state was so before: it takes what reaches it; or it goes
-- down, comes up or stays down, and posts nothing.
abbrev pub TargetTurns : Setting → Option Event → TargetStanding → (before after : Option TargetView) → List DatagramView → List Note → Type 0
TargetTurns set e state before after posts [] = (after ≡ target_next set.accepts before e) × (posts ≡ target_says set.accepts before e)
TargetTurns set e state before after posts (Went_down ∷ []) = (after ≡ None) × (posts ≡ [])
TargetTurns set e state before after posts (Boot_refused fault ∷ []) = (after ≡ None) × (posts ≡ []) × (e ≡ None)
TargetTurns set e state before after posts (Came_up first_port sequence ∷ []) =
    (after ≡ kept_by (come_up first_port sequence (gone_down state (reached set e state)))) × (posts ≡ []) × (e ≡ None)
TargetTurns set e state before after posts notes = ⊥

-- it came up with this first port on some configuration, which has this sequence number, and keeps nothing of any exchange
pub record IsBorn (first_port sequence : ℕ) (target : Option TargetView) : Type 0 where
  pub found : Outline
  pub is : target ≡ Some (new_target first_port found)
  pub numbered : found.sequence ≡ sequence

-- what a boot makes of a target of whose disk nothing is known: it comes up, or stays down
abbrev pub ComesOutOfBoot : (after : Option TargetView) → List Note → Type 0
ComesOutOfBoot after (Came_up first_port sequence ∷ []) = IsBorn first_port sequence after
ComesOutOfBoot after (Boot_refused fault ∷ []) = after ≡ None
ComesOutOfBoot after notes = ⊥

-- What a turn does to a target of whose disk nothing is known, where the interlock accepts these loads and this would reach
-- it: it takes what reaches it, or goes down, and posts nothing then; or what a boot makes of it.
abbrev pub TargetLives : (accepts : Accepts) → Option Event → (before after : Option TargetView) → List DatagramView → List Note → Type 0
TargetLives accepts e before after posts [] = (after ≡ target_next accepts before e) × (posts ≡ target_says accepts before e)
TargetLives accepts e before after posts (Went_down ∷ []) = (after ≡ None) × (posts ≡ [])
TargetLives accepts e before after posts notes = ComesOutOfBoot after notes × (posts ≡ []) × (e ≡ None)

-- the happening is no boot
abbrev pub IsNoBoot : HappeningView → Type 0
IsNoBoot Booted = ⊥
IsNoBoot h = ⊤

-- the target may post where this happens
abbrev pub TargetSpeaks : HappeningView → Type 0
TargetSpeaks (Delivered sides.Target number) = ⊤
TargetSpeaks (Injected d) = d.side ≡ sides.Loader
TargetSpeaks (Ticked sides.Target) = ⊤
TargetSpeaks h = ⊥

-- the loader may post where this happens
abbrev pub LoaderSpeaks : HappeningView → Type 0
LoaderSpeaks (Delivered sides.Loader number) = ⊤
LoaderSpeaks (Injected d) = d.side ≡ sides.Target
LoaderSpeaks (Ticked sides.Loader) = ⊤
LoaderSpeaks (Info_started hw pos) = ⊤
LoaderSpeaks (Upload_started hw pos parts) = ⊤
LoaderSpeaks h = ⊥
