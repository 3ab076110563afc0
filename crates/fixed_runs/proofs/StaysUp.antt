-- A target that never fails is up, and what is noted of it is fixed.
use Rattle.std.proofs.Common.{◌≡◌, inl, inr, ℕ, zero, suc, Bool, true, false, List, [], ◌∷◌, Option, Some, None, refl, sym, ap, subst, ◌∙◌}
use Rattle.std.specs.Prelude.{◌==◌, if◌then◌else◌}
use Rattle.std.specs.List.{AllByRecursion}
use Rattle.disk_layout.specs.Holds.{StandingView}
use Rattle.exchange_trace.specs.declared.trace.Side.TheVariants as sides
use Rattle.exchange_trace.specs.Happenings.{DatagramView, HappeningView, Delivered, Lost, Injected, Ticked, Size_told, Power_cut, Booted, Info_started, Upload_started, Ended}
use Rattle.exchange_trace.specs.Logs.{Event, event_for}
use Rattle.exchange_trace.specs.Posts.{posted_in}
use Rattle.exchange_trace.specs.Steps.{Boot_refused, Came_up, Note, Step, Went_down}
use Rattle.session_rules.specs.TargetLog.{TargetReading}
use Rattle.replay_rules.specs.BothEnds.{Is_down, Is_up, Setting, TargetStanding, changed, come_up, gone_down, noted, reached, settled, target_at}
use Rattle.replay_rules.specs.Due.{IsBooted, MayBeNoted, MayGoDown, is_up}
use Rattle.replay_rules.specs.Histories.{active_by, active_in}
use Rattle.fixed_runs.specs.FixedRuns.{IsNoFailure, NeverFails, TellsActive, noted_then}

-- ---- the target stays up

came_up : (first_port sequence : ℕ) (before after : TargetStanding) → is_up (come_up first_port sequence (gone_down before after)) ≡ true
came_up first_port sequence (Is_up r) (Is_up s) = refl
came_up first_port sequence (Is_up r) (Is_down active interrupted) = refl
came_up first_port sequence (Is_down active interrupted) after = refl

noted_up : (notes : List Note) (before after : TargetStanding) → is_up after ≡ true → AllByRecursion IsNoFailure notes → is_up (noted notes before after) ≡ true
noted_up [] before after up none = up
noted_up (Went_down ∷ notes) before after up none = absurd none.0
noted_up (Boot_refused fault ∷ notes) before after up none = absurd none.0
noted_up (Came_up first_port sequence ∷ notes) before after up none =
    let then_up = come_up first_port sequence (gone_down before after) in
    noted_up notes then_up then_up (came_up first_port sequence before after) none.1

reached_up : (set : Setting) (e : Option Event) (state : TargetStanding) → is_up state ≡ true → is_up (reached set e state) ≡ true
reached_up set None state up = up
reached_up set (Some e) (Is_up r) up = refl
reached_up set (Some e) (Is_down active interrupted) up = up

pub stays_up : (set : Setting) (steps : List Step) → NeverFails steps → is_up (target_at set steps) ≡ true
stays_up set [] none = refl
stays_up set (s ∷ earlier) none =
    noted_up s.notes (target_at set earlier) (reached set (event_for sides.Target (posted_in earlier) s.given) (target_at set earlier))
    (reached_up set (event_for sides.Target (posted_in earlier) s.given) (target_at set earlier) (stays_up set earlier none.1)) none.0

-- ---- what a boot tells

-- a target that is up has nothing that was interrupted
either_way : (b : Bool) (active : StandingView) → (if b then active else active) ≡ active
either_way true active = refl
either_way false active = refl

boot_settles : (sequence : ℕ) (active : StandingView) → settled sequence active (changed active active) ≡ active
boot_settles sequence active = by (active.sequence == active.sequence)
  where
    by : (same : Bool) → settled sequence active (if same then None else Some active) ≡ active
    by true = refl
    by false = either_way (sequence == active.sequence) active

boot_keeps : (r : TargetReading) (first_port sequence : ℕ) → active_in (come_up first_port sequence (gone_down (Is_up r) (Is_up r))) ≡ r.active
boot_keeps r first_port sequence = boot_settles sequence r.active

same_boot : (first_port sequence port number : ℕ) → first_port ≡ port → sequence ≡ number → ◌≡◌ {A = List Note} (Came_up first_port sequence ∷ []) (Came_up port number ∷ [])
same_boot first_port sequence port number p n = ap (λ (m : ℕ). Came_up m sequence ∷ []) p ∙ ap (λ (m : ℕ). Came_up port m ∷ []) n

booted : (r : TargetReading) (port : ℕ) (notes : List Note) → IsBooted port notes → AllByRecursion IsNoFailure notes → TellsActive (noted notes (Is_up r) (Is_up r)) notes
    → notes ≡ Came_up port r.active.sequence ∷ []
booted r port [] is none told = absurd is
booted r port (Came_up first_port sequence ∷ []) is none told =
    same_boot first_port sequence port r.active.sequence is (told ∙ ap (λ (s : StandingView). s.sequence) (boot_keeps r first_port sequence))
booted r port (Came_up first_port sequence ∷ note ∷ notes) is none told = absurd is
booted r port (Boot_refused fault ∷ []) is none told = absurd none.0
booted r port (Boot_refused fault ∷ note ∷ notes) is none told = absurd is
booted r port (Went_down ∷ []) is none told = absurd is
booted r port (Went_down ∷ note ∷ notes) is none told = absurd is

-- ---- what is noted in a step

none_noted : (notes : List Note) → MayGoDown true notes → AllByRecursion IsNoFailure notes → notes ≡ []
none_noted notes may none = elim may [ inl e ↦ e | inr e ↦ absurd ((subst (AllByRecursion IsNoFailure) e none).0) ]

noted_so : (set : Setting) (r : TargetReading) (port : ℕ) (posted : List DatagramView) (h : HappeningView) (notes : List Note) → MayBeNoted true port h notes → AllByRecursion IsNoFailure notes
    → TellsActive (noted notes (Is_up r) (reached set (event_for sides.Target posted h) (Is_up r))) notes → notes ≡ noted_then port r.active.sequence h
noted_so set r port posted Booted notes may none told = booted r port notes may none told
noted_so set r port posted (Power_cut zero pick) notes may none told = absurd ((subst (AllByRecursion IsNoFailure) may none).0)
noted_so set r port posted (Power_cut (suc calls) pick) notes may none told = may
noted_so set r port posted (Delivered side n) notes may none told = none_noted notes may none
noted_so set r port posted (Lost n) notes may none told = none_noted notes may none
noted_so set r port posted (Injected d) notes may none told = none_noted notes may none
noted_so set r port posted (Ticked side) notes may none told = none_noted notes may none
noted_so set r port posted (Size_told size) notes may none told = none_noted notes may none
noted_so set r port posted (Info_started hw pos) notes may none told = none_noted notes may none
noted_so set r port posted (Upload_started hw pos parts) notes may none told = none_noted notes may none
noted_so set r port posted Ended notes may none told = none_noted notes may none

pub noted_is : (set : Setting) (state : TargetStanding) (port : ℕ) (posted : List DatagramView) (h : HappeningView) (notes : List Note) → is_up state ≡ true → MayBeNoted (is_up state) port h notes
    → AllByRecursion IsNoFailure notes → TellsActive (noted notes state (reached set (event_for sides.Target posted h) state)) notes → notes ≡ noted_then port (active_in state).sequence h
noted_is set (Is_up r) port posted h notes up may none told = noted_so set r port posted h notes may none told
noted_is set (Is_down active interrupted) port posted h notes up may none told = absurd cc

pub active_is : (state : TargetStanding) (last : StandingView) → is_up state ≡ true → active_by state (Some last) ≡ last → last ≡ active_in state
active_is (Is_up r) last up is = sym is
active_is (Is_down active interrupted) last up is = absurd cc
