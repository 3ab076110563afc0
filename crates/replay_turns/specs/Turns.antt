-- What a happening does to both ends (docs/EXCHANGE.md, "Runs").
use Rattle.std.specs.Prelude.{◌≡◌, ◌⊎◌, List, [], ◌∷◌, Bool, false, option_map, Option, Some, None, ⊤}
use Rattle.accept_rules.specs.Interlocks.{FollowsAccepts}
use Rattle.accept_rules.specs.Permissions.{Accepts}
use Rattle.bank_store.specs.DiskWrites.{IsRunning}
use Rattle.disk_layout.specs.DiskReads.{IsOutOfMemory}
use Rattle.disk_model.specs.State.{DiskState}
use Rattle.exchange_trace.specs.Happenings.{DatagramView}
use Rattle.exchange_trace.specs.Logs.{Event}
use Rattle.exchange_trace.specs.Steps.{Note, Boot_refused, Came_up, Went_down, with_note}
use Rattle.exchange_trace.specs.Steps.{Step}
use Rattle.load_header.specs.declared.header.LoadHeader.{LoadHeader}
use Rattle.accept_rules.specs.declared.kept.KeptLoad.{KeptLoad}
use Rattle.loader_machine.specs.Machine.{LoaderState, LoaderTakesEvent}
use Rattle.session_rules.specs.Target.{TargetView}
use Rattle.target_machine.specs.Decisions.{TargetState, TargetTakesEvent}
use Rattle.replay_turns.specs.declared.powering.PowerNote.{PowerNote}
use Rattle.replay_turns.specs.declared.powering.PowerNote.TheVariants as power

-- the loader takes what reaches it, if anything does
abbrev pub LoaderTakes : Option Event → (before after : LoaderState) → List DatagramView → Type 0
LoaderTakes None before after sent = (after ≡ before) × (sent ≡ [])
LoaderTakes (Some e) before after sent = LoaderTakesEvent e before after sent

-- ---- the target

-- what the target keeps, if it is up
abbrev pub target_kept : {R : Type 0} → Option (TargetState R) → Option TargetView
target_kept target = option_map (λ t. t.view) target

-- it takes what reaches it, if anything does, where the interlock accepts these loads
abbrev pub TargetTakes : {R : Type 0} → Accepts → Option Event → (before after : TargetState R) → List DatagramView → Type 0
TargetTakes accepts None before after sent = (after ≡ before) × (sent ≡ [])
TargetTakes accepts (Some e) before after sent = TargetTakesEvent accepts e before after sent

-- the rule of a target that is up answers as this function does
abbrev pub RuleFollows : {R : Type 0} → (may_say : R → LoadHeader → List KeptLoad → Bool → Type 0) → (accepts : Accepts) → Option (TargetState R) → Type 0
RuleFollows may_say accepts None = ⊤
RuleFollows may_say accepts (Some t) = FollowsAccepts may_say t.rule accepts

-- the disk of a target that is up runs
abbrev pub RunsWhileUp : {R : Type 0} → Option (TargetState R) → DiskState → Type 0
RunsWhileUp None disk = ⊤
RunsWhileUp (Some t) disk = IsRunning disk

-- Memory ran out, and no failure of the disk is told so: the disk runs, or it was itself out of memory, which it counts.
abbrev pub RunsOut : (old new : DiskState) → Type 0
RunsOut old new = (new.stopped ≡ false) ⊎ IsOutOfMemory old new

-- what is noted of it
abbrev pub notes_of : Option PowerNote → List Note
notes_of None = []
notes_of (Some power.Down) = Went_down ∷ []
notes_of (Some (power.Up first_port sequence)) = Came_up first_port sequence ∷ []
notes_of (Some (power.Refused fault)) = Boot_refused fault ∷ []

-- the steps, with this noted in the newest
abbrev pub noted_with : List Step → PowerNote → List Step
noted_with steps power.Down = with_note steps Went_down
noted_with steps (power.Up first_port sequence) = with_note steps (Came_up first_port sequence)
noted_with steps (power.Refused fault) = with_note steps (Boot_refused fault)
