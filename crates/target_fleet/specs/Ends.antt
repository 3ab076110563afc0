-- How the units of a fleet end (docs/EXCHANGE.md, "Fleets").
use Rattle.std.specs.Prelude.{◌≡◌, ◌≢◌, ℕ, ◌+◌, ◌<◌, ◌≤◌, List, length, [], ◌∷◌, ◌++◌, Bool, map, option_map, slice_get, Some, ⊤}
use Rattle.accept_rules.specs.Permissions.{Accepts}
use Rattle.accept_rules.specs.declared.kept.KeptLoad.{KeptLoad}
use Rattle.disk_layout.specs.DiskReads.{IsOfDisk}
use Rattle.disk_layout.specs.Holds.{standing_view}
use Rattle.disk_layout.specs.declared.fault.RecoverFault.{RecoverFault}
use Rattle.disk_model.specs.State.{DiskState}
use Rattle.exchange_trace.specs.Steps.{Step, steps_of}
use Rattle.exchange_trace.specs.declared.trace.TraceStep.{TraceStep}
use Rattle.load_base.specs.Listed.{Listed}
use Rattle.load_header.specs.declared.header.LoadHeader.{LoadHeader}
use Rattle.loader_machine.specs.Machine.{media_of, session_view}
use Rattle.replay_rules.specs.BothEnds.{Setting}
use Rattle.replay_turns.specs.Orders.{IsInOrder}
use Rattle.replay_turns.specs.Powers.{RoseBy, disk_stops}
use Rattle.upload_replay.specs.Drivers.{DriverState, HoldsUnit, IsTiedTo, StandsOn, end_step}
use Rattle.upload_replay.specs.Drives.{IsLoadersRun, IsUnitRun}
use Rattle.upload_replay.specs.Endings.{FailedIfUnknown, HoldsNone, HoldsStanding, LeavesUnit}
use Rattle.upload_replay.specs.Lives.{LivesOn, LivesThrough}
use Rattle.upload_replay.specs.Moments.{Clocks, HoldsToEnd}
use Rattle.target_fleet.specs.Units.{AllBetween, ChangesAt}
use Rattle.target_fleet.specs.declared.outcome.FleetFault.{FleetFault}
use Rattle.target_fleet.specs.declared.outcome.FleetFault.TheVariants as fleets
use Rattle.target_fleet.specs.declared.outcome.UnitEnd.{UnitEnd}

-- ---- units that haven't ended

-- No unit has ended, and none has left its trace; there are eight disks at most, and a driver for each.
pub record NoneEnded {R K : Type 0} (drivers : List (DriverState R)) (ends : List UnitEnd) (traces : List (Listed TraceStep)) (disks : List K) : Type 0 where
  pub few : length disks ≤ 8
  pub many : length disks ≡ length drivers
  pub no_ends : length ends ≡ 0
  pub no_traces : length traces ≡ 0

-- ---- a unit that ended

-- where the newest step of a unit's trace is the end, the older ones are left, in order
abbrev pub LeavesOlder : (trace left : List TraceStep) → Type 0
LeavesOlder trace left = (steps : List Step) → IsInOrder trace → steps_of trace ≡ end_step ∷ steps → (steps_of left ≡ steps) × IsInOrder left

-- A driver came to its end on its disk, and all is kept that is promised of one. Its trace is left without the end.
pub record EndsDriver {R K : Type 0} (state : K → DiskState) (may_say : R → LoadHeader → List KeptLoad → Bool → Type 0) (d : DriverState R) (end : UnitEnd) (trace : List TraceStep) (old new : K) : Type 0 where
  pub own : steps_of trace ≡ d.steps
  pub ordered : IsInOrder trace
  pub ran : IsLoadersRun (media_of d.loader.set) (end_step ∷ d.steps) (map session_view end.sessions.items)
  pub stands : HoldsStanding end.standing (state new)
  pub lives : (accepts : Accepts) → LivesOn may_say accepts d → LivesThrough (media_of d.loader.set) accepts (end_step ∷ d.steps)
  pub run : (set : Setting) → StandsOn may_say set d → IsTiedTo set d → IsUnitRun set (end_step ∷ d.steps) (map session_view end.sessions.items) (option_map standing_view end.standing)
  pub held : (set : Setting) (since : ℕ) (clocks : Clocks) → HoldsUnit set since clocks d (state old)
      → HoldsToEnd set (end_step ∷ d.steps) end.standing since ((state old).clock ∷ clocks) (state new)
  pub unknown : (began : ℕ) → RoseBy (disk_stops d.steps) began (state old).faults → FailedIfUnknown end.standing began (disk_stops d.steps) (state new)
  pub leaves : LeavesUnit (state old) (state new)

-- each unit ended so, from unit 1 on
abbrev pub AllEnd : {R K : Type 0} → (state : K → DiskState)
    → (may_say : R → LoadHeader → List KeptLoad → Bool → Type 0) → List (DriverState R) → List UnitEnd → List (Listed TraceStep) → (old new : List K) → Type 0
AllEnd {R} {K} state may_say drivers ends traces old new =
    (i : ℕ) (d : DriverState R) (end : UnitEnd) (trace : Listed TraceStep) (before after : K) → slice_get drivers i ≡ Some d → slice_get ends i ≡ Some end → slice_get traces i ≡ Some trace
    → slice_get old i ≡ Some before → slice_get new i ≡ Some after → EndsDriver state may_say d end trace.items before after

-- the first of these drivers ended, as the unit of this index
pub record EndsNext {R K : Type 0} (state : K → DiskState) (may_say : R → LoadHeader → List KeptLoad → Bool → Type 0) (index : ℕ) (drivers drivers_then : List (DriverState R)) (ends ends_then : List UnitEnd)
    (traces traces_then : List (Listed TraceStep)) (old new : List K) : Type 0 where
  pub driver : DriverState R
  pub first : drivers ≡ driver ∷ drivers_then
  pub end : UnitEnd
  pub ends_more : ends_then ≡ ends ++ end ∷ []
  pub trace : Listed TraceStep
  pub traces_more : traces_then ≡ traces ++ trace ∷ []
  pub before : K
  pub after : K
  pub disk : ChangesAt index before after old new
  pub ended : EndsDriver state may_say driver end trace.items before after

-- ---- what the ends leave

-- a power loss leaves of each disk no more than it could before
abbrev pub AllLeaveNoMore : {K : Type 0} → (state : K → DiskState) → (old new : List K) → Type 0
AllLeaveNoMore state old new = AllBetween (λ i before after. LeavesUnit (state before) (state after)) old new

-- so it is where one unit ends, whose index this is, and the other disks are as they were
pub record LeavesAt {K : Type 0} (state : K → DiskState) (index : ℕ) (old new : List K) : Type 0 where
  pub same : length new ≡ length old
  pub others : (i : ℕ) → i ≢ index → slice_get new i ≡ slice_get old i
  pub leaves : AllLeaveNoMore state old new

-- ---- refusals

-- the unit of this number, with this index, holds no configuration at its end
pub record HoldsNoneAt {K : Type 0} (state : K → DiskState) (index unit : ℕ) (fault : RecoverFault) (new : List K) : Type 0 where
  pub unit_is : unit ≡ index + 1
  pub disk : K
  pub there : slice_get new index ≡ Some disk
  pub of_disk : ¬ IsOfDisk fault
  pub none : HoldsNone fault (state disk)

-- an end is refused only where the unit holds none, or memory is out
abbrev pub FailsToEnd : {K : Type 0} → (state : K → DiskState) → (index : ℕ) → FleetFault → (new : List K) → Type 0
FailsToEnd state index (fleets.NoConfig unit fault) new = HoldsNoneAt state index unit fault new
FailsToEnd state index (fleets.Disk unit) new = ⊥
FailsToEnd state index fleets.Memory new = ⊤

-- The unit of this index is the first that is refused: those before it came to their ends.
pub record FailsInEnds {R K : Type 0} (state : K → DiskState) (may_say : R → LoadHeader → List KeptLoad → Bool → Type 0) (fault : FleetFault) (drivers : List (DriverState R)) (old new : List K) : Type 0 where
  pub index : ℕ
  pub fails : FailsToEnd state index fault new
  pub before : (i : ℕ) (d : DriverState R) (first last : K) → i < index → slice_get drivers i ≡ Some d → slice_get old i ≡ Some first → slice_get new i ≡ Some last
      → (end : UnitEnd) × (trace : List TraceStep) × EndsDriver state may_say d end trace first last
