-- The running batch and its sessions, as the code has them (docs/EXCHANGE.md, "Batches").
use Rattle.std.specs.Prelude.{◌≡◌, ℕ, ◌+◌, ◌-◌, ◌<◌, ◌≤◌, List, [], length, map, Option, Some, None, option_map, slice_get, IfSome}
use Rattle.batch_lists.specs.Batch.{BatchView}
use Rattle.batch_lists.specs.declared.batch.BatchTarget.{BatchTarget}
use Rattle.loader_machine.specs.Machine.{all_sessions}
use Rattle.media_check.specs.Sets.{SetView, batch_of}
use Rattle.session_rules.specs.Loader.{EndedSession}
use Rattle.upload_replay.specs.Drivers.{DriverState}
use Rattle.target_fleet.specs.Asking as spec
use Rattle.target_fleet.specs.Asking.{AskedSession, RunningBatch, UnitPlace, UnitUpload, place_of}
use Rattle.target_fleet.specs.declared.asking.Asked.{Asked}
use Rattle.target_fleet.specs.declared.asking.LastAsked.{LastAsked}
use Rattle.target_fleet.specs.declared.asking.LastAsked.TheVariants as lasts
use Rattle.target_fleet.specs.declared.asking.Running.{Running}

-- ---- what the types mean

abbrev pub asked_view : Asked → AskedSession
asked_view asked = record { unit = asked.index + 1; number = asked.session }

abbrev pub running_view : Running → RunningBatch
running_view running = record { part = running.part; asked = running.asked; last = option_map asked_view running.last }

abbrev pub last_view : LastAsked → spec.LastAsked
last_view lasts.NoneAsked = spec.None_asked
last_view lasts.Completed = spec.Last_completed
last_view lasts.Open = spec.Last_open
last_view lasts.Otherwise = spec.Last_otherwise

-- the upload of this target's parts to the unit of this index
abbrev pub upload_at : (index : ℕ) → BatchTarget → UnitUpload
upload_at index t = record { unit = index + 1; hw = t.hw; pos = t.pos; parts = t.parts.items }

-- ---- units

-- where each unit is, from unit 1 on
abbrev pub places_in : {R : Type 0} → List (DriverState R) → List UnitPlace
places_in {R} drivers = map (λ (d : DriverState R). place_of d.identity) drivers

abbrev pub sessions_with : {R : Type 0} → Option (DriverState R) → List EndedSession
sessions_with None = []
sessions_with (Some d) = all_sessions d.loader.view

-- the sessions of a unit so far; no unit has number 0
abbrev pub sessions_in : {R : Type 0} → List (DriverState R) → (unit : ℕ) → List EndedSession
sessions_in drivers unit = sessions_with (slice_get drivers (unit - 1))

-- ---- what holds of the running batch

-- the session asked last is one of these many units
abbrev pub IsAskedIn : (units : ℕ) → Option Asked → Type 0
IsAskedIn units last = IfSome last (λ asked. asked.index < units)

-- each batch of a set has 64 targets at most
abbrev pub HaveFewTargets : SetView → Type 0
HaveFewTargets shown = (part : List ℕ) (batch : BatchView) → batch_of shown part ≡ Some batch → length batch.targets ≤ 64

-- no more uploads were asked than it has targets
abbrev pub IsAskedWithin : SetView → RunningBatch → Type 0
IsAskedWithin shown running = (batch : BatchView) → batch_of shown running.part ≡ Some batch → running.asked ≤ length batch.targets
