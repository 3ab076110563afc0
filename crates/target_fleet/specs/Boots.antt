-- The first boots of a fleet's units (docs/EXCHANGE.md, "Fleets").
use Rattle.std.specs.Prelude.{◌≡◌, ℕ, ◌+◌, ◌<◌, List, [], ◌∷◌, ◌++◌, Bool, Some, slice_get}
use Rattle.accept_rules.specs.Interlocks.{FollowsAccepts}
use Rattle.accept_rules.specs.Permissions.{Accepts}
use Rattle.accept_rules.specs.declared.kept.KeptLoad.{KeptLoad}
use Rattle.disk_model.specs.Image.{Image}
use Rattle.disk_model.specs.State.{DiskState}
use Rattle.load_header.specs.declared.header.LoadHeader.{LoadHeader}
use Rattle.media_check.specs.Sets.{SetView}
use Rattle.replay_rules.specs.BothEnds.{Setting}
use Rattle.upload_replay.specs.Drivers.{BeginsOnSetting, BeginsUnit, DriverState}
use Rattle.upload_replay.specs.Drives.{IsSet}
use Rattle.upload_replay.specs.Endings.{FailsToBegin, HoldsSome}
use Rattle.upload_replay.specs.Lives.{LivesOn}
use Rattle.upload_replay.specs.declared.outcome.DriveFault.{DriveFault}
use Rattle.upload_replay.specs.declared.outcome.DriveFault.TheVariants as faults
use Rattle.target_fleet.specs.Units.{ChangesAt}
use Rattle.target_fleet.specs.declared.outcome.FleetFault.{FleetFault}
use Rattle.target_fleet.specs.declared.outcome.FleetFault.TheVariants as fleets

-- ---- refusals

-- why a unit doesn't come up, as a refusal of the fleet
abbrev pub fleet_fault_of : DriveFault → (unit : ℕ) → FleetFault
fleet_fault_of faults.Link unit = fleets.Memory
fleet_fault_of faults.Disk unit = fleets.Disk unit
fleet_fault_of (faults.NoConfig fault) unit = fleets.NoConfig unit fault
fleet_fault_of faults.Memory unit = fleets.Memory

-- the unit of this index didn't come up on its disk, for this cause
pub record FailsBy {K : Type 0} (state : K → DiskState) (index : ℕ) (cause : DriveFault) (unit : ℕ) (old new : List K) : Type 0 where
  pub unit_is : unit ≡ index + 1
  pub before : K
  pub after : K
  pub there : slice_get old index ≡ Some before
  pub now : slice_get new index ≡ Some after
  pub fails : FailsToBegin cause (state before) (state after)

-- Memory ran out as the unit of this index came up: its disk runs on, or was itself out of memory, which it counts.
pub record RanOutAt {K : Type 0} (state : K → DiskState) (index : ℕ) (old new : List K) : Type 0 where
  pub runs : (before after : K) → slice_get old index ≡ Some before → slice_get new index ≡ Some after → FailsToBegin faults.Memory (state before) (state after)

-- A refusal at the unit of this index: it is the one that is named, and didn't come up for that cause; or memory was out.
abbrev pub FailsAt : {K : Type 0} → (state : K → DiskState) → (index : ℕ) → FleetFault → (old new : List K) → Type 0
FailsAt state index (fleets.Disk unit) old new = FailsBy state index faults.Disk unit old new
FailsAt state index (fleets.NoConfig unit fault) old new = FailsBy state index (faults.NoConfig fault) unit old new
FailsAt state index fleets.Memory old new = RanOutAt state index old new

-- The unit of this index is the first that didn't come up: those before it hold a configuration.
pub record FailsToBoot {K : Type 0} (state : K → DiskState) (fault : FleetFault) (old new : List K) : Type 0 where
  pub index : ℕ
  pub fails : FailsAt state index fault old new
  pub stood : (i : ℕ) (k : K) → i < index → slice_get old i ≡ Some k → HoldsSome (state k)

-- ---- units that came up

-- A unit came up on its disk, and nothing has happened there. Where the disk tells its content, it stands on what that holds;
-- where a power loss takes only work from it, the disk holds what the unit says.
pub record BootsUnit {R K : Type 0} (state : K → DiskState) (may_say : R → LoadHeader → List KeptLoad → Bool → Type 0) (interlock : R) (shown : SetView) (d : DriverState R) (old new : K) : Type 0 where
  pub begins : BeginsUnit interlock shown d (state old) (state new)
  pub on_setting : (set : Setting) (image : Image) → IsSet may_say set interlock shown image
      → (state old).reads ≡ Some image → BeginsOnSetting may_say set d (state old) (state new)
  pub lives : (accepts : Accepts) → FollowsAccepts may_say interlock accepts → LivesOn may_say accepts d
  pub stood : HoldsSome (state old)

-- each unit came up so
abbrev pub AllBoot : {R K : Type 0} → (state : K → DiskState)
    → (may_say : R → LoadHeader → List KeptLoad → Bool → Type 0) → R → SetView → List (DriverState R)
    → (old new : List K) → Type 0
AllBoot {R} {K} state may_say interlock shown drivers old new =
    (i : ℕ) (d : DriverState R) (before after : K) → slice_get drivers i ≡ Some d → slice_get old i ≡ Some before → slice_get new i ≡ Some after
    → BootsUnit state may_say interlock shown d before after

-- one unit more came up, the one of this index
pub record BootsNext {R K : Type 0} (state : K → DiskState) (may_say : R → LoadHeader → List KeptLoad → Bool → Type 0) (interlock : R) (shown : SetView) (index : ℕ) (drivers drivers_then : List (DriverState R)) (old new : List K) : Type 0 where
  pub driver : DriverState R
  pub before : K
  pub after : K
  pub more : drivers_then ≡ drivers ++ driver ∷ []
  pub disk : ChangesAt index before after old new
  pub boots : BootsUnit state may_say interlock shown driver before after
