-- What a fleet leaves of each unit's disk, however it ends (docs/EXCHANGE.md, "Fleets"; docs/POWER.md).
use Rattle.std.specs.Prelude.{◌≡◌, ℕ, ◌+◌, List, Bool, Some, Err, slice_get}
use Rattle.accept_rules.specs.declared.kept.KeptLoad.{KeptLoad}
use Rattle.bank_store.specs.Fits.{LosesOnlyWork}
use Rattle.disk_model.specs.Image.{Image}
use Rattle.disk_model.specs.State.{DiskState}
use Rattle.fleet_link.specs.FleetLinks.{FleetLinkState}
use Rattle.load_header.specs.declared.header.LoadHeader.{LoadHeader}
use Rattle.media_check.specs.Sets.{SetView}
use Rattle.replay_rules.specs.BothEnds.{Setting}
use Rattle.upload_replay.specs.Armings.{ArmsAsGiven}
use Rattle.upload_replay.specs.Drives.{IsSet}
use Rattle.upload_replay.specs.Leaves.{LeavesHistory}
use Rattle.upload_replay.specs.declared.outcome.DriveFault.TheVariants.{Memory}
use Rattle.target_fleet.specs.Runs.{own_link}

-- Of this unit's disk a fleet leaves what a run leaves of its one: a loss of power was armed once for each that the link gave
-- the unit, with its numbers; and each image that a power loss might have left since, or may leave now, holds what may have
-- been active in turn. The link of a fleet never fails, so that it is told as a run that memory ends.
pub record LeavesOwn {R K : Type 0} (state : K → DiskState) (may_say : R → LoadHeader → List KeptLoad → Bool → Type 0) (rule : R) (shown : SetView) (unit : ℕ) (began link : FleetLinkState) (old new : K) : Type 0 where
  pub arms : ArmsAsGiven (own_link unit began).given (own_link unit link).given (state old) (state new)
  pub history : (set : Setting) (image : Image) → IsSet may_say set rule shown image → (state old).reads ≡ Some image
      → LosesOnlyWork (state old) → LeavesHistory {T = Unit} set (own_link unit began) (own_link unit link) (state old).clock (state new) (Err Memory)

-- so it is of each unit's disk
abbrev pub AllLeave : {R K : Type 0} → (state : K → DiskState)
    → (may_say : R → LoadHeader → List KeptLoad → Bool → Type 0) → R → SetView → (began link : FleetLinkState) → (first disks : List K) → Type 0
AllLeave {R} {K} state may_say rule shown began link first disks =
    (i : ℕ) (old new : K) → slice_get first i ≡ Some old → slice_get disks i ≡ Some new
    → LeavesOwn state may_say rule shown (i + 1) began link old new
