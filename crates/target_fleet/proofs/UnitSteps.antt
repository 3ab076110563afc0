-- A unit steps, and the others stay.
use Rattle.std.proofs.Common.{◌≡◌, ℕ, List, Bool, Some, refl}
use Rattle.std.specs.Prelude.{slice_get, slice_set}
use Rattle.accept_rules.specs.declared.kept.KeptLoad.{KeptLoad}
use Rattle.disk_model.specs.State.{DiskState}
use Rattle.exchange_trace.specs.Happenings.{DatagramView, HappeningView}
use Rattle.load_header.specs.declared.header.LoadHeader.{LoadHeader}
use Rattle.upload_replay.specs.Drivers.{DriverState}
use Rattle.upload_replay.specs.DriverSteps.{ActsOnDisk, TakesStep}
use Rattle.target_fleet.specs.Steps.{ActsAt, StepsAt}

module _ {R K : Type 0} (state : K → DiskState) (may_say : R → LoadHeader → List KeptLoad → Bool → Type 0) (index : ℕ) (h : HappeningView) (before : DriverState R) (old new : K) (drivers : List (DriverState R)) (disks : List K)
    (driver_there : slice_get drivers index ≡ Some before) (disk_there : slice_get disks index ≡ Some old) where
  pub acts_at : ActsOnDisk may_say h before (state old) (state new) → ActsAt state may_say index h drivers disks (slice_set disks index new)
  acts_at acts = record { before = before; old = old; new = new; there = driver_there; disk = record { there = disk_there; kept = refl }; acts = acts }

  pub steps_at : (posts : List DatagramView) (after : DriverState R) → TakesStep may_say h posts before after (state old) (state new)
      → StepsAt state may_say index h posts drivers (slice_set drivers index after) disks (slice_set disks index new)
  steps_at posts after takes = record {
    before = before;
    after = after;
    old = old;
    new = new;
    unit = record { there = driver_there; kept = refl };
    disk = record { there = disk_there; kept = refl };
    takes = takes;
  }
