-- One unit of a fleet steps, and the others stay (docs/EXCHANGE.md, "Fleets").
use Rattle.std.specs.Prelude.{◌≡◌, ℕ, ◌-◌, Bool, List, Some, slice_get}
use Rattle.accept_rules.specs.declared.kept.KeptLoad.{KeptLoad}
use Rattle.disk_model.specs.State.{DiskState}
use Rattle.exchange_trace.specs.Happenings.{DatagramView, HappeningView}
use Rattle.fleet_link.specs.FleetLinks.{FleetLinkState}
use Rattle.load_header.specs.declared.header.LoadHeader.{LoadHeader}
use Rattle.upload_replay.specs.Drivers.{DriverState}
use Rattle.upload_replay.specs.DriverSteps.{ActsOnDisk, TakesStep}
use Rattle.target_fleet.specs.Runs.{with_posts_at}
use Rattle.target_fleet.specs.Units.{ChangesAt}

-- The unit of this index stepped, on its disk, and the others and their disks are as they were.
pub record StepsAt {R K : Type 0} (state : K → DiskState) (may_say : R → LoadHeader → List KeptLoad → Bool → Type 0) (index : ℕ) (h : HappeningView) (posts : List DatagramView)
    (drivers drivers_then : List (DriverState R)) (disks disks_then : List K) : Type 0 where
  pub before : DriverState R
  pub after : DriverState R
  pub old : K
  pub new : K
  pub unit : ChangesAt index before after drivers drivers_then
  pub disk : ChangesAt index old new disks disks_then
  pub takes : TakesStep may_say h posts before after (state old) (state new)

-- Whatever a step at this index answers, it acted on that unit's disk alone.
pub record ActsAt {R K : Type 0} (state : K → DiskState) (may_say : R → LoadHeader → List KeptLoad → Bool → Type 0) (index : ℕ) (h : HappeningView)
    (drivers : List (DriverState R)) (disks disks_then : List K) : Type 0 where
  pub before : DriverState R
  pub old : K
  pub new : K
  pub there : slice_get drivers index ≡ Some before
  pub disk : ChangesAt index old new disks disks_then
  pub acts : ActsOnDisk may_say h before (state old) (state new)

-- The unit of this number stepped, and the link was posted what it posted.
pub record StepsAndPosts {R K : Type 0} (state : K → DiskState) (may_say : R → LoadHeader → List KeptLoad → Bool → Type 0) (unit : ℕ) (h : HappeningView)
    (drivers drivers_then : List (DriverState R)) (link link_then : FleetLinkState) (disks disks_then : List K) : Type 0 where
  pub posts : List DatagramView
  pub step : StepsAt state may_say (unit - 1) h posts drivers drivers_then disks disks_then
  pub acts : ActsAt state may_say (unit - 1) h drivers disks disks_then
  pub linked : link_then ≡ with_posts_at link unit posts
