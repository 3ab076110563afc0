-- A turn in which a batch begins, or an upload is asked (docs/EXCHANGE.md, "Batches").
use Rattle.std.specs.Prelude.{◌≡◌, ◌⊎◌, ℕ, ◌+◌, ◌-◌, List, [], ◌∷◌, ◌++◌, Bool, length, Option, Some, None, IfSome, option_map, true}
use Rattle.accept_rules.specs.declared.kept.KeptLoad.{KeptLoad}
use Rattle.batch_lists.specs.declared.batch.BatchTarget.{BatchTarget}
use Rattle.disk_model.specs.State.{DiskState}
use Rattle.exchange_trace.specs.Happenings.{DatagramView, HappeningView, Upload_started}
use Rattle.fleet_link.specs.FleetLinks.{FleetLinkState, with_start_at}
use Rattle.fleet_trace.specs.FleetTraces.{All_ended, At_unit, Batch_begun, FleetHappeningView, Next_asked}
use Rattle.fleet_trace.specs.Merging.{Batch_came, Unit_stepped}
use Rattle.load_header.specs.declared.header.LoadHeader.{LoadHeader}
use Rattle.loader_machine.specs.Machine.{all_sessions}
use Rattle.media_check.specs.Sets.{SetView}
use Rattle.upload_replay.specs.Drivers.{DriverState}
use Rattle.target_fleet.specs.Asking.{begun_batch, with_end_of}
use Rattle.target_fleet.specs.AskingCalls.{HaveFewTargets, IsAskedIn, IsAskedWithin, places_in, running_view, sessions_in}
use Rattle.target_fleet.specs.PartPosts.{IsPostedInPartAt}
use Rattle.target_fleet.specs.Runs.{FleetState, with_posts_at}
use Rattle.target_fleet.specs.Steps.{ActsAt, StepsAt}
use Rattle.target_fleet.specs.declared.asking.Running.{Running}

-- what starts as the upload to this target of a batch
abbrev pub upload_of : BatchTarget → HappeningView
upload_of t = Upload_started t.hw t.pos t.parts.items

-- the batch that begins with what happens in a fleet, if one does
abbrev pub batch_begun : FleetHappeningView → Option (List ℕ)
batch_begun (At_unit unit h) = None
batch_begun (Batch_begun part) = Some part
batch_begun Next_asked = None
batch_begun All_ended = None

-- The session asked last is one of a unit, and no more uploads were asked than the running batch has targets, of which none has
-- more than 64.
pub record AreBatchesReady {R : Type 0} (shown : SetView) (fleet : FleetState R) : Type 0 where
  pub last : IfSome fleet.running (λ running. IsAskedIn (length fleet.drivers) running.last)
  pub within : IfSome fleet.running (λ running. IsAskedWithin shown (running_view running))
  pub few : HaveFewTargets shown

-- This batch became the running one, and the one before it was ended with what it had come to.
pub record BeginsBatch {R : Type 0} (shown : SetView) (part : List ℕ) (before after : FleetState R) : Type 0 where
  pub drivers : after.drivers ≡ before.drivers
  pub order : after.order ≡ before.order ++ Batch_came part ∷ []
  pub running : option_map running_view after.running ≡ Some (begun_batch part)
  pub ended : after.ended ≡ with_end_of shown (places_in before.drivers) (sessions_in before.drivers) (option_map running_view before.running) before.ended

-- the running batch, of which one upload more was asked, at the unit of this index that had so many sessions
abbrev pub asked_more : (index sessions : ℕ) → Running → Running
asked_more index sessions running =
    record { part = running.part; asked = running.asked + 1; last = Some (record { index = index; session = sessions }) }

-- The unit of this number stepped, and the link was posted what it posted. The batches are as they were.
pub record StepsFleet {R K : Type 0} (state : K → DiskState) (may_say : R → LoadHeader → List KeptLoad → Bool → Type 0) (asked : Bool) (unit : ℕ) (h : HappeningView)
    (before after : FleetState R) (link link_then : FleetLinkState) (disks disks_then : List K) : Type 0 where
  pub posts : List DatagramView
  pub step : StepsAt state may_say (unit - 1) h posts before.drivers after.drivers disks disks_then
  pub acts : ActsAt state may_say (unit - 1) h before.drivers disks disks_then
  pub linked : link_then ≡ with_posts_at link unit posts
  pub order : after.order ≡ before.order ++ Unit_stepped asked unit ∷ []
  pub running : after.running ≡ before.running
  pub ended : after.ended ≡ before.ended

-- The unit stepped, and of what it posted the first datagrams were posted to the link, or all.
pub record PostsInPart {R K : Type 0} (state : K → DiskState) (may_say : R → LoadHeader → List KeptLoad → Bool → Type 0) (unit : ℕ) (h : HappeningView)
    (drivers : List (DriverState R)) (link link_then : FleetLinkState) (disks disks_then : List K) : Type 0 where
  pub posts : List DatagramView
  pub drivers_then : List (DriverState R)
  pub step : StepsAt state may_say (unit - 1) h posts drivers drivers_then disks disks_then
  pub acts : ActsAt state may_say (unit - 1) h drivers disks disks_then
  pub part : IsPostedInPartAt unit posts link link_then

-- Where memory ran out, the unit was to step, and acted on its disk alone; or it stepped, and not all that came of it was posted or noted.
abbrev pub LeavesStep : {R K : Type 0} → (state : K → DiskState) → (may_say : R → LoadHeader → List KeptLoad → Bool → Type 0) → (unit : ℕ) → HappeningView
    → (drivers : List (DriverState R)) → (link link_then : FleetLinkState) → (disks disks_then : List K) → Type 0
LeavesStep state may_say unit h drivers link link_then disks disks_then =
    ((link_then ≡ link) × ActsAt state may_say (unit - 1) h drivers disks disks_then)
    ⊎ PostsInPart state may_say unit h drivers link link_then disks disks_then

-- The upload started at the unit of this number, and the link was told of it and posted what the unit posted. One more was asked.
pub record AsksUnit {R K : Type 0} (state : K → DiskState) (may_say : R → LoadHeader → List KeptLoad → Bool → Type 0) (unit : ℕ) (h : HappeningView)
    (before after : FleetState R) (link link_then : FleetLinkState) (disks disks_then : List K) : Type 0 where
  pub posts : List DatagramView
  pub step : StepsAt state may_say (unit - 1) h posts before.drivers after.drivers disks disks_then
  pub acts : ActsAt state may_say (unit - 1) h before.drivers disks disks_then
  pub linked : link_then ≡ with_posts_at (with_start_at link unit h) unit posts
  pub order : after.order ≡ before.order ++ Unit_stepped true unit ∷ []
  pub running : after.running ≡ option_map (asked_more (unit - 1) (length (all_sessions step.before.loader.view))) before.running
  pub ended : after.ended ≡ before.ended

-- where memory ran out before it was told of it, nothing was done
abbrev pub LeavesAsked : {R K : Type 0} → (state : K → DiskState) → (may_say : R → LoadHeader → List KeptLoad → Bool → Type 0) → (unit : ℕ) → HappeningView
    → (before : FleetState R) → (link link_then : FleetLinkState) → (disks disks_then : List K) → Type 0
LeavesAsked state may_say unit h before link link_then disks disks_then =
    ((link_then ≡ link) × (disks_then ≡ disks)) ⊎ LeavesStep state may_say unit h before.drivers (with_start_at link unit h) link_then disks disks_then
