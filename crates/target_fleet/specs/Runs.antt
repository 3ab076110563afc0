-- A fleet as it runs on its link (docs/EXCHANGE.md, "Fleets").
use Rattle.std.specs.Prelude.{◌≡◌, ℕ, ◌+◌, ◌<◌, nat_le, ◌&&◌, List, [], ◌∷◌, ◌++◌, length, map, reverse, slice_get, Bool, true, false, Option, Some, None, option_map, if◌then◌else◌}
use Rattle.accept_rules.specs.Interlocks.{FollowsAccepts}
use Rattle.accept_rules.specs.Permissions.{Accepts}
use Rattle.accept_rules.specs.declared.kept.KeptLoad.{KeptLoad}
use Rattle.bank_store.specs.Fits.{LosesOnlyWork}
use Rattle.disk_model.specs.Image.{Image}
use Rattle.disk_model.specs.State.{DiskState}
use Rattle.exchange_trace.specs.Happenings.{DatagramView}
use Rattle.exchange_trace.specs.Posts.{happenings_of, posted_in}
use Rattle.fleet_link.specs.FleetFollowed.{HasFollowedFleet}
use Rattle.fleet_link.specs.FleetLinks.{FleetLinkState}
use Rattle.fleet_trace.specs.FleetFollowing.{FleetAsking, FleetWaiting, FollowsFleet}
use Rattle.fleet_trace.specs.FleetLines.{FleetLine}
use Rattle.fleet_trace.specs.FleetPosts.{fleet_happenings, fleet_posts, happenings_of_unit, posts_of_unit, unit_post}
use Rattle.fleet_trace.specs.FleetTraces.{HasNotEnded, Of_all, StepOfFleet, steps_of_unit}
use Rattle.fleet_trace.specs.Merging.{Stepped, stepping_order}
use Rattle.link_net.specs.Links.{LinkState}
use Rattle.load_header.specs.declared.header.LoadHeader.{LoadHeader}
use Rattle.media_check.specs.Sets.{SetView}
use Rattle.replay_rules.specs.BothEnds.{Setting, waiting}
use Rattle.replay_turns.specs.Powers.{RoseBy, disk_stops}
use Rattle.replay_turns.specs.Turns.{RunsWhileUp}
use Rattle.upload_replay.specs.Armings.{ArmsAsGiven}
use Rattle.upload_replay.specs.Drivers.{DriverState, GoesOn, HoldsUnit, IsTiedTo, StandsOn}
use Rattle.upload_replay.specs.Drives.{IsSet, NeverBoots}
use Rattle.upload_replay.specs.Endings.{HoldsSome}
use Rattle.upload_replay.specs.Lives.{LivesOn}
use Rattle.upload_replay.specs.Moments.{Clocks}
use Rattle.std.specs.List.{range_with_len}
use Rattle.target_fleet.specs.Asking.{AllAsked, UnitPlace, ended_before, may_ask_after, place_of, running_after}
use Rattle.target_fleet.specs.AskingCalls.{places_in, running_view}
use Rattle.target_fleet.specs.declared.asking.Running.{Running}
use Rattle.target_fleet.specs.declared.outcome.BatchEnd.{BatchEnd}
use Rattle.target_fleet.specs.Clocks.{AreFleetClocks, own_clocks}
use Rattle.target_fleet.specs.Merges.{AreUnits}

-- the drivers of a fleet's units, from unit 1 on; what each step was of, in their order; and the running batch, and what those
-- before it came to
pub record FleetState (R : Type 0) : Type 0 where
  pub drivers : List (DriverState R)
  pub order : List Stepped
  pub running : Option Running
  pub ended : List BatchEnd

-- ---- the link

-- what of a fleet's link is one unit's, as a link of its own
abbrev pub own_link : (unit : ℕ) → FleetLinkState → LinkState
own_link unit link = record { posted = posts_of_unit unit link.posted; given = happenings_of_unit unit link.given; plan = None }

-- the link, with these datagrams of one unit more
abbrev pub with_posts_at : FleetLinkState → (unit : ℕ) → List DatagramView → FleetLinkState
with_posts_at link unit posts = record { units = link.units; posted = link.posted ++ map (unit_post unit) posts; given = link.given; rest = link.rest; lines = link.lines }

-- which sides of each unit have a live session after steps of its own, where each unit stands on its setting; no other unit has
-- a side that waits
abbrev pub fleet_waiting : (units : ℕ) → (sets : ℕ → Setting) → FleetWaiting
fleet_waiting units sets unit side own = if nat_le 1 unit && nat_le unit units then waiting (sets unit) side own else false

-- where each of so many units is that stands on its setting
abbrev pub places_of : (units : ℕ) → (sets : ℕ → Setting) → List UnitPlace
places_of units sets = map (λ unit. place_of (sets unit).start.identity) (range_with_len 1 units)

-- whether an upload may be asked after steps, where each unit stands on its setting
abbrev pub fleet_asking : SetView → (units : ℕ) → (sets : ℕ → Setting) → FleetAsking
fleet_asking shown units sets steps = may_ask_after shown (places_of units sets) steps

-- ---- premises

-- A unit stands on this setting, and its disk tells its content, of which a power loss takes only work.
pub record StandsOnDisk {R : Type 0} (may_say : R → LoadHeader → List KeptLoad → Bool → Type 0) (rule : R) (shown : SetView) (set : Setting) (disk : DiskState) : Type 0 where
  pub image : Image
  pub told : disk.reads ≡ Some image
  pub set_is : IsSet may_say set rule shown image
  pub loses : LosesOnlyWork disk

-- each unit stands on the setting of its number
abbrev pub AllStandOn : {R K : Type 0} → (state : K → DiskState)
    → (may_say : R → LoadHeader → List KeptLoad → Bool → Type 0) → R → SetView → (sets : ℕ → Setting) → List K → Type 0
AllStandOn {R} {K} state may_say rule shown sets disks =
    (i : ℕ) (k : K) → slice_get disks i ≡ Some k → StandsOnDisk may_say rule shown (sets (i + 1)) (state k)

-- ---- one unit

-- The disk holds what the unit's trace says, and held at each moment what was active then, by the clocks of its own steps. In
-- the steps of others it stood still.
pub record HoldsOwn {R : Type 0} (set : Setting) (unit since : ℕ) (steps : List StepOfFleet) (d : DriverState R) (disk : DiskState) : Type 0 where
  pub clocks : Clocks
  pub timed : AreFleetClocks unit since disk.clock clocks steps
  pub held : HoldsUnit set since (own_clocks unit clocks steps) d disk

-- A unit of this number goes on after these steps of the fleet, which stands on this rule and this media set. Its own steps are
-- those of the fleet that name it, and all holds of it that holds of a driver alone, on a disk that was so at first.
pub record RunsInFleet {R K : Type 0} (state : K → DiskState) (may_say : R → LoadHeader → List KeptLoad → Bool → Type 0) (rule : R) (shown : SetView) (unit : ℕ) (steps : List StepOfFleet) (d : DriverState R) (old new : K) : Type 0 where
  pub goes_on : GoesOn d
  pub running : RunsWhileUp d.target (state new)
  pub own : d.steps ≡ steps_of_unit unit steps
  pub media : d.loader.set ≡ shown
  pub stood : HoldsSome (state old)
  pub stops : RoseBy (disk_stops d.steps) (state old).faults (state new).faults
  pub arms : ArmsAsGiven [] (happenings_of d.steps) (state old) (state new)
  pub lives : (accepts : Accepts) → FollowsAccepts may_say rule accepts → LivesOn may_say accepts d
  pub stands : (set : Setting) (image : Image) → IsSet may_say set rule shown image → (state old).reads ≡ Some image → StandsOn may_say set d
  pub tied : (set : Setting) (image : Image) → IsSet may_say set rule shown image → (state old).reads ≡ Some image
      → NeverBoots d.steps → IsTiedTo set d
  pub held : (set : Setting) (image : Image) → IsSet may_say set rule shown image → (state old).reads ≡ Some image
      → LosesOnlyWork (state old) → HoldsOwn set unit (state old).clock steps d (state new)
  pub identity : (set : Setting) (image : Image) → IsSet may_say set rule shown image → (state old).reads ≡ Some image
      → d.identity ≡ set.start.identity

-- ---- the fleet

-- The steps so far follow the script; and once the fleet has ended, so do they with its end.
abbrev pub FollowsSoFar : (ended : Bool) → (units : ℕ) → FleetWaiting → FleetAsking → List FleetLine → List StepOfFleet → FleetLinkState → Type 0
FollowsSoFar false units waits asks script steps link = HasFollowedFleet units waits asks script steps link
FollowsSoFar true units waits asks script steps link = FollowsFleet units waits asks script (Of_all ∷ steps)

-- A fleet goes on, or came to its end, on a link and on disks that began so: its units stepped in this order, the link was posted
-- exactly what they posted and gave exactly what happened, but for the uploads that it asked; each of these was the one that
-- came next; and where it follows a script, so do the steps.
pub record FleetGoesOn {R K : Type 0} (state : K → DiskState) (may_say : R → LoadHeader → List KeptLoad → Bool → Type 0) (rule : R) (shown : SetView) (ended : Bool) (began link : FleetLinkState) (fleet : FleetState R) (first disks : List K) : Type 0 where
  pub steps : List StepOfFleet
  pub not_ended : HasNotEnded steps
  pub order : fleet.order ≡ reverse (stepping_order steps)
  pub count : link.units ≡ began.units
  pub many : length first ≡ length disks
  pub posted : link.posted ≡ fleet_posts steps
  pub given : link.given ≡ fleet_happenings steps ++ began.given
  pub units : (i : ℕ) (d : DriverState R) (old new : K) → slice_get fleet.drivers i ≡ Some d → slice_get first i ≡ Some old → slice_get disks i ≡ Some new
      → RunsInFleet state may_say rule shown (i + 1) steps d old new
  pub follows : (sets : ℕ → Setting) (script : List FleetLine) → AllStandOn state may_say rule shown sets first
      → HasFollowedFleet began.units (fleet_waiting began.units sets) (fleet_asking shown began.units sets) script [] began
      → FollowsSoFar ended began.units (fleet_waiting began.units sets) (fleet_asking shown began.units sets) script steps link
  pub running : option_map running_view fleet.running ≡ running_after shown steps
  pub ended_are : fleet.ended ≡ ended_before shown (places_in fleet.drivers) steps
  pub asked : AllAsked shown (places_in fleet.drivers) steps

-- A turn may come: each unit can be used, there are as many as the link has, and the link was posted exactly what they posted.
pub record IsFleetReady {R K : Type 0} (state : K → DiskState) (link : FleetLinkState) (fleet : FleetState R) (disks : List K) : Type 0 where
  pub drivers : length fleet.drivers ≡ link.units
  pub disks_are : length disks ≡ link.units
  pub goes_on : (i : ℕ) (d : DriverState R) → slice_get fleet.drivers i ≡ Some d → GoesOn d
  pub running : (i : ℕ) (d : DriverState R) (k : K) → slice_get fleet.drivers i ≡ Some d → slice_get disks i ≡ Some k → RunsWhileUp d.target (state k)
  pub posted : (i : ℕ) (d : DriverState R) → slice_get fleet.drivers i ≡ Some d → posts_of_unit (i + 1) link.posted ≡ posted_in d.steps
  pub order : AreUnits link.units fleet.order

-- a fleet has as many units and disks as before
pub record AreAsMany {K : Type 0} (link link_then : FleetLinkState) (old new : List K) : Type 0 where
  pub units : link_then.units ≡ link.units
  pub disks : length new ≡ length old

-- Where the link began a script of so many units, a whole trace follows it, each unit on the setting of its number.
abbrev pub FollowsOnEach : (began : FleetLinkState) → SetView → (sets : ℕ → Setting) → List StepOfFleet → Type 0
FollowsOnEach began shown sets steps =
    (script : List FleetLine) → HasFollowedFleet began.units (fleet_waiting began.units sets) (fleet_asking shown began.units sets) script [] began
    → FollowsFleet began.units (fleet_waiting began.units sets) (fleet_asking shown began.units sets) script steps

-- so many datagrams were posted at each unit before this index
abbrev pub CountsPostsAt : (index : ℕ) → FleetLinkState → (counts : List ℕ) → Type 0
CountsPostsAt index link counts = (i : ℕ) → i < index → slice_get counts i ≡ Some (length (posts_of_unit (i + 1) link.posted))
