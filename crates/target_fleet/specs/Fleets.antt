-- What a fleet comes to, and why there is no run of one (docs/EXCHANGE.md, "Fleets").
use Rattle.std.specs.Prelude.{◌≡◌, ◌⊎◌, ℕ, ◌+◌, ◌<◌, List, [], ◌∷◌, ◌++◌, length, Bool, true, is_some, map, option_map, slice_get, Option, Some}
use Rattle.accept_rules.specs.Interlocks.{FollowsAccepts}
use Rattle.accept_rules.specs.Permissions.{Accepts, AcceptsPermitted}
use Rattle.accept_rules.specs.declared.kept.KeptLoad.{KeptLoad}
use Rattle.bank_store.specs.DiskWrites.{IsRunning}
use Rattle.bank_store.specs.Fits.{LosesOnlyWork}
use Rattle.disk_layout.specs.Holds.{StandingView, standing_view}
use Rattle.disk_layout.specs.declared.standing.Standing.{Standing}
use Rattle.disk_model.specs.Image.{Image}
use Rattle.disk_model.specs.State.{DiskState}
use Rattle.fleet_link.specs.FleetLinks.{FleetLinkState}
use Rattle.fleet_trace.specs.FleetPosts.{fleet_happenings, fleet_posts}
use Rattle.fleet_trace.specs.FleetTraces.{HasNotEnded, Of_all, StepOfFleet, steps_of_unit}
use Rattle.load_header.specs.declared.header.LoadHeader.{LoadHeader}
use Rattle.loader_machine.specs.Machine.{media_of, session_view}
use Rattle.media_check.specs.Sets.{SetView}
use Rattle.replay_rules.specs.BothEnds.{Setting}
use Rattle.upload_replay.specs.Drives.{IsLoadersRun, IsSet, IsUnitRun, NeverBoots}
use Rattle.upload_replay.specs.Endings.{CountsStops, FailedIfUnknown, HoldsSome, HoldsStanding}
use Rattle.upload_replay.specs.Lives.{LivesThrough}
use Rattle.upload_replay.specs.Moments.{Clocks, HoldsThroughout, LeavesGood}
use Rattle.target_fleet.specs.Asking.{AllAsked, UnitPlace, ends_of, place_of}
use Rattle.target_fleet.specs.Boots.{FailsToBoot}
use Rattle.target_fleet.specs.Clocks.{AreFleetClocks, own_clocks}
use Rattle.target_fleet.specs.Ends.{FailsToEnd}
use Rattle.target_fleet.specs.Leaves.{AllLeave}
use Rattle.target_fleet.specs.Units.{AllDisks, AllOnlyRead}
use Rattle.target_fleet.specs.declared.outcome.FleetDrive.{FleetDrive}
use Rattle.target_fleet.specs.declared.outcome.FleetFault.{FleetFault}
use Rattle.target_fleet.specs.declared.outcome.FleetFault.TheVariants as fleets
use Rattle.target_fleet.specs.declared.outcome.UnitEnd.{UnitEnd}

-- ---- the fleet

-- A fleet may begin: nothing was posted to its link, which has a unit for each of the disks, and each of these runs.
pub record FleetCanBegin {K : Type 0} (state : K → DiskState) (link : FleetLinkState) (disks : List K) : Type 0 where
  pub nothing_posted : link.posted ≡ []
  pub many : length disks ≡ link.units
  pub running : AllDisks (λ (k : K). IsRunning (state k)) disks

-- A fleet came to its end, which is its last step and no other; there is an outcome for each unit; and the link was posted
-- exactly what the units posted, and gave exactly what happened, but for the uploads that it asked, of which it was told. Of the
-- end it keeps nothing.
pub record EndsFleet (began ended : FleetLinkState) (drive : FleetDrive) : Type 0 where
  pub before : List StepOfFleet
  pub steps : drive.trace ≡ Of_all ∷ before
  pub once : HasNotEnded before
  pub units : length drive.units.items ≡ began.units
  pub posted : ended.posted ≡ fleet_posts before
  pub given : ended.given ≡ fleet_happenings before ++ began.given

-- Which uploads were asked in a run, and what its batches came to, by where the units are as their first boots read it: where a
-- disk told its content, as its configuration says. Each upload that was asked is the one that came next then.
pub record AsksInBatches {R K : Type 0} (state : K → DiskState) (may_say : R → LoadHeader → List KeptLoad → Bool → Type 0) (rule : R) (shown : SetView) (drive : FleetDrive) (first : List K) : Type 0 where
  pub before : List StepOfFleet
  pub steps : drive.trace ≡ Of_all ∷ before
  pub places : List UnitPlace
  pub count : length places ≡ length first
  pub known : (i : ℕ) (k : K) (set : Setting) (image : Image) → slice_get first i ≡ Some k → IsSet may_say set rule shown image → (state k).reads ≡ Some image
      → slice_get places i ≡ Some (place_of set.start.identity)
  pub asked : AllAsked shown places before
  pub ends : drive.batches.items ≡ ends_of shown places before

-- ---- one unit

-- The unit's disk held at each moment what was active then, by the clocks of its own steps; in the steps of others its clock
-- stood still.
pub record HoldsInFleet (unit : ℕ) (set : Setting) (steps : List StepOfFleet) (standing : Option StandingView) (old new : DiskState) : Type 0 where
  pub clocks : Clocks
  pub held : HoldsThroughout set (steps_of_unit unit steps) standing old.clock (own_clocks unit clocks steps) new
  pub timed : AreFleetClocks unit old.clock held.end clocks steps

-- What one unit came to, by the fleet's steps that name it and the end, as a run of its own: its disk held a configuration at
-- first; the loader did what its rules say; both its ends posted what was due, in each of the target's lives; the disk failed
-- as often as it stopped; and what was recovered stands there. Where the disk told its content, all is kept that is promised
-- of a run, at every moment where a power loss took only work from it.
pub record EndsInFleet {R K : Type 0} (state : K → DiskState) (may_say : R → LoadHeader → List KeptLoad → Bool → Type 0) (rule : R) (shown : SetView) (unit : ℕ) (steps : List StepOfFleet) (end : UnitEnd) (old new : K) : Type 0 where
  pub stood : HoldsSome (state old)
  pub loader : IsLoadersRun (media_of shown) (steps_of_unit unit steps) (map session_view end.sessions.items)
  pub lives : (accepts : Accepts) → FollowsAccepts may_say rule accepts → LivesThrough (media_of shown) accepts (steps_of_unit unit steps)
  pub stops : CountsStops (steps_of_unit unit steps) end.standing (state old) (state new)
  pub standing : HoldsStanding end.standing (state new)
  pub run : (set : Setting) (image : Image) → IsSet may_say set rule shown image → (state old).reads ≡ Some image
      → NeverBoots (steps_of_unit unit steps) ⊎ LosesOnlyWork (state old)
      → IsUnitRun set (steps_of_unit unit steps) (map session_view end.sessions.items) (option_map standing_view end.standing)
  pub moments : (set : Setting) (image : Image) → IsSet may_say set rule shown image → (state old).reads ≡ Some image
      → LosesOnlyWork (state old) → HoldsInFleet unit set steps (option_map standing_view end.standing) (state old) (state new)
  pub rests : (set : Setting) (image : Image) → IsSet may_say set rule shown image → (state old).reads ≡ Some image
      → LosesOnlyWork (state old) → is_some end.standing ≡ true → LosesOnlyWork (state new)

-- each unit came to this, from unit 1 on
abbrev pub AllEndInFleet : {R K : Type 0} → (state : K → DiskState)
    → (may_say : R → LoadHeader → List KeptLoad → Bool → Type 0) → R → SetView → FleetDrive → (old new : List K) → Type 0
AllEndInFleet {R} {K} state may_say rule shown drive old new =
    (i : ℕ) (end : UnitEnd) (before after : K) → slice_get drive.units.items i ≡ Some end → slice_get old i ≡ Some before → slice_get new i ≡ Some after
    → EndsInFleet state may_say rule shown (i + 1) drive.trace end before after

-- ---- refusals

-- There is no run: a unit didn't come up at first, and those before it hold a configuration. Nothing was written, and nothing
-- happened.
pub record FleetFailsAtFirst {K : Type 0} (state : K → DiskState) (fault : FleetFault) (began link : FleetLinkState) (old new : List K) : Type 0 where
  pub fails : FailsToBoot state fault old new
  pub untouched : link ≡ began
  pub only_reads : AllOnlyRead state old new

-- a unit came to its end: what was recovered stands there, or its disk failed
pub record CameToEnd (old new : DiskState) : Type 0 where
  pub standing : Option Standing
  pub stops : ℕ
  pub holds : HoldsStanding standing new
  pub unknown : FailedIfUnknown standing old.faults stops new

-- Each unit held a configuration at first. The unit of this index is the first that is refused at its end.
pub record FailsAtEnd {K : Type 0} (state : K → DiskState) (fault : FleetFault) (old new : List K) : Type 0 where
  pub stood : AllDisks (λ (k : K). HoldsSome (state k)) old
  pub index : ℕ
  pub fails : FailsToEnd state index fault new
  pub before : (i : ℕ) (first last : K) → i < index → slice_get old i ≡ Some first → slice_get new i ≡ Some last → CameToEnd (state first) (state last)

-- once all units came up, a fleet is refused where one holds none at its end, or memory ran out
abbrev pub FailsLater : {K : Type 0} → (state : K → DiskState) → FleetFault → (old new : List K) → Type 0
FailsLater state (fleets.NoConfig unit fault) old new = FailsAtEnd state (fleets.NoConfig unit fault) old new
FailsLater state (fleets.Disk unit) old new = ⊥
FailsLater {K} state fleets.Memory old new = AllDisks (λ (k : K). HoldsSome (state k)) old

-- why there is no run of a fleet
abbrev pub IsFleetRefusal : {K : Type 0} → (state : K → DiskState) → FleetFault → (began link : FleetLinkState) → (old new : List K) → Type 0
IsFleetRefusal state fault began link old new = FleetFailsAtFirst state fault began link old new ⊎ FailsLater state fault old new

-- ---- what is left

-- However a fleet ends, each disk that told its content, of which a power loss took only work, tells it still, and holds what
-- was active at first, or loads of which each was active then or is checked, and one is checked.
abbrev pub AllLeaveGood : {R K : Type 0} → (state : K → DiskState)
    → (may_say : R → LoadHeader → List KeptLoad → Bool → Type 0) → R → SetView → (old new : List K) → Type 0
AllLeaveGood {R} {K} state may_say rule shown old new =
    (i : ℕ) (before after : K) (set : Setting) (image : Image) → slice_get old i ≡ Some before → slice_get new i ≡ Some after → IsSet may_say set rule shown image
    → (state before).reads ≡ Some image → LosesOnlyWork (state before) → AcceptsPermitted set.accepts → LeavesGood set (state before).clock (state after)

-- However a fleet ends, there are as many disks as before, and of each is left what a run leaves of its one.
pub record LeavesFleet {R K : Type 0} (state : K → DiskState) (may_say : R → LoadHeader → List KeptLoad → Bool → Type 0) (rule : R) (shown : SetView) (began link : FleetLinkState) (old new : List K) : Type 0 where
  pub same : length new ≡ length old
  pub history : AllLeave state may_say rule shown began link old new
  pub good : AllLeaveGood state may_say rule shown old new
