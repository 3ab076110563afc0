-- What `fleet` prints, its status, and the cause of each (docs/PROMISES.md). Units are counted from 1, and unit N is on disk N.
use Rattle.std.specs.Prelude.{◌≡◌, ℕ, ◌+◌, ◌<◌, ◌⊎◌, List, ◌∷◌, All, IsSome, length, map, slice_get, Option, Some, None, is_some, Ok, Err, true}
use Rattle.std.specs.List.{flat_map}
use Rattle.std.specs.Option.{ForSome}
use Rattle.load_base.specs.Counts.{Rose}
use Rattle.load_base.specs.Host.{Files}
use Rattle.disk_model.specs.Image.{Image}
use Rattle.disk_model.specs.State.{DiskState}
use Rattle.bank_store.specs.Fits.{LosesOnlyWork}
use Rattle.disk_layout.specs.DiskReads.{IsOfDisk}
use Rattle.disk_layout.specs.Holds.{HoldsConfig, StandingView}
use Rattle.disk_layout.specs.declared.fault.RecoverFault.{RecoverFault}
use Rattle.media_check.specs.Sets.{SetView}
use Rattle.exchange_trace.specs.FaultTexts.{script_fault_text}
use Rattle.exchange_trace.specs.Steps.{Step}
use Rattle.exchange_trace.specs.declared.fault.ScriptFault.{ScriptFault}
use Rattle.accept_rules.specs.Permissions.{permits}
use Rattle.loader_machine.specs.Machine.{media_of, session_view}
use Rattle.session_rules.specs.Loader.{EndedSession}
use Rattle.session_completion.specs.FinishedRuns.{IsComplete}
use Rattle.run_promises.specs.Reports.{AllReportsAreTrue}
use Rattle.replay_rules.specs.BothEnds.{Setting}
use Rattle.replay_rules.specs.FaultFree.{IsFaultFree, NothingInjected}
use Rattle.replay_rules.specs.Runs.{IsWithinMargin}
use Rattle.replay_turns.specs.Powers.{RoseBy, disk_stops}
use Rattle.run_promises.specs.Promises.{ChangesByGoodLoads, TellsTrue}
use Rattle.fleet_trace.specs.FleetFinishes.{ReachesFleetFinish}
use Rattle.fleet_trace.specs.FleetFollowing.{FleetAsking, FollowsFleet}
use Rattle.fleet_trace.specs.FleetLines.{FleetLine}
use Rattle.fleet_trace.specs.FleetScripts.{fleet_script_said}
use Rattle.fleet_trace.specs.FleetTraces.{HasNotEnded, Of_all, StepOfFleet, steps_of_unit}
use Rattle.upload_replay.specs.Drives.{IsLoadersRun, IsUnitRun, NeverBoots}
use Rattle.upload_replay.specs.Endings.{HeldNone, HoldsNone, HoldsSome}
use Rattle.upload_replay.specs.Lives.{LivesThrough}
use Rattle.target_fleet.specs.FleetTexts.{UnitSeen, fleet_report, unit_seen}
use Rattle.target_fleet.specs.Fleets.{CameToEnd, HoldsInFleet}
use Rattle.target_fleet.specs.Asking.{AllAsked, UnitPlace, ends_of, place_of}
use Rattle.target_fleet.specs.Runs.{fleet_asking, fleet_waiting}
use Rattle.target_fleet.specs.Units.{AllDisks, AllOnlyRead}
use Rattle.target_fleet.specs.declared.outcome.BatchEnd.{BatchEnd}
use Rattle.target_fleet.specs.declared.outcome.BatchOutcome.TheVariants.{Completed}
use Rattle.target_fleet.specs.declared.outcome.FleetDrive.{FleetDrive}
use Rattle.target_fleet.specs.declared.outcome.UnitEnd.{UnitEnd}
use Rattle.loader_cli.specs.Replays.{CountsPower, HasInputs, IsCompleted, RefusesInputs, setting_of}
use Rattle.loader_cli.specs.Texts.{disk_fault, no_configuration, refused_input}

-- ---- a run

-- a run of a fleet that came to its end, as contracts see it
pub record FleetSeen : Type 0 where
  pub steps : List StepOfFleet
  pub units : List UnitSeen
  pub batches : List BatchEnd

abbrev pub fleet_seen : FleetDrive → FleetSeen
fleet_seen drive = record { steps = drive.trace; units = map unit_seen drive.units.items; batches = drive.batches.items }

-- ---- what it stands on

-- The disk tells its content, holds this configuration, and a power loss takes only work from it.
pub record HoldsAtRest (start : StandingView) (disk : DiskState) : Type 0 where
  pub image : Image
  pub reads : disk.reads ≡ Some image
  pub holds : HoldsConfig image start
  pub rests : LosesOnlyWork disk

-- each disk holds that of its unit so
abbrev pub AllHoldAtRest : {K : Type 0} → (state : K → DiskState) → (starts : ℕ → StandingView) → List K → Type 0
AllHoldAtRest {K} state starts disks = (i : ℕ) (k : K) → slice_get disks i ≡ Some k → HoldsAtRest (starts (i + 1)) (state k)

-- what each unit stands on: this media set, and what its disk holds at first
abbrev pub settings_of : SetView → (starts : ℕ → StandingView) → ℕ → Setting
settings_of set starts unit = setting_of set (starts unit)

-- ---- one unit

-- The steps that name a unit, and the end, are a run of its own on this media set. What is promised of it is said again without
-- the premises that this target and this disk meet: what becomes active is good; and where nothing was injected at it, what is
-- told is true.
pub record IsOwnRun (set : SetView) (start : StandingView) (steps : List Step) (seen : UnitSeen) : Type 0 where
  pub is : IsUnitRun (setting_of set start) steps seen.sessions seen.standing
  pub good : ChangesByGoodLoads (setting_of set start) steps
  pub reports : AllReportsAreTrue (setting_of set start) steps
  pub tells : NothingInjected steps → TellsTrue (setting_of set start) steps seen.sessions seen.standing

-- What is promised of a unit, whatever its disk tells: the disk held a configuration at first, and failed and was armed as the
-- unit's steps say; the loader did what its rules say, and the target in each of its lives; and what is known to stand at the
-- end stands there, where nothing is known the disk failed once more.
pub record IsAnyUnitRun (set : SetView) (steps : List Step) (seen : UnitSeen) (old new : DiskState) : Type 0 where
  pub stood : HoldsSome old
  pub counts : CountsPower steps old new
  pub loader : IsLoadersRun (media_of set) steps seen.sessions
  pub lives : LivesThrough (media_of set) permits steps
  pub stands : (last : StandingView) → seen.standing ≡ Some last → ForSome new.reads (λ image. HoldsConfig image last)
  pub unknown : seen.standing ≡ None → RoseBy (disk_stops steps + 1) old.faults new.faults × (new.stopped ≡ true)

-- Where its disk tells its content, it is a run of its own if a power loss could take only work of an installation at first, or
-- no boot came at it. In the first case its disk also holds it moment by moment, by the clocks of its own steps, stands still in
-- those of others, and at the end a power loss takes only work from it again, if it is known what stands.
pub record RunsInOwnSteps (set : SetView) (unit : ℕ) (steps : List StepOfFleet) (seen : UnitSeen) (old new : DiskState) : Type 0 where
  pub any : IsAnyUnitRun set (steps_of_unit unit steps) seen old new
  pub run : (start : StandingView) (image : Image) → old.reads ≡ Some image → HoldsConfig image start
      → NeverBoots (steps_of_unit unit steps) ⊎ LosesOnlyWork old → IsOwnRun set start (steps_of_unit unit steps) seen
  pub moments : (start : StandingView) → HoldsAtRest start old → HoldsInFleet unit (setting_of set start) steps seen.standing old new
  pub rests : (start : StandingView) → HoldsAtRest start old → is_some seen.standing ≡ true → LosesOnlyWork new

-- ---- batches

-- Each upload that was asked is the one that came next then, and each batch came to what its uploads did, by where the units are
-- as their first boots read it: where a disk told its content, as its configuration says.
pub record AsksBatches {K : Type 0} (state : K → DiskState) (set : SetView) (old : List K) (run : FleetSeen) : Type 0 where
  pub before : List StepOfFleet
  pub steps : run.steps ≡ Of_all ∷ before
  pub places : List UnitPlace
  pub count : length places ≡ length old
  pub known : (i : ℕ) (k : K) (start : StandingView) (image : Image) → slice_get old i ≡ Some k → (state k).reads ≡ Some image → HoldsConfig image start
      → slice_get places i ≡ Some (place_of start.identity)
  pub asked : AllAsked set places before
  pub ends : run.batches ≡ ends_of set places before

-- ---- all units

-- A fleet's whole trace comes to where the last `finish` of its script is left. The unit's own steps before that are fault-free
-- and within the margin.
pub record IsLeftInFleet (count : ℕ) (sets : ℕ → Setting) (asks : FleetAsking) (script : List FleetLine) (steps : List StepOfFleet) (unit : ℕ) : Type 0 where
  pub whole : ReachesFleetFinish count (fleet_waiting count sets) asks script steps
  pub free : IsFaultFree (sets unit) (steps_of_unit unit whole.before)
  pub margin : IsWithinMargin (sets unit) (steps_of_unit unit whole.before)

-- A unit that is left to the last `finish` is complete, where its disk failed no more often than its steps say that it stopped
-- before that. What befell other units is no matter.
abbrev pub CompletesInFleet : (count : ℕ) → (sets : ℕ → Setting) → FleetAsking → List FleetLine → (unit : ℕ) → List StepOfFleet → UnitSeen → (old new : DiskState) → Type 0
CompletesInFleet count sets asks script unit steps seen old new =
    (left : IsLeftInFleet count sets asks script steps unit) → ¬ RoseBy (disk_stops (steps_of_unit unit left.whole.before) + 1) old.faults new.faults
    → (last : StandingView) → seen.standing ≡ Some last
    → IsComplete (sets unit) (steps_of_unit unit left.whole.before) left.free (steps_of_unit unit steps) last

-- A run of this script with as many units as there are disks. The end is its last step and no other; each unit is told of, and
-- ran in its own steps. Where all disks hold configurations at rest, the steps follow the script, and each unit that is left to
-- its last `finish` completes.
pub record IsFleetRun {K : Type 0} (state : K → DiskState) (set : SetView) (script : List FleetLine) (old new : List K) (run : FleetSeen) : Type 0 where
  pub before : List StepOfFleet
  pub steps : run.steps ≡ Of_all ∷ before
  pub once : HasNotEnded before
  pub count : length run.units ≡ length old
  pub units : (i : ℕ) (seen : UnitSeen) (first last : K) → slice_get run.units i ≡ Some seen → slice_get old i ≡ Some first → slice_get new i ≡ Some last
      → RunsInOwnSteps set (i + 1) run.steps seen (state first) (state last)
  pub follows : (starts : ℕ → StandingView) → AllHoldAtRest state starts old
      → FollowsFleet (length old) (fleet_waiting (length old) (settings_of set starts)) (fleet_asking set (length old) (settings_of set starts)) script run.steps
  pub completes : (starts : ℕ → StandingView) → AllHoldAtRest state starts old
      → (i : ℕ) (seen : UnitSeen) (first last : K) → slice_get run.units i ≡ Some seen → slice_get old i ≡ Some first → slice_get new i ≡ Some last
      → CompletesInFleet (length old) (settings_of set starts) (fleet_asking set (length old) (settings_of set starts)) script (i + 1) run.steps seen (state first) (state last)
  pub batches : AsksBatches state set old run

-- ---- what is told of it

-- the sessions of all units, those of unit 1 first
abbrev pub all_sessions : FleetSeen → List EndedSession
all_sessions run = flat_map (λ (unit : UnitSeen). unit.sessions) run.units

abbrev pub IsBatchCompleted : BatchEnd → Type 0
IsBatchCompleted batch = batch.end ≡ Completed

-- each session and each batch was completed
pub record FleetHasCompleted (run : FleetSeen) : Type 0 where
  pub sessions : All IsCompleted (all_sessions run)
  pub batches : All IsBatchCompleted run.batches

-- the status: 0 where each was, and 1 elsewhere
pub data StatusOfFleet (run : FleetSeen) (status : ℕ) : Type 0 where
  all_completed : FleetHasCompleted run → status ≡ 0 → StatusOfFleet run status
  not_completed : ¬ FleetHasCompleted run → status ≡ 1 → StatusOfFleet run status

-- each session with this unit was completed
abbrev pub HasCompletedAll : UnitEnd → Type 0
HasCompletedAll end = All IsCompleted (map session_view end.sessions.items)

-- it is known of each unit what stands on its disk
abbrev pub AreAllKnown : FleetSeen → Type 0
AreAllKnown run = All (λ (unit : UnitSeen). IsSome unit.standing) run.units

-- of this unit it isn't
pub record IsUnknownAt (run : FleetSeen) (index : ℕ) : Type 0 where
  pub seen : UnitSeen
  pub there : slice_get run.units index ≡ Some seen
  pub unknown : seen.standing ≡ None

-- the status and the text of a run of which all is known; else a disk failed
pub data TellsFleet (run : FleetSeen) (status : ℕ) (text : List ℕ) : Type 0 where
  all_known : AreAllKnown run → StatusOfFleet run status → text ≡ fleet_report run.steps run.units run.batches → TellsFleet run status text
  one_unknown : (index : ℕ) → IsUnknownAt run index → status ≡ 5 → text ≡ disk_fault → TellsFleet run status text

-- The disk of the unit of this index failed as its target came up first; those before it hold configurations, and nothing was
-- written to any.
pub record FailedFirst {K : Type 0} (state : K → DiskState) (index : ℕ) (old new : List K) : Type 0 where
  pub first : K
  pub last : K
  pub there : slice_get old index ≡ Some first
  pub now : slice_get new index ≡ Some last
  pub failed : Rose (state first).faults (state last).faults
  pub stopped : (state last).stopped ≡ true
  pub stood : (i : ℕ) (k : K) → i < index → slice_get old i ≡ Some k → HoldsSome (state k)
  pub only_reads : AllOnlyRead state old new

-- The disk of the unit of this index held none at first, for this fault, is as it was, and runs on; those before it hold
-- configurations, and nothing was written to any.
pub record HeldNoneFirst {K : Type 0} (state : K → DiskState) (fault : RecoverFault) (index : ℕ) (old new : List K) : Type 0 where
  pub first : K
  pub last : K
  pub there : slice_get old index ≡ Some first
  pub now : slice_get new index ≡ Some last
  pub none : HeldNone fault (state first) (state last)
  pub stood : (i : ℕ) (k : K) → i < index → slice_get old i ≡ Some k → HoldsSome (state k)
  pub only_reads : AllOnlyRead state old new

-- Each disk held a configuration at first. That of the unit of this index holds none at the end, for this fault, and those before
-- it came to their ends.
pub record HoldsNoneLast {K : Type 0} (state : K → DiskState) (fault : RecoverFault) (index : ℕ) (old new : List K) : Type 0 where
  pub last : K
  pub now : slice_get new index ≡ Some last
  pub none : HoldsNone fault (state last)
  pub stood : AllDisks (λ (k : K). HoldsSome (state k)) old
  pub ended : (i : ℕ) (first other : K) → i < index → slice_get old i ≡ Some first → slice_get new i ≡ Some other → CameToEnd (state first) (state other)

-- The status, the text, the run that is handed out, and what they say of the disks, for this media set and script.
pub data RunsFleet {K : Type 0} (state : K → DiskState) (set : SetView) (script : List FleetLine) (old new : List K) (handed : Option FleetSeen) (status : ℕ) (text : List ℕ) : Type 0 where
  -- 0 or 1: the run came to its end, and it is known what stands on each disk
  ended : (run : FleetSeen) → handed ≡ Some run → AreAllKnown run → IsFleetRun state set script old new run → StatusOfFleet run status
      → text ≡ fleet_report run.steps run.units run.batches → RunsFleet state set script old new handed status text
  -- 5: the run came to its end, but a disk failed once more as it was recovered
  unknown : (run : FleetSeen) (index : ℕ) → handed ≡ Some run → IsUnknownAt run index → IsFleetRun state set script old new run → status ≡ 5 → text ≡ disk_fault
      → RunsFleet state set script old new handed status text
  -- 5: a disk failed before anything happened
  disk_failed : (index : ℕ) → handed ≡ None → FailedFirst state index old new → status ≡ 5 → text ≡ disk_fault → RunsFleet state set script old new handed status text
  -- 8: a disk held no configuration at first, or holds none at the end
  no_config : (fault : RecoverFault) (index : ℕ) → handed ≡ None → ¬ IsOfDisk fault → HeldNoneFirst state fault index old new ⊎ HoldsNoneLast state fault index old new
      → status ≡ 8 → text ≡ no_configuration fault → RunsFleet state set script old new handed status text

-- The same for this media set and the text of a script of this name, as one of as many units as there are disks.
pub data FleetRunsText {K : Type 0} (state : K → DiskState) (name bytes : List ℕ) (set : SetView) (old new : List K) (handed : Option FleetSeen) (status : ℕ) (text : List ℕ) : Type 0 where
  says : (script : List FleetLine) → fleet_script_said (length old) bytes ≡ Ok script → RunsFleet state set script old new handed status text
      → FleetRunsText state name bytes set old new handed status text
  -- 3: it is no script, for this first fault, and no disk is touched
  says_none : (fault : ScriptFault) → fleet_script_said (length old) bytes ≡ Err fault → new ≡ old → handed ≡ None → status ≡ 3 → text ≡ refused_input name (script_fault_text fault)
      → FleetRunsText state name bytes set old new handed status text

-- ---- `fleet COUNT FOLDER SCRIPT`

-- The status, the text, the run that is handed out, and what they say of the host and of the disks, which are as many as the
-- units.
pub data ReplaysFleet {K : Type 0} (state : K → DiskState) (folder name : List ℕ) (files : Option Files) (before after : ℕ) (old new : List K) (handed : Option FleetSeen) (status : ℕ) (text : List ℕ) : Type 0 where
  -- the script is run on the set
  ran : (set : SetView) (script : List FleetLine) → HasInputs (fleet_script_said (length old)) folder name files set script → RunsFleet state set script old new handed status text
      → ReplaysFleet state folder name files before after old new handed status text
  -- 3 or 4: an input is refused, and no disk is touched
  unread : RefusesInputs (fleet_script_said (length old)) folder name files before after status text → new ≡ old → handed ≡ None
      → ReplaysFleet state folder name files before after old new handed status text
