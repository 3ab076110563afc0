-- What `run` promises of `fleet COUNT FOLDER SCRIPT` (docs/PROMISES.md).
use Rattle.std.specs.Prelude.{◌≡◌, ◌≢◌, ℕ, ◌+◌, ◌<◌, ◌⊎◌, List, length, slice_get, take, Option, Some, None}
use Rattle.load_base.specs.Counts.{Rose}
use Rattle.load_base.specs.Host.{Files}
use Rattle.load_base.specs.Sink.{IsExtended}
use Rattle.disk_model.specs.State.{DiskState}
use Rattle.disk_layout.specs.Holds.{StandingView}
use Rattle.fleet_trace.specs.FleetLines.{FleetLine}
use Rattle.fleet_trace.specs.FleetScripts.{fleet_script_said}
use Rattle.fleet_trace.specs.FleetTraces.{steps_of_unit}
use Rattle.media_check.specs.Sets.{SetView}
use Rattle.replay_turns.specs.Powers.{RoseBy, disk_stops}
use Rattle.upload_replay.specs.Endings.{FailsToBegin, HoldsSome}
use Rattle.upload_replay.specs.declared.outcome.DriveFault.TheVariants.{Memory}
use Rattle.target_fleet.specs.FleetTexts.{fleet_report}
use Rattle.target_fleet.specs.Units.{AllBetween, AllDisks, AllOnlyRead}
use Rattle.loader_cli.specs.FleetReplays.{AllHoldAtRest, AreAllKnown, FleetSeen, IsFleetRun, ReplaysFleet, StatusOfFleet}
use Rattle.loader_cli.specs.Replays.{HasInputs, LeavesFirstOrGood}
use Rattle.loader_cli.specs.declared.top_call.Ended.{Ended}

-- What `fleet` works on: the disks of its units, and the host's files and faults, before and after; and the run that it hands
-- out.
pub record FleetWork (K : Type 0) : Type 0 where
  pub folder : List ℕ
  pub script : List ℕ
  pub disks : List K
  pub disks_after : List K
  pub files : Option Files
  pub host_faults : ℕ
  pub host_faults_after : ℕ
  pub handed : Option FleetSeen

-- the same, and the sink's output and faults before and after
pub record FleetCall (K : Type 0) : Type 0 where
  pub work : FleetWork K
  pub output : Option (List ℕ)
  pub output_after : Option (List ℕ)
  pub sink_faults : ℕ
  pub sink_faults_after : ℕ

-- the same work, with this run to hand out
abbrev pub fleet_handing : {K : Type 0} → Option FleetSeen → FleetWork K → FleetWork K
fleet_handing handed work = record {
  folder = work.folder;
  script = work.script;
  disks = work.disks;
  disks_after = work.disks_after;
  files = work.files;
  host_faults = work.host_faults;
  host_faults_after = work.host_faults_after;
  handed = handed;
}

abbrev pub FleetSays : {K : Type 0} → (state : K → DiskState) → FleetWork K → (handed : Option FleetSeen) → (status : ℕ) (text : List ℕ) → Type 0
FleetSays state work handed status text = ReplaysFleet state work.folder work.script work.files work.host_faults work.host_faults_after work.disks work.disks_after handed status text

-- No disk was written, or each held a configuration at first.
abbrev pub WritesWhereAllHold : {K : Type 0} → (state : K → DiskState) → (old new : List K) → Type 0
WritesWhereAllHold {K} state old new = AllOnlyRead state old new ⊎ AllDisks (λ (k : K). HoldsSome (state k)) old

-- Memory ran out as the unit of this index came up, before anything happened: those before it hold configurations, its own disk
-- runs on or was itself out of memory, and nothing was written to any.
pub record RanOutFirst {K : Type 0} (state : K → DiskState) (old new : List K) : Type 0 where
  pub index : ℕ
  pub runs : (before after : K) → slice_get old index ≡ Some before → slice_get new index ≡ Some after → FailsToBegin Memory (state before) (state after)
  pub stood : (i : ℕ) (k : K) → i < index → slice_get old i ≡ Some k → HoldsSome (state k)
  pub only_reads : AllOnlyRead state old new

-- Memory ran out before a disk was touched, or as a unit came up, or in a run on disks that each held a configuration.
abbrev pub FleetRunsOut : {K : Type 0} → (state : K → DiskState) → (old new : List K) → Type 0
FleetRunsOut {K} state old new = (new ≡ old) ⊎ (RanOutFirst state old new ⊎ AllDisks (λ (k : K). HoldsSome (state k)) old)

-- what a power loss leaves of each disk: what was active at first, or loads of which each was active then or is checked, and one
-- is checked
abbrev pub AllLeaveFirstOrGood : {K : Type 0} → (state : K → DiskState) → (old new : List K) → Type 0
AllLeaveFirstOrGood {K} state old new = AllBetween (λ i before after. LeavesFirstOrGood (state before) (state after)) old new

-- What becomes of a fleet's disks, whatever is answered: they are as many as they were; which are written; and what a power loss
-- leaves of each.
pub record LeavesFleet {K : Type 0} (state : K → DiskState) (old new : List K) : Type 0 where
  pub as_many : length new ≡ length old
  pub held : WritesWhereAllHold state old new
  pub leaves : AllLeaveFirstOrGood state old new

-- What `fleet` has to say, in which no failure of the host is hidden.
pub record FleetTellsAll {K : Type 0} (state : K → DiskState) (work : FleetWork K) (handed : Option FleetSeen) (status : ℕ) (text : List ℕ) : Type 0 where
  pub says : FleetSays state work handed status text
  pub host : status ≢ 4 → work.host_faults_after ≡ work.host_faults

-- how a run of `fleet` ends
pub data FleetEnds {K : Type 0} (state : K → DiskState) (call : FleetCall K) (ended : Ended) : Type 0 where
  -- exactly the text goes out
  told : (text : List ℕ) → FleetTellsAll state call.work call.work.handed ended.status text → IsExtended call.output call.output_after text → FleetEnds state call ended
  -- 7: the sink failed in this call, and a prefix of the text went out
  sink_failed : (status : ℕ) (text : List ℕ) (n : ℕ) → FleetTellsAll state call.work call.work.handed status text → IsExtended call.output call.output_after (take n text)
      → Rose call.sink_faults call.sink_faults_after → ended.status ≡ 7 → FleetEnds state call ended
  -- 6: out of memory, as the text was put or in the command, which hides no failure of the host or of a disk
  as_it_was_put : (handed : Option FleetSeen) (status : ℕ) (text : List ℕ) → FleetTellsAll state call.work handed status text → ended.status ≡ 6 → call.work.handed ≡ None → FleetEnds state call ended
  in_command : call.work.host_faults_after ≡ call.work.host_faults → FleetRunsOut state call.work.disks call.work.disks_after → ended.status ≡ 6 → call.work.handed ≡ None → FleetEnds state call ended

-- ---- where it can't but succeed

-- how often the disk of the unit of this index stopped in a run that is handed out
abbrev pub stops_at : Option FleetSeen → (index : ℕ) → ℕ
stops_at None index = 0
stops_at (Some run) index = disk_stops (steps_of_unit (index + 1) run.steps)

-- The arguments run this script on the set in this folder: the host has both, and all of the set can be read. Each disk holds a
-- configuration at rest, and fails in the run no more often than its unit's steps say that it stops; neither host nor sink fails.
pub record FleetSound {K : Type 0} (state : K → DiskState) (call : FleetCall K) (told : Files) (set : SetView) (script : List FleetLine) : Type 0 where
  pub files : call.work.files ≡ Some told
  pub inputs : HasInputs (fleet_script_said (length call.work.disks)) call.work.folder call.work.script (Some told) set script
  pub starts : ℕ → StandingView
  pub hold : AllHoldAtRest state starts call.work.disks
  pub host_answers : ¬ Rose call.work.host_faults call.work.host_faults_after
  pub sink_answers : ¬ Rose call.sink_faults call.sink_faults_after
  pub stops : AllBetween (λ i before after. ¬ RoseBy (stops_at call.work.handed i + 1) (state before).faults (state after).faults) call.work.disks call.work.disks_after

-- The script was run to its end on this set, and exactly the report of this run went out, with its status.
pub record TellsFleetRun {K : Type 0} (state : K → DiskState) (call : FleetCall K) (ended : Ended) (set : SetView) (script : List FleetLine) : Type 0 where
  pub seen : FleetSeen
  pub handed : call.work.handed ≡ Some seen
  pub known : AreAllKnown seen
  pub runs : IsFleetRun state set script call.work.disks call.work.disks_after seen
  pub status : StatusOfFleet seen ended.status
  pub text : IsExtended call.output call.output_after (fleet_report seen.steps seen.units seen.batches)

-- How a run of `fleet` ends, and that a failure of the sink is told; where it can't but succeed; which disks are written; and
-- what is left of each.
pub record FleetEndsAsPromised {K : Type 0} (state : K → DiskState) (call : FleetCall K) (ended : Ended) : Type 0 where
  pub ends : FleetEnds state call ended
  pub sink_told : ended.status ≢ 7 → call.sink_faults_after ≡ call.sink_faults
  pub replays_it : (told : Files) (set : SetView) (script : List FleetLine) → FleetSound state call told set script → (ended.status ≡ 6) ⊎ TellsFleetRun state call ended set script
  pub held : WritesWhereAllHold state call.work.disks call.work.disks_after
  pub leaves : AllLeaveFirstOrGood state call.work.disks call.work.disks_after
