-- Commands one after the other on the disks of units (docs/POWER.md).
use Rattle.std.specs.Prelude.{◌≡◌, ℕ, ◌<◌, List, [], ◌∷◌, take, slice_get, Option, Some, false, true, is_some, ⊤}
use Rattle.load_base.specs.Host.{Files}
use Rattle.std.specs.Option.{ForSome}
use Rattle.disk_model.specs.Image.{Image}
use Rattle.disk_model.specs.Moments.{LeavesOnly}
use Rattle.disk_model.specs.State.{DiskState, IsSettled}
use Rattle.bank_store.specs.Fits.{LosesOnlyWork}
use Rattle.disk_layout.specs.Holds.{HoldsConfig, StandingView}
use Rattle.disk_layout.specs.declared.identity.Identity.{Identity}
use Rattle.media_check.specs.Sets.{SetView}
use Rattle.run_promises.specs.Promises.{HoldsFirstOrGood}
use Rattle.upload_replay.specs.Endings.{StaysAsItWas}
use Rattle.upload_replay.specs.Moments.{LeavesGood}
use Rattle.bank_rollback.specs.Rollbacks.{IsActiveOrFormer}
use Rattle.target_fleet.specs.FleetTexts.{UnitSeen}
use Rattle.loader_cli.specs.Calls.{Call, IsPromised}
use Rattle.loader_cli.specs.Commands.{CommandView, FormatsOrRollsBack, IsCommand, IsNo, IsOfFleet, UsesScript, CommandWritesDisk, disk_named}
use Rattle.loader_cli.specs.Commands.CommandView.{fleet, format, rollback}
use Rattle.loader_cli.specs.FleetReplays.{FleetSeen}
use Rattle.loader_cli.specs.FleetRuns.{FleetCall, FleetEndsAsPromised}
use Rattle.loader_cli.specs.Replays.{LeavesFirstOrGood, RunSeen, setting_of}
use Rattle.loader_cli.specs.Runs.{Run}
use Rattle.loader_cli.specs.Touches.{KeepsOthers}
use Rattle.loader_cli.specs.declared.top_call.Ended.{Ended}

-- A call after which the next has its premise: the disk runs, and the command doesn't write it, or rolls it back; the disk is as
-- it was; it was formatted; or a script was run, and it is known what stands on the disk.
pub data LeavesAtRest (run : Run) (ended : Ended) : Type 0 where
  looks : IsNo CommandWritesDisk run.work.words → run.work.disk_after.stopped ≡ false → LeavesAtRest run ended
  rolls_back : IsCommand run.work.words rollback → run.work.disk_after.stopped ≡ false → LeavesAtRest run ended
  stays : StaysAsItWas run.work.disk run.work.disk_after → LeavesAtRest run ended
  was_formatted : (id : Identity) → IsCommand run.work.words (format id) → is_some run.work.disk.reads ≡ true → ended.status ≡ 0 → LeavesAtRest run ended
  stands : (command : CommandView) (seen : RunSeen) (last : StandingView) → IsCommand run.work.words command → UsesScript command → run.work.handed ≡ Some seen
      → seen.standing ≡ Some last → LeavesAtRest run ended

-- a call, how it ended, and all disks before and after it
pub record TookCall (H O K : Type 0) : Type 0 where
  pub call : Call H O K
  pub ended : Ended
  pub disks : List K
  pub disks_after : List K

-- Its arguments run no fleet, and it kept what `run` promises, of the disk that they name and of the others.
pub record KeptPromise {H O K : Type 0} (seen : Call H O K → Run) (took : TookCall H O K) : Type 0 where
  pub single : IsNo IsOfFleet took.call.words
  pub named : slice_get took.disks (disk_named took.call.words) ≡ Some took.call.disk
  pub named_after : slice_get took.disks_after (disk_named took.call.words) ≡ Some took.call.disk_after
  pub promised : IsPromised (seen took.call) took.ended
  pub others : KeepsOthers took.call.words took.disks took.disks_after

-- What a call keeps on a disk at rest, which is the premise of all that is said of what a disk holds: so each image that a
-- power loss may leave now, or might have left since its start, holds what was active at its start, or loads of which each
-- was active then or is checked, and one is checked, unless it formats or rolls back; of `rollback` it holds what was active at
-- its start, or what the rollback brings.
pub record CallKeeps (run : Run) : Type 0 where
  pub rests : LosesOnlyWork run.work.disk
  pub leaves : IsNo FormatsOrRollsBack run.work.words → (set : SetView) (start : StandingView) (image : Image) → run.work.disk.reads ≡ Some image → HoldsConfig image start
      → LeavesGood (setting_of set start) run.work.disk.clock run.work.disk_after
  pub leaves_rolled_back : IsCommand run.work.words rollback → (active : StandingView) (image : Image) → run.work.disk.reads ≡ Some image → HoldsConfig image active
      → LeavesOnly run.work.disk.clock (IsActiveOrFormer image active) run.work.disk_after

-- ---- a fleet

-- A call of `fleet`: its arguments and what they ask for, the run that it handed out, if one, how it ended, and host, sink and
-- all disks, before and after.
pub record TookFleet (H O K : Type 0) : Type 0 where
  pub words : List (List ℕ)
  pub count : ℕ
  pub folder : List ℕ
  pub script : List ℕ
  pub handed : Option FleetSeen
  pub ended : Ended
  pub host : H
  pub host_after : H
  pub out : O
  pub out_after : O
  pub disks : List K
  pub disks_after : List K

-- as contracts see it
abbrev pub fleet_call_of : {H O K : Type 0} → (files : H → Option Files) → (host_faults : H → ℕ) → (content : O → Option (List ℕ)) → (sink_faults : O → ℕ) → TookFleet H O K → FleetCall K
fleet_call_of files host_faults content sink_faults took = record {
  work = record {
    folder = took.folder;
    script = took.script;
    disks = take took.count took.disks;
    disks_after = take took.count took.disks_after;
    files = files took.host;
    host_faults = host_faults took.host;
    host_faults_after = host_faults took.host_after;
    handed = took.handed;
  };
  output = content took.out;
  output_after = content took.out_after;
  sink_faults = sink_faults took.out;
  sink_faults_after = sink_faults took.out_after;
}

-- It kept what `run` promises, of the disks of its units and of the others.
pub record KeptFleetPromise {H O K : Type 0} (state : K → DiskState) (seen : TookFleet H O K → FleetCall K) (took : TookFleet H O K) : Type 0 where
  pub asked : IsCommand took.words (fleet took.count took.folder took.script)
  pub promised : FleetEndsAsPromised state (seen took) took.ended
  pub others : KeepsOthers took.words took.disks took.disks_after

-- What a fleet keeps of a unit's disk at rest.
pub record KeepsInFleet (old new : DiskState) : Type 0 where
  pub rests : LosesOnlyWork old
  pub leaves : LeavesFirstOrGood old new

-- so it is of the unit at this place
abbrev pub KeepsUnit : {H O K : Type 0} → (state : K → DiskState) → (place : ℕ) → TookFleet H O K → Type 0
KeepsUnit {H} {O} {K} state place took =
    (before after : K) → slice_get took.disks place ≡ Some before → slice_get took.disks_after place ≡ Some after → KeepsInFleet (state before) (state after)

-- A fleet after which the next call has its premise of the unit at this place: its disk is as it was, or it is known what stands
-- there at the end.
pub data LeavesUnitAtRest {H O K : Type 0} (place : ℕ) (took : TookFleet H O K) : Type 0 where
  disk_stays : slice_get took.disks_after place ≡ slice_get took.disks place → LeavesUnitAtRest place took
  unit_stands : (run : FleetSeen) (unit : UnitSeen) (last : StandingView) → took.handed ≡ Some run → slice_get run.units place ≡ Some unit → unit.standing ≡ Some last
      → LeavesUnitAtRest place took

-- ---- calls in turn

-- a call of one unit, or of a fleet
pub data Taken (H O K : Type 0) : Type 0 where
  of_unit : TookCall H O K → Taken H O K
  of_fleet : TookFleet H O K → Taken H O K

-- calls that each kept its promise, in their order, the first on these disks and each other on those that were left
abbrev pub AreInTurn : {H O K : Type 0} → (state : K → DiskState) → (seen : Call H O K → Run) → (seen_fleet : TookFleet H O K → FleetCall K) → List K → List (Taken H O K) → Type 0
AreInTurn state seen seen_fleet disks [] = ⊤
AreInTurn state seen seen_fleet disks (of_unit took ∷ later) = (took.disks ≡ disks) × KeptPromise seen took × AreInTurn state seen seen_fleet took.disks_after later
AreInTurn state seen seen_fleet disks (of_fleet took ∷ later) = (took.disks ≡ disks) × KeptFleetPromise state seen_fleet took × AreInTurn state seen seen_fleet took.disks_after later

-- Each keeps what it promises of the disk at this place, if it uses it, as long as those before it that use it left it at rest.
abbrev pub EachKeeps : {H O K : Type 0} → (state : K → DiskState) → (seen : Call H O K → Run) → (place : ℕ) → List (Taken H O K) → Type 0
EachKeeps state seen place [] = ⊤
EachKeeps state seen place (of_unit took ∷ later) =
    (disk_named took.call.words ≡ place → CallKeeps (seen took.call))
    × ((disk_named took.call.words ≡ place → LeavesAtRest (seen took.call) took.ended) → EachKeeps state seen place later)
EachKeeps state seen place (of_fleet took ∷ later) =
    (place < took.count → KeepsUnit state place took)
    × ((place < took.count → LeavesUnitAtRest place took) → EachKeeps state seen place later)

-- ---- a restart

-- what a restart that answers Ok leaves: one of the images that a power loss might have left
pub record IsRestarted (old new : DiskState) : Type 0 where
  pub running : new.stopped ≡ false
  pub settled : IsSettled new
  pub tells : is_some new.reads ≡ is_some old.reads
  pub now : (image : Image) → new.now image → old.now image

-- A disk that was at rest is so again, and what stands on it was active as the call began, or is a configuration of which each
-- load was active then or is checked, and one is checked.
pub record StandsAgain (old new : DiskState) : Type 0 where
  pub rests : LosesOnlyWork new
  pub stands : (set : SetView) (start : StandingView) (image : Image) → old.reads ≡ Some image → HoldsConfig image start → ForSome new.reads (HoldsFirstOrGood (setting_of set start))
