-- A run of a fleet ends as promised.
use Rattle.std.proofs.Common.{◌≡◌, ◌≢◌, ◌⊎◌, inl, inr, ℕ, ◌+◌, List, length, Option, Some, None, refl, sym, subst, arith}
use Rattle.std.specs.Prelude.{slice_get}
use Rattle.std.proofs.lemmas.Option.{slice_get_within}
use Rattle.load_base.specs.Host.{Files}
use Rattle.load_base.specs.Sink.{IsExtended}
use Rattle.disk_layout.specs.Holds.{HasDiskFault, HoldsConfig, StandingView}
use Rattle.disk_layout.specs.declared.fault.RecoverFault.{RecoverFault}
use Rattle.disk_model.specs.Image.{Image}
use Rattle.disk_model.specs.State.{DiskState}
use Rattle.fleet_trace.specs.FleetLines.{FleetLine}
use Rattle.fleet_trace.specs.FleetScripts.{fleet_script_said}
use Rattle.fleet_trace.specs.FleetTraces.{steps_of_unit}
use Rattle.media_check.specs.Sets.{SetView}
use Rattle.replay_turns.specs.Powers.{RoseBy, disk_stops}
use Rattle.target_fleet.proofs.FirstBoots.{there_is}
use Rattle.loader_cli.specs.FleetReplays.{FleetSeen, FailedFirst, HeldNoneFirst, HoldsNoneLast, IsFleetRun, IsUnknownAt, ReplaysFleet, RunsFleet, StatusOfFleet}
use Rattle.loader_cli.specs.FleetReplays.ReplaysFleet.{ran, unread}
use Rattle.loader_cli.specs.FleetReplays.RunsFleet.{disk_failed, ended, no_config, unknown}
use Rattle.loader_cli.specs.FleetRuns.{AllLeaveFirstOrGood, FleetCall, FleetEnds, FleetEndsAsPromised, FleetSound, TellsFleetRun, WritesWhereAllHold, stops_at}
use Rattle.loader_cli.specs.FleetRuns.FleetEnds.{as_it_was_put, in_command, sink_failed, told}
use Rattle.loader_cli.specs.declared.top_call.Ended.{Ended}
use Rattle.loader_cli.proofs.ReplayRuns.{none_refused, read_of, same_script, same_set}

module _ {K : Type 0} (state : K → DiskState) (call : FleetCall K) (end : Ended) where
  abbrev old : List K
  old = call.work.disks

  abbrev new : List K
  new = call.work.disks_after

  -- ---- a run of which nothing is refused

  module _ (not_both : (image : Image) (s : StandingView) (f : RecoverFault) → HoldsConfig image s → HasDiskFault image f → ⊥)
      (reads_now : (k : K) (image : Image) → (state k).reads ≡ Some image → (state k).now image) (leaves : AllLeaveFirstOrGood state old new)
      (files : Files) (set : SetView) (script : List FleetLine) (sound : FleetSound state call files set script) where
    -- the disk of no unit fails once more than it stopped
    never_more : (run : FleetSeen) → call.work.handed ≡ Some run → (i : ℕ) (first last : K) → slice_get old i ≡ Some first → slice_get new i ≡ Some last
        → RoseBy (disk_stops (steps_of_unit (i + 1) run.steps) + 1) (state first).faults (state last).faults → ⊥
    never_more run handed i first last was is rose =
        sound.stops i first last was is (subst (λ (h : Option FleetSeen). RoseBy (stops_at h i + 1) (state first).faults (state last).faults) (sym handed) rose)

    never_unknown : (run : FleetSeen) (i : ℕ) → call.work.handed ≡ Some run → IsUnknownAt run i → IsFleetRun state set script old new run → length new ≡ length old → ⊥
    never_unknown run i handed at is same =
        let within = slice_get_within run.units i at.seen at.there in
        let first = there_is old i (omega (arith, within, is.count)) in
        let last = there_is new i (omega (arith, within, is.count, same)) in
        never_more run handed i first.0 last.0 first.1 last.1 ((is.units i at.seen first.0 last.0 at.there first.1 last.1).any.unknown at.unknown).0

    never_failed : (i : ℕ) → call.work.handed ≡ None → FailedFirst state i old new → ⊥
    never_failed i handed failed =
        sound.stops i failed.first failed.last failed.there failed.now
        (subst (λ (h : Option FleetSeen). RoseBy (stops_at h i + 1) (state failed.first).faults (state failed.last).faults) (sym handed) failed.failed)

    -- each disk held a configuration at first, and holds one at the end
    never_none : (fault : RecoverFault) (i : ℕ) → length new ≡ length old → HeldNoneFirst state fault i old new ⊎ HoldsNoneLast state fault i old new → ⊥
    never_none fault i same (inl held) =
        let at = sound.hold i held.first held.there in
        not_both at.image (sound.starts (i + 1)) fault at.holds (held.none.none at.image at.reads)
    never_none fault i same (inr none) =
        let first = there_is old i (omega (arith, slice_get_within new i none.last none.now, same)) in
        let at = sound.hold i first.0 first.1 in
        let left = leaves i first.0 none.last first.1 none.now set (sound.starts (i + 1)) at.image at.reads at.holds at.rests in
        let read = read_of (state none.last) left.tells in
        let held = left.only.here read.0 (reads_now none.last read.0 read.1) in
        not_both read.0 held.active fault held.holds (none.none read.0 read.1)

    runs_to_end : length new ≡ length old → (status : ℕ) (text : List ℕ) → RunsFleet state set script old new call.work.handed status text → status ≡ end.status → IsExtended call.output call.output_after text
        → TellsFleetRun state call end set script
    runs_to_end same status text (ended run handed known is by_sessions text_is) status_is put = record {
      seen = run;
      handed = handed;
      known = known;
      runs = is;
      status = subst (StatusOfFleet run) status_is by_sessions;
      text = subst (λ (bytes : List ℕ). IsExtended call.output call.output_after bytes) text_is put;
    }
    runs_to_end same status text (unknown run i handed at is _ _) status_is put = absurd (never_unknown run i handed at is same)
    runs_to_end same status text (disk_failed i handed failed _ _) status_is put = absurd (never_failed i handed failed)
    runs_to_end same status text (no_config fault i handed other none _ _) status_is put = absurd (never_none fault i same none)

    replays_to_end : length new ≡ length old → (status : ℕ) (text : List ℕ)
        → ReplaysFleet state call.work.folder call.work.script (Some files) call.work.host_faults call.work.host_faults_after old new call.work.handed status text → status ≡ end.status
        → IsExtended call.output call.output_after text → TellsFleetRun state call end set script
    replays_to_end same status text (ran other script_2 inputs runs) status_is put =
        let said = fleet_script_said (length old) in
        runs_to_end same status text
        (subst (λ (s : SetView). RunsFleet state s script old new call.work.handed status text) (same_set said call.work.folder call.work.script files set other script script_2 sound.inputs inputs)
        (subst (λ (l : List FleetLine). RunsFleet state other l old new call.work.handed status text) (same_script said call.work.folder call.work.script files set other script script_2 sound.inputs inputs) runs))
        status_is put
    replays_to_end same status text (unread refuses kept handed) status_is put =
        absurd (none_refused (fleet_script_said (length old)) call.work.folder call.work.script files set script call.work.host_faults call.work.host_faults_after status text sound.inputs sound.host_answers refuses)

    pub replays_it : length new ≡ length old → FleetEnds state call end → (end.status ≡ 6) ⊎ TellsFleetRun state call end set script
    replays_it same (told text all put) =
        inr (replays_to_end same end.status text
        (subst (λ (f : Option Files). ReplaysFleet state call.work.folder call.work.script f call.work.host_faults call.work.host_faults_after old new call.work.handed end.status text) sound.files all.says) refl put)
    replays_it same (sink_failed _ _ _ _ _ rose _) = absurd (sound.sink_answers rose)
    replays_it same (as_it_was_put _ _ _ _ six _) = inl six
    replays_it same (in_command _ _ six _) = inl six

  -- ---- all of it

  pub fleet_promised : ((image : Image) (s : StandingView) (f : RecoverFault) → HoldsConfig image s → HasDiskFault image f → ⊥) → ((k : K) (image : Image) → (state k).reads ≡ Some image → (state k).now image)
      → length new ≡ length old → WritesWhereAllHold state old new → AllLeaveFirstOrGood state old new → FleetEnds state call end → (end.status ≢ 7 → call.sink_faults_after ≡ call.sink_faults)
      → FleetEndsAsPromised state call end
  fleet_promised not_both reads_now same held leaves ends sink = record {
    ends = ends;
    sink_told = sink;
    replays_it = λ files set script sound. replays_it not_both reads_now leaves files set script sound same ends;
    held = held;
    leaves = leaves;
  }
