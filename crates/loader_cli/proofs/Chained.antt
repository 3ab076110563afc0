-- Commands one after the other on the disks of units.
use Rattle.std.proofs.Common.{◌≡◌, ◌⊎◌, inl, inr, ℕ, ◌<◌, ◌≤◌, List, [], ◌∷◌, length, Option, Some, None, true, refl, sym, ap, subst, ◌∙◌, arith}
use Rattle.std.specs.Prelude.{is_some, slice_get}
use Rattle.std.proofs.lemmas.Option.{slice_get_within}
use Rattle.std.proofs.lemmas.Bool.{cases_eq}
use Rattle.std.specs.Option.{ForSome}
use Rattle.load_base.specs.Host.{Files}
use Rattle.bank_store.specs.Fits.{LosesOnlyWork}
use Rattle.bank_store.specs.Formatting.{formatted}
use Rattle.disk_layout.specs.Holds.{HoldsConfig, StandingView}
use Rattle.disk_layout.specs.declared.identity.Identity.{Identity}
use Rattle.disk_model.specs.Image.{Image}
use Rattle.disk_model.specs.State.{DiskState, IsSettled}
use Rattle.media_check.specs.Sets.{SetView}
use Rattle.media_check.specs.declared.found.Found.TheVariants.{Missing}
use Rattle.exchange_trace.specs.Lines.{Line}
use Rattle.fleet_trace.specs.FleetLines.{FleetLine}
use Rattle.target_fleet.specs.FleetTexts.{UnitSeen}
use Rattle.target_fleet.proofs.FirstBoots.{there_is}
use Rattle.bank_rollback.specs.Rollbacks.{IsActiveOrFormer}
use Rattle.run_promises.specs.Promises.{HoldsFirstOrGood}
use Rattle.loader_cli.specs.Calls.{Call, IsPromised, run_of}
use Rattle.loader_cli.specs.Chains.{AreInTurn, EachKeeps, IsRestarted, CallKeeps, KeepsUnit, KeptFleetPromise, KeptPromise, LeavesAtRest, LeavesUnitAtRest, StandsAgain, Taken, TookCall, TookFleet, fleet_call_of}
use Rattle.loader_cli.specs.Chains.LeavesUnitAtRest.{disk_stays, unit_stands}
use Rattle.loader_cli.specs.Chains.Taken.{of_fleet, of_unit}
use Rattle.loader_cli.specs.FleetReplays.{FleetSeen, HoldsAtRest, IsFleetRun}
use Rattle.loader_cli.specs.FleetReplays.ReplaysFleet.{ran as fleet_ran, unread as fleet_unread}
use Rattle.loader_cli.specs.FleetReplays.RunsFleet.{disk_failed as fleet_failed, ended as fleet_ended, no_config as fleet_none, unknown as fleet_unknown}
use Rattle.loader_cli.specs.FleetRuns.{FleetCall, FleetEnds, FleetSays}
use Rattle.loader_cli.specs.FleetRuns.FleetEnds.{as_it_was_put as fleet_put, in_command as fleet_out, sink_failed as fleet_sink_failed, told as fleet_told}
use Rattle.loader_cli.specs.Touches.{IsUnused}
use Rattle.loader_cli.specs.Chains.LeavesAtRest.{looks, rolls_back, stands, stays, was_formatted}
use Rattle.loader_cli.specs.Commands.{CommandView, FormatsDisk, FormatsOrRollsBack, IsCommand, IsNo, UsesScript, disk_named}
use Rattle.loader_cli.specs.Commands.CommandView.{build, check, fleet, format, list, make, replay, rollback, show, trial, wire}
use Rattle.loader_cli.specs.Replays.{LeavesFirstOrGood, Replays, RunSeen, RunsTo, setting_of}
use Rattle.loader_cli.specs.Replays.Replays.{ran, unread}
use Rattle.loader_cli.specs.Replays.RunsTo.{disk_failed, ended, no_config, unknown}
use Rattle.loader_cli.specs.Runs.{Ends, Formats, Run, Says}
use Rattle.loader_cli.specs.Runs.Ends.{no_memory, sink_failed, told}
use Rattle.loader_cli.specs.Runs.Formats.{formatted_it, formatting_failed}
use Rattle.loader_cli.specs.Trials.{Trials}
use Rattle.loader_cli.specs.Trials.Trials.{no_target, target_unread, tried}
use Rattle.loader_cli.specs.declared.replay.Telling.{Telling}
use Rattle.loader_cli.specs.declared.replay.Telling.TheVariants.{Report, Trace}
use Rattle.loader_cli.specs.declared.top_call.Ended.{Ended}
use Rattle.loader_cli.proofs.Asked.{is_rollback, says_of_format, says_of_no_fleet, says_of_run, says_of_trial}
use Rattle.loader_cli.proofs.FirstDisks.{below_or_not, get_taken}
use Rattle.loader_cli.proofs.FleetAnswered.{one_fleet}
use Rattle.loader_cli.proofs.OneDisk.{one_disk}
use Rattle.loader_cli.proofs.ReplayRuns.{read_of}
use Rattle.loader_cli.proofs.SetRuns.{apart}

none_is : {A : Type 0} {a : A} {o : Option A} → o ≡ Some a → o ≡ None → ⊥
none_is some none = let same = sym some ∙ none in cc

-- ---- one call

-- what the law says of the disk after it, where that is settled, and where it reads the same
pub record RestLaws (old new : DiskState) : Type 0 where
  pub settled : (image : Image) (s : StandingView) → new.reads ≡ Some image → HoldsConfig image s → IsSettled new → LosesOnlyWork new
  pub still : new.reads ≡ old.reads → ((image : Image) → new.now image → old.now image) → LosesOnlyWork old → LosesOnlyWork new

module _ (run : Run) (end : Ended) (laws : RestLaws run.work.disk run.work.disk_after) (promised : IsPromised run end) (rests : LosesOnlyWork run.work.disk) where
  -- a run of a script whose standing is known at the end
  of_run : (telling : Telling) (set : SetView) (script : List Line) (seen : RunSeen) (last : StandingView) (status : ℕ) (text : List ℕ) → run.work.handed ≡ Some seen → seen.standing ≡ Some last
      → RunsTo telling set script run.work.disk run.work.disk_after run.work.handed status text → LosesOnlyWork run.work.disk_after
  of_run telling set script seen last status text handed known (ended it standing held is stood runs holds counts _ _) =
      let throughout = (runs rests.active rests.image rests.told (record { slot = rests.slot; by = rests.holds })).1 rests in
      throughout.rests (subst (λ (o : Option StandingView). is_some o ≡ true) (sym stood) refl)
  of_run telling set script seen last status text handed known (unknown it held is none runs counts failed stopped _ _) =
      let same : it ≡ seen = (let both = sym is ∙ handed in cc) in
      absurd (none_is known (subst (λ (r : RunSeen). r.standing ≡ None) same none))
  of_run telling set script seen last status text handed known (disk_failed none failed stopped reads _ _) = absurd (none_is handed none)
  of_run telling set script seen last status text handed known (no_config fault none other holds _ _) = absurd (none_is handed none)

  of_replay : (telling : Telling) (folder name : List ℕ) (seen : RunSeen) (last : StandingView) (status : ℕ) (text : List ℕ) → run.work.handed ≡ Some seen → seen.standing ≡ Some last
      → Replays telling folder name run.work.files run.work.host_faults run.work.host_faults_after run.work.disk run.work.disk_after run.work.handed status text → LosesOnlyWork run.work.disk_after
  of_replay telling folder name seen last status text handed known (ran set script inputs runs) = of_run telling set script seen last status text handed known runs
  of_replay telling folder name seen last status text handed known (unread refuses same none) = absurd (none_is handed none)

  of_trial : (number : ℕ) (seen : RunSeen) (last : StandingView) (status : ℕ) (text : List ℕ) → run.work.handed ≡ Some seen → seen.standing ≡ Some last
      → Trials number run.work.disk run.work.disk_after run.work.handed status text → LosesOnlyWork run.work.disk_after
  of_trial number seen last status text handed known (tried id set named is runs) = of_run Report set _ seen last status text handed known runs
  of_trial number seen last status text handed known (target_unread reads failed stopped none _ _) = absurd (none_is handed none)
  of_trial number seen last status text handed known (no_target fault other held none _ _) = absurd (none_is handed none)

  of_script : (command : CommandView) (seen : RunSeen) (last : StandingView) (status : ℕ) (text : List ℕ) → IsCommand run.work.words command → UsesScript command → run.work.handed ≡ Some seen → seen.standing ≡ Some last
      → Says run.work status text → LosesOnlyWork run.work.disk_after
  of_script (replay folder script) seen last status text asked uses handed known says = of_replay Report folder script seen last status text handed known (says_of_run Report run.work folder script status text asked says)
  of_script (wire folder script) seen last status text asked uses handed known says = of_replay Trace folder script seen last status text handed known (says_of_run Trace run.work folder script status text asked says)
  of_script (trial number) seen last status text asked uses handed known says = of_trial number seen last status text handed known (says_of_trial run.work number status text asked says)
  of_script (fleet count folder script) seen last status text asked uses handed known says = absurd (says_of_no_fleet run.work count folder script status text asked says)
  of_script list seen last status text asked uses handed known says = absurd uses
  of_script (format id) seen last status text asked uses handed known says = absurd uses
  of_script (show kind file) seen last status text asked uses handed known says = absurd uses
  of_script (check folder) seen last status text asked uses handed known says = absurd uses
  of_script (build recipe folder) seen last status text asked uses handed known says = absurd uses
  of_script (make number folder) seen last status text asked uses handed known says = absurd uses
  of_script rollback seen last status text asked uses handed known says = absurd uses

  stood : (command : CommandView) (seen : RunSeen) (last : StandingView) → IsCommand run.work.words command → UsesScript command → run.work.handed ≡ Some seen → seen.standing ≡ Some last → Ends run end
      → LosesOnlyWork run.work.disk_after
  stood command seen last asked uses handed known (told text all put) = of_script command seen last end.status text asked uses handed known all.says
  stood command seen last asked uses handed known (sink_failed status text n all put rose seven) = of_script command seen last status text asked uses handed known all.says
  stood command seen last asked uses handed known (no_memory six none out) = absurd (none_is handed none)

-- ---- a disk that was formatted

module _ (run : Run) (end : Ended) (settled : (image : Image) (s : StandingView) → run.work.disk_after.reads ≡ Some image → HoldsConfig image s → IsSettled run.work.disk_after → LosesOnlyWork run.work.disk_after) where
  by_format : (id : Identity) (text : List ℕ) → is_some run.work.disk.reads ≡ true → end.status ≡ 0 → Formats run.work.disk run.work.disk_after id end.status text → LosesOnlyWork run.work.disk_after
  by_format id text tells zero (formatted_it same holds rest is on _ _) =
      let (image, read) = read_of run.work.disk_after (same ∙ tells) in
      settled image (formatted id) read (holds image read) is
  by_format id text tells zero (formatting_failed failed stopped five _) = absurd (apart end.status 4 zero five)

  pub after_formatting : (id : Identity) → IsCommand run.work.words (format id) → is_some run.work.disk.reads ≡ true → end.status ≡ 0 → Ends run end → LosesOnlyWork run.work.disk_after
  after_formatting id asked tells zero (told text all put) =
      let (other, is, found) = says_of_format run.work id end.status text asked all.says in
      by_format other text tells zero found
  after_formatting id asked tells zero (sink_failed status text n all put rose seven) = absurd (apart end.status 6 zero seven)
  after_formatting id asked tells zero (no_memory six none out) = absurd (apart end.status 5 zero six)

pub rests_after : (run : Run) (end : Ended) → RestLaws run.work.disk run.work.disk_after → IsPromised run end → LosesOnlyWork run.work.disk → LeavesAtRest run end → LosesOnlyWork run.work.disk_after
rests_after run end laws promised rests (looks none running) = let looked = promised.looks none in laws.still (looked.same running) looked.only_reads.now rests
rests_after run end laws promised rests (rolls_back asked running) = (promised.leaves.while_rolling_back asked).rests rests running
rests_after run end laws promised rests (stays same) = laws.still same.reads same.only_reads.now rests
rests_after run end laws promised rests (was_formatted id asked tells zero) = after_formatting run end laws.settled id asked tells zero promised.ends.ends
rests_after run end laws promised rests (stands command seen last asked uses handed known) = stood run end laws promised rests command seen last asked uses handed known promised.ends.ends

-- ---- one fleet

same_run : {o : Option FleetSeen} {a b : FleetSeen} → o ≡ Some a → o ≡ Some b → a ≡ b
same_run one other = let both = sym one ∙ other in cc

module _ {K : Type 0} (state : K → DiskState) (call : FleetCall K) (end : Ended) (place : ℕ) (run : FleetSeen) (handed : call.work.handed ≡ Some run) (unit : UnitSeen) (last : StandingView)
    (told_there : slice_get run.units place ≡ Some unit) (known : unit.standing ≡ Some last) (before after : K)
    (was : slice_get call.work.disks place ≡ Some before) (is : slice_get call.work.disks_after place ≡ Some after) (rests : LosesOnlyWork (state before)) where
  of_fleet_run : (set : SetView) (script : List FleetLine) (other : FleetSeen) → call.work.handed ≡ Some other → IsFleetRun state set script call.work.disks call.work.disks_after other → LosesOnlyWork (state after)
  of_fleet_run set script other handed_2 runs =
      let own = subst (λ (r : FleetSeen). IsFleetRun state set script call.work.disks call.work.disks_after r) (same_run handed_2 handed) runs in
      let at : HoldsAtRest rests.active (state before) = record { image = rests.image; reads = rests.told; holds = record { slot = rests.slot; by = rests.holds }; rests = rests } in
      (own.units place unit before after told_there was is).rests rests.active at (subst (λ (o : Option StandingView). is_some o ≡ true) (sym known) refl)

  of_fleet_told : (status : ℕ) (text : List ℕ) → FleetSays state call.work call.work.handed status text → LosesOnlyWork (state after)
  of_fleet_told status text (fleet_ran set script inputs (fleet_ended other handed_2 all runs _ _)) = of_fleet_run set script other handed_2 runs
  of_fleet_told status text (fleet_ran set script inputs (fleet_unknown other index handed_2 at runs _ _)) = of_fleet_run set script other handed_2 runs
  of_fleet_told status text (fleet_ran set script inputs (fleet_failed index none _ _ _)) = absurd (none_is handed none)
  of_fleet_told status text (fleet_ran set script inputs (fleet_none fault index none _ _ _ _)) = absurd (none_is handed none)
  of_fleet_told status text (fleet_unread refuses same none) = absurd (none_is handed none)

  unit_rests : FleetEnds state call end → LosesOnlyWork (state after)
  unit_rests (fleet_told text tells out) = of_fleet_told end.status text tells.says
  unit_rests (fleet_sink_failed status text n tells out rose seven) = of_fleet_told status text tells.says
  unit_rests (fleet_put other status text tells six none) = absurd (none_is handed none)
  unit_rests (fleet_out same out six none) = absurd (none_is handed none)

-- ---- all calls

module _ {H O K : Type 0} (files : H → Option Files) (host_faults : H → ℕ) (content : O → Option (List ℕ)) (sink_faults : O → ℕ) (state : K → DiskState)
    (laws : (before after : K) → RestLaws (state before) (state after)) where
  abbrev seen : Call H O K → Run
  seen = run_of files host_faults content sink_faults state

  abbrev seen_fleet : TookFleet H O K → FleetCall K
  seen_fleet = fleet_call_of files host_faults content sink_faults

  -- of one more call the later ones follow
  abbrev Goes : (place : ℕ) → List (Taken H O K) → Type 0
  Goes place later = (next : K) (left : List K) → slice_get left place ≡ Some next → LosesOnlyWork (state next) → AreInTurn state seen seen_fleet left later → EachKeeps state seen place later

  module _ (place : ℕ) (disk : K) (disks : List K) (there : slice_get disks place ≡ Some disk) (rests : LosesOnlyWork (state disk)) (later : List (Taken H O K)) (again : Goes place later) where
    module _ (took : TookCall H O K) (same : took.disks ≡ disks) (kept : KeptPromise seen took) (turn : AreInTurn state seen seen_fleet took.disks_after later) where
      here : disk_named took.call.words ≡ place → LosesOnlyWork (state took.call.disk)
      here named =
          let at : slice_get took.disks (disk_named took.call.words) ≡ Some disk = ap (λ (all : List K). slice_get all (disk_named took.call.words)) same ∙ (ap (slice_get disks) named ∙ there) in
          subst (λ (d : K). LosesOnlyWork (state d)) (one_disk took.disks (disk_named took.call.words) disk took.call.disk at kept.named) rests

      keeps : LosesOnlyWork (state took.call.disk) → CallKeeps (seen took.call)
      keeps rests = record {
        rests = rests;
        leaves = λ other set start image is holds. kept.promised.leaves.while_running other set start image is holds rests;
        leaves_rolled_back = λ asked active image is holds. (kept.promised.leaves.while_rolling_back asked).either rests image active is holds;
      }

      on_from : (disk_named took.call.words ≡ place) ⊎ (disk_named took.call.words ≡ place → ⊥) → (disk_named took.call.words ≡ place → LeavesAtRest (seen took.call) took.ended) → EachKeeps state seen place later
      on_from (inl named) goes =
          again took.call.disk_after took.disks_after (ap (slice_get took.disks_after) (sym named) ∙ kept.named_after)
          (rests_after (seen took.call) took.ended (laws took.call.disk took.call.disk_after) kept.promised (here named) (goes named)) turn
      on_from (inr other) goes =
          again disk took.disks_after (kept.others.others place (record { unnamed = λ no is. other (sym is); beyond = λ count folder script is. absurd (kept.single (fleet count folder script) is tt) }) ∙ (ap (λ (all : List K). slice_get all place) same ∙ there)) rests turn

    module _ (took : TookFleet H O K) (same : took.disks ≡ disks) (kept : KeptFleetPromise state seen_fleet took) (turn : AreInTurn state seen seen_fleet took.disks_after later) where
      there_now : slice_get took.disks place ≡ Some disk
      there_now = ap (λ (all : List K). slice_get all place) same ∙ there

      unit_keeps : place < took.count → KeepsUnit state place took
      unit_keeps few before after was is = record {
        rests = subst (λ (d : K). LosesOnlyWork (state d)) (one_disk took.disks place disk before there_now was) rests;
        leaves = kept.promised.leaves place before after (get_taken took.count took.disks place few ∙ was) (get_taken took.count took.disks_after place few ∙ is);
      }

      fleet_from : (next : K) → slice_get took.disks_after place ≡ Some next → (place < took.count) ⊎ (place < took.count → ⊥) → (place < took.count → LeavesUnitAtRest place took) → EachKeeps state seen place later
      fleet_from next is (inr more) goes =
          again disk took.disks_after (kept.others.others place beyond ∙ there_now) rests turn
        where
          beyond : IsUnused took.words place
          beyond = record {
            unnamed = λ no. absurd (no (fleet took.count took.folder took.script) kept.asked tt);
            beyond = λ count folder script is. subst (λ (n : ℕ). n ≤ place) (one_fleet took.words took.count count took.folder folder took.script script kept.asked is).0 (omega (arith, more));
          }
      fleet_from next is (inl few) goes = by (goes few)
        where
          by : LeavesUnitAtRest place took → EachKeeps state seen place later
          by (disk_stays same_there) = again disk took.disks_after (same_there ∙ there_now) rests turn
          by (unit_stands run unit last handed told_there known) =
              again next took.disks_after is
              (unit_rests state (seen_fleet took) took.ended place run handed unit last told_there known disk next (get_taken took.count took.disks place few ∙ there_now)
              (get_taken took.count took.disks_after place few ∙ is) rests kept.promised.ends)
              turn

  pub each_keeps : (place : ℕ) (disk : K) (disks : List K) (calls : List (Taken H O K)) → slice_get disks place ≡ Some disk → LosesOnlyWork (state disk) → AreInTurn state seen seen_fleet disks calls
      → EachKeeps state seen place calls
  each_keeps place disk disks [] there rests turn = tt
  each_keeps place disk disks (of_unit took ∷ later) there rests (same, kept, turn) =
      let again : Goes place later = λ next left there rests turn. each_keeps place next left later there rests turn in (
        λ named. keeps place disk disks there rests later again took same kept turn (here place disk disks there rests later again took same kept turn named),
        λ goes. on_from place disk disks there rests later again took same kept turn (cases_eq (disk_named took.call.words) place) goes,
      )
  each_keeps place disk disks (of_fleet took ∷ later) there rests (same, kept, turn) =
      let again : Goes place later = λ next left there rests turn. each_keeps place next left later there rests turn in
      let next = there_is took.disks_after place (omega (arith, kept.others.as_many, slice_get_within disks place disk there, ap length same)) in (
        λ few. unit_keeps place disk disks there rests later again took same kept turn few,
        λ goes. fleet_from place disk disks there rests later again took same kept turn next.0 next.1 (below_or_not place took.count) goes,
      )

-- ---- a restart

-- some media set: which one doesn't matter
no_set : SetView
no_set = record { first = record { loads = Missing; files = Missing; batches = Missing }; further = []; files = [] }

-- arguments that neither format nor roll back
neither : (words : List (List ℕ)) → IsNo FormatsDisk words → (IsCommand words rollback → ⊥) → IsNo FormatsOrRollsBack words
neither words none never (format id) asked sort = none (format id) asked tt
neither words none never rollback asked sort = never asked
neither words none never list asked sort = sort
neither words none never (show kind file) asked sort = sort
neither words none never (check folder) asked sort = sort
neither words none never (build recipe folder) asked sort = sort
neither words none never (make number folder) asked sort = sort
neither words none never (replay folder script) asked sort = sort
neither words none never (wire folder script) asked sort = sort
neither words none never (trial number) asked sort = sort
neither words none never (fleet count folder script) asked sort = sort

-- of a disk at rest, in whose call each image that might be left holds what was active at first, or good loads
module _ (old new disk : DiskState) (settled : (image : Image) (s : StandingView) → disk.reads ≡ Some image → HoldsConfig image s → IsSettled disk → LosesOnlyWork disk)
    (reads_now : (image : Image) → disk.reads ≡ Some image → disk.now image) (left : LeavesFirstOrGood old new) (rests : LosesOnlyWork old) (restarted : IsRestarted new disk) where
  stands_on : (set : SetView) (start : StandingView) (image : Image) → old.reads ≡ Some image → HoldsConfig image start → ForSome disk.reads (HoldsFirstOrGood (setting_of set start))
  stands_on set start image is holds = λ found read. (left set start image is holds rests).only.here found (restarted.now found (reads_now found read))

  rests_on : LosesOnlyWork disk
  rests_on =
      let first : HoldsConfig rests.image rests.active = record { slot = rests.slot; by = rests.holds } in
      let leaves = left no_set rests.active rests.image rests.told first rests in
      let (image, read) = read_of disk (restarted.tells ∙ leaves.tells) in
      let held = stands_on no_set rests.active rests.image rests.told first image read in
      settled image held.active read held.holds restarted.settled

  pub stands_again : StandsAgain old disk
  stands_again = record { rests = rests_on; stands = stands_on }

module _ (run : Run) (end : Ended) (disk : DiskState) (settled : (image : Image) (s : StandingView) → disk.reads ≡ Some image → HoldsConfig image s → IsSettled disk → LosesOnlyWork disk)
    (reads_now : (image : Image) → disk.reads ≡ Some image → disk.now image) (promised : IsPromised run end) (rests : LosesOnlyWork run.work.disk)
    (restarted : IsRestarted run.work.disk_after disk) where
  pub stands_then : IsNo FormatsOrRollsBack run.work.words → (set : SetView) (start : StandingView) (image : Image) → run.work.disk.reads ≡ Some image → HoldsConfig image start
      → ForSome disk.reads (HoldsFirstOrGood (setting_of set start))
  stands_then other = stands_on run.work.disk run.work.disk_after disk settled reads_now (promised.leaves.while_running other) rests restarted

  pub rolled_back_then : IsCommand run.work.words rollback → (active : StandingView) (image : Image) → run.work.disk.reads ≡ Some image → HoldsConfig image active
      → ForSome disk.reads (IsActiveOrFormer image active)
  rolled_back_then asked active image is holds = λ left read.
      ((promised.leaves.while_rolling_back asked).either rests image active is holds).here left (restarted.now left (reads_now left read))

  first_holds : HoldsConfig rests.image rests.active
  first_holds = record { slot = rests.slot; by = rests.holds }

  rests_running : IsNo FormatsOrRollsBack run.work.words → LosesOnlyWork disk
  rests_running other = rests_on run.work.disk run.work.disk_after disk settled reads_now (promised.leaves.while_running other) rests restarted

  rests_rolled_back : IsCommand run.work.words rollback → LosesOnlyWork disk
  rests_rolled_back asked =
      let leaves = promised.leaves.while_rolling_back asked in
      let (image, read) = read_of disk (restarted.tells ∙ (leaves.tells ∙ ap is_some rests.told)) in
      elim (rolled_back_then asked rests.active rests.image rests.told first_holds image read) [
        | inl holds ↦ settled image rests.active read holds restarted.settled
        | inr brought ↦ settled image brought.0 read brought.2 restarted.settled
      ]

  pub rests_again : IsNo FormatsDisk run.work.words → LosesOnlyWork disk
  rests_again none = elim (is_rollback run.work.words) [ inl asked ↦ rests_rolled_back asked | inr never ↦ rests_running (neither run.work.words none never) ]
