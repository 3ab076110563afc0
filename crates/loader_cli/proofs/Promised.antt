-- A run that ends with its cause ends as promised.
use Rattle.std.proofs.Common.{◌≡◌, ◌≢◌, ◌⊎◌, ℕ, inl, inr, List, Option, Some, refl, ap, subst, ◌∙◌}
use Rattle.load_base.specs.Counts.{Rose}
use Rattle.load_base.specs.Host.{Files}
use Rattle.load_base.specs.Sink.{IsExtended}
use Rattle.disk_layout.specs.Holds.{StandingView}
use Rattle.disk_layout.specs.declared.identity.Identity.{Identity}
use Rattle.bank_store.specs.Given.{configured}
use Rattle.exchange_trace.specs.Lines.{Line}
use Rattle.listing.specs.Listing.{listing}
use Rattle.media_check.specs.Sets.{SetView}
use Rattle.loader_cli.specs.Commands.{FormatsOrRollsBack, IsNo}
use Rattle.loader_cli.specs.Replays.{LeavesFirstOrGood}
use Rattle.shown_files.specs.declared.kind.ShownKind.{ShownKind}
use Rattle.loader_cli.specs.Runs.{Ends, EndsAsPromised, Formats, FormatsSound, LeavesSet, Lists, ListsSound, ReplaysSound, RollsBackSound, Run, Says, Shows, ShowsSound, Succeeds, TellsRun, TellsUpload, TriesSound, WritesInto}
use Rattle.loader_cli.specs.Runs.Ends.{told, sink_failed, no_memory}
use Rattle.loader_cli.specs.Runs.Formats.{formatted_it, formatting_failed}
use Rattle.loader_cli.specs.Runs.Lists.{failed, listed, no_listing}
use Rattle.loader_cli.specs.Rollbacks.{RollsBackAs}
use Rattle.loader_cli.specs.Rollbacks.RollsBackAs.{none_active, none_former, rollback_failed, rolled_back}
use Rattle.loader_cli.specs.Runs.Shows.{read}
use Rattle.loader_cli.specs.Runs.ShowsBytes.{shown}
use Rattle.loader_cli.specs.Texts.{formatted_line}
use Rattle.loader_cli.specs.declared.top_call.Ended.{Ended}
use Rattle.loader_cli.specs.declared.replay.Telling.{Telling}
use Rattle.loader_cli.specs.CommandLaws.{BuildingLaws, FormerLaws, ImageLaws, ShownLaws, UploadLaws}
use Rattle.loader_cli.proofs.Asked.{formats_none, one_target, says_of_format, says_of_list, says_of_rollback, says_of_show, trial_formats_none}
use Rattle.loader_cli.proofs.Clean.{clean_said}
use Rattle.loader_cli.proofs.OneAnswer.{one_show}
use Rattle.loader_cli.proofs.ReplayRuns.{EndLaws, was_told}
use Rattle.loader_cli.proofs.RolledBack.{brought_is, none_refused}
use Rattle.loader_cli.proofs.SetRuns.{apart, build_said, make_said, run_leaves}
use Rattle.loader_cli.proofs.Uploaded.{was_uploaded}

-- a run succeeds, in which nothing fails, if this is all that it can say
succeeds : (run : Run) (ended : Ended) (line : List ℕ) → ¬ Rose run.sink_faults run.sink_faults_after → ((status : ℕ) (text : List ℕ) → Says run.work status text → (status ≡ 0) × (text ≡ line)) → Ends run ended
    → Succeeds run ended line
succeeds run ended line answers only (told text all put) =
    let said = only ended.status text all.says in
    inr (said.0, subst (λ (t : List ℕ). IsExtended run.output run.output_after t) said.1 put)
succeeds run ended line answers only (sink_failed _ _ _ _ _ rose _) = absurd (answers rose)
succeeds run ended line answers only (no_memory is _ _) = inl is

-- a run of a script of which nothing is refused
replays_it : (run : Run) (ended : Ended) → EndLaws run.work.disk run.work.disk_after → (IsNo FormatsOrRollsBack run.work.words → LeavesFirstOrGood run.work.disk run.work.disk_after) → (telling : Telling) (folder name : List ℕ) (files : Files) (set : SetView)
    (script : List Line) → ReplaysSound run telling folder name files set script → Ends run ended → (ended.status ≡ 6) ⊎ TellsRun run ended telling set script
replays_it run ended laws leaves telling folder name files set script is (told text all put) =
    let t = was_told run telling folder name files set script is laws (leaves (formats_none telling run.work.words folder name is.asked)) ended.status text all.says in
    inr (record { seen = t.seen; last = t.last; handed = t.is; standing = t.stands; runs = t.runs; status = t.by_sessions; text = subst (λ (bytes : List ℕ). IsExtended run.output run.output_after bytes) t.told put })
replays_it run ended laws leaves telling folder name files set script is (sink_failed _ _ _ _ _ rose _) = absurd (is.answers.sink_answers rose)
replays_it run ended laws leaves telling folder name files set script is (no_memory six _ _) = inl six

-- an upload of the generated set to a target that can take it
tries_it : (run : Run) (ended : Ended) → EndLaws run.work.disk run.work.disk_after → (IsNo FormatsOrRollsBack run.work.words → LeavesFirstOrGood run.work.disk run.work.disk_after) → UploadLaws → (number : ℕ)
    → TriesSound run number → Ends run ended → (ended.status ≡ 6) ⊎ TellsUpload run ended number
tries_it run ended laws leaves uploads number is (told text all put) =
    let t = was_uploaded run number is uploads laws (leaves (trial_formats_none run.work.words number is.asked)) ended.status text all.says in
    inr (record {
      seen = t.seen;
      last = t.last;
      handed = t.is;
      standing = t.stands;
      sessions = t.one;
      loads = t.loads;
      status = t.done;
      text = subst (λ (bytes : List ℕ). IsExtended run.output run.output_after bytes) t.told put;
    })
tries_it run ended laws leaves uploads number is (sink_failed _ _ _ _ _ rose _) = absurd (is.sink_answers rose)
tries_it run ended laws leaves uploads number is (no_memory six _ _) = inl six

leaves_set : (laws : BuildingLaws) (run : Run) (ended : Ended) (folder : List ℕ) (files : Files) → WritesInto run.work.words folder → run.work.files ≡ Some files → ended.status ≡ 0
    → Ends run ended → LeavesSet run.work.words files folder run.work.files_after
leaves_set laws run ended folder files into tells zero (told text all put) = run_leaves laws run folder files ended.status text into tells zero all.says
leaves_set laws run ended folder files into tells zero (sink_failed _ _ _ _ _ _ is) = absurd (apart ended.status 6 zero is)
leaves_set laws run ended folder files into tells zero (no_memory is _ _) = absurd (apart ended.status 5 zero is)

-- ---- `list`, `format`, `rollback`, `show`

lists_only : ImageLaws → (run : Run) (s : StandingView) → ListsSound run s → (status : ℕ) (text : List ℕ) → Says run.work status text → (status ≡ 0) × (text ≡ listing s)
lists_only laws run s is status text says = by (says_of_list run.work status text is.asked says)
  where
    by : Lists run.work.disk run.work.disk_after status text → (status ≡ 0) × (text ≡ listing s)
    by (listed other holds size bank on zero tells) = (zero, tells ∙ ap listing (laws.one_standing is.image other s (holds is.image is.reads) is.holds))
    by (failed rose stopped _ _) = absurd (is.disk_answers rose)
    by (no_listing fault has other on _ _) = absurd (laws.not_both is.image s fault is.holds (has is.image is.reads))

formats_only : (run : Run) (id : Identity) → FormatsSound run id → (status : ℕ) (text : List ℕ) → Says run.work status text → (status ≡ 0) × (text ≡ formatted_line id)
formats_only run id is status text says =
    let (other, asked, found) = says_of_format run.work id status text is.asked says in
    by other (one_target run.work.words other id asked is.asked) found
  where
    by : (other : Identity) → other ≡ id → Formats run.work.disk run.work.disk_after other status text → (status ≡ 0) × (text ≡ formatted_line id)
    by other same (formatted_it tells holds rest settled on zero told_is) = (zero, told_is ∙ ap formatted_line same)
    by other same (formatting_failed rose stopped _ _) = absurd (is.disk_answers rose)

rolls_back_only : ImageLaws → FormerLaws → (run : Run) (active former : StandingView) → RollsBackSound run active former → (status : ℕ) (text : List ℕ) → Says run.work status text
    → (status ≡ 0) × (text ≡ listing (configured active former.loads))
rolls_back_only images laws run active former is status text says = by (says_of_rollback run.work status text is.asked says)
  where
    by : RollsBackAs run.work.disk run.work.disk_after status text → (status ≡ 0) × (text ≡ listing (configured active former.loads))
    by (rolled_back brought rolled zero tells) = (zero, tells ∙ ap listing (brought_is images laws is.image brought active former (rolled.brings is.image is.reads) is.holds is.holds_former))
    by (rollback_failed rose stopped _ _) = absurd (is.disk_answers rose)
    by (none_active fault has of on looked _ _) = absurd (images.not_both is.image active fault is.holds (has is.image is.reads))
    by (none_former fault refuses of looked _ _) = absurd (none_refused images laws is.image active former fault is.holds is.holds_former is.goes_on of (refuses is.image is.reads))

shows_only : ShownLaws → (run : Run) (kind : ShownKind) (file : List ℕ) (files : Files) (fields : List ℕ) → ShowsSound run kind file files fields → (status : ℕ) (text : List ℕ) → Says run.work status text
    → (status ≡ 0) × (text ≡ fields)
shows_only laws run kind file files fields is status text says =
    one_show laws kind files file run.work.host_faults run.work.host_faults_after run.work.host_faults run.work.host_faults_after is.answers.host_answers is.answers.host_answers status 0 text fields
    (subst (λ (f : Option Files). Shows kind f run.work.host_faults run.work.host_faults_after file status text) is.files (says_of_show run.work kind file status text is.asked says))
    (read is.bytes is.there is.short (shown is.spells refl))

pub as_promised : (laws : BuildingLaws) → UploadLaws → ImageLaws → FormerLaws → ShownLaws → (run : Run) (ended : Ended) → EndLaws run.work.disk run.work.disk_after
    → (IsNo FormatsOrRollsBack run.work.words → LeavesFirstOrGood run.work.disk run.work.disk_after) → Ends run ended → (ended.status ≢ 7 → run.sink_faults_after ≡ run.sink_faults) → EndsAsPromised run ended
as_promised laws uploads images formers shows run ended end_laws leaves ends tells = record {
  ends = ends;
  sink_told = tells;
  lists_it = λ s premise. succeeds run ended _ premise.sink_answers (lists_only images run s premise) ends;
  formats_it = λ id premise. succeeds run ended _ premise.sink_answers (formats_only run id premise) ends;
  rolls_it_back = λ active former premise. succeeds run ended _ premise.sink_answers (rolls_back_only images formers run active former premise) ends;
  shows_it = λ kind file files fields premise. succeeds run ended _ premise.answers.sink_answers (shows_only shows run kind file files fields premise) ends;
  finds_nothing = λ folder files premise. succeeds run ended _ premise.answers.sink_answers (λ status text says. clean_said run folder files status text premise says) ends;
  builds_it = λ recipe folder files lines premise. succeeds run ended _ premise.answers.sink_answers (λ status text says. build_said laws run recipe folder files lines status text premise says) ends;
  makes_it = λ number folder premise. succeeds run ended _ premise.answers.sink_answers (λ status text says. make_said run number folder status text premise says) ends;
  replays_it = λ telling folder name files set script premise. replays_it run ended end_laws leaves telling folder name files set script premise ends;
  tries_it = λ number premise. tries_it run ended end_laws leaves uploads number premise ends;
  leaves_set = λ folder files into tells zero. leaves_set laws run ended folder files into tells zero ends;
}
