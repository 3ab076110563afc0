-- Inputs give one output, and runs on the same inputs put it.
use Rattle.std.proofs.Common.{◌≡◌, ◌⊎◌, inl, inr, ℕ, List, Option, Some, None, sym, ap, subst, ◌∙◌}
use Rattle.std.specs.Prelude.{◌-◌, map, slice_get}
use Rattle.std.specs.Map.{lookup}
use Rattle.std.proofs.lemmas.Option.{slice_get-map}
use Rattle.std.proofs.lemmas.Simd.{map-map}
use Rattle.load_base.specs.Bytes.{same_bytes}
use Rattle.load_base.specs.Host.{Files}
use Rattle.load_base.specs.Listed.{Listed}
use Rattle.load_base.specs.Sink.{IsExtended}
use Rattle.disk_model.specs.Image.{Image}
use Rattle.disk_layout.specs.Holds.{HasDiskFault, StandingView}
use Rattle.disk_layout.specs.Identity.{identity}
use Rattle.disk_layout.specs.Offsets.{longest_identity}
use Rattle.disk_layout.specs.declared.fault.RecoverFault.{RecoverFault}
use Rattle.disk_layout.specs.declared.identity.Identity.{Identity}
use Rattle.disk_model.specs.Image.{range}
use Rattle.field_grammar.proofs.ExactLemmas.{one_value}
use Rattle.exchange_trace.specs.Lines.{Line}
use Rattle.exchange_trace.specs.Scripts.{script_said}
use Rattle.media_lists.specs.declared.lists.ListedFile.{ListedFile}
use Rattle.media_build.specs.NoFindings.{body_view, built_view}
use Rattle.media_build.specs.RecipeSets.{BodyView, BuiltView}
use Rattle.media_check.specs.BuiltSets.{body_of, built_media, member_list}
use Rattle.media_check.specs.Sets.{MediaBytes, SetView, set_in}
use Rattle.media_check.specs.declared.built.Built.{Built}
use Rattle.media_check.specs.declared.built.Placed.{Placed}
use Rattle.session_rules.specs.Loader.{EndedSession}
use Rattle.fixed_runs.specs.FixedRuns.{ActiveIsFixed, WholeRunsAreFixed, whole_run}
use Rattle.loader_cli.specs.FixedOutputs.{ReplayGives, GivesRun, GivesTrial, PutTheSame, PutsOnly, ReplaysSteadily, TriesSteadily, sessions_by, text_by}
use Rattle.loader_cli.specs.FixedOutputs.ReplayGives.{refuses, runs}
use Rattle.loader_cli.specs.FixedOutputs.GivesRun.{held, unheld}
use Rattle.loader_cli.specs.FixedOutputs.GivesTrial.{tries, untried}
use Rattle.loader_cli.specs.Replays.{Replays, StatusOfRun, setting_of}
use Rattle.loader_cli.specs.Replays.Replays.{ran, unread}
use Rattle.loader_cli.specs.Replays.StatusOfRun.{all_completed, not_completed}
use Rattle.loader_cli.specs.Runs.{Ends, Run, Says}
use Rattle.loader_cli.specs.Runs.Ends.{no_memory, sink_failed, told}
use Rattle.loader_cli.specs.Texts.{no_configuration}
use Rattle.generated_uploads.specs.GeneratedMedia.{IsGeneratedSet}
use Rattle.generated_uploads.specs.GeneratedUploads.{trial_script}
use Rattle.loader_cli.specs.Trials.{Trials}
use Rattle.loader_cli.specs.Trials.Trials.{no_target, target_unread, tried}
use Rattle.loader_cli.specs.declared.replay.Telling.{Telling}
use Rattle.loader_cli.specs.declared.replay.Telling.TheVariants.{Report}
use Rattle.loader_cli.specs.declared.top_call.Ended.{Ended}
use Rattle.loader_cli.specs.CommandLaws.{ImageLaws}
use Rattle.loader_cli.proofs.Asked.{formats_none, says_of_run, says_of_trial, trial_formats_none}
use Rattle.loader_cli.proofs.Refusals.{inputs_pass, inputs_refused}
use Rattle.loader_cli.proofs.ReplayRuns.{same_script, same_set}
use Rattle.loader_cli.proofs.SteadyRuns.{DiskLaws, outcome_gives}

-- ---- one output

one_status : (sessions : List EndedSession) (a b : ℕ) → StatusOfRun sessions a → StatusOfRun sessions b → a ≡ b
one_status sessions a b (all_completed all is) (all_completed every so) = is ∙ sym so
one_status sessions a b (all_completed all is) (not_completed none so) = absurd (none all)
one_status sessions a b (not_completed none is) (all_completed all so) = absurd (none all)
one_status sessions a b (not_completed none is) (not_completed none_2 so) = is ∙ sym so

same_some : {A : Type 0} {a b : A} → Some a ≡ Some b → a ≡ b
same_some same = cc

some_none : {A : Type 0} {a : A} → Some a ≡ None → ⊥
some_none same = absurd cc

module _ (laws : ImageLaws) (telling : Telling) (image : Image) where
  one_run : (set : SetView) (script : List Line) (a b : ℕ) (s t : List ℕ) → GivesRun telling set script image a s → GivesRun telling set script image b t → (a ≡ b) × (s ≡ t)
  one_run set script a b s t (held start holds status text) (held other holds_2 status_2 text_2) =
      let same : other ≡ start = laws.one_standing image other start holds_2 holds in
      let S = setting_of set start in (
        one_status (sessions_by S (whole_run S script)) a b status
            (subst (λ (x : StandingView). StatusOfRun (sessions_by (setting_of set x) (whole_run (setting_of set x) script)) b) same status_2),
        text ∙ sym (subst (λ (x : StandingView). t ≡ text_by telling (setting_of set x) (whole_run (setting_of set x) script)) same text_2),
      )
  one_run set script a b s t (held start holds status text) (unheld fault has _ _) = absurd (laws.not_both image start fault holds has)
  one_run set script a b s t (unheld fault has _ _) (held start holds status text) = absurd (laws.not_both image start fault holds has)
  one_run set script a b s t (unheld fault has status text) (unheld other has_2 status_2 text_2) =
      (status ∙ sym status_2, text ∙ (ap no_configuration (laws.one_fault image fault other has has_2) ∙ sym text_2))

  module _ (folder name : List ℕ) (files : Files) where
    one_output : (a b : ℕ) (s t : List ℕ) → ReplayGives telling folder name files image a s → ReplayGives telling folder name files image b t → (a ≡ b) × (s ≡ t)
    one_output a b s t (runs set script has gives) (runs other script_2 has_2 gives_2) =
        one_run set script a b s t gives
        (subst (λ (x : SetView). GivesRun telling x script image b t) (same_set script_said folder name files set other script script_2 has has_2)
        (subst (λ (x : List Line). GivesRun telling other x image b t) (same_script script_said folder name files set other script script_2 has has_2) gives_2))
    one_output a b s t (runs set script has gives) (refuses before after answers refused) =
        absurd (some_none (sym (inputs_refused folder name files before after b t answers refused).1 ∙ inputs_pass folder name files set script has))
    one_output a b s t (refuses before after answers refused) (runs set script has gives) =
        absurd (some_none (sym (inputs_refused folder name files before after a s answers refused).1 ∙ inputs_pass folder name files set script has))
    one_output a b s t (refuses before after answers refused) (refuses before_2 after_2 answers_2 refused_2) =
        let one = inputs_refused folder name files before after a s answers refused in
        let two = inputs_refused folder name files before_2 after_2 b t answers_2 refused_2 in
        (one.0 ∙ sym two.0, same_some (sym one.1 ∙ two.1))

pub one_output_given : ImageLaws → (telling : Telling) (folder name : List ℕ) (files : Files) (image : Image) (a b : ℕ) (s t : List ℕ) → ReplayGives telling folder name files image a s
    → ReplayGives telling folder name files image b t → (a ≡ b) × (s ≡ t)
one_output_given laws telling folder name files image a b s t one two = one_output laws telling image folder name files a b s t one two

-- ---- what is put

module _ (fixed : WholeRunsAreFixed) (active : ActiveIsFixed) (run : Run) (ended : Ended) (telling : Telling) (folder name : List ℕ) (files : Files) (image : Image)
    (is : ReplaysSteadily run ended telling folder name files image) (laws : DiskLaws run.work.disk_after) where
  given : (status : ℕ) (text : List ℕ) → Replays telling folder name (Some files) run.work.host_faults run.work.host_faults_after run.work.disk run.work.disk_after run.work.handed status text
      → ReplayGives telling folder name files image status text
  given status text (ran set script has ran_to) =
      runs set script has
      (outcome_gives fixed active telling set script image run.work.disk run.work.disk_after run.work.handed laws (is.promised.leaves.while_running (formats_none telling run.work.words folder name is.asked))
      is.steady.reads is.steady.rests is.steady.disk_answers is.steady.stays_up status text ran_to)
  given status text (unread refused kept handed) = refuses run.work.host_faults run.work.host_faults_after is.steady.answers.host_answers refused

  pub said_of_replay : (status : ℕ) (text : List ℕ) → Says run.work status text → ReplayGives telling folder name files image status text
  said_of_replay status text says =
      given status text
      (subst (λ (known : Option Files). Replays telling folder name known run.work.host_faults run.work.host_faults_after run.work.disk run.work.disk_after run.work.handed status text) is.files
      (says_of_run telling run.work folder name status text is.asked says))

  put_by : Ends run ended → PutsOnly run ended (ReplayGives telling folder name files image)
  put_by (told text all put) = inr (text, said_of_replay ended.status text all.says, put)
  put_by (sink_failed _ _ _ _ _ rose _) = absurd (is.steady.answers.sink_answers rose)
  put_by (no_memory six _ _) = inl six

  pub puts_only : PutsOnly run ended (ReplayGives telling folder name files image)
  puts_only = put_by is.promised.ends.ends

-- two runs that put only what holds of one status and one text
pub put_the_same : (Says : ℕ → List ℕ → Type 0) → ((a b : ℕ) (s t : List ℕ) → Says a s → Says b t → (a ≡ b) × (s ≡ t)) → (one two : Run) (first second : Ended) → PutsOnly one first Says → PutsOnly two second Says
    → (first.status ≡ 6) ⊎ ((second.status ≡ 6) ⊎ PutTheSame one two first second)
put_the_same Says single one two first second (inl six) other = inl six
put_the_same Says single one two first second (inr puts) (inl six) = inr (inl six)
put_the_same Says single one two first second (inr (text, says, put)) (inr (text_2, says_2, put_2)) =
    let same = single first.status second.status text text_2 says says_2 in
    inr (inr (record {
      status = same.0;
      text = text;
      one_puts = put;
      two_puts = subst (λ (t : List ℕ). IsExtended two.output two.output_after t) (sym same.1) put_2;
    }))

-- ---- `trial`

-- media that tell the same are the same
same_media : (m n : MediaBytes) → ((k : ℕ) → m.loads_list k ≡ n.loads_list k) → ((k : ℕ) → m.files_list k ≡ n.files_list k) → ((k : ℕ) → m.batches_list k ≡ n.batches_list k)
    → ((e : ListedFile) → m.listed e ≡ n.listed e) → m ≡ n
same_media m n loads files batches listed = λ i. record { loads_list = λ k. loads k i; files_list = λ k. files k i; batches_list = λ k. batches k i; listed = λ e. listed e i }

same_member : (one two : List (Listed ℕ)) (k : ℕ) → map (λ (list : Listed ℕ). list.items) one ≡ map (λ (list : Listed ℕ). list.items) two → member_list one k ≡ member_list two k
same_member one two k same =
    sym (slice_get-map (λ (list : Listed ℕ). list.items) one (k - 1))
    ∙ (ap (λ (lists : List (List ℕ)). slice_get lists (k - 1)) same ∙ slice_get-map (λ (list : Listed ℕ). list.items) two (k - 1))

abbrev named : BodyView → List ℕ × List ℕ
named body = (body.name, body.bytes)

same_body : (one two : List Placed) (name : List ℕ) → map body_view one ≡ map body_view two → body_of one name ≡ body_of two name
same_body one two name same =
    ap (lookup (same_bytes name)) (sym (map-map named body_view one) ∙ (ap (map named) same ∙ map-map named body_view two))

one_built : (one two : Built) → built_view one ≡ built_view two → set_in (built_media one) ≡ set_in (built_media two)
one_built one two same =
    ap set_in (same_media (built_media one) (built_media two)
    (λ k. same_member one.loads.items two.loads.items k (ap (λ (b : BuiltView). b.loads) same))
    (λ k. same_member one.files.items two.files.items k (ap (λ (b : BuiltView). b.files) same))
    (λ k. same_member one.batches.items two.batches.items k (ap (λ (b : BuiltView). b.batches) same))
    (λ e. same_body one.bodies.items two.bodies.items e.name (ap (λ (b : BuiltView). b.bodies) same)))

one_set : (number : ℕ) (one two : SetView) → IsGeneratedSet number one → IsGeneratedSet number two → two ≡ one
one_set number one two first second = second.holds ∙ (one_built second.built first.built (second.made ∙ sym first.made) ∙ sym first.holds)

module _ (laws : ImageLaws) (number : ℕ) (image : Image) where
  fault_only : (set : SetView) (script : List Line) (fault : RecoverFault) (a : ℕ) (s : List ℕ) → HasDiskFault image fault → GivesRun Report set script image a s → (a ≡ 8) × (s ≡ no_configuration fault)
  fault_only set script fault a s none (held start holds _ _) = absurd (laws.not_both image start fault holds none)
  fault_only set script fault a s none (unheld other has status text) = (status, text ∙ ap no_configuration (laws.one_fault image other fault has none))

  pub one_trial : (a b : ℕ) (s t : List ℕ) → GivesTrial number image a s → GivesTrial number image b t → (a ≡ b) × (s ≡ t)
  one_trial a b s t (tries id set names is gives) (tries other set_2 names_2 is_2 gives_2) =
      one_run laws Report image set (trial_script id) a b s t gives
      (subst (λ (x : SetView). GivesRun Report x (trial_script id) image b t) (one_set number set set_2 is is_2)
      (subst (λ (x : Identity). GivesRun Report set_2 (trial_script x) image b t) (one_value identity (range image 0 longest_identity) other id names_2 names) gives_2))
  one_trial a b s t (tries id set names is gives) (untried fault none status text) =
      let only = fault_only set (trial_script id) fault a s none gives in (only.0 ∙ sym status, only.1 ∙ sym text)
  one_trial a b s t (untried fault none status text) (tries id set names is gives) =
      let only = fault_only set (trial_script id) fault b t none gives in (status ∙ sym only.0, text ∙ sym only.1)
  one_trial a b s t (untried fault none status text) (untried other none_2 status_2 text_2) =
      (status ∙ sym status_2, text ∙ (ap no_configuration (laws.one_fault image fault other none none_2) ∙ sym text_2))

module _ (fixed : WholeRunsAreFixed) (active : ActiveIsFixed) (run : Run) (ended : Ended) (number : ℕ) (image : Image) (is : TriesSteadily run ended number image)
    (laws : DiskLaws run.work.disk_after) where
  trial_given : (status : ℕ) (text : List ℕ) → Trials number run.work.disk run.work.disk_after run.work.handed status text → GivesTrial number image status text
  trial_given status text (tried id set names generated ran_to) =
      tries id set (names image is.steady.reads) generated
      (outcome_gives fixed active Report set (trial_script id) image run.work.disk run.work.disk_after run.work.handed laws (is.promised.leaves.while_running (trial_formats_none run.work.words number is.asked))
      is.steady.reads is.steady.rests is.steady.disk_answers is.steady.stays_up status text ran_to)
  trial_given status text (target_unread read rose stopped handed _ _) = absurd (is.steady.disk_answers rose)
  trial_given status text (no_target fault other none_held handed eight tells) = untried fault (none_held.none image is.steady.reads) eight tells

  pub said_of_trial : (status : ℕ) (text : List ℕ) → Says run.work status text → GivesTrial number image status text
  said_of_trial status text says = trial_given status text (says_of_trial run.work number status text is.asked says)

  trial_put_by : Ends run ended → PutsOnly run ended (GivesTrial number image)
  trial_put_by (told text all put) = inr (text, said_of_trial ended.status text all.says, put)
  trial_put_by (sink_failed _ _ _ _ _ rose _) = absurd (is.steady.answers.sink_answers rose)
  trial_put_by (no_memory six _ _) = inl six

  pub trial_puts_only : PutsOnly run ended (GivesTrial number image)
  trial_puts_only = trial_put_by is.promised.ends.ends
