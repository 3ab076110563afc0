-- Two runs on the same inputs, in which nothing fails, put the same.
use Rattle.std.proofs.Common.{◌≡◌, ◌⊎◌, inl, inr, ℕ, ◌<◌, ◌≤◌, List, length, Option, Some, refl, sym, ap, subst, ◌∙◌, arith}
use Rattle.std.specs.Prelude.{codes}
use Rattle.load_base.specs.Counts.{Rose}
use Rattle.load_base.specs.Host.{Files, longest_file}
use Rattle.load_base.specs.Sink.{IsExtended}
use Rattle.disk_model.specs.Image.{Image}
use Rattle.disk_model.specs.State.{DiskState}
use Rattle.disk_layout.specs.declared.identity.Identity.{Identity}
use Rattle.listing.specs.Listing.{listing}
use Rattle.media_check.specs.Openings.{IsTooLarge, IsTooLong}
use Rattle.media_check.specs.Sets.{SetView}
use Rattle.shown_files.specs.declared.kind.ShownKind.{ShownKind}
use Rattle.fixed_runs.specs.FixedRuns.{ActiveIsFixed, WholeRunsAreFixed}
use Rattle.loader_cli.specs.Commands.{CommandView, IsAny, IsCommand, IsNo}
use Rattle.loader_cli.specs.Commands.CommandView.{build, check, format, list, make, replay, rollback, show, trial, wire}
use Rattle.loader_cli.specs.FixedOutputs.{CallsSteadily, PutTheSame}
use Rattle.loader_cli.specs.Runs.{Checks, Ends, Finds, Formats, Lists, Run, Says, Shows, ShowsBytes, host_work, reading_of}
use Rattle.loader_cli.specs.Runs.Checks.{large_set, long_file, opened, set_unread}
use Rattle.loader_cli.specs.Runs.Ends.{no_memory, sink_failed, told}
use Rattle.loader_cli.specs.Runs.Finds.{clean, faulty_set}
use Rattle.loader_cli.specs.Runs.Formats.{formatted_it, formatting_failed}
use Rattle.loader_cli.specs.Runs.Lists.{failed, listed, no_listing}
use Rattle.loader_cli.specs.Runs.Says.{builds, checks, formats, lists, makes, refused, replays, rolls_back, shows, traces, tries}
use Rattle.loader_cli.specs.Runs.Shows.{absent, host_failed, read, too_long}
use Rattle.loader_cli.specs.Runs.ShowsBytes.{faulty, shown}
use Rattle.loader_cli.specs.Texts.{formatted_line, no_configuration, refused_input}
use Rattle.loader_cli.specs.declared.replay.Telling.TheVariants.{Report, Trace}
use Rattle.loader_cli.specs.declared.top_call.Ended.{Ended}
use Rattle.loader_cli.specs.CommandLaws.{FormerLaws, ImageLaws, ShownLaws}
use Rattle.loader_cli.proofs.Asked.{one_target, says_of_build, says_of_check, says_of_format, says_of_list, says_of_make, says_of_rollback, says_of_show}
use Rattle.loader_cli.proofs.BuiltOnce.{one_build, one_make, some_none, some_same}
use Rattle.loader_cli.proofs.OneOutput.{one_output_given, one_trial, said_of_replay, said_of_trial}
use Rattle.loader_cli.proofs.Refusals.{rest_is_large, rest_is_long, rest_passes, rest_refusal}
use Rattle.loader_cli.proofs.RolledBack.{one_rollback}
use Rattle.loader_cli.proofs.ShownOnce.{shown_once}
use Rattle.loader_cli.proofs.SteadyRuns.{DiskLaws}

-- ---- `list`, `format`

one_list : ImageLaws → (image : Image) (old new old_2 new_2 : DiskState) (a b : ℕ) (s t : List ℕ) → old.reads ≡ Some image → old_2.reads ≡ Some image → ¬ Rose old.faults new.faults
    → ¬ Rose old_2.faults new_2.faults → Lists old new a s → Lists old_2 new_2 b t → (a ≡ b) × (s ≡ t)
one_list laws image old new old_2 new_2 a b s t reads reads_2 answers answers_2 (listed one holds size bank on status text) (listed two holds_2 size_2 bank_2 on_2 status_2 text_2) =
    (status ∙ sym status_2, text ∙ (ap listing (laws.one_standing image one two (holds image reads) (holds_2 image reads_2)) ∙ sym text_2))
one_list laws image old new old_2 new_2 a b s t reads reads_2 answers answers_2 (listed one holds size bank on status text) (no_listing fault has other on_2 status_2 text_2) =
    absurd (laws.not_both image one fault (holds image reads) (has image reads_2))
one_list laws image old new old_2 new_2 a b s t reads reads_2 answers answers_2 (no_listing fault has other on status text) (listed one holds size bank on_2 status_2 text_2) =
    absurd (laws.not_both image one fault (holds image reads_2) (has image reads))
one_list laws image old new old_2 new_2 a b s t reads reads_2 answers answers_2 (no_listing fault has other on status text) (no_listing fault_2 has_2 other_2 on_2 status_2 text_2) =
    (status ∙ sym status_2, text ∙ (ap no_configuration (laws.one_fault image fault fault_2 (has image reads) (has_2 image reads_2)) ∙ sym text_2))
one_list laws image old new old_2 new_2 a b s t reads reads_2 answers answers_2 (failed rose stopped _ _) two = absurd (answers rose)
one_list laws image old new old_2 new_2 a b s t reads reads_2 answers answers_2 (listed one holds size bank on _ _) (failed rose stopped _ _) = absurd (answers_2 rose)
one_list laws image old new old_2 new_2 a b s t reads reads_2 answers answers_2 (no_listing fault has other on _ _) (failed rose stopped _ _) = absurd (answers_2 rose)

one_format : (id other : Identity) (old new old_2 new_2 : DiskState) (a b : ℕ) (s t : List ℕ) → formatted_line id ≡ formatted_line other → ¬ Rose old.faults new.faults → ¬ Rose old_2.faults new_2.faults
    → Formats old new id a s → Formats old_2 new_2 other b t → (a ≡ b) × (s ≡ t)
one_format id other old new old_2 new_2 a b s t same answers answers_2 (formatted_it _ _ _ _ _ status text) (formatted_it _ _ _ _ _ status_2 text_2) = (status ∙ sym status_2, text ∙ (same ∙ sym text_2))
one_format id other old new old_2 new_2 a b s t same answers answers_2 (formatted_it _ _ _ _ _ _ _) (formatting_failed rose _ _ _) = absurd (answers_2 rose)
one_format id other old new old_2 new_2 a b s t same answers answers_2 (formatting_failed rose _ _ _) two = absurd (answers rose)

-- ---- `show`

one_shown : ShownLaws → (kind : ShownKind) (name bytes : List ℕ) (a b : ℕ) (s t : List ℕ) → ShowsBytes kind name bytes a s → ShowsBytes kind name bytes b t → (a ≡ b) × (s ≡ t)
one_shown laws kind name bytes a b s t (shown fields status) (shown fields_2 status_2) = (status ∙ sym status_2, (shown_once laws kind bytes).fields s t fields fields_2)
one_shown laws kind name bytes a b s t (shown fields status) (faulty fault has status_2 text_2) = absurd ((shown_once laws kind bytes).apart s fault fields has)
one_shown laws kind name bytes a b s t (faulty fault has status text) (shown fields status_2) = absurd ((shown_once laws kind bytes).apart t fault fields has)
one_shown laws kind name bytes a b s t (faulty fault has status text) (faulty fault_2 has_2 status_2 text_2) =
    (status ∙ sym status_2, text ∙ (ap (refused_input name) ((shown_once laws kind bytes).faults fault fault_2 has has_2) ∙ sym text_2))

module _ (laws : ShownLaws) (kind : ShownKind) (known : Files) (name : List ℕ) (before after before_2 after_2 : ℕ) (answers : ¬ Rose before after) (answers_2 : ¬ Rose before_2 after_2) where
  not_short : (bytes : List ℕ) → known name ≡ Some bytes → length bytes ≤ longest_file → (bytes : List ℕ) × (known name ≡ Some bytes) × (longest_file < length bytes) → ⊥
  not_short bytes there short long =
      let same : bytes ≡ long.0 = some_same (sym there ∙ long.1) in
      let size : length bytes ≡ length long.0 = ap length same in
      let more = long.2 in
      absurd (omega (arith, size, short, more))

  pub one_show : (a b : ℕ) (s t : List ℕ) → Shows kind (Some known) before after name a s → Shows kind (Some known) before_2 after_2 name b t → (a ≡ b) × (s ≡ t)
  one_show a b s t (read bytes has short found) (read bytes_2 has_2 short_2 found_2) =
      let same : bytes_2 ≡ bytes = some_same (sym has_2 ∙ has) in
      one_shown laws kind name bytes a b s t found (subst (λ (l : List ℕ). ShowsBytes kind name l b t) same found_2)
  one_show a b s t (read bytes has short found) (absent none _ _) = absurd (some_none (sym has ∙ none))
  one_show a b s t (read bytes has short found) (too_long long _ _) = absurd (not_short bytes has short long)
  one_show a b s t (absent none status text) (absent none_2 status_2 text_2) = (status ∙ sym status_2, text ∙ sym text_2)
  one_show a b s t (absent none _ _) (read bytes has short found) = absurd (some_none (sym has ∙ none))
  one_show a b s t (absent none _ _) (too_long long _ _) = absurd (some_none (sym long.1 ∙ none))
  one_show a b s t (too_long long status text) (too_long long_2 status_2 text_2) = (status ∙ sym status_2, text ∙ sym text_2)
  one_show a b s t (too_long long _ _) (read bytes has short found) = absurd (not_short bytes has short long)
  one_show a b s t (too_long long _ _) (absent none _ _) = absurd (some_none (sym long.1 ∙ none))
  one_show a b s t (host_failed rose _ _) two = absurd (answers rose)
  one_show a b s t (read bytes has short found) (host_failed rose _ _) = absurd (answers_2 rose)
  one_show a b s t (absent none _ _) (host_failed rose _ _) = absurd (answers_2 rose)
  one_show a b s t (too_long long _ _) (host_failed rose _ _) = absurd (answers_2 rose)

-- ---- `check`

one_finds : (set : SetView) (a b : ℕ) (s t : List ℕ) → Finds set a s → Finds set b t → (a ≡ b) × (s ≡ t)
one_finds set a b s t (clean none status text) (clean none_2 status_2 text_2) = (status ∙ sym status_2, text ∙ sym text_2)
one_finds set a b s t (clean none status text) (faulty_set some status_2 text_2) = absurd (some none)
one_finds set a b s t (faulty_set some status text) (clean none status_2 text_2) = absurd (some none)
one_finds set a b s t (faulty_set some status text) (faulty_set some_2 status_2 text_2) = (status ∙ sym status_2, text ∙ sym text_2)

module _ (folder : List ℕ) (known : Files) (before after before_2 after_2 : ℕ) (answers : ¬ Rose before after) (answers_2 : ¬ Rose before_2 after_2) where
  abbrev of_folder : Option (List ℕ)
  of_folder = rest_refusal folder known (reading_of folder known)

  long_is : (name s : List ℕ) → IsTooLong known (reading_of folder known) name → s ≡ refused_input name (codes "toolong") → of_folder ≡ Some s
  long_is name s long tells = rest_is_long known folder (reading_of folder known) name long ∙ ap (λ (t : List ℕ). Some t) (sym tells)

  large_is : (s : List ℕ) → IsTooLarge known (reading_of folder known) → s ≡ refused_input folder (codes "toolarge") → of_folder ≡ Some s
  large_is s large tells = rest_is_large known folder (reading_of folder known) large ∙ ap (λ (t : List ℕ). Some t) (sym tells)

  one_check : (a b : ℕ) (s t : List ℕ) → Checks folder (Some known) before after a s → Checks folder (Some known) before_2 after_2 b t → (a ≡ b) × (s ≡ t)
  one_check a b s t (opened set has found) (opened set_2 has_2 found_2) =
      let same : set_2 ≡ set = (has_2 known refl).1 ∙ sym (has known refl).1 in
      one_finds set a b s t found (subst (λ (x : SetView). Finds x b t) same found_2)
  one_check a b s t (opened set has found) (long_file name long _ tells) = absurd (some_none (sym (long_is name t (long known refl) tells) ∙ rest_passes known folder (reading_of folder known) (has known refl).0))
  one_check a b s t (opened set has found) (large_set large _ tells) = absurd (some_none (sym (large_is t (large known refl) tells) ∙ rest_passes known folder (reading_of folder known) (has known refl).0))
  one_check a b s t (long_file name long _ tells) (opened set has found) = absurd (some_none (sym (long_is name s (long known refl) tells) ∙ rest_passes known folder (reading_of folder known) (has known refl).0))
  one_check a b s t (large_set large _ tells) (opened set has found) = absurd (some_none (sym (large_is s (large known refl) tells) ∙ rest_passes known folder (reading_of folder known) (has known refl).0))
  one_check a b s t (long_file name long status tells) (long_file name_2 long_2 status_2 tells_2) =
      (status ∙ sym status_2, some_same (sym (long_is name s (long known refl) tells) ∙ long_is name_2 t (long_2 known refl) tells_2))
  one_check a b s t (long_file name long status tells) (large_set large status_2 tells_2) =
      (status ∙ sym status_2, some_same (sym (long_is name s (long known refl) tells) ∙ large_is t (large known refl) tells_2))
  one_check a b s t (large_set large status tells) (long_file name long status_2 tells_2) =
      (status ∙ sym status_2, some_same (sym (large_is s (large known refl) tells) ∙ long_is name t (long known refl) tells_2))
  one_check a b s t (large_set large status tells) (large_set large_2 status_2 tells_2) = (status ∙ sym status_2, tells ∙ sym tells_2)
  one_check a b s t (set_unread rose _ _) two = absurd (answers rose)
  one_check a b s t (opened set has found) (set_unread rose _ _) = absurd (answers_2 rose)
  one_check a b s t (long_file name long _ _) (set_unread rose _ _) = absurd (answers_2 rose)
  one_check a b s t (large_set large _ _) (set_unread rose _ _) = absurd (answers_2 rose)

-- ---- any command

module _ (fixed : WholeRunsAreFixed) (active : ActiveIsFixed) (laws : ImageLaws) (formers : FormerLaws) (shows_laws : ShownLaws) (one two : Run) (first second : Ended) (words : List (List ℕ)) (known : Files) (image : Image)
    (is : CallsSteadily one first words known image) (so : CallsSteadily two second words known image) (at_end : DiskLaws one.work.disk_after) (at_end_2 : DiskLaws two.work.disk_after) where
  asked_too : (c : CommandView) → IsCommand one.work.words c → IsCommand two.work.words c
  asked_too c asked = subst (λ (w : List (List ℕ)). IsCommand w c) (is.asked ∙ sym so.asked) asked

  none_too : IsNo IsAny one.work.words → (c : CommandView) → IsCommand two.work.words c → ⊥
  none_too none c asked = none c (subst (λ (w : List (List ℕ)). IsCommand w c) (so.asked ∙ sym is.asked) asked) tt

  same_said : (a b : ℕ) (s t : List ℕ) → Says one.work a s → Says two.work b t → (a ≡ b) × (s ≡ t)
  same_said a b s t (refused none status text) (refused none_2 status_2 text_2) = (status ∙ sym status_2, text ∙ sym text_2)
  same_said a b s t (refused none _ _) (lists asked _) = absurd (none_too none list asked)
  same_said a b s t (refused none _ _) (formats id asked _) = absurd (none_too none (format id) asked)
  same_said a b s t (refused none _ _) (shows kind file asked _) = absurd (none_too none (show kind file) asked)
  same_said a b s t (refused none _ _) (checks folder asked _) = absurd (none_too none (check folder) asked)
  same_said a b s t (refused none _ _) (builds recipe folder asked _) = absurd (none_too none (build recipe folder) asked)
  same_said a b s t (refused none _ _) (makes number folder asked _) = absurd (none_too none (make number folder) asked)
  same_said a b s t (refused none _ _) (replays folder script asked _) = absurd (none_too none (replay folder script) asked)
  same_said a b s t (refused none _ _) (traces folder script asked _) = absurd (none_too none (wire folder script) asked)
  same_said a b s t (refused none _ _) (tries number asked _) = absurd (none_too none (trial number) asked)
  same_said a b s t (refused none _ _) (rolls_back asked _) = absurd (none_too none rollback asked)
  same_said a b s t (lists asked found) says =
      one_list laws image one.work.disk one.work.disk_after two.work.disk two.work.disk_after a b s t is.steady.reads so.steady.reads is.steady.disk_answers so.steady.disk_answers found
      (says_of_list two.work b t (asked_too list asked) says)
  same_said a b s t (formats id asked found) says =
      let (other, asked_2, found_2) = says_of_format two.work id b t (asked_too (format id) asked) says in
      one_format id other one.work.disk one.work.disk_after two.work.disk two.work.disk_after a b s t (ap formatted_line (one_target two.work.words id other (asked_too (format id) asked) asked_2))
      is.steady.disk_answers so.steady.disk_answers found found_2
  same_said a b s t (shows kind file asked found) says =
      one_show shows_laws kind known file one.work.host_faults one.work.host_faults_after two.work.host_faults two.work.host_faults_after is.steady.answers.host_answers so.steady.answers.host_answers a b s t
      (subst (λ (f : Option Files). Shows kind f one.work.host_faults one.work.host_faults_after file a s) is.files found)
      (subst (λ (f : Option Files). Shows kind f two.work.host_faults two.work.host_faults_after file b t) so.files (says_of_show two.work kind file b t (asked_too (show kind file) asked) says))
  same_said a b s t (checks folder asked found) says =
      one_check folder known one.work.host_faults one.work.host_faults_after two.work.host_faults two.work.host_faults_after is.steady.answers.host_answers so.steady.answers.host_answers a b s t
      (subst (λ (f : Option Files). Checks folder f one.work.host_faults one.work.host_faults_after a s) is.files found)
      (subst (λ (f : Option Files). Checks folder f two.work.host_faults two.work.host_faults_after b t) so.files (says_of_check two.work folder b t (asked_too (check folder) asked) says))
  same_said a b s t (builds recipe folder asked found) says =
      one_build recipe folder known (host_work one.work) (host_work two.work) is.files so.files is.steady.answers.host_answers so.steady.answers.host_answers a b s t found
      (says_of_build two.work recipe folder b t (asked_too (build recipe folder) asked) says)
  same_said a b s t (makes number folder asked found) says =
      one_make number folder (host_work one.work) (host_work two.work) a b s t is.steady.answers.host_answers so.steady.answers.host_answers found
      (says_of_make two.work number folder b t (asked_too (make number folder) asked) says)
  same_said a b s t (replays folder script asked found) says =
      one_output_given laws Report folder script known image a b s t
      (said_of_replay fixed active one first Report folder script known image (record { asked = asked; files = is.files; steady = is.steady; promised = is.promised }) at_end a s (replays folder script asked found))
      (said_of_replay fixed active two second Report folder script known image (record { asked = asked_too (replay folder script) asked; files = so.files; steady = so.steady; promised = so.promised }) at_end_2 b t says)
  same_said a b s t (traces folder script asked found) says =
      one_output_given laws Trace folder script known image a b s t
      (said_of_replay fixed active one first Trace folder script known image (record { asked = asked; files = is.files; steady = is.steady; promised = is.promised }) at_end a s (traces folder script asked found))
      (said_of_replay fixed active two second Trace folder script known image (record { asked = asked_too (wire folder script) asked; files = so.files; steady = so.steady; promised = so.promised }) at_end_2 b t says)
  same_said a b s t (tries number asked found) says =
      one_trial laws number image a b s t
      (said_of_trial fixed active one first number image (record { asked = asked; steady = is.steady; promised = is.promised }) at_end a s (tries number asked found))
      (said_of_trial fixed active two second number image (record { asked = asked_too (trial number) asked; steady = so.steady; promised = so.promised }) at_end_2 b t says)
  same_said a b s t (rolls_back asked found) says =
      one_rollback laws formers image one.work.disk one.work.disk_after two.work.disk two.work.disk_after is.steady.reads so.steady.reads is.steady.disk_answers so.steady.disk_answers a b s t found
      (says_of_rollback two.work b t (asked_too rollback asked) says)

  ended_alike : Ends one first → Ends two second → (first.status ≡ 6) ⊎ ((second.status ≡ 6) ⊎ PutTheSame one two first second)
  ended_alike (told text all put) (told text_2 all_2 put_2) =
      let same = same_said first.status second.status text text_2 all.says all_2.says in
      inr (inr (record { status = same.0; text = text; one_puts = put; two_puts = subst (λ (u : List ℕ). IsExtended two.output two.output_after u) (sym same.1) put_2 }))
  ended_alike (no_memory six _ _) two_ends = inl six
  ended_alike (sink_failed _ _ _ _ _ rose _) two_ends = absurd (is.steady.answers.sink_answers rose)
  ended_alike (told text all put) (no_memory six _ _) = inr (inl six)
  ended_alike (told text all put) (sink_failed _ _ _ _ _ rose _) = absurd (so.steady.answers.sink_answers rose)

  pub put_alike : (first.status ≡ 6) ⊎ ((second.status ≡ 6) ⊎ PutTheSame one two first second)
  put_alike = ended_alike is.promised.ends.ends so.promised.ends.ends
