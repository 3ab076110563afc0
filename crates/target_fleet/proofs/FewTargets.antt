-- A batch of a media set has 64 targets at most, and one of which an upload is asked next has a target that is left.
use Rattle.std.proofs.Common.{◌≡◌, inl, inr, ℕ, ◌<◌, ◌≤◌, Bool, true, false, cond, List, length, Option, Some, None, Result, Ok, Err, refl, sym, ap, subst, ◌∙◌}
use Rattle.std.specs.Prelude.{◌↔◌, option_map, slice_get}
use Rattle.std.specs.Map.{lookup}
use Rattle.std.proofs.lemmas.Bool.{ltb-true}
use Rattle.load_base.specs.Bytes.{same_bytes}
use Rattle.batch_lists.specs.Batch.{BatchView, batch}
use Rattle.batch_lists.specs.BatchFields.{BatchSpells}
use Rattle.batch_lists.specs.declared.batches.BatchEntry.{BatchEntry}
use Rattle.batch_lists.specs.declared.fault.BatchFault.{BatchFault}
use Rattle.field_grammar.specs.Answers.{answer}
use Rattle.field_grammar.proofs.ExactLemmas.{answer-fault}
use Rattle.field_grammar.specs.Grammar.{IsBytes, IsDecided, Spelled}
use Rattle.media_check.specs.Batches.{batch_found, batch_kept, batch_of_entry, first_batch, read_as_batch}
use Rattle.media_check.specs.Kept.{ListedFileView, entries_of, found_as, found_in}
use Rattle.media_check.specs.Sets.{AreFilesBytes, SetView, bytes_found}
use Rattle.target_fleet.specs.Asking.{LastAsked, Last_completed, Last_open, Last_otherwise, None_asked, UnitPlace, UnitUpload, may_go_on, next_in_batch, upload_to}
use Rattle.target_fleet.specs.AskingCalls.{HaveFewTargets}

module _ (decided : (bytes : List ℕ) → IsBytes bytes → IsDecided batch bytes) (spelled : (v : BatchView) (bytes : List ℕ) → Spelled batch bytes v ↔ BatchSpells v bytes)
    (read_again : (v : BatchView) (bytes : List ℕ) → BatchSpells v bytes → answer batch bytes ≡ Ok v) where
  read_is_spelled : (bytes : List ℕ) (v : BatchView) → IsBytes bytes → answer batch bytes ≡ Ok v → BatchSpells v bytes
  read_is_spelled bytes v fit e = elim ((decided bytes fit).one_or_other) [
    | inl value ↦ let spells = (spelled value.0 bytes).0 value.1 in
        let both : Ok value.0 ≡ Ok v = sym (read_again value.0 bytes spells) ∙ e in
        let same : value.0 ≡ v = cc in
        subst (λ (x : BatchView). BatchSpells x bytes) same spells
    | inr fault ↦ absurd (let both : Err fault.0 ≡ Ok v = sym (answer-fault batch bytes fault.0 fault.1) ∙ e in cc)
  ]

  pub few_targets : (shown : SetView) → AreFilesBytes shown → HaveFewTargets shown
  few_targets shown files part v e = of_entry (first_batch part (entries_of shown.first.batches)) e
    where
      of_answer : (bytes : List ℕ) → IsBytes bytes → (r : Result BatchView BatchFault) → answer batch bytes ≡ r → batch_found (found_as r) ≡ Some v → length v.targets ≤ 64
      of_answer bytes fit (Err fault) is none = absurd cc
      of_answer bytes fit (Ok w) is some =
          let same : w ≡ v = cc in
          let spells = read_is_spelled bytes v fit (is ∙ ap (λ (x : BatchView). Ok x) same) in
          spells.0.contents.count.1

      of_file : (name : List ℕ) (bytes : Option (List ℕ)) → bytes_found (lookup (same_bytes name) shown.files) ≡ bytes → batch_found (found_in batch bytes) ≡ Some v → length v.targets ≤ 64
      of_file name None is none = absurd cc
      of_file name (Some bytes) is some = of_answer bytes (files name bytes is).0 (answer batch bytes) refl some

      of_listed : (name : List ℕ) (file : Option ListedFileView) → lookup (same_bytes name) shown.files ≡ file → batch_kept (option_map read_as_batch file) ≡ Some v → length v.targets ≤ 64
      of_listed name None is none = absurd cc
      of_listed name (Some file) is some = of_file name file.bytes (ap bytes_found is) some

      of_entry : (entry : Option BatchEntry) → batch_of_entry shown.files entry ≡ Some v → length v.targets ≤ 64
      of_entry None none = absurd cc
      of_entry (Some entry) some = of_listed entry.file (lookup (same_bytes entry.file) shown.files) refl some

-- ---- where an upload is asked next

goes_on_below : (asked targets : ℕ) (last : LastAsked) → may_go_on asked targets last ≡ true → asked < targets
goes_on_below asked targets None_asked goes = ltb-true asked targets goes
goes_on_below asked targets Last_completed goes = ltb-true asked targets goes
goes_on_below asked targets Last_open goes = absurd cc
goes_on_below asked targets Last_otherwise goes = absurd cc

pub one_is_left : (places : List UnitPlace) (asked : ℕ) (last : LastAsked) (listed : BatchView) (next : UnitUpload) → next_in_batch places asked last (Some listed) ≡ Some next → asked < length listed.targets
one_is_left places asked last listed next e = by (may_go_on asked (length listed.targets) last) refl e
  where
    by : (b : Bool) → may_go_on asked (length listed.targets) last ≡ b → cond b (upload_to places (slice_get listed.targets asked)) None ≡ Some next → asked < length listed.targets
    by true goes e = goes_on_below asked (length listed.targets) last goes
    by false goes e = absurd cc
