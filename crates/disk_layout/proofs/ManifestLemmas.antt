-- Bytes are one manifest, or fail at one offset.
use Rattle.std.proofs.Common.{◌≡◌, ◌≢◌, ℕ, zero, suc, ◌+◌, ◌≤◌, List, [], ◌∷◌, ◌++◌, length, Bool, true, false, Some, None, Ok, Err, inl, inr, sym, ap, ◌∙◌, arith, length-append}
use Rattle.std.specs.List.{concat}
use Rattle.std.proofs.lemmas.List.Folds.{concat-append}
use Rattle.std.specs.Prelude.{nat_le, ◌==◌, ◌&&◌, ◌||◌, is_none}
use Rattle.load_base.specs.Host.{longest_file}
use Rattle.load_base.specs.Verdicts.{name_fault_of, part_text_fault_of}
use Rattle.field_grammar.specs.Fields.{number, raw, short}
use Rattle.field_grammar.specs.Grammar.{Grammar, give, choose, seq, pair, mapped, times, Stops, Spelled, Fault, IsBytes, IsDecided, EndsTheBytes, ended}
use Rattle.field_grammar.specs.Answers.{answer}
use Rattle.field_grammar.specs.declared.fault.FieldFault.{FieldFault}
use Rattle.field_grammar.proofs.ExactLemmas.{ends_at_end, ends_last, ends_before, answer_is_spelled, answer_is_fault, spelled_whole, decided}
use Rattle.disk_layout.specs.Offsets.{most_loads, most_files, layout_mark}
use Rattle.disk_layout.specs.Fields.{sound}
use Rattle.disk_layout.specs.Manifest.{LoadEntry, manifest, counted_loads, counted_files, to_load, to_file, first_number, load_count, manifest_head, head_after, in_layout, load_entry, type_number, type_of_load, file_entry, file_count, file_name, file_length, part}
use Rattle.disk_layout.specs.declared.manifest.Layout.{Layout}
use Rattle.disk_layout.specs.declared.manifest.Layout.TheVariants as layouts
use Rattle.disk_layout.specs.declared.manifest.ManifestFault.{ManifestFault}
use Rattle.disk_layout.specs.declared.manifest.ManifestFault.TheVariants.{Wrong, Memory}

-- wherever the format stops, the fault has an offset within the bytes
record HasOffsets {A : Type 0} (g : Grammar ManifestFault A) : Type 0 where
  each : (before : List ℕ) (fields : List (List ℕ)) (rest : List ℕ) (fault : ManifestFault) → Stops g before fields rest fault
      → (offset : ℕ) × (fault ≡ Wrong offset) × (offset ≤ length before + (length (concat fields) + length rest))

offsets_give : {A : Type 0} (x : A) → HasOffsets (give x)
offsets_give x = record { each = λ before fields rest fault stops. absurd stops }

offsets_seq : {A B : Type 0} (g : Grammar ManifestFault A) (k : A → Grammar ManifestFault B) → HasOffsets g → ((x : A) → HasOffsets (k x)) → HasOffsets (seq g k)
offsets_seq g k one two = record {
  each = λ before fields rest fault stops. elim stops [
    | inl first ↦ one.each before fields rest fault first
    | inr later ↦
        let (x, taken, others, parts, follows, last) = later in
        let (offset, is, within) = (two x).each (before ++ concat taken) others rest fault last in
        let sizes : length (concat fields) ≡ length (concat taken) + length (concat others) =
        ap (λ (f : List (List ℕ)). length (concat f)) parts ∙ ap length (concat-append taken others) ∙ length-append (concat taken) (concat others) in
        (offset, is, omega (arith, within, sizes, length-append before (concat taken)))
  ];
}

offsets_mapped : {A B : Type 0} (f : A → B) (g : Grammar ManifestFault A) → HasOffsets g → HasOffsets (mapped f g)
offsets_mapped f g one = offsets_seq g _ one (λ x. offsets_give (f x))

offsets_pair : {A B : Type 0} (g : Grammar ManifestFault A) (h : Grammar ManifestFault B) → HasOffsets g → HasOffsets h → HasOffsets (pair g h)
offsets_pair g h one two = offsets_seq g _ one (λ x. offsets_seq h _ two (λ y. offsets_give (x, y)))

offsets_times : {A : Type 0} (n : ℕ) (g : Grammar ManifestFault A) → HasOffsets g → HasOffsets (times n g)
unfolding times
offsets_times zero g one = offsets_give []
offsets_times (suc n) g one = offsets_seq g _ one (λ x. offsets_seq (times n g) _ (offsets_times n g one) (λ xs. offsets_give (x ∷ xs)))

offsets_sound : {A : Type 0} (g : Grammar FieldFault A) (test : A → Bool) → HasOffsets (sound Wrong g test)
offsets_sound g test = record {
  each = λ before fields rest fault stops. elim stops [
    | inl none ↦ absurd none
    | inr found ↦
        let (prefix_is, taken, others, parts, follows, later) = found in
        let here : length prefix_is ≤ length before + (length (concat fields) + length rest) = rw (← follows.1) (omega arith) in
        elim later [
          | inl short ↦ (length prefix_is, sym short.2, here)
          | inr tested ↦ elim tested.5 [
            | inl wrong ↦ (length prefix_is, sym wrong.2, here)
            | inr given ↦ absurd given.5
          ]
        ]
  ];
}

offsets_ended : HasOffsets (ended Wrong)
offsets_ended = record {
  each = λ before fields rest fault stops. elim stops [
    | inl none ↦ absurd none
    | inr found ↦
        let (prefix_is, taken, others, parts, follows, later) = found in
        let here : length prefix_is ≤ length before + (length (concat fields) + length rest) = rw (← follows.1) (omega arith) in
        elim later [ inl none ↦ absurd none | inr tested ↦ (length prefix_is, sym tested.5.2, here) ]
  ];
}

offsets_file : HasOffsets file_entry
unfolding file_entry file_name file_length
offsets_file =
    offsets_mapped to_file (pair file_name file_length)
    (offsets_pair file_name file_length (offsets_sound short (λ text. is_none (name_fault_of text))) (offsets_sound (number 4) (λ n. nat_le n longest_file)))

offsets_choose : {A : Type 0} (b : Bool) (g h : Grammar ManifestFault A) → HasOffsets g → HasOffsets h → HasOffsets (choose b g h)
offsets_choose true g h one two = record { each = λ before fields rest fault stops. one.each before fields rest fault stops }
offsets_choose false g h one two = record { each = λ before fields rest fault stops. two.each before fields rest fault stops }

offsets_type : (layout : Layout) → HasOffsets (type_of_load layout)
unfolding type_number
offsets_type layouts.One = offsets_give None
offsets_type layouts.Two = offsets_mapped (λ n. Some n) type_number (offsets_sound (number 2) (λ n. true))

offsets_load : (layout : Layout) → HasOffsets (load_entry layout)
unfolding load_entry part file_count
offsets_load layout =
    offsets_mapped to_load (pair part (pair (type_of_load layout) counted_files))
    (offsets_pair part (pair (type_of_load layout) counted_files) (offsets_sound (raw 15) (λ text. is_none (part_text_fault_of text)))
    (offsets_pair (type_of_load layout) counted_files (offsets_type layout)
    (offsets_seq file_count _ (offsets_sound (number 2) (λ n. nat_le 1 n && nat_le n most_files)) (λ count. offsets_times count file_entry offsets_file))))

offsets_head : HasOffsets manifest_head
unfolding manifest_head first_number load_count
offsets_head =
    offsets_seq first_number head_after (offsets_sound (number 2) (λ n. n == layout_mark || nat_le n most_loads))
    (λ first. offsets_choose (first == layout_mark) (mapped (in_layout layouts.Two) load_count) (give (in_layout layouts.One first))
    (offsets_mapped (in_layout layouts.Two) load_count (offsets_sound (number 2) (λ n. nat_le n most_loads))) (offsets_give (in_layout layouts.One first)))

offsets_manifest : HasOffsets manifest
unfolding manifest
offsets_manifest =
    offsets_seq counted_loads _ (offsets_seq manifest_head _ offsets_head (λ head. offsets_times head.loads (load_entry head.layout) (offsets_load head.layout)))
    (λ loads. offsets_seq (ended Wrong) _ offsets_ended (λ u. offsets_give loads))

-- a fault of a manifest has an offset within the bytes
pub fault_has_offset : (bytes : List ℕ) (fault : ManifestFault) → Fault manifest bytes fault → (offset : ℕ) × (fault ≡ Wrong offset) × (offset ≤ length bytes)
fault_has_offset bytes fault faulty =
    let (fields, rest, parts, stops) = faulty in
    let (offset, is, within) = offsets_manifest.each [] fields rest fault stops in
    (offset, is, omega (arith, within, ap length parts ∙ length-append (concat fields) rest))

wrong_is_no_want : (offset : ℕ) → Wrong offset ≢ Memory
wrong_is_no_want offset e = cc

-- a manifest ends its bytes
pub manifest_ends : EndsTheBytes manifest
unfolding manifest
manifest_ends = ends_last _ _ (λ loads. ends_before _ _ (ends_at_end Wrong))

-- ---- what reading one gives

-- loads that the bytes are read as are spelled by them
pub manifest_found : (bytes : List ℕ) (loads : List LoadEntry) → IsBytes bytes → answer manifest bytes ≡ Ok loads → Spelled manifest bytes loads
manifest_found bytes loads fit e = spelled_whole manifest bytes loads manifest_ends (answer_is_spelled manifest bytes loads fit e)

-- an offset at which they are refused is their fault
pub manifest_faulty : (bytes : List ℕ) (offset : ℕ) → IsBytes bytes → answer manifest bytes ≡ Err (Wrong offset) → Fault manifest bytes (Wrong offset)
manifest_faulty bytes offset fit e = answer_is_fault manifest bytes (Wrong offset) fit e

-- they are not refused because it is out of memory
pub manifest_never_wants : (bytes : List ℕ) → IsBytes bytes → answer manifest bytes ≡ Err Memory → ⊥
manifest_never_wants bytes fit e =
    let found = fault_has_offset bytes Memory (answer_is_fault manifest bytes Memory fit e) in
    wrong_is_no_want found.0 (sym found.1)

-- bytes are one manifest, or fail at one fault
pub manifest_decided : (bytes : List ℕ) → IsBytes bytes → IsDecided manifest bytes
manifest_decided bytes fit = decided manifest bytes manifest_ends fit
