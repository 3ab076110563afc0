-- How many bytes a batch has.
use Rattle.std.proofs.Common.{◌≡◌, ℕ, ◌+◌, ◌*◌, ◌/◌, ◌%◌, ◌<◌, ◌≤◌, List, ◌++◌, length, arith}
use Rattle.std.specs.Prelude.{map}
use Rattle.std.specs.List.{concat, flat_map, All}
use Rattle.std.proofs.lemmas.List.{get_or-map, length-map}
use Rattle.std.proofs.lemmas.List.Elements.{All-map}
use Rattle.crc_fields.specs.CheckSums.{crc16_of}
use Rattle.part_number.specs.PartNumber.{IsPartNumberText}
use Rattle.part_number.proofs.VerdictLemmas.{part_size}
use Rattle.field_grammar.specs.Spelling.{spelled_length}
use Rattle.field_grammar.specs.Fields.{number_fields, padded_fields}
use Rattle.field_grammar.proofs.SectionLemmas.{size_more, size_number, size_padded}
use Rattle.field_grammar.proofs.WrittenLemmas.{at_most_each}
use Rattle.header_sections.specs.SectionFields.{texts_fields}
use Rattle.header_sections.proofs.SizeLemmas.{even_all, even_padded, even_texts, size_texts}
use Rattle.batch_lists.specs.Batch.{BatchTargetView, BatchView, batch_target_view, batch_view}
use Rattle.batch_lists.specs.BatchFields.{batch_target_fields, batch_targets_fields, contents_fields, start_fields, batch_size, covered_fields, batch_fields, IsCount, IsBatchTarget, AreContents, IsBatch}
use Rattle.batch_lists.specs.declared.batch.Batch.{Batch}
use Rattle.batch_lists.specs.declared.batch.BatchTarget.{BatchTarget}

-- ---- an even number

size_target : (t : BatchTargetView) → spelled_length (batch_target_fields t) ≡ spelled_length (padded_fields t.hw) + spelled_length (padded_fields t.pos) + spelled_length (texts_fields t.parts)
size_target t = omega (arith, size_more (padded_fields t.hw) (padded_fields t.pos ++ texts_fields t.parts), size_more (padded_fields t.pos) (texts_fields t.parts))

even_target : (t : BatchTargetView) → spelled_length (batch_target_fields t) % 2 ≡ 0
even_target t = omega (arith, size_target t, even_padded t.hw, even_padded t.pos, even_texts t.parts)

size_contents : (v : BatchView) → spelled_length (contents_fields v) ≡ 4 + spelled_length (padded_fields v.part) + spelled_length (flat_map batch_target_fields v.targets)
unfolding contents_fields batch_targets_fields
size_contents v =
    let all : List (List ℕ) = flat_map batch_target_fields v.targets in
    let counted : List (List ℕ) = number_fields 2 (length v.targets) ++ all in
    omega (arith, size_more (number_fields 2 0) (padded_fields v.part ++ counted), size_more (padded_fields v.part) counted, size_more (number_fields 2 (length v.targets)) all, size_number 2 0, size_number 2 (length v.targets))

pub even_batch_size : (v : BatchView) → batch_size v % 2 ≡ 0
unfolding batch_size
even_batch_size v = omega (arith, size_contents v, even_padded v.part, even_all batch_target_fields even_target v.targets)

-- ---- at most so many

small_part : (text : List ℕ) → IsPartNumberText text → length (concat (padded_fields text)) ≤ 18
small_part text is = omega (arith, size_padded text, part_size text is)

small_target : (t : BatchTargetView) → IsBatchTarget t → length (concat (batch_target_fields t)) ≤ 622
small_target t is =
    let parts : length (concat (flat_map padded_fields t.parts)) ≤ length t.parts * 18 = at_most_each padded_fields (λ text. IsPartNumberText text) 18 small_part t.parts is.parts in
    omega (arith, size_target t, size_padded t.hw, size_padded t.pos, size_texts t.parts, parts, is.count.1, is.hw.size.1, is.pos.size.1)

pub small_batch : (v : BatchView) → AreContents v → batch_size v ≤ 39838
unfolding batch_size
small_batch v are =
    let targets : length (concat (flat_map batch_target_fields v.targets)) ≤ length v.targets * 622 = at_most_each batch_target_fields (λ t. IsBatchTarget t) 622 small_target v.targets are.targets in
    omega (arith, size_contents v, small_part v.part are.part, targets, are.count.1)

-- ---- all of it

size_start : (size : ℕ) → spelled_length (start_fields size) ≡ 6
unfolding start_fields
size_start size = omega (arith, size_more (number_fields 4 (size / 2)) (number_fields 2 0xC004), size_number 4 (size / 2), size_number 2 0xC004)

pub size_batch : (v : BatchView) → spelled_length (batch_fields v) ≡ batch_size v
unfolding batch_fields covered_fields batch_size
size_batch v =
    let covered : List (List ℕ) = start_fields (6 + spelled_length (contents_fields v) + 2) ++ contents_fields v in
    omega (arith, size_more covered (number_fields 2 (crc16_of (concat covered))), size_more (start_fields (6 + spelled_length (contents_fields v) + 2)) (contents_fields v), size_start (6 + spelled_length (contents_fields v) + 2), size_number 2 (crc16_of (concat covered)))

-- ---- as the code sees it

pub each_of_map : {A B : Type 0} (P : B → Type 0) (view : A → B) (xs : List A) → All P (map view xs) → All (λ x. P (view x)) xs
each_of_map P view xs all k d lt =
    let here : k < length (map view xs) = rw length-map lt in
    rw (get_or-map view xs k d (view d) lt) at (all k (view d) here)

-- a batch fits where its counts do
pub fits_by_counts : (b : Batch) → IsPartNumberText b.part
    → (IsCount 64 (length b.targets.items) × All (λ t. IsBatchTarget (batch_target_view t)) b.targets.items → IsBatch (batch_view b))
    × (IsBatch (batch_view b) → IsCount 64 (length b.targets.items) × All (λ t. IsBatchTarget (batch_target_view t)) b.targets.items)
fits_by_counts b part = (
  (λ is.
      let are : AreContents (batch_view b) = record { part = part; count = rw length-map is.0; targets = All-map (λ t. IsBatchTarget t) batch_target_view b.targets.items is.1 } in
      record { contents = are; size = omega (arith, small_batch (batch_view b) are) }),
  (λ is. (rw length-map at is.contents.count, each_of_map (λ t. IsBatchTarget t) batch_target_view b.targets.items is.contents.targets)),
)

-- and no target has more parts than a count can say
pub few_parts : (targets : List BatchTarget) → All (λ t. IsBatchTarget t) (map batch_target_view targets) → All (λ t. length t.parts.items ≤ 32) targets
few_parts targets all k d lt = (each_of_map (λ t. IsBatchTarget t) batch_target_view targets all k d lt).count.1
