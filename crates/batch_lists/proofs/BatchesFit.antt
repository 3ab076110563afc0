-- What it means for a list of batches to fit.
use Rattle.std.proofs.Common.{List, [], ◌∷◌, arith}
use Rattle.std.specs.Prelude.{ℕ, ⊤}
use Rattle.std.specs.List.{All, AllByRecursion}
use Rattle.std.proofs.lemmas.List.Elements.{All-nil, All-cons}
use Rattle.field_grammar.proofs.SectionLemmas.{size_padded}
use Rattle.part_number.proofs.VerdictLemmas.{part_size}
use Rattle.header_sections.specs.SectionFields.{HaveDistances}
use Rattle.batch_lists.specs.Batches.{batch_body_fields, IsListedBatch}
use Rattle.batch_lists.specs.declared.batches.BatchEntry.{BatchEntry}
use Rattle.batch_lists.proofs.BatchesSizes.{size_batch_parts}

-- each batch fits
pub all_fit : (batches : List BatchEntry) → All (λ batch. ⊤) batches
all_fit [] = All-nil (λ batch. ⊤)
all_fit (batch ∷ batches) = All-cons (λ batch. ⊤) batch batches tt (all_fit batches)

pub batches_short : (members : ℕ) (batches : List BatchEntry) → AllByRecursion (IsListedBatch members) batches → HaveDistances batch_body_fields batches
batches_short members [] each = tt
batches_short members (batch ∷ []) each = tt
batches_short members (batch ∷ next ∷ batches) each =
    (omega (arith, size_batch_parts batch, size_padded batch.part, size_padded batch.file, part_size batch.part each.0.part, each.0.file.size.1), batches_short members (next ∷ batches) each.1)
