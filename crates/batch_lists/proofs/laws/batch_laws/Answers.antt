use Rattle.std.proofs.Common.{List, ℕ, length, ap, sym, ◌∙◌}
use Rattle.field_grammar.proofs.ExactLemmas.{decided, whole_one_value, answer-spelled, spelled_at_start}
use Rattle.field_grammar.proofs.DecoderLemmas.{spelling_is, spelled_by}
use Rattle.batch_lists.specs.Batch.{batch}
use Rattle.batch_lists.specs.BatchFields.{batch_fields, IsBatch}
use Rattle.batch_lists.proofs.BatchSizes.{small_batch, size_batch}
use Rattle.batch_lists.proofs.BatchSpelled.{spells-batch, ends-batch}
use Rattle.batch_lists.proofs.NeverMemory.{batch_never_memory}
use Rattle.batch_lists.proofs.laws.batch_laws.Goals as goal

pub returns-clause-decided : goal.returns-clause-decided
returns-clause-decided c = λ bytes fit. decided batch bytes ends-batch fit

pub returns-clause-spelled : goal.returns-clause-spelled
returns-clause-spelled c = λ v bytes. (spelling_is batch batch_fields (λ b. IsBatch b) bytes v spells-batch, spelled_by batch batch_fields (λ b. IsBatch b) bytes v spells-batch)

pub returns-clause-one_batch : goal.returns-clause-one_batch
returns-clause-one_batch c = λ v w bytes one other.
    whole_one_value batch bytes v w (spelled_by batch batch_fields (λ b. IsBatch b) bytes v spells-batch one) (spelled_by batch batch_fields (λ b. IsBatch b) bytes w spells-batch other)

pub returns-clause-one_spelling : goal.returns-clause-one_spelling
returns-clause-one_spelling c = λ v bytes others one other. one.1 ∙ sym other.1

pub returns-clause-read_again : goal.returns-clause-read_again
returns-clause-read_again c = λ v bytes is. answer-spelled batch bytes v (spelled_at_start batch bytes v (spelled_by batch batch_fields (λ b. IsBatch b) bytes v spells-batch is))

pub returns-clause-length : goal.returns-clause-length
returns-clause-length c = λ v bytes is. ap (λ (l : List ℕ). length l) is.1 ∙ size_batch v

pub returns-clause-small : goal.returns-clause-small
returns-clause-small c = λ v is. small_batch v is.contents

pub returns-clause-never_memory : goal.returns-clause-never_memory
returns-clause-never_memory c = batch_never_memory
