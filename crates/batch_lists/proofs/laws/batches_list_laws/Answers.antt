use Rattle.std.proofs.Common.{sym, ◌∙◌}
use Rattle.field_grammar.proofs.ExactLemmas.{decided, whole_one_value, answer-spelled, spelled_at_start}
use Rattle.field_grammar.proofs.DecoderLemmas.{spelling_is, spelled_by}
use Rattle.media_lists.specs.ListFields.{list_fields}
use Rattle.batch_lists.specs.Batches.{batches_list, batch_body_fields, IsBatchesList}
use Rattle.batch_lists.proofs.BatchesSpelled.{spells-batches_list, ends-batches_list}
use Rattle.batch_lists.proofs.NeverMemory.{batches_never_memory}
use Rattle.batch_lists.proofs.laws.batches_list_laws.Goals as goal

pub returns-clause-decided : goal.returns-clause-decided
returns-clause-decided c = λ bytes fit. decided batches_list bytes ends-batches_list fit

pub returns-clause-spelled : goal.returns-clause-spelled
returns-clause-spelled c = λ v bytes. (
  spelling_is batches_list (list_fields 0xB004 batch_body_fields) IsBatchesList bytes v spells-batches_list,
  spelled_by batches_list (list_fields 0xB004 batch_body_fields) IsBatchesList bytes v spells-batches_list,
)

pub returns-clause-one_list : goal.returns-clause-one_list
returns-clause-one_list c = λ v w bytes one other.
    let spelled = spelled_by batches_list (list_fields 0xB004 batch_body_fields) IsBatchesList bytes in
    whole_one_value batches_list bytes v w (spelled v spells-batches_list one) (spelled w spells-batches_list other)

pub returns-clause-one_spelling : goal.returns-clause-one_spelling
returns-clause-one_spelling c = λ v bytes others one other. one.1 ∙ sym other.1

pub returns-clause-read_again : goal.returns-clause-read_again
returns-clause-read_again c = λ v bytes is.
    answer-spelled batches_list bytes v (spelled_at_start batches_list bytes v (spelled_by batches_list (list_fields 0xB004 batch_body_fields) IsBatchesList bytes v spells-batches_list is))

pub returns-clause-never_memory : goal.returns-clause-never_memory
returns-clause-never_memory c = batches_never_memory
