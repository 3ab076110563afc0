use Rattle.std.proofs.Common.{arith}
use Rattle.field_grammar.proofs.DecoderLemmas.{found_spelling, only_spelling, refused, faulty}
use Rattle.media_lists.specs.ListFields.{list_fields}
use Rattle.batch_lists.specs.Batches.{batches_list, batches_list_view, batch_body_fields, IsBatchesList}
use Rattle.batch_lists.specs.declared.fault.BatchesFault.TheVariants.{Memory}
use Rattle.batch_lists.proofs.BatchesSpelled.{spells-batches_list}
use Rattle.batch_lists.proofs.batches.BatchesList.decode.Goals as goal

pub returns-clause-found : goal.returns-clause-found
returns-clause-found c =
    found_spelling Memory batches_list_view batches_list (list_fields 0xB004 batch_body_fields) IsBatchesList c.args.bytes.now c.batches_of.result spells-batches_list (λ i. omega (arith, c.type_inv.bytes i)) c.batches_of.ensures

pub returns-clause-only : goal.returns-clause-only
returns-clause-only c = only_spelling Memory batches_list_view batches_list (list_fields 0xB004 batch_body_fields) IsBatchesList c.args.bytes.now c.batches_of.result spells-batches_list c.batches_of.ensures

pub returns-clause-refused : goal.returns-clause-refused
returns-clause-refused c = refused Memory batches_list_view batches_list c.args.bytes.now c.batches_of.result (λ i. omega (arith, c.type_inv.bytes i)) c.batches_of.ensures

pub returns-clause-faulty : goal.returns-clause-faulty
returns-clause-faulty c = faulty Memory batches_list_view batches_list c.args.bytes.now c.batches_of.result c.batches_of.ensures
