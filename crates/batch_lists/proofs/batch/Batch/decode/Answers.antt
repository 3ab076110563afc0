use Rattle.std.proofs.Common.{arith}
use Rattle.field_grammar.proofs.DecoderLemmas.{found_spelling, only_spelling, refused, faulty}
use Rattle.batch_lists.specs.Batch.{batch, batch_view}
use Rattle.batch_lists.specs.BatchFields.{batch_fields, IsBatch}
use Rattle.batch_lists.specs.declared.fault.BatchFault.TheVariants.{Memory}
use Rattle.batch_lists.proofs.BatchSpelled.{spells-batch}
use Rattle.batch_lists.proofs.batch.Batch.decode.Goals as goal

pub returns-clause-found : goal.returns-clause-found
returns-clause-found c =
    found_spelling Memory batch_view batch batch_fields (λ v. IsBatch v) c.args.bytes.now c.batch_of.result spells-batch (λ i. omega (arith, c.type_inv.bytes i)) c.batch_of.ensures

pub returns-clause-only : goal.returns-clause-only
returns-clause-only c = only_spelling Memory batch_view batch batch_fields (λ v. IsBatch v) c.args.bytes.now c.batch_of.result spells-batch c.batch_of.ensures

pub returns-clause-refused : goal.returns-clause-refused
returns-clause-refused c = refused Memory batch_view batch c.args.bytes.now c.batch_of.result (λ i. omega (arith, c.type_inv.bytes i)) c.batch_of.ensures

pub returns-clause-faulty : goal.returns-clause-faulty
returns-clause-faulty c = faulty Memory batch_view batch c.args.bytes.now c.batch_of.result c.batch_of.ensures
