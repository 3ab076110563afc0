use Rattle.field_grammar.specs.Fields.{padded_fields}
use Rattle.field_grammar.proofs.WrittenLemmas.{written_more}
use Rattle.batch_lists.proofs.batch_writing.put_parts.Goals as goal

pub loop-part-preserved : goal.loop-part-preserved
loop-part-preserved c =
    written_more padded_fields c.args.out.now c.loop-part.out c.put_part.new.out c.args.parts.now c.loop-part.part-index c.part-item.result c.loop-part-test.true c.part-item.is c.loop-part.invariant c.in_ok-put_part.ensures
