use Rattle.field_grammar.specs.Fields.{padded_fields}
use Rattle.field_grammar.proofs.WrittenLemmas.{written_more}
use Rattle.header_sections.proofs.writing.put_each_text.Goals as goal

pub loop-text-preserved : goal.loop-text-preserved
loop-text-preserved c =
    written_more padded_fields c.args.out.now c.loop-text.out c.put_text.new.out c.args.texts.now c.loop-text.text-index c.text-item.result c.loop-text-test.true c.text-item.is c.loop-text.invariant c.in_ok-put_text.ensures
