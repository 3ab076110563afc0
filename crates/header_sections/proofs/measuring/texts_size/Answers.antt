use Rattle.std.proofs.Common.{arith}
use Rattle.load_base.specs.Text.{IsText}
use Rattle.field_grammar.specs.Fields.{padded_fields}
use Rattle.field_grammar.proofs.WrittenLemmas.{all_more, all_taken}
use Rattle.header_sections.proofs.SizeLemmas.{size_taken}
use Rattle.header_sections.proofs.measuring.texts_size.Goals as goal

pub loop-text-preserved : goal.loop-text-preserved
loop-text-preserved c =
    let more = size_taken padded_fields c.args.texts.now c.loop-text.text-index c.text-item.result c.loop-text-test.true in
    let here = rw (← c.text-item.is) at more in
    record {
      so_far = omega (arith, c.loop-text.invariant.so_far, here, c.text_size-size.ensures.size);
      small = omega (arith, c.loop-text.invariant.small, c.text_size-size.ensures.small);
      all = all_more IsText c.args.texts.now c.loop-text.text-index c.text-item.result c.loop-text-test.true c.text-item.is c.loop-text.invariant.all c.text_size-size.ensures.text;
    }

pub returns-clause-texts : goal.returns-clause-texts
returns-clause-texts c = all_taken IsText c.args.texts.now c.loop-text.text-index c.loop-text-test.false c.loop-text.invariant.all
