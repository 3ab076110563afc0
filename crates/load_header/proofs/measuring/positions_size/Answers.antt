use Rattle.std.proofs.Common.{arith}
use Rattle.field_grammar.proofs.WrittenLemmas.{all_more, all_taken}
use Rattle.header_sections.proofs.SizeLemmas.{size_taken}
use Rattle.load_header.proofs.Limits.{few_at, kinds_all}
use Rattle.load_header.specs.Encoding.{kind_fields, IsKind}
use Rattle.load_header.proofs.measuring.positions_size.Goals as goal

pub loop-at-preserved : goal.loop-at-preserved
loop-at-preserved c =
    let more = size_taken kind_fields c.args.list.now c.loop-at.at-index c.at-item.result c.loop-at-test.true in
    let here = rw (← c.at-item.is) at more in
    record {
      so_far = omega (arith, c.loop-at.invariant.so_far, here, c.kind_size-size.ensures.size);
      small = omega (arith, c.loop-at.invariant.small, c.kind_size-size.ensures.small);
      all = all_more IsKind c.args.list.now c.loop-at.at-index c.at-item.result c.loop-at-test.true c.at-item.is c.loop-at.invariant.all c.kind_size-size.ensures.kind;
    }

pub kind_size-size-requires : goal.kind_size-size-requires
kind_size-size-requires c = rw c.at-item.is (few_at c.args.list.now c.loop-at.at-index c.at-item.result c.loop-at-test.true c.requires.each)

pub returns-clause-kinds : goal.returns-clause-kinds
returns-clause-kinds c = kinds_all c.args.list.now (all_taken IsKind c.args.list.now c.loop-at.at-index c.loop-at-test.false c.loop-at.invariant.all)
