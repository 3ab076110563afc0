use Rattle.std.proofs.Common.{arith, ◌∙◌}
use Rattle.header_sections.proofs.SizeLemmas.{total_more, total_taken}
use Rattle.header_sections.proofs.entries.entries_size.Goals as goal

pub loop-entry-preserved : goal.loop-entry-preserved
loop-entry-preserved g c =
    let more = total_more g.E.Entry.body_fields c.args.entries.now c.loop-entry.entry-index c.entry-item.result c.loop-entry-test.true in
    let here = rw (← c.entry-item.is) at more in
    record {
      so_far = omega (arith, c.loop-entry.invariant.so_far, here, c.body_size.ensures.size);
      small = omega (arith, c.loop-entry.invariant.small, c.body_size.ensures.small);
    }

pub returns-clause-size : goal.returns-clause-size
returns-clause-size g c = c.loop-entry.invariant.so_far ∙ total_taken g.E.Entry.body_fields c.args.entries.now c.loop-entry.entry-index c.loop-entry-test.false
