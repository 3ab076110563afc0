use Rattle.std.proofs.Common.{arith}
use Rattle.printed_text.proofs.CodedTexts.{all_put, coded_is_text, coded_is_short}
use Rattle.printed_text.proofs.faults.coded.Goals as goal

pub of_printable-requires : goal.of_printable-requires
of_printable-requires c =
    rw (all_put c.args.code.now c.args.numbers.now c.loop-number.out.items c.loop-number.number-index c.loop-number-test.false c.loop-number.invariant)
    (coded_is_text c.args.code.now c.args.numbers.now c.requires.code c.requires.short (λ k. omega (arith, c.type_inv.numbers k)))

pub returns-clause-short : goal.returns-clause-short
returns-clause-short c =
    rw (c.of_printable.ensures, all_put c.args.code.now c.args.numbers.now c.loop-number.out.items c.loop-number.number-index c.loop-number-test.false c.loop-number.invariant)
    (coded_is_short c.args.code.now c.args.numbers.now (λ k. omega (arith, c.type_inv.numbers k)))
