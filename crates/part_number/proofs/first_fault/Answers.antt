use Rattle.part_number.proofs.Reading.{right_check}
use Rattle.part_number.proofs.first_fault.Goals as goal

pub returns-then-written-computed-clause-none : goal.returns-then-written-computed-clause-none
returns-then-written-computed-clause-none c =
    right_check c.args.text.now c.written_check-written.result c.computed_check-computed.result
    c.in_default.ensures.none c.written_check-written.ensures c.computed_check-computed.ensures c.if-written-computed.true
