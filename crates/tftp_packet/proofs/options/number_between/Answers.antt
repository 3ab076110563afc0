use Rattle.std.proofs.Common.{◌∙◌, sym, arith, ◌≤◌, inl, inr}
use Rattle.tftp_packet.proofs.NumberLemmas.{narrowed, within, not_within}
use Rattle.tftp_packet.proofs.options.number_between.Goals as goal

pub returns-then-number-high-clause-value : goal.returns-then-number-high-clause-value
returns-then-number-high-clause-value c =
    let fits : c.args.high ≤ 4294967295 = omega arith in
    sym (
    narrowed c.args.low c.args.high c.in_ok-number.number c.args.digits.now fits c.in_ok-number.ensures
    ∙ within c.args.low c.args.high c.in_ok-number.number c.if-low-number.true c.if-number-high.true
    )

pub returns-else-low-number-clause-value : goal.returns-else-low-number-clause-value
returns-else-low-number-clause-value c =
    let fits : c.args.high ≤ 4294967295 = omega arith in
    sym (
    narrowed c.args.low c.args.high c.in_ok-number.number c.args.digits.now fits c.in_ok-number.ensures
    ∙ not_within c.args.low c.args.high c.in_ok-number.number (elim c.else-low-number.either [ inl over ↦ inr over.1 | inr under ↦ inl under ])
    )
