use Rattle.std.proofs.Common.{◌≡◌, sym, ◌∙◌, arith}
use Rattle.std.proofs.lemmas.Fmt.{decimal_injective}
use Rattle.loader_cli.proofs.command.place_of.Goals as goal

pub returns-in_default-clause-none : goal.returns-in_default-clause-none
returns-in_default-clause-none c n some few is =
    let same : n ≡ c.in-Some.number = decimal_injective n c.in-Some.number (omega (arith, few)) (omega (arith, c.in-Some.ensures.some.1)) (sym is ∙ c.in-Some.ensures.some.0) in
    omega (arith, same, few, c.if-number-le-UNITS.false)

pub returns-in_default-2-clause-none : goal.returns-in_default-2-clause-none
returns-in_default-2-clause-none c n some few is =
    let same : n ≡ c.in-Some.number = decimal_injective n c.in-Some.number (omega (arith, few)) (omega (arith, c.in-Some.ensures.some.1)) (sym is ∙ c.in-Some.ensures.some.0) in
    omega (arith, same, some, c.if-number-ge1.false)
