use Rattle.std.proofs.Common.{◌≡◌, sym, ◌∙◌, arith}
use Rattle.std.proofs.lemmas.Fmt.{decimal_injective}
use Rattle.loader_cli.proofs.command.count_of.Goals as goal

pub returns-in_default-clause-none : goal.returns-in_default-clause-none
returns-in_default-clause-none c n some few is =
    let same : n ≡ c.in-Some.count = decimal_injective n c.in-Some.count (omega (arith, few)) (omega (arith, c.in-Some.ensures.some.1)) (sym is ∙ c.in-Some.ensures.some.0) in
    omega (arith, same, few, c.if-count-le-UNITS.false)

pub returns-in_default-2-clause-none : goal.returns-in_default-2-clause-none
returns-in_default-2-clause-none c n some few is =
    let same : n ≡ c.in-Some.count = decimal_injective n c.in-Some.count (omega (arith, few)) (omega (arith, c.in-Some.ensures.some.1)) (sym is ∙ c.in-Some.ensures.some.0) in
    omega (arith, same, some, c.if-count-ge-FEWEST_OF_FLEET.false)
