use Rattle.std.proofs.Common.{◌≡◌, sym, ◌∙◌, arith}
use Rattle.std.proofs.lemmas.Fmt.{decimal_injective}
use Rattle.loader_cli.proofs.command.bank_size.Goals as goal

pub returns-in_default-clause-none : goal.returns-in_default-clause-none
returns-in_default-clause-none c size allowed is =
    let same : size ≡ c.in-Some.size =
    decimal_injective size c.in-Some.size (omega (arith, allowed.1)) (omega (arith, c.in-Some.ensures.some.1)) (sym is ∙ c.in-Some.ensures.some.0) in
    omega (arith, same, allowed.0, allowed.1, c.if-size-le-LARGEST_BANK.false)

pub returns-in_default-2-clause-none : goal.returns-in_default-2-clause-none
returns-in_default-2-clause-none c size allowed is =
    let same : size ≡ c.in-Some.size =
    decimal_injective size c.in-Some.size (omega (arith, allowed.1)) (omega arith) (sym is ∙ c.in-Some.ensures.some.0) in
    omega (arith, same, allowed.0, allowed.1, c.if-size-ge-SMALLEST_BANK.false)
