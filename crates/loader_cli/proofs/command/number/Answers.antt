use Rattle.std.proofs.Common.{◌≡◌, ℕ, Result, Ok, Err, true, false, sym, ap, ◌∙◌, arith}
use Rattle.std.specs.Fmt.{decimal}
use Rattle.std.proofs.lemmas.Fmt.{parse-decimal}
use Rattle.loader_cli.proofs.command.number.Goals as goal

another : {E : Type 0} (n m : ℕ) → ◌≡◌ {A = Result ℕ E} (Ok n) (Ok m) → n ≡ m
another n m e = cc

refused : {E : Type 0} (fault : E) (n : ℕ) → ◌≡◌ {A = Result ℕ E} (Err fault) (Ok n) → ⊥
refused fault n e = cc

pub returns-in_default-clause-none : goal.returns-in_default-clause-none
returns-in_default-clause-none c n small is =
    let read = parse-decimal 32 n c.args.word.now c.parse.result small (omega (arith, small)) is c.parse.ensures.value.0 in
    let same : n ≡ c.in-Ok.number = another n c.in-Ok.number (sym read ∙ c.in-Ok.is) in
    let yes : c.is_decimal.result ≡ true = c.is_decimal.ensures.1 (is ∙ ap decimal same) in
    let clash : true ≡ false = sym yes ∙ c.if-is_decimal.false in
    cc

pub returns-in_default-2-clause-none : goal.returns-in_default-2-clause-none
returns-in_default-2-clause-none c n small is =
    let read = parse-decimal 32 n c.args.word.now c.parse.result small (omega (arith, small)) is c.parse.ensures.value.0 in
    refused _ n (sym c.in_default.is ∙ read)
