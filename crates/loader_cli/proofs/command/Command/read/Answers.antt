use Rattle.std.proofs.Common.{◌≡◌, length, sym, ◌∙◌, arith}
use Rattle.loader_cli.proofs.Targets.{asks_to_format}
use Rattle.loader_cli.proofs.command.Command.read.Goals as goal

pub returns-in-Some-clause-some : goal.returns-in-Some-clause-some
returns-in-Some-clause-some c =
    let size : length c.args.words.now ≡ 5 = omega (arith, c.in-len5.len_at_least, c.in-len5.len_below) in
    let is = sym c.as_str-then-words-lt6.ensures.value ∙ c.is_text-then-words-lt6.ensures.0 c.if-is_text-10.true in
    let names = rw (c.as_str-in-len5.ensures.value, c.as_str-in-len5-2.ensures.value, c.as_str-in-len5-3.ensures.value, c.as_str-in-len5-4.ensures.value) at c.in-Some.ensures.some in
    asks_to_format c.args.words.now c.word-item-then-words-lt6.result c.hw-item.result c.pos-item.result c.serial-item.result c.bank-item.result c.in-Some.identity size
    c.word-item-then-words-lt6.is c.hw-item.is c.pos-item.is c.serial-item.is c.bank-item.is is names
