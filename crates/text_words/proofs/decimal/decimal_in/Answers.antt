use Rattle.std.proofs.Common.{◌≡◌, ◌<◌, ◌+◌, sym, arith, true, take}
use Rattle.std.specs.Str.Parse.{digits_value}
use Rattle.std.proofs.lemmas.Int.Digits.{digits_value_more}
use Rattle.text_words.specs.Words.{is_decimal}
use Rattle.text_words.proofs.Digits.{all_digits, digit_at, too_large}
use Rattle.text_words.proofs.decimal.decimal_in.Goals as goal

pub returns-then-number-high-clause-said : goal.returns-then-number-high-clause-said
returns-then-number-high-clause-said c =
    let decimal : is_decimal c.args.word.now ≡ true = cc in
    let more = digits_value_more 10 c.args.word.now c.loop-byte.byte-index (omega arith) in
    let digit = digit_at c.args.word.now c.loop-byte.byte-index (all_digits c.args.word.now decimal) (omega arith) in
    let large : c.args.high < digits_value 10 (take (c.loop-byte.byte-index + 1) c.args.word.now) = omega arith in
    sym (too_large c.args.low c.args.high c.args.word.now (c.loop-byte.byte-index + 1) decimal large)

pub loop-byte-preserved : goal.loop-byte-preserved
loop-byte-preserved c =
    let decimal : is_decimal c.args.word.now ≡ true = cc in
    let more = digits_value_more 10 c.args.word.now c.loop-byte.byte-index (omega arith) in
    let digit = digit_at c.args.word.now c.loop-byte.byte-index (all_digits c.args.word.now decimal) (omega arith) in
    record { small = omega arith; read = omega arith }
