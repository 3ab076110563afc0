use Rattle.std.proofs.Common.{List, ℕ, fold, bit_xor, ap, ◌∙◌}
use Rattle.part_number.proofs.Texts.{part_number_text-laid_out}
use Rattle.part_number.proofs.Characters.{characters_in_pieces}
use Rattle.part_number.proofs.text_of.Goals as goal

pub returns : goal.returns
returns c =
    let pieces = characters_in_pieces c.args.maker.now c.args.product.now c.told-maker c.told-product in
    let check = c.exclusive_or-check.ensures ∙ ap (λ (xs : List ℕ). fold bit_xor 0 xs) pieces in
    part_number_text-laid_out c.args.maker.now c.args.product.now c.exclusive_or-check.result c.digit_of_value-high.result c.digit_of_value-low.result
    c.told-maker c.told-product check c.digit_of_value-high.ensures c.digit_of_value-low.ensures
