-- How many bytes there are after a part more.
use Rattle.std.proofs.Common.{◌≡◌, ℕ, ◌+◌, List, ◌++◌, length, ap, ◌∙◌, length-append}
use Rattle.field_grammar.specs.Fields.{number_bytes, short_text}
use Rattle.field_grammar.proofs.NumberLemmas.{length_number_bytes}
use Rattle.field_grammar.proofs.TextLemmas.{length_short_text}

pub number_more : (n value : ℕ) (old new bytes : List ℕ) → bytes ≡ number_bytes n value → new ≡ old ++ bytes → length new ≡ length old + n
number_more n value old new bytes is more =
    ap length more ∙ length-append old bytes ∙ ap (λ (m : ℕ). length old + m) (ap length is ∙ length_number_bytes n value)

pub short_more : (old new text : List ℕ) → new ≡ old ++ short_text text → length new ≡ length old + (1 + length text)
short_more old new text more = ap length more ∙ length-append old (short_text text) ∙ ap (λ (m : ℕ). length old + m) (length_short_text text)
