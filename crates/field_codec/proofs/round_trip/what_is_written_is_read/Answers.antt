use Rattle.std.proofs.Common.{ℕ, ◌≡◌, ◌<◌, ◌^◌, [], ◌∷◌, length, refl}
use Rattle.std.proofs.lemmas.List.{append-nil}
use Rattle.field_grammar.specs.Grammar.{IsBytes}
use Rattle.field_grammar.specs.Fields.{number, number_bytes, number_fields, raw, pad, pad_bytes, padded, padded_text, padded_fields, short, short_text, short_fields}
use Rattle.field_grammar.specs.Spelling.{IsReadBack}
use Rattle.field_grammar.proofs.CombinedLemmas.{read_back}
use Rattle.field_grammar.proofs.NumberLemmas.{IsWide, wide1, wide2, wide4, wide8, spelled-number, spelled-raw}
use Rattle.field_grammar.proofs.TextLemmas.{IsPaddedText, IsShortText, spelled-pad, spelled-padded, spelled-short, concat_number_fields, concat_padded_fields, concat_short_fields}
use Rattle.field_codec.proofs.round_trip.what_is_written_is_read.Goals as goal

number_back : (n : ℕ) → IsWide n → (value : ℕ) → value < 256 ^ n → IsReadBack (number n) (number_bytes n value) value
number_back n wide value fits = read_back (number n) (number_fields n) (λ x. x < 256 ^ n) (number_bytes n value) value (spelled-number n wide) (concat_number_fields n value) fits

pub returns-clause-u8 : goal.returns-clause-u8
returns-clause-u8 c = number_back 1 wide1

pub returns-clause-u16 : goal.returns-clause-u16
returns-clause-u16 c = number_back 2 wide2

pub returns-clause-u32 : goal.returns-clause-u32
returns-clause-u32 c = number_back 4 wide4

pub returns-clause-u64 : goal.returns-clause-u64
returns-clause-u64 c = number_back 8 wide8

pub returns-clause-raw : goal.returns-clause-raw
returns-clause-raw c bytes fit = read_back (raw (length bytes)) (λ b. b ∷ []) (λ b. (length b ≡ length bytes) × IsBytes b) bytes bytes (spelled-raw (length bytes)) (append-nil bytes) (refl, fit)

pub returns-clause-pad : goal.returns-clause-pad
returns-clause-pad c size = read_back (pad size) (λ u. pad_bytes size ∷ []) (λ u. Unit {0}) (pad_bytes size) tt (spelled-pad size) (append-nil (pad_bytes size)) tt

pub returns-clause-padded : goal.returns-clause-padded
returns-clause-padded c text fit fits = read_back padded padded_fields IsPaddedText (padded_text text) text spelled-padded (concat_padded_fields text) (fits, fit)

pub returns-clause-short : goal.returns-clause-short
returns-clause-short c text fit fits = read_back short short_fields IsShortText (short_text text) text spelled-short (concat_short_fields text) (fits, fit)
