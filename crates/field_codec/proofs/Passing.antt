-- What was read is what is written, and a field that is refused doesn't fit.
use Rattle.std.proofs.Common.{◌≡◌, ℕ, ◌+◌, ◌^◌, ◌<◌, ◌≤◌, ltb, false, List, [], ◌∷◌, ◌++◌, length, take, drop, Ok, refl, ap, subst, ◌∙◌, arith}
use Rattle.std.specs.List.{concat}
use Rattle.std.proofs.lemmas.Bool.{le-ltb}
use Rattle.std.proofs.lemmas.List.{append-nil, length-drop}
use Rattle.field_grammar.specs.Cursor.{Cursor, cursor_at}
use Rattle.field_grammar.specs.Grammar.{Grammar, IsBytes, read}
use Rattle.field_grammar.specs.Spelling.{IsSpelledBy}
use Rattle.field_grammar.specs.Fields.{number, raw, number_bytes, number_fields, pad, pad_bytes, padded, padded_fields, padded_text, short, short_fields, short_text}
use Rattle.field_grammar.proofs.StepLemmas.{advanced-cursor_at, IsBytes-drop}
use Rattle.field_grammar.proofs.GrammarLemmas.{what_is_read_follows}
use Rattle.field_grammar.proofs.NumberLemmas.{IsWide, wide1, wide2, wide4, wide8, spelled-number}
use Rattle.field_grammar.proofs.TextLemmas.{spelled-pad, spelled-padded, spelled-short, IsPaddedText, IsShortText, concat_number_fields, concat_padded_fields, concat_short_fields}
use Rattle.field_codec.specs.Reader.{Passes, PassesAt}

-- bytes that fit are read
pub raw_is_read : (count offset : ℕ) (bytes : List ℕ) → offset + count ≤ length bytes
    → read (raw count) (cursor_at bytes offset) ≡ Ok (take count (drop offset bytes), cursor_at bytes (offset + count))
unfolding raw
raw_is_read count offset bytes fits =
    let enough : ltb (length (drop offset bytes)) count ≡ false = le-ltb _ _ (omega (arith, length-drop offset bytes)) in
    rw (enough, advanced-cursor_at count offset bytes) refl

-- what a format read is the spelling of the value, and the position is after it
pub passes : {F A : Type 0} (g : Grammar F A) (s : A → List (List ℕ)) (P : A → Type 0) (c d : Cursor) (value : A)
    → IsSpelledBy g s P → IsBytes c.rest → read g c ≡ Ok (value, d) → Passes (concat (s value)) c d
passes g s P c d value spells fit e =
    let took = what_is_read_follows g c d value fit e in
    let is = (spells.to c.before took.fields (length d.rest) value took.follows).0 in
    (took.parts ∙ ap (λ (f : List (List ℕ)). concat f ++ d.rest) is, took.passed ∙ ap (λ (f : List (List ℕ)). c.before ++ concat f) is)

-- the bytes of a position in bytes
pub fit_at : (bytes : List ℕ) (offset : ℕ) → IsBytes bytes → IsBytes (drop offset bytes)
fit_at bytes offset fit = IsBytes-drop offset bytes fit

number_passes : (n : ℕ) → IsWide n → (bytes : List ℕ) (offset end value : ℕ) → IsBytes bytes
    → read (number n) (cursor_at bytes offset) ≡ Ok (value, cursor_at bytes end) → PassesAt bytes offset end (number_bytes n value)
number_passes n wide bytes offset end value fit e =
    subst (PassesAt bytes offset end) (concat_number_fields n value) (passes (number n) (number_fields n) (λ x. x < 256 ^ n) (cursor_at bytes offset) (cursor_at bytes end) value (spelled-number n wide) (fit_at bytes offset fit) e)

pub u8_passes : (bytes : List ℕ) (offset end value : ℕ) → IsBytes bytes
    → read (number 1) (cursor_at bytes offset) ≡ Ok (value, cursor_at bytes end) → PassesAt bytes offset end (number_bytes 1 value)
u8_passes = number_passes 1 wide1

pub u16_passes : (bytes : List ℕ) (offset end value : ℕ) → IsBytes bytes
    → read (number 2) (cursor_at bytes offset) ≡ Ok (value, cursor_at bytes end) → PassesAt bytes offset end (number_bytes 2 value)
u16_passes = number_passes 2 wide2

pub u32_passes : (bytes : List ℕ) (offset end value : ℕ) → IsBytes bytes
    → read (number 4) (cursor_at bytes offset) ≡ Ok (value, cursor_at bytes end) → PassesAt bytes offset end (number_bytes 4 value)
u32_passes = number_passes 4 wide4

pub u64_passes : (bytes : List ℕ) (offset end value : ℕ) → IsBytes bytes
    → read (number 8) (cursor_at bytes offset) ≡ Ok (value, cursor_at bytes end) → PassesAt bytes offset end (number_bytes 8 value)
u64_passes = number_passes 8 wide8

pub pad_passes : (n : ℕ) (bytes : List ℕ) (offset end : ℕ) (u : Unit {0}) → IsBytes bytes
    → read (pad n) (cursor_at bytes offset) ≡ Ok (u, cursor_at bytes end) → PassesAt bytes offset end (pad_bytes n)
pad_passes n bytes offset end u fit e =
    subst (PassesAt bytes offset end) (append-nil (pad_bytes n)) (passes (pad n) (λ v. pad_bytes n ∷ []) (λ v. Unit {0}) (cursor_at bytes offset) (cursor_at bytes end) u (spelled-pad n) (fit_at bytes offset fit) e)

pub padded_passes : (bytes : List ℕ) (offset end : ℕ) (text : List ℕ) → IsBytes bytes
    → read padded (cursor_at bytes offset) ≡ Ok (text, cursor_at bytes end) → PassesAt bytes offset end (padded_text text)
padded_passes bytes offset end text fit e =
    subst (PassesAt bytes offset end) (concat_padded_fields text) (passes padded padded_fields IsPaddedText (cursor_at bytes offset) (cursor_at bytes end) text spelled-padded (fit_at bytes offset fit) e)

pub short_passes : (bytes : List ℕ) (offset end : ℕ) (text : List ℕ) → IsBytes bytes
    → read short (cursor_at bytes offset) ≡ Ok (text, cursor_at bytes end) → PassesAt bytes offset end (short_text text)
short_passes bytes offset end text fit e =
    subst (PassesAt bytes offset end) (concat_short_fields text) (passes short short_fields IsShortText (cursor_at bytes offset) (cursor_at bytes end) text spelled-short (fit_at bytes offset fit) e)
