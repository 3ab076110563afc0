-- The five arguments that format a disk.
use Rattle.std.proofs.Common.{◌≡◌, ℕ, List, [], ◌∷◌, length, get_or, refl, sym, ap, ◌∙◌, arith}
use Rattle.std.specs.Prelude.{String, string_bytes, codes, map}
use Rattle.std.specs.Fmt.{decimal}
use Rattle.std.proofs.lemmas.Fmt.{decimal_injective}
use Rattle.std.specs.declared.alloc.Global.{Global}
use Rattle.disk_layout.specs.declared.identity.Identity.{Identity}
use Rattle.loader_cli.specs.Commands.{NamesTarget, IsPlain, texts_of}
use Rattle.loader_cli.specs.Commands.CommandView.{format}

abbrev five : {A : Type 0} → A → A → A → A → A → List A
five a b c d e = a ∷ b ∷ c ∷ d ∷ e ∷ []

are_five : {A : Type 0} (words : List A) (a b c d e : A) → length words ≡ 5 → a ≡ get_or words 0 a → b ≡ get_or words 1 b → c ≡ get_or words 2 c → d ≡ get_or words 3 d
    → e ≡ get_or words 4 e → words ≡ five a b c d e
are_five (v ∷ w ∷ x ∷ y ∷ z ∷ []) a b c d e size p q r s t = rw (p, q, r, s, t) refl
are_five [] a b c d e size p q r s t = absurd (omega (arith, size))
are_five (v ∷ []) a b c d e size p q r s t = absurd (omega (arith, size))
are_five (v ∷ w ∷ []) a b c d e size p q r s t = absurd (omega (arith, size))
are_five (v ∷ w ∷ x ∷ []) a b c d e size p q r s t = absurd (omega (arith, size))
are_five (v ∷ w ∷ x ∷ y ∷ []) a b c d e size p q r s t = absurd (omega (arith, size))
are_five (v ∷ w ∷ x ∷ y ∷ z ∷ (u ∷ others)) a b c d e size p q r s t = absurd (omega (arith, size))

same_five : (a b c d e f g h i j : List ℕ) → a ≡ f → b ≡ g → c ≡ h → d ≡ i → e ≡ j → five a b c d e ≡ five f g h i j
same_five a b c d e f g h i j p q r s t = rw (p, q, r, s, t) refl

-- five arguments that name a target are the command `format`
pub asks_to_format : (words : List (String Global)) (word hw pos serial bank : String Global) (id : Identity) → length words ≡ 5
    → word ≡ get_or words 0 word → hw ≡ get_or words 1 hw → pos ≡ get_or words 2 pos → serial ≡ get_or words 3 serial → bank ≡ get_or words 4 bank
    → string_bytes word ≡ codes "format" → NamesTarget (string_bytes hw) (string_bytes pos) (string_bytes serial) (string_bytes bank) id → IsPlain (texts_of words) (format id)
asks_to_format words word hw pos serial bank id size p q r s t is names = (
  ap (map string_bytes) (are_five words word hw pos serial bank size p q r s t)
      ∙ same_five (string_bytes word) (string_bytes hw) (string_bytes pos) (string_bytes serial) (string_bytes bank) (codes "format") id.hw id.pos id.serial (decimal id.bank) is names.hw_is
      names.pos_is names.serial_is names.bank_is,
  names.fits,
)

made : List ℕ → List ℕ → List ℕ → ℕ → Identity
made hw pos serial bank = record { hw = hw; pos = pos; serial = serial; bank = bank }

-- the words name one target
pub one_plain_target : (words : List (List ℕ)) (id other : Identity) → IsPlain words (format id) → IsPlain words (format other) → id ≡ other
unfolding made
one_plain_target words id other one two =
    let same : five (codes "format") id.hw id.pos id.serial (decimal id.bank) ≡ five (codes "format") other.hw other.pos other.serial (decimal other.bank) = sym one.0 ∙ two.0 in
    let hw : id.hw ≡ other.hw = cc in
    let pos : id.pos ≡ other.pos = cc in
    let serial : id.serial ≡ other.serial = cc in
    let digits : decimal id.bank ≡ decimal other.bank = cc in
    let bank : id.bank ≡ other.bank = decimal_injective id.bank other.bank (omega (arith, one.1.bank.1)) (omega (arith, two.1.bank.1)) digits in
    alike id.hw other.hw id.pos other.pos id.serial other.serial id.bank other.bank hw pos serial bank
  where
    alike : (a f b g c h : List ℕ) (d i : ℕ) → a ≡ f → b ≡ g → c ≡ h → d ≡ i → made a b c d ≡ made f g h i
    alike a f b g c h d i p q r s = rw (p, q, r, s) refl
