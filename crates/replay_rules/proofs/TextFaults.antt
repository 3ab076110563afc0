-- The faults of texts, names and part numbers are printed as short texts.
use Rattle.std.proofs.Common.{ℕ, suc, ◌-◌, ◌<◌, ◌^◌, Bool, true, false, cond, List, [], ◌∷◌, ◌++◌, length, drop, Option, Some, None, refl, arith}
use Rattle.std.specs.Prelude.{bit_xor, codes, fold, nat_lt, option_map, slice_index, slice_range, ◌==◌}
use Rattle.std.proofs.lemmas.Nat.{xor_lt}
use Rattle.field_grammar.specs.Grammar.{IsBytes}
use Rattle.load_base.specs.declared.name.NameFault.{NameFault}
use Rattle.load_base.specs.declared.name.NameFault.TheVariants as names
use Rattle.load_base.specs.declared.text.TextFault.{TextFault}
use Rattle.load_base.specs.declared.text.TextFault.TheVariants as texts
use Rattle.load_base.specs.Name.{is_name_byte}
use Rattle.load_base.specs.Text.{is_printable}
use Rattle.load_base.specs.Verdicts.{first_bad, name_fault_of, text_fault_of}
use Rattle.part_number.specs.FaultText.{part_fault_text}
use Rattle.part_number.specs.declared.PartFault.{PartFault}
use Rattle.part_number.specs.declared.PartFault.TheVariants as parts
use Rattle.part_number.specs.PartNumber.{check_of, is_good_at, is_hyphen_offset, maker_of, product_of}
use Rattle.part_number.specs.Verdicts.{character_or_check, computed_check, digit_value, misplaced, part_fault_of, written_check}
use Rattle.printed_text.specs.FaultTexts.{name_fault_text, text_fault_text}
use Rattle.replay_rules.proofs.ShortTexts.{IsTextOf, coded_text}
use Rattle.replay_rules.proofs.SmallFaults.{append_bytes, drop_bytes, take_bytes}

-- a fault that there may be, if so
abbrev pub IfSuch : {A : Type 0} → (A → Type 0) → Option A → Type 0
IfSuch P None = Unit {0}
IfSuch P (Some x) = P x

such_if : {A : Type 0} (P : A → Type 0) (b : Bool) (x y : Option A) → IfSuch P x → IfSuch P y → IfSuch P (cond b x y)
such_if P true x y p q = p
such_if P false x y p q = q

such_mapped : {A B : Type 0} (P : A → Type 0) (Q : B → Type 0) (f : A → B) (x : Option A) → ((a : A) → P a → Q (f a)) → IfSuch P x → IfSuch Q (option_map f x)
such_mapped P Q f None g h = tt
such_mapped P Q f (Some a) g h = g a h

-- a first bad byte is one of them
bad_within : (good : ℕ → ℕ → Bool) (bytes : List ℕ) → IfSuch (λ (o : ℕ). o < length bytes) (first_bad good bytes)
bad_within good [] = tt
bad_within good (byte ∷ bytes) =
    such_if (λ (o : ℕ). o < length (byte ∷ bytes)) (good 0 byte) (option_map suc (first_bad (λ (offset : ℕ). good (suc offset)) bytes)) (Some 0)
    (such_mapped (λ (o : ℕ). o < length bytes) (λ (o : ℕ). o < length (byte ∷ bytes)) suc (first_bad (λ (offset : ℕ). good (suc offset)) bytes) (λ o less. omega (arith, less)) (bad_within (λ (offset : ℕ). good (suc offset)) bytes)) (omega arith)

-- ---- texts and names

module _ (bytes : List ℕ) (little : length bytes < 2 ^ 64) where
  abbrev TextOk : TextFault → Type 0
  TextOk fault = IsTextOf 23 (text_fault_text fault)

  abbrev NameOk : NameFault → Type 0
  NameOk fault = IsTextOf 23 (name_fault_text fault)

  pub text_fault_short : IfSuch TextOk (text_fault_of bytes)
  unfolding text_fault_of
  text_fault_short =
      such_if TextOk (nat_lt 255 (length bytes)) (Some (texts.TooLong (length bytes))) (option_map texts.BadByte (first_bad (λ (o : ℕ) (byte : ℕ). is_printable byte) bytes)) (coded_text 23 (codes "X1") (length bytes ∷ []) refl (little, tt) (omega arith))
      (such_mapped (λ (o : ℕ). o < length bytes) TextOk texts.BadByte (first_bad (λ (o : ℕ) (byte : ℕ). is_printable byte) bytes) (λ o less. coded_text 23 (codes "X2") (o ∷ []) refl (omega (arith, less, little), tt) (omega arith)) (bad_within (λ (o : ℕ) (byte : ℕ). is_printable byte) bytes))

  pub name_fault_short : IfSuch NameOk (name_fault_of bytes)
  unfolding name_fault_of
  name_fault_short =
      such_if NameOk (length bytes == 0) (Some names.Empty) _ (coded_text 23 (codes "N1") [] refl tt (omega arith))
      (such_if NameOk (nat_lt 64 (length bytes)) (Some names.TooLong) _ (coded_text 23 (codes "N2") [] refl tt (omega arith))
      (such_if NameOk (slice_index bytes 0 == 0x2E) (Some (names.BadByte 0)) _ (coded_text 23 (codes "N3") (0 ∷ []) refl (omega arith, tt) (omega arith))
      (such_mapped (λ (o : ℕ). o < length bytes) NameOk names.BadByte (first_bad (λ (o : ℕ) (byte : ℕ). is_name_byte byte) bytes) (λ o less. coded_text 23 (codes "N3") (o ∷ []) refl (omega (arith, less, little), tt) (omega arith)) (bad_within (λ (o : ℕ) (byte : ℕ). is_name_byte byte) bytes))))

-- ---- part numbers

digit_little : (digit : ℕ) → digit < 256 → digit_value digit < 256
digit_little digit less = by (nat_lt digit 65)
  where
    by : (b : Bool) → cond b (digit - 48) (digit - 55) < 256
    by true = omega (arith, less)
    by false = omega (arith, less)

fold_little : (sum : ℕ) (bytes : List ℕ) → sum < 2 ^ 8 → IsBytes bytes → fold bit_xor sum bytes < 2 ^ 8
fold_little sum [] less fit = less
fold_little sum (b ∷ bytes) less fit = fold_little (bit_xor sum b) bytes (xor_lt 8 sum b less (omega (arith, fit 0))) (λ i. fit (suc i))

module _ (bytes : List ℕ) (little : length bytes < 2 ^ 64) (fit : IsBytes bytes) where
  abbrev PartOk : PartFault → Type 0
  PartOk fault = IsTextOf 44 (part_fault_text fault)

  written_little : written_check bytes < 2 ^ 64
  written_little = omega (arith, digit_little (slice_index bytes 3) (fit 3), digit_little (slice_index bytes 4) (fit 4))

  computed_little : computed_check bytes < 2 ^ 64
  unfolding check_of
  computed_little =
      let small = fold_little 0 (maker_of bytes ++ product_of bytes) (omega arith) (append_bytes (maker_of bytes) (product_of bytes) parts_are.0 parts_are.1) in omega (arith, small)
    where
      parts_are : IsBytes (maker_of bytes) × IsBytes (product_of bytes)
      parts_are = (take_bytes 3 bytes fit, append_bytes (slice_range bytes 6 10) (slice_range bytes 11 15) (take_bytes 4 (drop 6 bytes) (drop_bytes 6 bytes fit)) (take_bytes 4 (drop 11 bytes) (drop_bytes 11 bytes fit)))

  misplaced_short : (o : ℕ) → o < length bytes → PartOk (misplaced o)
  misplaced_short o less = by (is_hyphen_offset o)
    where
      by : (b : Bool) → PartOk (cond b (parts.Hyphen o) (parts.Character o))
      by true = coded_text 44 (codes "P2") (o ∷ []) refl (omega (arith, less, little), tt) (omega arith)
      by false = coded_text 44 (codes "P3") (o ∷ []) refl (omega (arith, less, little), tt) (omega arith)

  check_short : (bad : Option ℕ) → IfSuch (λ (o : ℕ). o < length bytes) bad → IfSuch PartOk (character_or_check bytes bad)
  check_short (Some o) less = misplaced_short o less
  check_short None none =
      such_if PartOk (written_check bytes == computed_check bytes) None (Some (parts.Check (written_check bytes) (computed_check bytes))) tt
      (coded_text 44 (codes "P4") (written_check bytes ∷ computed_check bytes ∷ []) refl (written_little, (computed_little, tt)) (omega arith))

  pub part_fault_short : IfSuch PartOk (part_fault_of bytes)
  unfolding part_fault_of
  part_fault_short =
      such_if PartOk (length bytes == 15) (character_or_check bytes (first_bad is_good_at bytes)) (Some (parts.Length (length bytes))) (check_short (first_bad is_good_at bytes) (bad_within is_good_at bytes))
      (coded_text 44 (codes "P1") (length bytes ∷ []) refl (little, tt) (omega arith))
