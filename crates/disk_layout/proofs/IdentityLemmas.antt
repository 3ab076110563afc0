-- An identity that is written is read again.
use Rattle.std.proofs.Common.{◌≡◌, ℕ, ◌+◌, ◌-◌, ◌<◌, ◌≤◌, ◌^◌, List, [], ◌∷◌, ◌++◌, length, true, refl, sym, ap, subst, ◌∙◌, append_assoc, arith, length-append}
use Rattle.std.specs.Prelude.{is_none}
use Rattle.std.specs.List.{concat}
use Rattle.std.proofs.lemmas.Bool.{eq-eqb}
use Rattle.std.proofs.lemmas.Bool.Decides.{nat_tests}
use Rattle.std.proofs.lemmas.List.{append-nil}
use Rattle.std.proofs.lemmas.List.Folds.{concat-append}
use Rattle.load_base.specs.Ident.{IsIdent}
use Rattle.load_base.specs.Verdicts.{ident_fault_of}
use Rattle.load_base.proofs.VerdictLemmas.{ident_faults}
use Rattle.crc_fields.specs.CheckSums.{crc16_of}
use Rattle.disk_model.specs.Image.{Image, range}
use Rattle.field_grammar.specs.Grammar.{Grammar, Follows, give, seq}
use Rattle.field_grammar.specs.Fields.{number, short, number_bytes, number_fields, short_text, short_fields}
use Rattle.field_grammar.specs.Spelling.{IsSpelledBy}
use Rattle.field_grammar.proofs.NumberLemmas.{wide1, wide2, wide4, spelled-number, length_number_bytes}
use Rattle.field_grammar.proofs.TextLemmas.{IsShortText, spelled-short, concat_short_fields, concat_number_fields}
use Rattle.disk_layout.specs.Offsets.{IsBankSize, is_bank_size, longest_identity}
use Rattle.disk_layout.specs.Fields.{sound}
use Rattle.disk_layout.proofs.FieldLemmas.{spelled-as, spelled-sound, nothing_wrong, no_fault}
use Rattle.disk_layout.specs.Identity.{exact_byte, signature, bank_size, ident, check_sum, identity, IsIdentity, identity_prefix, identity_text, HasIdentity}
use Rattle.disk_layout.proofs.RangeLemmas.{ranges_joined}
use Rattle.disk_layout.specs.declared.identity.Identity.{Identity}

-- ---- the fields

-- these fields follow the format and say this value
record Says {F A : Type 0} (g : Grammar F A) (before : List ℕ) (fields : List (List ℕ)) (after : ℕ) (value : A) : Type 0 where
  follows : Follows g before fields after value

-- one part and then another
then_follows : {F A B : Type 0} (g : Grammar F A) (k : A → Grammar F B) (before : List ℕ) (first others : List (List ℕ)) (after : ℕ) (x : A) (y : B)
    → Says g before first (length (concat others) + after) x → Says (k x) (before ++ concat first) others after y → Says (seq g k) before (first ++ others) after y
then_follows g k before first others after x y one two = record { follows = (x, first, others, refl, one.follows, two.follows) }

says_byte : (byte : ℕ) (before : List ℕ) (after : ℕ) → byte < 256 → Says (exact_byte byte) before (number_fields 1 byte) after tt
unfolding exact_byte
says_byte byte before after small = record {
  follows = (before, [], number_fields 1 byte, refl, (refl, refl), (byte, number_fields 1 byte, [], refl, (spelled-number 1 wide1).from (before ++ []) (0 + after) byte small, (refl, eq-eqb byte byte refl)));
}

says_sum : (before : List ℕ) (after : ℕ) → crc16_of before < 2 ^ 16 → Says check_sum before (number_fields 2 (crc16_of before)) after tt
unfolding check_sum
says_sum before after small = record {
  follows = (
    before,
    [],
    number_fields 2 (crc16_of before),
    refl,
    (refl, refl),
    (crc16_of before, number_fields 2 (crc16_of before), [], refl, (spelled-number 2 wide2).from (before ++ []) (0 + after) (crc16_of before) small, (refl, eq-eqb (crc16_of before) (crc16_of before) refl)),
  );
}

spelled-bank_size : IsSpelledBy bank_size (number_fields 4) (λ n. IsBankSize n)
unfolding bank_size
spelled-bank_size =
    spelled-as (sound (λ offset. offset) (number 4) is_bank_size) (number_fields 4) (λ n. (n < 256 ^ 4) × (is_bank_size n ≡ true)) (λ n. IsBankSize n)
    (λ n is. (least n is.1, most n is.1)) (λ n is. (omega (arith, is.1), passes n is.0 is.1))
    (spelled-sound (λ offset. offset) (number 4) is_bank_size (number_fields 4) (λ n. n < 256 ^ 4) (spelled-number 4 wide4))
  where
    least : (n : ℕ) → is_bank_size n ≡ true → 4096 ≤ n
    least n e = grind (arith, nat_tests)

    most : (n : ℕ) → is_bank_size n ≡ true → n ≤ 67108864
    most n e = grind (arith, nat_tests)

    passes : (n : ℕ) → 4096 ≤ n → n ≤ 67108864 → is_bank_size n ≡ true
    passes n low high = grind (arith, nat_tests)

spelled-ident : IsSpelledBy ident short_fields IsIdent
unfolding ident
spelled-ident =
    spelled-as (sound (λ offset. offset) short (λ text. is_none (ident_fault_of text))) short_fields (λ t. IsShortText t × (is_none (ident_fault_of t) ≡ true)) IsIdent
    (λ t is. (ident_faults.right t).1 (nothing_wrong (ident_fault_of t) is.1))
    (λ t is. ((omega (arith, is.size.1), ident_faults.small t is), no_fault (ident_fault_of t) ((ident_faults.right t).0 is)))
    (spelled-sound (λ offset. offset) short (λ text. is_none (ident_fault_of text)) short_fields IsShortText spelled-short)

says_bank_size : (before : List ℕ) (after n : ℕ) → IsBankSize n → Says bank_size before (number_fields 4 n) after n
says_bank_size before after n is = record { follows = spelled-bank_size.from before after n is }

says_ident : (before : List ℕ) (after : ℕ) (text : List ℕ) → IsIdent text → Says ident before (short_fields text) after text
says_ident before after text is = record { follows = spelled-ident.from before after text is }

says_all : {F A : Type 0} (before : List ℕ) (after : ℕ) (x : A) → Says (give {F = F} x) before [] after x
says_all before after x = record { follows = (refl, refl) }

-- ---- the whole

abbrev byte_field : ℕ → List (List ℕ)
byte_field byte = number_fields 1 byte

abbrev signature_fields : List (List ℕ)
signature_fields = byte_field 0x41 ++ (byte_field 0x36 ++ (byte_field 0x31 ++ (byte_field 0x35 ++ (byte_field 0 ++ byte_field 1))))

says_signature : (before : List ℕ) (after : ℕ) → Says signature before signature_fields after tt
unfolding signature
says_signature before after =
    then_follows _ _ before (byte_field 0x41) _ after tt tt (says_byte 0x41 before _ (omega arith))
    (then_follows _ _ _ (byte_field 0x36) _ after tt tt (says_byte 0x36 _ _ (omega arith))
    (then_follows _ _ _ (byte_field 0x31) _ after tt tt (says_byte 0x31 _ _ (omega arith))
    (then_follows _ _ _ (byte_field 0x35) _ after tt tt (says_byte 0x35 _ _ (omega arith))
    (then_follows _ _ _ (byte_field 0) _ after tt tt (says_byte 0 _ _ (omega arith)) (says_byte 1 _ after (omega arith))))))

abbrev identity_fields : Identity → ℕ → List (List ℕ)
identity_fields id sum = signature_fields ++ (number_fields 4 id.bank ++ (short_fields id.hw ++ (short_fields id.pos ++ (short_fields id.serial ++ (number_fields 2 sum ++ [])))))

-- what stands before the check sum
abbrev before_sum : Identity → List ℕ
before_sum id = (((([] ++ concat signature_fields) ++ concat (number_fields 4 id.bank)) ++ concat (short_fields id.hw)) ++ concat (short_fields id.pos)) ++ concat (short_fields id.serial)

signature_is : concat signature_fields ≡ 0x41 ∷ 0x36 ∷ 0x31 ∷ 0x35 ∷ 0 ∷ 1 ∷ []
unfolding number_bytes
signature_is = refl

before_sum_is : (id : Identity) → before_sum id ≡ identity_prefix id
unfolding identity_prefix
before_sum_is id =
    rw (signature_is, concat_number_fields 4 id.bank, concat_short_fields id.hw, concat_short_fields id.pos, concat_short_fields id.serial)
    (joined (0x41 ∷ 0x36 ∷ 0x31 ∷ 0x35 ∷ 0 ∷ 1 ∷ []) (number_bytes 4 id.bank) (short_text id.hw) (short_text id.pos) (short_text id.serial))
  where
    joined : (a b c d e : List ℕ) → (((a ++ b) ++ c) ++ d) ++ e ≡ a ++ (b ++ (c ++ (d ++ e)))
    joined a b c d e = append_assoc ((a ++ b) ++ c) d e ∙ append_assoc (a ++ b) c (d ++ e) ∙ append_assoc a b (c ++ (d ++ e))

fields_are : (id : Identity) → concat (identity_fields id (crc16_of (identity_prefix id))) ≡ identity_text id
unfolding identity_text number_bytes
fields_are id =
    let sum : ℕ = crc16_of (identity_prefix id) in
    let last : concat (number_fields 2 sum ++ []) ≡ number_bytes 2 sum = ap concat (append-nil (number_fields 2 sum)) ∙ concat_number_fields 2 sum in
    rw (concat-append, concat-append, concat-append, concat-append, concat-append, last)
    (joined (concat signature_fields) (concat (number_fields 4 id.bank)) (concat (short_fields id.hw)) (concat (short_fields id.pos)) (concat (short_fields id.serial)) (number_bytes 2 sum)
    ∙ ap (λ (l : List ℕ). l ++ number_bytes 2 sum) (before_sum_is id))
  where
    joined : (a b c d e f : List ℕ) → a ++ (b ++ (c ++ (d ++ (e ++ f)))) ≡ ((((a ++ b) ++ c) ++ d) ++ e) ++ f
    joined a b c d e f =
        sym (append_assoc (((a ++ b) ++ c) ++ d) e f ∙ append_assoc ((a ++ b) ++ c) d (e ++ f) ∙ append_assoc (a ++ b) c (d ++ (e ++ f)) ∙ append_assoc a b (c ++ (d ++ (e ++ f))))

says_identity : (id : Identity) (after : ℕ) → IsIdentity id → crc16_of (identity_prefix id) < 2 ^ 16 → Says identity [] (identity_fields id (crc16_of (identity_prefix id))) after id
unfolding identity
says_identity id after is small =
    let sum : Says check_sum (before_sum id) (number_fields 2 (crc16_of (identity_prefix id))) (0 + after) tt =
    subst (λ (before : List ℕ). Says check_sum (before_sum id) (number_fields 2 (crc16_of before)) (0 + after) tt) (before_sum_is id)
    (says_sum (before_sum id) (0 + after) (rw (before_sum_is id) small)) in
    then_follows _ _ [] signature_fields _ after tt id (says_signature [] _)
    (then_follows _ _ _ (number_fields 4 id.bank) _ after id.bank id (says_bank_size _ _ id.bank is.bank)
    (then_follows _ _ _ (short_fields id.hw) _ after id.hw id (says_ident _ _ id.hw is.hw)
    (then_follows _ _ _ (short_fields id.pos) _ after id.pos id (says_ident _ _ id.pos is.pos)
    (then_follows _ _ _ (short_fields id.serial) _ after id.serial id (says_ident _ _ id.serial is.serial)
    (then_follows _ _ _ (number_fields 2 (crc16_of (identity_prefix id))) [] after tt id sum (says_all _ after id))))))

pub identity_is_short : (id : Identity) → IsIdentity id → length (identity_text id) ≤ longest_identity
unfolding identity_text identity_prefix
identity_is_short id is =
    let hw = is.hw.size.1 in
    let pos = is.pos.size.1 in
    let serial = is.serial.size.1 in
    simp (length-append, length_number_bytes) (omega (arith, hw, pos, serial))

-- where the text of an identity stands at the start of a disk, the disk has it
pub has_identity : (image : Image) (id : Identity) → IsIdentity id → crc16_of (identity_prefix id) < 2 ^ 16 → range image 0 (length (identity_text id)) ≡ identity_text id → HasIdentity image id
has_identity image id is small stands =
    let n : ℕ = length (identity_text id) in
    let rest : List ℕ = range image n (longest_identity - n) in
    let whole : range image 0 longest_identity ≡ identity_text id ++ rest =
    ap (λ (m : ℕ). range image 0 m) (sum_is n (identity_is_short id is)) ∙ sym (ranges_joined image 0 n n (longest_identity - n) (omega arith)) ∙ ap (λ (l : List ℕ). l ++ rest) stands in (
      identity_fields id (crc16_of (identity_prefix id)),
      rest,
      whole ∙ ap (λ (l : List ℕ). l ++ rest) (sym (fields_are id)),
      (says_identity id (length rest) is small).follows,
    )
  where
    sum_is : (n : ℕ) → n ≤ longest_identity → longest_identity ≡ n + (longest_identity - n)
    sum_is n few = omega (arith, few)
