-- The functions that tell what is wrong with a text agree with what it means that a text is right or has a fault.
use Rattle.std.specs.Prelude.{◌≡◌, ◌≢◌, ◌⊎◌, ℕ, zero, suc, ◌<◌, ◌≤◌, List, [], ◌∷◌, length, slice_index, ◌==◌, nat_lt, Bool, true, false, ◌||◌, if◌then◌else◌, Option, Some, None, option_map, MatchOption, Ok, Err}
use Rattle.std.proofs.Common.{refl, subst, inl, inr, arith}
use Rattle.std.proofs.lemmas.Bool.{ne_eqb, eq-eqb, lt-ltb, le-ltb, ltb-false, ltb-true, eqb-false, eqb-true}
use Rattle.std.proofs.lemmas.Bool.Decides.{nat_tests}
use Rattle.load_base.specs.Bytes.{AllGood, IsFirstBad}
use Rattle.load_base.specs.Ident.{IsIdent, IsIdentFault, is_ident_byte}
use Rattle.load_base.specs.Name.{IsName, IsNameFault, is_name_byte}
use Rattle.load_base.specs.PartText.{IsPartText, IsPartTextFault, is_graphic}
use Rattle.load_base.specs.Text.{IsText, IsTextFault, is_printable}
use Rattle.load_base.specs.Verdicts.{first_bad, name_fault_of, text_fault_of, ident_fault_of, part_text_fault_of, verdict, judged, TellsFaults}
use Rattle.load_base.specs.declared.ident.IdentFault.{IdentFault}
use Rattle.load_base.specs.declared.ident.IdentFault.TheVariants as idents
use Rattle.load_base.specs.declared.name.NameFault.{NameFault}
use Rattle.load_base.specs.declared.name.NameFault.TheVariants as names
use Rattle.load_base.specs.declared.part_text.PartTextFault.{PartTextFault}
use Rattle.load_base.specs.declared.part_text.PartTextFault.TheVariants as parts
use Rattle.load_base.specs.declared.text.TextFault.{TextFault}
use Rattle.load_base.specs.declared.text.TextFault.TheVariants as texts

-- ---- the first byte that isn't good

-- there is none where each is good
pub first_bad-none : (good : ℕ → ℕ → Bool) (bytes : List ℕ) → ((k : ℕ) → k < length bytes → good k (slice_index bytes k) ≡ true) → first_bad good bytes ≡ None
first_bad-none good [] each = refl
first_bad-none good (b ∷ bytes) each =
    let here : good 0 b ≡ true = each 0 (omega arith) in
    let later : first_bad (λ offset. good (suc offset)) bytes ≡ None =
    first_bad-none (λ offset. good (suc offset)) bytes (λ k within. each (suc k) (omega (arith, within))) in
    rw (here, later) refl

-- it is the one that isn't where all before it are
pub first_bad-some : (good : ℕ → ℕ → Bool) (bytes : List ℕ) (offset : ℕ) → offset < length bytes
    → ((k : ℕ) → k < offset → good k (slice_index bytes k) ≡ true) → good offset (slice_index bytes offset) ≡ false → first_bad good bytes ≡ Some offset
first_bad-some good [] offset within before bad = absurd (omega arith)
first_bad-some good (b ∷ bytes) zero within before bad = rw bad refl
first_bad-some good (b ∷ bytes) (suc offset) within before bad =
    let here : good 0 b ≡ true = before 0 (omega arith) in
    let later : first_bad (λ at. good (suc at)) bytes ≡ Some offset =
    first_bad-some (λ at. good (suc at)) bytes offset (omega (arith, within)) (λ k less. before (suc k) (omega (arith, less))) bad in
    rw (here, later) refl

-- what an offset of a first bad byte means
pub record IsFirstBadAt (good : ℕ → ℕ → Bool) (bytes : List ℕ) (offset : ℕ) : Type 0 where
  pub within : offset < length bytes
  pub before : (k : ℕ) → k < offset → good k (slice_index bytes k) ≡ true
  pub bad : good offset (slice_index bytes offset) ≡ false

-- what is found says which bytes are good
abbrev pub SaysWhichAreGood : (good : ℕ → ℕ → Bool) → List ℕ → Option ℕ → Type 0
SaysWhichAreGood good bytes found =
    MatchOption found ((k : ℕ) → k < length bytes → good k (slice_index bytes k) ≡ true) (λ offset. IsFirstBadAt good bytes offset)

here_or_later : (good : ℕ → ℕ → Bool) (b : ℕ) (bytes : List ℕ) (here : Bool) (later : Option ℕ) → good 0 b ≡ here
    → SaysWhichAreGood (λ offset. good (suc offset)) bytes later → SaysWhichAreGood good (b ∷ bytes) (if here then option_map suc later else Some 0)
here_or_later good b bytes true None is each = at
  where
    at : (k : ℕ) → k < length (b ∷ bytes) → good k (slice_index (b ∷ bytes) k) ≡ true
    at zero within = is
    at (suc k) within = each k (omega (arith, within))
here_or_later good b bytes true (Some offset) is found = record { within = omega (arith, found.within); before = before; bad = found.bad }
  where
    before : (k : ℕ) → k < suc offset → good k (slice_index (b ∷ bytes) k) ≡ true
    before zero less = is
    before (suc k) less = found.before k (omega (arith, less))
here_or_later good b bytes false later is said = record { within = omega arith; before = λ k less. absurd (omega (arith, less)); bad = is }

pub first_bad-says : (good : ℕ → ℕ → Bool) (bytes : List ℕ) → SaysWhichAreGood good bytes (first_bad good bytes)
first_bad-says good [] = λ k within. absurd (omega (arith, within))
first_bad-says good (b ∷ bytes) =
    here_or_later good b bytes (good 0 b) (first_bad (λ offset. good (suc offset)) bytes) refl (first_bad-says (λ offset. good (suc offset)) bytes)

-- ---- tests in a row

-- a fault is told where its test says so, and else what comes after it
test_says : {E : Type 0} (t : Bool) (fault : E) (after : Option E) (IsRight : Type 0) (IsFault : E → Type 0)
    → (t ≡ true → IsFault fault) → (t ≡ false → MatchOption after IsRight IsFault) → MatchOption (if t then Some fault else after) IsRight IsFault
test_says true fault after IsRight IsFault found passed = found refl
test_says false fault after IsRight IsFault found passed = passed refl

-- the bytes of a text are tested last
bytes_say : {E : Type 0} (good : ℕ → Bool) (bytes : List ℕ) (named : ℕ → E) (IsRight : Type 0) (IsFault : E → Type 0)
    → (AllGood good bytes → IsRight) → ((offset : ℕ) → IsFirstBad good bytes offset → IsFault (named offset))
    → MatchOption (option_map named (first_bad (λ _ byte. good byte) bytes)) IsRight IsFault
bytes_say good bytes named IsRight IsFault right wrong = go (first_bad (λ _ byte. good byte) bytes) (first_bad-says (λ _ byte. good byte) bytes)
  where
    go : (found : Option ℕ) → SaysWhichAreGood (λ _ byte. good byte) bytes found → MatchOption (option_map named found) IsRight IsFault
    go None each = right each
    go (Some offset) is = wrong offset (record { within = is.within; before = is.before; bad = is.bad })

-- so a function whose answer always says what holds, and that answers what holds, tells the faults
pub tells : {E : Type 0} (fault_of : List ℕ → Option E) (IsRight : List ℕ → Type 0) (IsFault : List ℕ → E → Type 0)
    → ((bytes : List ℕ) → MatchOption (fault_of bytes) (IsRight bytes) (IsFault bytes)) → ((bytes : List ℕ) → IsRight bytes → fault_of bytes ≡ None)
    → ((bytes : List ℕ) (fault : E) → IsFault bytes fault → fault_of bytes ≡ Some fault) → ((bytes : List ℕ) → IsRight bytes → (offset : ℕ) → slice_index bytes offset < 256)
    → TellsFaults fault_of IsRight IsFault
tells {E = E} fault_of IsRight IsFault says right wrong small = record {
  right = λ bytes. (right bytes, is_right bytes (fault_of bytes) (says bytes));
  wrong = λ bytes fault. (wrong bytes fault, is_wrong bytes fault (fault_of bytes) (says bytes));
  small = small;
}
  where
    is_right : (bytes : List ℕ) (found : Option E) → MatchOption found (IsRight bytes) (IsFault bytes) → found ≡ None → IsRight bytes
    is_right bytes None is e = is
    is_right bytes (Some fault) is e = absurd cc

    is_wrong : (bytes : List ℕ) (fault : E) (found : Option E) → MatchOption found (IsRight bytes) (IsFault bytes) → found ≡ Some fault → IsFault bytes fault
    is_wrong bytes fault None is e = absurd cc
    is_wrong bytes fault (Some other) is e = let same : other ≡ fault = cc in subst (IsFault bytes) same is

-- what holds of each byte that is there
pub small_by : (good : ℕ → ℕ → Bool) → ((offset b : ℕ) → good offset b ≡ true → b < 256) → (bytes : List ℕ)
    → ((k : ℕ) → k < length bytes → good k (slice_index bytes k) ≡ true) → (offset : ℕ) → slice_index bytes offset < 256
small_by good small [] each offset = omega arith
small_by good small (b ∷ bytes) each zero = small 0 b (each 0 (omega arith))
small_by good small (b ∷ bytes) each (suc offset) = small_by (λ k. good (suc k)) (λ k. small (suc k)) bytes (λ k within. each (suc k) (omega (arith, within))) offset

-- ---- names of files

name_right : (bytes : List ℕ) → IsName bytes → name_fault_of bytes ≡ None
unfolding name_fault_of
name_right bytes is =
    rw (
      ne_eqb (length bytes) 0 (λ e. absurd (omega (arith, e, is.size.0))),
      le-ltb 64 (length bytes) is.size.1,
      ne_eqb (slice_index bytes 0) 0x2E is.visible,
      first_bad-none (λ _ byte. is_name_byte byte) bytes is.good,
    ) refl

name_wrong : (bytes : List ℕ) (fault : NameFault) → IsNameFault bytes fault → name_fault_of bytes ≡ Some fault
unfolding name_fault_of
name_wrong bytes names.Empty is = rw (eq-eqb (length bytes) 0 is) refl
name_wrong bytes names.TooLong is = rw (ne_eqb (length bytes) 0 (λ e. absurd (omega (arith, e, is))), lt-ltb 64 (length bytes) is) refl
name_wrong bytes (names.BadByte offset) is =
    rw (ne_eqb (length bytes) 0 (λ e. absurd (omega (arith, e, is.0.0))), le-ltb 64 (length bytes) is.0.1)
    (elim is.1 [
      | inl hidden ↦ rw (eq-eqb (slice_index bytes 0) 0x2E hidden.0, hidden.1) refl
      | inr bad ↦ rw (ne_eqb (slice_index bytes 0) 0x2E bad.0, first_bad-some (λ _ byte. is_name_byte byte) bytes offset bad.1.within bad.1.before bad.1.bad) refl
    ])

name_says : (bytes : List ℕ) → MatchOption (name_fault_of bytes) (IsName bytes) (IsNameFault bytes)
unfolding name_fault_of
name_says bytes =
    test_says (length bytes == 0) _ _ (IsName bytes) (IsNameFault bytes) (λ empty. eqb-true (length bytes) 0 empty)
    (λ some. test_says (nat_lt 64 (length bytes)) _ _ (IsName bytes) (IsNameFault bytes) (λ long. ltb-true 64 (length bytes) long)
    (λ short.
    let size : (1 ≤ length bytes) × (length bytes ≤ 64) = (omega (arith, eqb-false (length bytes) 0 some), ltb-false 64 (length bytes) short) in
    test_says (slice_index bytes 0 == 0x2E) _ _ (IsName bytes) (IsNameFault bytes) (λ hidden. (size, inl (eqb-true (slice_index bytes 0) 0x2E hidden, refl)))
    (λ visible.
    bytes_say is_name_byte bytes names.BadByte (IsName bytes) (IsNameFault bytes)
    (λ good. record { size = size; visible = eqb-false (slice_index bytes 0) 0x2E visible; good = good })
    (λ offset bad. (size, inr (eqb-false (slice_index bytes 0) 0x2E visible, bad))))))

name_byte_small : (b : ℕ) → is_name_byte b ≡ true → b < 256
name_byte_small b good = grind (arith, nat_tests)

pub name_faults : TellsFaults name_fault_of IsName IsNameFault
name_faults = tells name_fault_of IsName IsNameFault name_says name_right name_wrong (λ bytes is. small_by (λ _ byte. is_name_byte byte) (λ _. name_byte_small) bytes is.good)

-- ---- texts that people read

text_right : (bytes : List ℕ) → IsText bytes → text_fault_of bytes ≡ None
unfolding text_fault_of
text_right bytes is = rw (le-ltb 255 (length bytes) is.size, first_bad-none (λ _ byte. is_printable byte) bytes is.good) refl

text_wrong : (bytes : List ℕ) (fault : TextFault) → (fault ≢ texts.Memory) × IsTextFault bytes fault → text_fault_of bytes ≡ Some fault
unfolding text_fault_of
text_wrong bytes (texts.TooLong found) is = rw (lt-ltb 255 (length bytes) is.1.1, is.1.0) refl
text_wrong bytes (texts.BadByte offset) is =
    rw (le-ltb 255 (length bytes) is.1.0, first_bad-some (λ _ byte. is_printable byte) bytes offset is.1.1.within is.1.1.before is.1.1.bad) refl
text_wrong bytes texts.Memory is = absurd (is.0 refl)

text_says : (bytes : List ℕ) → MatchOption (text_fault_of bytes) (IsText bytes) (λ fault. (fault ≢ texts.Memory) × IsTextFault bytes fault)
unfolding text_fault_of
text_says bytes =
    test_says (nat_lt 255 (length bytes)) _ _ (IsText bytes) (λ fault. (fault ≢ texts.Memory) × IsTextFault bytes fault)
    (λ long. ((λ e. cc), (refl, ltb-true 255 (length bytes) long)))
    (λ short.
    let size = ltb-false 255 (length bytes) short in
    bytes_say is_printable bytes texts.BadByte (IsText bytes) (λ fault. (fault ≢ texts.Memory) × IsTextFault bytes fault)
    (λ good. record { size = size; good = good }) (λ offset bad. ((λ e. cc), (size, bad))))

printable_small : (b : ℕ) → is_printable b ≡ true → b < 256
printable_small b good = grind (arith, nat_tests)

pub text_faults : TellsFaults text_fault_of IsText (λ bytes fault. (fault ≢ texts.Memory) × IsTextFault bytes fault)
text_faults =
    tells text_fault_of IsText (λ bytes fault. (fault ≢ texts.Memory) × IsTextFault bytes fault) text_says text_right text_wrong
    (λ bytes is. small_by (λ _ byte. is_printable byte) (λ _. printable_small) bytes is.good)

-- ---- names of targets

has_length : (n : ℕ) → ((n == 0) || nat_lt 20 n) ≡ false → (1 ≤ n) × (n ≤ 20)
has_length n passed = (grind (arith, nat_tests), grind (arith, nat_tests))

has_none : (n : ℕ) → ((n == 0) || nat_lt 20 n) ≡ true → (n ≡ 0) ⊎ (20 < n)
has_none n found = grind (arith, nat_tests)

length_passes : (n : ℕ) → (1 ≤ n) × (n ≤ 20) → ((n == 0) || nat_lt 20 n) ≡ false
length_passes n is = grind (arith, nat_tests, is.0, is.1)

length_stops : (n : ℕ) → (n ≡ 0) ⊎ (20 < n) → ((n == 0) || nat_lt 20 n) ≡ true
length_stops n (inl empty) = rw empty refl
length_stops n (inr long) = grind (arith, nat_tests)

ident_right : (bytes : List ℕ) → IsIdent bytes → ident_fault_of bytes ≡ None
unfolding ident_fault_of
ident_right bytes is = rw (length_passes (length bytes) is.size, first_bad-none (λ _ byte. is_ident_byte byte) bytes is.good) refl

ident_wrong : (bytes : List ℕ) (fault : IdentFault) → IsIdentFault bytes fault → ident_fault_of bytes ≡ Some fault
unfolding ident_fault_of
ident_wrong bytes (idents.Length found) is = rw (length_stops (length bytes) is.1, is.0) refl
ident_wrong bytes (idents.BadByte offset) is =
    rw (length_passes (length bytes) is.0, first_bad-some (λ _ byte. is_ident_byte byte) bytes offset is.1.within is.1.before is.1.bad) refl

ident_says : (bytes : List ℕ) → MatchOption (ident_fault_of bytes) (IsIdent bytes) (IsIdentFault bytes)
unfolding ident_fault_of
ident_says bytes =
    test_says ((length bytes == 0) || nat_lt 20 (length bytes)) _ _ (IsIdent bytes) (IsIdentFault bytes) (λ found. (refl, has_none (length bytes) found))
    (λ passed.
    let size = has_length (length bytes) passed in
    bytes_say is_ident_byte bytes idents.BadByte (IsIdent bytes) (IsIdentFault bytes) (λ good. record { size = size; good = good }) (λ offset bad. (size, bad)))

ident_byte_small : (b : ℕ) → is_ident_byte b ≡ true → b < 256
ident_byte_small b good = grind (arith, nat_tests)

pub ident_faults : TellsFaults ident_fault_of IsIdent IsIdentFault
ident_faults = tells ident_fault_of IsIdent IsIdentFault ident_says ident_right ident_wrong (λ bytes is. small_by (λ _ byte. is_ident_byte byte) (λ _. ident_byte_small) bytes is.good)

-- ---- part numbers as text

part_text_right : (bytes : List ℕ) → IsPartText bytes → part_text_fault_of bytes ≡ None
unfolding part_text_fault_of
part_text_right bytes is = rw (eq-eqb (length bytes) 15 is.size, first_bad-none (λ _ byte. is_graphic byte) bytes is.good) refl

part_text_wrong : (bytes : List ℕ) (fault : PartTextFault) → IsPartTextFault bytes fault → part_text_fault_of bytes ≡ Some fault
unfolding part_text_fault_of
part_text_wrong bytes (parts.Length found) is = rw (ne_eqb (length bytes) 15 is.1, is.0) refl
part_text_wrong bytes (parts.BadByte offset) is =
    rw (eq-eqb (length bytes) 15 is.0, first_bad-some (λ _ byte. is_graphic byte) bytes offset is.1.within is.1.before is.1.bad) refl

part_text_says : (bytes : List ℕ) → MatchOption (part_text_fault_of bytes) (IsPartText bytes) (IsPartTextFault bytes)
unfolding part_text_fault_of
part_text_says bytes = go (length bytes == 15) refl
  where
    go : (t : Bool) → (length bytes == 15) ≡ t
        → MatchOption (if t then option_map parts.BadByte (first_bad (λ _ byte. is_graphic byte) bytes) else Some (parts.Length (length bytes))) (IsPartText bytes) (IsPartTextFault bytes)
    go true is =
        let size = eqb-true (length bytes) 15 is in
        bytes_say is_graphic bytes parts.BadByte (IsPartText bytes) (IsPartTextFault bytes) (λ good. record { size = size; good = good }) (λ offset bad. (size, bad))
    go false is = (refl, λ e. eqb-false (length bytes) 15 is e)

graphic_small : (b : ℕ) → is_graphic b ≡ true → b < 256
graphic_small b good = grind (arith, nat_tests)

pub part_text_faults : TellsFaults part_text_fault_of IsPartText IsPartTextFault
part_text_faults =
    tells part_text_fault_of IsPartText IsPartTextFault part_text_says part_text_right part_text_wrong (λ bytes is. small_by (λ _ byte. is_graphic byte) (λ _. graphic_small) bytes is.good)

-- ---- verdicts

-- what is judged is refused by another name for what is wrong, or read, in the same way
pub refused_judged : {E F : Type 0} (wrong : E → F) (fault_of : List ℕ → Option E) (bytes : List ℕ) (fault : E) → Err fault ≡ judged fault_of bytes
    → verdict wrong (fault_of bytes) bytes ≡ Err (wrong fault)
refused_judged {E = E} {F = F} wrong fault_of bytes fault is = go (fault_of bytes) is
  where
    go : (found : Option E) → Err fault ≡ verdict (λ f. f) found bytes → verdict wrong found bytes ≡ Err (wrong fault)
    go None e = absurd cc
    go (Some other) e = cc

pub read_judged : {E F : Type 0} (wrong : E → F) (fault_of : List ℕ → Option E) (bytes value : List ℕ) → Ok value ≡ judged fault_of bytes
    → verdict wrong (fault_of bytes) bytes ≡ Ok value
read_judged {E = E} {F = F} wrong fault_of bytes value is = go (fault_of bytes) is
  where
    go : (found : Option E) → Ok value ≡ verdict (λ f. f) found bytes → verdict wrong found bytes ≡ Ok value
    go None e = cc
    go (Some other) e = absurd cc

-- what is accepted is right, and is the bytes themselves
pub accepted : {E F : Type 0} (wrong : E → F) (fault : Option E) (bytes value : List ℕ) → verdict wrong fault bytes ≡ Ok value → (fault ≡ None) × (bytes ≡ value)
accepted wrong None bytes value e = (refl, cc)
accepted wrong (Some fault) bytes value e = absurd cc
