-- How protocol files are spelled, given how their fields are.
use Rattle.std.proofs.Common.{◌≡◌, ℕ, ◌+◌, ◌<◌, ◌^◌, List, [], ◌∷◌, ◌++◌, length, Result, Ok, Err, refl, sym, ap, subst, ◌∙◌, append_assoc, arith}
use Rattle.std.specs.Prelude.{IfOk}
use Rattle.std.specs.List.{concat}
use Rattle.std.proofs.lemmas.List.{append-nil}
use Rattle.field_grammar.specs.Grammar.{Grammar, IsBytes, EndsTheBytes, Spelled, renamed, sized, expected}
use Rattle.field_grammar.specs.Fields.{number, number_bytes, number_fields}
use Rattle.field_grammar.specs.Answers.{answer, AnswersAs}
use Rattle.field_grammar.specs.Spelling.{IsSpelledBy, IsPlacedBy, SpellsWhole}
use Rattle.field_grammar.proofs.NumberLemmas.{wide4, spelled-number, length_number_bytes}
use Rattle.field_grammar.proofs.CombinedLemmas.{spelled-renamed, spelled-expected}
use Rattle.field_grammar.proofs.PlacedLemmas.{placed, placed-as, placed-sized, placed-before, placed-ended}
use Rattle.field_grammar.proofs.ExactLemmas.{whole_one_value, not_both, answer-spelled, spelled_at_start, decided, ends_at_end, ends_before, ends_last}
use Rattle.field_grammar.proofs.DecoderLemmas.{found_spelling, only_spelling, spelled_by, spelling_is}
use Rattle.load_protocol_files.specs.Faults.{named}
use Rattle.load_protocol_files.specs.declared.fault.FileFault.{FileFault}
use Rattle.load_protocol_files.specs.declared.fault.FileFault.TheVariants as faults
use Rattle.load_protocol_files.specs.Pieces.{u16, u16_fields}
use Rattle.field_grammar.specs.OneSpelling.{HasOneSpelling}
use Rattle.load_protocol_files.specs.Files.{head, tail, file, file_fields, FileSpells, IsExact}
use Rattle.load_protocol_files.specs.Laws.Pieces.{spelled-u16}

-- ---- the head and the tail

abbrev head_fields : ℕ → List (List ℕ)
head_fields said = number_bytes 4 said ∷ number_bytes 2 0x4133 ∷ []

number_size : (n x : ℕ) → length (concat (number_fields n x)) ≡ n
number_size n x = ap length (append-nil (number_bytes n x)) ∙ length_number_bytes n x

-- the length tells how many bytes follow the head
placed-head : IsPlacedBy head (λ before said. head_fields said) (λ before after said. (said < 2 ^ 32) × (said ≡ 6 + after))
unfolding head
placed-head =
    let length_field = placed-sized (renamed named (number 4)) (λ n. n) faults.Length (number_fields 4) (λ n. n < 2 ^ 32) (spelled-renamed named (number 4) (number_fields 4) (λ n. n < 2 ^ 32) (spelled-number 4 wide4)) in
    let version = placed (expected u16 0x4133 faults.Version) (λ u. u16_fields 0x4133) (λ u. Unit {0}) (spelled-expected u16 0x4133 faults.Version u16_fields (λ n. n < 2 ^ 16) spelled-u16 (omega arith)) in
    placed-as head (λ before said. number_fields 4 said ++ u16_fields 0x4133) (λ before said. head_fields said)
    (λ before after said. ((said < 2 ^ 32) × (said ≡ length (concat (number_fields 4 said)) + (length (concat (u16_fields 0x4133)) + after))) × Unit {0})
    (λ before after said. (said < 2 ^ 32) × (said ≡ 6 + after))
    (λ before after said fits. (refl, (fits.0.0, omega (arith, fits.0.1, number_size 4 said, number_size 2 0x4133))))
    (λ before after said fits. (refl, ((fits.0, omega (arith, fits.1, number_size 4 said, number_size 2 0x4133)), tt)))
    (placed-before (sized (renamed named (number 4)) (λ n. n) faults.Length) (λ said. expected u16 0x4133 faults.Version) (λ before. number_fields 4) (λ said before u. u16_fields 0x4133)
    (λ before after said. (said < 2 ^ 32) × (said ≡ length (concat (number_fields 4 said)) + after)) (λ said before after u. Unit {0}) length_field (λ said. version))

placed-tail : IsPlacedBy tail (λ before u. []) (λ before after u. after ≡ 0)
unfolding tail
placed-tail = placed-ended faults.Rest

-- ---- the whole

-- what of a file's spelling depends on its type
abbrev FileFits : {A : Type 0} → (A → List (List ℕ)) → (A → Type 0) → A → Type 0
FileFits s P value = P value × (6 + length (concat (s value)) < 2 ^ 32)

pub spells-file : {A : Type 0} (body : Grammar FileFault A) (s : A → List (List ℕ)) (P : A → Type 0) → IsSpelledBy body s P
    → SpellsWhole (file body) (λ value. file_fields (s value)) (FileFits s P)
unfolding file_fields
spells-file {A = A} body s P one = record {
  to = λ fields after value follows.
      let (said, f1, o1, parts1, h1, (x, f2, o2, parts2, h2, (u, f3, o3, parts3, h3, last))) = follows in
      let a = placed-head.to [] f1 (length (concat o1) + after) said h1 in
      let b = one.to ([] ++ concat f1) f2 (length (concat o2) + after) x h2 in
      let t = placed-tail.to (([] ++ concat f1) ++ concat f2) f3 (length (concat o3) + after) u h3 in
      let body_is : o1 ≡ s x = rw (parts2, parts3, t.0, last.0, b.0, append-nil) refl in
      let none : 0 + after ≡ 0 = subst (λ (o : List (List ℕ)). length (concat o) + after ≡ 0) last.0 t.1 in
      let size : said ≡ 6 + (length (concat (s x)) + after) = subst (λ (o : List (List ℕ)). said ≡ 6 + (length (concat o) + after)) body_is a.1.1 in
      let is : said ≡ 6 + length (concat (s x)) = omega (arith, size, none) in
      let whole : fields ≡ head_fields said ++ s x = parts1 ∙ (ap (λ (f : List (List ℕ)). f ++ o1) a.0 ∙ ap (λ (o : List (List ℕ)). head_fields said ++ o) body_is) in
      let due : (fields ≡ file_fields (s x)) × (6 + length (concat (s x)) < 2 ^ 32) = subst (λ (n : ℕ). (fields ≡ head_fields n ++ s x) × (n < 2 ^ 32)) is (whole, a.1.0) in
      subst (λ (v : A). (fields ≡ file_fields (s v)) × FileFits s P v × (after ≡ 0)) last.1 (due.0, (b.1, due.1), omega (arith, none));
  from = λ value fits.
      let said : ℕ = 6 + length (concat (s value)) in
      let exact : said ≡ 6 + (length (concat (s value)) + 0) = omega arith in (
        said,
        head_fields said,
        s value,
        refl,
        placed-head.from [] (length (concat (s value)) + 0) said (fits.1, exact),
        (
          value,
          s value,
          [],
          sym (append-nil (s value)),
          one.from ([] ++ concat (head_fields said)) (0 + 0) value fits.0,
          (tt, [], [], refl, placed-tail.from (([] ++ concat (head_fields said)) ++ concat (s value)) (0 + 0) tt (omega arith), (refl, refl)),
        ),
      );
}

-- ---- the same, said of bytes

concat-file_fields : (fields : List (List ℕ)) → concat (file_fields fields) ≡ number_bytes 4 (6 + length (concat fields)) ++ number_bytes 2 0x4133 ++ concat fields
unfolding file_fields
concat-file_fields fields = sym (append_assoc (number_bytes 4 (6 + length (concat fields))) (number_bytes 2 0x4133) (concat fields))

to_spells : {A : Type 0} (s : A → List (List ℕ)) (P : A → Type 0) (value : A) (bytes : List ℕ) → FileFits s P value × (bytes ≡ concat (file_fields (s value))) → FileSpells s P value bytes
to_spells s P value bytes is = (is.0.0, record { small = is.0.1; written = is.1 ∙ concat-file_fields (s value) })

from_spells : {A : Type 0} (s : A → List (List ℕ)) (P : A → Type 0) (value : A) (bytes : List ℕ) → FileSpells s P value bytes → FileFits s P value × (bytes ≡ concat (file_fields (s value)))
from_spells s P value bytes is = ((is.0, is.1.small), is.1.written ∙ sym (concat-file_fields (s value)))

if_ok : {T F : Type 0} (P Q : T → Type 0) (r : Result T F) → ((x : T) → P x → Q x) → IfOk r P → IfOk r Q
if_ok P Q (Ok x) there is = there x is
if_ok P Q (Err f) there is = tt

-- a decoder finds what is spelled
pub file_found : {T A : Type 0} (view : T → A) (body : Grammar FileFault A) (s : A → List (List ℕ)) (P : A → Type 0) (bytes : List ℕ) (r : Result T FileFault)
    → IsSpelledBy body s P → IsBytes bytes → AnswersAs faults.Memory view r (answer (file body) bytes) → IfOk r (λ x. FileSpells s P (view x) bytes)
file_found view body s P bytes r one fit gives =
    if_ok (λ x. FileFits s P (view x) × (bytes ≡ concat (file_fields (s (view x))))) (λ x. FileSpells s P (view x) bytes) r (λ x is. to_spells s P (view x) bytes is)
    (found_spelling faults.Memory view (file body) (λ value. file_fields (s value)) (FileFits s P) bytes r (spells-file body s P one) fit gives)

-- and nothing else
pub file_only : {T A : Type 0} (view : T → A) (body : Grammar FileFault A) (s : A → List (List ℕ)) (P : A → Type 0) (bytes : List ℕ) (r : Result T FileFault)
    → IsSpelledBy body s P → AnswersAs faults.Memory view r (answer (file body) bytes) → (v : A) → FileSpells s P v bytes → AnswersAs faults.Memory view r (Ok v)
file_only view body s P bytes r one gives v is =
    only_spelling faults.Memory view (file body) (λ value. file_fields (s value)) (FileFits s P) bytes r (spells-file body s P one) gives v (from_spells s P v bytes is)

-- a value and its bytes tell each other
pub one_spelling_of : {A : Type 0} (body : Grammar FileFault A) (s : A → List (List ℕ)) (P : A → Type 0) → IsSpelledBy body s P → HasOneSpelling (file body) (FileSpells s P)
one_spelling_of {A = A} body s P one =
    let spells = spells-file body s P one in
    let spelled : (value : A) (bytes : List ℕ) → FileSpells s P value bytes → Spelled (file body) bytes value = λ value bytes is. spelled_by (file body) (λ v. file_fields (s v)) (FileFits s P) bytes value spells (from_spells s P value bytes is) in
    record {
      one_spelling = λ value bytes others is other. is.1.written ∙ sym other.1.written;
      one_value = λ value other bytes is same. whole_one_value (file body) bytes value other (spelled value bytes is) (spelled other bytes same);
      read_again = λ value bytes is. answer-spelled (file body) bytes value (spelled_at_start (file body) bytes value (spelled value bytes is));
      no_fault = λ value bytes fault is faulty. not_both (file body) bytes value fault (spelled_at_start (file body) bytes value (spelled value bytes is)) faulty;
    }

ends-file : {A : Type 0} (body : Grammar FileFault A) → EndsTheBytes (file body)
unfolding tail
ends-file body = ends_last _ _ (λ said. ends_last _ _ (λ value. ends_before _ _ (ends_at_end faults.Rest)))

-- so whatever the bytes are, the format decides them
pub exact_of : {A : Type 0} (body : Grammar FileFault A) (s : A → List (List ℕ)) (P : A → Type 0) → IsSpelledBy body s P → IsExact (file body) (FileSpells s P)
exact_of body s P one = record {
  one = one_spelling_of body s P one;
  spelled = λ bytes value. (
    λ is. to_spells s P value bytes (spelling_is (file body) (λ v. file_fields (s v)) (FileFits s P) bytes value (spells-file body s P one) is),
    λ is. spelled_by (file body) (λ v. file_fields (s v)) (FileFits s P) bytes value (spells-file body s P one) (from_spells s P value bytes is),
  );
  decided = λ bytes fit. decided (file body) bytes (ends-file body) fit;
}
