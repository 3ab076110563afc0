-- The name of a protocol file is one that a file can have.
use Rattle.std.proofs.Common.{◌≡◌, ℕ, zero, suc, ◌+◌, ◌<◌, ◌≤◌, List, [], ◌∷◌, ◌++◌, length, slice_index, Bool, true, arith, refl, sym, subst}
use Rattle.std.proofs.lemmas.Bool.Decides.{nat_tests}
use Rattle.std.proofs.lemmas.List.{append_assoc, length-append}
use Rattle.load_base.specs.Bytes.{AllGood}
use Rattle.load_base.specs.Ident.{IsIdent, is_ident_byte}
use Rattle.load_base.specs.Name.{IsName, is_name_byte}
use Rattle.session_rules.specs.declared.outcome.FileKind.{FileKind}
use Rattle.session_rules.specs.declared.outcome.FileKind.TheVariants.{Lci, Lcl, Lcs, Lui, Lur, Lus}
use Rattle.session_rules.specs.FileNames.{extension, file_name}

good_both : (good : ℕ → Bool) (xs ys : List ℕ) → AllGood good xs → AllGood good ys → AllGood good (xs ++ ys)
good_both good [] ys a b k within = b k within
good_both good (x ∷ xs) ys a b zero within = a zero (omega arith)
good_both good (x ∷ xs) ys a b (suc k) within = good_both good xs ys (λ j w. a (suc j) (omega (arith, w))) b k (omega (arith, within))

ident_byte_is_good : (b : ℕ) → is_ident_byte b ≡ true → is_name_byte b ≡ true
ident_byte_is_good b good = grind (arith, nat_tests)

ident_is_good : (bytes : List ℕ) → IsIdent bytes → AllGood is_name_byte bytes
ident_is_good bytes is = λ k within. ident_byte_is_good (slice_index bytes k) (is.good k within)

good_bytes : (a b c d : ℕ) → is_name_byte a ≡ true → is_name_byte b ≡ true → is_name_byte c ≡ true → is_name_byte d ≡ true → AllGood is_name_byte (a ∷ b ∷ c ∷ d ∷ [])
good_bytes a b c d p q r s zero within = p
good_bytes a b c d p q r s (suc zero) within = q
good_bytes a b c d p q r s (suc (suc zero)) within = r
good_bytes a b c d p q r s (suc (suc (suc zero))) within = s
good_bytes a b c d p q r s (suc (suc (suc (suc k)))) within = absurd (none k within)
  where
    none : (k : ℕ) → suc (suc (suc (suc k))) < 4 → ⊥
    none k within = omega (arith, within)

extension_is_good : (kind : FileKind) → AllGood is_name_byte (extension kind)
extension_is_good Lci = good_bytes _ _ _ _ refl refl refl refl
extension_is_good Lcl = good_bytes _ _ _ _ refl refl refl refl
extension_is_good Lcs = good_bytes _ _ _ _ refl refl refl refl
extension_is_good Lui = good_bytes _ _ _ _ refl refl refl refl
extension_is_good Lur = good_bytes _ _ _ _ refl refl refl refl
extension_is_good Lus = good_bytes _ _ _ _ refl refl refl refl

extension_length : (kind : FileKind) → length (extension kind) ≡ 4
extension_length Lci = refl
extension_length Lcl = refl
extension_length Lcs = refl
extension_length Lui = refl
extension_length Lur = refl
extension_length Lus = refl

underscore_is_good : (k : ℕ) → k < 1 → is_name_byte (slice_index (95 ∷ []) k) ≡ true
underscore_is_good zero within = refl
underscore_is_good (suc k) within = absurd (none k within)
  where
    none : (k : ℕ) → suc k < 1 → ⊥
    none k within = omega (arith, within)

first_is_good : (bytes more : List ℕ) → IsIdent bytes → is_ident_byte (slice_index (bytes ++ more) 0) ≡ true
first_is_good [] more is = absurd (none is.size.0)
  where
    none : 1 ≤ 0 → ⊥
    none size = omega (arith, size)
first_is_good (b ∷ bytes) more is = is.good zero (omega arith)

not_hidden : (b : ℕ) → is_ident_byte b ≡ true → b ≡ 0x2E → ⊥
not_hidden b good e = absurd cc

module _ (hw pos : List ℕ) (kind : FileKind) (h : IsIdent hw) (p : IsIdent pos) where
  joined_length : length (hw ++ 95 ∷ (pos ++ extension kind)) ≡ length hw + suc (length pos + 4)
  joined_length = rw (length-append hw (95 ∷ (pos ++ extension kind)), length-append pos (extension kind), extension_length kind) refl

  is_named : IsName (hw ++ 95 ∷ (pos ++ extension kind))
  is_named = record {
    size = omega (arith, joined_length, h.size.0, h.size.1, p.size.1);
    visible = not_hidden _ (first_is_good hw (95 ∷ (pos ++ extension kind)) h);
    good = good_both is_name_byte hw (95 ∷ (pos ++ extension kind)) (ident_is_good hw h)
        (good_both is_name_byte (95 ∷ []) (pos ++ extension kind) underscore_is_good (good_both is_name_byte pos (extension kind) (ident_is_good pos p) (extension_is_good kind)));
  }

pub is_name : (hw pos : List ℕ) (kind : FileKind) → IsIdent hw → IsIdent pos → IsName (file_name hw pos kind)
unfolding file_name
is_name hw pos kind h p = subst IsName (sym (append_assoc hw (95 ∷ pos) (extension kind))) (is_named hw pos kind h p)
