-- Proofs that the protocol files of a target have names that a file can have.
use Rattle.std.proofs.Common.{◌≡◌, ℕ, zero, suc, ◌+◌, ◌≤◌, List, [], ◌∷◌, ◌++◌, length, true, arith, refl}
use Rattle.std.specs.Prelude.{slice_index}
use Rattle.std.specs.List.{AllByRecursion}
use Rattle.std.proofs.lemmas.Bool.Decides.{nat_tests}
use Rattle.std.proofs.lemmas.List.{length-append}
use Rattle.load_base.specs.Bytes.{AllGood}
use Rattle.load_base.specs.Ident.{IsIdent, is_ident_byte}
use Rattle.load_base.specs.Name.{IsName, is_name_byte}
use Rattle.session_rules.specs.declared.outcome.FileKind.{FileKind}
use Rattle.session_rules.specs.declared.outcome.FileKind.TheVariants.{Lci, Lcl, Lcs, Lui, Lur, Lus}
use Rattle.session_rules.specs.FileNames.{extension, file_name}
use Rattle.replay_rules.proofs.PlacedTraceLemmas.{all_append}
use Rattle.run_promises.specs.Listing.{WhatFitsNamesItsFiles}

-- ---- bytes of names

abbrev AreGood : List ℕ → Type 0
AreGood bytes = AllByRecursion (λ (b : ℕ). is_name_byte b ≡ true) bytes

ident_byte_is_good : (b : ℕ) → is_ident_byte b ≡ true → is_name_byte b ≡ true
ident_byte_is_good b good = grind (arith, nat_tests)

ident_is_good : (bytes : List ℕ) → AllGood is_ident_byte bytes → AreGood bytes
ident_is_good [] good = tt
ident_is_good (b ∷ bytes) good = (ident_byte_is_good b (good 0 (omega arith)), ident_is_good bytes (λ k within. good (suc k) (omega (arith, within))))

each_is_good : (bytes : List ℕ) → AreGood bytes → AllGood is_name_byte bytes
each_is_good [] good k within = absurd (omega (arith, within))
each_is_good (b ∷ bytes) (one, good) zero within = one
each_is_good (b ∷ bytes) (one, good) (suc k) within = each_is_good bytes good k (omega (arith, within))

-- ---- the ends of names

extension_is_good : (kind : FileKind) → AreGood (extension kind)
extension_is_good Lci = (refl, (refl, (refl, (refl, tt))))
extension_is_good Lcl = (refl, (refl, (refl, (refl, tt))))
extension_is_good Lcs = (refl, (refl, (refl, (refl, tt))))
extension_is_good Lui = (refl, (refl, (refl, (refl, tt))))
extension_is_good Lur = (refl, (refl, (refl, (refl, tt))))
extension_is_good Lus = (refl, (refl, (refl, (refl, tt))))

extension_length : (kind : FileKind) → length (extension kind) ≡ 4
extension_length Lci = refl
extension_length Lcl = refl
extension_length Lcs = refl
extension_length Lui = refl
extension_length Lur = refl
extension_length Lus = refl

-- ---- whole names

no_full_stop : (b : ℕ) → is_ident_byte b ≡ true → b ≡ 0x2E → ⊥
no_full_stop b good e = absurd cc

-- what begins with an Ident begins with no full stop
begins_visible : (hw more end : List ℕ) → IsIdent hw → slice_index ((hw ++ more) ++ end) 0 ≡ 0x2E → ⊥
begins_visible [] more end is e = absurd (none is.size.0)
  where
    none : 1 ≤ 0 → ⊥
    none size = omega (arith, size)
begins_visible (b ∷ hw) more end is e = no_full_stop b (is.good zero (omega arith)) e

name_length : (hw pos : List ℕ) (kind : FileKind) → length ((hw ++ 95 ∷ pos) ++ extension kind) ≡ (length hw + suc (length pos)) + 4
name_length hw pos kind = rw (length-append (hw ++ 95 ∷ pos) (extension kind), length-append hw (95 ∷ pos), extension_length kind) refl

is_name : (hw pos : List ℕ) (kind : FileKind) → IsIdent hw → IsIdent pos → IsName (file_name hw pos kind)
unfolding file_name
is_name hw pos kind h p = record {
  size = omega (arith, name_length hw pos kind, h.size.0, h.size.1, p.size.1);
  visible = begins_visible hw (95 ∷ pos) (extension kind) h;
  good = each_is_good ((hw ++ 95 ∷ pos) ++ extension kind) (all_append (λ (b : ℕ). is_name_byte b ≡ true) (hw ++ 95 ∷ pos) (extension kind)
      (all_append (λ (b : ℕ). is_name_byte b ≡ true) hw (95 ∷ pos) (ident_is_good hw h.good) (refl, ident_is_good pos p.good)) (extension_is_good kind));
}

pub fits_names : WhatFitsNamesItsFiles
fits_names s fits kind = is_name s.identity.hw s.identity.pos kind fits.identity.hw fits.identity.pos
