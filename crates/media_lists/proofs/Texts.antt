-- How a path is spelled.
use Rattle.std.proofs.Common.{◌≡◌, ℕ, zero, suc, List, [], ◌∷◌, ◌++◌, Some, true, refl, sym, subst, arith}
use Rattle.std.specs.Prelude.{slice_index}
use Rattle.std.proofs.lemmas.Bool.Decides.{nat_tests}
use Rattle.load_base.specs.Bytes.{AllGood}
use Rattle.std.specs.List.{flat_map, AllByRecursion}
use Rattle.std.proofs.lemmas.List.Concat.{flat_map-cons}
use Rattle.load_base.specs.Name.{IsName, is_name_byte}
use Rattle.load_base.specs.Text.{IsText, is_printable}
use Rattle.load_base.specs.Verdicts.{TellsFaults}
use Rattle.load_base.proofs.VerdictLemmas.{text_faults}
use Rattle.field_grammar.specs.Spelling.{IsSpelledBy}
use Rattle.field_grammar.specs.Fields.{padded_fields}
use Rattle.field_grammar.proofs.JudgedLemmas.{spelled-right_padded}
use Rattle.media_lists.specs.Lists.{named, path}
use Rattle.media_lists.specs.Paths.{closed, path_fault_of, IsPath}
use Rattle.media_lists.specs.declared.fault.ListFault.TheVariants as faults
use Rattle.media_lists.specs.declared.fault.WordFault.TheVariants as words
use Rattle.media_lists.specs.declared.fault.PathFault.TheVariants as paths
use Rattle.media_lists.proofs.PathLemmas.{is_path, has_no_fault}

good_more : (byte : ℕ) (rest : List ℕ) → is_printable byte ≡ true → AllGood is_printable rest → AllGood is_printable (byte ∷ rest)
good_more byte rest one good zero lt = one
good_more byte rest one good (suc k) lt = good k (omega (arith, lt))

good_behind : (one other : List ℕ) → AllGood is_printable one → AllGood is_printable other → AllGood is_printable (one ++ other)
good_behind [] other here there k lt = there k lt
good_behind (b ∷ one) other here there zero lt = here 0 (omega arith)
good_behind (b ∷ one) other here there (suc k) lt = good_behind one other (λ j below. here (suc j) (omega (arith, below))) there k (omega (arith, lt))

no_bytes : AllGood is_printable []
no_bytes k lt = absurd (omega (arith, lt))

printable : (byte : ℕ) → is_name_byte byte ≡ true → is_printable byte ≡ true
printable byte good = grind (arith, nat_tests)

names_good : (names : List (List ℕ)) → AllByRecursion IsName names → AllGood is_printable (flat_map closed names)
names_good [] good = no_bytes
names_good (name ∷ names) good =
    subst (λ (l : List ℕ). AllGood is_printable l) (sym (flat_map-cons closed name names))
    (good_behind (closed name) (flat_map closed names) (good_behind name (0x5C ∷ []) (λ k lt. printable (slice_index name k) (good.0.good k lt)) (good_more 0x5C [] refl no_bytes)) (names_good names good.1))

pub path_is_text : (bytes : List ℕ) → IsPath bytes → IsText bytes
path_is_text bytes is = record {
  size = omega (arith, is.size);
  good = subst (λ (l : List ℕ). AllGood is_printable l) (sym is.written) (good_more 0x5C (flat_map closed is.names) refl (names_good is.names is.good));
}

path_faults : TellsFaults path_fault_of IsPath (λ bytes end. path_fault_of bytes ≡ Some end)
path_faults = record { right = λ bytes. (has_no_fault bytes, is_path bytes); wrong = λ bytes end. (λ is. is, λ is. is); small = λ bytes is. text_faults.small bytes (path_is_text bytes is) }

pub spelled-path : IsSpelledBy path padded_fields IsPath
unfolding path
spelled-path = spelled-right_padded named (λ offset end. faults.Word offset (words.Path (paths.Path end))) path_fault_of IsPath _ path_faults (λ t is. omega (arith, is.size))
