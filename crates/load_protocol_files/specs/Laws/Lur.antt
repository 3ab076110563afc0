-- How upload request files are spelled.
use Rattle.std.proofs.Common.{◌+◌, ◌*◌, ◌≤◌, arith, ℕ, ◌<◌, ◌^◌, List, length, refl}
use Rattle.std.specs.List.{All, concat, flat_map}
use Rattle.std.proofs.lemmas.List.{length-append}
use Rattle.std.proofs.lemmas.List.Folds.{concat-append}
use Rattle.field_grammar.proofs.NumberLemmas.{length_number_bytes}
use Rattle.field_grammar.proofs.WrittenLemmas.{at_most_each}
use Rattle.field_grammar.proofs.SectionLemmas.{size_short}
use Rattle.part_number.proofs.VerdictLemmas.{part_size}
use Rattle.field_grammar.specs.Grammar.{pair}
use Rattle.field_grammar.specs.Fields.{short_fields}
use Rattle.field_grammar.specs.Spelling.{IsSpelledBy}
use Rattle.field_grammar.proofs.CombinedLemmas.{spelled-as, spelled-pair, spelled-mapped}
use Rattle.load_base.specs.Name.{IsName}
use Rattle.part_number.specs.PartNumber.{IsPartNumberText}
use Rattle.load_protocol_files.specs.declared.lur.Wanted.{Wanted}
use Rattle.load_protocol_files.specs.Pieces.{name, part, counted, counted_fields}
use Rattle.load_protocol_files.specs.Lur.{to_wanted, wanted, wanted_fields, WantedFits, LurView, to_lur, lur_body, lur_fields, LurFits, LurSpells}
use Rattle.load_protocol_files.specs.Laws.Pieces.{spelled-name, spelled-part, spelled-counted_list}

from_wanted : Wanted → List ℕ × List ℕ
from_wanted v = (v.header, v.part)

spelled-wanted : IsSpelledBy wanted wanted_fields (λ w. WantedFits w)
unfolding wanted from_wanted
spelled-wanted =
    spelled-as wanted wanted_fields (λ v. IsName v.header × IsPartNumberText v.part) (λ v. WantedFits v)
    (λ v p. record { header = p.0; part = p.1 }) (λ v fits. (fits.header, fits.part))
    (spelled-mapped to_wanted from_wanted (pair name part) _ _ (λ x. refl) (λ y. refl)
    (spelled-pair name part short_fields short_fields (λ t. IsName t) (λ t. IsPartNumberText t) spelled-name spelled-part))

from_lur : LurView → List Wanted
from_lur v = v.loads

pub spelled-lur : IsSpelledBy lur_body lur_fields (λ v. LurFits v)
unfolding lur_body from_lur
spelled-lur =
    spelled-as lur_body lur_fields (λ v. (length v.loads < 2 ^ 16) × All (λ w. WantedFits w) v.loads) (λ v. LurFits v)
    (λ v p. record { count = p.0; loads = p.1 }) (λ v fits. (fits.count, fits.loads))
    (spelled-mapped to_lur from_lur (counted wanted) _ _ (λ x. refl) (λ y. refl) (spelled-counted_list wanted wanted_fields (λ w. WantedFits w) spelled-wanted))

-- ---- its size

wanted_size : (v : Wanted) → WantedFits v → length (concat (wanted_fields v)) ≤ 81
wanted_size v fits =
    rw (concat-append, length-append, size_short v.header, size_short v.part) (omega (arith, fits.header.size.1, part_size v.part fits.part))

-- the bytes of its fields: the count of its loads, and at most 81 each
lur_size : (v : LurView) → LurFits v → length (concat (lur_fields v)) ≤ 2 + length v.loads * 81
unfolding counted_fields
lur_size v fits =
    let loads : length (concat (flat_map wanted_fields v.loads)) ≤ length v.loads * 81 = at_most_each wanted_fields (λ w. WantedFits w) 81 wanted_size v.loads fits.loads in
    rw (length-append, length_number_bytes) (omega (arith, loads))

-- it always fits the four bytes of its length
pub lur_is_small : (v : LurView) → LurFits v → 6 + length (concat (lur_fields v)) < 2 ^ 32
lur_is_small v fits = omega (arith, lur_size v fits, fits.count)

-- the whole file
pub file_size : (v : LurView) (bytes : List ℕ) → LurSpells v bytes → length bytes ≤ 8 + length v.loads * 81
file_size v bytes is =
    rw (is.1.written, length-append, length-append, length_number_bytes 4 (6 + length (concat (lur_fields v))), length_number_bytes 2 16691) (omega (arith, lur_size v is.0))
