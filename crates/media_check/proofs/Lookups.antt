-- What is found under a name, and as it is seen.
use Rattle.std.proofs.Common.{◌≡◌, ℕ, zero, suc, ◌≤◌, Bool, true, false, cond, List, [], ◌∷◌, length, Option, Some, refl, sym, ap, subst, ◌∙◌}
use Rattle.std.specs.List.{AllByRecursion}
use Rattle.std.specs.Prelude.{map, option_map, slice_get, slice_index_or}
use Rattle.std.specs.Map.{lookup, values_of}
use Rattle.std.proofs.lemmas.Map.Made.{lookup-map_values}
use Rattle.crc_fields.specs.CheckSums.{crc16_of}
use Rattle.load_base.specs.Bytes.{same_bytes}
use Rattle.load_base.specs.Host.{longest_file}
use Rattle.load_base.specs.Listed.{Listed}
use Rattle.field_grammar.specs.Grammar.{IsBytes}
use Rattle.media_check.specs.Kept.{bytes_view, contents, IsBytesFile, IsShortFile}
use Rattle.media_check.specs.Sets.{bytes_found, file_view, files_view}
use Rattle.media_check.specs.declared.set.KeptFile.{KeptFile}

pub found_as_seen : (files : List (List ℕ × KeptFile)) (name : List ℕ) (found : Option KeptFile) → found ≡ lookup (same_bytes name) files
    → option_map file_view found ≡ lookup (same_bytes name) (files_view files)
found_as_seen files name found is = ap (λ (f : Option KeptFile). option_map file_view f) is ∙ sym (lookup-map_values file_view (same_bytes name) files)

-- the check sum at the index of a file
pub sum_at : (files : List (List ℕ × KeptFile)) (index : ℕ) (name : List ℕ) (file : KeptFile) → slice_get files index ≡ Some (name, file)
    → slice_index_or (map (λ f. crc16_of (contents f.1.bytes)) (files_view files)) index 0 ≡ crc16_of (contents (bytes_view file.bytes))
sum_at [] index name file is = absurd cc
sum_at (f ∷ files) zero name file is = let same : f ≡ (name, file) = cc in ap (λ (e : List ℕ × KeptFile). crc16_of (contents (bytes_view e.1.bytes))) same
sum_at (f ∷ files) (suc index) name file is = sum_at files index name file is

-- the CRC-16 of a file that is kept
abbrev pub kept_sum : KeptFile → ℕ
kept_sum file = crc16_of (contents (bytes_view file.bytes))

pub sums_as_seen : (files : List (List ℕ × KeptFile)) → map kept_sum (values_of files) ≡ map (λ f. crc16_of (contents f.1.bytes)) (files_view files)
sums_as_seen [] = refl
sums_as_seen (file ∷ files) = ap (λ (l : List ℕ). kept_sum file.1 ∷ l) (sums_as_seen files)

-- bytes that are known to be these
pub seen_bytes : (bytes known : Option (Listed ℕ)) → bytes ≡ known → bytes_view known ≡ bytes_view bytes
seen_bytes bytes known is = ap bytes_view (sym is)

-- ---- files that are bytes

abbrev IsBytesNotLong : List ℕ → Type 0
IsBytesNotLong bytes = IsBytes bytes × (length bytes ≤ longest_file)

of_file : (file : Option (List ℕ)) (bytes : List ℕ) → IsBytes (contents file) → length (contents file) ≤ longest_file → file ≡ Some bytes → IsBytesNotLong bytes
of_file file bytes are short is = subst (λ (f : Option (List ℕ)). IsBytesNotLong (contents f)) is (are, short)

-- what is found is this file, or one after it
this_or_later : (file : KeptFile) (files : List (List ℕ × KeptFile)) (name bytes : List ℕ) (is_this : Bool) → IsBytesFile file → IsShortFile file
    → (bytes_found (lookup (same_bytes name) (files_view files)) ≡ Some bytes → IsBytesNotLong bytes)
    → bytes_found (cond is_this (Some (file_view file)) (lookup (same_bytes name) (files_view files))) ≡ Some bytes → IsBytesNotLong bytes
this_or_later file files name bytes true are short later e = of_file (bytes_view file.bytes) bytes are short e
this_or_later file files name bytes false are short later e = later e

-- where all that is kept is bytes, and short, so is what is found under a name
pub found_are_bytes : (files : List (List ℕ × KeptFile)) → AllByRecursion IsBytesFile (values_of files) → AllByRecursion IsShortFile (values_of files) → (name bytes : List ℕ)
    → bytes_found (lookup (same_bytes name) (files_view files)) ≡ Some bytes → IsBytesNotLong bytes
found_are_bytes [] all short name bytes e = absurd cc
found_are_bytes (file ∷ files) (one, all) (this, short) name bytes e =
    this_or_later file.1 files name bytes (same_bytes name file.0) one this (found_are_bytes files all short name bytes) e
