-- How many bytes there are after a part more.
use Rattle.std.proofs.Common.{◌≡◌, ℕ, ◌+◌, List, ◌++◌, length, ap, arith, length-append}
use Rattle.field_grammar.specs.Fields.{number_bytes}
use Rattle.field_grammar.proofs.NumberLemmas.{length_number_bytes}

-- how much a load, and a file, adds to a manifest
pub load_more : (old new part : List ℕ) (type_id files : ℕ) → new ≡ ((old ++ part) ++ number_bytes 2 type_id) ++ number_bytes 2 files → length part ≡ 15 → length new + 4 ≡ length old + 4 + 19
load_more old new part type_id files is size = omega (arith, ap length is, length-append ((old ++ part) ++ number_bytes 2 type_id) (number_bytes 2 files), length-append (old ++ part) (number_bytes 2 type_id), length-append old part, length_number_bytes 2 type_id, length_number_bytes 2 files, size)

pub file_more : (old new name : List ℕ) (size : ℕ) → new ≡ ((old ++ number_bytes 1 (length name)) ++ name) ++ number_bytes 4 size → length new + 4 ≡ length old + 4 + (5 + length name)
file_more old new name size is =
    omega (
      arith,
      ap length is,
      length-append ((old ++ number_bytes 1 (length name)) ++ name) (number_bytes 4 size),
      length-append (old ++ number_bytes 1 (length name)) name,
      length-append old (number_bytes 1 (length name)),
      length_number_bytes 1 (length name),
      length_number_bytes 4 size,
    )
