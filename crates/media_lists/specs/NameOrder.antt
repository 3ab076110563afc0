-- The indices of names in the order of the names, so that a name is found without a look at all of them.
use Rattle.std.specs.Prelude.{ℕ, ◌<◌, List, [], length, map, slice_index_or}
use Rattle.std.specs.Cmp.Lexicographic.{slice_cmp}
use Rattle.std.specs.List.{All}
use Rattle.std.specs.List.Sorted.{IsPermutation, IsSortedByKey}
use Rattle.std.specs.Ordering.{nat_cmp}
use Rattle.std.specs.declared.cmp.Ordering.{Ordering}

-- the name at this index
abbrev pub name_at : List (List ℕ) → ℕ → List ℕ
name_at names offset = slice_index_or names offset []

-- byte by byte, and a prefix of a name before the name
abbrev pub by_bytes : List ℕ → List ℕ → Ordering
by_bytes one other = slice_cmp nat_cmp one other

-- The indices are those of all the names, in the order of the names.
pub record IsOrder (names : List (List ℕ)) (offsets : List ℕ) : Type 0 where
  pub within : All (λ offset. offset < length names) offsets
  pub rises : IsSortedByKey (name_at names) by_bytes offsets
  pub whole : IsPermutation names (map (name_at names) offsets)
