-- What a read from a file leaves in a buffer, where the file's bytes are known.
use Rattle.std.specs.Prelude.{◌≡◌, ℕ, ◌<◌, List, [], ◌++◌, length, take}
use Rattle.std.specs.List.{slice_index_or}

-- the buffer has the file's bytes from its start on, and zeros after the file's end
abbrev pub IsFilledFrom : (told buf : List ℕ) → Type 0
IsFilledFrom told buf = (i : ℕ) → i < length buf → slice_index_or buf i 0 ≡ slice_index_or told i 0

-- this many bytes of the buffer are the file's first, and where these are fewer than it takes, they are all
pub record ReadsUpTo (told : List ℕ) (count : ℕ) (buf : List ℕ) : Type 0 where
  pub rest : List ℕ
  pub are_first : told ≡ take count buf ++ rest
  pub all : count < length buf → rest ≡ []
