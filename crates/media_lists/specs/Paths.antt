-- The paths of listed files (docs/FORMATS.md).
use Rattle.std.specs.Prelude.{◌≡◌, ℕ, ◌+◌, ◌≤◌, List, [], ◌∷◌, ◌++◌, length, take, ◌<◌, ◌==◌, nat_lt, Bool, not, ◌&&◌, if◌then◌else◌, Option, Some, None}
use Rattle.std.specs.List.{flat_map, AllByRecursion}
use Rattle.load_base.specs.Name.{IsName, is_name_byte}

-- Whether a path can go on with this byte of a name at offset `offset`, after `names` whole names and `size` bytes
-- of the next: there are at most 4 names, the first byte of none is a full stop, and a backslash can follow the
-- byte within 64 bytes.
unfoldable pub name_goes_on : (offset names size byte : ℕ) → Bool
name_goes_on offset names size byte = is_name_byte byte && nat_lt names 4 && nat_lt offset 63 && not (size == 0 && byte == 0x2E)

-- The offset at which the path can't go on or ends within a name, from offset `offset` on, after `names` whole names
-- and `size` bytes of the next. None where it is a path.
unfoldable pub path_end : (offset names size : ℕ) → List ℕ → Option ℕ
path_end offset names size [] = if size == 0 then None else Some offset
path_end offset names size (byte ∷ bytes) =
    if byte == 0x5C then if size == 0 then Some offset else path_end (offset + 1) (names + 1) 0 bytes
    else if name_goes_on offset names size byte then path_end (offset + 1) names (size + 1) bytes
    else Some offset

-- The length of the longest prefix of the bytes that is a prefix of some path, where they are no path: a backslash
-- and 0 to 4 names, each followed by a backslash, of at most 64 bytes.
unfoldable pub path_fault_of : List ℕ → Option ℕ
path_fault_of [] = Some 0
path_fault_of (byte ∷ bytes) = if byte == 0x5C then path_end 1 0 0 bytes else Some 0

-- a name, and a backslash after it
abbrev pub closed : List ℕ → List ℕ
closed name = name ++ 0x5C ∷ []

-- A backslash, and 0 to 4 names, each followed by a backslash; at most 64 bytes.
pub record IsPath (bytes : List ℕ) : Type 0 where
  pub names : List (List ℕ)
  pub few : length names ≤ 4
  pub good : AllByRecursion IsName names
  pub size : length bytes ≤ 64
  pub written : bytes ≡ 0x5C ∷ flat_map closed names

-- the bytes are a prefix of some path
pub record IsPathPrefix (bytes : List ℕ) : Type 0 where
  pub rest : List ℕ
  pub whole : IsPath (bytes ++ rest)

-- The prefix of `count` bytes is a prefix of some path, and no longer one is.
pub record IsLongestPrefix (bytes : List ℕ) (count : ℕ) : Type 0 where
  pub within : count ≤ length bytes
  pub prefix : IsPathPrefix (take count bytes)
  pub longest : (more : ℕ) → count < more → more ≤ length bytes → IsPathPrefix (take more bytes) → ⊥
