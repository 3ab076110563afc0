-- The names of known options.
use Rattle.std.proofs.Common.{◌≡◌, ℕ, Bool, true, false, List, Option, Some, None, refl}
use Rattle.std.specs.Prelude.{map, cond}
use Rattle.std.specs.Char.{to_ascii_lowercase}
use Rattle.std.proofs.lemmas.Slice.Eq.{bytes_eq-Decides}
use Rattle.tftp_packet.specs.declared.options.Known.{Known}
use Rattle.tftp_packet.specs.declared.options.Known.TheVariants.{BlockSize, Timeout, TransferSize}
use Rattle.tftp_packet.specs.Options.{lower_name, is_named, known_of}

-- a name in lower case
in_lower_case : (known : Known) (name : List ℕ) → is_named known name ≡ true → map to_ascii_lowercase name ≡ map to_ascii_lowercase (lower_name known)
unfolding is_named
in_lower_case known name is = (bytes_eq-Decides (map to_ascii_lowercase name) (map to_ascii_lowercase (lower_name known))).0 is

-- which of the known options a name is
abbrev pub NamesAs : List ℕ → Option Known → Type 0
NamesAs name None = (is_named BlockSize name ≡ false) × (is_named Timeout name ≡ false) × (is_named TransferSize name ≡ false)
NamesAs name (Some BlockSize) = (is_named BlockSize name ≡ true) × (is_named Timeout name ≡ false) × (is_named TransferSize name ≡ false)
NamesAs name (Some Timeout) = (is_named BlockSize name ≡ false) × (is_named Timeout name ≡ true) × (is_named TransferSize name ≡ false)
NamesAs name (Some TransferSize) = (is_named BlockSize name ≡ false) × (is_named Timeout name ≡ false) × (is_named TransferSize name ≡ true)

-- a name is that of one option
pub names_one : (name : List ℕ) → NamesAs name (known_of name)
unfolding known_of is_named
names_one name = go (is_named BlockSize name) (is_named Timeout name) (is_named TransferSize name) refl refl refl
  where
    go : (a b c : Bool) → is_named BlockSize name ≡ a → is_named Timeout name ≡ b → is_named TransferSize name ≡ c
        → NamesAs name (cond a (Some BlockSize) (cond b (Some Timeout) (cond c (Some TransferSize) None)))
    go true b c is second third = let lower = in_lower_case BlockSize name is in (is, rw lower refl, rw lower refl)
    go false true c other is third = let lower = in_lower_case Timeout name is in (other, is, rw lower refl)
    go false false true other not is = (other, not, is)
    go false false false other not none = (other, not, none)

-- a known option is found by its name
pub named_known : (known : Known) (name : List ℕ) → is_named known name ≡ true → known_of name ≡ Some known
unfolding known_of is_named
named_known BlockSize name is = rw is refl
named_known Timeout name is = let lower = in_lower_case Timeout name is in rw (lower) refl
named_known TransferSize name is = let lower = in_lower_case TransferSize name is in rw (lower) refl

-- the option that a name is has this name
pub is_its_name : (known : Known) (name : List ℕ) → NamesAs name (Some known) → is_named known name ≡ true
is_its_name BlockSize name (a, b, c) = a
is_its_name Timeout name (a, b, c) = b
is_its_name TransferSize name (a, b, c) = c
