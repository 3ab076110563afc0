-- The options of requests and of their answers (RFC 2347, RFC 2348, RFC 2349; docs/FORMATS.md, "TFTP packets").
use Rattle.std.specs.Prelude.{◌≡◌, ◌≢◌, ℕ, zero, suc, ◌≤◌, List, [], ◌∷◌, ◌++◌, length, codes, Bool, true, false, not, ◌&&◌, nat_lt, nat_le, ◌==◌, if◌then◌else◌, Option, Some, None, is_some, IfSome, ⊤, count_by}
use Rattle.std.specs.Char.{is_ascii_digit}
use Rattle.std.specs.Fmt.{decimal}
use Rattle.std.specs.List.{AllByRecursion, flat_map, list_all}
use Rattle.std.specs.Str.{str_eq_ignore_ascii_case}
use Rattle.std.specs.Str.Parse.{digits_value}
use Rattle.field_grammar.specs.declared.fault.FieldFault.{FieldFault}
use Rattle.field_grammar.specs.declared.fault.FieldFault.TheVariants.{Short, BadPad}
use Rattle.field_grammar.specs.Grammar.{renamed, Grammar, give, check, choose, zero_ended, prefix, left, mapped, IsBytes, HasNoZero, ◌>>=◌, ◌>>◌}
use Rattle.tftp_packet.specs.declared.fault.PacketFault.{PacketFault}
use Rattle.tftp_packet.specs.declared.fault.PacketFault.TheVariants as faults
use Rattle.tftp_packet.specs.declared.options.Known.{Known}
use Rattle.tftp_packet.specs.declared.options.Known.TheVariants.{BlockSize, Timeout, TransferSize}
use Rattle.tftp_packet.specs.declared.options.Options.{Options}
use Rattle.tftp_packet.specs.declared.options.Others.{Others}
use Rattle.tftp_packet.specs.declared.options.Others.TheVariants.{PassedOver, Refused}
use Rattle.tftp_packet.specs.declared.options.Seen.{Seen}

-- ---- names

-- the name of a known option, in lower case
abbrev pub lower_name : Known → List ℕ
lower_name BlockSize = codes "blksize"
lower_name Timeout = codes "timeout"
lower_name TransferSize = codes "tsize"

-- whether this is the name of that option, in any letter case
unfoldable pub is_named : Known → List ℕ → Bool
is_named known name = str_eq_ignore_ascii_case name (lower_name known)

-- the known option that has this name
unfoldable pub known_of : List ℕ → Option Known
known_of name =
    if is_named BlockSize name then Some BlockSize
    else if is_named Timeout name then Some Timeout
    else if is_named TransferSize name then Some TransferSize
    else None

-- ---- values

-- the least and the greatest value of an option
abbrev pub least : Known → ℕ
least BlockSize = 8
least Timeout = 1
least TransferSize = 0

abbrev pub most : Known → ℕ
most BlockSize = 65464
most Timeout = 255
most TransferSize = 4294967295

-- decimal digits, one or more; zeros may lead
abbrev pub is_number : List ℕ → Bool
is_number value = nat_lt 0 (length value) && list_all is_ascii_digit value

-- the number that digits write, where it is in the range
abbrev pub in_range : ℕ → ℕ → ℕ → Option ℕ
in_range low high n = if nat_le low n && nat_le n high then Some n else None

unfoldable pub number_between : ℕ → ℕ → List ℕ → Option ℕ
number_between low high value = if is_number value then in_range low high (digits_value 10 value) else None

-- the value of an option, where the bytes are of its kind
abbrev pub value_of : Known → List ℕ → Option ℕ
value_of known value = number_between (least known) (most known) value

-- ---- options as they are written

-- a name and a value
pub record Pair : Type 0 where
  pub name : List ℕ
  pub value : List ℕ

-- bytes of which none is zero
pub record IsPacketText (text : List ℕ) : Type 0 where
  pub no_zero : HasNoZero text
  pub bytes : IsBytes text

-- two texts, of which the name isn't empty
pub record IsPair (pair : Pair) : Type 0 where
  pub name : IsPacketText pair.name
  pub named : pair.name ≢ []
  pub value : IsPacketText pair.value

-- a known option with a value of its kind
abbrev pub IsOfKind : Pair → Type 0
IsOfKind pair = (known : Known) × (n : ℕ) × (is_named known pair.name ≡ true) × (value_of known pair.value ≡ Some n)

-- Other options may stand among those of a request, where they are passed over. In an answer each is of its kind.
abbrev pub MayStand : Others → Pair → Type 0
MayStand PassedOver pair = ⊤
MayStand Refused pair = IsOfKind pair

-- The pairs are options: no known one is named twice, in whatever case and with whatever values.
pub record AreOptions (others : Others) (pairs : List Pair) : Type 0 where
  pub texts : AllByRecursion (λ pair. IsPair pair) pairs
  pub once : (known : Known) → count_by (λ pair. is_named known pair.name) pairs ≤ 1
  pub allowed : AllByRecursion (λ pair. MayStand others pair) pairs

-- a text with a zero after it
abbrev pub ended_text : List ℕ → List ℕ
ended_text text = text ++ 0 ∷ []

abbrev pub pair_fields : Pair → List (List ℕ)
pair_fields pair = ended_text pair.name ∷ ended_text pair.value ∷ []

-- the names and values back to back
abbrev pub pairs_fields : List Pair → List (List ℕ)
pairs_fields pairs = flat_map pair_fields pairs

-- ---- what options say

-- the value of the known option that the pairs name, where it is of its kind
abbrev pub said_of : Known → List Pair → Option ℕ
said_of known [] = None
said_of known (pair ∷ pairs) = if is_named known pair.name then value_of known pair.value else said_of known pairs

-- what the pairs say
unfoldable pub options_of : List Pair → Options
options_of pairs = record { blksize = said_of BlockSize pairs; timeout = said_of Timeout pairs; tsize = said_of TransferSize pairs }

-- the value of an option that is there is in its range
abbrev pub IsWithin : Known → Option ℕ → Type 0
IsWithin known said = IfSome said (λ n. (least known ≤ n) × (n ≤ most known))

-- each option that is there has a value in its range
pub record AreInRange (options : Options) : Type 0 where
  pub blksize : IsWithin BlockSize options.blksize
  pub timeout : IsWithin Timeout options.timeout
  pub tsize : IsWithin TransferSize options.tsize

-- an option as it is sent: in lower case, without leading zeros
abbrev pub written : Known → Option ℕ → List Pair
written known None = []
written known (Some n) = record { name = lower_name known; value = decimal n } ∷ []

-- the options in the order in which they are sent
unfoldable pub written_options : Options → List Pair
written_options options = written BlockSize options.blksize ++ (written Timeout options.timeout ++ written TransferSize options.tsize)

-- ---- reading them

-- a field that doesn't fit, with the offset where it begins: a text has no zero after it
abbrev pub unended : FieldFault → PacketFault
unended (Short offset) = faults.NoZero offset
unended (BadPad offset) = faults.NoZero offset

-- bytes up to a zero, and the zero
abbrev pub zero_text : Grammar PacketFault (List ℕ)
zero_text = renamed unended (zero_ended Short)

-- whether an option may stand there: where others are refused, only one of this project's own
abbrev pub admits : Others → Bool → Bool
admits PassedOver is_own = true
admits Refused is_own = is_own

-- the value of a known option, where the bytes are of its kind
abbrev pub said_by : Option Known → List ℕ → Option ℕ
said_by None value = None
said_by (Some known) value = value_of known value

-- whether an option of this name may have this value
unfoldable pub may_have : Others → List ℕ → List ℕ → Bool
may_have others name value = admits others (is_some (said_by (known_of name) value))

-- what no options say
abbrev pub nothing : Seen
nothing = record { options = record { blksize = None; timeout = None; tsize = None }; blksize = false; timeout = false; tsize = false }

-- whether the known option was named
abbrev pub has : Seen → Known → Bool
has seen BlockSize = seen.blksize
has seen Timeout = seen.timeout
has seen TransferSize = seen.tsize

-- the same with one more
abbrev pub with_option : Seen → Known → Option ℕ → Seen
with_option seen BlockSize said = record { options = record { blksize = said; timeout = seen.options.timeout; tsize = seen.options.tsize }; blksize = true; timeout = seen.timeout; tsize = seen.tsize }
with_option seen Timeout said = record { options = record { blksize = seen.options.blksize; timeout = said; tsize = seen.options.tsize }; blksize = seen.blksize; timeout = true; tsize = seen.tsize }
with_option seen TransferSize said = record { options = record { blksize = seen.options.blksize; timeout = seen.options.timeout; tsize = said }; blksize = seen.blksize; timeout = seen.timeout; tsize = true }

abbrev pub with_known : Seen → Option Known → Option ℕ → Seen
with_known seen None said = seen
with_known seen (Some known) said = with_option seen known said

-- the option is unknown, or wasn't named before
abbrev pub is_new : Seen → Option Known → Bool
is_new seen None = true
is_new seen (Some known) = not (has seen known)

-- whether an option of this name may stand after those
unfoldable pub may_follow : Others → Seen → List ℕ → Bool
may_follow others seen name = nat_lt 0 (length name) && is_new seen (known_of name) && admits others (is_some (known_of name))

-- One option after those so far. Its name is tested before its value is read, and the value after that; the fault has the
-- offset of the name.
unfoldable pub one_option : Others → Seen → Grammar PacketFault Seen
one_option others seen = do
  before ← prefix
  name ← zero_text
  check (may_follow others seen name) (faults.Option (length before))
  value ← zero_text
  check (may_have others name value) (faults.Option (length before))
  give (with_known seen (known_of name) (said_by (known_of name) value))

-- this many options after those so far, or fewer, where the bytes end before
unfoldable pub options_to_end : ℕ → Others → Seen → Grammar PacketFault Seen
options_to_end zero others seen = give seen
options_to_end (suc n) others seen = do
  size ← left
  choose (size == 0) (give seen) (one_option others seen >>= (λ more. options_to_end n others more))

-- all options up to the end of the bytes: there are no more of them than bytes
unfoldable pub rest_of_options : Others → Seen → Grammar PacketFault Seen
rest_of_options others seen = do
  size ← left
  options_to_end size others seen

-- what all options up to the end say
unfoldable pub all_options : Others → Grammar PacketFault Options
all_options others = mapped (λ seen. seen.options) (rest_of_options others nothing)
