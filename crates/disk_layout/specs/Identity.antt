-- The identity at the start of a disk (docs/DISK.md).
use Rattle.std.specs.Prelude.{ℕ, List, [], ◌∷◌, ◌++◌, length, ◌==◌, is_none}
use Rattle.load_base.specs.Ident.{IsIdent}
use Rattle.load_base.specs.Verdicts.{ident_fault_of}
use Rattle.crc_fields.specs.CheckSums.{crc16_of}
use Rattle.disk_model.specs.Image.{Image, range}
use Rattle.field_grammar.specs.Grammar.{Grammar, give, check, prefix, renamed, ◌>>=◌, ◌>>◌, SpelledAtStart, Fault}
use Rattle.field_grammar.specs.Fields.{number, short, number_bytes, short_text}
use Rattle.field_grammar.specs.declared.fault.FieldFault.{FieldFault}
use Rattle.field_grammar.specs.declared.fault.FieldFault.TheVariants.{Short, BadPad}
use Rattle.disk_layout.specs.Fields.{sound}
use Rattle.disk_layout.specs.Offsets.{is_bank_size, IsBankSize, longest_identity}
use Rattle.disk_layout.specs.declared.identity.Identity.{Identity}

-- A fault of an identity is the offset at which it can't go on.
abbrev pub fault_offset : FieldFault → ℕ
fault_offset (Short offset) = offset
fault_offset (BadPad offset) = offset

-- this byte
unfoldable pub exact_byte : ℕ → Grammar ℕ (Unit {0})
exact_byte byte = do
  before ← prefix
  found ← renamed fault_offset (number 1)
  check (found == byte) (length before)

-- the signature A615 and the layout 1
unfoldable pub signature : Grammar ℕ (Unit {0})
signature = do
  exact_byte 0x41
  exact_byte 0x36
  exact_byte 0x31
  exact_byte 0x35
  exact_byte 0
  exact_byte 1

-- the bytes of a bank, in four bytes
unfoldable pub bank_size : Grammar ℕ ℕ
bank_size = sound (λ offset. offset) (number 4) is_bank_size

-- an Ident as a short text
unfoldable pub ident : Grammar ℕ (List ℕ)
ident = sound (λ offset. offset) short (λ text. is_none (ident_fault_of text))

-- the CRC-16 of all that stands before it
unfoldable pub check_sum : Grammar ℕ (Unit {0})
check_sum = do
  before ← prefix
  sum ← renamed fault_offset (number 2)
  check (sum == crc16_of before) (length before)

-- signature and layout, the size of a bank, the three Idents, and the check sum
unfoldable pub identity : Grammar ℕ Identity
identity = do
  signature
  bank ← bank_size
  hw ← ident
  pos ← ident
  serial ← ident
  check_sum
  give (record { hw = hw; pos = pos; serial = serial; bank = bank })

-- the disk begins with this identity
abbrev pub HasIdentity : Image → Identity → Type 0
HasIdentity image id = SpelledAtStart identity (range image 0 longest_identity) id

-- the disk begins with no identity: this is the first offset at which it can't go on
abbrev pub HasNoIdentity : Image → ℕ → Type 0
HasNoIdentity image offset = Fault identity (range image 0 longest_identity) offset

-- ---- as it is written

-- what an identity can say
pub record IsIdentity (id : Identity) : Type 0 where
  pub bank : IsBankSize id.bank
  pub hw : IsIdent id.hw
  pub pos : IsIdent id.pos
  pub serial : IsIdent id.serial

-- signature and layout, the size of a bank, and the three Idents
unfoldable pub identity_prefix : Identity → List ℕ
identity_prefix id =
    (0x41 ∷ 0x36 ∷ 0x31 ∷ 0x35 ∷ 0 ∷ 1 ∷ []) ++ (number_bytes 4 id.bank ++ (short_text id.hw ++ (short_text id.pos ++ short_text id.serial)))

-- and their check sum
unfoldable pub identity_text : Identity → List ℕ
identity_text id = identity_prefix id ++ number_bytes 2 (crc16_of (identity_prefix id))
