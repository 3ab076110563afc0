-- The packets of TFTP (RFC 1350, with the options of RFC 2347; docs/FORMATS.md, "TFTP packets").
use Rattle.std.specs.Prelude.{◌≡◌, ℕ, ◌+◌, ◌<◌, ◌≤◌, ◌^◌, min, List, [], ◌∷◌, length, codes, Bool, true, ◌==◌, Result, Ok, Err, ⊤}
use Rattle.std.specs.List.{concat}
use Rattle.std.specs.Str.{str_eq_ignore_ascii_case}
use Rattle.field_grammar.specs.Grammar.{Grammar, give, judge, check, choose, prefix, left, renamed, mapped, ended, IsBytes, HasNoZero, ◌>>=◌, ◌>>◌}
use Rattle.field_grammar.specs.Fields.{number, number_bytes, raw}
use Rattle.load_base.specs.Name.{IsName}
use Rattle.load_base.specs.Verdicts.{verdict, name_fault_of}
use Rattle.tftp_packet.specs.declared.fault.PacketFault.{PacketFault}
use Rattle.tftp_packet.specs.declared.fault.PacketFault.TheVariants as faults
use Rattle.tftp_packet.specs.declared.options.Options.{Options}
use Rattle.tftp_packet.specs.declared.options.Others.TheVariants.{PassedOver, Refused}
use Rattle.tftp_packet.specs.declared.packet.Packet.{Packet}
use Rattle.tftp_packet.specs.declared.packet.Packet.TheVariants as packets
use Rattle.tftp_packet.specs.Options.{Pair, IsPacketText, AreOptions, AreInRange, ended_text, pairs_fields, options_of, written_options, unended, zero_text, all_options}

-- ---- packets

-- a packet without where its bytes lie
pub data PacketView : Type 0 where
  Rrq : List ℕ → Options → PacketView
  Wrq : List ℕ → Options → PacketView
  Data : ℕ → List ℕ → PacketView
  Ack : ℕ → PacketView
  Error : ℕ → List ℕ → PacketView
  Oack : Options → PacketView

abbrev pub packet_view : Packet → PacketView
packet_view (packets.Rrq name options) = Rrq name options
packet_view (packets.Wrq name options) = Wrq name options
packet_view (packets.Data block payload) = Data block payload.now
packet_view (packets.Ack block) = Ack block
packet_view (packets.Error code message) = Error code message.now
packet_view (packets.Oack options) = Oack options

-- an answer seen in the same way
abbrev pub seen : Result Packet PacketFault → Result PacketView PacketFault
seen (Ok packet) = Ok (packet_view packet)
seen (Err fault) = Err fault

-- A packet is in its range: its payload isn't too long, its text has no zero byte, its options are in theirs.
abbrev pub IsInRange : PacketView → Type 0
IsInRange (Rrq name options) = AreInRange options
IsInRange (Wrq name options) = AreInRange options
IsInRange (Data block payload) = length payload ≤ 65464
IsInRange (Ack block) = ⊤
IsInRange (Error code message) = HasNoZero message
IsInRange (Oack options) = AreInRange options

-- What the types of a packet's fields hold: names are Names, numbers have two bytes, texts and payloads are bytes.
abbrev pub IsTyped : PacketView → Type 0
IsTyped (Rrq name options) = IsName name
IsTyped (Wrq name options) = IsName name
IsTyped (Data block payload) = (block < 2 ^ 16) × IsBytes payload
IsTyped (Ack block) = block < 2 ^ 16
IsTyped (Error code message) = (code < 2 ^ 16) × IsBytes message
IsTyped (Oack options) = ⊤

-- the packet is a request
abbrev pub IsARequest : PacketView → Type 0
IsARequest (Rrq name options) = ⊤
IsARequest (Wrq name options) = ⊤
IsARequest packet = ⊥

-- ---- what it means that bytes spell a packet

-- whether a mode is octet, in any letter case
unfoldable pub is_octet : List ℕ → Bool
is_octet mode = str_eq_ignore_ascii_case mode (codes "octet")

-- the fields of a request: its opcode, its name, its mode, and its options
abbrev pub request_fields : ℕ → List ℕ → List ℕ → List Pair → List (List ℕ)
request_fields opcode name mode pairs = number_bytes 2 opcode ∷ ended_text name ∷ ended_text mode ∷ pairs_fields pairs

-- The bytes are a request of this opcode, with a mode and with options that say these, among others that are passed over.
pub record IsRequest (opcode : ℕ) (name : List ℕ) (options : Options) (bytes : List ℕ) : Type 0 where
  pub mode : List ℕ
  pub pairs : List Pair
  pub is_name : IsName name
  pub octet : is_octet mode ≡ true
  pub are_options : AreOptions PassedOver pairs
  pub say : options_of pairs ≡ options
  pub parts : bytes ≡ concat (request_fields opcode name mode pairs)

-- The bytes are an answer with options that say these, and no others.
pub record IsOack (options : Options) (bytes : List ℕ) : Type 0 where
  pub pairs : List Pair
  pub are_options : AreOptions Refused pairs
  pub say : options_of pairs ≡ options
  pub parts : bytes ≡ concat (number_bytes 2 6 ∷ pairs_fields pairs)

-- The bytes are a block of this number with this payload.
pub record IsData (block : ℕ) (payload bytes : List ℕ) : Type 0 where
  pub number : block < 2 ^ 16
  pub size : length payload ≤ 65464
  pub are_bytes : IsBytes payload
  pub parts : bytes ≡ concat (number_bytes 2 3 ∷ number_bytes 2 block ∷ payload ∷ [])

-- The bytes acknowledge the block of this number.
pub record IsAck (block : ℕ) (bytes : List ℕ) : Type 0 where
  pub number : block < 2 ^ 16
  pub parts : bytes ≡ concat (number_bytes 2 4 ∷ number_bytes 2 block ∷ [])

-- The bytes tell an error of this code with this text.
pub record IsError (code : ℕ) (message bytes : List ℕ) : Type 0 where
  pub number : code < 2 ^ 16
  pub is_text : IsPacketText message
  pub parts : bytes ≡ concat (number_bytes 2 5 ∷ number_bytes 2 code ∷ ended_text message ∷ [])

-- The bytes spell the packet.
abbrev pub PacketSpells : PacketView → List ℕ → Type 0
PacketSpells (Rrq name options) bytes = IsRequest 1 name options bytes
PacketSpells (Wrq name options) bytes = IsRequest 2 name options bytes
PacketSpells (Data block payload) bytes = IsData block payload bytes
PacketSpells (Ack block) bytes = IsAck block bytes
PacketSpells (Error code message) bytes = IsError code message bytes
PacketSpells (Oack options) bytes = IsOack options bytes

-- ---- the spelling that is sent

-- octet and the options in lower case, the options in their order and without leading zeros
abbrev pub packet_fields : PacketView → List (List ℕ)
packet_fields (Rrq name options) = request_fields 1 name (codes "octet") (written_options options)
packet_fields (Wrq name options) = request_fields 2 name (codes "octet") (written_options options)
packet_fields (Data block payload) = number_bytes 2 3 ∷ number_bytes 2 block ∷ payload ∷ []
packet_fields (Ack block) = number_bytes 2 4 ∷ number_bytes 2 block ∷ []
packet_fields (Error code message) = number_bytes 2 5 ∷ number_bytes 2 code ∷ ended_text message ∷ []
packet_fields (Oack options) = number_bytes 2 6 ∷ pairs_fields (written_options options)

abbrev pub packet_bytes : PacketView → List ℕ
packet_bytes packet = concat (packet_fields packet)

-- ---- the order in which packets are read and tested

-- a number in two bytes; where they don't fit, the fault has the length of the whole packet
unfoldable pub word : Grammar PacketFault ℕ
word = do
  before ← prefix
  size ← left
  renamed (λ _. faults.Short (length before + size)) (number 2)

-- a text that is a file name
unfoldable pub file_name : Grammar PacketFault (List ℕ)
file_name = do
  bytes ← zero_text
  judge (verdict faults.Name (name_fault_of bytes) bytes)

-- after the opcode of a request: a name, the mode octet, and options; others are passed over
unfoldable pub request_body : Grammar PacketFault (List ℕ × Options)
request_body = do
  file ← file_name
  mode ← zero_text
  check (is_octet mode) faults.Mode
  asked ← all_options PassedOver
  give (file, asked)

-- the bytes that are left, up to the longest payload; as many as that always fit
unfoldable pub payload_bytes : Grammar PacketFault (List ℕ)
payload_bytes = do
  size ← left
  renamed unended (raw (min size 65464))

-- after the opcode of a block: its number, its payload, and nothing more
unfoldable pub data_body : Grammar PacketFault (ℕ × List ℕ)
data_body = do
  number ← word
  bytes ← payload_bytes
  ended faults.Rest
  give (number, bytes)

-- after the opcode of an acknowledgement: the number of a block, and nothing more
unfoldable pub ack_body : Grammar PacketFault ℕ
ack_body = do
  number ← word
  ended faults.Rest
  give number

-- after the opcode of an error: its code, its text, and nothing more
unfoldable pub error_body : Grammar PacketFault (ℕ × List ℕ)
error_body = do
  code ← word
  message ← zero_text
  ended faults.Rest
  give (code, message)

-- after the opcode
unfoldable pub body : ℕ → Grammar PacketFault PacketView
body opcode =
    choose (opcode == 1) (mapped (λ p. Rrq p.0 p.1) request_body)
    (choose (opcode == 2) (mapped (λ p. Wrq p.0 p.1) request_body)
    (choose (opcode == 3) (mapped (λ p. Data p.0 p.1) data_body)
    (choose (opcode == 4) (mapped Ack ack_body)
    (choose (opcode == 5) (mapped (λ p. Error p.0 p.1) error_body)
    (choose (opcode == 6) (mapped Oack (all_options Refused))
    (judge (Err (faults.Opcode opcode))))))))

-- an opcode, and what it says that stands after it
unfoldable pub packet : Grammar PacketFault PacketView
packet = do
  opcode ← word
  body opcode
