-- What is kept, and what the tests on a header say beside it, in worked uploads: onto a unit with a bank of 4,096 bytes that has
-- the load of `ABC41-0000-0001`, of `ABC42-0000-0002` (docs/EXCHANGE.md, "Upload").
use Rattle.std.specs.Prelude.{◌≡◌, ℕ, List, [], ◌∷◌, codes, map, Option, Some, None}
use Rattle.std.specs.List.{range_with_len}
use Rattle.load_header.specs.Header.{HeaderView}
use Rattle.load_protocol_files.specs.declared.lur.Wanted.{Wanted}
use Rattle.disk_layout.specs.Holds.{Outline}
use Rattle.disk_layout.specs.Manifest.{LoadEntry}
use Rattle.disk_layout.specs.declared.identity.Identity.{Identity}
use Rattle.accept_rules.specs.Permissions.{permits}
use Rattle.session_rules.specs.declared.reason.Reason.{Reason}
use Rattle.session_rules.specs.KeptLoads.{with_kept_entries}
use Rattle.session_rules.specs.Uploads.{UploadView, header_reason, need_of}
use Rattle.session_rules.specs.declared.reason.Reason.TheVariants.{BankFull, RuleRefused, TooManyLoads}

-- ---- loads

abbrev pub app_part : List ℕ
app_part = codes "ABC41-0000-0001"

abbrev pub ops_part : List ℕ
ops_part = codes "ABC42-0000-0002"

-- a load of a header of 122 bytes and one file
abbrev pub load_with : (part : List ℕ) → Option ℕ → (header file : List ℕ) → (length : ℕ) → LoadEntry
load_with part type_id header file n =
    record { part = part; type_id = type_id; files = record { name = header; length = 122 } ∷ record { name = file; length = n } ∷ [] }

-- the one with a file of this length
abbrev pub app_load : (type_id : Option ℕ) → (length : ℕ) → LoadEntry
app_load type_id n = load_with app_part type_id (codes "APP.LUH") (codes "APP.BIN") n

-- and the other
abbrev pub ops_load : LoadEntry
ops_load = load_with ops_part (Some 8) (codes "OPS.LUH") (codes "OPS.BIN") 9

-- one load of each of the types 1 to 32
abbrev pub many_loads : List LoadEntry
many_loads = map (λ (id : ℕ). record { part = app_part; type_id = Some id; files = record { name = codes "L.LUH"; length = 82 } ∷ [] }) (range_with_len 1 32)

-- ---- a header that comes

abbrev pub target : Identity
target = record { hw = codes "HW1"; pos = codes "L"; serial = codes "SN1"; bank = 4096 }

abbrev pub standing : List LoadEntry → Outline
standing loads = record { identity = target; bank = 1; sequence = 2; loads = loads }

-- a header of this part number and type with a file of 9 bytes
abbrev pub header_of : (part : List ℕ) → (type_id : ℕ) → HeaderView
header_of part type_id = record {
  flags = 0;
  part = part;
  type_name = codes "OPS";
  type_id = type_id;
  hardware = codes "HW1" ∷ [];
  positions = [];
  data_files = record { name = codes "OPS.BIN"; part = codes "OPS1"; length = 9; crc16 = 0x29B1 } ∷ [];
  support_files = [];
  user = [];
  load_crc = 0;
}

abbrev pub wanted_of : (part : List ℕ) → Wanted
wanted_of part = record { header = codes "OPS.LUH"; part = part }

-- the request is for that load alone
abbrev pub upload_of : Wanted → UploadView
upload_of wanted = record { request = wanted ∷ []; loads = []; current = None; reports = 1 }

-- what the tests say of it where these loads are active, on a unit that accepts each load that it may
abbrev pub reason_beside : List LoadEntry → (part : List ℕ) → (type_id : ℕ) → Option Reason
reason_beside loads part type_id = header_reason permits (standing loads) (upload_of (wanted_of part)) (wanted_of part) (header_of part type_id) 122

-- ---- what comes of it

-- the bytes of loads and manifest
pub record NeedsAre : Type 0 where
  pub small : need_of (app_load (Some 7) 9 ∷ []) ≡ 178
  pub just_fits : need_of (app_load (Some 7) 3927 ∷ []) ≡ 4096

-- which loads are active then
pub record KeptAre : Type 0 where
  pub other : with_kept_entries (ops_load ∷ []) (app_load (Some 7) 9 ∷ []) ≡ ops_load ∷ app_load (Some 7) 9 ∷ []
  pub replaced : with_kept_entries (ops_load ∷ []) (app_load (Some 8) 9 ∷ []) ≡ ops_load ∷ []
  -- of a manifest of layout 1 no load is kept
  pub untyped : with_kept_entries (ops_load ∷ []) (app_load None 9 ∷ []) ≡ ops_load ∷ []

-- why a header is refused, or that it isn't
pub record RefusedAre : Type 0 where
  -- what is kept takes room
  pub fits : reason_beside (app_load (Some 7) 3753 ∷ []) ops_part 8 ≡ None
  pub too_big : reason_beside (app_load (Some 7) 3754 ∷ []) ops_part 8 ≡ Some (BankFull 4097 4096)
  -- no load comes beside one of its part number
  pub part_kept : reason_beside (app_load (Some 7) 9 ∷ []) app_part 8 ≡ Some RuleRefused
  pub part_replaced : reason_beside (app_load (Some 7) 9 ∷ []) app_part 7 ≡ None
  -- there are 32 loads at most
  pub too_many : reason_beside many_loads ops_part 33 ≡ Some (TooManyLoads 33)
  pub one_replaced : reason_beside many_loads ops_part 32 ≡ None
