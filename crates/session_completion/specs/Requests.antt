-- Which requests each end gets in an upload of which nothing is lost, and what the target keeps of files
-- (docs/EXCHANGE.md, "A fault-free run completes").
use Rattle.std.specs.Prelude.{◌≡◌, ℕ, ◌≤◌, [], Bool, true, false, bytes_eq, is_some, ◌||◌, Option, Some, None}
use Rattle.crc_fields.specs.CheckSums.{crc16_after, crc32_after}
use Rattle.tftp_packet.specs.Packets.{PacketView, Rrq, Wrq}
use Rattle.session_rules.specs.declared.outcome.FileKind.TheVariants.{Lci, Lui}
use Rattle.session_rules.specs.MediaFiles.{Media}
use Rattle.session_rules.specs.FileNames.{file_name}
use Rattle.session_rules.specs.Target.{TargetSession}
use Rattle.session_rules.specs.TargetRows.{Arriving, Kept_bytes, Kept_sums}
use Rattle.disk_layout.specs.declared.identity.Identity.{Identity}

-- a file that the target asks for is there
abbrev pub is_there : Media → PacketView → Bool
is_there media (Rrq name options) = is_some (media.file name)
is_there media p = true

-- the loader reads only one of the target's own two files
abbrev pub is_own_file : Identity → PacketView → Bool
is_own_file id (Rrq name options) = bytes_eq name (file_name id.hw id.pos Lci) || bytes_eq name (file_name id.hw id.pos Lui)
is_own_file id p = true

abbrev pub is_write : PacketView → Bool
is_write (Wrq name options) = true
is_write p = false

-- ---- check sums

-- the check sum of a load has 32 bits
abbrev pub SumFits : Arriving → Type 0
SumFits (Kept_bytes b) = Unit {0}
SumFits (Kept_sums s) = s.load_crc ≤ 4294967295

abbrev pub SessionFits : Option TargetSession → Type 0
SessionFits None = Unit {0}
SessionFits (Some s) = SumFits s.arriving

-- Check sums stay as they are where no byte comes.
pub record NoMoreSums : Type 0 where
  pub crc16 : (sum : ℕ) → crc16_after sum [] ≡ sum
  pub crc32 : (sum : ℕ) → sum ≤ 4294967295 → crc32_after sum [] ≡ sum
