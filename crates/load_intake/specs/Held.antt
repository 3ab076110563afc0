-- How many bytes of the contents of files an upload keeps (docs/EXCHANGE.md, "The target").
use Rattle.std.specs.Prelude.{ℕ, ◌+◌, length, Option, Some, None}
use Rattle.session_rules.specs.TargetRows.{Arriving, Kept_bytes, Kept_sums}
use Rattle.session_rules.specs.Uploads.{OpenLoadView}

-- of the file that arrives: of a data or support file, which goes straight to the other bank, none
abbrev pub contents_kept : Arriving → ℕ
contents_kept (Kept_bytes b) = length b.prefix
contents_kept (Kept_sums s) = 0

-- and of the header of a load of which files are still to come: its user data, the only bytes of it that stay as they were
abbrev pub header_kept : Option OpenLoadView → ℕ
header_kept None = 0
header_kept (Some l) = length l.header.user

-- together
abbrev pub upload_kept : Option OpenLoadView → Arriving → ℕ
upload_kept current arriving = header_kept current + contents_kept arriving
