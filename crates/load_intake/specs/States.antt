-- What contracts see of an intake (docs/EXCHANGE.md, "Upload").
use Rattle.std.specs.Prelude.{ℕ, ◌+◌, List, [], ◌∷◌, ◌++◌, length, Option}
use Rattle.load_header.specs.Header.{HeaderView}
use Rattle.load_protocol_files.specs.declared.lur.Wanted.{Wanted}
use Rattle.disk_layout.specs.declared.manifest.ManifestFile.{ManifestFile}
use Rattle.disk_layout.specs.Manifest.{LoadEntry}
use Rattle.session_rules.specs.Uploads.{OpenLoadView, UploadView}
use Rattle.session_rules.specs.TargetRows.{Arriving, load_entry_of}

-- how far an upload has come, what is kept of the file that arrives, and how many bytes of the contents of files all lists
-- of the intake hold together
pub record IntakeState : Type 0 where
  pub upload : UploadView
  pub arriving : Arriving
  pub held : ℕ

-- The loads that were asked for, those that are whole, and how many bytes of a bank these need with their manifest, and
-- with them the one that isn't whole.
pub record WholeView : Type 0 where
  pub request : List Wanted
  pub loads : List LoadEntry
  pub need : ℕ

-- an LUS was written before the first load, and one after each
abbrev pub upload_of : WholeView → Option OpenLoadView → UploadView
upload_of w current = record { request = w.request; loads = w.loads; current = current; reports = length w.loads + 1 }

-- one load more is whole
abbrev pub with_whole : WholeView → OpenLoadView → WholeView
with_whole w l = record { request = w.request; loads = w.loads ++ load_entry_of l ∷ []; need = w.need }

-- one file more has come, after which this is the CRC-32 of the load so far
abbrev pub with_one : OpenLoadView → ManifestFile → (crc : ℕ) → OpenLoadView
with_one l file crc = record { wanted = l.wanted; header = l.header; size = l.size; files = l.files ++ file ∷ []; crc = crc }

-- this many bytes are needed
abbrev pub needing : WholeView → (need : ℕ) → WholeView
needing w need = record { request = w.request; loads = w.loads; need = need }

-- a load of which nothing but its header is there yet
abbrev pub header_there : Wanted → HeaderView → (size crc : ℕ) → OpenLoadView
header_there wanted h size crc = record { wanted = wanted; header = h; size = size; files = []; crc = crc }
