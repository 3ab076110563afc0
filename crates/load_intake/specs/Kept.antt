-- What each intake keeps to (docs/EXCHANGE.md, "Upload").
use Rattle.std.specs.Prelude.{◌≡◌, ℕ, ◌-◌, ◌<◌, ◌≤◌, List, [], ◌∷◌, ◌++◌, length, map, take, min, ⊤, Option, Some, None}
use Rattle.load_header.specs.declared.header.FileEntry.{FileEntry}
use Rattle.load_header.specs.HeaderFields.{IsHeader}
use Rattle.load_header.specs.Header.{HeaderView}
use Rattle.disk_layout.specs.declared.manifest.ManifestFile.{ManifestFile}
use Rattle.disk_layout.specs.Manifest.{LoadEntry}
use Rattle.session_rules.specs.Buffers.{Sums}
use Rattle.session_rules.specs.Uploads.{OpenLoadView, UploadView, files_of, next_entry, planned_load, need_of}
use Rattle.session_rules.specs.TargetRows.{Arriving, Kept_bytes, Kept_sums, load_entry_of, said_length}
use Rattle.load_intake.specs.declared.place.Place.{Place}
use Rattle.load_intake.specs.Held.{upload_kept}
use Rattle.load_intake.specs.Places.{arriving_at, bytes_held, open_load}
use Rattle.load_intake.specs.States.{IntakeState, WholeView, upload_of}

-- ---- the loads

-- a file that a header names, as it will stand in the manifest
abbrev pub named_file : FileEntry → ManifestFile
named_file entry = record { name = entry.name; length = entry.length }

abbrev pub named_files : HeaderView → List ManifestFile
named_files h = map named_file (files_of h)

-- the open load with the files that it has so far
abbrev pub current_load : Option OpenLoadView → List LoadEntry
current_load None = []
current_load (Some l) = load_entry_of l ∷ []

-- and with all that its header names
abbrev pub planned_current : Option OpenLoadView → List LoadEntry
planned_current None = []
planned_current (Some l) = planned_load l.wanted l.header l.size ∷ []

-- what has come of an upload, as it stands in a manifest
abbrev pub loads_so_far : UploadView → List LoadEntry
loads_so_far u = u.loads ++ current_load u.current

-- and with all files of the open load
abbrev pub loads_planned : UploadView → List LoadEntry
loads_planned u = u.loads ++ planned_current u.current

-- how many files of the open load are still to end
abbrev pub files_missing : Option OpenLoadView → ℕ
files_missing None = 0
files_missing (Some l) = length (files_of l.header) - length l.files

-- how many bytes of the file that arrives stand in the bank: none of a header, and of another none past its said length
abbrev pub bytes_taken : Arriving → ℕ
bytes_taken (Kept_bytes b) = 0
bytes_taken (Kept_sums s) = min s.count s.said

-- ---- what holds of each

-- A file of the open load is still to come: the load has the first files that its header names, and of the next one so
-- many bytes are said.
pub record IsOpenLoad (l : OpenLoadView) (s : Sums) : Type 0 where
  pub header : IsHeader l.header
  pub part : l.header.part ≡ l.wanted.part
  pub left : length l.files < length (files_of l.header)
  pub planned : l.files ≡ take (length l.files) (named_files l.header)
  pub said : s.said ≡ said_length (next_entry l)

-- what is kept of the file that arrives is of the one that comes next
abbrev pub IsOfNext : Option OpenLoadView → Arriving → Type 0
IsOfNext None (Kept_bytes b) = ⊤
IsOfNext (Some l) (Kept_sums s) = IsOpenLoad l s
IsOfNext current arriving = ⊥

-- A load is still to come of at most 32, and the bytes that all need are counted. No bytes of the contents of files are held
-- but those that the upload keeps: what waits for the next header is empty.
pub record IsIntake (st : IntakeState) (counted : ℕ) : Type 0 where
  pub few : length st.upload.request ≤ 32
  pub left : length st.upload.loads < length st.upload.request
  pub need : counted ≡ need_of (loads_planned st.upload)
  pub next : IsOfNext st.upload.current st.arriving
  pub holds : st.held ≡ upload_kept st.upload.current st.arriving

-- A load of which the last file that arrived was accepted: it has the first files that its header names, and is the next
-- of those that were asked for.
pub record IsAccepted (w : WholeView) (l : OpenLoadView) : Type 0 where
  pub few : length w.request ≤ 32
  pub left : length w.loads < length w.request
  pub need : w.need ≡ need_of (w.loads ++ planned_load l.wanted l.header l.size ∷ [])
  pub header : IsHeader l.header
  pub part : l.header.part ≡ l.wanted.part
  pub within : length l.files ≤ length (files_of l.header)
  pub planned : l.files ≡ take (length l.files) (named_files l.header)

-- an intake of an upload that is so far, with this kept of the file that arrives
abbrev pub intake_at : WholeView → Option OpenLoadView → Arriving → IntakeState
intake_at w current arriving = record { upload = upload_of w current; arriving = arriving; held = upload_kept current arriving }

-- and one with all that stands where its next file comes
abbrev pub intake_of : WholeView → Place → IntakeState
intake_of w place = record { upload = upload_of w (open_load place); arriving = arriving_at place; held = bytes_held place }

-- what waits there is empty
abbrev pub WaitsEmpty : Place → Type 0
WaitsEmpty place = bytes_held place ≡ upload_kept (open_load place) (arriving_at place)

-- After more of a file its place is that of the same file of the same load.
pub record StaysAtFile (old new : Place) : Type 0 where
  pub load : open_load new ≡ open_load old
  pub waits : WaitsEmpty old → WaitsEmpty new
  pub next : IsOfNext (open_load old) (arriving_at old) → IsOfNext (open_load new) (arriving_at new)
