-- Good loads, verdicts, and the configuration that a good upload makes (docs/EXCHANGE.md, "Upload").
use Rattle.std.specs.Prelude.{◌≡◌, ℕ, ◌≤◌, List, [], ◌∷◌, ◌++◌, length, map, filter, true, Option, Some, None, ⊤}
use Rattle.std.specs.List.{AllByRecursion, AllZip, flat_map}
use Rattle.crc_fields.specs.CheckSums.{crc16_of, crc32_of}
use Rattle.load_base.specs.Config.{FileView, LoadView}
use Rattle.load_header.specs.declared.header.FileEntry.{FileEntry}
use Rattle.load_header.specs.Header.{HeaderView}
use Rattle.load_header.specs.HeaderFields.{HeaderSpells}
use Rattle.load_protocol_files.specs.declared.lur.Wanted.{Wanted}
use Rattle.disk_layout.specs.declared.identity.Identity.{Identity}
use Rattle.disk_layout.specs.Contents.{entries_of}
use Rattle.disk_layout.specs.Holds.{StandingView}
use Rattle.disk_layout.specs.Manifest.{LoadEntry}
use Rattle.transfer_end.specs.Transfers.{Transfer, arrived_of, is_reading, name_of}
use Rattle.accept_rules.specs.declared.kept.KeptLoad.{KeptLoad}
use Rattle.accept_rules.specs.Permissions.{Permits}
use Rattle.session_rules.specs.declared.reason.Reason.{Reason}
use Rattle.session_rules.specs.KeptLoads.{kept_entries, told_loads, types_in, with_kept}
use Rattle.session_rules.specs.MediaFiles.{Media}
use Rattle.session_rules.specs.Uploads.{files_of, covered, is_for}
use Rattle.session_rules.specs.TargetRows.{Reads_file, Writes_progress, Writes_stop, Writes_completion, WholeRow}

-- ---- good loads

-- a file is as its entry says
pub record IsAsSaid (entry : FileEntry) (file : FileView) : Type 0 where
  pub name : file.name ≡ entry.name
  pub size : length file.bytes ≡ entry.length
  pub crc : crc16_of file.bytes ≡ entry.crc16

-- A load is good for a target beside loads that are kept: its header spells it, has its part number and its type id, is for the
-- target's hardware and position and accepted by its interlock; each file is as the header says; and the load CRC is that of all
-- of them.
pub record IsGoodLoad (Accepted : HeaderView → List KeptLoad → Type 0) (id : Identity) (kept : List KeptLoad) (load : LoadView) : Type 0 where
  pub header : HeaderView
  pub bytes : List ℕ
  pub files : List FileView
  pub spelled : HeaderSpells header bytes
  pub part : load.part ≡ header.part
  pub type_id : load.type_id ≡ Some header.type_id
  pub suits : is_for id.hw id.pos header ≡ true
  pub accepted : Accepted header kept
  pub permitted : Permits header kept
  pub whole : load.files ≡ record { name = load.header_name; bytes = bytes } ∷ files
  pub each : AllZip IsAsSaid (files_of header) files
  pub crc : crc32_of (covered bytes files) ≡ header.load_crc

-- what the interlock is told of as it is asked for the last of these loads: the active ones that none of them replaces
abbrev pub kept_beside : (active : List LoadEntry) → List LoadView → List KeptLoad
kept_beside active loads = told_loads (kept_entries (types_in loads) active)

-- each of these loads, which come after those before them, is good beside what is kept after its header
abbrev pub AreGoodAfter : (Accepted : HeaderView → List KeptLoad → Type 0) → Identity → (active : List LoadEntry) → (before loads : List LoadView) → Type 0
AreGoodAfter Accepted id active before [] = ⊤
AreGoodAfter Accepted id active before (load ∷ loads) =
    IsGoodLoad Accepted id (kept_beside active (before ++ load ∷ [])) load × AreGoodAfter Accepted id active (before ++ load ∷ []) loads

-- each of these loads is good beside what is kept of the active configuration after its header
abbrev pub AreGoodBeside : (Accepted : HeaderView → List KeptLoad → Type 0) → (active : StandingView) → List LoadView → Type 0
AreGoodBeside Accepted active loads = AreGoodAfter Accepted active.identity (entries_of active.loads) [] loads

-- A load passed all tests but its interlock's, which may not accept all: its type id isn't 0. Of a load that was installed earlier
-- this stays true, whatever was kept beside it then.
abbrev pub IsChecked : Identity → LoadView → Type 0
IsChecked id load = IsGoodLoad (λ h kept. ⊤) id [] load

-- ---- what arrived in a session

-- the loads that were asked for, once the request was accepted
abbrev pub request_in : WholeRow → List Wanted
request_in (Reads_file u) = u.request
request_in (Writes_progress u) = u.request
request_in (Writes_stop e) = e.request
request_in (Writes_completion e loads) = e.request
request_in row = []

abbrev pub file_read : Transfer → FileView
file_read t = record { name = name_of t.role; bytes = arrived_of t }

-- the files that the target asked to read, in their order
abbrev pub reads_in : List Transfer → List FileView
reads_in done = map file_read (filter (λ (t : Transfer). is_reading t.role) done)

-- what the tests say of all that arrived
pub data Verdict : Type 0 where
  Going : Verdict
  Good : Verdict
  Fails_for : Reason → Verdict  -- the first test that failed

abbrev pub stopped_by : Option Reason → Verdict
stopped_by None = Going
stopped_by (Some reason) = Fails_for reason

abbrev pub verdict_in : WholeRow → Verdict
verdict_in (Writes_stop e) = stopped_by e.reason
verdict_in (Writes_completion e loads) = Good
verdict_in row = Going

-- ---- new configurations

-- a load is the one that was asked for
pub record IsWanted (wanted : Wanted) (load : LoadView) : Type 0 where
  pub part : load.part ≡ wanted.part
  pub header : load.header_name ≡ wanted.header

-- the files of these loads, load by load
abbrev pub files_in : List LoadView → List FileView
files_in loads = flat_map (λ (load : LoadView). load.files) loads

-- Loads are what follows, beside what is active, from a request and from what was read: one for each that was asked for, in their
-- order; their files are exactly those that were read; each is good for the target; and with those that are kept they are 32 at
-- most.
pub record IsNewConfig (Accepted : HeaderView → List KeptLoad → Type 0) (active : StandingView) (request : List Wanted) (reads : List FileView) (loads : List LoadView) : Type 0 where
  pub each : AllZip IsWanted request loads
  pub files : files_in loads ≡ reads
  pub good : AreGoodBeside Accepted active loads
  pub few : length (with_kept loads active.loads) ≤ 32

-- each file of these loads is the media set's file of its name
abbrev pub AreOfMedia : Media → List LoadView → Type 0
AreOfMedia media loads = AllByRecursion (λ (file : FileView). media.file file.name ≡ Some file.bytes) (files_in loads)
