-- How what arrives makes up what is installed, row by row (docs/EXCHANGE.md, "Upload").
use Rattle.std.specs.Prelude.{◌≡◌, ◌≤◌, ◌+◌, List, [], ◌∷◌, ◌++◌, length, true, Option, Some, None, ⊤}
use Rattle.std.specs.List.{AllZip}
use Rattle.field_grammar.specs.Grammar.{IsBytes}
use Rattle.load_base.specs.Config.{FileView, LoadView}
use Rattle.load_header.specs.declared.header.FileEntry.{FileEntry}
use Rattle.load_header.specs.Header.{HeaderView}
use Rattle.load_header.specs.HeaderFields.{HeaderSpells}
use Rattle.load_protocol_files.specs.declared.lur.Wanted.{Wanted}
use Rattle.disk_layout.specs.Contents.{entries_of}
use Rattle.disk_layout.specs.Holds.{StandingView}
use Rattle.transfer_end.specs.Transfers.{Transfer, arrived_of, error_of}
use Rattle.accept_rules.specs.declared.kept.KeptLoad.{KeptLoad}
use Rattle.accept_rules.specs.Permissions.{Accepts, AcceptsPermitted}
use Rattle.session_rules.specs.KeptLoads.{kept_entries, kept_loads, told_loads, types_in}
use Rattle.session_rules.specs.NewConfigs.{AreGoodBeside, IsAsSaid, IsNewConfig, IsWanted, files_in, reads_in}
use Rattle.session_rules.specs.Roles.{IsOfRow}
use Rattle.session_rules.specs.TargetRows.{Over, Reads_file, WholeRow, Writes_completion, Writes_progress, Writes_stop, row_with}
use Rattle.session_rules.specs.Uploads.{OpenLoad, Upload, files_of, is_for}

-- what the interlock is told of at this header, where these loads are whole before it
abbrev pub told_at : (active : StandingView) → List LoadView → HeaderView → List KeptLoad
told_at active loads h = told_loads (kept_entries (types_in loads ++ h.type_id ∷ []) (entries_of active.loads))

-- A load of which files are still to come passed all tests so far: on its header, beside what is active and the loads that were
-- whole before it, and on each file that came.
pub record IsGoodSoFar (accepts : Accepts) (active : StandingView) (loads : List LoadView) (l : OpenLoad) : Type 0 where
  pub spelled : HeaderSpells l.header l.bytes
  pub part : l.header.part ≡ l.wanted.part
  pub suits : is_for active.identity.hw active.identity.pos l.header ≡ true
  pub accepted : accepts l.header (told_at active loads l.header) ≡ true
  pub came : List FileEntry
  pub left : List FileEntry
  pub entries : files_of l.header ≡ came ++ left
  pub each : AllZip IsAsSaid came l.files

-- its files so far, the header first
abbrev pub files_of_open : Option OpenLoad → List FileView
files_of_open None = []
files_of_open (Some l) = record { name = l.wanted.header; bytes = l.bytes } ∷ l.files

-- the open load, if there is one, is the first of those that are left
abbrev pub IsNextWanted : Accepts → (active : StandingView) → List LoadView → (left : List Wanted) → Option OpenLoad → Type 0
IsNextWanted accepts active loads left None = ⊤
IsNextWanted accepts active loads [] (Some l) = ⊥
IsNextWanted accepts active loads (wanted ∷ left) (Some l) = (l.wanted ≡ wanted) × IsGoodSoFar accepts active loads l

-- where the open load is the last that was asked for, the loads that were and those that are kept are 32 at most
abbrev pub AreFew : (active : StandingView) → (request : List Wanted) → List LoadView → Option OpenLoad → Type 0
AreFew active request loads None = ⊤
AreFew active request loads (Some l) =
    length request ≤ length loads + 1 → length request + length (kept_loads (types_in loads ++ l.header.type_id ∷ []) active.loads) ≤ 32

abbrev pub AreGoodLoads : Accepts → (active : StandingView) → List LoadView → Type 0
AreGoodLoads accepts active loads = AreGoodBeside (λ h kept. accepts h kept ≡ true) active loads

-- how far an upload has come, where these files were read
pub record IsSoundUpload (accepts : Accepts) (active : StandingView) (reads : List FileView) (u : Upload) : Type 0 where
  pub had : List Wanted
  pub left : List Wanted
  pub request : u.request ≡ had ++ left
  pub each : AllZip IsWanted had u.loads
  pub good : AreGoodLoads accepts active u.loads
  pub next : IsNextWanted accepts active u.loads left u.current
  pub few : AreFew active u.request u.loads u.current
  pub files : files_in u.loads ++ files_of_open u.current ≡ reads

-- a row beside what is active as it is reached, where these files were read in the session
abbrev pub IsSoundRow : Accepts → (active : StandingView) → List FileView → WholeRow → Type 0
IsSoundRow accepts active reads (Reads_file u) = IsSoundUpload accepts active reads u
IsSoundRow accepts active reads (Writes_progress u) = IsSoundUpload accepts active reads u
IsSoundRow accepts active reads (Writes_completion e loads) = IsNewConfig (λ h kept. accepts h kept ≡ true) active e.request reads loads
IsSoundRow accepts active reads (Writes_stop e) = ⊤
IsSoundRow accepts active reads Over = ⊤
IsSoundRow accepts active reads row = reads ≡ []

-- Each transfer of a session that no ERROR ended keeps its row sound. So where the verdict is good, the loads are what follows
-- from what was asked for and read.
abbrev pub VerdictIsSound : Type 0
VerdictIsSound = (accepts : Accepts) (active : StandingView) (row : WholeRow) (done : List Transfer) (t : Transfer)
    → AcceptsPermitted accepts → IsBytes (arrived_of t) → error_of t ≡ None → IsOfRow row t.role
    → IsSoundRow accepts active (reads_in done) row → IsSoundRow accepts active (reads_in (done ++ t ∷ [])) (row_with accepts active row t)
