-- What a store and its disk have of an upload with all contents, and what calls leave of it (docs/EXCHANGE.md, "Upload";
-- docs/DISK.md).
use Rattle.std.specs.Prelude.{◌≡◌, ◌⊎◌, ℕ, ◌+◌, ◌<◌, ◌≤◌, List, [], ◌∷◌, ◌++◌, length, map, take, Option, Some, None, Result, OnOk}
use Rattle.load_base.specs.Config.{LoadView}
use Rattle.disk_model.specs.Image.{Image}
use Rattle.disk_model.specs.State.{DiskState}
use Rattle.disk_layout.specs.Contents.{HeadersAreFirst}
use Rattle.disk_layout.specs.Holds.{HoldsConfig, StandingView}
use Rattle.bank_store.specs.Fits.{CanActivate, InstallsBeside}
use Rattle.bank_store.specs.Given.{Given, GivenLoad, HasGiven, loads_of, whole_given}
use Rattle.bank_store.specs.Keeps.{IsOldOrNew}
use Rattle.bank_store.specs.declared.store.Store.{Store}
use Rattle.session_rules.specs.Uploads.{Complete, Next, OpenLoad, Upload, current_view, files_of, next_entry, open_load_view, upload_view}
use Rattle.session_rules.specs.TargetLog.{standing_after, standing_in}
use Rattle.session_rules.specs.TargetRows.{Over, Reads_file, WholeRow, Writes_progress, arriving_load, said_length}
use Rattle.load_intake.specs.States.{IntakeState}

-- ---- what the store was given

-- of a load that is whole
abbrev pub given_load : LoadView → GivenLoad
given_load load = record { part = load.part; type_id = load.type_id; announced = length load.files; files = load.files }

-- of one that isn't: its header and its files so far, of as many as the header names
abbrev pub given_open : OpenLoad → GivenLoad
given_open l = record { part = l.wanted.part; type_id = Some l.header.type_id; announced = length (files_of l.header) + 1; files = record { name = l.wanted.header; bytes = l.bytes } ∷ l.files }

abbrev pub given_current : Option OpenLoad → List GivenLoad
given_current None = []
given_current (Some l) = given_open l ∷ []

-- of the next file: nothing of a header, before it is accepted, and of another nothing past the length that is said of it
abbrev pub given_bytes : Option OpenLoad → (arrived : List ℕ) → List ℕ
given_bytes None arrived = []
given_bytes (Some l) arrived = take (said_length (next_entry (open_load_view l))) arrived

-- of an upload, where so much has arrived of its next file
abbrev pub given_of : Upload → (arrived : List ℕ) → Given
given_of u arrived = record { loads = map given_load u.loads ++ given_current u.current; bytes = given_bytes u.current arrived }

-- with these loads more, each with all its files
abbrev pub with_whole_loads : List LoadView → Given → Given
with_whole_loads loads g = record { loads = g.loads ++ map whole_given loads; bytes = g.bytes }

-- ---- what the disk holds

-- The store and the other bank have what arrived of an upload, and each of its loads begins with its header.
pub record HoldsUpload (store : Store) (image : Image) (u : Upload) (arrived : List ℕ) : Type 0 where
  pub given : HasGiven store image (given_of u arrived)
  pub headers : HeadersAreFirst u.loads

-- what they have of a session that has come to a row
abbrev pub HoldsRow : Store → Image → WholeRow → (arrived : List ℕ) → Type 0
HoldsRow store image (Reads_file u) arrived = HoldsUpload store image u arrived
HoldsRow store image (Writes_progress u) arrived = HoldsUpload store image u []
HoldsRow store image row arrived = Unit {0}

-- The store works on a disk that tells its content, beside this configuration, and both have what arrived of a session.
pub record InstallsRow (store : Store) (disk : DiskState) (s : StandingView) (row : WholeRow) (arrived : List ℕ) : Type 0 where
  pub beside : InstallsBeside store disk s
  pub holds : HoldsRow store beside.image row arrived

-- what an intake keeps is of this upload, of whose next file so much has arrived
pub record IsOf (st : IntakeState) (u : Upload) (arrived : List ℕ) : Type 0 where
  pub upload : st.upload ≡ upload_view u
  pub arriving : st.arriving ≡ arriving_load (current_view u.current) arrived

-- ---- what calls leave

-- Time goes on, and inside these calls and after them a power loss may leave nothing that it couldn't before, but images with
-- this property.
pub record AddsAtMost (old new : DiskState) (P : Image → Type 0) : Type 0 where
  pub later : old.clock ≤ new.clock
  pub each : (t u : ℕ) (image : Image) → new.between t u image → old.between t u image ⊎ P image
  pub here : (image : Image) → new.now image → old.now image ⊎ P image

-- At the clock of the calls' start, and so inside the first of them, nothing is added but images with this property.
abbrev pub AddsAtFirst : (old new : DiskState) → (Image → Type 0) → Type 0
AddsAtFirst old new P = (t u : ℕ) (image : Image) → u ≤ old.clock → new.between t u image → old.between t u image ⊎ P image

-- Nothing is added but what holds the one configuration or the other, and the other only once the clock went on.
pub record AddsOldOrNew (old new : DiskState) (s next : StandingView) : Type 0 where
  pub adds : AddsAtMost old new (IsOldOrNew s next)
  pub first : AddsAtFirst old new (λ left. HoldsConfig left s)

-- What a call leaves, whatever it answers: nothing new but what holds the one configuration or the other. With Ok the store
-- works beside the other, and both have what arrived of the session that has come to this row.
pub record BringsTo {T E : Type 0} (old : DiskState) (after : Store) (new : DiskState) (s next : StandingView) (row : WholeRow) (arrived : List ℕ) (result : Result T E) : Type 0 where
  pub adds : AddsOldOrNew old new s next
  pub ok : OnOk result (InstallsRow after new next row arrived)

-- what the end of a file leaves of a session that comes to this row
abbrev pub BringsRow : {T E : Type 0} → DiskState → Store → DiskState → StandingView → WholeRow → Result T E → Type 0
BringsRow old after new s row result = BringsTo old after new s (standing_in s row) row [] result

-- ---- and piece by piece

-- the store works beside this configuration, and it and the other bank have what was given
pub record IsGiven (store : Store) (disk : DiskState) (s : StandingView) (g : Given) : Type 0 where
  pub beside : InstallsBeside store disk s
  pub given : HasGiven store beside.image g

-- With Ok this is given, and whatever is answered, nothing new may be left but what holds the configuration.
pub record GivesContents {T E : Type 0} (old : DiskState) (after : Store) (new : DiskState) (s : StandingView) (g : Given) (result : Result T E) : Type 0 where
  pub adds : AddsAtMost old new (λ left. HoldsConfig left s)
  pub ok : OnOk result (IsGiven after new s g)

-- With Ok the gate is all that the disk lacks to hold the configuration of these loads, and the clock went on.
pub record LeavesSealed {T E : Type 0} (old : DiskState) (after : Store) (new : DiskState) (s : StandingView) (loads : List LoadView) (result : Result T E) : Type 0 where
  pub adds : AddsAtMost old new (λ left. HoldsConfig left s)
  pub rises : OnOk result (old.clock < new.clock)
  pub ok : OnOk result (CanActivate after new s loads)

-- What the opening of the gate leaves: the one configuration or the other, and before it began nothing new. With Ok the store
-- works beside the other.
pub record OpensGate {T E : Type 0} (old : DiskState) (after : Store) (new : DiskState) (s next : StandingView) (result : Result T E) : Type 0 where
  pub adds : AddsAtMost old new (IsOldOrNew s next)
  pub earlier : (t u : ℕ) (image : Image) → u < old.clock → new.between t u image → old.between t u image
  pub ok : OnOk result (InstallsRow after new next Over [])

-- what is active once a file was accepted: where it was the last of all, what was given, with the loads that are kept
abbrev pub active_next : Next → StandingView → Given → StandingView
active_next Complete s g = standing_after s (loads_of g)
active_next next s g = s

abbrev pub IsGivenNext : Next → Store → DiskState → StandingView → Given → Type 0
IsGivenNext Complete store disk s g = InstallsBeside store disk (standing_after s (loads_of g))
IsGivenNext next store disk s g = IsGiven store disk s g

-- What is left where a file was accepted.
pub record GoesTo {T E : Type 0} (next : Next) (old : DiskState) (after : Store) (new : DiskState) (s : StandingView) (g : Given) (result : Result T E) : Type 0 where
  pub adds : AddsOldOrNew old new s (active_next next s g)
  pub ok : OnOk result (IsGivenNext next after new s g)
