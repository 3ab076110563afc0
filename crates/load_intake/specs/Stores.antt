-- How an intake and the store that it fills go together (docs/EXCHANGE.md, "Upload"; docs/DISK.md).
use Rattle.std.specs.Prelude.{◌≡◌, ◌⊎◌, ℕ, ◌+◌, ◌-◌, ◌<◌, ◌≤◌, ⊤, Some, None, List, [], ◌∷◌, ◌++◌, length, Result, OnErr, OnOk, IsErrOf, false}
use Rattle.std.specs.List.{AllByRecursion, concat, flat_map}
use Rattle.load_base.specs.PartText.{IsPartText}
use Rattle.load_header.specs.Header.{HeaderView}
use Rattle.field_grammar.specs.Fields.{number_fields}
use Rattle.disk_model.specs.State.{DiskState, KeepsCounts}
use Rattle.disk_layout.specs.DiskReads.{HasDiskCause, IsOutOfMemory}
use Rattle.disk_layout.specs.Slots.{other_bank, other_slot}
use Rattle.disk_layout.specs.Manifest.{FileFits, HasTypeOf, LoadEntry, entries_length, file_entry_fields, load_entry_fields, manifest_fields, total_length, type_fields}
use Rattle.disk_layout.specs.Offsets.{most_files}
use Rattle.disk_layout.specs.declared.manifest.Layout.TheVariants as layouts
use Rattle.bank_store.specs.declared.fault.StoreFault.{StoreFault}
use Rattle.bank_store.specs.declared.fault.StoreFault.TheVariants.{DiskFailed}
use Rattle.bank_store.specs.declared.store.Store.{Store}
use Rattle.bank_store.specs.declared.stage.Filling.{Filling}
use Rattle.bank_store.specs.DiskWrites.{TimeGoesOn, IsRunning}
use Rattle.bank_store.specs.Fits.{Fits, Works}
use Rattle.bank_store.specs.Known.{KnowsActive}
use Rattle.bank_store.specs.Store.{AwaitsFile, AwaitsLoad, IsFilling, IsKeptLoad, IsPrepared, SameActive, active_bank, active_sequence, active_slot, bank_size_of, body_of, known_of, manifest_length}
use Rattle.session_rules.specs.KeptLoads.{with_kept_entries}
use Rattle.session_rules.specs.Uploads.{OpenLoadView, files_of, need_of, planned_load}
use Rattle.session_rules.specs.TargetRows.{Arriving, Kept_bytes, Kept_sums, load_entry_of}
use Rattle.load_protocol_files.specs.declared.lur.Wanted.{Wanted}
use Rattle.load_intake.specs.declared.down.Down.{Down}
use Rattle.load_intake.specs.declared.down.Down.TheVariants as downs
use Rattle.load_intake.specs.declared.ended.UploadEnd.{UploadEnd}
use Rattle.load_intake.specs.declared.finished.Finished.{Finished}
use Rattle.load_intake.specs.declared.finished.Finished.TheVariants as finished
use Rattle.load_intake.specs.Intakes.{BeginsNext, HasSpareFor}
use Rattle.load_intake.specs.Keeping.{entries, kept_at, kept_planned}
use Rattle.load_intake.specs.Kept.{IsAccepted, IsIntake, loads_so_far, loads_planned, files_missing, bytes_taken}
use Rattle.load_intake.specs.States.{IntakeState, WholeView, upload_of}

-- what a manifest says of a load of which this many files are still to end
abbrev pub begun_fields : (left : ℕ) → LoadEntry → List (List ℕ)
begun_fields left l = (l.part ∷ []) ++ (type_fields layouts.Two l.type_id ++ (number_fields 2 (length l.files + left) ++ flat_map file_entry_fields l.files))

-- and of all loads, of the last of which this many are
abbrev pub entries_begun : (left : ℕ) → List LoadEntry → List ℕ
entries_begun left [] = []
entries_begun left (l ∷ []) = concat (begun_fields left l)
entries_begun left (l ∷ next ∷ loads) = concat (load_entry_fields layouts.Two l) ++ entries_begun left (next ∷ loads)

-- a load of which this many files are still to end is one that a manifest can say, once it is whole
pub record FitsBegun (left : ℕ) (l : LoadEntry) : Type 0 where
  pub part : IsPartText l.part
  pub type_id : HasTypeOf layouts.Two l.type_id
  pub some : 1 ≤ length l.files + left
  pub few : length l.files + left ≤ most_files
  pub files : AllByRecursion (λ f. FileFits f) l.files

-- and so are all loads, of the last of which this many are
abbrev pub AllFitBegun : (left : ℕ) → List LoadEntry → Type 0
AllFitBegun left [] = ⊤
AllFitBegun left (l ∷ []) = FitsBegun left l
AllFitBegun left (l ∷ next ∷ loads) = FitsBegun 0 l × AllFitBegun left (next ∷ loads)

-- The store has these loads, of the last of which this many files are still to end, and after them this many bytes of the
-- file that ends next.
pub record StoreHas (store : Store) (given : List LoadEntry) (left taken : ℕ) : Type 0 where
  pub progress : Filling
  pub filling : IsFilling store progress
  pub loads : progress.loads ≡ length given
  pub missing : progress.missing ≡ left
  pub start : progress.start ≡ total_length given
  pub end : progress.end ≡ progress.start + taken
  pub manifest : manifest_length store ≡ length (concat (manifest_fields layouts.Two given))
  pub body : body_of store ≡ entries_begun left given
  pub fit : AllFitBegun left given

-- a load of this type of which nothing but its header is there yet, which has this many bytes
abbrev pub header_alone : Wanted → (type_id size : ℕ) → LoadEntry
header_alone wanted type_id size = record { part = wanted.part; type_id = Some type_id; files = record { name = wanted.header; length = size } ∷ [] }

-- and one with a file more
abbrev pub with_entry : LoadEntry → (name : List ℕ) (size : ℕ) → LoadEntry
with_entry load name size = record { part = load.part; type_id = load.type_id; files = load.files ++ record { name = name; length = size } ∷ [] }

-- this many bytes more fit the bank
abbrev pub HasRoomFor : ℕ → Store → Type 0
HasRoomFor n store = (progress : Filling) → IsFilling store progress → progress.end + n ≤ bank_size_of store

-- there is room for the rest of the file that arrives
abbrev pub MayTake : Arriving → Store → Type 0
MayTake (Kept_bytes b) store = ⊤
MayTake (Kept_sums s) store = AwaitsFile store × HasRoomFor (s.said - s.count) store

-- The load is the active one of this number, and there is room for it after those that stand in the store.
pub record CanKeepLoad (store : Store) (number : ℕ) (load : LoadEntry) : Type 0 where
  pub is : IsKeptLoad store number
  pub same : is.kept ≡ load
  pub awaits : AwaitsLoad store
  pub room : HasRoomFor (entries_length load.files) store

-- A load can begin after these with its header of this size: a manifest can count it and its files, and the bank has room for the
-- header.
pub record CanWriteHeader (store : Store) (loads : List LoadEntry) (wanted : Wanted) (h : HeaderView) (size : ℕ) : Type 0 where
  pub has : StoreHas store loads 0 0
  pub few : length loads < 32
  pub files : length (files_of h) ≤ 255
  pub room : total_length loads + size ≤ bank_size_of store
  pub short : size ≤ 65536
  pub part : length wanted.part ≡ 15

-- Beside so many loads that were asked for, and those that are planned, these can be kept: a manifest can count them, and all fit
-- the bank.
pub record HasRoomToKeep (store : Store) (requested : ℕ) (planned kept : List LoadEntry) : Type 0 where
  pub few : requested + length kept ≤ 32
  pub fits : need_of (planned ++ kept) ≤ bank_size_of store

-- The store has what the intake took, all that is planned fits its bank, and so do the loads that are kept, once they are known.
pub record IsInStep (st : IntakeState) (store : Store) : Type 0 where
  pub has : StoreHas store (loads_so_far st.upload) (files_missing st.upload.current) (bytes_taken st.arriving)
  pub fits : need_of (loads_planned st.upload) ≤ bank_size_of store
  pub keeps : (active : List LoadEntry) → KnowsActive store active
      → HasRoomToKeep store (length st.upload.request) (loads_planned st.upload) (kept_planned active st.upload st.upload.current)

-- a load stands in the store with its files so far
pub record HasAccepted (w : WholeView) (l : OpenLoadView) (store : Store) : Type 0 where
  pub has : StoreHas store (w.loads ++ load_entry_of l ∷ []) (length (files_of l.header) - length l.files) 0
  pub fits : need_of (w.loads ++ planned_load l.wanted l.header l.size ∷ []) ≤ bank_size_of store
  pub keeps : (active : List LoadEntry) → KnowsActive store active
      → HasRoomToKeep store (length w.request) (w.loads ++ planned_load l.wanted l.header l.size ∷ []) (kept_at active (upload_of w None) l.header)

-- an intake that goes on is in step with this store
abbrev pub GoesOnInStep : Finished → Store → Type 0
GoesOnInStep (finished.MoreFiles intake) store = IsInStep intake store
GoesOnInStep (finished.NextLoad intake) store = IsInStep intake store
GoesOnInStep finished store = ⊤

-- The premises of a call at the end of a file.
pub record FileArrived (st : IntakeState) (counted : ℕ) (store : Store) (disk : DiskState) : Type 0 where
  pub keeps : IsIntake st counted
  pub in_step : IsInStep st store
  pub running : IsRunning disk

-- The premises of a call once it was accepted.
pub record FileAccepted (w : WholeView) (l : OpenLoadView) (store : Store) (disk : DiskState) : Type 0 where
  pub load : IsAccepted w l
  pub has : HasAccepted w l store
  pub running : IsRunning disk

-- ---- what calls do to the store and the disk

-- The store goes on as that of the disk, which runs, with the same active.
pub record StoreGoesOn (before after : Store) (old new : DiskState) : Type 0 where
  pub active : SameActive before after
  pub running : IsRunning new
  pub fits : Fits before old → Fits after new
  pub works : Works before old → Works after new

-- The new configuration is active, in the other bank and by the other slot, with the next sequence number, and the store
-- is that of the disk.
pub record Installs (before after : Store) (old new : DiskState) : Type 0 where
  pub size : bank_size_of after ≡ bank_size_of before
  pub slot : active_slot after ≡ other_slot (active_slot before)
  pub bank : active_bank after ≡ other_bank (active_bank before)
  pub sequence : active_sequence after ≡ active_sequence before + 1
  pub prepared : IsPrepared after
  pub running : IsRunning new
  pub fits : Fits before old → Fits after new
  pub works : Works before old → Works after new

-- These loads are active with those that are kept of the ones before, and the store knows it.
pub record InstallsLoads (loads : List LoadEntry) (before after : Store) (old new : DiskState) : Type 0 where
  pub installs : Installs before after old new
  pub knows : (active : List LoadEntry) → KnowsActive before active → KnowsActive after (with_kept_entries loads active)

-- the installation is given up
pub record GivesUp (before after : Store) (old new : DiskState) : Type 0 where
  pub prepared : IsPrepared after
  pub goes_on : StoreGoesOn before after old new

-- an intake that goes on is in step with the store
pub record StaysInStep (st : IntakeState) (before after : Store) (old new : DiskState) : Type 0 where
  pub in_step : IsInStep st after
  pub goes_on : StoreGoesOn before after old new

-- all loads that were asked for are installed
pub record InstallsAll (end : UploadEnd) (loads : List LoadEntry) (before after : Store) (old new : DiskState) : Type 0 where
  pub all : length end.request.items ≡ length loads
  pub loads_are : InstallsLoads loads before after old new

-- what the end of a file leaves of the store and the disk
abbrev pub Leaves : Finished → (before after : Store) (old new : DiskState) → Type 0
Leaves (finished.MoreFiles intake) before after old new = StaysInStep intake before after old new
Leaves (finished.NextLoad intake) before after old new = StaysInStep intake before after old new
Leaves (finished.Stopped end) before after old new = GivesUp before after old new
Leaves (finished.Installed end loads) before after old new = InstallsAll end (entries loads.loads.items) before after old new

-- What the end of a file comes to, where so many loads are active: an intake that goes on begins with its next file, the list
-- of what is installed has room for the active loads that are kept with it, and this is left of the store and the disk.
pub record EndsFile (active : ℕ) (finished : Finished) (before after : Store) (old new : DiskState) : Type 0 where
  pub begins : BeginsNext finished
  pub spare : HasSpareFor active finished
  pub leaves : Leaves finished before after old new

-- No call of the disk was refused, and it takes calls.
pub record RunsUnrefused (old new : DiskState) : Type 0 where
  pub counts : KeepsCounts old new
  pub running : IsRunning new

-- Memory is out: no call of the disk was refused and it runs, or the disk itself was out of memory, which it counts, and is
-- stopped.
abbrev pub RunsOutOfMemory : DiskState → DiskState → Type 0
RunsOutOfMemory old new = RunsUnrefused old new ⊎ IsOutOfMemory old new

-- Time goes on, whatever is answered; with Ok no call of the disk was refused and it runs, and a failure of the disk has its
-- cause.
pub record Writes {T : Type 0} (old new : DiskState) (result : Result T Down) : Type 0 where
  pub goes_on : TimeGoesOn old new
  pub running : OnOk result (new.stopped ≡ false)
  pub cause : HasDiskCause downs.DiskFailed old new result
  pub counts : OnOk result (KeepsCounts old new)
  pub memory : IsErrOf result downs.Memory → RunsOutOfMemory old new

-- What a call on a store and its disk keeps, whatever it answers: its bank has the size that it had, a failure leaves what the
-- store knows of the active loads, and the disk was written as it says.
pub record KeepsStore {T : Type 0} (before after : Store) (old new : DiskState) (result : Result T Down) : Type 0 where
  pub size : bank_size_of after ≡ bank_size_of before
  pub known : OnErr result (known_of after ≡ known_of before)
  pub writes : Writes old new result

-- what a failure of the store comes to
abbrev pub down_of : StoreFault → Down
down_of DiskFailed = downs.DiskFailed
down_of fault = downs.Memory
