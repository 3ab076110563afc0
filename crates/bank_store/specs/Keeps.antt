-- What the calls of a store do, and what they keep (docs/DISK.md).
use Rattle.std.specs.Prelude.{◌≡◌, ◌⊎◌, ℕ, ◌+◌, ◌<◌, ◌≤◌, Result, List, [], ◌∷◌, ◌++◌, Some, length}
use Rattle.std.specs.Option.{ForSome}
use Rattle.load_base.specs.Config.{LoadView}
use Rattle.disk_model.specs.Image.{Image, range}
use Rattle.disk_model.specs.State.{DiskState, IsSettled}
use Rattle.disk_layout.specs.Entries.{entry_bytes}
use Rattle.disk_layout.specs.Manifest.{entries_length, total_length}
use Rattle.disk_layout.specs.Slots.{IsOpen, other_slot, manifest_offset_of, manifest_length_of}
use Rattle.disk_layout.specs.Holds.{StandingView, HoldsConfig, HoldsBy}
use Rattle.bank_store.specs.DiskWrites.{AddsOnly, IsAnswered, IsRunning}
use Rattle.bank_store.specs.Store.{active_at, active_slot, body_of, work_at, IsKeptLoad, IsSealed, IsFilling, IsPrepared, SameActive, load_kept, Switches, nothing_filled, bytes_appended, manifest_length, with_gate_shut, with_piece, with_manifest, with_slot, with_gate_open}
use Rattle.bank_store.specs.Given.{Given, HasGiven, nothing_given, with_bytes, with_whole, loads_of, configured}
use Rattle.bank_store.specs.Fits.{HoldsFor, HasWork, IsReady, SameButForWork, Fits, Works, InstallsBeside, CanActivate}
use Rattle.bank_store.specs.declared.fault.StoreFault.{StoreFault}
use Rattle.bank_store.specs.declared.store.Store.{Store}
use Rattle.bank_store.specs.declared.stage.Filling.{Filling}

-- the image holds the one configuration or the other
abbrev pub IsOldOrNew : StandingView → StandingView → Image → Type 0
IsOldOrNew old new image = HoldsConfig image old ⊎ HoldsConfig image new

-- an offset in the other bank or in the other slot
abbrev pub IsBeside : Store → ℕ → Type 0
IsBeside store offset =
    ((work_at store ≤ offset) × (offset < work_at store + store.size)) ⊎ ((other_slot (active_slot store) ≤ offset) × (offset < other_slot (active_slot store) + 29))

-- at each other offset the same is read as before
abbrev pub LeavesRest : Store → DiskState → DiskState → Type 0
LeavesRest store old new = ForSome old.reads (λ image. ForSome new.reads (λ now. (offset : ℕ) → ¬ IsBeside store offset → now offset ≡ image offset))

-- ---- what each call keeps

-- Inside the call and after it a power loss leaves nothing new but what holds the configuration of the call's start.
abbrev pub LeavesActive : Store → DiskState → DiskState → Type 0
LeavesActive store old new = (s : StandingView) → InstallsBeside store old s → AddsOnly old new (λ left. HoldsConfig left s)

-- what is read still holds the configuration of the call's start
abbrev pub StillHolds : Store → Store → DiskState → DiskState → Type 0
StillHolds before after old new =
    ForSome old.reads (λ image. ForSome new.reads (λ now. (s : StandingView) → HoldsFor before image s → HoldsFor after now s))

-- The disk goes on as that of the store.
pub record FitsOn (before after : Store) (old new : DiskState) : Type 0 where
  pub running : IsRunning new
  pub fits : Fits before old → Fits after new
  pub works : Works before old → Works after new
  pub holds : StillHolds before after old new
  pub rest : LeavesRest before old new

-- What begin, append and seal keep, whatever they answer: the active slot and bank, what a power loss leaves, and, where
-- neither the disk nor memory failed, the disk as that of the store.
pub record Keeps {T : Type 0} (before after : Store) (old new : DiskState) (result : Result T StoreFault) : Type 0 where
  pub active : SameActive before after
  pub leaves : LeavesActive before old new
  pub answered : IsAnswered result → FitsOn before after old new

-- What a call keeps that makes no call of the disk: what holds of a store and a disk before it holds after it.
pub record Continues (old new : Store) : Type 0 where
  pub active : SameActive old new
  pub gate : new.other_is_open ≡ old.other_is_open
  pub holds : (image : Image) (s : StandingView) → HoldsFor old image s → HoldsFor new image s
  pub work : (image : Image) → HasWork old image → HasWork new image
  pub near : (one other : Image) → SameButForWork old one other → SameButForWork new one other
  pub sealed : IsSealed new → IsSealed old

-- Where each image now differs from this one only where an installation writes, so does each that the calls add.
abbrev pub KeepsNear : Store → DiskState → DiskState → Type 0
KeepsNear store old new =
    (image : Image) → ((left : Image) → old.now left → SameButForWork store image left) → AddsOnly old new (SameButForWork store image)

-- by the active slot the image holds this configuration, and the other slot is shut
pub record IsShutFor (store : Store) (image : Image) (s : StandingView) : Type 0 where
  pub by : HoldsBy image (active_slot store) s
  pub shut : ¬ IsOpen image (other_slot (active_slot store))
  pub offset : manifest_offset_of image (active_slot store) ≡ store.active.manifest.offset
  pub length : manifest_length_of image (active_slot store) ≡ store.active.manifest.length

-- ---- what a call does that answers Ok

-- An installation begins: nothing is given yet, and the other slot's gate is shut.
pub record Begins (before after : Store) (old new : DiskState) : Type 0 where
  pub filling : IsFilling after nothing_filled
  pub manifest : body_of after ≡ []
  pub written : ForSome old.reads (λ image. new.reads ≡ Some (with_gate_shut before image))
  pub given : ForSome new.reads (λ image. HasGiven after image nothing_given)
  pub settled : IsSettled new

-- These bytes stand after those that came.
pub record Appends (before after : Store) (old new : DiskState) (bytes : List ℕ) : Type 0 where
  pub filling : (progress : Filling) → IsFilling before progress → IsFilling after (bytes_appended (length bytes) progress)
  pub manifest : body_of after ≡ body_of before
  pub written : ForSome old.reads (λ image. (progress : Filling) → IsFilling before progress → new.reads ≡ Some (with_piece before progress bytes image))
  pub given : ForSome old.reads (λ image. ForSome new.reads (λ now. (g : Given) → HasGiven before image g → HasGiven after now (with_bytes bytes g)))

-- The files of a load of the active configuration stand after the contents, and the manifest says of it what the active one
-- says.
pub record KeepsLoad (before after : Store) (old new : DiskState) (load : ℕ) : Type 0 where
  pub filling : (is : IsKeptLoad before load) (progress : Filling) → IsFilling before progress → IsFilling after (load_kept (entries_length is.kept.files) progress)
  pub manifest : (is : IsKeptLoad before load) → body_of after ≡ body_of before ++ entry_bytes (is.kept ∷ [])
  pub written : ForSome old.reads (λ image. (is : IsKeptLoad before load) (progress : Filling) → IsFilling before progress
      → new.reads ≡ Some (with_piece before progress (range image (active_at before + total_length is.before) (entries_length is.kept.files)) image))
  pub given : ForSome old.reads (λ image. ForSome new.reads (λ now. (s : StandingView) (g : Given) → HoldsFor before image s → HasGiven before image g
      → (front back : List LoadView) (kept : LoadView) → s.loads ≡ front ++ kept ∷ back → length front + 1 ≡ load
      → HasGiven after now (with_whole kept g)))

-- The manifest stands after the contents, and all of the other slot but its gate.
pub record Seals (before after : Store) (old new : DiskState) : Type 0 where
  pub sealed : IsSealed after
  pub manifest : body_of after ≡ body_of before
  pub written : ForSome old.reads (λ image. (progress : Filling) → IsFilling before progress
      → new.reads ≡ Some (with_slot before progress.end (manifest_length before) (with_manifest before progress image)))
  pub ready : ForSome old.reads (λ image. ForSome new.reads (λ now. (s : StandingView) (g : Given) → HoldsFor before image s
      → HasGiven before image g → IsReady after now s (loads_of g)))
  pub settled : IsSettled new

-- The other slot is open, so that the new configuration is the active one, alone.
pub record Activates (before after : Store) (old new : DiskState) : Type 0 where
  pub switches : Switches before after
  pub prepared : IsPrepared after
  pub written : ForSome old.reads (λ image. new.reads ≡ Some (with_gate_open before image))
  pub holds : ForSome old.reads (λ image. ForSome new.reads (λ now. (s : StandingView) (loads : List LoadView) → HoldsFor before image s
      → IsReady before image s loads → HoldsFor after now (configured s loads)))
  pub alone : (s : StandingView) (loads : List LoadView) → CanActivate before old s loads
      → (left : Image) → new.now left → HoldsConfig left (configured s loads)
  pub settled : IsSettled new
  pub running : IsRunning new
  pub fits : Fits before old → Fits after new
  pub works : Works before old → Works after new
  pub rest : LeavesRest before old new
