-- How a store and the disk that it installs on fit each other (docs/DISK.md).
use Rattle.std.specs.Prelude.{◌≡◌, ◌⊎◌, ℕ, ◌+◌, ◌<◌, ◌≤◌, true, false, List, Some}
use Rattle.std.specs.Option.{ForSome}
use Rattle.load_base.specs.Config.{LoadView}
use Rattle.disk_model.specs.Image.{Image}
use Rattle.disk_model.specs.State.{DiskState, IsSettled}
use Rattle.disk_layout.specs.Contents.{entries_of}
use Rattle.disk_layout.specs.Entries.{entry_bytes, typed_loads}
use Rattle.disk_layout.specs.Offsets.{bank_at}
use Rattle.disk_layout.specs.Slots.{IsOpen, other_bank, other_slot, manifest_offset_of, manifest_length_of}
use Rattle.disk_layout.specs.Holds.{StandingView, HoldsBy}
use Rattle.disk_layout.specs.declared.active.ManifestRange.{ManifestRange}
use Rattle.bank_store.specs.DiskWrites.{IsRunning}
use Rattle.bank_store.specs.Store.{active_slot, active_bank, active_sequence, work_at, body_of, known_of, IsSealed, IsSealedAt, with_gate_open}
use Rattle.bank_store.specs.Given.{Given, HasGiven, configured}
use Rattle.bank_store.specs.declared.store.Store.{Store}
use Rattle.bank_store.specs.declared.stage.Stage.{Stage}
use Rattle.bank_store.specs.declared.stage.Stage.TheVariants.{Idle, Filling, Sealed}

-- the other slot is open exactly where the store keeps it as open
pub record GateIsAsKept (store : Store) (image : Image) : Type 0 where
  pub open_there : store.other_is_open ≡ true → IsOpen image (other_slot (active_slot store))
  pub shut_there : store.other_is_open ≡ false → ¬ IsOpen image (other_slot (active_slot store))

-- the bytes say those of the loads that have a type id
abbrev pub KnowsLoads : List ℕ → List LoadView → Type 0
KnowsLoads bytes loads = bytes ≡ entry_bytes (typed_loads (entries_of loads))

-- by the slot that the store keeps as active the image holds this configuration; its bank, sequence number, manifest and
-- bank size are the store's, the store knows its loads, and the other slot's gate is as the store keeps it
pub record HoldsFor (store : Store) (image : Image) (s : StandingView) : Type 0 where
  pub by : HoldsBy image (active_slot store) s
  pub bank : s.bank ≡ (active_bank store)
  pub sequence : s.sequence ≡ (active_sequence store)
  pub size : s.identity.bank ≡ store.size
  pub offset : manifest_offset_of image (active_slot store) ≡ store.active.manifest.offset
  pub length : manifest_length_of image (active_slot store) ≡ store.active.manifest.length
  pub known : KnowsLoads (known_of store) s.loads
  pub gate : GateIsAsKept store image

-- the gate of the other slot is all that is missing: with it the image holds the new configuration, of these loads
pub record IsReady (store : Store) (image : Image) (s : StandingView) (loads : List LoadView) : Type 0 where
  pub manifest : ManifestRange
  pub stage : IsSealedAt store manifest
  pub opens : HoldsBy (with_gate_open store image) (other_slot (active_slot store)) (configured s loads)
  pub offset : manifest_offset_of (with_gate_open store image) (other_slot (active_slot store)) ≡ manifest.offset
  pub length : manifest_length_of (with_gate_open store image) (other_slot (active_slot store)) ≡ manifest.length
  pub known : KnowsLoads (body_of store) loads

-- what the disk holds of an installation at this stage: where contents are coming, all that was given; where it is
-- sealed, all but the gate
abbrev pub HoldsAt : Store → Image → Stage → Type 0
HoldsAt store image Idle = Unit {0}
HoldsAt store image (Filling progress) = (g : Given) × HasGiven store image g
HoldsAt store image (Sealed manifest) = (s : StandingView) × (loads : List LoadView) × HoldsFor store image s × IsReady store image s loads

-- what the disk holds of an installation, as far as it is
abbrev pub HasWork : Store → Image → Type 0
HasWork store image = HoldsAt store image store.stage

-- The store fits the disk: the disk runs; it reads a configuration that is the store's, by the slot that the store keeps
-- as active, with the other slot's gate as the store keeps it; and it reads what was written of an installation.
pub record Fits (store : Store) (disk : DiskState) : Type 0 where
  pub running : IsRunning disk
  pub holds : ForSome disk.reads (λ image. (s : StandingView) × HoldsFor store image s)
  pub work : ForSome disk.reads (λ image. HasWork store image)

-- ---- what a power loss may leave

-- an offset that an installation writes: in the other bank, or, while the other slot is kept as shut, in its body
abbrev pub MayChange : Store → ℕ → Type 0
MayChange store offset =
    ((work_at store ≤ offset) × (offset < work_at store + store.size))
    ⊎ ((store.other_is_open ≡ false) × (other_slot (active_slot store) < offset) × (offset < other_slot (active_slot store) + 29))

-- two images differ only where an installation writes
abbrev pub SameButForWork : Store → Image → Image → Type 0
SameButForWork store one other = (offset : ℕ) → ¬ MayChange store offset → other offset ≡ one offset

-- an offset that an installation beside this configuration writes: in the other bank, or, where the gate of the other slot
-- is shut, in its body
abbrev pub IsWorkBeside : Image → (slot : ℕ) → StandingView → ℕ → Type 0
IsWorkBeside image slot s offset =
    ((bank_at s.identity.bank (other_bank s.bank) ≤ offset) × (offset < bank_at s.identity.bank (other_bank s.bank) + s.identity.bank))
    ⊎ (¬ IsOpen image (other_slot slot) × (other_slot slot < offset) × (offset < other_slot slot + 29))

-- A power loss may take nothing but work of an installation, as it is between runs: the disk tells its content and holds a
-- configuration, and each image that a power loss may leave differs from what is read only where an installation beside this
-- configuration writes.
pub record LosesOnlyWork (disk : DiskState) : Type 0 where
  pub image : Image
  pub told : disk.reads ≡ Some image
  pub slot : ℕ
  pub active : StandingView
  pub holds : HoldsBy image slot active
  pub near : (left : Image) → disk.now left → (offset : ℕ) → ¬ IsWorkBeside image slot active offset → left offset ≡ image offset

-- The premise of each promise on power losses, which each call keeps: the store fits the disk; what a power loss may
-- leave differs from what is read only where an installation writes; and while the store is sealed, nothing else may be
-- left than what is read.
pub record Works (store : Store) (disk : DiskState) : Type 0 where
  pub fits : Fits store disk
  pub near : ForSome disk.reads (λ image. (left : Image) → disk.now left → SameButForWork store image left)
  pub settled : IsSealed store → IsSettled disk

-- The store works on a disk that tells its content, and that holds this configuration.
pub record InstallsBeside (store : Store) (disk : DiskState) (s : StandingView) : Type 0 where
  pub works : Works store disk
  pub image : Image
  pub told : disk.reads ≡ Some image
  pub holds : HoldsFor store image s

-- And the gate is all that it lacks to hold the new configuration, of these loads.
pub record CanActivate (store : Store) (disk : DiskState) (s : StandingView) (loads : List LoadView) : Type 0 where
  pub beside : InstallsBeside store disk s
  pub ready : IsReady store beside.image s loads
