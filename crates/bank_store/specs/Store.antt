-- What a store keeps of the disk that it installs on (docs/DISK.md).
use Rattle.std.specs.Prelude.{◌≡◌, ℕ, ◌+◌, ◌-◌, ◌<◌, ◌≤◌, Bool, true, if◌then◌else◌, List, [], ◌∷◌, ◌++◌, length, take, drop}
use Rattle.load_base.specs.Host.{longest_file}
use Rattle.field_grammar.specs.Fields.{number_bytes}
use Rattle.disk_model.specs.Image.{Image, overlay}
use Rattle.disk_layout.specs.Offsets.{bank_at, layout_mark, longest_manifest, most_loads}
use Rattle.disk_layout.specs.Entries.{SaysLoads}
use Rattle.disk_layout.specs.Manifest.{LoadEntry, entries_length, total_length}
use Rattle.disk_layout.specs.declared.entries.LoadPlace.{LoadPlace}
use Rattle.disk_layout.specs.Slots.{slot_offset, other_slot, bank_number, other_bank, slot_body_bytes}
use Rattle.disk_layout.specs.declared.active.Active.{Active}
use Rattle.disk_layout.specs.declared.active.ManifestRange.{ManifestRange}
use Rattle.bank_store.specs.Bounds.{HasCapacity}
use Rattle.bank_store.specs.declared.store.Store.{Store}
use Rattle.bank_store.specs.declared.stage.Stage.{Stage}
use Rattle.bank_store.specs.declared.stage.Stage.TheVariants as stages
use Rattle.bank_store.specs.declared.stage.Filling.{Filling}

-- the bank size, and what is active
abbrev pub bank_size_of : Store → ℕ
bank_size_of store = store.size

abbrev pub active_of : Store → Active
active_of store = store.active

-- where the active slot begins, the number of its bank, and its sequence number
abbrev pub active_slot : Store → ℕ
active_slot store = slot_offset store.active.slot

abbrev pub active_bank : Store → ℕ
active_bank store = bank_number store.active.bank

abbrev pub active_sequence : Store → ℕ
active_sequence store = store.active.sequence

-- what the active manifest says of its loads, where it says their type ids
abbrev pub known_of : Store → List ℕ
known_of store = store.known.items

-- what the manifest says that is being made, after its first four bytes
abbrev pub body_of : Store → List ℕ
body_of store = store.body.items

-- whether the other slot is open
abbrev pub is_other_open : Store → Bool
is_other_open store = store.other_is_open

-- how far an installation is
abbrev pub stage_of : Store → Stage
stage_of store = store.stage

-- where the active bank begins, and the other
abbrev pub active_at : Store → ℕ
active_at store = bank_at store.size (active_bank store)

abbrev pub work_at : Store → ℕ
work_at store = bank_at store.size (other_bank (active_bank store))

-- no installation has begun, or it has ended
abbrev pub IsIdle : Store → Type 0
IsIdle store = store.stage ≡ stages.Idle

-- an installation has begun whose contents are coming
abbrev pub IsFilling : Store → Filling → Type 0
IsFilling store progress = store.stage ≡ stages.Filling progress

-- all of an installation is written but the gate, with its manifest at this range of the other bank
abbrev pub IsSealedAt : Store → ManifestRange → Type 0
IsSealedAt store manifest = store.stage ≡ stages.Sealed manifest

abbrev pub IsSealed : Store → Type 0
IsSealed store = (manifest : ManifestRange) × IsSealedAt store manifest

-- no installation has begun, and there is spare capacity for the longest manifest, and for the next one
pub record IsPrepared (store : Store) : Type 0 where
  pub idle : IsIdle store
  pub spare : longest_manifest ≤ store.body.spare
  pub known : HasCapacity store.known

-- the same is active, on banks of the same size
pub record SameActive (old new : Store) : Type 0 where
  pub size : new.size ≡ old.size
  pub active : new.active ≡ old.active
  pub known : known_of new ≡ known_of old

-- the other slot is active, with the other bank, the next sequence number and the manifest that was sealed, and no
-- installation is begun
pub record Switches (old new : Store) : Type 0 where
  pub size : new.size ≡ old.size
  pub slot : active_slot new ≡ other_slot (active_slot old)
  pub bank : active_bank new ≡ other_bank (active_bank old)
  pub sequence : active_sequence new ≡ active_sequence old + 1
  pub manifest : IsSealedAt old new.active.manifest
  pub known : known_of new ≡ body_of old
  pub opened : new.other_is_open ≡ true
  pub idle : IsIdle new

-- an installation has begun, and nothing is given yet
abbrev pub nothing_filled : Filling
nothing_filled = record { loads = 0; missing = 0; end = 0; start = 0 }

-- the loads that were announced have all their files
abbrev pub IsBetweenLoads : Store → Type 0
IsBetweenLoads store = (progress : Filling) × IsFilling store progress × (progress.missing ≡ 0)

-- and there may be one load more
abbrev pub AwaitsLoad : Store → Type 0
AwaitsLoad store = (progress : Filling) × IsFilling store progress × (progress.loads < most_loads) × (progress.missing ≡ 0)

-- a file of the last load is still to end
abbrev pub AwaitsFile : Store → Type 0
AwaitsFile store = (progress : Filling) × IsFilling store progress × (1 ≤ progress.missing)

-- a file of the last load is still to end, and what came of it isn't too long
abbrev pub AwaitsEnd : Store → Type 0
AwaitsEnd store = (progress : Filling) × IsFilling store progress × (1 ≤ progress.missing) × (progress.end ≤ progress.start + longest_file)

-- with n bytes after the contents the other bank would need this many bytes, more than it has
abbrev pub PassesBank : Store → (n need have : ℕ) → Type 0
PassesBank store n need have =
    (progress : Filling) × IsFilling store progress × (need ≡ progress.end + n) × (have ≡ store.size) × (have < need)

-- the active configuration has a load of this number, counted from 1, with a type id, and its files lie in the bank
pub record IsKeptLoad (store : Store) (load : ℕ) : Type 0 where
  pub before : List LoadEntry
  pub kept : LoadEntry
  pub behind : List LoadEntry
  pub says : SaysLoads (known_of store) (before ++ kept ∷ behind)
  pub is_at : length before + 1 ≡ load
  pub within : total_length before + entries_length kept.files ≤ store.size

-- what the active manifest says of the load at this place
abbrev pub knows_entry : Store → LoadPlace → List ℕ
knows_entry store place = take place.entry_length (drop place.entry (known_of store))

-- with its files after the contents the other bank would need this many bytes, more than it has
abbrev pub PassesByKept : Store → (load need have : ℕ) → Type 0
PassesByKept store load need have = (is : IsKeptLoad store load) × PassesBank store (entries_length is.kept.files) need have

-- the active configuration has the last sequence number
abbrev pub IsSpent : Store → Type 0
IsSpent store = (active_sequence store) ≡ 4294967295

-- a load more was announced, of this many files
abbrev pub load_announced : ℕ → Filling → Filling
load_announced files progress = record { loads = progress.loads + 1; missing = files; end = progress.end; start = progress.start }

-- this many bytes more stand in the bank
abbrev pub bytes_appended : ℕ → Filling → Filling
bytes_appended n progress = record { loads = progress.loads; missing = progress.missing; end = progress.end + n; start = progress.start }

-- a load stands in the bank that is kept, whose files have this many bytes
abbrev pub load_kept : ℕ → Filling → Filling
load_kept n progress = record { loads = progress.loads + 1; missing = progress.missing; end = progress.end + n; start = progress.end + n }

-- the file in progress has ended
abbrev pub file_ended : Filling → Filling
file_ended progress = record { loads = progress.loads; missing = progress.missing - 1; end = progress.end; start = progress.end }

-- how many more bytes of a manifest surely take no memory
abbrev pub spare_of : Store → ℕ
spare_of store = store.body.spare

-- how many bytes the manifest has of what was given so far
abbrev pub manifest_length : Store → ℕ
manifest_length store = length store.body.items + 4

-- what the other slot says after its gate, from offset 16 on, once the manifest stands there with this many bytes: the next
-- sequence number, the other bank, and the manifest's offset and length
abbrev pub slot_body : Store → (offset length : ℕ) → List ℕ
slot_body store offset size =
    slot_body_bytes (active_sequence store + 1) (other_bank (active_bank store)) (record { offset = offset; length = size })

-- the image with 0 in the other slot's gate, where that is open
abbrev pub with_gate_shut : Store → Image → Image
with_gate_shut store image = if store.other_is_open then overlay image (other_slot (active_slot store)) (0 ∷ []) else image

-- the image with a piece of the contents after those that came
abbrev pub with_piece : Store → Filling → List ℕ → Image → Image
with_piece store progress bytes image = overlay image (work_at store + progress.end) bytes

-- how a manifest begins that is written, which has layout 2: its mark, and the number of the loads
abbrev pub head_bytes : (loads : ℕ) → List ℕ
head_bytes loads = number_bytes 2 layout_mark ++ number_bytes 2 loads

-- the image with the manifest after the contents
abbrev pub with_manifest : Store → Filling → Image → Image
with_manifest store progress image = overlay (overlay image (work_at store + progress.end) (head_bytes progress.loads)) (work_at store + progress.end + 4) store.body.items

-- the image with the other slot's body
abbrev pub with_slot : Store → (offset length : ℕ) → Image → Image
with_slot store offset size image = overlay image (other_slot (active_slot store) + 16) (slot_body store offset size)

-- the image with the other slot's gate open
abbrev pub with_gate_open : Store → Image → Image
with_gate_open store image = overlay image (other_slot (active_slot store)) (0xA5 ∷ [])
