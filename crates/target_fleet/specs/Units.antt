-- The units of a fleet, each with its disk (docs/EXCHANGE.md, "Fleets"). A unit's index is one less than its number.
use Rattle.std.specs.Prelude.{◌≡◌, ◌≢◌, ℕ, List, length, slice_get, slice_set, Some}
use Rattle.disk_model.specs.State.{DiskState, OnlyReads}

-- ---- lists

-- what stands at this index was set, and nothing else changed
pub record ChangesAt {X : Type 0} (index : ℕ) (before after : X) (old new : List X) : Type 0 where
  pub there : slice_get old index ≡ Some before
  pub kept : new ≡ slice_set old index after

-- it holds of each disk
abbrev pub AllDisks : {K : Type 0} → (P : K → Type 0) → List K → Type 0
AllDisks {K} P disks = (i : ℕ) (k : K) → slice_get disks i ≡ Some k → P k

-- it holds of each unit, with its disk
abbrev pub AllUnits : {D K : Type 0} → (P : (index : ℕ) → D → K → Type 0) → List D → List K → Type 0
AllUnits {D} {K} P drivers disks = (i : ℕ) (d : D) (k : K) → slice_get drivers i ≡ Some d → slice_get disks i ≡ Some k → P i d k

-- it holds of each disk as it was and as it is
abbrev pub AllBetween : {K : Type 0} → (P : (index : ℕ) → K → K → Type 0) → (old new : List K) → Type 0
AllBetween {K} P old new = (i : ℕ) (before after : K) → slice_get old i ≡ Some before → slice_get new i ≡ Some after → P i before after

-- ---- disks

-- nothing was written to any disk
abbrev pub AllOnlyRead : {K : Type 0} → (state : K → DiskState) → (old new : List K) → Type 0
AllOnlyRead state old new = AllBetween (λ i before after. OnlyReads (state before) (state after)) old new

-- the disk of this index was only read, and the others are as they were
pub record ReadsUnitDisk {K : Type 0} (state : K → DiskState) (index : ℕ) (old new : List K) : Type 0 where
  pub same : length new ≡ length old
  pub others : (i : ℕ) → i ≢ index → slice_get new i ≡ slice_get old i
  pub reads : AllOnlyRead state old new
