-- What each store keeps to (docs/DISK.md).
use Rattle.std.specs.Prelude.{◌≡◌, ◌≢◌, ℕ, ◌+◌, ◌*◌, ◌<◌, ◌≤◌, Bool, false, [], length, Result, IfErr}
use Rattle.load_base.specs.Listed.{Listed}
use Rattle.disk_model.specs.declared.disk.DiskFault.{DiskFault}
use Rattle.disk_layout.specs.Offsets.{IsBankSize, most_loads, most_files, longest_manifest}
use Rattle.disk_layout.specs.Slots.{IsManifestRange}
use Rattle.disk_layout.specs.declared.active.Active.{Active}
use Rattle.disk_layout.specs.declared.active.ManifestRange.{ManifestRange}
use Rattle.bank_store.specs.declared.stage.Stage.{Stage}
use Rattle.bank_store.specs.declared.stage.Stage.TheVariants as stages
use Rattle.bank_store.specs.declared.stage.Filling.{Filling}

-- the most bytes that a load takes in a manifest: its part number, its type id, the number of its files, and for each its
-- name and its length
abbrev pub longest_load : ℕ
longest_load = 17683

-- the most bytes that a bank may have; with it each range of a bank lies on the disk, whatever the size of the store's own is
abbrev pub largest_bank : ℕ
largest_bank = 67108864

-- The bank has room for the bytes that came, and what its manifest may take is enough for the files that are still to
-- come of the last load. Where none is, no file is in progress.
pub record IsFillingInRange (size : ℕ) (body : Listed ℕ) (progress : Filling) : Type 0 where
  pub few : progress.loads ≤ most_loads
  pub missing : progress.missing ≤ most_files
  pub taken : length body.items + 69 * progress.missing ≤ longest_load * progress.loads
  pub start : progress.start ≤ progress.end
  pub end : progress.end ≤ size
  pub whole : progress.missing ≡ 0 → progress.start ≡ progress.end

-- these bytes can become those of a longest manifest without memory
abbrev pub HasCapacity : Listed ℕ → Type 0
HasCapacity bytes = longest_manifest ≤ bytes.spare + length bytes.items

-- the bytes keep capacity for those of a longest manifest, and where a read is refused none of them is kept
pub record KeepsCapacity {T : Type 0} (bytes : Listed ℕ) (result : Result T DiskFault) : Type 0 where
  pub capacity : HasCapacity bytes
  pub refused : IfErr result (λ fault. bytes.items ≡ [])

-- a begun installation has shut the other gate, can count on, and has capacity for its manifest, and for the next one
pub record InstallationHasBegun (sequence : ℕ) (known : Listed ℕ) (other_is_open : Bool) (body : Listed ℕ) : Type 0 where
  pub shut : other_is_open ≡ false
  pub goes_on : sequence < 4294967295
  pub spare : HasCapacity body
  pub known_spare : HasCapacity known

pub record IsStore (size : ℕ) (active : Active) (known : Listed ℕ) (other_is_open : Bool) (body : Listed ℕ) (stage : Stage) : Type 0 where
  pub is_size : IsBankSize size
  pub manifest : IsManifestRange largest_bank active.manifest
  pub idle : stage ≡ stages.Idle → body.items ≡ []
  pub begun : stage ≢ stages.Idle → InstallationHasBegun active.sequence known other_is_open body
  pub in_range : (progress : Filling) → stage ≡ stages.Filling progress → IsFillingInRange size body progress
  pub sealed : (manifest : ManifestRange) → stage ≡ stages.Sealed manifest → IsManifestRange largest_bank manifest
