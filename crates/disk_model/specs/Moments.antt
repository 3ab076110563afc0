-- What a power loss may leave over many calls (docs/DISK.md).
use Rattle.std.specs.Prelude.{ℕ}
use Rattle.disk_model.specs.Image.{Image}
use Rattle.disk_model.specs.State.{DiskState}

-- Each image that a power loss may leave now, or might have left at a moment since this value of the clock, has the property.
pub record LeavesOnly (since : ℕ) (P : Image → Type 0) (disk : DiskState) : Type 0 where
  pub each : (u : ℕ) (image : Image) → disk.between since u image → P image
  pub here : (image : Image) → disk.now image → P image
