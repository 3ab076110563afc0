-- What arming a power loss does to a disk (docs/DISK.md).
use Rattle.std.specs.Prelude.{◌≡◌, ℕ, ◌+◌, ◌-◌, ◌^◌, ◌<◌, min, true}
use Rattle.disk_model.specs.Image.{Image}
use Rattle.disk_model.specs.State.{DiskState}

-- a count that is kept in 64 bits, once more
abbrev pub next_count : ℕ → ℕ
next_count n = min (n + 1) (2 ^ 64 - 1)

-- A power loss is armed, this many calls ahead. The count of armings rises by one, and the disk is stopped exactly for no calls.
-- All else stays: what is read, what a power loss may leave, the clock and both counts of refusals.
pub record Arms (calls pick : ℕ) (old new : DiskState) : Type 0 where
  pub rises : new.armings ≡ next_count old.armings
  pub armed : new.armed ≡ (calls, pick)
  pub at_once : calls ≡ 0 → new.stopped ≡ true
  pub not_yet : 0 < calls → new.stopped ≡ old.stopped
  pub reads : new.reads ≡ old.reads
  pub now : (image : Image) → new.now image → old.now image
  pub keeps_now : (image : Image) → old.now image → new.now image
  pub between : (t u : ℕ) (image : Image) → new.between t u image → old.between t u image
  pub keeps : (t u : ℕ) (image : Image) → old.between t u image → new.between t u image
  pub clock : new.clock ≡ old.clock
  pub faults : new.faults ≡ old.faults
  pub refusals : new.refusals ≡ old.refusals
  pub steady : new.steady ≡ old.steady
