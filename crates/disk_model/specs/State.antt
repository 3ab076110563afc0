-- What contracts see of a disk (docs/DISK.md).
use Rattle.std.specs.Prelude.{◌≡◌, ◌⊎◌, ℕ, ◌+◌, ◌<◌, ◌≤◌, Bool, true, Option, Some, None, Result, is_err, is_some, IsErrOf, OnOk}
use Rattle.load_base.specs.Counts.{Rose}
use Rattle.disk_model.specs.Image.{Image, SameOutside}
use Rattle.disk_model.specs.declared.disk.DiskFault.{DiskFault}
use Rattle.disk_model.specs.declared.disk.DiskFault.TheVariants.{Failed, Memory}

pub record DiskState : Type 1 where
  -- what a read gives, where the disk tells its content
  pub reads : Option Image
  -- the images that a power loss now may leave
  pub now : Image → Type 0
  -- those that a power loss at a moment from one value of the clock to another might have left, where a moment
  -- inside a call has the clock from before the call
  pub between : ℕ → ℕ → Image → Type 0
  -- a number that advances at each write, sync and restart, and at no read
  pub clock : ℕ
  -- how often it has failed, and how often it refused a call because it was out of memory
  pub faults : ℕ
  pub refusals : ℕ
  -- it takes no call until the next restart
  pub stopped : Bool
  -- a range that may hold anything after a power loss stays so until a sync that the caller asks for
  pub steady : Bool
  -- how often a power loss was armed, and the two numbers of the last arming
  pub armings : ℕ
  pub armed : ℕ × ℕ

-- a power loss now leaves what a read gives
pub record IsSettled (disk : DiskState) : Type 0 where
  pub only : (image : Image) → disk.now image → disk.reads ≡ Some image

-- this many offsets from this one on may hold anything after a power loss
pub record Closed (disk : DiskState) (at n : ℕ) : Type 0 where
  pub each : (old new : Image) → disk.now old → SameOutside at n old new → disk.now new

-- ranges of a steady disk that may hold anything still may
abbrev pub KeepsClosed : DiskState → DiskState → Type 0
KeepsClosed old new = old.steady ≡ true → (at n : ℕ) → Closed old at n → Closed new at n

-- what no call of a disk changes but an arming
pub record KeepsPower (old new : DiskState) : Type 0 where
  pub steady : new.steady ≡ old.steady
  pub armings : new.armings ≡ old.armings
  pub armed : new.armed ≡ old.armed

-- Nothing was written: the clock doesn't advance, no image came that wasn't there, and none that might have been left is
-- lost. No count falls, and the disk goes on telling its content, or not.
pub record OnlyReads (old new : DiskState) : Type 0 where
  pub tells : is_some new.reads ≡ is_some old.reads
  pub power : KeepsPower old new
  pub faults : old.faults ≤ new.faults
  pub refusals : old.refusals ≤ new.refusals
  pub clock : new.clock ≡ old.clock
  pub now : (image : Image) → new.now image → old.now image
  pub between : (t u : ℕ) (image : Image) → new.between t u image → old.between t u image
  pub keeps : (t u : ℕ) (image : Image) → old.between t u image → new.between t u image
  pub closed : KeepsClosed old new

-- this many bytes from an offset on may be anything, and the rest is that of an image that was there
pub record Torn (at n : ℕ) (images : Image → Type 0) (image : Image) : Type 0 where
  pub before : Image
  pub was : images before
  pub same : SameOutside at n before image

-- Time goes on over a call, inside which a power loss may leave these images. They come to those of the moments from
-- the call's start on, and are all that may come; what a power loss may leave after the call is among them. No count
-- falls, and the disk goes on telling its content, or not.
pub record Elapses {T : Type 0} (old new : DiskState) (inside : Image → Type 0) (result : Result T DiskFault) : Type 0 where
  pub tells : is_some new.reads ≡ is_some old.reads
  pub power : KeepsPower old new
  pub faults : old.faults ≤ new.faults
  pub refusals : old.refusals ≤ new.refusals
  pub later : old.clock ≤ new.clock
  pub goes_on : OnOk result (old.clock < new.clock)
  pub now : (image : Image) → new.now image → inside image
  pub keeps : (t u : ℕ) (image : Image) → old.between t u image → new.between t u image
  pub adds : (t u : ℕ) (image : Image) → new.between t u image → old.between t u image ⊎ inside image
  pub earlier : (t u : ℕ) (image : Image) → u < old.clock → new.between t u image → old.between t u image

-- no call was refused
pub record KeepsCounts (old new : DiskState) : Type 0 where
  pub faults : new.faults ≡ old.faults
  pub refusals : new.refusals ≡ old.refusals

-- Each refusal has its cause, and stops the disk. It raises its count by one, and nothing else raises a count.
pub record HasCause {T : Type 0} (old new : DiskState) (result : Result T DiskFault) : Type 0 where
  pub stops : new.stopped ≡ is_err result
  pub failed : IsErrOf result Failed → Rose old.faults new.faults
  pub memory : IsErrOf result Memory → Rose old.refusals new.refusals
  pub counts : OnOk result (KeepsCounts old new)
  pub one_fault : IsErrOf result Failed → (new.faults ≤ old.faults + 1) × (new.refusals ≡ old.refusals)
  pub one_refusal : IsErrOf result Memory → (new.refusals ≤ old.refusals + 1) × (new.faults ≡ old.faults)

-- a disk that tells nothing and names no image, and is never out of memory
abbrev pub untold : ℕ → ℕ → Bool → DiskState
untold clock faults stopped = record {
  reads = None;
  now = λ image. ⊥;
  between = λ t u image. ⊥;
  clock = clock;
  faults = faults;
  refusals = 0;
  stopped = stopped;
  steady = true;
  armings = 0;
  armed = (0, 0);
}

pub untold_reads : (image : Image) → ◌≡◌ {A = Option Image} None (Some image) → ⊥
untold_reads image told = cc
