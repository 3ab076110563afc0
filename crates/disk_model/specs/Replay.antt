-- A disk by what it held at first and the record of its calls since (docs/DISK.md).
use Rattle.std.specs.Prelude.{◌≡◌, ◌⊎◌, ℕ, ◌+◌, ◌<◌, ◌≤◌, Bool, true, List, [], ◌∷◌, ◌++◌, length, take, drop, fold, Some}
use Rattle.disk_model.specs.Image.{Image, image_of}
use Rattle.disk_model.specs.State.{DiskState, Torn}
use Rattle.disk_model.specs.Note.{offset_of, written_length, image_after, ranges_after}
use Rattle.load_base.specs.Listed.{Listed}
use Rattle.disk_model.specs.declared.note.Call.{Call}
use Rattle.disk_model.specs.declared.note.Call.TheVariants.{Write, Sync, Restart}
use Rattle.disk_model.specs.declared.note.Note.{Note}

-- what a read gives after these calls
unfoldable pub replayed : List ℕ → List Note → Image
replayed first notes = fold image_after (image_of first) notes

-- the ranges that were written since the last sync or restart that was done
unfoldable pub open_ranges : List Note → List (ℕ × ℕ)
open_ranges notes = fold ranges_after [] notes

-- outside each of these ranges
abbrev pub OutsideAll : List (ℕ × ℕ) → ℕ → Type 0
OutsideAll [] offset = Unit {0}
OutsideAll (range ∷ ranges) offset = ((offset < range.0) ⊎ (range.0 + range.1 ≤ offset)) × OutsideAll ranges offset

-- An image that a power loss may leave after these calls: what a read gives, but for the ranges that were written since
-- the last sync or restart, which may hold anything.
pub record MayLeave (first : List ℕ) (notes : List Note) (image : Image) : Type 0 where
  pub agrees : (offset : ℕ) → OutsideAll (open_ranges notes) offset → image offset ≡ replayed first notes offset

-- What a power loss may leave until the next of these calls has ended: where it writes, anything.
abbrev pub UntilNext : List Note → (Image → Type 0) → Image → Type 0
UntilNext [] images = images
UntilNext (next ∷ later) images = Torn (offset_of next.call) (written_length next.call) images

-- what a power loss might have left after this many calls, of those from one number to another, or inside the next
pub record MightHaveLeft (first : List ℕ) (notes : List Note) (from to : ℕ) (image : Image) : Type 0 where
  pub calls : ℕ
  pub not_before : from ≤ calls
  pub not_after : calls ≤ to
  pub made : calls ≤ length notes
  pub left : UntilNext (drop calls notes) (MayLeave first (take calls notes)) image

-- The disk that has this record and holds these bytes. Its clock counts the calls of the record.
abbrev pub recorded : List ℕ → List Note → List ℕ → ℕ → ℕ → Bool → DiskState
recorded first notes held faults refusals stopped = record {
  reads = Some (image_of held);
  now = MayLeave first notes;
  between = MightHaveLeft first notes;
  clock = length notes;
  faults = faults;
  refusals = refusals;
  stopped = stopped;
  steady = true;
  armings = 0;
  armed = (0, 0);
}

-- a record has one note more, of these bytes
pub record AddsWrite (old new : List Note) (at : ℕ) (bytes : List ℕ) (done : Bool) : Type 0 where
  pub copy : Listed ℕ
  pub copied : copy.items ≡ bytes
  pub notes : new ≡ old ++ record { call = Write at copy; done = done } ∷ []

-- a call that writes nothing, and closes each range where it is done
abbrev pub IsSettling : Call → Type 0
IsSettling (Write at bytes) = ⊥
IsSettling Sync = Unit {0}
IsSettling Restart = Unit {0}
