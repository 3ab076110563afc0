-- What the calls of a record do (docs/DISK.md).
use Rattle.std.specs.Prelude.{ℕ, Bool, true, false, List, [], ◌∷◌, length}
use Rattle.disk_model.specs.Image.{Image, overlay}
use Rattle.disk_model.specs.declared.note.Call.{Call}
use Rattle.disk_model.specs.declared.note.Call.TheVariants.{Write, Sync, Restart}
use Rattle.disk_model.specs.declared.note.Note.{Note}

-- where a call writes
abbrev pub offset_of : Call → ℕ
offset_of (Write at bytes) = at
offset_of Sync = 0
offset_of Restart = 0

-- how many bytes
abbrev pub written_length : Call → ℕ
written_length (Write at bytes) = length bytes.items
written_length Sync = 0
written_length Restart = 0

-- what a read gives after a call that was done, or was not, by what it gave before
abbrev pub laid : Call → Bool → Image → Image
laid (Write at bytes) true image = overlay image at bytes.items
laid (Write at bytes) false image = image
laid Sync done image = image
laid Restart done image = image

-- the ranges that may hold anything, each an offset and a length, after a call, by those before
abbrev pub opened : Call → Bool → List (ℕ × ℕ) → List (ℕ × ℕ)
opened (Write at bytes) done ranges = (at, length bytes.items) ∷ ranges
opened Sync true ranges = []
opened Sync false ranges = ranges
opened Restart true ranges = []
opened Restart false ranges = ranges

abbrev pub image_after : Image → Note → Image
image_after image note = laid note.call note.done image

abbrev pub ranges_after : List (ℕ × ℕ) → Note → List (ℕ × ℕ)
ranges_after ranges note = opened note.call note.done ranges
