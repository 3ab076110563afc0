-- What a disk may hold (docs/DISK.md).
use Rattle.std.specs.Prelude.{◌≡◌, ◌⊎◌, ℕ, ◌+◌, ◌-◌, ◌<◌, ◌≤◌, List, length, map, slice_index, nat_le, nat_lt, ◌&&◌, if◌then◌else◌}
use Rattle.std.specs.List.{range_with_len}

-- the byte at each offset, from offset 0 on
abbrev pub Image : Type 0
Image = ℕ → ℕ

-- these bytes from offset 0 on, and zeros after them
abbrev pub image_of : List ℕ → Image
image_of bytes offset = slice_index bytes offset

-- this many bytes from an offset on
unfoldable pub range : Image → ℕ → ℕ → List ℕ
range image at n = map image (range_with_len at n)

-- the image with these bytes written from an offset on
unfoldable pub overlay : Image → ℕ → List ℕ → Image
overlay image at bytes offset = if nat_le at offset && nat_lt offset (at + length bytes) then slice_index bytes (offset - at) else image offset

-- two images have the same bytes, but perhaps for this many from an offset on
abbrev pub SameOutside : ℕ → ℕ → Image → Image → Type 0
SameOutside at n old new = (offset : ℕ) → (offset < at) ⊎ (at + n ≤ offset) → new offset ≡ old offset

-- each of its offsets has a byte
abbrev pub IsOfBytes : Image → Type 0
IsOfBytes image = (offset : ℕ) → image offset < 256
