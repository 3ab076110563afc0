-- Where a disk has what (docs/DISK.md).
use Rattle.std.specs.Prelude.{ℕ, ◌+◌, ◌*◌, ◌≤◌, nat_le, Bool, ◌&&◌}
use Rattle.byteorder.specs.Endian.{big_number}
use Rattle.disk_model.specs.Image.{Image, range}

-- the most bytes that an identity has
abbrev pub longest_identity : ℕ
longest_identity = 75

-- where slot A and slot B begin
abbrev pub slot_a : ℕ
slot_a = 4096

abbrev pub slot_b : ℕ
slot_b = 4608

-- where a bank of this size begins
abbrev pub bank_at : (size bank : ℕ) → ℕ
bank_at size bank = 8192 + size * bank

-- the bytes that a bank may have
abbrev pub is_bank_size : ℕ → Bool
is_bank_size size = nat_le 4096 size && nat_le size 67108864

abbrev pub IsBankSize : ℕ → Type 0
IsBankSize size = (4096 ≤ size) × (size ≤ 67108864)

-- the most bytes that a manifest may have: 32 loads of 256 files with names of 64 bytes, in layout 2
abbrev pub longest_manifest : ℕ
longest_manifest = 565860

-- the mark with which a manifest of layout 2 begins, in two bytes
abbrev pub layout_mark : ℕ
layout_mark = 0xA002

-- the most loads of a manifest, and the most files of a load
abbrev pub most_loads : ℕ
most_loads = 32

abbrev pub most_files : ℕ
most_files = 256

-- the number in this many bytes from an offset on, the highest first
unfoldable pub number_at : ℕ → Image → ℕ → ℕ
number_at bytes image offset = big_number bytes (range image offset bytes)
