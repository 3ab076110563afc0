-- Numbers and bytes of a range that was read.
use Rattle.std.proofs.Common.{◌≡◌, ℕ, ◌+◌, ◌-◌, ◌<◌, ◌≤◌, List, take, drop, get_or, ap, ◌∙◌, arith}
use Rattle.byteorder.specs.Endian.{big_number}
use Rattle.disk_model.specs.Image.{Image, range}
use Rattle.disk_model.proofs.RangeLemmas.{byte_of_range, take_range, drop_range}
use Rattle.disk_layout.specs.Offsets.{number_at}

-- the number in this many bytes of what was read, and in the image
pub number_read : (bytes : List ℕ) (image : Image) (at n k size : ℕ) → bytes ≡ range image at n → k + size ≤ n
    → big_number size (take size (drop k bytes)) ≡ number_at size image (at + k)
unfolding number_at
number_read bytes image at n k size is within =
    ap (λ (l : List ℕ). big_number size (take size (drop k l))) is
    ∙ ap (λ (l : List ℕ). big_number size (take size l)) (drop_range image at n k)
    ∙ ap (λ (l : List ℕ). big_number size l) (take_range image (at + k) (n - k) size (omega (arith, within)))

-- the byte of what was read, and of the image
pub byte_read : (bytes : List ℕ) (image : Image) (at n k : ℕ) → bytes ≡ range image at n → k < n → get_or bytes k 0 ≡ image (at + k)
byte_read bytes image at n k is within = ap (λ (l : List ℕ). get_or l k 0) is ∙ byte_of_range image at n k within

-- the number in all bytes of what was read, and in the image
pub prefix_number_read : (bytes : List ℕ) (image : Image) (at n : ℕ) → bytes ≡ range image at n → big_number n bytes ≡ number_at n image at
unfolding number_at
prefix_number_read bytes image at n is = ap (λ (l : List ℕ). big_number n l) is
