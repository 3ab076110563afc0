-- The bytes of a range, by their offsets.
use Rattle.std.proofs.Common.{◌≡◌, ℕ, ◌+◌, ◌-◌, ◌<◌, ◌≤◌, List, ◌++◌, length, take, drop, get_or, inl, inr, refl, sym, ◌∙◌, ap, arith, length-append, length-take, length-drop}
use Rattle.std.specs.Prelude.{min, replicate}
use Rattle.std.proofs.lemmas.List.{ext_get_or, get_or_append_left, get_or-append_right, get_or-take, get_or-drop, get_or_past, get_or-replicate, length-replicate}
use Rattle.std.proofs.lemmas.Bool.{cases_lt}
use Rattle.std.proofs.lemmas.List.FromFn.{length-map-range_with_len, get_or-map-range_with_len}
use Rattle.disk_model.specs.Image.{Image, image_of, range}

pub length_range : (image : Image) (at n : ℕ) → length (range image at n) ≡ n
unfolding range
length_range image at n = length-map-range_with_len image at n

pub byte_of_range : (image : Image) (at n k : ℕ) → k < n → get_or (range image at n) k 0 ≡ image (at + k)
unfolding range
byte_of_range image at n k within = get_or-map-range_with_len image at n k (at + k) 0 within refl

-- a list that has the image's byte at each offset is the range
pub range_from_offsets : (image : Image) (at n : ℕ) (bytes : List ℕ) → length bytes ≡ n → ((k : ℕ) → k < n → get_or bytes k 0 ≡ image (at + k)) → bytes ≡ range image at n
range_from_offsets image at n bytes size each =
    ext_get_or 0 bytes (range image at n) (size ∙ sym (length_range image at n))
    (λ k within. each k (omega (arith, size, within)) ∙ sym (byte_of_range image at n k (omega (arith, size, within))))

-- images with the same bytes in a range
pub same_range : (a b : Image) (at n : ℕ) → ((k : ℕ) → k < n → a (at + k) ≡ b (at + k)) → range a at n ≡ range b at n
same_range a b at n same =
    range_from_offsets b at n (range a at n) (length_range a at n) (λ k within. byte_of_range a at n k within ∙ same k within)

-- the prefix of a range
pub take_range : (image : Image) (at n m : ℕ) → m ≤ n → take m (range image at n) ≡ range image at m
take_range image at n m short =
    range_from_offsets image at m (take m (range image at n)) (omega (arith, length-take m (range image at n), length_range image at n, short))
    (λ k within. get_or-take m (range image at n) k 0 within ∙ byte_of_range image at n k (omega (arith, short, within)))

-- what stands after the prefix
pub drop_range : (image : Image) (at n m : ℕ) → drop m (range image at n) ≡ range image (at + m) (n - m)
drop_range image at n m =
    range_from_offsets image (at + m) (n - m) (drop m (range image at n)) (omega (arith, length-drop m (range image at n), length_range image at n))
    (λ k within. get_or-drop m (range image at n) k 0 ∙ byte_of_range image at n (m + k) (omega (arith, within)) ∙ ap image (omega arith))

-- bytes that are there, and zeros after them
pub held_range : (bytes : List ℕ) (at n begin count : ℕ) → begin ≡ min at (length bytes) → count ≡ min n (length bytes - begin)
    → take count (drop begin bytes) ++ replicate (n - count) 0 ≡ range (image_of bytes) at n
held_range bytes at n begin count begins is =
    let prefix : List ℕ = take count (drop begin bytes) in
    let behind : List ℕ = replicate (n - count) 0 in
    let size : length prefix ≡ count = omega (arith, length-take count (drop begin bytes), length-drop begin bytes, is) in
    let rest : length behind ≡ n - count = length-replicate {A = ℕ} (n - count) 0 in
    range_from_offsets (image_of bytes) at n (prefix ++ behind) (omega (arith, length-append prefix behind, size, rest, is))
    (λ k within. elim (cases_lt k count) [
      | inl held ↦
          let begun : begin ≡ at = omega (arith, begins, is, held) in
          get_or_append_left prefix behind 0 k (omega (arith, size, held)) ∙ get_or-take count (drop begin bytes) k 0 held ∙ get_or-drop begin bytes k 0
          ∙ ap (λ (m : ℕ). get_or bytes (m + k) 0) begun
      | inr past ↦
          get_or-append_right prefix behind count k 0 size past ∙ get_or-replicate (n - count) (k - count) 0 0 (omega (arith, within, past))
          ∙ sym (get_or_past bytes (at + k) 0 (omega (arith, begins, is, past, within)))
    ])
