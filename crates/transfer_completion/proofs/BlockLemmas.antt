-- The lengths of a file's blocks, and tests on numbers.
use Rattle.std.proofs.Common.{◌≡◌, ℕ, ◌+◌, ◌-◌, ◌*◌, ◌/◌, ◌%◌, ◌<◌, ◌≤◌, min, true, false, List, [], ◌++◌, length, take, drop, refl, sym, ap, ◌∙◌, arith, length-take, length-drop}
use Rattle.std.specs.Prelude.{◌==◌, nat_lt}
use Rattle.std.proofs.Math.Nat.{div-le_self, mul_comm, mul-le-mul_left}
use Rattle.std.proofs.Math.Seq.{take-append-add}
use Rattle.std.proofs.lemmas.List.{take-append-drop, take_all}
use Rattle.std.proofs.lemmas.Bool.Decides.{nat_tests}
use Rattle.tftp_link.specs.Negotiation.{block_count}
use Rattle.tftp_link.specs.Blocks.{block_of}

pub lt_true : (a b : ℕ) → a < b → nat_lt a b ≡ true
lt_true a b h = grind (arith, nat_tests)

pub lt_false : (a b : ℕ) → b ≤ a → nat_lt a b ≡ false
lt_false a b h = grind (arith, nat_tests)

pub eq_true : (a b : ℕ) → a ≡ b → (a == b) ≡ true
eq_true a b h = grind (arith, nat_tests)

pub eq_false : (a b : ℕ) → (a ≡ b → ⊥) → (a == b) ≡ false
eq_false a b h = grind (arith, nat_tests)

divided : (n size : ℕ) → 1 ≤ size → size * (n / size) + n % size ≡ n
divided n size some = omega arith

rest_small : (n size : ℕ) → 1 ≤ size → n % size < size
rest_small n size some = omega arith

times_le : (b q size : ℕ) → b ≤ q → b * size ≤ size * q
times_le b q size le = rw (mul_comm b size) (mul-le-mul_left size le)

-- all blocks but the last are full
block_length : (file : List ℕ) (size b : ℕ) → length (block_of file size (b + 1)) ≡ min size (length file - b * size)
block_length file size b =
    let e : b + 1 - 1 ≡ b = omega arith in
    rw (e, length-take size (drop (b * size) file), length-drop (b * size) file) refl

full_by : (size left : ℕ) → size ≤ left → min size left ≡ size
full_by size left h = omega arith

short_by : (size left : ℕ) → left < size → min size left < size
short_by size left h = omega arith

more_left : (b size n : ℕ) → (b + 1) * size ≤ n → size ≤ n - b * size
more_left b size n h =
    omega arith

pub full_block : (file : List ℕ) (size b : ℕ) → 1 ≤ size → b + 1 < block_count (length file) size → length (block_of file size (b + 1)) ≡ size
full_block file size b some more =
    let le : (b + 1) * size ≤ size * (length file / size) = times_le (b + 1) (length file / size) size (omega arith) in
    let d = divided (length file) size some in
    block_length file size b ∙ full_by size (length file - b * size) (more_left b size (length file) (omega arith))

pub short_block : (file : List ℕ) (size b : ℕ) → 1 ≤ size → b + 1 ≡ block_count (length file) size → length (block_of file size (b + 1)) < size
short_block file size b some last =
    let e : b ≡ length file / size = omega arith in
    let d = divided (length file) size some in
    let r = rest_small (length file) size some in
    let m : b * size ≡ size * (length file / size) = ap (λ (x : ℕ). x * size) e ∙ mul_comm (length file / size) size in
    rw (block_length file size b) (short_by size (length file - b * size) (omega arith))

-- ---- what was taken so far

before_last : (file : List ℕ) (size k : ℕ) → 1 ≤ size → k < block_count (length file) size → k * size ≤ length file
before_last file size k some more =
    let le : k * size ≤ size * (length file / size) = times_le k (length file / size) size (omega arith) in
    let d = divided (length file) size some in
    omega arith

next_end : (k size : ℕ) → (k + 1) * size ≡ k * size + size
next_end k size = grind arith

-- a block more
pub take_block : (file : List ℕ) (size k : ℕ) → 1 ≤ size → k < block_count (length file) size → take ((k + 1) * size) file ≡ take (k * size) file ++ block_of file size (k + 1)
take_block file size k some more =
    let within = before_last file size k some more in
    let same : k + 1 - 1 ≡ k = omega arith in
    let whole : length (take (k * size) file) ≡ k * size = length-take (k * size) file ∙ smaller (k * size) (length file) within in
    rw (same, next_end k size)
    (ap (λ (xs : List ℕ). take (k * size + size) xs) (sym (take-append-drop (k * size) file))
    ∙ ap (λ (n : ℕ). take (n + size) (take (k * size) file ++ drop (k * size) file)) (sym whole)
    ∙ take-append-add (take (k * size) file) (drop (k * size) file) size)
  where
    smaller : (n m : ℕ) → n ≤ m → min n m ≡ n
    smaller n m le = omega arith

pub take_none : (file : List ℕ) (size : ℕ) → take (0 * size) file ≡ []
take_none file size = ap (λ (n : ℕ). take n file) (none size)
  where
    none : (n : ℕ) → 0 * n ≡ 0
    none n = omega arith

-- all blocks are the file
pub take_whole : (file : List ℕ) (size k : ℕ) → 1 ≤ size → k ≡ block_count (length file) size → take (k * size) file ≡ file
take_whole file size k some last =
    let d = divided (length file) size some in
    let r = rest_small (length file) size some in
    let m : k * size ≡ size * (length file / size) + size = ap (λ (x : ℕ). x * size) last ∙ (next_end (length file / size) size ∙ ap (λ (x : ℕ). x + size) (mul_comm (length file / size) size)) in
    take_all (k * size) file (omega arith)

pub count_small : (n size : ℕ) → block_count n size ≤ n + 1
count_small n size = let h = div-le_self n size in omega arith

-- a file that fits its blocks of 512 bytes is short enough for `tsize`
pub length_small : (n : ℕ) → block_count n 512 ≤ 65535 → n ≤ 4294967295
length_small n few = omega arith

pub block_small : (file : List ℕ) (size k : ℕ) → length (block_of file size k) ≤ size
block_small file size k = rw (length-take size (drop ((k - 1) * size) file)) (at_most size (length (drop ((k - 1) * size) file)))
  where
    at_most : (a b : ℕ) → min a b ≤ a
    at_most a b = omega arith
