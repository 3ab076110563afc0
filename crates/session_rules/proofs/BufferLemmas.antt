-- What is kept of a file goes on with the bytes that come.
use Rattle.std.proofs.Common.{◌≡◌, ℕ, ◌+◌, ◌-◌, ◌≤◌, min, List, ◌++◌, length, take, refl, sym, ap, ◌∙◌, append-nil, append_assoc, length-append, length-take, arith, inl, inr}
use Rattle.std.proofs.lemmas.List.{take-append-le, take_all}
use Rattle.std.proofs.lemmas.Bool.{cases_lt}
use Rattle.std.proofs.Math.Seq.{take-append-add}
use Rattle.crc_fields.specs.CheckSums.{crc16_of, crc16_after, crc32_of, crc32_after}
use Rattle.session_rules.specs.Buffers.{Sums, buffer_size, buffered, buffered_more, summed, summed_more}

-- The check sums of bytes go on with the bytes after them, which crc_fields promises of them (`check_sum_laws`).
pub record SumsJoin : Type 0 where
  pub crc16 : (first rest : List ℕ) → crc16_after (crc16_of first) rest ≡ crc16_of (first ++ rest)
  pub crc32 : (first rest : List ℕ) → crc32_after (crc32_of first) rest ≡ crc32_of (first ++ rest)

taken_within : (n : ℕ) (first rest : List ℕ) → n ≤ length first → take n (first ++ rest) ≡ take n first ++ take (n - length first) rest
taken_within n first rest within =
    let none : n - length first ≡ 0 = omega arith in
    take-append-le n first rest within ∙ rw none (sym (append-nil (take n first)))

taken_past : (n more : ℕ) (first rest : List ℕ) → n ≡ length first + more → take n (first ++ rest) ≡ take n first ++ take (n - length first) rest
taken_past n more first rest e =
    let whole : take n first ≡ first = take_all n first (omega arith) in
    let left : n - length first ≡ more = omega arith in
    rw (whole, left, e) (take-append-add first rest more)

pub taken : (n : ℕ) (first rest : List ℕ) → take n (first ++ rest) ≡ take n first ++ take (n - length first) rest
taken n first rest = elim (cases_lt (length first) n) [ inl lt ↦ taken_past n (n - length first) first rest (omega arith) | inr within ↦ taken_within n first rest within ]

left_same : (n : ℕ) (first : List ℕ) → n - length (take n first) ≡ n - length first
left_same n first = rw (length-take n first) (by_order n (length first))
  where
    by_order : (n m : ℕ) → n - min n m ≡ n - m
    by_order n m = omega arith

pub buffered_on : (first rest : List ℕ) → buffered_more (buffered first) rest ≡ buffered (first ++ rest)
buffered_on first rest = rw (taken buffer_size first rest, length-append first rest, left_same buffer_size first) refl

abbrev sums : ℕ → ℕ → ℕ → ℕ → Sums
sums said count crc16 load_crc = record { said = said; count = count; crc16 = crc16; load_crc = load_crc }

same_sums : (said a b : ℕ) → a ≡ b → (c d : ℕ) → c ≡ d → (e f : ℕ) → e ≡ f → sums said a c e ≡ sums said b d f
same_sums said a b p c d q e f r = rw (p, q, r) refl

-- after a load of which this was covered
pub summed_on : SumsJoin → (said : ℕ) (before first rest : List ℕ) → summed_more (summed said (crc32_of before) first) rest ≡ summed said (crc32_of before) (first ++ rest)
summed_on joins said before first rest =
    let more = take (said - length first) rest in
    let file : crc16_after (crc16_of (take said first)) more ≡ crc16_of (take said (first ++ rest)) = joins.crc16 (take said first) more ∙ ap crc16_of (sym (taken said first rest)) in
    let load : crc32_after (crc32_after (crc32_of before) (take said first)) more ≡ crc32_after (crc32_of before) (take said (first ++ rest)) =
    ap (λ (n : ℕ). crc32_after n more) (joins.crc32 before (take said first))
    ∙ (joins.crc32 (before ++ take said first) more
    ∙ (ap crc32_of (append_assoc before (take said first) more)
    ∙ (sym (joins.crc32 before (take said first ++ more)) ∙ ap (λ (bytes : List ℕ). crc32_after (crc32_of before) bytes) (sym (taken said first rest))))) in
    same_sums said _ _ (sym (length-append first rest)) _ _ file _ _ load
