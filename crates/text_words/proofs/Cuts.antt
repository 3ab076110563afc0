-- How bytes are cut at a separator.
use Rattle.std.proofs.Common.{◌≡◌, ℕ, suc, ◌+◌, ◌-◌, ◌≤◌, ◌==◌, count_by, Bool, true, false, not, cond, nat_lt, List, [], ◌∷◌, length, take, drop, Some, None, refl, subst, arith}
use Rattle.std.specs.List.{position, position_or_len, slice_split, onto_first}
use Rattle.std.proofs.lemmas.List.Splits.{slice_split_first, length-slice_split}
use Rattle.std.proofs.lemmas.Bool.{ltb-true, ltb-false}
use Rattle.std.proofs.lemmas.Grind.{common_steps}

module _ (p : ℕ → Bool) where
  uncut : (xs : List ℕ) → length xs ≤ position_or_len p xs → slice_split p xs ≡ xs ∷ []
  uncut [] h = refl
  uncut (x ∷ xs) h = by (p x) h (uncut xs)
    where
      by : (b : Bool) → suc (length xs) ≤ cond (not b) (1 + position_or_len p xs) 0 → (length xs ≤ position_or_len p xs → slice_split p xs ≡ xs ∷ [])
          → cond b ([] ∷ slice_split p xs) (onto_first x (slice_split p xs)) ≡ (x ∷ xs) ∷ []
      by true h rest = absurd (omega arith)
      by false h rest = rw (rest (omega arith)) refl

  -- without a separator there is one piece
  pub cut_none : (xs : List ℕ) → position p xs ≡ None → slice_split p xs ≡ xs ∷ []
  cut_none xs e = by (nat_lt (position_or_len p xs) (length xs)) refl e
    where
      by : (b : Bool) → nat_lt (position_or_len p xs) (length xs) ≡ b → cond b (Some (position_or_len p xs)) None ≡ None → slice_split p xs ≡ xs ∷ []
      by true t e = absurd cc
      by false t e = uncut xs (ltb-false _ _ t)

  -- the first piece ends at the first separator
  pub cut_some : (xs : List ℕ) (end : ℕ) → position p xs ≡ Some end → slice_split p xs ≡ take end xs ∷ slice_split p (take (length xs - (end + 1)) (drop (end + 1) xs))
  cut_some xs end e = by (nat_lt (position_or_len p xs) (length xs)) refl e
    where
      whole : take (length xs - (end + 1)) (drop (end + 1) xs) ≡ drop (end + 1) xs
      whole = grind (arith, common_steps)

      by : (b : Bool) → nat_lt (position_or_len p xs) (length xs) ≡ b → cond b (Some (position_or_len p xs)) None ≡ Some end
          → slice_split p xs ≡ take end xs ∷ slice_split p (take (length xs - (end + 1)) (drop (end + 1) xs))
      by false t e = absurd cc
      by true t e =
          let same : position_or_len p xs ≡ end = cc in
          rw whole (subst (λ n. slice_split p xs ≡ take n xs ∷ slice_split p (drop (n + 1) xs)) same (slice_split_first p xs 0 (ltb-true _ _ t)))

-- there is one piece more than separators
pub pieces_are : (separator : ℕ) (bytes : List ℕ) → length (slice_split (λ byte. byte == separator) bytes) ≡ 1 + count_by (λ byte. byte == separator) bytes
pieces_are separator bytes = omega (arith, length-slice_split (λ byte. byte == separator) bytes)
