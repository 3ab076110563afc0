-- The least unit at a place, looked for unit by unit.
use Rattle.std.proofs.Common.{◌≡◌, ℕ, zero, suc, ◌+◌, ◌≤◌, cond, List, [], ◌∷◌, Option, Some, None, drop, length, arith, refl, ap}
use Rattle.std.specs.Prelude.{slice_get}
use Rattle.upload_replay.specs.Drivers.{DriverState}
use Rattle.target_fleet.specs.Asking.{is_at, least_unit_from, place_of}
use Rattle.target_fleet.specs.AskingCalls.{places_in}

-- of the units from this index on
abbrev pub least_left : {R : Type 0} → (hw pos : List ℕ) → List (DriverState R) → (index : ℕ) → Option ℕ
least_left hw pos drivers index = least_unit_from (index + 1) hw pos (places_in (drop index drivers))

dropped : {A : Type 0} (xs : List A) (i : ℕ) (x : A) → slice_get xs i ≡ Some x → drop i xs ≡ x ∷ drop (i + 1) xs
dropped [] i x e = absurd cc
dropped (y ∷ xs) zero x e = let same : y ≡ x = cc in ap (λ z. z ∷ xs) same
dropped (y ∷ xs) (suc i) x e = let next : suc i + 1 ≡ suc (i + 1) = omega arith in rw next (dropped xs i x e)

module _ {R : Type 0} (hw pos : List ℕ) (drivers : List (DriverState R)) where
  pub one_looked : (index : ℕ) (d : DriverState R) → slice_get drivers index ≡ Some d
      → least_left hw pos drivers index ≡ cond (is_at hw pos (place_of d.identity)) (Some (index + 1)) (least_left hw pos drivers (index + 1))
  one_looked index d e = ap (λ (ds : List (DriverState R)). least_unit_from (index + 1) hw pos (places_in ds)) (dropped drivers index d e)

  pub none_left : (index : ℕ) → length drivers ≤ index → least_left hw pos drivers index ≡ None
  none_left index past = ap (λ (ds : List (DriverState R)). least_unit_from (index + 1) hw pos (places_in ds)) (all_dropped drivers index past)
    where
      all_dropped : (ds : List (DriverState R)) (i : ℕ) → length ds ≤ i → drop i ds ≡ []
      all_dropped [] zero past = refl
      all_dropped [] (suc i) past = refl
      all_dropped (x ∷ ds) zero past = absurd (let no : ⊥ = omega (arith, past) in no)
      all_dropped (x ∷ ds) (suc i) past = all_dropped ds i (omega (arith, past))
