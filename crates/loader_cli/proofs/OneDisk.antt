-- One disk of several is lent to a call, and the others stay as they are.
use Rattle.std.proofs.Common.{◌≡◌, ◌≢◌, ℕ, zero, suc, ◌<◌, List, [], ◌∷◌, length, All, get_or, Some, refl, sym, ap, subst, ◌∙◌, arith}
use Rattle.std.specs.Prelude.{slice_get, slice_set}
use Rattle.std.proofs.lemmas.List.Elements.{All-get_or}
use Rattle.std.proofs.lemmas.Option.{get_or_from_slice_get, slice_get_within}
use Rattle.loader_cli.specs.Commands.{IsNo, IsOfFleet, disk_named}
use Rattle.loader_cli.specs.Touches.{KeepsOthers, OnNamed}
use Rattle.loader_cli.proofs.Named.{named_below}

module _ {K : Type 0} where
  pub one_disk : (disks : List K) (place : ℕ) (disk other : K) → slice_get disks place ≡ Some disk → slice_get disks place ≡ Some other → disk ≡ other
  one_disk disks place disk other is is_2 = let same : Some disk ≡ Some other = sym is ∙ is_2 in cc

  -- what stands at a place where a disk was put, at the others, and how many there are
  put_there : (disks : List K) (place : ℕ) (disk : K) → place < length disks → slice_get (slice_set disks place disk) place ≡ Some disk
  put_there [] place disk within = absurd (omega (arith, within))
  put_there (first ∷ disks) zero disk within = refl
  put_there (first ∷ disks) (suc place) disk within = put_there disks place disk (omega (arith, within))

  others_stay : (disks : List K) (place other : ℕ) (disk : K) → other ≢ place → slice_get (slice_set disks place disk) other ≡ slice_get disks other
  others_stay [] place other disk apart = refl
  others_stay (first ∷ disks) zero zero disk apart = absurd (apart refl)
  others_stay (first ∷ disks) zero (suc other) disk apart = refl
  others_stay (first ∷ disks) (suc place) zero disk apart = refl
  others_stay (first ∷ disks) (suc place) (suc other) disk apart = others_stay disks place other disk (λ same. apart (ap suc same))

  as_many : (disks : List K) (place : ℕ) (disk : K) → length (slice_set disks place disk) ≡ length disks
  as_many [] place disk = refl
  as_many (first ∷ disks) zero disk = refl
  as_many (first ∷ disks) (suc place) disk = ap suc (as_many disks place disk)

  module _ (words : List (List ℕ)) (disks : List K) (eight : length disks ≡ 8) where
    within : disk_named words < length disks
    within = omega (arith, eight, named_below words)

    -- no disk is used
    pub none_used : KeepsOthers words disks disks
    none_used = record { named = within; as_many = refl; others = λ place apart. refl }

    pub on_unused : (Holds : K → K → Type 0) → ((disk : K) → slice_get disks (disk_named words) ≡ Some disk → Holds disk disk) → OnNamed words disks disks Holds
    on_unused Holds holds single before after was is = subst (λ (k : K). Holds before k) (one_disk disks (disk_named words) before after was is) (holds before was)

    -- the disk at this place is used, which the arguments name
    module _ (place : ℕ) (named : place ≡ disk_named words) (some now : K) where
      pub others_unused : IsNo IsOfFleet words → KeepsOthers words disks (slice_set disks place now)
      others_unused single = record {
        named = within;
        as_many = as_many disks place now;
        others = λ other unused. others_stay disks place other now (λ same. unused.unnamed single (same ∙ named));
      }

      pub on_used : (Holds : K → K → Type 0) → Holds (get_or disks place some) now → OnNamed words disks (slice_set disks place now) Holds
      on_used Holds holds single before after was is =
          let at : slice_get disks place ≡ Some before = ap (slice_get disks) named ∙ was in
          let put : slice_get (slice_set disks place now) place ≡ Some after = ap (slice_get (slice_set disks place now)) named ∙ is in
          let old : get_or disks place some ≡ before = get_or_from_slice_get disks place before some at in
          let new : now ≡ after = one_disk (slice_set disks place now) place now after (put_there disks place now (omega (arith, named, within))) put in
          subst (λ (k : K). Holds k after) old (subst (λ (k : K). Holds (get_or disks place some) k) new holds)

-- what holds of all holds of each
pub of_each : {K : Type 0} (Holds : K → Type 0) (disks : List K) (place : ℕ) (disk : K) → slice_get disks place ≡ Some disk → All Holds disks → Holds disk
of_each Holds disks place disk at all =
    subst Holds (get_or_from_slice_get disks place disk disk at) (All-get_or Holds disks place disk (slice_get_within disks place disk at) all)
