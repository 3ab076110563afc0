-- A recipe whose sizes are right isn't refused for one, nor are sources that can be taken.
use Rattle.std.proofs.Common.{◌≡◌, ℕ, suc, ◌+◌, ◌≤◌, List, ◌∷◌, refl, ap, subst, ◌∙◌, arith, []}
use Rattle.std.specs.Prelude.{All}
use Rattle.std.specs.List.{AllByRecursion}
use Rattle.std.proofs.lemmas.List.Sums.{sum_by-cons}
use Rattle.load_base.specs.Host.{Files}
use Rattle.media_check.specs.Openings.{length_on_host, total_of}
use Rattle.media_build.specs.Building.{CanTake, HasShortHeader, HaveSizes, IsFirstRefused, IsSizeFault, IsSourceFault, IsThere}
use Rattle.media_build.specs.declared.building_fault.BuildFault.{BuildFault}
use Rattle.media_build.specs.declared.building_fault.BuildFault.TheVariants.{Absent, TooLong, TooLarge, HeaderTooLong, ListTooLong, Failed, Memory}
use Rattle.media_build.specs.declared.statements.RecipeLine.{RecipeLine}
use Rattle.media_build.proofs.BuiltHeaders.{second_part}
use Rattle.media_build.proofs.Taking.{total_both}

by_parts : {A : Type 0} (P : A → Type 0) (xs : List A) → All P xs → AllByRecursion P xs
by_parts P [] all = tt
by_parts P (x ∷ xs) all = (all 0 x (omega arith), by_parts P xs (λ k d lt. all (suc k) d (omega (arith, lt))))

pub no_size_is_refused : (lines : List RecipeLine) (fault : BuildFault) → HaveSizes lines → IsSizeFault lines fault → fault ≡ Memory
no_size_is_refused lines (HeaderTooLong line) sizes refused =
    let all = subst (AllByRecursion HasShortHeader) refused.stands sizes.headers in
    let this = (second_part HasShortHeader refused.before (refused.load ∷ refused.after) all).0 in
    absurd (omega (arith, this, refused.long))
no_size_is_refused lines ListTooLong sizes refused = absurd (refused.1 sizes.lists)
no_size_is_refused lines Memory sizes refused = refl
no_size_is_refused lines (Absent name) sizes refused = absurd refused
no_size_is_refused lines (TooLong name) sizes refused = absurd refused
no_size_is_refused lines TooLarge sizes refused = absurd refused
no_size_is_refused lines Failed sizes refused = absurd refused

pub no_source_is_refused : (files : Files) (others : ℕ) (names : List (List ℕ)) (fault : BuildFault) → CanTake files others names → ¬ IsFirstRefused files others names fault
no_source_is_refused files others names fault taken first =
    let all = subst (AllByRecursion (IsThere files)) first.stands (by_parts (IsThere files) names taken.there) in
    let this = (second_part (IsThere files) first.before (first.name ∷ first.after) all).0 in
    let sum : total_of files names ≡ total_of files first.before + (length_on_host files first.name + total_of files first.after) =
    ap (λ (n : List (List ℕ)). total_of files n) first.stands ∙ (total_both files first.before (first.name ∷ first.after)
    ∙ ap (λ (n : ℕ). total_of files first.before + n) (sum_by-cons (length_on_host files) first.name first.after)) in
    by fault this first.refused (omega (arith, sum, taken.together))
  where
    by : (fault : BuildFault) → IsThere files first.name → IsSourceFault files (others + total_of files first.before) first.name fault
        → (others + total_of files first.before) + length_on_host files first.name ≤ 268435456 → ⊥
    by (Absent name) there refused small = there.some refused.1
    by (TooLong name) there refused small = omega (arith, there.short, refused.1)
    by TooLarge there refused small = omega (arith, refused.1, small)
    by (HeaderTooLong line) there refused small = refused
    by ListTooLong there refused small = refused
    by Failed there refused small = refused
    by Memory there refused small = refused
