-- The lists of the members of a set, one after the other.
use Rattle.std.proofs.Common.{◌≡◌, ℕ, zero, suc, ◌+◌, List, [], ◌∷◌, ◌++◌, Some, refl, sym, ap, ◌∙◌, arith}
use Rattle.std.specs.Prelude.{map}
use Rattle.std.specs.List.{range_with_len}
use Rattle.std.proofs.lemmas.List.{map-append}
use Rattle.load_base.specs.Listed.{Listed}
use Rattle.media_lists.specs.Loads.{LoadEntryView}
use Rattle.media_build.specs.Accepted.{IsRecipe}
use Rattle.media_build.specs.Building.{start_of}
use Rattle.media_build.specs.Lines.{members_of}
use Rattle.media_build.specs.RecipeSets.{load_entry, loads_of, recipe_loads, set_of}
use Rattle.media_build.specs.declared.statements.RecipeLine.{RecipeLine}
use Rattle.media_build.proofs.BuiltLists.{set_of_is, members_of_is}

range_more : (from count : ℕ) → range_with_len from (count + 1) ≡ range_with_len from count ++ (from + count) ∷ []
range_more from zero = let e : from ≡ from + 0 = omega arith in ap (λ (n : ℕ). n ∷ []) e
range_more from (suc count) =
    let e : (from + 1) + count ≡ from + suc count = omega arith in
    let more : suc count + 1 ≡ suc (count + 1) = omega arith in
    rw more (ap (λ (rest : List ℕ). from ∷ rest) (range_more (from + 1) count ∙ ap (λ (n : ℕ). range_with_len (from + 1) count ++ n ∷ []) e))

-- one more list
pub lists_more : (f : ℕ → List ℕ) (old new : List (Listed ℕ)) (bytes : Listed ℕ) (index : ℕ) → map (λ (list : Listed ℕ). list.items) old ≡ map f (range_with_len 1 index) → bytes.items ≡ f (1 + index)
    → new ≡ old ++ bytes ∷ [] → map (λ (list : Listed ℕ). list.items) new ≡ map f (range_with_len 1 (index + 1))
lists_more f old new bytes index so_far is added =
    ap (λ (l : List (Listed ℕ)). map (λ (list : Listed ℕ). list.items) l) added ∙ (map-append (λ (list : Listed ℕ). list.items) old (bytes ∷ [])
    ∙ (ap (λ (l : List (List ℕ)). l ++ bytes.items ∷ []) so_far ∙ (ap (λ (b : List ℕ). map f (range_with_len 1 index) ++ b ∷ []) is
    ∙ (sym (map-append f (range_with_len 1 index) ((1 + index) ∷ [])) ∙ ap (λ (l : List ℕ). map f l) (sym (range_more 1 index))))))

-- ---- what a recipe begins with

pub start_is : (lines : List RecipeLine) → IsRecipe lines → start_of lines ≡ Some (set_of lines, members_of lines)
start_is lines is =
    ap start_of is.order.stands ∙ (ap (λ (set : List ℕ). Some (set, is.order.members)) (sym (set_of_is lines is)) ∙ ap (λ (members : ℕ). Some (set_of lines, members)) (sym (members_of_is lines is)))

same_some : {A : Type 0} (x y : A) → Some x ≡ Some y → x ≡ y
same_some x y e = cc

pub loads_view : (lines : List RecipeLine) (set : List ℕ) (members : ℕ) (entries : List LoadEntryView) (user : List ℕ) → IsRecipe lines → start_of lines ≡ Some (set, members)
    → entries ≡ map load_entry (loads_of lines) → user ≡ [] → record { set = set; member = 1; members = members; entries = entries; user = user } ≡ recipe_loads lines 1
unfolding recipe_loads
loads_view lines set members entries user is start entries_are none =
    let both : (set, members) ≡ (set_of lines, members_of lines) = same_some (set, members) (set_of lines, members_of lines) (sym start ∙ start_is lines is) in
    let one : set ≡ set_of lines = ap (λ (p : List ℕ × ℕ). p.0) both in
    let other : members ≡ members_of lines = ap (λ (p : List ℕ × ℕ). p.1) both in
    rw (one, other, entries_are, none) refl
