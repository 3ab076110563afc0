-- What a search by the order of names finds, and what the next name does to the order.
use Rattle.std.proofs.Common.{◌≡◌, ℕ, zero, suc, ◌+◌, ◌<◌, ◌≤◌, List, [], ◌∷◌, ◌++◌, length, get_or, Bool, true, false, Result, Ok, Err, refl, sym, ap, subst, ◌∙◌, arith, length-append, ◌⊎◌, inl, inr, ◌||◌}
use Rattle.std.specs.Prelude.{map, IfOk, IfErr, nat_eq}
use Rattle.std.specs.Cmp.Lexicographic.{pointwise}
use Rattle.std.specs.List.{list_any, All, insert, HoldsAt}
use Rattle.std.specs.List.Sorted.{IsPermutation, IsSortedByKey, IsSearchInRange, IsBinarySearchResult, IsPartitionPoint}
use Rattle.std.specs.Ordering.{nat_cmp, is_lt, is_eq, ordering_reverse}
use Rattle.std.specs.declared.cmp.Ordering.TheVariants.{Less, Equal, Greater}
use Rattle.std.proofs.lemmas.Cmp.{nat_list_cmp_total, same_from_slice_cmp}
use Rattle.std.proofs.lemmas.Bool.Decides.{nat_tests}
use Rattle.std.proofs.lemmas.List.{get_or_append_left, length-map}
use Rattle.std.proofs.lemmas.List.Edits.{length-insert, get_or-insert_below, get_or-insert_at, get_or-insert_above}
use Rattle.std.proofs.lemmas.List.Elements.{All-cons, All-tail}
use Rattle.std.proofs.lemmas.List.Sorted.{searchable_from_sorted, list_any-IsPermutation, IsPermutation-trans, IsPermutation-insert, IsPermutation-to_front, IsPermutation-cons, IsPermutation-map, All-permutation, length_permutation}
use Rattle.load_base.specs.Bytes.{same_bytes}
use Rattle.media_lists.specs.NameOrder.{name_at, by_bytes, IsOrder}

-- ---- what a search finds

-- names are the same where neither comes first
same_is : (one other : List ℕ) → same_bytes one other ≡ is_eq (by_bytes one other)
same_is one other = sym (same_from_slice_cmp nat_cmp is_eq (pointwise nat_eq) refl (λ _ _. refl) (λ _ _. refl) (λ x y xs ys o h. grind (arith, nat_tests)) one other (by_bytes one other) refl)

or_true : (b c : Bool) → c ≡ true → (b || c) ≡ true
or_true true c e = refl
or_true false c e = e

there : (names : List (List ℕ)) (offsets : List ℕ) (name : List ℕ) (at : ℕ) → at < length offsets → HoldsAt (λ offset. by_bytes (name_at names offset) name ≡ Equal) offsets at
    → list_any (λ other. same_bytes other name) (map (name_at names) offsets) ≡ true
there names [] name at within equal = absurd (omega arith)
there names (offset ∷ offsets) name zero within equal =
    ap (λ (b : Bool). b || list_any (λ other. same_bytes other name) (map (name_at names) offsets)) (same_is (name_at names offset) name ∙ ap is_eq (equal 0))
there names (offset ∷ offsets) name (suc at) within equal =
    or_true (same_bytes (name_at names offset) name) (list_any (λ other. same_bytes other name) (map (name_at names) offsets)) (there names offsets name at (omega (arith, within)) equal)

not_there : (names : List (List ℕ)) (offsets : List ℕ) (name : List ℕ) → All (λ offset. same_bytes (name_at names offset) name ≡ false) offsets → list_any (λ other. same_bytes other name) (map (name_at names) offsets) ≡ false
not_there names [] name none = refl
not_there names (offset ∷ offsets) name none =
    ap (λ (b : Bool). b || list_any (λ other. same_bytes other name) (map (name_at names) offsets)) (none 0 offset (omega arith)) ∙ not_there names offsets name (All-tail (λ p. same_bytes (name_at names p) name ≡ false) offset offsets none)

-- where the names before an offset come before this name, and those from it on after it
abbrev pub Parts : List (List ℕ) → List ℕ → List ℕ → ℕ → Type 0
Parts names offsets name at = IsPartitionPoint (λ offset. by_bytes (name_at names offset) name ≡ Less) (λ offset. by_bytes (name_at names offset) name ≡ Greater) offsets at

lt_or_ge : (i j : ℕ) → (i < j) ⊎ (j ≤ i)
lt_or_ge i zero = inr (omega arith)
lt_or_ge zero (suc j) = inl (omega arith)
lt_or_ge (suc i) (suc j) = elim (lt_or_ge i j) [ inl lt ↦ inl (omega (arith, lt)) | inr ge ↦ inr (omega (arith, ge)) ]

differ : (names : List (List ℕ)) (offsets name : List ℕ) (at : ℕ) → Parts names offsets name at → All (λ offset. same_bytes (name_at names offset) name ≡ false) offsets
differ names offsets name at parts = λ k d within. same_is (name_at names (get_or offsets k d)) name ∙ elim (lt_or_ge k at) [
  | inl lt ↦ ap is_eq (parts.0 k d (omega arith) lt)
  | inr ge ↦ ap is_eq (parts.1 k d ge within)
]

-- where the binary search answers an offset, the name stands there, and else it stands nowhere
pub searched : (names : List (List ℕ)) (offsets name : List ℕ) (r : Result ℕ ℕ) → IsOrder names offsets → IsSearchInRange r (length offsets) → IsBinarySearchResult (λ offset. by_bytes (name_at names offset) name) offsets r
    → IfOk r (λ at. list_any (λ other. same_bytes other name) names ≡ true) × IfErr r (λ at. at ≤ length offsets) × IfErr r (λ at. Parts names offsets name at)
searched names offsets name (Ok at) order within equal = (list_any-IsPermutation (λ other. same_bytes other name) names (map (name_at names) offsets) order.whole ∙ there names offsets name at within equal, tt, tt)
searched names offsets name (Err at) order within parted = (tt, within, parted (searchable_from_sorted nat_list_cmp_total (name_at names) offsets name order.rises))

pub absent : (names : List (List ℕ)) (offsets name : List ℕ) (at : ℕ) → IsOrder names offsets → Parts names offsets name at → list_any (λ other. same_bytes other name) names ≡ false
absent names offsets name at order parts =
    list_any-IsPermutation (λ other. same_bytes other name) names (map (name_at names) offsets) order.whole ∙ not_there names offsets name (differ names offsets name at parts)

-- ---- the next name

pub so_many : (names : List (List ℕ)) (offsets : List ℕ) → IsOrder names offsets → length offsets ≡ length names
so_many names offsets order = sym (length-map offsets (name_at names)) ∙ length_permutation names (map (name_at names) offsets) order.whole

four : (k at : ℕ) → (k + 1 < at) ⊎ ((k + 1 ≡ at) ⊎ ((k ≡ at) ⊎ (at < k)))
four zero zero = inr (inr (inl refl))
four zero (suc zero) = inr (inl refl)
four zero (suc (suc at)) = inl (omega arith)
four (suc k) zero = inr (inr (inr (omega arith)))
four (suc k) (suc at) = elim (four k at) [
  | inl lt ↦ inl (omega (arith, lt))
  | inr (inl next) ↦ inr (inl (omega (arith, next)))
  | inr (inr (inl same)) ↦ inr (inr (inl (omega (arith, same))))
  | inr (inr (inr gt)) ↦ inr (inr (inr (omega (arith, gt))))
]

-- an offset is put where its name comes between those of its neighbours
rises_with : (key : ℕ → List ℕ) (offsets : List ℕ) (at p : ℕ) → at ≤ length offsets → IsSortedByKey key by_bytes offsets
    → IsPartitionPoint (λ q. by_bytes (key q) (key p) ≡ Less) (λ q. by_bytes (key q) (key p) ≡ Greater) offsets at → IsSortedByKey key by_bytes (insert offsets at p)
rises_with key offsets at p within rises parts k d from below =
    let size : length (insert offsets at p) ≡ length offsets + 1 = length-insert offsets at p within in
    elim (four k at) [
      | inl lt ↦ rw (get_or-insert_below offsets at p d (k + 1) lt within, get_or-insert_below offsets at p d k (omega (arith, lt)) within) (rises k d (omega arith) (omega (arith, lt, within)))
      | inr (inl next) ↦
          let here : get_or (insert offsets at p) (k + 1) d ≡ p = subst (λ (i : ℕ). get_or (insert offsets at p) i d ≡ p) (sym next) (get_or-insert_at offsets at p d within) in
          let back : by_bytes (key p) (key (get_or offsets k d)) ≡ Greater = nat_list_cmp_total.antisymm (key p) (key (get_or offsets k d)) ∙ ap ordering_reverse (parts.0 k d (omega arith) (omega (arith, next))) in
          rw (here, get_or-insert_below offsets at p d k (omega (arith, next)) within) (ap is_lt back)
      | inr (inr (inl same)) ↦
          let here : get_or (insert offsets at p) k d ≡ p = subst (λ (i : ℕ). get_or (insert offsets at p) i d ≡ p) (sym same) (get_or-insert_at offsets at p d within) in
          rw (here, get_or-insert_above offsets at p d k (omega (arith, same)) within) (ap is_lt (parts.1 k d (omega (arith, same)) (omega (arith, size, below))))
      | inr (inr (inr gt)) ↦ above k gt below
    ]
  where
    above : (k : ℕ) → at < k → k + 1 < length (insert offsets at p) → is_lt (by_bytes (key (get_or (insert offsets at p) (k + 1) d)) (key (get_or (insert offsets at p) k d))) ≡ false
    above zero gt below = absurd (omega (arith, gt))
    above (suc j) gt below =
        let one : get_or (insert offsets at p) (suc j + 1) d ≡ get_or offsets (suc j) d = get_or-insert_above offsets at p d (suc j) (omega (arith, gt)) within in
        let two : get_or (insert offsets at p) (suc j) d ≡ get_or offsets j d = subst (λ (i : ℕ). get_or (insert offsets at p) i d ≡ get_or offsets j d) {x = j + 1} (omega arith) (get_or-insert_above offsets at p d j (omega (arith, gt)) within) in
        let three : get_or offsets (suc j) d ≡ get_or offsets (j + 1) d = ap (λ (i : ℕ). get_or offsets i d) (omega arith) in
        rw (one, two, three) (rises j d (omega arith) (omega (arith, below, length-insert offsets at p within)))

-- the names of offsets that were there, once a name was added
old_name : (names : List (List ℕ)) (name : List ℕ) (offset : ℕ) → offset < length names → name_at (names ++ name ∷ []) offset ≡ name_at names offset
old_name names name offset within = get_or_append_left names (name ∷ []) [] offset within

old_names : (names : List (List ℕ)) (name offsets : List ℕ) → All (λ offset. offset < length names) offsets → map (name_at (names ++ name ∷ [])) offsets ≡ map (name_at names) offsets
old_names names name [] within = refl
old_names names name (offset ∷ offsets) within =
    ap (λ (n : List ℕ). n ∷ map (name_at (names ++ name ∷ [])) offsets) (old_name names name offset (within 0 offset (omega arith))) ∙ ap (λ (l : List (List ℕ)). name_at names offset ∷ l) (old_names names name offsets (All-tail (λ p. p < length names) offset offsets within))

new_name : (names : List (List ℕ)) (name : List ℕ) → name_at (names ++ name ∷ []) (length names) ≡ name
new_name [] name = refl
new_name (n ∷ names) name = new_name names name

pub one_more_name : (names : List (List ℕ)) (offsets name : List ℕ) (at : ℕ) → IsOrder names offsets → at ≤ length offsets → Parts names offsets name at → IsOrder (names ++ name ∷ []) (insert offsets at (length names))
one_more_name names offsets name at order within parts =
    let key : ℕ → List ℕ = name_at (names ++ name ∷ []) in
    let p : ℕ = length names in
    let longer : length (names ++ name ∷ []) ≡ p + 1 = length-append names (name ∷ []) in
    let is : key p ≡ name = new_name names name in
    let old : (k : ℕ) (d : ℕ) → k < length offsets → key (get_or offsets k d) ≡ name_at names (get_or offsets k d) = λ k d lt. old_name names name (get_or offsets k d) (order.within k d lt) in
    let rises : IsSortedByKey key by_bytes offsets = λ k d from below. rw (old (k + 1) d below, old k d (omega (arith, below))) (order.rises k d from below) in
    let before = parts.0 in
    let behind = parts.1 in
    let all : IsPermutation (names ++ name ∷ []) (name ∷ map (name_at names) offsets) =
    IsPermutation-trans (names ++ name ∷ []) (name ∷ names) (name ∷ map (name_at names) offsets) (IsPermutation-to_front names name) (IsPermutation-cons name names (map (name_at names) offsets) order.whole) in
    let seen : name ∷ map (name_at names) offsets ≡ map key (p ∷ offsets) = ap (λ (n : List ℕ). n ∷ map (name_at names) offsets) (sym is) ∙ ap (λ (l : List (List ℕ)). key p ∷ l) (sym (old_names names name offsets order.within)) in
    record {
      within = All-permutation (λ offset. offset < length (names ++ name ∷ [])) (p ∷ offsets) (insert offsets at p) (IsPermutation-insert offsets at p)
          (All-cons (λ offset. offset < length (names ++ name ∷ [])) p offsets (omega (arith, longer)) (λ k d lt. omega (arith, longer, order.within k d lt)));
      rises = rises_with key offsets at p within rises (
        λ k d from lt. rw (old k d (omega (arith, lt, within)), is) (before k d from lt),
        λ k d from lt. rw (old k d lt, is) (behind k d from lt),
      );
      whole = IsPermutation-trans (names ++ name ∷ []) (map key (p ∷ offsets)) (map key (insert offsets at p)) (subst (λ (l : List (List ℕ)). IsPermutation (names ++ name ∷ []) l) seen all)
          (IsPermutation-map key (p ∷ offsets) (insert offsets at p) (IsPermutation-insert offsets at p));
    }
