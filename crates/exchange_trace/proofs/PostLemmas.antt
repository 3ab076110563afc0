-- Laws of the datagrams that were posted (docs/EXCHANGE.md, "Trace").
use Rattle.std.proofs.Common.{◌≡◌, ◌↔◌, ◌⊎◌, inl, inr, ⊎_elim, ℕ, zero, suc, ◌+◌, ◌-◌, ◌<◌, ◌≤◌, max, Bool, true, false, not, cond, ◌&&◌, ◌||◌, List, [], ◌∷◌, ◌++◌, filter, refl, sym, ap, subst, ◌∙◌, arith, if◌then◌else◌}
use Rattle.std.specs.List.{Contains, range_with_len}
use Rattle.std.specs.List.Sorted.{IsStrictlyIncreasing}
use Rattle.std.proofs.lemmas.List.Elements.{filter-append, filter_agree}
use Rattle.std.proofs.lemmas.List.FromFn.{length-range_with_len, get_or-range_with_len}
use Rattle.std.proofs.lemmas.List.Kept.{IsStrictlyIncreasing-filter}
use Rattle.exchange_trace.specs.Happenings.{DatagramView, HappeningView}
use Rattle.exchange_trace.specs.Posts.{IsAboveOwnPorts, IsUndelivered, NamesOnlyPosted, delivers, is_from_own_port, is_undelivered, loses, port_above, undelivered, was_delivered, was_lost}

-- ---- numbers in a list

contains_head : (x : ℕ) (xs : List ℕ) → Contains (x ∷ xs) x
contains_head x xs = (0, omega arith, refl)

contains_tail : (x y : ℕ) (xs : List ℕ) → Contains xs y → Contains (x ∷ xs) y
contains_tail x y xs (k, lt, is) = (suc k, omega arith, is)

contains_none : (y : ℕ) → Contains [] y → ⊥
contains_none y (k, lt, is) = omega arith

contains_cases : (x y : ℕ) (xs : List ℕ) → Contains (x ∷ xs) y → (x ≡ y) ⊎ Contains xs y
contains_cases x y xs (zero, lt, is) = inl is
contains_cases x y xs (suc k, lt, is) = inr (k, omega arith, is)

module _ (p : ℕ → Bool) where
  kept : (x y : ℕ) (xs : List ℕ) (b : Bool) → p x ≡ b → (Contains (filter p xs) y → Contains xs y × (p y ≡ true)) → Contains (cond b (x ∷ filter p xs) (filter p xs)) y → Contains (x ∷ xs) y × (p y ≡ true)
  kept x y xs true e rest h =
      ⊎_elim (λ same. (subst (λ z. Contains (x ∷ xs) z) same (contains_head x xs), subst (λ z. p z ≡ true) same e))
      (λ later. (contains_tail x y xs (rest later).0, (rest later).1))
      (contains_cases x y (filter p xs) h)
  kept x y xs false e rest h = (contains_tail x y xs (rest h).0, (rest h).1)

  contains_filter : (xs : List ℕ) (y : ℕ) → Contains (filter p xs) y → Contains xs y × (p y ≡ true)
  contains_filter [] y h = absurd (contains_none y h)
  contains_filter (x ∷ xs) y h = kept x y xs (p x) refl (contains_filter xs y) h

  keeps : (x y : ℕ) (xs : List ℕ) (b : Bool) → p x ≡ b → p y ≡ true → (x ≡ y) ⊎ Contains xs y → Contains (cond b (x ∷ xs) xs) y
  keeps x y xs true e passes h = ⊎_elim (λ same. subst (λ z. Contains (x ∷ xs) z) same (contains_head x xs)) (λ later. contains_tail x y xs later) h
  keeps x y xs false e passes h = ⊎_elim (λ same. absurd (let wrong : true ≡ false = sym passes ∙ (ap p (sym same) ∙ e) in cc)) (λ later. later) h

  filter_contains : (xs : List ℕ) (y : ℕ) → Contains xs y → p y ≡ true → Contains (filter p xs) y
  filter_contains [] y h passes = absurd (contains_none y h)
  filter_contains (x ∷ xs) y h passes =
      keeps x y (filter p xs) (p x) refl passes (⊎_elim (λ same. inl same) (λ later. inr (filter_contains xs y later passes)) (contains_cases x y xs h))

  twice : (q : ℕ → Bool) (x : ℕ) (xs : List ℕ) (b : Bool) → filter q (filter p xs) ≡ filter (λ n. p n && q n) xs
      → filter q (cond b (x ∷ filter p xs) (filter p xs)) ≡ cond (b && q x) (x ∷ filter (λ n. p n && q n) xs) (filter (λ n. p n && q n) xs)
  twice q x xs true e = rw e refl
  twice q x xs false e = e

  filter_twice : (q : ℕ → Bool) (xs : List ℕ) → filter q (filter p xs) ≡ filter (λ n. p n && q n) xs
  filter_twice q [] = refl
  filter_twice q (x ∷ xs) = twice q x xs (p x) (filter_twice q xs)

  filter_whole : (a n : ℕ) → ((k : ℕ) → a ≤ k → p k ≡ true) → filter p (range_with_len a n) ≡ range_with_len a n
  filter_whole a zero h = refl
  filter_whole a (suc n) h = rw (h a (omega arith)) (ap (λ xs. a ∷ xs) (filter_whole (a + 1) n (λ k le. h k (omega arith))))

contains_range : (a n y : ℕ) → Contains (range_with_len a n) y → (a ≤ y) × (y < a + n)
contains_range a zero y h = absurd (contains_none y h)
contains_range a (suc n) y h =
    ⊎_elim (λ same. (omega arith, omega arith))
    (λ later. let rest = contains_range (a + 1) n y later in let low = rest.0 in let high = rest.1 in (omega arith, omega arith))
    (contains_cases a y (range_with_len (a + 1) n) h)

range_contains : (a n y : ℕ) → a ≤ y → y < a + n → Contains (range_with_len a n) y
range_contains a n y low high =
    let size = length-range_with_len a n in
    (y - a, omega arith, get_or-range_with_len a n (y - a) y (omega arith) ∙ omega arith)

range_append : (a n m : ℕ) → range_with_len a (n + m) ≡ range_with_len a n ++ range_with_len (a + n) m
range_append a zero m = let e : zero + m ≡ m = omega arith in let f : a + zero ≡ a = omega arith in rw (e, f) refl
range_append a (suc n) m =
    let e : suc n + m ≡ suc (n + m) = omega arith in
    let f : a + suc n ≡ a + 1 + n = omega arith in
    rw (e, f) (ap (λ xs. a ∷ xs) (range_append (a + 1) n m))

range_ascends : (a n : ℕ) → IsStrictlyIncreasing (range_with_len a n)
range_ascends a n k lt =
    let size = length-range_with_len a n in
    let one = get_or-range_with_len a n k 0 (omega arith) in
    let next = get_or-range_with_len a n (k + 1) 0 (omega arith) in
    omega arith

-- ---- undelivered numbers

or_false : (a b : Bool) → (a || b) ≡ false → (a ≡ false) × (b ≡ false)
or_false false b e = (refl, e)
or_false true b e = absurd cc

neither : (a b : Bool) → (not a && not b) ≡ true → (a ≡ false) × (b ≡ false)
neither false false e = (refl, refl)
neither false true e = absurd cc
neither true b e = absurd cc

-- the numbers are exactly those of the datagrams that were posted, and neither delivered nor lost
pub undelivered_has : (count : ℕ) (happenings : List HappeningView) (n : ℕ) → Contains (undelivered count happenings) n ↔ IsUndelivered count happenings n
undelivered_has count happenings n = (there, back)
  where
    there : Contains (undelivered count happenings) n → IsUndelivered count happenings n
    there h =
        let both = contains_filter (is_undelivered happenings) (range_with_len 1 count) n h in
        let (low, high) = contains_range 1 count n both.0 in
        let (not_delivered, not_lost) = neither (was_delivered n happenings) (was_lost n happenings) both.1 in
        record { posted = (low, omega arith); not_delivered = not_delivered; not_lost = not_lost }

    back : IsUndelivered count happenings n → Contains (undelivered count happenings) n
    back h = let posted = h.posted in
        filter_contains (is_undelivered happenings) (range_with_len 1 count) n (range_contains 1 count n posted.0 (let high = posted.1 in omega arith))
        (rw (h.not_delivered, h.not_lost) refl)

pub undelivered_ascends : (count : ℕ) (happenings : List HappeningView) → IsStrictlyIncreasing (undelivered count happenings)
undelivered_ascends count happenings = IsStrictlyIncreasing-filter (is_undelivered happenings) (range_with_len 1 count) (range_ascends 1 count)

apart : (a b c d : Bool) → (not (a || b) && not (c || d)) ≡ ((not b && not d) && (not (a || false) && not (c || false)))
apart false false false false = refl
apart false false false true = refl
apart false false true false = refl
apart false false true true = refl
apart false true false false = refl
apart false true false true = refl
apart false true true false = refl
apart false true true true = refl
apart true false false false = refl
apart true false false true = refl
apart true false true false = refl
apart true false true true = refl
apart true true false false = refl
apart true true false true = refl
apart true true true false = refl
apart true true true true = refl

-- one more happening takes away what it delivers or loses
pub undelivered_shrinks : (count : ℕ) (h : HappeningView) (happenings : List HappeningView)
    → undelivered count (h ∷ happenings) ≡ filter (is_undelivered (h ∷ [])) (undelivered count happenings)
undelivered_shrinks count h happenings =
    filter_agree (is_undelivered (h ∷ happenings)) (λ n. is_undelivered happenings n && is_undelivered (h ∷ []) n)
    (λ n. apart (delivers n h) (was_delivered n happenings) (loses n h) (was_lost n happenings)) (range_with_len 1 count)
    ∙ sym (filter_twice (is_undelivered happenings) (is_undelivered (h ∷ [])) (range_with_len 1 count))

-- what is posted now is undelivered
pub undelivered_grows : (count more : ℕ) (happenings : List HappeningView) → NamesOnlyPosted count happenings
    → undelivered (count + more) happenings ≡ undelivered count happenings ++ range_with_len (count + 1) more
undelivered_grows count more happenings named =
    let e : 1 + count ≡ count + 1 = omega arith in
    ap (filter (is_undelivered happenings)) (range_append 1 count more)
    ∙ (filter-append (is_undelivered happenings) (range_with_len 1 count) (range_with_len (1 + count) more)
    ∙ rw e (ap (λ xs. undelivered count happenings ++ xs) (filter_whole (is_undelivered happenings) (count + 1) more (λ k le. named k (omega arith)))))

-- ---- the first port after a boot

above_less : (posts : List DatagramView) (p q : ℕ) → p ≤ q → IsAboveOwnPorts posts p → IsAboveOwnPorts posts q
above_less [] p q le h = tt
above_less (d ∷ posts) p q le h = (λ own. let lt = h.0 own in omega arith, above_less posts p q le h.1)

pub port_above_least : (least : ℕ) (posts : List DatagramView) → least ≤ port_above least posts
port_above_least least [] = omega arith
port_above_least least (d ∷ posts) = by (is_from_own_port d) (port_above_least (if is_from_own_port d then max least (d.from + 1) else least) posts)
  where
    by : (b : Bool) → cond b (max least (d.from + 1)) least ≤ port_above (cond b (max least (d.from + 1)) least) posts → least ≤ port_above (cond b (max least (d.from + 1)) least) posts
    by true h = omega arith
    by false h = h

pub port_above_all : (least : ℕ) (posts : List DatagramView) → IsAboveOwnPorts posts (port_above least posts)
port_above_all least [] = tt
port_above_all least (d ∷ posts) = (own (is_from_own_port d) (port_above_least (if is_from_own_port d then max least (d.from + 1) else least) posts), port_above_all (if is_from_own_port d then max least (d.from + 1) else least) posts)
  where
    own : (b : Bool) → cond b (max least (d.from + 1)) least ≤ port_above (cond b (max least (d.from + 1)) least) posts → b ≡ true → d.from < port_above (cond b (max least (d.from + 1)) least) posts
    own true h e = omega arith
    own false h e = absurd cc

pub port_above_no_more : (least : ℕ) (posts : List DatagramView) (port : ℕ) → least ≤ port → IsAboveOwnPorts posts port → port_above least posts ≤ port
port_above_no_more least [] port le h = le
port_above_no_more least (d ∷ posts) port le h = port_above_no_more (if is_from_own_port d then max least (d.from + 1) else least) posts port (by (is_from_own_port d) h.0) h.1
  where
    by : (b : Bool) → (b ≡ true → d.from < port) → cond b (max least (d.from + 1)) least ≤ port
    by true lt = let below = lt refl in omega arith
    by false lt = le
