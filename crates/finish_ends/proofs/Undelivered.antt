-- What undelivered datagrams weigh.
use Rattle.std.proofs.Common.{◌≡◌, ℕ, zero, suc, ◌+◌, ◌-◌, ◌*◌, ◌≤◌, Bool, true, false, not, cond, ◌&&◌, List, [], ◌∷◌, ◌++◌, length, Some, refl, sym, ap, subst, ◌∙◌, arith}
use Rattle.std.specs.Prelude.{◌||◌, filter, slice_get}
use Rattle.std.specs.List.{AllByRecursion, range_with_len}
use Rattle.exchange_trace.specs.declared.trace.Side.{Side}
use Rattle.exchange_trace.specs.Happenings.{DatagramView, Delivered, HappeningView}
use Rattle.exchange_trace.specs.Posts.{delivers, happenings_of, is_undelivered, loses, numbered, posted_in, undelivered_after, was_delivered, was_lost}
use Rattle.exchange_trace.specs.Steps.{Step}
use Rattle.replay_rules.specs.Changes.{AllCarryBytes, CarriesBytes}
use Rattle.replay_rules.proofs.PlacedTraceLemmas.{all_append}
use Rattle.transfer_completion.proofs.BlockLemmas.{eq_false, eq_true}
use Rattle.transfer_end.specs.Packets.{packet_in}
use Rattle.finish_ends.proofs.Weights.{most_weight, total, weight}

-- the weights of those of these datagrams that are undelivered; the first one has number k + 1
abbrev pub weigh : List HappeningView → (k : ℕ) → List DatagramView → ℕ
weigh hs k [] = 0
weigh hs k (d ∷ ds) = cond (is_undelivered hs (suc k)) (weight d) 0 + weigh hs (suc k) ds

abbrev pub undelivered_weight : List Step → ℕ
undelivered_weight steps = weigh (happenings_of steps) 0 (posted_in steps)

-- ---- datagrams more

at_most : (b : Bool) (w : ℕ) → cond b w 0 ≤ w
at_most true w = omega arith
at_most false w = omega arith

weigh_new : (hs : List HappeningView) (k : ℕ) (es : List DatagramView) → weigh hs k es ≤ total es
weigh_new hs k [] = omega arith
weigh_new hs k (e ∷ es) = let one = at_most (is_undelivered hs (suc k)) (weight e) in let rest = weigh_new hs (suc k) es in omega (arith, one, rest)

weigh_more : (hs : List HappeningView) (k : ℕ) (ds es : List DatagramView) → weigh hs k (ds ++ es) ≤ weigh hs k ds + total es
weigh_more hs k [] es = let e = weigh_new hs k es in omega (arith, e)
weigh_more hs k (d ∷ ds) es = let e = weigh_more hs (suc k) ds es in omega (arith, e)

-- ---- a happening more

less_so : (a b c d : Bool) (w : ℕ) → cond (not (a || b) && not (c || d)) w 0 ≤ cond (not b && not d) w 0
less_so true b c d w = omega arith
less_so false true c d w = omega arith
less_so false false true d w = omega arith
less_so false false false true w = omega arith
less_so false false false false w = omega arith

one_less : (h : HappeningView) (hs : List HappeningView) (n w : ℕ) → cond (is_undelivered (h ∷ hs) n) w 0 ≤ cond (is_undelivered hs n) w 0
one_less h hs n w = less_so (delivers n h) (was_delivered n hs) (loses n h) (was_lost n hs) w

weigh_later : (h : HappeningView) (hs : List HappeningView) (k : ℕ) (ds : List DatagramView) → weigh (h ∷ hs) k ds ≤ weigh hs k ds
weigh_later h hs k [] = omega arith
weigh_later h hs k (d ∷ ds) = let one = one_less h hs (suc k) (weight d) in let rest = weigh_later h hs (suc k) ds in omega (arith, one, rest)

itself : (side : Side) (n : ℕ) (hs : List HappeningView) → is_undelivered (Delivered side n ∷ hs) n ≡ false
itself side n hs = rw (eq_true n n refl) refl

-- one that is delivered no longer counts
weigh_taken : (side : Side) (hs : List HappeningView) (n k i : ℕ) (ds : List DatagramView) (d : DatagramView) → n ≡ suc k + i → slice_get ds i ≡ Some d → is_undelivered hs n ≡ true
    → weigh (Delivered side n ∷ hs) k ds + weight d ≤ weigh hs k ds
weigh_taken side hs n k i [] d at is left = absurd cc
weigh_taken side hs n k zero (x ∷ xs) d at is left =
    let same : x ≡ d = cc in
    let here : n ≡ suc k = omega (arith, at) in
    let rest = weigh_later (Delivered side n) hs (suc k) xs in
    let now : cond (is_undelivered (Delivered side n ∷ hs) (suc k)) (weight x) 0 ≡ 0
    = subst (λ (m : ℕ). cond (is_undelivered (Delivered side n ∷ hs) m) (weight x) 0 ≡ 0) here (ap (λ (b : Bool). cond b (weight x) 0) (itself side n hs)) in
    let before : cond (is_undelivered hs (suc k)) (weight x) 0 ≡ weight d
    = subst (λ (m : ℕ). cond (is_undelivered hs m) (weight x) 0 ≡ weight d) here (ap (λ (b : Bool). cond b (weight x) 0) left ∙ ap weight same) in
    omega (arith, rest, now, before)
weigh_taken side hs n k (suc i) (x ∷ xs) d at is left =
    let one = one_less (Delivered side n) hs (suc k) (weight x) in
    let rest = weigh_taken side hs n (suc k) i xs d (omega (arith, at)) is left in
    omega (arith, one, rest)

-- ---- of a trace

pub numbered_is : (ds : List DatagramView) (k : ℕ) → numbered ds (suc k) ≡ slice_get ds k
numbered_is ds k = rw (eq_false (suc k) 0 (λ e. absurd (omega (arith, e)))) (ap (λ (i : ℕ). slice_get ds i) (less k))
  where
    less : (k : ℕ) → suc k - 1 ≡ k
    less k = omega arith

pub after_any : (s : Step) (base : List Step) → undelivered_weight (s ∷ base) ≤ undelivered_weight base + total s.posts
after_any s base =
    let one = weigh_more (s.given ∷ happenings_of base) 0 (posted_in base) s.posts in
    let two = weigh_later s.given (happenings_of base) 0 (posted_in base) in
    omega (arith, one, two)

pub after_delivery : (s : Step) (base : List Step) (side : Side) (n : ℕ) (d : DatagramView) → s.given ≡ Delivered side n → numbered (posted_in base) n ≡ Some d → is_undelivered (happenings_of base) n ≡ true
    → undelivered_weight (s ∷ base) + weight d ≤ undelivered_weight base + total s.posts
after_delivery s base side zero d given is left = absurd cc
after_delivery s base side (suc k) d given is left =
    let one = weigh_more (s.given ∷ happenings_of base) 0 (posted_in base) s.posts in
    let two = weigh_taken side (happenings_of base) (suc k) 0 k (posted_in base) d (omega arith) (sym (numbered_is (posted_in base) k) ∙ is) left in
    let same = ap (λ (h : HappeningView). weigh (h ∷ happenings_of base) 0 (posted_in base)) given in
    omega (arith, one, two, same)

-- ---- the least one

passes : (p : ℕ → Bool) (a count n : ℕ) (ns : List ℕ) → filter p (range_with_len a count) ≡ n ∷ ns → p n ≡ true
passes p a zero n ns e = absurd cc
passes p a (suc count) n ns e = by (p a) refl e (λ f. passes p (a + 1) count n ns f)
  where
    by : (b : Bool) → p a ≡ b → cond b (a ∷ filter p (range_with_len (a + 1) count)) (filter p (range_with_len (a + 1) count)) ≡ n ∷ ns → (filter p (range_with_len (a + 1) count) ≡ n ∷ ns → p n ≡ true) → p n ≡ true
    by true is f rest = let same : a ≡ n = cc in sym (ap p same) ∙ is
    by false is f rest = rest f

pub least_is_undelivered : (base : List Step) (n : ℕ) (ns : List ℕ) → undelivered_after base ≡ n ∷ ns → is_undelivered (happenings_of base) n ≡ true
least_is_undelivered base n ns e = passes (is_undelivered (happenings_of base)) 1 (length (posted_in base)) n ns e

-- ---- how much it can be

weigh_filter : (hs : List HappeningView) (k : ℕ) (ds : List DatagramView) → weigh hs k ds ≤ 2 * length (filter (is_undelivered hs) (range_with_len (suc k) (length ds)))
weigh_filter hs k [] = omega arith
weigh_filter hs k (d ∷ ds) = by (is_undelivered hs (suc k)) (most_weight (packet_in d.bytes)) (subst (λ (m : ℕ). weigh hs (suc k) ds ≤ 2 * length (filter (is_undelivered hs) (range_with_len m (length ds)))) (plus_one (suc k)) (weigh_filter hs (suc k) ds))
  where
    plus_one : (n : ℕ) → suc n ≡ n + 1
    plus_one n = omega arith

    by : (b : Bool) → weight d ≤ 2 → weigh hs (suc k) ds ≤ 2 * length (filter (is_undelivered hs) (range_with_len (suc k + 1) (length ds)))
        → cond b (weight d) 0 + weigh hs (suc k) ds ≤ 2 * length (cond b (suc k ∷ filter (is_undelivered hs) (range_with_len (suc k + 1) (length ds))) (filter (is_undelivered hs) (range_with_len (suc k + 1) (length ds))))
    by true most rest = omega (arith, most, rest)
    by false most rest = omega (arith, most, rest)

pub weight_of_undelivered : (base : List Step) → undelivered_weight base ≤ 2 * length (undelivered_after base)
weight_of_undelivered base = weigh_filter (happenings_of base) 0 (posted_in base)

pub weight_of_posted : (base : List Step) → undelivered_weight base ≤ 2 * length (posted_in base)
weight_of_posted base = of (happenings_of base) 0 (posted_in base)
  where
    of : (hs : List HappeningView) (k : ℕ) (ds : List DatagramView) → weigh hs k ds ≤ 2 * length ds
    of hs k [] = omega arith
    of hs k (d ∷ ds) = let one = at_most (is_undelivered hs (suc k)) (weight d) in let most = most_weight (packet_in d.bytes) in let rest = of hs (suc k) ds in omega (arith, one, most, rest)

-- ---- bytes

all_posted_carry : (base : List Step) → AllCarryBytes base → AllByRecursion CarriesBytes (posted_in base)
all_posted_carry [] carry = tt
all_posted_carry (s ∷ base) carry = all_append CarriesBytes (posted_in base) s.posts (all_posted_carry base carry.1) carry.0.0

member_carries : (ds : List DatagramView) (i : ℕ) (d : DatagramView) → slice_get ds i ≡ Some d → AllByRecursion CarriesBytes ds → CarriesBytes d
member_carries [] i d e all = absurd cc
member_carries (x ∷ xs) zero d e all = let same : x ≡ d = cc in subst (λ (y : DatagramView). CarriesBytes y) same all.0
member_carries (x ∷ xs) (suc i) d e all = member_carries xs i d e all.1

pub posted_carries : (base : List Step) (n : ℕ) (d : DatagramView) → AllCarryBytes base → numbered (posted_in base) n ≡ Some d → CarriesBytes d
posted_carries base zero d carry e = absurd cc
posted_carries base (suc k) d carry e = member_carries (posted_in base) k d (sym (numbered_is (posted_in base) k) ∙ e) (all_posted_carry base carry)
