-- What is posted and not delivered, and the queue of a run.
use Rattle.std.proofs.Common.{add-one, ◌≡◌, ℕ, zero, suc, ◌+◌, ◌-◌, ◌<◌, ◌≤◌, Bool, true, false, cond, List, [], ◌∷◌, ◌++◌, length, drop, Option, Some, None, refl, sym, ap, ◌∙◌, arith, ◌⊎◌, inl, inr}
use Rattle.std.specs.Prelude.{slice_get}
use Rattle.std.proofs.lemmas.List.{drop-append-le}
use Rattle.exchange_trace.specs.Happenings.{DatagramView}
use Rattle.exchange_trace.specs.Posts.{numbered}
use Rattle.transfer_completion.specs.Replies.{acknowledges, weight, IsLighter, IsOld}
use Rattle.transfer_completion.proofs.BlockLemmas.{eq_false}

-- ---- weights

abbrev pub total : List DatagramView → ℕ
total [] = 0
total (d ∷ ds) = weight d + total ds

total_more : (ds es : List DatagramView) → total (ds ++ es) ≡ total ds + total es
total_more [] es = omega arith
total_more (d ∷ ds) es = let e = total_more ds es in omega arith

by_ack : (b : Bool) → 0 < cond b 1 2
by_ack true = omega arith
by_ack false = omega arith

pub some_weight : (d : DatagramView) → 0 < weight d
some_weight d = by_ack (acknowledges d)

new_total : (all new : List DatagramView) (d : DatagramView) → IsOld all new → IsLighter d new → total new < weight d
new_total all [] d old light = some_weight d
new_total all (e ∷ []) d old light = omega (arith, light)
new_total all (e ∷ f ∷ ds) d old light = absurd old

pub falls : (all ds new : List DatagramView) (d : DatagramView) → IsOld all new → IsLighter d new → total (ds ++ new) < total (d ∷ ds)
falls all ds new d old light = let e = total_more ds new in let f = new_total all new d old light in omega arith

-- ---- queues

-- these stand in the queue in their order, perhaps with others between
abbrev pub Queued : List DatagramView → List DatagramView → Type 0
Queued [] queue = Unit {0}
Queued (d ∷ ds) [] = ⊥
Queued (d ∷ ds) (q ∷ queue) = ((q ≡ d) × Queued ds queue) ⊎ Queued (d ∷ ds) queue

pub queued_tail : (x : DatagramView) (xs queue : List DatagramView) → Queued (x ∷ xs) queue → Queued xs queue
queued_tail x [] queue h = tt
queued_tail x (y ∷ ys) [] h = absurd h
queued_tail x (y ∷ ys) (q ∷ queue) (inl h) = inr h.1
queued_tail x (y ∷ ys) (q ∷ queue) (inr h) = inr (queued_tail x (y ∷ ys) queue h)

-- behind the head
pub queued_behind : (x q : DatagramView) (xs queue : List DatagramView) → Queued (x ∷ xs) (q ∷ queue) → Queued xs queue
queued_behind x q xs queue (inl h) = h.1
queued_behind x q xs queue (inr h) = queued_tail x xs queue h

pub queued_wider : (xs queue new : List DatagramView) → Queued xs queue → Queued xs (queue ++ new)
queued_wider [] queue new h = tt
queued_wider (x ∷ xs) [] new h = absurd h
queued_wider (x ∷ xs) (q ∷ queue) new (inl h) = inl (h.0, queued_wider xs queue new h.1)
queued_wider (x ∷ xs) (q ∷ queue) new (inr h) = inr (queued_wider (x ∷ xs) queue new h)

queued_itself : (new : List DatagramView) → Queued new new
queued_itself [] = tt
queued_itself (x ∷ xs) = inl (refl, queued_itself xs)

right_of : (new : List DatagramView) (q : DatagramView) (queue : List DatagramView) → Queued new queue → Queued new (q ∷ queue)
right_of [] q queue h = tt
right_of (x ∷ xs) q queue h = inr h

pub queued_right : (queue new : List DatagramView) → Queued new (queue ++ new)
queued_right [] new = queued_itself new
queued_right (q ∷ queue) new = right_of new q (queue ++ new) (queued_right queue new)

pub queued_both : (xs queue new : List DatagramView) → Queued xs queue → Queued (xs ++ new) (queue ++ new)
queued_both [] queue new h = queued_right queue new
queued_both (x ∷ xs) [] new h = absurd h
queued_both (x ∷ xs) (q ∷ queue) new (inl h) = inl (h.0, queued_both xs queue new h.1)
queued_both (x ∷ xs) (q ∷ queue) new (inr h) = inr (queued_both (x ∷ xs) queue new h)

-- another one goes first
pub queued_past : (x q : DatagramView) (xs queue new : List DatagramView) → (q ≡ x → ⊥) → Queued (x ∷ xs) (q ∷ queue) → Queued (x ∷ xs) (queue ++ new)
queued_past x q xs queue new differ (inl h) = absurd (differ h.0)
queued_past x q xs queue new differ (inr h) = queued_wider (x ∷ xs) queue new h

-- ---- what is ahead

drop_get : (ds : List DatagramView) (n : ℕ) (d : DatagramView) → slice_get ds n ≡ Some d → (drop n ds ≡ d ∷ drop (suc n) ds) × (n < length ds)
drop_get [] n d e = absurd cc
drop_get (x ∷ xs) zero d e = (ap (λ (y : DatagramView). y ∷ xs) cc, omega arith)
drop_get (x ∷ xs) (suc n) d e = let h = drop_get xs n d e in (h.0, omega (arith, h.1))

get_none : (ds : List DatagramView) (n : ℕ) → slice_get ds n ≡ None → length ds ≤ n
get_none [] n e = omega arith
get_none (x ∷ xs) zero e = absurd cc
get_none (x ∷ xs) (suc n) e = let h = get_none xs n e in omega (arith, h)

pub numbered_is : (ds : List DatagramView) (n : ℕ) → numbered ds (n + 1) ≡ slice_get ds n
numbered_is ds n = rw (eq_false (n + 1) 0 (λ e. absurd (omega arith))) (ap (λ (k : ℕ). slice_get ds k) (less n))
  where
    less : (n : ℕ) → n + 1 - 1 ≡ n
    less n = omega arith

-- the next one, and those behind it
pub next_drop : (ds : List DatagramView) (n : ℕ) (d : DatagramView) → numbered ds (n + 1) ≡ Some d → (drop n ds ≡ d ∷ drop (n + 1) ds) × (n + 1 ≤ length ds)
next_drop ds n d e = let h = drop_get ds n d (sym (numbered_is ds n) ∙ e) in (rw add-one h.0, omega (arith, h.1))

pub none_drop : (ds : List DatagramView) (n : ℕ) → numbered ds (n + 1) ≡ None → length ds ≤ n
none_drop ds n e = get_none ds n (sym (numbered_is ds n) ∙ e)

-- one is next or not
pub first_or_none : (ds : List DatagramView) (n : ℕ) → ((d : DatagramView) × (numbered ds (n + 1) ≡ Some d)) ⊎ (numbered ds (n + 1) ≡ None)
first_or_none ds n = by (numbered ds (n + 1))
  where
    by : (o : Option DatagramView) → ((d : DatagramView) × (o ≡ Some d)) ⊎ (o ≡ None)
    by None = inr refl
    by (Some d) = inl (d, refl)

pub drop_more : (ds new : List DatagramView) (n : ℕ) → n ≤ length ds → drop n (ds ++ new) ≡ drop n ds ++ new
drop_more ds new n le = drop-append-le n ds new le
