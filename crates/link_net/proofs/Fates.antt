-- What became of the datagrams that a link was posted.
use Rattle.std.proofs.Common.{◌≡◌, ◌≢◌, ℕ, zero, suc, ◌+◌, ◌-◌, ◌<◌, ◌≤◌, ◌==◌, Bool, true, false, not, cond, nat_lt, ◌&&◌, ◌||◌, List, [], ◌∷◌, ◌++◌, filter, length, map, reverse, get_or, None, refl, sym, ap, subst, ◌∙◌, arith, if◌then◌else◌}
use Rattle.std.specs.List.{range_with_len, slice_set}
use Rattle.std.proofs.lemmas.Bool.{eqb-true, eqb-false, ltb-true, ltb-false}
use Rattle.std.proofs.lemmas.List.{get_or-set_same, get_or-set_other, get_or_past, length-append, length-set, map-append, reverse-append}
use Rattle.exchange_trace.specs.Happenings as happenings
use Rattle.exchange_trace.specs.Happenings.{HappeningView, happening_view}
use Rattle.exchange_trace.specs.declared.trace.Happening.{Happening}
use Rattle.exchange_trace.specs.Posts.{is_undelivered, undelivered, was_delivered, was_lost}
use Rattle.exchange_trace.specs.Following.{Scene, delivery, delivery_of_first, least_delivery}
use Rattle.link_net.specs.declared.mail.Fate.{Fate}
use Rattle.link_net.specs.declared.mail.Fate.TheVariants.{Undelivered, Lost, Delivered}
use Rattle.link_net.specs.Mail.{AreFatesKept, NamesPosted, after_loss, fate_of, fates_after, given_in}

-- ---- a datagram is posted

one_undelivered : (fates : List Fate) (k : ℕ) → get_or (fates ++ Undelivered ∷ []) k Undelivered ≡ get_or fates k Undelivered
one_undelivered [] zero = refl
one_undelivered [] (suc k) = refl
one_undelivered (fate ∷ fates) zero = refl
one_undelivered (fate ∷ fates) (suc k) = one_undelivered fates k

pub keeps_posted : (count : ℕ) (fates : List Fate) (least : ℕ) (given : List HappeningView) → AreFatesKept count fates least given
    → AreFatesKept (count + 1) (fates ++ Undelivered ∷ []) least given
keeps_posted count fates least given h =
    let counted = h.counted in
    let within = h.within in
    record {
      counted = length-append fates (Undelivered ∷ []) ∙ ap (λ n. n + 1) counted;
      kept = λ k. one_undelivered fates k ∙ h.kept k;
      within = omega arith;
      before = h.before;
      found = one_undelivered fates least ∙ h.found;
    }

-- ---- something is given

is_passed : (a b x y : Bool) → (not x && not y) ≡ false → (not (a || x) && not (b || y)) ≡ false
is_passed false false x y e = e
is_passed false true false y e = refl
is_passed false true true y e = refl
is_passed true b x y e = refl

delivered_now : (b : Bool) (given : List HappeningView) (n : ℕ) → (if b || was_delivered n given then Delivered else if was_lost n given then Lost else Undelivered) ≡ (if b then Delivered else fate_of given n)
delivered_now true given n = refl
delivered_now false given n = refl

lost_now : (b x y : Bool) → (if x then Delivered else if b || y then Lost else Undelivered) ≡ (if b then after_loss (if x then Delivered else if y then Lost else Undelivered) else (if x then Delivered else if y then Lost else Undelivered))
lost_now true true y = refl
lost_now true false true = refl
lost_now true false false = refl
lost_now false x y = refl

-- one fate is set
set_one : (fates : List Fate) (n k : ℕ) (fate : Fate) → 1 ≤ n → n ≤ length fates
    → get_or (slice_set fates (n - 1) fate) k Undelivered ≡ (if n == (k + 1) then fate else get_or fates k Undelivered)
set_one fates n k fate low high = by (n == (k + 1)) refl
  where
    by : (b : Bool) → (n == (k + 1)) ≡ b → get_or (slice_set fates (n - 1) fate) k Undelivered ≡ cond b fate (get_or fates k Undelivered)
    by true e =
        let same = eqb-true n (k + 1) e in
        let at : n - 1 ≡ k = omega arith in
        rw at (get_or-set_same fates k fate Undelivered (omega arith))
    by false e =
        let other = eqb-false n (k + 1) e in
        get_or-set_other fates (n - 1) k fate Undelivered (λ same. other (omega arith))

lost_one : (fates : List Fate) (given : List HappeningView) (n k : ℕ) → get_or fates k Undelivered ≡ fate_of given (k + 1) → 1 ≤ n → (b : Bool) → (n == (k + 1)) ≡ b
    → cond b (after_loss (get_or fates (n - 1) Undelivered)) (get_or fates k Undelivered) ≡ cond b (after_loss (fate_of given (k + 1))) (fate_of given (k + 1))
lost_one fates given n k kept low true e =
    let same = eqb-true n (k + 1) e in
    let at : n - 1 ≡ k = omega arith in
    rw at (ap after_loss kept)
lost_one fates given n k kept low false e = kept

-- one happening more
pub one_given : (log : List (Happening × Unit {0})) (given : Happening) → given_in (log ++ (given, tt) ∷ []) ≡ happening_view given ∷ given_in log
one_given log given = ap reverse (map-append (λ entry. happening_view entry.0) log ((given, tt) ∷ [])) ∙ reverse-append (map (λ entry. happening_view entry.0) log) (happening_view given ∷ [])

-- what is kept once a happening was marked, and before the first undelivered datagram is looked for again
record IsMarked (count : ℕ) (fates : List Fate) (least : ℕ) (given : List HappeningView) : Type 0 where
  counted : length fates ≡ count
  kept : (k : ℕ) → get_or fates k Undelivered ≡ fate_of given (k + 1)
  before : (k : ℕ) → k < least → is_undelivered given (k + 1) ≡ false

marked : (count : ℕ) (fates : List Fate) (least : ℕ) (given : List HappeningView) (g : HappeningView) → AreFatesKept count fates least given → NamesPosted count g
    → IsMarked count (fates_after fates g) least (g ∷ given)
marked count fates least given (happenings.Delivered side n) is named =
    let counted = is.counted in
    let low = named.0 in
    let high = named.1 in
    record {
      counted = length-set fates (n - 1) Delivered ∙ counted;
      kept = λ k. set_one fates n k Delivered low (omega arith) ∙ (ap (λ fate. if n == (k + 1) then Delivered else fate) (is.kept k) ∙ sym (delivered_now (n == (k + 1)) given (k + 1)));
      before = λ k lt. is_passed (n == (k + 1)) false (was_delivered (k + 1) given) (was_lost (k + 1) given) (is.before k lt);
    }
marked count fates least given (happenings.Lost n) is named =
    let counted = is.counted in
    let low = named.0 in
    let high = named.1 in
    record {
      counted = length-set fates (n - 1) (after_loss (get_or fates (n - 1) Undelivered)) ∙ counted;
      kept = λ k. set_one fates n k (after_loss (get_or fates (n - 1) Undelivered)) low (omega arith)
          ∙ (lost_one fates given n k (is.kept k) low (n == (k + 1)) refl ∙ sym (lost_now (n == (k + 1)) (was_delivered (k + 1) given) (was_lost (k + 1) given)));
      before = λ k lt. is_passed false (n == (k + 1)) (was_delivered (k + 1) given) (was_lost (k + 1) given) (is.before k lt);
    }
marked count fates least given (happenings.Injected d) is named = record { counted = is.counted; kept = is.kept; before = is.before }
marked count fates least given (happenings.Ticked side) is named = record { counted = is.counted; kept = is.kept; before = is.before }
marked count fates least given (happenings.Size_told size) is named = record { counted = is.counted; kept = is.kept; before = is.before }
marked count fates least given (happenings.Power_cut calls pick) is named = record { counted = is.counted; kept = is.kept; before = is.before }
marked count fates least given happenings.Booted is named = record { counted = is.counted; kept = is.kept; before = is.before }
marked count fates least given (happenings.Info_started hw pos) is named = record { counted = is.counted; kept = is.kept; before = is.before }
marked count fates least given (happenings.Upload_started hw pos parts) is named = record { counted = is.counted; kept = is.kept; before = is.before }
marked count fates least given happenings.Ended is named = record { counted = is.counted; kept = is.kept; before = is.before }

-- ---- the least undelivered datagram

module _ (p : ℕ → Bool) where
  passed_over : (a n m : ℕ) → m ≤ n → ((k : ℕ) → k < m → p (a + k) ≡ false) → filter p (range_with_len a n) ≡ filter p (range_with_len (a + m) (n - m))
  passed_over a n zero le none = let e : a + 0 ≡ a = omega arith in let f : n - 0 ≡ n = omega arith in rw (e, f) refl
  passed_over a zero (suc m) le none = absurd (omega arith)
  passed_over a (suc n) (suc m) le none =
      let here : p a ≡ false = let e : a + 0 ≡ a = omega arith in subst (λ x. p x ≡ false) e (none 0 (omega arith)) in
      let there : a + suc m ≡ a + 1 + m = omega arith in
      let rest : suc n - suc m ≡ n - m = omega arith in
      rw (here, there, rest) (passed_over (a + 1) n m (omega arith) (λ k lt. let e : a + suc k ≡ a + 1 + k = omega arith in subst (λ x. p x ≡ false) e (none (suc k) (omega arith))))

undelivered_fate : (x y : Bool) → (if x then Delivered else if y then Lost else Undelivered) ≡ Undelivered → (not x && not y) ≡ true
undelivered_fate false false e = refl
undelivered_fate false true e = absurd cc
undelivered_fate true y e = absurd cc

other_fate : (x y : Bool) → (if x then Delivered else if y then Lost else Undelivered) ≢ Undelivered → (not x && not y) ≡ false
other_fate false false e = absurd (e refl)
other_fate false true e = refl
other_fate true y e = refl

-- where the first undelivered datagram is looked for from the one that was it before, those that are passed over aren't
-- undelivered
pub keeps_given : (count : ℕ) (fates : List Fate) (least at : ℕ) (given : List HappeningView) (g : HappeningView) → AreFatesKept count fates least given → NamesPosted count g
    → at ≤ count → ((k : ℕ) → least ≤ k → k < at → get_or (fates_after fates g) k Undelivered ≢ Undelivered) → get_or (fates_after fates g) at Undelivered ≡ Undelivered
    → AreFatesKept count (fates_after fates g) at (g ∷ given)
keeps_given count fates least at given g is named le passed found =
    record { counted = now.counted; kept = now.kept; within = le; before = λ k lt. by k lt (nat_lt k least) refl; found = found }
  where
    now : IsMarked count (fates_after fates g) least (g ∷ given)
    now = marked count fates least given g is named

    by : (k : ℕ) → k < at → (b : Bool) → nat_lt k least ≡ b → is_undelivered (g ∷ given) (k + 1) ≡ false
    by k lt true e = now.before k (ltb-true _ _ e)
    by k lt false e =
        other_fate (was_delivered (k + 1) (g ∷ given)) (was_lost (k + 1) (g ∷ given)) (λ undelivered. passed k (ltb-false _ _ e) lt (now.kept k ∙ undelivered))

-- the same of a slice of the fates, as the code looks at it
pub next_of : (count : ℕ) (fates slice : List Fate) (least at : ℕ) (given : List HappeningView) (g : HappeningView) → AreFatesKept count fates least given → NamesPosted count g
    → slice ≡ fates_after fates g → at ≤ length slice → ((k : ℕ) → least ≤ k → k < at → get_or slice k Undelivered ≢ Undelivered)
    → (at < length slice → get_or slice at Undelivered ≡ Undelivered) → AreFatesKept count (fates_after fates g) at (g ∷ given)
next_of count fates slice least at given g is named same le passed found =
    keeps_given count fates least at given g is named (omega (arith, le, ap length same, counted)) (λ k low high. subst (λ fs. get_or fs k Undelivered ≢ Undelivered) same (passed k low high))
    (subst (λ fs. get_or fs at Undelivered ≡ Undelivered) same (by (nat_lt at (length slice)) refl))
  where
    counted : length (fates_after fates g) ≡ count
    counted = now.counted
      where
        now : IsMarked count (fates_after fates g) least (g ∷ given)
        now = marked count fates least given g is named

    by : (b : Bool) → nat_lt at (length slice) ≡ b → get_or slice at Undelivered ≡ Undelivered
    by true e = found (ltb-true _ _ e)
    by false e = get_or_past slice at Undelivered (ltb-false _ _ e)

module _ (count : ℕ) (fates : List Fate) (at : ℕ) (given : List HappeningView) (is : AreFatesKept count fates at given) where
  passed_all : undelivered count given ≡ filter (is_undelivered given) (range_with_len (1 + at) (count - at))
  passed_all =
      passed_over (is_undelivered given) 1 count at is.within (λ k lt. let e : k + 1 ≡ 1 + k = omega arith in subst (λ n. is_undelivered given n ≡ false) e (is.before k lt))

  none_left : at ≡ count → undelivered count given ≡ []
  none_left e = let none : count - at ≡ 0 = omega arith in passed_all ∙ rw none refl

  least_left : at < count → (rest : List ℕ) × (undelivered count given ≡ (at + 1) ∷ rest)
  least_left lt =
      let more : count - at ≡ suc (count - at - 1) = omega arith in
      let e : 1 + at ≡ at + 1 = omega arith in
      let found = undelivered_fate (was_delivered (at + 1) given) (was_lost (at + 1) given) (sym (is.kept at) ∙ is.found) in
      let last : suc (count - at - 1) - 1 ≡ count - at - 1 = omega arith in
      (filter (is_undelivered given) (range_with_len (at + 1 + 1) (count - at - 1)), passed_all ∙ rw (more, e, found, last) refl)

module _ (s : Scene) (fates : List Fate) (at : ℕ) (is : AreFatesKept (length s.posted) fates at s.happenings) where
  pub least_none : at ≡ length s.posted → least_delivery s ≡ None
  least_none e = ap (delivery_of_first s) (none_left (length s.posted) fates at s.happenings is e)

  pub least_some : at < length s.posted → least_delivery s ≡ delivery s (at + 1)
  least_some lt = ap (delivery_of_first s) (least_left (length s.posted) fates at s.happenings is lt).1
