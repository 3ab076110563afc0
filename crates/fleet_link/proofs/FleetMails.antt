-- What a link of a fleet keeps of its datagrams.
use Rattle.std.proofs.Common.{◌≡◌, ◌≢◌, ◌⊎◌, inl, inr, ℕ, zero, suc, ◌+◌, ◌-◌, ◌<◌, ◌≤◌, ◌==◌, Bool, true, false, cond, not, ◌&&◌, ◌||◌, List, [], ◌∷◌, ◌++◌, length, length-append, map, Some, append-nil, eqb-true, eq-eqb, nat_lt, arith, refl, sym, ap, subst, ◌∙◌}
use Rattle.std.specs.Prelude.{slice_get, slice_set}
use Rattle.std.proofs.lemmas.Bool.{eqb-false, ltb-false, ltb-true}
use Rattle.std.proofs.lemmas.List.{append_assoc, length-set, map-append}
use Rattle.exchange_trace.specs.Happenings as happenings
use Rattle.exchange_trace.specs.Happenings.{DatagramView, HappeningView}
use Rattle.exchange_trace.specs.Posts.{delivers, loses, is_undelivered, was_delivered, was_lost}
use Rattle.fleet_trace.specs.FleetTraces.{FleetHappeningView, At_unit}
use Rattle.fleet_trace.specs.FleetPosts.{PostPlace, UnitPost, happenings_of_unit, is_place_undelivered, post_places, post_places_after, posts_of_unit, unit_post}
use Rattle.fleet_trace.proofs.UnitParts.{posts_join}
use Rattle.link_net.specs.Mail.{MailView, NamesPosted, with_given}
use Rattle.fleet_link.specs.declared.fleet_mail.Place.{Place}
use Rattle.fleet_link.specs.FleetMail.{FleetMailView, GivesAt, IsPlaceOfPost, KeepsFleetMail, PostsAt, is_undelivered_in, mail_of, place_view}

-- ---- lists

module _ {A : Type 0} where
  -- what stands at an index of a list of which one member was set
  pub set_read : (xs : List A) (i j : ℕ) (y z : A) → slice_get (slice_set xs i y) j ≡ Some z → ((j ≡ i) × (z ≡ y)) ⊎ ((j ≢ i) × (slice_get xs j ≡ Some z))
  set_read [] i j y z e = absurd cc
  set_read (x ∷ xs) zero zero y z e = inl (refl, cc)
  set_read (x ∷ xs) zero (suc j) y z e = inr (λ same. omega (arith, same), e)
  set_read (x ∷ xs) (suc i) zero y z e = inr (λ same. omega (arith, same), e)
  set_read (x ∷ xs) (suc i) (suc j) y z e = by (set_read xs i j y z e)
    where
      by : ((j ≡ i) × (z ≡ y)) ⊎ ((j ≢ i) × (slice_get xs j ≡ Some z)) → ((suc j ≡ suc i) × (z ≡ y)) ⊎ ((suc j ≢ suc i) × (slice_get xs j ≡ Some z))
      by (inl here) = inl (ap suc here.0, here.1)
      by (inr there) = inr (λ same. there.0 (omega (arith, same)), there.1)

  -- what stands at an index that isn't the one that was set
  pub set_other : (xs : List A) (i j : ℕ) (y : A) → j ≢ i → slice_get (slice_set xs i y) j ≡ slice_get xs j
  set_other [] i j y other = refl
  set_other (x ∷ xs) zero zero y other = absurd (other refl)
  set_other (x ∷ xs) zero (suc j) y other = refl
  set_other (x ∷ xs) (suc i) zero y other = refl
  set_other (x ∷ xs) (suc i) (suc j) y other = set_other xs i j y (λ same. other (ap suc same))

  pub set_same : (xs : List A) (i : ℕ) (y z : A) → slice_get xs i ≡ Some z → slice_get (slice_set xs i y) i ≡ Some y
  set_same [] i y z e = absurd cc
  set_same (x ∷ xs) zero y z e = refl
  set_same (x ∷ xs) (suc i) y z e = set_same xs i y z e

  -- what stands at an index of a list with one member more
  pub more_read : (xs : List A) (k : ℕ) (y z : A) → slice_get (xs ++ y ∷ []) k ≡ Some z → ((k ≡ length xs) × (z ≡ y)) ⊎ ((k < length xs) × (slice_get xs k ≡ Some z))
  more_read [] zero y z e = inl (refl, cc)
  more_read [] (suc k) y z e = absurd cc
  more_read (x ∷ xs) zero y z e = inr (omega arith, e)
  more_read (x ∷ xs) (suc k) y z e = by (more_read xs k y z e)
    where
      by : ((k ≡ length xs) × (z ≡ y)) ⊎ ((k < length xs) × (slice_get xs k ≡ Some z)) → ((suc k ≡ suc (length xs)) × (z ≡ y)) ⊎ ((suc k < suc (length xs)) × (slice_get xs k ≡ Some z))
      by (inl here) = inl (ap suc here.0, here.1)
      by (inr there) = inr (omega (arith, there.0), there.1)

-- ---- places

places_more : (before later : List UnitPost) (p : UnitPost)
    → post_places_after before (later ++ p ∷ []) ≡ post_places_after before later ++ record { unit = p.unit; number = 1 + length (posts_of_unit p.unit (before ++ later)) } ∷ []
places_more before [] p = ap (λ (ps : List UnitPost). record { unit = p.unit; number = 1 + length (posts_of_unit p.unit ps) } ∷ []) (sym (append-nil before))
places_more before (q ∷ later) p =
    ap (λ (ps : List PostPlace). record { unit = q.unit; number = 1 + length (posts_of_unit q.unit before) } ∷ ps)
    (places_more (before ++ q ∷ []) later p
    ∙ ap (λ (ps : List UnitPost). post_places_after (before ++ q ∷ []) later ++ record { unit = p.unit; number = 1 + length (posts_of_unit p.unit ps) } ∷ []) (append_assoc before (q ∷ []) later))

own_more : (unit : ℕ) (posted : List UnitPost) (d : DatagramView) → posts_of_unit unit (posted ++ unit_post unit d ∷ []) ≡ posts_of_unit unit posted ++ d ∷ []
own_more unit posted d = posts_join unit posted (unit_post unit d ∷ []) ∙ ap (λ (ds : List DatagramView). posts_of_unit unit posted ++ ds) (by (unit == unit) (eq-eqb unit unit refl))
  where
    by : (b : Bool) → b ≡ true → cond b (d ∷ []) [] ≡ d ∷ []
    by true e = refl
    by false e = absurd cc

others_stay : (unit whose : ℕ) (posted : List UnitPost) (d : DatagramView) → whose ≢ unit → posts_of_unit unit (posted ++ unit_post whose d ∷ []) ≡ posts_of_unit unit posted
others_stay unit whose posted d other =
    posts_join unit posted (unit_post whose d ∷ []) ∙ (ap (λ (ds : List DatagramView). posts_of_unit unit posted ++ ds) (by (whose == unit) refl) ∙ append-nil (posts_of_unit unit posted))
  where
    by : (b : Bool) → (whose == unit) ≡ b → cond b (d ∷ []) [] ≡ []
    by true e = absurd (other (eqb-true whose unit e))
    by false e = refl

-- ---- a datagram is posted

seen : List DatagramView → List HappeningView → MailView
seen ds hs = record { posted = ds; given = hs }

module _ (mails new : List MailView) (kept : List Place) (least : ℕ) (mail : FleetMailView) (is : KeepsFleetMail mails kept least mail)
    (place : Place) (d : DatagramView) (low : 1 ≤ place.unit) (posts : PostsAt (place.unit - 1) d place.number mails new) where
  after_post : FleetMailView
  after_post = record { posted = mail.posted ++ unit_post place.unit d ∷ []; given = mail.given }

  with_one : MailView
  with_one = record { posted = posts.mail.posted ++ d ∷ []; given = posts.mail.given }

  own : posts.mail ≡ mail_of place.unit mail
  own = let at : place.unit - 1 + 1 ≡ place.unit = omega (arith, low) in is.each_mail (place.unit - 1) posts.mail posts.there ∙ ap (λ unit. mail_of unit mail) at

  own_after : with_one ≡ mail_of place.unit after_post
  unfolding after_post with_one seen
  own_after =
      ap (λ (m : MailView). seen (m.posted ++ d ∷ []) m.given) own
      ∙ ap (λ (ds : List DatagramView). seen ds (happenings_of_unit place.unit mail.given)) (sym (own_more place.unit mail.posted d))

  number_is : place.number ≡ 1 + length (posts_of_unit place.unit mail.posted)
  number_is = let count : length posts.mail.posted ≡ length (posts_of_unit place.unit mail.posted) = ap (λ (m : MailView). length m.posted) own in let next = posts.next in omega (arith, count, next)

  each_mail_after : (i : ℕ) (m : MailView) → slice_get new i ≡ Some m → m ≡ mail_of (i + 1) after_post
  unfolding after_post with_one seen
  each_mail_after i m e = by (set_read mails (place.unit - 1) i with_one m (subst (λ (ms : List MailView). slice_get ms i ≡ Some m) posts.kept e))
    where
      by : ((i ≡ place.unit - 1) × (m ≡ with_one)) ⊎ ((i ≢ place.unit - 1) × (slice_get mails i ≡ Some m)) → m ≡ mail_of (i + 1) after_post
      by (inl here) =
          let at : place.unit ≡ i + 1 = let same = here.0 in omega (arith, low, same) in
          here.1 ∙ (own_after ∙ ap (λ unit. mail_of unit after_post) at)
      by (inr there) =
          let other : place.unit ≢ i + 1 = λ same. there.0 (omega (arith, low, same)) in
          is.each_mail i m there.1
          ∙ ap (λ (ds : List DatagramView). seen ds (happenings_of_unit (i + 1) mail.given)) (sym (others_stay (i + 1) place.unit mail.posted d other))

  each_place_after : map place_view (kept ++ place ∷ []) ≡ post_places after_post.posted
  unfolding after_post
  each_place_after =
      map-append place_view kept (place ∷ [])
      ∙ (ap (λ (ps : List PostPlace). ps ++ place_view place ∷ []) is.each_place
      ∙ (ap (λ (n : ℕ). post_places mail.posted ++ record { unit = place.unit; number = n } ∷ []) number_is ∙ sym (places_more [] mail.posted (unit_post place.unit d))))

  still_placed : (p : Place) → IsPlaceOfPost mails p → IsPlaceOfPost new p
  unfolding with_one
  still_placed p at = by (p.unit - 1 == place.unit - 1) refl
    where
      by : (b : Bool) → (p.unit - 1 == place.unit - 1) ≡ b → IsPlaceOfPost new p
      by true e =
          let same : p.unit - 1 ≡ place.unit - 1 = eqb-true (p.unit - 1) (place.unit - 1) e in
          let mails_same : at.mail ≡ posts.mail = let here : Some at.mail ≡ Some posts.mail = sym at.there ∙ (ap (slice_get mails) same ∙ posts.there) in cc in
          let longer = length-append posts.mail.posted (d ∷ []) in
          let within : p.number ≤ length posts.mail.posted = subst (λ (m : MailView). p.number ≤ length m.posted) mails_same at.within in
          record {
            unit = at.unit;
            number = at.number;
            mail = with_one;
            there = subst (λ (ms : List MailView). slice_get ms (p.unit - 1) ≡ Some with_one) (sym posts.kept) (subst (λ i. slice_get (slice_set mails (place.unit - 1) with_one) i ≡ Some with_one) (sym same) (set_same mails (place.unit - 1) with_one posts.mail posts.there));
            within = omega (arith, longer, within);
          }
      by false e =
          record {
            unit = at.unit;
            number = at.number;
            mail = at.mail;
            there = subst (λ (ms : List MailView). slice_get ms (p.unit - 1) ≡ Some at.mail) (sym posts.kept) (set_other mails (place.unit - 1) (p.unit - 1) with_one (eqb-false (p.unit - 1) (place.unit - 1) e) ∙ at.there);
            within = at.within;
          }

  now_placed : IsPlaceOfPost new place
  unfolding with_one
  now_placed =
      let longer = length-append posts.mail.posted (d ∷ []) in
      let next = posts.next in
      record {
        unit = low;
        number = omega (arith, next);
        mail = with_one;
        there = subst (λ (ms : List MailView). slice_get ms (place.unit - 1) ≡ Some with_one) (sym posts.kept) (set_same mails (place.unit - 1) with_one posts.mail posts.there);
        within = omega (arith, longer, next);
      }

  pub keeps_fleet_posted : KeepsFleetMail new (kept ++ place ∷ []) least (record { posted = mail.posted ++ unit_post place.unit d ∷ []; given = mail.given })
  unfolding after_post with_one
  keeps_fleet_posted =
      let longer = length-append kept (place ∷ []) in
      let within = is.within in
      record {
        units = ap length posts.kept ∙ (length-set mails (place.unit - 1) with_one ∙ is.units);
        each_mail = each_mail_after;
        each_place = each_place_after;
        placed = λ k p e. placed_one p (more_read kept k place p e);
        within = omega (arith, longer, within);
        before = λ k p lt e. before_one k p lt (more_read kept k place p e);
        found = λ p e. found_one p (more_read kept least place p e);
        named = λ unit n later. is.named unit n (fewer unit n later);
      }
    where
      placed_one : {k : ℕ} (p : Place) → ((k ≡ length kept) × (p ≡ place)) ⊎ ((k < length kept) × (slice_get kept k ≡ Some p)) → IsPlaceOfPost new p
      placed_one p (inl here) = subst (λ q. IsPlaceOfPost new q) (sym here.1) now_placed
      placed_one p (inr there) = still_placed p (is.placed _ p there.1)

      before_one : (k : ℕ) (p : Place) → k < least → ((k ≡ length kept) × (p ≡ place)) ⊎ ((k < length kept) × (slice_get kept k ≡ Some p)) → is_place_undelivered mail.given (place_view p) ≡ false
      before_one k p lt (inl here) = let end = here.0 in let within = is.within in absurd (omega (arith, end, lt, within))
      before_one k p lt (inr there) = is.before k p lt there.1

      found_one : (p : Place) → ((least ≡ length kept) × (p ≡ place)) ⊎ ((least < length kept) × (slice_get kept least ≡ Some p)) → is_place_undelivered mail.given (place_view p) ≡ true
      found_one p (inl here) =
          subst (λ q. is_place_undelivered mail.given (place_view q) ≡ true) (sym here.1) (is.named place.unit place.number (omega (arith, number_is)))
      found_one p (inr there) = is.found p there.1

      fewer : (unit n : ℕ) → length (posts_of_unit unit (mail.posted ++ unit_post place.unit d ∷ [])) < n → length (posts_of_unit unit mail.posted) < n
      fewer unit n more =
          let joined = ap length (posts_join unit mail.posted (unit_post place.unit d ∷ [])) in
          let longer = length-append (posts_of_unit unit mail.posted) (posts_of_unit unit (unit_post place.unit d ∷ [])) in
          omega (arith, joined, longer, more)

-- ---- something is given

passed_stays : (a b x y : Bool) → (not x && not y) ≡ false → (not (a || x) && not (b || y)) ≡ false
passed_stays true b x y e = refl
passed_stays false true true y e = refl
passed_stays false true false y e = refl
passed_stays false false x y e = e

-- what isn't undelivered any more at its unit stays so
stays_passed : (unit : ℕ) (h : HappeningView) (given : List FleetHappeningView) (p : PostPlace) → is_place_undelivered given p ≡ false → is_place_undelivered (At_unit unit h ∷ given) p ≡ false
stays_passed unit h given p e = by (unit == p.unit)
  where
    by : (b : Bool) → is_undelivered (cond b (h ∷ happenings_of_unit p.unit given) (happenings_of_unit p.unit given)) p.number ≡ false
    by true = passed_stays (delivers p.number h) (loses p.number h) (was_delivered p.number (happenings_of_unit p.unit given)) (was_lost p.number (happenings_of_unit p.unit given)) e
    by false = e

-- what isn't named by it stays undelivered
not_named : (count n : ℕ) (h : HappeningView) (hs : List HappeningView) → NamesPosted count h → count < n → is_undelivered hs n ≡ true → is_undelivered (h ∷ hs) n ≡ true
not_named count n (happenings.Delivered side k) hs named later e = by (k == n) refl
  where
    by : (b : Bool) → (k == n) ≡ b → (not (b || was_delivered n hs) && not (false || was_lost n hs)) ≡ true
    by true same = let is = eqb-true k n same in let high = named.1 in absurd (omega (arith, is, high, later))
    by false other = e
not_named count n (happenings.Lost k) hs named later e = by (k == n) refl
  where
    by : (b : Bool) → (k == n) ≡ b → (not (false || was_delivered n hs) && not (b || was_lost n hs)) ≡ true
    by true same = let is = eqb-true k n same in let high = named.1 in absurd (omega (arith, is, high, later))
    by false other = e
not_named count n (happenings.Injected d) hs named later e = e
not_named count n (happenings.Ticked side) hs named later e = e
not_named count n (happenings.Size_told size) hs named later e = e
not_named count n (happenings.Power_cut calls pick) hs named later e = e
not_named count n happenings.Booted hs named later e = e
not_named count n (happenings.Info_started hw pos) hs named later e = e
not_named count n (happenings.Upload_started hw pos parts) hs named later e = e
not_named count n happenings.Ended hs named later e = e

module _ (mails new : List MailView) (kept : List Place) (least : ℕ) (mail : FleetMailView) (is : KeepsFleetMail mails kept least mail)
    (unit : ℕ) (h : HappeningView) (low : 1 ≤ unit) (gives : GivesAt (unit - 1) h mails new) where
  after_gift : FleetMailView
  after_gift = record { posted = mail.posted; given = At_unit unit h ∷ mail.given }

  own_gift : gives.mail ≡ mail_of unit mail
  own_gift = let at : unit - 1 + 1 ≡ unit = omega (arith, low) in is.each_mail (unit - 1) gives.mail gives.there ∙ ap (λ n. mail_of n mail) at

  each_mail_given : (i : ℕ) (m : MailView) → slice_get new i ≡ Some m → m ≡ mail_of (i + 1) after_gift
  unfolding after_gift seen
  each_mail_given i m e = by (set_read mails (unit - 1) i (with_given gives.mail h) m (subst (λ (ms : List MailView). slice_get ms i ≡ Some m) gives.kept e))
    where
      here_too : (b : Bool) → (unit == unit) ≡ b → h ∷ happenings_of_unit unit mail.given ≡ cond b (h ∷ happenings_of_unit unit mail.given) (happenings_of_unit unit mail.given)
      here_too true same = refl
      here_too false other = absurd (let same : (unit == unit) ≡ true = eq-eqb unit unit refl in let both : true ≡ false = sym same ∙ other in cc)

      elsewhere : (b : Bool) → (unit == (i + 1)) ≡ b → unit ≢ i + 1 → happenings_of_unit (i + 1) mail.given ≡ cond b (h ∷ happenings_of_unit (i + 1) mail.given) (happenings_of_unit (i + 1) mail.given)
      elsewhere true same other = absurd (other (eqb-true unit (i + 1) same))
      elsewhere false e other = refl

      by : ((i ≡ unit - 1) × (m ≡ with_given gives.mail h)) ⊎ ((i ≢ unit - 1) × (slice_get mails i ≡ Some m)) → m ≡ mail_of (i + 1) after_gift
      by (inl here) =
          let at : unit ≡ i + 1 = let same = here.0 in omega (arith, low, same) in
          here.1
          ∙ (ap (λ (n : MailView). seen n.posted (h ∷ n.given)) own_gift
          ∙ (ap (λ (hs : List HappeningView). seen (posts_of_unit unit mail.posted) hs) (here_too (unit == unit) refl) ∙ ap (λ n. mail_of n after_gift) at))
      by (inr there) =
          let other : unit ≢ i + 1 = λ same. there.0 (omega (arith, low, same)) in
          is.each_mail i m there.1 ∙ ap (λ (hs : List HappeningView). seen (posts_of_unit (i + 1) mail.posted) hs) (elsewhere (unit == (i + 1)) refl other)

  pub stays_placed : (p : Place) → IsPlaceOfPost mails p → IsPlaceOfPost new p
  stays_placed p at = by (p.unit - 1 == unit - 1) refl
    where
      by : (b : Bool) → (p.unit - 1 == unit - 1) ≡ b → IsPlaceOfPost new p
      by true e =
          let same : p.unit - 1 ≡ unit - 1 = eqb-true (p.unit - 1) (unit - 1) e in
          let mails_same : at.mail ≡ gives.mail = let here : Some at.mail ≡ Some gives.mail = sym at.there ∙ (ap (slice_get mails) same ∙ gives.there) in cc in
          record {
            unit = at.unit;
            number = at.number;
            mail = with_given gives.mail h;
            there = subst (λ (ms : List MailView). slice_get ms (p.unit - 1) ≡ Some (with_given gives.mail h)) (sym gives.kept)
                (subst (λ i. slice_get (slice_set mails (unit - 1) (with_given gives.mail h)) i ≡ Some (with_given gives.mail h)) (sym same) (set_same mails (unit - 1) (with_given gives.mail h) gives.mail gives.there));
            within = subst (λ (m : MailView). p.number ≤ length m.posted) mails_same at.within;
          }
      by false e =
          record {
            unit = at.unit;
            number = at.number;
            mail = at.mail;
            there = subst (λ (ms : List MailView). slice_get ms (p.unit - 1) ≡ Some at.mail) (sym gives.kept) (set_other mails (unit - 1) (p.unit - 1) (with_given gives.mail h) (eqb-false (p.unit - 1) (unit - 1) e) ∙ at.there);
            within = at.within;
          }

  -- in the new mails a datagram is undelivered where it is at its unit
  undelivered_new : (p : Place) → IsPlaceOfPost new p → is_undelivered_in new p ≡ is_place_undelivered after_gift.given (place_view p)
  unfolding after_gift
  undelivered_new p at =
      let low_here = at.unit in
      let back : p.unit - 1 + 1 ≡ p.unit = omega (arith, low_here) in
      let own : at.mail ≡ mail_of p.unit after_gift = each_mail_given (p.unit - 1) at.mail at.there ∙ ap (λ n. mail_of n after_gift) back in
      rw at.there (ap (λ (m : MailView). is_undelivered m.given p.number) own)

  pub keeps_fleet_given : (at : ℕ) → NamesPosted (length (posts_of_unit unit mail.posted)) h → at ≤ length kept
      → ((k : ℕ) (p : Place) → least ≤ k → k < at → slice_get kept k ≡ Some p → is_undelivered_in new p ≡ false)
      → ((p : Place) → slice_get kept at ≡ Some p → is_undelivered_in new p ≡ true)
      → KeepsFleetMail new kept at (record { posted = mail.posted; given = At_unit unit h ∷ mail.given })
  unfolding after_gift
  keeps_fleet_given at named within passed found =
      record {
        units = ap length gives.kept ∙ (length-set mails (unit - 1) (with_given gives.mail h) ∙ is.units);
        each_mail = each_mail_given;
        each_place = is.each_place;
        placed = λ k p e. stays_placed p (is.placed k p e);
        within = within;
        before = λ k p lt e. before_one k p lt e (nat_lt k least) refl;
        found = λ p e. sym (undelivered_new p (stays_placed p (is.placed at p e))) ∙ found p e;
        named = λ whose n later. named_one whose n later (unit == whose) refl;
      }
    where
      before_one : (k : ℕ) (p : Place) → k < at → slice_get kept k ≡ Some p → (b : Bool) → nat_lt k least ≡ b → is_place_undelivered (At_unit unit h ∷ mail.given) (place_view p) ≡ false
      before_one k p lt e true less = stays_passed unit h mail.given (place_view p) (is.before k p (ltb-true _ _ less) e)
      before_one k p lt e false more = sym (undelivered_new p (stays_placed p (is.placed k p e))) ∙ passed k p (ltb-false _ _ more) lt e

      named_one : (whose n : ℕ) → length (posts_of_unit whose mail.posted) < n → (b : Bool) → (unit == whose) ≡ b → is_undelivered (cond b (h ∷ happenings_of_unit whose mail.given) (happenings_of_unit whose mail.given)) n ≡ true
      named_one whose n later true same =
          let is_own = eqb-true unit whose same in
          not_named (length (posts_of_unit whose mail.posted)) n h (happenings_of_unit whose mail.given) (subst (λ w. NamesPosted (length (posts_of_unit w mail.posted)) h) is_own named) later (is.named whose n later)
      named_one whose n later false other = is.named whose n later
