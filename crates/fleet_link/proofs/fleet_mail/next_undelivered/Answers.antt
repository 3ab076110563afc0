use Rattle.std.proofs.Common.{◌≡◌, ◌<◌, ◌≤◌, ◌+◌, ℕ, Bool, true, false, Some, None, nat_lt, refl, sym, ap, subst, ◌∙◌, arith}
use Rattle.std.specs.Prelude.{slice_get}
use Rattle.std.proofs.lemmas.Bool.{ltb-false, ltb-true}
use Rattle.std.proofs.lemmas.Option.{get_or_from_slice_get, slice_get-get_or, slice_get_past}
use Rattle.fleet_link.specs.declared.fleet_mail.Place.{Place}
use Rattle.fleet_link.specs.FleetMail.{is_undelivered_in}
use Rattle.fleet_link.proofs.fleet_mail.next_undelivered.Goals as goal

pub is_undelivered-requires : goal.is_undelivered-requires
is_undelivered-requires c = c.requires.placed c.loop-at.at _ (slice_get-get_or c.args.places.now c.loop-at.at _ c.loop-at-test.true)

pub loop-at-preserved : goal.loop-at-preserved
loop-at-preserved c =
    let later = c.loop-at.invariant.later in
    let test = c.loop-at-test.true in
    record {
      later = omega (arith, later);
      within = omega (arith, test);
      passed = λ k place from lt e. by k place from lt e (nat_lt k c.loop-at.at) refl;
    }
  where
    by : (k : ℕ) (place : Place) → c.args.from ≤ k → k < c.loop-at.at + 1 → slice_get c.args.places.now k ≡ Some place → (b : Bool) → nat_lt k c.loop-at.at ≡ b → is_undelivered_in c.args.mails.now place ≡ false
    by k place from lt e true less = c.loop-at.invariant.passed k place from (ltb-true _ _ less) e
    by k place from lt e false more =
        let high = ltb-false _ _ more in
        let same : k ≡ c.loop-at.at = omega (arith, high, lt) in
        subst (λ (p : Place). is_undelivered_in c.args.mails.now p ≡ false) (get_or_from_slice_get c.args.places.now c.loop-at.at place _ (ap (slice_get c.args.places.now) (sym same) ∙ e)) (sym c.is_undelivered.ensures ∙ c.if-not-is_undelivered.true)

pub returns-else-not-is_undelivered-clause-found : goal.returns-else-not-is_undelivered-clause-found
returns-else-not-is_undelivered-clause-found c = λ place e.
    subst (λ (p : Place). is_undelivered_in c.args.mails.now p ≡ true) (get_or_from_slice_get c.args.places.now c.loop-at.at place _ e) (sym c.is_undelivered.ensures ∙ c.if-not-is_undelivered.false)

pub returns-after-loop-at-clause-found : goal.returns-after-loop-at-clause-found
returns-after-loop-at-clause-found c = λ place e. absurd (let none : slice_get c.args.places.now c.loop-at.at ≡ None = slice_get_past c.args.places.now c.loop-at.at c.loop-at-test.false in let both : Some place ≡ None = sym e ∙ none in cc)
