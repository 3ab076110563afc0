-- Proofs that what may be active is what was active at the start, or good.
use Rattle.std.proofs.Common.{◌≡◌, inl, inr, ◌≤◌, List, [], ◌∷◌, true, length, refl, sym, subst, arith}
use Rattle.std.specs.List.{AllByRecursion}
use Rattle.load_base.specs.Config.{LoadView}
use Rattle.disk_layout.specs.declared.identity.Identity.{Identity}
use Rattle.disk_layout.specs.Contents.{entries_of}
use Rattle.disk_layout.specs.Holds.{StandingView}
use Rattle.transfer_end.specs.OtherEnds.{Among}
use Rattle.session_rules.specs.NewConfigs.{AreGoodAfter, IsChecked}
use Rattle.session_rules.proofs.InstallationLemmas.{all_then, good_are_checked, good_is_checked}
use Rattle.session_rules.specs.TargetLog.{standing_after}
use Rattle.replay_rules.specs.BothEnds.{Setting}
use Rattle.replay_rules.proofs.CompletedRows.{new_has_load}
use Rattle.replay_rules.specs.Changes.{AreGood, ChangesAreNew}
use Rattle.replay_rules.specs.FirstOrGood.{ActiveIsFirstOrGood, IsFirstOrChecked, IsFirstOrGood}
use Rattle.replay_rules.proofs.ActiveStays.{IsKept, all_have}

-- ---- one step

module _ (set : Setting) where
  abbrev AreFirstOrChecked : List LoadView → Type 0
  AreFirstOrChecked loads = AllByRecursion (IsFirstOrChecked set) loads

  all_among : (P : LoadView → Type 0) (loads : List LoadView) → ((l : LoadView) → Among l loads → P l) → AllByRecursion P loads
  all_among P [] each = tt
  all_among P (l ∷ ls) each = (each l (inl refl), all_among P ls (λ m among. each m (inr among)))

  were_checked : (s : StandingView) → IsFirstOrGood set s → AreFirstOrChecked s.loads
  were_checked s (inl same) = subst (λ (x : StandingView). AreFirstOrChecked x.loads) (sym same) (all_among (IsFirstOrChecked set) set.start.loads (λ l among. inl among))
  were_checked s (inr has) = has.each

  any_checked : (loads : List LoadView) → AllByRecursion (IsChecked set.start.identity) loads → AreFirstOrChecked loads
  any_checked [] all = tt
  any_checked (l ∷ ls) (one, all) = (inr one, any_checked ls all)

  -- what is installed has a load, and each of its loads is new and checked, or was active before
  installed_good : (before : StandingView) (new : List LoadView) → 1 ≤ length new → AreGood set before new → IsFirstOrGood set before → IsFirstOrGood set (standing_after before new)
  installed_good before [] some good was = absurd (omega (arith, some))
  installed_good before (l ∷ ls) some good was = inr (record {
    each = all_then (IsFirstOrChecked set) (l ∷ ls) before.loads
        (any_checked (l ∷ ls) (good_are_checked (λ h kept. set.accepts h kept ≡ true) set.start.identity (entries_of before.loads) [] (l ∷ ls) good)) (were_checked before was);
    load = l;
    among = inl refl;
    checked = good_is_checked (λ h kept. set.accepts h kept ≡ true) set.start.identity _ l good.0;
  })

  pub good_is_kept : IsKept set (IsFirstOrGood set)
  good_is_kept before after new id good =
      let each : AreGood set before.active new.loads = subst (λ (x : Identity). AreGoodAfter (λ h kept. set.accepts h kept ≡ true) x (entries_of before.active.loads) [] new.loads) id new.new.good in
      subst (IsFirstOrGood set) (sym new.next) (installed_good before.active new.loads (new_has_load set.accepts before after new) each good)

pub active_is_first_or_good : ChangesAreNew → ActiveIsFirstOrGood
active_is_first_or_good changes set steps permits all = all_have set (IsFirstOrGood set) (good_is_kept set) (inl refl) steps (changes set steps permits all)
