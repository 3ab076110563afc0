-- A unit that is ticked in a fleet's `finish` is ticked by its own turn, and where none is ticked none waits.
use Rattle.std.proofs.Common.{◌≡◌, ℕ, zero, suc, ◌+◌, ◌<◌, ◌≤◌, Bool, true, false, List, [], ◌∷◌, Option, Some, None, eqb-true, unwrap_or, arith, refl, ap, subst}
use Rattle.std.specs.Prelude.{◌==◌}
use Rattle.std.proofs.lemmas.Bool.{eqb-false}
use Rattle.std.specs.List.{range_with_len}
use Rattle.exchange_trace.specs.declared.trace.Side.{Side}
use Rattle.exchange_trace.specs.Following.{ticked_side}
use Rattle.fleet_trace.specs.FleetFollowing.{FleetScene, TickTurns, UnitTick, first_tick, tick_or_later, unit_scene}

pub tick_is_own : (s : FleetScene) (firsts : TickTurns) (units : List ℕ) (t : UnitTick) → first_tick s firsts units ≡ Some t
    → ticked_side (unit_scene s t.unit) (firsts t.unit) ≡ Some t.side
tick_is_own s firsts [] t e = absurd cc
tick_is_own s firsts (unit ∷ later) t e = by (ticked_side (unit_scene s unit) (firsts unit)) refl (tick_is_own s firsts later t) e
  where
    by : (o : Option Side) → ticked_side (unit_scene s unit) (firsts unit) ≡ o
        → (first_tick s firsts later ≡ Some t → ticked_side (unit_scene s t.unit) (firsts t.unit) ≡ Some t.side)
        → tick_or_later unit o (first_tick s firsts later) ≡ Some t → ticked_side (unit_scene s t.unit) (firsts t.unit) ≡ Some t.side
    by None is others e = others e
    by (Some side) is others e =
        subst (λ (x : UnitTick). ticked_side (unit_scene s x.unit) (firsts x.unit) ≡ Some x.side) (ap (λ (o : Option UnitTick). unwrap_or o t) e) is

pub none_ticked : (s : FleetScene) (firsts : TickTurns) (a n unit : ℕ) → first_tick s firsts (range_with_len a n) ≡ None → a ≤ unit → unit < a + n
    → ticked_side (unit_scene s unit) (firsts unit) ≡ None
none_ticked s firsts a zero unit e low high = absurd (let no : ⊥ = omega arith in no)
none_ticked s firsts a (suc n) unit e low high = by (ticked_side (unit_scene s a) (firsts a)) refl (none_ticked s firsts (a + 1) n unit) e
  where
    by : (o : Option Side) → ticked_side (unit_scene s a) (firsts a) ≡ o
        → (first_tick s firsts (range_with_len (a + 1) n) ≡ None → a + 1 ≤ unit → unit < a + 1 + n → ticked_side (unit_scene s unit) (firsts unit) ≡ None)
        → tick_or_later a o (first_tick s firsts (range_with_len (a + 1) n)) ≡ None → ticked_side (unit_scene s unit) (firsts unit) ≡ None
    by (Some side) is others e = absurd cc
    by None is others e = here (a == unit) refl
      where
        here : (b : Bool) → (a == unit) ≡ b → ticked_side (unit_scene s unit) (firsts unit) ≡ None
        here true same = subst (λ (x : ℕ). ticked_side (unit_scene s x) (firsts x) ≡ None) (eqb-true a unit same) is
        here false other = let apart : a ≡ unit → ⊥ = eqb-false a unit other in others e (omega arith) (omega arith)
