-- The end of a fleet comes last.
use Rattle.std.proofs.Common.{◌≡◌, ◌⊎◌, inl, inr, ⊎_elim, ℕ, Bool, true, false, List, [], ◌∷◌, Option, Some, None, refl, sym, ap, subst, ◌∙◌}
use Rattle.exchange_trace.specs.Happenings.{Booted, Delivered, Ended, HappeningView, Info_started, Injected, Lost, Power_cut, Size_told, Ticked, Upload_started}
use Rattle.fleet_trace.specs.FleetTraces.{All_ended, FleetHappeningView, HasNotEnded, IsBeforeEnd, Of_all, Of_batch, Of_unit, StepOfFleet}
use Rattle.fleet_trace.specs.FleetPosts.{given_as, given_in_fleet}
use Rattle.fleet_trace.specs.FleetLines.{FleetLine}
use Rattle.fleet_trace.specs.FleetFollowing.{FleetAsking, FleetPlan, FleetScene, FleetTurn, FleetWaiting, FollowsFleet, Line_is_done, fleet_begins, fleet_goes_on, fleet_plan_after, fleet_plan_of, fleet_scene_after, fleet_turn, from_fleet_lines, next_fleet_turn, or_next}
use Rattle.fleet_trace.proofs.CanBeGiven.{FleetCanBe, FleetTurnCanBe, fleet_begins_can, fleet_goes_on_can}

abbrev StaysAtEnd : FleetTurn → Type 0
StaysAtEnd t = t.given ≡ All_ended → t.plan ≡ fleet_plan_of []

passed : (s : FleetScene) (o : Option FleetTurn) (later : FleetTurn) → FleetTurnCanBe s o → StaysAtEnd later → StaysAtEnd (or_next o later)
passed s None later h rest = rest
passed s (Some t) later h rest = λ e. absurd (subst (λ (x : FleetHappeningView). FleetCanBe s x) e h)

lines_end : (s : FleetScene) (lines : List FleetLine) → StaysAtEnd (from_fleet_lines s lines)
lines_end s [] = λ e. refl
lines_end s (line ∷ lines) = passed s (fleet_begins s line lines) (from_fleet_lines s lines) (fleet_begins_can s line lines) (lines_end s lines)

pub fleet_end_is_last : (s : FleetScene) (p : FleetPlan) → (next_fleet_turn s p).given ≡ All_ended → (next_fleet_turn s p).plan ≡ fleet_plan_of []
fleet_end_is_last s p = passed s (fleet_goes_on s p.rest p.lines) (from_fleet_lines s p.lines) (fleet_goes_on_can s p.rest p.lines) (lines_end s p.lines)

pub fleet_end_comes_again : (s : FleetScene) → next_fleet_turn s (fleet_plan_of []) ≡ fleet_turn All_ended Line_is_done []
fleet_end_comes_again s = refl

-- what a step begins with is the end in the last one alone
unit_is_no_end : (asked : Bool) (unit : ℕ) (h : HappeningView) → given_as asked unit h ≡ All_ended → ⊥
unit_is_no_end false unit h e = cc
unit_is_no_end true unit (Upload_started hw pos parts) e = cc
unit_is_no_end true unit (Delivered side n) e = cc
unit_is_no_end true unit (Lost n) e = cc
unit_is_no_end true unit (Injected d) e = cc
unit_is_no_end true unit (Ticked side) e = cc
unit_is_no_end true unit (Size_told size) e = cc
unit_is_no_end true unit (Power_cut calls pick) e = cc
unit_is_no_end true unit Booted e = cc
unit_is_no_end true unit (Info_started hw pos) e = cc
unit_is_no_end true unit Ended e = cc

pub is_no_end : (s : StepOfFleet) → IsBeforeEnd s → given_in_fleet s ≡ All_ended → ⊥
is_no_end (Of_unit asked unit s) before e = unit_is_no_end asked unit s.given e
is_no_end (Of_batch part) before e = cc
is_no_end Of_all before e = before

-- the trace hasn't ended, or nothing of the script is left
module _ (units : ℕ) (waiting : FleetWaiting) (asks : FleetAsking) (script : List FleetLine) where
  abbrev IsOverWhereEnded : List StepOfFleet → Type 0
  IsOverWhereEnded steps = HasNotEnded steps ⊎ (fleet_plan_after units waiting asks script steps ≡ fleet_plan_of [])

  not_after_end : (s : StepOfFleet) (earlier : List StepOfFleet) → IsBeforeEnd s → FollowsFleet units waiting asks script (s ∷ earlier)
      → fleet_plan_after units waiting asks script earlier ≡ fleet_plan_of [] → ⊥
  not_after_end s earlier before follows over =
      is_no_end s before (follows.0 ∙ ap (λ (p : FleetPlan). (next_fleet_turn (fleet_scene_after units waiting asks earlier) p).given) over)

  goes_before : (s : StepOfFleet) (earlier : List StepOfFleet) → IsBeforeEnd s → FollowsFleet units waiting asks script (s ∷ earlier) → IsOverWhereEnded earlier → HasNotEnded earlier
  goes_before s earlier before follows =
      ⊎_elim (λ goes. goes) (λ over. absurd (not_after_end s earlier before follows over))

  pub over_where_ended : (steps : List StepOfFleet) → FollowsFleet units waiting asks script steps → IsOverWhereEnded steps
  over_where_ended [] follows = inl tt
  over_where_ended (Of_all ∷ earlier) follows = inr (fleet_end_is_last (fleet_scene_after units waiting asks earlier) (fleet_plan_after units waiting asks script earlier) (sym follows.0))
  over_where_ended (Of_batch part ∷ earlier) follows = inl (tt, goes_before (Of_batch part) earlier tt follows (over_where_ended earlier follows.1))
  over_where_ended (Of_unit asked whose s ∷ earlier) follows = inl (tt, goes_before (Of_unit asked whose s) earlier tt follows (over_where_ended earlier follows.1))

  pub none_ended : (s : StepOfFleet) (earlier : List StepOfFleet) → IsBeforeEnd s → FollowsFleet units waiting asks script (s ∷ earlier) → HasNotEnded earlier
  none_ended s earlier before follows = goes_before s earlier before follows (over_where_ended earlier follows.1)
