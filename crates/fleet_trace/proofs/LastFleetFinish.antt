-- A trace that ended of a fleet's script whose last line is `finish` comes to where that is left, and what comes then is
-- what a `finish` gives.
use Rattle.std.proofs.Common.{◌≡◌, ◌⊎◌, inl, inr, ⊎_elim, ℕ, zero, suc, ◌≤◌, Bool, true, false, List, [], ◌∷◌, ◌++◌, Option, Some, None, IfSome, refl, sym, ap, subst, ◌∙◌}
use Rattle.std.specs.Prelude.{if◌then◌else◌}
use Rattle.exchange_trace.specs.Following.{FollowsScript, delivery}
use Rattle.exchange_trace.specs.Lines.{Finish}
use Rattle.exchange_trace.specs.Steps.{Step}
use Rattle.fleet_trace.specs.FleetTraces.{All_ended, At_unit, FleetHappeningView, HasNotEnded, Next_asked, Of_all, StepOfFleet, ended_step, steps_of_unit}
use Rattle.fleet_trace.specs.FleetPosts.{PostPlace, given_in_fleet, undelivered_places}
use Rattle.fleet_trace.specs.FleetLines.{FleetLine, Ask_next, Begin_batch, Finish_all, Finish_batch, Give_numbered, Line_at, Lose_numbered, Next_of_all}
use Rattle.fleet_trace.specs.FleetFollowing.{Batch_finishes, Deliveries_left, Finish_goes_on, Finishes, FleetAsking, FleetPlan, FleetRest, FleetScene, FleetTurn, FleetWaiting, FollowsFleet, Line_is_done, TickTurns, UnitTick, asking, first_place, fleet_begins, fleet_delivery, fleet_finishing, fleet_finishing_tick, fleet_goes_on, fleet_loss, fleet_plan_after, fleet_scene_after, fleet_tick, fleet_turn, from_fleet_lines, given_at_place, given_by_line, least_fleet_delivery, loaders_first, next_fleet_turn, or_asking, or_next, turn_leaving, turn_passed}
use Rattle.fleet_trace.specs.FleetFinishes.{AllFleetLinesGiveNothing, AllOfFleetFinish, FleetFinishIsLeft, IsLeftToOwnFinish, IsOfFleetFinish, ReachesFleetFinish, least_is_delivered, side_is_ticked}
use Rattle.fleet_trace.specs.OwnScripts.{own_script}
use Rattle.fleet_trace.proofs.UnitParts.{steps_join}
use Rattle.fleet_trace.proofs.FleetEnds.{fleet_end_is_last, is_no_end}
use Rattle.fleet_trace.proofs.OwnFinishes.{begins_finish, finish_alone_is_left, finish_is_own, fleet_delivers, fleet_finish, fleet_ticks, follows_before, some_left}
use Rattle.fleet_trace.proofs.OwnUndelivered.{least_is_there}

-- ---- a line leaves those after it

abbrev LeavesLines : List FleetLine → Option FleetTurn → Type 0
LeavesLines lines o = IfSome o (λ (t : FleetTurn). t.plan.lines ≡ lines)

fleet_given_leaves : (rest : FleetRest) (lines : List FleetLine) (o : Option FleetHappeningView) → LeavesLines lines (turn_leaving rest lines o)
fleet_given_leaves rest lines None = tt
fleet_given_leaves rest lines (Some h) = refl

fleet_tick_leaves : (rest : Finishes) (firsts : TickTurns) (lines : List FleetLine) (o : Option UnitTick) → LeavesLines lines (fleet_finishing_tick rest firsts lines o)
fleet_tick_leaves rest firsts lines None = tt
fleet_tick_leaves rest firsts lines (Some t) = refl

fleet_finishing_leaves : (s : FleetScene) (rest : Finishes) (firsts : TickTurns) (lines : List FleetLine) (o : Option FleetHappeningView) → LeavesLines lines (fleet_finishing s rest firsts lines o)
fleet_finishing_leaves s rest firsts lines None = fleet_tick_leaves rest firsts lines (fleet_tick s firsts)
fleet_finishing_leaves s rest firsts lines (Some h) = refl

asking_leaves : (s : FleetScene) (rest : FleetRest) (lines : List FleetLine) → LeavesLines lines (asking s rest lines)
asking_leaves s rest lines = by s.may_ask
  where
    by : (b : Bool) → LeavesLines lines (if b then Some (fleet_turn Next_asked rest lines) else None)
    by true = refl
    by false = tt

or_asking_leaves : (s : FleetScene) (lines : List FleetLine) (o : Option FleetTurn) → LeavesLines lines o → LeavesLines lines (or_asking s lines o)
or_asking_leaves s lines None h = asking_leaves s (Batch_finishes loaders_first) lines
or_asking_leaves s lines (Some t) h = h

fleet_goes_on_leaves : (s : FleetScene) (rest : FleetRest) (lines : List FleetLine) → LeavesLines lines (fleet_goes_on s rest lines)
fleet_goes_on_leaves s Line_is_done lines = tt
fleet_goes_on_leaves s (Deliveries_left zero) lines = tt
fleet_goes_on_leaves s (Deliveries_left (suc k)) lines = fleet_given_leaves (Deliveries_left k) lines (least_fleet_delivery s)
fleet_goes_on_leaves s (Finish_goes_on firsts) lines = fleet_finishing_leaves s Finish_goes_on firsts lines (least_fleet_delivery s)
fleet_goes_on_leaves s (Batch_finishes firsts) lines =
    or_asking_leaves s lines (fleet_finishing s Batch_finishes firsts lines (least_fleet_delivery s)) (fleet_finishing_leaves s Batch_finishes firsts lines (least_fleet_delivery s))

fleet_begins_leaves : (s : FleetScene) (line : FleetLine) (lines : List FleetLine) → LeavesLines lines (fleet_begins s line lines)
fleet_begins_leaves s (Line_at unit line) lines = fleet_given_leaves Line_is_done lines (given_by_line s unit line)
fleet_begins_leaves s (Give_numbered n) lines = fleet_given_leaves Line_is_done lines (fleet_delivery s n)
fleet_begins_leaves s (Lose_numbered n) lines = fleet_given_leaves Line_is_done lines (fleet_loss s n)
fleet_begins_leaves s (Next_of_all k) lines = fleet_goes_on_leaves s (Deliveries_left k) lines
fleet_begins_leaves s Finish_all lines = fleet_goes_on_leaves s (Finish_goes_on loaders_first) lines
fleet_begins_leaves s (Begin_batch part) lines = refl
fleet_begins_leaves s Ask_next lines = asking_leaves s Line_is_done lines
fleet_begins_leaves s Finish_batch lines = asking_leaves s (Batch_finishes loaders_first) lines

-- ---- a last `finish` stays until it is next

abbrev EndsWithFinish : List FleetLine → Type 0
EndsWithFinish lines = (idle : List FleetLine) × (lines ≡ idle ++ Finish_all ∷ [])

-- the lines before it give nothing, or it is left by what they give
fleet_lines_give : (s : FleetScene) (idle : List FleetLine)
    → AllFleetLinesGiveNothing s idle (Finish_all ∷ []) ⊎ EndsWithFinish (from_fleet_lines s (idle ++ Finish_all ∷ [])).plan.lines
fleet_lines_give s [] = inl tt
fleet_lines_give s (line ∷ idle) =
    by (fleet_begins s line (idle ++ Finish_all ∷ [])) refl (fleet_begins_leaves s line (idle ++ Finish_all ∷ [])) (fleet_lines_give s idle)
  where
    by : (o : Option FleetTurn) → fleet_begins s line (idle ++ Finish_all ∷ []) ≡ o → LeavesLines (idle ++ Finish_all ∷ []) o
        → AllFleetLinesGiveNothing s idle (Finish_all ∷ []) ⊎ EndsWithFinish (from_fleet_lines s (idle ++ Finish_all ∷ [])).plan.lines
        → ((◌≡◌ {A = Option FleetTurn} (fleet_begins s line (idle ++ Finish_all ∷ [])) None) × AllFleetLinesGiveNothing s idle (Finish_all ∷ []))
        ⊎ EndsWithFinish (or_next o (from_fleet_lines s (idle ++ Finish_all ∷ []))).plan.lines
    by None e leaves (inl none) = inl (e, none)
    by None e leaves (inr last) = inr last
    by (Some t) e leaves others = inr (idle, leaves)

module _ (units : ℕ) (waiting : FleetWaiting) (asks : FleetAsking) (script : List FleetLine) where
  abbrev fleet_scene_at : List StepOfFleet → FleetScene
  fleet_scene_at steps = fleet_scene_after units waiting asks steps

  abbrev fleet_plan_at : List StepOfFleet → FleetPlan
  fleet_plan_at steps = fleet_plan_after units waiting asks script steps

  abbrev fleet_next_at : List StepOfFleet → FleetTurn
  fleet_next_at steps = next_fleet_turn (fleet_scene_at steps) (fleet_plan_at steps)

  fleet_next_gives : (steps : List StepOfFleet) → EndsWithFinish (fleet_plan_at steps).lines → FleetFinishIsLeft units waiting asks script steps ⊎ EndsWithFinish (fleet_next_at steps).plan.lines
  fleet_next_gives steps (idle, e) =
      by (fleet_goes_on (fleet_scene_at steps) (fleet_plan_at steps).rest (fleet_plan_at steps).lines) refl
      (fleet_goes_on_leaves (fleet_scene_at steps) (fleet_plan_at steps).rest (fleet_plan_at steps).lines) (fleet_lines_give (fleet_scene_at steps) idle)
    where
      by : (o : Option FleetTurn) → fleet_goes_on (fleet_scene_at steps) (fleet_plan_at steps).rest (fleet_plan_at steps).lines ≡ o → LeavesLines (fleet_plan_at steps).lines o
          → AllFleetLinesGiveNothing (fleet_scene_at steps) idle (Finish_all ∷ []) ⊎ EndsWithFinish (from_fleet_lines (fleet_scene_at steps) (idle ++ Finish_all ∷ [])).plan.lines
          → FleetFinishIsLeft units waiting asks script steps ⊎ EndsWithFinish (or_next o (from_fleet_lines (fleet_scene_at steps) (fleet_plan_at steps).lines)).plan.lines
      by None over leaves (inl none) = inl (record { idle = idle; lines = e; over = over; give_nothing = none })
      by None over leaves (inr last) = inr (subst (λ (lines : List FleetLine). EndsWithFinish (from_fleet_lines (fleet_scene_at steps) lines).plan.lines) (sym e) last)
      by (Some t) over leaves others = inr (idle, leaves ∙ e)

  -- it was left after the older ones of these steps
  record WasLeft (steps : List StepOfFleet) : Type 0 where
    before : List StepOfFleet
    more : List StepOfFleet
    split : steps ≡ more ++ before
    left : FleetFinishIsLeft units waiting asks script before

  left_now : (steps : List StepOfFleet) → FleetFinishIsLeft units waiting asks script steps → WasLeft steps
  left_now steps left = record { before = steps; more = []; split = refl; left = left }

  left_earlier : (s : StepOfFleet) (steps : List StepOfFleet) → WasLeft steps → WasLeft (s ∷ steps)
  left_earlier s steps was = record { before = was.before; more = s ∷ was.more; split = ap (λ (xs : List StepOfFleet). s ∷ xs) was.split; left = was.left }

  module _ (lines : List FleetLine) (ends_so : script ≡ lines ++ Finish_all ∷ []) where
    was_left : (steps : List StepOfFleet) → WasLeft steps ⊎ EndsWithFinish (fleet_plan_at steps).lines → WasLeft steps ⊎ EndsWithFinish (fleet_next_at steps).plan.lines
    was_left steps =
        ⊎_elim (λ was. inl was) (λ last. ⊎_elim (λ left. inl (left_now steps left)) (λ next. inr next) (fleet_next_gives steps last))

    still_last : (steps : List StepOfFleet) → WasLeft steps ⊎ EndsWithFinish (fleet_plan_at steps).lines
    still_last [] = inr (lines, ends_so)
    still_last (s ∷ earlier) = ⊎_elim (λ was. inl (left_earlier s earlier was)) (λ last. inr last) (was_left earlier (still_last earlier))

    pub last_fleet_finish_is_reached : (earlier : List StepOfFleet) → FollowsFleet units waiting asks script (Of_all ∷ earlier)
        → ReachesFleetFinish units waiting asks script (Of_all ∷ earlier)
    last_fleet_finish_is_reached earlier follows =
        ⊎_elim (λ was. record { before = was.before; more = was.more; split = ap (λ (xs : List StepOfFleet). Of_all ∷ xs) was.split; left = was.left })
        (λ last. absurd (let (idle, e) = last in some_left idle (sym none ∙ e))) (was_left earlier (still_last earlier))
      where
        none : (fleet_next_at earlier).plan.lines ≡ []
        none = ap (λ (p : FleetPlan). p.lines) (fleet_end_is_last (fleet_scene_at earlier) (fleet_plan_at earlier) (sym follows.0))

-- ---- what comes then

abbrev last_end : FleetTurn
last_end = fleet_turn All_ended Line_is_done []

-- the turn is one of a `finish` that then goes on
abbrev GivesOfFinish : FleetScene → FleetTurn → Type 0
GivesOfFinish s t = IsOfFleetFinish s t.given × ((later : TickTurns) × (t.plan ≡ record { rest = Finish_goes_on later; lines = [] }))

whole_finish_gives : (s : FleetScene) (firsts : TickTurns) → GivesOfFinish s (fleet_finish s firsts) ⊎ (fleet_finish s firsts ≡ last_end)
whole_finish_gives s firsts = by (undelivered_places s.posted s.happenings) refl
  where
    delivery_given : (h : FleetHappeningView) → least_fleet_delivery s ≡ Some h → GivesOfFinish s (fleet_finish s firsts)
    delivery_given h e =
        subst (λ (t : FleetTurn). GivesOfFinish s t) (sym (fleet_delivers s firsts h e)) (least_is_delivered h e, (firsts, refl))

    tick : undelivered_places s.posted s.happenings ≡ [] → (o : Option UnitTick) → fleet_tick s firsts ≡ o
        → GivesOfFinish s (fleet_finish s firsts) ⊎ (fleet_finish s firsts ≡ last_end)
    tick none (Some t) e =
        inl (subst (λ (t : FleetTurn). GivesOfFinish s t)
        (sym (fleet_ticks s firsts (Some t) (ap (λ (ps : List PostPlace). given_at_place s delivery (first_place ps)) none) e))
        (side_is_ticked firsts t none e, (turn_passed firsts t, refl)))
    tick none None e = inr (fleet_ticks s firsts None (ap (λ (ps : List PostPlace). given_at_place s delivery (first_place ps)) none) e)

    by : (ps : List PostPlace) → undelivered_places s.posted s.happenings ≡ ps → GivesOfFinish s (fleet_finish s firsts) ⊎ (fleet_finish s firsts ≡ last_end)
    by [] e = tick e (fleet_tick s firsts) refl
    by (p ∷ later) e = let (h, fleet, own) = least_is_there s p later e in inl (delivery_given (At_unit p.unit h) fleet)

module _ (units : ℕ) (waiting : FleetWaiting) (asks : FleetAsking) (script : List FleetLine) (before : List StepOfFleet) (left : FleetFinishIsLeft units waiting asks script before) where
  -- the next turn is that of the `finish`
  abbrev FinishIsNext : List StepOfFleet → Type 0
  FinishIsNext steps =
      (firsts : TickTurns) × (next_fleet_turn (fleet_scene_after units waiting asks steps) (fleet_plan_after units waiting asks script steps) ≡ fleet_finish (fleet_scene_after units waiting asks steps) firsts)

  step_is_of_finish : (s : StepOfFleet) (steps : List StepOfFleet) → FollowsFleet units waiting asks script (s ∷ steps) → HasNotEnded (s ∷ []) → FinishIsNext steps
      → IsOfFleetFinish (fleet_scene_after units waiting asks steps) (given_in_fleet s) × FinishIsNext (s ∷ steps)
  step_is_of_finish s steps follows goes (firsts, next) =
      ⊎_elim (λ gives. let (later, plan) = gives.1 in (
        subst (λ (h : FleetHappeningView). IsOfFleetFinish (fleet_scene_after units waiting asks steps) h) (sym (follows.0 ∙ ap (λ (t : FleetTurn). t.given) next)) gives.0,
        (later, ap (λ (p : FleetPlan). next_fleet_turn (fleet_scene_after units waiting asks (s ∷ steps)) p) (ap (λ (t : FleetTurn). t.plan) next ∙ plan)),
      ))
      (λ over. absurd (is_no_end s goes.0 (follows.0 ∙ ap (λ (t : FleetTurn). t.given) (next ∙ over)))) (whole_finish_gives (fleet_scene_after units waiting asks steps) firsts)

  finish_goes : (more : List StepOfFleet) → FollowsFleet units waiting asks script (more ++ before) → HasNotEnded more
      → AllOfFleetFinish units waiting asks more before × FinishIsNext (more ++ before)
  finish_goes [] follows goes = (tt, (loaders_first, begins_finish units waiting asks script before 0 left))
  finish_goes (s ∷ more) follows goes =
      let (others, next) = finish_goes more follows.1 goes.1 in
      let (here, after) = step_is_of_finish s (more ++ before) follows (goes.0, tt) next in
      ((here, others), after)

  pub rest_is_of_finish : (more : List StepOfFleet) → FollowsFleet units waiting asks script (more ++ before) → HasNotEnded more → AllOfFleetFinish units waiting asks more before
  rest_is_of_finish more follows goes = (finish_goes more follows goes).0

-- ---- at each unit

pub each_is_left_to_own : (units : ℕ) (waiting : FleetWaiting) (asks : FleetAsking) (script : List FleetLine) (steps : List StepOfFleet) (reached : ReachesFleetFinish units waiting asks script steps)
    → FollowsFleet units waiting asks script steps → (unit : ℕ) → 1 ≤ unit → unit ≤ units
    → IsLeftToOwnFinish (waiting unit) (steps_of_unit unit reached.before) (steps_of_unit unit reached.more) (steps_of_unit unit steps)
each_is_left_to_own units waiting asks script steps reached follows unit low high =
    let whole : FollowsFleet units waiting asks script (Of_all ∷ reached.more ++ reached.before) = subst (λ (xs : List StepOfFleet). FollowsFleet units waiting asks script xs) reached.split follows in
    record {
      split = ap (λ (xs : List StepOfFleet). steps_of_unit unit xs) reached.split ∙ ap (λ (own : List Step). ended_step ∷ own) (steps_join unit reached.more reached.before);
      follows = subst (λ (xs : List StepOfFleet). FollowsScript (waiting unit) (own_script (steps_of_unit unit reached.before) ++ Finish ∷ []) (steps_of_unit unit xs)) (sym reached.split)
          (finish_is_own units waiting asks script reached.before (Of_all ∷ reached.more) unit low high reached.left whole);
      left = finish_alone_is_left units waiting asks script reached.before unit reached.left (follows_before units waiting asks script (Of_all ∷ reached.more) reached.before whole);
    }
