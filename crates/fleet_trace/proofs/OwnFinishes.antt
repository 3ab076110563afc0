-- In a fleet's last `finish` each unit's steps are those of a `finish` of its own.
use Rattle.std.proofs.Common.{◌≡◌, ◌⊎◌, inl, inr, ⊎_elim, ℕ, ◌≤◌, Bool, true, false, cond, List, [], ◌∷◌, ◌++◌, Option, Some, None, eqb-true, arith, refl, sym, ap, subst, ◌∙◌}
use Rattle.std.specs.Prelude.{◌==◌}
use Rattle.std.specs.List.{range_with_len}
use Rattle.exchange_trace.specs.declared.trace.Side.{Side}
use Rattle.exchange_trace.specs.Following.{Finishing, FollowsScript, Nothing_left, Plan, Scene, Turn, delivery, delivery_of_first, finishing, finishing_tick, goes_on, least_delivery, next_turn, or_else, plan_after, plan_of, scene_after, ticked_side, turn}
use Rattle.exchange_trace.specs.Happenings.{Booted, Delivered, Ended, HappeningView, Info_started, Injected, Lost, Power_cut, Size_told, Ticked, Upload_started, other}
use Rattle.exchange_trace.specs.Lines.{Finish, Line}
use Rattle.exchange_trace.specs.Steps.{Step}
use Rattle.fleet_trace.specs.FleetTraces.{All_ended, At_unit, Batch_begun, FleetHappeningView, HasNotEnded, Next_asked, Of_all, Of_batch, Of_unit, StepOfFleet, ended_step, steps_of_unit}
use Rattle.fleet_trace.specs.FleetPosts.{PostPlace, given_as, given_in_fleet, undelivered_places}
use Rattle.fleet_trace.specs.FleetLines.{Finish_all, FleetLine}
use Rattle.fleet_trace.specs.FleetFollowing.{Finish_goes_on, FleetAsking, FleetPlan, FleetScene, FleetTurn, FleetWaiting, FollowsFleet, Line_is_done, TickTurns, UnitTick, first_place, fleet_finishing, fleet_finishing_tick, fleet_goes_on, fleet_plan_after, fleet_scene_after, fleet_tick, fleet_turn, from_fleet_lines, given_at_place, least_fleet_delivery, loaders_first, next_fleet_turn, or_next, turn_passed, unit_scene}
use Rattle.fleet_trace.specs.FleetFinishes.{AllFleetLinesGiveNothing, FleetFinishIsLeft}
use Rattle.fleet_trace.specs.OwnScripts.{own_script}
use Rattle.fleet_trace.proofs.UnitParts.{unit_scene_is}
use Rattle.fleet_trace.proofs.CanBeGiven.{all_can}
use Rattle.fleet_trace.proofs.FleetEnds.{is_no_end, over_where_ended}
use Rattle.fleet_trace.proofs.OwnFollowing.{own_script_follows, own_script_leaves}
use Rattle.fleet_trace.proofs.OwnUndelivered.{least_is_there, none_is_own}
use Rattle.fleet_trace.proofs.OwnTicks.{none_ticked, tick_is_own}

-- ---- the turns of a `finish` that is the last line

abbrev own_finish : Scene → Side → Turn
own_finish s first = or_else (goes_on s (Finishing first) []) (turn Ended Nothing_left [])

abbrev pub fleet_finish : FleetScene → TickTurns → FleetTurn
fleet_finish s firsts = or_next (fleet_goes_on s (Finish_goes_on firsts) []) (fleet_turn All_ended Line_is_done [])

own_delivers : (s : Scene) (first : Side) (h : HappeningView) → least_delivery s ≡ Some h → own_finish s first ≡ turn h (Finishing first) []
own_delivers s first h e = ap (λ (o : Option HappeningView). or_else (finishing s first [] o) (turn Ended Nothing_left [])) e

own_ticks : (s : Scene) (first : Side) (o : Option Side) → least_delivery s ≡ None → ticked_side s first ≡ o
    → own_finish s first ≡ or_else (finishing_tick [] o) (turn Ended Nothing_left [])
own_ticks s first o none e =
    ap (λ (x : Option HappeningView). or_else (finishing s first [] x) (turn Ended Nothing_left [])) none
    ∙ ap (λ (x : Option Side). or_else (finishing_tick [] x) (turn Ended Nothing_left [])) e

pub fleet_delivers : (s : FleetScene) (firsts : TickTurns) (h : FleetHappeningView) → least_fleet_delivery s ≡ Some h
    → fleet_finish s firsts ≡ fleet_turn h (Finish_goes_on firsts) []
fleet_delivers s firsts h e = ap (λ (o : Option FleetHappeningView). or_next (fleet_finishing s Finish_goes_on firsts [] o) (fleet_turn All_ended Line_is_done [])) e

pub fleet_ticks : (s : FleetScene) (firsts : TickTurns) (o : Option UnitTick) → least_fleet_delivery s ≡ None → fleet_tick s firsts ≡ o
    → fleet_finish s firsts ≡ or_next (fleet_finishing_tick Finish_goes_on firsts [] o) (fleet_turn All_ended Line_is_done [])
fleet_ticks s firsts o none e =
    ap (λ (x : Option FleetHappeningView). or_next (fleet_finishing s Finish_goes_on firsts [] x) (fleet_turn All_ended Line_is_done [])) none
    ∙ ap (λ (x : Option UnitTick). or_next (fleet_finishing_tick Finish_goes_on firsts [] x) (fleet_turn All_ended Line_is_done [])) e

-- lines that give nothing are passed over
passed_over : (s : FleetScene) (idle later : List FleetLine) → AllFleetLinesGiveNothing s idle later → from_fleet_lines s (idle ++ later) ≡ from_fleet_lines s later
passed_over s [] later none = refl
passed_over s (line ∷ idle) later none = ap (λ (o : Option FleetTurn). or_next o (from_fleet_lines s (idle ++ later))) none.0 ∙ passed_over s idle later none.1

-- ---- what a happening names

unit_named : ℕ → FleetHappeningView → ℕ
unit_named n (At_unit unit h) = unit
unit_named n (Batch_begun part) = n
unit_named n Next_asked = n
unit_named n All_ended = n

happening_named : HappeningView → FleetHappeningView → HappeningView
happening_named x (At_unit unit h) = h
happening_named x (Batch_begun part) = x
happening_named x Next_asked = x
happening_named x All_ended = x

same_unit : (u v : ℕ) (g h : HappeningView) → At_unit u g ≡ At_unit v h → u ≡ v
unfolding unit_named
same_unit u v g h e = ap (λ (x : FleetHappeningView). unit_named u x) e

same_happening : (u v : ℕ) (g h : HappeningView) → At_unit u g ≡ At_unit v h → g ≡ h
unfolding happening_named
same_happening u v g h e = ap (λ (x : FleetHappeningView). happening_named g x) e

-- where something is given at a unit, it is what happens there
given_at : (asked : Bool) (u v : ℕ) (g h : HappeningView) → given_as asked u g ≡ At_unit v h → At_unit u g ≡ At_unit v h
given_at false u v g h e = e
given_at true u v (Upload_started hw pos parts) h e = absurd cc
given_at true u v (Delivered side n) h e = e
given_at true u v (Lost n) h e = e
given_at true u v (Injected d) h e = e
given_at true u v (Ticked side) h e = e
given_at true u v (Size_told size) h e = e
given_at true u v (Power_cut calls pick) h e = e
given_at true u v Booted h e = e
given_at true u v (Info_started hw pos) h e = e
given_at true u v Ended h e = e

-- ---- one unit in a fleet

module _ (units : ℕ) (waiting : FleetWaiting) (asks : FleetAsking) (script : List FleetLine) (unit : ℕ) (low : 1 ≤ unit) (high : unit ≤ units) (lines : List Line) where
  abbrev scene_of : List StepOfFleet → FleetScene
  scene_of steps = fleet_scene_after units waiting asks steps

  abbrev fleet_next : List StepOfFleet → FleetTurn
  fleet_next steps = next_fleet_turn (fleet_scene_after units waiting asks steps) (fleet_plan_after units waiting asks script steps)

  abbrev own_next : List Step → Turn
  own_next own = next_turn (scene_after (waiting unit) own) (plan_after (waiting unit) lines own)

  -- The fleet's turn is that of a `finish`, and the unit's own is that of its own, with the same side to be ticked.
  record GoAlike (steps : List StepOfFleet) (own : List Step) : Type 0 where
    firsts : TickTurns
    of_fleet : fleet_next steps ≡ fleet_finish (scene_of steps) firsts
    of_unit : own_next own ≡ own_finish (scene_after (waiting unit) own) (firsts unit)

  record EndAlike (steps : List StepOfFleet) (own : List Step) : Type 0 where
    of_fleet : fleet_next steps ≡ fleet_turn All_ended Line_is_done []
    of_unit : own_next own ≡ turn Ended Nothing_left []

  abbrev AreAlike : List StepOfFleet → List Step → Type 0
  AreAlike steps own = GoAlike steps own ⊎ EndAlike steps own

  abbrev FollowAlike : List StepOfFleet → List Step → Type 0
  FollowAlike steps own = FollowsScript (waiting unit) lines own × AreAlike steps own

  -- the end is given: it is the unit's as well
  ends_alike : (s : StepOfFleet) (steps : List StepOfFleet) → fleet_next steps ≡ fleet_turn All_ended Line_is_done []
      → own_next (steps_of_unit unit steps) ≡ turn Ended Nothing_left []
      → given_in_fleet s ≡ (fleet_next steps).given → FollowsScript (waiting unit) lines (steps_of_unit unit steps) → FollowAlike (s ∷ steps) (steps_of_unit unit (s ∷ steps))
  ends_alike (Of_unit asked whose s) steps fleet own given follows = absurd (is_no_end (Of_unit asked whose s) tt (given ∙ ap (λ (t : FleetTurn). t.given) fleet))
  ends_alike (Of_batch part) steps fleet own given follows = absurd (is_no_end (Of_batch part) tt (given ∙ ap (λ (t : FleetTurn). t.given) fleet))
  ends_alike Of_all steps fleet own given follows = (
    (sym (ap (λ (t : Turn). t.given) own), follows),
    inr (record {
      of_fleet = ap (λ (t : FleetTurn). next_fleet_turn (scene_of (Of_all ∷ steps)) t.plan) fleet;
      of_unit = ap (λ (t : Turn). next_turn (scene_after (waiting unit) (ended_step ∷ steps_of_unit unit steps)) t.plan) own;
    }),
  )

  -- something is given at a unit: if it is this one, its own turn gives it
  given_alike : (s : StepOfFleet) (steps : List StepOfFleet) (whose : ℕ) (h : HappeningView) (firsts later : TickTurns)
      → fleet_next steps ≡ fleet_turn (At_unit whose h) (Finish_goes_on later) []
      → own_next (steps_of_unit unit steps) ≡ own_finish (scene_after (waiting unit) (steps_of_unit unit steps)) (firsts unit)
      → ((whose == unit) ≡ true → own_next (steps_of_unit unit steps) ≡ turn h (Finishing (later unit)) [])
      → ((whose == unit) ≡ false → firsts unit ≡ later unit)
      → given_in_fleet s ≡ (fleet_next steps).given → FollowsScript (waiting unit) lines (steps_of_unit unit steps) → FollowAlike (s ∷ steps) (steps_of_unit unit (s ∷ steps))
  given_alike Of_all steps whose h firsts later fleet own own_gives stays given follows = absurd (let e = given ∙ ap (λ (t : FleetTurn). t.given) fleet in cc)
  given_alike (Of_batch part) steps whose h firsts later fleet own own_gives stays given follows = absurd (let e = given ∙ ap (λ (t : FleetTurn). t.given) fleet in cc)
  given_alike (Of_unit asked named s) steps whose h firsts later fleet own own_gives stays given follows = by (named == unit) refl
    where
      e : At_unit named s.given ≡ At_unit whose h
      e = given_at asked named whose s.given h (given ∙ ap (λ (t : FleetTurn). t.given) fleet)

      fleet_after : fleet_next (Of_unit asked named s ∷ steps) ≡ fleet_finish (scene_of (Of_unit asked named s ∷ steps)) later
      fleet_after = ap (λ (t : FleetTurn). next_fleet_turn (scene_of (Of_unit asked named s ∷ steps)) t.plan) fleet

      unit_is : (b : Bool) → (named == unit) ≡ b → (whose == unit) ≡ b
      unit_is b is = subst (λ (n : ℕ). (n == unit) ≡ b) (same_unit named whose s.given h e) is

      by : (b : Bool) → (named == unit) ≡ b → FollowAlike (Of_unit asked named s ∷ steps) (cond b (s ∷ steps_of_unit unit steps) (steps_of_unit unit steps))
      by true is =
          let gives = own_gives (unit_is true is) in (
            (same_happening named whose s.given h e ∙ sym (ap (λ (t : Turn). t.given) gives), follows),
            inl (record {
              firsts = later;
              of_fleet = fleet_after;
              of_unit = ap (λ (t : Turn). next_turn (scene_after (waiting unit) (s ∷ steps_of_unit unit steps)) t.plan) gives;
            }),
          )
      by false is = (
        follows,
        inl (record {
          firsts = later;
          of_fleet = fleet_after;
          of_unit = own ∙ ap (λ (first : Side). own_finish (scene_after (waiting unit) (steps_of_unit unit steps)) first) (stays (unit_is false is));
        }),
      )

  -- the unit's own turn, in the scene that the fleet has of it
  own_turn : (steps : List StepOfFleet) (first : Side) → own_next (steps_of_unit unit steps) ≡ own_finish (scene_after (waiting unit) (steps_of_unit unit steps)) first
      → own_next (steps_of_unit unit steps) ≡ own_finish (unit_scene (scene_of steps) unit) first
  own_turn steps first own = own ∙ ap (λ (s : Scene). own_finish s first) (sym (unit_scene_is units waiting asks steps unit))

  -- a datagram is undelivered in the fleet
  delivers_alike : (s : StepOfFleet) (steps : List StepOfFleet) (alike : GoAlike steps (steps_of_unit unit steps)) (p : PostPlace) (later : List PostPlace)
      → undelivered_places (scene_of steps).posted (scene_of steps).happenings ≡ p ∷ later
      → given_in_fleet s ≡ (fleet_next steps).given → FollowsScript (waiting unit) lines (steps_of_unit unit steps) → FollowAlike (s ∷ steps) (steps_of_unit unit (s ∷ steps))
  delivers_alike s steps alike p later e given follows =
      let (h, fleet, own) = least_is_there (scene_of steps) p later e in
      given_alike s steps p.unit h alike.firsts alike.firsts (alike.of_fleet ∙ fleet_delivers (scene_of steps) alike.firsts (At_unit p.unit h) fleet) alike.of_unit
      (λ same. own_turn steps (alike.firsts unit) alike.of_unit
      ∙ own_delivers (unit_scene (scene_of steps) unit) (alike.firsts unit) h (subst (λ (n : ℕ). least_delivery (unit_scene (scene_of steps) n) ≡ Some h) (eqb-true p.unit unit same) own))
      (λ other_unit. refl) given follows

  -- nothing is undelivered
  ticks_alike : (s : StepOfFleet) (steps : List StepOfFleet) (alike : GoAlike steps (steps_of_unit unit steps))
      → undelivered_places (scene_of steps).posted (scene_of steps).happenings ≡ []
      → given_in_fleet s ≡ (fleet_next steps).given → FollowsScript (waiting unit) lines (steps_of_unit unit steps) → FollowAlike (s ∷ steps) (steps_of_unit unit (s ∷ steps))
  ticks_alike s steps alike none given follows = by (fleet_tick (scene_of steps) alike.firsts) refl
    where
      fleet_none : least_fleet_delivery (scene_of steps) ≡ None
      fleet_none = ap (λ (ps : List PostPlace). given_at_place (scene_of steps) delivery (first_place ps)) none

      own_none : least_delivery (unit_scene (scene_of steps) unit) ≡ None
      own_none = ap (λ (ns : List ℕ). delivery_of_first (unit_scene (scene_of steps) unit) ns) (none_is_own (scene_of steps) unit none)

      own_is : (o : Option Side) → ticked_side (unit_scene (scene_of steps) unit) (alike.firsts unit) ≡ o
          → own_next (steps_of_unit unit steps) ≡ or_else (finishing_tick [] o) (turn Ended Nothing_left [])
      own_is o e = own_turn steps (alike.firsts unit) alike.of_unit ∙ own_ticks (unit_scene (scene_of steps) unit) (alike.firsts unit) o own_none e

      passes : (t : UnitTick) → (t.unit == unit) ≡ true → other t.side ≡ turn_passed alike.firsts t unit
      passes t same = sym (ap (λ (b : Bool). cond b (other t.side) (alike.firsts unit)) same)

      stays : (t : UnitTick) → (t.unit == unit) ≡ false → alike.firsts unit ≡ turn_passed alike.firsts t unit
      stays t apart = sym (ap (λ (b : Bool). cond b (other t.side) (alike.firsts unit)) apart)

      by : (o : Option UnitTick) → fleet_tick (scene_of steps) alike.firsts ≡ o → FollowAlike (s ∷ steps) (steps_of_unit unit (s ∷ steps))
      by (Some t) e =
          given_alike s steps t.unit (Ticked t.side) alike.firsts (turn_passed alike.firsts t)
          (alike.of_fleet ∙ fleet_ticks (scene_of steps) alike.firsts (Some t) fleet_none e) alike.of_unit
          (λ same. own_is (Some t.side) (subst (λ (n : ℕ). ticked_side (unit_scene (scene_of steps) n) (alike.firsts n) ≡ Some t.side) (eqb-true t.unit unit same)
          (tick_is_own (scene_of steps) alike.firsts (range_with_len 1 units) t e))
          ∙ ap (λ (first : Side). turn (Ticked t.side) (Finishing first) []) (passes t same))
          (stays t) given follows
      by None e =
          ends_alike s steps (alike.of_fleet ∙ fleet_ticks (scene_of steps) alike.firsts None fleet_none e)
          (own_is None (none_ticked (scene_of steps) alike.firsts 1 units unit e low (omega arith))) given follows

  goes_alike : (s : StepOfFleet) (steps : List StepOfFleet) (alike : GoAlike steps (steps_of_unit unit steps))
      → given_in_fleet s ≡ (fleet_next steps).given → FollowsScript (waiting unit) lines (steps_of_unit unit steps) → FollowAlike (s ∷ steps) (steps_of_unit unit (s ∷ steps))
  goes_alike s steps alike = by (undelivered_places (scene_of steps).posted (scene_of steps).happenings) refl
    where
      by : (ps : List PostPlace) → undelivered_places (scene_of steps).posted (scene_of steps).happenings ≡ ps
          → given_in_fleet s ≡ (fleet_next steps).given → FollowsScript (waiting unit) lines (steps_of_unit unit steps) → FollowAlike (s ∷ steps) (steps_of_unit unit (s ∷ steps))
      by [] e = ticks_alike s steps alike e
      by (p ∷ later) e = delivers_alike s steps alike p later e

  stays_alike : (before : List StepOfFleet) → FollowAlike before (steps_of_unit unit before) → (more : List StepOfFleet)
      → FollowsFleet units waiting asks script (more ++ before) → FollowAlike (more ++ before) (steps_of_unit unit (more ++ before))
  stays_alike before start [] follows = start
  stays_alike before start (s ∷ more) follows =
      let (own, alike) = stays_alike before start more follows.1 in
      ⊎_elim (λ goes. goes_alike s (more ++ before) goes follows.0 own) (λ ends. ends_alike s (more ++ before) ends.of_fleet ends.of_unit follows.0 own) alike

-- ---- where the last `finish` is left

pub some_left : (idle : List FleetLine) → [] ≡ idle ++ Finish_all ∷ [] → ⊥
some_left [] e = absurd cc
some_left (line ∷ idle) e = absurd cc

pub follows_before : (units : ℕ) (waiting : FleetWaiting) (asks : FleetAsking) (script : List FleetLine) (more before : List StepOfFleet)
    → FollowsFleet units waiting asks script (more ++ before) → FollowsFleet units waiting asks script before
follows_before units waiting asks script [] before follows = follows
follows_before units waiting asks script (s ∷ more) before follows = follows_before units waiting asks script more before follows.1

-- then the fleet hasn't ended
pub not_ended_before : (units : ℕ) (waiting : FleetWaiting) (asks : FleetAsking) (script : List FleetLine) (before : List StepOfFleet)
    → FleetFinishIsLeft units waiting asks script before → FollowsFleet units waiting asks script before → HasNotEnded before
not_ended_before units waiting asks script before left follows =
    ⊎_elim (λ goes. goes) (λ over. absurd (some_left left.idle (sym (ap (λ (p : FleetPlan). p.lines) over) ∙ left.lines))) (over_where_ended units waiting asks script before follows)

module _ (units : ℕ) (waiting : FleetWaiting) (asks : FleetAsking) (script : List FleetLine) (before : List StepOfFleet) (unit : ℕ) (left : FleetFinishIsLeft units waiting asks script before) where
  pub begins_finish : next_fleet_turn (fleet_scene_after units waiting asks before) (fleet_plan_after units waiting asks script before) ≡ fleet_finish (fleet_scene_after units waiting asks before) loaders_first
  begins_finish =
      let s = fleet_scene_after units waiting asks before in
      ap (λ (o : Option FleetTurn). or_next o (from_fleet_lines s (fleet_plan_after units waiting asks script before).lines)) left.over
      ∙ (ap (λ (ls : List FleetLine). from_fleet_lines s ls) left.lines ∙ passed_over s left.idle (Finish_all ∷ []) left.give_nothing)

  module _ (follows : FollowsFleet units waiting asks script before) where
    pub finish_alone_is_left : plan_after (waiting unit) (own_script (steps_of_unit unit before) ++ Finish ∷ []) (steps_of_unit unit before) ≡ plan_of (Finish ∷ [])
    finish_alone_is_left =
        own_script_leaves (waiting unit) (steps_of_unit unit before) (Finish ∷ [])
        (all_can units waiting asks script before unit follows (not_ended_before units waiting asks script before left follows))

    begins_alike : (low : 1 ≤ unit) (high : unit ≤ units)
        → FollowAlike units waiting asks script unit low high (own_script (steps_of_unit unit before) ++ Finish ∷ []) before (steps_of_unit unit before)
    begins_alike low high = (
      own_script_follows (waiting unit) (steps_of_unit unit before) (Finish ∷ [])
          (all_can units waiting asks script before unit follows (not_ended_before units waiting asks script before left follows)),
      inl (record {
        firsts = loaders_first;
        of_fleet = begins_finish;
        of_unit = ap (λ (p : Plan). next_turn (scene_after (waiting unit) (steps_of_unit unit before)) p) finish_alone_is_left;
      }),
    )

pub finish_is_own : (units : ℕ) (waiting : FleetWaiting) (asks : FleetAsking) (script : List FleetLine) (before more : List StepOfFleet) (unit : ℕ) → 1 ≤ unit → unit ≤ units
    → FleetFinishIsLeft units waiting asks script before → FollowsFleet units waiting asks script (more ++ before)
    → FollowsScript (waiting unit) (own_script (steps_of_unit unit before) ++ Finish ∷ []) (steps_of_unit unit (more ++ before))
finish_is_own units waiting asks script before more unit low high left follows =
    (stays_alike units waiting asks script unit low high (own_script (steps_of_unit unit before) ++ Finish ∷ []) before
    (begins_alike units waiting asks script before unit left (follows_before units waiting asks script more before follows) low high) more follows).0
