-- What a fleet's script gives at a unit can be given by a line of the unit's own script.
use Rattle.std.proofs.Common.{◌≡◌, ℕ, zero, suc, Bool, true, false, cond, List, [], ◌∷◌, Option, Some, None, IfSome, option_map, eqb-true, refl, sym, subst, subst₂}
use Rattle.std.specs.Prelude.{length, ◌==◌, if◌then◌else◌}
use Rattle.exchange_trace.specs.declared.trace.Side.{Side}
use Rattle.exchange_trace.specs.declared.trace.Side.TheVariants as sides
use Rattle.exchange_trace.specs.Following.{Deliveries, Finishing, Nothing_left, Rest, Scene, Turn, begins, delivered_next, delivery, delivery_of_first, finishing, finishing_tick, goes_on, least_delivery, loss, once, ticked_side}
use Rattle.exchange_trace.specs.Happenings.{Booted, DatagramView, Delivered, Ended, HappeningView, Info_started, Injected, Lost, Power_cut, Size_told, Ticked, Upload_started, other}
use Rattle.exchange_trace.specs.Lines.{Blksize, Boot, Finish, Give, Info, Inject, Line, Lose, Next, Power, Tick, Upload}
use Rattle.exchange_trace.specs.Posts.{AllHonest, IsHonest, happenings_of, numbered, posted_in, undelivered, was_delivered}
use Rattle.fleet_trace.specs.FleetTraces.{All_ended, At_unit, Batch_begun, FleetHappeningView, HasNotEnded, Next_asked, Of_all, Of_batch, Of_unit, StepOfFleet, steps_of_unit}
use Rattle.fleet_trace.specs.FleetPosts.{PostPlace, fleet_happenings, fleet_posts, given_as, happenings_of_unit, located, posts_of_unit, undelivered_places}
use Rattle.fleet_trace.specs.FleetLines.{FleetLine, Ask_next, Begin_batch, Finish_all, Finish_batch, Give_numbered, Line_at, Lose_numbered, Next_of_all}
use Rattle.fleet_trace.specs.FleetFollowing.{Batch_finishes, Deliveries_left, Finish_goes_on, Finishes, FleetAsking, FleetPlan, FleetRest, FleetScene, FleetTurn, FleetWaiting, FollowsFleet, Line_is_done, TickTurns, UnitTick, asking, first_place, fleet_begins, fleet_delivery, fleet_finishing, fleet_finishing_tick, fleet_goes_on, fleet_loss, fleet_plan_after, fleet_scene_after, fleet_tick, fleet_turn, from_fleet_lines, given_at_place, given_by_line, least_fleet_delivery, turn_leaving, loaders_first, next_fleet_turn, or_asking, or_next, unit_scene}
use Rattle.fleet_trace.specs.OwnScripts.{AllCanBeGiven, CanBeGiven}
use Rattle.fleet_trace.proofs.UnitParts.{happenings_are, posts_are}

-- ---- in one unit's scene

abbrev CanBe : Scene → HappeningView → Type 0
CanBe s h = CanBeGiven s.posted s.happenings h

abbrev TurnCanBe : Scene → Option Turn → Type 0
TurnCanBe s o = IfSome o (λ (t : Turn). CanBe s t.given)

pub delivery_can : (s : Scene) (n : ℕ) → IfSome (delivery s n) (CanBe s)
delivery_can s n = by (numbered s.posted n) refl
  where
    by : (o : Option DatagramView) → numbered s.posted n ≡ o → IfSome (option_map (λ (d : DatagramView). Delivered (other d.side) n) o) (CanBe s)
    by None e = tt
    by (Some d) e = (d, e, refl)

loss_can : (s : Scene) (n : ℕ) → IfSome (loss s n) (CanBe s)
loss_can s n = by (was_delivered n s.happenings) refl (numbered s.posted n) refl
  where
    by : (b : Bool) → was_delivered n s.happenings ≡ b → (o : Option DatagramView) → numbered s.posted n ≡ o → IfSome (if b then None else option_map (λ (d : DatagramView). Lost n) o) (CanBe s)
    by true never o e = tt
    by false never None e = tt
    by false never (Some d) e = (d, e, never)

least_can : (s : Scene) (ns : List ℕ) → IfSome (delivery_of_first s ns) (CanBe s)
least_can s [] = tt
least_can s (n ∷ ns) = delivery_can s n

once_can : (s : Scene) (lines : List Line) (o : Option HappeningView) → IfSome o (CanBe s) → TurnCanBe s (once lines o)
once_can s lines None h = tt
once_can s lines (Some x) h = h

next_can : (s : Scene) (k : ℕ) (lines : List Line) (o : Option HappeningView) → IfSome o (CanBe s) → TurnCanBe s (delivered_next k lines o)
next_can s k lines None h = tt
next_can s k lines (Some x) h = h

tick_can : (s : Scene) (lines : List Line) (o : Option Side) → TurnCanBe s (finishing_tick lines o)
tick_can s lines None = tt
tick_can s lines (Some side) = tt

finishing_can : (s : Scene) (first : Side) (lines : List Line) (o : Option HappeningView) → IfSome o (CanBe s) → TurnCanBe s (finishing s first lines o)
finishing_can s first lines None h = tick_can s lines (ticked_side s first)
finishing_can s first lines (Some x) h = h

goes_on_can : (s : Scene) (rest : Rest) (lines : List Line) → TurnCanBe s (goes_on s rest lines)
goes_on_can s Nothing_left lines = tt
goes_on_can s (Deliveries zero) lines = tt
goes_on_can s (Deliveries (suc k)) lines = next_can s k lines (least_delivery s) (least_can s (undelivered (length s.posted) s.happenings))
goes_on_can s (Finishing first) lines = finishing_can s first lines (least_delivery s) (least_can s (undelivered (length s.posted) s.happenings))

-- whatever a line gives first can be given
begins_can : (s : Scene) (line : Line) (lines : List Line) → TurnCanBe s (begins s line lines)
begins_can s (Info hw pos) lines = tt
begins_can s (Upload hw pos parts) lines = tt
begins_can s (Give n) lines = once_can s lines (delivery s n) (delivery_can s n)
begins_can s (Lose n) lines = once_can s lines (loss s n) (loss_can s n)
begins_can s (Next k) lines = goes_on_can s (Deliveries k) lines
begins_can s (Tick side) lines = tt
begins_can s (Inject d) lines = tt
begins_can s (Power calls pick) lines = tt
begins_can s Boot lines = tt
begins_can s (Blksize size) lines = tt
begins_can s Finish lines = goes_on_can s (Finishing sides.Loader) lines

-- ---- in a fleet's scene

-- it can be given at its unit, or asks where that may be; and it isn't the end
abbrev pub FleetCanBe : FleetScene → FleetHappeningView → Type 0
FleetCanBe s (At_unit unit h) = CanBeGiven (posts_of_unit unit s.posted) (happenings_of_unit unit s.happenings) h
FleetCanBe s (Batch_begun part) = Unit {0}
FleetCanBe s Next_asked = s.may_ask ≡ true
FleetCanBe s All_ended = ⊥

-- the same, or it is the end
abbrev CanBeOrEnds : FleetScene → FleetHappeningView → Type 0
CanBeOrEnds s (At_unit unit h) = CanBeGiven (posts_of_unit unit s.posted) (happenings_of_unit unit s.happenings) h
CanBeOrEnds s (Batch_begun part) = Unit {0}
CanBeOrEnds s Next_asked = s.may_ask ≡ true
CanBeOrEnds s All_ended = Unit {0}

abbrev pub FleetTurnCanBe : FleetScene → Option FleetTurn → Type 0
FleetTurnCanBe s o = IfSome o (λ (t : FleetTurn). FleetCanBe s t.given)

at_unit_can : (s : FleetScene) (unit : ℕ) (o : Option HappeningView) → IfSome o (CanBe (unit_scene s unit)) → IfSome (option_map (At_unit unit) o) (FleetCanBe s)
at_unit_can s unit None h = tt
at_unit_can s unit (Some x) h = h

place_can : (s : FleetScene) (gives : Scene → ℕ → Option HappeningView) (each : (scene : Scene) (n : ℕ) → IfSome (gives scene n) (CanBe scene))
    (o : Option PostPlace) → IfSome (given_at_place s gives o) (FleetCanBe s)
place_can s gives each None = tt
place_can s gives each (Some p) = at_unit_can s p.unit (gives (unit_scene s p.unit) p.number) (each (unit_scene s p.unit) p.number)

line_can : (s : FleetScene) (unit : ℕ) (o : Option Turn) → TurnCanBe (unit_scene s unit) o → IfSome (option_map (λ (t : Turn). At_unit unit t.given) o) (FleetCanBe s)
line_can s unit None h = tt
line_can s unit (Some t) h = h

leaving_can : (s : FleetScene) (rest : FleetRest) (lines : List FleetLine) (o : Option FleetHappeningView) → IfSome o (FleetCanBe s) → FleetTurnCanBe s (turn_leaving rest lines o)
leaving_can s rest lines None h = tt
leaving_can s rest lines (Some x) h = h

fleet_tick_can : (s : FleetScene) (rest : Finishes) (firsts : TickTurns) (lines : List FleetLine) (o : Option UnitTick) → FleetTurnCanBe s (fleet_finishing_tick rest firsts lines o)
fleet_tick_can s rest firsts lines None = tt
fleet_tick_can s rest firsts lines (Some t) = tt

fleet_finishing_can : (s : FleetScene) (rest : Finishes) (firsts : TickTurns) (lines : List FleetLine) (o : Option FleetHappeningView) → IfSome o (FleetCanBe s)
    → FleetTurnCanBe s (fleet_finishing s rest firsts lines o)
fleet_finishing_can s rest firsts lines None h = fleet_tick_can s rest firsts lines (fleet_tick s firsts)
fleet_finishing_can s rest firsts lines (Some x) h = h

asking_can : (s : FleetScene) (rest : FleetRest) (lines : List FleetLine) → FleetTurnCanBe s (asking s rest lines)
asking_can s rest lines = by s.may_ask refl
  where
    by : (b : Bool) → s.may_ask ≡ b → FleetTurnCanBe s (if b then Some (fleet_turn Next_asked rest lines) else None)
    by true may = may
    by false may = tt

or_asking_can : (s : FleetScene) (lines : List FleetLine) (o : Option FleetTurn) → FleetTurnCanBe s o → FleetTurnCanBe s (or_asking s lines o)
or_asking_can s lines None h = asking_can s (Batch_finishes loaders_first) lines
or_asking_can s lines (Some t) h = h

least_fleet_can : (s : FleetScene) → IfSome (least_fleet_delivery s) (FleetCanBe s)
least_fleet_can s = place_can s delivery delivery_can (first_place (undelivered_places s.posted s.happenings))

pub fleet_goes_on_can : (s : FleetScene) (rest : FleetRest) (lines : List FleetLine) → FleetTurnCanBe s (fleet_goes_on s rest lines)
fleet_goes_on_can s Line_is_done lines = tt
fleet_goes_on_can s (Deliveries_left zero) lines = tt
fleet_goes_on_can s (Deliveries_left (suc k)) lines = leaving_can s (Deliveries_left k) lines (least_fleet_delivery s) (least_fleet_can s)
fleet_goes_on_can s (Finish_goes_on firsts) lines = fleet_finishing_can s Finish_goes_on firsts lines (least_fleet_delivery s) (least_fleet_can s)
fleet_goes_on_can s (Batch_finishes firsts) lines =
    or_asking_can s lines (fleet_finishing s Batch_finishes firsts lines (least_fleet_delivery s))
    (fleet_finishing_can s Batch_finishes firsts lines (least_fleet_delivery s) (least_fleet_can s))

pub fleet_begins_can : (s : FleetScene) (line : FleetLine) (lines : List FleetLine) → FleetTurnCanBe s (fleet_begins s line lines)
fleet_begins_can s (Line_at unit line) lines =
    leaving_can s Line_is_done lines (given_by_line s unit line) (line_can s unit (begins (unit_scene s unit) line []) (begins_can (unit_scene s unit) line []))
fleet_begins_can s (Give_numbered n) lines = leaving_can s Line_is_done lines (fleet_delivery s n) (place_can s delivery delivery_can (located s.posted n))
fleet_begins_can s (Lose_numbered n) lines = leaving_can s Line_is_done lines (fleet_loss s n) (place_can s loss loss_can (located s.posted n))
fleet_begins_can s (Next_of_all k) lines = fleet_goes_on_can s (Deliveries_left k) lines
fleet_begins_can s Finish_all lines = fleet_goes_on_can s (Finish_goes_on loaders_first) lines
fleet_begins_can s (Begin_batch part) lines = tt
fleet_begins_can s Ask_next lines = asking_can s Line_is_done lines
fleet_begins_can s Finish_batch lines = asking_can s (Batch_finishes loaders_first) lines

or_ends : (s : FleetScene) (h : FleetHappeningView) → FleetCanBe s h → CanBeOrEnds s h
or_ends s (At_unit unit h) can = can
or_ends s (Batch_begun part) can = tt
or_ends s Next_asked can = can
or_ends s All_ended can = absurd can

chosen_can : (s : FleetScene) (o : Option FleetTurn) (later : FleetTurn) → FleetTurnCanBe s o → CanBeOrEnds s later.given → CanBeOrEnds s (or_next o later).given
chosen_can s None later h rest = rest
chosen_can s (Some t) later h rest = or_ends s t.given h

fleet_lines_can : (s : FleetScene) (lines : List FleetLine) → CanBeOrEnds s (from_fleet_lines s lines).given
fleet_lines_can s [] = tt
fleet_lines_can s (line ∷ lines) = chosen_can s (fleet_begins s line lines) (from_fleet_lines s lines) (fleet_begins_can s line lines) (fleet_lines_can s lines)

next_turn_can : (s : FleetScene) (p : FleetPlan) → CanBeOrEnds s (next_fleet_turn s p).given
next_turn_can s p = chosen_can s (fleet_goes_on s p.rest p.lines) (from_fleet_lines s p.lines) (fleet_goes_on_can s p.rest p.lines) (fleet_lines_can s p.lines)

pub given_can : (s : FleetScene) (p : FleetPlan) (unit : ℕ) (h : HappeningView) → (next_fleet_turn s p).given ≡ At_unit unit h
    → CanBeGiven (posts_of_unit unit s.posted) (happenings_of_unit unit s.happenings) h
given_can s p unit h e = subst (λ (x : FleetHappeningView). CanBeOrEnds s x) e (next_turn_can s p)

-- an upload is asked only where it may be
pub asked_may_be : (s : FleetScene) (p : FleetPlan) → (next_fleet_turn s p).given ≡ Next_asked → s.may_ask ≡ true
asked_may_be s p e = subst (λ (x : FleetHappeningView). CanBeOrEnds s x) e (next_turn_can s p)

-- what happens in a step of a unit can be given there, also an upload that was asked
step_can : (s : FleetScene) (p : FleetPlan) (asked : Bool) (unit : ℕ) (h : HappeningView) → given_as asked unit h ≡ (next_fleet_turn s p).given
    → CanBeGiven (posts_of_unit unit s.posted) (happenings_of_unit unit s.happenings) h
step_can s p false unit h e = given_can s p unit h (sym e)
step_can s p true unit (Upload_started hw pos parts) e = tt
step_can s p true unit (Delivered side n) e = given_can s p unit (Delivered side n) (sym e)
step_can s p true unit (Lost n) e = given_can s p unit (Lost n) (sym e)
step_can s p true unit (Injected d) e = tt
step_can s p true unit (Ticked side) e = tt
step_can s p true unit (Size_told size) e = tt
step_can s p true unit (Power_cut calls pick) e = tt
step_can s p true unit Booted e = tt
step_can s p true unit (Info_started hw pos) e = tt
step_can s p true unit Ended e = given_can s p unit Ended (sym e)

-- ---- deliveries are honest

pub can_is_honest : (posted : List DatagramView) (happenings : List HappeningView) (h : HappeningView) → CanBeGiven posted happenings h → IsHonest posted h
can_is_honest posted happenings (Delivered side n) can = can
can_is_honest posted happenings (Lost n) can = tt
can_is_honest posted happenings (Injected d) can = tt
can_is_honest posted happenings (Ticked side) can = tt
can_is_honest posted happenings (Size_told size) can = tt
can_is_honest posted happenings (Power_cut calls pick) can = tt
can_is_honest posted happenings Booted can = tt
can_is_honest posted happenings (Info_started hw pos) can = tt
can_is_honest posted happenings (Upload_started hw pos parts) can = tt
can_is_honest posted happenings Ended can = absurd can

pub given_is_honest : (s : FleetScene) (p : FleetPlan) (unit : ℕ) (h : HappeningView) → (next_fleet_turn s p).given ≡ At_unit unit h
    → IsHonest (posts_of_unit unit s.posted) h
given_is_honest s p unit h e = can_is_honest (posts_of_unit unit s.posted) (happenings_of_unit unit s.happenings) h (given_can s p unit h e)

-- ---- a whole trace

-- what is given at a unit can be given after its own steps
own_can : (unit whose : ℕ) (earlier : List StepOfFleet) (h : HappeningView) → (whose == unit) ≡ true
    → CanBeGiven (posts_of_unit whose (fleet_posts earlier)) (happenings_of_unit whose (fleet_happenings earlier)) h
    → CanBeGiven (posted_in (steps_of_unit unit earlier)) (happenings_of (steps_of_unit unit earlier)) h
own_can unit whose earlier h same can =
    subst₂ (λ (ds : List DatagramView) (hs : List HappeningView). CanBeGiven ds hs h) (posts_are unit earlier) (happenings_are unit earlier)
    (subst (λ (n : ℕ). CanBeGiven (posts_of_unit n (fleet_posts earlier)) (happenings_of_unit n (fleet_happenings earlier)) h) (eqb-true whose unit same) can)

pub all_can : (units : ℕ) (waiting : FleetWaiting) (asks : FleetAsking) (script : List FleetLine) (steps : List StepOfFleet) (unit : ℕ)
    → FollowsFleet units waiting asks script steps → HasNotEnded steps → AllCanBeGiven (steps_of_unit unit steps)
all_can units waiting asks script [] unit follows goes = tt
all_can units waiting asks script (Of_all ∷ earlier) unit follows goes = absurd goes.0
all_can units waiting asks script (Of_batch part ∷ earlier) unit follows goes = all_can units waiting asks script earlier unit follows.1 goes.1
all_can units waiting asks script (Of_unit asked whose s ∷ earlier) unit follows goes =
    by (whose == unit) refl (all_can units waiting asks script earlier unit follows.1 goes.1)
    (step_can (fleet_scene_after units waiting asks earlier) (fleet_plan_after units waiting asks script earlier) asked whose s.given follows.0)
  where
    by : (b : Bool) → (whose == unit) ≡ b → AllCanBeGiven (steps_of_unit unit earlier)
        → CanBeGiven (posts_of_unit whose (fleet_posts earlier)) (happenings_of_unit whose (fleet_happenings earlier)) s.given
        → AllCanBeGiven (cond b (s ∷ steps_of_unit unit earlier) (steps_of_unit unit earlier))
    by true same others can = (own_can unit whose earlier s.given same can, others)
    by false other others can = others

pub all_honest : (units : ℕ) (waiting : FleetWaiting) (asks : FleetAsking) (script : List FleetLine) (steps : List StepOfFleet) (unit : ℕ)
    → FollowsFleet units waiting asks script steps → AllHonest (steps_of_unit unit steps)
all_honest units waiting asks script [] unit follows = tt
all_honest units waiting asks script (Of_all ∷ earlier) unit follows = (tt, all_honest units waiting asks script earlier unit follows.1)
all_honest units waiting asks script (Of_batch part ∷ earlier) unit follows = all_honest units waiting asks script earlier unit follows.1
all_honest units waiting asks script (Of_unit asked whose s ∷ earlier) unit follows =
    by (whose == unit) refl (all_honest units waiting asks script earlier unit follows.1)
    (step_can (fleet_scene_after units waiting asks earlier) (fleet_plan_after units waiting asks script earlier) asked whose s.given follows.0)
  where
    by : (b : Bool) → (whose == unit) ≡ b → AllHonest (steps_of_unit unit earlier)
        → CanBeGiven (posts_of_unit whose (fleet_posts earlier)) (happenings_of_unit whose (fleet_happenings earlier)) s.given
        → AllHonest (cond b (s ∷ steps_of_unit unit earlier) (steps_of_unit unit earlier))
    by true same others can =
        (can_is_honest (posted_in (steps_of_unit unit earlier)) (happenings_of (steps_of_unit unit earlier)) s.given (own_can unit whose earlier s.given same can), others)
    by false other others can = others
