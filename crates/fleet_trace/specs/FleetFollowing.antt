-- What following a script of a fleet means (docs/FORMATS.md, "Script of a fleet"). What happens at a unit is what the script of a
-- single target gives in that unit's own scene.
use Rattle.std.specs.Prelude.{◌≡◌, ℕ, zero, suc, List, [], ◌∷◌, ◌==◌, Bool, Option, Some, None, option_map}
use Rattle.std.specs.Prelude.{if◌then◌else◌, ⊤}
use Rattle.std.specs.List.{range_with_len}
use Rattle.exchange_trace.specs.declared.trace.Side.{Side}
use Rattle.exchange_trace.specs.declared.trace.Side.TheVariants as sides
use Rattle.exchange_trace.specs.Happenings.{HappeningView, Ticked, other}
use Rattle.exchange_trace.specs.Steps.{Step}
use Rattle.exchange_trace.specs.Lines.{Line}
use Rattle.exchange_trace.specs.Following.{Scene, Turn, begins, delivery, loss, ticked_side}
use Rattle.fleet_trace.specs.FleetTraces.{FleetHappeningView, At_unit, Batch_begun, Next_asked, All_ended}
use Rattle.fleet_trace.specs.FleetTraces.{StepOfFleet, steps_of_unit}
use Rattle.fleet_trace.specs.FleetPosts.{PostPlace, UnitPost, fleet_happenings, fleet_posts, given_in_fleet}
use Rattle.fleet_trace.specs.FleetPosts.{happenings_of_unit, located, posts_of_unit, undelivered_places}
use Rattle.fleet_trace.specs.FleetLines.{FleetLine, Line_at, Give_numbered, Lose_numbered, Next_of_all, Finish_all}
use Rattle.fleet_trace.specs.FleetLines.{Begin_batch, Ask_next, Finish_batch}

-- ---- scenes

-- what decides how a fleet's script goes on: what was posted, what happened, how many units there are, which sides of
-- each have a live session, and whether the upload to the next target of the running batch may be asked
pub record FleetScene : Type 0 where
  pub posted : List UnitPost
  pub happenings : List FleetHappeningView
  pub units : ℕ
  pub waits_at : (unit : ℕ) → Side → Bool
  pub may_ask : Bool

-- what of it is one unit's
abbrev pub unit_scene : FleetScene → (unit : ℕ) → Scene
unit_scene s unit =
    record {
      posted = posts_of_unit unit s.posted;
      happenings = happenings_of_unit unit s.happenings;
      loader_waits = s.waits_at unit sides.Loader;
      target_waits = s.waits_at unit sides.Target;
    }

-- what a definition of a single target gives for the datagram of a place, by its own number at its unit
abbrev pub given_at_place : FleetScene → (Scene → ℕ → Option HappeningView) → Option PostPlace
    → Option FleetHappeningView
given_at_place s gives None = None
given_at_place s gives (Some p) = option_map (At_unit p.unit) (gives (unit_scene s p.unit) p.number)

-- the datagram of this number in the fleet is delivered
abbrev pub fleet_delivery : FleetScene → ℕ → Option FleetHappeningView
fleet_delivery s n = given_at_place s delivery (located s.posted n)

-- it is lost
abbrev pub fleet_loss : FleetScene → ℕ → Option FleetHappeningView
fleet_loss s n = given_at_place s loss (located s.posted n)

abbrev pub first_place : List PostPlace → Option PostPlace
first_place [] = None
first_place (p ∷ later) = Some p

-- the undelivered datagram with the fleet's least number is delivered, if there is one
abbrev pub least_fleet_delivery : FleetScene → Option FleetHappeningView
least_fleet_delivery s = given_at_place s delivery (first_place (undelivered_places s.posted s.happenings))

-- ---- ticks

-- for each unit, whose turn it is to be ticked
abbrev pub TickTurns : Type 0
TickTurns = (unit : ℕ) → Side

-- `finish` begins with the loader at each
abbrev pub loaders_first : TickTurns
loaders_first unit = sides.Loader

-- which side of which unit is ticked
pub record UnitTick : Type 0 where
  pub unit : ℕ
  pub side : Side

-- the turn passes to the side that wasn't ticked, at that unit alone
abbrev pub turn_passed : TickTurns → UnitTick → TickTurns
turn_passed firsts t unit = if t.unit == unit then other t.side else firsts unit

abbrev pub tick_or_later : (unit : ℕ) → Option Side → (later : Option UnitTick) → Option UnitTick
tick_or_later unit (Some side) later = Some (record { unit = unit; side = side })
tick_or_later unit None later = later

-- the first of these units that has a side that waits, and which side is ticked there
abbrev pub first_tick : FleetScene → TickTurns → (units : List ℕ) → Option UnitTick
first_tick s firsts [] = None
first_tick s firsts (unit ∷ later) =
    tick_or_later unit (ticked_side (unit_scene s unit) (firsts unit)) (first_tick s firsts later)

-- the least unit that has a side that waits is ticked, by its own turn
abbrev pub fleet_tick : FleetScene → TickTurns → Option UnitTick
fleet_tick s firsts = first_tick s firsts (range_with_len 1 s.units)

-- ---- plans

-- what is left of the line that is being followed
pub data FleetRest : Type 0 where
  Line_is_done : FleetRest
  Deliveries_left : ℕ → FleetRest  -- of `next`: this many more
  Finish_goes_on : (firsts : TickTurns) → FleetRest  -- of `finish`
  Batch_finishes : (firsts : TickTurns) → FleetRest  -- of `finishbatch`: its `finish`, after which it asks

-- what is left of a fleet's script
pub record FleetPlan : Type 0 where
  pub rest : FleetRest
  pub lines : List FleetLine

abbrev pub fleet_plan_of : List FleetLine → FleetPlan
fleet_plan_of lines = record { rest = Line_is_done; lines = lines }

-- what happens, and what is left of the script then
pub record FleetTurn : Type 0 where
  pub given : FleetHappeningView
  pub plan : FleetPlan

abbrev pub fleet_turn : FleetHappeningView → FleetRest → List FleetLine → FleetTurn
fleet_turn h rest lines = record { given = h; plan = record { rest = rest; lines = lines } }

-- a turn that leaves this of its line, if something happens
abbrev pub turn_leaving : FleetRest → List FleetLine → Option FleetHappeningView → Option FleetTurn
turn_leaving rest lines happening = option_map (λ h. fleet_turn h rest lines) happening

-- ---- a line goes on

-- what is left of a line that finishes, by whose turn it is at each unit
abbrev pub Finishes : Type 0
Finishes = (firsts : TickTurns) → FleetRest

abbrev pub fleet_finishing_tick : Finishes → TickTurns → List FleetLine → Option UnitTick → Option FleetTurn
fleet_finishing_tick rest firsts lines tick =
    option_map (λ t. fleet_turn (At_unit t.unit (Ticked t.side)) (rest (turn_passed firsts t)) lines) tick

-- a unit is ticked only where nothing is undelivered at any
abbrev pub fleet_finishing : FleetScene → Finishes → TickTurns → List FleetLine → Option FleetHappeningView → Option FleetTurn
fleet_finishing s rest firsts lines (Some h) = Some (fleet_turn h (rest firsts) lines)
fleet_finishing s rest firsts lines None = fleet_finishing_tick rest firsts lines (fleet_tick s firsts)

-- the upload to the next target is asked, if it may be
abbrev pub asking : FleetScene → FleetRest → List FleetLine → Option FleetTurn
asking s rest lines = if s.may_ask then Some (fleet_turn Next_asked rest lines) else None

-- `finishbatch` asks, and then a `finish` comes
abbrev pub batch_asking : FleetScene → List FleetLine → Option FleetTurn
batch_asking s lines = asking s (Batch_finishes loaders_first) lines

-- once its `finish` gives nothing, it asks again
abbrev pub or_asking : FleetScene → List FleetLine → Option FleetTurn → Option FleetTurn
or_asking s lines (Some t) = Some t
or_asking s lines None = batch_asking s lines

-- what is left of a line gives something, or the line is done
abbrev pub fleet_goes_on : FleetScene → FleetRest → List FleetLine → Option FleetTurn
fleet_goes_on s Line_is_done lines = None
fleet_goes_on s (Deliveries_left zero) lines = None
fleet_goes_on s (Deliveries_left (suc k)) lines = turn_leaving (Deliveries_left k) lines (least_fleet_delivery s)
fleet_goes_on s (Finish_goes_on firsts) lines =
    fleet_finishing s Finish_goes_on firsts lines (least_fleet_delivery s)
fleet_goes_on s (Batch_finishes firsts) lines =
    or_asking s lines (fleet_finishing s Batch_finishes firsts lines (least_fleet_delivery s))

-- ---- a line begins

-- what a line of a single target gives first in this unit's scene
abbrev pub given_by_line : FleetScene → (unit : ℕ) → Line → Option FleetHappeningView
given_by_line s unit line = option_map (λ (t : Turn). At_unit unit t.given) (begins (unit_scene s unit) line [])

-- the first that a line gives; some lines give nothing
abbrev pub fleet_begins : FleetScene → FleetLine → List FleetLine → Option FleetTurn
fleet_begins s (Line_at unit line) lines = turn_leaving Line_is_done lines (given_by_line s unit line)
fleet_begins s (Give_numbered n) lines = turn_leaving Line_is_done lines (fleet_delivery s n)
fleet_begins s (Lose_numbered n) lines = turn_leaving Line_is_done lines (fleet_loss s n)
fleet_begins s (Next_of_all k) lines = fleet_goes_on s (Deliveries_left k) lines
fleet_begins s Finish_all lines = fleet_goes_on s (Finish_goes_on loaders_first) lines
fleet_begins s (Begin_batch part) lines = Some (fleet_turn (Batch_begun part) Line_is_done lines)
fleet_begins s Ask_next lines = asking s Line_is_done lines
fleet_begins s Finish_batch lines = batch_asking s lines

abbrev pub or_next : Option FleetTurn → FleetTurn → FleetTurn
or_next (Some t) later = t
or_next None later = later

-- the lines in their order, and after the last one the end
abbrev pub from_fleet_lines : FleetScene → List FleetLine → FleetTurn
from_fleet_lines s [] = fleet_turn All_ended Line_is_done []
from_fleet_lines s (line ∷ lines) = or_next (fleet_begins s line lines) (from_fleet_lines s lines)

-- what happens next
abbrev pub next_fleet_turn : FleetScene → FleetPlan → FleetTurn
next_fleet_turn s p = or_next (fleet_goes_on s p.rest p.lines) (from_fleet_lines s p.lines)

-- ---- a whole trace

-- which sides of each unit have a live session after steps of its own
abbrev pub FleetWaiting : Type 0
FleetWaiting = (unit : ℕ) → Side → List Step → Bool

-- whether the upload to the next target of the running batch may be asked after steps of the fleet
abbrev pub FleetAsking : Type 0
FleetAsking = List StepOfFleet → Bool

-- the scene after steps of a fleet of so many units
abbrev pub fleet_scene_after : (units : ℕ) → FleetWaiting → FleetAsking → List StepOfFleet → FleetScene
fleet_scene_after units waiting asks steps =
    record {
      posted = fleet_posts steps;
      happenings = fleet_happenings steps;
      units = units;
      waits_at = λ unit side. waiting unit side (steps_of_unit unit steps);
      may_ask = asks steps;
    }

-- what is left of the script after steps
abbrev pub fleet_plan_after : (units : ℕ) → FleetWaiting → FleetAsking → List FleetLine → List StepOfFleet → FleetPlan
fleet_plan_after units waiting asks script [] = fleet_plan_of script
fleet_plan_after units waiting asks script (s ∷ earlier) =
    (next_fleet_turn (fleet_scene_after units waiting asks earlier) (fleet_plan_after units waiting asks script earlier)).plan

-- Each happening is the one that the fleet's script gives there.
abbrev pub FollowsFleet : (units : ℕ) → FleetWaiting → FleetAsking → List FleetLine → List StepOfFleet → Type 0
FollowsFleet units waiting asks script [] = ⊤
FollowsFleet units waiting asks script (s ∷ earlier) =
    (given_in_fleet s
    ≡ (next_fleet_turn (fleet_scene_after units waiting asks earlier) (fleet_plan_after units waiting asks script earlier)).given)
    × FollowsFleet units waiting asks script earlier
