-- A fleet's trace that is made with a link (docs/EXCHANGE.md, "Fleets").
use Rattle.std.specs.Prelude.{◌≡◌, ℕ, List, [], ◌∷◌, ◌++◌}
use Rattle.exchange_trace.specs.declared.trace.Side.{Side}
use Rattle.exchange_trace.specs.Happenings.{DatagramView, HappeningView}
use Rattle.exchange_trace.specs.Steps.{Step}
use Rattle.fleet_trace.specs.FleetTraces.{StepOfFleet, steps_of_unit}
use Rattle.fleet_trace.specs.FleetPosts.{fleet_happenings, fleet_posts}
use Rattle.fleet_trace.specs.FleetLines.{FleetLine}
use Rattle.fleet_trace.specs.FleetFollowing.{FleetAsking, FleetWaiting, FollowsFleet, fleet_plan_after}
use Rattle.link_net.specs.declared.link.Waits.{Waits}
use Rattle.fleet_link.specs.FleetLinks.{FleetLinkState, plan_in}
use Rattle.fleet_link.specs.FleetPlans.{waits_in}

-- The steps so far follow this script of so many units. The link was posted what they posted, gave what happened in them or
-- asked for it, and is left with what is left of the script.
pub record HasFollowedFleet (units : ℕ) (waiting : FleetWaiting) (asks : FleetAsking) (script : List FleetLine) (steps : List StepOfFleet) (link : FleetLinkState) : Type 0 where
  pub follows : FollowsFleet units waiting asks script steps
  pub count : link.units ≡ units
  pub posted : link.posted ≡ fleet_posts steps
  pub given : link.given ≡ fleet_happenings steps
  pub left : plan_in link ≡ fleet_plan_after units waiting asks script steps

-- the link is told of each unit which sides have a live session after these steps
abbrev pub TellsWaits : FleetWaiting → List StepOfFleet → List Waits → Type 0
TellsWaits waiting steps waits = (unit : ℕ) (side : Side) → waits_in waits unit side ≡ waiting unit side (steps_of_unit unit steps)

-- a step of a unit as it begins, and with one datagram more
abbrev pub begun_step : HappeningView → Step
begun_step h = record { given = h; posts = []; notes = [] }

abbrev pub posting_step : Step → DatagramView → Step
posting_step s d = record { given = s.given; posts = s.posts ++ d ∷ []; notes = s.notes }
