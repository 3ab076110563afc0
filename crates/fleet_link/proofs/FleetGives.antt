-- The link of a fleet gives what its script gives next.
use Rattle.std.proofs.Common.{◌≡◌, ◌⊎◌, inl, inr, ℕ, Bool, List, length, drop, Option, Some, refl, sym, ap}
use Rattle.exchange_trace.specs.declared.trace.Happening.{Happening}
use Rattle.exchange_trace.specs.declared.trace.Side.{Side}
use Rattle.exchange_trace.specs.Happenings.{happening_view}
use Rattle.fleet_trace.specs.declared.trace.FleetHappening.TheVariants as happens
use Rattle.fleet_trace.specs.FleetLines as spec
use Rattle.fleet_trace.specs.FleetTraces.{FleetHappeningView, At_unit, Batch_begun, Next_asked, All_ended, fleet_happening_view}
use Rattle.fleet_trace.specs.FleetFollowing as following
use Rattle.fleet_trace.proofs.CanBeGiven.{asked_may_be, given_can}
use Rattle.link_net.specs.declared.link.Waits.{Waits}
use Rattle.fleet_link.specs.declared.fleet_line.FleetLine.{FleetLine}
use Rattle.fleet_link.specs.declared.fleet_turn.FleetRest.{FleetRest}
use Rattle.fleet_link.specs.declared.fleet_turn.FleetRest.TheVariants as rests
use Rattle.fleet_link.specs.declared.fleet_turn.FleetTurn.{FleetTurn}
use Rattle.fleet_link.specs.FleetLinks.{ArePostsOf, CanBeGivenIn, FleetLinkState, GivesInFleet, fleet_scene_of, plan_in}
use Rattle.fleet_link.specs.FleetMail.{FleetMailView, with_gift}
use Rattle.fleet_link.specs.FleetPlans.{fleet_plan_at, fleet_rest_view, fleet_turn_view, seen_with, turns_in}
use Rattle.fleet_link.specs.Lines.{AreAtUnits, fleet_line_views}
use Rattle.fleet_link.proofs.FleetUnits.{given_at_one}

abbrev pub link_with : (units : ℕ) → List FleetLine → FleetMailView → FleetRest → (next : ℕ) → FleetLinkState
link_with units lines mail rest next = record { units = units; posted = mail.posted; given = mail.given; rest = rest; lines = fleet_line_views (drop next lines) }

can_be : (link : FleetLinkState) (waits : List Waits) (may_ask : Bool) (h : FleetHappeningView) → h ≡ (following.next_fleet_turn (fleet_scene_of link waits may_ask) (plan_in link)).given → CanBeGivenIn link may_ask h
can_be link waits may_ask (At_unit unit h) e = given_can (fleet_scene_of link waits may_ask) (plan_in link) unit h (sym e)
can_be link waits may_ask (Batch_begun part) e = tt
can_be link waits may_ask Next_asked e = asked_may_be (fleet_scene_of link waits may_ask) (plan_in link) (sym e)
can_be link waits may_ask All_ended e = tt

pub gives_in_fleet : (units : ℕ) (lines : List FleetLine) (before after : FleetMailView) (rest : FleetRest) (next later : ℕ) (t : FleetTurn) (waits : List Waits) (may_ask : Bool) → length waits ≡ units → ArePostsOf units before.posted → AreAtUnits units (fleet_line_views (drop next lines))
    → fleet_turn_view (fleet_line_views (drop later lines)) t ≡ following.next_fleet_turn (seen_with before waits may_ask) (fleet_plan_at rest lines next) → after ≡ with_gift before (fleet_happening_view t.given)
    → GivesInFleet (link_with units lines before rest next) (link_with units lines after t.rest later) waits may_ask (fleet_happening_view t.given)
gives_in_fleet units lines before after rest next later t waits may_ask count posts each said kept =
    let turn = rw count at said in
    let given = ap (λ (x : following.FleetTurn). x.given) turn in
    record {
      units = refl;
      posted = ap (λ (m : FleetMailView). m.posted) kept;
      given = ap (λ (m : FleetMailView). m.given) kept;
      follows = given;
      plan = ap (λ (x : following.FleetTurn). x.plan) turn;
      unit = rw given (given_at_one units (fleet_scene_of (link_with units lines before rest next) waits may_ask) refl posts (plan_in (link_with units lines before rest next)) each);
      can = can_be (link_with units lines before rest next) waits may_ask (fleet_happening_view t.given) given;
    }

-- ---- a `finish` delivers

-- it goes on, that of a line by itself or of a batch
abbrev pub IsFinishing : FleetRest → Type 0
IsFinishing rest = ((firsts : List Side) × (rest ≡ rests.Finishing firsts)) ⊎ ((firsts : List Side) × (rest ≡ rests.BatchFinishing firsts))

-- the least undelivered datagram comes next, and as much is left of the line, whatever waits
finish_delivers : (s : following.FleetScene) (h : FleetHappeningView) (rest : FleetRest) (later : List spec.FleetLine) → IsFinishing rest → Some h ≡ following.least_fleet_delivery s
    → following.fleet_turn h (fleet_rest_view rest) later ≡ following.next_fleet_turn s (record { rest = fleet_rest_view rest; lines = later })
finish_delivers s h rest later (inl line) least =
    let is = line.1 in
    rw is (ap (λ (o : Option FleetHappeningView). following.or_next (following.fleet_finishing s following.Finish_goes_on (turns_in line.0) later o) (following.from_fleet_lines s later)) least)
finish_delivers s h rest later (inr batch) least =
    let is = batch.1 in
    rw is (ap (λ (o : Option FleetHappeningView). following.or_next (following.or_asking s later (following.fleet_finishing s following.Batch_finishes (turns_in batch.0) later o)) (following.from_fleet_lines s later)) least)

-- so the link gives it, and keeps what is left of the line and the lines that come later
pub finish_gives : (units : ℕ) (lines : List FleetLine) (before after : FleetMailView) (rest : FleetRest) (next unit : ℕ) (h : Happening) (waits : List Waits) (may_ask : Bool) → length waits ≡ units → ArePostsOf units before.posted → AreAtUnits units (fleet_line_views (drop next lines))
    → IsFinishing rest → Some (At_unit unit (happening_view h)) ≡ following.least_fleet_delivery (seen_with before waits may_ask) → after ≡ with_gift before (At_unit unit (happening_view h))
    → GivesInFleet (link_with units lines before rest next) (link_with units lines after rest next) waits may_ask (At_unit unit (happening_view h))
finish_gives units lines before after rest next unit h waits may_ask count posts each goes_on least kept =
    gives_in_fleet units lines before after rest next next (record { given = happens.At unit h; rest = rest }) waits may_ask count posts each (finish_delivers (seen_with before waits may_ask) (At_unit unit (happening_view h)) rest (fleet_line_views (drop next lines)) goes_on least) kept
