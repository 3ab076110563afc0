use Rattle.std.proofs.Common.{◌≡◌, ◌≤◌, ◌-◌, length, drop}
use Rattle.fleet_trace.specs.FleetFollowing.{from_fleet_lines}
use Rattle.fleet_link.specs.FleetPlans.{seen_with}
use Rattle.fleet_link.specs.Lines.{fleet_line_views}
use Rattle.fleet_link.proofs.fleet_turn.from_lines.Given as goal

-- what the lines from the first on give, those from here on give
abbrev pub invariant-loop-at : goal.invariant-loop-at
invariant-loop-at l = record {
  within : l.at ≤ length l.lines;
  left : from_fleet_lines (seen_with l.mail l.waits l.may_ask) (fleet_line_views (drop l.initial.at l.lines)) ≡ from_fleet_lines (seen_with l.mail l.waits l.may_ask) (fleet_line_views (drop l.at l.lines));
}

abbrev pub decreases-loop-at : goal.decreases-loop-at
decreases-loop-at l = length l.lines - l.at
