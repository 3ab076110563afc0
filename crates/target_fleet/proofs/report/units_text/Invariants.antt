use Rattle.std.proofs.Common.{◌≡◌, ◌+◌, ◌++◌, All, IsSome, length, map}
use Rattle.target_fleet.specs.FleetTexts.{units_report, unit_seen, units_from}
use Rattle.target_fleet.proofs.report.units_text.Given as goal

-- what is left is put after what was put
abbrev pub invariant-units : goal.invariant-units
invariant-units l =
    record {
      put : units_report l.drive.trace (map unit_seen l.drive.units.items) ≡ l.out.items ++ units_from (l.index + 1) l.drive.trace (map unit_seen l.left);
      count : l.index + length l.left ≡ length l.drive.units.items;
      known : All (λ end. IsSome end.standing) l.left;
    }

abbrev pub decreases-units : goal.decreases-units
decreases-units l = length l.left
