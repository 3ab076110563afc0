use Rattle.std.proofs.Common.{◌≡◌, ◌+◌, ◌∷◌, All, ap, length, subst, arith}
use Rattle.std.specs.Prelude.{IsSome, map}
use Rattle.std.proofs.lemmas.List.Elements.{All-tail}
use Rattle.target_fleet.specs.FleetTexts.{unit_seen, units_report}
use Rattle.target_fleet.specs.declared.outcome.UnitEnd.{UnitEnd}
use Rattle.target_fleet.proofs.ToldInUnits.{unit_put}
use Rattle.target_fleet.proofs.report.units_text.Goals as goal

pub units-preserved : goal.units-preserved
units-preserved c =
    let left = c.units.left.now in
    let later = c.in-Some.later.now in
    let splits : left ≡ c.in-Some.end.now ∷ later = c.in-Some.ensures.cases.0 in
    let one_less : length left ≡ 1 + length later = omega (arith, ap length splits) in
    record {
      put = unit_put (c.units.index + 1) c.posted_at.result c.args.drive.now.trace (units_report c.args.drive.now.trace (map unit_seen c.args.drive.now.units.items)) c.units.out.items c.put_unit.new.out.items
          c.in-Some.end.now left later c.units.invariant.put splits c.in_ok-put_unit.ensures c.posted_at.ensures;
      count = omega (arith, one_less, c.units.invariant.count);
      known = All-tail (λ (end : UnitEnd). IsSome end.standing) c.in-Some.end.now later (subst (All (λ (end : UnitEnd). IsSome end.standing)) splits c.units.invariant.known);
    }
