use Rattle.std.proofs.Common.{All, IsSome, List, subst, sym}
use Rattle.target_fleet.specs.declared.outcome.UnitEnd.{UnitEnd}
use Rattle.loader_cli.proofs.FleetTold.{both, tells_done, tells_unfinished, tells_unknown}
use Rattle.loader_cli.proofs.fleet_replay.tell_fleet.Goals as goal

pub returns-then-not-are_known : goal.returns-then-not-are_known
returns-then-not-are_known c =
    tells_unknown c.args.run.now.trace c.args.run.now.units.items c.args.run.now.batches.items
    (λ all. both c.are_known.result c.if-not-are_known.true (c.are_known.ensures.1 (subst (λ (ends : List UnitEnd). All (λ (end : UnitEnd). IsSome end.standing) ends) (sym c.as_slice.ensures) all)))

pub returns-then-is_complete : goal.returns-then-is_complete
returns-then-is_complete c =
    let all = c.is_complete.ensures.0 c.if-is_complete.true in
    tells_done c.args.run.now.trace c.args.run.now.units.items c.args.run.now.batches.items c.in_ok-text.text.items
    (subst (λ (ends : List UnitEnd). All (λ (end : UnitEnd). IsSome end.standing) ends) c.as_slice.ensures (c.are_known.ensures.0 c.if-not-are_known.false)) all.0 all.1 c.in_ok-text.ensures

pub returns-else-is_complete : goal.returns-else-is_complete
returns-else-is_complete c =
    tells_unfinished c.args.run.now.trace c.args.run.now.units.items c.args.run.now.batches.items c.in_ok-text.text.items
    (subst (λ (ends : List UnitEnd). All (λ (end : UnitEnd). IsSome end.standing) ends) c.as_slice.ensures (c.are_known.ensures.0 c.if-not-are_known.false))
    (λ all. both c.is_complete.result c.if-is_complete.false (c.is_complete.ensures.1 all)) c.in_ok-text.ensures
