use Rattle.std.proofs.Common.{refl}
use Rattle.accept_rules.specs.Closures.{MaySay}
use Rattle.accept_rules.proofs.asks.AsksRule.ask.Goals as goal

pub returns : goal.returns
returns g c =
    let says : MaySay g.F.Fn c.args.self.now.rule c.args.header.now c.args.kept.now c.rule.result = record { lent = c.args.header; list = c.args.kept; is = refl; are = refl; says = c.rule.ensures } in
    record { says = says; known = c.requires.known c.rule.result says }
