use Rattle.accept_rules.proofs.laws.a_rule_follows_what_it_accepts.Goals as goal

pub returns : goal.returns
returns g c = g.met.R.Rule.follows c.args.rule.now
