use Rattle.accept_rules.proofs.laws.an_interlock_follows_what_it_accepts.Goals as goal

pub returns : goal.returns
returns g c = g.met.R.Rule.follows c.args.interlock.now
