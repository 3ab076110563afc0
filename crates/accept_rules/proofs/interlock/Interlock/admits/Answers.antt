use Rattle.std.proofs.Common.{refl, subst, Bool}
use Rattle.load_header.specs.Header.{header_view}
use Rattle.accept_rules.proofs.interlock.Interlock.admits.Goals as goal

pub returns-clause-says : goal.returns-clause-says
returns-clause-says g c = record {
  header = c.args.header.now;
  same = refl;
  says = subst (λ (r : _). g.R.Rule.may_say r c.args.header.now c.args.kept.now c.ask.result) c.self.view_is c.ask.ensures;
}

pub returns-clause-accepts : goal.returns-clause-accepts
returns-clause-accepts g c = g.met.R.Rule.follows c.args.self.now (header_view c.args.header.now) c.args.kept.now c.ask.result (record {
  header = c.args.header.now;
  same = refl;
  says = subst (λ (r : _). g.R.Rule.may_say r c.args.header.now c.args.kept.now c.ask.result) c.self.view_is c.ask.ensures;
})

pub returns-clause-yes : goal.returns-clause-yes
returns-clause-yes g c = λ is. c.self.invariant.permits (header_view c.args.header.now) c.args.kept.now (record {
  header = c.args.header.now;
  same = refl;
  says = subst (λ (b : Bool). g.R.Rule.may_say c.self.inside.rule c.args.header.now c.args.kept.now b) is c.ask.ensures;
})

pub returns-clause-no : goal.returns-clause-no
returns-clause-no g c = λ is. c.self.invariant.grants (header_view c.args.header.now) c.args.kept.now (record {
  header = c.args.header.now;
  same = refl;
  says = subst (λ (b : Bool). g.R.Rule.may_say c.self.inside.rule c.args.header.now c.args.kept.now b) is c.ask.ensures;
})
