use Rattle.std.proofs.Common.{sym, ◌∙◌}
use Rattle.target_machine.proofs.Serving.{gives_so}
use Rattle.target_machine.proofs.target.Target.serve_file.Goals as goal

pub returns-in-Some-clause-does : goal.returns-in-Some-clause-does
returns-in-Some-clause-does g c =
    gives_so c.args.self.now c.begin.new.self c.args.from c.args.name.now c.args.options c.in-Some.kind c.begin.result (sym c.given.ensures ∙ c.in-Some.is) (c.begin.ensures.does c.args.name.now)
