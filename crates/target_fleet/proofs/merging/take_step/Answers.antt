use Rattle.std.proofs.Common.{arith, sym, ◌∙◌}
use Rattle.target_fleet.proofs.TakenLines.{all_taken, line_taken, no_step}
use Rattle.target_fleet.proofs.merging.take_step.Goals as goal

pub returns-then-begins : goal.returns-then-begins
returns-then-begins c =
    line_taken c.args.unit c.lines.counter c.args.trace.now.items c.lines.trace.items c.args.lines.now.items c.lines.lines.items c.lines.invariant c.in-Some.step c.pop.new.self.items c.push.new.self.items
    (sym c.begins_step-begins.ensures ∙ c.if-begins.true) c.in-Some.ensures.last c.in_ok-push.ensures.items

pub returns : goal.returns
returns c =
    no_step c.args.unit c.lines.counter c.args.trace.now.items c.lines.trace.items c.args.lines.now.items c.lines.lines.items c.lines.invariant
    (all_taken c.args.unit c.lines.counter c.args.trace.now.items c.lines.trace.items c.args.lines.now.items c.lines.lines.items c.lines.invariant (omega (arith, c.lines-test.false, c.lines.auto.counter-end, c.len-end.ensures))) c.lines.trace.items c.lines.lines.items
