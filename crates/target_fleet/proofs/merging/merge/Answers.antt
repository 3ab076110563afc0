use Rattle.std.proofs.Common.{◌∙◌}
use Rattle.target_fleet.proofs.MergedSteps.{merged_then_ended}
use Rattle.target_fleet.proofs.merging.merge.Goals as goal

pub returns-in-Ok : goal.returns-in-Ok
returns-in-Ok c = λ steps goes is own.
    merged_then_ended steps c.reserve.new.self.items c.push.new.self.items c.take_steps.new.lines.items c.from.result.items (c.in_ok-reserve.ensures.items ∙ c.new-lines.ensures.items) c.in_ok-push.ensures.items (c.from.ensures ∙ c.reverse.ensures.items)
    (c.in-Ok.ensures steps goes is own)
