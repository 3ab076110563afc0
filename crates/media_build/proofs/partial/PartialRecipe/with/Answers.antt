use Rattle.media_build.proofs.Counts.{keeps_these}
use Rattle.media_build.proofs.partial.PartialRecipe.with.Goals as goal

pub invariant_of-result : goal.invariant_of-result
invariant_of-result c =
    keeps_these c.self.inside.lines.items c.self.inside.names.keys c.self.inside.parts c.self.inside.counts c.args.line c.args.statement c.self.invariant (rw (← c.self.view_is) at c.requires) _ _ _ _
    c.in_ok-push.ensures.ok c.in_ok-insert_name.ensures c.in_ok-insert_part.ensures c.after-counts.ensures
