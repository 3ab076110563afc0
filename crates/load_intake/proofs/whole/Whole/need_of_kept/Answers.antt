use Rattle.std.proofs.Common.{None, sym, ap, ◌∙◌}
use Rattle.load_header.specs.Header.{header_view}
use Rattle.load_intake.specs.Keeping.{entries}
use Rattle.load_intake.specs.States.{WholeView}
use Rattle.load_intake.proofs.Kept.{needed_before, needed_last}
use Rattle.load_intake.proofs.whole.Whole.need_of_kept.Goals as goal

pub returns-then-is_last-clause-is : goal.returns-then-is_last-clause-is
returns-then-is_last-clause-is c need =
    needed_last (entries c.args.active.now) c.args.self.now (header_view c.args.header.now) need c.kept_need.result (sym (c.is_last.ensures None) ∙ c.if-is_last.true) (rw (c.as_slice.ensures, ap (λ (w : WholeView). w.loads) c.self.view_is) at c.kept_need.ensures.is)

pub returns-else-is_last-clause-is : goal.returns-else-is_last-clause-is
returns-else-is_last-clause-is c need = needed_before (entries c.args.active.now) c.args.self.now (header_view c.args.header.now) need (sym (c.is_last.ensures None) ∙ c.if-is_last.false)
