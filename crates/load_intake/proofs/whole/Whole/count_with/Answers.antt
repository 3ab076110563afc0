use Rattle.std.proofs.Common.{None, length, sym, ap, ◌∙◌, arith}
use Rattle.load_intake.specs.States.{WholeView}
use Rattle.load_intake.proofs.Kept.{counted_before, counted_last}
use Rattle.load_intake.proofs.whole.Whole.count_with.Goals as goal

pub returns-then-is_last : goal.returns-then-is_last
returns-then-is_last c active h many =
    counted_last active c.args.self.now h c.args.kept _ (sym (c.is_last.ensures None) ∙ c.if-is_last.true) many (omega (arith, c.len-requested.ensures, ap (λ (w : WholeView). length w.request) c.self.view_is))

pub returns-else-is_last : goal.returns-else-is_last
returns-else-is_last c active h many =
    counted_before active c.args.self.now h _ (sym (c.is_last.ensures None) ∙ c.if-is_last.false) (omega (arith, c.len-requested.ensures, ap (λ (w : WholeView). length w.request) c.self.view_is))
