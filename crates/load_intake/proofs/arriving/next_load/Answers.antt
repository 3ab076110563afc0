use Rattle.std.proofs.Common.{None, sym, ap, subst, ◌∙◌}
use Rattle.session_rules.specs.TargetRows.{Kept_bytes}
use Rattle.load_intake.specs.Kept.{intake_at}
use Rattle.load_intake.specs.States.{IntakeState, WholeView}
use Rattle.load_intake.specs.Stores.{IsInStep}
use Rattle.load_intake.proofs.Placing.{next_in_step}
use Rattle.load_intake.proofs.arriving.next_load.Goals as goal

pub returns-clause-in_step : goal.returns-clause-in_step
returns-clause-in_step c store h =
    let b = c.args.buffer in
    let is = c.at.ensures ∙ ap (λ (w : WholeView). intake_at w None (Kept_bytes b)) c.in_ok-whole.ensures in
    subst (λ (st : IntakeState). IsInStep st store) (sym is) (next_in_step c.args.whole c.args.load b store c.requires.accepted c.requires.all h)
