use Rattle.std.proofs.Common.{sym, ap, subst, ◌∙◌}
use Rattle.std.specs.Prelude.{IfOk, OnErr, Result, Err}
use Rattle.disk_layout.specs.Holds.{standing_view}
use Rattle.load_base.specs.declared.list.NoMemory.{NoMemory}
use Rattle.replay_turns.specs.Turns.{RunsOut}
use Rattle.bank_rollback.specs.declared.fault.RollbackFault.{RollbackFault}
use Rattle.loader_cli.specs.Answers.{status_of, text_of}
use Rattle.loader_cli.specs.Rollbacks.{RollsBackAs}
use Rattle.loader_cli.specs.declared.answer.Answer.{Answer}
use Rattle.loader_cli.proofs.RolledBack.{refused_memory, refused_says, said_brought, ran_after}
use Rattle.loader_cli.proofs.rollback.rollback.Goals as goal

pub returns-in-Ok-clause-says : goal.returns-in-Ok-clause-says
returns-in-Ok-clause-says g c = said_brought (g.K.Disk.state c.args.disk.now) (g.K.Disk.state c.rollback.new.disk) (standing_view c.in-Ok.standing) c.listed-answer.result c.in-Ok.ensures.rolls_back c.listed-answer.ensures.status c.listed-answer.ensures.text

pub returns-in-Ok-clause-memory : goal.returns-in-Ok-clause-memory
returns-in-Ok-clause-memory g c = ran_after (g.K.Disk.state c.args.disk.now) (g.K.Disk.state c.rollback.new.disk) (standing_view c.in-Ok.standing) c.listed-answer.result c.in-Ok.ensures.rolls_back

pub returns-in-Err-clause-says : goal.returns-in-Err-clause-says
returns-in-Err-clause-says g c =
    subst (λ (r : Result Answer NoMemory). IfOk r (λ answer. RollsBackAs (g.K.Disk.state c.args.disk.now) (g.K.Disk.state c.rollback.new.disk) (status_of answer) (text_of answer))) (sym c.refusal.ensures)
    (refused_says (g.K.Disk.state c.args.disk.now) (g.K.Disk.state c.rollback.new.disk) c.in-Err.fault c.in-Err.ensures.refused c.in-Err.ensures.own_name c.in-Err.ensures.goes_on.refused (λ is. c.rollback.ensures.goes_on.cause.failed (c.in-Err.is ∙ ap (λ (f : RollbackFault). Err f) is)))

pub returns-in-Err-clause-memory : goal.returns-in-Err-clause-memory
returns-in-Err-clause-memory g c =
    subst (λ (r : Result Answer NoMemory). OnErr r (RunsOut (g.K.Disk.state c.args.disk.now) (g.K.Disk.state c.rollback.new.disk))) (sym c.refusal.ensures)
    (refused_memory (g.K.Disk.state c.args.disk.now) (g.K.Disk.state c.rollback.new.disk) c.in-Err.fault c.in-Err.ensures.goes_on.refused)

pub returns-in-Ok-clause-leaves : goal.returns-in-Ok-clause-leaves
returns-in-Ok-clause-leaves g c = record { writes = c.rollback.ensures.writes; tells = c.rollback.ensures.goes_on.goes_on.tells; either = c.rollback.ensures.any_moment; rests = c.rollback.ensures.rests }

pub returns-in-Err-clause-leaves : goal.returns-in-Err-clause-leaves
returns-in-Err-clause-leaves g c = record { writes = c.rollback.ensures.writes; tells = c.rollback.ensures.goes_on.goes_on.tells; either = c.rollback.ensures.any_moment; rests = c.rollback.ensures.rests }

pub returns-in-Ok-clause-power : goal.returns-in-Ok-clause-power
returns-in-Ok-clause-power g c = c.rollback.ensures.goes_on.goes_on.power

pub returns-in-Err-clause-power : goal.returns-in-Err-clause-power
returns-in-Err-clause-power g c = c.rollback.ensures.goes_on.goes_on.power
