use Rattle.std.proofs.Common.{sym, subst, ap, ◌∙◌}
use Rattle.std.specs.Prelude.{is_err}
use Rattle.replay_rules.specs.BothEnds.{Is_down}
use Rattle.replay_turns.specs.StepsOnDisks.{HoldsRun}
use Rattle.replay_turns.proofs.StepLemmas.{reboots_read, reboots_refused}
use Rattle.replay_turns.proofs.Stepping.{boots_steps, unrestarted_steps}
use Rattle.replay_turns.proofs.powering.boot_again.Goals as goal

pub returns-in-Err-Failed-clause-steps : goal.returns-in-Err-Failed-clause-steps
returns-in-Err-Failed-clause-steps g c = λ set state begins.
    unrestarted_steps _ g.R.Rule.may_say set state c.args.slot.now c.take.new.self (g.K.Disk.state c.args.disk.now) (g.K.Disk.state c.restart.new.self) c.restart.result c.take.ensures.after c.restart.ensures.elapses begins

pub returns-in-Ok-clause-steps : goal.returns-in-Ok-clause-steps
returns-in-Ok-clause-steps g c = λ set state begins.
    let there = g.K.Disk.state c.restart.new.self in
    boots_steps g.R.Rule.may_say set state c.args.slot.now c.come_up.new.slot (g.K.Disk.state c.args.disk.now) there (g.K.Disk.state c.come_up.new.disk) c.restart.result c.come_up.result c.restart.ensures.elapses c.come_up.ensures.reads
    (λ active interrupted off. c.come_up.ensures.holds set active interrupted c.in-Ok.ensures.settled (subst (λ o. HoldsRun set (Is_down active interrupted) o there) (sym c.take.ensures.after) off)) begins

pub returns-in-Ok-clause-reboots : goal.returns-in-Ok-clause-reboots
returns-in-Ok-clause-reboots g c =
    reboots_read (g.K.Disk.state c.args.disk.now) (g.K.Disk.state c.restart.new.self) (g.K.Disk.state c.come_up.new.disk) c.restart.result c.restart.ensures.elapses c.in-Ok.ensures.settled c.come_up.ensures.reads
    (g.met.K.Disk.reads_now c.come_up.new.disk)

pub returns-in-Err-Failed-clause-reboots : goal.returns-in-Err-Failed-clause-reboots
returns-in-Err-Failed-clause-reboots g c =
    reboots_refused (g.K.Disk.state c.args.disk.now) (g.K.Disk.state c.restart.new.self) c.restart.result c.restart.ensures.elapses (c.restart.ensures.cause.stops ∙ ap is_err c.in-Err-Failed.is)

pub returns-in-Err-Memory-clause-reboots : goal.returns-in-Err-Memory-clause-reboots
returns-in-Err-Memory-clause-reboots g c =
    reboots_refused (g.K.Disk.state c.args.disk.now) (g.K.Disk.state c.restart.new.self) c.restart.result c.restart.ensures.elapses (c.restart.ensures.cause.stops ∙ ap is_err c.in-Err-Memory.is)
