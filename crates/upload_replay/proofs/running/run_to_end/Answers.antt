use Rattle.std.proofs.Common.{Err, sym, ◌∙◌}
use Rattle.upload_replay.specs.declared.outcome.DriveFault.TheVariants as faults
use Rattle.upload_replay.proofs.Counted.{arms_on}
use Rattle.upload_replay.proofs.History.{all_held, as_err, history_now}
use Rattle.upload_replay.proofs.Turning.{stays_on}
use Rattle.upload_replay.proofs.running.run_to_end.Goals as goal

pub returns-in-Err-clause-arms : goal.returns-in-Err-clause-arms
returns-in-Err-clause-arms g c = arms_on _ _ _ _ _ _ c.turns.invariant.arms c.turn.ensures.arms

pub returns-in-Err-clause-leaves : goal.returns-in-Err-clause-leaves
returns-in-Err-clause-leaves g c = λ set began since stands runs.
    as_err set began (g.L.Link.state c.turn.new.link) since (g.K.Disk.state c.turn.new.disk) c.in-Err.fault
    (c.in-Err.ensures.leaves set began since (c.turns.invariant.on_setting set stands).stands ((c.turns.invariant.on_setting set stands).held began since runs))

pub returns-then-ended-clause-under_way : goal.returns-then-ended-clause-under_way
returns-then-ended-clause-under_way g c = λ began faults media was. rw (sym c.if-ended.true) (c.in-Ok.ensures.under_way began faults media (c.turns.invariant.under_way began faults media was))

pub returns-then-ended-clause-lives : goal.returns-then-ended-clause-lives
returns-then-ended-clause-lives g c = λ accepts lives. c.in-Ok.ensures.lives accepts (c.turns.invariant.lives accepts lives)

pub returns-then-ended-clause-on_setting : goal.returns-then-ended-clause-on_setting
returns-then-ended-clause-on_setting g c = λ set stands.
    let so_far = c.turns.invariant.on_setting set stands in
    rw (sym c.if-ended.true) (stays_on g.R.Rule.may_say set _ _ _ _ _ _ _ _ _ _ so_far (c.in-Ok.ensures.on_setting set so_far.stands))

pub returns-then-ended-clause-arms : goal.returns-then-ended-clause-arms
returns-then-ended-clause-arms g c = arms_on _ _ _ _ _ _ c.turns.invariant.arms c.turn.ensures.arms

pub returns-clause-leaves : goal.returns-clause-leaves
returns-clause-leaves g c = λ set began since stands runs.
    let on = (c.turns.invariant.on_setting set stands).held began since runs in
    let disk = g.K.Disk.state c.turns.disk in
    history_now set began since c.turns.driver disk c.turns.invariant.ready.goes_on on.goes_on.tied on.clocks on.held
    (all_held set disk (g.met.K.Disk.wider c.turns.disk) (g.met.K.Disk.splits c.turns.disk) (g.met.K.Disk.only_now c.turns.disk) since on.clocks c.turns.driver.steps c.turns.driver.target on.held) (Err faults.Memory)
    (g.L.Link.state c.turns.link) on.goes_on.linked

pub turns-preserved : goal.turns-preserved
turns-preserved g c = record {
  ready = c.in-Ok.ensures.ready;
  under_way = λ began faults media was. rw (sym c.if-ended.false) (c.in-Ok.ensures.under_way began faults media (c.turns.invariant.under_way began faults media was));
  lives = λ accepts lives. c.in-Ok.ensures.lives accepts (c.turns.invariant.lives accepts lives);
  on_setting = λ set stands.
      let so_far = c.turns.invariant.on_setting set stands in
      rw (sym c.if-ended.false) (stays_on g.R.Rule.may_say set _ _ _ _ _ _ _ _ _ _ so_far (c.in-Ok.ensures.on_setting set so_far.stands));
  arms = arms_on _ _ _ _ _ _ c.turns.invariant.arms c.turn.ensures.arms;
  faults = c.in-Ok.ensures.refused.cause.ok ∙ c.turns.invariant.faults;
}
