use Rattle.std.proofs.Common.{◌≡◌, ◌<◌, sym, ap, subst, ◌∙◌, true, false, arith}
use Rattle.std.specs.Prelude.{is_some, not}
use Rattle.replay_turns.specs.Turns.{RunsWhileUp}
use Rattle.replay_turns.proofs.Stepping.{armed_steps, cut_steps}
use Rattle.replay_turns.proofs.powering.cut_power.Goals.{then-calls-gt0-via-then-calls-gt0, then-calls-gt0-via-else-calls-gt0+then-is_none}
use Rattle.replay_turns.proofs.powering.cut_power.Goals as goal

pub returns-then-calls-gt0-clause-steps : goal.returns-then-calls-gt0-clause-steps
returns-then-calls-gt0-clause-steps g c = λ set state begins.
    armed_steps _ g.R.Rule.may_say set state c.args.slot.now (g.K.Disk.state c.args.disk.now) (g.K.Disk.state c.arm.new.self) c.args.calls c.args.pick c.arm.ensures.arms
    (λ t is store works.
    let some : 0 < c.args.calls = elim c.then-calls-gt0.branch [
      | then-calls-gt0-via-then-calls-gt0 w ↦ omega (arith, w.if-calls-gt0.true)
      | then-calls-gt0-via-else-calls-gt0+then-is_none w ↦ absurd (let wrong : true ≡ false = ap is_some (sym is) ∙ (w.is_none.ensures ∙ ap not w.if-is_none.true) in cc)
    ] in
    c.a_store_goes_on_fitting.ensures.read_works store c.args.disk.now c.arm.new.self
    (record { reads = c.arm.ensures.arms.reads; running = c.arm.ensures.arms.not_yet some ∙ subst (λ o. RunsWhileUp o (g.K.Disk.state c.args.disk.now)) is c.requires }) c.arm.ensures.arms.now works) begins

pub returns-clause-steps : goal.returns-clause-steps
returns-clause-steps g c = λ set state begins.
    cut_steps _ g.R.Rule.may_say set state c.args.slot.now c.take.new.self (g.K.Disk.state c.args.disk.now) (g.K.Disk.state c.arm.new.self) c.args.calls c.args.pick c.take.ensures.after c.arm.ensures.arms begins
