use Rattle.std.proofs.Common.{refl}
use Rattle.exchange_trace.specs.Posts.{first_port_after}
use Rattle.replay_turns.specs.Turns.{notes_of}
use Rattle.replay_turns.proofs.Stepping.{steps_as}
use Rattle.replay_turns.proofs.turn.target_turn.Goals as goal

pub returns-in-Power-clause-turns : goal.returns-in-Power-clause-turns
returns-in-Power-clause-turns g c = λ set state follows no_boot. rw (c.in-Power.is, c.none.ensures) (c.cut_power.ensures.turns set state)

pub returns-in-Power-clause-lives : goal.returns-in-Power-clause-lives
returns-in-Power-clause-lives g c = λ accepts follows. rw (c.in-Power.is, c.none.ensures) (c.cut_power.ensures.lives accepts)

pub returns-in-Power-clause-noted : goal.returns-in-Power-clause-noted
returns-in-Power-clause-noted g c = rw (c.in-Power.is, c.none.ensures) (c.cut_power.ensures.noted (first_port_after c.args.recording.now))

pub returns-in-Power-clause-rule : goal.returns-in-Power-clause-rule
returns-in-Power-clause-rule g c = λ accepts says follows. c.cut_power.ensures.rule accepts follows

pub returns-in-Power-clause-steps : goal.returns-in-Power-clause-steps
returns-in-Power-clause-steps g c = λ set state begins. rw c.in-Power.is (steps_as set _ state c.cut_power.new.slot (g.K.Disk.state c.args.disk.now) (g.K.Disk.state c.cut_power.new.disk) notes_of (λ reply. notes_of reply.note) c.cut_power.result _ refl (c.cut_power.ensures.steps set state begins))
