use Rattle.replay_turns.proofs.turn.target_gets.Goals as goal

pub returns-clause-keeps : goal.returns-clause-keeps
returns-clause-keeps g c = λ accepts follows x has. rw c.as_slice.ensures at (c.on_datagram.ensures.keeps_disk accepts follows x has.kept has.holds)
