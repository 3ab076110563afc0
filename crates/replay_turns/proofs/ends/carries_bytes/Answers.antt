use Rattle.replay_turns.proofs.ends.carries_bytes.Goals as goal

pub returns-in-Injected : goal.returns-in-Injected
returns-in-Injected c = rw c.in-Injected.is (rw c.as_slice.ensures at c.are_bytes.ensures)
