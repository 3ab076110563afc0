use Rattle.recovery.proofs.slots.slot_on.Goals as goal

pub returns-clause-found : goal.returns-clause-found
returns-clause-found g c image told = c.decode.ensures image c.args.at (c.in_ok-read_from.ensures.bytes image told)
