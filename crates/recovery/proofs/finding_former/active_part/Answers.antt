use Rattle.recovery.proofs.finding_former.active_part.Goals as goal

pub returns-clause-found : goal.returns-clause-found
returns-clause-found g c image told = let found = c.in_ok-found.ensures.found image told in record { loads = found.loads; outline = found.finds.outline }
