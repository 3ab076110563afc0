use Rattle.std.proofs.Common.{inr, ◌∙◌}
use Rattle.std.proofs.lemmas.Result.{err_from_is_err_and}
use Rattle.recovery.proofs.finding_former.older_slot_on.Goals as goal

pub returns-clause-says : goal.returns-clause-says
returns-clause-says g c image told = rw (c.offset.ensures ∙ c.other-slot.ensures) at (c.in_ok-says.ensures.found image told)

pub returns-in_err-check_older-clause-refused : goal.returns-in_err-check_older-clause-refused
returns-in_err-check_older-clause-refused g c =
    let p = err_from_is_err_and c.from_residual-in_err-check_older.result c.from_residual-in_err-check_older.ensures.1 in
    rw (p.1, p.2) (λ image told. inr (c.in_ok-says.says, rw (c.offset.ensures ∙ c.other-slot.ensures) at (c.in_ok-says.ensures.found image told), rw (c.offset-2.ensures ∙ c.other-slot.ensures) at c.in_err-check_older.ensures.refused))
