use Rattle.std.proofs.Common.{not, ap, ◌∙◌}
use Rattle.load_intake.proofs.Kept.{any_type}
use Rattle.load_intake.proofs.keeping.is_kept_beside.Goals as goal

pub returns-in-Some : goal.returns-in-Some
returns-in-Some c = rw c.in-Some.is (ap not (c.any_has_type.ensures ∙ any_type c.in-Some.id c.args.new.now))
