use Rattle.disk_tests.proofs.Keeping.{is_kept}
use Rattle.disk_tests.proofs.tests.keepings.can_be_kept.Goals as goal

pub returns-then-has_type : goal.returns-then-has_type
returns-then-has_type c third found =
    let (b, h, l, parts, at, typed) = c.has_type.ensures c.if-has_type.true in
    let (b3, h3, l3, parts3, at3, typed3) = c.has_type-then-has_type.ensures third in
    (is_kept c.args.surveyed.now b h l 1 parts at typed found, is_kept c.args.surveyed.now b3 h3 l3 2 parts3 at3 typed3 found)
