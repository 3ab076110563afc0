use Rattle.std.proofs.Common.{refl, arith}
use Rattle.disk_tests.proofs.tests.keepings.keep_after.Goals as goal

pub keep-answer-requires-clause-filling : goal.keep-answer-requires-clause-filling
keep-answer-requires-clause-filling c =
    let one = c.in_ok-put_file.ensures.goes_on _ (c.start_load.ensures.filling _ c.in_ok-begin.ensures.begins.filling) in
    (_, one, omega arith, refl)
