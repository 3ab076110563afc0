use Rattle.std.proofs.Common.{refl}
use Rattle.disk_tests.proofs.tests.stores.install_one.Goals as goal

pub seal-requires-clause-filling : goal.seal-requires-clause-filling
seal-requires-clause-filling c =
    let announced = c.start_load.ensures.filling _ c.in_ok-begin.ensures.begins.filling in
    let appended = c.in_ok-append-2.ensures.appends.filling _ (c.in_ok-append.ensures.appends.filling _ announced) in
    (_, c.end_file.ensures.filling _ appended, refl)
