use Rattle.std.proofs.Common.{refl, arith}
use Rattle.disk_tests.proofs.tests.recoveries.install_new.Goals as goal

pub put_file-requires-2-clause-filling : goal.put_file-requires-2-clause-filling
put_file-requires-2-clause-filling c =
    let one = c.in_ok-put_file.ensures.goes_on _ (c.start_load.ensures.filling _ c.in_ok-begin.ensures.begins.filling) in
    (_, one, omega arith, refl)

pub start_load-requires-2-clause-filling : goal.start_load-requires-2-clause-filling
start_load-requires-2-clause-filling c =
    let one = c.in_ok-put_file.ensures.goes_on _ (c.start_load.ensures.filling _ c.in_ok-begin.ensures.begins.filling) in
    (_, c.in_ok-put_file-2.ensures.goes_on _ one, omega arith, refl)

pub put_file-requires-3-clause-filling : goal.put_file-requires-3-clause-filling
put_file-requires-3-clause-filling c =
    let one = c.in_ok-put_file.ensures.goes_on _ (c.start_load.ensures.filling _ c.in_ok-begin.ensures.begins.filling) in
    let two = c.in_ok-put_file-2.ensures.goes_on _ one in
    (_, c.start_load-2.ensures.filling _ two, omega arith, refl)

pub put_file-requires-4-clause-filling : goal.put_file-requires-4-clause-filling
put_file-requires-4-clause-filling c =
    let one = c.in_ok-put_file.ensures.goes_on _ (c.start_load.ensures.filling _ c.in_ok-begin.ensures.begins.filling) in
    let two = c.in_ok-put_file-2.ensures.goes_on _ one in
    let three = c.in_ok-put_file-3.ensures.goes_on _ (c.start_load-2.ensures.filling _ two) in
    (_, three, omega arith, refl)

pub put_file-requires-5-clause-filling : goal.put_file-requires-5-clause-filling
put_file-requires-5-clause-filling c =
    let one = c.in_ok-put_file.ensures.goes_on _ (c.start_load.ensures.filling _ c.in_ok-begin.ensures.begins.filling) in
    let two = c.in_ok-put_file-2.ensures.goes_on _ one in
    let three = c.in_ok-put_file-3.ensures.goes_on _ (c.start_load-2.ensures.filling _ two) in
    (_, c.in_ok-put_file-4.ensures.goes_on _ three, omega arith, refl)

pub seal-requires-clause-filling : goal.seal-requires-clause-filling
seal-requires-clause-filling c =
    let one = c.in_ok-put_file.ensures.goes_on _ (c.start_load.ensures.filling _ c.in_ok-begin.ensures.begins.filling) in
    let two = c.in_ok-put_file-2.ensures.goes_on _ one in
    let three = c.in_ok-put_file-3.ensures.goes_on _ (c.start_load-2.ensures.filling _ two) in
    let four = c.in_ok-put_file-4.ensures.goes_on _ three in
    (_, c.in_ok-put_file-5.ensures.goes_on _ four, refl)
