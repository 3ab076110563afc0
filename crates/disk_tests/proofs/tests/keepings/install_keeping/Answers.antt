use Rattle.std.proofs.Common.{refl, arith}
use Rattle.disk_tests.proofs.Keeping.{kept_on, same_then}
use Rattle.disk_tests.proofs.tests.keepings.install_keeping.Goals as goal

pub put_file-requires-2-clause-filling : goal.put_file-requires-2-clause-filling
put_file-requires-2-clause-filling c =
    let one = c.in_ok-put_file.ensures.goes_on _ (c.start_load.ensures.filling _ c.in_ok-begin.ensures.begins.filling) in
    (_, one, omega arith, refl)

pub keep-requires-clause-filling : goal.keep-requires-clause-filling
keep-requires-clause-filling c =
    let one = c.in_ok-put_file.ensures.goes_on _ (c.start_load.ensures.filling _ c.in_ok-begin.ensures.begins.filling) in
    (_, c.in_ok-put_file-2.ensures.goes_on _ one, omega arith, refl)

pub keep-requires-2-clause-filling : goal.keep-requires-2-clause-filling
keep-requires-2-clause-filling c =
    let one = c.in_ok-put_file.ensures.goes_on _ (c.start_load.ensures.filling _ c.in_ok-begin.ensures.begins.filling) in
    let two = c.in_ok-put_file-2.ensures.goes_on _ one in
    let begun = same_then _ _ _ c.prepare.ensures.continues.active (same_then _ _ _ c.in_ok-begin.ensures.keeps.active c.start_load.ensures.continues.active) in
    let filled = same_then _ _ _ begun (same_then _ _ _ c.in_ok-put_file.ensures.active c.in_ok-put_file-2.ensures.active) in
    (_, c.in_ok-keep.ensures.keeps_load.filling (kept_on _ _ 2 filled c.requires.second) _ two, omega arith, refl)

pub seal-requires-clause-filling : goal.seal-requires-clause-filling
seal-requires-clause-filling c =
    let one = c.in_ok-put_file.ensures.goes_on _ (c.start_load.ensures.filling _ c.in_ok-begin.ensures.begins.filling) in
    let two = c.in_ok-put_file-2.ensures.goes_on _ one in
    let begun = same_then _ _ _ c.prepare.ensures.continues.active (same_then _ _ _ c.in_ok-begin.ensures.keeps.active c.start_load.ensures.continues.active) in
    let filled = same_then _ _ _ begun (same_then _ _ _ c.in_ok-put_file.ensures.active c.in_ok-put_file-2.ensures.active) in
    let three = c.in_ok-keep.ensures.keeps_load.filling (kept_on _ _ 2 filled c.requires.second) _ two in
    let kept = same_then _ _ _ filled c.in_ok-keep.ensures.keeps.active in
    (_, c.in_ok-keep-2.ensures.keeps_load.filling (kept_on _ _ 3 kept c.requires.third) _ three, refl)
