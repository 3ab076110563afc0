use Rattle.std.proofs.Common.{sym, ◌∙◌}
use Rattle.disk_tests.proofs.Keeping.{parts_at, typed_so}
use Rattle.disk_tests.proofs.tests.places.has_type.Goals as goal

pub returns-in-Some : goal.returns-in-Some
returns-in-Some c is =
    let found = c.in-Some.ensures.lookup in
    let parts = parts_at c.as_slice.result.now c.args.manifest.now.loads.items c.args.number c.in-Some.load.now c.as_slice.ensures found.3.0 found.1 in
    (_, _, _, parts.0, parts.1, typed_so c.in-Some.load.now.type_id (sym c.is_some.ensures ∙ is))
