use Rattle.disk_layout.specs.Manifest.{manifest_view}
use Rattle.disk_tests.proofs.Keeping.{load_is_said}
use Rattle.disk_tests.proofs.tests.places.place_of.Goals as goal

pub find_load-requires : goal.find_load-requires
find_load-requires c =
    let (before, behind, load, parts, at, typed) = c.has_type-is_there.ensures c.if-is_there.true in
    record { said = load_is_said c.typed_entries.result.now (manifest_view c.in-Ok.manifest) before behind load c.args.number parts at typed c.in-Ok.ensures.fits (c.typed_entries.ensures (manifest_view c.in-Ok.manifest) c.in-Ok.ensures.found) }
