use Rattle.disk_layout.specs.Manifest.{RefusesManifestBytes, manifest_view}
use Rattle.disk_layout.proofs.ManifestLemmas.{manifest_decided}
use Rattle.disk_layout.specs.declared.manifest.ManifestFault.TheVariants.{Wrong}
use Rattle.recovery.proofs.manifests.manifest_told.Goals as goal

pub unreachable-requires : goal.unreachable-requires
unreachable-requires c =
    let bytes = c.args.bytes.now in
    let tells = c.requires.1 in
    let offset = c.in-Err-Wrong.field-0-0 in
    let refused : RefusesManifestBytes bytes (Wrong offset) = rw c.in-Err-Wrong.field-0-is at c.in-Err-Wrong.ensures.refused in
    (manifest_decided bytes tells.are_bytes).not_both tells.loads (Wrong offset) tells.spelled refused.0

pub returns-in-Ok-clause-found : goal.returns-in-Ok-clause-found
returns-in-Ok-clause-found c loads spelled = (manifest_decided c.args.bytes.now c.requires.1.are_bytes).one_value loads (manifest_view c.in-Ok.manifest) spelled c.in-Ok.ensures.found
