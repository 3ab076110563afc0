use Rattle.std.proofs.Common.{sym, ap, ◌∙◌}
use Rattle.disk_layout.specs.Manifest.{total_length}
use Rattle.recovery.proofs.manifests.manifest_on.Goals as goal

pub returns-clause-lengths : goal.returns-clause-lengths
returns-clause-lengths g c =
    let tells = c.in_ok-bytes.ensures.tells in
    sym (ap total_length (c.in_ok-manifest_told.ensures.found tells.loads (rw c.as_slice.ensures tells.spelled))) ∙ tells.lengths
