use Rattle.std.proofs.Common.{◌+◌, ◌≤◌, arith}
use Rattle.std.proofs.lemmas.List.Sums.{sum_by-take-le}
use Rattle.disk_layout.specs.declared.manifest.ManifestFile.{ManifestFile}
use Rattle.recovery.proofs.Files.{size_more}
use Rattle.recovery.proofs.manifests.left_after_files.Goals as goal

pub returns-in_err-rest-clause-none : goal.returns-in_err-rest-clause-none
returns-in_err-rest-clause-none c =
    let longer = size_more c.args.files.now c.loop-file.file-index c.file-item.result c.loop-file-test.true c.file-item.is in
    let all = sum_by-take-le (λ (f : ManifestFile). f.length) c.args.files.now (c.loop-file.file-index + 1) in
    let more : ¬ (c.file-item.result.length ≤ c.loop-file.rest) = c.in_err-rest.ensures in
    rw c.from_residual.ensures (omega (arith, longer, all, more, c.loop-file.invariant))
