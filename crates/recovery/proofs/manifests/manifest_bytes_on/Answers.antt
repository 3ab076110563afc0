use Rattle.std.proofs.Common.{Err, ◌+◌, ◌<◌, ◌^◌, length, ap, ◌∙◌, arith}
use Rattle.std.proofs.lemmas.Result.{err_from_is_err_and}
use Rattle.disk_layout.specs.declared.fault.RecoverFault.{RecoverFault}
use Rattle.recovery.proofs.DiskReads.{refused_after}
use Rattle.recovery.proofs.FormerFound.{loads_of_slot}
use Rattle.recovery.proofs.manifests.manifest_bytes_on.Goals as goal

pub returns-in_err-check_manifest-clause-reads_disk : goal.returns-in_err-check_manifest-clause-reads_disk
returns-in_err-check_manifest-clause-reads_disk g c =
    let p = err_from_is_err_and c.from_residual-in_err-check_manifest.result c.from_residual-in_err-check_manifest.ensures.1 in
    rw (p.1, p.2) (refused_after _ _ c.in_ok-bytes.bytes c.in_err-check_manifest.field-0.0 (λ same. c.in_err-check_manifest.ensures.not_disk (ap (λ (f : RecoverFault). Err f) same)) c.in_ok-bytes.ensures.reads_disk)

pub returns-in_err-check_manifest-clause-of_slot : goal.returns-in_err-check_manifest-clause-of_slot
returns-in_err-check_manifest-clause-of_slot g c =
    let p = err_from_is_err_and c.from_residual-in_err-check_manifest.result c.from_residual-in_err-check_manifest.ensures.1 in
    let within : c.offset.result + c.args.slot.now.manifest.offset + length c.as_slice.result.now < 2 ^ 32 =
    omega (arith, c.offset.ensures.within, c.requires.can_be.sound.within, ap length c.as_slice.ensures ∙ c.in_ok-bytes.ensures.size) in
    rw (p.1, p.2) (loads_of_slot c.as_slice.result.now (c.offset.result + c.args.slot.now.manifest.offset) c.args.slot.now.manifest.offset _ within c.in_err-check_manifest.ensures.refused)
