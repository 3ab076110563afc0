use Rattle.std.proofs.Common.{◌∙◌}
use Rattle.std.proofs.lemmas.Result.{err_from_is_err_and}
use Rattle.disk_layout.specs.Slots.{slot_offset}
use Rattle.recovery.proofs.Refusals.{can_be, manifest_refuses, has_outline}
use Rattle.recovery.proofs.Stores.{finds}
use Rattle.recovery.proofs.manifests.outline_on.Goals as goal

pub returns-in_err-manifest-clause-refused : goal.returns-in_err-manifest-clause-refused
returns-in_err-manifest-clause-refused g c =
    let p = err_from_is_err_and c.from_residual-in_err-manifest.result c.from_residual-in_err-manifest.ensures.1 in rw (p.1, p.2) (λ image told.
    let found = c.in_ok-sound.ensures.found image told in
    let id = c.in_ok-sound.sound.identity in
    let at = slot_offset c.in_ok-sound.sound.active_slot.slot in
    let slot = c.in_ok-sound.sound.active_slot.says in
    manifest_refuses image id at slot _ found.has_active (can_be image id at slot found.says c.in_ok-sound.ensures.can_be) found.says
    (c.in_err-manifest.ensures.refused image (c.in_ok-sound.ensures.reads_disk.ok.reads ∙ told)))

pub returns-clause-found : goal.returns-clause-found
returns-clause-found g c image told =
    let id = c.in_ok-sound.sound.identity in
    let active_slot = c.in_ok-sound.sound.active_slot in
    let found = c.in_ok-sound.ensures.found image told in
    let active = c.active_by.ensures in
    let tells = c.in_ok-manifest.ensures.tells in
    let bytes = c.in_ok-manifest.ensures.bytes image (c.in_ok-sound.ensures.reads_disk.ok.reads ∙ told) in
    let outline = has_outline image id (slot_offset active_slot.slot) active_slot.says tells.loads found.has_active c.in_ok-sound.ensures.can_be found.says (rw bytes at tells.spelled) tells.lengths in
    record {
      loads = tells.loads;
      read = tells.read;
      finds = finds image id tells.loads c.active_by.result active_slot active.slot active.bank active.sequence active.manifest outline found.says found.other;
    }
