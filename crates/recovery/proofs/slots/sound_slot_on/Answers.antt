use Rattle.std.proofs.Common.{◌∙◌}
use Rattle.std.proofs.lemmas.Result.{err_from_is_err_and}
use Rattle.disk_layout.specs.Slots.{slot_offset}
use Rattle.recovery.proofs.Refusals.{slots_refuse, slot_refuses}
use Rattle.recovery.proofs.slots.sound_slot_on.Goals as goal

pub returns-in_err-active_slot-clause-refused : goal.returns-in_err-active_slot-clause-refused
returns-in_err-active_slot-clause-refused g c =
    let p = err_from_is_err_and c.from_residual-in_err-active_slot.result c.from_residual-in_err-active_slot.ensures.1 in rw (p.1, p.2) (λ image told.
    slots_refuse image c.in_ok-identity.identity _ (c.in_ok-identity.ensures.found image told) (c.in_err-active_slot.ensures.refused image (c.in_ok-identity.ensures.reads_disk.ok.reads ∙ told)))

pub returns-in_err-check_slot-clause-refused : goal.returns-in_err-check_slot-clause-refused
returns-in_err-check_slot-clause-refused g c =
    let p = err_from_is_err_and c.from_residual-in_err-check_slot.result c.from_residual-in_err-check_slot.ensures.1 in rw (p.1, p.2) (λ image told.
    let found = c.in_ok-active_slot.ensures.found image (c.in_ok-identity.ensures.reads_disk.ok.reads ∙ told) in
    slot_refuses image c.in_ok-identity.identity (slot_offset c.in_ok-active_slot.active_slot.slot) c.in_ok-active_slot.active_slot.says _
    (record { identity = c.in_ok-identity.ensures.found image told; is_active = found.is_active }) found.says c.in_err-check_slot.ensures.refused)

pub returns-clause-found : goal.returns-clause-found
returns-clause-found g c image told =
    let found = c.in_ok-active_slot.ensures.found image (c.in_ok-identity.ensures.reads_disk.ok.reads ∙ told) in
    record {
      has_active = record { identity = c.in_ok-identity.ensures.found image told; is_active = found.is_active };
      says = found.says;
      other = found.other;
    }
