use Rattle.std.proofs.Common.{ℕ, List, map, ap, ap₂, ◌∙◌}
use Rattle.std.proofs.lemmas.Result.{err_from_is_err_and}
use Rattle.load_base.specs.Config.{load_view}
use Rattle.disk_model.specs.Image.{range}
use Rattle.disk_layout.specs.Manifest.{LoadEntry, entry_view, total_length}
use Rattle.disk_layout.specs.Offsets.{bank_at}
use Rattle.disk_layout.specs.Slots.{slot_offset}
use Rattle.recovery.proofs.FormerFound.{manifest_seen, standing_seen}
use Rattle.recovery.proofs.Refusals.{can_be, manifest_refuses, slot_refuses}
use Rattle.recovery.proofs.finding_former.standing_by.Goals as goal

pub returns-in_err-check_slot-clause-refused : goal.returns-in_err-check_slot-clause-refused
returns-in_err-check_slot-clause-refused g c =
    let p = err_from_is_err_and c.from_residual.result c.from_residual.ensures.1 in
    rw (p.1, p.2) (λ image told seen is. slot_refuses seen c.args.identity.now (slot_offset c.args.slot) c.args.says.now _ is.has_active is.says c.in_err-check_slot.ensures.refused)

pub returns-in_err-manifest-clause-refused : goal.returns-in_err-manifest-clause-refused
returns-in_err-manifest-clause-refused g c =
    let p = err_from_is_err_and c.from_residual-in_err-manifest.result c.from_residual-in_err-manifest.ensures.1 in
    let id = c.args.identity.now in
    let at = slot_offset c.args.slot in
    let says = c.args.says.now in
    rw (p.1, p.2) (λ image told seen is.
    manifest_refuses seen id at says _ is.has_active (can_be seen id at says is.says c.in_ok-check_slot.ensures.ok) is.says (manifest_seen image seen id at says _ is (c.in_err-manifest.ensures.refused image told)))

pub returns-clause-found : goal.returns-clause-found
returns-clause-found g c image told seen is =
    let entries = ap (map entry_view) c.as_slice.ensures in
    let m = c.in_ok-manifest.manifest in
    standing_seen image seen c.args.identity.now (slot_offset c.args.slot) c.args.says.now (map entry_view m.loads.items) (map load_view c.in_ok-loads.loads.items) is c.in_ok-check_slot.ensures.ok
    (c.in_ok-manifest.ensures.spelled image told) c.in_ok-manifest.ensures.lengths (c.in_ok-loads.ensures.entries ∙ entries) c.in_ok-loads.ensures.headers
    (c.in_ok-loads.ensures.bytes image (c.in_ok-manifest.ensures.reads_disk.ok.reads ∙ told)
    ∙ ap₂ (λ (p : ℕ) (l : List LoadEntry). range image p (total_length l)) (c.offset-start.ensures.value ∙ ap (λ (b : ℕ). bank_at c.args.identity.now.bank b) c.numbered.ensures) entries)
