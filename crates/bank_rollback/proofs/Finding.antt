-- A former configuration that is found beside the active one.
use Rattle.std.proofs.Common.{◌≡◌, ℕ, sym, ◌∙◌, ap, subst}
use Rattle.disk_model.specs.Image.{Image}
use Rattle.disk_layout.specs.Holds.{HoldsConfig, StandingView}
use Rattle.disk_layout.proofs.SlotLemmas.{one_slot}
use Rattle.disk_layout.specs.Slots.{manifest_length_of, manifest_offset_of, other_slot}
use Rattle.bank_store.specs.Fits.{HoldsFor}
use Rattle.bank_store.specs.Readopting.{HasLoadsAt}
use Rattle.bank_store.specs.Store.{active_slot}
use Rattle.bank_store.specs.declared.store.Store.{Store}
use Rattle.recovery.specs.FormerLoads.{FormerStandsBeside}
use Rattle.bank_rollback.specs.Beside.{IsFormerAt, StandsBeside}

pub holds_active : (store : Store) (image : Image) (s : StandingView) → HoldsFor store image s → HoldsConfig image s
holds_active store image s was = record { slot = active_slot store; by = was.by }

-- in the words of the store; `law` is that of recovery
pub stands_found : (law : FormerStandsBeside) (store : Store) (image : Image) (s former : StandingView) (place size : ℕ) → HoldsFor store image s → IsFormerAt image former place size
    → StandsBeside image (record { store = store; place = place; length = size })
stands_found law store image s former place size was at =
    let same : at.holds.slot ≡ active_slot store =
    one_slot image at.holds.slot (active_slot store) at.holds.by.outline.has_active.is_active was.by.outline.has_active.is_active in
    let place_is : manifest_offset_of image (other_slot (active_slot store)) ≡ place = ap (λ (n : ℕ). manifest_offset_of image (other_slot n)) (sym same) ∙ sym at.offset in
    let size_is : manifest_length_of image (other_slot (active_slot store)) ≡ size = ap (λ (n : ℕ). manifest_length_of image (other_slot n)) (sym same) ∙ sym at.length in
    record {
      active = s;
      former = former;
      holds = was;
      holds_former = at.holds;
      loads = subst (λ (p : ℕ). HasLoadsAt store image p size former.loads) place_is
          (subst (λ (n : ℕ). HasLoadsAt store image (manifest_offset_of image (other_slot (active_slot store))) n former.loads) size_is (law store image s former was at.holds));
    }
