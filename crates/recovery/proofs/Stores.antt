-- What was found, as what a store keeps of the disk.
use Rattle.std.proofs.Common.{◌≡◌, ◌≢◌, ℕ, List, Bool, true, false, inl, inr, sym, ap, ◌∙◌, subst, arith}
use Rattle.disk_model.specs.Image.{Image}
use Rattle.disk_layout.specs.Slots.{IsSlot, IsSlotAt, slot_offset, bank_number, other_slot, manifest_offset_of, manifest_length_of}
use Rattle.disk_layout.specs.Entries.{entry_bytes, typed_loads}
use Rattle.disk_layout.specs.Manifest.{LoadEntry}
use Rattle.disk_layout.specs.Holds.{Outline, StandingView, HasOutline, HoldsBy, outline_of}
use Rattle.disk_layout.specs.declared.active.Active.{Active}
use Rattle.disk_layout.specs.declared.active.ManifestRange.{ManifestRange}
use Rattle.disk_layout.specs.declared.identity.Identity.{Identity}
use Rattle.disk_layout.specs.declared.manifest.Manifest.{Manifest}
use Rattle.bank_store.specs.Store.{active_slot, bank_size_of, active_of, is_other_open, known_of}
use Rattle.bank_store.specs.Fits.{HoldsFor}
use Rattle.bank_store.specs.declared.store.Store.{Store}
use Rattle.recovery.specs.Parts.{TellsOther}
use Rattle.recovery.specs.Surveys.{FindsActive, FindsOutline, IsSurveyed, KnowsManifest, outline_of_survey}
use Rattle.recovery.specs.declared.slots.ActiveSlot.{ActiveSlot}
use Rattle.recovery.specs.declared.surveying.Surveyed.{Surveyed}

-- the other slot is one, and another
other_is_slot : (slot : ℕ) → IsSlot slot → IsSlot (other_slot slot) × (other_slot slot ≢ slot)
other_is_slot slot (inl e) = (inr (omega (arith, e)), λ same. omega (arith, e, same))
other_is_slot slot (inr e) = (inl (omega (arith, e)), λ same. omega (arith, e, same))

-- A configuration of the outline that was found is one that the store keeps as active.
pub store_holds : (image : Image) (s : Surveyed) → IsSurveyed image s → bank_size_of s.store ≡ s.identity.bank → KnowsManifest (known_of s.store) s.manifest
    → (standing : StandingView) → HoldsBy image (active_slot s.store) standing → outline_of standing ≡ outline_of_survey s → HoldsFor s.store image standing
store_holds image s found size known standing by is =
    let other = other_is_slot (active_slot s.store) found.outline.has_active.is_active.is_slot in
    let tells = found.other (other_slot (active_slot s.store)) other.0 other.1 in
    record {
      by = by;
      bank = ap (λ (o : Outline). o.bank) is;
      sequence = ap (λ (o : Outline). o.sequence) is;
      size = ap (λ (o : Outline). o.identity.bank) is ∙ sym size;
      offset = found.offset;
      length = found.length;
      known = known ∙ ap (λ (o : Outline). entry_bytes (typed_loads o.loads)) (sym is);
      gate = record {
        open_there = tells.0;
        shut_there = λ told is_open. let both : true ≡ false = sym (tells.1 is_open) ∙ told in cc;
      };
    }

-- over plain numbers
same_outline : (image : Image) (id : Identity) (loads : List LoadEntry) (slot at bank names sequence says : ℕ) → slot ≡ at → bank ≡ names → sequence ≡ says
    → HasOutline image at (record { identity = id; bank = names; sequence = says; loads = loads })
    → HasOutline image slot (record { identity = id; bank = bank; sequence = sequence; loads = loads })
same_outline image id loads slot at bank names sequence says here same next outline = rw (here, same, next) outline

-- What the slot says is what is active.
pub finds : (image : Image) (id : Identity) (loads : List LoadEntry) (active : Active) (active_slot : ActiveSlot) → active.slot ≡ active_slot.slot → bank_number active.bank ≡ active_slot.says.bank
    → active.sequence ≡ active_slot.says.sequence → active.manifest ≡ active_slot.says.manifest
    → HasOutline image (slot_offset active_slot.slot) (record { identity = id; bank = active_slot.says.bank; sequence = active_slot.says.sequence; loads = loads })
    → IsSlotAt image (slot_offset active_slot.slot) active_slot.says → TellsOther image (slot_offset active_slot.slot) active_slot.other_is_open → FindsOutline image id loads active active_slot.other_is_open
finds image id loads active active_slot slot bank sequence manifest outline says other =
    let at : slot_offset active.slot ≡ slot_offset active_slot.slot = ap slot_offset slot in
    record {
      outline = same_outline image id loads (slot_offset active.slot) (slot_offset active_slot.slot) (bank_number active.bank) active_slot.says.bank active.sequence active_slot.says.sequence at bank sequence outline;
      offset = ap (λ (n : ℕ). manifest_offset_of image n) at ∙ sym says.offset ∙ sym (ap (λ (r : ManifestRange). r.offset) manifest);
      length = ap (λ (n : ℕ). manifest_length_of image n) at ∙ sym says.length ∙ sym (ap (λ (r : ManifestRange). r.length) manifest);
      other = subst (λ (n : ℕ). TellsOther image n active_slot.other_is_open) (sym at) other;
    }

-- what a store keeps of what was found
pub found_by_store : (image : Image) (id : Identity) (m : Manifest) (active : Active) (other_is_open : Bool) (store : Store) → active_of store ≡ active → is_other_open store ≡ other_is_open
    → FindsActive image id m active other_is_open → IsSurveyed image (record { identity = id; manifest = m; store = store })
found_by_store image id m active other_is_open store keeps tells found =
    subst (λ (o : Bool). FindsActive image id m (active_of store) o) (sym tells) (subst (λ (a : Active). FindsActive image id m a other_is_open) (sym keeps) found)
