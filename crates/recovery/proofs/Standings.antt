-- What was surveyed and its contents, as what the disk holds.
use Rattle.std.proofs.Common.{◌≡◌, ℕ, List, Bool, ap, ◌∙◌}
use Rattle.load_base.specs.Config.{LoadView}
use Rattle.disk_model.specs.Image.{Image, range}
use Rattle.disk_layout.specs.Offsets.{bank_at}
use Rattle.disk_layout.specs.Slots.{slot_offset, bank_number}
use Rattle.disk_layout.specs.Manifest.{LoadEntry, manifest_view, total_length}
use Rattle.disk_layout.specs.Contents.{entries_of, contents_of_loads, HeadersAreFirst}
use Rattle.disk_layout.specs.Holds.{Outline, HasOutline, HoldsConfig}
use Rattle.disk_layout.specs.declared.identity.Identity.{Identity}
use Rattle.disk_layout.specs.declared.active.Active.{Active}
use Rattle.disk_layout.specs.declared.manifest.Manifest.{Manifest}
use Rattle.recovery.specs.Surveys.{FindsActive}

outlined : Identity → ℕ → ℕ → List LoadEntry → Outline
outlined id bank sequence loads = record { identity = id; bank = bank; sequence = sequence; loads = loads }

pub stands_by : (image : Image) (id : Identity) (entries : List LoadEntry) (active : Active) (bank : ℕ) (loads : List LoadView) → bank ≡ bank_number active.bank
    → HasOutline image (slot_offset active.slot) (record { identity = id; bank = bank_number active.bank; sequence = active.sequence; loads = entries })
    → entries_of loads ≡ entries → HeadersAreFirst loads → contents_of_loads loads ≡ range image (bank_at id.bank bank) (total_length entries)
    → HoldsConfig image (record { identity = id; bank = bank; sequence = active.sequence; loads = loads })
unfolding outlined
stands_by image id entries active bank loads is_bank outline are headers contents = record {
  slot = slot_offset active.slot;
  by = record {
    outline = rw (is_bank, ap (outlined id (bank_number active.bank) active.sequence) are) outline;
    headers = headers;
    contents = contents ∙ ap (λ (n : ℕ). range image (bank_at id.bank bank) n) outline.lengths;
  };
}

pub stands_for : (image : Image) (id : Identity) (m : Manifest) (active : Active) (other_is_open : Bool) (bank : ℕ) (loads : List LoadView) → bank ≡ bank_number active.bank
    → FindsActive image id m active other_is_open → entries_of loads ≡ manifest_view m → HeadersAreFirst loads
    → contents_of_loads loads ≡ range image (bank_at id.bank bank) (total_length (manifest_view m)) → HoldsConfig image (record { identity = id; bank = bank; sequence = active.sequence; loads = loads })
stands_for image id m active other_is_open bank loads is_bank found entries headers contents =
    stands_by image id (manifest_view m) active bank loads is_bank found.outline entries headers contents
