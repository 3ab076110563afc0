-- Where the former configuration stands, for a store of what is active (docs/DISK.md).
use Rattle.disk_model.specs.Image.{Image}
use Rattle.disk_layout.specs.Slots.{other_slot, manifest_offset_of, manifest_length_of}
use Rattle.disk_layout.specs.Holds.{StandingView}
use Rattle.bank_store.specs.Fits.{HoldsFor}
use Rattle.bank_store.specs.Readopting.{HasLoadsAt}
use Rattle.bank_store.specs.Store.{active_slot}
use Rattle.bank_store.specs.declared.store.Store.{Store}
use Rattle.recovery.specs.Formers.{HoldsFormer}

-- in the other bank, where the other slot says
abbrev pub FormerStandsBeside : Type 0
FormerStandsBeside =
    (store : Store) (image : Image) (s former : StandingView) → HoldsFor store image s → HoldsFormer image former
    → HasLoadsAt store image (manifest_offset_of image (other_slot (active_slot store))) (manifest_length_of image (other_slot (active_slot store))) former.loads
