-- The former configuration stands in the other bank of a store.
use Rattle.std.proofs.Common.{◌≡◌, inl, inr, ℕ, ◌+◌, List, Result, Ok, sym, ◌∙◌, ap, ap₂, subst, arith}
use Rattle.field_grammar.specs.Answers.{answer}
use Rattle.field_grammar.proofs.ExactLemmas.{answer-spelled}
use Rattle.field_grammar.specs.Grammar.{Spelled}
use Rattle.disk_model.specs.Image.{Image, range}
use Rattle.disk_layout.specs.Offsets.{bank_at}
use Rattle.disk_layout.specs.Slots.{IsOpen, IsSlot, other_slot, other_bank, bank_of, manifest_offset_of, manifest_length_of}
use Rattle.disk_layout.specs.Identity.{identity}
use Rattle.disk_layout.specs.Manifest.{manifest}
use Rattle.disk_layout.specs.Contents.{entries_of}
use Rattle.disk_layout.specs.Holds.{HoldsBy, StandingView, manifest_of}
use Rattle.disk_layout.specs.declared.identity.Identity.{Identity}
use Rattle.bank_store.specs.Fits.{HoldsFor}
use Rattle.bank_store.specs.Readopting.{HasLoadsAt}
use Rattle.bank_store.specs.Store.{active_bank, active_slot, work_at}
use Rattle.bank_store.specs.declared.store.Store.{Store}
use Rattle.recovery.specs.Formers.{HoldsFormer, without_slot}
use Rattle.recovery.specs.FormerLoads.{FormerStandsBeside}
use Rattle.recovery.proofs.Formers.{same_active}
use Rattle.recovery.proofs.WithoutSlot.{banks_stay, byte_stays, is_shut, number_stays, start_stays, which_slot}

one_identity : (a b : Identity) (read : Result Identity ℕ) → read ≡ Ok a → read ≡ Ok b → a ≡ b
one_identity a b read is too = cc

module _ (store : Store) (image : Image) (s former : StandingView) (was : HoldsFor store image s) (has : HoldsFormer image former) where
  abbrev slot : ℕ
  slot = active_slot store

  abbrev other : ℕ
  other = other_slot (active_slot store)

  abbrev seen : Image
  seen = without_slot (active_slot store) image

  is_slot : IsSlot slot
  is_slot = was.by.outline.has_active.is_active.is_slot

  same : has.slot ≡ slot
  same = same_active image has.slot slot has.active s has.by was.by

  held_somewhere : HoldsBy seen has.holds.slot former
  held_somewhere = subst (λ (n : ℕ). HoldsBy (without_slot n image) has.holds.slot former) same has.holds.by

  -- the other slot is the active one of the image without the first
  held : HoldsBy seen other former
  held = elim (which_slot slot has.holds.slot is_slot held_somewhere.outline.has_active.is_active.is_slot) [
    | inl e ↦ absurd (is_shut slot image is_slot (subst (λ (n : ℕ). IsOpen seen n) e held_somewhere.outline.has_active.is_active.gate))
    | inr e ↦ subst (λ (n : ℕ). HoldsBy seen n former) e held_somewhere
  ]

  same_target : former.identity ≡ s.identity
  same_target = one_identity former.identity s.identity (answer identity (range image 0 75))
      (ap (λ (bytes : List ℕ). answer identity bytes) (sym (start_stays slot image is_slot)) ∙ answer-spelled identity (range seen 0 75) former.identity held.outline.has_active.identity)
      (answer-spelled identity (range image 0 75) s.identity was.by.outline.has_active.identity)

  size_is : former.identity.bank ≡ store.size
  size_is = ap (λ (id : Identity). id.bank) same_target ∙ was.size

  bank_is : bank_of seen other ≡ other_bank (active_bank store)
  bank_is =
      byte_stays slot image is_slot 20 (omega arith) ∙ subst (λ (n : ℕ). bank_of image (other_slot n) ≡ other_bank (bank_of image n)) same has.older.bank
      ∙ ap other_bank (sym was.by.outline.bank ∙ was.bank)

  offset_is : manifest_offset_of seen other ≡ manifest_offset_of image other
  offset_is = number_stays slot image is_slot 21 (omega arith)

  length_is : manifest_length_of seen other ≡ manifest_length_of image other
  length_is = number_stays slot image is_slot 25 (omega arith)

  work_is : bank_at former.identity.bank (bank_of seen other) ≡ work_at store
  work_is = ap₂ (λ (n : ℕ) (b : ℕ). bank_at n b) size_is bank_is

  manifest_is : manifest_of seen former.identity other ≡ range image (work_at store + manifest_offset_of image other) (manifest_length_of image other)
  manifest_is =
      ap₂ (λ (p : ℕ) (n : ℕ). range seen p n) (ap₂ (λ (b : ℕ) (p : ℕ). b + p) work_is offset_is) length_is
      ∙ banks_stay slot image is_slot (work_at store + manifest_offset_of image other) (manifest_length_of image other) (omega arith)

  contents_are : range seen (bank_at former.identity.bank former.bank) (manifest_offset_of seen other) ≡ range image (work_at store) (manifest_offset_of image other)
  contents_are =
      ap₂ (λ (p : ℕ) (n : ℕ). range seen p n) (ap (λ (b : ℕ). bank_at former.identity.bank b) held.outline.bank ∙ work_is) offset_is
      ∙ banks_stay slot image is_slot (work_at store) (manifest_offset_of image other) (omega arith)

  pub stands_beside : HasLoadsAt store image (manifest_offset_of image other) (manifest_length_of image other) former.loads
  stands_beside = record {
    short = let short = held.outline.can_be.short in omega (arith, short, length_is);
    within = let within = held.outline.can_be.within in omega (arith, within, length_is, offset_is, size_is);
    manifest = subst (λ (bytes : List ℕ). Spelled manifest bytes (entries_of former.loads)) manifest_is held.outline.manifest;
    lengths = held.outline.lengths ∙ offset_is;
    headers = held.headers;
    contents = held.contents ∙ contents_are;
  }

pub former_stands_beside : FormerStandsBeside
former_stands_beside store image s former was has = stands_beside store image s former was has
