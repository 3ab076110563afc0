-- What was laid out stands there.
use Rattle.std.proofs.Common.{◌≡◌, ℕ, ◌+◌, ◌<◌, ◌≤◌, ◌⊎◌, List, [], ◌∷◌, length, get_or, refl, sym, ap, subst, inl, inr, ◌∙◌, arith}
use Rattle.byteorder.specs.Endian.{big_number}
use Rattle.disk_model.specs.Image.{Image, range, overlay}
use Rattle.disk_model.proofs.OverlayLemmas.{overlay_outside}
use Rattle.disk_model.proofs.RangeLemmas.{byte_of_range}
use Rattle.disk_layout.specs.Offsets.{slot_a, slot_b, longest_identity, number_at}
use Rattle.disk_layout.specs.Identity.{HasIdentity, identity_text}
use Rattle.disk_layout.specs.declared.identity.Identity.{Identity}
use Rattle.disk_layout.proofs.SlotBodyLemmas.{part_is}
use Rattle.bank_store.specs.Formatting.{IsShut, IsLaidOut, IsUntouched, SameButForGates, laid_out}
use Rattle.bank_store.proofs.Gates.{other_offset}
use Rattle.bank_store.proofs.Images.{written, apart}

abbrev no_loads : List ℕ
no_loads = 160 ∷ 2 ∷ 0 ∷ 0 ∷ []

-- sequence 1, bank 0, and a manifest of 4 bytes at its start
abbrev first_slot : List ℕ
first_slot = 0 ∷ 0 ∷ 0 ∷ 1 ∷ 0 ∷ 0 ∷ 0 ∷ 0 ∷ 0 ∷ 0 ∷ 0 ∷ 0 ∷ 4 ∷ []

-- the image with the manifest, slot A's body and these bytes at its start
abbrev pub laid : Image → List ℕ → Image
laid image prefix = overlay (overlay (overlay image 8192 no_loads) 4112 first_slot) 0 prefix

body_is : (image : Image) (prefix : List ℕ) → length prefix ≤ longest_identity → range (laid image prefix) 4112 13 ≡ first_slot
body_is image prefix short =
    apart (overlay (overlay image 8192 no_loads) 4112 first_slot) (laid image prefix) 0 (length prefix) 4112 13 (overlay_outside (overlay (overlay image 8192 no_loads) 4112 first_slot) 0 prefix) (inr (omega (arith, short)))
    ∙ written (overlay image 8192 no_loads) 4112 first_slot

pub number_is : (image : Image) (n offset : ℕ) (bytes : List ℕ) → range image offset n ≡ bytes → number_at n image offset ≡ big_number n bytes
unfolding number_at
number_is image n offset bytes is = ap (λ (l : List ℕ). big_number n l) is

manifest_is : (image : Image) (prefix : List ℕ) → length prefix ≤ longest_identity → range (laid image prefix) 8192 4 ≡ no_loads
manifest_is image prefix short =
    let one : Image = overlay image 8192 no_loads in
    let two : Image = overlay one 4112 first_slot in
    apart two (laid image prefix) 0 (length prefix) 8192 4 (overlay_outside two 0 prefix) (inr (omega (arith, short)))
    ∙ apart one two 4112 13 8192 4 (overlay_outside one 4112 first_slot) (inr (omega arith)) ∙ written image 8192 no_loads

-- a gate stays as it was
gate_is : (image : Image) (prefix : List ℕ) (slot : ℕ) → length prefix ≤ longest_identity → (slot ≡ slot_a) ⊎ (slot ≡ slot_b) → laid image prefix slot ≡ image slot
gate_is image prefix slot short is =
    let one : Image = overlay image 8192 no_loads in
    let two : Image = overlay one 4112 first_slot in
    overlay_outside two 0 prefix slot (inr (past slot is)) ∙ overlay_outside one 4112 first_slot slot (beside slot is) ∙ overlay_outside image 8192 no_loads slot (inl (early slot is))
  where
    past : (s : ℕ) → (s ≡ slot_a) ⊎ (s ≡ slot_b) → 0 + length prefix ≤ s
    past s (inl e) = omega (arith, e, short)
    past s (inr e) = omega (arith, e, short)

    beside : (s : ℕ) → (s ≡ slot_a) ⊎ (s ≡ slot_b) → (s < 4112) ⊎ (4112 + 13 ≤ s)
    beside s (inl e) = inl (omega (arith, e))
    beside s (inr e) = inr (omega (arith, e))

    early : (s : ℕ) → (s ≡ slot_a) ⊎ (s ≡ slot_b) → s < 8192
    early s (inl e) = omega (arith, e)
    early s (inr e) = omega (arith, e)

-- what was laid out; `read` is the law that a written identity is read again
pub is_laid_out : (image : Image) (id : Identity) → IsShut image → length (identity_text id) ≤ longest_identity
    → ((i : Image) → range i 0 (length (identity_text id)) ≡ identity_text id → HasIdentity i id) → IsLaidOut id (laid image (identity_text id))
is_laid_out image id shut short read =
    let prefix : List ℕ = identity_text id in
    let whole : Image = laid image prefix in
    let body = body_is image prefix short in
    record {
      shut = record { a = λ opened. shut.a (sym (gate_is image prefix slot_a short (inl refl)) ∙ opened); b = λ opened. shut.b (sym (gate_is image prefix slot_b short (inr refl)) ∙ opened) };
      identity = read whole (written (overlay (overlay image 8192 no_loads) 4112 first_slot) 0 prefix);
      sequence = number_is whole 4 4112 (0 ∷ 0 ∷ 0 ∷ 1 ∷ []) (part_is whole 4112 13 0 4 first_slot body (omega arith));
      bank = byte_is whole body;
      offset = number_is whole 4 4117 (0 ∷ 0 ∷ 0 ∷ 0 ∷ []) (part_is whole 4112 13 5 4 first_slot body (omega arith));
      length = number_is whole 4 4121 (0 ∷ 0 ∷ 0 ∷ 4 ∷ []) (part_is whole 4112 13 9 4 first_slot body (omega arith));
      manifest = ap (λ (p : ℕ). range whole p 4) (omega arith) ∙ manifest_is image prefix short;
    }
  where
    byte_is : (i : Image) → range i 4112 13 ≡ first_slot → i 4116 ≡ 0
    byte_is i is = sym (byte_of_range i 4112 13 4 (omega arith)) ∙ ap (λ (l : List ℕ). get_or l 4 0) is

-- ---- what is not written

beside : (image : Image) (at n offset : ℕ) (bytes : List ℕ) → length bytes ≡ n → (offset < at) ⊎ (at + n ≤ offset) → overlay image at bytes offset ≡ image offset
beside image at n offset bytes size out = overlay_outside image at bytes offset (subst (λ (m : ℕ). (offset < at) ⊎ (at + m ≤ offset)) (sym size) out)

pub rest_stays : (id : Identity) (before shut : Image) (offset : ℕ) → SameButForGates before shut → IsUntouched id offset → overlay (laid_out id shut) slot_a (0xA5 ∷ []) offset ≡ before offset
rest_stays id before shut offset same is =
    let one : Image = overlay shut 8192 no_loads in
    let two : Image = overlay one 4112 first_slot in
    let three : Image = overlay two 0 (identity_text id) in
    let body : (offset < 4112) ⊎ (4112 + 13 ≤ offset) = elim is.body [ inl early ↦ inl (omega (arith, early)) | inr late ↦ inr (omega (arith, late)) ] in
    let manifest : (offset < 8192) ⊎ (8192 + 4 ≤ offset) = elim is.manifest [ inl early ↦ inl early | inr late ↦ inr (omega (arith, late)) ] in
    beside three slot_a 1 offset (0xA5 ∷ []) refl (other_offset slot_a offset is.a)
    ∙ beside two 0 (length (identity_text id)) offset (identity_text id) refl (inr (omega (arith, is.identity)))
    ∙ beside one 4112 13 offset first_slot refl body ∙ beside shut 8192 4 offset no_loads refl manifest ∙ same offset is.a is.b
