-- The configuration that an image holds, or its fault, as one value that is computed from it.
use Rattle.std.proofs.Common.{◌≡◌, ℕ, ◌+◌, ◌<◌, ◌≤◌, ◌⊎◌, inl, inr, Bool, true, false, ◌==◌, nat_lt, nat_le, List, length, Option, Some, None, Result, Ok, Err, if◌then◌else◌, refl, sym, ap, ◌∙◌, arith, lit<}
use Rattle.std.proofs.lemmas.Bool.{lt-ltb, le-ltb, le-leb, lt-leb, eq-eqb, ne_eqb, cases_lt, cases_eq}
use Rattle.std.proofs.lemmas.List.{get_or_past}
use Rattle.load_base.specs.Config.{LoadView}
use Rattle.disk_model.specs.Image.{Image, range, IsOfBytes}
use Rattle.disk_model.proofs.RangeLemmas.{length_range, byte_of_range}
use Rattle.field_grammar.specs.Grammar.{IsBytes, Spelled}
use Rattle.field_grammar.specs.Answers.{answer}
use Rattle.field_grammar.proofs.ExactLemmas.{answer-spelled, answer-fault, one_or_other, whole_one_or_other, spelled_at_start}
use Rattle.disk_layout.specs.Offsets.{slot_a, slot_b, bank_at, longest_manifest, longest_identity}
use Rattle.disk_layout.specs.Identity.{identity, HasIdentity, HasNoIdentity}
use Rattle.disk_layout.specs.Manifest.{LoadEntry, manifest, total_length}
use Rattle.disk_layout.specs.Contents.{contents_of_loads, entries_of}
use Rattle.disk_layout.specs.Slots.{IsOpen, IsActiveSlot, sequence_of, bank_of, manifest_offset_of, manifest_length_of}
use Rattle.disk_layout.specs.Holds.{StandingView, Outline, outline_of, IsSoundSlot, IsBadSlot, HasActiveSlot, manifest_at, manifest_of, HasOutline, HoldsBy, HoldsConfig, HasDiskFault}
use Rattle.disk_layout.specs.Holds.IsBadSlot.{no_such_bank, too_long, past_the_bank}
use Rattle.disk_layout.specs.Holds.HasDiskFault.{not_formatted, no_open_slot, bad_slot, bad_manifest, other_lengths}
use Rattle.disk_layout.specs.declared.identity.Identity.{Identity}
use Rattle.disk_layout.specs.declared.fault.RecoverFault.{RecoverFault}
use Rattle.disk_layout.specs.declared.fault.RecoverFault.TheVariants.{NotFormatted, NoOpenSlot, BadSlot, BadManifest, Memory}
use Rattle.disk_layout.specs.declared.manifest.ManifestFault.{ManifestFault}
use Rattle.disk_layout.specs.declared.manifest.ManifestFault.TheVariants as manifests
use Rattle.disk_layout.proofs.Cuts.{cut, cut_entries, cut_contents, cut_headers, again}
use Rattle.disk_layout.proofs.ManifestLemmas.{fault_has_offset, manifest_ends}
use Rattle.disk_layout.proofs.SlotLemmas.{one_slot, none_is_active, some_slot}

-- ---- the active slot

-- the offset of what can't be in a slot
abbrev slot_fault : Image → Identity → ℕ → Option ℕ
slot_fault image id slot =
    if nat_le 2 (bank_of image slot) then Some (slot + 20)
    else if nat_lt longest_manifest (manifest_length_of image slot) then Some (slot + 25)
    else if nat_lt id.bank (manifest_offset_of image slot + manifest_length_of image slot) then Some (slot + 21) else None

abbrev made : Identity → ℕ → ℕ → List LoadView → StandingView
made id bank sequence loads = record { identity = id; bank = bank; sequence = sequence; loads = loads }

-- the bytes before the manifest in its bank
abbrev bytes_before : Image → Identity → ℕ → List ℕ
bytes_before image id slot = range image (bank_at id.bank (bank_of image slot)) (manifest_offset_of image slot)

abbrev of_loads : Image → Identity → ℕ → List LoadEntry → Bool → Result StandingView RecoverFault
of_loads image id slot loads true = Ok (made id (bank_of image slot) (sequence_of image slot) (cut loads (bytes_before image id slot)))
of_loads image id slot loads false = Err (BadManifest (manifest_at image id slot))

abbrev of_manifest : Image → Identity → ℕ → Result (List LoadEntry) ManifestFault → Result StandingView RecoverFault
of_manifest image id slot (Ok loads) = of_loads image id slot loads (total_length loads == manifest_offset_of image slot)
of_manifest image id slot (Err (manifests.Wrong offset)) = Err (BadManifest (manifest_at image id slot + offset))
of_manifest image id slot (Err manifests.Memory) = Err Memory

abbrev of_slot : Image → Identity → ℕ → Option ℕ → Result StandingView RecoverFault
of_slot image id slot (Some offset) = Err (BadSlot offset)
of_slot image id slot None = of_manifest image id slot (answer manifest (manifest_of image id slot))

-- ---- the whole

abbrev of_identity : (image : Image) → Identity → ((slot : ℕ) × IsActiveSlot image slot) ⊎ (¬ IsOpen image slot_a × ¬ IsOpen image slot_b) → Result StandingView RecoverFault
of_identity image id (inl ruling) = of_slot image id ruling.0 (slot_fault image id ruling.0)
of_identity image id (inr none) = Err NoOpenSlot

abbrev of_answer : Image → Result Identity ℕ → Result StandingView RecoverFault
of_answer image (Ok id) = of_identity image id (some_slot image)
of_answer image (Err offset) = Err (NotFormatted offset)

-- what the image holds, or its fault
pub verdict : Image → Result StandingView RecoverFault
verdict image = of_answer image (answer identity (range image 0 longest_identity))

-- ---- what stands is the verdict

sound_is_none : (image : Image) (id : Identity) (slot : ℕ) → IsSoundSlot image id slot → slot_fault image id slot ≡ None
sound_is_none image id slot can =
    rw (
      lt-leb 2 (bank_of image slot) can.is_bank,
      le-ltb longest_manifest (manifest_length_of image slot) can.short,
      le-ltb id.bank (manifest_offset_of image slot + manifest_length_of image slot) can.within,
    ) refl

bad_is_some : (image : Image) (id : Identity) (slot offset : ℕ) → IsBadSlot image id slot offset → slot_fault image id slot ≡ Some offset
bad_is_some image id slot offset (no_such_bank bank is) = rw (le-leb 2 (bank_of image slot) bank, is) refl
bad_is_some image id slot offset (too_long bank long is) =
    rw (lt-leb 2 (bank_of image slot) bank, lt-ltb longest_manifest (manifest_length_of image slot) long, is) refl
bad_is_some image id slot offset (past_the_bank bank short past is) =
    rw (
      lt-leb 2 (bank_of image slot) bank,
      le-ltb longest_manifest (manifest_length_of image slot) short,
      lt-ltb id.bank (manifest_offset_of image slot + manifest_length_of image slot) past,
      is,
    ) refl

ruled_verdict : (image : Image) (id : Identity) (slot : ℕ) → HasActiveSlot image id slot → verdict image ≡ of_slot image id slot (slot_fault image id slot)
unfolding verdict
ruled_verdict image id slot has_active =
    rw (answer-spelled identity (range image 0 longest_identity) id has_active.identity) (by_slot (some_slot image))
  where
    by_slot : (found : ((s : ℕ) × IsActiveSlot image s) ⊎ (¬ IsOpen image slot_a × ¬ IsOpen image slot_b)) → of_identity image id found ≡ of_slot image id slot (slot_fault image id slot)
    by_slot (inl found) = ap (λ (s : ℕ). of_slot image id s (slot_fault image id s)) (one_slot image found.0 slot found.1 has_active.is_active)
    by_slot (inr none) = absurd (none_is_active image slot none.0 none.1 has_active.is_active)

sound_verdict : (image : Image) (id : Identity) (slot : ℕ) → HasActiveSlot image id slot → IsSoundSlot image id slot
    → verdict image ≡ of_manifest image id slot (answer manifest (manifest_of image id slot))
sound_verdict image id slot has_active can = ruled_verdict image id slot has_active ∙ ap (of_slot image id slot) (sound_is_none image id slot can)

loads_verdict : (image : Image) (id : Identity) (slot : ℕ) (loads : List LoadEntry) → HasActiveSlot image id slot → IsSoundSlot image id slot
    → Spelled manifest (manifest_of image id slot) loads → verdict image ≡ of_loads image id slot loads (total_length loads == manifest_offset_of image slot)
loads_verdict image id slot loads has_active can spelled =
    sound_verdict image id slot has_active can
    ∙ ap (of_manifest image id slot) (answer-spelled manifest (manifest_of image id slot) loads (spelled_at_start manifest (manifest_of image id slot) loads spelled))

same_parts : (id : Identity) (b c q r : ℕ) (l m : List LoadView) → b ≡ c → q ≡ r → l ≡ m → made id b q l ≡ made id c r m
same_parts id b c q r l m e d h = rw (e, d, h) refl

-- what stands is the verdict
pub stands_verdict : (image : Image) (s : StandingView) → HoldsConfig image s → verdict image ≡ Ok s
stands_verdict image s stands =
    let id : Identity = s.identity in
    let slot : ℕ = stands.slot in
    let outline : HasOutline image slot (outline_of s) = stands.by.outline in
    let bytes : contents_of_loads s.loads ≡ bytes_before image id slot = stands.by.contents ∙ ap (λ (b : ℕ). range image (bank_at id.bank b) (manifest_offset_of image slot)) outline.bank in
    let loads : cut (entries_of s.loads) (bytes_before image id slot) ≡ s.loads = ap (cut (entries_of s.loads)) (sym bytes) ∙ again s.loads stands.by.headers in
    loads_verdict image id slot (entries_of s.loads) outline.has_active outline.can_be outline.manifest
    ∙ ap (of_loads image id slot (entries_of s.loads)) (eq-eqb (total_length (entries_of s.loads)) (manifest_offset_of image slot) outline.lengths)
    ∙ ap (λ (v : StandingView). Ok v) (same_parts id (bank_of image slot) s.bank (sequence_of image slot) s.sequence _ s.loads (sym outline.bank) (sym outline.sequence) loads)

none_verdict : (image : Image) (id : Identity) → HasIdentity image id → ¬ IsOpen image slot_a → ¬ IsOpen image slot_b → verdict image ≡ Err NoOpenSlot
unfolding verdict
none_verdict image id has a b = rw (answer-spelled identity (range image 0 longest_identity) id has) (by_slot (some_slot image))
  where
    by_slot : (found : ((s : ℕ) × IsActiveSlot image s) ⊎ (¬ IsOpen image slot_a × ¬ IsOpen image slot_b)) → of_identity image id found ≡ Err NoOpenSlot
    by_slot (inl found) = absurd (none_is_active image found.0 a b found.1)
    by_slot (inr none) = refl

faulty_verdict : (image : Image) (offset : ℕ) → HasNoIdentity image offset → verdict image ≡ Err (NotFormatted offset)
unfolding verdict
faulty_verdict image offset has_none = rw (answer-fault identity (range image 0 longest_identity) offset has_none) refl

abbrev refusal : RecoverFault → Result StandingView RecoverFault
refusal f = Err f

-- a fault is the verdict
pub fault_verdict : (image : Image) (f : RecoverFault) → HasDiskFault image f → verdict image ≡ Err f
fault_verdict image f (not_formatted offset has_none is) = faulty_verdict image offset has_none ∙ ap refusal (sym is)
fault_verdict image f (no_open_slot id has a b is) = none_verdict image id has a b ∙ ap refusal (sym is)
fault_verdict image f (bad_slot id slot offset has_active bad is) =
    ruled_verdict image id slot has_active ∙ ap (of_slot image id slot) (bad_is_some image id slot offset bad) ∙ ap refusal (sym is)
fault_verdict image f (bad_manifest id slot offset has_active can faulty is) =
    sound_verdict image id slot has_active can ∙ ap (of_manifest image id slot) (answer-fault manifest (manifest_of image id slot) (manifests.Wrong offset) faulty) ∙ ap refusal (sym is)
fault_verdict image f (other_lengths id slot loads has_active can spelled other is) =
    loads_verdict image id slot loads has_active can spelled
    ∙ ap (of_loads image id slot loads) (ne_eqb (total_length loads) (manifest_offset_of image slot) other) ∙ ap refusal (sym is)

-- ---- the verdict is what stands

-- a slot can be, or not at one offset
slot_cases : (image : Image) (id : Identity) (slot : ℕ) → IsSoundSlot image id slot ⊎ ((offset : ℕ) × IsBadSlot image id slot offset)
slot_cases image id slot =
    by_bounds (cases_lt (bank_of image slot) 2) (cases_lt longest_manifest (manifest_length_of image slot)) (cases_lt id.bank (manifest_offset_of image slot + manifest_length_of image slot))
  where
    by_bounds : ((bank_of image slot < 2) ⊎ (2 ≤ bank_of image slot)) → ((longest_manifest < manifest_length_of image slot) ⊎ (manifest_length_of image slot ≤ longest_manifest))
        → ((id.bank < manifest_offset_of image slot + manifest_length_of image slot) ⊎ (manifest_offset_of image slot + manifest_length_of image slot ≤ id.bank))
        → IsSoundSlot image id slot ⊎ ((offset : ℕ) × IsBadSlot image id slot offset)
    by_bounds (inr bank) _ _ = inr (slot + 20, no_such_bank bank refl)
    by_bounds (inl bank) (inl long) _ = inr (slot + 25, too_long bank long refl)
    by_bounds (inl bank) (inr short) (inl past) = inr (slot + 21, past_the_bank bank short past refl)
    by_bounds (inl bank) (inr short) (inr within) = inl (record { is_bank = bank; short = short; within = within })

range_fits : (image : Image) (at n : ℕ) → IsOfBytes image → IsBytes (range image at n)
range_fits image at n fits k = elim (cases_lt k n) [
  | inl within ↦ rw (byte_of_range image at n k within) (fits (at + k))
  | inr past ↦ rw (get_or_past (range image at n) k 0 (omega (arith, past, length_range image at n))) (lit< tt)
]

-- an outline is that of a configuration
pub outline_stands : (image : Image) (slot : ℕ) (o : Outline) → HasOutline image slot o → (s : StandingView) × HoldsBy image slot s × (outline_of s ≡ o)
outline_stands image slot o outline =
    let before : List ℕ = range image (bank_at o.identity.bank o.bank) (manifest_offset_of image slot) in
    let exact : total_length o.loads ≡ length before = outline.lengths ∙ sym (length_range image (bank_at o.identity.bank o.bank) (manifest_offset_of image slot)) in
    let entries : entries_of (cut o.loads before) ≡ o.loads = cut_entries o.loads before (omega (arith, exact)) in
    let same : outline_of (made o.identity o.bank o.sequence (cut o.loads before)) ≡ o = ap (λ (ls : List LoadEntry). sketched o.identity o.bank o.sequence ls) entries in (
      made o.identity o.bank o.sequence (cut o.loads before),
      record {
        outline = rw same outline;
        headers = cut_headers o.loads before;
        contents = cut_contents o.loads before exact;
      },
      same,
    )
  where
    sketched : Identity → ℕ → ℕ → List LoadEntry → Outline
    sketched identity bank sequence loads = record { identity = identity; bank = bank; sequence = sequence; loads = loads }

-- an image that holds a configuration, or fails at a condition
abbrev pub StandsOrNot : Image → Type 0
StandsOrNot image = ((s : StandingView) × HoldsConfig image s) ⊎ ((f : RecoverFault) × HasDiskFault image f)

by_lengths : (image : Image) (id : Identity) (slot : ℕ) (loads : List LoadEntry) → HasActiveSlot image id slot → IsSoundSlot image id slot
    → Spelled manifest (manifest_of image id slot) loads → StandsOrNot image
by_lengths image id slot loads has_active can spelled = elim (cases_eq (total_length loads) (manifest_offset_of image slot)) [
  | inl same ↦
      let outline : HasOutline image slot (record { identity = id; bank = bank_of image slot; sequence = sequence_of image slot; loads = loads }) =
      record { has_active = has_active; can_be = can; bank = refl; sequence = refl; manifest = spelled; lengths = same } in
      let found = outline_stands image slot _ outline in
      inl (found.0, record { slot = slot; by = found.1 })
  | inr other ↦ inr (BadManifest (manifest_at image id slot), other_lengths id slot loads has_active can spelled other refl)
]

by_manifest : (image : Image) (id : Identity) (slot : ℕ) → IsOfBytes image → HasActiveSlot image id slot → IsSoundSlot image id slot → StandsOrNot image
by_manifest image id slot fits has_active can =
    elim (whole_one_or_other manifest (manifest_of image id slot) manifest_ends (range_fits image (manifest_at image id slot) (manifest_length_of image slot) fits)) [
      | inl spelled ↦ by_lengths image id slot spelled.0 has_active can spelled.1
      | inr faulty ↦
          let offset = fault_has_offset (manifest_of image id slot) faulty.0 faulty.1 in
          inr (BadManifest (manifest_at image id slot + offset.0), bad_manifest id slot offset.0 has_active can (rw (← offset.1) faulty.1) refl)
    ]

by_identity : (image : Image) (id : Identity) → IsOfBytes image → HasIdentity image id → ((slot : ℕ) × IsActiveSlot image slot) ⊎ (¬ IsOpen image slot_a × ¬ IsOpen image slot_b)
    → StandsOrNot image
by_identity image id fits has (inl found) =
    let has_active : HasActiveSlot image id found.0 = record { identity = has; is_active = found.1 } in
    elim (slot_cases image id found.0) [
      | inl can ↦ by_manifest image id found.0 fits has_active can
      | inr bad ↦ inr (BadSlot bad.0, bad_slot id found.0 bad.0 has_active bad.1 refl)
    ]
by_identity image id fits has (inr none) = inr (NoOpenSlot, no_open_slot id has none.0 none.1 refl)

-- each image of bytes holds a configuration or fails at a condition
pub stands_or_not : (image : Image) → IsOfBytes image → StandsOrNot image
stands_or_not image fits = elim (one_or_other identity (range image 0 longest_identity) (range_fits image 0 longest_identity fits)) [
  | inl has ↦ by_identity image has.0 fits has.1 (some_slot image)
  | inr faulty ↦ inr (NotFormatted faulty.0, not_formatted faulty.0 faulty.1 refl)
]
