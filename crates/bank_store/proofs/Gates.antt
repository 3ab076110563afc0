-- The gates, shut and opened.
use Rattle.std.proofs.Common.{◌≡◌, ℕ, ◌+◌, ◌<◌, ◌≤◌, ◌⊎◌, List, [], ◌∷◌, Option, Some, inl, inr, refl, sym, ap, ap₂, subst, ◌∙◌, arith}
use Rattle.std.proofs.lemmas.Bool.{cases_eq, cases_lt}
use Rattle.std.proofs.lemmas.List.{nil_from_length}
use Rattle.disk_model.proofs.RangeLemmas.{length_range}
use Rattle.std.proofs.lemmas.List.Elements.{All-nil}
use Rattle.load_base.specs.Config.{LoadView}
use Rattle.byteorder.specs.Endian.{big_number}
use Rattle.disk_model.specs.Image.{Image, range, overlay, SameOutside}
use Rattle.disk_model.specs.State.{Torn}
use Rattle.disk_model.proofs.OverlayLemmas.{overlay_inside, overlay_outside}
use Rattle.field_grammar.specs.Grammar.{Spelled, SpelledAtStart}
use Rattle.field_grammar.specs.Fields.{number_bytes}
use Rattle.disk_layout.specs.Offsets.{IsBankSize, slot_a, slot_b, bank_at, longest_identity, number_at}
use Rattle.disk_layout.specs.Identity.{identity}
use Rattle.disk_layout.specs.Slots.{IsOpen, sequence_of, bank_of, manifest_offset_of, manifest_length_of}
use Rattle.disk_layout.proofs.SlotLemmas.{a_is_active}
use Rattle.disk_layout.specs.Manifest.{LoadEntry, LoadFits, manifest}
use Rattle.disk_layout.proofs.ManifestSpelling.{manifest_spelling}
use Rattle.disk_layout.specs.Contents.{HeaderIsFirst}
use Rattle.disk_layout.specs.Holds.{manifest_at, manifest_of, HoldsConfig}
use Rattle.disk_layout.specs.declared.manifest.Layout.TheVariants as layouts
use Rattle.disk_layout.specs.declared.identity.Identity.{Identity}
use Rattle.bank_store.specs.Formatting.{formatted, IsShut, GatesTorn, IsLaidOut}
use Rattle.bank_store.proofs.Images.{apart}

-- ---- shutting them

pub same_image : (a b : Image) → ◌≡◌ {A = Option Image} (Some a) (Some b) → a ≡ b
same_image a b e = cc

pub other_offset : (at offset : ℕ) → ¬ (offset ≡ at) → (offset < at) ⊎ (at + 1 ≤ offset)
other_offset at offset other = elim (cases_lt offset at) [
  | inl before ↦ inl before
  | inr from ↦ elim (cases_eq offset at) [ inl is ↦ absurd (other is) | inr differs ↦ inr (omega (arith, from, differs)) ]
]

-- ---- opening slot A

number_same : (before after : Image) (n offset : ℕ) → slot_a + 1 ≤ offset → SameOutside slot_a 1 before after → number_at n after offset ≡ number_at n before offset
unfolding number_at
number_same before after n offset beyond same = ap (λ (l : List ℕ). big_number n l) (apart before after slot_a 1 offset n same (inr beyond))

-- the manifest of a configuration without loads
no_loads : Spelled manifest (160 ∷ 2 ∷ 0 ∷ 0 ∷ []) []
unfolding number_bytes
no_loads = (manifest_spelling (160 ∷ 2 ∷ 0 ∷ 0 ∷ []) []).1 (layouts.Two, record { count = omega arith; each = All-nil (λ (l : LoadEntry). LoadFits layouts.Two l) }, refl)

opened_stands : (before after : Image) (id : Identity) → IsBankSize id.bank → IsLaidOut id before → SameOutside slot_a 1 before after → IsOpen after slot_a → HoldsConfig after (formatted id)
opened_stands before after id size laid same gate =
    let sequence : sequence_of after slot_a ≡ 1 = number_same before after 4 (slot_a + 16) (omega arith) same ∙ laid.sequence in
    let bank : bank_of after slot_a ≡ 0 = same (slot_a + 20) (inr (omega arith)) ∙ laid.bank in
    let offset : manifest_offset_of after slot_a ≡ 0 = number_same before after 4 (slot_a + 21) (omega arith) same ∙ laid.offset in
    let long : manifest_length_of after slot_a ≡ 4 = number_same before after 4 (slot_a + 25) (omega arith) same ∙ laid.length in
    let shut : ¬ IsOpen after slot_b = λ opened. laid.shut.b (sym (same slot_b (inr (omega arith))) ∙ opened) in
    let at : manifest_at after id slot_a ≡ bank_at id.bank 0 = ap₂ (λ (b : ℕ) (p : ℕ). bank_at id.bank b + p) bank offset ∙ omega arith in
    let bytes : manifest_of after id slot_a ≡ 160 ∷ 2 ∷ 0 ∷ 0 ∷ [] =
    ap₂ (λ (p : ℕ) (n : ℕ). range after p n) at long ∙ apart before after slot_a 1 (bank_at id.bank 0) 4 same (inr (omega arith)) ∙ laid.manifest in
    record {
      slot = slot_a;
      by = record {
        outline = record {
          has_active = record {
            identity = subst (λ (prefix : List ℕ). SpelledAtStart identity prefix id) (sym (apart before after slot_a 1 0 longest_identity same (inl (omega arith)))) laid.identity;
            is_active = a_is_active after gate (λ opened. absurd (shut opened));
          };
          can_be = record { is_bank = omega (arith, bank); short = omega (arith, long); within = omega (arith, offset, long, size.0) };
          bank = sym bank;
          sequence = sym sequence;
          manifest = subst (λ (m : List ℕ). Spelled manifest m []) (sym bytes) no_loads;
          lengths = sym offset;
        };
        headers = All-nil (λ (l : LoadView). HeaderIsFirst l);
        contents = nothing_before after (bank_at id.bank 0) (manifest_offset_of after slot_a) offset;
      };
    }
  where
    nothing_before : (image : Image) (start n : ℕ) → n ≡ 0 → [] ≡ range image start n
    nothing_before image start n none = sym (nil_from_length (range image start n) (length_range image start n ∙ none))

-- with the gate's byte torn, the disk is shut or formatted
pub opened_or_shut : (id : Identity) → IsBankSize id.bank → (images : Image → Type 0) → ((i : Image) → images i → IsLaidOut id i) → (image : Image) → Torn slot_a 1 images image
    → IsShut image ⊎ HoldsConfig image (formatted id)
opened_or_shut id size images laid image torn = elim (cases_eq (image slot_a) 0xA5) [
  | inl opened ↦ inr (opened_stands torn.before image id size (laid torn.before torn.was) torn.same opened)
  | inr shut ↦ inl (record { a = shut; b = λ opened. (laid torn.before torn.was).shut.b (sym (torn.same slot_b (inr (omega arith))) ∙ opened) })
]

pub opened_is : (id : Identity) (before : Image) → IsBankSize id.bank → IsLaidOut id before → HoldsConfig (overlay before slot_a (0xA5 ∷ [])) (formatted id)
opened_is id before size laid =
    opened_stands before (overlay before slot_a (0xA5 ∷ [])) id size laid (λ offset out. overlay_outside before slot_a (0xA5 ∷ []) offset out)
    (overlay_inside before slot_a (0xA5 ∷ []) 0 (omega arith))

-- what was there is there, whatever its gates
pub as_it_was : (images : Image → Type 0) (image : Image) → images image → GatesTorn images image
as_it_was images image was = record { before = image; was = was; same = λ offset not_a not_b. refl }
