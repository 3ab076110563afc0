-- What is sealed holds what was given, once the gate is open.
use Rattle.std.proofs.Common.{◌≡◌, ◌⊎◌, inl, inr, ℕ, ◌+◌, ◌<◌, ◌≤◌, ◌^◌, List, [], ◌∷◌, ◌++◌, length, map, sym, ◌∙◌, ap, ap₂, subst, arith, length-append}
use Rattle.std.specs.List.{All, concat, flat_map}
use Rattle.std.proofs.lemmas.List.{append-nil, nil_from_length}
use Rattle.byteorder.specs.Endian.{big_number}
use Rattle.field_grammar.specs.Grammar.{SpelledAtStart}
use Rattle.field_grammar.specs.Fields.{number_bytes}
use Rattle.field_grammar.proofs.NumberLemmas.{length_number_bytes}
use Rattle.disk_model.specs.Image.{Image, range, overlay}
use Rattle.disk_model.proofs.RangeLemmas.{same_range}
use Rattle.disk_model.proofs.OverlayLemmas.{overlay_inside, overlay_outside, overlay_joined, range_of_overlay, range_beside_overlay}
use Rattle.disk_layout.specs.Offsets.{slot_b, bank_at, layout_mark, number_at, longest_manifest}
use Rattle.disk_layout.specs.Slots.{IsOpen, IsSlot, IsActiveSlot, sequence_of, bank_of, manifest_offset_of, manifest_length_of}
use Rattle.disk_layout.proofs.SlotLemmas.{offset_is_slot, number_below}
use Rattle.disk_layout.proofs.SlotBodyLemmas.{body_length, says_sequence, says_bank, says_offset, says_length}
use Rattle.disk_layout.specs.Identity.{identity}
use Rattle.disk_layout.specs.Manifest.{manifest_fields}
use Rattle.disk_layout.proofs.ManifestSpelling.{manifest_spelling}
use Rattle.disk_layout.specs.Contents.{entries_of, bytes_of}
use Rattle.disk_layout.specs.Holds.{StandingView, HoldsBy, manifest_at, manifest_of}
use Rattle.disk_layout.specs.Slots.{other_slot}
use Rattle.disk_layout.specs.declared.manifest.Layout.TheVariants as layouts
use Rattle.bank_store.specs.Bounds.{IsFillingInRange}
use Rattle.disk_layout.specs.Slots.{other_bank}
use Rattle.bank_store.specs.Store.{active_slot, active_bank, active_sequence, IsFilling, work_at, head_bytes, manifest_length, slot_body, with_manifest, with_slot}
use Rattle.bank_store.specs.Given.{Given, GivenLoad, HasGiven, IsWholeLoad, Misses, bytes_given, configured, loads_of, load_of}
use Rattle.bank_store.specs.Fits.{HoldsFor}
use Rattle.bank_store.specs.declared.store.Store.{Store}
use Rattle.bank_store.specs.declared.stage.Stage.{Stage}
use Rattle.bank_store.specs.declared.stage.Stage.TheVariants as stages
use Rattle.bank_store.specs.declared.stage.Filling.{Filling}
use Rattle.bank_store.proofs.Footprint.{which_slot}
use Rattle.bank_store.proofs.Giving.{same_filling}
use Rattle.bank_store.proofs.Near.{other_low, slot_low, slots_apart}
use Rattle.bank_store.proofs.Sealing.{all_whole, same_contents, same_total, given_fit, manifest_bytes, headers_first}

other_is_slot : (slot : ℕ) → IsSlot slot → IsSlot (other_slot slot)
other_is_slot slot (inl e) = inr (omega (arith, e))
other_is_slot slot (inr e) = inl (omega (arith, e))

other_bank_less : (bank : ℕ) → bank < 2 → other_bank bank < 2
other_bank_less bank less = omega (arith, less)

pub head_length : (loads : ℕ) → length (head_bytes loads) ≡ 4
head_length loads = omega (arith, length-append (number_bytes 2 layout_mark) (number_bytes 2 loads), length_number_bytes 2 layout_mark, length_number_bytes 2 loads)

-- the manifest, the other slot's body and its gate, laid over an image
abbrev pub opened : Store → Filling → Image → Image
opened store progress image = overlay (with_slot store progress.end (manifest_length store) (with_manifest store progress image)) (other_slot (active_slot store)) (0xA5 ∷ [])

pub slot_body_length : (store : Store) (offset size : ℕ) → length (slot_body store offset size) ≡ 13
slot_body_length store offset size = body_length (active_sequence store + 1) (other_bank (active_bank store)) (record { offset = offset; length = size })

-- where they lie
pub record Lies (store : Store) (progress : Filling) : Type 0 where
  pub low : 4096 ≤ other_slot (active_slot store)
  pub high : other_slot (active_slot store) + 29 ≤ 8192
  pub work : 8192 ≤ work_at store
  pub fits : progress.end + manifest_length store ≤ store.size

module _ (store : Store) (progress : Filling) (image : Image) (lies : Lies store progress) where
  abbrev work : ℕ
  work = work_at store

  abbrev other : ℕ
  other = other_slot (active_slot store)

  abbrev text : List ℕ
  text = head_bytes progress.loads ++ store.body.items

  abbrev body : List ℕ
  body = slot_body store progress.end (manifest_length store)

  text_length : length text ≡ manifest_length store
  text_length = omega (arith, length-append (head_bytes progress.loads) store.body.items, head_length progress.loads)

  body_size : length body ≡ 13
  body_size = slot_body_length store progress.end (manifest_length store)

  joined : with_manifest store progress image ≡ overlay image (work + progress.end) text
  joined = overlay_joined image (work + progress.end) (work + progress.end + 4) (head_bytes progress.loads) store.body.items (omega (arith, head_length progress.loads))

  -- after the slots nothing but the manifest
  far_off : (at n : ℕ) → 8192 ≤ at → range (opened store progress image) at n ≡ range (overlay image (work + progress.end) text) at n
  far_off at n beyond =
      range_beside_overlay (with_slot store progress.end (manifest_length store) (with_manifest store progress image)) other (0xA5 ∷ []) at n (inr (omega (arith, lies.high, beyond)))
      ∙ range_beside_overlay (with_manifest store progress image) (other + 16) body at n (inr (omega (arith, lies.high, beyond, body_size)))
      ∙ ap (λ (i : Image). range i at n) joined

  pub contents_kept : range (opened store progress image) work progress.end ≡ range image work progress.end
  contents_kept = far_off work progress.end lies.work ∙ range_beside_overlay image (work + progress.end) text work progress.end (inl (omega arith))

  pub manifest_there : range (opened store progress image) (work + progress.end) (manifest_length store) ≡ text
  manifest_there =
      far_off (work + progress.end) (manifest_length store) (omega (arith, lies.work))
      ∙ range_of_overlay image (work + progress.end) (manifest_length store) text (sym text_length)

  pub slot_there : range (opened store progress image) (other + 16) 13 ≡ body
  slot_there =
      range_beside_overlay (with_slot store progress.end (manifest_length store) (with_manifest store progress image)) other (0xA5 ∷ []) (other + 16) 13 (inr (omega arith))
      ∙ range_of_overlay (with_manifest store progress image) (other + 16) 13 body (sym body_size)

  pub gate_there : IsOpen (opened store progress image) other
  gate_there =
      let here : other ≡ other + 0 = omega arith in
      ap (opened store progress image) here ∙ overlay_inside (with_slot store progress.end (manifest_length store) (with_manifest store progress image)) other (0xA5 ∷ []) 0 (omega arith)

  -- what lies before the banks and outside the other slot stays
  pub before_kept : (offset : ℕ) → offset < 8192 → (offset < other) ⊎ (other + 29 ≤ offset) → opened store progress image offset ≡ image offset
  before_kept offset early out =
      overlay_outside (with_slot store progress.end (manifest_length store) (with_manifest store progress image)) other (0xA5 ∷ []) offset (elim out [ inl b ↦ inl b | inr a ↦ inr (omega (arith, a)) ])
      ∙ overlay_outside (with_manifest store progress image) (other + 16) body offset (elim out [ inl b ↦ inl (omega (arith, b)) | inr a ↦ inr (omega (arith, a, body_size)) ])
      ∙ ap (λ (i : Image). i offset) joined
      ∙ overlay_outside image (work + progress.end) text offset (inl (omega (arith, early, lies.work)))

  pub sequence_there : (active_sequence store) < 4294967295 → sequence_of (opened store progress image) other ≡ (active_sequence store) + 1
  sequence_there goes_on =
      says_sequence (opened store progress image) other (active_sequence store + 1) (other_bank (active_bank store)) (record { offset = progress.end; length = manifest_length store }) slot_there (omega (arith, goes_on))

  pub bank_there : bank_of (opened store progress image) other ≡ other_bank (active_bank store)
  bank_there = says_bank (opened store progress image) other (active_sequence store + 1) (other_bank (active_bank store)) (record { offset = progress.end; length = manifest_length store }) slot_there

  pub offset_there : progress.end < 2 ^ 32 → manifest_offset_of (opened store progress image) other ≡ progress.end
  offset_there small =
      says_offset (opened store progress image) other (active_sequence store + 1) (other_bank (active_bank store)) (record { offset = progress.end; length = manifest_length store }) slot_there small

  pub length_there : manifest_length store < 2 ^ 32 → manifest_length_of (opened store progress image) other ≡ manifest_length store
  length_there small =
      says_length (opened store progress image) other (active_sequence store + 1) (other_bank (active_bank store)) (record { offset = progress.end; length = manifest_length store }) slot_there small

-- ---- and so it stands

long_enough : (store : Store) (progress : Filling) → IsFillingInRange store.size store.body progress → progress.missing ≡ 0 → manifest_length store ≤ longest_manifest
long_enough store progress is none = omega (arith, is.few, is.taken, none)

all_files_end : (store : Store) (image : Image) (progress : Filling) (g : Given) → IsFillingInRange store.size store.body progress → progress.missing ≡ 0 → IsFilling store progress → HasGiven store image g
    → bytes_given g ≡ bytes_of (flat_map (λ (l : GivenLoad). l.files) g.loads)
all_files_end store image progress g is none filling has =
    let same : has.progress ≡ progress = same_filling has.progress progress (sym has.stage ∙ filling) in
    let start : progress.start + length g.bytes ≡ progress.end = subst (λ (f : Filling). f.start + length g.bytes ≡ f.end) same has.start in
    let whole : progress.start ≡ progress.end = is.whole none in
    let nothing : length g.bytes ≡ 0 = omega (arith, start, whole) in
    ap (λ (l : List ℕ). bytes_of (flat_map (λ (l : GivenLoad). l.files) g.loads) ++ l) (nil_from_length g.bytes nothing) ∙ append-nil (bytes_of (flat_map (λ (l : GivenLoad). l.files) g.loads))

pub lies_of : (store : Store) (progress : Filling) → progress.end + manifest_length store ≤ store.size → Lies store progress
lies_of store progress fits =
    let is_slot = offset_is_slot store.active.slot in
    record { low = (other_low (active_slot store) is_slot).0; high = (other_low (active_slot store) is_slot).1; work = omega arith; fits = fits }

filling_not_idle : (progress : Filling) → ◌≡◌ {A = Stage} (stages.Filling progress) stages.Idle → ⊥
filling_not_idle progress e = cc

module _ (store : Store) (progress : Filling) (image : Image) (s : StandingView) (g : Given) (was : HoldsFor store image s) (has : HasGiven store image g)
    (filling : IsFilling store progress) (none : progress.missing ≡ 0) (fits : progress.end + manifest_length store ≤ store.size) where
  abbrev now : Image
  now = opened store progress image

  abbrev other_offset : ℕ
  other_offset = other_slot (active_slot store)

  abbrev lies : Lies store progress
  lies = lies_of store progress fits

  is_slot : IsSlot (active_slot store)
  is_slot = offset_is_slot store.active.slot

  in_range : IsFillingInRange store.size store.body progress
  in_range = store.keeps.in_range progress filling

  same_far : has.progress ≡ progress
  same_far = same_filling has.progress progress (sym has.stage ∙ filling)

  goes_on : (active_sequence store) < 4294967295
  goes_on = (store.keeps.begun (λ idle. filling_not_idle progress (sym filling ∙ idle))).goes_on

  slot_apart : (k : ℕ) → k < 29 → ((active_slot store) + k < other_offset) ⊎ (other_offset + 29 ≤ (active_slot store) + k)
  slot_apart k below = slots_apart (active_slot store) k is_slot below

  slot_kept : (k : ℕ) → k < 29 → now ((active_slot store) + k) ≡ image ((active_slot store) + k)
  slot_kept k below = before_kept store progress image lies ((active_slot store) + k) (omega (arith, below, (slot_low (active_slot store) is_slot).1)) (slot_apart k below)

  kept_sequence : sequence_of now (active_slot store) ≡ (active_sequence store)
  unfolding number_at
  kept_sequence =
      ap (big_number 4) (same_range now image ((active_slot store) + 16) 4 (λ k below.
      let there : (active_slot store) + 16 + k ≡ (active_slot store) + (16 + k) = omega arith in
      ap now there ∙ slot_kept (16 + k) (omega (arith, below)) ∙ ap image (sym there))) ∙ sym was.by.outline.sequence ∙ was.sequence

  new_sequence : sequence_of now other_offset ≡ (active_sequence store) + 1
  new_sequence = sequence_there store progress image lies goes_on

  new_is_active : IsActiveSlot now other_offset
  new_is_active = record {
    is_slot = other_is_slot (active_slot store) is_slot;
    gate = gate_there store progress image lies;
    greatest = λ slot is is_open. elim (which_slot (active_slot store) slot is_slot is) [
      | inl e ↦ subst (λ (n : ℕ). sequence_of now n ≤ sequence_of now other_offset) (sym e) (omega (arith, kept_sequence, new_sequence))
      | inr e ↦ subst (λ (n : ℕ). sequence_of now n ≤ sequence_of now other_offset) (sym e) (omega arith)
    ];
    tie = λ e a_open. elim is_slot [
      | inl a ↦ subst (λ (n : ℕ). sequence_of now n < sequence_of now slot_b) a (subst (λ (n : ℕ). sequence_of now (active_slot store) < sequence_of now n) e (omega (arith, kept_sequence, new_sequence)))
      | inr b ↦ absurd (omega (arith, e, b))
    ];
  }

  size_small : store.size ≤ 67108864
  size_small = store.keeps.is_size.1

  pub offset_is : manifest_offset_of now other_offset ≡ progress.end
  offset_is = offset_there store progress image lies (omega (arith, fits, size_small))

  pub length_is : manifest_length_of now other_offset ≡ manifest_length store
  length_is = length_there store progress image lies (omega (arith, fits, size_small))

  bank_is : bank_of now other_offset ≡ other_bank (active_bank store)
  bank_is = bank_there store progress image lies

  bank_at_work : bank_at s.identity.bank (other_bank s.bank) ≡ work_at store
  bank_at_work = ap₂ (λ (n : ℕ) (b : ℕ). bank_at n (other_bank b)) was.size was.bank

  pub whole : All (λ (l : GivenLoad). IsWholeLoad l) g.loads
  whole = all_whole g.loads (subst (λ (n : ℕ). Misses n g.loads) (ap (λ (f : Filling). f.missing) same_far ∙ none) has.missing)

  given : bytes_given g ≡ bytes_of (flat_map (λ (l : GivenLoad). l.files) g.loads)
  given = all_files_end store image progress g in_range none filling has

  ends : length (bytes_given g) ≡ progress.end
  ends = has.end ∙ ap (λ (f : Filling). f.end) same_far

  manifest_offset : manifest_at now s.identity other_offset ≡ work_at store + progress.end
  manifest_offset =
      ap₂ (λ (b : ℕ) (p : ℕ). bank_at s.identity.bank b + p) bank_is offset_is ∙ ap (λ (n : ℕ). bank_at n (other_bank (active_bank store)) + progress.end) was.size

  manifest_is : manifest_of now s.identity other_offset ≡ concat (manifest_fields layouts.Two (entries_of (map load_of g.loads)))
  manifest_is =
      ap₂ (λ (p : ℕ) (n : ℕ). range now p n) manifest_offset length_is ∙ manifest_there store progress image lies
      ∙ manifest_bytes g.loads progress.loads store.body.items whole (has.loads ∙ ap (λ (f : Filling). f.loads) same_far) has.body

  -- with its gate open the other slot holds what was given
  pub opened_stands : HoldsBy now other_offset (configured s (loads_of g))
  opened_stands = record {
    outline = record {
      has_active = record {
        identity = subst (λ (bytes : List ℕ). SpelledAtStart identity bytes s.identity)
            (sym (same_range now image 0 75 (λ k below. before_kept store progress image lies (0 + k) (omega (arith, below)) (inl (omega (arith, below, lies.low)))))) was.by.outline.has_active.identity;
        is_active = new_is_active;
      };
      can_be = record {
        is_bank = omega (arith, bank_is, other_bank_less (active_bank store) (number_below store.active.bank));
        short = omega (arith, length_is, long_enough store progress in_range none);
        within = omega (arith, offset_is, length_is, fits, was.size);
      };
      bank = ap other_bank was.bank ∙ sym bank_is;
      sequence = ap (λ (n : ℕ). n + 1) was.sequence ∙ sym new_sequence;
      manifest = (manifest_spelling (manifest_of now s.identity other_offset) (entries_of (map load_of g.loads))).1
          (layouts.Two, given_fit g.loads (omega (arith, has.loads, has.few)) has.each whole, manifest_is);
      lengths = same_total g.loads ∙ ap length (sym given) ∙ ends ∙ sym offset_is;
    };
    headers = headers_first g.loads;
    contents = same_contents g.loads ∙ sym given ∙ sym has.written ∙ ap (λ (f : Filling). range image (work_at store) f.end) same_far ∙ sym (contents_kept store progress image lies)
        ∙ ap₂ (λ (p : ℕ) (n : ℕ). range now p n) (sym bank_at_work) (sym offset_is);
  }
