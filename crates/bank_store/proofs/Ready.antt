-- What sealing leaves.
use Rattle.std.proofs.Common.{◌≡◌, ℕ, ◌+◌, ◌≤◌, [], ◌∷◌, length, false, sym, ap₂, ◌∙◌, subst, arith}
use Rattle.disk_model.specs.Image.{Image, overlay}
use Rattle.disk_layout.specs.Holds.{StandingView, HoldsBy}
use Rattle.disk_layout.specs.Slots.{other_slot, manifest_offset_of, manifest_length_of}
use Rattle.disk_layout.specs.declared.active.ManifestRange.{ManifestRange}
use Rattle.bank_store.specs.Store.{active_slot, IsFilling, IsSealedAt, with_gate_open, SameActive, work_at, head_bytes, manifest_length, with_manifest, with_slot}
use Rattle.bank_store.specs.Given.{Given, HasGiven, configured, loads_of}
use Rattle.bank_store.specs.Fits.{HoldsFor, SameButForWork, IsReady, HoldsAt, HasWork}
use Rattle.bank_store.specs.declared.store.Store.{Store}
use Rattle.bank_store.specs.declared.stage.Stage.{Stage}
use Rattle.bank_store.specs.declared.stage.Filling.{Filling}
use Rattle.bank_store.proofs.Carried.{same_slot, stands_carried}
use Rattle.bank_store.proofs.Near.{near_on, near_stands}
use Rattle.bank_store.proofs.Opened.{head_length, slot_body_length, opened_stands, offset_is, length_is, whole}
use Rattle.bank_store.proofs.Sealing.{body_bytes}
use Rattle.bank_store.proofs.Working.{bank_is_work, slot_is_work, near_overlay}

-- the image as it is sealed
abbrev pub sealed_image : Store → Filling → Image → Image
sealed_image store progress image = with_slot store progress.end (manifest_length store) (with_manifest store progress image)

pub near_sealed : (store : Store) (progress : Filling) (image : Image) → store.other_is_open ≡ false → progress.end + manifest_length store ≤ store.size → SameButForWork store image (sealed_image store progress image)
near_sealed store progress image shut fits =
    let at = work_at store + progress.end in
    let first : Image = overlay image at (head_bytes progress.loads) in
    let second : Image = with_manifest store progress image in
    let count : length (head_bytes progress.loads) ≡ 4 = head_length progress.loads in
    let slot = slot_body_length store progress.end (manifest_length store) in
    near_on store image second (sealed_image store progress image)
    (near_on store image first second
    (near_overlay store image at (head_bytes progress.loads) (bank_is_work store at _ (omega arith) (omega (arith, count, fits))))
    (near_overlay store first (at + 4) store.body.items (bank_is_work store (at + 4) _ (omega arith) (omega (arith, fits)))))
    (near_overlay store second (other_slot (active_slot store) + 16) _ (slot_is_work store (other_slot (active_slot store) + 16) _ shut (omega arith) (omega (arith, slot))))

pub stands_sealed : (old new : Store) (progress : Filling) (image now : Image) (s : StandingView) → SameActive old new → new.other_is_open ≡ old.other_is_open → old.other_is_open ≡ false
    → progress.end + manifest_length old ≤ old.size → now ≡ sealed_image old progress image → HoldsFor old image s → HoldsFor new now s
stands_sealed old new progress image now s rules gate shut fits is was =
    stands_carried old new rules gate now s (near_stands old image now s was (subst (λ (i : Image). SameButForWork old image i) (sym is) (near_sealed old progress image shut fits)))

pub is_ready : (old new : Store) (progress : Filling) (image now : Image) (s : StandingView) (g : Given) (manifest : ManifestRange) → SameActive old new → new.body.items ≡ old.body.items → IsSealedAt new manifest → manifest.offset ≡ progress.end
    → manifest.length ≡ manifest_length old → IsFilling old progress
    → progress.missing ≡ 0 → progress.end + manifest_length old ≤ old.size → now ≡ sealed_image old progress image → HoldsFor old image s → HasGiven old image g → IsReady new now s (loads_of g)
is_ready old new progress image now s g manifest rules body sealed offset length filling none fits is was has =
    let opened = opens_by old new (sealed_image old progress image) now rules is in
    let slot = sym (same_slot rules) in
    record {
      manifest = manifest;
      stage = sealed;
      opens = subst (λ (i : Image). HoldsBy i (other_slot (active_slot new)) (configured s (loads_of g))) opened
          (subst (λ (n : ℕ). HoldsBy (with_gate_open old (sealed_image old progress image)) (other_slot n) (configured s (loads_of g))) slot (opened_stands old progress image s g was has filling none fits));
      offset = ap₂ (λ (i : Image) (n : ℕ). manifest_offset_of i (other_slot n)) (sym opened) (sym slot) ∙ offset_is old progress image s g was has filling none fits ∙ sym offset;
      length = ap₂ (λ (i : Image) (n : ℕ). manifest_length_of i (other_slot n)) (sym opened) (sym slot) ∙ length_is old progress image s g was has filling none fits ∙ sym length;
      known = body ∙ has.body ∙ body_bytes g.loads (omega (arith, has.loads, has.few)) has.each (whole old progress image s g was has filling none fits);
    }
  where
    opens_by : (old new : Store) (image now : Image) → SameActive old new → now ≡ image → with_gate_open old image ≡ with_gate_open new now
    opens_by old new image now same is = ap₂ (λ (i : Image) (slot : ℕ). overlay i (other_slot slot) (0xA5 ∷ [])) (sym is) (sym (same_slot same))

pub sealed_work : (store : Store) (image : Image) (manifest : ManifestRange) (s : StandingView) (g : Given) → IsSealedAt store manifest → HoldsFor store image s → IsReady store image s (loads_of g) → HasWork store image
sealed_work store image manifest s g sealed was ready = subst (λ (stage : Stage). HoldsAt store image stage) (sym sealed) (s, loads_of g, was, ready)
