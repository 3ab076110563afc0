-- What a rollback writes, call after call of the store.
use Rattle.std.proofs.Common.{◌≡◌, inl, inr, ℕ, ◌+◌, ◌≤◌, Bool, true, false, if◌then◌else◌, List, [], ◌∷◌, Option, Some, None, Ok, refl, sym, ◌∙◌, ap, ap₂, subst, arith}
use Rattle.std.specs.Prelude.{is_some}
use Rattle.field_grammar.specs.Grammar.{Spelled}
use Rattle.load_base.specs.Config.{LoadView}
use Rattle.disk_model.specs.Image.{Image, overlay, range}
use Rattle.disk_model.proofs.OverlayLemmas.{range_beside_overlay}
use Rattle.disk_model.specs.State.{DiskState}
use Rattle.disk_layout.specs.Contents.{entries_of}
use Rattle.disk_layout.specs.Holds.{HoldsConfig, StandingView}
use Rattle.disk_layout.specs.Manifest.{manifest}
use Rattle.disk_layout.specs.Offsets.{bank_at}
use Rattle.disk_layout.proofs.SlotLemmas.{offset_is_slot}
use Rattle.disk_layout.specs.Slots.{IsSlot, bank_number, other_bank, other_slot}
use Rattle.disk_layout.specs.declared.active.Active.{Active}
use Rattle.bank_store.specs.DiskWrites.{AddsOnly}
use Rattle.bank_store.specs.Fits.{CanActivate, InstallsBeside}
use Rattle.bank_store.specs.Keeps.{Begins, IsOldOrNew, Keeps}
use Rattle.bank_store.specs.Readopting.{HasLoadsAt, Readopts}
use Rattle.bank_store.specs.Store.{SameActive, active_slot, with_gate_shut, with_slot, work_at}
use Rattle.bank_store.specs.declared.store.Store.{Store}

-- ---- images

same_image : (a b : Image) → ◌≡◌ {A = Option Image} (Some a) (Some b) → a ≡ b
same_image a b e = cc

-- where a disk tells its content after calls, it did before
pub told_before : (old new : Option Image) (image : Image) → is_some new ≡ is_some old → new ≡ Some image → (before : Image) × (old ≡ Some before)
told_before (Some before) new image tells told = (before, refl)
told_before None new image tells told = absurd (let there : is_some new ≡ true = ap is_some told in let both : true ≡ false = sym there ∙ tells in cc)

low : (slot : ℕ) → IsSlot slot → other_slot slot + 1 ≤ 8192
low slot (inl e) = omega (arith, e)
low slot (inr e) = omega (arith, e)

gate_apart : (opened : Bool) (image : Image) (slot at n : ℕ) → slot + 1 ≤ 8192 → 8192 ≤ at → range (if opened then overlay image slot (0 ∷ []) else image) at n ≡ range image at n
gate_apart true image slot at n early beyond = range_beside_overlay image slot (0 ∷ []) at n (inr (omega (arith, early, beyond)))
gate_apart false image slot at n early beyond = refl

same_work : (old new : Store) → SameActive old new → work_at new ≡ work_at old
same_work old new same = ap₂ (λ (n : ℕ) (a : Active). bank_at n (other_bank (bank_number a.bank))) same.size same.active

-- the loads stand there as before, once the other slot is shut
pub loads_stay : (old new : Store) (place size : ℕ) (image : Image) (loads : List LoadView) → SameActive old new → HasLoadsAt old image place size loads → HasLoadsAt new (with_gate_shut old image) place size loads
loads_stay old new place size image loads same has =
    let work = same_work old new same in
    let stays : (at n : ℕ) → 8192 ≤ at → range (with_gate_shut old image) at n ≡ range image at n =
    λ at n beyond. gate_apart old.other_is_open image (other_slot (active_slot old)) at n (low (active_slot old) (offset_is_slot old.active.slot)) beyond in
    record {
      short = has.short;
      within = let within = has.within in omega (arith, within, same.size);
      manifest = subst (λ (bytes : List ℕ). Spelled manifest bytes (entries_of loads)) (sym (stays (work_at new + place) size (omega arith) ∙ ap (λ (n : ℕ). range image (n + place) size) work)) has.manifest;
      lengths = has.lengths;
      headers = has.headers;
      contents = has.contents ∙ sym (stays (work_at new) place (omega arith) ∙ ap (λ (n : ℕ). range image n place) work);
    }

-- ---- what may be left

-- images of which more is known have the less
adds_less : (old new : DiskState) (P Q : Image → Type 0) → ((image : Image) → P image → Q image) → AddsOnly old new P → AddsOnly old new Q
adds_less old new P Q less adds = record {
  each = λ t u image might. elim (adds.each t u image might) [ inl before ↦ inl before | inr is ↦ inr (less image is) ];
  here = λ image may. less image (adds.here image may);
}

-- over calls after others
pub adds_then : (a b c : DiskState) (P : Image → Type 0) → AddsOnly a b P → AddsOnly b c P → AddsOnly a c P
adds_then a b c P first second = record {
  each = λ t u image might. elim (second.each t u image might) [ inl before ↦ first.each t u image before | inr is ↦ inr is ];
  here = second.here;
}

-- what holds what was active is one of the two
pub adds_active : (old new : DiskState) (s next : StandingView) → AddsOnly old new (λ left. HoldsConfig left s) → AddsOnly old new (IsOldOrNew s next)
adds_active old new s next adds = adds_less old new (λ left. HoldsConfig left s) (IsOldOrNew s next) (λ left is. inl is) adds

-- ---- the calls

-- beside the same configuration once the other slot is shut
pub begun_beside : (before after : Store) (old new : DiskState) (s : StandingView) → Begins before after old new → Keeps {T = Unit {0}} before after old new (Ok tt) → (beside : InstallsBeside before old s)
    → (begun : InstallsBeside after new s) × (begun.image ≡ with_gate_shut before beside.image)
begun_beside before after old new s begins keeps beside =
    let told = begins.written beside.image beside.told in
    let on = keeps.answered tt in (
      record {
        works = on.works beside.works;
        image = with_gate_shut before beside.image;
        told = told;
        holds = on.holds beside.image beside.told (with_gate_shut before beside.image) told s beside.holds;
      },
      refl,
    )

-- and once the other slot names the manifest: its gate is all that is missing
pub can_open : (before after : Store) (old new : DiskState) (place size : ℕ) (s : StandingView) (loads : List LoadView) → Readopts before after old new place size → Keeps {T = Unit {0}} before after old new (Ok tt)
    → (beside : InstallsBeside before old s) → HasLoadsAt before beside.image place size loads → CanActivate after new s loads
can_open before after old new place size s loads readopts keeps beside has =
    let told = readopts.written beside.image beside.told in
    let on = keeps.answered tt in
    let now = with_slot before place size beside.image in
    record {
      beside = record {
        works = on.works beside.works;
        image = now;
        told = told;
        holds = on.holds beside.image beside.told now told s beside.holds;
      };
      ready = readopts.ready beside.image beside.told now told s loads beside.holds has;
    }
