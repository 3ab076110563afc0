-- What is copied piece by piece from the active bank to the other.
use Rattle.std.proofs.Common.{◌≡◌, ◌⊎◌, inl, inr, ℕ, zero, suc, ◌+◌, ◌-◌, ◌<◌, ◌≤◌, List, length, Some, refl, sym, ◌∙◌, ap, arith}
use Rattle.std.specs.Option.{ForSome}
use Rattle.disk_model.specs.Image.{overlay, range}
use Rattle.disk_model.proofs.OverlayLemmas.{overlay_joined, overlay_nothing, range_beside_overlay}
use Rattle.disk_model.proofs.RangeLemmas.{length_range}
use Rattle.disk_model.specs.State.{DiskState, KeepsCounts}
use Rattle.disk_layout.specs.Offsets.{bank_at}
use Rattle.disk_layout.proofs.RangeLemmas.{ranges_joined}
use Rattle.disk_layout.proofs.SlotLemmas.{number_below}
use Rattle.bank_store.specs.DiskWrites.{IsRunning, TimeGoesOn}
use Rattle.bank_store.specs.Fits.{SameButForWork}
use Rattle.bank_store.specs.Keeps.{KeepsNear}
use Rattle.bank_store.specs.Store.{active_at, active_bank, work_at}
use Rattle.bank_store.specs.declared.store.Store.{Store}
use Rattle.bank_store.proofs.Moments.{adds_none}
use Rattle.bank_store.proofs.Working.{near_then}
use Rattle.bank_store.proofs.Written.{told_as}

-- the two banks don't meet
banks_apart : (size bank : ℕ) → bank < 2 → (bank_at size bank + size ≤ bank_at size (1 - bank)) ⊎ (bank_at size (1 - bank) + size ≤ bank_at size bank)
banks_apart size zero one = inl (omega arith)
banks_apart size (suc zero) one = inr (omega arith)
banks_apart size (suc (suc bank)) one = absurd (omega arith)

-- a range of the active bank, and one of the other
pub record BetweenBanks (store : Store) (from to count : ℕ) : Type 0 where
  pub from_low : active_at store ≤ from
  pub from_high : from + count ≤ active_at store + store.size
  pub to_low : work_at store ≤ to
  pub to_high : to + count ≤ work_at store + store.size

apart : (store : Store) (from to count done n : ℕ) → BetweenBanks store from to count → done + n ≤ count → (from + done + n ≤ to) ⊎ (to + done ≤ from + done)
apart store from to count done n between within = elim (banks_apart store.size (active_bank store) (number_below store.active.bank)) [
  | inl before ↦ inl (omega (arith, before, within, between.from_high, between.to_low))
  | inr behind ↦ inr (omega (arith, behind, within, between.to_high, between.from_low))
]

-- So many bytes are copied: what is read is the start's image with them laid over it.
pub record Copied (store : Store) (old now : DiskState) (from to done : ℕ) : Type 0 where
  pub goes_on : TimeGoesOn old now
  pub counts : KeepsCounts old now
  pub running : IsRunning now
  pub near : KeepsNear store old now
  pub bytes : ForSome old.reads (λ image. now.reads ≡ Some (overlay image to (range image from done)))

pub near_joined : (store : Store) (old mid new : DiskState) → KeepsNear store old mid → KeepsNear store mid new → KeepsNear store old new
near_joined store old mid new first second image was = near_then store old mid new image (first image was) second

pub nothing_near : (store : Store) (disk : DiskState) → KeepsNear store disk disk
nothing_near store disk image was = adds_none disk (SameButForWork store image) was

pub nothing_copied : (disk : DiskState) (from to : ℕ) → ForSome disk.reads (λ image. disk.reads ≡ Some (overlay image to (range image from 0)))
unfolding range
nothing_copied disk from to image told = told ∙ ap told_as (sym (overlay_nothing image to))

-- a piece more
pub more_copied : (store : Store) (old mid new : DiskState) (from to count done m n : ℕ) → BetweenBanks store from to count → done + n ≤ count → m ≡ n
    → ForSome old.reads (λ image. mid.reads ≡ Some (overlay image to (range image from done)))
    → ForSome mid.reads (λ image. new.reads ≡ Some (overlay image (to + done) (range image (from + done) m)))
    → ForSome old.reads (λ image. new.reads ≡ Some (overlay image to (range image from (done + n))))
more_copied store old mid new from to count done m n between within same first second image told =
    let bytes = range image from done in
    let size : length bytes ≡ done = length_range image from done in
    let kept : range (overlay image to bytes) (from + done) n ≡ range image (from + done) n =
    range_beside_overlay image to bytes (from + done) n (elim (apart store from to count done n between within) [ inl low ↦ inl low | inr high ↦ inr (omega (arith, high, size)) ]) in
    second (overlay image to bytes) (first image told)
    ∙ ap (λ (l : List ℕ). told_as (overlay (overlay image to bytes) (to + done) l)) (ap (λ (k : ℕ). range (overlay image to bytes) (from + done) k) same ∙ kept)
    ∙ ap told_as (overlay_joined image to (to + done) bytes (range image (from + done) n) (omega (arith, size)))
    ∙ ap (λ (l : List ℕ). told_as (overlay image to l)) (ranges_joined image from done (from + done) n refl)
