-- A disk whose power can be lost, over a steady disk (docs/DISK.md).
use Rattle.std.specs.Prelude.{◌≡◌, ◌⊎◌, ℕ, ◌+◌, ◌-◌, ◌*◌, ◌%◌, ◌^◌, ◌≤◌, Bool, true, false, List, length, slice_index, Some, Result, Err, OnOk, IsErrOf, is_err, refl}
use Rattle.std.specs.Option.{ForSome}
use Rattle.std.specs.Coded.{Coded, code_by, coded×, coded_ℕ, coded_bool, coded_list}
use Rattle.load_base.specs.Counts.{Rose}
use Rattle.disk_model.specs.Image.{overlay}
use Rattle.disk_model.specs.State.{DiskState, Closed, Torn, Elapses, HasCause}
use Rattle.disk_model.specs.declared.disk.DiskFault.{DiskFault}
use Rattle.disk_model.specs.declared.disk.DiskFault.TheVariants.{Failed}
use Rattle.disk_model.specs.declared.disk.TheConstants.{SIZE}

-- What a contract sees of one: the disk below; the unsynced ranges by their offsets and lengths, and how many they are;
-- whether it is stopped, whether by a power loss that did its damage not yet, and the number that chooses this; how many
-- calls are left to a loss, where one is armed; the last arming; and how often power was lost or armed.
pub record FusedOf (K : Type 0) : Type 0 where
  pub inner : K
  pub offsets : List ℕ
  pub lengths : List ℕ
  pub count : ℕ
  pub stopped : Bool
  pub lost : Bool
  pub choice : ℕ
  pub left : ℕ
  pub calls : ℕ
  pub pick : ℕ
  pub losses : ℕ
  pub armings : ℕ

abbrev pub fused_code : {K : Type 0} → Coded K → Coded (FusedOf K)
fused_code {K} code =
    code_by (K × (List ℕ × (List ℕ × (ℕ × (Bool × (Bool × (ℕ × (ℕ × (ℕ × (ℕ × (ℕ × ℕ)))))))))))
    (coded× code (coded× (coded_list coded_ℕ) (coded× (coded_list coded_ℕ) (coded× coded_ℕ (coded× coded_bool (coded× coded_bool
    (coded× coded_ℕ (coded× coded_ℕ (coded× coded_ℕ (coded× coded_ℕ (coded× coded_ℕ coded_ℕ)))))))))))
    (λ f. (f.inner, (f.offsets, (f.lengths, (f.count, (f.stopped, (f.lost, (f.choice, (f.left, (f.calls, (f.pick, (f.losses, f.armings))))))))))))
    (λ p. record {
      inner = p.0;
      offsets = p.1.0;
      lengths = p.1.1.0;
      count = p.1.1.1.0;
      stopped = p.1.1.1.1.0;
      lost = p.1.1.1.1.1.0;
      choice = p.1.1.1.1.1.1.0;
      left = p.1.1.1.1.1.1.1.0;
      calls = p.1.1.1.1.1.1.1.1.0;
      pick = p.1.1.1.1.1.1.1.1.1.0;
      losses = p.1.1.1.1.1.1.1.1.1.1.0;
      armings = p.1.1.1.1.1.1.1.1.1.1.1;
    })
    (λ _. refl)

-- ranges that lie on the disk and may hold anything after a power loss
pub record AreUnsynced (disk : DiskState) (offsets lengths : List ℕ) : Type 0 where
  pub within : (k : ℕ) → slice_index offsets k + slice_index lengths k ≤ SIZE
  pub closed : (k : ℕ) → Closed disk (slice_index offsets k) (slice_index lengths k)

-- The disk below is steady, and runs where this one does, or where power was lost and did its damage not yet.
pub record IsFused (disk : DiskState) (offsets lengths : List ℕ) (count : ℕ) (stopped lost : Bool) : Type 0 where
  pub steady : disk.steady ≡ true
  pub ranges : AreUnsynced disk offsets lengths
  pub counted : count ≤ 16
  pub runs : stopped ≡ false → disk.stopped ≡ false
  pub waits : lost ≡ true → disk.stopped ≡ false
  pub halts : lost ≡ true → stopped ≡ true

-- what contracts see of one: the disk below, whose losses count as faults, but for where it is stopped and what was armed
abbrev pub state_of : {K : Type 0} → (K → DiskState) → FusedOf K → DiskState
state_of state disk = record {
  reads = (state disk.inner).reads;
  now = (state disk.inner).now;
  between = (state disk.inner).between;
  clock = (state disk.inner).clock;
  faults = (state disk.inner).faults + disk.losses;
  refusals = (state disk.inner).refusals;
  stopped = disk.stopped;
  steady = false;
  armings = disk.armings;
  armed = (disk.calls, disk.pick);
}

-- time may go on, also by nothing, and no image comes
abbrev pub MayElapse : DiskState → DiskState → Type 0
MayElapse old new = Elapses {T = Unit {0}} old new old.now (Err Failed)

-- ranges are spoiled that may hold anything anyway
pub record Spoils {T : Type 0} (old new : DiskState) (result : Result T DiskFault) : Type 0 where
  pub closed : (at n : ℕ) → Closed old at n → Closed new at n
  pub no_image : MayElapse old new
  pub cause : HasCause old new result

-- the armings, and the last of these, stay
pub record KeepsArmings {K : Type 0} (old new : FusedOf K) : Type 0 where
  pub armings : new.armings ≡ old.armings
  pub calls : new.calls ≡ old.calls
  pub pick : new.pick ≡ old.pick

-- power was lost once more, as far as the count goes
pub record RoseOnce (before now : ℕ) : Type 0 where
  pub rose : Rose before now
  pub later : before ≤ now
  pub once : now ≤ before + 1

-- these stay, and power wasn't lost
pub record KeepsLosses {K : Type 0} (old new : FusedOf K) : Type 0 where
  pub losses : new.losses ≡ old.losses
  pub left : new.left ≡ old.left
  pub armed : KeepsArmings old new

-- A call of the disk is one fewer to the loss that is armed. It comes at the last of them, which fails; and a call that
-- failed is that one, or a call of the disk below failed in it.
pub record CountsDown {K T : Type 0} (state : K → DiskState) (old new : FusedOf K) (result : Result T DiskFault) : Type 0 where
  pub left : new.left ≡ old.left - 1
  pub lost : old.left ≡ 1 → is_err result ≡ true
  pub only : IsErrOf result Failed → (old.left ≡ 1) ⊎ Rose (state old.inner).faults (state new.inner).faults

-- Bytes are written below: with Ok they are read, and may hold anything after a power loss until a sync; power isn't lost.
pub record WritesRange {K : Type 0} (state : K → DiskState) (at : ℕ) (bytes : List ℕ) (old new : FusedOf K) (result : Result Unit DiskFault) : Type 0 where
  pub written : OnOk result (ForSome (state old.inner).reads (λ image. (state new.inner).reads ≡ Some (overlay image at bytes)))
  pub torn : OnOk result (Closed (state new.inner) at (length bytes))
  pub elapses : Elapses (state old.inner) (state new.inner) (Torn at (length bytes) (state old.inner).now) result
  pub cause : HasCause (state old.inner) (state new.inner) result
  pub stopped : new.stopped ≡ is_err result
  pub keeps : KeepsLosses old new

-- the generator's number after this one; its byte is the number divided by 2 ^ 24
unfoldable pub generator_after : ℕ → ℕ
generator_after number = (1664525 * number + 1013904223) % 2 ^ 32
