-- What a power loss may leave, call after call.
use Rattle.std.proofs.Common.{◌≡◌, inl, inr, ℕ, ◌+◌, ◌<◌, ◌≤◌, sym, ◌∙◌, subst, arith, Result, Ok, Err, OnOk}
use Rattle.std.specs.Prelude.{◌⊎◌}
use Rattle.disk_model.specs.Image.{Image, SameOutside, range, overlay}
use Rattle.disk_model.specs.State.{DiskState, IsSettled, Closed, KeepsPower, OnlyReads, Torn, Elapses}
use Rattle.disk_model.specs.Moments.{LeavesOnly}
use Rattle.disk_model.specs.declared.disk.DiskFault.{DiskFault}
use Rattle.disk_model.proofs.OverlayLemmas.{offset_cases, laid_inside, laid_outside}

-- at the start of a call; `only` is the law `only_now`
pub started : (disk : DiskState) (P : Image → Type 0) → ((t u : ℕ) (image : Image) → disk.clock ≤ t → disk.between t u image → disk.now image)
    → ((image : Image) → disk.now image → P image) → LeavesOnly disk.clock P disk
started disk P only here = record { each = λ u image was. here image (only disk.clock u image (omega arith) was); here = here }

-- over a write, a sync or a restart
pub goes_on : {T : Type 0} (since : ℕ) (P : Image → Type 0) (old new : DiskState) (inside : Image → Type 0) (result : Result T DiskFault)
    → LeavesOnly since P old → Elapses old new inside result → ((image : Image) → inside image → P image) → LeavesOnly since P new
goes_on since P old new inside result was elapses each_inside = record {
  each = λ u image may. elim (elapses.adds since u image may) [ inl before ↦ was.each u image before | inr within ↦ each_inside image within ];
  here = λ image may. each_inside image (elapses.now image may);
}

-- over a write, where the range that is written decides nothing
pub write_goes_on : {T : Type 0} (since : ℕ) (P : Image → Type 0) (old new : DiskState) (at n : ℕ) (result : Result T DiskFault)
    → LeavesOnly since P old → Elapses old new (Torn at n old.now) result → ((before after : Image) → P before → SameOutside at n before after → P after) → LeavesOnly since P new
write_goes_on since P old new at n result was elapses any =
    goes_on since P old new (Torn at n old.now) result was elapses (λ image torn. any torn.before image (was.here torn.before torn.was) torn.same)

-- over a sync or a restart
pub sync_goes_on : {T : Type 0} (since : ℕ) (P : Image → Type 0) (old new : DiskState) (result : Result T DiskFault)
    → LeavesOnly since P old → Elapses old new old.now result → LeavesOnly since P new
sync_goes_on since P old new result was elapses = goes_on since P old new old.now result was elapses was.here

-- over a read
pub read_goes_on : (since : ℕ) (P : Image → Type 0) (old new : DiskState) → LeavesOnly since P old → OnlyReads old new → LeavesOnly since P new
read_goes_on since P old new was reads = record {
  each = λ u image may. was.each u image (reads.between since u image may);
  here = λ image may. was.here image (reads.now image may);
}

-- images of which more is known have the less
pub leaves_more : (since : ℕ) (P Q : Image → Type 0) (disk : DiskState) → ((image : Image) → P image → Q image) → LeavesOnly since P disk → LeavesOnly since Q disk
leaves_more since P Q disk more was = record { each = λ u image may. more image (was.each u image may); here = λ image may. more image (was.here image may) }

-- two calls change nothing of the power where neither does
pub power_kept : (a b c : DiskState) → KeepsPower a b → KeepsPower b c → KeepsPower a c
power_kept a b c first second = record {
  steady = second.steady ∙ first.steady;
  armings = second.armings ∙ first.armings;
  armed = second.armed ∙ first.armed;
}

-- two runs of reads are one
pub reads_joined : (a b c : DiskState) → OnlyReads a b → OnlyReads b c → OnlyReads a c
reads_joined a b c first second = record {
  tells = second.tells ∙ first.tells;
  power = power_kept a b c first.power second.power;
  faults = omega (arith, first.faults, second.faults);
  refusals = omega (arith, first.refusals, second.refusals);
  clock = second.clock ∙ first.clock;
  now = λ image may. first.now image (second.now image may);
  between = λ t u image may. first.between t u image (second.between t u image may);
  keeps = λ t u image may. second.keeps t u image (first.keeps t u image may);
  closed = λ is at n closed. second.closed (first.power.steady ∙ is) at n (first.closed is at n closed);
}

on_ok_later : {T : Type 0} (a b c : ℕ) (result : Result T DiskFault) → a ≤ b → OnOk result (b < c) → OnOk result (a < c)
on_ok_later a b c (Ok x) earlier later = omega (arith, earlier, later)
on_ok_later a b c (Err e) earlier later = tt

-- Two calls are one, where what a power loss inside the second may leave is what it may leave inside both. The first
-- has gone on by itself.
pub elapses_joined : {S T : Type 0} (a b c : DiskState) (first second both : Image → Type 0) (one : Result S DiskFault) (other : Result T DiskFault)
    → Elapses a b first one → Elapses b c second other → ((image : Image) → first image → both image) → ((image : Image) → second image → both image) → Elapses a c both other
elapses_joined a b c first second both one other earlier later in_first in_second = record {
  tells = later.tells ∙ earlier.tells;
  power = power_kept a b c earlier.power later.power;
  faults = omega (arith, earlier.faults, later.faults);
  refusals = omega (arith, earlier.refusals, later.refusals);
  later = omega (arith, earlier.later, later.later);
  goes_on = on_ok_later a.clock b.clock c.clock other earlier.later later.goes_on;
  now = λ image may. in_second image (later.now image may);
  keeps = λ t u image may. later.keeps t u image (earlier.keeps t u image may);
  adds = λ t u image may. elim (later.adds t u image may) [
    | inl before ↦ elim (earlier.adds t u image before) [ inl long_before ↦ inl long_before | inr within ↦ inr (in_first image within) ]
    | inr within ↦ inr (in_second image within)
  ];
  earlier = λ t u image early may. earlier.earlier t u image early (later.earlier t u image (omega (arith, early, earlier.later)) may);
}

-- what may be left inside is among more
pub elapses_more : {T : Type 0} (old new : DiskState) (inside more : Image → Type 0) (result : Result T DiskFault)
    → Elapses old new inside result → ((image : Image) → inside image → more image) → Elapses old new more result
elapses_more old new inside more result elapses within = record {
  tells = elapses.tells;
  power = elapses.power;
  faults = elapses.faults;
  refusals = elapses.refusals;
  later = elapses.later;
  goes_on = elapses.goes_on;
  now = λ image may. within image (elapses.now image may);
  keeps = elapses.keeps;
  adds = λ t u image may. elim (elapses.adds t u image may) [ inl before ↦ inl before | inr is ↦ inr (within image is) ];
  earlier = elapses.earlier;
}

-- in a closed range nothing new comes by tearing
pub torn_closed : (disk : DiskState) (at n : ℕ) → Closed disk at n → (image : Image) → Torn at n disk.now image → disk.now image
torn_closed disk at n closed image torn = closed.each torn.before image torn.was torn.same

-- a write into a closed range adds no image
pub closed_goes_on : {T : Type 0} (old new : DiskState) (at n : ℕ) (result : Result T DiskFault)
    → Closed old at n → Elapses old new (Torn at n old.now) result → Elapses old new old.now result
closed_goes_on old new at n result closed elapses = elapses_more old new (Torn at n old.now) old.now result elapses (torn_closed old at n closed)

-- where nothing differs, tearing leaves what was there
pub torn_nowhere : (at : ℕ) (images : Image → Type 0) (image : Image) → Torn at 0 images image → images image
torn_nowhere at images image torn = subst images (λ i offset. same offset i) torn.was
  where
    same : (offset : ℕ) → torn.before offset ≡ image offset
    same offset = elim (offset_cases at 0 offset) [ inl out ↦ sym (torn.same offset out) | inr within ↦ absurd (omega (arith, within.1)) ]

-- a range of no bytes is closed
pub closed_nowhere : (disk : DiskState) (at : ℕ) → Closed disk at 0
closed_nowhere disk at = record { each = λ old new may same. torn_nowhere at disk.now new (record { before = old; was = may; same = same }) }

apart_of_both : (at n next m offset : ℕ) → next ≡ at + n → (offset < at) ⊎ (at + n ≤ offset) → (offset < next) ⊎ (next + m ≤ offset) → (offset < at) ⊎ (at + (n + m) ≤ offset)
apart_of_both at n next m offset follows (inl before) out = inl before
apart_of_both at n next m offset follows (inr after) (inl early) = absurd (omega (arith, follows, after, early))
apart_of_both at n next m offset follows (inr after) (inr late) = inr (omega (arith, follows, late))

-- two closed ranges, of which the second begins where the first ends, are one
pub closed_joined : (disk : DiskState) (at n next m : ℕ) → next ≡ at + n → Closed disk at n → Closed disk next m → Closed disk at (n + m)
closed_joined disk at n next m follows first second = record {
  each = λ old new may same.
      let rest : SameOutside next m (overlay old at (range new at n)) new = λ offset out. elim (offset_cases at n offset) [
        | inl apart ↦ same offset (apart_of_both at n next m offset follows apart out) ∙ sym (laid_outside old new at n offset apart)
        | inr within ↦ sym (laid_inside old new at n offset within.0 within.1)
      ] in
      second.each (overlay old at (range new at n)) new (first.each old (overlay old at (range new at n)) may (laid_outside old new at n)) rest;
}

-- a part of a closed range is closed
pub closed_within : (disk : DiskState) (at n from m : ℕ) → at ≤ from → from + m ≤ at + n → Closed disk at n → Closed disk from m
closed_within disk at n from m begins ends closed = record {
  each = λ old new may same. closed.each old new may (λ offset out. same offset (elim out [ inl before ↦ inl (omega (arith, begins, before)) | inr after ↦ inr (omega (arith, ends, after)) ]));
}

-- a settled disk stays so over reads
pub settled_stays : (old new : DiskState) → IsSettled old → OnlyReads old new → new.reads ≡ old.reads → IsSettled new
settled_stays old new settled reads kept = record { only = λ image may. kept ∙ settled.only image (reads.now image may) }
