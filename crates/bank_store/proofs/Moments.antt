-- What a power loss may leave over the calls of the store.
use Rattle.std.proofs.Common.{ℕ, ◌≤◌, inl, inr, arith}
use Rattle.disk_model.specs.Image.{Image}
use Rattle.disk_model.specs.Moments.{LeavesOnly}
use Rattle.disk_model.specs.State.{DiskState, Elapses, OnlyReads}
use Rattle.disk_model.specs.declared.disk.DiskFault.{DiskFault}
use Rattle.std.specs.Prelude.{Result}
use Rattle.bank_store.specs.DiskWrites.{AddsOnly}

-- where nothing is called
pub adds_none : (disk : DiskState) (P : Image → Type 0) → ((image : Image) → disk.now image → P image) → AddsOnly disk disk P
adds_none disk P here = record { each = λ t u image might. inl might; here = here }

-- images of which more is known have the less
pub adds_less : (old new : DiskState) (P Q : Image → Type 0) → ((image : Image) → P image → Q image) → AddsOnly old new P → AddsOnly old new Q
adds_less old new P Q less adds = record {
  each = λ t u image might. elim (adds.each t u image might) [ inl before ↦ inl before | inr is ↦ inr (less image is) ];
  here = λ image may. less image (adds.here image may);
}

-- over the first call
pub adds_first : {T : Type 0} (old new : DiskState) (inside P : Image → Type 0) (result : Result T DiskFault) → Elapses old new inside result
    → ((image : Image) → inside image → P image) → AddsOnly old new P
adds_first old new inside P result elapses within = record {
  each = λ t u image might. elim (elapses.adds t u image might) [ inl before ↦ inl before | inr is ↦ inr (within image is) ];
  here = λ image may. within image (elapses.now image may);
}

-- over calls after others
pub adds_joined : (a b c : DiskState) (P Q R : Image → Type 0) → AddsOnly a b P → AddsOnly b c Q → ((image : Image) → P image → R image) → ((image : Image) → Q image → R image) → AddsOnly a c R
adds_joined a b c P Q R first second in_first in_second = record {
  each = λ t u image might. elim (second.each t u image might) [
    | inl before ↦ elim (first.each t u image before) [ inl long_before ↦ inl long_before | inr is ↦ inr (in_first image is) ]
    | inr is ↦ inr (in_second image is)
  ];
  here = λ image may. in_second image (second.here image may);
}

-- over one more call
pub adds_more : {T : Type 0} (a b c : DiskState) (inside P : Image → Type 0) (result : Result T DiskFault) → AddsOnly a b P → Elapses b c inside result
    → ((image : Image) → inside image → P image) → AddsOnly a c P
adds_more a b c inside P result first elapses within = adds_joined a b c P P P first (adds_first b c inside P result elapses within) (λ image is. is) (λ image is. is)

-- From the calls' start on, each image is one that was there or has the property; `only` is the law `only_now`.
pub leaves_only : (old new : DiskState) (P : Image → Type 0) → ((t u : ℕ) (image : Image) → old.clock ≤ t → old.between t u image → old.now image)
    → ((image : Image) → old.now image → P image) → AddsOnly old new P → LeavesOnly old.clock P new
leaves_only old new P only were adds = record {
  each = λ u image might. elim (adds.each old.clock u image might) [
    | inl before ↦ were image (only old.clock u image (omega arith) before)
    | inr is ↦ is
  ];
  here = adds.here;
}

-- over a sync or a restart
pub adds_sync : {T : Type 0} (a b c : DiskState) (P : Image → Type 0) (result : Result T DiskFault) → AddsOnly a b P → Elapses b c b.now result → AddsOnly a c P
adds_sync a b c P result was elapses = adds_more a b c b.now P result was elapses was.here

-- over reads
pub adds_read : (a b c : DiskState) (P : Image → Type 0) → AddsOnly a b P → OnlyReads b c → AddsOnly a c P
adds_read a b c P was reads = record {
  each = λ t u image might. was.each t u image (reads.between t u image might);
  here = λ image may. was.here image (reads.now image may);
}
