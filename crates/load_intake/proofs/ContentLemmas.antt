-- What calls add to what a power loss may leave, and beside what a store works.
use Rattle.std.specs.Prelude.{ℕ, ◌<◌, ◌≤◌}
use Rattle.std.proofs.Common.{inl, inr, arith}
use Rattle.disk_model.specs.Image.{Image}
use Rattle.disk_model.specs.State.{DiskState}
use Rattle.disk_layout.specs.Holds.{HoldsConfig, StandingView}
use Rattle.bank_store.specs.declared.store.Store.{Store}
use Rattle.bank_store.specs.DiskWrites.{AddsOnly}
use Rattle.bank_store.specs.Fits.{InstallsBeside}
use Rattle.bank_store.specs.Keeps.{Continues, IsOldOrNew}
use Rattle.load_intake.specs.Contents.{AddsAtMost, AddsOldOrNew}

-- ---- images that calls add

pub adds_both : (a b c : DiskState) (P : Image → Type 0) → AddsAtMost a b P → AddsAtMost b c P → AddsAtMost a c P
adds_both a b c P one other = record {
  later = omega (arith, one.later, other.later);
  each = λ t u image may. elim (other.each t u image may) [ inl before ↦ one.each t u image before | inr new ↦ inr new ];
  here = λ image may. elim (other.here image may) [ inl before ↦ one.here image before | inr new ↦ inr new ];
}

adds_weaker : (old new : DiskState) (P Q : Image → Type 0) → ((image : Image) → P image → Q image) → AddsAtMost old new P → AddsAtMost old new Q
adds_weaker old new P Q weaker adds = record {
  later = adds.later;
  each = λ t u image may. elim (adds.each t u image may) [ inl before ↦ inl before | inr is ↦ inr (weaker image is) ];
  here = λ image may. elim (adds.here image may) [ inl before ↦ inl before | inr is ↦ inr (weaker image is) ];
}

pub adds_only : (old new : DiskState) (P : Image → Type 0) → old.clock ≤ new.clock → AddsOnly old new P → AddsAtMost old new P
adds_only old new P later only = record { later = later; each = only.each; here = λ image may. inr (only.here image may) }

-- ---- of the one configuration or the other

pub adds_nothing : (disk : DiskState) (s next : StandingView) → AddsOldOrNew disk disk s next
adds_nothing disk s next = record {
  adds = record { later = omega arith; each = λ t u image may. inl may; here = λ image may. inl may };
  first = λ t u image early may. inl may;
}

pub both_add : (a b c : DiskState) (s next : StandingView) → AddsOldOrNew a b s next → AddsOldOrNew b c s next → AddsOldOrNew a c s next
both_add a b c s next one other = record {
  adds = adds_both a b c (IsOldOrNew s next) one.adds other.adds;
  first = λ t u image early may. elim (other.first t u image (omega (arith, early, one.adds.later)) may) [
    | inl before ↦ one.first t u image early before
    | inr old ↦ inr old
  ];
}

-- what holds the old configuration is one of the two
pub adds_old : (old new : DiskState) (s next : StandingView) → AddsAtMost old new (λ left. HoldsConfig left s) → AddsOldOrNew old new s next
adds_old old new s next adds = record {
  adds = adds_weaker old new (λ left. HoldsConfig left s) (IsOldOrNew s next) (λ image is. inl is) adds;
  first = λ t u image early may. adds.each t u image may;
}

pub adds_same : (old new : DiskState) (s next : StandingView) → AddsOldOrNew old new s s → AddsOldOrNew old new s next
adds_same old new s next same = record {
  adds = adds_weaker old new (IsOldOrNew s s) (IsOldOrNew s next) (λ image is. elim is [ inl held ↦ inl held | inr held ↦ inl held ]) same.adds;
  first = same.first;
}

-- calls that add what holds the old one, after which the clock went on, and then others that may add what holds the new one
pub adds_then : (a b c : DiskState) (s next : StandingView) → AddsAtMost a b (λ left. HoldsConfig left s) → a.clock < b.clock → AddsAtMost b c (IsOldOrNew s next)
    → ((t u : ℕ) (image : Image) → u < b.clock → c.between t u image → b.between t u image) → AddsOldOrNew a c s next
adds_then a b c s next one rises other earlier = record {
  adds = adds_both a b c (IsOldOrNew s next) (adds_old a b s next one).adds other;
  first = λ t u image early may. one.each t u image (earlier t u image (omega (arith, early, rises)) may);
}

-- ---- beside the same configuration

abbrev pub beside_continued : (before after : Store) (disk : DiskState) (s : StandingView) → Continues before after → InstallsBeside before disk s → InstallsBeside after disk s
beside_continued before after disk s c beside = record {
  works = record {
    fits = record {
      running = beside.works.fits.running;
      holds = λ image told. let h = beside.works.fits.holds image told in (h.0, c.holds image h.0 h.1);
      work = λ image told. c.work image (beside.works.fits.work image told);
    };
    near = λ image told left now. c.near image left (beside.works.near image told left now);
    settled = λ sealed. beside.works.settled (c.sealed sealed);
  };
  image = beside.image;
  told = beside.told;
  holds = c.holds beside.image s beside.holds;
}
