-- What a command leaves on the disk, whatever it answers.
use Rattle.std.proofs.Common.{◌≡◌, inl, inr, ℕ, ◌≤◌, Bool, true, false, Some, refl, sym, ap, subst, ◌∙◌}
use Rattle.std.specs.Prelude.{is_some, not, ◌&&◌, ◌==◌}
use Rattle.disk_model.specs.Image.{Image}
use Rattle.disk_model.proofs.MomentLemmas.{leaves_more, read_goes_on, started}
use Rattle.disk_model.specs.State.{DiskState, OnlyReads}
use Rattle.bank_store.specs.Fits.{LosesOnlyWork}
use Rattle.disk_layout.specs.Holds.{HoldsConfig, StandingView}
use Rattle.accept_rules.specs.Permissions.{AcceptsPermitted, keeps_part, permits}
use Rattle.media_check.specs.Sets.{SetView}
use Rattle.replay_rules.specs.FirstOrGood.{IsFirstOrGood}
use Rattle.run_promises.specs.Promises.{HoldsFirstOrGood}
use Rattle.upload_replay.specs.Moments.{LeavesGood}
use Rattle.loader_cli.specs.Replays.{LeavesFirstOrGood, setting_of}

both_not : (a b : Bool) → (not a && not b) ≡ true → (a ≡ false) × (b ≡ false)
both_not false false is = (refl, refl)
both_not false true is = absurd cc
both_not true b is = absurd cc

-- the rule of a target accepts only what it may
pub accepts_permitted : AcceptsPermitted permits
accepts_permitted h kept is =
    let (other, new) = both_not (h.type_id == 0) (keeps_part h.part kept) is in
    record { type_id = λ zero. absurd (let wrong : true ≡ false = ap (λ (n : ℕ). n == 0) (sym zero) ∙ other in cc); part = new }

module _ (disk : DiskState) (only : (t u : ℕ) (left : Image) → disk.clock ≤ t → disk.between t u left → disk.now left)
    (alone : (image : Image) (s : StandingView) → LosesOnlyWork disk → disk.reads ≡ Some image → HoldsConfig image s → (left : Image) → disk.now left → HoldsConfig left s) where
  -- a disk that isn't touched
  pub untouched_leaves : LeavesFirstOrGood disk disk
  untouched_leaves = λ set start image told holds loses. record {
    tells = ap is_some told;
    only = started disk (HoldsFirstOrGood (setting_of set start)) only (λ left may. record {
      active = start;
      holds = alone image start loses told holds left may;
      good = inl refl;
    });
  }

  -- and one that is only read
  pub reads_leave : (new : DiskState) → OnlyReads disk new → LeavesFirstOrGood disk new
  reads_leave new reads = λ set start image told holds loses.
      let before = untouched_leaves set start image told holds loses in
      record { tells = reads.tells ∙ before.tells; only = read_goes_on disk.clock (HoldsFirstOrGood (setting_of set start)) disk new before.only reads }

-- a run on one media set: which one doesn't matter
good_as : (shown set : SetView) (start s : StandingView) → IsFirstOrGood (setting_of shown start) s → IsFirstOrGood (setting_of set start) s
good_as shown set start s (inl first) = inl first
good_as shown set start s (inr has) = inr (record { each = has.each; load = has.load; among = has.among; checked = has.checked })

pub run_leaves : (shown : SetView) (old new : DiskState)
    → ((start : StandingView) (image : Image) → old.reads ≡ Some image → HoldsConfig image start → LosesOnlyWork old → LeavesGood (setting_of shown start) old.clock new) → LeavesFirstOrGood old new
run_leaves shown old new each = λ set start image told holds loses.
    let left = each start image told holds loses in
    record {
      tells = left.tells;
      only = leaves_more old.clock (HoldsFirstOrGood (setting_of shown start)) (HoldsFirstOrGood (setting_of set start)) new (λ i h. record { active = h.active; holds = h.holds; good = good_as shown set start h.active h.good }) left.only;
    }

-- a run after reads
pub leaves_since : (old mid new : DiskState) → OnlyReads old mid → mid.reads ≡ old.reads → (LosesOnlyWork old → LosesOnlyWork mid) → LeavesFirstOrGood mid new → LeavesFirstOrGood old new
leaves_since old mid new read same still leaves = λ set start image told holds loses.
    subst (λ (since : ℕ). LeavesGood (setting_of set start) since new) read.clock (leaves set start image (same ∙ told) holds (still loses))
