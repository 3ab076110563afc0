-- Laws of a target that is switched off and on.
use Rattle.std.proofs.Common.{◌≡◌, inl, inr, ℕ, cond, true, Option, Some, None, Result, refl, sym, ap, subst, ◌∙◌, arith}
use Rattle.std.specs.Prelude.{◌==◌}
use Rattle.std.proofs.lemmas.Bool.Decides.{nat_tests}
use Rattle.disk_model.specs.Image.{Image}
use Rattle.disk_model.specs.State.{DiskState, Elapses, IsSettled, OnlyReads}
use Rattle.disk_model.specs.declared.disk.DiskFault.{DiskFault}
use Rattle.disk_layout.specs.Holds.{HasDiskFault, HoldsConfig, StandingView, outline_of}
use Rattle.disk_layout.specs.declared.fault.RecoverFault.{RecoverFault}
use Rattle.disk_layout.specs.declared.fault.RecoverFault.TheVariants.{BadManifest, BadSlot, DiskFailed, Memory, NoOpenSlot, NotFormatted}
use Rattle.session_rules.specs.Target.{TargetView, new_target}
use Rattle.session_rules.specs.TargetLog.{new_target_reading, target_view}
use Rattle.replay_rules.specs.BothEnds.{Is_down, Is_up, Setting, TargetStanding, come_up, gone_down, noted, reached, settled}
use Rattle.replay_rules.specs.ContentTraces.{ContentsFollowAt}
use Rattle.replay_rules.specs.Histories.{may_be_active}
use Rattle.replay_rules.specs.Promises.{HoldsOneOf}
use Rattle.target_machine.specs.Boots.{BootFails, ComesUp}
use Rattle.target_machine.specs.declared.boot.BootFault.TheVariants.{Recover}
use Rattle.target_machine.specs.Decisions as machine
use Rattle.target_machine.specs.Disks.{StartsOn}
use Rattle.replay_turns.specs.declared.powering.PowerNote.{PowerNote}
use Rattle.replay_turns.specs.declared.powering.PowerNote.TheVariants as power
use Rattle.replay_turns.specs.StepsOnDisks.{AreApart, HoldsRun}
use Rattle.replay_turns.specs.Turns.{notes_of}
use Rattle.replay_turns.proofs.StepLemmas.{NeverBoth, OneStanding, gone_holds, one_left, which}

-- ---- which configuration is settled

pub settles : OneStanding → (image : Image) (s active : StandingView) (interrupted : Option StandingView) → AreApart (Is_down active interrupted) → HoldsConfig image s
    → HoldsOneOf (may_be_active (Is_down active interrupted)) image → settled s.sequence active interrupted ≡ s
settles one image s active None apart held (inl is) = one image active s is held
settles one image s active None apart held (inr none) = absurd none
settles one image s active (Some new) apart held (inl is) =
    subst (λ (x : StandingView). cond (x.sequence == new.sequence) new active ≡ x) (one image active s is held) (rw apart refl)
settles one image s active (Some new) apart held (inr (inl is)) =
    let same : (new.sequence == new.sequence) ≡ true = grind (arith, nat_tests) in
    subst (λ (x : StandingView). cond (x.sequence == new.sequence) new active ≡ x) (one image new s is held) (rw same refl)
settles one image s active (Some new) apart held (inr (inr none)) = absurd none

-- ---- the target comes up

pub comes_up : {R : Type 0} → OneStanding → (set : Setting) (down : TargetStanding) (rule : R) (target : machine.TargetState R) (old new : DiskState) (image : Image) (first_port sequence : ℕ) → HoldsRun {R = R} set down None old
    → IsSettled old → old.reads ≡ Some image → old.now image → StartsOn target.view target.store image new → OnlyReads old new → ComesUp rule first_port target old → sequence ≡ target.view.active.sequence
    → HoldsRun set (come_up first_port sequence down) (Some target) new
comes_up one set (Is_up r) rule target old new image first_port sequence holds settled_ told now starts reads up is = absurd (let wrong : None ≡ Some (target_view r) = holds.kept in cc)
comes_up {R} one set (Is_down active interrupted) rule target old new image first_port sequence holds settled_ told now starts reads up is =
    let s = starts.active in
    let at : sequence ≡ s.sequence = is ∙ ap (λ o. o.sequence) starts.kept.active in
    let which : settled sequence active interrupted ≡ s = rw at (settles one image s active interrupted holds.apart starts.held (holds.leaves image now)) in
    let view : target.view ≡ new_target first_port (outline_of s) = up.view_is ∙ ap (new_target first_port) starts.kept.active in
    let same : (left : Image) → old.now left → image ≡ left = λ left may. (let e : Some image ≡ Some left = sym told ∙ settled_.only left may in cc) in
    subst (λ (x : StandingView). HoldsRun set (Is_up (new_target_reading first_port x)) (Some target) new) (sym which) (record {
      kept = ap (λ (v : TargetView). Some v) view;
      tells = reads.tells ∙ holds.tells;
      leaves = λ left may. inl (subst (λ (i : Image). HoldsConfig i s) (same left (reads.now left may)) starts.held);
      works = starts.holds;
      apart = tt;
    })

-- it tells what is active then
pub comes_up_told : {R : Type 0} → OneStanding → (set : Setting) (active : StandingView) (interrupted : Option StandingView) (target : machine.TargetState R) (old new : DiskState) (image : Image) (first_port sequence : ℕ)
    → HoldsRun {R = R} set (Is_down active interrupted) None old → old.now image → StartsOn target.view target.store image new → sequence ≡ target.view.active.sequence
    → sequence ≡ (settled sequence active interrupted).sequence
comes_up_told one set active interrupted target old new image first_port sequence holds now starts is =
    let s = starts.active in
    let at : sequence ≡ s.sequence = is ∙ ap (λ o. o.sequence) starts.kept.active in
    let which : settled sequence active interrupted ≡ s = rw at (settles one image s active interrupted holds.apart starts.held (holds.leaves image now)) in
    at ∙ sym (ap (λ (x : StandingView). x.sequence) which)

-- where it doesn't come up, the disk failed
pub refused_told : NeverBoth → (set : Setting) (state : TargetStanding) (image : Image) (fault : RecoverFault) → HoldsOneOf (may_be_active state) image → BootFails image (Recover fault) → fault ≡ DiskFailed
refused_told never set state image fault one refused = by fault refused
  where
    wrong : (f : RecoverFault) → HasDiskFault image f → f ≡ DiskFailed
    wrong f has = let (s, held) = which image (may_be_active state) one in absurd (never image s f held has)

    by : (f : RecoverFault) → BootFails image (Recover f) → f ≡ DiskFailed
    by DiskFailed fails = refl
    by Memory fails = absurd fails
    by (NotFormatted offset) fails = wrong (NotFormatted offset) fails
    by NoOpenSlot fails = wrong NoOpenSlot fails
    by (BadSlot offset) fails = wrong (BadSlot offset) fails
    by (BadManifest offset) fails = wrong (BadManifest offset) fails

-- ---- the target was switched off

-- it is down then
pub record IsDownAs (set : Setting) (state : TargetStanding) : Type 0 where
  pub active : StandingView
  pub interrupted : Option StandingView
  pub is : gone_down state (reached set None state) ≡ Is_down active interrupted

pub down_as : (set : Setting) (state : TargetStanding) → IsDownAs set state
down_as set (Is_up r) = record { active = _; interrupted = _; is = refl }
down_as set (Is_down active interrupted) = record { active = active; interrupted = interrupted; is = refl }

pub noted_down : (set : Setting) (state : TargetStanding) (note : PowerNote) (down : IsDownAs set state)
    → noted (notes_of (Some note)) (Is_down down.active down.interrupted) (Is_down down.active down.interrupted) ≡ noted (notes_of (Some note)) state (reached set None state)
noted_down set state power.Down down = sym down.is
noted_down set state (power.Up first_port sequence) down = ap (come_up first_port sequence) (sym down.is)
noted_down set state (power.Refused fault) down = sym down.is

-- the disk was restarted, or failed to
pub down_holds : {R T : Type 0} (set : Setting) (state : TargetStanding) (target : Option (machine.TargetState R)) (old there : DiskState) (result : Result T DiskFault) → ContentsFollowAt set state → HoldsRun set state target old
    → Elapses old there old.now result → HoldsRun {R = R} set (gone_down state (reached set None state)) None there
down_holds set state target old there result follow holds elapses =
    gone_holds set None state there follow holds.apart (elapses.tells ∙ holds.tells) (λ image may. one_left image (may_be_active state) (may_be_active (reached set None state)) (holds.leaves image (elapses.now image may)))

-- it stays down
pub stays_down : {R : Type 0} (set : Setting) (state : TargetStanding) (old new : DiskState) → HoldsRun {R = R} set state None old → OnlyReads old new → HoldsRun {R = R} set state None new
stays_down set (Is_up r) old new holds reads = absurd (let wrong : None ≡ Some (target_view r) = holds.kept in cc)
stays_down set (Is_down active interrupted) old new holds reads = record {
  kept = holds.kept;
  tells = reads.tells ∙ holds.tells;
  leaves = λ image may. holds.leaves image (reads.now image may);
  works = tt;
  apart = holds.apart;
}
