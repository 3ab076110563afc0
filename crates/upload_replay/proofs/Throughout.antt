-- What a power loss may leave of a whole run.
use Rattle.std.proofs.Common.{◌≡◌, ◌⊎◌, inl, inr, ℕ, ◌≤◌, List, [], ◌∷◌, Bool, true, false, Option, Some, None, Result, Ok, Err, IfOk, OnOk, refl, sym, ap, subst, ◌∙◌, arith}
use Rattle.std.specs.Prelude.{is_some, option_map}
use Rattle.disk_model.specs.Image.{Image}
use Rattle.disk_model.specs.State.{DiskState, IsSettled, OnlyReads}
use Rattle.disk_layout.specs.Holds.{HoldsConfig, StandingView, outline_of, standing_view}
use Rattle.disk_model.proofs.MomentLemmas.{settled_stays}
use Rattle.disk_layout.specs.declared.fault.RecoverFault.{RecoverFault}
use Rattle.disk_layout.specs.declared.fault.RecoverFault.TheVariants.{BadManifest, BadSlot, DiskFailed, Memory, NoOpenSlot, NotFormatted}
use Rattle.disk_layout.specs.declared.standing.Standing.{Standing}
use Rattle.exchange_trace.specs.Steps.{Step}
use Rattle.replay_rules.specs.BothEnds.{Is_down, Is_up, Setting, TargetStanding, loader_at, reached, target_at}
use Rattle.replay_rules.specs.Histories.{active_by}
use Rattle.replay_rules.specs.Promises.{HoldsOneOf}
use Rattle.target_machine.specs.Boots.{ComesUp}
use Rattle.target_machine.specs.Decisions as machine
use Rattle.session_rules.specs.Target.{TargetView, new_target}
use Rattle.session_rules.specs.TargetLog.{new_target_reading}
use Rattle.target_machine.specs.Disks.{HoldsContents, StartsOn}
use Rattle.replay_rules.specs.Due.{AllDue, AllNoted, MayGoDown, due_of_loader, due_of_target, is_up}
use Rattle.upload_replay.specs.Drivers.{end_step}
use Rattle.upload_replay.specs.Endings.{HoldsStanding, last_refusal_of}
use Rattle.replay_turns.proofs.BootLemmas.{settles}
use Rattle.replay_turns.proofs.StepLemmas.{OneStanding, one_left, read_now, same_as_left}
use Rattle.replay_turns.specs.StepsOnDisks.{AreApart, HoldsRun, LeavesNoMore}
use Rattle.replay_rules.specs.Histories.{may_be_active}
use Rattle.upload_replay.specs.Moments.{HeldSoFar, HoldsThroughout, LeftAtEnd}
use Rattle.upload_replay.proofs.Held.{moments_kept}

-- ---- which configuration is active

-- what was recovered
ends_as : OneStanding → (image : Image) (s : StandingView) (state : TargetStanding) → AreApart state → HoldsConfig image s → HoldsOneOf (may_be_active state) image → active_by state (Some s) ≡ s
ends_as one image s (Is_up r) apart held (inl is) = one image r.active s is held
ends_as one image s (Is_up r) apart held (inr none) = absurd none
ends_as one image s (Is_down active interrupted) apart held is = settles one image s active interrupted apart held is

-- ---- the start

up_at_first : {R : Type 0} → OneStanding → (set : Setting) (rule : R) (target : machine.TargetState R) (old new : DiskState) (image : Image) → ((left : Image) → old.now left → HoldsConfig left set.start) → old.reads ≡ Some image → old.now image
    → StartsOn target.view target.store image new → OnlyReads old new → ComesUp rule 1024 target old → HoldsRun set (Is_up (new_target_reading 1024 set.start)) (Some target) new
up_at_first one set rule target old new image alone told now starts reads up =
    let same : starts.active ≡ set.start = one image starts.active set.start starts.held (alone image now) in
    record {
      kept = ap (λ (v : TargetView). Some v) (up.view_is ∙ (ap (new_target 1024) starts.kept.active ∙ ap (λ (s : StandingView). new_target 1024 (outline_of s)) same));
      tells = reads.tells ∙ ap is_some told;
      leaves = λ left may. inl (alone left (reads.now left may));
      works = subst (λ (s : StandingView). HoldsContents target.store new (record { active = s; live = None })) same starts.holds;
      apart = tt;
    }

-- a target came up on a disk of which a power loss leaves nothing but what is active at the start
pub begins_held : {R : Type 0} → OneStanding → (set : Setting) (rule : R) (target : machine.TargetState R) (old new : DiskState) (image : Image) → ((left : Image) → old.now left → HoldsConfig left set.start) → old.reads ≡ Some image → old.now image
    → StartsOn target.view target.store image new → OnlyReads old new → ComesUp rule 1024 target old → HeldSoFar set old.clock [] [] (Some target) new
begins_held {R} one set rule target old new image alone told now starts reads up = record {
  holds = up_at_first one set rule target old new image alone told now starts reads up;
  timed = reads.clock;
  boots = tt;
  moments = tt;
}

-- ---- the end

module _ {R : Type 0} (one : OneStanding) (set : Setting) (state : TargetStanding) (target : Option (machine.TargetState R)) (old new : DiskState) (holds : HoldsRun set state target old) (no_more : LeavesNoMore old new)
    (reads_now : (image : Image) → new.reads ≡ Some image → new.now image) where
  -- the configuration that was recovered
  module _ (s : StandingView) (held : (image : Image) → new.reads ≡ Some image → HoldsConfig image s) where
    pub was_active : active_by state (Some s) ≡ s
    was_active =
        let (image, told) = read_now new (no_more.tells ∙ holds.tells) in
        ends_as one image s state holds.apart (held image told) (holds.leaves image (no_more.now image (reads_now image told)))

    -- is the one of a target that is up
    up_alone : (t : machine.TargetState R) → target ≡ Some t → (image : Image) → new.now image → HoldsConfig image s
    up_alone t is image may = by state refl
      where
        by : (st : TargetStanding) → state ≡ st → HoldsConfig image s
        by (Is_up r) at = subst (λ (x : StandingView). HoldsConfig image x) (rw at at was_active) (alone (rw at at (holds.leaves image (no_more.now image may))))
          where
            alone : HoldsOneOf (r.active ∷ []) image → HoldsConfig image r.active
            alone (inl is) = is
            alone (inr none) = absurd none
        by (Is_down active interrupted) at = absurd (let wrong : Some t.view ≡ None = rw (is, at) at holds.kept in cc)

    pub alone : (is_some target ≡ true) ⊎ IsSettled new → (image : Image) → new.now image → HoldsConfig image s
    alone (inr settled) image may = held image (settled.only image may)
    alone (inl up) image may = by target refl
      where
        by : (o : Option (machine.TargetState R)) → target ≡ o → HoldsConfig image s
        by None is = absurd (let wrong : false ≡ true = ap is_some (sym is) ∙ up in cc)
        by (Some t) is = up_alone t is image may

  pub left_at_end : (standing : Option Standing) → HoldsStanding standing new → ((s : Standing) → standing ≡ Some s → (is_some target ≡ true) ⊎ IsSettled new) → (image : Image) → new.now image
      → LeftAtEnd state (option_map standing_view standing) image
  left_at_end None held either image may = holds.leaves image (no_more.now image may)
  left_at_end (Some s) held either image may = alone (standing_view s) held (either s refl) image may

  pub active_at_end : (standing : Option Standing) → HoldsStanding standing new → (s : StandingView) → option_map standing_view standing ≡ Some s → active_by state (Some s) ≡ s
  active_at_end None held s is = absurd cc
  active_at_end (Some standing) held s is = let same : standing_view standing ≡ s = cc in subst (λ (x : StandingView). active_by state (Some x) ≡ x) same (was_active (standing_view standing) held)

pub throughout : {R : Type 0} → OneStanding → (set : Setting) (since : ℕ) (clocks : List ℕ) (steps : List Step) (target : Option (machine.TargetState R)) (old new : DiskState) (standing : Option Standing)
    → ((t u : ℕ) (image : Image) → t ≤ old.clock → old.clock ≤ u → old.now image → old.between t u image) → ((t u : ℕ) (image : Image) → old.clock ≤ t → old.between t u image → old.now image)
    → ((image : Image) → new.reads ≡ Some image → new.now image) → HeldSoFar set since clocks steps target old → LeavesNoMore old new → HoldsStanding standing new
    → ((s : Standing) → standing ≡ Some s → (is_some target ≡ true) ⊎ IsSettled new) → HoldsThroughout set steps (option_map standing_view standing) since clocks new
throughout one set since clocks steps target old new standing counts only reads_now held no_more holds either = record {
  end = old.clock;
  timed = held.timed;
  boots = held.boots;
  moments = moments_kept set old new one counts (λ t u image early may. elim (no_more.each t u image may) [ inl before ↦ inl before | inr left ↦ inr (same_as_left set (target_at set steps) target old image held.holds left) ])
      no_more.earlier since old.clock clocks steps (omega arith) held.timed held.moments;
  after = λ u image may. elim (no_more.each old.clock u image may) [
    | inl before ↦ held.holds.leaves image (only old.clock u image (omega arith) before)
    | inr left ↦ held.holds.leaves image left
  ];
  left = left_at_end one set (target_at set steps) target old new held.holds no_more reads_now standing holds either;
  active = active_at_end one set (target_at set steps) target old new held.holds no_more reads_now standing holds;
}

-- ---- the end of a driver

reached_none : (set : Setting) (state : TargetStanding) → reached set None state ≡ state
reached_none set (Is_up r) = refl
reached_none set (Is_down active interrupted) = refl

-- the end comes to nothing
pub ended_at : (set : Setting) (steps : List Step) → target_at set (end_step ∷ steps) ≡ target_at set steps
ended_at set steps = reached_none set (target_at set steps)

-- with the step in which the end comes
pub held_to_end : {R : Type 0} (set : Setting) (since : ℕ) (clocks : List ℕ) (steps : List Step) (target : Option (machine.TargetState R)) (disk : DiskState) → ((t u : ℕ) (image : Image) → disk.clock ≤ t → disk.between t u image → disk.now image)
    → HeldSoFar set since clocks steps target disk → HeldSoFar set since (disk.clock ∷ clocks) (end_step ∷ steps) target disk
held_to_end set since clocks steps target disk only held =
    let same = ended_at set steps in
    record {
      holds = subst (λ (state : TargetStanding). HoldsRun set state target disk) (sym same) held.holds;
      timed = (omega arith, held.timed);
      boots = (tt, held.boots);
      moments = (
        λ image may. one_left image (may_be_active (target_at set steps)) (may_be_active (target_at set (end_step ∷ steps))) (held.holds.leaves image (only disk.clock disk.clock image (omega arith) may)),
        λ image may. subst (λ (state : TargetStanding). HoldsOneOf (may_be_active state) image) (sym same) (held.holds.leaves image (only disk.clock disk.clock image (omega arith) may)),
        held.moments,
      );
    }

none_due : (set : Setting) (state : TargetStanding) → due_of_target set state None ≡ []
none_due set (Is_up r) = refl
none_due set (Is_down active interrupted) = refl

none_noted : (up : Bool) → MayGoDown up []
none_noted true = inl refl
none_noted false = refl

loader_none_due : (set : Setting) (steps : List Step) → due_of_loader set (loader_at set steps) None ≡ []
loader_none_due set steps = refl

pub due_to_end : (set : Setting) (steps : List Step) → AllDue set steps → AllDue set (end_step ∷ steps)
due_to_end set steps due = (sym (none_due set (target_at set steps)), due)

pub noted_to_end : (set : Setting) (steps : List Step) → AllNoted set steps → AllNoted set (end_step ∷ steps)
noted_to_end set steps noted = (none_noted (is_up (target_at set steps)), noted)

-- ---- what recovery leaves

-- where it answered, the disk reads as before
pub settled_then : {T E : Type 0} (old new : DiskState) (result : Result T E) (P : T → Type 0) → IsSettled old → OnlyReads old new → OnOk result (new.reads ≡ old.reads) ⊎ IfOk result P → OnOk result (IsSettled new) ⊎ IfOk result P
settled_then old new result P settled reads (inr none) = inr none
settled_then old new (Ok x) P settled reads (inl same) = inl (settled_stays old new settled reads same)
settled_then old new (Err e) P settled reads (inl same) = inl tt

-- a run whose standing is known ends on a disk of a target that is up, or on a settled one
pub settled_if : {T : Type 0} (up : Bool) (disk : DiskState) (standing : Option T) → (up ≡ false → IsSettled disk ⊎ (standing ≡ None)) → (s : T) → standing ≡ Some s → (up ≡ true) ⊎ IsSettled disk
settled_if true disk standing settles s is = inl refl
settled_if false disk standing settles s is = elim (settles refl) [ inl settled ↦ inr settled | inr none ↦ absurd (let wrong : Some s ≡ None = sym is ∙ none in cc) ]

pub refused_is_none : (fault : RecoverFault) → IfOk (last_refusal_of fault) (λ standing. standing ≡ None)
refused_is_none (NotFormatted offset) = tt
refused_is_none NoOpenSlot = tt
refused_is_none (BadSlot offset) = tt
refused_is_none (BadManifest offset) = tt
refused_is_none DiskFailed = refl
refused_is_none Memory = tt

-- no call was made
pub no_change : (disk : DiskState) → LeavesNoMore disk disk
no_change disk = record {
  tells = refl;
  later = omega arith;
  each = λ t u image may. inl may;
  now = λ image may. may;
  earlier = λ t u image early may. may;
}
