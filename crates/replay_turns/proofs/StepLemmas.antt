-- Laws of what a step leaves of the target's disk.
use Rattle.std.proofs.Common.{◌≡◌, ◌⊎◌, inl, inr, ℕ, ◌+◌, cond, List, [], ◌∷◌, ◌++◌, Bool, true, false, Option, Some, None, Result, refl, sym, ap, subst, ◌∙◌, arith}
use Rattle.std.specs.Prelude.{◌==◌, is_some}
use Rattle.std.proofs.lemmas.Bool.Decides.{nat_tests}
use Rattle.disk_model.specs.Image.{Image}
use Rattle.disk_model.specs.State.{DiskState, Elapses, IsSettled, OnlyReads}
use Rattle.disk_model.specs.Arming.{Arms}
use Rattle.disk_model.specs.declared.disk.DiskFault.{DiskFault}
use Rattle.disk_layout.specs.Holds.{HasDiskFault, HoldsConfig, StandingView}
use Rattle.disk_layout.specs.declared.fault.RecoverFault.{RecoverFault}
use Rattle.bank_store.specs.DiskWrites.{TimeGoesOn}
use Rattle.exchange_trace.specs.declared.trace.Side.TheVariants as sides
use Rattle.exchange_trace.specs.Logs.{Event}
use Rattle.session_rules.specs.Contents.{SessionContents, TargetContents, contents_changed, contents_of, contents_turned, reached as row_reached, reached_last}
use Rattle.session_rules.specs.Target as Target
use Rattle.session_rules.specs.Target.{TargetChange, TargetView, target_decision}
use Rattle.session_rules.specs.TargetLog.{TargetReading, standing_in, target_extended, target_view}
use Rattle.session_rules.specs.TargetRows.{Awaits_lur, Gives_denial, Gives_lci, Gives_lui, Over, Reads_file, RowMove, WholeRow, Writes_completion, Writes_lcl, Writes_lcs, Writes_progress, Writes_ready, Writes_stop, first_row, row_moved}
use Rattle.load_intake.specs.declared.down.Down.{Down}
use Rattle.replay_rules.specs.BothEnds.{Is_down, Is_up, Setting, TargetStanding, changed, gone_down, reached}
use Rattle.replay_rules.specs.ContentTraces.{ContentsFollowAt, FollowsItsLog}
use Rattle.replay_rules.specs.Histories.{may_be_active}
use Rattle.replay_rules.specs.Promises.{HoldsOneOf}
use Rattle.replay_rules.specs.Ties.{kept_by, target_next}
use Rattle.target_machine.specs.Decisions as machine
use Rattle.target_machine.specs.Disks.{HoldsContents, KeepsDisk}
use Rattle.replay_turns.specs.StepsOnDisks.{AddsInStep, AreApart, HasContents, HoldsAsBefore, HoldsRun, LeavesNoMore, Reboots, WorksOn, contents_then}

-- ---- one of these configurations

abbrev pub OneStanding : Type 0
OneStanding = (image : Image) (s t : StandingView) → HoldsConfig image s → HoldsConfig image t → s ≡ t

abbrev pub NeverBoth : Type 0
NeverBoth = (image : Image) (s : StandingView) (f : RecoverFault) → HoldsConfig image s → HasDiskFault image f → ⊥

module _ (image : Image) where
  pub one_left : (xs ys : List StandingView) → HoldsOneOf xs image → HoldsOneOf (xs ++ ys) image
  one_left [] ys is = absurd is
  one_left (s ∷ xs) ys (inl here) = inl here
  one_left (s ∷ xs) ys (inr other) = inr (one_left xs ys other)

  pub one_right : (xs ys : List StandingView) → HoldsOneOf ys image → HoldsOneOf (xs ++ ys) image
  one_right [] ys is = is
  one_right (s ∷ xs) ys is = inr (one_right xs ys is)

  pub one_of_either : (xs ys : List StandingView) → HoldsOneOf (xs ++ ys) image → HoldsOneOf xs image ⊎ HoldsOneOf ys image
  one_of_either [] ys is = inr is
  one_of_either (s ∷ xs) ys (inl here) = inl (inl here)
  one_of_either (s ∷ xs) ys (inr other) = elim (one_of_either xs ys other) [ inl one ↦ inl (inr one) | inr one ↦ inr one ]

  pub which : (members : List StandingView) → HoldsOneOf members image → (s : StandingView) × HoldsConfig image s
  which [] is = absurd is
  which (s ∷ others) (inl here) = (s, here)
  which (s ∷ others) (inr other) = which others other

-- an image that holds the same as another
pub alike : OneStanding → (members : List StandingView) (before image : Image) (active : StandingView) → HoldsConfig before active → HoldsConfig image active → HoldsOneOf members before → HoldsOneOf members image
alike one [] before image active held holds is = absurd is
alike one (s ∷ others) before image active held holds (inl here) = inl (subst (λ (x : StandingView). HoldsConfig image x) (one before active s held here) holds)
alike one (s ∷ others) before image active held holds (inr other) = inr (alike one others before image active held holds other)

pub as_before : OneStanding → (members : List StandingView) (disk : DiskState) (image : Image) → ((left : Image) → disk.now left → HoldsOneOf members left) → HoldsAsBefore disk image → HoldsOneOf members image
as_before one members disk image each h = alike one members h.before image h.active h.held h.holds (each h.before h.left)

-- ---- how what is active changes at an event

rises : (s : StandingView) (row : WholeRow) → (standing_in s row ≡ s) ⊎ ((standing_in s row).sequence ≡ s.sequence + 1)
rises s Gives_lci = inl refl
rises s Writes_lcs = inl refl
rises s Writes_lcl = inl refl
rises s Gives_lui = inl refl
rises s Gives_denial = inl refl
rises s Writes_ready = inl refl
rises s Awaits_lur = inl refl
rises s (Reads_file u) = inl refl
rises s (Writes_progress u) = inl refl
rises s (Writes_stop e) = inl refl
rises s (Writes_completion e loads) = inr refl
rises s Over = inl refl

abbrev StaysOrRises : (before after : StandingView) → Type 0
StaysOrRises before after = (after ≡ before) ⊎ (after.sequence ≡ before.sequence + 1)

turned_rises : (active : StandingView) (live : Option SessionContents) (move : RowMove) (more : List ℕ) → StaysOrRises active (contents_turned row_reached active live move more).active
turned_rises active None move more = inl refl
turned_rises active (Some x) move more = rises active (row_moved x.row (x.arrived ++ more) move)

last_rises : (active : StandingView) (live : Option SessionContents) (move : RowMove) (more : List ℕ) → StaysOrRises active (contents_turned reached_last active live move more).active
last_rises active None move more = inl refl
last_rises active (Some x) move more = rises active (row_moved x.row (x.arrived ++ more) move)

changed_rises : (c : TargetContents) (change : TargetChange) → StaysOrRises c.active (contents_changed c change).active
changed_rises c (Target.Continues more) = inl refl
changed_rises c (Target.Begins kind) = rises c.active (first_row kind c.active.sequence)
changed_rises c (Target.Turns move more) = turned_rises c.active c.live move more
changed_rises c (Target.Turns_without_port move more) = last_rises c.active c.live move more
changed_rises c (Target.Ends reason) = inl refl

-- what the log says then, of a target that is up
abbrev pub reading_then : Setting → TargetReading → Option Event → TargetReading
reading_then set r None = r
reading_then set r (Some e) = target_extended set.accepts r e

reached_is : (set : Setting) (e : Option Event) (r : TargetReading) → reached set e (Is_up r) ≡ Is_up (reading_then set r e)
reached_is set None r = refl
reached_is set (Some e) r = refl

contents_are : (set : Setting) (e : Option Event) (r : TargetReading) → ContentsFollowAt set (Is_up r)
    → contents_then set.accepts (target_view r) e (contents_of r) ≡ contents_of (reading_then set r e)
contents_are set None r follow = refl
contents_are set (Some e) r follow = sym (follow.contents e)

up_rises : (set : Setting) (e : Option Event) (r : TargetReading) → ContentsFollowAt set (Is_up r) → StaysOrRises r.active (reading_then set r e).active
up_rises set None r follow = inl refl
up_rises set (Some e) r follow =
    subst (λ (s : StandingView). StaysOrRises r.active s) (sym (ap (λ (c : TargetContents). c.active) (follow.contents e)))
    (changed_rises (contents_of r) (target_decision set.accepts (target_view r) e).change)

-- ---- a target that goes down

pub gone_keeps_none : (set : Setting) (before after : TargetStanding) → kept_by (gone_down before after) ≡ None
gone_keeps_none set (Is_up r) (Is_up s) = refl
gone_keeps_none set (Is_up r) (Is_down active interrupted) = refl
gone_keeps_none set (Is_down active interrupted) after = refl

-- the configuration that is active before, and the one that an installation makes active
gone_one : (before after : StandingView) (image : Image) (same : Bool) → (before.sequence == after.sequence) ≡ same → StaysOrRises before after → HoldsConfig image before ⊎ HoldsConfig image after
    → HoldsOneOf (may_be_active (Is_down before (cond same None (Some after)))) image
gone_one before after image true is rise (inl old) = inl old
gone_one before after image true is (inl same) (inr new) = inl (subst (λ (s : StandingView). HoldsConfig image s) same new)
gone_one before after image true is (inr risen) (inr new) = absurd (grind (arith, nat_tests, is, risen))
gone_one before after image false is rise (inl old) = inl old
gone_one before after image false is rise (inr new) = inr (inl new)

gone_up : (set : Setting) (e : Option Event) (r : TargetReading) (image : Image) → ContentsFollowAt set (Is_up r) → HoldsOneOf (r.active ∷ (reading_then set r e).active ∷ []) image
    → HoldsOneOf (may_be_active (Is_down r.active (changed r.active (reading_then set r e).active))) image
gone_up set e r image follow (inl old) = gone_one r.active (reading_then set r e).active image _ refl (up_rises set e r follow) (inl old)
gone_up set e r image follow (inr (inl new)) = gone_one r.active (reading_then set r e).active image _ refl (up_rises set e r follow) (inr new)
gone_up set e r image follow (inr (inr none)) = absurd none

pub gone_leaves : (set : Setting) (e : Option Event) (state : TargetStanding) (image : Image) → ContentsFollowAt set state → HoldsOneOf (may_be_active state ++ may_be_active (reached set e state)) image
    → HoldsOneOf (may_be_active (gone_down state (reached set e state))) image
gone_leaves set None (Is_up r) image follow is = gone_up set None r image follow is
gone_leaves set (Some e) (Is_up r) image follow is = gone_up set (Some e) r image follow is
gone_leaves set None (Is_down active interrupted) image follow is = elim (one_of_either image (may_be_active (Is_down active interrupted)) (may_be_active (Is_down active interrupted)) is) [ inl one ↦ one | inr one ↦ one ]
gone_leaves set (Some e) (Is_down active interrupted) image follow is = elim (one_of_either image (may_be_active (Is_down active interrupted)) (may_be_active (Is_down active interrupted)) is) [ inl one ↦ one | inr one ↦ one ]

apart_if : (before after : StandingView) (same : Bool) → (before.sequence == after.sequence) ≡ same → AreApart (Is_down before (cond same None (Some after)))
apart_if before after true is = tt
apart_if before after false is = is

gone_apart : (set : Setting) (e : Option Event) (state : TargetStanding) → AreApart state → AreApart (gone_down state (reached set e state))
gone_apart set None (Is_up r) apart = apart_if r.active r.active _ refl
gone_apart set (Some e) (Is_up r) apart = apart_if r.active (target_extended set.accepts r e).active _ refl
gone_apart set None (Is_down active interrupted) apart = apart
gone_apart set (Some e) (Is_down active interrupted) apart = apart

no_work : (R : Type 0) (set : Setting) (state : TargetStanding) (disk : DiskState) → WorksOn {R = R} set state None disk
no_work R set (Is_up r) disk = tt
no_work R set (Is_down active interrupted) disk = tt

pub gone_holds : {R : Type 0} (set : Setting) (e : Option Event) (state : TargetStanding) (disk : DiskState) → ContentsFollowAt set state → AreApart state → is_some disk.reads ≡ true
    → ((image : Image) → disk.now image → HoldsOneOf (may_be_active state ++ may_be_active (reached set e state)) image) → HoldsRun {R = R} set (gone_down state (reached set e state)) None disk
gone_holds {R} set e state disk follow apart tells each = record {
  kept = sym (gone_keeps_none set state (reached set e state));
  tells = tells;
  leaves = λ image may. gone_leaves set e state image follow (each image may);
  works = no_work R set (gone_down state (reached set e state)) disk;
  apart = gone_apart set e state apart;
}

-- ---- what a step adds

-- nothing
pub adds_nothing : {R : Type 0} (set : Setting) (state : TargetStanding) (target : Option (machine.TargetState R)) (disk : DiskState) → HoldsRun set state target disk → AddsInStep set None state disk disk
adds_nothing set state target disk holds = record {
  tells = refl;
  later = omega arith;
  each = λ t u image may. inl may;
  here = λ image may. one_left image (may_be_active state) (may_be_active (reached set None state)) (holds.leaves image may);
  first = λ t u image early may. inl may;
  earlier = λ t u image early may. may;
}

pub same_as_left : {R : Type 0} (set : Setting) (state : TargetStanding) (target : Option (machine.TargetState R)) (disk : DiskState) (image : Image) → HoldsRun set state target disk → disk.now image → HoldsAsBefore disk image
same_as_left set state target disk image holds may =
    let (s, is) = which image (may_be_active state) (holds.leaves image may) in
    record { before = image; left = may; active = s; held = is; holds = is }

-- an arming, or nothing but reads after a restart
pub adds_no_image : {R : Type 0} (set : Setting) (state : TargetStanding) (target : Option (machine.TargetState R)) (old new : DiskState) → HoldsRun set state target old → LeavesNoMore old new → AddsInStep set None state old new
adds_no_image set state target old new holds no_more = record {
  tells = no_more.tells;
  later = no_more.later;
  each = λ t u image may. elim (no_more.each t u image may) [
    | inl before ↦ inl before
    | inr left ↦ inr (one_left image (may_be_active state) (may_be_active (reached set None state)) (holds.leaves image left))
  ];
  here = λ image may. one_left image (may_be_active state) (may_be_active (reached set None state)) (holds.leaves image (no_more.now image may));
  first = λ t u image early may. elim (no_more.each t u image may) [ inl before ↦ inl before | inr left ↦ inr (same_as_left set state target old image holds left) ];
  earlier = no_more.earlier;
}

pub arms_no_more : (old new : DiskState) (calls pick : ℕ) → Arms calls pick old new → LeavesNoMore old new
arms_no_more old new calls pick arms = record {
  tells = ap is_some arms.reads;
  later = omega (arith, arms.clock);
  each = λ t u image may. inl (arms.between t u image may);
  now = λ image may. arms.now image may;
  earlier = λ t u image early may. arms.between t u image may;
}

pub reads_no_more : (old new : DiskState) → OnlyReads old new → LeavesNoMore old new
reads_no_more old new reads = record {
  tells = reads.tells;
  later = omega (arith, reads.clock);
  each = λ t u image may. inl (reads.between t u image may);
  now = λ image may. reads.now image may;
  earlier = λ t u image early may. reads.between t u image may;
}

pub restart_no_more : {T : Type 0} (old new : DiskState) (result : Result T DiskFault) → Elapses old new old.now result → LeavesNoMore old new
restart_no_more old new result elapses = record {
  tells = elapses.tells;
  later = elapses.later;
  each = λ t u image may. elapses.adds t u image may;
  now = λ image may. elapses.now image may;
  earlier = λ t u image early may. elapses.earlier t u image early may;
}

pub both_no_more : (a b c : DiskState) → LeavesNoMore a b → LeavesNoMore b c → LeavesNoMore a c
both_no_more a b c one other = record {
  tells = other.tells ∙ one.tells;
  later = omega (arith, one.later, other.later);
  each = λ t u image may. elim (other.each t u image may) [ inl before ↦ one.each t u image before | inr left ↦ inr (one.now image left) ];
  now = λ image may. one.now image (other.now image may);
  earlier = λ t u image early may. one.earlier t u image early (other.earlier t u image (omega (arith, early, one.later)) may);
}

-- a target that is up takes what reaches it
module _ {T R : Type 0} (set : Setting) (e : Option Event) (r : TargetReading) (t after : machine.TargetState R) (old new : DiskState) (result : Result T Down) (follow : ContentsFollowAt set (Is_up r))
    (holds : HoldsRun set (Is_up r) (Some t) old) (goes : TimeGoesOn old new) where
  view_is : t.view ≡ target_view r
  view_is = let same = holds.kept in cc

  pub has : HasContents t old (contents_of r)
  has = record {
    kept = rw view_is follow.kept;
    holds = holds.works;
    alone = λ left may. elim (holds.leaves left may) [ inl is ↦ is | inr none ↦ absurd none ];
  }

  then_is : contents_then set.accepts t.view e (contents_of r) ≡ contents_of (reading_then set r e)
  then_is = ap (λ (v : TargetView). contents_then set.accepts v e (contents_of r)) view_is ∙ contents_are set e r follow

  module _ (keeps : KeepsDisk old after.store new (contents_of r) (contents_then set.accepts t.view e (contents_of r)) result) (was : Image) (told : old.now was) where
    kept : KeepsDisk old after.store new (contents_of r) (contents_of (reading_then set r e)) result
    kept = subst (λ (next : TargetContents). KeepsDisk old after.store new (contents_of r) next result) then_is keeps

    either : (image : Image) → HoldsConfig image r.active ⊎ HoldsConfig image (reading_then set r e).active → HoldsOneOf (may_be_active (Is_up r) ++ may_be_active (reached set e (Is_up r))) image
    either image (inl old) = inl old
    either image (inr new) = inr (subst (λ (s : TargetStanding). HoldsOneOf (may_be_active s) image) (sym (reached_is set e r)) (inl new))

    pub adds_up : AddsInStep set e (Is_up r) old new
    adds_up = record {
      tells = goes.tells;
      later = goes.later;
      each = λ t u image may. elim (kept.adds.each t u image may) [ inl before ↦ inl before | inr is ↦ inr (either image is) ];
      here = λ image may. either image (kept.adds.here image may);
      first = λ t u image early may. elim (kept.first t u image early may) [
        | inl before ↦ inl before
        | inr is ↦ inr (record { before = was; left = told; active = r.active; held = has.alone was told; holds = is })
      ];
      earlier = goes.earlier;
    }

-- where it answers
view_then : (set : Setting) (e : Option Event) (r : TargetReading) → FollowsItsLog set r → target_next set.accepts (Some (target_view r)) e ≡ Some (target_view (reading_then set r e))
view_then set None r follow = refl
view_then set (Some e) r follow = ap (λ (v : TargetView). Some v) (sym (follow.view e))

pub up_holds : {R : Type 0} (set : Setting) (e : Option Event) (r : TargetReading) (t after : machine.TargetState R) (old new : DiskState) → ContentsFollowAt set (Is_up r) → HoldsRun set (Is_up r) (Some t) old
    → TimeGoesOn old new → Some after.view ≡ target_next set.accepts (Some t.view) e → HoldsContents after.store new (contents_then set.accepts t.view e (contents_of r))
    → ((left : Image) → new.now left → HoldsConfig left (contents_then set.accepts t.view e (contents_of r)).active) → HoldsRun set (reached set e (Is_up r)) (Some after) new
up_holds {R} set e r t after old new follow holds goes next contents alone =
    let view : t.view ≡ target_view r = let same = holds.kept in cc in
    let is : contents_then set.accepts t.view e (contents_of r) ≡ contents_of (reading_then set r e) =
    ap (λ (v : TargetView). contents_then set.accepts v e (contents_of r)) view ∙ contents_are set e r follow in
    let kept : Some after.view ≡ Some (target_view (reading_then set r e)) = next ∙ (ap (λ (v : TargetView). target_next set.accepts (Some v) e) view ∙ view_then set e r follow) in
    subst (λ (state : TargetStanding). HoldsRun set state (Some after) new) (sym (reached_is set e r)) (record {
      kept = kept;
      tells = goes.tells ∙ holds.tells;
      leaves = λ image may. inl (subst (λ (c : TargetContents). HoldsConfig image c.active) is (alone image may));
      works = subst (λ (c : TargetContents). HoldsContents after.store new c) is contents;
      apart = tt;
    })

-- where nothing reaches it
pub still_holds : {R : Type 0} (set : Setting) (state : TargetStanding) (target : Option (machine.TargetState R)) (disk : DiskState) → HoldsRun set state target disk → HoldsRun set (reached set None state) target disk
still_holds set (Is_up r) target disk holds = holds
still_holds set (Is_down active interrupted) target disk holds = holds

-- ---- an arming

pub arms_holds : {R : Type 0} (set : Setting) (state : TargetStanding) (target : Option (machine.TargetState R)) (old new : DiskState) (calls pick : ℕ) → HoldsRun set state target old → Arms calls pick old new
    → WorksOn set state target new → HoldsRun set (reached set None state) target new
arms_holds set state target old new calls pick holds arms works = still_holds set state target new (record {
  kept = holds.kept;
  tells = ap is_some arms.reads ∙ holds.tells;
  leaves = λ image may. holds.leaves image (arms.now image may);
  works = works;
  apart = holds.apart;
})

-- ---- a disk that tells its content

-- what a read gives
pub read_now : (disk : DiskState) → is_some disk.reads ≡ true → (image : Image) × (disk.reads ≡ Some image)
read_now disk tells = by disk.reads refl tells
  where
    by : (o : Option Image) → disk.reads ≡ o → is_some o ≡ true → (image : Image) × (disk.reads ≡ Some image)
    by None is tells = absurd cc
    by (Some image) is tells = (image, is)

-- ---- a target that is switched off and on

settled_still : (there new : DiskState) → IsSettled there → OnlyReads there new → ((image : Image) → new.reads ≡ Some image → new.now image) → IsSettled new
settled_still there new settled reads now = record {
  only = λ image may.
      let there_is : there.reads ≡ Some image = settled.only image (reads.now image may) in
      let (read, told) = read_now new (reads.tells ∙ ap is_some there_is) in
      let also : there.reads ≡ Some read = settled.only read (reads.now read (now read told)) in
      told ∙ (sym also ∙ there_is);
}

pub reboots_read : {T : Type 0} (old there new : DiskState) (result : Result T DiskFault) → Elapses old there old.now result → IsSettled there → OnlyReads there new → ((image : Image) → new.reads ≡ Some image → new.now image) → Reboots old new
reboots_read old there new result elapses settled reads now = record {
  no_more = both_no_more old there new (restart_no_more old there result elapses) (reads_no_more there new reads);
  settles = inr (settled_still there new settled reads now);
}

pub reboots_refused : {T : Type 0} (old new : DiskState) (result : Result T DiskFault) → Elapses old new old.now result → new.stopped ≡ true → Reboots old new
reboots_refused old new result elapses stopped = record { no_more = restart_no_more old new result elapses; settles = inl stopped }
