-- What the disk of a run holds, moment by moment.
use Rattle.std.proofs.Common.{◌≡◌, inl, inr, ℕ, ◌<◌, ◌≤◌, List, [], ◌∷◌, ◌++◌, true, false, Bool, Option, Some, None, refl, arith}
use Rattle.std.specs.Prelude.{nat_lt}
use Rattle.std.proofs.lemmas.Bool.Decides.{nat_tests}
use Rattle.disk_model.specs.Image.{Image}
use Rattle.disk_model.specs.State.{DiskState}
use Rattle.disk_layout.specs.Holds.{StandingView}
use Rattle.exchange_trace.specs.declared.trace.Side.TheVariants as sides
use Rattle.exchange_trace.specs.Happenings.{DatagramView}
use Rattle.exchange_trace.specs.Logs.{Event, event_for}
use Rattle.exchange_trace.specs.Posts.{posted_in}
use Rattle.exchange_trace.specs.Steps.{Boot_refused, Came_up, Note, Step, Went_down}
use Rattle.session_rules.specs.Target.{TargetView}
use Rattle.load_intake.specs.Contents.{AddsAtFirst}
use Rattle.replay_rules.specs.BothEnds.{Is_down, Is_up, Setting, TargetStanding, gone_down, noted, reached, target_at}
use Rattle.replay_rules.specs.ContentTraces.{ContentsFollowAt}
use Rattle.replay_rules.specs.Histories.{may_be_active}
use Rattle.replay_rules.specs.Promises.{AllMoments, HoldsOneOf}
use Rattle.target_machine.specs.Decisions as machine
use Rattle.replay_turns.proofs.StepLemmas.{OneStanding, alike, gone_leaves, one_left, one_of_either, one_right}
use Rattle.replay_turns.specs.StepsOnDisks.{AddsInStep, BootIsTold, HoldsAsBefore, HoldsRun}
use Rattle.replay_turns.specs.Targets.{TargetTurns}
use Rattle.upload_replay.specs.Moments.{AreClocks, HeldSoFar}

-- ---- moment by moment

-- what a step adds keeps what was said of the moments before
module _ (set : Setting) (old new : DiskState) (one : OneStanding) (counts : (t u : ℕ) (image : Image) → t ≤ old.clock → old.clock ≤ u → old.now image → old.between t u image)
    (first : AddsAtFirst old new (HoldsAsBefore old)) (earlier : (t u : ℕ) (image : Image) → u < old.clock → new.between t u image → old.between t u image) where
  each_kept : (t u : ℕ) (members : List StandingView) → t ≤ u → u ≤ old.clock → ((image : Image) → old.between t u image → HoldsOneOf members image) → (image : Image) → new.between t u image → HoldsOneOf members image
  each_kept t u members order within each image may = by (nat_lt u old.clock) refl
    where
      by : (b : Bool) → nat_lt u old.clock ≡ b → HoldsOneOf members image
      by true before = each image (earlier t u image (grind (arith, nat_tests, before)) may)
      by false now = elim (first t u image within may) [
        | inl was ↦ each image was
        | inr h ↦ alike one members h.before image h.active h.held h.holds (each h.before (counts t u h.before (omega (arith, order, within)) (grind (arith, nat_tests, now)) h.left))
      ]

  pub moments_kept : (since end : ℕ) (clocks : List ℕ) (steps : List Step) → end ≤ old.clock → AreClocks since end clocks steps → AllMoments old.between set end clocks steps → AllMoments new.between set end clocks steps
  moments_kept since end clocks [] within timed moments = tt
  moments_kept since end [] (s ∷ earlier) within timed moments = absurd timed
  moments_kept since end (clock ∷ clocks) (s ∷ steps) within (order, timed) (each, last, moments) = (
    each_kept clock end (may_be_active (target_at set steps) ++ may_be_active (target_at set (s ∷ steps))) order within each,
    each_kept end end (may_be_active (target_at set (s ∷ steps))) (omega arith) within last,
    moments_kept since clock clocks steps (omega (arith, order, within)) timed moments,
  )

-- what may be active before a step or once something reached the target in it is among what may be active before or after it
after_boot : (set : Setting) (e : Option Event) (state : TargetStanding) (image : Image) (others : List StandingView) → e ≡ None → HoldsOneOf (may_be_active state ++ may_be_active (reached set e state)) image
    → HoldsOneOf (may_be_active state ++ others) image
after_boot set None (Is_up r) image others none is = elim (one_of_either image (may_be_active (Is_up r)) (may_be_active (Is_up r)) is) [
  | inl one ↦ one_left image (may_be_active (Is_up r)) others one
  | inr one ↦ one_left image (may_be_active (Is_up r)) others one
]
after_boot set None (Is_down active interrupted) image others none is = elim (one_of_either image (may_be_active (Is_down active interrupted)) (may_be_active (Is_down active interrupted)) is) [
  | inl one ↦ one_left image (may_be_active (Is_down active interrupted)) others one
  | inr one ↦ one_left image (may_be_active (Is_down active interrupted)) others one
]
after_boot set (Some e) state image others none is = absurd (let wrong : Some e ≡ None = none in cc)

pub noted_covers : (set : Setting) (e : Option Event) (state : TargetStanding) (before after : Option TargetView) (posts : List DatagramView) (notes : List Note) (image : Image) → ContentsFollowAt set state
    → TargetTurns set e state before after posts notes → HoldsOneOf (may_be_active state ++ may_be_active (reached set e state)) image → HoldsOneOf (may_be_active state ++ may_be_active (noted notes state (reached set e state))) image
noted_covers set e state before after posts [] image follow turns is = is
noted_covers set e state before after posts (Went_down ∷ []) image follow turns is =
    one_right image (may_be_active state) (may_be_active (gone_down state (reached set e state))) (gone_leaves set e state image follow is)
noted_covers set e state before after posts (Boot_refused fault ∷ []) image follow turns is = after_boot set e state image _ turns.2 is
noted_covers set e state before after posts (Came_up first_port sequence ∷ []) image follow turns is = after_boot set e state image _ turns.2 is
noted_covers set e state before after posts (Went_down ∷ note ∷ notes) image follow turns is = absurd turns
noted_covers set e state before after posts (Boot_refused fault ∷ note ∷ notes) image follow turns is = absurd turns
noted_covers set e state before after posts (Came_up first_port sequence ∷ note ∷ notes) image follow turns is = absurd turns

-- a step more
module _ {R : Type 0} (set : Setting) (old new : DiskState) (one : OneStanding) (counts : (t u : ℕ) (image : Image) → t ≤ old.clock → old.clock ≤ u → old.now image → old.between t u image)
    (only : (t u : ℕ) (image : Image) → old.clock ≤ t → old.between t u image → old.now image) (only_then : (t u : ℕ) (image : Image) → new.clock ≤ t → new.between t u image → new.now image) where
  pub held_on : (since : ℕ) (clocks : List ℕ) (steps : List Step) (s : Step) (target target_then : Option (machine.TargetState R)) (before after : Option TargetView) (posts : List DatagramView) → ContentsFollowAt set (target_at set steps) → BootIsTold (target_at set (s ∷ steps)) s.notes
      → TargetTurns set (event_for sides.Target (posted_in steps) s.given) (target_at set steps) before after posts s.notes
      → AddsInStep set (event_for sides.Target (posted_in steps) s.given) (target_at set steps) old new → HoldsRun set (target_at set (s ∷ steps)) target_then new
      → HeldSoFar set since clocks steps target old → HeldSoFar set since (old.clock ∷ clocks) (s ∷ steps) target_then new
  held_on since clocks steps s target target_then before after posts follow boots turns adds holds so_far =
      let e = event_for sides.Target (posted_in steps) s.given in
      let state = target_at set steps in
      record {
        holds = holds;
        timed = (adds.later, so_far.timed);
        boots = (boots, so_far.boots);
        moments = (
          λ image may. elim (adds.each old.clock new.clock image may) [
            | inl was ↦ one_left image (may_be_active state) (may_be_active (target_at set (s ∷ steps))) (so_far.holds.leaves image (only old.clock new.clock image (omega arith) was))
            | inr is ↦ noted_covers set e state before after posts s.notes image follow turns is
          ],
          λ image may. holds.leaves image (only_then new.clock new.clock image (omega arith) may),
          moments_kept set old new one counts adds.first adds.earlier since old.clock clocks steps (omega arith) so_far.timed so_far.moments,
        );
      }
