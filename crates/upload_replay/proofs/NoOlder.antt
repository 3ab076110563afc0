-- Proofs that all that may be active is of the target that a run began on, and not older than what was active at first.
use Rattle.std.proofs.Common.{inl, inr, ℕ, cond, List, [], ◌∷◌, ◌++◌, Bool, true, false, Option, Some, None, refl, sym, ap, subst, ◌∙◌, arith}
use Rattle.std.specs.Prelude.{◌==◌}
use Rattle.std.specs.List.{AllByRecursion}
use Rattle.disk_model.specs.Image.{Image}
use Rattle.disk_model.specs.Moments.{LeavesOnly}
use Rattle.disk_model.specs.State.{DiskState}
use Rattle.disk_layout.specs.Holds.{StandingView}
use Rattle.exchange_trace.specs.declared.trace.Side.TheVariants as sides
use Rattle.exchange_trace.specs.Happenings.{HappeningView}
use Rattle.exchange_trace.specs.Logs.{Event, event_for}
use Rattle.exchange_trace.specs.Posts.{posted_in}
use Rattle.exchange_trace.specs.Steps.{Boot_refused, Came_up, Note, Step, Went_down}
use Rattle.link_net.specs.Links.{LinkState}
use Rattle.session_rules.specs.Contents.{SessionContents, TargetContents, contents_changed, contents_of, contents_turned, reached as row_reached, reached_last}
use Rattle.session_rules.specs.Target as Target
use Rattle.session_rules.specs.Target.{TargetChange, target_decision}
use Rattle.session_rules.specs.TargetLog.{TargetReading, standing_in, target_extended, target_view}
use Rattle.session_rules.specs.TargetRows.{Awaits_lur, Gives_denial, Gives_lci, Gives_lui, Over, Reads_file, RowMove, WholeRow, Writes_completion, Writes_lcl, Writes_lcs, Writes_progress, Writes_ready, Writes_stop, first_row, row_moved}
use Rattle.replay_rules.specs.BothEnds.{Is_down, Is_up, Setting, TargetStanding, come_up, gone_down, noted, reached, settled, target_at}
use Rattle.replay_rules.specs.ContentTraces.{ContentsFollowAt, ContentsFollowTraces}
use Rattle.replay_rules.specs.Histories.{may_be_active}
use Rattle.replay_rules.specs.Promises.{HoldsOneOf}
use Rattle.upload_replay.specs.Leaves.{HoldsNoOlder, IsNoOlder, LeavesHistory, all_active, brought_last}
use Rattle.upload_replay.specs.declared.outcome.Drive.{Drive}
use Rattle.upload_replay.specs.declared.outcome.DriveFault.{DriveFault}
use Rattle.std.specs.Prelude.{Result}

itself : (s : StandingView) → IsNoOlder s s
itself s = record { identity = refl; sequence = omega arith }

later : (a b c : StandingView) → IsNoOlder a b → IsNoOlder b c → IsNoOlder a c
later a b c first second = record { identity = second.identity ∙ first.identity; sequence = omega (arith, first.sequence, second.sequence) }

-- ---- one event

in_row : (s : StandingView) (row : WholeRow) → IsNoOlder s (standing_in s row)
in_row s Gives_lci = itself s
in_row s Writes_lcs = itself s
in_row s Writes_lcl = itself s
in_row s Gives_lui = itself s
in_row s Gives_denial = itself s
in_row s Writes_ready = itself s
in_row s Awaits_lur = itself s
in_row s (Reads_file u) = itself s
in_row s (Writes_progress u) = itself s
in_row s (Writes_stop e) = itself s
in_row s (Writes_completion e loads) = record { identity = refl; sequence = omega arith }
in_row s Over = itself s

turned : (active : StandingView) (live : Option SessionContents) (move : RowMove) (more : List ℕ) → IsNoOlder active (contents_turned row_reached active live move more).active
turned active None move more = itself active
turned active (Some x) move more = in_row active (row_moved x.row (x.arrived ++ more) move)

turned_last : (active : StandingView) (live : Option SessionContents) (move : RowMove) (more : List ℕ) → IsNoOlder active (contents_turned reached_last active live move more).active
turned_last active None move more = itself active
turned_last active (Some x) move more = in_row active (row_moved x.row (x.arrived ++ more) move)

changed : (c : TargetContents) (change : TargetChange) → IsNoOlder c.active (contents_changed c change).active
changed c (Target.Continues more) = itself c.active
changed c (Target.Begins kind) = in_row c.active (first_row kind c.active.sequence)
changed c (Target.Turns move more) = turned c.active c.live move more
changed c (Target.Turns_without_port move more) = turned_last c.active c.live move more
changed c (Target.Ends reason) = itself c.active

-- ---- one step

module _ (follows : ContentsFollowTraces) (set : Setting) where
  extended : (r : TargetReading) (e : Event) → ContentsFollowAt set (Is_up r) → IsNoOlder r.active (target_extended set.accepts r e).active
  extended r e follow = subst (λ (s : StandingView). IsNoOlder r.active s) (sym (ap (λ (c : TargetContents). c.active) (follow.contents e))) (changed (contents_of r) (target_decision set.accepts (target_view r) e).change)

  abbrev AreNoOlder : List StandingView → Type 0
  AreNoOlder members = AllByRecursion (IsNoOlder set.start) members

  abbrev AllNoOlder : TargetStanding → Type 0
  AllNoOlder state = AreNoOlder (may_be_active state)

  gone_if : (before after : StandingView) (same : Bool) → IsNoOlder set.start before → IsNoOlder set.start after → AllNoOlder (Is_down before (cond same None (Some after)))
  gone_if before after true was then = (was, tt)
  gone_if before after false was then = (was, (then, tt))

  gone : (before after : TargetStanding) → AllNoOlder before → AllNoOlder after → AllNoOlder (gone_down before after)
  gone (Is_up r) (Is_up s) (was, none) (then, nothing) = gone_if r.active s.active (r.active.sequence == s.active.sequence) was then
  gone (Is_up r) (Is_down active interrupted) was then = then
  gone (Is_down active interrupted) after was then = was

  settled_on : (sequence : ℕ) (active : StandingView) (interrupted : Option StandingView) → AllNoOlder (Is_down active interrupted) → IsNoOlder set.start (settled sequence active interrupted)
  settled_on sequence active None (was, none) = was
  settled_on sequence active (Some new) (was, (then, none)) = by (sequence == new.sequence)
    where
      by : (b : Bool) → IsNoOlder set.start (cond b new active)
      by true = then
      by false = was

  came : (first_port sequence : ℕ) (state : TargetStanding) → AllNoOlder state → AllNoOlder (come_up first_port sequence state)
  came first_port sequence (Is_up r) was = was
  came first_port sequence (Is_down active interrupted) was = (settled_on sequence active interrupted was, tt)

  after_notes : (notes : List Note) (before after : TargetStanding) → AllNoOlder before → AllNoOlder after → AllNoOlder (noted notes before after)
  after_notes [] before after was then = then
  after_notes (Went_down ∷ notes) before after was then = let down = gone before after was then in after_notes notes (gone_down before after) (gone_down before after) down down
  after_notes (Came_up first_port sequence ∷ notes) before after was then =
      let up = came first_port sequence (gone_down before after) (gone before after was then) in
      after_notes notes (come_up first_port sequence (gone_down before after)) (come_up first_port sequence (gone_down before after)) up up
  after_notes (Boot_refused fault ∷ notes) before after was then = let down = gone before after was then in after_notes notes (gone_down before after) (gone_down before after) down down

  reaches : (e : Option Event) (state : TargetStanding) → ContentsFollowAt set state → AllNoOlder state → AllNoOlder (reached set e state)
  reaches None (Is_up r) follow was = was
  reaches (Some e) (Is_up r) follow (was, none) = (later set.start r.active _ was (extended r e follow), tt)
  reaches None (Is_down active interrupted) follow was = was
  reaches (Some e) (Is_down active interrupted) follow was = was

  -- ---- all steps

  now : (steps : List Step) → AllNoOlder (target_at set steps)
  now [] = (itself set.start, tt)
  now (s ∷ earlier) =
      let was = now earlier in
      after_notes s.notes (target_at set earlier) _ was (reaches (event_for sides.Target (posted_in earlier) s.given) (target_at set earlier) (follows set earlier) was)

  both : (some others : List StandingView) → AreNoOlder some → AreNoOlder others → AreNoOlder (some ++ others)
  both [] others first second = second
  both (s ∷ some) others (one, first) second = (one, both some others first second)

  in_turn : (steps : List Step) → AreNoOlder (all_active set steps)
  in_turn [] = now []
  in_turn (s ∷ earlier) = both (may_be_active (target_at set (s ∷ earlier))) (all_active set earlier) (now (s ∷ earlier)) (in_turn earlier)

  brought : (steps : List Step) (last : Option HappeningView) → AreNoOlder (brought_last set steps last)
  brought steps None = tt
  brought steps (Some h) = reaches (event_for sides.Target (posted_in steps) h) (target_at set steps) (follows set steps) (now steps)

  pub all_no_older : (steps : List Step) (last : Option HappeningView) → AllByRecursion (IsNoOlder set.start) (brought_last set steps last ++ all_active set steps)
  all_no_older steps last = both (brought_last set steps last) (all_active set steps) (brought steps last) (in_turn steps)

  -- ---- what is left

  one : (members : List StandingView) (image : Image) → AreNoOlder members → HoldsOneOf members image → HoldsNoOlder set.start image
  one [] image all is = absurd is
  one (s ∷ others) image (first, rest) (inl holds) = record { active = s; holds = holds; no_older = first }
  one (s ∷ others) image (first, rest) (inr other) = one others image rest other

  pub left_no_older : (began link : LinkState) (since : ℕ) (disk : DiskState) (result : Result Drive DriveFault) → LeavesHistory set began link since disk result → LeavesOnly since (HoldsNoOlder set.start) disk
  left_no_older began link since disk result left = record {
    each = λ u image may. one (brought_last set left.steps left.last ++ all_active set left.steps) image (all_no_older left.steps left.last) (left.each u image may);
    here = λ image may. one (brought_last set left.steps left.last ++ may_be_active (target_at set left.steps)) image
        (both (brought_last set left.steps left.last) (may_be_active (target_at set left.steps)) (brought left.steps left.last) (now left.steps)) (left.here image may);
  }
