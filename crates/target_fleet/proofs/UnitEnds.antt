-- The units of a fleet end one after the other, and the others stay.
use Rattle.std.proofs.Common.{◌≡◌, ◌≢◌, ◌⊎◌, inl, inr, ℕ, zero, suc, ◌+◌, ◌<◌, ◌≤◌, List, [], ◌∷◌, ◌++◌, Bool, false, Option, Some, None, IfSome, length, arith, refl, sym, ap, subst, ◌∙◌}
use Rattle.std.specs.Prelude.{fold, is_some, map, option_map, remove, slice_get, slice_index_or}
use Rattle.std.proofs.lemmas.List.{append_cancel_right, length-append, map-append}
use Rattle.std.proofs.lemmas.List.Sums.{fold-append}
use Rattle.std.proofs.lemmas.Option.{slice_get_within}
use Rattle.accept_rules.specs.Permissions.{Accepts}
use Rattle.accept_rules.specs.declared.kept.KeptLoad.{KeptLoad}
use Rattle.disk_layout.specs.Holds.{standing_view}
use Rattle.disk_model.specs.State.{DiskState}
use Rattle.exchange_trace.specs.Happenings.{Ended, happening_view}
use Rattle.exchange_trace.specs.Steps.{Step, steps_of, with_line}
use Rattle.exchange_trace.specs.declared.trace.TraceStep.{TraceStep}
use Rattle.exchange_trace.specs.declared.trace.TraceStep.TheVariants as trace_lines
use Rattle.load_base.specs.Listed.{Listed}
use Rattle.load_header.specs.declared.header.LoadHeader.{LoadHeader}
use Rattle.loader_machine.specs.Machine.{media_of, session_view}
use Rattle.replay_rules.specs.BothEnds.{Setting}
use Rattle.replay_turns.specs.Orders.{Happens, SeenLine, lines_of, seen_line}
use Rattle.replay_turns.specs.Powers.{RoseBy, disk_stops}
use Rattle.upload_replay.specs.Drivers.{CanEnd, DriverState, HoldsUnit, IsTiedTo, StandsOn, end_step}
use Rattle.upload_replay.specs.Drives.{IsLoadersRun, IsUnitRun}
use Rattle.upload_replay.specs.Endings.{EndsUnit, FailedIfUnknown, IsEndFault, LeavesUnit}
use Rattle.upload_replay.specs.Lives.{LivesOn, LivesThrough}
use Rattle.upload_replay.specs.Moments.{Clocks, HoldsToEnd}
use Rattle.upload_replay.specs.declared.outcome.Drive.{Drive}
use Rattle.upload_replay.specs.declared.outcome.DriveFault.{DriveFault}
use Rattle.upload_replay.specs.declared.outcome.DriveFault.TheVariants as faults
use Rattle.target_fleet.specs.Boots.{fleet_fault_of}
use Rattle.target_fleet.specs.Ends.{AllEnd, AllLeaveNoMore, EndsDriver, EndsNext, FailsInEnds, FailsToEnd, LeavesAt, LeavesOlder}
use Rattle.target_fleet.specs.Units.{ChangesAt}
use Rattle.target_fleet.specs.declared.outcome.FleetFault.{FleetFault}
use Rattle.target_fleet.specs.declared.outcome.UnitEnd.{UnitEnd}
use Rattle.target_fleet.proofs.FirstBoots.{there_is}
use Rattle.target_fleet.proofs.Indexed.{changed_read, more_read, same_there, set_length, set_other, set_same}

-- ---- a trace without its end

last_same : {A : Type 0} (xs ys : List A) (x y : A) → xs ++ x ∷ [] ≡ ys ++ y ∷ [] → x ≡ y
last_same [] [] x y e = cc
last_same {A = A} [] (b ∷ ys) x y e = absurd (no_more ys y (let tails : ◌≡◌ {A = List A} [] (ys ++ y ∷ []) = cc in tails))
  where
    no_more : (ys : List A) (y : A) → ◌≡◌ {A = List A} [] (ys ++ y ∷ []) → ⊥
    no_more [] y e = cc
    no_more (b ∷ ys) y e = cc
last_same {A = A} (a ∷ xs) [] x y e = absurd (no_more xs x (let tails : xs ++ x ∷ [] ≡ [] = cc in tails))
  where
    no_more : (xs : List A) (x : A) → xs ++ x ∷ [] ≡ [] → ⊥
    no_more [] x e = cc
    no_more (b ∷ xs) x e = cc
last_same (a ∷ xs) (b ∷ ys) x y e = last_same xs ys x y cc

-- the end is a line that nothing follows
end_is : (line : TraceStep) → seen_line line ≡ Happens Ended → (steps : List Step) → with_line steps line ≡ end_step ∷ steps
end_is (trace_lines.Given h) is steps = let same : happening_view h ≡ Ended = cc in rw same refl
end_is (trace_lines.Posted d) is steps = absurd cc
end_is trace_lines.Down is steps = absurd cc
end_is (trace_lines.Up first_port sequence) is steps = absurd cc
end_is (trace_lines.BootRefused fault) is steps = absurd cc

pub without_last : (trace left : List TraceStep) (line : TraceStep) → trace ≡ left ++ line ∷ [] → LeavesOlder trace left
unfolding steps_of
without_last trace left line is steps ordered ended =
    let lines : map seen_line left ++ seen_line line ∷ [] ≡ lines_of steps ++ Happens Ended ∷ [] =
    sym (map-append seen_line left (line ∷ [])) ∙ (ap (map seen_line) (sym is) ∙ (ordered ∙ ap lines_of ended)) in
    let last = last_same (map seen_line left) (lines_of steps) (seen_line line) (Happens Ended) lines in
    let whole : fold with_line [] trace ≡ end_step ∷ fold with_line [] left =
    ap (fold with_line []) is ∙ (fold-append with_line [] left (line ∷ []) ∙ end_is line last (fold with_line [] left)) in
    let both = sym whole ∙ ended in
    let older : fold with_line [] left ≡ steps = cc in (
      older,
      append_cancel_right (map seen_line left) (lines_of steps) (Happens Ended ∷ []) (subst (λ (x : SeenLine). map seen_line left ++ x ∷ [] ≡ lines_of steps ++ Happens Ended ∷ []) last lines) ∙ ap lines_of (sym older),
    )

pub none_without : (trace : List TraceStep) → trace ≡ [] → (left : List TraceStep) → LeavesOlder trace left
unfolding steps_of
none_without trace none left steps ordered ended = let both : ◌≡◌ {A = List Step} [] (end_step ∷ steps) = ap (fold with_line []) (sym none) ∙ ended in absurd cc

-- ---- what an end leaves

pub leaves_same : (s : DiskState) → LeavesUnit s s
leaves_same s = record {
  power = record { steady = refl; armings = refl; armed = refl };
  faults = omega arith;
  no_more = record {
    tells = refl;
    later = omega arith;
    each = λ t u image may. inl may;
    now = λ image may. may;
    earlier = λ t u image lt may. may;
  };
}

module _ {K : Type 0} (state : K → DiskState) where
  pub all_leave_same : (disks : List K) → AllLeaveNoMore state disks disks
  all_leave_same disks i before after e f = subst (λ (k : K). LeavesUnit (state before) (state k)) (same_there disks i before after e f) (leaves_same (state before))

  -- where the disk of one index was changed last, and no other since the start
  pub all_leave_one : (index : ℕ) (before after : K) (old mid new : List K) → ChangesAt index before after mid new → slice_get mid index ≡ slice_get old index → LeavesUnit (state before) (state after)
      → AllLeaveNoMore state old mid → AllLeaveNoMore state old new
  all_leave_one index before after old mid new changes first leaves all i k0 k e f = by (changed_read index before after mid new changes i k f)
    where
      by : ((i ≡ index) × (k ≡ after)) ⊎ ((i ≢ index) × (slice_get mid i ≡ Some k)) → LeavesUnit (state k0) (state k)
      by (inl (here, is)) =
          let was : before ≡ k0 = same_there mid index before k0 changes.there (first ∙ subst (λ (n : ℕ). slice_get old n ≡ Some k0) here e) in
          subst (λ (x : K). LeavesUnit (state x) (state k)) was (subst (λ (x : K). LeavesUnit (state before) (state x)) (sym is) leaves)
      by (inr (other, there)) = all i k0 k e there

pub older_left : (trace left : List TraceStep) (popped : Option TraceStep) → IfSome popped (λ line. trace ≡ left ++ line ∷ []) → (is_some popped ≡ false → trace ≡ []) → LeavesOlder trace left
older_left trace left (Some line) some none = without_last trace left line some
older_left trace left None some none = none_without trace (none refl) left

-- ---- the next unit

pub first_removed : {A : Type 0} (xs : List A) (x : A) → 1 ≤ length xs → x ≡ slice_index_or xs 0 x → xs ≡ x ∷ remove xs 0
first_removed [] x some is = absurd (let no : ⊥ = omega (arith, some) in no)
first_removed {A = A} (y ∷ xs) x some is = ap (λ (first : A). first ∷ xs) (sym is)

pub first_taken : {A : Type 0} (xs left : List A) (x : A) → 1 ≤ length xs → x ≡ slice_index_or xs 0 x → left ≡ remove xs 0 → xs ≡ x ∷ left
first_taken {A = A} xs left x some is rest = first_removed xs x some is ∙ ap (λ (others : List A). x ∷ others) (sym rest)

module _ {R K : Type 0} (state : K → DiskState) (may_say : R → LoadHeader → List KeptLoad → Bool → Type 0) (d : DriverState R) (before after : K) where
  -- what the end of a driver promises, as one record
  pub driver_ended : (drive : Drive) (trace : Listed TraceStep) → LeavesOlder drive.trace.items trace.items → EndsUnit d drive (state before) (state after)
      → ((accepts : Accepts) → LivesOn may_say accepts d → LivesThrough (media_of d.loader.set) accepts (steps_of drive.trace.items))
      → ((set : Setting) → StandsOn may_say set d → IsTiedTo set d → IsUnitRun set (steps_of drive.trace.items) (map session_view drive.sessions.items) (option_map standing_view drive.standing))
      → ((set : Setting) (since : ℕ) (clocks : Clocks) → HoldsUnit set since clocks d (state before) → HoldsToEnd set (steps_of drive.trace.items) drive.standing since ((state before).clock ∷ clocks) (state after))
      → ((began : ℕ) → RoseBy (disk_stops d.steps) began (state before).faults → FailedIfUnknown drive.standing began (disk_stops d.steps) (state after))
      → LeavesUnit (state before) (state after) → EndsDriver state may_say d (record { sessions = drive.sessions; standing = drive.standing }) trace.items before after
  driver_ended drive trace older ended lives run held unknown leaves = record {
    own = (older d.steps ended.ordered ended.ended).0;
    ordered = (older d.steps ended.ordered ended.ended).1;
    ran = subst (λ (steps : List Step). IsLoadersRun (media_of d.loader.set) steps (map session_view drive.sessions.items)) ended.ended ended.ran;
    stands = ended.standing;
    lives = λ accepts on. subst (λ (steps : List Step). LivesThrough (media_of d.loader.set) accepts steps) ended.ended (lives accepts on);
    run = λ set stands tied. subst (λ (steps : List Step). IsUnitRun set steps (map session_view drive.sessions.items) (option_map standing_view drive.standing)) ended.ended (run set stands tied);
    held = λ set since clocks unit. subst (λ (steps : List Step). HoldsToEnd set steps drive.standing since ((state before).clock ∷ clocks) (state after)) ended.ended (held set since clocks unit);
    unknown = unknown;
    leaves = leaves;
  }

-- a refusal at the end of a driver is one of the fleet
pub fails_end : {K : Type 0} (state : K → DiskState) (index : ℕ) (cause : DriveFault) (old : DiskState) (after : K) (new : List K) → slice_get new index ≡ Some after → IsEndFault cause old (state after)
    → FailsToEnd state index (fleet_fault_of cause (index + 1)) new
fails_end state index faults.Link old after new there fails = absurd fails
fails_end state index faults.Disk old after new there fails = absurd fails
fails_end state index (faults.NoConfig fault) old after new there fails = record { unit_is = refl; disk = after; there = there; of_disk = fails.0; none = fails.1 }
fails_end state index faults.Memory old after new there fails = tt

-- what is left of the disks where one unit ended
pub leaves_at : {K : Type 0} (state : K → DiskState) (index : ℕ) (before after : K) (old new : List K) → ChangesAt index before after old new → LeavesUnit (state before) (state after) → LeavesAt state index old new
leaves_at {K = K} state index before after old new changes leaves = record {
  same = ap length changes.kept ∙ set_length old index after;
  others = λ i other. ap (λ (ks : List K). slice_get ks i) changes.kept ∙ set_other old index i after other;
  leaves = all_leave_one state index before after old old new changes refl leaves (all_leave_same state old);
}

-- where nothing was done yet
pub leaves_at_none : {K : Type 0} (state : K → DiskState) (index : ℕ) (disks : List K) → LeavesAt state index disks disks
leaves_at_none state index disks = record { same = refl; others = λ i other. refl; leaves = all_leave_same state disks }

same_or_not : (i j : ℕ) → (i ≡ j) ⊎ (i ≢ j)
same_or_not zero zero = inl refl
same_or_not zero (suc j) = inr (λ same. omega (arith, same))
same_or_not (suc i) zero = inr (λ same. omega (arith, same))
same_or_not (suc i) (suc j) = elim (same_or_not i j) [
  | inl same ↦ inl (ap suc same)
  | inr other ↦ inr (λ same. other (omega (arith, same)))
]

-- one unit more, whose disk was as at first
pub all_leave_then : {K : Type 0} (state : K → DiskState) (index : ℕ) (old mid new : List K) → AllLeaveNoMore state old mid → slice_get mid index ≡ slice_get old index → LeavesAt state index mid new → AllLeaveNoMore state old new
all_leave_then {K = K} state index old mid new before first at i k0 k e f = elim (same_or_not i index) [
  | inl here ↦ at.leaves i k0 k (ap (slice_get mid) here ∙ (first ∙ (ap (slice_get old) (sym here) ∙ e))) f
  | inr other ↦ before i k0 k e (sym (at.others i other) ∙ f)
]

-- ---- units so far

module _ {R K : Type 0} (state : K → DiskState) (may_say : R → LoadHeader → List KeptLoad → Bool → Type 0) (drivers : List (DriverState R)) (first : List K) where
  -- the units before this index ended, and the drivers and disks from it on are as they were
  pub record EndedSoFar (index : ℕ) (left : List (DriverState R)) (ends : List UnitEnd) (traces : List (Listed TraceStep)) (disks : List K) : Type 0 where
    pub rest : (i : ℕ) → slice_get left i ≡ slice_get drivers (index + i)
    pub many : length left + index ≡ length drivers
    pub ends_many : length ends ≡ index
    pub traces_many : length traces ≡ index
    pub same : length disks ≡ length first
    pub later : (i : ℕ) → index ≤ i → slice_get disks i ≡ slice_get first i
    pub ended : AllEnd state may_say drivers ends traces first disks
    pub leaves : AllLeaveNoMore state first disks

  pub ended_none : (ends : List UnitEnd) (traces : List (Listed TraceStep)) → length ends ≡ 0 → length traces ≡ 0 → EndedSoFar 0 drivers ends traces first
  ended_none ends traces no_ends no_traces = record {
    rest = λ i. ap (slice_get drivers) (let same : i ≡ 0 + i = omega arith in same);
    many = omega arith;
    ends_many = no_ends;
    traces_many = no_traces;
    same = refl;
    later = λ i from. refl;
    ended = λ i d end trace before after e f g h k. absurd (let no : ⊥ = omega (arith, slice_get_within ends i end f, no_ends) in no);
    leaves = all_leave_same state first;
  }

  module _ (index : ℕ) (left left_then : List (DriverState R)) (ends ends_then : List UnitEnd) (traces traces_then : List (Listed TraceStep)) (mid new : List K) (so_far : EndedSoFar index left ends traces mid) where
    -- the next unit's driver and disk
    pub next_can : ((i : ℕ) (d : DriverState R) (k : K) → slice_get drivers i ≡ Some d → slice_get first i ≡ Some k → CanEnd d (state k))
        → (d : DriverState R) (k : K) → slice_get left 0 ≡ Some d → slice_get mid index ≡ Some k → CanEnd d (state k)
    next_can all d k e f =
        all index d k (ap (slice_get drivers) (let same : index ≡ index + 0 = omega arith in same) ∙ (sym (so_far.rest 0) ∙ e)) (sym (so_far.later index (omega arith)) ∙ f)

    pub end_leaves : LeavesAt state index mid new → AllLeaveNoMore state first new
    end_leaves at = all_leave_then state index first mid new so_far.leaves (so_far.later index (omega arith)) at

    pub end_fails : (fault : FleetFault) → ((i : ℕ) → i ≢ index → slice_get new i ≡ slice_get mid i) → FailsToEnd state index fault new → FailsInEnds state may_say fault drivers first new
    end_fails fault others fails = record {
      index = index;
      fails = fails;
      before = λ i d k0 k lt e f g.
          let end = there_is ends i (let within : i < length ends = omega (arith, lt, so_far.ends_many) in within) in
          let trace = there_is traces i (let within : i < length traces = omega (arith, lt, so_far.traces_many) in within) in
          (end.0, trace.0.items, so_far.ended i d end.0 trace.0 k0 k e end.1 trace.1 f (sym (others i (λ here. omega (arith, here, lt))) ∙ g));
    }

    module _ (next : EndsNext state may_say index left left_then ends ends_then traces traces_then mid new) where
      old_there : slice_get first index ≡ Some next.before
      old_there = sym (so_far.later index (omega arith)) ∙ next.disk.there

      new_there : slice_get new index ≡ Some next.after
      new_there = ap (λ (ks : List K). slice_get ks index) next.disk.kept ∙ set_same mid index next.after next.before next.disk.there

      driver_there : slice_get drivers index ≡ Some next.driver
      driver_there = ap (slice_get drivers) (let same : index ≡ index + 0 = omega arith in same) ∙ (sym (so_far.rest 0) ∙ ap (λ (ds : List (DriverState R)). slice_get ds 0) next.first)

      here : (d : DriverState R) (end : UnitEnd) (trace : Listed TraceStep) (before after : K) (i : ℕ) → i ≡ index → end ≡ next.end → trace ≡ next.trace → slice_get drivers i ≡ Some d → slice_get first i ≡ Some before → slice_get new i ≡ Some after
          → EndsDriver state may_say d end trace.items before after
      here d end trace before after i at_index is_end is_trace e f g =
          let is_driver = same_there drivers index next.driver d driver_there (subst (λ (n : ℕ). slice_get drivers n ≡ Some d) at_index e) in
          let is_old = same_there first index next.before before old_there (subst (λ (n : ℕ). slice_get first n ≡ Some before) at_index f) in
          let is_new = same_there new index next.after after new_there (subst (λ (n : ℕ). slice_get new n ≡ Some after) at_index g) in
          subst (λ (x : DriverState R). EndsDriver state may_say x end trace.items before after) is_driver
          (subst (λ (x : UnitEnd). EndsDriver state may_say next.driver x trace.items before after) (sym is_end)
          (subst (λ (x : Listed TraceStep). EndsDriver state may_say next.driver next.end x.items before after) (sym is_trace)
          (subst (λ (x : K). EndsDriver state may_say next.driver next.end next.trace.items x after) is_old
          (subst (λ (x : K). EndsDriver state may_say next.driver next.end next.trace.items next.before x) is_new next.ended))))

      all_ended : AllEnd state may_say drivers ends_then traces_then first new
      all_ended i d end trace before after e f g h k =
          by (more_read ends i next.end end (ap (λ (all : List UnitEnd). slice_get all i) (sym next.ends_more) ∙ f)) (more_read traces i next.trace trace (ap (λ (all : List (Listed TraceStep)). slice_get all i) (sym next.traces_more) ∙ g))
        where
          by : ((i ≡ length ends) × (end ≡ next.end)) ⊎ ((i < length ends) × (slice_get ends i ≡ Some end)) → ((i ≡ length traces) × (trace ≡ next.trace)) ⊎ ((i < length traces) × (slice_get traces i ≡ Some trace))
              → EndsDriver state may_say d end trace.items before after
          by (inl (here_end, is_end)) (inl (here_trace, is_trace)) = here d end trace before after i (here_end ∙ so_far.ends_many) is_end is_trace e h k
          by (inl (here_end, is_end)) (inr (below, there)) = absurd (let no : ⊥ = omega (arith, here_end, below, so_far.ends_many, so_far.traces_many) in no)
          by (inr (below, there)) (inl (here_trace, is_trace)) = absurd (let no : ⊥ = omega (arith, here_trace, below, so_far.ends_many, so_far.traces_many) in no)
          by (inr (below, end_there)) (inr (low, trace_there)) =
              so_far.ended i d end trace before after e end_there trace_there h
              (sym (ap (λ (ks : List K). slice_get ks i) next.disk.kept ∙ set_other mid index i next.after (λ at_index. omega (arith, at_index, below, so_far.ends_many))) ∙ k)

      pub ended_more : EndedSoFar (index + 1) left_then ends_then traces_then new
      ended_more = record {
        rest = λ i. ap (λ (ds : List (DriverState R)). slice_get ds (suc i)) (sym next.first) ∙ (so_far.rest (suc i) ∙ ap (slice_get drivers) (let same : index + suc i ≡ index + 1 + i = omega arith in same));
        many = let counted = ap length next.first in let was = so_far.many in omega (arith, counted, was);
        ends_many = let counted = ap length next.ends_more ∙ length-append ends (next.end ∷ []) in let was = so_far.ends_many in omega (arith, counted, was);
        traces_many = let counted = ap length next.traces_more ∙ length-append traces (next.trace ∷ []) in let was = so_far.traces_many in omega (arith, counted, was);
        same = ap length next.disk.kept ∙ (set_length mid index next.after ∙ so_far.same);
        later = λ i from. ap (λ (ks : List K). slice_get ks i) next.disk.kept ∙ (set_other mid index i next.after (λ here. omega (arith, here, from)) ∙ so_far.later i (omega (arith, from)));
        ended = all_ended;
        leaves = all_leave_one state index next.before next.after first mid new next.disk (so_far.later index (omega arith)) next.ended.leaves so_far.leaves;
      }
