-- A fault-free run that is left to a script's `finish` completes.
use Rattle.std.proofs.Common.{◌≡◌, ℕ, zero, suc, ◌+◌, ◌<◌, ◌≤◌, Bool, true, false, not, cond, ◌&&◌, List, [], ◌∷◌, ◌++◌, length, Option, Some, None, refl, sym, ap, subst, ◌∙◌, arith, append_assoc, length-append, inl, inr, ◌⊎◌, ⊎_elim}
use Rattle.std.specs.Prelude.{is_some, slice_get, filter, option_map, if◌then◌else◌, ◌||◌}
use Rattle.std.specs.List.{AllByRecursion, AllZip, range_with_len}
use Rattle.std.proofs.lemmas.List.{length-map}
use Rattle.std.proofs.lemmas.Slice.Zip.{AllZip-long}
use Rattle.exchange_trace.specs.declared.trace.Side.{Side}
use Rattle.exchange_trace.specs.declared.trace.Side.TheVariants as sides
use Rattle.exchange_trace.specs.Following.{Deliveries, Finishing, Nothing_left, Plan, Rest, Scene, Turn, begins, delivered_next, delivery, delivery_of_first, finishing, finishing_tick, from_lines, goes_on, least_delivery, loss, next_turn, once, or_else, ticked_side}
use Rattle.exchange_trace.proofs.FollowingLemmas.{end_is_last, following_is_honest}
use Rattle.exchange_trace.specs.Happenings.{Booted, DatagramView, Delivered, Ended, HappeningView, Info_started, Injected, Lost, Power_cut, Size_told, Ticked, Upload_started, other}
use Rattle.exchange_trace.specs.Lines.{Blksize, Boot, Finish, Give, Info, Inject, Line, Lose, Next, Power, Tick, Upload as Starts}
use Rattle.exchange_trace.specs.Posts.{NamesOnlyPosted, happenings_of, is_undelivered, numbered, posted_in, undelivered, undelivered_after, was_delivered, was_lost}
use Rattle.exchange_trace.specs.Steps.{Step}
use Rattle.session_rules.specs.declared.outcome.SessionKind.TheVariants.{Upload}
use Rattle.session_rules.specs.Loader.{LoaderView}
use Rattle.replay_rules.specs.BothEnds.{Setting, loader_at, target_at, waiting, Is_down, Is_up, TargetStanding}
use Rattle.replay_rules.specs.Changes.{AllBroughtAreGood, AllCarryBytes, AllStayOrAreNew, ChangesAreNew, InstallsAreGood}
use Rattle.replay_rules.specs.Due.{AllNoted, is_up}
use Rattle.replay_rules.specs.FaultFree.{HasPorts, IsFaultFree, IsGranted, IsSmooth, NothingInjected, ports_for}
use Rattle.replay_rules.specs.Histories.{active_at, active_by, active_in}
use Rattle.replay_rules.specs.MediaTraces.{InstallsAreOfMedia}
use Rattle.replay_rules.specs.OtherEndTraces.{IsUninjected}
use Rattle.replay_rules.specs.OwnSessionTraces.{AllInstalledInSession, CompletedInSession, NoneStarts}
use Rattle.replay_rules.specs.Promises.{AllOfMedia, EndsOnce, HasCompleted, NoneGoesDown}
use Rattle.replay_rules.specs.Runs.{TraceFollows, IsQuiet, IsWithinMargin, plan_at, scene_at}
use Rattle.transfer_completion.proofs.BlockLemmas.{eq_false}
use Rattle.session_completion.proofs.Followed.{Names, named_at, named_within, At, LeftAt, NoEnds, due_of_before, finish_is, follows_before}
use Rattle.accept_rules.specs.Permissions.{AcceptsPermitted}
use Rattle.disk_layout.specs.Contents.{entries_of, entry_of}
use Rattle.disk_layout.specs.Holds.{Outline, StandingView, outline_of}
use Rattle.load_base.specs.Config.{LoadView}
use Rattle.load_protocol_files.specs.declared.lur.Wanted.{Wanted}
use Rattle.load_protocol_files.specs.Lur.{WantedFits}
use Rattle.transfer_end.specs.Readings.{next_port_of}
use Rattle.session_rules.proofs.InstallationLemmas.{good_are_checked}
use Rattle.session_rules.proofs.KeptLemmas.{installed_same}
use Rattle.session_rules.specs.KeptLoads.{kept_entries, types_of, with_kept}
use Rattle.session_rules.specs.NewConfigs.{IsWanted}
use Rattle.session_rules.specs.Target.{TargetView, outline_after}
use Rattle.session_rules.specs.TargetLog.{TargetReading, standing_after, target_view}
use Rattle.replay_rules.specs.Ties.{StepKeepsTie, kept_by}
use Rattle.session_completion.specs.Clean.{AreAmong}
use Rattle.session_completion.specs.FaultFreeRuns.{FaultFreeRunsComplete, IsNamed}
use Rattle.session_completion.specs.FinishedRuns.{FinishCompletes, IsLeftToFinish}
use Rattle.session_completion.specs.Worlds.{World, waits}
use Rattle.replay_rules.specs.AskedTraces.{EntriesFit}
use Rattle.session_completion.proofs.Brought.{IsInstalledOver, KnowsBrought, active_is_installed, begun_at, same_first}
use Rattle.session_completion.proofs.Contents.{loads_same}
use Rattle.session_completion.proofs.FaultFreeRuns.{live_so, posted_since, target_so}
use Rattle.session_completion.proofs.GoodUploads.{wanted_are}
use Rattle.session_completion.proofs.Finishing.{IsQuietly, all_quietly, begins_finish}
use Rattle.session_completion.proofs.LastFinish.{some_left}

-- ---- what a script names was posted

abbrev Names_posted : ℕ → HappeningView → Type 0
Names_posted count (Delivered side n) = n ≤ count
Names_posted count (Lost n) = n ≤ count
Names_posted count h = Unit {0}

abbrev IfGiven : ℕ → Option Turn → Type 0
IfGiven count None = Unit {0}
IfGiven count (Some t) = Names_posted count t.given

abbrev IfHappens : ℕ → Option HappeningView → Type 0
IfHappens count None = Unit {0}
IfHappens count (Some h) = Names_posted count h

module _ (s : Scene) where
  abbrev count : ℕ
  count = length s.posted

  delivery_named : (n : ℕ) → IfHappens count (delivery s n)
  delivery_named n = by (numbered s.posted n) refl
    where
      by : (o : Option DatagramView) → numbered s.posted n ≡ o → IfHappens (length s.posted) (option_map (λ (d : DatagramView). Delivered (other d.side) n) o)
      by None e = tt
      by (Some d) e = named_within s.posted n d e

  loss_named : (n : ℕ) → IfHappens count (loss s n)
  loss_named n = by (was_delivered n s.happenings) (numbered s.posted n) refl
    where
      by : (b : Bool) (o : Option DatagramView) → numbered s.posted n ≡ o → IfHappens (length s.posted) (if b then None else option_map (λ (d : DatagramView). Lost n) o)
      by true o e = tt
      by false None e = tt
      by false (Some d) e = named_within s.posted n d e

  first_named : (ns : List ℕ) → IfHappens count (delivery_of_first s ns)
  first_named [] = tt
  first_named (n ∷ ns) = delivery_named n

  once_named : (lines : List Line) (o : Option HappeningView) → IfHappens count o → IfGiven count (once lines o)
  once_named lines None h = tt
  once_named lines (Some x) h = h

  next_named : (k : ℕ) (lines : List Line) (o : Option HappeningView) → IfHappens count o → IfGiven count (delivered_next k lines o)
  next_named k lines None h = tt
  next_named k lines (Some x) h = h

  tick_named : (lines : List Line) (o : Option Side) → IfGiven count (finishing_tick lines o)
  tick_named lines None = tt
  tick_named lines (Some side) = tt

  finishing_named : (first : Side) (lines : List Line) (o : Option HappeningView) → IfHappens count o → IfGiven count (finishing s first lines o)
  finishing_named first lines None h = tick_named lines (ticked_side s first)
  finishing_named first lines (Some x) h = h

  goes_named : (rest : Rest) (lines : List Line) → IfGiven count (goes_on s rest lines)
  goes_named Nothing_left lines = tt
  goes_named (Deliveries zero) lines = tt
  goes_named (Deliveries (suc k)) lines = next_named k lines (least_delivery s) (first_named (undelivered (length s.posted) s.happenings))
  goes_named (Finishing first) lines = finishing_named first lines (least_delivery s) (first_named (undelivered (length s.posted) s.happenings))

  begins_named : (line : Line) (lines : List Line) → IfGiven count (begins s line lines)
  begins_named (Info hw pos) lines = tt
  begins_named (Starts hw pos parts) lines = tt
  begins_named (Give n) lines = once_named lines (delivery s n) (delivery_named n)
  begins_named (Lose n) lines = once_named lines (loss s n) (loss_named n)
  begins_named (Next k) lines = goes_named (Deliveries k) lines
  begins_named (Tick side) lines = tt
  begins_named (Inject d) lines = tt
  begins_named (Power calls pick) lines = tt
  begins_named Boot lines = tt
  begins_named (Blksize size) lines = tt
  begins_named Finish lines = goes_named (Finishing sides.Loader) lines

  else_named : (o : Option Turn) (later : Turn) → IfGiven count o → Names_posted count later.given → Names_posted count (or_else o later).given
  else_named None later h rest = rest
  else_named (Some t) later h rest = h

  lines_named : (lines : List Line) → Names_posted count (from_lines s lines).given
  lines_named [] = tt
  lines_named (line ∷ lines) = else_named (begins s line lines) (from_lines s lines) (begins_named line lines) (lines_named lines)

  turn_named : (p : Plan) → Names_posted count (next_turn s p).given
  turn_named p = else_named (goes_on s p.rest p.lines) (from_lines s p.lines) (goes_named p.rest p.lines) (lines_named p.lines)

still_undelivered : (count : ℕ) (h : HappeningView) (hs : List HappeningView) (m : ℕ) → Names_posted count h → count < m → is_undelivered hs m ≡ true → is_undelivered (h ∷ hs) m ≡ true
still_undelivered count (Delivered side n) hs m named lt e = rw (eq_false n m (λ same. absurd (omega (arith, named, lt, same)))) e
still_undelivered count (Lost n) hs m named lt e = rw (eq_false n m (λ same. absurd (omega (arith, named, lt, same)))) e
still_undelivered count (Injected d) hs m named lt e = e
still_undelivered count (Ticked side) hs m named lt e = e
still_undelivered count (Size_told size) hs m named lt e = e
still_undelivered count (Power_cut calls pick) hs m named lt e = e
still_undelivered count Booted hs m named lt e = e
still_undelivered count (Info_started hw pos) hs m named lt e = e
still_undelivered count (Upload_started hw pos parts) hs m named lt e = e
still_undelivered count Ended hs m named lt e = e

names_only : (set : Setting) (script : List Line) (steps : List Step) → TraceFollows set script steps → NamesOnlyPosted (length (posted_in steps)) (happenings_of steps)
names_only set script [] follows m lt = refl
names_only set script (s ∷ earlier) follows m lt =
    let named : Names_posted (length (posted_in earlier)) s.given = subst (λ (h : HappeningView). Names_posted (length (posted_in earlier)) h) (sym follows.0) (turn_named (scene_at set earlier) (plan_at set script earlier)) in
    let sum = length-append (posted_in earlier) s.posts in
    still_undelivered (length (posted_in earlier)) s.given (happenings_of earlier) m named (omega (arith, lt, sum)) (names_only set script earlier follows.1 m (omega (arith, lt, sum)))

-- ---- the queue at the start

all_pass : (p : ℕ → Bool) (a count : ℕ) → AllByRecursion (λ (n : ℕ). (a ≤ n) × (n < a + count) × (p n ≡ true)) (filter p (range_with_len a count))
all_pass p a zero = tt
all_pass p a (suc count) = by (p a) refl (wider (filter p (range_with_len (a + 1) count)) (all_pass p (a + 1) count))
  where
    wider : (ns : List ℕ) → AllByRecursion (λ (n : ℕ). (a + 1 ≤ n) × (n < a + 1 + count) × (p n ≡ true)) ns → AllByRecursion (λ (n : ℕ). (a ≤ n) × (n < a + suc count) × (p n ≡ true)) ns
    wider [] h = tt
    wider (n ∷ ns) h = (let (low, high, is) = h.0 in (omega (arith, low), omega (arith, high), is), wider ns h.1)

    by : (b : Bool) → p a ≡ b → AllByRecursion (λ (n : ℕ). (a ≤ n) × (n < a + suc count) × (p n ≡ true)) (filter p (range_with_len (a + 1) count))
        → AllByRecursion (λ (n : ℕ). (a ≤ n) × (n < a + suc count) × (p n ≡ true)) (cond b (a ∷ filter p (range_with_len (a + 1) count)) (filter p (range_with_len (a + 1) count)))
    by true e h = ((omega arith, omega arith, e), h)
    by false e h = h

none_pass : (p : ℕ → Bool) (a count n : ℕ) → filter p (range_with_len a count) ≡ [] → a ≤ n → n < a + count → p n ≡ true → ⊥
none_pass p a zero n e low high is = omega (arith, low, high)
none_pass p a (suc count) n e low high is = by (p a) refl e (λ h le. none_pass p (a + 1) count n h le (omega (arith, high)) is)
  where
    by : (b : Bool) → p a ≡ b → cond b (a ∷ filter p (range_with_len (a + 1) count)) (filter p (range_with_len (a + 1) count)) ≡ [] → (filter p (range_with_len (a + 1) count) ≡ [] → a + 1 ≤ n → ⊥) → ⊥
    by true t empty rest = absurd cc
    by false t empty rest = rest empty (above a n low (λ same. absurd (let wrong : true ≡ false = sym is ∙ ap p (sym same) ∙ t in cc)))
      where
        above : (a n : ℕ) → a ≤ n → (a ≡ n → ⊥) → a + 1 ≤ n
        above a n le not_same = omega (arith, le, not_same)

peel : (a b c d : Bool) → (not (a || b) && not (c || d)) ≡ true → (not b && not d) ≡ true
peel true b c d e = absurd cc
peel false true c d e = absurd cc
peel false false true d e = absurd cc
peel false false false d e = e

get_is : (ds : List DatagramView) (k : ℕ) → k < length ds → (d : DatagramView) × (slice_get ds k ≡ Some d)
get_is [] k lt = absurd (omega (arith, lt))
get_is (d ∷ ds) zero lt = (d, refl)
get_is (d ∷ ds) (suc k) lt = get_is ds k (omega (arith, lt))

-- the datagrams of these numbers
record Queue (posted since : List DatagramView) (ns : List ℕ) : Type 0 where
  queue : List DatagramView
  zips : AllZip (Names posted) ns queue
  among : AreAmong since queue

queue_of : (before since : List DatagramView) (ns : List ℕ) → AllByRecursion (λ (n : ℕ). (length before < n) × (n ≤ length (before ++ since))) ns → Queue (before ++ since) since ns
queue_of before since [] h = record { queue = []; zips = tt; among = tt }
queue_of before since (zero ∷ ns) h = absurd (let lt = h.0.0 in omega (arith, lt))
queue_of before since (suc k ∷ ns) h =
    let (d, is) = get_is (before ++ since) k (let le = h.0.1 in omega (arith, le)) in
    let others = queue_of before since ns h.1 in
    let named : Names (before ++ since) (suc k) d = named_at (before ++ since) k ∙ is in
    record { queue = d ∷ others.queue; zips = (named, others.zips); among = (posted_since before since (suc k) d h.0.0 named, others.among) }

-- what is undelivered was posted since the start
undelivered_before : (since : List Step) (base : List Step) (n : ℕ) → is_undelivered (happenings_of (since ++ base)) n ≡ true → is_undelivered (happenings_of base) n ≡ true
undelivered_before [] base n e = e
undelivered_before (s ∷ since) base n e =
    undelivered_before since base n (peel (Rattle.exchange_trace.specs.Posts.delivers n s.given) (was_delivered n (happenings_of (since ++ base))) (Rattle.exchange_trace.specs.Posts.loses n s.given) (was_lost n (happenings_of (since ++ base))) e)

at_most : (n m : ℕ) → (n ≤ m) ⊎ (m < n)
at_most zero m = inl (omega arith)
at_most (suc n) zero = inr (omega arith)
at_most (suc n) (suc m) = ⊎_elim (λ le. inl (omega (arith, le))) (λ lt. inr (omega (arith, lt))) (at_most n m)

all_since : (set : Setting) (steps : List Step) (free : IsFaultFree set steps) (posted : List DatagramView) → posted_in steps ≡ posted
    → AllByRecursion (λ (n : ℕ). (length (posted_in free.before) < n) × (n ≤ length posted)) (undelivered_after steps)
all_since set steps free posted e = each (undelivered_after steps) (all_pass (is_undelivered (happenings_of steps)) 1 (length (posted_in steps)))
  where
    split : steps ≡ (free.since ++ free.start ∷ []) ++ free.before
    split = free.split ∙ sym (append_assoc free.since (free.start ∷ []) free.before)

    late : (n : ℕ) → 1 ≤ n → is_undelivered (happenings_of steps) n ≡ true → length (posted_in free.before) < n
    late n low is = by (at_most n (length (posted_in free.before)))
      where
        by : (n ≤ length (posted_in free.before)) ⊎ (length (posted_in free.before) < n) → length (posted_in free.before) < n
        by (inr lt) = lt
        by (inl le) = absurd (none_pass (is_undelivered (happenings_of free.before)) 1 (length (posted_in free.before)) n free.quiet.delivered low (omega (arith, le))
            (undelivered_before (free.since ++ free.start ∷ []) free.before n (ap (λ (ss : List Step). is_undelivered (happenings_of ss) n) (sym split) ∙ is)))

    each : (ns : List ℕ) → AllByRecursion (λ (n : ℕ). (1 ≤ n) × (n < 1 + length (posted_in steps)) × (is_undelivered (happenings_of steps) n ≡ true)) ns
        → AllByRecursion (λ (n : ℕ). (length (posted_in free.before) < n) × (n ≤ length posted)) ns
    each [] h = tt
    each (n ∷ ns) h =
        let (low, high, is) = h.0 in
        let size : length (posted_in steps) ≡ length posted = ap (λ (ds : List DatagramView). length ds) e in
        ((late n low is, omega (arith, high, size)), each ns h.1)

-- ---- what it comes to

noted_before : (set : Setting) (more base : List Step) → AllNoted set (more ++ base) → AllNoted set base
noted_before set [] base noted = noted
noted_before set (s ∷ more) base noted = noted_before set more base noted.1

ends_before : (more base : List Step) → NoEnds (more ++ base) → NoEnds base
ends_before [] base none = none
ends_before (s ∷ more) base none = ends_before more base none.1

-- the end hasn't come where a line is left
no_end : (set : Setting) (script idle : List Line) (more steps : List Step) → EndsOnce (more ++ steps) → TraceFollows set script (more ++ steps) → (plan_at set script steps).lines ≡ idle ++ Finish ∷ [] → NoEnds steps
no_end set script idle [] [] ends follows left = absurd ends
no_end set script idle [] (s ∷ earlier) ends follows left =
    absurd (some_left idle (sym (ap (λ (p : Plan). p.lines) (end_is_last (scene_at set earlier) (plan_at set script earlier) (sym follows.0 ∙ ends.0))) ∙ left))
no_end set script idle (s ∷ more) steps ends follows left = ends_before more steps ends.1

-- the upload is completed, all is quiet, and the target is up with the entries of the loads that were asked for, and of those that
-- are kept
record HasEntries (set : Setting) (steps : List Step) (free : IsFaultFree set steps) (last : List Step) : Type 0 where
  outcome : HasCompleted Upload (loader_at set last).ended
  quiet : IsQuiet set last
  target : TargetReading
  up : target_at set last ≡ Is_up target
  active : outline_of target.active ≡ outline_of (standing_after (active_at set free.before) free.loads)

comes_to : (set : Setting) (steps last : List Step) (free : IsFaultFree set steps) (before : List DatagramView) (w : World) → LeftAt set before last w → waits w sides.Loader ≡ false → waits w sides.Target ≡ false
    → HasCompleted Upload w.loader.ended → w.target.active ≡ outline_of (standing_after (active_at set free.before) free.loads) → HasEntries set steps free last
comes_to set steps last free before w left loader target completed active = by (target_at set last) refl
  where
    by : (state : TargetStanding) → target_at set last ≡ state → HasEntries set steps free last
    by (Is_down old interrupted) e = absurd (let wrong : Some w.target ≡ None = left.tied.target_is ∙ ap (λ (x : TargetStanding). kept_by x) e in cc)
    by (Is_up r) e =
        let kept : Some w.target ≡ Some (target_view r) = left.tied.target_is ∙ ap (λ (x : TargetStanding). kept_by x) e in
        let view : w.target ≡ target_view r = cc in
        record {
          outcome = subst (λ (v : LoaderView). HasCompleted Upload v.ended) left.tied.loader_is completed;
          quiet = record {
            delivered = left.none;
            loader = sym (live_so (loader_at set last).end (loader_at set last).live) ∙ sym (ap (λ (v : LoaderView). is_some v.live) left.tied.loader_is) ∙ loader;
            target = sym (target_so set (target_at set last) w.target left.tied.target_is).0 ∙ target;
          };
          target = r;
          up = e;
          active = sym (ap (λ (v : TargetView). v.active) view) ∙ active;
        }

-- ---- the whole run

all_carry_before : (more base : List Step) → AllCarryBytes (more ++ base) → AllCarryBytes base
all_carry_before [] base carries = carries
all_carry_before (s ∷ more) base carries = all_carry_before more base carries.1

none_injected : (more steps : List Step) → AllByRecursion (λ (s : Step). IsQuietly s.given) more → NothingInjected steps → NothingInjected (more ++ steps)
none_injected [] steps quietly none = none
none_injected (s ∷ more) steps quietly none = (quietly.0.injects, none_injected more steps quietly.1 none)

none_start : (more since : List Step) (posted : ℕ) → AllByRecursion (λ (s : Step). IsQuietly s.given) more → AllByRecursion (IsSmooth posted) since → NoneStarts (more ++ since)
none_start [] [] posted quietly smooth = tt
none_start [] (s ∷ since) posted quietly smooth = (smooth.0.no_start, none_start [] since posted tt smooth.1)
none_start (s ∷ more) since posted quietly smooth = (quietly.0.starts, none_start more since posted quietly.1 smooth)

none_down : (more since : List Step) (posted : ℕ) → NoneGoesDown more → AllByRecursion (IsSmooth posted) since → NoneGoesDown (more ++ since)
none_down [] [] posted up smooth = tt
none_down [] (s ∷ since) posted up smooth = (smooth.0.stays_up, none_down [] since posted tt smooth.1)
none_down (s ∷ more) since posted up smooth = (up.0, none_down more since posted up.1 smooth)

module _ (set : Setting) (script : List Line) (steps more : List Step) (free : IsFaultFree set steps) (left : IsLeftToFinish set script steps more) where
  quietly : AllByRecursion (λ (s : Step). IsQuietly s.given) more
  quietly = all_quietly set script steps left.left more left.follows

  whole_is_uninjected : IsUninjected set (more ++ steps)
  whole_is_uninjected = record {
    due = left.trace.due;
    noted = left.trace.noted;
    honest = following_is_honest (waiting set) script (more ++ steps) left.follows;
    injected = none_injected more steps quietly free.injected;
    carries = left.carries;
  }

  has_entries : StepKeepsTie → FaultFreeRunsComplete → AcceptsPermitted set.accepts → IsNamed set steps free → IsWithinMargin set steps → HasEntries set steps free (more ++ steps)
  has_entries keeps complete permits named margin =
      let follows = follows_before set script more steps left.follows in
      let (now, tied, finished) = complete set steps free
      (record { due = due_of_before set more steps left.trace.due; noted = noted_before set more steps left.trace.noted; honest = following_is_honest (waiting set) script steps follows; injected = free.injected; carries = all_carry_before more steps left.carries })
      permits named margin in
      let posted : posted_in steps ≡ posted_in free.before ++ now.posts = sym tied.posted_is in
      let q = queue_of (posted_in free.before) now.posts (undelivered_after steps) (all_since set steps free (posted_in free.before ++ now.posts) posted) in
      let it = finished q.queue sides.Loader q.among in
      let at : At set script (posted_in free.before) steps now q.queue sides.Loader = record {
        tied = tied;
        goes = begins_finish set script steps left.left;
        named = names_only set script steps follows;
        zips = subst (λ (ds : List DatagramView). AllZip (Names ds) (undelivered_after steps) q.queue) (sym posted) q.zips;
      } in
      let end = finish_is keeps set (active_at set free.before) script (posted_in free.before) now it.last q.queue sides.Loader it.finishes more steps at (no_end set script left.left.idle more steps left.trace.ends left.follows left.left.lines)
      (record { ends = left.trace.ends; due = left.trace.due; follows = left.follows; up = left.stays_up }) in
      comes_to set steps (more ++ steps) free (posted_in free.before) it.last end it.loader it.target it.completed it.active

  -- the upload is live after its start
  live_so_far : is_some (loader_at set (free.start ∷ free.before)).live ≡ true
  live_so_far = begun_at set free.start free.before set.start.identity.hw set.start.identity.pos free.parts free.wanted free.starts free.few free.on_media (enough (ports_for free.loads) (omega arith) free.loader_ports)
    where
      enough : (ports : ℕ) → 3 ≤ ports → HasPorts (loader_at set free.before).end ports → next_port_of (loader_at set free.before).end < 65536
      enough ports some has = omega (arith, some, has)

  -- what is active in the end was installed over what was active at the start
  active_installed : HasEntries set steps free (more ++ steps) → AllInstalledInSession set (more ++ steps) → AllBroughtAreGood set (more ++ steps) → AllOfMedia set (more ++ steps) → AllStayOrAreNew set (more ++ steps)
      → IsInstalledOver set free.parts (active_at set free.before) (active_at set (more ++ steps))
  active_installed h installed good media stays =
      let base = free.start ∷ free.before in
      let is : more ++ steps ≡ (more ++ free.since) ++ base = ap (λ (xs : List Step). more ++ xs) free.split ∙ sym (append_assoc more free.since base) in
      let knows : KnowsBrought set (more ++ steps) = record { good = good; media = media; stays = stays; injected = whole_is_uninjected.injected } in
      let sum : (active_at set (more ++ steps)).sequence ≡ (active_at set free.before).sequence + 1 = ap (λ (x : TargetStanding). (active_in x).sequence) h.up ∙ ap (λ (o : Outline). o.sequence) h.active in
      subst (λ (xs : List Step). IsInstalledOver set free.parts (active_at set free.before) (active_at set xs)) (sym is)
      (active_is_installed set (more ++ free.since) free.start free.before set.start.identity.hw set.start.identity.pos free.parts free.starts (none_start more free.since (length (posted_in free.before)) quietly free.smooth)
      (none_down_from (more ++ free.since) free.start (none_down more free.since (length (posted_in free.before)) left.stays_up free.smooth) free.stays_up) live_so_far
      (subst (λ (xs : List Step). is_some (loader_at set xs).live ≡ false) is h.quiet.loader)
      (subst (λ (xs : List Step). HasCompleted Upload (loader_at set xs).ended) is h.outcome) (subst (λ (xs : List Step). AllInstalledInSession set xs) is installed) (subst (λ (xs : List Step). KnowsBrought set xs) is knows)
      (ap (λ (xs : List Step). (active_at set xs).sequence) (sym is) ∙ sum))
    where
      none_down_from : (steps : List Step) (start : Step) → NoneGoesDown steps → start.notes ≡ [] → NoneGoesDown (steps ++ start ∷ [])
      none_down_from [] start down now = (now, tt)
      none_down_from (s ∷ steps) start down now = (down.0, none_down_from steps start down.1 now)

-- loads of these parts, which were installed over what was active, are those that were asked for
new_are_these : (set : Setting) (steps : List Step) (free : IsFaultFree set steps) (s : StandingView) → EntriesFit set.media → outline_of s ≡ outline_of (standing_after (active_at set free.before) free.loads)
    → (is : IsInstalledOver set free.parts (active_at set free.before) s) → is.new ≡ free.loads
new_are_these set steps free s entries active is =
    let before = active_at set free.before in
    let both : outline_after (outline_of before) (entries_of is.new) ≡ outline_after (outline_of before) (entries_of free.loads) =
    sym (installed_same before is.new) ∙ (ap outline_of (sym is.is) ∙ (active ∙ installed_same before free.loads)) in
    let parts : length is.new ≡ length free.parts = sym (length-map is.new (λ (load : LoadView). load.part)) ∙ ap length is.parts_are in
    let wanted : length free.wanted ≡ length free.parts = (wanted_are (λ (w : Wanted). WantedFits w) set.media.loads free.parts free.wanted entries free.on_media).1 in
    let count : length is.new ≡ length free.loads = parts ∙ (sym wanted ∙ sym (AllZip-long IsWanted free.wanted free.loads free.served.each)) in
    let same : entries_of is.new ≡ entries_of free.loads = same_first (entries_of is.new) (entries_of free.loads) (kept_entries (types_of (entries_of is.new)) (entries_of before.loads)) (kept_entries (types_of (entries_of free.loads)) (entries_of before.loads))
    (length-map is.new entry_of ∙ (count ∙ sym (length-map free.loads entry_of))) (ap (λ (o : Outline). o.loads) both) in
    loads_same set.media set.start.identity before.identity is.new free.loads same is.media free.served.media is.checked
    (good_are_checked (IsGranted set) before.identity (entries_of before.loads) [] free.loads free.served.good)

pub finish_completes : StepKeepsTie → InstallsAreOfMedia → CompletedInSession → ChangesAreNew → InstallsAreGood → FaultFreeRunsComplete → FinishCompletes
finish_completes keeps media sessions changes goods complete set script steps more free standing permits lengths named margin left recovered =
    let is = whole_is_uninjected set script steps more free left in
    let h = has_entries set script steps more free left keeps complete permits named margin in
    let active : active_at set (more ++ steps) ≡ h.target.active = ap (λ (x : TargetStanding). active_in x) h.up in
    let found : standing ≡ h.target.active = recovered ∙ ap (λ (x : TargetStanding). active_by x (Some standing)) h.up in
    let installed : IsInstalledOver set free.parts (active_at set free.before) h.target.active = subst (λ (x : StandingView). IsInstalledOver set free.parts (active_at set free.before) x) active
    (active_installed set script steps more free left h (sessions set (more ++ steps) permits named.entries is) (goods set (more ++ steps) permits left.carries) (media set (more ++ steps) permits lengths is) (changes set (more ++ steps) permits left.carries)) in
    let new = new_are_these set steps free h.target.active named.entries h.active installed in
    record {
      outcome = h.outcome;
      quiet = h.quiet;
      up = ap (λ (x : TargetStanding). is_up x) h.up;
      loads = ap (λ (x : StandingView). x.loads) (found ∙ installed.is) ∙ ap (λ (ls : List LoadView). with_kept ls (active_at set free.before).loads) new;
    }
