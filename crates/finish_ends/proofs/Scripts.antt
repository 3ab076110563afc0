-- Each script comes to its end.
use Rattle.std.proofs.Common.{◌≡◌, ◌⊎◌, inl, inr, ℕ, zero, suc, ◌+◌, ◌<◌, ◌*◌, ◌≤◌, List, [], ◌∷◌, length, Option, Some, None, refl, sym, ap, subst, ◌∙◌, arith, length-append}
use Rattle.std.specs.List.{AllByRecursion}
use Rattle.exchange_trace.specs.declared.trace.Side.{Side}
use Rattle.exchange_trace.specs.declared.trace.Side.TheVariants as sides
use Rattle.exchange_trace.specs.Following.{Deliveries, Finishing, Nothing_left, Plan, Rest, Turn, begins, delivered_next, delivery, from_lines, goes_on, least_delivery, loss, next_turn, once, or_else, plan_of}
use Rattle.exchange_trace.proofs.FollowingLemmas.{end_is_last}
use Rattle.exchange_trace.specs.Happenings.{Ended, HappeningView, Info_started, Injected, Power_cut, Booted, Size_told, Ticked, Upload_started}
use Rattle.exchange_trace.specs.Lines.{Blksize, Boot, Finish, Give, Info, Inject, Line, Lose, Next, Power, Tick, Upload}
use Rattle.exchange_trace.specs.Posts.{posted_in}
use Rattle.exchange_trace.specs.Steps.{Step}
use Rattle.session_rules.proofs.BufferLemmas.{SumsJoin}
use Rattle.replay_rules.specs.BothEnds.{Setting}
use Rattle.replay_rules.specs.Changes.{AllCarryBytes}
use Rattle.replay_rules.specs.Due.{AllDue, AllNoted}
use Rattle.replay_rules.proofs.PlacedTraceLemmas.{due_is_two_at_most}
use Rattle.replay_rules.specs.Promises.{EndsOnce, IsNoEnd}
use Rattle.replay_rules.specs.Runs.{TraceFollows, plan_at, scene_at}
use Rattle.finish_ends.specs.Finishes.{IsOfFinish, most_of_finish}
use Rattle.finish_ends.specs.Scripts.{RunHasEnded, ScriptsEnd, TracesAreBounded, most_of_lines, most_with}
use Rattle.finish_ends.proofs.Finishes.{left_after, most_left_after, step_falls}
use Rattle.finish_ends.proofs.Given.{Gives, finish_gives, gives, is_done}
use Rattle.finish_ends.proofs.Undelivered.{weight_of_posted}

-- ---- more before a line is more after it

with_more : (line : Line) (m n : ℕ) → m ≤ n → most_with m line ≤ most_with n line
with_more (Info hw pos) m n le = omega (arith, le)
with_more (Upload hw pos parts) m n le = omega (arith, le)
with_more (Give k) m n le = omega (arith, le)
with_more (Lose k) m n le = omega (arith, le)
with_more (Next k) m n le = omega (arith, le)
with_more (Tick side) m n le = omega (arith, le)
with_more (Inject d) m n le = omega (arith, le)
with_more (Power calls pick) m n le = omega (arith, le)
with_more Boot m n le = omega (arith, le)
with_more (Blksize size) m n le = omega (arith, le)
with_more Finish m n le = omega (arith, le)

lines_more : (lines : List Line) (m n : ℕ) → m ≤ n → most_of_lines m lines ≤ most_of_lines n lines
lines_more [] m n le = le
lines_more (line ∷ lines) m n le = lines_more lines (most_with m line) (most_with n line) (with_more line m n le)

at_least : (line : Line) (m : ℕ) → m ≤ most_with m line
at_least (Info hw pos) m = omega arith
at_least (Upload hw pos parts) m = omega arith
at_least (Give k) m = omega arith
at_least (Lose k) m = omega arith
at_least (Next k) m = omega arith
at_least (Tick side) m = omega arith
at_least (Inject d) m = omega arith
at_least (Power calls pick) m = omega arith
at_least Boot m = omega arith
at_least (Blksize size) m = omega arith
at_least Finish m = omega arith

lines_at_least : (lines : List Line) (m : ℕ) → m ≤ most_of_lines m lines
lines_at_least [] m = omega arith
lines_at_least (line ∷ lines) m = let one = at_least line m in let rest = lines_at_least lines (most_with m line) in omega (arith, one, rest)

-- ---- what is left of a plan

abbrev rest_most : Setting → List Step → Rest → ℕ
rest_most set steps Nothing_left = 0
rest_most set steps (Deliveries k) = k
rest_most set steps (Finishing first) = left_after set steps

abbrev plan_most : Setting → List Step → Plan → ℕ
plan_most set steps p = most_of_lines (length steps + rest_most set steps p.rest) p.lines

module _ (joins : SumsJoin) (set : Setting) (base : List Step) (posted : length (posted_in base) ≤ 2 * length base) where
  -- a step in which what is due is posted
  abbrev IsNext : Step → Type 0
  IsNext s = AllDue set (s ∷ base) × AllNoted set (s ∷ base) × AllCarryBytes base

  -- with what a turn gives it is the end, or no more is to come than before
  abbrev Passes : ℕ → Turn → Type 0
  Passes most t = (t.given ≡ Ended) ⊎ ((s : Step) → s.given ≡ t.given → IsNext s → plan_most set (s ∷ base) t.plan ≤ most)

  abbrev PassesIf : ℕ → Option Turn → Type 0
  PassesIf most None = Unit {0}
  PassesIf most (Some t) = Passes most t

  next_passes : (k : ℕ) (lines : List Line) (o : Option HappeningView) → PassesIf (most_of_lines (length base + suc k) lines) (delivered_next k lines o)
  next_passes k lines None = tt
  next_passes k lines (Some h) = inr (λ s e is. lines_more lines (suc (length base) + k) (length base + suc k) (omega arith))

  once_passes : (lines : List Line) (o : Option HappeningView) → PassesIf (most_of_lines (length base + 1) lines) (once lines o)
  once_passes lines None = tt
  once_passes lines (Some h) = inr (λ s e is. lines_more lines (suc (length base) + 0) (length base + 1) (omega arith))

  finish_passes : (first : Side) (lines : List Line) → PassesIf (most_of_lines (length base + left_after set base) lines) (goes_on (scene_at set base) (Finishing first) lines)
  finish_passes first lines = by (finish_gives set base first lines)
    where
      by : Gives set base first lines → PassesIf (most_of_lines (length base + left_after set base) lines) (goes_on (scene_at set base) (Finishing first) lines)
      by (gives h turned of e) =
          subst (λ (o : Option Turn). PassesIf (most_of_lines (length base + left_after set base) lines) o) (sym e)
          (inr (λ s given is.
          let less = step_falls joins set base s is.0 is.1 is.2 (subst (λ (x : HappeningView). IsOfFinish set base x) (sym given) of) in
          lines_more lines (suc (length base) + left_after set (s ∷ base)) (length base + left_after set base) (omega (arith, less))))
      by (is_done quiet e) = subst (λ (o : Option Turn). PassesIf (most_of_lines (length base + left_after set base) lines) o) (sym e) tt

  goes_passes : (rest : Rest) (lines : List Line) → PassesIf (most_of_lines (length base + rest_most set base rest) lines) (goes_on (scene_at set base) rest lines)
  goes_passes Nothing_left lines = tt
  goes_passes (Deliveries zero) lines = tt
  goes_passes (Deliveries (suc k)) lines = next_passes k lines (least_delivery (scene_at set base))
  goes_passes (Finishing first) lines = finish_passes first lines

  weaker : (m n : ℕ) (o : Option Turn) → m ≤ n → PassesIf m o → PassesIf n o
  weaker m n None le h = tt
  weaker m n (Some t) le (inl e) = inl e
  weaker m n (Some t) le (inr f) = inr (λ s e is. let less = f s e is in omega (arith, less, le))

  begins_passes : (line : Line) (lines : List Line) → PassesIf (most_of_lines (most_with (length base) line) lines) (begins (scene_at set base) line lines)
  begins_passes (Info hw pos) lines = once_passes lines (Some (Info_started hw pos))
  begins_passes (Upload hw pos parts) lines = once_passes lines (Some (Upload_started hw pos parts))
  begins_passes (Give n) lines = once_passes lines (delivery (scene_at set base) n)
  begins_passes (Lose n) lines = once_passes lines (loss (scene_at set base) n)
  begins_passes (Next k) lines = goes_passes (Deliveries k) lines
  begins_passes (Tick side) lines = once_passes lines (Some (Ticked side))
  begins_passes (Inject d) lines = once_passes lines (Some (Injected d))
  begins_passes (Power calls pick) lines = once_passes lines (Some (Power_cut calls pick))
  begins_passes Boot lines = once_passes lines (Some Booted)
  begins_passes (Blksize size) lines = once_passes lines (Some (Size_told size))
  begins_passes Finish lines =
      weaker (most_of_lines (length base + left_after set base) lines) (most_of_lines (most_with (length base) Finish) lines) (goes_on (scene_at set base) (Finishing sides.Loader) lines)
      (lines_more lines (length base + left_after set base) (most_with (length base) Finish) enough) (finish_passes sides.Loader lines)
    where
      enough : length base + left_after set base ≤ length base + (most_of_finish + 2 * (2 * length base))
      enough = let most = most_left_after set base in let weighs = weight_of_posted base in omega (arith, most, weighs, posted)

  chosen : (most : ℕ) (o : Option Turn) (later : Turn) → PassesIf most o → Passes most later → Passes most (or_else o later)
  chosen most None later h rest = rest
  chosen most (Some t) later h rest = h

  lines_pass : (lines : List Line) (most : ℕ) → most_of_lines (length base) lines ≤ most → Passes most (from_lines (scene_at set base) lines)
  lines_pass [] most le = inl refl
  lines_pass (line ∷ lines) most le =
      chosen most (begins (scene_at set base) line lines) (from_lines (scene_at set base) lines)
      (weaker (most_of_lines (most_with (length base) line) lines) most (begins (scene_at set base) line lines) le (begins_passes line lines))
      (lines_pass lines most (let more = lines_more lines (length base) (most_with (length base) line) (at_least line (length base)) in omega (arith, more, le)))

  turn_passes : (p : Plan) → Passes (plan_most set base p) (next_turn (scene_at set base) p)
  turn_passes p =
      chosen (plan_most set base p) (goes_on (scene_at set base) p.rest p.lines) (from_lines (scene_at set base) p.lines) (goes_passes p.rest p.lines)
      (lines_pass p.lines (plan_most set base p) (lines_more p.lines (length base) (length base + rest_most set base p.rest) (omega arith)))

-- ---- a whole script

posted_most : (steps : List Step) → AllByRecursion (λ (s : Step). length s.posts ≤ 2) steps → length (posted_in steps) ≤ 2 * length steps
posted_most [] two = omega arith
posted_most (s ∷ earlier) two = let rest = posted_most earlier two.1 in let sum = length-append (posted_in earlier) s.posts in let now = two.0 in omega (arith, rest, sum, now)

ended_again : (set : Setting) (script : List Line) (s : Step) (earlier : List Step) → TraceFollows set script (s ∷ earlier) → RunHasEnded earlier → s.given ≡ Ended
ended_again set script s [] follows ended = absurd ended
ended_again set script s (e ∷ earlier) follows ended =
    let plan : plan_at set script (e ∷ earlier) ≡ plan_of [] = end_is_last (scene_at set earlier) (plan_at set script earlier) (sym follows.1.0 ∙ ended) in
    follows.0 ∙ ap (λ (p : Plan). (next_turn (scene_at set (e ∷ earlier)) p).given) plan

abbrev EndsOrPasses : Setting → List Line → List Step → Type 0
EndsOrPasses set script steps = RunHasEnded steps ⊎ (plan_most set steps (plan_at set script steps) ≤ most_of_lines 0 script)

ends_or_passes : SumsJoin → (set : Setting) (script : List Line) (steps : List Step) → TraceFollows set script steps → AllDue set steps → AllNoted set steps → AllCarryBytes steps → EndsOrPasses set script steps
ends_or_passes joins set script [] follows is_due is_noted carry = inr (lines_more script (0 + 0) 0 (omega arith))
ends_or_passes joins set script (s ∷ earlier) follows is_due is_noted carry = before (ends_or_passes joins set script earlier follows.1 is_due.1 is_noted.1 carry.1)
  where
    t : Turn
    t = next_turn (scene_at set earlier) (plan_at set script earlier)

    posted : length (posted_in earlier) ≤ 2 * length earlier
    posted = posted_most earlier (due_is_two_at_most set earlier is_due.1)

    now : plan_most set earlier (plan_at set script earlier) ≤ most_of_lines 0 script → Passes joins set earlier posted (plan_most set earlier (plan_at set script earlier)) t → EndsOrPasses set script (s ∷ earlier)
    now le (inl e) = inl (follows.0 ∙ e)
    now le (inr f) = inr (let less = f s follows.0 (is_due, is_noted, carry.1) in omega (arith, less, le))

    before : EndsOrPasses set script earlier → EndsOrPasses set script (s ∷ earlier)
    before (inl ended) = inl (ended_again set script s earlier follows ended)
    before (inr le) = now le (turn_passes joins set earlier posted (plan_at set script earlier))

pub scripts_end : SumsJoin → ScriptsEnd
scripts_end joins set script steps follows run long = by (ends_or_passes joins set script steps follows run.due run.noted run.carries)
  where
    by : EndsOrPasses set script steps → RunHasEnded steps
    by (inl ended) = ended
    by (inr le) = absurd (let least = lines_at_least (plan_at set script steps).lines (length steps + rest_most set steps (plan_at set script steps).rest) in omega (arith, le, least, long))

-- ---- a whole trace

not_ended : (s : Step) (earlier : List Step) → EndsOnce (s ∷ earlier) → RunHasEnded earlier → ⊥
not_ended s [] ends ended = ended
not_ended s (e ∷ earlier) ends ended = subst (λ (h : HappeningView). IsNoEnd h) ended ends.1.0

at_most : (n m : ℕ) → (n ≤ m) ⊎ (m < n)
at_most zero m = inl (omega arith)
at_most (suc n) zero = inr (omega arith)
at_most (suc n) (suc m) = by (at_most n m)
  where
    by : (n ≤ m) ⊎ (m < n) → (suc n ≤ suc m) ⊎ (suc m < suc n)
    by (inl le) = inl (omega (arith, le))
    by (inr lt) = inr (omega (arith, lt))

pub traces_are_bounded : ScriptsEnd → TracesAreBounded
traces_are_bounded ends set script [] follows trace carry = absurd trace.ends
traces_are_bounded ends set script (s ∷ earlier) follows trace carry = by (at_most (length earlier) (most_of_lines 0 script))
  where
    by : (length earlier ≤ most_of_lines 0 script) ⊎ (most_of_lines 0 script < length earlier) → suc (length earlier) ≤ most_of_lines 0 script + 1
    by (inl le) = omega (arith, le)
    by (inr lt) = absurd (not_ended s earlier trace.ends (ends set script earlier follows.1 (record { due = trace.due.1; noted = trace.noted.1; carries = carry.1 }) lt))
