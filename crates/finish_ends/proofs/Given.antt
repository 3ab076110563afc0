-- What a script's `finish` gives, and where it is done.
use Rattle.std.proofs.Common.{◌≡◌, ℕ, zero, suc, ◌+◌, ◌<◌, ◌≤◌, Bool, true, false, cond, List, [], ◌∷◌, length, Option, Some, None, refl, sym, ap, subst, ◌∙◌, arith}
use Rattle.std.specs.Prelude.{filter, option_map, slice_get}
use Rattle.std.specs.List.{range_with_len}
use Rattle.exchange_trace.specs.declared.trace.Side.{Side}
use Rattle.exchange_trace.specs.declared.trace.Side.TheVariants as sides
use Rattle.exchange_trace.specs.Following.{Finishing, Turn, delivery_of_first, finishing, finishing_tick, goes_on, least_delivery, ticked_side, turn, waits}
use Rattle.exchange_trace.specs.Happenings.{DatagramView, Delivered, HappeningView, Ticked, other}
use Rattle.exchange_trace.specs.Lines.{Line}
use Rattle.exchange_trace.specs.Posts.{happenings_of, is_undelivered, numbered, posted_in, undelivered_after}
use Rattle.exchange_trace.specs.Steps.{Step}
use Rattle.replay_rules.specs.BothEnds.{Setting, loader_waits, target_waits, waiting}
use Rattle.replay_rules.specs.Runs.{IsQuiet, scene_at}
use Rattle.finish_ends.specs.Finishes.{FinishLeavesQuiet, IsOfFinish, ScriptGivesFinish, delivers, ticks}
use Rattle.finish_ends.proofs.Undelivered.{numbered_is}

get_is : (ds : List DatagramView) (k : ℕ) → k < length ds → (d : DatagramView) × (slice_get ds k ≡ Some d)
get_is [] k lt = absurd (omega (arith, lt))
get_is (d ∷ ds) zero lt = (d, refl)
get_is (d ∷ ds) (suc k) lt = get_is ds k (omega (arith, lt))

within : (p : ℕ → Bool) (a count n : ℕ) (ns : List ℕ) → filter p (range_with_len a count) ≡ n ∷ ns → (a ≤ n) × (n < a + count)
within p a zero n ns e = absurd cc
within p a (suc count) n ns e = by (p a) e (λ f. wider (within p (a + 1) count n ns f))
  where
    wider : (a + 1 ≤ n) × (n < a + 1 + count) → (a ≤ n) × (n < a + suc count)
    wider (low, high) = (omega (arith, low), omega (arith, high))

    by : (b : Bool) → cond b (a ∷ filter p (range_with_len (a + 1) count)) (filter p (range_with_len (a + 1) count)) ≡ n ∷ ns → (filter p (range_with_len (a + 1) count) ≡ n ∷ ns → (a ≤ n) × (n < a + suc count)) → (a ≤ n) × (n < a + suc count)
    by true f rest = let same : a ≡ n = cc in (omega (arith, same), omega (arith, same))
    by false f rest = rest f

-- the least undelivered datagram was posted
least_named : (steps : List Step) (n : ℕ) (ns : List ℕ) → undelivered_after steps ≡ n ∷ ns → (d : DatagramView) × (numbered (posted_in steps) n ≡ Some d)
least_named steps n ns e = so n (within (is_undelivered (happenings_of steps)) 1 (length (posted_in steps)) n ns e)
  where
    so : (n : ℕ) → (1 ≤ n) × (n < 1 + length (posted_in steps)) → (d : DatagramView) × (numbered (posted_in steps) n ≡ Some d)
    so zero (low, high) = absurd (omega (arith, low))
    so (suc k) (low, high) = let (d, is) = get_is (posted_in steps) k (omega (arith, high)) in (d, numbered_is (posted_in steps) k ∙ is)

-- the least delivery, or none where nothing is undelivered
data Least (set : Setting) (steps : List Step) : Type 0 where
  one : (n : ℕ) (others : List ℕ) (d : DatagramView) → undelivered_after steps ≡ n ∷ others → numbered (posted_in steps) n ≡ Some d → least_delivery (scene_at set steps) ≡ Some (Delivered (other d.side) n) → Least set steps
  none : undelivered_after steps ≡ [] → least_delivery (scene_at set steps) ≡ None → Least set steps

least : (set : Setting) (steps : List Step) → Least set steps
least set steps = by (undelivered_after steps) refl
  where
    by : (ns : List ℕ) → undelivered_after steps ≡ ns → Least set steps
    by [] e = none e (ap (λ (ms : List ℕ). delivery_of_first (scene_at set steps) ms) e)
    by (n ∷ ns) e =
        let (d, names) = least_named steps n ns e in
        one n ns d e names (ap (λ (ms : List ℕ). delivery_of_first (scene_at set steps) ms) e ∙ ap (λ (x : Option DatagramView). option_map (λ (y : DatagramView). Delivered (other y.side) n) x) names)

-- which side is ticked
data Tick (set : Setting) (steps : List Step) (first : Side) : Type 0 where
  ticked : (side : Side) → waiting set side steps ≡ true → ticked_side (scene_at set steps) first ≡ Some side → Tick set steps first
  nobody : loader_waits set steps ≡ false → target_waits set steps ≡ false → ticked_side (scene_at set steps) first ≡ None → Tick set steps first

tick : (set : Setting) (steps : List Step) (first : Side) → Tick set steps first
tick set steps sides.Loader = by (loader_waits set steps) (target_waits set steps) refl refl
  where
    by : (a b : Bool) → loader_waits set steps ≡ a → target_waits set steps ≡ b → Tick set steps sides.Loader
    by true b e f = ticked sides.Loader e (ap (λ (x : Bool). cond x (Some sides.Loader) (cond (target_waits set steps) (Some sides.Target) None)) e)
    by false true e f = ticked sides.Target f (ap (λ (x : Bool). cond x (Some sides.Loader) (cond (target_waits set steps) (Some sides.Target) None)) e ∙ ap (λ (x : Bool). cond x (Some sides.Target) None) f)
    by false false e f = nobody e f (ap (λ (x : Bool). cond x (Some sides.Loader) (cond (target_waits set steps) (Some sides.Target) None)) e ∙ ap (λ (x : Bool). cond x (Some sides.Target) None) f)
tick set steps sides.Target = by (target_waits set steps) (loader_waits set steps) refl refl
  where
    by : (a b : Bool) → target_waits set steps ≡ a → loader_waits set steps ≡ b → Tick set steps sides.Target
    by true b e f = ticked sides.Target e (ap (λ (x : Bool). cond x (Some sides.Target) (cond (loader_waits set steps) (Some sides.Loader) None)) e)
    by false true e f = ticked sides.Loader f (ap (λ (x : Bool). cond x (Some sides.Target) (cond (loader_waits set steps) (Some sides.Loader) None)) e ∙ ap (λ (x : Bool). cond x (Some sides.Loader) None) f)
    by false false e f = nobody f e (ap (λ (x : Bool). cond x (Some sides.Target) (cond (loader_waits set steps) (Some sides.Loader) None)) e ∙ ap (λ (x : Bool). cond x (Some sides.Loader) None) f)

-- a `finish` gives something that is one of its happenings, and goes on as one; or it is done
pub data Gives (set : Setting) (steps : List Step) (first : Side) (lines : List Line) : Type 0 where
  gives : (h : HappeningView) (then : Side) → IsOfFinish set steps h → (◌≡◌ {A = Option Turn} (goes_on (scene_at set steps) (Finishing first) lines) (Some (turn h (Finishing then) lines))) → Gives set steps first lines
  is_done : IsQuiet set steps → (◌≡◌ {A = Option Turn} (goes_on (scene_at set steps) (Finishing first) lines) None) → Gives set steps first lines

pub finish_gives : (set : Setting) (steps : List Step) (first : Side) (lines : List Line) → Gives set steps first lines
finish_gives set steps first lines = by (least set steps)
  where
    with_tick : undelivered_after steps ≡ [] → least_delivery (scene_at set steps) ≡ None → Tick set steps first → Gives set steps first lines
    with_tick empty e (ticked side waits f) =
        gives (Ticked side) (other side) (ticks side empty waits) (ap (λ (x : Option HappeningView). finishing (scene_at set steps) first lines x) e ∙ ap (λ (x : Option Side). finishing_tick lines x) f)
    with_tick empty e (nobody loader target f) =
        is_done (record { delivered = empty; loader = loader; target = target }) (ap (λ (x : Option HappeningView). finishing (scene_at set steps) first lines x) e ∙ ap (λ (x : Option Side). finishing_tick lines x) f)

    by : Least set steps → Gives set steps first lines
    by (one n others d split names e) = gives (Delivered (other d.side) n) first (delivers n others d split names) (ap (λ (x : Option HappeningView). finishing (scene_at set steps) first lines x) e)
    by (none empty e) = with_tick empty e (tick set steps first)

same_given : (o : Option Turn) (t u : Turn) → o ≡ Some t → o ≡ Some u → t.given ≡ u.given
same_given o t u e f = let same : Some t ≡ Some u = sym e ∙ f in let is : t ≡ u = cc in ap (λ (x : Turn). x.given) is

pub script_gives_finish : ScriptGivesFinish
script_gives_finish set steps first lines t is = by (finish_gives set steps first lines)
  where
    by : Gives set steps first lines → IsOfFinish set steps t.given
    by (gives h then of e) = subst (λ (x : HappeningView). IsOfFinish set steps x) (same_given (goes_on (scene_at set steps) (Finishing first) lines) (turn h (Finishing then) lines) t e is) of
    by (is_done quiet e) = absurd (let wrong : None ≡ Some t = sym e ∙ is in cc)

pub finish_leaves_quiet : FinishLeavesQuiet
finish_leaves_quiet set steps first lines is = by (finish_gives set steps first lines)
  where
    by : Gives set steps first lines → IsQuiet set steps
    by (gives h then of e) = absurd (let wrong : Some (turn h (Finishing then) lines) ≡ None = sym e ∙ is in cc)
    by (is_done quiet e) = quiet
