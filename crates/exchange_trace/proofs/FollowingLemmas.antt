-- Laws of following a script (docs/FORMATS.md, "Script").
use Rattle.std.proofs.Common.{◌≡◌, ◌≢◌, ℕ, zero, suc, Bool, true, false, List, [], ◌∷◌, Option, Some, None, IfSome, option_map, refl}
use Rattle.std.specs.Prelude.{if◌then◌else◌}
use Rattle.exchange_trace.specs.declared.trace.Side.{Side}
use Rattle.exchange_trace.specs.declared.trace.Side.TheVariants as sides
use Rattle.exchange_trace.specs.Happenings.{DatagramView, HappeningView, Delivered, Lost, Ticked, Ended, other}
use Rattle.exchange_trace.specs.Steps.{Step}
use Rattle.exchange_trace.specs.Posts.{AllHonest, IsHonest, numbered, undelivered, was_delivered}
use Rattle.exchange_trace.specs.Lines.{Line, Info, Upload, Give, Lose, Next, Tick, Inject, Power, Boot, Blksize, Finish}
use Rattle.exchange_trace.specs.Following.{FollowsScript, Nothing_left, Deliveries, Finishing, Plan, Rest, Scene, Turn, begins, delivery, delivery_of_first, finishing, finishing_tick, from_lines, goes_on, least_delivery, loss, next_turn, or_else, plan_after, plan_of, scene_after, ticked_side, turn}

-- ---- what holds of each happening that a line can give

module _ (P : HappeningView → Type 0) where
  mapped : (rest : Rest) (lines : List Line) (o : Option HappeningView) → IfSome o P → IfSome (option_map (λ h. turn h rest lines) o) (λ t. P t.given)
  mapped rest lines None h = tt
  mapped rest lines (Some happening) h = h

  chosen : (o : Option Turn) (later : Turn) → IfSome o (λ t. P t.given) → P later.given → P (or_else o later).given
  chosen None later h rest = rest
  chosen (Some t) later h rest = h

  module _ (ticks : (side : Side) → P (Ticked side)) where
    ticked : (lines : List Line) (o : Option Side) → IfSome (finishing_tick lines o) (λ t. P t.given)
    ticked lines None = tt
    ticked lines (Some side) = ticks side

    finished : (s : Scene) (first : Side) (lines : List Line) (o : Option HappeningView) → IfSome o P → IfSome (finishing s first lines o) (λ t. P t.given)
    finished s first lines None h = ticked lines (ticked_side s first)
    finished s first lines (Some happening) h = h

    gone_on : (s : Scene) (rest : Rest) (lines : List Line) → IfSome (least_delivery s) P → IfSome (goes_on s rest lines) (λ t. P t.given)
    gone_on s Nothing_left lines h = tt
    gone_on s (Deliveries zero) lines h = tt
    gone_on s (Deliveries (suc k)) lines h = mapped (Deliveries k) lines (least_delivery s) h
    gone_on s (Finishing first) lines h = finished s first lines (least_delivery s) h

-- ---- what is delivered was posted to the side that gets it

delivery_is_honest : (s : Scene) (n : ℕ) → IfSome (delivery s n) (IsHonest s.posted)
delivery_is_honest s n = by (numbered s.posted n) refl
  where
    by : (o : Option DatagramView) → numbered s.posted n ≡ o → IfSome (option_map (λ (d : DatagramView). Delivered (other d.side) n) o) (IsHonest s.posted)
    by None e = tt
    by (Some d) e = (d, e, refl)

least_is_honest : (s : Scene) (numbers : List ℕ) → IfSome (delivery_of_first s numbers) (IsHonest s.posted)
least_is_honest s [] = tt
least_is_honest s (n ∷ numbers) = delivery_is_honest s n

loss_is_honest : (s : Scene) (n : ℕ) → IfSome (loss s n) (IsHonest s.posted)
loss_is_honest s n = by (was_delivered n s.happenings) (numbered s.posted n)
  where
    by : (b : Bool) (o : Option DatagramView) → IfSome (if b then None else option_map (λ (d : DatagramView). Lost n) o) (IsHonest s.posted)
    by true o = tt
    by false None = tt
    by false (Some d) = tt

goes_on_honest : (s : Scene) (rest : Rest) (lines : List Line) → IfSome (goes_on s rest lines) (λ t. IsHonest s.posted t.given)
goes_on_honest s rest lines = gone_on (IsHonest s.posted) (λ side. tt) s rest lines (least_is_honest s (undelivered _ s.happenings))

begins_honest : (s : Scene) (line : Line) (lines : List Line) → IfSome (begins s line lines) (λ t. IsHonest s.posted t.given)
begins_honest s (Info hw pos) lines = tt
begins_honest s (Upload hw pos parts) lines = tt
begins_honest s (Give n) lines = mapped (IsHonest s.posted) Nothing_left lines (delivery s n) (delivery_is_honest s n)
begins_honest s (Lose n) lines = mapped (IsHonest s.posted) Nothing_left lines (loss s n) (loss_is_honest s n)
begins_honest s (Next k) lines = goes_on_honest s (Deliveries k) lines
begins_honest s (Tick side) lines = tt
begins_honest s (Inject d) lines = tt
begins_honest s (Power calls pick) lines = tt
begins_honest s Boot lines = tt
begins_honest s (Blksize size) lines = tt
begins_honest s Finish lines = goes_on_honest s (Finishing sides.Loader) lines

lines_honest : (s : Scene) (lines : List Line) → IsHonest s.posted (from_lines s lines).given
lines_honest s [] = tt
lines_honest s (line ∷ lines) = chosen (IsHonest s.posted) (begins s line lines) (from_lines s lines) (begins_honest s line lines) (lines_honest s lines)

pub turn_is_honest : (s : Scene) (p : Plan) → IsHonest s.posted (next_turn s p).given
turn_is_honest s p = chosen (IsHonest s.posted) (goes_on s p.rest p.lines) (from_lines s p.lines) (goes_on_honest s p.rest p.lines) (lines_honest s p.lines)

-- a trace that follows a script is one of an honest link
pub following_is_honest : (waiting : Side → List Step → Bool) (script : List Line) (steps : List Step) → FollowsScript waiting script steps → AllHonest steps
following_is_honest waiting script [] follows = tt
following_is_honest waiting script (s ∷ earlier) follows =
    (rw (follows.0) (turn_is_honest (scene_after waiting earlier) (plan_after waiting script earlier)), following_is_honest waiting script earlier follows.1)

-- ---- the end

delivery_is_no_end : (s : Scene) (n : ℕ) → IfSome (delivery s n) (λ h. h ≢ Ended)
delivery_is_no_end s n = by (numbered s.posted n)
  where
    by : (o : Option DatagramView) → IfSome (option_map (λ (d : DatagramView). Delivered (other d.side) n) o) (λ h. h ≢ Ended)
    by None = tt
    by (Some d) = λ e. cc

least_is_no_end : (s : Scene) (numbers : List ℕ) → IfSome (delivery_of_first s numbers) (λ h. h ≢ Ended)
least_is_no_end s [] = tt
least_is_no_end s (n ∷ numbers) = delivery_is_no_end s n

loss_is_no_end : (s : Scene) (n : ℕ) → IfSome (loss s n) (λ h. h ≢ Ended)
loss_is_no_end s n = by (was_delivered n s.happenings) (numbered s.posted n)
  where
    by : (b : Bool) (o : Option DatagramView) → IfSome (if b then None else option_map (λ (d : DatagramView). Lost n) o) (λ h. h ≢ Ended)
    by true o = tt
    by false None = tt
    by false (Some d) = λ e. cc

goes_on_before_end : (s : Scene) (rest : Rest) (lines : List Line) → IfSome (goes_on s rest lines) (λ t. t.given ≢ Ended)
goes_on_before_end s rest lines = gone_on (λ h. h ≢ Ended) (λ side e. cc) s rest lines (least_is_no_end s (undelivered _ s.happenings))

begins_before_end : (s : Scene) (line : Line) (lines : List Line) → IfSome (begins s line lines) (λ t. t.given ≢ Ended)
begins_before_end s (Info hw pos) lines = λ e. cc
begins_before_end s (Upload hw pos parts) lines = λ e. cc
begins_before_end s (Give n) lines = mapped (λ h. h ≢ Ended) Nothing_left lines (delivery s n) (delivery_is_no_end s n)
begins_before_end s (Lose n) lines = mapped (λ h. h ≢ Ended) Nothing_left lines (loss s n) (loss_is_no_end s n)
begins_before_end s (Next k) lines = goes_on_before_end s (Deliveries k) lines
begins_before_end s (Tick side) lines = λ e. cc
begins_before_end s (Inject d) lines = λ e. cc
begins_before_end s (Power calls pick) lines = λ e. cc
begins_before_end s Boot lines = λ e. cc
begins_before_end s (Blksize size) lines = λ e. cc
begins_before_end s Finish lines = goes_on_before_end s (Finishing sides.Loader) lines

abbrev StaysAtEnd : Turn → Type 0
StaysAtEnd t = t.given ≡ Ended → t.plan ≡ plan_of []

passed : (o : Option Turn) (later : Turn) → IfSome o (λ t. t.given ≢ Ended) → StaysAtEnd later → StaysAtEnd (or_else o later)
passed None later h rest = rest
passed (Some t) later h rest = λ e. absurd (h e)

lines_end : (s : Scene) (lines : List Line) → StaysAtEnd (from_lines s lines)
lines_end s [] = λ e. refl
lines_end s (line ∷ lines) = passed (begins s line lines) (from_lines s lines) (begins_before_end s line lines) (lines_end s lines)

-- the end is given only where nothing of the script is left
pub end_is_last : (s : Scene) (p : Plan) → (next_turn s p).given ≡ Ended → (next_turn s p).plan ≡ plan_of []
end_is_last s p = passed (goes_on s p.rest p.lines) (from_lines s p.lines) (goes_on_before_end s p.rest p.lines) (lines_end s p.lines)

-- and then it is given again
pub end_comes_again : (s : Scene) → next_turn s (plan_of []) ≡ turn Ended Nothing_left []
end_comes_again s = refl
