-- What a script's last `finish` gives: deliveries, ticks and the end.
use Rattle.std.proofs.Common.{◌≡◌, ℕ, List, [], ◌∷◌, ◌++◌, Option, Some, None, refl, sym, ap, subst, ◌∙◌}
use Rattle.std.specs.Prelude.{length, option_map}
use Rattle.std.specs.List.{AllByRecursion}
use Rattle.exchange_trace.specs.declared.trace.Side.{Side}
use Rattle.exchange_trace.specs.declared.trace.Side.TheVariants as sides
use Rattle.exchange_trace.specs.Following.{Deliveries, Finishing, Nothing_left, Rest, Scene, Turn, delivery, delivery_of_first, finishing, finishing_tick, from_lines, goes_on, least_delivery, next_turn, or_else, ticked_side, turn}
use Rattle.exchange_trace.specs.Happenings.{DatagramView, Delivered, Ended, HappeningView, other}
use Rattle.exchange_trace.specs.Lines.{Finish, Line}
use Rattle.exchange_trace.specs.Posts.{numbered, undelivered}
use Rattle.exchange_trace.specs.Steps.{Step}
use Rattle.replay_rules.specs.BothEnds.{Setting}
use Rattle.replay_rules.specs.Due.{LeavesPower}
use Rattle.replay_rules.specs.FaultFree.{IsNoInjection, IsNoStart}
use Rattle.replay_rules.specs.Runs.{TraceFollows, plan_at, scene_at}
use Rattle.session_completion.specs.FinishedRuns.{AllGiveNothing, FinishIsLeft, FinishLeavesPower}

-- nothing is injected, no session is started, and power is neither lost nor switched
pub record IsQuietly (h : HappeningView) : Type 0 where
  pub injects : IsNoInjection h
  pub starts : IsNoStart h
  pub power : LeavesPower h

-- `finish` is being followed, or the script is over
abbrev IsLast : Rest → List Line → Type 0
IsLast (Finishing first) [] = Unit {0}
IsLast Nothing_left [] = Unit {0}
IsLast rest lines = ⊥

abbrev pub IsLastTurn : Turn → Type 0
IsLastTurn t = IsQuietly t.given × IsLast t.plan.rest t.plan.lines

abbrev IfQuiet : Option HappeningView → Type 0
IfQuiet None = Unit {0}
IfQuiet (Some h) = IsQuietly h

delivery_quiet : (s : Scene) (n : ℕ) → IfQuiet (delivery s n)
delivery_quiet s n = by (numbered s.posted n)
  where
    by : (o : Option DatagramView) → IfQuiet (option_map (λ (d : DatagramView). Delivered (other d.side) n) o)
    by None = tt
    by (Some d) = record { injects = tt; starts = tt; power = tt }

least_quiet : (s : Scene) (ns : List ℕ) → IfQuiet (delivery_of_first s ns)
least_quiet s [] = tt
least_quiet s (n ∷ ns) = delivery_quiet s n

tick_last : (o : Option Side) → IsLastTurn (or_else (finishing_tick [] o) (turn Ended Nothing_left []))
tick_last None = (record { injects = tt; starts = tt; power = tt }, tt)
tick_last (Some side) = (record { injects = tt; starts = tt; power = tt }, tt)

finishing_last : (s : Scene) (first : Side) (o : Option HappeningView) → IfQuiet o → IsLastTurn (or_else (finishing s first [] o) (turn Ended Nothing_left []))
finishing_last s first None h = tick_last (ticked_side s first)
finishing_last s first (Some x) h = (h, tt)

pub finish_turn : (s : Scene) (first : Side) → IsLastTurn (or_else (goes_on s (Finishing first) []) (turn Ended Nothing_left []))
finish_turn s first = finishing_last s first (least_delivery s) (least_quiet s (undelivered (length s.posted) s.happenings))

last_turn : (s : Scene) (rest : Rest) (lines : List Line) → IsLast rest lines → IsLastTurn (next_turn s (record { rest = rest; lines = lines }))
last_turn s (Finishing first) [] h = finish_turn s first
last_turn s (Finishing first) (line ∷ lines) h = absurd h
last_turn s Nothing_left [] h = (record { injects = tt; starts = tt; power = tt }, tt)
last_turn s Nothing_left (line ∷ lines) h = absurd h
last_turn s (Deliveries k) lines h = absurd h

-- lines that give nothing are passed over
passed_over : (s : Scene) (idle later : List Line) → AllGiveNothing s idle later → from_lines s (idle ++ later) ≡ from_lines s later
passed_over s [] later h = refl
passed_over s (line ∷ idle) later h = ap (λ (o : Option Turn). or_else o (from_lines s (idle ++ later))) h.0 ∙ passed_over s idle later h.1

-- the first turn of that `finish`
pub begins_finish : (set : Setting) (script : List Line) (steps : List Step) → FinishIsLeft set script steps
    → next_turn (scene_at set steps) (plan_at set script steps) ≡ or_else (goes_on (scene_at set steps) (Finishing sides.Loader) []) (turn Ended Nothing_left [])
begins_finish set script steps left =
    let s = scene_at set steps in
    ap (λ (o : Option Turn). or_else o (from_lines s (plan_at set script steps).lines)) left.over ∙ ap (λ (lines : List Line). from_lines s lines) left.lines ∙ passed_over s left.idle (Finish ∷ []) left.give_nothing

module _ (set : Setting) (script : List Line) (steps : List Step) (left : FinishIsLeft set script steps) where
  turn_is_last : (more : List Step) → IsLastTurn (next_turn (scene_at set (more ++ steps)) (plan_at set script (more ++ steps)))
  turn_is_last [] = subst (λ (t : Turn). IsLastTurn t) (sym (begins_finish set script steps left)) (finish_turn (scene_at set steps) sides.Loader)
  turn_is_last (s ∷ more) =
      let plan = plan_at set script (s ∷ (more ++ steps)) in last_turn (scene_at set (s ∷ (more ++ steps))) plan.rest plan.lines (turn_is_last more).1

  pub all_quietly : (more : List Step) → TraceFollows set script (more ++ steps) → AllByRecursion (λ (s : Step). IsQuietly s.given) more
  all_quietly [] follows = tt
  all_quietly (s ∷ more) follows = (subst (λ (h : HappeningView). IsQuietly h) (sym follows.0) (turn_is_last more).0, all_quietly more follows.1)

pub power_is_left : FinishLeavesPower
power_is_left set script steps more left follows = by more (all_quietly set script steps left more follows)
  where
    by : (more : List Step) → AllByRecursion (λ (s : Step). IsQuietly s.given) more → AllByRecursion (λ (s : Step). LeavesPower s.given) more
    by [] quietly = tt
    by (s ∷ more) (quietly, before) = (quietly.power, by more before)
