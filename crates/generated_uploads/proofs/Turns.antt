-- What happens in a run of an upload and `finish`.
use Rattle.std.proofs.Common.{◌≡◌, ℕ, List, [], ◌∷◌, ◌++◌, length, Bool, Option, Some, None, refl, sym, ap, subst, ◌∙◌}
use Rattle.std.specs.Prelude.{⊤, option_map}
use Rattle.std.specs.List.{AllByRecursion}
use Rattle.exchange_trace.specs.declared.trace.Side.{Side}
use Rattle.exchange_trace.specs.declared.trace.Side.TheVariants as sides
use Rattle.exchange_trace.specs.Following.{Finishing, FollowsScript, Nothing_left, Plan, Rest, Scene, Turn, delivery, delivery_of_first, finishing, finishing_tick, least_delivery, next_turn, or_else, plan_after, scene_after, ticked_side, turn}
use Rattle.exchange_trace.specs.Happenings.{DatagramView, Delivered, Ended, HappeningView, Ticked, Upload_started, other}
use Rattle.exchange_trace.specs.Lines.{Finish, Line, Upload}
use Rattle.exchange_trace.specs.Logs.{Event, event_for, gets, logged, loader_log}
use Rattle.exchange_trace.specs.Posts.{numbered, posted_in, undelivered}
use Rattle.exchange_trace.specs.Steps.{Step}
use Rattle.session_rules.specs.Sessions.{starts_in}
use Rattle.session_rules.specs.declared.outcome.SessionKind.TheVariants as kinds
use Rattle.replay_rules.specs.BothEnds.{waiting}
use Rattle.generated_uploads.specs.GeneratedMedia.{generated_part}
use Rattle.generated_uploads.specs.GeneratedUploads.{IsOfTrial, OnlyTrialHappens}

-- ---- a turn of `finish`

-- what happens as `finish` is followed, and the end
abbrev pub IsOfFinish : HappeningView → Type 0
IsOfFinish (Delivered side n) = ⊤
IsOfFinish (Ticked side) = ⊤
IsOfFinish Ended = ⊤
IsOfFinish h = ⊥

-- what is left of the script, once its first line is over
abbrev IsBegun : Rest → List Line → Type 0
IsBegun Nothing_left [] = ⊤
IsBegun Nothing_left (Finish ∷ []) = ⊤
IsBegun (Finishing first) [] = ⊤
IsBegun rest lines = ⊥

abbrev IsFinishing : Turn → Type 0
IsFinishing t = IsOfFinish t.given × IsBegun t.plan.rest t.plan.lines

abbrev MayCome : Option HappeningView → Type 0
MayCome None = ⊤
MayCome (Some h) = IsOfFinish h

named_comes : (s : Scene) (n : ℕ) → MayCome (delivery s n)
named_comes s n = by (numbered s.posted n)
  where
    by : (o : Option DatagramView) → MayCome (option_map (λ d. Delivered (other d.side) n) o)
    by None = tt
    by (Some d) = tt

first_comes : (s : Scene) (numbers : List ℕ) → MayCome (delivery_of_first s numbers)
first_comes s [] = tt
first_comes s (n ∷ numbers) = named_comes s n

abbrev the_end : Turn
the_end = turn Ended Nothing_left []

tick_finishes : (side : Option Side) → IsFinishing (or_else (finishing_tick [] side) the_end)
tick_finishes None = (tt, tt)
tick_finishes (Some side) = (tt, tt)

turn_finishes : (s : Scene) (first : Side) (h : Option HappeningView) → MayCome h → IsFinishing (or_else (finishing s first [] h) the_end)
turn_finishes s first None may = tick_finishes (ticked_side s first)
turn_finishes s first (Some h) may = (may, tt)

finishes : (s : Scene) (rest : Rest) (lines : List Line) → IsBegun rest lines → IsFinishing (next_turn s (record { rest = rest; lines = lines }))
finishes s Nothing_left [] is = (tt, tt)
finishes s Nothing_left (Finish ∷ []) is = turn_finishes s sides.Loader (least_delivery s) (first_comes s (undelivered (length s.posted) s.happenings))
finishes s (Finishing first) [] is = turn_finishes s first (least_delivery s) (first_comes s (undelivered (length s.posted) s.happenings))
finishes s rest lines is = absurd is

-- ---- the whole run

module _ (waiting : Side → List Step → Bool) (hw pos : List ℕ) (parts : List (List ℕ)) where
  abbrev script : List Line
  script = Upload hw pos parts ∷ Finish ∷ []

  abbrev plan_left : (more : List Step) (first : Step) → Plan
  plan_left more first = plan_after waiting script (more ++ first ∷ [])

  begun : (more : List Step) (first : Step) → IsBegun (plan_left more first).rest (plan_left more first).lines
  begun [] first = tt
  begun (s ∷ more) first = (finishes (scene_after waiting (more ++ first ∷ [])) (plan_left more first).rest (plan_left more first).lines (begun more first)).1

  -- each step after the first is one of `finish`
  pub later_finish : (more : List Step) (first : Step) → FollowsScript waiting script (more ++ first ∷ []) → AllByRecursion (λ (s : Step). IsOfFinish s.given) more
  later_finish [] first follows = tt
  later_finish (s ∷ more) first (is, before) =
      (subst IsOfFinish (sym is) (finishes (scene_after waiting (more ++ first ∷ [])) (plan_left more first).rest (plan_left more first).lines (begun more first)).0, later_finish more first before)

  -- and that starts the upload
  pub first_starts : (more : List Step) (first : Step) → FollowsScript waiting script (more ++ first ∷ []) → first.given ≡ Upload_started hw pos parts
  first_starts [] first (is, before) = is
  first_starts (s ∷ more) first (is, before) = first_starts more first before

finish_is_of_trial : (h : HappeningView) → IsOfFinish h → IsOfTrial h
finish_is_of_trial (Delivered side n) is = tt
finish_is_of_trial (Ticked side) is = tt
finish_is_of_trial Ended is = tt
finish_is_of_trial h is = absurd is

are_of_trial : (more : List Step) (first : Step) → AllByRecursion (λ (s : Step). IsOfFinish s.given) more → IsOfTrial first.given → AllByRecursion (λ (s : Step). IsOfTrial s.given) (more ++ first ∷ [])
are_of_trial [] first all is = (is, tt)
are_of_trial (s ∷ more) first (now, later) is = (finish_is_of_trial s.given now, are_of_trial more first later is)

-- The steps of a run begin with one.
pub record Began (steps : List Step) : Type 0 where
  pub more : List Step
  pub first : Step
  pub split : steps ≡ more ++ first ∷ []

pub began : (s : Step) (steps : List Step) → Began (s ∷ steps)
began s [] = record { more = []; first = s; split = refl }
began s (t ∷ steps) = let rest = began t steps in record { more = s ∷ rest.more; first = rest.first; split = ap (λ (l : List Step). s ∷ l) rest.split }

pub only_trial : OnlyTrialHappens
only_trial set id [] follows = tt
only_trial set id (s ∷ steps) follows =
    let run = began s steps in
    let so = subst (λ (list : List Step). FollowsScript (waiting set) (script (waiting set) id.hw id.pos (generated_part ∷ [])) list) run.split follows in
    subst (λ (list : List Step). AllByRecursion (λ (s : Step). IsOfTrial s.given) list) (sym run.split)
    (are_of_trial run.more run.first (later_finish (waiting set) id.hw id.pos (generated_part ∷ []) run.more run.first so)
    (subst IsOfTrial (sym (first_starts (waiting set) id.hw id.pos (generated_part ∷ []) run.more run.first so)) tt))

-- ---- starts

none_started : (posted : List DatagramView) (h : HappeningView) → IsOfFinish h → (log : List Event) → starts_in (logged (event_for sides.Loader posted h) log) ≡ starts_in log
none_started posted (Delivered sides.Loader n) is log = by (numbered posted n)
  where
    by : (o : Option DatagramView) → starts_in (logged (gets o) log) ≡ starts_in log
    by None = refl
    by (Some d) = refl
none_started posted (Delivered sides.Target n) is log = refl
none_started posted (Ticked sides.Loader) is log = refl
none_started posted (Ticked sides.Target) is log = refl
none_started posted Ended is log = refl
none_started posted h is log = absurd is

pub one_start : (hw pos : List ℕ) (parts : List (List ℕ)) (more : List Step) (first : Step) → AllByRecursion (λ (s : Step). IsOfFinish s.given) more → first.given ≡ Upload_started hw pos parts
    → starts_in (loader_log (more ++ first ∷ [])) ≡ kinds.Upload ∷ []
one_start hw pos parts [] first all is = ap (λ (h : HappeningView). starts_in (logged (event_for sides.Loader [] h) [])) is
one_start hw pos parts (s ∷ more) first (now, later) is =
    none_started (posted_in (more ++ first ∷ [])) s.given now (loader_log (more ++ first ∷ [])) ∙ one_start hw pos parts more first later is
