-- Each step of a run in which nothing fails is the one that comes next.
use Rattle.std.proofs.Common.{◌≡◌, List, [], ◌∷◌, ap, ◌∙◌}
use Rattle.exchange_trace.specs.Happenings.{DatagramView, HappeningView}
use Rattle.exchange_trace.specs.Posts.{first_port_after, posted_in}
use Rattle.exchange_trace.specs.Steps.{Note, Step}
use Rattle.replay_rules.specs.BothEnds.{Setting, target_at}
use Rattle.replay_rules.specs.Due.{due}
use Rattle.fixed_runs.specs.FixedRuns.{ActiveIsFixed, EachStepIsNext, TargetStaysUp, happens_next, noted_next, step_with}
use Rattle.fixed_runs.proofs.StaysUp.{active_is, noted_is, stays_up}

same_step : (g h : HappeningView) (posts sent : List DatagramView) (notes told : List Note) → g ≡ h → posts ≡ sent → notes ≡ told
    → ◌≡◌ {A = Step} (record { given = g; posts = posts; notes = notes }) (record { given = h; posts = sent; notes = told })
same_step g h posts sent notes told a b c =
    ap (λ (x : HappeningView). let s : Step = record { given = x; posts = posts; notes = notes } in s) a
    ∙ (ap (λ (x : List DatagramView). let s : Step = record { given = h; posts = x; notes = notes } in s) b
    ∙ ap (λ (x : List Note). let s : Step = record { given = h; posts = sent; notes = x } in s) c)

step_is : (set : Setting) (earlier : List Step) (given h : HappeningView) (posts : List DatagramView) (notes : List Note) → given ≡ h → posts ≡ due set earlier given notes
    → notes ≡ noted_next set earlier given → ◌≡◌ {A = Step} (record { given = given; posts = posts; notes = notes }) (step_with set earlier h)
step_is set earlier given h posts notes g p n =
    same_step given h posts (due set earlier h (noted_next set earlier h)) notes (noted_next set earlier h) g
    (p ∙ (ap (λ (m : List Note). due set earlier given m) n ∙ ap (λ (x : HappeningView). due set earlier x (noted_next set earlier x)) g))
    (n ∙ ap (λ (x : HappeningView). noted_next set earlier x) g)

pub each_step_is_next : EachStepIsNext
each_step_is_next set script [] run = tt
each_step_is_next set script (s ∷ earlier) run = (
  step_is set earlier s.given (happens_next set script earlier) s.posts s.notes run.follows.0 run.due.0
      (noted_is set (target_at set earlier) (first_port_after earlier) (posted_in earlier) s.given s.notes (stays_up set earlier run.up.1) run.noted.0 run.up.0 run.boots.0),
  each_step_is_next set script earlier (record { follows = run.follows.1; due = run.due.1; noted = run.noted.1; up = run.up.1; boots = run.boots.1 }),
)

pub target_stays_up : TargetStaysUp
target_stays_up = stays_up

pub active_is_fixed : ActiveIsFixed
active_is_fixed set steps last none is = active_is (target_at set steps) last (stays_up set steps none) is
