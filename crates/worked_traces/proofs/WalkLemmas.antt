-- Proof that a walk that agrees shows what was due, what was followed and what was noted.
use Rattle.std.proofs.Common.{◌≡◌, List, [], ◌∷◌, Option, Some, None, refl, ap, subst}
use Rattle.exchange_trace.specs.declared.trace.Side.TheVariants as sides
use Rattle.exchange_trace.specs.Lines.{Line}
use Rattle.exchange_trace.specs.Logs.{Event, event_for, logged, loader_log}
use Rattle.exchange_trace.specs.Posts.{posted_in}
use Rattle.exchange_trace.specs.Steps.{Step}
use Rattle.session_rules.specs.LoaderLog.{LoaderReading, loader_reading}
use Rattle.replay_rules.specs.BothEnds.{Setting}
use Rattle.replay_rules.specs.Due.{AllDue, AllNoted}
use Rattle.replay_rules.specs.Runs.{TraceFollows}
use Rattle.worked_traces.specs.Walks.{Agrees, Walk, loader_then, onto, walk_at, walked}

loader_step : (set : Setting) (log : List Event) (e : Option Event) → loader_then set (loader_reading set.media log) e ≡ loader_reading set.media (logged e log)
loader_step set log None = refl
loader_step set log (Some e) = refl

abbrev with_loader : Walk → LoaderReading → Walk
with_loader w loader = record { loader = loader; target = w.target; posted = w.posted; happenings = w.happenings; plan = w.plan }

walk_step : (set : Setting) (script : List Line) (steps : List Step) (s : Step) → walked set (walk_at set script steps) s ≡ walk_at set script (s ∷ steps)
walk_step set script steps s =
    ap (λ (loader : LoaderReading). with_loader (walk_at set script (s ∷ steps)) loader) (loader_step set (loader_log steps) (event_for sides.Loader (posted_in steps) s.given))

-- what a walk shows of steps
pub record IsShown (set : Setting) (script : List Line) (steps : List Step) : Type 0 where
  pub due : AllDue set steps
  pub followed : TraceFollows set script steps
  pub noted : AllNoted set steps

pub agreed : (set : Setting) (script : List Line) (steps later : List Step) → Agrees set (walk_at set script steps) later → IsShown set script steps → IsShown set script (onto later steps)
agreed set script steps [] agrees shown = shown
agreed set script steps (s ∷ later) (one, rest) shown =
    agreed set script (s ∷ steps) later (subst (λ (w : Walk). Agrees set w later) (walk_step set script steps s) rest)
    (record { due = (one.posts, shown.due); followed = (one.given, shown.followed); noted = (one.notes, shown.noted) })

pub agreed_from_start : (set : Setting) (script : List Line) (trace : List Step) → Agrees set (walk_at set script []) trace → IsShown set script (onto trace [])
agreed_from_start set script trace agrees = agreed set script [] trace agrees (record { due = tt; followed = tt; noted = tt })
