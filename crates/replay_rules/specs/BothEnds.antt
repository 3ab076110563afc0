-- Both ends after the steps of a trace (docs/EXCHANGE.md, "Runs").
use Rattle.std.specs.Prelude.{ℕ, List, [], ◌∷◌, Bool, false, ◌==◌, Option, Some, None, is_some, if◌then◌else◌}
use Rattle.disk_layout.specs.Holds.{StandingView}
use Rattle.exchange_trace.specs.declared.trace.Side.{Side}
use Rattle.exchange_trace.specs.declared.trace.Side.TheVariants as sides
use Rattle.exchange_trace.specs.Logs.{Event, event_for, loader_log}
use Rattle.exchange_trace.specs.Posts.{posted_in}
use Rattle.exchange_trace.specs.Steps.{Step, Note, Went_down, Came_up, Boot_refused}
use Rattle.accept_rules.specs.Permissions.{Accepts}
use Rattle.session_rules.specs.LoaderLog.{LoaderReading, loader_reading}
use Rattle.session_rules.specs.MediaFiles.{Media}
use Rattle.session_rules.specs.TargetLog.{TargetReading, new_target_reading, target_extended}

-- what a run stands on: the media set, the loads that the interlock accepts, and what is active at the start
pub record Setting : Type 0 where
  pub media : Media
  pub accepts : Accepts
  pub start : StandingView

-- what the loader's log says after these steps
abbrev pub loader_at : Setting → List Step → LoaderReading
loader_at set steps = loader_reading set.media (loader_log steps)

-- The target is up, with what its log says; or down, with what was active before, and with what an installation that was
-- interrupted would have made active.
pub data TargetStanding : Type 0 where
  Is_up : TargetReading → TargetStanding
  Is_down : (active : StandingView) → (interrupted : Option StandingView) → TargetStanding

abbrev pub reached : Setting → Option Event → TargetStanding → TargetStanding
reached set (Some e) (Is_up r) = Is_up (target_extended set.accepts r e)
reached set e state = state

-- the configuration after, if it is another than the one before
abbrev pub changed : (before after : StandingView) → Option StandingView
changed before after = if before.sequence == after.sequence then None else Some after

-- The target goes down in a step that leads it from one state to another.
abbrev pub gone_down : (before after : TargetStanding) → TargetStanding
gone_down (Is_up before) (Is_up after) = Is_down before.active (changed before.active after.active)
gone_down (Is_up before) (Is_down active interrupted) = Is_down active interrupted
gone_down (Is_down active interrupted) after = Is_down active interrupted

-- which of the two is active, where this sequence number was found
abbrev pub settled : (sequence : ℕ) → StandingView → Option StandingView → StandingView
settled sequence active None = active
settled sequence active (Some new) = if sequence == new.sequence then new else active

abbrev pub come_up : (first_port sequence : ℕ) → TargetStanding → TargetStanding
come_up first_port sequence (Is_down active interrupted) = Is_up (new_target_reading first_port (settled sequence active interrupted))
come_up first_port sequence (Is_up r) = Is_up r

-- what is noted of the target in a step that leads it from one state to another; a boot brings it down first
abbrev pub noted : List Note → (before after : TargetStanding) → TargetStanding
noted [] before after = after
noted (Went_down ∷ notes) before after = noted notes (gone_down before after) (gone_down before after)
noted (Came_up first_port sequence ∷ notes) before after =
    noted notes (come_up first_port sequence (gone_down before after)) (come_up first_port sequence (gone_down before after))
noted (Boot_refused fault ∷ notes) before after = noted notes (gone_down before after) (gone_down before after)

-- the target after these steps
abbrev pub target_at : Setting → List Step → TargetStanding
target_at set [] = Is_up (new_target_reading 1024 set.start)
target_at set (s ∷ earlier) = noted s.notes (target_at set earlier) (reached set (event_for sides.Target (posted_in earlier) s.given) (target_at set earlier))

-- ---- which ends wait

abbrev pub loader_waits : Setting → List Step → Bool
loader_waits set steps = is_some (loader_at set steps).live

abbrev pub waits_in : TargetStanding → Bool
waits_in (Is_up r) = is_some r.live
waits_in (Is_down active interrupted) = false

abbrev pub target_waits : Setting → List Step → Bool
target_waits set steps = waits_in (target_at set steps)

-- a side has a live session
abbrev pub waiting : Setting → Side → List Step → Bool
waiting set sides.Loader steps = loader_waits set steps
waiting set sides.Target steps = target_waits set steps
