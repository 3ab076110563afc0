-- The configurations that were active in turn (docs/EXCHANGE.md, "Runs").
use Rattle.std.specs.Prelude.{◌≡◌, List, [], ◌∷◌, ◌==◌, Option, Some, None, if◌then◌else◌}
use Rattle.std.specs.List.{AllZip}
use Rattle.load_base.specs.Config.{LoadView}
use Rattle.load_protocol_files.specs.declared.lur.Wanted.{Wanted}
use Rattle.disk_layout.specs.Holds.{StandingView}
use Rattle.exchange_trace.specs.declared.trace.Side.TheVariants as sides
use Rattle.exchange_trace.specs.Steps.{Step}
use Rattle.exchange_trace.specs.Posts.{posted_in}
use Rattle.exchange_trace.specs.Logs.{event_for}
use Rattle.session_rules.specs.NewConfigs.{IsWanted, request_in}
use Rattle.session_rules.specs.TargetLog.{TargetSessionLog, standing_after}
use Rattle.replay_rules.specs.BothEnds.{Setting, TargetStanding, Is_up, Is_down, changed, target_at, reached, settled}

-- the last configuration that is known to be active
abbrev pub active_in : TargetStanding → StandingView
active_in (Is_up r) = r.active
active_in (Is_down active interrupted) = active

abbrev pub active_at : Setting → List Step → StandingView
active_at set steps = active_in (target_at set steps)

-- what a run stands on that begins with this active
abbrev pub setting_from : Setting → StandingView → Setting
setting_from set active = record { media = set.media; accepts = set.accepts; start = active }

-- what a run stands on that begins where these steps end
abbrev pub setting_after : Setting → List Step → Setting
setting_after set steps = setting_from set (active_at set steps)

-- All that may be active: after an installation that was interrupted, what was active before it or what it brings, until
-- the target comes up or the run ends.
abbrev pub may_be_active : TargetStanding → List StandingView
may_be_active (Is_up r) = r.active ∷ []
may_be_active (Is_down active None) = active ∷ []
may_be_active (Is_down active (Some new)) = active ∷ new ∷ []

abbrev pub with_member : (before after : StandingView) → List StandingView → List StandingView
with_member before after members = if before.sequence == after.sequence then members else after ∷ members

-- the members so far, the newest first: what was active at the start, and what each counted installation brought
abbrev pub members_of : Setting → List Step → List StandingView
members_of set [] = set.start ∷ []
members_of set (s ∷ earlier) = with_member (active_at set earlier) (active_at set (s ∷ earlier)) (members_of set earlier)

-- what is active at the end, where this was recovered then
abbrev pub active_by : TargetStanding → Option StandingView → StandingView
active_by (Is_up r) standing = r.active
active_by (Is_down active interrupted) None = active
active_by (Is_down active interrupted) (Some s) = settled s.sequence active interrupted

-- The history of a run that ended with this standing.
abbrev pub history_of : Setting → List Step → Option StandingView → List StandingView
history_of set steps standing = with_member (active_at set steps) (active_by (target_at set steps) standing) (members_of set steps)

-- The newest step is an install step that brings this: its datagram makes the verdict good.
abbrev pub brings : Setting → Step → List Step → Option StandingView
brings set s earlier = changed (active_at set earlier) (active_in (reached set (event_for sides.Target (posted_in earlier) s.given) (target_at set earlier)))

-- ---- what is new of it

-- what a live session was asked for
abbrev pub request_of : Option TargetSessionLog → List Wanted
request_of None = []
request_of (Some s) = request_in s.row

-- and the target in its live session
abbrev pub requested_in : TargetStanding → List Wanted
requested_in (Is_up r) = request_of r.live
requested_in (Is_down active interrupted) = []

-- What is brought, where the target was in this state, is made of new loads, and then of those that are kept of what was active: one
-- new load for each that the session was asked for, in their order, and this holds of them.
pub record IsMadeOf (before : TargetStanding) (New : List LoadView → Type 0) (brought : StandingView) : Type 0 where
  pub new : List LoadView
  pub wanted : AllZip IsWanted (requested_in before) new
  pub are_new : New new
  pub is : brought ≡ standing_after (active_in before) new
