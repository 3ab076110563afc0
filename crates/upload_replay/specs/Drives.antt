-- What holds of a run as it goes on, and once it came to its end (docs/EXCHANGE.md, "Runs").
use Rattle.std.specs.Prelude.{◌≡◌, List, [], ◌∷◌, ◌++◌, Bool, true, false, is_some, Option, Some, None, ⊤}
use Rattle.std.specs.List.{AllByRecursion}
use Rattle.accept_rules.specs.Interlocks.{FollowsAccepts}
use Rattle.load_header.specs.declared.header.LoadHeader.{LoadHeader}
use Rattle.accept_rules.specs.declared.kept.KeptLoad.{KeptLoad}
use Rattle.disk_layout.specs.Holds.{HoldsConfig, StandingView}
use Rattle.disk_model.specs.Image.{Image}
use Rattle.media_check.specs.Sets.{SetView}
use Rattle.exchange_trace.specs.declared.trace.Side.TheVariants as sides
use Rattle.exchange_trace.specs.Happenings.{DatagramView, HappeningView, Ended}
use Rattle.exchange_trace.specs.Lines.{Line}
use Rattle.exchange_trace.specs.Logs.{event_for, loader_log}
use Rattle.exchange_trace.specs.Posts.{AllHonest, first_port_after, happenings_of, posted_in}
use Rattle.exchange_trace.specs.Steps.{Step}
use Rattle.link_net.specs.Followed.{HasFollowed}
use Rattle.link_net.specs.Links.{LinkState}
use Rattle.session_rules.specs.Loader.{EndedSession, LoaderView}
use Rattle.session_rules.specs.LoaderLog.{loader_reading, loader_view}
use Rattle.session_rules.specs.MediaFiles.{Media}
use Rattle.session_rules.specs.Target.{TargetView}
use Rattle.loader_machine.specs.Machine.{all_sessions, media_of}
use Rattle.replay_rules.specs.BothEnds.{Setting, loader_at, waiting}
use Rattle.replay_rules.specs.Changes.{AllCarryBytes}
use Rattle.replay_rules.specs.Due.{MayBeNoted}
use Rattle.replay_rules.specs.Promises.{EndsOnce, IsTrace}
use Rattle.replay_rules.specs.Ties.{loader_says}
use Rattle.run_promises.specs.Promises.{KeepsPromises}
use Rattle.replay_turns.specs.Targets.{IsNoBoot}

-- ---- sessions

-- a target that is up has a live session
abbrev pub has_session : Option TargetView → Bool
has_session None = false
has_session (Some v) = is_some v.live

abbrev pub is_end : HappeningView → Bool
is_end Ended = true
is_end h = false

-- ---- what needs no disk

-- what the loader's log says that it keeps
abbrev pub loader_by : Media → List Step → LoaderView
loader_by media steps = loader_view (loader_reading media (loader_log steps))

-- In each step exactly those datagrams were posted first that were due from the loader.
abbrev pub AllLoaderDue : Media → List Step → Type 0
AllLoaderDue media [] = ⊤
AllLoaderDue media (s ∷ earlier) =
    ((target_posts : List DatagramView) × (s.posts ≡ loader_says media (loader_by media earlier) (event_for sides.Loader (posted_in earlier) s.given) ++ target_posts))
    × AllLoaderDue media earlier

-- In each step only that was noted of the target which may be of one that is up, or of one that is down: at a boot a refusal,
-- or the first port that was due.
abbrev pub AllNotable : List Step → Type 0
AllNotable [] = ⊤
AllNotable (s ∷ earlier) = ((up : Bool) × MayBeNoted up (first_port_after earlier) s.given s.notes) × AllNotable earlier

-- A run goes on, of whose disk nothing is known: the loader keeps what its log says.
pub record LoaderGoesOn (media : Media) (steps : List Step) (loader : LoaderView) : Type 0 where
  pub kept : loader ≡ loader_by media steps
  pub due : AllLoaderDue media steps
  pub noted : AllNotable steps
  pub honest : AllHonest steps

-- A run came to its end, of whose disk nothing is known: the loader did what its rules say, and has one session for each
-- start; what was delivered had been posted, and carries bytes.
pub record IsLoadersRun (media : Media) (steps : List Step) (sessions : List EndedSession) : Type 0 where
  pub due : AllLoaderDue media steps
  pub noted : AllNotable steps
  pub honest : AllHonest steps
  pub carries : AllCarryBytes steps
  pub sessions_are : sessions ≡ all_sessions (loader_by media steps)

-- ---- boots

-- no boot so far
abbrev pub NeverBoots : List Step → Type 0
NeverBoots steps = AllByRecursion (λ (s : Step). IsNoBoot s.given) steps

-- ---- a whole run

-- A run stands on this media set, on this interlock, and on what this image of the disk holds.
pub record IsSet {R : Type 0} (may_say : R → LoadHeader → List KeptLoad → Bool → Type 0) (set : Setting) (interlock : R) (shown : SetView) (image : Image) : Type 0 where
  pub media : set.media ≡ media_of shown
  pub accepts : FollowsAccepts may_say interlock set.accepts
  pub start : HoldsConfig image set.start

-- In every run the trace has the end last and once, and the link gave exactly its happenings and was posted exactly its posts.
pub record TellsLink (began ended : LinkState) (steps : List Step) : Type 0 where
  pub ends : EndsOnce steps
  pub given : ended.given ≡ happenings_of steps ++ began.given
  pub posted : ended.posted ≡ posted_in steps

-- A trace of one unit with its end, which comes last and once: exactly what was due was posted, and only that was noted of the
-- target which may be; the loader has one session for each start; and all is kept that is promised of a run with these sessions,
-- at whose end this was recovered.
pub record IsUnitRun (set : Setting) (steps : List Step) (sessions : List EndedSession) (standing : Option StandingView) : Type 0 where
  pub trace : IsTrace set steps
  pub carries : AllCarryBytes steps
  pub honest : AllHonest steps
  pub sessions_are : sessions ≡ all_sessions (loader_view (loader_at set steps))
  pub keeps : KeepsPromises set steps sessions standing

-- A run came to its end: its trace has the end last and once, exactly what was due was posted, and only that was noted of the
-- target which may be; the link was posted and gave exactly what the trace has; the loader has one session for each start; and
-- all is kept that is promised of a run with these sessions, at whose end this was recovered.
pub record IsDrivenRun (set : Setting) (began ended : LinkState) (steps : List Step) (sessions : List EndedSession) (standing : Option StandingView) : Type 0 where
  pub trace : IsTrace set steps
  pub carries : AllCarryBytes steps
  pub posted : ended.posted ≡ posted_in steps
  pub given : ended.given ≡ happenings_of steps ++ began.given
  pub honest : AllHonest steps
  pub follows : (script : List Line) → HasFollowed (waiting set) script [] began → HasFollowed (waiting set) script steps ended
  pub sessions_are : sessions ≡ all_sessions (loader_view (loader_at set steps))
  pub keeps : KeepsPromises set steps sessions standing
