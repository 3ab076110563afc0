-- What is promised of a run that came to its end (docs/PROMISES.md, "The exchange is defined").
use Rattle.std.specs.Prelude.{◌≡◌, ℕ, ◌+◌, ◌≤◌, List, ◌∷◌, ◌++◌, length, reverse, Option, Some}
use Rattle.std.specs.List.{AllByRecursion}
use Rattle.field_grammar.specs.Grammar.{IsBytes}
use Rattle.disk_model.specs.Image.{Image}
use Rattle.disk_layout.specs.Holds.{HoldsConfig, StandingView}
use Rattle.exchange_trace.specs.Lines.{Line}
use Rattle.exchange_trace.specs.Posts.{AllHonest}
use Rattle.exchange_trace.specs.Steps.{Step}
use Rattle.accept_rules.specs.Permissions.{AcceptsPermitted}
use Rattle.session_rules.specs.declared.outcome.FileKind.{FileKind}
use Rattle.session_rules.specs.declared.outcome.Outcome.{Outcome}
use Rattle.session_rules.specs.declared.outcome.Outcome.TheVariants.{BadFile, Completed, Denied, TargetStopped}
use Rattle.session_rules.specs.declared.outcome.SessionKind.{SessionKind}
use Rattle.session_rules.specs.declared.outcome.SessionKind.TheVariants.{Info, Upload}
use Rattle.session_rules.specs.Loader.{EndedSession}
use Rattle.session_rules.specs.LoaderLog.{loader_view}
use Rattle.session_rules.specs.MediaFiles.{Media}
use Rattle.loader_machine.specs.Machine.{all_sessions}
use Rattle.replay_rules.specs.AskedTraces.{EntriesFit}
use Rattle.replay_rules.specs.BothEnds.{Setting, loader_at, target_at}
use Rattle.replay_rules.specs.Changes.{AllBroughtAreGood, AllCarryBytes, AllStayOrAreNew}
use Rattle.replay_rules.specs.FaultFree.{IsFaultFree, NothingInjected}
use Rattle.replay_rules.specs.FirstOrGood.{IsFirstOrGood}
use Rattle.replay_rules.specs.Histories.{active_by, may_be_active}
use Rattle.replay_rules.specs.ListTraces.{ListsInSession}
use Rattle.replay_rules.specs.MediaTraces.{LengthsAreTold}
use Rattle.replay_rules.specs.OwnSessionTraces.{StaysInstalled}
use Rattle.replay_rules.specs.Promises.{AllOfMedia, IsTrace, NoneGoesDown}
use Rattle.replay_rules.specs.Runs.{TraceFollows, IsWithinMargin}
use Rattle.run_promises.specs.Reports.{AllReportsAreTrue}
use Rattle.replay_rules.specs.Causes.{IsDeniedForSequence, IsStoppedByVerdict}
use Rattle.replay_rules.specs.Outcomes.{AllEndByCause}
use Rattle.finish_ends.specs.Scripts.{most_of_lines}
use Rattle.session_completion.specs.FinishedRuns.{FinishIsLeft, IsComplete}
use Rattle.run_promises.specs.Listing.{StandingFits}

-- ---- premises

-- The entries of the media set have names and part numbers, and its files are bytes, no more than a request can tell the length
-- of.
pub record CanBeTold (media : Media) : Type 0 where
  pub entries : EntriesFit media
  pub lengths : LengthsAreTold media
  pub bytes : (name bytes : List ℕ) → media.file name ≡ Some bytes → IsBytes bytes

-- A run came to its end: the end came last, exactly what was due was posted, only that was noted of the target which may be,
-- the link delivered only what was posted, and datagrams carry bytes.
pub record IsWholeRun (set : Setting) (steps : List Step) : Type 0 where
  pub trace : IsTrace set steps
  pub honest : AllHonest steps
  pub carries : AllCarryBytes steps

-- ---- what may be active

-- The configuration changes only to that of a good verdict, made of loads that are good for the target and of those that are
-- kept; and what may be active in the end was active at the start, or each of its loads was active then or is checked, and one
-- is checked.
pub record ChangesByGoodLoads (set : Setting) (steps : List Step) : Type 0 where
  pub changes : AllStayOrAreNew set steps
  pub brought : AllBroughtAreGood set steps
  pub active : AllByRecursion (IsFirstOrGood set) (may_be_active (target_at set steps))

-- The image holds what was active at the start, or a configuration of which each load was active then or is checked, and one is
-- checked.
pub record HoldsFirstOrGood (set : Setting) (image : Image) : Type 0 where
  pub active : StandingView
  pub holds : HoldsConfig image active
  pub good : IsFirstOrGood set active

-- ---- what is told

-- At this place among the sessions, in the order of their starts, one of this kind is told to be completed.
pub record IsTold (kind : SessionKind) (sessions : List EndedSession) : Type 0 where
  pub before : List EndedSession
  pub session : EndedSession
  pub after : List EndedSession
  pub place : sessions ≡ before ++ session ∷ after
  pub kind_is : session.kind ≡ kind
  pub completed : session.outcome ≡ Completed

-- at this place one is told to have come to this
pub record IsToldAs (outcome : Outcome) (sessions : List EndedSession) : Type 0 where
  pub before : List EndedSession
  pub session : EndedSession
  pub after : List EndedSession
  pub place : sessions ≡ before ++ session ∷ after
  pub came_to : session.outcome ≡ outcome

-- The session with these before it ended in this step of the run: they had ended then, and no other.
pub record EndsIn (set : Setting) (steps : List Step) (before : List EndedSession) (session : EndedSession) : Type 0 where
  pub since : List Step
  pub step : Step
  pub earlier : List Step
  pub split : steps ≡ since ++ step ∷ earlier
  pub others : (loader_at set earlier).ended ≡ reverse before
  pub ends : (loader_at set (step ∷ earlier)).ended ≡ session ∷ reverse before

-- An upload had been installed in its own session when it ended: exactly the parts of its start, in their order, and then what
-- is kept. What it installed is in the history of the run, and what is active in the end is that or a later member.
pub record UploadIsInstalled (set : Setting) (steps : List Step) (standing : Option StandingView) (before : List EndedSession) (session : EndedSession) : Type 0 where
  pub ended : EndsIn set steps before session
  pub stays : StaysInstalled set ended.since (ended.step ∷ ended.earlier) standing

-- an information session lists what was active within it
pub record ListIsTrue (set : Setting) (steps : List Step) (before : List EndedSession) (session : EndedSession) : Type 0 where
  pub ended : EndsIn set steps before session
  pub lists : ListsInSession set (ended.step ∷ ended.earlier) session

-- a session was denied with this text, since no sequence number was left as it ended
pub record DenialIsTrue (set : Setting) (steps : List Step) (before : List EndedSession) (session : EndedSession) (text : List ℕ) : Type 0 where
  pub ended : EndsIn set steps before session
  pub denied : IsDeniedForSequence set (ended.step ∷ ended.earlier) text

-- the target stopped a session with this text, which is that of the verdict of its own session that this one began
pub record StopIsTrue (set : Setting) (steps : List Step) (before : List EndedSession) (session : EndedSession) (text : List ℕ) : Type 0 where
  pub ended : EndsIn set steps before session
  pub stopped : IsStoppedByVerdict set (ended.step ∷ ended.earlier) text

-- What is told of the sessions is true: each file of a new load is the media set's file of its name, a completed upload is
-- installed, a completed information session lists what was active, and one that is denied or stopped is so for the reason of
-- the target that is told. None ended by a bad file.
pub record TellsTrue (set : Setting) (steps : List Step) (sessions : List EndedSession) (standing : Option StandingView) : Type 0 where
  pub media : AllOfMedia set steps
  pub uploads : (told : IsTold Upload sessions) → UploadIsInstalled set steps standing told.before told.session
  pub lists : (told : IsTold Info sessions) → ListIsTrue set steps told.before told.session
  pub denials : (text : List ℕ) (told : IsToldAs (Denied text) sessions) → DenialIsTrue set steps told.before told.session text
  pub stops : (text : List ℕ) (told : IsToldAs (TargetStopped text) sessions) → StopIsTrue set steps told.before told.session text
  pub files : (kind : FileKind) (offset : ℕ) → IsToldAs (BadFile kind offset) sessions → ⊥

-- ---- what completes

-- The run was left to a last `finish` of this script after the steps `before`, which are fault-free and within the margin.
pub record IsLeftToLastFinish (set : Setting) (script : List Line) (steps : List Step) : Type 0 where
  pub before : List Step
  pub more : List Step
  pub split : steps ≡ more ++ before
  pub free : IsFaultFree set before
  pub margin : IsWithinMargin set before
  pub left : FinishIsLeft set script before

-- such a run, in whose `finish` the target doesn't go down, and at whose end this was recovered, is complete
abbrev pub CompletesAtFinish : Setting → List Line → List Step → Option StandingView → Type 0
CompletesAtFinish set script steps standing =
    (left : IsLeftToLastFinish set script steps) → NoneGoesDown left.more → (last : StandingView) → standing ≡ Some last → last ≡ active_by (target_at set steps) (Some last)
    → IsComplete set left.before left.free steps last

-- ---- all of it

-- What is promised of a run with these sessions, at whose end this was recovered, where the interlock accepts only what it may.
-- Whatever was injected, what may be active is good, as a target reports a completion nothing else may be active than what it
-- reports, and each session that ended came to its outcome by its cause; where nothing was injected, the media set can be told,
-- and the run began with what a disk can hold, what is told is true; a run of a script has no more steps than its lines allow,
-- and a fault-free one that was left to its last `finish` is complete.
pub record KeepsPromises (set : Setting) (steps : List Step) (sessions : List EndedSession) (standing : Option StandingView) : Type 0 where
  pub good : AcceptsPermitted set.accepts → ChangesByGoodLoads set steps
  pub reports : AcceptsPermitted set.accepts → AllReportsAreTrue set steps
  pub causes : AllEndByCause set steps
  pub tells : AcceptsPermitted set.accepts → CanBeTold set.media → StandingFits set.start → NothingInjected steps → TellsTrue set steps sessions standing
  pub bounded : (script : List Line) → TraceFollows set script steps → length steps ≤ most_of_lines 0 script + 1
  pub completes : AcceptsPermitted set.accepts → CanBeTold set.media → StandingFits set.start → (script : List Line) → TraceFollows set script steps → CompletesAtFinish set script steps standing

abbrev pub RunsKeepPromises : Type 0
RunsKeepPromises = (set : Setting) (steps : List Step) (standing : Option StandingView) → IsWholeRun set steps
    → KeepsPromises set steps (all_sessions (loader_view (loader_at set steps))) standing
