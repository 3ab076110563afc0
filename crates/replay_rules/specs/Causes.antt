-- Why sessions of a run are denied or stopped where nothing is injected (docs/EXCHANGE.md, "Operations").
use Rattle.std.specs.Prelude.{◌≡◌, ℕ, ◌<◌, ◌≤◌, List, [], ◌∷◌, ◌++◌, length, Some, ⊤}
use Rattle.load_base.specs.Ident.{IsIdent}
use Rattle.load_base.specs.Text.{IsText}
use Rattle.disk_layout.specs.Contents.{entries_of}
use Rattle.disk_layout.specs.Holds.{StandingView}
use Rattle.disk_layout.specs.Manifest.{FitsALayout}
use Rattle.exchange_trace.specs.Happenings.{Upload_started}
use Rattle.exchange_trace.specs.Steps.{Step}
use Rattle.accept_rules.specs.Permissions.{AcceptsPermitted}
use Rattle.transfer_end.specs.OtherEnds.{Among, AnswersRequest}
use Rattle.transfer_end.specs.Transfers.{Transfer}
use Rattle.session_rules.specs.declared.outcome.FileKind.{FileKind}
use Rattle.session_rules.specs.declared.outcome.Outcome.{Outcome}
use Rattle.session_rules.specs.declared.outcome.Outcome.TheVariants.{BadFile, Completed, Denied, TargetStopped}
use Rattle.session_rules.specs.declared.reason.Reason.{Reason}
use Rattle.session_rules.specs.declared.reason.Reason.TheVariants.{SequenceSpent}
use Rattle.session_rules.specs.Loader.{EndedSession}
use Rattle.session_rules.specs.NewConfigs.{Fails_for, verdict_in}
use Rattle.session_rules.specs.Reports.{reason_text}
use Rattle.session_rules.specs.TargetLog.{TargetSessionLog}
use Rattle.replay_rules.specs.BothEnds.{Is_down, Is_up, Setting, TargetStanding, loader_at, target_at}
use Rattle.replay_rules.specs.Histories.{active_at}
use Rattle.replay_rules.specs.ListTraces.{AllCanBeListed, OwnFilesAreNamed}
use Rattle.replay_rules.specs.MediaTraces.{LengthsAreTold}
use Rattle.replay_rules.specs.OtherEndTraces.{IsUninjected, loader_transfers, target_transfers}
use Rattle.replay_rules.specs.OwnSessionTraces.{NoneStarts}

-- ---- how a session ended

-- an outcome that comes from a file which arrived
abbrev pub IsOutcomeOfFile : Outcome → Type 0
IsOutcomeOfFile Completed = ⊤
IsOutcomeOfFile (Denied text) = ⊤
IsOutcomeOfFile (TargetStopped text) = ⊤
IsOutcomeOfFile (BadFile kind offset) = ⊤
IsOutcomeOfFile outcome = ⊥

-- The session ended in one of these steps: those before it, the newest first, had ended then, and no other.
pub record EndedInStep (set : Setting) (steps : List Step) (session : EndedSession) (before : List EndedSession) : Type 0 where
  pub since : List Step
  pub step : Step
  pub earlier : List Step
  pub split : steps ≡ since ++ step ∷ earlier
  pub others : (loader_at set earlier).ended ≡ before
  pub ends : (loader_at set (step ∷ earlier)).ended ≡ session ∷ before

-- Each session whose outcome comes from a file ended in a step of the run, once those before it had.
abbrev pub SessionsEndInSteps : Type 0
SessionsEndInSteps = (set : Setting) (steps : List Step) (newer : List EndedSession) (session : EndedSession) (before : List EndedSession) → (loader_at set steps).ended ≡ newer ++ session ∷ before → IsOutcomeOfFile session.outcome
    → EndedInStep set steps session before

-- a session ended in the newest step, and came to this
pub record EndsAs (set : Setting) (s : Step) (earlier : List Step) (outcome : Outcome) : Type 0 where
  pub session : EndedSession
  pub ended : (loader_at set (s ∷ earlier)).ended ≡ session ∷ (loader_at set earlier).ended
  pub came_to : session.outcome ≡ outcome

-- ---- denied

-- no sequence number is left after that of the configuration
abbrev pub IsSequenceSpent : StandingView → Type 0
IsSequenceSpent active = 4294967295 ≤ active.sequence

-- The target denied it since no sequence number was left, and what is active has the last one; the text is that reason.
pub record IsDeniedForSequence (set : Setting) (steps : List Step) (text : List ℕ) : Type 0 where
  pub spent : IsSequenceSpent (active_at set steps)
  pub tells : text ≡ reason_text SequenceSpent

abbrev pub DeniedWhereSpent : Setting → Step → List Step → Type 0
DeniedWhereSpent set s earlier = (text : List ℕ) → EndsAs set s earlier (Denied text) → IsDeniedForSequence set (s ∷ earlier) text

-- so it is of each session that ends in one of these steps
abbrev pub AllDeniedWhereSpent : Setting → List Step → Type 0
AllDeniedWhereSpent set [] = ⊤
AllDeniedWhereSpent set (s ∷ earlier) = DeniedWhereSpent set s earlier × AllDeniedWhereSpent set earlier

-- Where nothing is injected a session is denied only where the configuration that is active has the last sequence number, and
-- for that reason: through losses, repeats, other orders, power losses and boots. The target's hardware is an Ident.
abbrev pub DenialsAreForSequence : Type 0
DenialsAreForSequence = (set : Setting) (steps : List Step) → AcceptsPermitted set.accepts → IsIdent set.start.identity.hw → IsUninjected set steps → AllDeniedWhereSpent set steps

-- ---- stopped

-- this is the target's live session, and the verdict on what arrived in it is that it fails for this reason
abbrev pub FailsFor : TargetStanding → TargetSessionLog → Reason → Type 0
FailsFor (Is_up r) session reason = (r.live ≡ Some session) × (verdict_in session.row ≡ Fails_for reason)
FailsFor (Is_down active interrupted) session reason = ⊥

-- The session of the target was begun since a step by the loader: the first of its transfers serves the request of one of the
-- loader's, and each of both has the other's port. As the step began the loader had drawn lower ports alone, and as it ended no
-- life of the target had a transfer of that first one's port.
pub record WasBegunSince (set : Setting) (steps : List Step) (step : Step) (before : List Step) (session : TargetSessionLog) : Type 0 where
  pub first : Transfer
  pub rest : List Transfer
  pub done : session.done ≡ first ∷ rest
  pub request : Transfer
  pub asked : Among request (loader_transfers set steps)
  pub answers : AnswersRequest first request
  pub port : first.peer ≡ Some request.own
  pub back : request.peer ≡ Some first.own
  pub asked_since : (t : Transfer) → Among t (loader_transfers set before) → t.own < request.own
  pub served_since : (t : Transfer) → Among t (target_transfers set step before) → t.own ≡ first.own → ⊥

-- The newest start is that of an upload, and the session that ended last is the one that ended since: so it is that upload.
-- Since its start there was a step after which the verdict of the session of the target that it began was that this fails for
-- this reason; the text is that of the reason, where that is a text, as it is where its numbers are those of files.
pub record IsStoppedByVerdict (set : Setting) (steps : List Step) (text : List ℕ) : Type 0 where
  pub since : List Step
  pub failed : Step
  pub between : List Step
  pub start : Step
  pub before : List Step
  pub hw : List ℕ
  pub pos : List ℕ
  pub parts : List (List ℕ)
  pub session : EndedSession
  pub failing : TargetSessionLog
  pub reason : Reason
  pub split : steps ≡ since ++ failed ∷ (between ++ start ∷ before)
  pub starts : start.given ≡ Upload_started hw pos parts
  pub newest : NoneStarts (since ++ failed ∷ between)
  pub one : (loader_at set steps).ended ≡ session ∷ (loader_at set (start ∷ before)).ended
  pub fails : FailsFor (target_at set (failed ∷ (between ++ start ∷ before))) failing reason
  pub begun : WasBegunSince set steps start before failing
  pub tells : IsText (reason_text reason) → text ≡ reason_text reason

abbrev pub StoppedWhereFailed : Setting → Step → List Step → Type 0
StoppedWhereFailed set s earlier = (text : List ℕ) → EndsAs set s earlier (TargetStopped text) → IsStoppedByVerdict set (s ∷ earlier) text

abbrev pub AllStoppedWhereFailed : Setting → List Step → Type 0
AllStoppedWhereFailed set [] = ⊤
AllStoppedWhereFailed set (s ∷ earlier) = StoppedWhereFailed set s earlier × AllStoppedWhereFailed set earlier

-- Under the same premises a session is stopped by the target only after the verdict of the session of the target that it began
-- gave, since its own start, the reason that is told, with its numbers.
abbrev pub StopsAreForVerdicts : Type 0
StopsAreForVerdicts = (set : Setting) (steps : List Step) → AcceptsPermitted set.accepts → IsIdent set.start.identity.hw → IsUninjected set steps → AllStoppedWhereFailed set steps

-- ---- bad files

-- at most as many loads as a configuration may have
abbrev pub HasFewLoads : StandingView → Type 0
HasFewLoads s = length s.loads ≤ 32

-- The run began with what a disk can hold: its bank has a length of four bytes, and its loads can be said by a manifest.
pub record BeginsSmall (s : StandingView) : Type 0 where
  pub bank : s.identity.bank ≤ 4294967295
  pub loads : FitsALayout (entries_of s.loads)

abbrev pub NoBadFile : Setting → Step → List Step → Type 0
NoBadFile set s earlier = (kind : FileKind) (offset : ℕ) → EndsAs set s earlier (BadFile kind offset) → ⊥

-- so it is of each session that ends in one of these steps
abbrev pub NoBadFiles : Setting → List Step → Type 0
NoBadFiles set [] = ⊤
NoBadFiles set (s ∷ earlier) = NoBadFile set s earlier × NoBadFiles set earlier

-- Under the same premises, and where the target's own files have names, the run began with what a disk can hold, what is active
-- can be listed and no file of the media set is too long to be told, no session ends by a bad file: each LCI, LCS, LCL, LUI and
-- LUS that comes to the loader is one, of at most 65,536 bytes, and has a status that is allowed in its row. No LUR comes to it.
abbrev pub FilesAreGood : Type 0
FilesAreGood = (set : Setting) (steps : List Step) → AcceptsPermitted set.accepts → IsIdent set.start.identity.hw → OwnFilesAreNamed set → BeginsSmall set.start → LengthsAreTold set.media → AllCanBeListed set steps
    → IsUninjected set steps → NoBadFiles set steps
