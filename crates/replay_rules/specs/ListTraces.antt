-- The lists of a run: each that is listed was active when it became due (docs/EXCHANGE.md, "Runs").
use Rattle.std.specs.Prelude.{◌≡◌, ℕ, List, [], ◌∷◌, ◌++◌, Some, ⊤}
use Rattle.load_base.specs.Name.{IsName}
use Rattle.load_protocol_files.specs.Lcl.{LclSpells}
use Rattle.disk_layout.specs.Holds.{StandingView, outline_of}
use Rattle.exchange_trace.specs.Happenings.{Info_started}
use Rattle.exchange_trace.specs.Steps.{Step}
use Rattle.transfer_end.specs.OtherEnds.{Among}
use Rattle.transfer_end.specs.Transfers.{Role, Transfer, Writes}
use Rattle.session_rules.specs.declared.outcome.FileKind.{FileKind}
use Rattle.session_rules.specs.declared.outcome.FileKind.TheVariants.{Lcl}
use Rattle.session_rules.specs.declared.outcome.Outcome.TheVariants.{Completed}
use Rattle.session_rules.specs.declared.outcome.SessionKind.TheVariants.{Info}
use Rattle.session_rules.specs.FileNames.{file_name}
use Rattle.session_rules.specs.Loader.{EndedSession}
use Rattle.session_rules.specs.Reports.{lcl_file, lcl_of}
use Rattle.replay_rules.specs.BothEnds.{Setting, loader_at, target_at}
use Rattle.replay_rules.specs.Histories.{active_at}
use Rattle.replay_rules.specs.OtherEndTraces.{IsUninjected, former_at, transfers_of}
use Rattle.replay_rules.specs.OwnSessionTraces.{NoneStarts}
use Rattle.replay_rules.specs.Promises.{ListIsDue}

-- ---- what the target writes

-- the file is the list of what was active before one of these steps, which made a session's list due
pub record ListWasDue (set : Setting) (steps : List Step) (file : List ℕ) : Type 0 where
  pub since : List Step
  pub made : Step
  pub before : List Step
  pub split : steps ≡ since ++ made ∷ before
  pub due : ListIsDue (target_at set (made ∷ before))
  pub newly : ListIsDue (target_at set before) → ⊥
  pub lists : file ≡ lcl_file (outline_of (active_at set before))

-- a file that the target asks to write is one of its own, and a list is of what was active when it became due
abbrev pub IsWrittenInTime : Setting → List Step → Role → Type 0
IsWrittenInTime set steps (Writes name options file) = (kind : FileKind) × (name ≡ file_name set.start.identity.hw set.start.identity.pos kind) × (kind ≡ Lcl → ListWasDue set steps file)
IsWrittenInTime set steps role = ⊤

-- In each trace, whatever comes, so is each file that the target writes, in each of its lives.
abbrev pub TargetWritesInTime : Type 0
TargetWritesInTime = (set : Setting) (steps : List Step) (t : Transfer) → Among t (transfers_of (target_at set steps) ++ former_at set steps) → IsWrittenInTime set steps t.role

-- ---- what is listed

-- the list of a configuration is a file of its format
abbrev pub CanBeListed : StandingView → Type 0
CanBeListed s = LclSpells (lcl_of (outline_of s)) (lcl_file (outline_of s))

-- what is active at each moment can be listed
abbrev pub AllCanBeListed : Setting → List Step → Type 0
AllCanBeListed set [] = CanBeListed (active_at set [])
AllCanBeListed set (s ∷ earlier) = CanBeListed (active_at set (s ∷ earlier)) × AllCanBeListed set earlier

-- the names of the target's own files are names
abbrev pub OwnFilesAreNamed : Setting → Type 0
OwnFilesAreNamed set = (kind : FileKind) → IsName (file_name set.start.identity.hw set.start.identity.pos kind)

-- The newest start is that of an information operation, and the session that ended last is the one that ended since: so it is
-- that operation's. It lists exactly what was active before the step since its start which made the list of a session of the
-- target due.
pub record ListsInSession (set : Setting) (steps : List Step) (session : EndedSession) : Type 0 where
  pub since : List Step
  pub made : Step
  pub between : List Step
  pub start : Step
  pub before : List Step
  pub hw : List ℕ
  pub pos : List ℕ
  pub split : steps ≡ since ++ made ∷ (between ++ start ∷ before)
  pub starts : start.given ≡ Info_started hw pos
  pub newest : NoneStarts (since ++ made ∷ between)
  pub one : (loader_at set steps).ended ≡ session ∷ (loader_at set (start ∷ before)).ended
  pub due : ListIsDue (target_at set (made ∷ (between ++ start ∷ before)))
  pub newly : ListIsDue (target_at set (between ++ start ∷ before)) → ⊥
  pub listed : session.listed ≡ Some (lcl_of (outline_of (active_at set (between ++ start ∷ before))))

-- a session that ends in the newest step as a completed information session
abbrev pub ListsWhereCompleted : Setting → Step → List Step → Type 0
ListsWhereCompleted set s earlier = (session : EndedSession) → (loader_at set (s ∷ earlier)).ended ≡ session ∷ (loader_at set earlier).ended → session.kind ≡ Info → session.outcome ≡ Completed
    → ListsInSession set (s ∷ earlier) session

abbrev pub AllListInSession : Setting → List Step → Type 0
AllListInSession set [] = ⊤
AllListInSession set (s ∷ earlier) = ListsWhereCompleted set s earlier × AllListInSession set earlier

-- Without injection each completed information session lists exactly what was active before the step of its own session that
-- made its list due at the target, through losses, repeats, other orders, power losses and boots.
abbrev pub CompletedListsActive : Type 0
CompletedListsActive = (set : Setting) (steps : List Step) → IsUninjected set steps → OwnFilesAreNamed set → AllCanBeListed set steps → AllListInSession set steps
