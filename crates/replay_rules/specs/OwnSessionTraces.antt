-- Uploads that are completed in a run: each was installed in its own session, and what it installed stays, until a later
-- installation replaces it (docs/EXCHANGE.md, "Runs").
use Rattle.std.specs.Prelude.{◌≡◌, ℕ, List, [], ◌∷◌, ◌++◌, false, Option, Some, ⊤}
use Rattle.std.specs.List.{AllByRecursion}
use Rattle.disk_layout.specs.Holds.{StandingView}
use Rattle.exchange_trace.specs.Happenings.{Upload_started}
use Rattle.exchange_trace.specs.Steps.{Step}
use Rattle.accept_rules.specs.Permissions.{AcceptsPermitted}
use Rattle.transfer_end.specs.OtherEnds.{Among}
use Rattle.session_rules.specs.declared.outcome.SessionKind.TheVariants.{Upload}
use Rattle.session_rules.specs.Loader.{EndedSession}
use Rattle.replay_rules.specs.AskedTraces.{EntriesFit}
use Rattle.replay_rules.specs.BothEnds.{Setting, loader_at, target_at}
use Rattle.replay_rules.specs.Due.{goes_down}
use Rattle.replay_rules.specs.FaultFree.{IsNoStart}
use Rattle.replay_rules.specs.Histories.{IsMadeOf, active_by, brings, history_of}
use Rattle.replay_rules.specs.OtherEndTraces.{IsUninjected}
use Rattle.replay_rules.specs.Promises.{HasCompleted, HasEnded, HavePartsAsked}

-- ---- installed in its own session

-- none of these steps started a session
abbrev pub NoneStarts : List Step → Type 0
NoneStarts steps = AllByRecursion (λ (s : Step). IsNoStart s.given) steps

-- The newest start is that of an upload of these parts, and the session that ended last is the one that ended since: so it is
-- that upload. Between its start and now a step brought a configuration with exactly these parts, in their order, and then what
-- is kept, and the target stayed up in it.
pub record WasInstalledInSession (set : Setting) (steps : List Step) : Type 0 where
  pub since : List Step
  pub install : Step
  pub between : List Step
  pub start : Step
  pub before : List Step
  pub hw : List ℕ
  pub pos : List ℕ
  pub parts : List (List ℕ)
  pub session : EndedSession
  pub new : StandingView
  pub split : steps ≡ since ++ install ∷ (between ++ start ∷ before)
  pub starts : start.given ≡ Upload_started hw pos parts
  pub newest : NoneStarts (since ++ install ∷ between)
  pub one : (loader_at set steps).ended ≡ session ∷ (loader_at set (start ∷ before)).ended
  pub brought : brings set install (between ++ start ∷ before) ≡ Some new
  pub asked : IsMadeOf (target_at set (between ++ start ∷ before)) (HavePartsAsked parts) new
  pub stays_up : goes_down install.notes ≡ false

-- a session that ended in the newest step as a completed upload
abbrev pub InstalledWhereCompleted : Setting → Step → List Step → Type 0
InstalledWhereCompleted set s earlier = HasEnded set s earlier → HasCompleted Upload (loader_at set (s ∷ earlier)).ended → WasInstalledInSession set (s ∷ earlier)

abbrev pub AllInstalledInSession : Setting → List Step → Type 0
AllInstalledInSession set [] = ⊤
AllInstalledInSession set (s ∷ earlier) = InstalledWhereCompleted set s earlier × AllInstalledInSession set earlier

-- Where nothing is injected and the media set's entries can be told in a request, each upload is completed only in or after a
-- step of its own session that installed its parts, through losses, repeats, other orders, power losses and boots.
abbrev pub CompletedInSession : Type 0
CompletedInSession = (set : Setting) (steps : List Step) → AcceptsPermitted set.accepts → EntriesFit set.media → IsUninjected set steps → AllInstalledInSession set steps

-- ---- what it installed stays

-- The configuration is in the history of a run that ended so, and what is active at the end is it or a later member.
pub record IsCountedLast (set : Setting) (steps : List Step) (standing : Option StandingView) (new : StandingView) : Type 0 where
  pub later : List StandingView
  pub earlier : List StandingView
  pub counted : history_of set steps standing ≡ later ++ new ∷ earlier
  pub active : Among (active_by (target_at set steps) standing) (later ++ new ∷ [])

-- an upload that was completed at this step was installed in its own session, and is counted in all of the run
pub record StaysInstalled (set : Setting) (since : List Step) (steps : List Step) (standing : Option StandingView) : Type 0 where
  pub installed : WasInstalledInSession set steps
  pub stays : IsCountedLast set (since ++ steps) standing installed.new

-- Under the same premises, wherever power fails before or after it and whatever is recovered at the end, what an upload
-- installed that was completed is a member of the run's history, and no earlier member is active at its end.
abbrev pub CompletedStays : Type 0
CompletedStays = (set : Setting) (since : List Step) (s : Step) (earlier : List Step) (standing : Option StandingView) → AcceptsPermitted set.accepts → EntriesFit set.media
    → IsUninjected set (since ++ s ∷ earlier) → HasEnded set s earlier → HasCompleted Upload (loader_at set (s ∷ earlier)).ended → StaysInstalled set since (s ∷ earlier) standing
