-- Uploads that are completed in a run (docs/EXCHANGE.md, "Runs").
use Rattle.std.specs.Prelude.{◌≡◌, ◌≤◌, List, [], ◌∷◌, ◌++◌, length, false, Some, ⊤}
use Rattle.disk_layout.specs.Holds.{StandingView}
use Rattle.exchange_trace.specs.Steps.{Step}
use Rattle.transfer_end.specs.OtherEnds.{Among}
use Rattle.transfer_end.specs.Transfers.{Role, ServesRead, Transfer, Writes}
use Rattle.session_rules.specs.declared.outcome.Outcome.TheVariants.{Completed}
use Rattle.session_rules.specs.declared.outcome.SessionKind.TheVariants.{Upload}
use Rattle.session_rules.specs.Completions.{SaysCompleted}
use Rattle.session_rules.specs.Loader.{EndedSession}
use Rattle.replay_rules.specs.BothEnds.{Setting, loader_at, target_at}
use Rattle.replay_rules.specs.Due.{goes_down}
use Rattle.replay_rules.specs.Histories.{brings}
use Rattle.replay_rules.specs.OtherEndTraces.{IsUninjected, former_at, transfers_of}

-- ---- what the target tells

-- one of these steps brought a configuration, and the target stayed up in it
pub record WasBrought (set : Setting) (steps : List Step) : Type 0 where
  pub since : List Step
  pub install : Step
  pub before : List Step
  pub new : StandingView
  pub split : steps ≡ since ++ install ∷ before
  pub brought : brings set install before ≡ Some new
  pub stays_up : goes_down install.notes ≡ false

-- a file that the target sends says that all is installed only in or after a step that installed; a file that it gives has
-- no more bytes than the option `tsize` can tell (RFC 2349), and never says so
abbrev pub IsToldInTime : Setting → List Step → Role → Type 0
IsToldInTime set steps (Writes name options file) = SaysCompleted file → WasBrought set steps
IsToldInTime set steps (ServesRead name options file) = (length file ≤ 4294967295) × (SaysCompleted file → ⊥)
IsToldInTime set steps role = ⊤

-- In each trace, whatever comes, so is each file that the target sends, in each of its lives.
abbrev pub TargetTellsInTime : Type 0
TargetTellsInTime = (set : Setting) (steps : List Step) (t : Transfer) → Among t (transfers_of (target_at set steps) ++ former_at set steps) → IsToldInTime set steps t.role

-- ---- what is completed

-- a session that ends in the newest step as a completed upload
abbrev pub BroughtWhereCompleted : Setting → Step → List Step → Type 0
BroughtWhereCompleted set s earlier = (session : EndedSession) → (loader_at set (s ∷ earlier)).ended ≡ session ∷ (loader_at set earlier).ended → session.kind ≡ Upload → session.outcome ≡ Completed
    → WasBrought set (s ∷ earlier)

abbrev pub AllBroughtWhereCompleted : Setting → List Step → Type 0
AllBroughtWhereCompleted set [] = ⊤
AllBroughtWhereCompleted set (s ∷ earlier) = BroughtWhereCompleted set s earlier × AllBroughtWhereCompleted set earlier

-- Without injection each upload is completed only in or after a step that installed, through losses, repeats, other orders,
-- power losses and boots.
abbrev pub CompletedWasBrought : Type 0
CompletedWasBrought = (set : Setting) (steps : List Step) → IsUninjected set steps → AllBroughtWhereCompleted set steps
