-- What a target reports as installed (docs/EXCHANGE.md, "Upload"; docs/POWER.md).
use Rattle.std.specs.Prelude.{◌≡◌, List, [], ◌∷◌, ◌++◌, Option, Some, None, ⊤}
use Rattle.std.specs.List.{AllByRecursion, AllZip}
use Rattle.load_base.specs.Config.{LoadView}
use Rattle.disk_layout.specs.Holds.{StandingView}
use Rattle.exchange_trace.specs.Steps.{Step}
use Rattle.accept_rules.specs.Permissions.{AcceptsPermitted}
use Rattle.transfer_end.specs.Transfers.{Role, Transfer, Writes}
use Rattle.session_rules.specs.Completions.{SaysCompleted}
use Rattle.session_rules.specs.NewConfigs.{IsWanted}
use Rattle.session_rules.specs.TargetLog.{TargetSessionLog, standing_after}
use Rattle.session_rules.specs.TargetRows.{UploadEnd, Writes_completion}
use Rattle.replay_rules.specs.BothEnds.{Is_down, Is_up, Setting, TargetStanding, target_at}
use Rattle.replay_rules.specs.Changes.{AllCarryBytes}
use Rattle.replay_rules.specs.Histories.{active_at, brings, may_be_active}

-- ---- a report of completion

-- the side asked to write a file which says that all loads are installed: the LUS with status 0x0003
abbrev pub WritesReport : Role → Type 0
WritesReport (Writes name options file) = SaysCompleted file
WritesReport role = ⊥

abbrev pub IsReport : Option Transfer → Type 0
IsReport None = ⊥
IsReport (Some t) = WritesReport t.role

-- The target writes such a file in its live transfer: from the step in which it posts the file's request, as long as it may
-- send blocks of it.
abbrev pub ReportsCompletion : TargetStanding → Type 0
ReportsCompletion (Is_up r) = IsReport r.end.live
ReportsCompletion (Is_down active interrupted) = ⊥

-- ---- what it reports

-- this session is live at a target that is up
abbrev pub HasSession : TargetStanding → TargetSessionLog → Type 0
HasSession (Is_up r) session = r.live ≡ Some session
HasSession (Is_down active interrupted) session = ⊥

-- One of these steps, the newest or one before it, brought a configuration of exactly the loads that were asked for, in their
-- order, and then of those that were kept of what was active before it. The session that is live now installed it then, the target
-- has stayed up since, and nothing else may be active now.
pub record ReportIsTrue (set : Setting) (steps : List Step) : Type 0 where
  pub since : List Step
  pub install : Step
  pub before : List Step
  pub loads : List LoadView
  pub new : StandingView
  pub session : TargetSessionLog
  pub upload : UploadEnd
  pub split : steps ≡ since ++ install ∷ before
  pub brought : brings set install before ≡ Some new
  pub stays_up : AllByRecursion (λ (s : Step). s.notes ≡ []) (since ++ install ∷ [])
  pub installed : HasSession (target_at set (install ∷ before)) session
  pub reports : HasSession (target_at set steps) session
  pub completes : session.row ≡ Writes_completion upload loads
  pub asked : AllZip IsWanted upload.request loads
  pub made : new ≡ standing_after (active_at set before) loads
  pub only : may_be_active (target_at set steps) ≡ new ∷ []

-- so it is after each of these steps
abbrev pub AllReportsAreTrue : Setting → List Step → Type 0
AllReportsAreTrue set [] = ⊤
AllReportsAreTrue set (s ∷ earlier) = (ReportsCompletion (target_at set (s ∷ earlier)) → ReportIsTrue set (s ∷ earlier)) × AllReportsAreTrue set earlier

-- Whatever is delivered, lost, repeated, reordered, delayed or injected in a run, and wherever power fails, under each
-- interlock that accepts only what may be.
abbrev pub ReportsAreTrue : Type 0
ReportsAreTrue = (set : Setting) (steps : List Step) → AcceptsPermitted set.accepts → AllCarryBytes steps → AllReportsAreTrue set steps
