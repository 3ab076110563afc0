-- What may be active at each moment of a run: what was active at its start, or what has a good load (docs/EXCHANGE.md, "Runs").
use Rattle.std.specs.Prelude.{◌≡◌, ◌⊎◌, List}
use Rattle.std.specs.List.{AllByRecursion}
use Rattle.load_base.specs.Config.{LoadView}
use Rattle.disk_layout.specs.Holds.{StandingView}
use Rattle.exchange_trace.specs.Steps.{Step}
use Rattle.accept_rules.specs.Permissions.{AcceptsPermitted}
use Rattle.transfer_end.specs.OtherEnds.{Among}
use Rattle.session_rules.specs.NewConfigs.{IsChecked}
use Rattle.replay_rules.specs.BothEnds.{Setting, target_at}
use Rattle.replay_rules.specs.Changes.{AllCarryBytes}
use Rattle.replay_rules.specs.Histories.{may_be_active}

-- a load that was active at the start, or is checked for the target
abbrev pub IsFirstOrChecked : Setting → LoadView → Type 0
IsFirstOrChecked set load = Among load set.start.loads ⊎ IsChecked set.start.identity load

-- Each load was active at the start or is checked, and one is checked. Of those that were kept of an installation in the run, and
-- kept again, it can't be said that they are good beside what is active: they were as they came.
pub record HasGoodLoads (set : Setting) (s : StandingView) : Type 0 where
  pub each : AllByRecursion (IsFirstOrChecked set) s.loads
  pub load : LoadView
  pub among : Among load s.loads
  pub checked : IsChecked set.start.identity load

-- what was active at the start, or such a configuration
abbrev pub IsFirstOrGood : Setting → StandingView → Type 0
IsFirstOrGood set s = (s ≡ set.start) ⊎ HasGoodLoads set s

-- So it is of all that may be active, after the steps of every run.
abbrev pub ActiveIsFirstOrGood : Type 0
ActiveIsFirstOrGood = (set : Setting) (steps : List Step) → AcceptsPermitted set.accepts → AllCarryBytes steps
    → AllByRecursion (IsFirstOrGood set) (may_be_active (target_at set steps))
