-- Worlds of a trace, and what follows for a fault-free run (docs/EXCHANGE.md, "A fault-free run completes").
use Rattle.std.specs.Prelude.{◌≡◌, ℕ, ◌<◌, List, [], ◌∷◌, ◌++◌, true, Some, ⊤}
use Rattle.std.specs.List.{AllByRecursion}
use Rattle.field_grammar.specs.Grammar.{IsBytes}
use Rattle.load_base.specs.Config.{FileView}
use Rattle.accept_rules.specs.Permissions.{AcceptsPermitted}
use Rattle.exchange_trace.specs.declared.trace.Side.{Side}
use Rattle.exchange_trace.specs.declared.trace.Side.TheVariants as sides
use Rattle.exchange_trace.specs.Happenings.{DatagramView, HappeningView, Ticked}
use Rattle.exchange_trace.specs.Posts.{AllHonest, posted_in}
use Rattle.exchange_trace.specs.Steps.{Step}
use Rattle.session_rules.specs.NewConfigs.{files_in}
use Rattle.replay_rules.specs.AskedTraces.{EntriesFit}
use Rattle.replay_rules.specs.BothEnds.{Setting, loader_at, target_at, waiting}
use Rattle.replay_rules.specs.Due.{AllDue}
use Rattle.replay_rules.specs.FaultFree.{HasPorts, IsFaultFree, IsReadyFor}
use Rattle.replay_rules.specs.Histories.{setting_after}
use Rattle.replay_rules.specs.ListTraces.{OwnFilesAreNamed}
use Rattle.replay_rules.specs.OtherEndTraces.{IsUninjected}
use Rattle.replay_rules.specs.Runs.{IsQuiet, IsWithinMargin, loader_retries, target_retries}
use Rattle.replay_rules.specs.Ties.{IsTied}
use Rattle.session_completion.specs.Clean.{AreAmong, AreEndsIdle}
use Rattle.session_completion.specs.GoodUploads.{IsFinished, Leads, started}
use Rattle.session_completion.specs.Worlds.{World}

abbrev pub retries_after : Setting → List Step → Side → ℕ
retries_after set steps sides.Loader = loader_retries set steps
retries_after set steps sides.Target = target_retries set steps

-- a tick finds a live session with retries left, so that none is given up
abbrev pub GivesNoneUp : Setting → HappeningView → List Step → Type 0
GivesNoneUp set (Ticked side) earlier = waiting set side earlier ≡ true → retries_after set earlier side < 5
GivesNoneUp set h earlier = ⊤

-- so it is in each of these steps, which follow others
abbrev pub NoneGivesUp : Setting → (since before : List Step) → Type 0
NoneGivesUp set [] before = ⊤
NoneGivesUp set (s ∷ since) before = GivesNoneUp set s.given (since ++ before) × NoneGivesUp set since before

-- the world of these steps, before which so much was posted
abbrev pub IsWorldOf : Setting → List Step → List DatagramView → World → Type 0
IsWorldOf set steps before w = IsTied set steps w.loader (Some w.target) (before ++ w.posts)

-- The world that a run's last start found, and the one it leads to, as one does that begins with what was active then.
pub record RunLeads (set : Setting) (steps : List Step) (free : IsFaultFree set steps) : Type 0 where
  pub found : World
  pub none_posted : found.posts ≡ []
  pub was : IsWorldOf set free.before (posted_in free.before) found
  pub now : World
  pub is : IsWorldOf set steps (posted_in free.before) now
  pub leads : Leads (setting_after set free.before) (started set free.parts found) now

-- In a fault-free run neither end gives up.
abbrev pub FaultFreeGivesNoneUp : Type 0
FaultFreeGivesNoneUp = (set : Setting) (steps : List Step) (free : IsFaultFree set steps) → NoneGivesUp set free.since (free.start ∷ free.before)

-- So it leads from world to world.
abbrev pub FaultFreeRunsLead : Type 0
FaultFreeRunsLead = (set : Setting) (steps : List Step) (free : IsFaultFree set steps) → AllDue set steps → AllHonest steps → RunLeads set steps free

-- what is said of a fault-free run beside that
pub record IsNamed (set : Setting) (steps : List Step) (free : IsFaultFree set steps) : Type 0 where
  pub entries : EntriesFit set.media
  pub own_files : OwnFilesAreNamed set
  pub bytes : AllByRecursion (λ (f : FileView). IsBytes f.bytes) (files_in free.loads)

-- A quiet run leaves both ends idle, with as many ports as are left, and with what is active then.
abbrev pub QuietIsIdle : Type 0
QuietIsIdle = (set : Setting) (steps : List Step) (ports : ℕ) (w : World) → IsUninjected set steps → IsQuiet set steps → HasPorts (loader_at set steps).end ports
    → IsReadyFor (target_at set steps) ports → w.posts ≡ [] → IsWorldOf set steps (posted_in steps) w → AreEndsIdle (setting_after set steps) ports w

-- A fault-free run within the margin is completed by a `finish` of its world: its loads are active then, beside what is kept of
-- what was active at its start.
abbrev pub FaultFreeRunsComplete : Type 0
FaultFreeRunsComplete = (set : Setting) (steps : List Step) (free : IsFaultFree set steps) → IsUninjected set steps → AcceptsPermitted set.accepts
    → IsNamed set steps free → IsWithinMargin set steps → (now : World) × IsWorldOf set steps (posted_in free.before) now
    × ((queue : List DatagramView) (first : Side) → AreAmong now.posts queue → IsFinished (setting_after set free.before) free.loads now queue first)
