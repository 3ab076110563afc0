-- How the configuration changes in a run (docs/EXCHANGE.md, "Runs").
use Rattle.std.specs.Prelude.{◌≡◌, List, [], ◌∷◌, true, Option, Some, None, ⊤}
use Rattle.std.specs.List.{AllByRecursion}
use Rattle.field_grammar.specs.Grammar.{IsBytes}
use Rattle.load_base.specs.Config.{LoadView}
use Rattle.disk_layout.specs.Contents.{entries_of}
use Rattle.disk_layout.specs.Holds.{StandingView}
use Rattle.exchange_trace.specs.declared.trace.Side.TheVariants as sides
use Rattle.exchange_trace.specs.Happenings.{DatagramView, HappeningView, Injected}
use Rattle.exchange_trace.specs.Logs.{event_for}
use Rattle.exchange_trace.specs.Posts.{posted_in}
use Rattle.exchange_trace.specs.Steps.{Step}
use Rattle.accept_rules.specs.Permissions.{AcceptsPermitted}
use Rattle.session_rules.specs.NewConfigs.{AreGoodAfter}
use Rattle.session_rules.specs.SoundLogs.{StaysOrIsNew}
use Rattle.replay_rules.specs.Histories.{IsMadeOf, active_in, brings}
use Rattle.replay_rules.specs.BothEnds.{Setting, TargetStanding, Is_up, reached, target_at}

-- what datagrams carry are bytes
abbrev pub CarriesBytes : DatagramView → Type 0
CarriesBytes d = IsBytes d.bytes

abbrev pub InjectsBytes : HappeningView → Type 0
InjectsBytes (Injected d) = CarriesBytes d
InjectsBytes h = ⊤

abbrev pub AllCarryBytes : List Step → Type 0
AllCarryBytes [] = ⊤
AllCarryBytes (s ∷ earlier) = (AllByRecursion CarriesBytes s.posts × InjectsBytes s.given) × AllCarryBytes earlier

-- What is active at a target that is up stays, or is the new configuration of a good verdict.
abbrev pub TargetStaysOrIsNew : Setting → (before after : TargetStanding) → Type 0
TargetStaysOrIsNew set (Is_up before) (Is_up after) = StaysOrIsNew set.accepts before after
TargetStaysOrIsNew set before after = ⊤

-- so it is in each step, by what reached the target in it
abbrev pub AllStayOrAreNew : Setting → List Step → Type 0
AllStayOrAreNew set [] = ⊤
AllStayOrAreNew set (s ∷ earlier) =
    TargetStaysOrIsNew set (target_at set earlier) (reached set (event_for sides.Target (posted_in earlier) s.given) (target_at set earlier))
    × AllStayOrAreNew set earlier

-- Whatever is delivered, lost, repeated, reordered, delayed or injected in a run, and wherever power fails, the configuration
-- changes by good verdicts alone, under each interlock that accepts only what may be.
abbrev pub ChangesAreNew : Type 0
ChangesAreNew = (set : Setting) (steps : List Step) → AcceptsPermitted set.accepts → AllCarryBytes steps → AllStayOrAreNew set steps

-- ---- what is installed is good

-- loads are good for the target of the run, beside what is kept of this configuration after the header of each
abbrev pub AreGood : Setting → (before : StandingView) → List LoadView → Type 0
AreGood set before loads = AreGoodAfter (λ h kept. set.accepts h kept ≡ true) set.start.identity (entries_of before.loads) [] loads

abbrev pub BroughtIsGood : Setting → (before : TargetStanding) → Option StandingView → Type 0
BroughtIsGood set before None = ⊤
BroughtIsGood set before (Some s) = IsMadeOf before (AreGood set (active_in before)) s

-- the configuration that an install step brings is made of good loads and of those that are kept
abbrev pub AllBroughtAreGood : Setting → List Step → Type 0
AllBroughtAreGood set [] = ⊤
AllBroughtAreGood set (s ∷ earlier) = BroughtIsGood set (target_at set earlier) (brings set s earlier) × AllBroughtAreGood set earlier

-- under the same premises
abbrev pub InstallsAreGood : Type 0
InstallsAreGood = (set : Setting) (steps : List Step) → AcceptsPermitted set.accepts → AllCarryBytes steps → AllBroughtAreGood set steps
