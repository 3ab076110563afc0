-- Which loads are installed in a run: those of a start of an upload before (docs/EXCHANGE.md, "Runs").
use Rattle.std.specs.Prelude.{◌≡◌, ℕ, List, [], ◌∷◌, ◌++◌, Option, Some, None, ⊤}
use Rattle.std.specs.List.{AllByRecursion}
use Rattle.load_protocol_files.specs.declared.lur.Wanted.{Wanted}
use Rattle.load_protocol_files.specs.Lur.{WantedFits}
use Rattle.disk_layout.specs.Holds.{StandingView}
use Rattle.exchange_trace.specs.Happenings.{Upload_started}
use Rattle.exchange_trace.specs.Steps.{Step}
use Rattle.accept_rules.specs.Permissions.{AcceptsPermitted}
use Rattle.session_rules.specs.MediaFiles.{Media}
use Rattle.replay_rules.specs.BothEnds.{Setting, TargetStanding, target_at}
use Rattle.replay_rules.specs.Histories.{IsMadeOf, brings}
use Rattle.replay_rules.specs.OtherEndTraces.{IsUninjected}
use Rattle.replay_rules.specs.Promises.{HavePartsAsked}

-- each entry of the media set has a name and a part number, so that a request can tell it
abbrev pub EntriesFit : Media → Type 0
EntriesFit media = AllByRecursion (λ (entry : Wanted). WantedFits entry) media.loads

-- One of these steps started an upload of the parts of the new loads in a configuration, in their order, where the target was in
-- this state before it.
pub record IsAskedFor (steps : List Step) (state : TargetStanding) (brought : StandingView) : Type 0 where
  pub between : List Step
  pub start : Step
  pub before : List Step
  pub hw : List ℕ
  pub pos : List ℕ
  pub parts : List (List ℕ)
  pub split : steps ≡ between ++ start ∷ before
  pub starts : start.given ≡ Upload_started hw pos parts
  pub asked : IsMadeOf state (HavePartsAsked parts) brought

abbrev pub BroughtIsAsked : TargetStanding → Option StandingView → List Step → Type 0
BroughtIsAsked state None earlier = ⊤
BroughtIsAsked state (Some brought) earlier = IsAskedFor earlier state brought

-- so it is of what each step brings
abbrev pub AllBroughtAreAsked : Setting → List Step → Type 0
AllBroughtAreAsked set [] = ⊤
AllBroughtAreAsked set (s ∷ earlier) = BroughtIsAsked (target_at set earlier) (brings set s earlier) earlier × AllBroughtAreAsked set earlier

-- Where nothing is injected, each configuration that an install step brings has the parts of a start of an upload before it, and
-- then what is kept, through losses, repeats, other orders, power losses and boots.
abbrev pub InstallsAreAsked : Type 0
InstallsAreAsked = (set : Setting) (steps : List Step) → AcceptsPermitted set.accepts → EntriesFit set.media → IsUninjected set steps → AllBroughtAreAsked set steps
