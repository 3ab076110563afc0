-- What is installed in a run are the media set's files (docs/EXCHANGE.md, "Runs").
use Rattle.std.specs.Prelude.{◌≡◌, ℕ, ◌≤◌, List, length, Some}
use Rattle.exchange_trace.specs.Steps.{Step}
use Rattle.accept_rules.specs.Permissions.{AcceptsPermitted}
use Rattle.session_rules.specs.MediaFiles.{Media}
use Rattle.replay_rules.specs.BothEnds.{Setting}
use Rattle.replay_rules.specs.OtherEndTraces.{IsUninjected}
use Rattle.replay_rules.specs.Promises.{AllOfMedia}

-- each file of the media set has no more bytes than the option `tsize` can tell (RFC 2349)
abbrev pub LengthsAreTold : Media → Type 0
LengthsAreTold media = (name bytes : List ℕ) → media.file name ≡ Some bytes → length bytes ≤ 4294967295

-- Where nothing is injected, each file of each load that an install step brings is the media set's file of its name, and what
-- else is active then was kept, through losses, repeats, other orders, power losses and boots.
abbrev pub InstallsAreOfMedia : Type 0
InstallsAreOfMedia = (set : Setting) (steps : List Step) → AcceptsPermitted set.accepts → LengthsAreTold set.media → IsUninjected set steps → AllOfMedia set steps
