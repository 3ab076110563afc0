-- What a disk holds can be listed, and so can what is active in a run (docs/DISK.md, "The configuration that a disk holds";
-- docs/EXCHANGE.md, "Operations").
use Rattle.std.specs.Prelude.{List}
use Rattle.load_base.specs.Name.{IsName}
use Rattle.disk_model.specs.Image.{Image}
use Rattle.disk_layout.specs.Contents.{entries_of}
use Rattle.disk_layout.specs.Holds.{HoldsConfig, StandingView}
use Rattle.disk_layout.specs.Identity.{IsIdentity}
use Rattle.disk_layout.specs.Manifest.{FitsALayout}
use Rattle.exchange_trace.specs.Steps.{Step}
use Rattle.accept_rules.specs.Permissions.{AcceptsPermitted}
use Rattle.session_rules.specs.declared.outcome.FileKind.{FileKind}
use Rattle.session_rules.specs.FileNames.{file_name}
use Rattle.replay_rules.specs.BothEnds.{Setting}
use Rattle.replay_rules.specs.Changes.{AllCarryBytes}
use Rattle.replay_rules.specs.ListTraces.{AllCanBeListed, CanBeListed}

-- ---- what a disk can hold

-- its identity has three Idents and the size of a bank, and its loads can be said by a manifest
pub record StandingFits (s : StandingView) : Type 0 where
  pub identity : IsIdentity s.identity
  pub loads : FitsALayout (entries_of s.loads)

-- so it is of whatever an image holds
abbrev pub WhatIsHeldFits : Type 0
WhatIsHeldFits = (image : Image) (s : StandingView) → HoldsConfig image s → StandingFits s

-- the protocol files of such a target have names that a file can have
abbrev pub WhatFitsNamesItsFiles : Type 0
WhatFitsNamesItsFiles = (s : StandingView) → StandingFits s → (kind : FileKind) → IsName (file_name s.identity.hw s.identity.pos kind)

-- and what is on it can be spelled as the list of an information operation
abbrev pub WhatFitsCanBeListed : Type 0
WhatFitsCanBeListed = (s : StandingView) → StandingFits s → CanBeListed s

-- ---- what is active in a run

-- Whatever is delivered, lost, repeated, reordered, delayed or injected in a run, and wherever power fails, what is active at
-- each moment can be listed, where it began with what a disk can hold.
abbrev pub WhatIsActiveCanBeListed : Type 0
WhatIsActiveCanBeListed = (set : Setting) (steps : List Step) → AcceptsPermitted set.accepts → AllCarryBytes steps → StandingFits set.start
    → AllCanBeListed set steps
