use Rattle.std.proofs.Common.{◌≡◌, take}
use Rattle.media_build.specs.Building.{unread}
use Rattle.media_build.specs.Parts.{files_from, statements}
use Rattle.media_build.proofs.source_files.unread_files.Given as goal

abbrev pub invariant-loop-line : goal.invariant-loop-line
invariant-loop-line l = l.files ≡ files_from unread (statements (take l.line-index l.own))
