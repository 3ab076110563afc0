use Rattle.std.proofs.Common.{◌≡◌, map, take}
use Rattle.media_build.specs.Parts.{entry_of}
use Rattle.media_build.proofs.gathering.entries_of.Given as goal

abbrev pub invariant-loop-file : goal.invariant-loop-file
invariant-loop-file l = l.entries.items ≡ map entry_of (take l.file-index l.files)
