use Rattle.std.proofs.Common.{take}
use Rattle.std.specs.List.{AllByRecursion}
use Rattle.media_lists.specs.Files.{IsListedFile}
use Rattle.media_lists.proofs.fitting.are_files.Given as goal

abbrev pub invariant-loop-file : goal.invariant-loop-file
invariant-loop-file l = AllByRecursion (IsListedFile l.members) (take l.file-index l.files)
