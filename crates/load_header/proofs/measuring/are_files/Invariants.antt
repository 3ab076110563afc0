use Rattle.std.proofs.Common.{take}
use Rattle.std.specs.List.{AllByRecursion}
use Rattle.load_header.specs.HeaderFields.{IsHeaderFile}
use Rattle.load_header.proofs.measuring.are_files.Given as goal

abbrev pub invariant-loop-file : goal.invariant-loop-file
invariant-loop-file l = AllByRecursion IsHeaderFile (take l.file-index l.files)
