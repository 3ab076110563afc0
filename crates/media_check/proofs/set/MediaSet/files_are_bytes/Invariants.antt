use Rattle.std.specs.List.{AllByRecursion}
use Rattle.std.specs.Map.{values_of}
use Rattle.media_check.specs.Kept.{IsBytesFile}
use Rattle.media_check.proofs.set.MediaSet.files_are_bytes.Given as goal

-- where those that are left are bytes, all are
abbrev pub invariant-loop-file : goal.invariant-loop-file
invariant-loop-file l = AllByRecursion IsBytesFile l.file-iterator → AllByRecursion IsBytesFile (values_of l.self.files.entries)
