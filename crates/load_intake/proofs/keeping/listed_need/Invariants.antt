use Rattle.std.proofs.Common.{◌≡◌, ◌+◌, ◌*◌, ◌^◌, ◌≤◌, take}
use Rattle.std.specs.List.{sum_by}
use Rattle.load_intake.specs.Keeping.{file_needed}
use Rattle.load_intake.proofs.keeping.listed_need.Given as goal

abbrev pub invariant-loop-file : goal.invariant-loop-file
invariant-loop-file l = (l.need ≡ 19 + sum_by file_needed (take l.file-index l.file-items)) × (l.need ≤ 19 + l.file-index * 2 ^ 33)
