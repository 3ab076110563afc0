use Rattle.std.proofs.Common.{◌≡◌, ◌++◌, take}
use Rattle.std.specs.List.{flat_map}
use Rattle.media_check.specs.Findings.{file_findings}
use Rattle.media_check.specs.Sets.{set_view}
use Rattle.media_check.proofs.loads.put_files.Given as goal

abbrev pub invariant-loop-file : goal.invariant-loop-file
invariant-loop-file l = l.out.items ≡ l.fn.out.items ++ flat_map (file_findings (set_view l.set)) (take l.file-index l.files)
