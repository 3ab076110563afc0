use Rattle.std.proofs.Common.{◌≡◌, take}
use Rattle.media_build.proofs.batch_files.parts_of.Given as goal

abbrev pub invariant-loop-part : goal.invariant-loop-part
invariant-loop-part l = l.list.items ≡ take l.part-index l.parts
