use Rattle.std.proofs.Common.{◌≡◌, ◌++◌, map}
use Rattle.media_build.specs.NoFindings.{body_view}
use Rattle.media_build.specs.Parts.{body_of}
use Rattle.media_build.proofs.source_files.add_all.Given as goal

abbrev pub invariant-loop-file : goal.invariant-loop-file
invariant-loop-file l = map body_view l.bodies.items ≡ map body_view l.fn.bodies.items ++ map body_of l.yielded
