use Rattle.std.proofs.Common.{◌≡◌, ◌++◌}
use Rattle.media_build.proofs.building.joined.Given as goal

abbrev pub invariant-loop-file : goal.invariant-loop-file
invariant-loop-file l = l.bodies.items ≡ l.fn.bodies.items ++ l.yielded
