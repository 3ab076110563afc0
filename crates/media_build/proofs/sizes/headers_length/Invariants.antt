use Rattle.std.proofs.Common.{length}
use Rattle.media_build.proofs.HeaderLimits.{HeadersSoFar}
use Rattle.media_build.proofs.sizes.headers_length.Given as goal

abbrev pub invariant-loop-load : goal.invariant-loop-load
invariant-loop-load l = HeadersSoFar l.lines l.loads l.length

abbrev pub decreases-loop-load : goal.decreases-loop-load
decreases-loop-load l = length l.loads
