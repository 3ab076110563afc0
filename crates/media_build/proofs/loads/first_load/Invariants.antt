use Rattle.std.proofs.Common.{◌≡◌, drop}
use Rattle.media_build.specs.RecipeSets.{loads_of}
use Rattle.media_build.proofs.loads.first_load.Given as goal

-- the loads so far begin at no line
abbrev pub invariant-loop-index : goal.invariant-loop-index
invariant-loop-index l = loads_of (drop l.index l.lines) ≡ loads_of l.lines
