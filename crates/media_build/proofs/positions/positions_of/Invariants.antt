use Rattle.std.proofs.Common.{◌≡◌, take}
use Rattle.std.specs.List.{flat_map}
use Rattle.media_build.specs.Parts.{statements}
use Rattle.media_build.specs.RecipeSets.{gathered, position_in}
use Rattle.media_build.proofs.positions.positions_of.Given as goal

abbrev pub invariant-loop-line : goal.invariant-loop-line
invariant-loop-line l = l.kinds ≡ gathered (flat_map position_in (statements (take l.line-index l.own)))
