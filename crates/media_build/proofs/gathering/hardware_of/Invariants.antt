use Rattle.std.proofs.Common.{◌≡◌, take}
use Rattle.std.specs.List.{flat_map}
use Rattle.media_build.specs.Parts.{statements}
use Rattle.media_build.specs.RecipeSets.{hardware_in}
use Rattle.media_build.proofs.gathering.hardware_of.Given as goal

abbrev pub invariant-loop-line : goal.invariant-loop-line
invariant-loop-line l = l.list.items ≡ flat_map hardware_in (statements (take l.line-index l.own))
