use Rattle.std.proofs.Common.{◌≡◌, take}
use Rattle.std.specs.List.{flat_map}
use Rattle.media_build.specs.Parts.{statements}
use Rattle.media_build.specs.RecipeSets.{user_in}
use Rattle.media_build.proofs.gathering.user_of.Given as goal

abbrev pub invariant-loop-line : goal.invariant-loop-line
invariant-loop-line l = l.bytes.items ≡ flat_map user_in (statements (take l.line-index l.own))
