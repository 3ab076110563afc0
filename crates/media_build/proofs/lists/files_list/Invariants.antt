use Rattle.std.proofs.Common.{◌≡◌, map, take}
use Rattle.media_build.specs.NoFindings.{body_view}
use Rattle.media_build.specs.RecipeSets.{listed_body}
use Rattle.media_build.proofs.lists.files_list.Given as goal

abbrev pub invariant-loop-body : goal.invariant-loop-body
invariant-loop-body l = l.files.items ≡ map (λ body. listed_body (body_view body)) (take l.body-index l.bodies)
