use Rattle.std.proofs.Common.{◌≡◌, length}
use Rattle.media_build.specs.Recipes.{load_part_words}
use Rattle.media_build.proofs.PartLists.{with_these}
use Rattle.media_build.proofs.partial.PartialRecipe.load_parts.Given as goal

-- what all words say is the parts so far, and then what the words say that are left
abbrev pub invariant-loop-word : goal.invariant-loop-word
invariant-loop-word l = load_part_words l.line l.self l.fn.words ≡ with_these l.parts (load_part_words l.line l.self l.words)

abbrev pub decreases-loop-word : goal.decreases-loop-word
decreases-loop-word l = length l.words
