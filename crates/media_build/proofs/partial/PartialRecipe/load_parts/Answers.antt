use Rattle.media_build.specs.Recipes.{load_part_words}
use Rattle.media_build.proofs.PartLists.{none_before}
use Rattle.media_build.proofs.partial.PartialRecipe.load_parts.Goals as goal

pub loop-word-init : goal.loop-word-init
loop-word-init c = rw c.new-parts.ensures (none_before (load_part_words c.args.line c.args.self.now c.args.words.now))
