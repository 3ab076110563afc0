use Rattle.std.proofs.Common.{sym, subst, ◌∙◌, arith}
use Rattle.text_words.specs.Words.{written_lines}
use Rattle.media_build.specs.Accepted.{IsRecipe}
use Rattle.media_build.proofs.AcceptedRecipes.{what_lines_say_is_a_recipe}
use Rattle.media_build.proofs.recipe.Recipe.read.Goals as goal

pub invariant_of-result : goal.invariant_of-result
invariant_of-result c =
    subst IsRecipe (sym c.into_lines.ensures) (what_lines_say_is_a_recipe (written_lines c.args.bytes.now) c.in_ok-partial.partial c.in_ok-partial.ensures (omega arith) (sym c.is_whole.ensures ∙ c.if-not-is_whole.false))
