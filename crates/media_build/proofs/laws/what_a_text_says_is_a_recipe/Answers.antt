use Rattle.media_build.proofs.AcceptedRecipes as accepted
use Rattle.media_build.proofs.laws.what_a_text_says_is_a_recipe.Goals as goal

pub returns : goal.returns
returns c = accepted.what_a_text_says_is_a_recipe
