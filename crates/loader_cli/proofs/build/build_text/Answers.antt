use Rattle.std.proofs.Common.{List, ℕ, refl, ap}
use Rattle.std.proofs.lemmas.Result.{IfOk-weaker}
use Rattle.load_base.specs.Host.{Files}
use Rattle.media_build.specs.Building.{sources_in}
use Rattle.media_build.specs.RecipeSets.{recipe_set}
use Rattle.media_build.specs.WrittenFolders.{IsNameIn}
use Rattle.loader_cli.specs.Builds.{IsNameSaid}
use Rattle.loader_cli.specs.Builds.BuildsBytes.{said, no_recipe}
use Rattle.loader_cli.specs.Texts.{refused_input}
use Rattle.loader_cli.proofs.Built.{is_refused}
use Rattle.loader_cli.proofs.OtherFiles.{sets_more}
use Rattle.loader_cli.proofs.build.build_text.Goals as goal

pub returns-in-Ok-clause-says : goal.returns-in-Ok-clause-says
returns-in-Ok-clause-says g c = IfOk-weaker c.build_recipe.result _ _ (λ answer builds. said c.in-Ok.recipe c.in-Ok.ensures.found builds) c.build_recipe.ensures.says

pub returns-in-Ok-clause-others : goal.returns-in-Ok-clause-others
returns-in-Ok-clause-others g c =
    let of_lines : Files → List ℕ → Type 0 = λ told name. IsNameIn c.args.folder.now (recipe_set (sources_in told) c.in-Ok.recipe) name in
    sets_more of_lines (λ told. IsNameSaid c.args.folder.now c.args.text.now told) (g.H.Host.files c.args.host.now) (g.H.Host.files c.args.host.now) (g.H.Host.files c.build_recipe.new.host) refl
    (λ told is name one. record { lines = c.in-Ok.recipe; said = c.in-Ok.ensures.found; in_set = one }) c.build_recipe.ensures.others

pub returns-in_ok-text-in_default-clause-says : goal.returns-in_ok-text-in_default-clause-says
returns-in_ok-text-in_default-clause-says g c =
    no_recipe c.in-Err.fault (is_refused c.args.text.now c.in-Err.fault c.in_default.not-Memory c.in-Err.ensures.refused) refl refl
    (ap (λ (fault : List ℕ). refused_input c.args.name.now fault) c.in_ok-text-in_default.ensures.text)
