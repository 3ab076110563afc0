use Rattle.std.proofs.Common.{List, ℕ, refl, subst}
use Rattle.std.proofs.lemmas.Result.{IfOk-weaker}
use Rattle.media_build.specs.NoFindings.{built_view}
use Rattle.media_build.specs.RecipeSets.{BuiltView}
use Rattle.media_build.specs.WrittenFolders.{IsNameIn}
use Rattle.loader_cli.specs.Builds.{IsNameMade}
use Rattle.loader_cli.specs.Builds.MakesFolder.{set_made}
use Rattle.loader_cli.proofs.OtherFiles.{sets_more}
use Rattle.loader_cli.proofs.build.make.Goals as goal

pub returns-clause-says : goal.returns-clause-says
returns-clause-says g c =
    let writes = rw c.as_bytes.ensures.value at c.write_set-said.ensures.says in
    IfOk-weaker c.write_set-said.result _ _ (λ answer wrote. set_made c.in_ok-set.set c.in_ok-set.ensures.set c.in_ok-set.ensures.small wrote) writes

pub returns-clause-others : goal.returns-clause-others
returns-clause-others g c =
    let folder = c.as_bytes.ensures.value in
    sets_more (λ told name. IsNameIn c.as_bytes.result.now (built_view c.in_ok-set.set) name) (λ told. IsNameMade c.args.number c.args.folder.now) (g.H.Host.files c.args.host.now)
    (g.H.Host.files c.args.host.now) (g.H.Host.files c.write_set-said.new.host) refl
    (λ told is name one. subst (λ (set : BuiltView). IsNameIn c.args.folder.now set name) c.in_ok-set.ensures.set (subst (λ (f : List ℕ). IsNameIn f (built_view c.in_ok-set.set) name) folder one))
    c.write_set-said.ensures.others
