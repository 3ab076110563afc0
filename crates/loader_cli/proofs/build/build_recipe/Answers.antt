use Rattle.std.proofs.Common.{List, ℕ, length, refl, ap, subst}
use Rattle.std.proofs.lemmas.Result.{IfOk-weaker}
use Rattle.load_base.specs.Host.{Files}
use Rattle.media_build.specs.Building.{sources_in}
use Rattle.media_build.specs.NoFindings.{built_view}
use Rattle.media_build.specs.RecipeSets.{BuiltView, loads_of, recipe_set}
use Rattle.media_build.specs.WrittenFolders.{IsNameIn}
use Rattle.media_build.specs.declared.building_fault.BuildFault.TheVariants.{Absent, TooLong, TooLarge, HeaderTooLong, ListTooLong}
use Rattle.loader_cli.specs.Builds.BuildsLines.{set_built, set_refused}
use Rattle.loader_cli.specs.HostFiles.{HostWork}
use Rattle.loader_cli.specs.Texts.{refused_input}
use Rattle.loader_cli.proofs.Built.{answered, set_since}
use Rattle.loader_cli.proofs.OtherFiles.{sets_more}
use Rattle.loader_cli.proofs.Replayed.{hides_after}
use Rattle.loader_cli.proofs.build.build_recipe.Goals as goal

pub returns-in-Ok-clause-says : goal.returns-in-Ok-clause-says
returns-in-Ok-clause-says g c =
    let count = rw c.lines.ensures.lines at c.load_count.ensures in
    let writes = rw count at c.write_set-said.ensures.says in
    let host : HostWork = record {
      files = g.H.Host.files c.build.new.host;
      files_after = g.H.Host.files c.write_set-said.new.host;
      faults = g.H.Host.faults c.build.new.host;
      faults_after = g.H.Host.faults c.write_set-said.new.host;
    } in
    IfOk-weaker c.write_set-said.result _ _
    (λ answer wrote. set_built c.in-Ok.set (record { sizes = c.in-Ok.ensures.sizes; builds = c.in-Ok.ensures.builds; small = c.in-Ok.ensures.small })
    (set_since (g.H.Host.files c.args.host.now) (g.H.Host.faults c.args.host.now) c.args.folder.now c.in-Ok.set (length (loads_of c.args.recipe.now)) host _ _ c.build.ensures.kept c.build.ensures.cause.later
    wrote)) writes

pub returns-in-Ok-clause-others : goal.returns-in-Ok-clause-others
returns-in-Ok-clause-others g c =
    let sources : Files → List ℕ → Type 0 = λ told name. IsNameIn c.args.folder.now (recipe_set (sources_in told) c.args.recipe.now) name in
    sets_more (λ told name. IsNameIn c.args.folder.now (built_view c.in-Ok.set) name) sources (g.H.Host.files c.args.host.now) (g.H.Host.files c.build.new.host) (g.H.Host.files c.write_set-said.new.host)
    c.build.ensures.kept (λ told is name one. subst (λ (set : BuiltView). IsNameIn c.args.folder.now set name) (c.in-Ok.ensures.builds told is).1 one) c.write_set-said.ensures.others

pub returns-in-Err-Absent-clause-says : goal.returns-in-Err-Absent-clause-says
returns-in-Err-Absent-clause-says g c =
    let why = c.in-Err-Absent.ensures in
    set_refused (Absent c.in-Err-Absent.source) (answered _ _ _ _ c.in-Err-Absent.field-0-is why.sizes why.builds) tt c.build.ensures.kept refl refl

pub returns-in-Err-TooLong-clause-says : goal.returns-in-Err-TooLong-clause-says
returns-in-Err-TooLong-clause-says g c =
    let why = c.in-Err-TooLong.ensures in
    set_refused (TooLong c.in-Err-TooLong.source) (answered _ _ _ _ c.in-Err-TooLong.field-0-is why.sizes why.builds) tt c.build.ensures.kept refl refl

pub returns-in-Err-TooLarge-clause-says : goal.returns-in-Err-TooLarge-clause-says
returns-in-Err-TooLarge-clause-says g c =
    let why = c.in-Err-TooLarge.ensures in
    set_refused TooLarge (answered _ _ _ _ c.in-Err-TooLarge.field-0-is why.sizes why.builds) tt c.build.ensures.kept refl refl

pub returns-in_ok-coded-in-Err-HeaderTooLong-clause-says : goal.returns-in_ok-coded-in-Err-HeaderTooLong-clause-says
returns-in_ok-coded-in-Err-HeaderTooLong-clause-says g c =
    let why = c.in-Err-HeaderTooLong.ensures in
    set_refused (HeaderTooLong c.in-Err-HeaderTooLong.line) (answered _ _ _ _ c.in-Err-HeaderTooLong.field-0-is why.sizes why.builds) tt c.build.ensures.kept refl
    (ap (λ (fault : List ℕ). refused_input c.args.name.now fault) c.in_ok-coded-in-Err-HeaderTooLong.ensures.text)

pub returns-in_ok-coded-in-Err-ListTooLong-clause-says : goal.returns-in_ok-coded-in-Err-ListTooLong-clause-says
returns-in_ok-coded-in-Err-ListTooLong-clause-says g c =
    let why = c.in-Err-ListTooLong.ensures in
    set_refused ListTooLong (answered _ _ _ _ c.in-Err-ListTooLong.field-0-is why.sizes why.builds) tt c.build.ensures.kept refl
    (ap (λ (fault : List ℕ). refused_input c.args.name.now fault) c.in_ok-coded-in-Err-ListTooLong.ensures.text)

pub returns-in-Ok-clause-faults : goal.returns-in-Ok-clause-faults
returns-in-Ok-clause-faults g c = hides_after _ _ _ _ c.write_set-said.result c.in-Ok.ensures.cause.ok c.write_set-said.ensures.faults
