use Rattle.std.proofs.Common.{Some}
use Rattle.std.proofs.lemmas.Result.{IfOk-weaker}
use Rattle.loader_cli.specs.Builds.{IsNameSaid, IsNameBuilt}
use Rattle.loader_cli.specs.Builds.BuildsFolder.{recipe_read}
use Rattle.loader_cli.specs.HostFiles.{HostWork}
use Rattle.loader_cli.proofs.Built.{bytes_since}
use Rattle.loader_cli.proofs.OtherFiles.{sets_more}
use Rattle.loader_cli.proofs.Outputs.{has_bytes}
use Rattle.loader_cli.proofs.SetRuns.{has_told}
use Rattle.loader_cli.proofs.Replayed.{hides_after}
use Rattle.loader_cli.proofs.build.build.Goals as goal

pub returns-in-Ok-clause-says : goal.returns-in-Ok-clause-says
returns-in-Ok-clause-says g c =
    let name = c.as_bytes-name.ensures.value in
    let has = rw name at (has_bytes _ _ c.in-Ok.bytes c.in-Ok.ensures.file) in
    let host : HostWork = record {
      files = g.H.Host.files c.read.new.self;
      files_after = g.H.Host.files c.build_text.new.host;
      faults = g.H.Host.faults c.read.new.self;
      faults_after = g.H.Host.faults c.build_text.new.host;
    } in
    IfOk-weaker c.build_text.result _ _
    (λ answer builds. recipe_read c.in-Ok.bytes.items has c.in-Ok.ensures.short
    (bytes_since (g.H.Host.files c.args.host.now) (g.H.Host.faults c.args.host.now) c.args.recipe.now c.args.folder.now c.in-Ok.bytes.items host _ _ c.read.ensures.kept c.read.ensures.cause.later
    (rw (c.as_slice.ensures, name, c.as_bytes.ensures.value) at builds))) c.build_text.ensures.says

pub returns-in-Ok-clause-others : goal.returns-in-Ok-clause-others
returns-in-Ok-clause-others g c =
    let bytes = c.in-Ok.bytes.items in
    let has = rw c.as_bytes-name.ensures.value at (has_bytes _ _ c.in-Ok.bytes c.in-Ok.ensures.file) in
    let keeps = rw (c.as_slice.ensures, c.as_bytes.ensures.value) at c.build_text.ensures.others in
    sets_more (λ told. IsNameSaid c.args.folder.now bytes told) (λ told. IsNameBuilt c.args.recipe.now c.args.folder.now told) (g.H.Host.files c.args.host.now) (g.H.Host.files c.read.new.self)
    (g.H.Host.files c.build_text.new.host) c.read.ensures.kept
    (λ told is name one. record { text = bytes; there = has_told (g.H.Host.files c.args.host.now) told c.args.recipe.now (Some bytes) is has; of_text = one }) keeps

pub returns-in-Ok-clause-faults : goal.returns-in-Ok-clause-faults
returns-in-Ok-clause-faults g c = hides_after _ _ _ _ c.build_text.result c.in-Ok.ensures.cause.ok c.build_text.ensures.faults
