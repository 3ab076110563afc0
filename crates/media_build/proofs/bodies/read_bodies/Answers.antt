use Rattle.std.proofs.Common.{◌≡◌, ◌∙◌, refl, arith}
use Rattle.std.specs.Prelude.{map}
use Rattle.std.specs.List.{flat_map}
use Rattle.std.proofs.lemmas.Result.{err_from_is_err_and}
use Rattle.load_base.specs.Host.{Files}
use Rattle.load_base.specs.Listed.{Listed}
use Rattle.media_check.specs.declared.built.Placed.{Placed}
use Rattle.media_build.specs.Building.{sources_in}
use Rattle.media_build.specs.NoFindings.{body_view}
use Rattle.media_build.specs.RecipeSets.{load_bodies, loads_of}
use Rattle.media_build.proofs.AddedBodies.{no_bodies, bodies_more, bodies_stop, bodies_taken, bodies_are, next_header}
use Rattle.media_build.proofs.bodies.read_bodies.Goals as goal

pub loop-load-init : goal.loop-load-init
loop-load-init g c =
    let lines = c.args.lines.now in
    record {
      files = refl;
      same = refl;
      so_far = no_bodies (g.H.Host.files c.args.host.now) lines c.new-loads.result c.args.others (map body_view c.new-bodies.result.items) c.new-loads.ensures (rw c.new-bodies.ensures refl)
          c.requires.others;
    }

pub read_load-requires-clause-header : goal.read_load-requires-clause-header
read_load-requires-clause-header g c =
    next_header (g.H.Host.files c.args.host.now) c.args.lines.now c.loop-load.loads c.next.new.self c.in-Some.load c.args.others c.loop-load.total (map body_view c.loop-load.bodies.items)
    c.loop-load.invariant.so_far c.in-Some.ensures c.requires.recipe c.requires.short

pub returns-in_err-read-clause-takes : goal.returns-in_err-read-clause-takes
returns-in_err-read-clause-takes g c =
    let p = err_from_is_err_and c.from_residual.result c.from_residual.ensures.1 in
    let lines = c.args.lines.now in
    rw (p.1, p.2)
    (bodies_stop {T = Listed Placed} (g.H.Host.files c.args.host.now) lines c.loop-load.loads c.next.new.self c.in-Some.load c.args.others c.loop-load.total (map body_view c.loop-load.bodies.items)
    (λ (files : Files) (bodies : Listed Placed). map body_view bodies.items ≡ flat_map (load_bodies (sources_in files)) (loads_of lines)) c.in_err-read.field-0.0 c.loop-load.invariant.so_far c.in-Some.ensures
    (rw c.loop-load.invariant.files at c.in_err-read.ensures.takes))

pub loop-load-preserved : goal.loop-load-preserved
loop-load-preserved g c =
    record {
      files = c.in_ok-read.ensures.kept ∙ c.loop-load.invariant.files;
      same = omega (arith, c.loop-load.invariant.same, c.in_ok-read.ensures.cause.ok);
      so_far = bodies_more (g.H.Host.files c.args.host.now) c.args.lines.now c.loop-load.loads c.next.new.self c.in-Some.load c.args.others c.loop-load.total c.in_ok-read.read.1
          (map body_view c.loop-load.bodies.items) c.in_ok-read.read.0 c.loop-load.invariant.so_far c.in-Some.ensures c.in_ok-read.ensures.adds
          (rw c.loop-load.invariant.files at c.in_ok-read.ensures.takes);
    }

pub returns-clause-takes : goal.returns-clause-takes
returns-clause-takes g c =
    bodies_taken (g.H.Host.files c.args.host.now) c.args.lines.now c.loop-load.loads c.args.others c.loop-load.total c.loop-load.bodies c.loop-load.invariant.so_far c.in_default.ensures.0

pub returns-clause-are : goal.returns-clause-are
returns-clause-are g c =
    bodies_are (g.H.Host.files c.args.host.now) c.args.lines.now c.loop-load.loads c.args.others c.loop-load.total (map body_view c.loop-load.bodies.items) c.loop-load.invariant.so_far c.in_default.ensures.0
