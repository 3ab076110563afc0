use Rattle.std.proofs.Common.{List, Err, sym, subst, ◌∙◌, arith}
use Rattle.std.proofs.lemmas.Result.{err_from_is_err_and}
use Rattle.media_build.specs.HostWrites.{Written, WritesToHost}
use Rattle.media_build.proofs.HostFiles.{bodies_from, writes_stop, writes_then}
use Rattle.media_build.proofs.writing.write_bodies.Goals as goal

pub loop-body-preserved : goal.loop-body-preserved
loop-body-preserved g c =
    let split = bodies_from c.args.folder.now c.args.member c.args.bodies.now c.loop-body.body-index c.body-item.result (omega arith) c.body-item.is in
    record {
      kept = c.in_ok-write_body.ensures.cause.ok ∙ c.loop-body.invariant.kept;
      rest =
          λ end result left.
          c.loop-body.invariant.rest end result
          (subst (λ (some : List Written). WritesToHost some (g.H.Host.files c.loop-body.host) end result) (sym split)
          (writes_then _ _ _ _ _ _ result c.in_ok-write_body.ensures.files left));
    }

pub returns-in_err-write_body-clause-files : goal.returns-in_err-write_body-clause-files
returns-in_err-write_body-clause-files g c =
    let p = err_from_is_err_and c.from_residual.result c.from_residual.ensures.1 in
    let split = bodies_from c.args.folder.now c.args.member c.args.bodies.now c.loop-body.body-index c.body-item.result (omega arith) c.body-item.is in
    rw (p.1, p.2)
    (c.loop-body.invariant.rest _ _
    (subst (λ (some : List Written). WritesToHost some (g.H.Host.files c.loop-body.host) (g.H.Host.files c.write_body.new.host) (Err c.in_err-write_body.field-0.0)) (sym split)
    (writes_stop _ _ _ _ _ c.in_err-write_body.ensures.files)))
