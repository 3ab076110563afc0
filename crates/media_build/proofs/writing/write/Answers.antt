use Rattle.std.proofs.Common.{List, Ok, Err, sym, subst, ◌∙◌, rules}
use Rattle.std.proofs.lemmas.Result.{err_from_is_err_and}
use Rattle.media_build.specs.HostWrites.{Written, WritesToHost, written_files, written_member}
use Rattle.media_build.proofs.HostFiles.{members_from, writes_then, writes_stop}
use Rattle.media_build.proofs.OtherNames.{others_are_kept}
use Rattle.media_build.proofs.writing.write.Goals as goal

pub returns-in_err-write_member-clause-files : goal.returns-in_err-write_member-clause-files
returns-in_err-write_member-clause-files g c =
    let p = err_from_is_err_and c.from_residual.result c.from_residual.ensures.1 in
    let split = members_from (written_member c.args.folder.now c.args.built.now) c.loop-index.index c.len-count.result c.loop-index-test.true in
    rw (p.1, p.2)
    (c.loop-index.invariant.rest _ _
    (subst (λ (some : List Written). WritesToHost some (g.H.Host.files c.loop-index.host) (g.H.Host.files c.write_member.new.host) (Err c.in_err-write_member.field-0.0)) (sym split)
    (writes_stop _ _ _ _ _ c.in_err-write_member.ensures.files)))

pub returns-in_err-write_member-clause-others : goal.returns-in_err-write_member-clause-others
returns-in_err-write_member-clause-others g c =
    others_are_kept c.args.folder.now c.args.built.now (g.H.Host.files c.args.host.now) _ _ (returns-in_err-write_member-clause-files g c)

pub returns-clause-others : goal.returns-clause-others
unfolding written_files
returns-clause-others g c =
    let all : WritesToHost (written_files c.args.folder.now c.args.built.now) (g.H.Host.files c.args.host.now) (g.H.Host.files c.loop-index.host) (Ok tt) = search rules in
    others_are_kept c.args.folder.now c.args.built.now (g.H.Host.files c.args.host.now) (g.H.Host.files c.loop-index.host) (Ok tt) all

pub loop-index-preserved : goal.loop-index-preserved
loop-index-preserved g c =
    let split = members_from (written_member c.args.folder.now c.args.built.now) c.loop-index.index c.len-count.result c.loop-index-test.true in
    record {
      kept = c.in_ok-write_member.ensures.cause.ok ∙ c.loop-index.invariant.kept;
      rest =
          λ end result left.
          c.loop-index.invariant.rest end result
          (subst (λ (some : List Written). WritesToHost some (g.H.Host.files c.loop-index.host) end result) (sym split)
          (writes_then _ _ _ _ _ _ result c.in_ok-write_member.ensures.files left));
    }
