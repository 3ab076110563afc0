use Rattle.std.proofs.Common.{◌≡◌, ◌+◌, List, ℕ, length, Ok, Err, ap, sym, subst, ◌∙◌, arith, length-append}
use Rattle.std.specs.List.{flat_map, range_with_len}
use Rattle.std.specs.Option.{ForSome}
use Rattle.std.proofs.lemmas.Result.{err_from_is_err_and}
use Rattle.media_check.specs.HostNames.{list_names}
use Rattle.media_check.specs.Openings.{ReadsNames}
use Rattle.media_check.proofs.HostReads.{AreLists, ReadsMembers, member_unread, members_more}
use Rattle.media_check.proofs.Ranges.{range_at, range_more}
use Rattle.media_check.proofs.opening.read_further.Goals as goal

pub returns-in_err-lists-clause-reads : goal.returns-in_err-lists-clause-reads
returns-in_err-lists-clause-reads g c =
    let p = err_from_is_err_and c.from_residual.result c.from_residual.ensures.1 in
    let o = g.H.Host.files c.args.host.now in
    let folder = c.args.folder.now in
    let fault = c.in_err-lists.field-0.0 in
    let at = range_at 2 c.args.count c.loop-index.index c.loop-index-test.true in
    rw (p.1, p.2)
    (subst (λ (members : List ℕ). ForSome o (ReadsNames (flat_map (list_names folder) members) (AreLists folder (range_with_len 2 c.args.count)) (Err fault))) (sym at.1)
    (member_unread o folder (range_with_len 2 c.loop-index.index) at.0 (2 + c.loop-index.index) c.loop-index.further (AreLists folder (range_with_len 2 c.args.count)) fault c.loop-index.invariant.read
    (rw c.loop-index.invariant.kept at c.in_err-lists.ensures.reads)))

pub loop-index-preserved : goal.loop-index-preserved
loop-index-preserved g c =
    let o = g.H.Host.files c.args.host.now in
    let folder = c.args.folder.now in
    record {
      kept = c.in_ok-lists.ensures.kept ∙ c.loop-index.invariant.kept;
      same = omega (arith, c.loop-index.invariant.same, c.in_ok-lists.ensures.cause.ok);
      few = omega (arith, c.loop-index.invariant.few, simp length-append at (ap length c.in_ok-push.ensures.ok));
      read =
          subst (λ (members : List ℕ). ForSome o (ReadsMembers folder members (Ok c.push.new.self))) (sym (range_more 2 c.loop-index.index))
          (members_more o folder (range_with_len 2 c.loop-index.index) (2 + c.loop-index.index) c.loop-index.further c.push.new.self c.in_ok-lists.lists c.loop-index.invariant.read
          (rw c.loop-index.invariant.kept at c.in_ok-lists.ensures.reads) c.in_ok-push.ensures.ok);
    }

pub returns-clause-reads : goal.returns-clause-reads
returns-clause-reads g c =
    let all : c.loop-index.index ≡ c.args.count = omega arith in
    subst (λ (n : ℕ). ForSome (g.H.Host.files c.args.host.now) (ReadsMembers c.args.folder.now (range_with_len 2 n) (Ok c.loop-index.further))) all c.loop-index.invariant.read
