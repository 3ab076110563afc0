use Rattle.std.proofs.Common.{inr, arith}
use Rattle.std.proofs.lemmas.Result.{err_from_is_err_and}
use Rattle.field_grammar.specs.Answers.{answer}
use Rattle.disk_layout.specs.Manifest.{entry_view, left_in, manifest}
use Rattle.recovery.proofs.Outlined.{no_manifest, room_more, whole_refused}
use Rattle.recovery.proofs.manifests.left_after_loads.Goals as goal

pub returns-in_err-loads-clause-refused : goal.returns-in_err-loads-clause-refused
returns-in_err-loads-clause-refused c =
    let p = err_from_is_err_and c.from_residual.result c.from_residual.ensures.1 in
    rw (p.1, p.2) (no_manifest c.args.bytes.now _ (λ i. omega (arith, c.type_inv.bytes i)) (inr c.in_err-loads.ensures.refused))

pub returns-in_err-load-clause-refused : goal.returns-in_err-load-clause-refused
returns-in_err-load-clause-refused c =
    let p = err_from_is_err_and c.from_residual-in_err-load.result c.from_residual-in_err-load.ensures.1 in
    let was = c.loop.invariant in
    rw (p.1, p.2) (no_manifest c.args.bytes.now _ (λ i. omega (arith, c.type_inv.bytes i))
    (whole_refused was.seen (left_in c.loop.loads) (answer manifest c.args.bytes.now) _ was.yet c.in_err-load.ensures.refused))

pub loop-preserved : goal.loop-preserved
loop-preserved c =
    room_more (answer manifest c.args.bytes.now) c.left-count.result c.loop.counter c.args.space c.loop.loads c.next_load.new.self c.loop.left c.left_after_load-left.result (entry_view c.in_ok-load.load)
    c.loop-test.true c.in_ok-load.ensures.first c.in_ok-load.ensures.left (rw c.as_slice.ensures at (c.left_after_load-left.ensures c.args.space)) c.loop.invariant

pub returns-in_err-end-clause-refused : goal.returns-in_err-end-clause-refused
returns-in_err-end-clause-refused c =
    let p = err_from_is_err_and c.from_residual-in_err-end.result c.from_residual-in_err-end.ensures.1 in
    let was = c.loop.invariant in
    rw (p.1, p.2) (no_manifest c.args.bytes.now _ (λ i. omega (arith, c.type_inv.bytes i))
    (whole_refused was.seen (left_in c.loop.loads) (answer manifest c.args.bytes.now) _ was.yet (inr c.in_err-end.ensures.refused)))
