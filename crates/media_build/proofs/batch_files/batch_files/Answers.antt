use Rattle.std.proofs.Common.{◌+◌, List, ap, sym, subst, ◌∙◌, arith}
use Rattle.std.specs.Prelude.{map}
use Rattle.batch_lists.proofs.BatchSizes.{small_batch}
use Rattle.media_check.specs.declared.built.Placed.{Placed}
use Rattle.media_build.specs.NoFindings.{body_view}
use Rattle.media_build.specs.RecipeSets.{batch_of}
use Rattle.media_build.proofs.BatchesSoFar.{BatchesSoFar, no_files, next_batch, batch_more, few_bytes, all_files}
use Rattle.media_build.proofs.batch_files.batch_files.Goals as goal

pub loop-batch-init : goal.loop-batch-init
loop-batch-init c = no_files c.args.lines.now c.new-batches.result (map body_view c.new-files.result.items) c.new-batches.ensures (ap (map body_view) c.new-files.ensures.items)

pub batch_file-requires : goal.batch_file-requires
batch_file-requires c =
    next_batch c.args.lines.now c.loop-batch.batches c.next.new.self c.in-Some.batch (map body_view c.loop-batch.files.items) c.loop-batch.length c.loop-batch.invariant c.in-Some.ensures c.requires

pub overflow_add-length : goal.overflow_add-length
overflow_add-length c =
    let this = next_batch c.args.lines.now c.loop-batch.batches c.next.new.self c.in-Some.batch (map body_view c.loop-batch.files.items) c.loop-batch.length c.loop-batch.invariant c.in-Some.ensures c.requires in
    let few = few_bytes c.args.lines.now c.loop-batch.batches (map body_view c.loop-batch.files.items) c.loop-batch.length c.requires c.loop-batch.invariant in
    omega (arith, few, small_batch (batch_of c.in-Some.batch) this.contents, c.in_ok-file.ensures.length, c.len-length.ensures)

pub loop-batch-preserved : goal.loop-batch-preserved
loop-batch-preserved c =
    subst (λ (files : List Placed). BatchesSoFar c.args.lines.now c.next.new.self (map body_view files) (c.loop-batch.length + c.len-length.result)) (sym c.in_ok-push.ensures.items)
    (batch_more c.args.lines.now c.loop-batch.batches c.next.new.self c.in-Some.batch c.in_ok-file.file c.loop-batch.files.items c.loop-batch.length c.len-length.result c.loop-batch.invariant
    c.in-Some.ensures c.in_ok-file.ensures.file (c.len-length.ensures ∙ c.in_ok-file.ensures.length))

pub returns-clause-files : goal.returns-clause-files
returns-clause-files c = (all_files c.args.lines.now c.loop-batch.batches (map body_view c.loop-batch.files.items) c.loop-batch.length c.loop-batch.invariant c.in_default.ensures.0).0

pub returns-clause-length : goal.returns-clause-length
returns-clause-length c = (all_files c.args.lines.now c.loop-batch.batches (map body_view c.loop-batch.files.items) c.loop-batch.length c.loop-batch.invariant c.in_default.ensures.0).1
