use Rattle.std.proofs.Common.{◌∙◌}
use Rattle.std.proofs.lemmas.Result.{IfOk-weaker}
use Rattle.batch_lists.specs.Batch.{batch_view}
use Rattle.batch_lists.proofs.BatchWritten.{few_contents, batch_written}
use Rattle.batch_lists.proofs.batch_writing.batch_bytes.Goals as goal

pub with_start-requires : goal.with_start-requires
with_start-requires c =
    let contents = c.as_slice-2.ensures ∙ (c.finish.ensures ∙ rw c.new-contents.ensures at c.in_ok-put_contents.ensures) in
    few_contents (batch_view c.args.batch.now) c.as_slice-2.result.now c.requires contents

pub returns : goal.returns
returns c =
    let contents = c.as_slice-2.ensures ∙ (c.finish.ensures ∙ rw c.new-contents.ensures at c.in_ok-put_contents.ensures) in
    IfOk-weaker c.with_check_sum.result _ _
    (λ bytes is. batch_written (batch_view c.args.batch.now) c.as_slice-2.result.now c.in_ok-whole.whole.items bytes.items c.requires contents c.in_ok-whole.ensures is)
    c.with_check_sum.ensures
