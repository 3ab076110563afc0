use Rattle.std.proofs.Common.{rules}
use Rattle.batch_lists.specs.Batch.{batch, batch_view}
use Rattle.batch_lists.specs.declared.fault.BatchFault.TheVariants.{Memory}
use Rattle.media_check.proofs.Reading.{as_read, as_refused}
use Rattle.media_check.proofs.found.batch_in.Goals as goal

pub returns-in-Ok : goal.returns-in-Ok
returns-in-Ok c =
    as_read batch c.args.bytes.now (batch_view c.in-Ok.value) ((c.batch_laws.ensures.spelled (batch_view c.in-Ok.value) c.args.bytes.now).1 c.in-Ok.ensures.found)

pub returns-in-Err : goal.returns-in-Err
returns-in-Err c = as_refused batch c.args.bytes.now Memory c.in-Err.fault (search rules) c.in-Err.ensures.refused
