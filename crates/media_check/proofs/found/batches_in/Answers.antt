use Rattle.std.proofs.Common.{rules}
use Rattle.batch_lists.specs.Batches.{batches_list, batches_list_view}
use Rattle.batch_lists.specs.declared.fault.BatchesFault.TheVariants.{Memory}
use Rattle.media_check.proofs.Reading.{as_read, as_refused}
use Rattle.media_check.proofs.found.batches_in.Goals as goal

pub returns-in-Ok : goal.returns-in-Ok
returns-in-Ok c =
    as_read batches_list c.args.bytes.now (batches_list_view c.in-Ok.list) ((c.batches_list_laws.ensures.spelled (batches_list_view c.in-Ok.list) c.args.bytes.now).1 c.in-Ok.ensures.found)

pub returns-in-Err : goal.returns-in-Err
returns-in-Err c = as_refused batches_list c.args.bytes.now Memory c.in-Err.fault (search rules) c.in-Err.ensures.refused
