use Rattle.std.proofs.Common.{rules}
use Rattle.media_check.proofs.Reading.{as_read, as_refused}
use Rattle.media_lists.specs.Loads.{loads_list, loads_list_view}
use Rattle.media_lists.specs.declared.fault.ListFault.TheVariants.{Memory}
use Rattle.media_check.proofs.found.loads_in.Goals as goal

pub returns-in-Ok : goal.returns-in-Ok
returns-in-Ok c =
    as_read loads_list c.args.bytes.now (loads_list_view c.in-Ok.list) ((c.loads_list_laws.ensures.spelled (loads_list_view c.in-Ok.list) c.args.bytes.now).1 c.in-Ok.ensures.found)

pub returns-in-Err : goal.returns-in-Err
returns-in-Err c = as_refused loads_list c.args.bytes.now Memory c.in-Err.fault (search rules) c.in-Err.ensures.refused
