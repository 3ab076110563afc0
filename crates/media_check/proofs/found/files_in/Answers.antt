use Rattle.std.proofs.Common.{rules}
use Rattle.media_check.proofs.Reading.{as_read, as_refused}
use Rattle.media_lists.specs.Files.{files_list, files_list_view}
use Rattle.media_lists.specs.declared.fault.ListFault.TheVariants.{Memory}
use Rattle.media_check.proofs.found.files_in.Goals as goal

pub returns-in-Ok-clause-found : goal.returns-in-Ok-clause-found
returns-in-Ok-clause-found c =
    as_read files_list c.args.bytes.now (files_list_view c.in-Ok.list) ((c.files_list_laws.ensures.spelled (files_list_view c.in-Ok.list) c.args.bytes.now).1 c.in-Ok.ensures.found)

pub returns-in-Err : goal.returns-in-Err
returns-in-Err c = record {
  found = as_refused files_list c.args.bytes.now Memory c.in-Err.fault (search rules) c.in-Err.ensures.refused;
  spelled = tt;
}
