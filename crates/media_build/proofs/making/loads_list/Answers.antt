use Rattle.std.proofs.Common.{sym, subst}
use Rattle.media_lists.specs.Loads.{IsLoadsList}
use Rattle.media_build.proofs.GeneratedSets.{generated_loads_fit, loads_written}
use Rattle.media_build.proofs.making.loads_list.Goals as goal

pub encode-requires : goal.encode-requires
encode-requires c = subst IsLoadsList (sym c.in_ok-list.ensures) generated_loads_fit

pub returns : goal.returns
returns c = loads_written c.encode.result _ c.in_ok-list.ensures c.encode.ensures
