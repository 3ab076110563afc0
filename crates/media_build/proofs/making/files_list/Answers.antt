use Rattle.std.proofs.Common.{sym, subst}
use Rattle.media_lists.specs.Files.{IsFilesList}
use Rattle.media_build.proofs.GeneratedSets.{generated_files_fit, files_written}
use Rattle.media_build.proofs.making.files_list.Goals as goal

pub encode-requires : goal.encode-requires
encode-requires c = subst IsFilesList (sym c.in_ok-list.ensures) (generated_files_fit c.args.file.now)

pub returns : goal.returns
returns c = files_written c.args.file.now c.encode.result _ c.in_ok-list.ensures c.encode.ensures
