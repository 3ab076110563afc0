use Rattle.std.proofs.Common.{sym, ◌∙◌}
use Rattle.media_lists.proofs.PathLemmas.{is_path}
use Rattle.media_lists.proofs.paths.path_of.Goals as goal

pub path_text-requires : goal.path_text-requires
path_text-requires c = is_path c.args.bytes.now (sym c.path_fault.ensures ∙ c.in_default.is)
