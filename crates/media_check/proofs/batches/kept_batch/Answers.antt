use Rattle.std.proofs.Common.{Some, None, ap, ◌∙◌}
use Rattle.std.specs.Prelude.{option_map}
use Rattle.media_check.specs.Batches.{read_as_batch}
use Rattle.media_check.proofs.Lookups.{found_as_seen}
use Rattle.media_check.proofs.batches.kept_batch.Goals as goal

pub returns-in_ok-batch_in_file-in-Some : goal.returns-in_ok-batch_in_file-in-Some
returns-in_ok-batch_in_file-in-Some c =
    ap Some c.in_ok-batch_in_file-in-Some.ensures
    ∙ ap (option_map read_as_batch) (found_as_seen c.args.files.now.entries c.args.entry.now.file (Some c.in-Some.file.now) c.in-Some.ensures.value)

pub returns-in-None : goal.returns-in-None
returns-in-None c = ap (option_map read_as_batch) (found_as_seen c.args.files.now.entries c.args.entry.now.file None c.in-None.ensures.value)
