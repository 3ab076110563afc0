use Rattle.batch_lists.proofs.BatchSizes.{few_parts}
use Rattle.batch_lists.proofs.batch_writing.put_contents.Goals as goal

pub put_targets-requires : goal.put_targets-requires
put_targets-requires c = rw c.as_slice-targets.ensures (few_parts c.args.batch.now.targets.items c.requires.contents.targets)
