use Rattle.media_build.proofs.GeneratedSets as generated
use Rattle.media_build.proofs.making.set_number.Goals as goal

pub part-requires : goal.part-requires
part-requires c = generated.set_number
