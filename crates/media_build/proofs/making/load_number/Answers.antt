use Rattle.media_build.proofs.GeneratedSets as generated
use Rattle.media_build.proofs.making.load_number.Goals as goal

pub part-requires : goal.part-requires
part-requires c = generated.load_number
