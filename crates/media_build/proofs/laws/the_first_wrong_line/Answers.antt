use Rattle.media_build.proofs.FirstWrong.{first_wrong_is_found, first_wrong_is_told}
use Rattle.media_build.proofs.laws.the_first_wrong_line.Goals as goal

pub returns : goal.returns
returns c = λ written fault. (first_wrong_is_found written fault, first_wrong_is_told written fault)
