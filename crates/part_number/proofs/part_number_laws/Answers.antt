use Rattle.part_number.proofs.Texts.{product_of_part}
use Rattle.part_number.proofs.part_number_laws.Goals as goal

pub returns-clause-one_product : goal.returns-clause-one_product
returns-clause-one_product c = product_of_part
