use Rattle.transfer_end.proofs.CameLemmas.{moves_came, taken_blocks_came, taken_was_got}
use Rattle.transfer_end.proofs.laws.what_was_taken_came.Goals as goal

pub returns-clause-got : goal.returns-clause-got
returns-clause-got c = taken_was_got

pub returns-clause-moves : goal.returns-clause-moves
returns-clause-moves c = moves_came

pub returns-clause-blocks : goal.returns-clause-blocks
returns-clause-blocks c = taken_blocks_came
