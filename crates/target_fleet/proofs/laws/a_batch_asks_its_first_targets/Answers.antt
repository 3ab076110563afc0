use Rattle.target_fleet.proofs.AskedInOrder.{all_ask_first, one_end_each}
use Rattle.target_fleet.proofs.laws.a_batch_asks_its_first_targets.Goals as goal

pub returns : goal.returns
returns c = record { for_each = one_end_each; first = all_ask_first }
