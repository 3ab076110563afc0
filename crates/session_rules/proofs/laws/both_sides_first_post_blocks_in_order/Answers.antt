use Rattle.session_rules.proofs.FirstPostLemmas.{loader_blocks_in_order, target_blocks_in_order, ticks_repeat}
use Rattle.session_rules.proofs.laws.both_sides_first_post_blocks_in_order.Goals as goal

pub returns-clause-loader : goal.returns-clause-loader
returns-clause-loader c = loader_blocks_in_order c.blocks_are_first_posted_in_order.ensures

pub returns-clause-target : goal.returns-clause-target
returns-clause-target c = target_blocks_in_order (record {
  crc16 = c.check_sum_laws.ensures.crc16_joined;
  crc32 = c.check_sum_laws.ensures.crc32_joined;
}) c.blocks_are_first_posted_in_order.ensures

pub returns-clause-ticks : goal.returns-clause-ticks
returns-clause-ticks c = ticks_repeat
