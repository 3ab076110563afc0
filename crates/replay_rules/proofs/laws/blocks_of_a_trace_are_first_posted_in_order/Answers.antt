use Rattle.replay_rules.proofs.FirstPosting.{loader_posts_in_order, target_posts_in_order}
use Rattle.replay_rules.proofs.laws.blocks_of_a_trace_are_first_posted_in_order.Goals as goal

pub returns-clause-loader : goal.returns-clause-loader
returns-clause-loader c = loader_posts_in_order c.blocks_are_first_posted_in_order.ensures

pub returns-clause-target : goal.returns-clause-target
returns-clause-target c = target_posts_in_order (record {
  crc16 = c.check_sum_laws.ensures.crc16_joined;
  crc32 = c.check_sum_laws.ensures.crc32_joined;
}) c.blocks_are_first_posted_in_order.ensures
