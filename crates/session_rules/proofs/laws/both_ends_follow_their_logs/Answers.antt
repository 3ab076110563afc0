use Rattle.session_rules.proofs.ViewLemmas.{loaders_follow, targets_follow}
use Rattle.session_rules.proofs.laws.both_ends_follow_their_logs.Goals as goal

pub returns-clause-loader : goal.returns-clause-loader
returns-clause-loader c = loaders_follow

pub returns-clause-target : goal.returns-clause-target
returns-clause-target c = targets_follow (record {
  crc16 = c.check_sum_laws.ensures.crc16_joined;
  crc32 = c.check_sum_laws.ensures.crc32_joined;
})
