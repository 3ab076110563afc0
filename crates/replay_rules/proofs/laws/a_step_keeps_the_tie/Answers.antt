use Rattle.replay_rules.proofs.TieLemmas.{step_keeps_tie}
use Rattle.replay_rules.proofs.laws.a_step_keeps_the_tie.Goals as goal

pub returns : goal.returns
returns c = step_keeps_tie (record {
  crc16 = c.check_sum_laws.ensures.crc16_joined;
  crc32 = c.check_sum_laws.ensures.crc32_joined;
})
