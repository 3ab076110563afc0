use Rattle.replay_rules.proofs.PortsApart.{ports_stay_apart}
use Rattle.replay_rules.proofs.laws.ports_stay_apart.Goals as goal

pub returns : goal.returns
returns c = ports_stay_apart (record {
  crc16 = c.check_sum_laws.ensures.crc16_joined;
  crc32 = c.check_sum_laws.ensures.crc32_joined;
}) c.what_comes_was_sent.ensures.moves
