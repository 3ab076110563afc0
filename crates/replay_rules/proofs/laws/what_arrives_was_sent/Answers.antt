use Rattle.replay_rules.proofs.SentTraces.{loader_gives_media, what_arrives_was_sent}
use Rattle.replay_rules.proofs.laws.what_arrives_was_sent.Goals as goal

pub returns-clause-sent : goal.returns-clause-sent
returns-clause-sent c = what_arrives_was_sent (record {
  crc16 = c.check_sum_laws.ensures.crc16_joined;
  crc32 = c.check_sum_laws.ensures.crc32_joined;
}) c.what_comes_was_sent.ensures.moves

pub returns-clause-media : goal.returns-clause-media
returns-clause-media c = loader_gives_media
