use Rattle.replay_rules.proofs.ListedBefore.{target_writes_in_time}
use Rattle.replay_rules.proofs.ListedTraces.{lists_are_read}
use Rattle.replay_rules.proofs.OwnList.{completed_lists_active}
use Rattle.replay_rules.proofs.laws.a_completed_session_lists_what_was_active.Goals as goal

pub returns-clause-written : goal.returns-clause-written
returns-clause-written c = target_writes_in_time (record {
  crc16 = c.check_sum_laws.ensures.crc16_joined;
  crc32 = c.check_sum_laws.ensures.crc32_joined;
})

pub returns-clause-lists : goal.returns-clause-lists
returns-clause-lists c = completed_lists_active (record {
  crc16 = c.check_sum_laws.ensures.crc16_joined;
  crc32 = c.check_sum_laws.ensures.crc32_joined;
}) c.what_comes_was_sent.ensures.moves (lists_are_read c.protocol_file_laws.ensures.lcl.spelled)
