use Rattle.session_rules.proofs.SoundLogLemmas.{payloads_are_bytes}
use Rattle.replay_rules.proofs.ToldTraces.{completed_was_brought, statuses_are_spelled, target_tells_in_time}
use Rattle.replay_rules.proofs.laws.an_upload_is_completed_after_a_step_that_installed.Goals as goal

pub returns-clause-told : goal.returns-clause-told
returns-clause-told c = target_tells_in_time (record {
  crc16 = c.check_sum_laws.ensures.crc16_joined;
  crc32 = c.check_sum_laws.ensures.crc32_joined;
})

pub returns-clause-brought : goal.returns-clause-brought
returns-clause-brought c = completed_was_brought (record {
  crc16 = c.check_sum_laws.ensures.crc16_joined;
  crc32 = c.check_sum_laws.ensures.crc32_joined;
}) c.what_comes_was_sent.ensures.moves (payloads_are_bytes c.packet_laws.ensures.decided c.packet_laws.ensures.spelled)
    (statuses_are_spelled c.protocol_file_laws.ensures.lus.decided c.protocol_file_laws.ensures.lus.spelled)
