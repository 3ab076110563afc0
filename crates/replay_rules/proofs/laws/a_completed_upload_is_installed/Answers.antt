use Rattle.session_rules.proofs.ReadFileLemmas.{requests_are_spelled}
use Rattle.session_rules.proofs.SoundLogLemmas.{payloads_are_bytes}
use Rattle.session_rules.proofs.SoundnessLemmas.{headers_are_spelled}
use Rattle.replay_rules.proofs.AskedFor.{installs_are_asked, requests_are_read}
use Rattle.replay_rules.proofs.Counted.{completed_stays}
use Rattle.replay_rules.proofs.OwnSession.{completed_in_session}
use Rattle.replay_rules.proofs.ToldTraces.{statuses_are_spelled}
use Rattle.replay_rules.proofs.laws.a_completed_upload_is_installed.Goals as goal

pub returns-clause-asked : goal.returns-clause-asked
returns-clause-asked c = installs_are_asked (record {
  crc16 = c.check_sum_laws.ensures.crc16_joined;
  crc32 = c.check_sum_laws.ensures.crc32_joined;
}) c.what_comes_was_sent.ensures.moves (headers_are_spelled c.header_laws.ensures.decided c.header_laws.ensures.spelled) (payloads_are_bytes c.packet_laws.ensures.decided c.packet_laws.ensures.spelled)
    (requests_are_spelled c.protocol_file_laws.ensures.lur.decided c.protocol_file_laws.ensures.lur.spelled) (requests_are_read c.protocol_file_laws.ensures.lur.spelled)

pub returns-clause-installed : goal.returns-clause-installed
returns-clause-installed c = completed_in_session (record {
  crc16 = c.check_sum_laws.ensures.crc16_joined;
  crc32 = c.check_sum_laws.ensures.crc32_joined;
}) c.what_comes_was_sent.ensures.moves (headers_are_spelled c.header_laws.ensures.decided c.header_laws.ensures.spelled) (payloads_are_bytes c.packet_laws.ensures.decided c.packet_laws.ensures.spelled)
    (requests_are_spelled c.protocol_file_laws.ensures.lur.decided c.protocol_file_laws.ensures.lur.spelled) (requests_are_read c.protocol_file_laws.ensures.lur.spelled)
    (statuses_are_spelled c.protocol_file_laws.ensures.lus.decided c.protocol_file_laws.ensures.lus.spelled)

pub returns-clause-stays : goal.returns-clause-stays
returns-clause-stays c = completed_stays (record {
  crc16 = c.check_sum_laws.ensures.crc16_joined;
  crc32 = c.check_sum_laws.ensures.crc32_joined;
}) c.what_comes_was_sent.ensures.moves (headers_are_spelled c.header_laws.ensures.decided c.header_laws.ensures.spelled) (payloads_are_bytes c.packet_laws.ensures.decided c.packet_laws.ensures.spelled)
    (requests_are_spelled c.protocol_file_laws.ensures.lur.decided c.protocol_file_laws.ensures.lur.spelled) (requests_are_read c.protocol_file_laws.ensures.lur.spelled)
    (statuses_are_spelled c.protocol_file_laws.ensures.lus.decided c.protocol_file_laws.ensures.lus.spelled)
