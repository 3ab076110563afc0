use Rattle.session_rules.proofs.ReadFileLemmas.{requests_are_spelled}
use Rattle.session_rules.proofs.SoundLogLemmas.{payloads_are_bytes}
use Rattle.session_rules.proofs.SoundnessLemmas.{headers_are_spelled}
use Rattle.replay_rules.proofs.Outcomes.{denials_are_for_sequence, files_are_good, stops_are_for_verdicts}
use Rattle.replay_rules.proofs.laws.outcomes_have_their_causes.Goals as goal

pub returns-clause-denied : goal.returns-clause-denied
returns-clause-denied c = denials_are_for_sequence (record {
  crc16 = c.check_sum_laws.ensures.crc16_joined;
  crc32 = c.check_sum_laws.ensures.crc32_joined;
}) c.what_comes_was_sent.ensures.moves (payloads_are_bytes c.packet_laws.ensures.decided c.packet_laws.ensures.spelled) c.what_arrives_was_sent.ensures.sent (record {
  lci_exact = c.protocol_file_laws.ensures.lci;
  lcl_exact = c.protocol_file_laws.ensures.lcl;
  lcs_exact = c.protocol_file_laws.ensures.lcs;
  lui_exact = c.protocol_file_laws.ensures.lui;
  lus_exact = c.protocol_file_laws.ensures.lus;
}) c.the_configuration_changes_by_good_verdicts.ensures.changes

pub returns-clause-stopped : goal.returns-clause-stopped
returns-clause-stopped c = stops_are_for_verdicts (record {
  crc16 = c.check_sum_laws.ensures.crc16_joined;
  crc32 = c.check_sum_laws.ensures.crc32_joined;
}) c.what_comes_was_sent.ensures.moves (payloads_are_bytes c.packet_laws.ensures.decided c.packet_laws.ensures.spelled) c.what_arrives_was_sent.ensures.sent (record {
  lci_exact = c.protocol_file_laws.ensures.lci;
  lcl_exact = c.protocol_file_laws.ensures.lcl;
  lcs_exact = c.protocol_file_laws.ensures.lcs;
  lui_exact = c.protocol_file_laws.ensures.lui;
  lus_exact = c.protocol_file_laws.ensures.lus;
}) c.the_configuration_changes_by_good_verdicts.ensures.changes

pub returns-clause-files : goal.returns-clause-files
returns-clause-files c = files_are_good (record {
  crc16 = c.check_sum_laws.ensures.crc16_joined;
  crc32 = c.check_sum_laws.ensures.crc32_joined;
}) c.what_comes_was_sent.ensures.moves (headers_are_spelled c.header_laws.ensures.decided c.header_laws.ensures.spelled) (payloads_are_bytes c.packet_laws.ensures.decided c.packet_laws.ensures.spelled)
    (requests_are_spelled c.protocol_file_laws.ensures.lur.decided c.protocol_file_laws.ensures.lur.spelled) c.what_arrives_was_sent.ensures.sent (record {
      lci_exact = c.protocol_file_laws.ensures.lci;
      lcl_exact = c.protocol_file_laws.ensures.lcl;
      lcs_exact = c.protocol_file_laws.ensures.lcs;
      lui_exact = c.protocol_file_laws.ensures.lui;
      lus_exact = c.protocol_file_laws.ensures.lus;
    }) c.the_configuration_changes_by_good_verdicts.ensures.changes
