use Rattle.session_rules.proofs.ReadFileLemmas.{requests_are_spelled}
use Rattle.session_rules.proofs.SoundLogLemmas.{payloads_are_bytes}
use Rattle.session_rules.proofs.SoundnessLemmas.{headers_are_spelled}
use Rattle.run_promises.proofs.Active.{active_is_listed}
use Rattle.run_promises.proofs.laws.what_is_active_can_be_listed.Goals as goal

pub returns : goal.returns
returns c = active_is_listed (record {
  crc16 = c.check_sum_laws.ensures.crc16_joined;
  crc32 = c.check_sum_laws.ensures.crc32_joined;
}) (headers_are_spelled c.header_laws.ensures.decided c.header_laws.ensures.spelled) (payloads_are_bytes c.packet_laws.ensures.decided c.packet_laws.ensures.spelled)
    (requests_are_spelled c.protocol_file_laws.ensures.lur.decided c.protocol_file_laws.ensures.lur.spelled)
