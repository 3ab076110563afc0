use Rattle.session_rules.proofs.SoundnessLemmas.{headers_are_spelled}
use Rattle.session_rules.proofs.SoundLogLemmas.{changes_by_verdict, payloads_are_bytes}
use Rattle.session_rules.proofs.laws.the_configuration_changes_by_a_good_verdict.Goals as goal

pub returns : goal.returns
returns c = λ accepts first_port active log e permits fit.
    changes_by_verdict accepts (record {
      crc16 = c.check_sum_laws.ensures.crc16_joined;
      crc32 = c.check_sum_laws.ensures.crc32_joined;
    }) (headers_are_spelled c.header_laws.ensures.decided c.header_laws.ensures.spelled) permits
    (payloads_are_bytes c.packet_laws.ensures.decided c.packet_laws.ensures.spelled) first_port active log e fit
