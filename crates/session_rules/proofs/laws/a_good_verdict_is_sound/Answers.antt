use Rattle.session_rules.proofs.SoundnessLemmas.{headers_are_spelled, verdict_is_sound}
use Rattle.session_rules.proofs.laws.a_good_verdict_is_sound.Goals as goal

pub returns : goal.returns
returns c = verdict_is_sound (record {
  crc16 = c.check_sum_laws.ensures.crc16_joined;
  crc32 = c.check_sum_laws.ensures.crc32_joined;
}) (headers_are_spelled c.header_laws.ensures.decided c.header_laws.ensures.spelled)
