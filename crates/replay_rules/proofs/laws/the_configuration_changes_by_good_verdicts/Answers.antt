use Rattle.session_rules.proofs.SoundnessLemmas.{headers_are_spelled}
use Rattle.session_rules.proofs.SoundLogLemmas.{payloads_are_bytes}
use Rattle.replay_rules.proofs.ChangeLemmas.{changes_are_new, installs_are_good}
use Rattle.replay_rules.proofs.FirstOrGoodLemmas.{active_is_first_or_good}
use Rattle.replay_rules.proofs.laws.the_configuration_changes_by_good_verdicts.Goals as goal

pub returns-clause-changes : goal.returns-clause-changes
returns-clause-changes c = changes_are_new (record {
  crc16 = c.check_sum_laws.ensures.crc16_joined;
  crc32 = c.check_sum_laws.ensures.crc32_joined;
}) (headers_are_spelled c.header_laws.ensures.decided c.header_laws.ensures.spelled) (payloads_are_bytes c.packet_laws.ensures.decided c.packet_laws.ensures.spelled)

pub returns-clause-good : goal.returns-clause-good
returns-clause-good c = installs_are_good (record {
  crc16 = c.check_sum_laws.ensures.crc16_joined;
  crc32 = c.check_sum_laws.ensures.crc32_joined;
}) (headers_are_spelled c.header_laws.ensures.decided c.header_laws.ensures.spelled) (payloads_are_bytes c.packet_laws.ensures.decided c.packet_laws.ensures.spelled)

pub returns-clause-active : goal.returns-clause-active
returns-clause-active c = active_is_first_or_good (returns-clause-changes c)
