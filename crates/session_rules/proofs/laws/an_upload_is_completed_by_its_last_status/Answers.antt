use Rattle.session_rules.proofs.CompletionLemmas.{completed_upload_arrived, target_tells_installed}
use Rattle.session_rules.proofs.laws.an_upload_is_completed_by_its_last_status.Goals as goal

pub returns-clause-arrived : goal.returns-clause-arrived
returns-clause-arrived c = completed_upload_arrived

pub returns-clause-told : goal.returns-clause-told
returns-clause-told c = target_tells_installed (record {
  crc16 = c.check_sum_laws.ensures.crc16_joined;
  crc32 = c.check_sum_laws.ensures.crc32_joined;
})
