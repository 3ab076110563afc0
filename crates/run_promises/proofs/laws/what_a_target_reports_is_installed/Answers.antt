use Rattle.run_promises.proofs.TrueReports.{reports_are_true}
use Rattle.run_promises.proofs.laws.what_a_target_reports_is_installed.Goals as goal

pub returns : goal.returns
returns c = reports_are_true (record {
  crc16 = c.check_sum_laws.ensures.crc16_joined;
  crc32 = c.check_sum_laws.ensures.crc32_joined;
}) c.the_configuration_changes_by_good_verdicts.ensures.changes
