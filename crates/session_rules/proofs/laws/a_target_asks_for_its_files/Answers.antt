use Rattle.session_rules.proofs.ListLemmas.{target_asks_for_its_files, target_asks_in_turn}
use Rattle.session_rules.proofs.laws.a_target_asks_for_its_files.Goals as goal

pub returns-clause-in_turn : goal.returns-clause-in_turn
returns-clause-in_turn c = target_asks_in_turn

pub returns-clause-files : goal.returns-clause-files
returns-clause-files c = target_asks_for_its_files (record {
  crc16 = c.check_sum_laws.ensures.crc16_joined;
  crc32 = c.check_sum_laws.ensures.crc32_joined;
})
