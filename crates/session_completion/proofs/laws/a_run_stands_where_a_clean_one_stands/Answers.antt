use Rattle.session_completion.proofs.Safety.{telling_is_safe}
use Rattle.session_completion.proofs.Whole.{delivering_keeps, ticking_keeps}
use Rattle.session_completion.proofs.laws.a_run_stands_where_a_clean_one_stands.Goals as goal

pub returns-clause-delivered : goal.returns-clause-delivered
returns-clause-delivered c = delivering_keeps (record {
  crc16 = c.check_sum_laws.ensures.crc16_joined;
  crc32 = c.check_sum_laws.ensures.crc32_joined;
})

pub returns-clause-ticked : goal.returns-clause-ticked
returns-clause-ticked c = ticking_keeps (record {
  crc16 = c.check_sum_laws.ensures.crc16_joined;
  crc32 = c.check_sum_laws.ensures.crc32_joined;
})

pub returns-clause-told : goal.returns-clause-told
returns-clause-told c = telling_is_safe
