use Rattle.session_completion.proofs.Again.{next_comes_again}
use Rattle.session_completion.proofs.ReadOff.{all_come_out, few_are_ahead, last_is_done, last_was_posted, two_are_quiet}
use Rattle.session_completion.proofs.Whole.{next_goes_on, old_changes_nothing}
use Rattle.session_completion.proofs.laws.a_clean_upload_comes_to_its_end.Goals as goal

pub returns-clause-old : goal.returns-clause-old
returns-clause-old c = old_changes_nothing (record {
  crc16 = c.check_sum_laws.ensures.crc16_joined;
  crc32 = c.check_sum_laws.ensures.crc32_joined;
})

pub returns-clause-moves : goal.returns-clause-moves
returns-clause-moves c = next_goes_on (record {
  crc16 = c.check_sum_laws.ensures.crc16_joined;
  crc32 = c.check_sum_laws.ensures.crc32_joined;
})

pub returns-clause-again : goal.returns-clause-again
returns-clause-again c = next_comes_again (record {
  crc16 = c.check_sum_laws.ensures.crc16_joined;
  crc32 = c.check_sum_laws.ensures.crc32_joined;
})

pub returns-clause-last : goal.returns-clause-last
returns-clause-last c = last_was_posted (record {
  crc16 = c.check_sum_laws.ensures.crc16_joined;
  crc32 = c.check_sum_laws.ensures.crc32_joined;
})

pub returns-clause-few : goal.returns-clause-few
returns-clause-few c = few_are_ahead (record {
  crc16 = c.check_sum_laws.ensures.crc16_joined;
  crc32 = c.check_sum_laws.ensures.crc32_joined;
})

pub returns-clause-two : goal.returns-clause-two
returns-clause-two c = two_are_quiet (record {
  crc16 = c.check_sum_laws.ensures.crc16_joined;
  crc32 = c.check_sum_laws.ensures.crc32_joined;
})

pub returns-clause-come_out : goal.returns-clause-come_out
returns-clause-come_out c = all_come_out (record {
  crc16 = c.check_sum_laws.ensures.crc16_joined;
  crc32 = c.check_sum_laws.ensures.crc32_joined;
})

pub returns-clause-done : goal.returns-clause-done
returns-clause-done c = last_is_done (record {
  crc16 = c.check_sum_laws.ensures.crc16_joined;
  crc32 = c.check_sum_laws.ensures.crc32_joined;
})
