use Rattle.session_completion.proofs.Whole.{finish_comes_to_an_end}
use Rattle.session_completion.proofs.laws.finish_comes_to_an_end.Goals as goal

pub returns : goal.returns
returns c = finish_comes_to_an_end (record {
  crc16 = c.check_sum_laws.ensures.crc16_joined;
  crc32 = c.check_sum_laws.ensures.crc32_joined;
})
