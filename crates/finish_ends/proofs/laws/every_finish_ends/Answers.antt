use Rattle.finish_ends.proofs.Finishes.{finish_ends}
use Rattle.finish_ends.proofs.Given.{finish_leaves_quiet, script_gives_finish}
use Rattle.finish_ends.proofs.laws.every_finish_ends.Goals as goal

pub returns-clause-ends : goal.returns-clause-ends
returns-clause-ends c = finish_ends (record {
  crc16 = c.check_sum_laws.ensures.crc16_joined;
  crc32 = c.check_sum_laws.ensures.crc32_joined;
})

pub returns-clause-given : goal.returns-clause-given
returns-clause-given c = script_gives_finish

pub returns-clause-quiet : goal.returns-clause-quiet
returns-clause-quiet c = finish_leaves_quiet
