use Rattle.finish_ends.proofs.Passing.{finish_passes_on}
use Rattle.finish_ends.proofs.Scripts.{scripts_end, traces_are_bounded}
use Rattle.finish_ends.proofs.laws.every_script_ends.Goals as goal

pub returns-clause-passes : goal.returns-clause-passes
returns-clause-passes c = finish_passes_on c.every_finish_ends.ensures.ends

pub returns-clause-ends : goal.returns-clause-ends
returns-clause-ends c = scripts_end (record {
  crc16 = c.check_sum_laws.ensures.crc16_joined;
  crc32 = c.check_sum_laws.ensures.crc32_joined;
})

pub returns-clause-bounded : goal.returns-clause-bounded
returns-clause-bounded c = traces_are_bounded (scripts_end (record {
  crc16 = c.check_sum_laws.ensures.crc16_joined;
  crc32 = c.check_sum_laws.ensures.crc32_joined;
}))
