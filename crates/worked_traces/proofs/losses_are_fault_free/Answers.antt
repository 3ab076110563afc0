use Rattle.session_rules.proofs.SoundnessLemmas.{headers_are_spelled}
use Rattle.worked_traces.proofs.FaultFreeRun.{losses_are_fault_free, losses_left_to_finish, losses_within_margin}
use Rattle.worked_traces.proofs.losses_are_fault_free.Goals as goal

pub returns-clause-free : goal.returns-clause-free
returns-clause-free c = losses_are_fault_free (headers_are_spelled c.header_laws.ensures.decided c.header_laws.ensures.spelled)

pub returns-clause-margin : goal.returns-clause-margin
returns-clause-margin c = losses_within_margin

pub returns-clause-left : goal.returns-clause-left
returns-clause-left c = losses_left_to_finish
