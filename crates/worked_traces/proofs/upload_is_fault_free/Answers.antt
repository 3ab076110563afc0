use Rattle.session_rules.proofs.SoundnessLemmas.{headers_are_spelled}
use Rattle.worked_traces.proofs.FaultFreeRun.{upload_is_fault_free}
use Rattle.worked_traces.proofs.upload_is_fault_free.Goals as goal

pub returns : goal.returns
returns c = upload_is_fault_free (headers_are_spelled c.header_laws.ensures.decided c.header_laws.ensures.spelled)
