use Rattle.session_completion.proofs.FaultFreeRuns.{fault_free_runs_complete, fault_free_runs_lead}
use Rattle.session_completion.proofs.GivenUp.{fault_free_gives_none_up}
use Rattle.session_completion.proofs.Idle.{quiet_is_idle}
use Rattle.session_completion.proofs.laws.fault_free_runs_complete.Goals as goal

pub returns-clause-none_given_up : goal.returns-clause-none_given_up
returns-clause-none_given_up c = fault_free_gives_none_up

pub returns-clause-lead : goal.returns-clause-lead
returns-clause-lead c = fault_free_runs_lead c.a_step_keeps_the_tie.ensures

pub returns-clause-idle : goal.returns-clause-idle
returns-clause-idle c =
    quiet_is_idle (record {
      crc16 = c.check_sum_laws.ensures.crc16_joined;
      crc32 = c.check_sum_laws.ensures.crc32_joined;
    }) c.ports_stay_apart.ensures

pub returns-clause-complete : goal.returns-clause-complete
returns-clause-complete c = fault_free_runs_complete c.a_step_keeps_the_tie.ensures c.the_configuration_changes_by_good_verdicts.ensures.changes (returns-clause-idle c) c.good_uploads_complete.ensures
