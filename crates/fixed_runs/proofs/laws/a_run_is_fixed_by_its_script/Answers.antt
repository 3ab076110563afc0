use Rattle.fixed_runs.proofs.Fixed.{active_is_fixed, each_step_is_next, target_stays_up}
use Rattle.fixed_runs.proofs.Whole.{two_runs_are_one, whole_runs_are_fixed}
use Rattle.fixed_runs.proofs.laws.a_run_is_fixed_by_its_script.Goals as goal

pub returns-clause-next : goal.returns-clause-next
returns-clause-next c = each_step_is_next

pub returns-clause-up : goal.returns-clause-up
returns-clause-up c = target_stays_up

pub returns-clause-whole : goal.returns-clause-whole
returns-clause-whole c = whole_runs_are_fixed c.every_script_ends.ensures.bounded

pub returns-clause-same : goal.returns-clause-same
returns-clause-same c = two_runs_are_one c.every_script_ends.ensures.bounded

pub returns-clause-active : goal.returns-clause-active
returns-clause-active c = active_is_fixed
