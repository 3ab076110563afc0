use Rattle.session_completion.proofs.FinishedRuns.{finish_completes}
use Rattle.session_completion.proofs.laws.a_run_left_to_finish_completes.Goals as goal

pub returns : goal.returns
returns c =
    finish_completes c.a_step_keeps_the_tie.ensures c.what_is_installed_is_of_the_media_set.ensures c.a_completed_upload_is_installed.ensures.installed
    c.the_configuration_changes_by_good_verdicts.ensures.changes c.the_configuration_changes_by_good_verdicts.ensures.good c.fault_free_runs_complete.ensures.complete
