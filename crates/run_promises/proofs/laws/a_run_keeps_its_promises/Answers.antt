use Rattle.run_promises.proofs.Kept.{kept}
use Rattle.run_promises.proofs.laws.a_run_keeps_its_promises.Goals as goal

pub returns : goal.returns
returns c = kept (record {
  ends = c.sessions_end_in_steps.ensures;
  denials = c.outcomes_have_their_causes.ensures.denied;
  stops = c.outcomes_have_their_causes.ensures.stopped;
  files = c.outcomes_have_their_causes.ensures.files;
  causes = c.each_session_ends_by_its_cause.ensures;
}) c.what_a_target_reports_is_installed.ensures c.the_configuration_changes_by_good_verdicts.ensures.changes c.the_configuration_changes_by_good_verdicts.ensures.good c.the_configuration_changes_by_good_verdicts.ensures.active
    c.what_is_installed_is_of_the_media_set.ensures c.a_completed_session_lists_what_was_active.ensures.lists c.what_a_disk_holds_can_be_listed.ensures.names c.what_is_active_can_be_listed.ensures c.a_completed_upload_is_installed.ensures.stays c.every_script_ends.ensures.bounded c.a_run_left_to_finish_completes.ensures
