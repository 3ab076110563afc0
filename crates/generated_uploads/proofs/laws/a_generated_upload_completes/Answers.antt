use Rattle.generated_uploads.proofs.Uploads.{uploads_complete}
use Rattle.generated_uploads.proofs.laws.a_generated_upload_completes.Goals as goal

pub returns : goal.returns
returns c = uploads_complete c.a_run_keeps_its_promises.ensures c.generated_media_are_good.ensures c.one_session_for_each_start.ensures
