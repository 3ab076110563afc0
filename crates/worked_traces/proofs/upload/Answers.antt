use Rattle.worked_traces.proofs.UploadRun.{upload}
use Rattle.worked_traces.proofs.upload.Goals as goal

pub returns : goal.returns
returns c = upload
