use Rattle.std.proofs.Common.{refl}
use Rattle.std.proofs.lemmas.Result.{IfOk-weaker}
use Rattle.loader_cli.specs.Runs.Shows.{read, too_long}
use Rattle.loader_cli.proofs.Outputs.{has_bytes, has_too_many}
use Rattle.loader_cli.proofs.Replayed.{none_failed}
use Rattle.loader_cli.proofs.show.show.Goals as goal

pub returns-in-Ok-clause-shows : goal.returns-in-Ok-clause-shows
returns-in-Ok-clause-shows g c =
    let name = c.as_bytes-name.ensures.value in
    let has = rw name at (has_bytes _ _ c.in-Ok.bytes c.in-Ok.ensures.file) in
    IfOk-weaker c.show_bytes.result _ _ (λ answer shown. read c.in-Ok.bytes.items has c.in-Ok.ensures.short (rw (c.as_slice.ensures, name) at shown)) c.show_bytes.ensures

pub returns-in-Err-TooLong-clause-shows : goal.returns-in-Err-TooLong-clause-shows
returns-in-Err-TooLong-clause-shows g c =
    let name = c.as_bytes-name.ensures.value in
    too_long (rw name at (has_too_many _ _ (rw c.in-Err-TooLong.field-0-is at c.in-Err-TooLong.ensures.file))) refl (rw name refl)

pub returns-in-Ok-clause-faults : goal.returns-in-Ok-clause-faults
returns-in-Ok-clause-faults g c = none_failed _ _ _ c.show_bytes.result c.in-Ok.ensures.cause.ok
