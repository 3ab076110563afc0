use Rattle.std.proofs.Common.{◌∙◌, append_assoc}
use Rattle.std.proofs.lemmas.Result.{on_ok_weaker}
use Rattle.upload_replay.specs.Texts.{upload_line}
use Rattle.upload_replay.proofs.wire.put_upload.Goals as goal

pub returns : goal.returns
unfolding upload_line
returns c =
    on_ok_weaker c.extend-2.result
    (λ put. put ∙ rw (c.in_ok-put_parts.ensures, c.in_ok-put_target.ensures, c.in_ok-extend.ensures.ok) (simp append_assoc))
    c.extend-2.ensures.ok
