use Rattle.std.proofs.Common.{◌++◌, ◌∷◌, [], List, ℕ, ap, ◌∙◌}
use Rattle.std.specs.Prelude.{codes}
use Rattle.std.proofs.lemmas.Result.{on_ok_weaker}
use Rattle.media_check.specs.Findings.{detailed}
use Rattle.media_check.proofs.batch_checking.put_refused_list.Goals as goal

pub returns : goal.returns
returns c =
    on_ok_weaker c.put_detailed_of_list.result
    (λ is. is ∙ ap (λ (text : List ℕ). c.args.out.now.items ++ detailed 14 c.args.member (codes "BATCHES.LUM") text ∷ []) c.in_ok-detail.ensures.text) c.put_detailed_of_list.ensures
