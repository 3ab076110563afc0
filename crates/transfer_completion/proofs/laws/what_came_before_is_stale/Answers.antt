use Rattle.transfer_completion.proofs.StaleLemmas.{behind_is_stale}
use Rattle.transfer_completion.proofs.laws.what_came_before_is_stale.Goals as goal

pub returns : goal.returns
returns c = behind_is_stale
