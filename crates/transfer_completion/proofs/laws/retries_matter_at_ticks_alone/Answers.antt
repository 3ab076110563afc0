use Rattle.transfer_completion.proofs.RetryLemmas.{moves_do_the_same}
use Rattle.transfer_completion.proofs.laws.retries_matter_at_ticks_alone.Goals as goal

pub returns : goal.returns
returns c = moves_do_the_same
