use Rattle.session_completion.proofs.Same.{loader_does_the_same, target_does_the_same}
use Rattle.session_completion.proofs.laws.retries_matter_at_ticks_alone.Goals as goal

pub returns-clause-loader : goal.returns-clause-loader
returns-clause-loader c = loader_does_the_same

pub returns-clause-target : goal.returns-clause-target
returns-clause-target c = target_does_the_same
