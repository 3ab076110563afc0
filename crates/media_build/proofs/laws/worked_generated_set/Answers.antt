use Rattle.media_build.specs.Generator.{generated}
use Rattle.media_build.proofs.GeneratedSets.{generated_said, header_is_short}
use Rattle.media_build.proofs.laws.worked_generated_set.Goals as goal

pub returns : goal.returns
returns c = record { said = generated_said; header = λ number. header_is_short (generated number 4194304) }
