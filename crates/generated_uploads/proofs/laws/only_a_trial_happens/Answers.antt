use Rattle.generated_uploads.proofs.Turns.{only_trial}
use Rattle.generated_uploads.proofs.laws.only_a_trial_happens.Goals as goal

pub returns : goal.returns
returns c = only_trial
