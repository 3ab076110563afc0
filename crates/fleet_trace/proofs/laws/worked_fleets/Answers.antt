use Rattle.std.proofs.Common.{refl}
use Rattle.fleet_trace.specs.FleetTraces.{fleet_steps_of}
use Rattle.fleet_trace.proofs.laws.worked_fleets.Goals as goal

pub returns-clause-steps : goal.returns-clause-steps
unfolding fleet_steps_of
returns-clause-steps c = refl

pub returns-clause-asked_steps : goal.returns-clause-asked_steps
unfolding fleet_steps_of
returns-clause-asked_steps c = λ part. refl

pub returns-clause-asked_given : goal.returns-clause-asked_given
returns-clause-asked_given c = λ hw pos parts. refl

pub returns-clause-asked_happens : goal.returns-clause-asked_happens
returns-clause-asked_happens c = λ s part. refl

pub returns-clause-own_steps : goal.returns-clause-own_steps
returns-clause-own_steps c = λ s z. refl

pub returns-clause-orders : goal.returns-clause-orders
returns-clause-orders c = λ s z. refl

pub returns-clause-merges : goal.returns-clause-merges
returns-clause-merges c = λ s z. refl

pub returns-clause-places : goal.returns-clause-places
returns-clause-places c = λ d. refl

pub returns-clause-delivers : goal.returns-clause-delivers
returns-clause-delivers c = λ d waits. refl

pub returns-clause-passes_lost : goal.returns-clause-passes_lost
returns-clause-passes_lost c = λ d waits. refl

pub returns-clause-numbers : goal.returns-clause-numbers
returns-clause-numbers c = λ d waits. refl

pub returns-clause-gives : goal.returns-clause-gives
returns-clause-gives c = λ d waits. refl

pub returns-clause-next_of_two : goal.returns-clause-next_of_two
returns-clause-next_of_two c = λ d waits. refl

pub returns-clause-next_is_done : goal.returns-clause-next_is_done
returns-clause-next_is_done c = λ d waits. refl

pub returns-clause-asks : goal.returns-clause-asks
returns-clause-asks c = λ waits. refl

pub returns-clause-asks_not : goal.returns-clause-asks_not
returns-clause-asks_not c = λ part waits. refl

pub returns-clause-finishes_batch : goal.returns-clause-finishes_batch
returns-clause-finishes_batch c = λ waits. refl

pub returns-clause-delivers_first : goal.returns-clause-delivers_first
returns-clause-delivers_first c = λ d waits. refl

pub returns-clause-batch_over : goal.returns-clause-batch_over
returns-clause-batch_over c = λ d waits. refl
