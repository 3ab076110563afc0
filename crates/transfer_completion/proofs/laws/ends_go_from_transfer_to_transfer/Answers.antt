use Rattle.transfer_completion.proofs.MoveLemmas.{asks, binds, binds_with_the_last, goes_on, last_is_acknowledged, more_posts, serves, takes_the_last}
use Rattle.transfer_completion.proofs.laws.ends_go_from_transfer_to_transfer.Goals as goal

pub returns-clause-asks : goal.returns-clause-asks
returns-clause-asks c = asks

pub returns-clause-serves : goal.returns-clause-serves
returns-clause-serves c = serves

pub returns-clause-binds : goal.returns-clause-binds
returns-clause-binds c = binds

pub returns-clause-goes_on : goal.returns-clause-goes_on
returns-clause-goes_on c = goes_on

pub returns-clause-takes_last : goal.returns-clause-takes_last
returns-clause-takes_last c = takes_the_last

pub returns-clause-binds_last : goal.returns-clause-binds_last
returns-clause-binds_last c = binds_with_the_last

pub returns-clause-acknowledged : goal.returns-clause-acknowledged
returns-clause-acknowledged c = last_is_acknowledged

pub returns-clause-more : goal.returns-clause-more
returns-clause-more c = more_posts
