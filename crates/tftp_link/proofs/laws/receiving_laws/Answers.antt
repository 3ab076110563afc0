use Rattle.tftp_link.proofs.ArrivalLemmas.{served_write_arrives, asked_read_arrives, served_last_makes_whole, asked_last_makes_whole, served_write_acknowledges, asked_read_acknowledges}
use Rattle.tftp_link.proofs.laws.receiving_laws.Goals as goal

pub returns-clause-served : goal.returns-clause-served
returns-clause-served c = served_write_arrives

pub returns-clause-asked : goal.returns-clause-asked
returns-clause-asked c = asked_read_arrives

pub returns-clause-served_last : goal.returns-clause-served_last
returns-clause-served_last c = served_last_makes_whole

pub returns-clause-asked_last : goal.returns-clause-asked_last
returns-clause-asked_last c = asked_last_makes_whole

pub returns-clause-served_sent : goal.returns-clause-served_sent
returns-clause-served_sent c = served_write_acknowledges

pub returns-clause-asked_sent : goal.returns-clause-asked_sent
returns-clause-asked_sent c = asked_read_acknowledges
