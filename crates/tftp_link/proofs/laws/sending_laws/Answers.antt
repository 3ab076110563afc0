use Rattle.tftp_link.proofs.AckLemmas.{served_read_sends, asked_write_sends, done_with_the_last_ack, one_count_stands, sends_its_file}
use Rattle.tftp_link.proofs.laws.sending_laws.Goals as goal

pub returns-clause-served : goal.returns-clause-served
returns-clause-served c = served_read_sends

pub returns-clause-asked : goal.returns-clause-asked
returns-clause-asked c = asked_write_sends

pub returns-clause-done : goal.returns-clause-done
returns-clause-done c = done_with_the_last_ack

pub returns-clause-of_file : goal.returns-clause-of_file
returns-clause-of_file c = sends_its_file

pub returns-clause-one : goal.returns-clause-one
returns-clause-one c = one_count_stands
