use Rattle.tftp_link.proofs.ArrivalLemmas.{one_stands}
use Rattle.tftp_link.proofs.FileLemmas.{arrives_as_prefix, arrives_whole}
use Rattle.tftp_link.proofs.laws.arrival_laws.Goals as goal

pub returns-clause-one : goal.returns-clause-one
returns-clause-one c = one_stands

pub returns-clause-so_far : goal.returns-clause-so_far
returns-clause-so_far c = arrives_as_prefix

pub returns-clause-whole : goal.returns-clause-whole
returns-clause-whole c = arrives_whole
