use Rattle.transfer_end.proofs.RfcLemmas.{moves_count_up}
use Rattle.transfer_end.proofs.laws.own_ports_count_up.Goals as goal

pub returns : goal.returns
returns c = moves_count_up
