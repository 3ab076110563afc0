use Rattle.bank_store.proofs.Shutting.{shuts_first, shuts_both}
use Rattle.bank_store.proofs.formatting.shut_both.Goals as goal

pub returns-in_err-write_gate-clause-shuts : goal.returns-in_err-write_gate-clause-shuts
returns-in_err-write_gate-clause-shuts g c =
    shuts_first c.args.active c.other.result (g.K.Disk.state c.args.disk.now) (g.K.Disk.state c.write_gate.new.disk) c.from_residual.result c.other.ensures c.requires.gates c.write_gate.ensures.any_moment c.from_residual.ensures.0

pub returns-clause-shuts : goal.returns-clause-shuts
returns-clause-shuts g c =
    shuts_both c.args.active c.other.result (g.K.Disk.state c.args.disk.now) (g.K.Disk.state c.write_gate.new.disk) (g.K.Disk.state c.write_gate-2.new.disk) c.write_gate-2.result
    c.other.ensures c.write_gate.ensures.writes_disk.goes_on.tells c.write_gate-2.ensures.writes_disk.goes_on.tells c.requires.gates
    c.write_gate.ensures.any_moment c.in_ok-write_gate.ensures.reads c.in_ok-write_gate.ensures.settled
    c.write_gate-2.ensures.reads c.write_gate-2.ensures.settled c.write_gate-2.ensures.any_moment
