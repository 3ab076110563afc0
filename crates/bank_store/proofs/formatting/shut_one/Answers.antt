use Rattle.bank_store.proofs.Shutting.{shuts_one}
use Rattle.bank_store.proofs.formatting.shut_one.Goals as goal

pub returns-clause-shuts : goal.returns-clause-shuts
returns-clause-shuts g c =
    shuts_one c.args.slot (g.K.Disk.state c.args.disk.now) (g.K.Disk.state c.write_gate.new.disk) c.write_gate.result c.write_gate.ensures.writes_disk.goes_on.tells
    c.requires.gates c.write_gate.ensures.reads c.write_gate.ensures.settled c.write_gate.ensures.any_moment
