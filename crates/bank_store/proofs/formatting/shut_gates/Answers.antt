use Rattle.bank_store.proofs.Shutting.{shuts_after_reads, shuts_not}
use Rattle.bank_store.proofs.formatting.shut_gates.Goals as goal

pub returns-in_err-open_slots-clause-shuts : goal.returns-in_err-open_slots-clause-shuts
returns-in_err-open_slots-clause-shuts g c = shuts_not (g.K.Disk.state c.args.disk.now) (g.K.Disk.state c.open_slots.new.disk) c.from_residual.result c.open_slots.ensures.only_reads c.from_residual.ensures.0

pub returns-in-Neither-clause-shuts : goal.returns-in-Neither-clause-shuts
returns-in-Neither-clause-shuts g c =
    shuts_after_reads (g.K.Disk.state c.args.disk.now) (g.K.Disk.state c.open_slots.new.disk) _ _ c.open_slots.ensures.only_reads c.in_ok-open_slots.ensures.kept c.settle.ensures.shuts

pub returns-in-One-clause-shuts : goal.returns-in-One-clause-shuts
returns-in-One-clause-shuts g c =
    shuts_after_reads (g.K.Disk.state c.args.disk.now) (g.K.Disk.state c.open_slots.new.disk) _ _ c.open_slots.ensures.only_reads c.in_ok-open_slots.ensures.kept c.shut_one.ensures.shuts

pub returns-in-Both-clause-shuts : goal.returns-in-Both-clause-shuts
returns-in-Both-clause-shuts g c =
    shuts_after_reads (g.K.Disk.state c.args.disk.now) (g.K.Disk.state c.open_slots.new.disk) _ _ c.open_slots.ensures.only_reads c.in_ok-open_slots.ensures.kept c.shut_both.ensures.shuts
