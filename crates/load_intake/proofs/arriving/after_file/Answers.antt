use Rattle.std.proofs.Common.{ap}
use Rattle.load_intake.specs.Places.{next_seen}
use Rattle.load_intake.proofs.Going.{goes_on_here}
use Rattle.load_intake.proofs.Moving.{goes_complete, goes_more, goes_next}
use Rattle.load_intake.proofs.arriving.after_file.Goals as goal

pub returns-in_ok-next_load-in-NextLoad-clause-ends : goal.returns-in_ok-next_load-in-NextLoad-clause-ends
returns-in_ok-next_load-in-NextLoad-clause-ends g c =
    let e = c.in_ok-next_load-in-NextLoad.ensures in
    goes_on_here _ c.in_ok-next_load-in-NextLoad.field-0 _ c.args.store.now _ e.row e.begins (e.in_step c.args.store.now c.requires.accepted.has) c.requires.accepted.running

pub returns-in_ok-next_load-in-NextLoad-clause-goes_to : goal.returns-in_ok-next_load-in-NextLoad-clause-goes_to
returns-in_ok-next_load-in-NextLoad-clause-goes_to g c = λ s given is same. goes_next (next_seen c.args.next) c.args.store.now (g.K.Disk.state c.args.disk.now) s given _ (ap next_seen c.in-NextLoad.is) is

pub returns-in-MoreFiles-clause-goes_to : goal.returns-in-MoreFiles-clause-goes_to
returns-in-MoreFiles-clause-goes_to g c = λ s given is same. goes_more (next_seen c.args.next) c.args.store.now (g.K.Disk.state c.args.disk.now) s given _ (ap next_seen c.in-MoreFiles.is) is

pub returns-in-Complete-clause-goes_to : goal.returns-in-Complete-clause-goes_to
returns-in-Complete-clause-goes_to g c = λ s given is same.
    goes_complete (next_seen c.args.next) (g.K.Disk.state c.args.disk.now) c.complete.new.store (g.K.Disk.state c.complete.new.disk) s given c.complete.result (ap next_seen c.in-Complete.is) (c.complete.ensures.brings s given is same)
