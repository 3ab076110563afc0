use Rattle.std.proofs.Common.{rules, arith}
use Rattle.disk_model.proofs.Replays.{settling_same, settling_elapses, settled_by}
use Rattle.disk_model.proofs.mem.MemDisk.settle.Goals as goal

pub invariant_of-self-then-fails : goal.invariant_of-self-then-fails
invariant_of-self-then-fails c = record {
  same = settling_same c.args.self.now.first.items c.args.self.now.notes.items c.args.call _ c.push.new.self.items c.args.self.now.bytes.items c.requires c.args.self.now.same c.in-Ok.ensures.ok;
}

pub returns-then-fails-clause-elapses : goal.returns-then-fails-clause-elapses
returns-then-fails-clause-elapses c =
    settling_elapses c.args.self.now.first.items c.args.self.now.notes.items c.args.call _ c.push.new.self.items _ _
    c.args.self.now.faults c.refuse-then-fails.new.count c.args.self.now.refusals c.args.self.now.refusals _ _ _ c.requires c.in-Ok.ensures.ok
    c.refuse-then-fails.ensures.later (omega arith)

pub invariant_of-self-2 : goal.invariant_of-self-2
invariant_of-self-2 c = record {
  same = settling_same c.args.self.now.first.items c.args.self.now.notes.items c.args.call _ c.push.new.self.items c.args.self.now.bytes.items c.requires c.args.self.now.same c.in-Ok.ensures.ok;
}

pub returns-clause-settled : goal.returns-clause-settled
returns-clause-settled c =
    settled_by c.args.self.now.first.items c.args.self.now.notes.items c.args.call _ c.push.new.self.items c.args.self.now.bytes.items _ _ _ c.requires
    c.args.self.now.same c.in-Ok.ensures.ok (search rules)

pub returns-clause-elapses : goal.returns-clause-elapses
returns-clause-elapses c =
    settling_elapses c.args.self.now.first.items c.args.self.now.notes.items c.args.call _ c.push.new.self.items _ _
    c.args.self.now.faults c.args.self.now.faults c.args.self.now.refusals c.args.self.now.refusals _ _ _ c.requires c.in-Ok.ensures.ok
    (omega arith) (omega arith)
