use Rattle.std.proofs.Common.{arith}
use Rattle.disk_model.proofs.Replays.{noted_same, write_elapses, write_tears, write_keeps}
use Rattle.disk_model.proofs.mem.MemDiskDisk.write.Goals as goal

pub invariant_of-self-then-fails : goal.invariant_of-self-then-fails
invariant_of-self-then-fails c = record {
  same =
      noted_same c.args.self.now.first.items c.args.self.now.notes.items c.note_write.new.notes.items c.args.at c.args.bytes.now _
      c.args.self.now.bytes.items c.note_write.new.held.items c.in-Ok.ensures.noted c.args.self.now.same c.in-Ok.ensures.written c.in-Ok.ensures.unwritten;
}

pub returns-then-fails-clause-closed : goal.returns-then-fails-clause-closed
returns-then-fails-clause-closed c =
    write_keeps c.args.self.now.first.items c.args.self.now.notes.items c.note_write.new.notes.items c.args.at c.args.bytes.now _ c.in-Ok.ensures.noted
    _ _ _ _ _ _ _ _

pub returns-then-fails-clause-elapses : goal.returns-then-fails-clause-elapses
returns-then-fails-clause-elapses c =
    write_elapses c.args.self.now.first.items c.args.self.now.notes.items c.note_write.new.notes.items c.args.at c.args.bytes.now _ c.in-Ok.ensures.noted
    _ _ c.args.self.now.faults c.refuse-then-fails.new.count c.args.self.now.refusals c.args.self.now.refusals _ _ _ c.refuse-then-fails.ensures.later (omega arith)

pub invariant_of-self-else-fails : goal.invariant_of-self-else-fails
invariant_of-self-else-fails c = record {
  same =
      noted_same c.args.self.now.first.items c.args.self.now.notes.items c.note_write.new.notes.items c.args.at c.args.bytes.now _
      c.args.self.now.bytes.items c.note_write.new.held.items c.in-Ok.ensures.noted c.args.self.now.same c.in-Ok.ensures.written c.in-Ok.ensures.unwritten;
}

pub returns-clause-torn : goal.returns-clause-torn
returns-clause-torn c =
    write_tears c.args.self.now.first.items c.args.self.now.notes.items c.note_write.new.notes.items c.args.at c.args.bytes.now _ c.in-Ok.ensures.noted
    _ _ _ _

pub returns-clause-closed : goal.returns-clause-closed
returns-clause-closed c =
    write_keeps c.args.self.now.first.items c.args.self.now.notes.items c.note_write.new.notes.items c.args.at c.args.bytes.now _ c.in-Ok.ensures.noted
    _ _ _ _ _ _ _ _

pub returns-clause-elapses : goal.returns-clause-elapses
returns-clause-elapses c =
    write_elapses c.args.self.now.first.items c.args.self.now.notes.items c.note_write.new.notes.items c.args.at c.args.bytes.now _ c.in-Ok.ensures.noted
    _ _ c.args.self.now.faults c.args.self.now.faults c.args.self.now.refusals c.args.self.now.refusals _ _ _ (omega arith) (omega arith)
