use Rattle.std.proofs.Common.{inl, inr}
use Rattle.upload_replay.proofs.Throughout.{refused_is_none}
use Rattle.upload_replay.proofs.Ended.{last_fault, no_standing}
use Rattle.upload_replay.proofs.ending.recovered.Goals as goal

pub returns-in-Err-clause-standing : goal.returns-in-Err-clause-standing
returns-in-Err-clause-standing g c = rw c.last_refusal.ensures (no_standing c.in-Err.fault (g.K.Disk.state c.recover.new.disk))

pub returns-in-Err-clause-refused : goal.returns-in-Err-clause-refused
returns-in-Err-clause-refused g c =
    rw c.last_refusal.ensures
    (last_fault c.in-Err.fault (g.K.Disk.state c.args.disk.now) (g.K.Disk.state c.recover.new.disk) c.in-Err.ensures.refused c.in-Err.ensures.reads_disk.err)

pub returns-in-Err-clause-same : goal.returns-in-Err-clause-same
returns-in-Err-clause-same g c = inr (rw c.last_refusal.ensures (refused_is_none c.in-Err.fault))

pub returns-in-Ok-clause-same : goal.returns-in-Ok-clause-same
returns-in-Ok-clause-same g c = inl c.in-Ok.ensures.reads_disk.ok.reads
