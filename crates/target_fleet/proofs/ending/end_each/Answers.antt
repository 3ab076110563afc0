use Rattle.target_fleet.proofs.UnitEnds.{end_fails, end_leaves, ended_more, next_can}
use Rattle.target_fleet.proofs.ending.end_each.Goals as goal

pub end_next-requires-clause-can : goal.end_next-requires-clause-can
end_next-requires-clause-can g c =
    next_can g.K.Disk.state g.R.Rule.may_say c.args.drivers.now.items c.args.disks.now c.units.index c.units.drivers.items c.units.drivers.items c.units.ends.units.items c.units.ends.units.items c.units.ends.traces.items
    c.units.ends.traces.items c.units.disks c.units.disks c.units.invariant c.requires.can

pub returns-in-Err-clause-refused : goal.returns-in-Err-clause-refused
returns-in-Err-clause-refused g c =
    end_fails g.K.Disk.state g.R.Rule.may_say c.args.drivers.now.items c.args.disks.now c.units.index c.units.drivers.items c.end_next.new.drivers.items c.units.ends.units.items c.end_next.new.ends.units.items c.units.ends.traces.items
    c.end_next.new.ends.traces.items c.units.disks c.end_next.new.disks c.units.invariant c.in-Err.fault c.end_next.ensures.leaves.others c.in-Err.ensures.refused

pub returns-in-Err-clause-leaves : goal.returns-in-Err-clause-leaves
returns-in-Err-clause-leaves g c =
    end_leaves g.K.Disk.state g.R.Rule.may_say c.args.drivers.now.items c.args.disks.now c.units.index c.units.drivers.items c.end_next.new.drivers.items c.units.ends.units.items c.end_next.new.ends.units.items c.units.ends.traces.items
    c.end_next.new.ends.traces.items c.units.disks c.end_next.new.disks c.units.invariant c.end_next.ensures.leaves

pub units-preserved : goal.units-preserved
units-preserved g c =
    ended_more g.K.Disk.state g.R.Rule.may_say c.args.drivers.now.items c.args.disks.now c.units.index c.units.drivers.items c.end_next.new.drivers.items c.units.ends.units.items c.end_next.new.ends.units.items c.units.ends.traces.items
    c.end_next.new.ends.traces.items c.units.disks c.end_next.new.disks c.units.invariant c.in-Ok.ensures.ended
