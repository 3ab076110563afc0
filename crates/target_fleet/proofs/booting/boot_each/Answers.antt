use Rattle.media_check.specs.Sets.{set_view}
use Rattle.target_fleet.proofs.FirstBoots.{boot_fails, booted_more, reads_on}
use Rattle.target_fleet.proofs.booting.boot_each.Goals as goal

pub returns-in-Err-clause-refused : goal.returns-in-Err-clause-refused
returns-in-Err-clause-refused g c =
    boot_fails g.K.Disk.state g.R.Rule.may_say c.args.interlock.now (set_view c.args.media.now) c.units.index c.units.drivers.items c.boot_next.new.drivers.items c.args.disks.now c.units.disks c.boot_next.new.disks
    c.units.invariant c.in-Err.fault c.in-Err.ensures.refused

pub returns-in-Err-clause-reads : goal.returns-in-Err-clause-reads
returns-in-Err-clause-reads g c =
    reads_on g.K.Disk.state g.R.Rule.may_say c.args.interlock.now (set_view c.args.media.now) c.units.index c.units.drivers.items c.boot_next.new.drivers.items c.args.disks.now c.units.disks c.boot_next.new.disks
    c.units.invariant c.boot_next.ensures.reads

pub units-preserved : goal.units-preserved
units-preserved g c =
    booted_more g.K.Disk.state g.R.Rule.may_say c.args.interlock.now (set_view c.args.media.now) c.units.index c.units.drivers.items c.boot_next.new.drivers.items c.args.disks.now c.units.disks c.boot_next.new.disks
    c.units.invariant c.in-Ok.ensures.booted c.boot_next.ensures.reads
