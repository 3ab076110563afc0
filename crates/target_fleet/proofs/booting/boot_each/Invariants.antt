use Rattle.media_check.specs.Sets.{set_view}
use Rattle.target_fleet.proofs.FirstBoots.{BootedSoFar}
use Rattle.target_fleet.proofs.booting.boot_each.Given as goal

abbrev pub invariant-units : goal.invariant-units
invariant-units g l =
    BootedSoFar g.K.Disk.state g.R.Rule.may_say l.fn.interlock (set_view l.fn.media) l.index l.drivers.items l.fn.disks l.disks
