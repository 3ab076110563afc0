use Rattle.std.proofs.Common.{◌≡◌, Some, length, refl, sym, ap, subst}
use Rattle.std.specs.Prelude.{slice_get, slice_index_or, slice_set}
use Rattle.std.proofs.lemmas.Option.{slice_get_read}
use Rattle.upload_replay.specs.Drivers.{CanEnd}
use Rattle.target_fleet.specs.Ends.{FailsToEnd}
use Rattle.target_fleet.proofs.Indexed.{added, set_same}
use Rattle.target_fleet.proofs.UnitEnds.{driver_ended, fails_end, first_removed, first_taken, leaves_at}
use Rattle.target_fleet.proofs.ending.end_next.Goals as goal

pub end-requires : goal.end-requires
end-requires g c =
    let driver_there = ap (λ list. slice_get list 0) (first_removed c.args.drivers.now.items c.remove-driver.result c.requires.some c.remove-driver.ensures.value) in
    let disk_there = slice_get_read c.args.disks.now (length c.args.disks.now) c.args.index c.index-disks-index.result refl c.requires.within c.index-disks-index.is in
    subst (λ k. CanEnd c.remove-driver.result (g.K.Disk.state k)) c.index-disks-index.is (c.requires.can c.remove-driver.result c.index-disks-index.result driver_there disk_there)

pub returns-in-Ok-end-clause-ended : goal.returns-in-Ok-end-clause-ended
returns-in-Ok-end-clause-ended g c =
    let disk = slice_index_or c.args.disks.now c.args.index c.index-disks-index.result in
    let disk_there = slice_get_read c.args.disks.now (length c.args.disks.now) c.args.index c.index-disks-index.result refl c.requires.within c.index-disks-index.is in
    record {
      driver = c.remove-driver.result;
      first = first_taken c.args.drivers.now.items c.remove-driver.new.self.items c.remove-driver.result c.requires.some c.remove-driver.ensures.value c.remove-driver.ensures.items;
      end = record { sessions = c.in-Ok-end.drive.sessions; standing = c.in-Ok-end.drive.standing };
      ends_more = added c.args.ends.now.units.items c.reserve.new.self.items c.push_reserved-in-Ok-end.new.self.items (record { sessions = c.in-Ok-end.drive.sessions; standing = c.in-Ok-end.drive.standing }) c.push_reserved-in-Ok-end.ensures.items c.reserve.ensures.items;
      trace = c.without_end.result;
      traces_more = added c.args.ends.now.traces.items c.reserve-2.new.self.items c.push_reserved.new.self.items c.without_end.result c.push_reserved.ensures.items c.reserve-2.ensures.items;
      before = disk;
      after = c.end.new.disk;
      disk = record { there = subst (λ k. slice_get c.args.disks.now c.args.index ≡ Some k) c.index-disks-index.is disk_there; kept = refl };
      ended = driver_ended g.K.Disk.state g.R.Rule.may_say c.remove-driver.result disk c.end.new.disk c.in-Ok-end.drive c.without_end.result c.without_end.ensures
          c.in-Ok-end.ensures.ended c.in-Ok-end.ensures.lives c.in-Ok-end.ensures.run c.in-Ok-end.ensures.held c.in-Ok-end.ensures.unknown c.end.ensures.leaves;
    }

pub returns-in-Ok-end-clause-leaves : goal.returns-in-Ok-end-clause-leaves
returns-in-Ok-end-clause-leaves g c =
    let disk = slice_index_or c.args.disks.now c.args.index c.index-disks-index.result in
    let disk_there = slice_get_read c.args.disks.now (length c.args.disks.now) c.args.index c.index-disks-index.result refl c.requires.within c.index-disks-index.is in
    leaves_at g.K.Disk.state c.args.index disk c.end.new.disk c.args.disks.now (slice_set c.args.disks.now c.args.index c.end.new.disk)
    (record { there = subst (λ k. slice_get c.args.disks.now c.args.index ≡ Some k) c.index-disks-index.is disk_there; kept = refl }) c.end.ensures.leaves

pub returns-in-Err-end-clause-leaves : goal.returns-in-Err-end-clause-leaves
returns-in-Err-end-clause-leaves g c =
    let disk = slice_index_or c.args.disks.now c.args.index c.index-disks-index.result in
    let disk_there = slice_get_read c.args.disks.now (length c.args.disks.now) c.args.index c.index-disks-index.result refl c.requires.within c.index-disks-index.is in
    leaves_at g.K.Disk.state c.args.index disk c.end.new.disk c.args.disks.now (slice_set c.args.disks.now c.args.index c.end.new.disk)
    (record { there = subst (λ k. slice_get c.args.disks.now c.args.index ≡ Some k) c.index-disks-index.is disk_there; kept = refl }) c.end.ensures.leaves

pub returns-in-Err-end-clause-refused : goal.returns-in-Err-end-clause-refused
returns-in-Err-end-clause-refused g c =
    let disk_there = slice_get_read c.args.disks.now (length c.args.disks.now) c.args.index c.index-disks-index.result refl c.requires.within c.index-disks-index.is in
    let new = slice_set c.args.disks.now c.args.index c.end.new.disk in
    subst (λ fault. FailsToEnd g.K.Disk.state c.args.index fault new) (sym c.fault_of.ensures)
    (fails_end g.K.Disk.state c.args.index c.in-Err-end.fault (g.K.Disk.state (slice_index_or c.args.disks.now c.args.index c.index-disks-index.result)) c.end.new.disk new
    (set_same c.args.disks.now c.args.index c.end.new.disk c.index-disks-index.result disk_there) c.in-Err-end.ensures.refused)
