use Rattle.media_check.specs.Sets.{set_view}
use Rattle.target_fleet.proofs.TurnsLeave.{all_leave_now}
use Rattle.target_fleet.proofs.running.run_to_end.Goals as goal

pub returns-in-Err-clause-leaves : goal.returns-in-Err-clause-leaves
returns-in-Err-clause-leaves g c = λ rule began first on. c.in-Err.ensures.leaves rule began first (c.turns.invariant.goes_on rule began first on)

pub returns-clause-leaves : goal.returns-clause-leaves
returns-clause-leaves g c = λ rule began first on.
    all_leave_now g.K.Disk.state g.R.Rule.may_say rule (set_view c.args.media.now) g.met.K.Disk.wider g.met.K.Disk.splits g.met.K.Disk.only_now began c.turns.link c.turns.units first c.turns.disks
    (c.turns.invariant.goes_on rule began first on) c.turns.invariant.ready
