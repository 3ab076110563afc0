use Rattle.std.proofs.Common.{◌≡◌, ◌≤◌, List, false, length}
use Rattle.fleet_link.specs.FleetLinks.{FleetLinkState}
use Rattle.media_check.specs.Sets.{set_view}
use Rattle.target_fleet.specs.AskedTurns.{AreBatchesReady}
use Rattle.target_fleet.specs.Runs.{FleetGoesOn, IsFleetReady}
use Rattle.target_fleet.proofs.running.run_to_end.Given as goal

-- what holds at first holds at each turn
abbrev pub invariant-turns : goal.invariant-turns
invariant-turns g l = record {
  few : l.link.units ≤ 8;
  ready : IsFleetReady g.K.Disk.state l.link l.units l.disks;
  batches : AreBatchesReady (set_view l.media) l.units;
  same : length l.disks ≡ length l.fn.disks;
  goes_on : (rule : g.row.R.Denot) (began : FleetLinkState) (first : List g.row.K.Denot)
      → FleetGoesOn g.K.Disk.state g.R.Rule.may_say rule (set_view l.media) false began l.fn.link l.fn.units first l.fn.disks
      → FleetGoesOn g.K.Disk.state g.R.Rule.may_say rule (set_view l.media) false began l.link l.units first l.disks;
}
