use Rattle.std.proofs.Common.{◌≡◌, ◌≤◌, ◌++◌, List, drop, length, take, arith, subst, sym}
use Rattle.std.proofs.lemmas.List.{length-take}
use Rattle.loader_cli.specs.Commands.CommandView.{fleet}
use Rattle.loader_cli.specs.Told.{AnswersFleet, fleet_work_on}
use Rattle.loader_cli.proofs.FleetAnswered.{as_asked, fleet_answered, hands_of_fleet}
use Rattle.loader_cli.proofs.FirstDisks.{as_many_then, later_stay, taken_first}
use Rattle.loader_cli.proofs.Named.{named_below}
use Rattle.loader_cli.proofs.Touched.{host_read}
use Rattle.loader_cli.proofs.top_call.answer_of_fleet.Goals as goal

pub returns : goal.returns
returns g c =
    λ words asked.
    let count = c.args.count in
    let folder = c.args.folder.now in
    let script = c.args.script.now in
    let disks = c.args.disks.now in
    let new = c.replay_fleet.new.disks in
    let host = c.args.host.now in
    let host_new = c.replay_fleet.new.host in
    let within : count ≤ length disks = omega (arith, c.requires.eight, c.requires.few) in
    let many : length new ≡ count = omega (arith, c.replay_fleet.ensures.left.as_many, length-take count disks, within) in
    record {
      unit = λ single. absurd (single (fleet count folder script) asked tt);
      fleet = as_asked words count folder script asked
          (λ n folder script. AnswersFleet g.K.Disk.state (fleet_work_on g.H.Host.files g.H.Host.faults folder script host host_new (take n disks) (take n (new ++ drop count disks))) c.replay_fleet.result)
          (subst (λ (then : List g.row.K.Denot). AnswersFleet g.K.Disk.state (fleet_work_on g.H.Host.files g.H.Host.faults folder script host host_new (take count disks) then) c.replay_fleet.result)
          (sym (taken_first count disks new many within))
          (fleet_answered g.K.Disk.state (fleet_work_on g.H.Host.files g.H.Host.faults folder script host host_new (take count disks) new) c.replay_fleet.result c.replay_fleet.ensures.replays c.replay_fleet.ensures.faults
          c.replay_fleet.ensures.memory c.replay_fleet.ensures.left));
      others = record {
        named = omega (arith, c.requires.eight, named_below words);
        as_many = as_many_then count disks new many within;
        others = λ place unused. later_stay count disks new place many within (unused.beyond count folder script asked);
      };
      host = host_read words host host_new (g.H.Host.files host) (g.H.Host.files host_new) (fleet count folder script) asked tt c.replay_fleet.ensures.kept;
      hands_out = hands_of_fleet words count folder script asked c.replay_fleet.result c.replay_fleet.ensures.no_drive;
    }
