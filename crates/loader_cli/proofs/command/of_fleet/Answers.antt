use Rattle.std.proofs.Common.{◌≡◌, length, arith}
use Rattle.loader_cli.proofs.FleetWords.{are_three, fleet_none, fleet_uses_disks}
use Rattle.loader_cli.proofs.command.of_fleet.Goals as goal

pub returns-in-len3-clause-disks : goal.returns-in-len3-clause-disks
returns-in-len3-clause-disks c =
    let size : length c.args.words.now ≡ 3 = omega (arith, c.in-len3.len_at_least, c.in-len3.len_below) in
    let split = are_three c.args.words.now c.count-item.result c.folder-item.result c.script-item.result size c.count-item.is c.folder-item.is c.script-item.is in
    fleet_uses_disks c.args.words.now c.count-item.result c.folder-item.result c.script-item.result split c.fleet_of.result
    (rw (c.as_str.ensures.value, c.as_str-in-len3.ensures.value, c.as_str-in-len3-2.ensures.value) at c.fleet_of.ensures.some)

pub returns-in-len3-clause-none : goal.returns-in-len3-clause-none
returns-in-len3-clause-none c =
    let size : length c.args.words.now ≡ 3 = omega (arith, c.in-len3.len_at_least, c.in-len3.len_below) in
    let split = are_three c.args.words.now c.count-item.result c.folder-item.result c.script-item.result size c.count-item.is c.folder-item.is c.script-item.is in
    fleet_none c.args.words.now c.count-item.result c.folder-item.result c.script-item.result split c.fleet_of.result
    (rw (c.as_str.ensures.value, c.as_str-in-len3.ensures.value, c.as_str-in-len3-2.ensures.value) at c.fleet_of.ensures.none)
