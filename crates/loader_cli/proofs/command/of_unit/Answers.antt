use Rattle.std.proofs.Common.{sym, ◌∙◌}
use Rattle.loader_cli.proofs.Named.{asks_unit, names_unit}
use Rattle.loader_cli.specs.Commands.{command_view}
use Rattle.loader_cli.proofs.command.of_unit.Goals as goal

pub returns-in-Some-clause-some : goal.returns-in-Some-clause-some
returns-in-Some-clause-some c =
    asks_unit c.args.words.now c.in_ok-number.own.now c.in_ok-number.number.now c.in_ok-disk.disk c.in_ok-number.ensures.cases.0 (sym c.as_str.ensures.value ∙ c.in_ok-disk.ensures.some.0) c.in_ok-disk.ensures.some.1
    (command_view c.in-Some.command) c.in-Some.ensures.some (c.looks_after_unit.ensures.0 c.if-looks_after_unit.true)

pub returns-in-Some-clause-disks : goal.returns-in-Some-clause-disks
returns-in-Some-clause-disks c = (
  sym (names_unit c.args.words.now c.in_ok-number.own.now c.in_ok-number.number.now c.in_ok-disk.disk c.in_ok-number.ensures.cases.0 (sym c.as_str.ensures.value ∙ c.in_ok-disk.ensures.some.0) c.in_ok-disk.ensures.some.1),
  c.in_ok-disk.ensures.some.1,
)
