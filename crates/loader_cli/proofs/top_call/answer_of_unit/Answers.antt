use Rattle.std.proofs.Common.{◌≡◌, false, arith}
use Rattle.std.proofs.lemmas.List.Elements.{All-get_or}
use Rattle.loader_cli.proofs.FleetAnswered.{hands_of_unit, never_both, single}
use Rattle.loader_cli.proofs.OneDisk.{on_used, others_unused}
use Rattle.loader_cli.proofs.top_call.answer_of_unit.Goals as goal

pub answer_on-requires-clause-running : goal.answer_on-requires-clause-running
answer_on-requires-clause-running g c =
    All-get_or (λ disk. (g.K.Disk.state disk).stopped ≡ false) c.args.disks.now c.args.place c.index-disks-place.result (omega (arith, c.requires.eight, c.requires.place)) c.requires.running

pub returns : goal.returns
returns g c =
    λ words asked named.
    let disks = c.args.disks.now in
    let some = c.index-disks-place.result in
    let now = c.answer_on.new.disk in
    record {
      unit = on_used words disks c.requires.eight c.args.place named some now _ (c.answer_on.ensures.answers words asked);
      fleet = λ count folder script is. absurd (never_both words c.args.command.now asked count folder script is);
      others = others_unused words disks c.requires.eight c.args.place named some now (single words c.args.command.now asked);
      host = (c.answer_on.ensures.answers words asked).host;
      hands_out = hands_of_unit words c.args.command.now asked c.answer_on.result c.answer_on.ensures.no_run c.answer_on.ensures.no_fleet;
    }
