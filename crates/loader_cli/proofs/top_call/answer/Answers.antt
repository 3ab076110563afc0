use Rattle.std.proofs.Common.{◌≡◌, false, refl}
use Rattle.loader_cli.specs.Commands.{texts_of}
use Rattle.loader_cli.specs.Commands.CommandView.{fleet}
use Rattle.loader_cli.specs.Runs.Says.{refused}
use Rattle.loader_cli.proofs.Left.{untouched_leaves}
use Rattle.loader_cli.proofs.OneDisk.{none_used, of_each, on_unused}
use Rattle.loader_cli.proofs.Touched.{disk_unused, host_unused, leaves_alone}
use Rattle.loader_cli.proofs.top_call.answer.Goals as goal

-- ---- no command

pub returns-in-None : goal.returns-in-None
returns-in-None g c =
    let words = texts_of c.args.words.now in
    rw (c.of.ensures.answer, c.of.ensures.drive, c.of.ensures.fleet)
    (record {
      unit = on_unused words c.args.disks.now c.requires.eight _
          (λ disk at. record {
            tells = record { says = refused c.in-None.ensures.none refl refl; host = λ other. refl; disk = λ other none. of_each (λ disk. (g.K.Disk.state disk).stopped ≡ false) c.args.disks.now _ disk at c.requires.running };
            no_memory = tt;
            disk = disk_unused words disk (g.K.Disk.state disk);
            host = host_unused words c.args.host.now (g.H.Host.files c.args.host.now);
            leaves = leaves_alone words (g.K.Disk.state disk) (g.K.Disk.state disk) c.in-None.ensures.none (untouched_leaves (g.K.Disk.state disk) (g.met.K.Disk.only_now disk) (c.a_power_loss_takes_only_work.ensures.holds disk));
          });
      fleet = λ count folder script is. absurd (c.in-None.ensures.none (fleet count folder script) is tt);
      others = none_used words c.args.disks.now c.requires.eight;
      host = host_unused words c.args.host.now (g.H.Host.files c.args.host.now);
      hands_out = record { no_run = λ no. refl; no_fleet = λ no. refl; none_beside = λ count folder script is. refl };
    })

-- ---- a command of one unit, or of a fleet

pub answer_of_unit-requires-clause-asked : goal.answer_of_unit-requires-clause-asked
answer_of_unit-requires-clause-asked g c = (texts_of c.args.words.now, rw c.in-Some-OfUnit.field-0-is at c.in-Some-OfUnit.ensures.some)

pub returns-in-Some-OfUnit : goal.returns-in-Some-OfUnit
returns-in-Some-OfUnit g c =
    let uses = rw c.in-Some-OfUnit.field-0-is at c.in-Some-OfUnit.ensures.disks in
    c.answer_of_unit.ensures (texts_of c.args.words.now) (rw c.in-Some-OfUnit.field-0-is at c.in-Some-OfUnit.ensures.some) uses.0

pub returns-in-Some-OfFleet : goal.returns-in-Some-OfFleet
returns-in-Some-OfFleet g c = c.answer_of_fleet.ensures (texts_of c.args.words.now) (rw c.in-Some-OfFleet.field-0-is at c.in-Some-OfFleet.ensures.some)
