use Rattle.std.proofs.Common.{ℕ, Option, refl, ap, subst, arith}
use Rattle.std.specs.Prelude.{IfOk, codes}
use Rattle.load_base.specs.Host.{Files}
use Rattle.load_base.specs.Listed.{Listed}
use Rattle.batch_lists.specs.Batches.{batches_list_view}
use Rattle.media_check.specs.HostNames.{batches_name, files_name, loads_name}
use Rattle.media_lists.specs.Files.{files_list, files_list_view}
use Rattle.media_lists.specs.Loads.{loads_list, loads_list_view}
use Rattle.loader_cli.specs.Inputs.{ReadsInputs}
use Rattle.loader_cli.specs.Replays.RefusesText.{long_file}
use Rattle.loader_cli.specs.Texts.{refused_input}
use Rattle.loader_cli.proofs.ReadInputs.{batches_found, has_list, long_batches, never_large}
use Rattle.loader_cli.proofs.Replayed.{hides_after}
use Rattle.loader_cli.proofs.inputs.read_batches.Goals as goal

pub read_rest-requires-clause-batches : goal.read_rest-requires-clause-batches
read_rest-requires-clause-batches g c =
    batches_found batches_list_view (batches_name c.args.folder.now 1) (g.H.Host.files c.args.host.now) (g.H.Host.files c.read_batches_list.new.host) c.in-Ok.batches c.read_batches_list.ensures.kept
    c.in-Ok.ensures.reads

pub returns-in-Ok-clause-reads : goal.returns-in-Ok-clause-reads
returns-in-Ok-clause-reads g c =
    λ before least.
    subst (λ (files : Option Files). IfOk c.read_rest.result (λ read. ReadsInputs c.args.folder.now c.args.name.now files before (g.H.Host.faults c.read_rest.new.host) read))
    c.read_batches_list.ensures.kept (c.read_rest.ensures.reads before (omega (arith, least, c.read_batches_list.ensures.cause.later)))

pub returns-in-Err-TooLong-clause-reads : goal.returns-in-Err-TooLong-clause-reads
returns-in-Err-TooLong-clause-reads g c =
    λ before least.
    let folder = c.args.folder.now in
    let files = g.H.Host.files c.args.host.now in
    let file = c.in-Err-TooLong.file in
    long_file file.items
    (has_list loads_list files (loads_name folder 1) (loads_list_view c.args.loads) c.requires.loads, has_list files_list files (files_name folder 1) (files_list_view c.args.files) c.requires.files)
    (long_batches folder files file.items (rw c.in-Err-TooLong.field-0-is at c.in-Err-TooLong.ensures.reads)) refl
    (ap (λ (f : Listed ℕ). refused_input f.items (codes "toolong")) c.in-Err-TooLong.file-is)

pub returns-in-Err-TooLarge-clause-reads : goal.returns-in-Err-TooLarge-clause-reads
returns-in-Err-TooLarge-clause-reads g c =
    λ before least.
    never_large c.args.folder.now c.args.name.now (g.H.Host.files c.args.host.now) before _ (rw c.in-Err-TooLarge.field-0-is at c.in-Err-TooLarge.ensures.reads)

pub returns-in-Ok-clause-faults : goal.returns-in-Ok-clause-faults
returns-in-Ok-clause-faults g c = hides_after _ _ _ _ c.read_rest.result c.in-Ok.ensures.cause.ok c.read_rest.ensures.faults
