use Rattle.std.proofs.Common.{ℕ, Option, refl, ap, subst, arith}
use Rattle.std.specs.Prelude.{IfOk, codes}
use Rattle.load_base.specs.Host.{Files}
use Rattle.load_base.specs.Listed.{Listed}
use Rattle.media_check.specs.HostNames.{files_name, loads_name}
use Rattle.media_lists.specs.Files.{files_list, files_list_view}
use Rattle.media_lists.specs.Loads.{loads_list, loads_list_view}
use Rattle.loader_cli.specs.Inputs.{ReadsInputs}
use Rattle.loader_cli.specs.Replays.RefusesText.{large_set, long_file}
use Rattle.loader_cli.specs.Texts.{refused_input}
use Rattle.batch_lists.specs.Batches.{batches_list_view}
use Rattle.media_check.specs.Sets.{found_view}
use Rattle.loader_cli.proofs.ReadInputs.{has_list, large_in_rest, long_in_rest, set_opened}
use Rattle.loader_cli.proofs.Replayed.{hides_after}
use Rattle.loader_cli.proofs.inputs.read_rest.Goals as goal

pub returns-in-Ok-clause-reads : goal.returns-in-Ok-clause-reads
returns-in-Ok-clause-reads g c =
    λ before least.
    subst (λ (files : Option Files). IfOk c.read_text.result (λ read. ReadsInputs c.args.folder.now c.args.name.now files before (g.H.Host.faults c.read_text.new.host) read))
    c.open_rest.ensures.kept (c.read_text.ensures.reads before (omega (arith, least, c.open_rest.ensures.cause.later)))

pub returns-in-Err-TooLong-clause-reads : goal.returns-in-Err-TooLong-clause-reads
returns-in-Err-TooLong-clause-reads g c =
    λ before least.
    let folder = c.args.folder.now in
    let files = g.H.Host.files c.args.host.now in
    let file = c.in-Err-TooLong.file in
    long_file file.items
    (has_list loads_list files (loads_name folder 1) (loads_list_view c.args.loads) c.requires.loads, has_list files_list files (files_name folder 1) (files_list_view c.args.files) c.requires.files)
    (long_in_rest folder files (loads_list_view c.args.loads) (files_list_view c.args.files) (found_view batches_list_view c.args.batches) file c.requires.loads c.requires.files c.requires.batches
    (rw c.in-Err-TooLong.field-0-is at c.in-Err-TooLong.ensures.opens))
    refl (ap (λ (f : Listed ℕ). refused_input f.items (codes "toolong")) c.in-Err-TooLong.file-is)

pub returns-in-Ok-clause-faults : goal.returns-in-Ok-clause-faults
returns-in-Ok-clause-faults g c = hides_after _ _ _ _ c.read_text.result c.in-Ok.ensures.cause.ok c.read_text.ensures.faults

pub read_text-requires : goal.read_text-requires
read_text-requires g c =
    let folder = c.args.folder.now in
    let files = g.H.Host.files c.args.host.now in
    rw c.open_rest.ensures.kept
    (set_opened folder files (loads_list_view c.args.loads) (files_list_view c.args.files) (found_view batches_list_view c.args.batches) c.in-Ok.set c.requires.loads c.requires.files c.requires.batches c.in-Ok.ensures.opens)

pub returns-in-Err-TooLarge-clause-reads : goal.returns-in-Err-TooLarge-clause-reads
returns-in-Err-TooLarge-clause-reads g c =
    λ before least.
    let folder = c.args.folder.now in
    let files = g.H.Host.files c.args.host.now in
    large_set
    (has_list loads_list files (loads_name folder 1) (loads_list_view c.args.loads) c.requires.loads, has_list files_list files (files_name folder 1) (files_list_view c.args.files) c.requires.files)
    (large_in_rest folder files (loads_list_view c.args.loads) (files_list_view c.args.files) (found_view batches_list_view c.args.batches) c.requires.loads c.requires.files c.requires.batches
    (rw c.in-Err-TooLarge.field-0-is at c.in-Err-TooLarge.ensures.opens))
    refl refl
