use Rattle.std.proofs.Common.{ℕ, Option, refl, ap, subst, arith}
use Rattle.std.specs.Prelude.{IfOk, codes}
use Rattle.std.proofs.lemmas.Result.{IfOk-weaker}
use Rattle.load_base.specs.Host.{Files}
use Rattle.load_base.specs.Listed.{Listed}
use Rattle.media_check.specs.HostNames.{files_name, loads_name}
use Rattle.media_lists.specs.ListFaultText.{list_fault_text}
use Rattle.media_lists.specs.Files.{files_list, files_list_view}
use Rattle.media_lists.specs.Loads.{loads_list, loads_list_view}
use Rattle.loader_cli.specs.Inputs.{ReadsInputs}
use Rattle.loader_cli.specs.Replays.RefusesText.{files_too_long}
use Rattle.loader_cli.specs.Texts.{refused_input}
use Rattle.loader_cli.proofs.ReadInputs.{has_list, list_is_absent, list_is_faulty, list_read, never_large, refuses_files}
use Rattle.loader_cli.proofs.Replayed.{hides_after, none_failed}
use Rattle.loader_cli.proofs.inputs.read_files.Goals as goal

pub read_batches-requires-clause-files : goal.read_batches-requires-clause-files
read_batches-requires-clause-files g c =
    list_read files_list_view files_list (files_name c.args.folder.now 1) (g.H.Host.files c.args.host.now) (g.H.Host.files c.read_files_list.new.host) c.in-Ok-Read.files c.read_files_list.ensures.kept
    (rw c.in-Ok-Read.field-0-is at c.in-Ok-Read.ensures.reads)

pub returns-in-Ok-Read-clause-reads : goal.returns-in-Ok-Read-clause-reads
returns-in-Ok-Read-clause-reads g c =
    λ before least.
    subst (λ (files : Option Files). IfOk c.read_batches.result (λ read. ReadsInputs c.args.folder.now c.args.name.now files before (g.H.Host.faults c.read_batches.new.host) read))
    c.read_files_list.ensures.kept (c.read_batches.ensures.reads before (omega (arith, least, c.read_files_list.ensures.cause.later)))

pub returns-in-Ok-Missing-clause-reads : goal.returns-in-Ok-Missing-clause-reads
returns-in-Ok-Missing-clause-reads g c =
    λ before least.
    let absent = list_is_absent files_list_view files_list (files_name c.args.folder.now 1) (g.H.Host.files c.args.host.now) (rw c.in-Ok-Missing.field-0-is at c.in-Ok-Missing.ensures.reads) in
    IfOk-weaker c.absent_list.result _ _
    (λ read is. refuses_files c.args.folder.now c.args.name.now (g.H.Host.files c.args.host.now) before _ (codes "absent") read (has_list loads_list (g.H.Host.files c.args.host.now) (loads_name c.args.folder.now 1) (loads_list_view c.args.loads) c.requires) absent is) c.absent_list.ensures

pub returns-in-Ok-Refused-clause-reads : goal.returns-in-Ok-Refused-clause-reads
returns-in-Ok-Refused-clause-reads g c =
    λ before least.
    let fault = c.in-Ok-Refused.fault in
    let faulty = list_is_faulty files_list_view files_list (files_name c.args.folder.now 1) (g.H.Host.files c.args.host.now) fault (rw c.in-Ok-Refused.field-0-is at c.in-Ok-Refused.ensures.reads) in
    IfOk-weaker c.refused_list.result _ _
    (λ read is. refuses_files c.args.folder.now c.args.name.now (g.H.Host.files c.args.host.now) before _ (list_fault_text fault) read (has_list loads_list (g.H.Host.files c.args.host.now) (loads_name c.args.folder.now 1) (loads_list_view c.args.loads) c.requires) faulty is) c.refused_list.ensures

pub returns-in-Err-TooLong-clause-reads : goal.returns-in-Err-TooLong-clause-reads
returns-in-Err-TooLong-clause-reads g c =
    λ before least.
    let file = c.in-Err-TooLong.file in
    files_too_long file.items (has_list loads_list (g.H.Host.files c.args.host.now) (loads_name c.args.folder.now 1) (loads_list_view c.args.loads) c.requires) (rw c.in-Err-TooLong.field-0-is at c.in-Err-TooLong.ensures.reads) refl
    (ap (λ (f : Listed ℕ). refused_input f.items (codes "toolong")) c.in-Err-TooLong.file-is)

pub returns-in-Err-TooLarge-clause-reads : goal.returns-in-Err-TooLarge-clause-reads
returns-in-Err-TooLarge-clause-reads g c =
    λ before least.
    never_large c.args.folder.now c.args.name.now (g.H.Host.files c.args.host.now) before _ (rw c.in-Err-TooLarge.field-0-is at c.in-Err-TooLarge.ensures.reads)

pub returns-in-Ok-Read-clause-faults : goal.returns-in-Ok-Read-clause-faults
returns-in-Ok-Read-clause-faults g c = hides_after _ _ _ _ c.read_batches.result c.in-Ok-Read.ensures.cause.ok c.read_batches.ensures.faults

pub returns-in-Ok-Missing-clause-faults : goal.returns-in-Ok-Missing-clause-faults
returns-in-Ok-Missing-clause-faults g c = none_failed _ _ _ c.absent_list.result c.in-Ok-Missing.ensures.cause.ok

pub returns-in-Ok-Refused-clause-faults : goal.returns-in-Ok-Refused-clause-faults
returns-in-Ok-Refused-clause-faults g c = none_failed _ _ _ c.refused_list.result c.in-Ok-Refused.ensures.cause.ok
