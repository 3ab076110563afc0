use Rattle.std.proofs.Common.{◌<◌, List, ℕ, length, take, true, cond, ap, sym, ◌∙◌, arith}
use Rattle.std.specs.Prelude.{map}
use Rattle.std.specs.List.{list_any}
use Rattle.indexmap.specs.IndexSet.{contains}
use Rattle.load_base.specs.Bytes.{same_bytes}
use Rattle.media_lists.specs.Loads.{LoadEntryView, load_entry_view}
use Rattle.media_check.specs.Findings.{is_part_of}
use Rattle.media_check.proofs.BatchFindings.{no_parts, parts_more}
use Rattle.media_check.proofs.FindingLists.{mapped_more}
use Rattle.media_check.proofs.batch_checking.parts_of_loads.Goals as goal

pub loop-load-init : goal.loop-load-init
loop-load-init c = λ part. ap (λ (parts : List (List ℕ)). list_any (same_bytes part) parts) c.new-parts.ensures.empty ∙ sym (no_parts part)

pub loop-load-preserved : goal.loop-load-preserved
loop-load-preserved c =
    λ part.
    let load = c.load-item.result in
    let within : c.loop-load.load-index < length c.args.loads.now = omega arith in
    let more = mapped_more load_entry_view c.args.loads.now c.loop-load.load-index load within c.load-item.is in
    c.in_ok-insert.ensures.updates.0 part ∙ ap (λ b. cond (same_bytes load.part part) true b) (c.loop-load.invariant part)
    ∙ sym (parts_more part (map load_entry_view (take c.loop-load.load-index c.args.loads.now)) (load_entry_view load))
    ∙ ap (λ (loads : List LoadEntryView). is_part_of loads part) (sym more)
