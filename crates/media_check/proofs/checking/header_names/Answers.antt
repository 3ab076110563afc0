use Rattle.std.proofs.Common.{◌<◌, List, ℕ, length, take, true, cond, ap, sym, ◌∙◌, arith}
use Rattle.std.specs.Prelude.{map}
use Rattle.std.specs.List.{list_any}
use Rattle.load_base.specs.Bytes.{same_bytes}
use Rattle.media_lists.specs.Entries.{is_listed}
use Rattle.media_lists.specs.Loads.{LoadEntryView, load_entry_view, load_name}
use Rattle.media_check.proofs.FindingLists.{named_none, named_more, mapped_more}
use Rattle.media_check.proofs.checking.header_names.Goals as goal

pub loop-load-init : goal.loop-load-init
loop-load-init c = λ name. ap (λ (names : List (List ℕ)). list_any (same_bytes name) names) c.new-names.ensures.empty ∙ sym (named_none name)

pub loop-load-preserved : goal.loop-load-preserved
loop-load-preserved c =
    λ name.
    let load = c.load-item.result in
    let within : c.loop-load.load-index < length c.args.loads.now = omega arith in
    let more = mapped_more load_entry_view c.args.loads.now c.loop-load.load-index load within c.load-item.is in
    c.in_ok-insert.ensures.updates.0 name ∙ ap (λ b. cond (same_bytes load.header_name name) true b) (c.loop-load.invariant name)
    ∙ sym (named_more name (map load_entry_view (take c.loop-load.load-index c.args.loads.now)) (load_entry_view load))
    ∙ ap (λ (loads : List LoadEntryView). is_listed load_name name loads) (sym more)
