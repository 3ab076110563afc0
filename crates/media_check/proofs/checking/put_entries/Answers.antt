use Rattle.std.proofs.Common.{◌<◌, ◌++◌, length, ap, ◌∙◌, arith}
use Rattle.std.specs.Prelude.{map}
use Rattle.media_lists.specs.Loads.{load_entry_view}
use Rattle.media_check.specs.Findings.{entry_findings}
use Rattle.media_check.specs.Sets.{set_view}
use Rattle.media_check.proofs.FindingLists.{entry_is, found_more}
use Rattle.media_check.proofs.checking.put_entries.Goals as goal

pub loop-entry-preserved : goal.loop-entry-preserved
loop-entry-preserved c =
    let set = set_view c.args.set.now in
    let loads = map load_entry_view c.args.loads.now in
    let entry = c.entry-item.result in
    let within : c.loop-entry.entry-index < length c.args.files.now = omega arith in
    let is = entry_is set loads entry c.contains-is_named.result (c.contains-is_named.ensures ∙ c.in_ok-named.ensures entry.name) in
    found_more (entry_findings set loads) c.args.out.now.items c.loop-entry.out.items c.put_entry.new.out.items c.args.files.now c.loop-entry.entry-index entry within c.entry-item.is c.loop-entry.invariant
    (c.in_ok-put_entry.ensures ∙ ap (λ l. c.loop-entry.out.items ++ l) is)
