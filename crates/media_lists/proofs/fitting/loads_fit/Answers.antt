use Rattle.std.proofs.Common.{rules, ap, sym, ◌∙◌, List, ℕ}
use Rattle.field_grammar.specs.Spelling.{spelled_length}
use Rattle.media_lists.specs.Loads.{load_entry_view, loads_list_view, load_name, load_body_fields, IsListedLoad}
use Rattle.media_lists.proofs.FitLemmas.{list_tells}
use Rattle.media_lists.proofs.Fits.{few_hardware}
use Rattle.media_lists.proofs.Seen.{entries_seen}
use Rattle.media_lists.proofs.fitting.loads_fit.Goals as goal

pub returns : goal.returns
returns c =
    let kept = rw c.as_slice-loads.ensures at c.entries_size.ensures.size in
    let entries = kept ∙ ap (λ (l : List (List ℕ)). spelled_length l) (sym (entries_seen load_body_fields load_entry_view c.args.list.now.loads.items)) in
    let member = rw c.from.ensures at c.is_member.ensures in
    let meet = rw c.as_slice-loads.ensures at c.loads_meet_limits.ensures in
    let user = rw c.as_slice.ensures at c.is_user_data.ensures.fits in
    let bytes = rw c.as_slice.ensures at c.is_user_data.ensures.bytes in
    let total = rw c.len.ensures at c.list_size.ensures in
    list_tells IsListedLoad load_name load_body_fields (loads_list_view c.args.list.now) c.entries_size.result c.list_size.result c.as_slice-set.ensures.is_part_number (search rules) bytes
    (member.0 c.if-not-is_member.false) (user.0 c.if-not-is_user_data.false) (meet.0 c.if-not-loads_meet_limits.false) entries total

pub entries_size-requires-clause-each : goal.entries_size-requires-clause-each
entries_size-requires-clause-each c =
    let meet = rw c.as_slice-loads.ensures at c.loads_meet_limits.ensures in
    rw c.as_slice-loads.ensures (few_hardware c.args.list.now.members c.args.list.now.loads.items (meet.0 c.if-not-loads_meet_limits.false).each)
