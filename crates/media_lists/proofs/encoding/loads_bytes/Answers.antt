use Rattle.std.proofs.Common.{List, ℕ, ◌++◌, arith, ap, sym, ◌∙◌}
use Rattle.std.specs.List.{concat}
use Rattle.field_grammar.specs.Spelling.{spelled_length}
use Rattle.media_lists.specs.Loads.{load_entry_view, loads_list_view, load_body_fields}
use Rattle.part_number.proofs.VerdictLemmas.{part_size}
use Rattle.media_lists.proofs.Fits.{few_hardware}
use Rattle.media_lists.proofs.Seen.{entries_seen, distances_seen}
use Rattle.media_lists.proofs.SizeLemmas.{whole_size}
use Rattle.media_lists.proofs.WrittenLemmas.{sections_written, covered_written, list_written}
use Rattle.media_lists.proofs.encoding.loads_bytes.Goals as goal

pub entries_size-entries-requires-clause-each : goal.entries_size-entries-requires-clause-each
entries_size-entries-requires-clause-each c = rw c.as_slice.ensures (few_hardware c.args.list.now.members c.args.list.now.loads.items c.requires.entries.each)

pub put_entries-requires-clause-each : goal.put_entries-requires-clause-each
put_entries-requires-clause-each c = rw c.as_slice-2.ensures (few_hardware c.args.list.now.members c.args.list.now.loads.items c.requires.entries.each)

pub put_entries-requires-clause-distances : goal.put_entries-requires-clause-distances
put_entries-requires-clause-distances c = rw c.as_slice-2.ensures (distances_seen load_body_fields load_entry_view c.args.list.now.loads.items c.requires.entries.distances)

pub pointers_of-requires : goal.pointers_of-requires
pointers_of-requires c =
    let kept = rw c.as_slice.ensures at c.entries_size-entries.ensures.size in
    let entries = kept ∙ ap (λ (l : List (List ℕ)). spelled_length l) (sym (entries_seen load_body_fields load_entry_view c.args.list.now.loads.items)) in
    omega (arith, whole_size load_body_fields (loads_list_view c.args.list.now) c.entries_size-entries.result (part_size c.args.list.now.set c.requires.set) entries, c.requires.size)

pub returns : goal.returns
returns c =
    let kept = rw c.as_slice.ensures at c.entries_size-entries.ensures.size in
    let seen = sym (entries_seen load_body_fields load_entry_view c.args.list.now.loads.items) in
    let entries = kept ∙ ap (λ (l : List (List ℕ)). spelled_length l) seen in
    let head = rw c.pointers_of.ensures at c.in_ok-put_head.ensures in
    let put = rw c.as_slice-2.ensures at c.in_ok-put_entries.ensures in
    let sections = sections_written load_body_fields (loads_list_view c.args.list.now) c.put_head.new.out c.put_identity.new.out c.put_entries.new.out c.put_user.new.out
    c.in_ok-put_identity.ensures (put ∙ ap (λ (l : List (List ℕ)). c.put_identity.new.out ++ concat l) seen) (rw c.as_slice-3.ensures at c.in_ok-put_user.ensures) in
    let covered = covered_written 0x9004 load_body_fields (loads_list_view c.args.list.now) c.list_size-size.result c.entries_size-entries.result c.new-out.result c.put_head.new.out c.put_user.new.out
    (part_size c.args.list.now.set c.requires.set) entries (rw c.len.ensures at c.list_size-size.ensures) c.new-out.ensures head sections in
    (c.requires, list_written 0x9004 load_body_fields (loads_list_view c.args.list.now) c.finish.result.items c.in_ok-whole.whole.items (c.finish.ensures ∙ covered) c.in_ok-whole.ensures)

pub overflow_cast-size : goal.overflow_cast-size
overflow_cast-size c =
    let kept = rw c.as_slice.ensures at c.entries_size-entries.ensures.size in
    let entries = kept ∙ ap (λ (l : List (List ℕ)). spelled_length l) (sym (entries_seen load_body_fields load_entry_view c.args.list.now.loads.items)) in
    omega (arith, whole_size load_body_fields (loads_list_view c.args.list.now) c.entries_size-entries.result (part_size c.args.list.now.set c.requires.set) entries, rw c.len.ensures at c.list_size-size.ensures, c.requires.size)
