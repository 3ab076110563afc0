use Rattle.std.proofs.Common.{arith, ◌∙◌}
use Rattle.batch_lists.specs.Batches.{batches_list_view, batch_body_fields}
use Rattle.part_number.proofs.VerdictLemmas.{part_size}
use Rattle.batch_lists.proofs.BatchesFit.{all_fit}
use Rattle.media_lists.proofs.SizeLemmas.{whole_size}
use Rattle.media_lists.proofs.WrittenLemmas.{sections_written, covered_written, list_written}
use Rattle.batch_lists.proofs.batches_writing.batches_bytes.Goals as goal

pub entries_size-entries-requires-clause-each : goal.entries_size-entries-requires-clause-each
entries_size-entries-requires-clause-each c = all_fit c.as_slice.result.now

pub put_entries-requires-clause-each : goal.put_entries-requires-clause-each
put_entries-requires-clause-each c = all_fit c.as_slice-2.result.now

pub pointers_of-requires : goal.pointers_of-requires
pointers_of-requires c =
    let entries = rw c.as_slice.ensures at c.entries_size-entries.ensures.size in
    omega (arith, whole_size batch_body_fields (batches_list_view c.args.list.now) c.entries_size-entries.result (part_size c.args.list.now.set c.requires.set) entries, c.requires.size)

pub returns : goal.returns
returns c =
    let entries = rw c.as_slice.ensures at c.entries_size-entries.ensures.size in
    let head = rw c.pointers_of.ensures at c.in_ok-put_head.ensures in
    let sections = sections_written batch_body_fields (batches_list_view c.args.list.now) c.put_head.new.out c.put_identity.new.out c.put_entries.new.out c.put_user.new.out
    c.in_ok-put_identity.ensures (rw c.as_slice-2.ensures at c.in_ok-put_entries.ensures) (rw c.as_slice-3.ensures at c.in_ok-put_user.ensures) in
    let covered = covered_written 0xB004 batch_body_fields (batches_list_view c.args.list.now) c.list_size-size.result c.entries_size-entries.result c.new-out.result c.put_head.new.out c.put_user.new.out
    (part_size c.args.list.now.set c.requires.set) entries (rw c.len.ensures at c.list_size-size.ensures) c.new-out.ensures head sections in
    (c.requires, list_written 0xB004 batch_body_fields (batches_list_view c.args.list.now) c.finish.result.items c.in_ok-whole.whole.items (c.finish.ensures ∙ covered) c.in_ok-whole.ensures)

pub overflow_cast-size : goal.overflow_cast-size
overflow_cast-size c =
    let entries = rw c.as_slice.ensures at c.entries_size-entries.ensures.size in
    omega (arith, whole_size batch_body_fields (batches_list_view c.args.list.now) c.entries_size-entries.result (part_size c.args.list.now.set c.requires.set) entries, rw c.len.ensures at c.list_size-size.ensures, c.requires.size)
