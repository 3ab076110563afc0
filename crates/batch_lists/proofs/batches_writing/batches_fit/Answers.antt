use Rattle.std.proofs.Common.{rules, arith}
use Rattle.batch_lists.specs.Batches.{batches_list_view, batch_file, batch_body_fields, IsListedBatch}
use Rattle.media_lists.proofs.FitLemmas.{list_tells}
use Rattle.batch_lists.proofs.BatchesFit.{all_fit}
use Rattle.batch_lists.proofs.batches_writing.batches_fit.Goals as goal

pub returns : goal.returns
returns c =
    let entries = rw c.as_slice-batches.ensures at c.entries_size.ensures.size in
    let member = rw c.from.ensures at c.is_member.ensures in
    let meet = rw c.as_slice-batches.ensures at c.batches_meet_limits.ensures in
    let user = rw c.as_slice.ensures at c.is_user_data.ensures.fits in
    let bytes = rw c.as_slice.ensures at c.is_user_data.ensures.bytes in
    let total = rw c.len.ensures at c.list_size.ensures in
    list_tells IsListedBatch batch_file batch_body_fields (batches_list_view c.args.list.now) c.entries_size.result c.list_size.result c.as_slice-set.ensures.is_part_number (search rules) bytes
    (member.0 c.if-not-is_member.false) (user.0 c.if-not-is_user_data.false) (meet.0 c.if-not-batches_meet_limits.false) entries total

pub entries_size-requires-clause-count : goal.entries_size-requires-clause-count
entries_size-requires-clause-count c = omega (arith, (c.batches_meet_limits.ensures.0 c.if-not-batches_meet_limits.false).count)

pub entries_size-requires-clause-each : goal.entries_size-requires-clause-each
entries_size-requires-clause-each c = all_fit c.as_slice-batches.result.now
