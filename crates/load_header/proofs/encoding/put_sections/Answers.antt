use Rattle.std.proofs.Common.{arith}
use Rattle.load_header.specs.Header.{header_view}
use Rattle.load_header.proofs.Limits.{few_hardware, few_kept, few_of_each, files_fit, files_short, header_members, header_user}
use Rattle.load_header.proofs.Writes.{sections_written}
use Rattle.load_header.proofs.encoding.put_sections.Goals as goal

pub put_texts-requires : goal.put_texts-requires
put_texts-requires c = rw c.as_slice.ensures (few_hardware (header_view c.args.header.now) (header_members (header_view c.args.header.now) c.requires))

pub put_positions-requires-clause-count : goal.put_positions-requires-clause-count
put_positions-requires-clause-count c = rw c.as_slice-2.ensures (few_kept c.args.header.now (header_members (header_view c.args.header.now) c.requires))

pub put_positions-requires-clause-each : goal.put_positions-requires-clause-each
put_positions-requires-clause-each c = rw c.as_slice-2.ensures (few_of_each (header_view c.args.header.now) (header_members (header_view c.args.header.now) c.requires))

pub put_entries-requires-clause-count : goal.put_entries-requires-clause-count
put_entries-requires-clause-count c = rw c.as_slice-3.ensures (omega (arith, c.requires.files))

pub put_entries-requires-clause-each : goal.put_entries-requires-clause-each
put_entries-requires-clause-each c = rw c.as_slice-3.ensures (files_fit c.args.header.now.data_files.items c.requires.data_files)

pub put_entries-requires-clause-distances : goal.put_entries-requires-clause-distances
put_entries-requires-clause-distances c = rw c.as_slice-3.ensures (files_short c.args.header.now.data_files.items c.requires.data_files)

pub put_entries-requires-2-clause-count : goal.put_entries-requires-2-clause-count
put_entries-requires-2-clause-count c = rw c.as_slice-4.ensures (omega (arith, c.requires.files))

pub put_entries-requires-2-clause-each : goal.put_entries-requires-2-clause-each
put_entries-requires-2-clause-each c = rw c.as_slice-4.ensures (files_fit c.args.header.now.support_files.items c.requires.support_files)

pub put_entries-requires-2-clause-distances : goal.put_entries-requires-2-clause-distances
put_entries-requires-2-clause-distances c = rw c.as_slice-4.ensures (files_short c.args.header.now.support_files.items c.requires.support_files)

pub put_user-requires : goal.put_user-requires
put_user-requires c = rw c.as_slice-5.ensures (omega (arith, header_user (header_view c.args.header.now) c.requires))

pub returns : goal.returns
returns c =
    sections_written (header_view c.args.header.now) c.args.out.now c.put_identity.new.out c.put_texts.new.out c.put_positions.new.out c.put_entries.new.out c.put_entries-2.new.out c.put_user.new.out c.put_u16.new.self
    c.in_ok-put_identity.ensures
    (rw c.as_slice.ensures at c.in_ok-put_texts.ensures)
    (rw c.as_slice-2.ensures at c.in_ok-put_positions.ensures)
    (rw c.as_slice-3.ensures at c.in_ok-put_entries.ensures)
    (rw c.as_slice-4.ensures at c.in_ok-put_entries-2.ensures)
    (rw c.as_slice-5.ensures at c.in_ok-put_user.ensures)
    c.in_ok-put_u16.ensures.ok
