use Rattle.std.proofs.Common.{arith, rules}
use Rattle.load_header.specs.Header.{header_view}
use Rattle.load_header.specs.HeaderFields.{AreTexts}
use Rattle.load_header.proofs.Limits.{few_hardware, few_kept, few_of_each, files_fit, size_type}
use Rattle.field_grammar.proofs.SectionLemmas.{size_padded}
use Rattle.load_header.proofs.measuring.sizes_of.Goals as goal

pub texts_size-requires : goal.texts_size-requires
texts_size-requires c = rw c.as_slice.ensures (few_hardware (header_view c.args.header.now) c.requires.members)

pub positions_size-requires-clause-count : goal.positions_size-requires-clause-count
positions_size-requires-clause-count c = rw c.as_slice-2.ensures (few_kept c.args.header.now c.requires.members)

pub positions_size-requires-clause-each : goal.positions_size-requires-clause-each
positions_size-requires-clause-each c = rw c.as_slice-2.ensures (few_of_each (header_view c.args.header.now) c.requires.members)

pub entries_size-requires-clause-count : goal.entries_size-requires-clause-count
entries_size-requires-clause-count c = rw c.as_slice-3.ensures (omega (arith, c.requires.files.few))

pub entries_size-requires-clause-each : goal.entries_size-requires-clause-each
entries_size-requires-clause-each c = rw c.as_slice-3.ensures (files_fit c.args.header.now.data_files.items c.requires.files.data_files)

pub entries_size-requires-2-clause-count : goal.entries_size-requires-2-clause-count
entries_size-requires-2-clause-count c = rw c.as_slice-4.ensures (omega (arith, c.requires.files.few))

pub entries_size-requires-2-clause-each : goal.entries_size-requires-2-clause-each
entries_size-requires-2-clause-each c = rw c.as_slice-4.ensures (files_fit c.args.header.now.support_files.items c.requires.files.support_files)

pub returns-clause-sizes : goal.returns-clause-sizes
returns-clause-sizes c = record {
  part = c.part_size.ensures.size;
  type_name = omega (arith, c.text_size.ensures.size, size_type (header_view c.args.header.now), size_padded c.args.header.now.type_name);
  hardware = rw c.as_slice.ensures at c.texts_size.ensures.size;
  positions = rw c.as_slice-2.ensures at c.positions_size.ensures.size;
  data_files = rw c.as_slice-3.ensures at c.entries_size.ensures.size;
  support_files = rw c.as_slice-4.ensures at c.entries_size-2.ensures.size;
  user = rw c.as_slice-5.ensures at c.user_size.ensures.size;
}

pub returns-clause-small : goal.returns-clause-small
returns-clause-small c =
    let hardware = rw c.as_slice.ensures at c.texts_size.ensures.small in
    let kinds = rw c.as_slice-2.ensures at c.positions_size.ensures.small in
    let files = rw c.as_slice-3.ensures at c.entries_size.ensures.small in
    let others = rw c.as_slice-4.ensures at c.entries_size-2.ensures.small in
    let user = rw c.as_slice-5.ensures at c.user_size.ensures.exact in
    record {
      part = omega (arith, c.part_size.ensures.small);
      type_name = omega (arith, c.text_size.ensures.small);
      hardware = omega (arith, hardware, few_hardware (header_view c.args.header.now) c.requires.members);
      positions = omega (arith, kinds, few_kept c.args.header.now c.requires.members);
      data_files = omega (arith, files, c.requires.files.few);
      support_files = omega (arith, others, c.requires.files.few);
      user = omega (arith, user, c.requires.user);
    }

pub returns-clause-parts : goal.returns-clause-parts
returns-clause-parts c =
    let hardware : AreTexts c.args.header.now.hardware.items = (omega (arith, few_hardware (header_view c.args.header.now) c.requires.members), rw c.as_slice.ensures at c.texts_size.ensures.texts) in record {
      type_id = search rules;
      user = rw c.as_slice-5.ensures at c.user_size.ensures.bytes;
      part = c.part_size.ensures.part;
      type_name = c.text_size.ensures.text;
      hardware = hardware;
      positions = rw c.as_slice-2.ensures at c.positions_size.ensures.kinds;
    }
