use Rattle.std.proofs.Common.{arith, ◌∙◌, refl}
use Rattle.load_header.specs.Header.{header_view}
use Rattle.load_header.specs.Encoding.{whole_size}
use Rattle.load_header.proofs.Limits.{header_members, header_files, header_user, total_size}
use Rattle.load_header.proofs.Writes.{covered_written}
use Rattle.load_header.proofs.encoding.covered_bytes.Goals as goal

pub sizes_of-sizes-requires-clause-members : goal.sizes_of-sizes-requires-clause-members
sizes_of-sizes-requires-clause-members c = header_members (header_view c.args.header.now) c.requires

pub sizes_of-sizes-requires-clause-files : goal.sizes_of-sizes-requires-clause-files
sizes_of-sizes-requires-clause-files c = header_files (header_view c.args.header.now) c.requires

pub sizes_of-sizes-requires-clause-user : goal.sizes_of-sizes-requires-clause-user
sizes_of-sizes-requires-clause-user c = header_user (header_view c.args.header.now) c.requires

pub overflow_cast-header_size : goal.overflow_cast-header_size
overflow_cast-header_size c =
    omega (arith, total_size (header_view c.args.header.now) c.sizes_of-sizes.result c.header_size.result c.sizes_of-sizes.ensures.sizes c.header_size.ensures, c.requires.size)

pub pointers_of-requires : goal.pointers_of-requires
pointers_of-requires c =
    omega (arith, total_size (header_view c.args.header.now) c.sizes_of-sizes.result (whole_size c.sizes_of-sizes.result) c.sizes_of-sizes.ensures.sizes refl, c.requires.size)

pub returns : goal.returns
returns c =
    c.finish.ensures
    ∙ covered_written (header_view c.args.header.now) c.sizes_of-sizes.result c.put_head.new.out c.put_sections.new.out c.sizes_of-sizes.ensures.sizes
    (rw (c.new-out.ensures, c.header_size.ensures, c.pointers_of.ensures) at c.in_ok-put_head.ensures) c.in_ok-put_sections.ensures
