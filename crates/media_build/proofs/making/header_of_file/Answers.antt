use Rattle.std.proofs.Common.{sym, subst}
use Rattle.load_header.specs.HeaderFields.{IsHeader}
use Rattle.media_build.proofs.GeneratedSets.{header_start_fits, header_fits, start_is_long, whole_is, header_written, header_is_small}
use Rattle.media_build.proofs.making.header_of_file.Goals as goal

pub encode-requires : goal.encode-requires
encode-requires c = subst IsHeader (sym c.in_ok-header.ensures) (header_start_fits c.args.file.now c.requires)

pub load_crc_of-requires : goal.load_crc_of-requires
load_crc_of-requires c = start_is_long _ c.as_slice.result.now c.in_ok-start.start.items c.in_ok-start.ensures c.as_slice.ensures

pub encode-requires-2 : goal.encode-requires-2
encode-requires-2 c =
    let start = c.as_slice.ensures in
    subst IsHeader (sym (whole_is c.args.file.now _ c.as_slice.result.now c.in_ok-start.start.items c.load_crc_of.result c.in_ok-header.ensures c.in_ok-start.ensures start c.load_crc_of.ensures))
    (header_fits c.args.file.now c.requires)

pub returns-clause-bytes : goal.returns-clause-bytes
returns-clause-bytes c =
    let start = c.as_slice.ensures in
    header_written c.args.file.now c.encode-2.result _ (whole_is c.args.file.now _ c.as_slice.result.now c.in_ok-start.start.items c.load_crc_of.result c.in_ok-header.ensures c.in_ok-start.ensures start c.load_crc_of.ensures)
    c.encode-2.ensures

pub returns-clause-short : goal.returns-clause-short
returns-clause-short c = header_is_small c.encode-2.result _ c.header_laws.ensures.length c.encode-2.ensures
