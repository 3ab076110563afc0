use Rattle.load_header.specs.Header.{header_view}
use Rattle.load_header.proofs.Writes.{header_written}
use Rattle.load_header.proofs.encoding.header_bytes.Goals as goal

pub returns : goal.returns
returns c =
    let whole = rw (c.as_slice.ensures, c.in_ok-load_crc.ensures, c.in_ok-whole.ensures) at c.in_ok-extend.ensures.ok in
    (c.requires, header_written (header_view c.args.header.now) c.in_ok-covered.covered.items c.extend.new.self.items c.in_ok-covered.ensures whole)
