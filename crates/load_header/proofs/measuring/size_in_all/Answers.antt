use Rattle.load_header.specs.Header.{header_view}
use Rattle.load_header.proofs.Limits.{total_size}
use Rattle.load_header.proofs.measuring.size_in_all.Goals as goal

pub returns-clause-size : goal.returns-clause-size
returns-clause-size c = total_size (header_view c.args.header.now) c.sizes_of.result c.header_size.result c.sizes_of.ensures.sizes c.header_size.ensures
