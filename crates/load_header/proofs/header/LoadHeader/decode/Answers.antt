use Rattle.std.proofs.Common.{arith}
use Rattle.field_grammar.proofs.DecoderLemmas.{found_spelling, only_spelling, refused, faulty}
use Rattle.load_header.specs.Header.{header, header_view}
use Rattle.load_header.specs.HeaderFields.{header_fields, IsHeader}
use Rattle.load_header.specs.declared.fault.HeaderFault.TheVariants.{Memory}
use Rattle.load_header.proofs.Spelled.{spells-header}
use Rattle.load_header.proofs.header.LoadHeader.decode.Goals as goal

pub returns-clause-found : goal.returns-clause-found
returns-clause-found c =
    found_spelling Memory header_view header header_fields IsHeader c.args.bytes.now c.header_of.result spells-header (λ i. omega (arith, c.type_inv.bytes i)) c.header_of.ensures

pub returns-clause-only : goal.returns-clause-only
returns-clause-only c = only_spelling Memory header_view header header_fields IsHeader c.args.bytes.now c.header_of.result spells-header c.header_of.ensures

pub returns-clause-refused : goal.returns-clause-refused
returns-clause-refused c = refused Memory header_view header c.args.bytes.now c.header_of.result (λ i. omega (arith, c.type_inv.bytes i)) c.header_of.ensures

pub returns-clause-faulty : goal.returns-clause-faulty
returns-clause-faulty c = faulty Memory header_view header c.args.bytes.now c.header_of.result c.header_of.ensures
