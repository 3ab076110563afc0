use Rattle.std.proofs.Common.{arith}
use Rattle.field_grammar.proofs.DecoderLemmas.{refused, faulty}
use Rattle.load_protocol_files.specs.declared.fault.FileFault.TheVariants.{Memory}
use Rattle.load_protocol_files.specs.Files.{file}
use Rattle.load_protocol_files.proofs.FileSpellings.{file_found, file_only}
use Rattle.load_protocol_files.proofs.file.decode.Goals as goal

pub returns-clause-found : goal.returns-clause-found
returns-clause-found g c =
    let of = g.F.ProtocolFile in
    file_found of.view of.body of.fields of.Fits c.args.bytes.now c.read_file.result g.met.F.ProtocolFile.spelled (λ i. omega (arith, c.type_inv.bytes i)) c.read_file.ensures

pub returns-clause-only : goal.returns-clause-only
returns-clause-only g c =
    let of = g.F.ProtocolFile in
    file_only of.view of.body of.fields of.Fits c.args.bytes.now c.read_file.result g.met.F.ProtocolFile.spelled c.read_file.ensures

pub returns-clause-refused : goal.returns-clause-refused
returns-clause-refused g c = refused Memory g.F.ProtocolFile.view (file g.F.ProtocolFile.body) c.args.bytes.now c.read_file.result (λ i. omega (arith, c.type_inv.bytes i)) c.read_file.ensures

pub returns-clause-faulty : goal.returns-clause-faulty
returns-clause-faulty g c = faulty Memory g.F.ProtocolFile.view (file g.F.ProtocolFile.body) c.args.bytes.now c.read_file.result c.read_file.ensures
