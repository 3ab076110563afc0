use Rattle.std.proofs.Common.{rules, arith}
use Rattle.load_header.specs.Header.{header_view}
use Rattle.load_header.specs.HeaderFields.{header_size}
use Rattle.load_header.specs.declared.fault.HeaderFault.TheVariants.{Memory}
use Rattle.media_check.proofs.Reading.{header_read, header_refused}
use Rattle.media_check.proofs.loads.put_read.Goals as goal

pub put_header-requires-clause-long_enough : goal.put_header-requires-clause-long_enough
unfolding header_size
put_header-requires-clause-long_enough c = omega (arith, c.header_laws.ensures.length (header_view c.in-Ok.header) c.args.bytes.now c.in-Ok.ensures.found)

pub returns-in-Ok : goal.returns-in-Ok
returns-in-Ok c =
    let is = header_read c.args.bytes.now (header_view c.in-Ok.header) ((c.header_laws.ensures.spelled (header_view c.in-Ok.header) c.args.bytes.now).1 c.in-Ok.ensures.found) in
    rw is c.put_header.ensures

pub returns-in-Err : goal.returns-in-Err
returns-in-Err c =
    let is = header_refused c.args.bytes.now Memory c.in-Err.fault (search rules) c.in-Err.ensures.refused in
    rw is c.put_refused.ensures
