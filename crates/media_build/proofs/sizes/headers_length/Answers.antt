use Rattle.std.proofs.Common.{arith}
use Rattle.media_build.specs.Building.{IsHeaderIfShort}
use Rattle.media_build.proofs.HeaderLimits.{each_fits, of_this, one_header_more, headers_few}
use Rattle.media_build.proofs.sizes.headers_length.Goals as goal

pub header_length-requires : goal.header_length-requires
header_length-requires c =
    of_this IsHeaderIfShort c.args.lines.now c.loop-load.loads c.next.new.self c.in-Some.load c.loop-load.length c.loop-load.invariant c.in-Some.ensures (each_fits c.args.lines.now c.requires)

pub overflow_add-length : goal.overflow_add-length
overflow_add-length c =
    let few = headers_few c.args.lines.now c.loop-load.loads c.loop-load.length c.requires c.loop-load.invariant in
    omega (arith, few, c.in_ok-length.ensures.0, c.in_ok-length.ensures.1)

pub loop-load-preserved : goal.loop-load-preserved
loop-load-preserved c =
    one_header_more c.args.lines.now c.loop-load.loads c.next.new.self c.in-Some.load c.loop-load.length c.in_ok-length.field-0 c.loop-load.invariant c.in-Some.ensures c.in_ok-length.ensures
