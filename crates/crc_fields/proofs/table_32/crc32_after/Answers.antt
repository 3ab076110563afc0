use Rattle.std.proofs.Common.{◌∙◌}
use Rattle.crc_fields.proofs.Cuts.{after_prefix}
use Rattle.crc_fields.proofs.table_32.crc32_after.Goals as goal

pub loop-sixteen-preserved : goal.loop-sixteen-preserved
loop-sixteen-preserved c =
    let cut = c.in-Some.ensures.cases in
    rw c.after_sixteen-register.ensures (after_prefix 32 0x04C11DB7 c.loop-sixteen.register 16 c.loop-sixteen.rest.now cut.0 cut.1 ∙ c.loop-sixteen.invariant)
