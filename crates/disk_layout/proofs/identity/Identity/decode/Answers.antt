use Rattle.std.proofs.Common.{arith}
use Rattle.disk_layout.proofs.IdentityReads.{found_at_start, refused_at_start}
use Rattle.disk_layout.proofs.identity.Identity.decode.Goals as goal

pub returns-clause-found : goal.returns-clause-found
returns-clause-found c =
    found_at_start c.args.prefix.now c.new.result c.read_identity.new.reader c.read_identity.result (λ i. omega (arith, c.type_inv.prefix i)) c.new.ensures c.read_identity.ensures.parses

pub returns-clause-refused : goal.returns-clause-refused
returns-clause-refused c =
    refused_at_start c.args.prefix.now c.new.result c.read_identity.new.reader c.read_identity.result (λ i. omega (arith, c.type_inv.prefix i)) c.new.ensures c.read_identity.ensures.parses
