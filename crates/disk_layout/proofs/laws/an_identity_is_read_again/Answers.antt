use Rattle.disk_layout.specs.Identity.{identity_prefix}
use Rattle.disk_layout.proofs.IdentityLemmas.{identity_is_short, has_identity}
use Rattle.disk_layout.proofs.laws.an_identity_is_read_again.Goals as goal

pub returns-clause-short : goal.returns-clause-short
returns-clause-short c = identity_is_short

pub returns-clause-read : goal.returns-clause-read
returns-clause-read c image id is stands = has_identity image id is (c.check_sum_laws.ensures.crc16_fits (identity_prefix id)) stands
