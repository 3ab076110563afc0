use Rattle.media_build.proofs.Exclusive.{no_size_is_refused, no_source_is_refused}
use Rattle.media_build.proofs.laws.building_laws.Goals as goal

pub returns : goal.returns
returns c = record { sizes = no_size_is_refused; sources = no_source_is_refused }
