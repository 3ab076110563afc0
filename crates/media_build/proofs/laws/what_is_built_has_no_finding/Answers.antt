use Rattle.media_build.specs.Building.{sources_in}
use Rattle.media_build.proofs.BuildFindings.{built_sizes_fit}
use Rattle.media_build.proofs.laws.what_is_built_has_no_finding.Goals as goal

pub returns : goal.returns
returns c =
    λ lines built files is sizes builds.
    c.a_built_set_has_no_finding.ensures.built (sources_in files) lines built is (built_sizes_fit lines built files c.header_laws.ensures.same_size sizes builds) builds.1
