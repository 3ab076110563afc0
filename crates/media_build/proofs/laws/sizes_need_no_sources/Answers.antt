use Rattle.media_build.proofs.BuiltSizes.{sizes_fit_with}
use Rattle.media_build.proofs.laws.sizes_need_no_sources.Goals as goal

pub returns : goal.returns
returns c = λ sources others lines. sizes_fit_with sources others lines c.header_laws.ensures.same_size
