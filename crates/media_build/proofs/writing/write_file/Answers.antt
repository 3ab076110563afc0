use Rattle.std.proofs.Common.{◌∙◌}
use Rattle.media_build.proofs.HostFiles.{writes_one}
use Rattle.media_build.proofs.writing.write_file.Goals as goal

pub returns-clause-files : goal.returns-clause-files
returns-clause-files g c =
    let name = c.as_slice.ensures.value ∙ c.whole_name-whole.ensures in
    writes_one _ _ _ _ c.write.result (rw name at c.write.ensures.file)
