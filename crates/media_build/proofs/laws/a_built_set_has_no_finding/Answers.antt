use Rattle.media_check.specs.HostNames.{host_media}
use Rattle.media_build.proofs.WrittenSets.{written_folder_has}
use Rattle.media_check.specs.BuiltSets.{built_media}
use Rattle.media_build.proofs.BuiltFindings.{nothing_is_found}
use Rattle.media_build.proofs.BuiltSet.{FormatLaws, built_media_have}
use Rattle.media_build.proofs.laws.a_built_set_has_no_finding.Goals as goal

pub returns : goal.returns
returns c =
    let laws : FormatLaws = record {
      loads = λ v bytes. (c.loads_list_laws.ensures.spelled v bytes).1;
      files = λ v bytes. (c.files_list_laws.ensures.spelled v bytes).1;
      batches = c.batches_list_laws.ensures.read_again;
      batch = c.batch_laws.ensures.read_again;
      headers = λ h bytes. (c.header_laws.ensures.spelled h bytes).1;
      header_length = c.header_laws.ensures.length;
      before_load_crc = c.header_laws.ensures.before_load_crc;
    } in
    record {
      built = λ sources lines built is fits same. nothing_is_found sources lines is fits laws (built_media built) (built_media_have sources lines built is same);
      written = λ folder sources lines built old new is fits fresh same written.
          nothing_is_found sources lines is fits laws (host_media new folder) (written_folder_has folder sources lines built old new is fresh same written);
      told = λ media sources lines is fits has. nothing_is_found sources lines is fits laws media has;
    }
