use Rattle.std.proofs.Common.{arith}
use Rattle.media_build.proofs.BuiltSet.{FormatLaws}
use Rattle.media_build.proofs.ReadableSets.{can_be_read, same_total}
use Rattle.media_build.proofs.WrittenSets.{written_folder_has}
use Rattle.media_build.proofs.laws.a_written_set_can_be_read.Goals as goal

pub returns : goal.returns
returns c =
    let laws : FormatLaws = record {
      loads = λ v bytes. (c.loads_list_laws.ensures.spelled v bytes).1;
      files = λ v bytes. (c.files_list_laws.ensures.spelled v bytes).1;
      batches = c.batches_list_laws.ensures.read_again;
      batch = c.batch_laws.ensures.read_again;
      headers = λ h bytes. (c.header_laws.ensures.spelled h bytes).1;
      header_length = c.header_laws.ensures.length;
      before_load_crc = c.header_laws.ensures.before_load_crc;
    } in
    λ folder sources lines built old new is fits fresh same small written.
    can_be_read folder new sources lines (written_folder_has folder sources lines built old new is fresh same written) is fits laws (omega (arith, small, same_total sources lines built same))
