use Rattle.generated_uploads.proofs.Headers.{HeaderLaws}
use Rattle.generated_uploads.proofs.Lists.{ListLaws}
use Rattle.generated_uploads.proofs.Served.{media_are_good}
use Rattle.generated_uploads.proofs.laws.generated_media_are_good.Goals as goal

pub returns : goal.returns
returns c =
    let lists : ListLaws = record {
      loads = λ v bytes. (c.loads_list_laws.ensures.spelled v bytes).1;
      files = λ v bytes. (c.files_list_laws.ensures.spelled v bytes).1;
    } in
    let headers : HeaderLaws = record {
      spelled = λ h bytes. (c.header_laws.ensures.spelled h bytes).1;
      size = c.header_laws.ensures.length;
      before_load_crc = c.header_laws.ensures.before_load_crc;
    } in
    media_are_good lists headers c.a_set_that_is_read_can_be_told.ensures
