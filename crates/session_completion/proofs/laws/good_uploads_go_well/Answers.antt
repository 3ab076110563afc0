use Rattle.session_completion.proofs.Courses.{good_loads_lead_on, headers_are_read}
use Rattle.session_completion.proofs.Written.{files_are_read}
use Rattle.session_completion.proofs.laws.good_uploads_go_well.Goals as goal

pub returns-clause-read : goal.returns-clause-read
returns-clause-read c = files_are_read (record {
  lui_spelled = c.protocol_file_laws.ensures.lui.spelled;
  lur_spelled = c.protocol_file_laws.ensures.lur.spelled;
  lus_spelled = c.protocol_file_laws.ensures.lus.spelled;
})

pub returns-clause-lead_on : goal.returns-clause-lead_on
returns-clause-lead_on c =
    good_loads_lead_on (record {
      crc16 = c.check_sum_laws.ensures.crc16_joined;
      crc32 = c.check_sum_laws.ensures.crc32_joined;
    }) (headers_are_read c.header_laws.ensures.spelled c.header_laws.ensures.length)
