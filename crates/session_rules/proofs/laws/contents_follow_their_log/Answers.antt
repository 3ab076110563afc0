use Rattle.session_rules.proofs.ContentLemmas.{contents_are_kept, contents_follow}
use Rattle.session_rules.proofs.laws.contents_follow_their_log.Goals as goal

pub returns-clause-kept : goal.returns-clause-kept
returns-clause-kept c = contents_are_kept (record {
  crc16 = c.check_sum_laws.ensures.crc16_joined;
  crc32 = c.check_sum_laws.ensures.crc32_joined;
})

pub returns-clause-follow : goal.returns-clause-follow
returns-clause-follow c = contents_follow (record {
  crc16 = c.check_sum_laws.ensures.crc16_joined;
  crc32 = c.check_sum_laws.ensures.crc32_joined;
})
