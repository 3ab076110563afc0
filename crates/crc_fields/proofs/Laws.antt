-- The laws that `check_sum_laws` states.
use Rattle.crc_fields.proofs.Cuts.{after_append, crc16_joined, crc32_joined, crc16_of_nothing, crc32_of_nothing}
use Rattle.crc_fields.proofs.Known.{crc16_known, crc32_known}
use Rattle.crc_fields.proofs.WidthLemmas.{crc16_fits, crc32_fits}

pub ruleset laws = (after_append, crc16_joined, crc32_joined, crc16_of_nothing, crc32_of_nothing, crc16_known, crc32_known, crc16_fits, crc32_fits)
