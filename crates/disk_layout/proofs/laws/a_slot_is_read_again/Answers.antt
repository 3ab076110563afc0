use Rattle.disk_layout.proofs.SlotBodyLemmas.{says_sequence, says_bank, says_offset, says_length}
use Rattle.disk_layout.proofs.laws.a_slot_is_read_again.Goals as goal

pub returns-clause-sequence : goal.returns-clause-sequence
returns-clause-sequence c image at sequence bank manifest there small = says_sequence image at sequence bank manifest there small

pub returns-clause-bank : goal.returns-clause-bank
returns-clause-bank c image at sequence bank manifest there = says_bank image at sequence bank manifest there

pub returns-clause-offset : goal.returns-clause-offset
returns-clause-offset c image at sequence bank manifest there small = says_offset image at sequence bank manifest there small

pub returns-clause-length : goal.returns-clause-length
returns-clause-length c image at sequence bank manifest there small = says_length image at sequence bank manifest there small
