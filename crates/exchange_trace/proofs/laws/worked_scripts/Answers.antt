use Rattle.std.proofs.Common.{refl}
use Rattle.exchange_trace.specs.Scripts.{script_said}
use Rattle.text_words.specs.Words.{written_lines, decimal_between}
use Rattle.load_base.specs.Verdicts.{ident_fault_of, part_text_fault_of}
use Rattle.hex.specs.Hex.{decode_pairs}
use Rattle.exchange_trace.proofs.laws.worked_scripts.Goals as goal

pub returns-clause-information : goal.returns-clause-information
unfolding script_said written_lines decimal_between ident_fault_of part_text_fault_of decode_pairs
returns-clause-information c = refl

pub returns-clause-nothing : goal.returns-clause-nothing
unfolding script_said written_lines decimal_between ident_fault_of part_text_fault_of decode_pairs
returns-clause-nothing c = refl

pub returns-clause-unknown_word : goal.returns-clause-unknown_word
unfolding script_said written_lines decimal_between ident_fault_of part_text_fault_of decode_pairs
returns-clause-unknown_word c = refl

pub returns-clause-unknown_side : goal.returns-clause-unknown_side
unfolding script_said written_lines decimal_between ident_fault_of part_text_fault_of decode_pairs
returns-clause-unknown_side c = refl

pub returns-clause-few_words : goal.returns-clause-few_words
unfolding script_said written_lines decimal_between ident_fault_of part_text_fault_of decode_pairs
returns-clause-few_words c = refl

pub returns-clause-no_number : goal.returns-clause-no_number
unfolding script_said written_lines decimal_between ident_fault_of part_text_fault_of decode_pairs
returns-clause-no_number c = refl

pub returns-clause-no_datagram : goal.returns-clause-no_datagram
unfolding script_said written_lines decimal_between ident_fault_of part_text_fault_of decode_pairs
returns-clause-no_datagram c = refl

pub returns-clause-leading_zero : goal.returns-clause-leading_zero
unfolding script_said written_lines decimal_between ident_fault_of part_text_fault_of decode_pairs
returns-clause-leading_zero c = refl

pub returns-clause-no_ident : goal.returns-clause-no_ident
unfolding script_said written_lines decimal_between ident_fault_of part_text_fault_of decode_pairs
returns-clause-no_ident c = refl

pub returns-clause-no_part : goal.returns-clause-no_part
unfolding script_said written_lines decimal_between ident_fault_of part_text_fault_of decode_pairs
returns-clause-no_part c = refl

pub returns-clause-no_parts : goal.returns-clause-no_parts
unfolding script_said written_lines decimal_between ident_fault_of part_text_fault_of decode_pairs
returns-clause-no_parts c = refl

pub returns-clause-no_bytes : goal.returns-clause-no_bytes
unfolding script_said written_lines decimal_between ident_fault_of part_text_fault_of decode_pairs
returns-clause-no_bytes c = refl

pub returns-clause-no_size : goal.returns-clause-no_size
unfolding script_said written_lines decimal_between ident_fault_of part_text_fault_of decode_pairs
returns-clause-no_size c = refl

pub returns-clause-many_words : goal.returns-clause-many_words
unfolding script_said written_lines decimal_between ident_fault_of part_text_fault_of decode_pairs
returns-clause-many_words c = refl

pub returns-clause-no_call : goal.returns-clause-no_call
unfolding script_said written_lines decimal_between ident_fault_of part_text_fault_of decode_pairs
returns-clause-no_call c = refl

pub returns-clause-injection : goal.returns-clause-injection
unfolding script_said written_lines decimal_between ident_fault_of part_text_fault_of decode_pairs
returns-clause-injection c = refl

pub returns-clause-upload_of_two : goal.returns-clause-upload_of_two
unfolding script_said written_lines decimal_between ident_fault_of part_text_fault_of decode_pairs
returns-clause-upload_of_two c = refl

pub returns-clause-no_option : goal.returns-clause-no_option
unfolding script_said written_lines decimal_between ident_fault_of part_text_fault_of decode_pairs
returns-clause-no_option c = refl

pub returns-clause-power_loss : goal.returns-clause-power_loss
unfolding script_said written_lines decimal_between ident_fault_of part_text_fault_of decode_pairs
returns-clause-power_loss c = refl
