use Rattle.std.proofs.Common.{refl}
use Rattle.text_words.specs.Words.{written_lines, decimal_between}
use Rattle.load_base.specs.Verdicts.{ident_fault_of, part_text_fault_of}
use Rattle.hex.specs.Hex.{decode_pairs}
use Rattle.fleet_trace.specs.FleetScripts.{fleet_script_said}
use Rattle.fleet_link.proofs.laws.worked_fleet_scripts.Goals as goal

pub returns-clause-two_units : goal.returns-clause-two_units
unfolding fleet_script_said written_lines decimal_between ident_fault_of part_text_fault_of decode_pairs
returns-clause-two_units c = refl

pub returns-clause-nothing : goal.returns-clause-nothing
unfolding fleet_script_said written_lines decimal_between ident_fault_of part_text_fault_of decode_pairs
returns-clause-nothing c = refl

pub returns-clause-eighth : goal.returns-clause-eighth
unfolding fleet_script_said written_lines decimal_between ident_fault_of part_text_fault_of decode_pairs
returns-clause-eighth c = refl

pub returns-clause-alone : goal.returns-clause-alone
unfolding fleet_script_said written_lines decimal_between ident_fault_of part_text_fault_of decode_pairs
returns-clause-alone c = refl

pub returns-clause-unknown_word : goal.returns-clause-unknown_word
unfolding fleet_script_said written_lines decimal_between ident_fault_of part_text_fault_of decode_pairs
returns-clause-unknown_word c = refl

pub returns-clause-many_words : goal.returns-clause-many_words
unfolding fleet_script_said written_lines decimal_between ident_fault_of part_text_fault_of decode_pairs
returns-clause-many_words c = refl

pub returns-clause-unknown_unit : goal.returns-clause-unknown_unit
unfolding fleet_script_said written_lines decimal_between ident_fault_of part_text_fault_of decode_pairs
returns-clause-unknown_unit c = refl

pub returns-clause-third_unit : goal.returns-clause-third_unit
unfolding fleet_script_said written_lines decimal_between ident_fault_of part_text_fault_of decode_pairs
returns-clause-third_unit c = refl

pub returns-clause-no_unit : goal.returns-clause-no_unit
unfolding fleet_script_said written_lines decimal_between ident_fault_of part_text_fault_of decode_pairs
returns-clause-no_unit c = refl

pub returns-clause-leading_zero : goal.returns-clause-leading_zero
unfolding fleet_script_said written_lines decimal_between ident_fault_of part_text_fault_of decode_pairs
returns-clause-leading_zero c = refl

pub returns-clause-unknown_side : goal.returns-clause-unknown_side
unfolding fleet_script_said written_lines decimal_between ident_fault_of part_text_fault_of decode_pairs
returns-clause-unknown_side c = refl

pub returns-clause-no_bytes : goal.returns-clause-no_bytes
unfolding fleet_script_said written_lines decimal_between ident_fault_of part_text_fault_of decode_pairs
returns-clause-no_bytes c = refl

pub returns-clause-no_part : goal.returns-clause-no_part
unfolding fleet_script_said written_lines decimal_between ident_fault_of part_text_fault_of decode_pairs
returns-clause-no_part c = refl

pub returns-clause-no_at : goal.returns-clause-no_at
unfolding fleet_script_said written_lines decimal_between ident_fault_of part_text_fault_of decode_pairs
returns-clause-no_at c = refl

pub returns-clause-finish_at : goal.returns-clause-finish_at
unfolding fleet_script_said written_lines decimal_between ident_fault_of part_text_fault_of decode_pairs
returns-clause-finish_at c = refl

pub returns-clause-give_at : goal.returns-clause-give_at
unfolding fleet_script_said written_lines decimal_between ident_fault_of part_text_fault_of decode_pairs
returns-clause-give_at c = refl

pub returns-clause-batches : goal.returns-clause-batches
unfolding fleet_script_said written_lines decimal_between ident_fault_of part_text_fault_of decode_pairs
returns-clause-batches c = refl

pub returns-clause-batch_check : goal.returns-clause-batch_check
unfolding fleet_script_said written_lines decimal_between ident_fault_of part_text_fault_of decode_pairs
returns-clause-batch_check c = refl

pub returns-clause-batch_no_part : goal.returns-clause-batch_no_part
unfolding fleet_script_said written_lines decimal_between ident_fault_of part_text_fault_of decode_pairs
returns-clause-batch_no_part c = refl

pub returns-clause-batch_alone : goal.returns-clause-batch_alone
unfolding fleet_script_said written_lines decimal_between ident_fault_of part_text_fault_of decode_pairs
returns-clause-batch_alone c = refl

pub returns-clause-batch_words : goal.returns-clause-batch_words
unfolding fleet_script_said written_lines decimal_between ident_fault_of part_text_fault_of decode_pairs
returns-clause-batch_words c = refl

pub returns-clause-ask_words : goal.returns-clause-ask_words
unfolding fleet_script_said written_lines decimal_between ident_fault_of part_text_fault_of decode_pairs
returns-clause-ask_words c = refl

pub returns-clause-finish_words : goal.returns-clause-finish_words
unfolding fleet_script_said written_lines decimal_between ident_fault_of part_text_fault_of decode_pairs
returns-clause-finish_words c = refl

pub returns-clause-ask_at : goal.returns-clause-ask_at
unfolding fleet_script_said written_lines decimal_between ident_fault_of part_text_fault_of decode_pairs
returns-clause-ask_at c = refl
