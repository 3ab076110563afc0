use Rattle.std.proofs.Common.{refl}
use Rattle.media_build.specs.Recipes.{recipe_said, words_said, keyword_said, set_line, members_line, load_line, load_said, placed_words, new_place, type_words, hardware_line, position_line, file_line, file_said, source_words, user_line, user_word, part_word, text_word, name_word, ends_with}
use Rattle.media_build.specs.Lines.{keyword_of, may_stand, stage_of, names_of, members_of, lines_of_load}
use Rattle.text_words.specs.Words.{written_lines, decimal_between}
use Rattle.load_base.specs.Verdicts.{name_fault_of}
use Rattle.part_number.specs.Verdicts.{part_fault_of}
use Rattle.part_number.specs.PartNumber.{is_good_at, check_of}
use Rattle.hex.specs.Hex.{decode_pairs}
use Rattle.media_build.proofs.laws.worked_recipes.Goals as goal

pub returns-clause-smallest : goal.returns-clause-smallest
unfolding recipe_said words_said keyword_said set_line members_line load_line load_said placed_words new_place type_words hardware_line position_line file_line file_said source_words user_line user_word part_word text_word name_word ends_with keyword_of may_stand stage_of names_of members_of lines_of_load written_lines decimal_between name_fault_of part_fault_of is_good_at check_of decode_pairs
returns-clause-smallest c = refl

pub returns-clause-nothing : goal.returns-clause-nothing
unfolding recipe_said words_said keyword_said set_line members_line load_line load_said placed_words new_place type_words hardware_line position_line file_line file_said source_words user_line user_word part_word text_word name_word ends_with keyword_of may_stand stage_of names_of members_of lines_of_load written_lines decimal_between name_fault_of part_fault_of is_good_at check_of decode_pairs
returns-clause-nothing c = refl

pub returns-clause-no_load : goal.returns-clause-no_load
unfolding recipe_said words_said keyword_said set_line members_line load_line load_said placed_words new_place type_words hardware_line position_line file_line file_said source_words user_line user_word part_word text_word name_word ends_with keyword_of may_stand stage_of names_of members_of lines_of_load written_lines decimal_between name_fault_of part_fault_of is_good_at check_of decode_pairs
returns-clause-no_load c = refl

pub returns-clause-unknown_word : goal.returns-clause-unknown_word
unfolding recipe_said words_said keyword_said set_line members_line load_line load_said placed_words new_place type_words hardware_line position_line file_line file_said source_words user_line user_word part_word text_word name_word ends_with keyword_of may_stand stage_of names_of members_of lines_of_load written_lines decimal_between name_fault_of part_fault_of is_good_at check_of decode_pairs
returns-clause-unknown_word c = refl

pub returns-clause-no_set : goal.returns-clause-no_set
unfolding recipe_said words_said keyword_said set_line members_line load_line load_said placed_words new_place type_words hardware_line position_line file_line file_said source_words user_line user_word part_word text_word name_word ends_with keyword_of may_stand stage_of names_of members_of lines_of_load written_lines decimal_between name_fault_of part_fault_of is_good_at check_of decode_pairs
returns-clause-no_set c = refl

pub returns-clause-many_words : goal.returns-clause-many_words
unfolding recipe_said words_said keyword_said set_line members_line load_line load_said placed_words new_place type_words hardware_line position_line file_line file_said source_words user_line user_word part_word text_word name_word ends_with keyword_of may_stand stage_of names_of members_of lines_of_load written_lines decimal_between name_fault_of part_fault_of is_good_at check_of decode_pairs
returns-clause-many_words c = refl

pub returns-clause-no_part : goal.returns-clause-no_part
unfolding recipe_said words_said keyword_said set_line members_line load_line load_said placed_words new_place type_words hardware_line position_line file_line file_said source_words user_line user_word part_word text_word name_word ends_with keyword_of may_stand stage_of names_of members_of lines_of_load written_lines decimal_between name_fault_of part_fault_of is_good_at check_of decode_pairs
returns-clause-no_part c = refl

pub returns-clause-no_member : goal.returns-clause-no_member
unfolding recipe_said words_said keyword_said set_line members_line load_line load_said placed_words new_place type_words hardware_line position_line file_line file_said source_words user_line user_word part_word text_word name_word ends_with keyword_of may_stand stage_of names_of members_of lines_of_load written_lines decimal_between name_fault_of part_fault_of is_good_at check_of decode_pairs
returns-clause-no_member c = refl

pub returns-clause-user : goal.returns-clause-user
unfolding recipe_said words_said keyword_said set_line members_line load_line load_said placed_words new_place type_words hardware_line position_line file_line file_said source_words user_line user_word part_word text_word name_word ends_with keyword_of may_stand stage_of names_of members_of lines_of_load written_lines decimal_between name_fault_of part_fault_of is_good_at check_of decode_pairs
returns-clause-user c = refl

pub returns-clause-odd_user : goal.returns-clause-odd_user
unfolding recipe_said words_said keyword_said set_line members_line load_line load_said placed_words new_place type_words hardware_line position_line file_line file_said source_words user_line user_word part_word text_word name_word ends_with keyword_of may_stand stage_of names_of members_of lines_of_load written_lines decimal_between name_fault_of part_fault_of is_good_at check_of decode_pairs
returns-clause-odd_user c = refl

pub returns-clause-second_user : goal.returns-clause-second_user
unfolding recipe_said words_said keyword_said set_line members_line load_line load_said placed_words new_place type_words hardware_line position_line file_line file_said source_words user_line user_word part_word text_word name_word ends_with keyword_of may_stand stage_of names_of members_of lines_of_load written_lines decimal_between name_fault_of part_fault_of is_good_at check_of decode_pairs
returns-clause-second_user c = refl

pub returns-clause-position : goal.returns-clause-position
unfolding recipe_said words_said keyword_said set_line members_line load_line load_said placed_words new_place type_words hardware_line position_line file_line file_said source_words user_line user_word part_word text_word name_word ends_with keyword_of may_stand stage_of names_of members_of lines_of_load written_lines decimal_between name_fault_of part_fault_of is_good_at check_of decode_pairs
returns-clause-position c = refl

pub returns-clause-used_name : goal.returns-clause-used_name
unfolding recipe_said words_said keyword_said set_line members_line load_line load_said placed_words new_place type_words hardware_line position_line file_line file_said source_words user_line user_word part_word text_word name_word ends_with keyword_of may_stand stage_of names_of members_of lines_of_load written_lines decimal_between name_fault_of part_fault_of is_good_at check_of decode_pairs
returns-clause-used_name c = refl
