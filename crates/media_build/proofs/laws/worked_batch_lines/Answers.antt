use Rattle.std.proofs.Common.{refl}
use Rattle.media_build.specs.Recipes.{recipe_said, words_said, keyword_said, set_line, members_line, load_line, load_said, placed_words, new_place, type_words, batch_line, batch_said, target_line, target_said, place_words, load_part_word, part_word, text_word, name_word, ident_word, ends_with}
use Rattle.media_build.specs.Lines.{keyword_of, may_stand, stage_of, names_of, members_of, is_loaded, targets_of_batch}
use Rattle.text_words.specs.Words.{written_lines, decimal_between}
use Rattle.load_base.specs.Verdicts.{name_fault_of, ident_fault_of}
use Rattle.part_number.specs.Verdicts.{part_fault_of}
use Rattle.part_number.specs.PartNumber.{is_good_at, check_of}
use Rattle.media_build.proofs.laws.worked_batch_lines.Goals as goal

pub returns-clause-batch : goal.returns-clause-batch
unfolding recipe_said words_said keyword_said set_line members_line load_line load_said placed_words new_place type_words batch_line batch_said target_line target_said place_words load_part_word part_word text_word name_word ident_word ends_with keyword_of may_stand stage_of names_of members_of is_loaded targets_of_batch written_lines decimal_between name_fault_of ident_fault_of part_fault_of is_good_at check_of
returns-clause-batch c = refl

pub returns-clause-other_ending : goal.returns-clause-other_ending
unfolding recipe_said words_said keyword_said set_line members_line load_line load_said placed_words new_place type_words batch_line batch_said target_line target_said place_words load_part_word part_word text_word name_word ident_word ends_with keyword_of may_stand stage_of names_of members_of is_loaded targets_of_batch written_lines decimal_between name_fault_of ident_fault_of part_fault_of is_good_at check_of
returns-clause-other_ending c = refl

pub returns-clause-target : goal.returns-clause-target
unfolding recipe_said words_said keyword_said set_line members_line load_line load_said placed_words new_place type_words batch_line batch_said target_line target_said place_words load_part_word part_word text_word name_word ident_word ends_with keyword_of may_stand stage_of names_of members_of is_loaded targets_of_batch written_lines decimal_between name_fault_of ident_fault_of part_fault_of is_good_at check_of
returns-clause-target c = refl

pub returns-clause-no_part : goal.returns-clause-no_part
unfolding recipe_said words_said keyword_said set_line members_line load_line load_said placed_words new_place type_words batch_line batch_said target_line target_said place_words load_part_word part_word text_word name_word ident_word ends_with keyword_of may_stand stage_of names_of members_of is_loaded targets_of_batch written_lines decimal_between name_fault_of ident_fault_of part_fault_of is_good_at check_of
returns-clause-no_part c = refl

pub returns-clause-other_load : goal.returns-clause-other_load
unfolding recipe_said words_said keyword_said set_line members_line load_line load_said placed_words new_place type_words batch_line batch_said target_line target_said place_words load_part_word part_word text_word name_word ident_word ends_with keyword_of may_stand stage_of names_of members_of is_loaded targets_of_batch written_lines decimal_between name_fault_of ident_fault_of part_fault_of is_good_at check_of
returns-clause-other_load c = refl

pub returns-clause-wrong_part : goal.returns-clause-wrong_part
unfolding recipe_said words_said keyword_said set_line members_line load_line load_said placed_words new_place type_words batch_line batch_said target_line target_said place_words load_part_word part_word text_word name_word ident_word ends_with keyword_of may_stand stage_of names_of members_of is_loaded targets_of_batch written_lines decimal_between name_fault_of ident_fault_of part_fault_of is_good_at check_of
returns-clause-wrong_part c = refl

pub returns-clause-no_target : goal.returns-clause-no_target
unfolding recipe_said words_said keyword_said set_line members_line load_line load_said placed_words new_place type_words batch_line batch_said target_line target_said place_words load_part_word part_word text_word name_word ident_word ends_with keyword_of may_stand stage_of names_of members_of is_loaded targets_of_batch written_lines decimal_between name_fault_of ident_fault_of part_fault_of is_good_at check_of
returns-clause-no_target c = refl

pub returns-clause-late_load : goal.returns-clause-late_load
unfolding recipe_said words_said keyword_said set_line members_line load_line load_said placed_words new_place type_words batch_line batch_said target_line target_said place_words load_part_word part_word text_word name_word ident_word ends_with keyword_of may_stand stage_of names_of members_of is_loaded targets_of_batch written_lines decimal_between name_fault_of ident_fault_of part_fault_of is_good_at check_of
returns-clause-late_load c = refl
