use Rattle.std.proofs.Common.{refl}
use Rattle.field_grammar.specs.Fields.{number_bytes}
use Rattle.session_rules.specs.Uploads.{need_of}
use Rattle.session_rules.proofs.laws.what_is_kept_is_worked_out.Goals as goal

pub returns-clause-needs : goal.returns-clause-needs
unfolding need_of number_bytes
returns-clause-needs c = record { small = refl; just_fits = refl }

pub returns-clause-kept : goal.returns-clause-kept
returns-clause-kept c = record { other = refl; replaced = refl; untyped = refl }

pub returns-clause-refused : goal.returns-clause-refused
unfolding need_of number_bytes
returns-clause-refused c = record { fits = refl; too_big = refl; part_kept = refl; part_replaced = refl; too_many = refl; one_replaced = refl }
