use Rattle.std.proofs.Common.{sym, ◌∙◌}
use Rattle.field_grammar.proofs.ExactLemmas.{decided, whole_one_value}
use Rattle.field_grammar.proofs.DecoderLemmas.{spelling_is, spelled_by}
use Rattle.media_lists.specs.ListFields.{list_fields}
use Rattle.media_lists.specs.Loads.{loads_list, load_body_fields, IsLoadsList}
use Rattle.media_lists.proofs.Whole.{spells-loads_list, ends-loads_list}
use Rattle.media_lists.proofs.laws.loads_list_laws.Goals as goal

pub returns-clause-decided : goal.returns-clause-decided
returns-clause-decided c = λ bytes fit. decided loads_list bytes ends-loads_list fit

pub returns-clause-spelled : goal.returns-clause-spelled
returns-clause-spelled c = λ v bytes. (spelling_is loads_list (list_fields 0x9004 load_body_fields) IsLoadsList bytes v spells-loads_list, spelled_by loads_list (list_fields 0x9004 load_body_fields) IsLoadsList bytes v spells-loads_list)

pub returns-clause-one_list : goal.returns-clause-one_list
returns-clause-one_list c =
    λ v w bytes one other. whole_one_value loads_list bytes v w (spelled_by loads_list (list_fields 0x9004 load_body_fields) IsLoadsList bytes v spells-loads_list one) (spelled_by loads_list (list_fields 0x9004 load_body_fields) IsLoadsList bytes w spells-loads_list other)

pub returns-clause-one_spelling : goal.returns-clause-one_spelling
returns-clause-one_spelling c = λ v bytes others one other. one.1 ∙ sym other.1
