use Rattle.std.proofs.Common.{sym, ◌∙◌}
use Rattle.field_grammar.proofs.ExactLemmas.{decided, whole_one_value}
use Rattle.field_grammar.proofs.DecoderLemmas.{spelling_is, spelled_by}
use Rattle.media_lists.specs.ListFields.{list_fields}
use Rattle.media_lists.specs.Files.{files_list, file_body_fields, IsFilesList}
use Rattle.media_lists.proofs.Whole.{spells-files_list, ends-files_list}
use Rattle.media_lists.proofs.laws.files_list_laws.Goals as goal

pub returns-clause-decided : goal.returns-clause-decided
returns-clause-decided c = λ bytes fit. decided files_list bytes ends-files_list fit

pub returns-clause-spelled : goal.returns-clause-spelled
returns-clause-spelled c = λ v bytes. (spelling_is files_list (list_fields 0xA004 file_body_fields) IsFilesList bytes v spells-files_list, spelled_by files_list (list_fields 0xA004 file_body_fields) IsFilesList bytes v spells-files_list)

pub returns-clause-one_list : goal.returns-clause-one_list
returns-clause-one_list c =
    λ v w bytes one other. whole_one_value files_list bytes v w (spelled_by files_list (list_fields 0xA004 file_body_fields) IsFilesList bytes v spells-files_list one) (spelled_by files_list (list_fields 0xA004 file_body_fields) IsFilesList bytes w spells-files_list other)

pub returns-clause-one_spelling : goal.returns-clause-one_spelling
returns-clause-one_spelling c = λ v bytes others one other. one.1 ∙ sym other.1
