use Rattle.std.proofs.Common.{arith}
use Rattle.field_grammar.proofs.DecoderLemmas.{found_spelling, only_spelling, refused, faulty}
use Rattle.media_lists.specs.ListFields.{list_fields}
use Rattle.media_lists.specs.Files.{files_list, files_list_view, file_body_fields, IsFilesList}
use Rattle.media_lists.specs.declared.fault.ListFault.TheVariants.{Memory}
use Rattle.media_lists.proofs.Whole.{spells-files_list}
use Rattle.media_lists.proofs.lists.FilesList.decode.Goals as goal

pub returns-clause-found : goal.returns-clause-found
returns-clause-found c =
    found_spelling Memory files_list_view files_list (list_fields 0xA004 file_body_fields) IsFilesList c.args.bytes.now c.files_of.result spells-files_list (λ i. omega (arith, c.type_inv.bytes i)) c.files_of.ensures

pub returns-clause-only : goal.returns-clause-only
returns-clause-only c = only_spelling Memory files_list_view files_list (list_fields 0xA004 file_body_fields) IsFilesList c.args.bytes.now c.files_of.result spells-files_list c.files_of.ensures

pub returns-clause-refused : goal.returns-clause-refused
returns-clause-refused c = refused Memory files_list_view files_list c.args.bytes.now c.files_of.result (λ i. omega (arith, c.type_inv.bytes i)) c.files_of.ensures

pub returns-clause-faulty : goal.returns-clause-faulty
returns-clause-faulty c = faulty Memory files_list_view files_list c.args.bytes.now c.files_of.result c.files_of.ensures
