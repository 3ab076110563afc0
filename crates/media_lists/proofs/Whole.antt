-- Both lists are spelled by their fields, and nothing stands after them.
use Rattle.std.proofs.Common.{arith}
use Rattle.field_grammar.specs.Grammar.{EndsTheBytes}
use Rattle.field_grammar.specs.Spelling.{SpellsWhole}
use Rattle.media_lists.specs.ListFields.{list_fields}
use Rattle.media_lists.specs.Files.{file_body, file_name, file_body_fields, files_list, IsListedFile, IsFilesList}
use Rattle.media_lists.specs.Loads.{load_body, load_name, load_body_fields, loads_list, IsListedLoad, IsLoadsList}
use Rattle.media_lists.proofs.SpelledLemmas.{HasEntries, spells-list, ends-media_list}
use Rattle.media_lists.proofs.Pieces.{spelled-file_body, spelled-load_body}
use Rattle.media_lists.proofs.Sizes.{even_file, even_load}

has_files : HasEntries file_body file_body_fields IsListedFile
has_files = record { even = even_file; spelled = spelled-file_body }

has_loads : HasEntries load_body load_body_fields IsListedLoad
has_loads = record { even = even_load; spelled = spelled-load_body }

pub spells-files_list : SpellsWhole files_list (list_fields 0xA004 file_body_fields) IsFilesList
spells-files_list = spells-list 0xA004 file_body file_name file_body_fields IsListedFile (omega arith) has_files

pub spells-loads_list : SpellsWhole loads_list (list_fields 0x9004 load_body_fields) IsLoadsList
spells-loads_list = spells-list 0x9004 load_body load_name load_body_fields IsListedLoad (omega arith) has_loads

-- ---- nothing stands after them

pub ends-files_list : EndsTheBytes files_list
ends-files_list = ends-media_list _ _

pub ends-loads_list : EndsTheBytes loads_list
ends-loads_list = ends-media_list _ _
