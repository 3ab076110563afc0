use Rattle.std.proofs.Common.{refl}
use Rattle.hex.specs.Hex.{decode_pairs}
use Rattle.crc_fields.specs.CheckSums.{lowest_bits, bits_of, register_after_bit, register_after_bits, register_after, crc16_of, crc32_of}
use Rattle.field_grammar.specs.Fields.{number_bytes, pad_bytes}
use Rattle.field_grammar.specs.Spelling.{listed_fields}
use Rattle.header_sections.specs.SectionFields.{texts_fields, user_fields, entries_fields}
use Rattle.load_header.specs.HeaderFields as header
use Rattle.media_lists.specs.Files.{file_body_fields}
use Rattle.media_lists.specs.ListFields as lists
use Rattle.media_lists.specs.Loads.{load_body_fields}
use Rattle.media_build.specs.Lines.{members_of}
use Rattle.media_build.specs.RecipeSets.{header_start, header_of, load_crc_of, load_bodies, recipe_bodies, recipe_loads, recipe_files, loads_list_bytes, files_list_bytes}
use Rattle.media_build.proofs.worked.worked_set.Goals as goal

pub returns-clause-header : goal.returns-clause-header
unfolding decode_pairs lowest_bits bits_of register_after_bit register_after_bits register_after crc16_of crc32_of number_bytes pad_bytes listed_fields texts_fields user_fields entries_fields header.positions_fields header.file_body_fields header.type_fields header.header_size header.pointers_of header.pointers_fields header.head_fields header.identity_fields header.targets_fields header.all_files_fields header.sections_fields header.covered_fields header.header_fields header_start header_of load_crc_of
returns-clause-header c = refl

pub returns-clause-loads : goal.returns-clause-loads
unfolding decode_pairs lowest_bits bits_of register_after_bit register_after_bits register_after crc16_of number_bytes pad_bytes listed_fields texts_fields user_fields entries_fields load_body_fields lists.head_fields lists.identity_fields lists.list_size lists.pointers_of lists.sections_fields lists.covered_fields lists.list_fields members_of recipe_loads loads_list_bytes
returns-clause-loads c = refl

pub returns-clause-files : goal.returns-clause-files
unfolding decode_pairs lowest_bits bits_of register_after_bit register_after_bits register_after crc16_of crc32_of number_bytes pad_bytes listed_fields texts_fields user_fields entries_fields file_body_fields header.positions_fields header.file_body_fields header.type_fields header.header_size header.pointers_of header.pointers_fields header.head_fields header.identity_fields header.targets_fields header.all_files_fields header.sections_fields header.covered_fields header.header_fields header_start header_of load_crc_of load_bodies recipe_bodies lists.head_fields lists.identity_fields lists.list_size lists.pointers_of lists.sections_fields lists.covered_fields lists.list_fields members_of recipe_files files_list_bytes
returns-clause-files c = refl

pub returns-clause-size : goal.returns-clause-size
unfolding number_bytes pad_bytes listed_fields texts_fields user_fields entries_fields crc16_of register_after header.positions_fields header.file_body_fields header.type_fields header.header_size header_start
returns-clause-size c = refl

pub returns-clause-pointers : goal.returns-clause-pointers
unfolding number_bytes pad_bytes listed_fields texts_fields user_fields entries_fields crc16_of register_after header.positions_fields header.file_body_fields header.type_fields header.pointers_of header_start
returns-clause-pointers c = refl
