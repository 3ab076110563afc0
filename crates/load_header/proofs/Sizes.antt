-- How many bytes the sections of a header take.
use Rattle.std.proofs.Common.{◌≡◌, ◌+◌, ◌%◌, List, length, arith, length-append}
use Rattle.std.specs.List.{flat_map}
use Rattle.field_grammar.specs.Spelling.{spelled_length}
use Rattle.field_grammar.specs.Fields.{number_fields, padded_fields}
use Rattle.field_grammar.proofs.NumberLemmas.{length_number_bytes}
use Rattle.field_grammar.proofs.TextLemmas.{length_pad_bytes}
use Rattle.field_grammar.proofs.SectionLemmas.{size_more, size_number, size_padded}
use Rattle.load_header.specs.Header.{HeaderView, HardwareAtView}
use Rattle.header_sections.specs.SectionFields.{texts_fields, entry_size}
use Rattle.header_sections.proofs.SizeLemmas.{even_all, even_padded, even_texts, size_user, size_entries, even_total}
use Rattle.load_header.specs.HeaderFields.{hardware_at_fields, positions_fields, file_body_fields, files_fields, type_fields, check_offset}
use Rattle.load_header.specs.declared.header.FileEntry.{FileEntry}

pub size_body : (f : FileEntry) → spelled_length (file_body_fields f) ≡ (2 + length f.name + length f.name % 2) + (2 + length f.part + length f.part % 2) + 14
unfolding file_body_fields
size_body f = simp (length-append, length_number_bytes, length_pad_bytes) (omega arith)

pub size_body_parts : (f : FileEntry) → spelled_length (file_body_fields f) ≡ spelled_length (padded_fields f.name) + spelled_length (padded_fields f.part) + 14
size_body_parts f = omega (arith, size_body f, size_padded f.name, size_padded f.part)

even_body : (f : FileEntry) → entry_size file_body_fields f % 2 ≡ 0
even_body f = omega (arith, size_body f)

even_hardware_at : (h : HardwareAtView) → spelled_length (hardware_at_fields h) % 2 ≡ 0
even_hardware_at h = omega (arith, size_more (padded_fields h.hardware) (texts_fields h.positions), even_padded h.hardware, even_texts h.positions)

even_positions : (list : List HardwareAtView) → spelled_length (positions_fields list) % 2 ≡ 0
unfolding positions_fields
even_positions list =
    omega (arith, size_more (number_fields 2 (length list)) (flat_map hardware_at_fields list), size_number 2 (length list), even_all hardware_at_fields even_hardware_at list)

even_files : (files : List FileEntry) → spelled_length (files_fields files) % 2 ≡ 0
even_files files = omega (arith, size_entries file_body_fields files, even_total file_body_fields even_body files)

even_type : (h : HeaderView) → spelled_length (type_fields h) % 2 ≡ 0
unfolding type_fields
even_type h = omega (arith, size_more (padded_fields h.type_name) (number_fields 2 h.type_id), size_number 2 h.type_id, even_padded h.type_name)

-- every section begins at an even offset
pub even_offset : (h : HeaderView) → length h.user % 2 ≡ 0 → check_offset h % 2 ≡ 0
even_offset h even =
    omega (arith, even, even_padded h.part, even_type h, even_texts h.hardware, even_positions h.positions, even_files h.data_files, even_files h.support_files, size_user h.user)
