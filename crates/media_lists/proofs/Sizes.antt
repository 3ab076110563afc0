-- How many bytes the entries of both lists take.
use Rattle.std.proofs.Common.{◌≡◌, ◌+◌, ◌%◌, ◌++◌, length, arith, length-append}
use Rattle.field_grammar.specs.Spelling.{spelled_length}
use Rattle.field_grammar.proofs.SectionLemmas.{size_more, size_number, size_padded}
use Rattle.field_grammar.specs.Fields.{number_fields, padded_fields}
use Rattle.field_grammar.proofs.NumberLemmas.{length_number_bytes}
use Rattle.field_grammar.proofs.TextLemmas.{length_pad_bytes}
use Rattle.header_sections.specs.SectionFields.{texts_fields, entry_size}
use Rattle.header_sections.proofs.SizeLemmas.{even_texts}
use Rattle.media_lists.specs.Files.{file_body_fields}
use Rattle.media_lists.specs.Loads.{load_body_fields, LoadEntryView}
use Rattle.media_lists.specs.declared.lists.ListedFile.{ListedFile}

pub size_file : (f : ListedFile) → spelled_length (file_body_fields f) ≡ (2 + length f.name + length f.name % 2) + (2 + length f.path + length f.path % 2) + 4
unfolding file_body_fields
size_file f = simp (length-append, length_number_bytes, length_pad_bytes) (omega arith)

pub even_file : (f : ListedFile) → entry_size file_body_fields f % 2 ≡ 0
even_file f = omega (arith, size_file f)

pub size_load : (l : LoadEntryView) → spelled_length (load_body_fields l) ≡ spelled_length (padded_fields l.part) + spelled_length (padded_fields l.header_name) + 2 + spelled_length (texts_fields l.hardware)
unfolding load_body_fields
size_load l =
    omega (
      arith,
      size_more (padded_fields l.part) (padded_fields l.header_name ++ (number_fields 2 l.member ++ texts_fields l.hardware)),
      size_more (padded_fields l.header_name) (number_fields 2 l.member ++ texts_fields l.hardware),
      size_more (number_fields 2 l.member) (texts_fields l.hardware),
      size_number 2 l.member,
    )

pub even_load : (l : LoadEntryView) → entry_size load_body_fields l % 2 ≡ 0
even_load l = omega (arith, size_load l, size_padded l.part, size_padded l.header_name, even_texts l.hardware)

-- ---- as the code measures them

pub size_file_parts : (f : ListedFile) → spelled_length (file_body_fields f) ≡ spelled_length (padded_fields f.name) + spelled_length (padded_fields f.path) + 4
size_file_parts f = omega (arith, size_file f, size_padded f.name, size_padded f.path)
