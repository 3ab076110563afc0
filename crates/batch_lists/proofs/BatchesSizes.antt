-- How many bytes the entries of a list of batches take.
use Rattle.std.proofs.Common.{◌≡◌, ◌+◌, ◌%◌, ◌++◌, arith}
use Rattle.field_grammar.specs.Spelling.{spelled_length}
use Rattle.field_grammar.proofs.SectionLemmas.{size_more, size_number, size_padded}
use Rattle.field_grammar.specs.Fields.{number_fields, padded_fields}
use Rattle.header_sections.specs.SectionFields.{entry_size}
use Rattle.batch_lists.specs.Batches.{batch_body_fields}
use Rattle.batch_lists.specs.declared.batches.BatchEntry.{BatchEntry}

-- as the code measures it
pub size_batch_parts : (b : BatchEntry) → spelled_length (batch_body_fields b) ≡ spelled_length (padded_fields b.part) + spelled_length (padded_fields b.file) + 2
unfolding batch_body_fields
size_batch_parts b =
    omega (arith, size_more (padded_fields b.part) (padded_fields b.file ++ number_fields 2 b.member), size_more (padded_fields b.file) (number_fields 2 b.member), size_number 2 b.member)

pub even_batch : (b : BatchEntry) → entry_size batch_body_fields b % 2 ≡ 0
even_batch b = omega (arith, size_batch_parts b, size_padded b.part, size_padded b.file)
