-- The faults of fields, of pieces and of lists, as those of a list of batches and of a batch.
use Rattle.field_grammar.specs.declared.fault.FieldFault.{FieldFault}
use Rattle.field_grammar.specs.declared.fault.FieldFault.TheVariants as fields
use Rattle.header_sections.specs.declared.fault.SectionFault.{SectionFault}
use Rattle.header_sections.specs.declared.fault.SectionFault.TheVariants as sections
use Rattle.load_base.specs.declared.ident.IdentFault.TheVariants as idents
use Rattle.load_base.specs.declared.text.TextFault.TheVariants as texts
use Rattle.media_lists.specs.declared.fault.ListFault.{ListFault}
use Rattle.media_lists.specs.declared.fault.ListFault.TheVariants as lists
use Rattle.media_lists.specs.declared.fault.PathFault.TheVariants as paths
use Rattle.media_lists.specs.declared.fault.WordFault.{WordFault}
use Rattle.media_lists.specs.declared.fault.WordFault.TheVariants as list_words
use Rattle.batch_lists.specs.declared.fault.BatchFault.{BatchFault}
use Rattle.batch_lists.specs.declared.fault.BatchFault.TheVariants as faults
use Rattle.batch_lists.specs.declared.fault.BatchWordFault.{BatchWordFault}
use Rattle.batch_lists.specs.declared.fault.BatchWordFault.TheVariants as words
use Rattle.batch_lists.specs.declared.fault.BatchesFault.{BatchesFault}
use Rattle.batch_lists.specs.declared.fault.BatchesFault.TheVariants as batches

-- ---- a list of batches

-- a list of batches has no text and no path, so that their faults never come
abbrev pub batches_word : WordFault → BatchWordFault
batches_word (list_words.Name fault) = words.Name fault
batches_word (list_words.Part fault) = words.Part fault
batches_word (list_words.Text (texts.TooLong found)) = words.Ident (idents.Length found)
batches_word (list_words.Text (texts.BadByte offset)) = words.Ident (idents.BadByte offset)
batches_word (list_words.Text texts.Memory) = words.Ident (idents.Length 0)
batches_word (list_words.Path (paths.Path end)) = words.Ident (idents.BadByte end)

-- the refusal of a list of entries, as that of a list of batches
abbrev pub batches_fault : ListFault → BatchesFault
batches_fault (lists.Short offset) = batches.Short offset
batches_fault (lists.Length said found) = batches.Length said found
batches_fault (lists.Version found) = batches.Version found
batches_fault (lists.Spare found) = batches.Spare found
batches_fault (lists.Pointer which said expected) = batches.Pointer which said expected
batches_fault (lists.Pad offset) = batches.Pad offset
batches_fault (lists.Word offset fault) = batches.Word offset (batches_word fault)
batches_fault (lists.Distance entry) = batches.Distance entry
batches_fault (lists.Member offset) = batches.Member offset
batches_fault (lists.Repeated entry) = batches.Repeated entry
batches_fault lists.TooLong = batches.TooLong
batches_fault (lists.Rest offset) = batches.Rest offset
batches_fault (lists.Crc said found) = batches.Crc said found
batches_fault lists.Memory = batches.Memory

-- ---- a batch

-- the refusal of a field, as that of a batch
abbrev pub named : FieldFault → BatchFault
named (fields.Short offset) = faults.Short offset
named (fields.BadPad offset) = faults.Pad offset

-- the refusal of a piece that batches share with headers and lists, as that of a batch; a batch has no pointer, name
-- or text among these
abbrev pub refused : SectionFault → BatchFault
refused (sections.Short offset) = faults.Short offset
refused (sections.Pad offset) = faults.Pad offset
refused (sections.Length said found) = faults.Length said found
refused (sections.Version found) = faults.Version found
refused (sections.Pointer which said expected) = faults.Short said
refused (sections.Name offset fault) = faults.Word offset (words.Name fault)
refused (sections.Part offset fault) = faults.Word offset (words.Part fault)
refused (sections.Text offset fault) = faults.Short offset
refused (sections.Rest offset) = faults.Rest offset
refused (sections.Sum said found) = faults.Crc said found
refused sections.Memory = faults.Memory
