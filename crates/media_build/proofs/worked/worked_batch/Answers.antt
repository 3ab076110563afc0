use Rattle.std.proofs.Common.{refl}
use Rattle.hex.specs.Hex.{decode_pairs}
use Rattle.crc_fields.specs.CheckSums.{lowest_bits, bits_of, register_after_bit, register_after_bits, register_after, crc16_of}
use Rattle.field_grammar.specs.Fields.{number_bytes, pad_bytes}
use Rattle.field_grammar.specs.Spelling.{listed_fields}
use Rattle.header_sections.specs.SectionFields.{texts_fields, user_fields, entries_fields}
use Rattle.batch_lists.specs.BatchFields as batch
use Rattle.batch_lists.specs.Batches.{batch_body_fields}
use Rattle.media_lists.specs.ListFields as lists
use Rattle.media_build.specs.Lines.{members_of}
use Rattle.media_build.specs.RecipeSets.{load_bodies, recipe_bodies, recipe_batches, batches_list_bytes}
use Rattle.media_build.proofs.worked.worked_batch.Goals as goal

pub returns-clause-file : goal.returns-clause-file
unfolding decode_pairs lowest_bits bits_of register_after_bit register_after_bits register_after crc16_of number_bytes pad_bytes listed_fields texts_fields batch.batch_targets_fields batch.contents_fields batch.start_fields batch.batch_size batch.covered_fields batch.batch_fields
returns-clause-file c = refl

pub returns-clause-list : goal.returns-clause-list
unfolding decode_pairs lowest_bits bits_of register_after_bit register_after_bits register_after crc16_of number_bytes pad_bytes listed_fields texts_fields user_fields entries_fields lists.head_fields lists.identity_fields lists.list_size lists.pointers_of lists.sections_fields lists.covered_fields lists.list_fields members_of batch_body_fields recipe_batches batches_list_bytes
returns-clause-list c = refl

pub returns-clause-files : goal.returns-clause-files
unfolding load_bodies recipe_bodies
returns-clause-files c = refl
