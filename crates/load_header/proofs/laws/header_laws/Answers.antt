use Rattle.std.proofs.Common.{sym, ◌∙◌}
use Rattle.field_grammar.proofs.ExactLemmas.{decided, whole_one_value}
use Rattle.field_grammar.proofs.DecoderLemmas.{spelling_is, spelled_by}
use Rattle.load_header.specs.Header.{header}
use Rattle.load_header.specs.HeaderFields.{header_fields, IsHeader}
use Rattle.load_header.proofs.Spelled.{spells-header}
use Rattle.load_header.proofs.Whole.{ends-header}
use Rattle.load_header.proofs.Changed.{spelled_size, same_size, still_header, ends_in_load_crc, same_before_load_crc}
use Rattle.load_header.proofs.laws.header_laws.Goals as goal

pub returns-clause-decided : goal.returns-clause-decided
returns-clause-decided c = λ bytes fit. decided header bytes ends-header fit

pub returns-clause-spelled : goal.returns-clause-spelled
returns-clause-spelled c = λ h bytes. (spelling_is header header_fields IsHeader bytes h spells-header, spelled_by header header_fields IsHeader bytes h spells-header)

pub returns-clause-one_header : goal.returns-clause-one_header
returns-clause-one_header c =
    λ g h bytes one other. whole_one_value header bytes g h (spelled_by header header_fields IsHeader bytes g spells-header one) (spelled_by header header_fields IsHeader bytes h spells-header other)

pub returns-clause-one_spelling : goal.returns-clause-one_spelling
returns-clause-one_spelling c = λ h bytes others one other. one.1 ∙ sym other.1

pub returns-clause-length : goal.returns-clause-length
returns-clause-length c = spelled_size

pub returns-clause-same_size : goal.returns-clause-same_size
returns-clause-same_size c = same_size

pub returns-clause-still_header : goal.returns-clause-still_header
returns-clause-still_header c = still_header

pub returns-clause-ends_in_load_crc : goal.returns-clause-ends_in_load_crc
returns-clause-ends_in_load_crc c = ends_in_load_crc

pub returns-clause-before_load_crc : goal.returns-clause-before_load_crc
returns-clause-before_load_crc c = same_before_load_crc
