-- Nothing stands after a header.
use Rattle.field_grammar.specs.Grammar.{EndsTheBytes}
use Rattle.field_grammar.proofs.ExactLemmas.{ends_renamed, ends_last, ends_before}
use Rattle.crc_fields.specs.CheckSums.{crc16_of}
use Rattle.header_sections.specs.Sections.{end}
use Rattle.header_sections.proofs.SectionLemmas.{ends-end}
use Rattle.load_header.specs.Header.{refused, header, tail, check_sums}
use Rattle.load_header.specs.declared.reading.Pointers.{Pointers}

ends-check_sums : EndsTheBytes check_sums
unfolding check_sums
ends-check_sums = ends_last _ _ (λ before. ends_last _ _ (λ said. ends_last _ _ (λ load_crc. ends_before _ _ (ends_renamed refused (end said (crc16_of before)) (ends-end said (crc16_of before))))))

ends-tail : (offsets : Pointers) → EndsTheBytes (tail offsets)
unfolding tail
ends-tail offsets = ends_last _ _ (λ user. ends_last _ _ (λ none. ends_before _ _ ends-check_sums))

pub ends-header : EndsTheBytes header
unfolding header
ends-header =
    ends_last _ _ (λ limit. ends_last _ _ (λ start. ends_last _ _ (λ what. ends_last _ _ (λ whom. ends_last _ _ (λ parts. ends_before _ _ (ends-tail start.1))))))
