-- How configuration status files are spelled.
use Rattle.std.proofs.Common.{◌+◌, ◌<◌, ◌^◌, length, refl, arith}
use Rattle.std.specs.List.{concat}
use Rattle.std.proofs.lemmas.List.{length-append}
use Rattle.field_grammar.specs.Grammar.{pair}
use Rattle.field_grammar.specs.Fields.{short_fields}
use Rattle.field_grammar.proofs.NumberLemmas.{length_number_bytes}
use Rattle.field_grammar.specs.Spelling.{IsSpelledBy}
use Rattle.field_grammar.proofs.CombinedLemmas.{spelled-as, spelled-pair, spelled-mapped}
use Rattle.load_base.specs.Text.{IsText}
use Rattle.load_protocol_files.specs.declared.lcs.Lcs.{Lcs}
use Rattle.load_protocol_files.specs.Pieces.{u16, text, u16_fields}
use Rattle.load_protocol_files.specs.Lcs.{LcsParts, lcs_parts, to_lcs, lcs_body, lcs_fields, LcsFits}
use Rattle.load_protocol_files.specs.Laws.Pieces.{spelled-u16, spelled-text}

from_lcs : Lcs → LcsParts
from_lcs v = (v.counter, (v.status, (v.exception, (v.estimated, v.description))))

pub spelled-lcs : IsSpelledBy lcs_body lcs_fields (λ v. LcsFits v)
unfolding lcs_body from_lcs
spelled-lcs =
    spelled-as lcs_body lcs_fields (λ v. (v.counter < 2 ^ 16) × ((v.status < 2 ^ 16) × ((v.exception < 2 ^ 16) × ((v.estimated < 2 ^ 16) × IsText v.description)))) (λ v. LcsFits v)
    (λ v p. record { counter = p.0; status = p.1.0; exception = p.1.1.0; estimated = p.1.1.1.0; description = p.1.1.1.1 })
    (λ v fits. (fits.counter, (fits.status, (fits.exception, (fits.estimated, fits.description)))))
    (spelled-mapped to_lcs from_lcs lcs_parts _ _ (λ x. refl) (λ y. refl)
    (spelled-pair u16 (pair u16 (pair u16 (pair u16 text))) u16_fields _ (λ n. n < 2 ^ 16) _ spelled-u16
    (spelled-pair u16 (pair u16 (pair u16 text)) u16_fields _ (λ n. n < 2 ^ 16) _ spelled-u16
    (spelled-pair u16 (pair u16 text) u16_fields _ (λ n. n < 2 ^ 16) _ spelled-u16
    (spelled-pair u16 text u16_fields short_fields (λ n. n < 2 ^ 16) IsText spelled-u16 spelled-text)))))

pub lcs_is_small : (v : Lcs) → LcsFits v → 6 + length (concat (lcs_fields v)) < 2 ^ 32
lcs_is_small v fits = simp (length-append, length_number_bytes) (omega (arith, fits.description.size))
