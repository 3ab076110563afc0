-- How an LCI and an LUI are spelled.
use Rattle.std.proofs.Common.{ℕ, ◌+◌, ◌<◌, ◌^◌, List, length, refl, arith}
use Rattle.std.specs.List.{concat}
use Rattle.std.proofs.lemmas.List.{length-append}
use Rattle.field_grammar.specs.Fields.{short_fields}
use Rattle.field_grammar.proofs.NumberLemmas.{length_number_bytes}
use Rattle.field_grammar.specs.Spelling.{IsSpelledBy}
use Rattle.field_grammar.proofs.CombinedLemmas.{spelled-as, spelled-pair, spelled-mapped}
use Rattle.load_base.specs.Text.{IsText}
use Rattle.load_protocol_files.specs.declared.lci.Lci.{Lci}
use Rattle.load_protocol_files.specs.declared.lui.Lui.{Lui}
use Rattle.load_protocol_files.specs.Pieces.{u16, text, u16_fields}
use Rattle.load_protocol_files.specs.Reply.{reply, reply_fields, ReplyFits}
use Rattle.load_protocol_files.specs.Lci.{to_lci, lci_body, lci_fields, LciFits}
use Rattle.load_protocol_files.specs.Lui.{to_lui, lui_body, lui_fields, LuiFits}
use Rattle.load_protocol_files.specs.Laws.Pieces.{spelled-u16, spelled-text}

spelled-reply : IsSpelledBy reply (λ p. reply_fields p.0 p.1) (λ p. ReplyFits p.0 p.1)
unfolding reply
spelled-reply =
    spelled-as reply (λ p. reply_fields p.0 p.1) (λ p. (p.0 < 2 ^ 16) × IsText p.1) (λ p. ReplyFits p.0 p.1)
    (λ v p. record { small = p.0; is_text = p.1 }) (λ v fits. (fits.small, fits.is_text))
    (spelled-pair u16 text u16_fields short_fields (λ n. n < 2 ^ 16) IsText spelled-u16 spelled-text)

from_lci : Lci → ℕ × List ℕ
from_lci v = (v.status, v.description)

pub spelled-lci : IsSpelledBy lci_body lci_fields (λ v. LciFits v)
unfolding lci_body from_lci
spelled-lci = spelled-mapped to_lci from_lci reply (λ p. reply_fields p.0 p.1) (λ p. ReplyFits p.0 p.1) (λ x. refl) (λ y. refl) spelled-reply

from_lui : Lui → ℕ × List ℕ
from_lui v = (v.status, v.description)

pub spelled-lui : IsSpelledBy lui_body lui_fields (λ v. LuiFits v)
unfolding lui_body from_lui
spelled-lui = spelled-mapped to_lui from_lui reply (λ p. reply_fields p.0 p.1) (λ p. ReplyFits p.0 p.1) (λ x. refl) (λ y. refl) spelled-reply

pub reply_is_small : (status : ℕ) (description : List ℕ) → ReplyFits status description → 6 + length (concat (reply_fields status description)) < 2 ^ 32
reply_is_small status description fits = simp (length-append, length_number_bytes) (omega (arith, fits.is_text.size))
