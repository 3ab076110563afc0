-- How upload status files are spelled.
use Rattle.std.proofs.Common.{◌+◌, ◌*◌, ◌<◌, ◌≤◌, ◌^◌, ◌++◌, length, refl, arith}
use Rattle.std.specs.List.{All, concat, flat_map}
use Rattle.std.proofs.lemmas.List.{length-append}
use Rattle.field_grammar.specs.Grammar.{pair}
use Rattle.field_grammar.specs.Fields.{short_fields}
use Rattle.field_grammar.specs.Spelling.{IsSpelledBy}
use Rattle.field_grammar.proofs.CombinedLemmas.{spelled-as, spelled-pair, spelled-mapped}
use Rattle.field_grammar.proofs.NumberLemmas.{length_number_bytes}
use Rattle.load_base.specs.Name.{IsName}
use Rattle.load_base.specs.Text.{IsText}
use Rattle.part_number.specs.PartNumber.{IsPartNumberText}
use Rattle.load_protocol_files.specs.declared.lus.LoadStatus.{LoadStatus}
use Rattle.load_protocol_files.specs.Pieces.{u16, text, name, part, ratio, counted, u16_fields, ratio_digits, ratio_fields, counted_fields}
use Rattle.load_protocol_files.specs.Lus.{LoadParts, load_parts, to_load_status, load_status, load_status_fields, LoadStatusFits, LusView, LusParts, lus_parts, progress, to_lus, lus_body, lus_fields, counts_fields, progress_fields, LusFits}
use Rattle.load_protocol_files.specs.Laws.Pieces.{spelled-u16, spelled-text, spelled-name, spelled-part, spelled-ratio, spelled-counted_list}
use Rattle.field_grammar.proofs.WrittenLemmas.{at_most_each}
use Rattle.part_number.proofs.VerdictLemmas.{part_size}

from_load_status : LoadStatus → LoadParts
from_load_status v = (v.header, (v.part, (v.ratio, (v.status, v.description))))

spelled-load_status : IsSpelledBy load_status load_status_fields (λ l. LoadStatusFits l)
unfolding load_status from_load_status
spelled-load_status =
    spelled-as load_status load_status_fields (λ v. IsName v.header × (IsPartNumberText v.part × ((v.ratio ≤ 100) × ((v.status < 2 ^ 16) × IsText v.description)))) (λ v. LoadStatusFits v)
    (λ v p. record { header = p.0; part = p.1.0; ratio = p.1.1.0; status = p.1.1.1.0; description = p.1.1.1.1 })
    (λ v fits. (fits.header, (fits.part, (fits.ratio, (fits.status, fits.description)))))
    (spelled-mapped to_load_status from_load_status load_parts _ _ (λ x. refl) (λ y. refl)
    (spelled-pair name (pair part (pair ratio (pair u16 text))) short_fields _ (λ t. IsName t) _ spelled-name
    (spelled-pair part (pair ratio (pair u16 text)) short_fields _ (λ t. IsPartNumberText t) _ spelled-part
    (spelled-pair ratio (pair u16 text) ratio_fields _ (λ n. n ≤ 100) _ spelled-ratio
    (spelled-pair u16 text u16_fields short_fields (λ n. n < 2 ^ 16) (λ t. IsText t) spelled-u16 spelled-text)))))

spelled-progress : IsSpelledBy progress (λ p. ratio_fields p.0 ++ counted_fields load_status_fields p.1) (λ p. (p.0 ≤ 100) × ((length p.1 < 2 ^ 16) × All (λ l. LoadStatusFits l) p.1))
spelled-progress =
    spelled-pair ratio (counted load_status) ratio_fields (counted_fields load_status_fields) (λ n. n ≤ 100) (λ loads. (length loads < 2 ^ 16) × All (λ l. LoadStatusFits l) loads) spelled-ratio
    (spelled-counted_list load_status load_status_fields (λ l. LoadStatusFits l) spelled-load_status)

from_lus : LusView → LusParts
from_lus v = (v.status, (v.description, (v.counter, (v.exception, (v.estimated, (v.ratio, v.loads))))))

abbrev StatusFits : LusView → Type 0
StatusFits v =
    (v.status < 2 ^ 16) × (IsText v.description × ((v.counter < 2 ^ 16) × ((v.exception < 2 ^ 16) × ((v.estimated < 2 ^ 16) × ((v.ratio ≤ 100) × ((length v.loads < 2 ^ 16) × All (λ l. LoadStatusFits l) v.loads))))))

pub spelled-lus : IsSpelledBy lus_body lus_fields (λ v. LusFits v)
unfolding lus_body from_lus counts_fields progress_fields
spelled-lus =
    spelled-as lus_body lus_fields StatusFits (λ v. LusFits v)
    (λ v p. record {
      status = p.0;
      description = p.1.0;
      counts = record {
        counter = p.1.1.0;
        exception = p.1.1.1.0;
        estimated = p.1.1.1.1.0;
        progress = record { ratio = p.1.1.1.1.1.0; count = p.1.1.1.1.1.1.0; loads = p.1.1.1.1.1.1.1 };
      };
    })
    (λ v fits. (fits.status, (fits.description, (fits.counts.counter, (fits.counts.exception, (fits.counts.estimated, (fits.counts.progress.ratio, (fits.counts.progress.count, fits.counts.progress.loads))))))))
    (spelled-mapped to_lus from_lus lus_parts _ _ (λ x. refl) (λ y. refl)
    (spelled-pair u16 (pair text (pair u16 (pair u16 (pair u16 progress)))) u16_fields _ (λ n. n < 2 ^ 16) _ spelled-u16
    (spelled-pair text (pair u16 (pair u16 (pair u16 progress))) short_fields _ (λ t. IsText t) _ spelled-text
    (spelled-pair u16 (pair u16 (pair u16 progress)) u16_fields _ (λ n. n < 2 ^ 16) _ spelled-u16
    (spelled-pair u16 (pair u16 progress) u16_fields _ (λ n. n < 2 ^ 16) _ spelled-u16
    (spelled-pair u16 progress u16_fields _ (λ n. n < 2 ^ 16) _ spelled-u16 spelled-progress))))))

-- ---- its size

load_status_size : (v : LoadStatus) → LoadStatusFits v → length (concat (load_status_fields v)) ≤ 342
unfolding ratio_digits
load_status_size v fits =
    simp (length-append, length_number_bytes) (omega (arith, fits.header.size.1, part_size v.part fits.part, fits.description.size))

-- it always fits the four bytes of its length
pub lus_is_small : (v : LusView) → LusFits v → 6 + length (concat (lus_fields v)) < 2 ^ 32
unfolding counts_fields progress_fields counted_fields ratio_digits
lus_is_small v fits =
    let loads : length (concat (flat_map load_status_fields v.loads)) ≤ length v.loads * 342 = at_most_each load_status_fields (λ l. LoadStatusFits l) 342 load_status_size v.loads fits.counts.progress.loads in
    simp (length-append, length_number_bytes) (omega (arith, loads, fits.counts.progress.count, fits.description.size))
