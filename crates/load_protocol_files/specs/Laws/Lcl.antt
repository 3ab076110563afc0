-- How configuration list files are spelled.
use Rattle.std.proofs.Common.{◌≡◌, map, ◌+◌, ◌≤◌, arith, ℕ, ◌<◌, ◌^◌, List, [], ◌++◌, ◌-◌, length, take, get_or, refl, sym, ap, ◌∙◌}
use Rattle.std.specs.Prelude.{min}
use Rattle.std.specs.List.{All, concat, flat_map}
use Rattle.std.proofs.lemmas.List.{length-map, get_or-map, length-append}
use Rattle.std.proofs.lemmas.List.Elements.{All-map}
use Rattle.field_grammar.specs.Grammar.{pair}
use Rattle.field_grammar.specs.Fields.{short_fields}
use Rattle.field_grammar.specs.Spelling.{IsSpelledBy}
use Rattle.field_grammar.proofs.CombinedLemmas.{spelled-as, spelled-pair, spelled-mapped}
use Rattle.load_base.specs.Text.{IsText}
use Rattle.load_protocol_files.specs.declared.lcl.Hardware.{Hardware}
use Rattle.load_protocol_files.specs.declared.lcl.Part.{Part}
use Rattle.load_protocol_files.specs.declared.lcl.Lcl.{Lcl}
use Rattle.field_grammar.proofs.NumberLemmas.{length_number_bytes}
use Rattle.field_grammar.proofs.WrittenLemmas.{written_more, written_more_seen}
use Rattle.load_protocol_files.specs.Pieces.{text, counted, counted_fields}
use Rattle.load_protocol_files.specs.Lcl.{to_part, installed, installed_fields, InstalledFits, HardwareView, hardware_view, to_hardware, hardware, hardware_fields, HardwareFits, LclView, lcl_view, to_lcl, lcl_body, lcl_fields, LclFits, IsWritableLcl}
use Rattle.load_protocol_files.specs.Laws.Pieces.{spelled-text, spelled-counted_list}

from_part : Part → List ℕ × (List ℕ × List ℕ)
from_part v = (v.number, (v.amendment, v.designation))

spelled-installed : IsSpelledBy installed installed_fields (λ p. InstalledFits p)
unfolding installed from_part
spelled-installed =
    spelled-as installed installed_fields (λ v. IsText v.number × (IsText v.amendment × IsText v.designation)) (λ v. InstalledFits v)
    (λ v p. record { number = p.0; amendment = p.1.0; designation = p.1.1 }) (λ v fits. (fits.number, (fits.amendment, fits.designation)))
    (spelled-mapped to_part from_part (pair text (pair text text)) _ _ (λ x. refl) (λ y. refl)
    (spelled-pair text (pair text text) short_fields _ (λ t. IsText t) _ spelled-text
    (spelled-pair text text short_fields short_fields (λ t. IsText t) (λ t. IsText t) spelled-text spelled-text)))

from_hardware : HardwareView → List ℕ × (List ℕ × List Part)
from_hardware v = (v.name, (v.serial, v.parts))

spelled-hardware : IsSpelledBy hardware hardware_fields (λ h. HardwareFits h)
unfolding hardware from_hardware
spelled-hardware =
    spelled-as hardware hardware_fields (λ v. IsText v.name × (IsText v.serial × ((length v.parts < 2 ^ 16) × All (λ p. InstalledFits p) v.parts))) (λ v. HardwareFits v)
    (λ v p. record { name = p.0; serial = p.1.0; count = p.1.1.0; parts = p.1.1.1 }) (λ v fits. (fits.name, (fits.serial, (fits.count, fits.parts))))
    (spelled-mapped to_hardware from_hardware (pair text (pair text (counted installed))) _ _ (λ x. refl) (λ y. refl)
    (spelled-pair text (pair text (counted installed)) short_fields _ (λ t. IsText t) _ spelled-text
    (spelled-pair text (counted installed) short_fields _ (λ t. IsText t) _ spelled-text (spelled-counted_list installed installed_fields (λ p. InstalledFits p) spelled-installed))))

from_lcl : LclView → List HardwareView
from_lcl v = v.hardware

pub spelled-lcl : IsSpelledBy lcl_body lcl_fields (λ v. LclFits v)
unfolding lcl_body from_lcl
spelled-lcl =
    spelled-as lcl_body lcl_fields (λ v. (length v.hardware < 2 ^ 16) × All (λ h. HardwareFits h) v.hardware) (λ v. LclFits v)
    (λ v p. record { count = p.0; hardware = p.1 }) (λ v fits. (fits.count, fits.hardware))
    (spelled-mapped to_lcl from_lcl (counted hardware) _ _ (λ x. refl) (λ y. refl) (spelled-counted_list hardware hardware_fields (λ h. HardwareFits h) spelled-hardware))

-- a file fits whose hardware does
pub lcl_fits : (v : Lcl) → length v.hardware.items ≤ 65535 → All (λ h. HardwareFits (hardware_view h)) v.hardware.items → LclFits (lcl_view v)
lcl_fits v count fit = record {
  count = rw length-map (omega (arith, count));
  hardware = All-map (λ h. HardwareFits h) hardware_view v.hardware.items fit;
}

-- hardware that fits has no more parts than a count can say
pub counts_fit : (list : List Hardware) → All (λ h. HardwareFits h) (map hardware_view list) → All (λ h. length h.parts.items ≤ 65535) list
counts_fit list fit k d lt =
    let here : k < length (map hardware_view list) = rw length-map lt in
    let fits = rw (get_or-map hardware_view list k d (hardware_view d) lt) at (fit k (hardware_view d) here) in
    omega (arith, fits.count)

pub lcl_is_small : (it : Lcl) → IsWritableLcl it → 6 + length (concat (lcl_fields (lcl_view it))) < 2 ^ 32
lcl_is_small it writable = omega (arith, writable.size)

-- ---- its size

pub installed_size : (v : Part) → length (concat (installed_fields v)) ≡ 3 + length v.number + length v.amendment + length v.designation
installed_size v = simp (length-append, length_number_bytes) (omega arith)

pub hardware_size : (v : HardwareView) → length (concat (hardware_fields v)) ≡ length (concat (flat_map installed_fields v.parts)) + (4 + (length v.name + length v.serial))
unfolding counted_fields
hardware_size v = simp (length-append, length_number_bytes) (omega arith)

pub lcl_size : (v : LclView) → length (concat (lcl_fields v)) ≡ 2 + length (concat (flat_map hardware_fields v.hardware))
unfolding counted_fields
lcl_size v = simp (length-append, length_number_bytes) (omega arith)

-- one more hardware takes as many bytes more
pub hardware_more : (list : List Hardware) (i : ℕ) (h : Hardware) → i < length list → h ≡ get_or list i h
    → length (concat (flat_map hardware_fields (map hardware_view (take (i + 1) list)))) ≡ length (concat (flat_map hardware_fields (map hardware_view (take i list)))) + length (concat (hardware_fields (hardware_view h)))
hardware_more list i h within is =
    let before : List ℕ = concat (flat_map hardware_fields (map hardware_view (take i list))) in
    let more = written_more_seen hardware_fields hardware_view [] before (before ++ concat (hardware_fields (hardware_view h))) list i h within is refl refl in
    ap length (sym more) ∙ length-append before (concat (hardware_fields (hardware_view h)))

-- and so does one more part
pub parts_more : (parts : List Part) (i : ℕ) (p : Part) → i < length parts → p ≡ get_or parts i p
    → length (concat (flat_map installed_fields (take (i + 1) parts))) ≡ length (concat (flat_map installed_fields (take i parts))) + length (concat (installed_fields p))
parts_more parts i p within is =
    let before : List ℕ = concat (flat_map installed_fields (take i parts)) in
    let more = written_more installed_fields [] before (before ++ concat (installed_fields p)) parts i p within is refl refl in
    ap length (sym more) ∙ length-append before (concat (installed_fields p))

-- so the size tells whether a file can be written, where its counts fit
pub fits_by_size : (it : Lcl) (size : ℕ) → length it.hardware.items ≤ 65535 → All (λ h. length h.parts.items ≤ 65535) it.hardware.items
    → size ≡ min (length (concat (flat_map hardware_fields (map hardware_view it.hardware.items)))) (2 ^ 64 - 1)
    → (size ≤ 4294967287 → IsWritableLcl it) × (IsWritableLcl it → size ≤ 4294967287)
fits_by_size it size count counts is = (
  (λ small. record { count = count; counts = counts; size = rw (lcl_size (lcl_view it)) (omega (arith, is, small)) }),
  (λ writable. let bound = writable.size in omega (arith, is, lcl_size (lcl_view it), bound)),
)
