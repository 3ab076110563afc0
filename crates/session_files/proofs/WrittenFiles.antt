-- The files that a target writes, and how long they are.
use Rattle.std.proofs.Common.{◌≡◌, ℕ, ◌+◌, ◌*◌, ◌≤◌, List, [], ◌∷◌, length, map, sym, ap, subst, ◌∙◌, arith}
use Rattle.std.specs.List.{All, concat, flat_map}
use Rattle.std.proofs.lemmas.List.{append-nil, append_assoc, length-append}
use Rattle.std.proofs.lemmas.List.Concat.{flat_map-cons}
use Rattle.std.proofs.lemmas.List.Elements.{All-nil, All-cons}
use Rattle.load_base.specs.Host.{longest_file}
use Rattle.load_base.specs.Text.{IsText}
use Rattle.field_grammar.specs.Fields.{number_bytes}
use Rattle.field_grammar.proofs.NumberLemmas.{length_number_bytes}
use Rattle.field_grammar.proofs.WrittenLemmas.{at_most_each}
use Rattle.part_number.proofs.VerdictLemmas.{part_size}
use Rattle.load_protocol_files.specs.Files.{IsFileOf, file_fields}
use Rattle.load_protocol_files.specs.Pieces.{counted_fields, ratio_digits}
use Rattle.load_protocol_files.specs.Lci.{LciSpells, lci_fields}
use Rattle.load_protocol_files.specs.Lcl.{HardwareView, InstalledFits, IsWritableLcl, LclSpells, LclView, hardware_fields, hardware_view, installed_fields, lcl_fields}
use Rattle.load_protocol_files.specs.Laws.Lcl.{hardware_size, installed_size, lcl_size}
use Rattle.load_protocol_files.specs.Lcs.{LcsSpells, lcs_fields}
use Rattle.load_protocol_files.specs.Lui.{LuiSpells, lui_fields}
use Rattle.load_protocol_files.specs.Lus.{LoadStatusFits, LusFits, LusSpells, LusView, counts_fields, load_status_fields, lus_fields, progress_fields}
use Rattle.load_protocol_files.specs.declared.lci.Lci.{Lci}
use Rattle.load_protocol_files.specs.declared.lcl.Hardware.{Hardware}
use Rattle.load_protocol_files.specs.declared.lcl.Lcl.{Lcl}
use Rattle.load_protocol_files.specs.declared.lcl.Part.{Part}
use Rattle.load_protocol_files.specs.declared.lcs.Lcs.{Lcs}
use Rattle.load_protocol_files.specs.declared.lui.Lui.{Lui}
use Rattle.load_protocol_files.specs.declared.lus.LoadStatus.{LoadStatus}
use Rattle.session_rules.specs.Reports.{file_of}

is_file : (fields : List (List ℕ)) (bytes : List ℕ) → IsFileOf (concat fields) bytes → bytes ≡ file_of fields
unfolding file_fields
is_file fields bytes is = is.written ∙ append_assoc (number_bytes 4 (6 + length (concat fields))) (number_bytes 2 0x4133) (concat fields)

file_length : (body bytes : List ℕ) → IsFileOf body bytes → length bytes ≡ 6 + length body
file_length body bytes is =
    rw (is.written, length-append, length-append, length_number_bytes 4 (6 + length body), length_number_bytes 2 0x4133) (omega arith)

-- ---- answers and the status of an information operation

pub is_lci : (v : Lci) (bytes : List ℕ) → LciSpells v bytes → bytes ≡ file_of (lci_fields v)
is_lci v bytes spells = is_file (lci_fields v) bytes spells.1

pub is_lui : (v : Lui) (bytes : List ℕ) → LuiSpells v bytes → bytes ≡ file_of (lui_fields v)
is_lui v bytes spells = is_file (lui_fields v) bytes spells.1

pub is_lcs : (v : Lcs) (bytes : List ℕ) → LcsSpells v bytes → bytes ≡ file_of (lcs_fields v)
is_lcs v bytes spells = is_file (lcs_fields v) bytes spells.1

pub short_lci : (v : Lci) (bytes : List ℕ) → LciSpells v bytes → length bytes ≤ longest_file
short_lci v bytes spells =
    let fields : length (concat (lci_fields v)) ≤ 258 = simp (length-append, length_number_bytes) (omega (arith, spells.0.is_text.size)) in
    omega (arith, fields, file_length (concat (lci_fields v)) bytes spells.1)

pub short_lui : (v : Lui) (bytes : List ℕ) → LuiSpells v bytes → length bytes ≤ longest_file
short_lui v bytes spells =
    let fields : length (concat (lui_fields v)) ≤ 258 = simp (length-append, length_number_bytes) (omega (arith, spells.0.is_text.size)) in
    omega (arith, fields, file_length (concat (lui_fields v)) bytes spells.1)

pub short_lcs : (v : Lcs) (bytes : List ℕ) → LcsSpells v bytes → length bytes ≤ longest_file
short_lcs v bytes spells =
    let fields : length (concat (lcs_fields v)) ≤ 264 = simp (length-append, length_number_bytes) (omega (arith, spells.0.description.size)) in
    omega (arith, fields, file_length (concat (lcs_fields v)) bytes spells.1)

-- ---- the list of an information operation

pub is_lcl : (v : LclView) (bytes : List ℕ) → LclSpells v bytes → bytes ≡ file_of (lcl_fields v)
is_lcl v bytes spells = is_file (lcl_fields v) bytes spells.1

part_length : (part : Part) → InstalledFits part → length (concat (installed_fields part)) ≤ 768
part_length part fits = omega (arith, installed_size part, fits.number.size, fits.amendment.size, fits.designation.size)

abbrev pub one_hardware : (name serial : List ℕ) (parts : List Part) → LclView
one_hardware name serial parts = record { hardware = record { name = name; serial = serial; parts = parts } ∷ [] }

list_length : (name serial : List ℕ) (parts : List Part) → IsText name → IsText serial → length parts ≤ 32 → All (λ p. InstalledFits p) parts
    → length (concat (lcl_fields (one_hardware name serial parts))) ≤ 25100
list_length name serial parts n s few fit =
    let hardware : HardwareView = record { name = name; serial = serial; parts = parts } in
    let each : length (concat (flat_map installed_fields parts)) ≤ length parts * 768 = at_most_each installed_fields (λ p. InstalledFits p) 768 part_length parts fit in
    let one : length (concat (flat_map hardware_fields (hardware ∷ []))) ≡ length (concat (hardware_fields hardware)) = one_member hardware in
    rw (lcl_size (one_hardware name serial parts), one, hardware_size hardware) (omega (arith, each, few, n.size, s.size))
  where
    one_member : (h : HardwareView) → length (concat (flat_map hardware_fields (h ∷ []))) ≡ length (concat (hardware_fields h))
    one_member h = ap (λ fields. length (concat fields)) (flat_map-cons hardware_fields h [] ∙ append-nil (hardware_fields h))

pub is_writable : (list : Lcl) (h : Hardware) → list.hardware.items ≡ h ∷ [] → IsText h.name → IsText h.serial → length h.parts.items ≤ 32 → All (λ p. InstalledFits p) h.parts.items
    → IsWritableLcl list
is_writable list h is n s few fit =
    let size : 6 + length (concat (lcl_fields (one_hardware h.name h.serial h.parts.items))) ≤ 4294967295 = omega (arith, list_length h.name h.serial h.parts.items n s few fit) in
    let count : length (h ∷ []) ≤ 65535 = omega arith in
    record {
      count = subst (λ (items : List Hardware). length items ≤ 65535) (sym is) count;
      counts = subst (λ (items : List Hardware). All (λ (one : Hardware). length one.parts.items ≤ 65535) items) (sym is)
          (All-cons (λ (one : Hardware). length one.parts.items ≤ 65535) h [] (omega (arith, few)) (All-nil (λ (one : Hardware). length one.parts.items ≤ 65535)));
      size = subst (λ (items : List Hardware). 6 + length (concat (lcl_fields (record { hardware = map hardware_view items }))) ≤ 4294967295) (sym is) size;
    }

pub short_lcl : (name serial : List ℕ) (parts : List Part) (bytes : List ℕ) → LclSpells (one_hardware name serial parts) bytes → IsText name → IsText serial → length parts ≤ 32
    → All (λ p. InstalledFits p) parts → length bytes ≤ longest_file
short_lcl name serial parts bytes spells n s few fit =
    omega (arith, list_length name serial parts n s few fit, file_length (concat (lcl_fields (one_hardware name serial parts))) bytes spells.1)

-- ---- how an upload stands

pub is_lus : (v : LusView) (bytes : List ℕ) → LusSpells v bytes → bytes ≡ file_of (lus_fields v)
is_lus v bytes spells = is_file (lus_fields v) bytes spells.1

load_length : (load : LoadStatus) → LoadStatusFits load → length (concat (load_status_fields load)) ≤ 342
unfolding ratio_digits
load_length load fits =
    simp (length-append, length_number_bytes) (omega (arith, fits.header.size.1, part_size load.part fits.part, fits.description.size))

lus_length : (v : LusView) → LusFits v → length v.loads ≤ 32 → length (concat (lus_fields v)) ≤ 12000
unfolding counts_fields progress_fields counted_fields ratio_digits
lus_length v fits few =
    let loads : length (concat (flat_map load_status_fields v.loads)) ≤ length v.loads * 342 = at_most_each load_status_fields (λ l. LoadStatusFits l) 342 load_length v.loads fits.counts.progress.loads in
    simp (length-append, length_number_bytes) (omega (arith, loads, few, fits.description.size))

pub short_lus : (v : LusView) (bytes : List ℕ) → LusSpells v bytes → length v.loads ≤ 32 → length bytes ≤ longest_file
short_lus v bytes spells few = omega (arith, lus_length v spells.0 few, file_length (concat (lus_fields v)) bytes spells.1)
