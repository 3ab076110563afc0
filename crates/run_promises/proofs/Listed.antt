-- Proofs that a configuration whose texts are texts can be listed.
use Rattle.std.proofs.Common.{◌≡◌, ℕ, ◌+◌, ◌*◌, ◌<◌, ◌≤◌, ◌^◌, List, [], ◌∷◌, ◌++◌, length, map, arith, sym, ◌∙◌, ap}
use Rattle.std.specs.List.{All, concat, flat_map}
use Rattle.std.proofs.lemmas.List.{append-nil, append_assoc, length-map}
use Rattle.std.proofs.lemmas.List.Concat.{flat_map-cons}
use Rattle.std.proofs.lemmas.List.Elements.{All-cons, All-head, All-map, All-nil, All-weaker}
use Rattle.field_grammar.specs.Fields.{number_bytes}
use Rattle.field_grammar.proofs.WrittenLemmas.{at_most_each}
use Rattle.load_base.specs.Text.{IsText}
use Rattle.load_base.proofs.TextLemmas.{ident_is_text, name_is_text, part_text_is_text}
use Rattle.load_protocol_files.specs.declared.lcl.Part.{Part}
use Rattle.load_protocol_files.specs.Files.{file_fields}
use Rattle.load_protocol_files.specs.Lcl.{HardwareFits, HardwareView, InstalledFits, hardware_fields, installed_fields, lcl_fields}
use Rattle.load_protocol_files.specs.Laws.Lcl.{hardware_size, installed_size, lcl_size}
use Rattle.disk_layout.specs.declared.manifest.Layout.{Layout}
use Rattle.disk_layout.specs.declared.manifest.ManifestFile.{ManifestFile}
use Rattle.disk_layout.specs.Contents.{entries_of}
use Rattle.disk_layout.specs.Holds.{StandingView, outline_of}
use Rattle.disk_layout.specs.Manifest.{FileFits, LoadEntry, LoadFits}
use Rattle.session_rules.specs.Reports.{file_of, first_name, lcl_file, lcl_of, listed_part}
use Rattle.replay_rules.specs.ListTraces.{CanBeListed}
use Rattle.run_promises.specs.Listing.{WhatFitsCanBeListed, StandingFits}

-- the hardware of a list, with the parts on it
abbrev pub listed : StandingView → HardwareView
listed s = record { name = s.identity.hw; serial = s.identity.serial; parts = map listed_part (entries_of s.loads) }

-- ---- what fits a disk

pub no_text : IsText []
no_text = record { size = omega arith; good = λ k within. absurd (omega (arith, within)) }

first_fits : (files : List ManifestFile) → All (λ (f : ManifestFile). FileFits f) files → IsText (first_name files)
first_fits [] fits = no_text
first_fits (f ∷ files) fits = name_is_text f.name (All-head (λ (x : ManifestFile). FileFits x) f files fits).name

entry_fits : (layout : Layout) (l : LoadEntry) → LoadFits layout l → InstalledFits (listed_part l)
entry_fits layout l fits = record { number = part_text_is_text l.part fits.part; amendment = no_text; designation = first_fits l.files fits.files }

pub standing_fits : (s : StandingView) → StandingFits s → HardwareFits (listed s)
standing_fits s fits = record {
  name = ident_is_text s.identity.hw fits.identity.hw;
  serial = ident_is_text s.identity.serial fits.identity.serial;
  count = rw length-map (omega (arith, fits.loads.fits.count));
  parts = All-map (λ (p : Part). InstalledFits p) listed_part (entries_of s.loads)
      (All-weaker (λ (l : LoadEntry). LoadFits fits.loads.layout l) (λ (l : LoadEntry). InstalledFits (listed_part l)) (entry_fits fits.loads.layout) (entries_of s.loads) fits.loads.fits.each);
}

-- ---- how long a list is

part_length : (part : Part) → InstalledFits part → length (concat (installed_fields part)) ≤ 768
part_length part fits = omega (arith, installed_size part, fits.number.size, fits.amendment.size, fits.designation.size)

module _ (h : HardwareView) (fits : HardwareFits h) where
  one_hardware : length (concat (flat_map hardware_fields (h ∷ []))) ≡ length (concat (hardware_fields h))
  one_hardware = ap (λ (fields : List (List ℕ)). length (concat fields)) (flat_map-cons hardware_fields h [] ∙ append-nil (hardware_fields h))

  parts_length : length (concat (flat_map installed_fields h.parts)) ≤ length h.parts * 768
  parts_length = at_most_each installed_fields (λ p. InstalledFits p) 768 part_length h.parts fits.parts

  list_length : 6 + length (concat (lcl_fields (record { hardware = h ∷ [] }))) < 2 ^ 32
  list_length = rw (lcl_size (record { hardware = h ∷ [] }), one_hardware, hardware_size h) (omega (arith, parts_length, fits.count, fits.name.size, fits.serial.size))

-- ---- the list

is_written : (fields : List (List ℕ)) → file_of fields ≡ number_bytes 4 (6 + length (concat fields)) ++ number_bytes 2 0x4133 ++ concat fields
unfolding file_fields
is_written fields = sym (append_assoc (number_bytes 4 (6 + length (concat fields))) (number_bytes 2 0x4133) (concat fields))

pub lists : (s : StandingView) → HardwareFits (listed s) → CanBeListed s
unfolding lcl_file
lists s fits = (
  record { count = omega arith; hardware = All-cons (λ (h : HardwareView). HardwareFits h) (listed s) [] fits (All-nil (λ (h : HardwareView). HardwareFits h)) },
  record { small = list_length (listed s) fits; written = is_written (lcl_fields (lcl_of (outline_of s))) },
)

pub fits_lists : WhatFitsCanBeListed
fits_lists s fits = lists s (standing_fits s fits)
