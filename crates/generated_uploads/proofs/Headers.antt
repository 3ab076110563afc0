-- The header of the generated set's load has the lengths and sums of what is served.
use Rattle.std.proofs.Common.{◌≡◌, ℕ, ◌-◌, ◌<◌, ◌≤◌, ◌^◌, Some, List, [], ◌∷◌, ◌++◌, length, take, refl, sym, ap, ◌∙◌, arith}
use Rattle.std.specs.Prelude.{codes}
use Rattle.crc_fields.specs.CheckSums.{crc32_of}
use Rattle.crc_fields.proofs.WidthLemmas.{crc16_fits, crc32_fits}
use Rattle.field_grammar.specs.Fields.{number_bytes, pad_bytes}
use Rattle.field_grammar.specs.Grammar.{IsBytes, Spelled}
use Rattle.field_grammar.specs.Spelling.{listed_fields}
use Rattle.header_sections.specs.SectionFields.{entries_fields, texts_fields, user_fields}
use Rattle.load_base.specs.Config.{LoadView}
use Rattle.load_header.specs.Header.{HeaderView, header}
use Rattle.load_header.specs.HeaderChanges.{with_load_crc}
use Rattle.load_header.specs.HeaderFields.{HeaderSpells, IsHeader, file_body_fields, header_size, positions_fields, type_fields}
use Rattle.disk_layout.specs.declared.identity.Identity.{Identity}
use Rattle.accept_rules.specs.Permissions.{Grants}
use Rattle.media_build.specs.GeneratedSet.{always, generated_load_view}
use Rattle.media_build.specs.RecipeSets.{header_bytes, header_of, header_start, load_crc_of}
use Rattle.session_rules.specs.NewConfigs.{IsGoodLoad}
use Rattle.generated_uploads.specs.GeneratedMedia.{generated_part}
use Rattle.generated_uploads.proofs.Bytes.{spelled_bytes}
use Rattle.generated_uploads.proofs.Words.{file_name, hardware_text, load_number, type_text}

-- what the laws of load headers say
pub record HeaderLaws : Type 0 where
  pub spelled : (h : HeaderView) (bytes : List ℕ) → HeaderSpells h bytes → Spelled header bytes h
  pub size : (h : HeaderView) (bytes : List ℕ) → HeaderSpells h bytes → length bytes ≡ header_size h
  pub before_load_crc : (h : HeaderView) (crc : ℕ) (bytes others : List ℕ) → HeaderSpells h bytes → HeaderSpells (with_load_crc h crc) others
      → take (length bytes - 4) bytes ≡ take (length others - 4) others

-- the load of a set with this file
abbrev pub load_with : (file : List ℕ) → LoadView
load_with file = record {
  part = generated_part;
  type_id = Some 1;
  header_name = codes "MAKE.LUH";
  files =
      record { name = codes "MAKE.LUH"; bytes = header_bytes (header_of (always file) generated_load_view) }
      ∷ record { name = codes "MAKE.BIN"; bytes = file }
      ∷ [];
}

module _ (file : List ℕ) (short : length file ≤ 16777215) where
  abbrev start : HeaderView
  start = header_start (always file) generated_load_view

  abbrev whole : HeaderView
  whole = header_of (always file) generated_load_view

  size_with : (crc : ℕ) → header_size (with_load_crc start crc) ≡ 122
  unfolding number_bytes pad_bytes listed_fields texts_fields user_fields entries_fields positions_fields file_body_fields type_fields header_size header_start
  size_with crc = refl

  fits_with : (crc : ℕ) → crc < 2 ^ 32 → IsHeader (with_load_crc start crc)
  unfolding header_start
  fits_with crc small = record {
    flags = omega arith;
    part = load_number;
    type_name = type_text;
    type_id = omega arith;
    hardware = (omega arith, (hardware_text, tt));
    positions_count = omega arith;
    positions = tt;
    data_files = (record { name = file_name; part = type_text; size = short; sum = crc16_fits file }, tt);
    support_files = tt;
    files = omega arith;
    user = λ i. omega arith;
    user_even = refl;
    load_crc = small;
    size = omega (arith, size_with crc);
  }

  start_fits : IsHeader start
  unfolding header_start
  start_fits = fits_with 0 (omega arith)

  crc_fits : load_crc_of (always file) generated_load_view < 2 ^ 32
  unfolding load_crc_of
  crc_fits = crc32_fits _

  whole_size : header_size whole ≡ 122
  unfolding header_of
  whole_size = size_with (load_crc_of (always file) generated_load_view)

  whole_fits : IsHeader whole
  unfolding header_of
  whole_fits = fits_with (load_crc_of (always file) generated_load_view) crc_fits

  module _ (laws : HeaderLaws) where
    pub header_length : length (header_bytes whole) ≡ 122
    header_length = laws.size whole (header_bytes whole) (whole_fits, refl) ∙ whole_size

    pub header_is_bytes : IsBytes (header_bytes whole)
    header_is_bytes = spelled_bytes header (header_bytes whole) whole (laws.spelled whole (header_bytes whole) (whole_fits, refl))

    same_before : take (length (header_bytes start) - 4) (header_bytes start) ≡ take (length (header_bytes whole) - 4) (header_bytes whole)
    unfolding header_of
    same_before = laws.before_load_crc start (load_crc_of (always file) generated_load_view) (header_bytes start) (header_bytes whole) (start_fits, refl) (whole_fits, refl)

    crc_is : crc32_of (take (length (header_bytes whole) - 4) (header_bytes whole) ++ (file ++ [])) ≡ load_crc_of (always file) generated_load_view
    unfolding load_crc_of
    crc_is = ap (λ (before : List ℕ). crc32_of (before ++ (file ++ []))) (sym same_before)

    pub load_is_good : (id : Identity) → id.hw ≡ codes "HW1" → IsGoodLoad Grants id [] (load_with file)
    unfolding header_of header_start
    load_is_good id hardware = record {
      header = whole;
      bytes = header_bytes whole;
      files = record { name = codes "MAKE.BIN"; bytes = file } ∷ [];
      spelled = (whole_fits, refl);
      part = refl;
      type_id = refl;
      suits = rw hardware refl;
      accepted = record { least = omega arith; most = omega arith; part = refl };
      permitted = record { type_id = λ none. absurd (omega (arith, none)); part = refl };
      whole = refl;
      each = (record { name = refl; size = refl; crc = refl }, tt);
      crc = crc_is;
    }
