-- The limits of a header.
use Rattle.std.proofs.Common.{◌≡◌, ℕ, zero, suc, ◌+◌, ◌%◌, ◌<◌, ◌≤◌, ◌^◌, List, [], ◌∷◌, ◌++◌, length, take, get_or, Bool, true, false, refl, sym, ap, ◌∙◌, arith, ◌&&◌, ◌==◌, leb, ltb}
use Rattle.std.specs.Prelude.{map}
use Rattle.std.specs.List.{flat_map, list_all, All, AllByRecursion}
use Rattle.std.proofs.lemmas.List.Elements.{All-nil, All-cons}
use Rattle.std.proofs.lemmas.Bool.{leb-true, ltb-true, lt-leb, lt-ltb, le-leb, eqb-true, eq-eqb, and_from}
use Rattle.std.proofs.lemmas.List.{take_all, length-map}
use Rattle.std.proofs.lemmas.List.Concat.{flat_map-cons}
use Rattle.field_grammar.specs.Spelling.{spelled_length}
use Rattle.field_grammar.specs.Fields.{number_fields, padded_fields}
use Rattle.load_header.specs.Header.{HeaderView, hardware_at_view, header_view}
use Rattle.load_header.specs.HeaderFields.{hardware_at_fields, positions_fields, file_body_fields, type_fields, check_offset, header_size, pointers_of, IsHardwareAt, IsHeaderFile, IsHeader}
use Rattle.load_header.specs.Encoding.{few_positions, few_members, short_enough, kind_fields, pointers_by, AreSizes, IsKind, HasFiles, HasParts}
use Rattle.load_header.specs.declared.header.FileEntry.{FileEntry}
use Rattle.load_header.specs.declared.header.HardwareAt.{HardwareAt}
use Rattle.load_header.specs.declared.header.LoadHeader.{LoadHeader}
use Rattle.load_header.specs.declared.measuring.Sizes.{Sizes}
use Rattle.header_sections.specs.SectionFields.{texts_fields, HaveDistances}
use Rattle.header_sections.proofs.SizeLemmas.{size_user}
use Rattle.field_grammar.proofs.SectionLemmas.{size_more, size_number, size_padded}
use Rattle.load_header.proofs.Sizes.{size_body}

both : (a b : Bool) → (a && b) ≡ true → (a ≡ true) × (b ≡ true)
both true b e = (refl, e)
both false b e = absurd cc

-- ---- what the tests say

pub all_viewed : (list : List HardwareAt) → list_all few_positions (map hardware_at_view list) ≡ list_all (λ h. few_positions (hardware_at_view h)) list
all_viewed [] = refl
all_viewed (h ∷ list) = rw (all_viewed list) refl

pub few_hardware : (h : HeaderView) → few_members h ≡ true → length h.hardware < 65536
unfolding few_members
few_hardware h few = ltb-true (length h.hardware) 65536 (both (ltb (length h.hardware) 65536) (ltb (length h.positions) 65536 && list_all few_positions h.positions) few).0

later_members : (h : HeaderView) → few_members h ≡ true → (ltb (length h.positions) 65536 ≡ true) × (list_all few_positions h.positions ≡ true)
unfolding few_members
later_members h few =
    both (ltb (length h.positions) 65536) (list_all few_positions h.positions) (both (ltb (length h.hardware) 65536) (ltb (length h.positions) 65536 && list_all few_positions h.positions) few).1

pub few_kinds : (h : HeaderView) → few_members h ≡ true → length h.positions < 65536
few_kinds h few = ltb-true (length h.positions) 65536 (later_members h few).0

-- the same of a header as it is kept
pub few_kept : (h : LoadHeader) → few_members (header_view h) ≡ true → length h.positions.items < 65536
few_kept h few = omega (arith, few_kinds (header_view h) few, length-map h.positions.items hardware_at_view)

-- the sizes of the sections give that of the whole
pub total_size : (h : HeaderView) (s : Sizes) (n : ℕ) → AreSizes h s
    → n ≡ 40 + s.part + s.type_name + s.hardware + s.positions + s.data_files + s.support_files + s.user + 8 → n ≡ header_size h
unfolding header_size
total_size h s n are whole = omega (arith, whole, are.part, are.type_name, are.hardware, are.positions, are.data_files, are.support_files, are.user)

pub few_of_each : (h : HeaderView) → few_members h ≡ true → list_all few_positions h.positions ≡ true
few_of_each h few = (later_members h few).1

pub size_type : (h : HeaderView) → spelled_length (type_fields h) ≡ 2 + length h.type_name + length h.type_name % 2 + 2
unfolding type_fields
size_type h = omega (arith, size_more (padded_fields h.type_name) (number_fields 2 h.type_id), size_number 2 h.type_id, size_padded h.type_name)

-- a header with long user data is too long
pub long_user : (h : HeaderView) → 65536 < length h.user → leb (header_size h) 65536 ≡ false
unfolding header_size
long_user h long =
    let big : 65536 < check_offset h + 8 = omega (arith, long, size_user h.user) in
    lt-leb (check_offset h + 8) 65536 big

-- ---- one more member

pub kinds_viewed : (list : List HardwareAt) → flat_map kind_fields list ≡ flat_map hardware_at_fields (map hardware_at_view list)
kinds_viewed [] = refl
kinds_viewed (h ∷ list) =
    flat_map-cons kind_fields h list ∙ (ap (λ (l : List (List ℕ)). kind_fields h ++ l) (kinds_viewed list) ∙ sym (flat_map-cons hardware_at_fields (hardware_at_view h) (map hardware_at_view list)))

pub kinds_all : (list : List HardwareAt) → AllByRecursion IsKind list → AllByRecursion IsHardwareAt (map hardware_at_view list)
kinds_all [] all = tt
kinds_all (h ∷ list) all = (all.0, kinds_all list all.1)

pub size_kind : (h : HardwareAt) → spelled_length (hardware_at_fields (hardware_at_view h)) ≡ spelled_length (padded_fields h.hardware) + spelled_length (texts_fields h.positions.items)
size_kind h = size_more (padded_fields h.hardware) (texts_fields h.positions.items)

pub positions_few : (h : HardwareAt) → few_positions (hardware_at_view h) ≡ true → length h.positions.items < 65536
positions_few h few = ltb-true (length h.positions.items) 65536 few

pub all_kinds : (list : List HardwareAt) (i : ℕ) → length list ≤ i → 2 + spelled_length (flat_map kind_fields (take i list)) ≡ spelled_length (positions_fields (map hardware_at_view list))
unfolding positions_fields
all_kinds list i le =
    let whole : take i list ≡ list = take_all i list le in
    let kinds : List (List ℕ) = flat_map hardware_at_fields (map hardware_at_view list) in
    let viewed : flat_map kind_fields list ≡ kinds = kinds_viewed list in
    rw whole (ap (λ (l : List (List ℕ)). 2 + spelled_length l) viewed ∙ sym (size_more (number_fields 2 (length (map hardware_at_view list))) kinds ∙ ap (λ (n : ℕ). n + spelled_length kinds) (size_number 2 (length (map hardware_at_view list)))))

pub few_at : (list : List HardwareAt) (i : ℕ) (d : HardwareAt) → i < length list → list_all few_positions (map hardware_at_view list) ≡ true → few_positions (hardware_at_view (get_or list i d)) ≡ true
few_at [] i d lt all = absurd (omega arith)
few_at (h ∷ list) zero d lt all = (both (few_positions (hardware_at_view h)) (list_all few_positions (map hardware_at_view list)) all).0
few_at (h ∷ list) (suc i) d lt all = few_at list i d (omega (arith, lt)) (both (few_positions (hardware_at_view h)) (list_all few_positions (map hardware_at_view list)) all).1

-- ---- what a header that has a spelling passes

all_pass : {A : Type 0} (test : A → Bool) (P : A → Type 0) → ((x : A) → P x → test x ≡ true) → (xs : List A) → AllByRecursion P xs → list_all test xs ≡ true
all_pass test P tells [] all = refl
all_pass test P tells (x ∷ xs) all = and_from (test x) (list_all test xs) (tells x all.0) (all_pass test P tells xs all.1)

pub header_members : (h : HeaderView) → IsHeader h → few_members h ≡ true
unfolding few_members
header_members h is =
    let each : list_all few_positions h.positions ≡ true = all_pass few_positions IsHardwareAt (λ kind are. lt-ltb (length kind.positions) 65536 (omega (arith, are.1.0))) h.positions is.positions in
    and_from (ltb (length h.hardware) 65536) (ltb (length h.positions) 65536 && list_all few_positions h.positions) (lt-ltb (length h.hardware) 65536 (omega (arith, is.hardware.0)))
    (and_from (ltb (length h.positions) 65536) (list_all few_positions h.positions) (lt-ltb (length h.positions) 65536 (omega (arith, is.positions_count))) each)

pub header_files : (h : HeaderView) → IsHeader h → HasFiles h
header_files h is = record { few = is.files; data_files = is.data_files; support_files = is.support_files }

-- files that can be written are short enough for their distances
pub files_fit : (files : List FileEntry) → AllByRecursion IsHeaderFile files → All (λ file. file.length ≤ 16777215) files
files_fit [] all = All-nil (λ file. file.length ≤ 16777215)
files_fit (file ∷ files) all = All-cons (λ file. file.length ≤ 16777215) file files all.0.size (files_fit files all.1)

pub files_short : (files : List FileEntry) → AllByRecursion IsHeaderFile files → HaveDistances file_body_fields files
files_short [] all = tt
files_short (file ∷ []) all = tt
files_short (file ∷ next ∷ files) all = (omega (arith, size_body file, all.0.name.size.1, all.0.part.size), files_short (next ∷ files) all.1)

pub header_short : (h : HeaderView) → IsHeader h → short_enough h ≡ true
unfolding short_enough
header_short h is = and_from (length h.user % 2 == 0) (leb (header_size h) 65536) (eq-eqb (length h.user % 2) 0 is.user_even) (le-leb (header_size h) 65536 is.size)

pub header_user : (h : HeaderView) → IsHeader h → length h.user ≤ 65536
unfolding header_size
header_user h is =
    let size : check_offset h + 8 ≤ 65536 = is.size in
    omega (arith, size, size_user h.user)

-- a header that passes the tests, whose parts are such
pub is_header : (h : HeaderView) → few_members h ≡ true → HasFiles h → short_enough h ≡ true → HasParts h → h.flags < 2 ^ 16 → h.load_crc < 2 ^ 32 → IsHeader h
unfolding short_enough
is_header h members files short has flags load =
    let two = both (length h.user % 2 == 0) (leb (header_size h) 65536) short in record {
      flags = flags;
      part = has.part;
      type_name = has.type_name;
      type_id = has.type_id;
      hardware = has.hardware;
      positions_count = omega (arith, few_kinds h members);
      positions = has.positions;
      data_files = files.data_files;
      support_files = files.support_files;
      files = files.few;
      user = has.user;
      user_even = eqb-true (length h.user % 2) 0 two.0;
      load_crc = load;
      size = leb-true (header_size h) 65536 two.1;
    }

-- pointers are half the offsets, however they are computed
pub pointers_are : (h : HeaderView) (s : Sizes) → AreSizes h s → pointers_by s ≡ pointers_of h
unfolding pointers_by pointers_of
pointers_are h s are = rw (are.part, are.type_name, are.hardware, are.positions, are.data_files, are.support_files, are.user) refl
