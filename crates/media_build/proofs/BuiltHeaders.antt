-- The headers of a recipe's set meet the limits of their format.
use Rattle.std.proofs.Common.{◌≡◌, ℕ, zero, suc, ◌+◌, ◌-◌, ◌%◌, ◌<◌, ◌≤◌, ◌^◌, Bool, true, false, cond, not, List, [], ◌∷◌, ◌++◌, length, refl, arith, length-append}
use Rattle.std.specs.Prelude.{map, filter, slice_index}
use Rattle.std.specs.List.{AllByRecursion, flat_map}
use Rattle.std.proofs.lemmas.List.{length-map}
use Rattle.crc_fields.proofs.WidthLemmas.{crc16_fits, crc32_fits}
use Rattle.load_base.specs.Bytes.{same_bytes}
use Rattle.load_base.specs.Host.{longest_file}
use Rattle.field_grammar.specs.Fields.{number_fields, padded_fields}
use Rattle.field_grammar.specs.Grammar.{IsBytes}
use Rattle.field_grammar.proofs.SectionLemmas.{size_more, size_number, size_padded}
use Rattle.field_grammar.specs.Spelling.{spelled_length}
use Rattle.header_sections.specs.SectionFields.{texts_fields}
use Rattle.header_sections.proofs.SizeLemmas.{size_texts}
use Rattle.load_header.specs.Header.{HeaderView, HardwareAtView}
use Rattle.load_header.specs.HeaderFields.{hardware_at_fields, positions_fields, header_size, type_fields, IsHardwareAt, IsHeaderFile, IsHeader, HeaderSpells}
use Rattle.load_header.specs.HeaderChanges.{with_load_crc}
use Rattle.media_build.specs.Accepted.{IsRecipeWord, IsFileLine, IsSoundLine, IsSmallLoad, IsRecipe}
use Rattle.media_build.specs.Lines.{members_of}
use Rattle.media_build.specs.NoFindings.{IsShortLoad, HasShortSources, SizesFit}
use Rattle.media_build.specs.RecipeSets.{Sources, RecipeLoadView, position_in, user_in, loads_of, hardware_of, data_of, support_of, distinct, positions_at, gathered, bytes_of, file_entry, header_start, header_bytes, load_crc_of, header_of}
use Rattle.media_build.specs.declared.statements.FileLine.{FileLine}
use Rattle.media_build.specs.declared.statements.RecipeLine.{RecipeLine}
use Rattle.media_build.specs.declared.statements.Statement.{Statement}
use Rattle.media_build.specs.declared.statements.Statement.TheVariants.{Set, Members, Load, Hardware, Position, Data, Support, User, Batch, Target}
use Rattle.media_build.proofs.BuiltLists.{all_flat, all_map, all_same, all_both, word_is_text, words_are_texts, IsSoundLoad, sound_loads, hardware_words, data_files, support_files}

-- ---- positions

abbrev Pair : Type 0
Pair = List ℕ × List ℕ

abbrev IsPair : Pair → Type 0
IsPair pair = IsRecipeWord 64 pair.0 × IsRecipeWord 64 pair.1

pair_in : (members : ℕ) (s : Statement) → IsSoundLine members s → AllByRecursion IsPair (position_in s)
pair_in members (Set part) is = tt
pair_in members (Members count) is = tt
pair_in members (Load load) is = tt
pair_in members (Hardware id) is = tt
pair_in members (Position id place) is = (is, tt)
pair_in members (Data file) is = tt
pair_in members (Support file) is = tt
pair_in members (User bytes) is = tt
pair_in members (Batch batch) is = tt
pair_in members (Target target) is = tt

pub all_filter : {A : Type 0} (P : A → Type 0) (p : A → Bool) (xs : List A) → AllByRecursion P xs → AllByRecursion P (filter p xs)
all_filter P p [] all = tt
all_filter P p (x ∷ xs) all = by (p x) (all_filter P p xs all.1)
  where
    by : (b : Bool) → AllByRecursion P (filter p xs) → AllByRecursion P (cond b (x ∷ filter p xs) (filter p xs))
    by true rest = (all.0, rest)
    by false rest = rest

all_distinct : (P : List ℕ → Type 0) (texts : List (List ℕ)) → AllByRecursion P texts → AllByRecursion P (distinct texts)
all_distinct P [] all = tt
all_distinct P (text ∷ texts) all = (all.0, all_filter P (λ other. not (same_bytes text other)) (distinct texts) (all_distinct P texts all.1))

-- a kind of hardware and its positions, of words
record AreWords (at : HardwareAtView) : Type 0 where
  hardware : IsRecipeWord 64 at.hardware
  positions : AllByRecursion (IsRecipeWord 64) at.positions

at_words : (pairs : List Pair) → AllByRecursion IsPair pairs → (hardware : List ℕ) → IsRecipeWord 64 hardware → AreWords (positions_at pairs hardware)
at_words pairs all hardware is = record {
  hardware = is;
  positions = all_map IsPair (IsRecipeWord 64) (λ pair. pair.1) (λ pair both. both.1) (filter (λ pair. same_bytes hardware pair.0) pairs)
      (all_filter IsPair (λ pair. same_bytes hardware pair.0) pairs all);
}

gathered_words : (pairs : List Pair) → AllByRecursion IsPair pairs → AllByRecursion AreWords (gathered pairs)
gathered_words pairs all =
    let ids = all_map IsPair (IsRecipeWord 64) (λ pair. pair.0) (λ pair both. both.0) pairs all in
    all_map (IsRecipeWord 64) AreWords (positions_at pairs) (at_words pairs all) (distinct (map (λ pair. pair.0) pairs)) (all_distinct (IsRecipeWord 64) (map (λ pair. pair.0) pairs) ids)

-- texts take more bytes than they are
few_texts : (texts : List (List ℕ)) → length texts ≤ spelled_length (flat_map padded_fields texts)
few_texts [] = omega arith
few_texts (text ∷ texts) = omega (arith, few_texts texts, size_more (padded_fields text) (flat_map padded_fields texts), size_padded text)

few_positions : (most : ℕ) (list : List HardwareAtView) → spelled_length (flat_map hardware_at_fields list) ≤ most → AllByRecursion (λ at. length at.positions ≤ most) list
few_positions most [] small = tt
few_positions most (at ∷ list) small =
    let one = size_more (padded_fields at.hardware) (texts_fields at.positions) in
    let parts = size_more (hardware_at_fields at) (flat_map hardware_at_fields list) in
    let texts = size_texts at.positions in
    let few = few_texts at.positions in
    (omega (arith, small, one, parts, texts, few), few_positions most list (omega (arith, small, parts)))

few_kinds : (list : List HardwareAtView) → length list ≤ spelled_length (flat_map hardware_at_fields list)
few_kinds [] = omega arith
few_kinds (at ∷ list) =
    omega (
      arith,
      few_kinds list,
      size_more (hardware_at_fields at) (flat_map hardware_at_fields list),
      size_more (padded_fields at.hardware) (texts_fields at.positions),
      size_padded at.hardware,
    )

size_positions : (list : List HardwareAtView) → spelled_length (positions_fields list) ≡ 2 + spelled_length (flat_map hardware_at_fields list)
unfolding positions_fields
size_positions list = omega (arith, size_more (number_fields 2 (length list)) (flat_map hardware_at_fields list), size_number 2 (length list))

positions_within : (h : HeaderView) → spelled_length (positions_fields h.positions) ≤ header_size h
unfolding header_size
positions_within h = omega arith

is_hardware_at : (at : HardwareAtView) → AreWords at × (length at.positions ≤ 65536 - 2) → IsHardwareAt at
is_hardware_at at is = (word_is_text 64 at.hardware (omega arith) is.0.hardware, (omega (arith, is.1), words_are_texts at.positions is.0.positions))

-- ---- files

entry_of : (sources : Sources) (members : ℕ) (file : FileLine) → IsFileLine members file × (length (bytes_of sources file) ≤ longest_file) → IsHeaderFile (file_entry sources file)
entry_of sources members file is = record {
  name = is.0.name;
  part = word_is_text 64 file.part (omega arith) is.0.part;
  size = is.1;
  sum = crc16_fits (bytes_of sources file);
}

pub first_part : {A : Type 0} (P : A → Type 0) (xs ys : List A) → AllByRecursion P (xs ++ ys) → AllByRecursion P xs
first_part P [] ys all = tt
first_part P (x ∷ xs) ys all = (all.0, first_part P xs ys all.1)

pub second_part : {A : Type 0} (P : A → Type 0) (xs ys : List A) → AllByRecursion P (xs ++ ys) → AllByRecursion P ys
second_part P [] ys all = all
second_part P (x ∷ xs) ys all = second_part P xs ys all.1

-- ---- user data

record IsUser (bytes : List ℕ) : Type 0 where
  each : IsBytes bytes
  even : length bytes % 2 ≡ 0

bytes_more : (xs ys : List ℕ) → IsBytes xs → IsBytes ys → (i : ℕ) → slice_index (xs ++ ys) i < 256
bytes_more [] ys first second i = second i
bytes_more (x ∷ xs) ys first second zero = first 0
bytes_more (x ∷ xs) ys first second (suc i) = bytes_more xs ys (λ k. first (suc k)) second i

user_more : (xs ys : List ℕ) → IsUser xs → IsUser ys → IsUser (xs ++ ys)
user_more xs ys first second = record { each = bytes_more xs ys first.each second.each; even = omega (arith, first.even, second.even, length-append xs ys) }

no_user : IsUser []
no_user = record { each = λ i. omega arith; even = refl }

user_line : (members : ℕ) (s : Statement) → IsSoundLine members s → IsUser (user_in s)
user_line members (Set part) is = no_user
user_line members (Members count) is = no_user
user_line members (Load load) is = no_user
user_line members (Hardware id) is = no_user
user_line members (Position id place) is = no_user
user_line members (Data file) is = no_user
user_line members (Support file) is = no_user
user_line members (User bytes) is = record { each = is.each; even = is.even }
user_line members (Batch batch) is = no_user
user_line members (Target target) is = no_user

user_of : (members : ℕ) (own : List Statement) → AllByRecursion (IsSoundLine members) own → IsUser (flat_map user_in own)
user_of members [] all = no_user
user_of members (s ∷ own) all = user_more (user_in s) (flat_map user_in own) (user_line members s all.0) (user_of members own all.1)

-- ---- headers

-- what a recipe and its sizes say of a load
pub record IsGoodLoad (sources : Sources) (members : ℕ) (load : RecipeLoadView) : Type 0 where
  pub sound : IsSoundLoad members load
  pub small : IsSmallLoad load
  pub short : IsShortLoad sources load
  pub files : HasShortSources sources load

hardware_within : (h : HeaderView) → spelled_length (texts_fields h.hardware) ≤ header_size h
unfolding header_size
hardware_within h = omega arith

-- a header of at most 65,536 bytes
pub short_is_header : (sources : Sources) (members : ℕ) (load : RecipeLoadView) → IsSoundLoad members load → IsSmallLoad load → HasShortSources sources load
    → header_size (header_start sources load) ≤ 65536 → IsHeader (header_start sources load)
unfolding header_start
short_is_header sources members load sound small files short =
    let h : HeaderView = header_start sources load in
    let pairs : List Pair = flat_map position_in load.own in
    let words = gathered_words pairs (all_flat (IsSoundLine members) IsPair position_in (pair_in members) load.own sound.own) in
    let size : header_size h ≤ 65536 = short in
    let within = positions_within h in
    let texts : spelled_length (texts_fields (hardware_of load)) ≤ 65536 = omega (arith, size, hardware_within h) in
    let few : length (hardware_of load) < 65536 = omega (arith, texts, size_texts (hardware_of load), few_texts (hardware_of load)) in
    let total = size_positions (gathered pairs) in
    let kinds = few_kinds (gathered pairs) in
    let room : spelled_length (flat_map hardware_at_fields (gathered pairs)) ≤ 65536 - 2 = omega (arith, size, within, total) in
    let each = all_both AreWords (λ at. length at.positions ≤ 65536 - 2) (gathered pairs) words (few_positions (65536 - 2) (gathered pairs) room) in
    let user = user_of members load.own sound.own in
    let data_sources = first_part (λ file. length (bytes_of sources file) ≤ longest_file) (data_of load) (support_of load) files in
    let support_sources = second_part (λ file. length (bytes_of sources file) ≤ longest_file) (data_of load) (support_of load) files in
    let data_entries = all_both (IsFileLine members) (λ file. length (bytes_of sources file) ≤ longest_file) (data_of load) (data_files members load sound) data_sources in
    let support_entries = all_both (IsFileLine members) (λ file. length (bytes_of sources file) ≤ longest_file) (support_of load) (support_files members load sound) support_sources in
    record {
      flags = omega arith;
      part = sound.line.part;
      type_name = word_is_text 64 load.load.type_name (omega arith) sound.line.type_name;
      type_id = sound.line.type_id;
      hardware = (omega (arith, few), words_are_texts (hardware_of load) (hardware_words members load sound));
      positions_count = omega (arith, kinds, room);
      positions = all_same _ IsHardwareAt is_hardware_at (gathered pairs) each;
      data_files = all_map _ IsHeaderFile (file_entry sources) (entry_of sources members) (data_of load) data_entries;
      support_files = all_map _ IsHeaderFile (file_entry sources) (entry_of sources members) (support_of load) support_entries;
      files = omega (arith, small.files, length-append (data_of load) (support_of load), length-map (data_of load) (file_entry sources), length-map (support_of load) (file_entry sources));
      user = user.each;
      user_even = user.even;
      load_crc = omega arith;
      size = size;
    }

pub start_is_header : (sources : Sources) (members : ℕ) (load : RecipeLoadView) → IsGoodLoad sources members load → IsHeader (header_start sources load)
start_is_header sources members load is = short_is_header sources members load is.sound is.small is.files is.short.header

pub with_crc : (h : HeaderView) (crc : ℕ) → crc < 2 ^ 32 → IsHeader h → IsHeader (with_load_crc h crc)
unfolding header_size type_fields
with_crc h crc fits is = record {
  flags = is.flags;
  part = is.part;
  type_name = is.type_name;
  type_id = is.type_id;
  hardware = is.hardware;
  positions_count = is.positions_count;
  positions = is.positions;
  data_files = is.data_files;
  support_files = is.support_files;
  files = is.files;
  user = is.user;
  user_even = is.user_even;
  load_crc = fits;
  size = is.size;
}

crc_within : (sources : Sources) (load : RecipeLoadView) → load_crc_of sources load < 2 ^ 32
unfolding load_crc_of
crc_within sources load = crc32_fits _

pub start_spells : (sources : Sources) (members : ℕ) (load : RecipeLoadView) → IsGoodLoad sources members load → HeaderSpells (header_start sources load) (header_bytes (header_start sources load))
start_spells sources members load is = (start_is_header sources members load is, refl)

pub header_spells : (sources : Sources) (members : ℕ) (load : RecipeLoadView) → IsGoodLoad sources members load → HeaderSpells (header_of sources load) (header_bytes (header_of sources load))
unfolding header_of
header_spells sources members load is =
    (with_crc (header_start sources load) (load_crc_of sources load) (crc_within sources load) (start_is_header sources members load is), refl)

-- each load of a recipe whose sizes fit
pub good_loads : (sources : Sources) (lines : List RecipeLine) → IsRecipe lines → SizesFit sources lines → AllByRecursion (IsGoodLoad sources (members_of lines)) (loads_of lines)
good_loads sources lines is fits = by (loads_of lines) (sound_loads lines is) is.loads fits.loads fits.files
  where
    by : (loads : List RecipeLoadView) → AllByRecursion (IsSoundLoad (members_of lines)) loads → AllByRecursion IsSmallLoad loads → AllByRecursion (IsShortLoad sources) loads
        → AllByRecursion (HasShortSources sources) loads → AllByRecursion (IsGoodLoad sources (members_of lines)) loads
    by [] sound small short files = tt
    by (load ∷ loads) sound small short files =
        (record { sound = sound.0; small = small.0; short = short.0; files = files.0 }, by loads sound.1 small.1 short.1 files.1)
