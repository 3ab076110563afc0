-- The generated set is one that a recipe names, and its sizes fit.
use Rattle.std.proofs.Common.{◌≡◌, ℕ, zero, suc, ◌/◌, ◌^◌, ◌≤◌, List, [], ◌∷◌, ◌++◌, ◌-◌, length, take, Result, Ok, Err, refl, sym, ap, ◌∙◌, arith, length-append}
use Rattle.std.specs.Prelude.{codes, IfOk}
use Rattle.std.specs.List.{concat, sum_by}
use Rattle.std.proofs.lemmas.List.{append-nil}
use Rattle.crc_fields.specs.CheckSums.{crc16_of, crc32_of}
use Rattle.load_base.specs.Listed.{Listed}
use Rattle.text_words.specs.Words.{written_lines, decimal_between}
use Rattle.load_base.specs.Name.{IsName}
use Rattle.load_base.specs.Text.{IsText}
use Rattle.load_base.specs.Verdicts.{name_fault_of}
use Rattle.part_number.specs.Verdicts.{part_fault_of}
use Rattle.part_number.specs.PartNumber.{IsPartNumberText, is_good_at, check_of}
use Rattle.field_grammar.specs.Fields.{number_bytes, number_fields, pad_bytes}
use Rattle.field_grammar.proofs.SectionLemmas.{size_more, size_number}
use Rattle.field_grammar.specs.Spelling.{listed_fields}
use Rattle.header_sections.specs.SectionFields.{texts_fields, user_fields, entries_fields}
use Rattle.load_header.specs.HeaderFields as header
use Rattle.load_header.specs.Header.{HeaderView}
use Rattle.load_header.specs.HeaderChanges.{with_load_crc}
use Rattle.load_header.specs.HeaderFields.{header_size, covered_fields, header_fields, IsHeader, HeaderSpells}
use Rattle.media_lists.specs.ListFields as lists
use Rattle.media_lists.specs.ListFields.{list_size, list_fields}
use Rattle.media_lists.specs.Files.{FilesListView, FilesSpells, IsFilesList, file_body_fields}
use Rattle.media_lists.specs.Loads.{LoadsListView, LoadsSpells, load_body_fields, IsLoadsList}
use Rattle.media_check.specs.BuiltSets.{built_media, HasShortBodies}
use Rattle.media_check.specs.Findings.{findings_of}
use Rattle.media_check.specs.Sets.{set_in}
use Rattle.media_check.specs.declared.built.Built.{Built}
use Rattle.media_build.specs.Accepted.{IsMemberOf, IsRecipe}
use Rattle.media_build.specs.Building.{IsSmallSet}
use Rattle.media_build.specs.Generator.{generated, state_at}
use Rattle.media_build.specs.GeneratedSet.{generated_recipe, generated_lines, generated_load_view, always, generated_sources, set_of_one}
use Rattle.media_build.specs.Lines.{keyword_of, may_stand, stage_of, names_of, members_of, lines_of_load}
use Rattle.media_build.specs.NoFindings.{SizesFit, built_view}
use Rattle.media_build.specs.Recipes.{recipe_said, words_said, keyword_said, set_line, members_line, load_line, load_said, placed_words, new_place, type_words, hardware_line, file_line, file_said, source_words, part_word, text_word, name_word, ends_with}
use Rattle.media_build.specs.RecipeSets.{Sources, BuiltView, header_start, header_bytes, header_of, load_crc_of, load_bodies, recipe_bodies, recipe_loads, recipe_files, loads_list_bytes, files_list_bytes, recipe_set}
use Rattle.media_build.specs.declared.statements.RecipeLine.{RecipeLine}
use Rattle.media_build.proofs.AcceptedRecipes.{what_a_text_says_is_a_recipe}
use Rattle.media_build.proofs.BuiltHeaders.{IsGoodLoad, good_loads, start_is_header, header_spells}
use Rattle.media_build.proofs.BuiltLists.{word_is_text, loads_fit, files_fit}
use Rattle.media_build.proofs.ReadableSets.{total_built}

pub generated_said : recipe_said generated_recipe ≡ Ok generated_lines
unfolding recipe_said words_said keyword_said set_line members_line load_line load_said placed_words new_place type_words hardware_line file_line file_said source_words part_word text_word name_word ends_with keyword_of may_stand stage_of names_of members_of lines_of_load written_lines decimal_between name_fault_of part_fault_of is_good_at check_of
generated_said = refl

pub is_recipe : IsRecipe generated_lines
is_recipe = what_a_text_says_is_a_recipe generated_recipe generated_lines generated_said

pub generated_size : (number count : ℕ) → length (generated number count) ≡ count
unfolding generated
generated_size number zero = refl
generated_size number (suc count) = omega (arith, generated_size number count, length-append (generated number count) (state_at number (suc count) / 2 ^ 24 ∷ []))

list_is_short : list_size load_body_fields (recipe_loads generated_lines 1) ≤ 1048576
unfolding number_bytes pad_bytes listed_fields texts_fields user_fields entries_fields load_body_fields lists.head_fields lists.identity_fields lists.list_size members_of recipe_loads
list_is_short = omega arith

pub header_is_short : (bytes : List ℕ) → header_size (header_start (always bytes) generated_load_view) ≡ 122
unfolding number_bytes pad_bytes listed_fields texts_fields user_fields entries_fields header.positions_fields header.file_body_fields header.type_fields header.header_size header_start
header_is_short bytes = refl

pub sizes_fit : (bytes : List ℕ) → length bytes ≤ 16777215 → SizesFit (always bytes) generated_lines
sizes_fit bytes short = record {
  loads = (record { header = omega (arith, header_is_short bytes); hardware = omega arith }, tt);
  list = list_is_short;
  files = ((short, tt), tt);
}

-- ---- its words

pub set_number : IsPartNumberText (codes "XYZ5A-0000-0001")
set_number = is_recipe.each.0

pub load_number : IsPartNumberText (codes "ABC41-0000-0001")
load_number = is_recipe.each.1.1.0.part

pub header_name : IsName (codes "MAKE.LUH")
header_name = is_recipe.each.1.1.0.name

pub file_name : IsName (codes "MAKE.BIN")
file_name = is_recipe.each.1.1.1.1.0.name

pub hardware_text : IsText (codes "HW1")
hardware_text = word_is_text 64 (codes "HW1") (omega arith) is_recipe.each.1.1.1.0

pub type_text : IsText (codes "MAKE")
type_text = word_is_text 64 (codes "MAKE") (omega arith) is_recipe.each.1.1.0.type_name

-- ---- its header and its lists

is_good : (bytes : List ℕ) → length bytes ≤ 16777215 → IsGoodLoad (always bytes) 1 generated_load_view
unfolding members_of
is_good bytes short = (good_loads (always bytes) generated_lines is_recipe (sizes_fit bytes short)).0

pub header_start_fits : (bytes : List ℕ) → length bytes ≤ 16777215 → IsHeader (header_start (always bytes) generated_load_view)
header_start_fits bytes short = start_is_header (always bytes) 1 generated_load_view (is_good bytes short)

pub header_fits : (bytes : List ℕ) → length bytes ≤ 16777215 → IsHeader (header_of (always bytes) generated_load_view)
header_fits bytes short = (header_spells (always bytes) 1 generated_load_view (is_good bytes short)).0

one_member : IsMemberOf (members_of generated_lines) 1
unfolding members_of
one_member = record { first = omega arith; last = omega arith }

pub generated_loads_fit : IsLoadsList (recipe_loads generated_lines 1)
generated_loads_fit = loads_fit (always []) generated_lines 1 is_recipe (sizes_fit [] (omega arith)) one_member

pub generated_files_fit : (bytes : List ℕ) → IsFilesList (recipe_files (always bytes) generated_lines 1)
generated_files_fit bytes = files_fit (always bytes) generated_lines 1 is_recipe one_member

-- ---- the whole

pub parts_are_the_set : (loads files header file : List ℕ) → loads ≡ loads_list_bytes generated_lines 1 → files ≡ files_list_bytes (always file) generated_lines 1
    → header ≡ header_bytes (header_of (always file) generated_load_view) → set_of_one loads files header file ≡ recipe_set (always file) generated_lines
unfolding recipe_set recipe_bodies load_bodies members_of
parts_are_the_set loads files header file loads_are files_are header_is = rw (loads_are, files_are, header_is) refl

-- ---- what is written

pub loads_written : {E : Type 0} (r : Result (Listed ℕ) E) (v : LoadsListView) → v ≡ recipe_loads generated_lines 1 → IfOk r (λ bytes. LoadsSpells v bytes.items)
    → IfOk r (λ bytes. bytes.items ≡ loads_list_bytes generated_lines 1)
unfolding loads_list_bytes
loads_written (Ok bytes) v is spells = spells.1 ∙ ap (λ (l : LoadsListView). concat (list_fields 0x9004 load_body_fields l)) is
loads_written (Err fault) v is spells = spells

pub files_written : {E : Type 0} (file : List ℕ) (r : Result (Listed ℕ) E) (v : FilesListView) → v ≡ recipe_files (always file) generated_lines 1 → IfOk r (λ bytes. FilesSpells v bytes.items)
    → IfOk r (λ bytes. bytes.items ≡ files_list_bytes (always file) generated_lines 1)
unfolding files_list_bytes
files_written file (Ok bytes) v is spells = spells.1 ∙ ap (λ (l : FilesListView). concat (list_fields 0xA004 file_body_fields l)) is
files_written file (Err fault) v is spells = spells

ends_in_load_crc : (h : HeaderView) → 4 ≤ length (concat (header_fields h))
unfolding header_fields
ends_in_load_crc h =
    let sums : List (List ℕ) = number_fields 2 (crc16_of (concat (covered_fields h))) ++ number_fields 4 h.load_crc in
    omega (arith, size_more (covered_fields h) sums, size_more (number_fields 2 (crc16_of (concat (covered_fields h)))) (number_fields 4 h.load_crc), size_number 4 h.load_crc)

pub start_is_long : (h : HeaderView) (slice start : List ℕ) → HeaderSpells h start → slice ≡ start → 4 ≤ length slice
start_is_long h slice start spells same = rw (same, spells.1) (ends_in_load_crc h)

pub whole_is : (file : List ℕ) (h : HeaderView) (slice start : List ℕ) (crc : ℕ) → h ≡ header_start (always file) generated_load_view → HeaderSpells h start → slice ≡ start
    → crc ≡ crc32_of (take (length slice - 4) slice ++ file) → with_load_crc h crc ≡ header_of (always file) generated_load_view
unfolding header_of load_crc_of
whole_is file h slice start crc is spells same sum =
    let bytes : slice ≡ header_bytes (header_start (always file) generated_load_view) = same ∙ (spells.1 ∙ ap header_bytes is) in
    let given : file ≡ file ++ [] = sym (append-nil file) in
    rw is (ap (λ (n : ℕ). with_load_crc (header_start (always file) generated_load_view) n)
    (sum ∙ (ap (λ (s : List ℕ). crc32_of (take (length s - 4) s ++ file)) bytes
    ∙ ap (λ (f : List ℕ). crc32_of (take (length (header_bytes (header_start (always file) generated_load_view)) - 4) (header_bytes (header_start (always file) generated_load_view)) ++ f)) given)))

pub header_written : {E : Type 0} (file : List ℕ) (r : Result (Listed ℕ) E) (h : HeaderView) → h ≡ header_of (always file) generated_load_view → IfOk r (λ bytes. HeaderSpells h bytes.items)
    → IfOk r (λ bytes. bytes.items ≡ header_bytes (header_of (always file) generated_load_view))
header_written file (Ok bytes) h is spells = spells.1 ∙ ap header_bytes is
header_written file (Err fault) h is spells = spells

pub header_is_small : {E : Type 0} (r : Result (Listed ℕ) E) (h : HeaderView) → ((g : HeaderView) (bytes : List ℕ) → HeaderSpells g bytes → length bytes ≡ header_size g)
    → IfOk r (λ bytes. HeaderSpells h bytes.items) → IfOk r (λ bytes. length bytes.items ≤ 65536)
header_is_small (Ok bytes) h sizes spells = let size : header_size h ≤ 65536 = spells.0.size in omega (arith, size, sizes h bytes.items spells)
header_is_small (Err fault) h sizes spells = spells

pub made_set : {E : Type 0} (r : Result Built E) (number : ℕ) (loads files header file slice : List ℕ) → slice ≡ file → file ≡ generated number 4194304
    → loads ≡ loads_list_bytes generated_lines 1 → files ≡ files_list_bytes (always slice) generated_lines 1 → header ≡ header_bytes (header_of (always slice) generated_load_view)
    → IfOk r (λ built. built_view built ≡ set_of_one loads files header file) → IfOk r (λ built. built_view built ≡ recipe_set (generated_sources number) generated_lines)
made_set (Ok built) number loads files header file slice same is loads_are files_are header_is parts =
    parts ∙ (ap (λ (f : List ℕ). set_of_one loads files header f) (sym same)
    ∙ (parts_are_the_set loads files header slice loads_are files_are header_is ∙ ap (λ (f : List ℕ). recipe_set (always f) generated_lines) (same ∙ is)))
made_set (Err fault) number loads files header file slice same is loads_are files_are header_is parts = parts

pub made_sound : {E : Type 0} (r : Result Built E) (number : ℕ)
    → ((sources : Sources) (lines : List RecipeLine) (built : Built) → IsRecipe lines → SizesFit sources lines → built_view built ≡ recipe_set sources lines → findings_of (set_in (built_media built)) ≡ [])
    → IfOk r (λ built. built_view built ≡ recipe_set (generated_sources number) generated_lines) → IfOk r (λ built. findings_of (set_in (built_media built)) ≡ [])
made_sound (Ok built) number law is =
    let size = generated_size number 4194304 in
    law (generated_sources number) generated_lines built is_recipe (sizes_fit (generated number 4194304) (rw size (omega arith))) is
made_sound (Err fault) number law is = is

-- its two files, one by one and together
pub made_small : {E : Type 0} (r : Result Built E) (loads files header file : List ℕ) → length header ≤ 65536 → length file ≤ 16777215
    → IfOk r (λ built. built_view built ≡ set_of_one loads files header file) → IfOk r HasShortBodies → IfOk r IsSmallSet
made_small (Ok built) loads files header file small short parts bodies =
    let total = total_built built.bodies.items in
    let these = ap (λ (set : BuiltView). sum_by (λ body. length body.bytes) set.bodies) parts in
    record { bodies = bodies; together = omega (arith, total, these, small, short) }
made_small (Err fault) loads files header file small short parts bodies = parts
