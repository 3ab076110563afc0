-- Sizes that are found right without the sources are right with them.
use Rattle.std.proofs.Common.{◌≡◌, ℕ, ◌≤◌, List, [], ◌∷◌, length, refl, sym, ◌∙◌, arith}
use Rattle.std.specs.Prelude.{map}
use Rattle.std.specs.List.{AllByRecursion, flat_map}
use Rattle.load_base.specs.Host.{longest_file}
use Rattle.load_header.specs.Header.{HeaderView}
use Rattle.load_header.specs.HeaderChanges.{HaveSameTexts, file_texts}
use Rattle.load_header.specs.HeaderFields.{header_size}
use Rattle.media_lists.specs.Loads.{IsListedLoad, IsLoadsList}
use Rattle.media_build.specs.Lines.{members_of}
use Rattle.media_build.specs.NoFindings.{IsShortLoad, HasShortSources, SizesFit}
use Rattle.media_build.specs.RecipeSets.{Sources, RecipeLoadView, loads_of, data_of, support_of, data_in, support_in, bytes_of, file_entry, header_start, load_entry, recipe_loads}
use Rattle.media_build.specs.declared.statements.FileLine.{FileLine}
use Rattle.media_build.specs.declared.statements.RecipeLine.{RecipeLine}
use Rattle.media_build.specs.declared.statements.Statement.{Statement}
use Rattle.media_build.specs.declared.statements.Statement.TheVariants.{Set, Members, Load, Hardware, Position, Data, Support, User, Batch, Target}
use Rattle.media_build.proofs.BuiltHeaders.{first_part, second_part}
use Rattle.media_build.proofs.BuiltLists.{all_append, map_map}

-- ---- headers

same_entries : (sources others : Sources) (files : List FileLine) → map file_texts (map (file_entry sources) files) ≡ map file_texts (map (file_entry others) files)
same_entries sources others files = map_map file_texts (file_entry sources) files ∙ sym (map_map file_texts (file_entry others) files)

-- headers of two sources differ in numbers alone
pub same_texts : (sources others : Sources) (load : RecipeLoadView) → HaveSameTexts (header_start sources load) (header_start others load)
unfolding header_start
same_texts sources others load = record {
  part = refl;
  type_name = refl;
  hardware = refl;
  positions = refl;
  data_files = same_entries sources others (data_of load);
  support_files = same_entries sources others (support_of load);
  user = refl;
}

-- ---- sources

-- the source that a line names
abbrev pub source_named : Statement → List (List ℕ)
source_named (Data file) = file.source ∷ []
source_named (Support file) = file.source ∷ []
source_named statement = []

abbrev IsShortSource : Sources → List ℕ → Type 0
IsShortSource sources name = length (sources name) ≤ longest_file

abbrev AreShort : Sources → List FileLine → Type 0
AreShort sources files = AllByRecursion (λ file. length (bytes_of sources file) ≤ longest_file) files

short_data : (sources : Sources) (own : List Statement) → AllByRecursion (IsShortSource sources) (flat_map source_named own) → AreShort sources (flat_map data_in own)
short_data sources [] all = tt
short_data sources (Set part ∷ own) all = short_data sources own all
short_data sources (Members count ∷ own) all = short_data sources own all
short_data sources (Load load ∷ own) all = short_data sources own all
short_data sources (Hardware id ∷ own) all = short_data sources own all
short_data sources (Position id place ∷ own) all = short_data sources own all
short_data sources (Data file ∷ own) all = (all.0, short_data sources own all.1)
short_data sources (Support file ∷ own) all = short_data sources own all.1
short_data sources (User bytes ∷ own) all = short_data sources own all
short_data sources (Batch batch ∷ own) all = short_data sources own all
short_data sources (Target target ∷ own) all = short_data sources own all

short_support : (sources : Sources) (own : List Statement) → AllByRecursion (IsShortSource sources) (flat_map source_named own) → AreShort sources (flat_map support_in own)
short_support sources [] all = tt
short_support sources (Set part ∷ own) all = short_support sources own all
short_support sources (Members count ∷ own) all = short_support sources own all
short_support sources (Load load ∷ own) all = short_support sources own all
short_support sources (Hardware id ∷ own) all = short_support sources own all
short_support sources (Position id place ∷ own) all = short_support sources own all
short_support sources (Data file ∷ own) all = short_support sources own all.1
short_support sources (Support file ∷ own) all = (all.0, short_support sources own all.1)
short_support sources (User bytes ∷ own) all = short_support sources own all
short_support sources (Batch batch ∷ own) all = short_support sources own all
short_support sources (Target target ∷ own) all = short_support sources own all

-- the sources that the lines of loads name
abbrev pub sources_named : List RecipeLoadView → List (List ℕ)
sources_named loads = flat_map (λ load. flat_map source_named load.own) loads

pub short_sources : (sources : Sources) (loads : List RecipeLoadView) → AllByRecursion (IsShortSource sources) (sources_named loads) → AllByRecursion (HasShortSources sources) loads
short_sources sources [] all = tt
short_sources sources (load ∷ loads) all =
    let mine = first_part (IsShortSource sources) (flat_map source_named load.own) (sources_named loads) all in
    let others = second_part (IsShortSource sources) (flat_map source_named load.own) (sources_named loads) all in
    (all_append _ (data_of load) (support_of load) (short_data sources load.own mine) (short_support sources load.own mine), short_sources sources loads others)

-- ---- the whole

short_loads : (sources others : Sources) (members : ℕ) (loads : List RecipeLoadView) → ((g h : HeaderView) → HaveSameTexts g h → header_size g ≡ header_size h)
    → AllByRecursion (λ load. header_size (header_start others load) ≤ 65536) loads → AllByRecursion (IsListedLoad members) (map load_entry loads) → AllByRecursion (IsShortLoad sources) loads
short_loads sources others members [] same short listed = tt
short_loads sources others members (load ∷ loads) same short listed =
    let size : header_size (header_start sources load) ≡ header_size (header_start others load) = same (header_start sources load) (header_start others load) (same_texts sources others load) in
    let here : header_size (header_start others load) ≤ 65536 = short.0 in
    (record { header = omega (arith, size, here); hardware = listed.0.few }, short_loads sources others members loads same short.1 listed.1)

pub sizes_fit_with : (sources others : Sources) (lines : List RecipeLine) → ((g h : HeaderView) → HaveSameTexts g h → header_size g ≡ header_size h)
    → AllByRecursion (λ load. header_size (header_start others load) ≤ 65536) (loads_of lines) → IsLoadsList (recipe_loads lines 1) → AllByRecursion (HasShortSources sources) (loads_of lines)
    → SizesFit sources lines
unfolding recipe_loads
sizes_fit_with sources others lines same short fits files = record {
  loads = short_loads sources others (members_of lines) (loads_of lines) same short fits.entries.each;
  list = fits.size;
  files = files;
}
