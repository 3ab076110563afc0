-- When the set of a recipe keeps to the limits of its formats, and media that have it.
use Rattle.std.specs.Prelude.{◌≡◌, ℕ, ◌≤◌, List, length, map, Some}
use Rattle.std.specs.List.{AllByRecursion}
use Rattle.load_base.specs.Host.{longest_file}
use Rattle.load_header.specs.HeaderFields.{header_size}
use Rattle.media_lists.specs.ListFields.{list_size}
use Rattle.media_lists.specs.Loads.{load_body_fields}
use Rattle.media_check.specs.Sets.{MediaBytes}
use Rattle.media_check.specs.declared.built.Built.{Built}
use Rattle.media_check.specs.declared.built.Placed.{Placed}
use Rattle.media_build.specs.Accepted.{IsMemberOf}
use Rattle.media_build.specs.Lines.{members_of}
use Rattle.media_build.specs.RecipeSets.{Sources, RecipeLoadView, loads_of, hardware_of, files_of, bytes_of, header_start, recipe_loads, loads_list_bytes, files_list_bytes, batches_list_of, listed_body, recipe_bodies, BodyView, BuiltView}
use Rattle.media_build.specs.declared.statements.RecipeLine.{RecipeLine}

-- ---- the limits

-- a header of at most 65,536 bytes, for at most 1,024 kinds of hardware
pub record IsShortLoad (sources : Sources) (load : RecipeLoadView) : Type 0 where
  pub header : header_size (header_start sources load) ≤ 65536
  pub hardware : length (hardware_of load) ≤ 1024

-- the sources of a load have at most 16,777,215 bytes each
abbrev pub HasShortSources : Sources → RecipeLoadView → Type 0
HasShortSources sources load = AllByRecursion (λ file. length (bytes_of sources file) ≤ longest_file) (files_of load)

-- No header, list or source is too long. FILES.LUM and BATCHES.LUM never are, since a set has at most 1,024 files.
pub record SizesFit (sources : Sources) (lines : List RecipeLine) : Type 0 where
  pub loads : AllByRecursion (IsShortLoad sources) (loads_of lines)
  pub list : list_size load_body_fields (recipe_loads lines 1) ≤ 1048576
  pub files : AllByRecursion (HasShortSources sources) (loads_of lines)

-- ---- what was built

abbrev pub body_view : Placed → BodyView
body_view body = record { name = body.name; member = body.member; bytes = body.bytes.items }

-- a set that was built, without the spare capacity of its lists
abbrev pub built_view : Built → BuiltView
built_view built = record {
  loads = map (λ list. list.items) built.loads.items;
  files = map (λ list. list.items) built.files.items;
  batches = map (λ list. list.items) built.batches.items;
  bodies = map body_view built.bodies.items;
}

-- Media have the loads and the files of a recipe's set: both lists of each member, and for each entry of FILES.LUM its file.
pub record HaveFiles (media : MediaBytes) (sources : Sources) (lines : List RecipeLine) : Type 0 where
  pub loads : (member : ℕ) → IsMemberOf (members_of lines) member → media.loads_list member ≡ Some (loads_list_bytes lines member)
  pub files : (member : ℕ) → IsMemberOf (members_of lines) member → media.files_list member ≡ Some (files_list_bytes sources lines member)
  pub bodies : AllByRecursion (λ body. media.listed (listed_body body) ≡ Some body.bytes) (recipe_bodies sources lines)

-- each member's list of batches is the recipe's
abbrev pub HaveBatches : MediaBytes → List RecipeLine → Type 0
HaveBatches media lines = (member : ℕ) → IsMemberOf (members_of lines) member → media.batches_list member ≡ batches_list_of lines member

-- Media have the set of a recipe.
pub record HaveSet (media : MediaBytes) (sources : Sources) (lines : List RecipeLine) : Type 0 where
  pub has : HaveFiles media sources lines
  pub batches : HaveBatches media lines
