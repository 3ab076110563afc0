-- The generated set of a number (docs/FORMATS.md, "Generated set").
use Rattle.std.specs.Prelude.{ℕ, List, [], ◌∷◌, codes}
use Rattle.text_words.specs.Words.{lines}
use Rattle.media_build.specs.Generator.{generated}
use Rattle.media_build.specs.RecipeSets.{BuiltView, RecipeLoadView, Sources}
use Rattle.media_build.specs.declared.statements.FileLine.{FileLine}
use Rattle.media_build.specs.declared.statements.LoadLine.{LoadLine}
use Rattle.media_build.specs.declared.statements.RecipeLine.{RecipeLine}
use Rattle.media_build.specs.declared.statements.Statement.TheVariants.{Set, Members, Load, Hardware, Data}

-- the recipe of the generated set, as text
abbrev pub generated_recipe : List ℕ
generated_recipe = lines (codes "set XYZ5A-0000-0001" ∷ codes "members 1" ∷ codes "load ABC41-0000-0001 MAKE.LUH 1 1 MAKE"
    ∷ codes "hardware HW1" ∷ codes "data MAKE.BIN 1 generated MAKE" ∷ [])

-- its one load, and the one file of that
abbrev pub generated_load : LoadLine
generated_load = record { part = codes "ABC41-0000-0001"; name = codes "MAKE.LUH"; member = 1; type_id = 1; type_name = codes "MAKE" }

abbrev pub generated_file : FileLine
generated_file = record { name = codes "MAKE.BIN"; member = 1; source = codes "generated"; part = codes "MAKE" }

-- what it says
abbrev pub generated_lines : List RecipeLine
generated_lines =
    record { number = 1; statement = Set (codes "XYZ5A-0000-0001") } ∷ record { number = 2; statement = Members 1 }
    ∷ record { number = 3; statement = Load generated_load } ∷ record { number = 4; statement = Hardware (codes "HW1") }
    ∷ record { number = 5; statement = Data generated_file } ∷ []

abbrev pub generated_load_view : RecipeLoadView
generated_load_view = record { number = 3; load = generated_load; own = Hardware (codes "HW1") ∷ Data generated_file ∷ [] }

-- each source has these bytes
abbrev pub always : List ℕ → Sources
always bytes name = bytes

-- its source: 4,194,304 bytes of the generator from this number
abbrev pub generated_sources : (number : ℕ) → Sources
generated_sources number = always (generated number 4194304)

-- a set of one member with these lists, this header and this file
abbrev pub set_of_one : (loads files header file : List ℕ) → BuiltView
set_of_one loads files header file = record {
  loads = loads ∷ [];
  files = files ∷ [];
  batches = [];
  bodies =
      record { name = codes "MAKE.LUH"; member = 1; bytes = header } ∷ record { name = codes "MAKE.BIN"; member = 1; bytes = file } ∷ [];
}
