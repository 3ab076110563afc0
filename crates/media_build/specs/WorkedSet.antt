-- Recipes of one load with one data file, with a batch and without.
use Rattle.std.specs.Prelude.{ℕ, List, [], ◌∷◌, ◌++◌, codes}
use Rattle.media_build.specs.RecipeSets.{RecipeLoadView, Sources}
use Rattle.media_build.specs.declared.statements.LoadLine.{LoadLine}
use Rattle.media_build.specs.declared.statements.RecipeLine.{RecipeLine}
use Rattle.media_build.specs.declared.statements.Statement.{Statement}
use Rattle.media_build.specs.declared.statements.Statement.TheVariants.{Set, Members, Load, Hardware, Position, Data, Support, User, Batch, Target}

-- each source has these bytes
abbrev pub nine_bytes : Sources
nine_bytes name = codes "123456789"

abbrev pub load_line : LoadLine
load_line = record { part = codes "ABC41-0000-0001"; name = codes "APP.LUH"; member = 1; type_id = 7; type_name = codes "APP" }

abbrev pub own_lines : List Statement
own_lines =
    Hardware (codes "HW1") ∷ Data (record { name = codes "APP.BIN"; member = 1; source = codes "app.bin"; part = codes "APP1" }) ∷ []

abbrev pub one_load : RecipeLoadView
one_load = record { number = 3; load = load_line; own = own_lines }

abbrev pub one_load_recipe : List RecipeLine
one_load_recipe =
    record { number = 1; statement = Set (codes "XYZ5A-0000-0001") } ∷ record { number = 2; statement = Members 1 }
    ∷ record { number = 3; statement = Load load_line } ∷ record { number = 4; statement = Hardware (codes "HW1") }
    ∷ record { number = 5; statement = Data (record { name = codes "APP.BIN"; member = 1; source = codes "app.bin"; part = codes "APP1" }) } ∷ []

-- a target at this position that gets the load
abbrev pub target_at : (line : ℕ) → (pos : List ℕ) → RecipeLine
target_at line pos = record { number = line; statement = Target (record { hw = codes "HW1"; pos = pos; parts = codes "ABC41-0000-0001" ∷ [] }) }

-- the same recipe with a batch for two targets
abbrev pub one_batch_recipe : List RecipeLine
one_batch_recipe =
    one_load_recipe ++ record { number = 6; statement = Batch (record { part = codes "ABC43-0000-0003"; name = codes "TWO.LUB"; member = 1 }) }
    ∷ target_at 7 (codes "L") ∷ target_at 8 (codes "R") ∷ []

-- no bytes: no length depends on them
abbrev pub no_bytes : Sources
no_bytes name = []

-- a load with a hardware, a position, two data files, a support file and user data
abbrev pub three_files : RecipeLoadView
three_files = record {
  number = 3;
  load = record { part = codes "ABC41-0000-0001"; name = codes "NAV.LUH"; member = 1; type_id = 7; type_name = codes "NAVDATA" };
  own =
      Hardware (codes "FMC-1") ∷ Position (codes "FMC-2") (codes "L")
      ∷ Data (record { name = codes "NAV1.BIN"; member = 1; source = codes "nav1.bin"; part = codes "NAV1" })
      ∷ Data (record { name = codes "NAV2.BIN"; member = 2; source = codes "nav2.bin"; part = codes "NAV2" })
      ∷ Support (record { name = codes "NAV.TXT"; member = 1; source = codes "nav.txt"; part = codes "NOTE" })
      ∷ User (0x4E ∷ 0x4F ∷ 0x54 ∷ 0x45 ∷ []) ∷ [];
}
