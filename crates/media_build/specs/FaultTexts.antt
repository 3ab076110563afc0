-- The texts of the faults of a recipe (docs/FORMATS.md, "Recipe").
use Rattle.std.specs.Prelude.{ℕ, List, [], ◌∷◌, codes}
use Rattle.printed_text.specs.FaultTexts.{coded}
use Rattle.media_build.specs.declared.fault.RecipeFault.{RecipeFault}
use Rattle.media_build.specs.declared.fault.RecipeFault.TheVariants.{Word, Number, Name, Part, Order, Repeated, Hex, Limit, NotInRecipe, Memory}

-- a code and the line; out of memory isn't printed so
abbrev pub recipe_fault_text : RecipeFault → List ℕ
recipe_fault_text (Word line) = coded (codes "B1") (line ∷ [])
recipe_fault_text (Number line) = coded (codes "B2") (line ∷ [])
recipe_fault_text (Name line) = coded (codes "B3") (line ∷ [])
recipe_fault_text (Part line) = coded (codes "B4") (line ∷ [])
recipe_fault_text (Order line) = coded (codes "B5") (line ∷ [])
recipe_fault_text (Repeated line) = coded (codes "B6") (line ∷ [])
recipe_fault_text (Hex line) = coded (codes "B7") (line ∷ [])
recipe_fault_text (Limit line) = coded (codes "B8") (line ∷ [])
recipe_fault_text (NotInRecipe line) = coded (codes "B9") (line ∷ [])
recipe_fault_text Memory = []
