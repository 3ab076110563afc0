-- The kinds of files, by the ends of their names (docs/FORMATS.md).
use Rattle.std.specs.Prelude.{◌≡◌, ℕ, ◌-◌, ◌≤◌, List, length, drop, codes}
use Rattle.shown_files.specs.declared.kind.ShownKind.{ShownKind}
use Rattle.shown_files.specs.declared.kind.ShownKind.TheVariants as kinds

-- the last bytes of the word are these
abbrev pub EndsWith : List ℕ → List ℕ → Type 0
EndsWith end word = (length end ≤ length word) × (drop (length word - length end) word ≡ end)

-- what the name of a file of this kind ends with
abbrev pub ending_of : ShownKind → List ℕ
ending_of kinds.Header = codes ".LUH"
ending_of kinds.LoadsList = codes "LOADS.LUM"
ending_of kinds.FilesList = codes "FILES.LUM"
ending_of kinds.BatchesList = codes "BATCHES.LUM"
ending_of kinds.Batch = codes ".LUB"
ending_of kinds.Lci = codes ".LCI"
ending_of kinds.Lcl = codes ".LCL"
ending_of kinds.Lcs = codes ".LCS"
ending_of kinds.Lui = codes ".LUI"
ending_of kinds.Lur = codes ".LUR"
ending_of kinds.Lus = codes ".LUS"

-- a file of this name is of this kind
abbrev pub IsNameOf : ShownKind → List ℕ → Type 0
IsNameOf kind name = EndsWith (ending_of kind) name
