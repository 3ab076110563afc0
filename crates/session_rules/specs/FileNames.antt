-- The names of protocol files (docs/EXCHANGE.md, "Operations").
use Rattle.std.specs.Prelude.{ℕ, List, ◌∷◌, ◌++◌, codes}
use Rattle.session_rules.specs.declared.outcome.FileKind.{FileKind}
use Rattle.session_rules.specs.declared.outcome.FileKind.TheVariants.{Lci, Lcl, Lcs, Lui, Lur, Lus}

abbrev pub extension : FileKind → List ℕ
extension Lci = codes ".LCI"
extension Lcl = codes ".LCL"
extension Lcs = codes ".LCS"
extension Lui = codes ".LUI"
extension Lur = codes ".LUR"
extension Lus = codes ".LUS"

-- the file of this kind of the target with this hardware and position, as in `HW1_L.LUI`
unfoldable pub file_name : (hw pos : List ℕ) → FileKind → List ℕ
file_name hw pos kind = hw ++ 95 ∷ pos ++ extension kind
