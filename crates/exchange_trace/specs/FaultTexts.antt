-- The texts of the faults of a script (docs/FORMATS.md, "Script").
use Rattle.std.specs.Prelude.{ℕ, List, [], ◌∷◌, codes}
use Rattle.printed_text.specs.FaultTexts.{coded}
use Rattle.exchange_trace.specs.declared.fault.ScriptFault.{ScriptFault}
use Rattle.exchange_trace.specs.declared.fault.ScriptFault.TheVariants.{Word, Number, Hex, Name, TooLong, Unit, Memory}

-- a code, and the line where there is one; out of memory isn't printed so
abbrev pub script_fault_text : ScriptFault → List ℕ
script_fault_text (Word line) = coded (codes "S1") (line ∷ [])
script_fault_text (Number line) = coded (codes "S2") (line ∷ [])
script_fault_text (Hex line) = coded (codes "S3") (line ∷ [])
script_fault_text (Name line) = coded (codes "S4") (line ∷ [])
script_fault_text TooLong = coded (codes "S5") []
script_fault_text (Unit line) = coded (codes "S6") (line ∷ [])
script_fault_text Memory = []
