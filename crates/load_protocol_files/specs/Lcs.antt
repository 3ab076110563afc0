-- Configuration status files (docs/FORMATS.md).
use Rattle.std.specs.Prelude.{ℕ, ◌<◌, ◌^◌, List, ◌++◌}
use Rattle.field_grammar.specs.Grammar.{Grammar, pair, mapped}
use Rattle.field_grammar.specs.Fields.{short_fields}
use Rattle.load_base.specs.Text.{IsText}
use Rattle.load_protocol_files.specs.declared.fault.FileFault.{FileFault}
use Rattle.load_protocol_files.specs.declared.lcs.Lcs.{Lcs}
use Rattle.load_protocol_files.specs.Pieces.{u16, text, u16_fields}
use Rattle.load_protocol_files.specs.Files.{file, FileSpells}

abbrev pub LcsParts : Type 0
LcsParts = ℕ × (ℕ × (ℕ × (ℕ × List ℕ)))

abbrev pub lcs_parts : Grammar FileFault LcsParts
lcs_parts = pair u16 (pair u16 (pair u16 (pair u16 text)))

abbrev pub to_lcs : LcsParts → Lcs
to_lcs p = record { counter = p.0; status = p.1.0; exception = p.1.1.0; estimated = p.1.1.1.0; description = p.1.1.1.1 }

unfoldable pub lcs_body : Grammar FileFault Lcs
lcs_body = mapped to_lcs lcs_parts

-- an LCS: counter, status, exception, estimated time and description
abbrev pub lcs : Grammar FileFault Lcs
lcs = file lcs_body

abbrev pub lcs_fields : Lcs → List (List ℕ)
lcs_fields v = u16_fields v.counter ++ (u16_fields v.status ++ (u16_fields v.exception ++ (u16_fields v.estimated ++ short_fields v.description)))

pub record LcsFits (v : Lcs) : Type 0 where
  pub counter : v.counter < 2 ^ 16
  pub status : v.status < 2 ^ 16
  pub exception : v.exception < 2 ^ 16
  pub estimated : v.estimated < 2 ^ 16
  pub description : IsText v.description

-- the bytes are the file of this value
abbrev pub LcsSpells : Lcs → List ℕ → Type 0
LcsSpells v bytes = FileSpells lcs_fields LcsFits v bytes
