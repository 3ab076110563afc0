-- Upload request files (docs/FORMATS.md).
use Rattle.std.specs.Prelude.{ℕ, ◌<◌, ◌≤◌, ◌^◌, List, ◌++◌, length}
use Rattle.std.specs.List.{All}
use Rattle.field_grammar.specs.Grammar.{Grammar, pair, mapped}
use Rattle.field_grammar.specs.Fields.{short_fields}
use Rattle.load_base.specs.Name.{IsName}
use Rattle.part_number.specs.PartNumber.{IsPartNumberText}
use Rattle.load_protocol_files.specs.declared.fault.FileFault.{FileFault}
use Rattle.load_protocol_files.specs.declared.lur.Lur.{Lur}
use Rattle.load_protocol_files.specs.declared.lur.Wanted.{Wanted}
use Rattle.load_protocol_files.specs.Pieces.{name, part, counted, counted_fields}
use Rattle.load_protocol_files.specs.Files.{file, FileSpells}

-- ---- one load

abbrev pub to_wanted : List ℕ × List ℕ → Wanted
to_wanted p = record { header = p.0; part = p.1 }

-- the name of its header, and its part number
unfoldable pub wanted : Grammar FileFault Wanted
wanted = mapped to_wanted (pair name part)

abbrev pub wanted_fields : Wanted → List (List ℕ)
wanted_fields v = short_fields v.header ++ short_fields v.part

pub record WantedFits (v : Wanted) : Type 0 where
  pub header : IsName v.header
  pub part : IsPartNumberText v.part

-- ---- the file

-- a file without the spare capacity of its list
pub record LurView : Type 0 where
  pub loads : List Wanted

abbrev pub lur_view : Lur → LurView
lur_view v = record { loads = v.loads.items }

abbrev pub to_lur : List Wanted → LurView
to_lur loads = record { loads = loads }

unfoldable pub lur_body : Grammar FileFault LurView
lur_body = mapped to_lur (counted wanted)

-- an LUR: a count, and the loads
abbrev pub lur : Grammar FileFault LurView
lur = file lur_body

abbrev pub lur_fields : LurView → List (List ℕ)
lur_fields v = counted_fields wanted_fields v.loads

pub record LurFits (v : LurView) : Type 0 where
  pub count : length v.loads < 2 ^ 16
  pub loads : All (λ w. WantedFits w) v.loads

-- the bytes are the file of this value
abbrev pub LurSpells : LurView → List ℕ → Type 0
LurSpells v bytes = FileSpells lur_fields LurFits v bytes

-- a file that can be written: its count fits its two bytes
abbrev pub IsWritableLur : Lur → Type 0
IsWritableLur it = length it.loads.items ≤ 65535
