-- Upload status files (docs/FORMATS.md).
use Rattle.std.specs.Prelude.{ℕ, ◌<◌, ◌≤◌, ◌^◌, List, ◌++◌, length}
use Rattle.std.specs.List.{All}
use Rattle.field_grammar.specs.Grammar.{Grammar, pair, mapped}
use Rattle.field_grammar.specs.Fields.{short_fields}
use Rattle.load_base.specs.Name.{IsName}
use Rattle.load_base.specs.Text.{IsText}
use Rattle.part_number.specs.PartNumber.{IsPartNumberText}
use Rattle.load_protocol_files.specs.declared.fault.FileFault.{FileFault}
use Rattle.load_protocol_files.specs.declared.lus.Lus.{Lus}
use Rattle.load_protocol_files.specs.declared.lus.LoadStatus.{LoadStatus}
use Rattle.load_protocol_files.specs.Pieces.{u16, text, name, part, ratio, counted, u16_fields, ratio_fields, counted_fields}
use Rattle.load_protocol_files.specs.Files.{file, FileSpells}

-- ---- one load

abbrev pub LoadParts : Type 0
LoadParts = List ℕ × (List ℕ × (ℕ × (ℕ × List ℕ)))

abbrev pub load_parts : Grammar FileFault LoadParts
load_parts = pair name (pair part (pair ratio (pair u16 text)))

abbrev pub to_load_status : LoadParts → LoadStatus
to_load_status p = record { header = p.0; part = p.1.0; ratio = p.1.1.0; status = p.1.1.1.0; description = p.1.1.1.1 }

-- the name of its header, its part number, how far it has come, its status and a description
unfoldable pub load_status : Grammar FileFault LoadStatus
load_status = mapped to_load_status load_parts

abbrev pub load_status_fields : LoadStatus → List (List ℕ)
load_status_fields v = short_fields v.header ++ (short_fields v.part ++ (ratio_fields v.ratio ++ (u16_fields v.status ++ short_fields v.description)))

pub record LoadStatusFits (v : LoadStatus) : Type 0 where
  pub header : IsName v.header
  pub part : IsPartNumberText v.part
  pub ratio : v.ratio ≤ 100
  pub status : v.status < 2 ^ 16
  pub description : IsText v.description

-- ---- the file

-- a file without the spare capacity of its list
pub record LusView : Type 0 where
  pub status : ℕ
  pub description : List ℕ
  pub counter : ℕ
  pub exception : ℕ
  pub estimated : ℕ
  pub ratio : ℕ
  pub loads : List LoadStatus

abbrev pub lus_view : Lus → LusView
lus_view v = record { status = v.status; description = v.description; counter = v.counter; exception = v.exception; estimated = v.estimated; ratio = v.ratio; loads = v.loads.items }

-- how far the upload has come: of all loads, and of each
abbrev pub progress : Grammar FileFault (ℕ × List LoadStatus)
progress = pair ratio (counted load_status)

abbrev pub LusParts : Type 0
LusParts = ℕ × (List ℕ × (ℕ × (ℕ × (ℕ × (ℕ × List LoadStatus)))))

abbrev pub lus_parts : Grammar FileFault LusParts
lus_parts = pair u16 (pair text (pair u16 (pair u16 (pair u16 progress))))

abbrev pub to_lus : LusParts → LusView
to_lus p = record { status = p.0; description = p.1.0; counter = p.1.1.0; exception = p.1.1.1.0; estimated = p.1.1.1.1.0; ratio = p.1.1.1.1.1.0; loads = p.1.1.1.1.1.1 }

unfoldable pub lus_body : Grammar FileFault LusView
lus_body = mapped to_lus lus_parts

-- an LUS: status, description, counter, exception, estimated time, ratio, a count, and the loads
abbrev pub lus : Grammar FileFault LusView
lus = file lus_body

unfoldable pub progress_fields : LusView → List (List ℕ)
progress_fields v = ratio_fields v.ratio ++ counted_fields load_status_fields v.loads

unfoldable pub counts_fields : LusView → List (List ℕ)
counts_fields v = u16_fields v.counter ++ (u16_fields v.exception ++ (u16_fields v.estimated ++ progress_fields v))

abbrev pub lus_fields : LusView → List (List ℕ)
lus_fields v = u16_fields v.status ++ (short_fields v.description ++ counts_fields v)

pub record ProgressFits (v : LusView) : Type 0 where
  pub ratio : v.ratio ≤ 100
  pub count : length v.loads < 2 ^ 16
  pub loads : All (λ l. LoadStatusFits l) v.loads

pub record CountsFit (v : LusView) : Type 0 where
  pub counter : v.counter < 2 ^ 16
  pub exception : v.exception < 2 ^ 16
  pub estimated : v.estimated < 2 ^ 16
  pub progress : ProgressFits v

pub record LusFits (v : LusView) : Type 0 where
  pub status : v.status < 2 ^ 16
  pub description : IsText v.description
  pub counts : CountsFit v

-- the bytes are the file of this value
abbrev pub LusSpells : LusView → List ℕ → Type 0
LusSpells v bytes = FileSpells lus_fields LusFits v bytes

-- a file that can be written: no ratio is above 100, and its count fits its two bytes
pub record IsWritableLus (it : Lus) : Type 0 where
  pub ratio : it.ratio ≤ 100
  pub ratios : All (λ load. load.ratio ≤ 100) it.loads.items
  pub count : length it.loads.items ≤ 65535
