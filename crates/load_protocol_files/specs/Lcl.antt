-- Configuration list files (docs/FORMATS.md).
use Rattle.std.specs.Prelude.{ℕ, ◌+◌, ◌<◌, ◌≤◌, ◌^◌, List, ◌++◌, length, map}
use Rattle.std.specs.List.{All, concat}
use Rattle.field_grammar.specs.Grammar.{Grammar, pair, mapped}
use Rattle.field_grammar.specs.Fields.{short_fields}
use Rattle.load_base.specs.Text.{IsText}
use Rattle.load_protocol_files.specs.declared.fault.FileFault.{FileFault}
use Rattle.load_protocol_files.specs.declared.lcl.Lcl.{Lcl}
use Rattle.load_protocol_files.specs.declared.lcl.Hardware.{Hardware}
use Rattle.load_protocol_files.specs.declared.lcl.Part.{Part}
use Rattle.load_protocol_files.specs.Pieces.{text, counted, counted_fields}
use Rattle.load_protocol_files.specs.Files.{file, FileSpells}

-- ---- one part

abbrev pub to_part : List ℕ × (List ℕ × List ℕ) → Part
to_part p = record { number = p.0; amendment = p.1.0; designation = p.1.1 }

-- its number, amendment and designation
unfoldable pub installed : Grammar FileFault Part
installed = mapped to_part (pair text (pair text text))

abbrev pub installed_fields : Part → List (List ℕ)
installed_fields v = short_fields v.number ++ (short_fields v.amendment ++ short_fields v.designation)

pub record InstalledFits (v : Part) : Type 0 where
  pub number : IsText v.number
  pub amendment : IsText v.amendment
  pub designation : IsText v.designation

-- ---- one hardware

-- a hardware without the spare capacity of its list
pub record HardwareView : Type 0 where
  pub name : List ℕ
  pub serial : List ℕ
  pub parts : List Part

abbrev pub hardware_view : Hardware → HardwareView
hardware_view v = record { name = v.name; serial = v.serial; parts = v.parts.items }

abbrev pub to_hardware : List ℕ × (List ℕ × List Part) → HardwareView
to_hardware p = record { name = p.0; serial = p.1.0; parts = p.1.1 }

-- its name and serial number, a count, and its parts
unfoldable pub hardware : Grammar FileFault HardwareView
hardware = mapped to_hardware (pair text (pair text (counted installed)))

abbrev pub hardware_fields : HardwareView → List (List ℕ)
hardware_fields v = short_fields v.name ++ (short_fields v.serial ++ counted_fields installed_fields v.parts)

pub record HardwareFits (v : HardwareView) : Type 0 where
  pub name : IsText v.name
  pub serial : IsText v.serial
  pub count : length v.parts < 2 ^ 16
  pub parts : All (λ p. InstalledFits p) v.parts

-- ---- the file

-- a file without the spare capacity of its lists
pub record LclView : Type 0 where
  pub hardware : List HardwareView

abbrev pub lcl_view : Lcl → LclView
lcl_view v = record { hardware = map hardware_view v.hardware.items }

abbrev pub to_lcl : List HardwareView → LclView
to_lcl list = record { hardware = list }

unfoldable pub lcl_body : Grammar FileFault LclView
lcl_body = mapped to_lcl (counted hardware)

-- an LCL: a count, and the hardware
abbrev pub lcl : Grammar FileFault LclView
lcl = file lcl_body

abbrev pub lcl_fields : LclView → List (List ℕ)
lcl_fields v = counted_fields hardware_fields v.hardware

pub record LclFits (v : LclView) : Type 0 where
  pub count : length v.hardware < 2 ^ 16
  pub hardware : All (λ h. HardwareFits h) v.hardware

-- the bytes are the file of this value
abbrev pub LclSpells : LclView → List ℕ → Type 0
LclSpells v bytes = FileSpells lcl_fields LclFits v bytes

-- a file that can be written: its counts fit their two bytes, and its length its four
pub record IsWritableLcl (it : Lcl) : Type 0 where
  pub count : length it.hardware.items ≤ 65535
  pub counts : All (λ h. length h.parts.items ≤ 65535) it.hardware.items
  pub size : 6 + length (concat (lcl_fields (lcl_view it))) ≤ 4294967295
