-- The fields of the protocol files, as they are shown: the type of the file, and then a line a field, in the
-- order of the file (docs/FORMATS.md, "Printed text").
use Rattle.std.specs.Prelude.{ℕ, List, [], ◌∷◌, ◌++◌, length, codes}
use Rattle.std.specs.List.{flat_map}
use Rattle.load_protocol_files.specs.declared.lci.Lci.{Lci}
use Rattle.load_protocol_files.specs.declared.lcs.Lcs.{Lcs}
use Rattle.load_protocol_files.specs.declared.lui.Lui.{Lui}
use Rattle.load_protocol_files.specs.declared.lur.Wanted.{Wanted}
use Rattle.load_protocol_files.specs.declared.lus.LoadStatus.{LoadStatus}
use Rattle.load_protocol_files.specs.declared.lcl.Part.{Part}
use Rattle.load_protocol_files.specs.Lur.{LurView}
use Rattle.load_protocol_files.specs.Lus.{LusView}
use Rattle.load_protocol_files.specs.Lcl.{LclView, HardwareView}
use Rattle.printed_text.specs.Lines.{line, field_line, number_line, hex_16}

-- the type alone
abbrev pub type_line : List ℕ → List ℕ
type_line type = line (type ∷ [])

-- `status XXXX`
abbrev pub status_line : ℕ → List ℕ
status_line status = field_line (codes "status") (hex_16 status)

-- `description TEXT`
abbrev pub description_line : List ℕ → List ℕ
description_line text = field_line (codes "description") text

-- `status XXXX` and `description TEXT`
unfoldable pub state_lines : (status : ℕ) (description : List ℕ) → List ℕ
state_lines status description = status_line status ++ description_line description

-- the exception timer and the estimated time
unfoldable pub timer_lines : (exception estimated : ℕ) → List ℕ
timer_lines exception estimated = number_line (codes "exception") exception ++ number_line (codes "estimated") estimated

-- ---- configuration

unfoldable pub shown_lci : Lci → List ℕ
shown_lci v = type_line (codes "LCI") ++ state_lines v.status v.description

unfoldable pub shown_lcs : Lcs → List ℕ
shown_lcs v =
    type_line (codes "LCS") ++ number_line (codes "counter") v.counter ++ status_line v.status
    ++ timer_lines v.exception v.estimated ++ description_line v.description

unfoldable pub installed_lines : Part → List ℕ
installed_lines part =
    field_line (codes "number") part.number ++ field_line (codes "amendment") part.amendment
    ++ field_line (codes "designation") part.designation

unfoldable pub hardware_lines : HardwareView → List ℕ
hardware_lines hardware =
    field_line (codes "name") hardware.name ++ field_line (codes "serial") hardware.serial
    ++ number_line (codes "parts") (length hardware.parts) ++ flat_map installed_lines hardware.parts

unfoldable pub shown_lcl : LclView → List ℕ
shown_lcl v = type_line (codes "LCL") ++ number_line (codes "hardware") (length v.hardware) ++ flat_map hardware_lines v.hardware

-- ---- upload

unfoldable pub shown_lui : Lui → List ℕ
shown_lui v = type_line (codes "LUI") ++ state_lines v.status v.description

unfoldable pub wanted_lines : Wanted → List ℕ
wanted_lines load = field_line (codes "header") load.header ++ field_line (codes "part") load.part

unfoldable pub shown_lur : LurView → List ℕ
shown_lur v = type_line (codes "LUR") ++ number_line (codes "loads") (length v.loads) ++ flat_map wanted_lines v.loads

unfoldable pub load_status_lines : LoadStatus → List ℕ
load_status_lines load =
    field_line (codes "header") load.header ++ field_line (codes "part") load.part ++ number_line (codes "ratio") load.ratio
    ++ state_lines load.status load.description

-- how much has arrived, of all loads and of each
unfoldable pub progress_lines : LusView → List ℕ
progress_lines v = number_line (codes "ratio") v.ratio ++ number_line (codes "loads") (length v.loads) ++ flat_map load_status_lines v.loads

unfoldable pub shown_lus : LusView → List ℕ
shown_lus v =
    type_line (codes "LUS") ++ state_lines v.status v.description ++ number_line (codes "counter") v.counter
    ++ timer_lines v.exception v.estimated ++ progress_lines v
