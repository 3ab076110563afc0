-- The lines that are printed beside listings and fields (docs/FORMATS.md, "Printed text").
use Rattle.std.specs.Prelude.{ℕ, List, [], ◌∷◌, ◌++◌, length, codes}
use Rattle.std.specs.Fmt.{decimal}
use Rattle.std.specs.List.{flat_map}
use Rattle.printed_text.specs.FaultTexts.{coded}
use Rattle.printed_text.specs.Lines.{line}
use Rattle.disk_layout.specs.Faults.{recover_fault_text}
use Rattle.disk_layout.specs.declared.identity.Identity.{Identity}
use Rattle.disk_layout.specs.declared.fault.RecoverFault.{RecoverFault}
use Rattle.bank_rollback.specs.Faults.{rollback_fault_text}
use Rattle.bank_rollback.specs.declared.fault.RollbackFault.{RollbackFault}
use Rattle.media_build.specs.declared.building_fault.BuildFault.{BuildFault}
use Rattle.media_build.specs.declared.building_fault.BuildFault.TheVariants.{Absent, TooLong, TooLarge, HeaderTooLong, ListTooLong, Failed, Memory}
use Rattle.media_check.specs.declared.finding.Finding.{Finding}

-- `formatted HW POS SERIAL BANK`, with the bank size
abbrev pub formatted_line : Identity → List ℕ
formatted_line id = line (codes "formatted" ∷ id.hw ∷ id.pos ∷ id.serial ∷ decimal id.bank ∷ [])

-- `built N loads M files`
abbrev pub built_line : (loads files : ℕ) → List ℕ
built_line loads files = line (codes "built" ∷ decimal loads ∷ codes "loads" ∷ decimal files ∷ codes "files" ∷ [])

-- ---- findings

-- the detail of a finding, where it has one
abbrev pub detail_words : List ℕ → List (List ℕ)
detail_words [] = []
detail_words (byte ∷ bytes) = (byte ∷ bytes) ∷ []

-- `finding KIND MEMBER FILE`, and the detail after it
unfoldable pub finding_line : Finding → List ℕ
finding_line finding =
    line (codes "finding" ∷ (codes "M" ++ decimal finding.kind) ∷ decimal finding.member ∷ finding.file ∷ detail_words finding.detail)

-- a line for each finding, and `findings N`
abbrev pub findings_text : List Finding → List ℕ
findings_text findings = flat_map finding_line findings ++ line (codes "findings" ∷ decimal (length findings) ∷ [])

-- ---- refusals

-- `no configuration FAULT`
abbrev pub no_configuration : RecoverFault → List ℕ
no_configuration fault = line (codes "no" ∷ codes "configuration" ∷ recover_fault_text fault ∷ [])

-- `no former FAULT`
abbrev pub no_former : RollbackFault → List ℕ
no_former fault = line (codes "no" ∷ codes "former" ∷ rollback_fault_text fault ∷ [])

abbrev pub refused_words : List ℕ
refused_words = line (codes "refused" ∷ codes "words" ∷ [])

abbrev pub disk_fault : List ℕ
disk_fault = line (codes "disk" ∷ codes "fault" ∷ [])

abbrev pub host_fault : List ℕ
host_fault = line (codes "host" ∷ codes "fault" ∷ [])

-- `refused NAME FAULT`
abbrev pub refused_input : (name fault : List ℕ) → List ℕ
refused_input name fault = line (codes "refused" ∷ name ∷ fault ∷ [])

-- that the set of this recipe isn't built; a source is told by its own name
abbrev pub refused_build : (recipe : List ℕ) → BuildFault → List ℕ
refused_build recipe (Absent source) = refused_input source.items (codes "absent")
refused_build recipe (TooLong source) = refused_input source.items (codes "toolong")
refused_build recipe TooLarge = refused_input recipe (codes "toolarge")
refused_build recipe (HeaderTooLong number) = refused_input recipe (coded (codes "headertoolong") (number ∷ []))
refused_build recipe ListTooLong = refused_input recipe (coded (codes "listtoolong") [])
refused_build recipe Failed = host_fault
refused_build recipe Memory = []
