-- What both sides write in protocol files (docs/EXCHANGE.md, "Operations"; docs/FORMATS.md, "Protocol files").
use Rattle.std.specs.Prelude.{ℕ, zero, suc, ◌*◌, ◌/◌, List, [], ◌∷◌, length, map, codes}
use Rattle.std.specs.List.{concat}
use Rattle.printed_text.specs.FaultTexts.{coded, nested}
use Rattle.load_header.specs.HeaderFaultText.{header_fault_text}
use Rattle.load_protocol_files.specs.FaultTexts.{file_fault_text}
use Rattle.load_protocol_files.specs.Files.{file_fields}
use Rattle.load_protocol_files.specs.Lci.{lci_fields}
use Rattle.load_protocol_files.specs.Lcs.{lcs_fields}
use Rattle.load_protocol_files.specs.Lcl.{LclView, lcl_fields}
use Rattle.load_protocol_files.specs.Lui.{lui_fields}
use Rattle.load_protocol_files.specs.Lur.{lur_fields}
use Rattle.load_protocol_files.specs.Lus.{LusView, lus_fields}
use Rattle.load_protocol_files.specs.declared.lcl.Part.{Part}
use Rattle.load_protocol_files.specs.declared.lur.Wanted.{Wanted}
use Rattle.load_protocol_files.specs.declared.lus.LoadStatus.{LoadStatus}
use Rattle.disk_layout.specs.declared.manifest.ManifestFile.{ManifestFile}
use Rattle.disk_layout.specs.Manifest.{LoadEntry}
use Rattle.disk_layout.specs.Holds.{Outline}
use Rattle.session_rules.specs.declared.reason.Reason.{Reason}
use Rattle.session_rules.specs.declared.reason.Reason.TheVariants as reasons
use Rattle.session_rules.specs.declared.reason.RequestFault.{RequestFault}
use Rattle.session_rules.specs.declared.reason.RequestFault.TheVariants as requests

-- ---- statuses

abbrev pub accepted : ℕ
accepted = 0x0001

abbrev pub in_progress : ℕ
in_progress = 0x0002

abbrev pub completed : ℕ
completed = 0x0003

abbrev pub denied : ℕ
denied = 0x1000

abbrev pub stopped : ℕ
stopped = 0x1003

-- ---- reasons

abbrev pub request_fault_text : RequestFault → List ℕ
request_fault_text (requests.Spelling fault) = file_fault_text fault
request_fault_text (requests.Loads count) = coded (codes "L") (count ∷ [])
request_fault_text requests.TooLong = codes "T"

-- how a reason is printed: its code, A1 to A14, and its fields
abbrev pub reason_text : Reason → List ℕ
reason_text (reasons.FileNotServed code) = coded (codes "A1") (code ∷ [])
reason_text (reasons.HeaderRefused fault) = nested (codes "A2") (header_fault_text fault)
reason_text reasons.PartDiffers = codes "A3"
reason_text reasons.NotThisHardware = codes "A4"
reason_text reasons.RuleRefused = codes "A5"
reason_text (reasons.FileLength file said found) = coded (codes "A6") (file ∷ said ∷ found ∷ [])
reason_text (reasons.FileCrc file said found) = coded (codes "A7") (file ∷ said ∷ found ∷ [])
reason_text (reasons.LoadCrc said found) = coded (codes "A8") (said ∷ found ∷ [])
reason_text (reasons.BankFull need have) = coded (codes "A9") (need ∷ have ∷ [])
reason_text reasons.SequenceSpent = codes "A10"
reason_text (reasons.RequestRefused fault) = nested (codes "A11") (request_fault_text fault)
reason_text reasons.GaveUp = codes "A12"
reason_text reasons.PortsSpent = codes "A13"
reason_text (reasons.TooManyLoads loads) = coded (codes "A14") (loads ∷ [])

-- ---- whole files

-- the bytes of a protocol file with these fields
abbrev pub file_of : List (List ℕ) → List ℕ
file_of fields = concat (file_fields fields)

-- an information operation may begin
unfoldable pub lci_file : List ℕ
lci_file = file_of (lci_fields (record { status = accepted; description = [] }))

-- and is in progress
unfoldable pub lcs_file : List ℕ
lcs_file = file_of (lcs_fields (record { counter = 1; status = in_progress; exception = 0; estimated = 0; description = [] }))

abbrev pub first_name : List ManifestFile → List ℕ
first_name [] = []
first_name (file ∷ files) = file.name

-- a load as it is listed: its part number, and its header's name
abbrev pub listed_part : LoadEntry → Part
listed_part load = record { number = load.part; amendment = []; designation = first_name load.files }

-- what a target lists of its active configuration
abbrev pub lcl_of : Outline → LclView
lcl_of o = record { hardware = record { name = o.identity.hw; serial = o.identity.serial; parts = map listed_part o.loads } ∷ [] }

unfoldable pub lcl_file : Outline → List ℕ
lcl_file o = file_of (lcl_fields (lcl_of o))

-- an upload may begin
unfoldable pub accepting_lui : List ℕ
accepting_lui = file_of (lui_fields (record { status = accepted; description = [] }))

-- or may not, since no sequence number is left
unfoldable pub denying_lui : List ℕ
denying_lui = file_of (lui_fields (record { status = denied; description = reason_text reasons.SequenceSpent }))

-- a request for these loads
unfoldable pub lur_file : List Wanted → List ℕ
lur_file loads = file_of (lur_fields (record { loads = loads }))

-- ---- how an upload stands

abbrev pub load_status : (ratio status : ℕ) → Wanted → LoadStatus
load_status ratio status load = record { header = load.header; part = load.part; ratio = ratio; status = status; description = [] }

-- the first of these loads have arrived, as many as `arrived`, and have one status; the others have another
abbrev pub load_statuses : (arrived status other : ℕ) → List Wanted → List LoadStatus
load_statuses arrived status other [] = []
load_statuses zero status other (load ∷ loads) = load_status 0 other load ∷ load_statuses zero status other loads
load_statuses (suc n) status other (load ∷ loads) = load_status 100 status load ∷ load_statuses n status other loads

-- in percent
abbrev pub ratio_of : (arrived loads : ℕ) → ℕ
ratio_of arrived zero = 0
ratio_of arrived (suc n) = 100 * arrived / suc n

abbrev pub lus_view_of : (status : ℕ) → List ℕ → (counter ratio : ℕ) → List LoadStatus → LusView
lus_view_of status text counter ratio loads =
    record { status = status; description = text; counter = counter; exception = 0; estimated = 0; ratio = ratio; loads = loads }

-- the target awaits the request
unfoldable pub ready_lus : List ℕ
ready_lus = file_of (lus_fields (lus_view_of accepted [] 1 0 []))

-- this many loads have arrived
unfoldable pub progress_lus : List Wanted → (arrived counter : ℕ) → List ℕ
progress_lus loads arrived counter =
    file_of (lus_fields (lus_view_of in_progress [] counter (ratio_of arrived (length loads)) (load_statuses arrived in_progress accepted loads)))

-- all loads are installed
unfoldable pub completed_lus : List Wanted → (counter : ℕ) → List ℕ
completed_lus loads counter = file_of (lus_fields (lus_view_of completed [] counter 100 (load_statuses (length loads) completed completed loads)))

-- the upload was stopped for this reason, where this many loads had arrived
unfoldable pub stopped_lus : List Wanted → (arrived counter : ℕ) → Reason → List ℕ
stopped_lus loads arrived counter reason =
    file_of (lus_fields (lus_view_of stopped (reason_text reason) counter (ratio_of arrived (length loads)) (load_statuses arrived stopped stopped loads)))
