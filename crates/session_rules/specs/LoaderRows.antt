-- The rows of the two operations as the loader goes through them (docs/EXCHANGE.md, "Operations").
use Rattle.std.specs.Prelude.{ℕ, List, fold, Bool, true, false, ◌==◌, Option, Some, None, Result, Ok, Err, if◌then◌else◌}
use Rattle.field_grammar.specs.Answers.{answer}
use Rattle.load_protocol_files.specs.declared.fault.FileFault.{FileFault}
use Rattle.load_protocol_files.specs.declared.fault.FileFault.TheVariants as faults
use Rattle.load_protocol_files.specs.declared.lci.Lci.{Lci}
use Rattle.load_protocol_files.specs.declared.lcs.Lcs.{Lcs}
use Rattle.load_protocol_files.specs.declared.lui.Lui.{Lui}
use Rattle.load_protocol_files.specs.Lci.{lci}
use Rattle.load_protocol_files.specs.Lcl.{LclView, lcl}
use Rattle.load_protocol_files.specs.Lcs.{lcs}
use Rattle.load_protocol_files.specs.Lui.{lui}
use Rattle.load_protocol_files.specs.Lus.{LusView, lus}
use Rattle.transfer_end.specs.Transfers.{Transfer}
use Rattle.session_rules.specs.declared.outcome.FileKind.{FileKind}
use Rattle.session_rules.specs.declared.outcome.FileKind.TheVariants as kinds
use Rattle.session_rules.specs.declared.outcome.SessionKind.{SessionKind}
use Rattle.session_rules.specs.declared.outcome.SessionKind.TheVariants.{Info, Upload}
use Rattle.session_rules.specs.declared.outcome.Outcome.{Outcome}
use Rattle.session_rules.specs.declared.outcome.Outcome.TheVariants.{Completed, Denied, TargetStopped, BadFile}
use Rattle.session_rules.specs.Buffers.{Buffer, is_too_long, buffer_size}
use Rattle.session_rules.specs.Reports.{accepted, in_progress, completed, denied, stopped}

-- the next row: the first of its operation that isn't finished
pub data LoaderRow : Type 0 where
  Reads_lci : LoaderRow
  Takes_lcs : LoaderRow
  Takes_lcl : LoaderRow
  Reads_lui : LoaderRow
  Takes_lus : LoaderRow
  Writes_lur : LoaderRow
  Serves_files : LoaderRow  -- all rows after the request: files that the target reads, and LUS that it writes

abbrev pub first_row : SessionKind → LoaderRow
first_row Info = Reads_lci
first_row Upload = Reads_lui

-- the row after one that is finished; the information operation ends with its last one
abbrev pub row_after : LoaderRow → LoaderRow
row_after Reads_lci = Takes_lcs
row_after Takes_lcs = Takes_lcl
row_after Takes_lcl = Takes_lcl
row_after Reads_lui = Takes_lus
row_after Takes_lus = Writes_lur
row_after Writes_lur = Serves_files
row_after Serves_files = Serves_files

-- the next row after these transfers of a session
unfoldable pub row_of : SessionKind → List Transfer → LoaderRow
row_of kind done = fold (λ row _. row_after row) (first_row kind) done

-- the kind of file that the loader takes a request to write in a row
abbrev pub kind_taken : LoaderRow → Option FileKind
kind_taken Takes_lcs = Some kinds.Lcs
kind_taken Takes_lcl = Some kinds.Lcl
kind_taken Takes_lus = Some kinds.Lus
kind_taken Serves_files = Some kinds.Lus
kind_taken row = None

-- the loader takes requests to read files of the media set
abbrev pub serves_files : LoaderRow → Bool
serves_files Serves_files = true
serves_files row = false

-- ---- what a file that arrived comes to

pub data RowTurn : Type 0 where
  Goes_on : RowTurn  -- the row is finished
  Comes_to : Outcome → RowTurn  -- the session ends

-- the offset of a fault; that of a length is 0 and that of a version 4
abbrev pub fault_offset : FileFault → ℕ
fault_offset (faults.Short offset) = offset
fault_offset (faults.Length said found) = 0
fault_offset (faults.Version found) = 4
fault_offset (faults.Digits offset) = offset
fault_offset (faults.Rest offset) = offset
fault_offset (faults.Name offset fault) = offset
fault_offset (faults.Part offset fault) = offset
fault_offset (faults.Text offset fault) = offset
fault_offset faults.Memory = 0

abbrev pub bad_file : FileKind → (offset : ℕ) → RowTurn
bad_file kind offset = Comes_to (BadFile kind offset)

-- an LCI or LUI: the operation is accepted or denied
abbrev pub answered : FileKind → (status : ℕ) → (text : List ℕ) → RowTurn
answered kind status text = if status == accepted then Goes_on else if status == denied then Comes_to (Denied text) else bad_file kind 6

-- an LCS or LUS: the operation goes on where it has this status, or was stopped; the status stands at an offset
abbrev pub reported : (expected : ℕ) → FileKind → (offset status : ℕ) → (text : List ℕ) → RowTurn
reported expected kind offset status text =
    if status == expected then Goes_on else if status == stopped then Comes_to (TargetStopped text) else bad_file kind offset

abbrev pub lci_turn : Result Lci FileFault → RowTurn
lci_turn (Ok v) = answered kinds.Lci v.status v.description
lci_turn (Err fault) = bad_file kinds.Lci (fault_offset fault)

abbrev pub lui_turn : Result Lui FileFault → RowTurn
lui_turn (Ok v) = answered kinds.Lui v.status v.description
lui_turn (Err fault) = bad_file kinds.Lui (fault_offset fault)

abbrev pub lcs_turn : Result Lcs FileFault → RowTurn
lcs_turn (Ok v) = reported in_progress kinds.Lcs 8 v.status v.description
lcs_turn (Err fault) = bad_file kinds.Lcs (fault_offset fault)

abbrev pub lcl_turn : Result LclView FileFault → RowTurn
lcl_turn (Ok v) = Comes_to Completed
lcl_turn (Err fault) = bad_file kinds.Lcl (fault_offset fault)

-- the LUS before the request
abbrev pub first_lus_turn : Result LusView FileFault → RowTurn
first_lus_turn (Ok v) = reported accepted kinds.Lus 6 v.status v.description
first_lus_turn (Err fault) = bad_file kinds.Lus (fault_offset fault)

-- a later one
abbrev pub later_lus_turn : Result LusView FileFault → RowTurn
later_lus_turn (Ok v) = if v.status == completed then Comes_to Completed else reported in_progress kinds.Lus 6 v.status v.description
later_lus_turn (Err fault) = bad_file kinds.Lus (fault_offset fault)

-- the kind of file that the loader receives in a row
abbrev pub kind_received : LoaderRow → FileKind
kind_received Reads_lci = kinds.Lci
kind_received Takes_lcs = kinds.Lcs
kind_received Takes_lcl = kinds.Lcl
kind_received Reads_lui = kinds.Lui
kind_received Takes_lus = kinds.Lus
kind_received Writes_lur = kinds.Lur
kind_received Serves_files = kinds.Lus

abbrev pub bytes_turn : LoaderRow → List ℕ → RowTurn
bytes_turn Reads_lci bytes = lci_turn (answer lci bytes)
bytes_turn Takes_lcs bytes = lcs_turn (answer lcs bytes)
bytes_turn Takes_lcl bytes = lcl_turn (answer lcl bytes)
bytes_turn Reads_lui bytes = lui_turn (answer lui bytes)
bytes_turn Takes_lus bytes = first_lus_turn (answer lus bytes)
bytes_turn Writes_lur bytes = Goes_on
bytes_turn Serves_files bytes = later_lus_turn (answer lus bytes)

-- a file that arrived whole in a row; its length is tested first
unfoldable pub file_turn : LoaderRow → Buffer → RowTurn
file_turn row b = if is_too_long b then bad_file (kind_received row) buffer_size else bytes_turn row b.prefix
