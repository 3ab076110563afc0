-- A run as text: its report, and its trace line by line (docs/FORMATS.md, "Printed text").
use Rattle.std.specs.Prelude.{ℕ, ◌+◌, List, [], ◌∷◌, ◌++◌, codes, Bool, true, false, Option, Some, None}
use Rattle.std.specs.List.{flat_map, count_by}
use Rattle.std.specs.Fmt.{decimal}
use Rattle.hex.specs.Hex.{encode_lower}
use Rattle.printed_text.specs.Lines.{line}
use Rattle.load_protocol_files.specs.declared.lcl.Part.{Part}
use Rattle.load_protocol_files.specs.Lcl.{HardwareView, LclView}
use Rattle.disk_layout.specs.Holds.{StandingView}
use Rattle.exchange_trace.specs.declared.trace.Side.{Side}
use Rattle.exchange_trace.specs.declared.trace.Side.TheVariants as sides
use Rattle.exchange_trace.specs.declared.trace.TraceStep.{TraceStep}
use Rattle.exchange_trace.specs.declared.trace.TraceStep.TheVariants as steps
use Rattle.exchange_trace.specs.Happenings.{DatagramView, HappeningView, Booted, Delivered, Ended, Info_started, Injected, Lost, Power_cut, Size_told, Ticked, Upload_started, datagram_view, happening_view, other}
use Rattle.session_rules.specs.declared.outcome.FileKind.{FileKind}
use Rattle.session_rules.specs.declared.outcome.FileKind.TheVariants as files
use Rattle.session_rules.specs.declared.outcome.Outcome.{Outcome}
use Rattle.session_rules.specs.declared.outcome.Outcome.TheVariants as outcomes
use Rattle.session_rules.specs.declared.outcome.SessionKind.{SessionKind}
use Rattle.session_rules.specs.declared.outcome.SessionKind.TheVariants as kinds
use Rattle.session_rules.specs.Loader.{EndedSession}
use Rattle.listing.specs.Listing.{listing}

-- ---- sessions

abbrev pub kind_text : SessionKind → List ℕ
kind_text kinds.Info = codes "info"
kind_text kinds.Upload = codes "upload"

abbrev pub file_kind_text : FileKind → List ℕ
file_kind_text files.Lci = codes "LCI"
file_kind_text files.Lcl = codes "LCL"
file_kind_text files.Lcs = codes "LCS"
file_kind_text files.Lui = codes "LUI"
file_kind_text files.Lur = codes "LUR"
file_kind_text files.Lus = codes "LUS"

-- what a session came to: one word, and after a space what is told of it
abbrev pub outcome_text : Outcome → List ℕ
outcome_text outcomes.Completed = codes "completed"
outcome_text (outcomes.Denied text) = codes "denied " ++ text
outcome_text (outcomes.TargetStopped text) = codes "stopped " ++ text
outcome_text outcomes.GaveUp = codes "gaveup"
outcome_text (outcomes.PeerError code) = codes "peererror " ++ decimal code
outcome_text (outcomes.BadFile kind offset) = codes "badfile " ++ file_kind_text kind ++ codes " " ++ decimal offset
outcome_text (outcomes.NotOnMedia part) = codes "notonmedia " ++ part
outcome_text outcomes.TooMany = codes "toomany"
outcome_text outcomes.Replaced = codes "replaced"
outcome_text outcomes.PortsSpent = codes "portsspent"
outcome_text outcomes.Open = codes "open"

-- `session NUMBER KIND OUTCOME`
unfoldable pub session_line : (number : ℕ) → SessionKind → Outcome → List ℕ
session_line number kind outcome = line (codes "session" ∷ decimal number ∷ kind_text kind ∷ outcome_text outcome ∷ [])

-- `part NUMBER,AMENDMENT,DESIGNATION`
unfoldable pub part_line : Part → List ℕ
part_line part = line (codes "part" ∷ (part.number ++ codes "," ++ part.amendment ++ codes "," ++ part.designation) ∷ [])

-- `hardware NAME SERIAL`, and each of its parts
unfoldable pub hardware_lines : HardwareView → List ℕ
hardware_lines hardware = line (codes "hardware" ∷ hardware.name ∷ hardware.serial ∷ []) ++ flat_map part_line hardware.parts

-- what is installed, if the session listed it
abbrev pub listed_lines : Option LclView → List ℕ
listed_lines None = []
listed_lines (Some list) = flat_map hardware_lines list.hardware

unfoldable pub session_lines : (number : ℕ) → EndedSession → List ℕ
session_lines number session = session_line number session.kind session.outcome ++ listed_lines session.listed

-- sessions, of which the first has this number
abbrev pub sessions_from : (number : ℕ) → List EndedSession → List ℕ
sessions_from number [] = []
sessions_from number (session ∷ sessions) = session_lines number session ++ sessions_from (number + 1) sessions

-- ---- the report

abbrev pub is_post : TraceStep → Bool
is_post (steps.Posted d) = true
is_post step = false

-- `datagrams COUNT`
abbrev pub datagrams_line : (count : ℕ) → List ℕ
datagrams_line count = line (codes "datagrams" ∷ decimal count ∷ [])

-- the sessions in the order of their starts, how many datagrams were posted, and the configuration at the end
abbrev pub report_lines : List EndedSession → (posted : ℕ) → StandingView → List ℕ
report_lines sessions posted standing = sessions_from 1 sessions ++ datagrams_line posted ++ listing standing

-- the report of a run with this trace
abbrev pub report : List EndedSession → List TraceStep → StandingView → List ℕ
report sessions trace standing = report_lines sessions (count_by is_post trace) standing

-- ---- the trace

abbrev pub side_text : Side → List ℕ
side_text sides.Loader = codes "l"
side_text sides.Target = codes "t"

-- `post NUMBER SIDE FROM TO HEX`, with the side that posts it
unfoldable pub post_line : (number : ℕ) → DatagramView → List ℕ
post_line number d = line (codes "post" ∷ decimal number ∷ side_text d.side ∷ decimal d.from ∷ decimal d.to ∷ encode_lower d.bytes ∷ [])

-- `inject SIDE FROM TO HEX`, with the side that gets it
unfoldable pub inject_line : DatagramView → List ℕ
inject_line d = line (codes "inject" ∷ side_text (other d.side) ∷ decimal d.from ∷ decimal d.to ∷ encode_lower d.bytes ∷ [])

-- 0 for none
abbrev pub size_text : Option ℕ → List ℕ
size_text None = codes "0"
size_text (Some size) = decimal size

-- words, with a space before each
unfoldable pub spaced : List (List ℕ) → List ℕ
spaced words = flat_map (λ word. codes " " ++ word) words

-- `start upload HW POS PART ..`
unfoldable pub upload_line : (hw pos : List ℕ) → (parts : List (List ℕ)) → List ℕ
upload_line hw pos parts = codes "start upload " ++ hw ++ codes " " ++ pos ++ spaced parts ++ 10 ∷ []

-- a number after a word
unfoldable pub numbered_line : (word : List ℕ) (number : ℕ) → List ℕ
numbered_line word number = line (word ∷ decimal number ∷ [])

-- a happening
abbrev pub given_line : HappeningView → List ℕ
given_line (Delivered side number) = numbered_line (codes "give") number
given_line (Lost number) = numbered_line (codes "lose") number
given_line (Injected d) = inject_line d
given_line (Ticked side) = line (codes "tick" ∷ side_text side ∷ [])
given_line (Size_told size) = line (codes "blksize" ∷ size_text size ∷ [])
given_line (Power_cut calls pick) = line (codes "power" ∷ decimal calls ∷ decimal pick ∷ [])
given_line Booted = line (codes "boot" ∷ [])
given_line (Info_started hw pos) = line (codes "start" ∷ codes "info" ∷ hw ∷ pos ∷ [])
given_line (Upload_started hw pos parts) = upload_line hw pos parts
given_line Ended = line (codes "end" ∷ [])

-- a line of the trace, after which this many datagrams are posted
abbrev pub step_line : (posted : ℕ) → TraceStep → List ℕ
step_line posted (steps.Posted d) = post_line posted (datagram_view d)
step_line posted (steps.Given happening) = given_line (happening_view happening)
step_line posted steps.Down = line (codes "down" ∷ [])
step_line posted (steps.Up first_port sequence) = numbered_line (codes "up") first_port
step_line posted (steps.BootRefused fault) = line (codes "bootrefused" ∷ [])

-- how many datagrams are posted, with this line of the trace
abbrev pub posted_with : (posted : ℕ) → TraceStep → ℕ
posted_with posted (steps.Posted d) = posted + 1
posted_with posted step = posted

-- the lines of a trace before which this many datagrams were posted
abbrev pub wire_from : (posted : ℕ) → List TraceStep → List ℕ
wire_from posted [] = []
wire_from posted (step ∷ later) = step_line (posted_with posted step) step ++ wire_from (posted_with posted step) later

-- a whole trace
abbrev pub wire : List TraceStep → List ℕ
wire trace = wire_from 0 trace
