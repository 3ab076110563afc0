-- The report of a fleet as text (docs/FORMATS.md, "Printed text").
use Rattle.std.specs.Prelude.{ℕ, ◌+◌, List, [], ◌∷◌, ◌++◌, codes, length, map, option_map, Option, Some, None}
use Rattle.std.specs.List.{flat_map}
use Rattle.std.specs.Fmt.{decimal}
use Rattle.printed_text.specs.Lines.{line}
use Rattle.disk_layout.specs.Holds.{StandingView, standing_view}
use Rattle.exchange_trace.specs.Posts.{posted_in}
use Rattle.fleet_trace.specs.FleetTraces.{StepOfFleet, steps_of_unit}
use Rattle.loader_machine.specs.Machine.{session_view}
use Rattle.session_rules.specs.Loader.{EndedSession}
use Rattle.upload_replay.specs.Texts.{report_lines}
use Rattle.target_fleet.specs.declared.outcome.BatchEnd.{BatchEnd}
use Rattle.target_fleet.specs.declared.outcome.BatchOutcome.{BatchOutcome}
use Rattle.target_fleet.specs.declared.outcome.BatchOutcome.TheVariants as ends
use Rattle.target_fleet.specs.declared.outcome.UnitEnd.{UnitEnd}

-- ---- datagrams

-- how many datagrams both sides of this unit posted
abbrev pub posted_at : (unit : ℕ) → List StepOfFleet → ℕ
posted_at unit steps = length (posted_in (steps_of_unit unit steps))

-- ---- the report

-- what a unit came to, as contracts see it
pub record UnitSeen : Type 0 where
  pub sessions : List EndedSession
  pub standing : Option StandingView

abbrev pub unit_seen : UnitEnd → UnitSeen
unit_seen end = record { sessions = map session_view end.sessions.items; standing = option_map standing_view end.standing }

-- `unit NUMBER`
unfoldable pub unit_line : (number : ℕ) → List ℕ
unit_line number = line (codes "unit" ∷ decimal number ∷ [])

-- a unit's report, where it is known what stands on its disk
abbrev pub own_report : List EndedSession → (posted : ℕ) → Option StandingView → List ℕ
own_report sessions posted None = []
own_report sessions posted (Some standing) = report_lines sessions posted standing

-- its number, and then its report
unfoldable pub unit_lines : (number posted : ℕ) → UnitSeen → List ℕ
unit_lines number posted unit = unit_line number ++ own_report unit.sessions posted unit.standing

-- those of units, of which the first has this number, each with the number of its own datagrams
abbrev pub units_from : (number : ℕ) → List StepOfFleet → List UnitSeen → List ℕ
units_from number steps [] = []
units_from number steps (unit ∷ later) = unit_lines number (posted_at number steps) unit ++ units_from (number + 1) steps later

-- that of each unit, from unit 1 on
abbrev pub units_report : List StepOfFleet → List UnitSeen → List ℕ
units_report steps units = units_from 1 steps units

-- ---- batches

abbrev pub batch_word : BatchOutcome → List ℕ
batch_word ends.NotOnMedia = codes "notonmedia"
batch_word ends.NoUnit = codes "nounit"
batch_word ends.Completed = codes "completed"
batch_word ends.Stopped = codes "stopped"
batch_word ends.Open = codes "open"

-- `batch PART asked N of M OUTCOME`
unfoldable pub batch_line : BatchEnd → List ℕ
batch_line batch = line (codes "batch" ∷ batch.part ∷ codes "asked" ∷ decimal batch.asked ∷ codes "of" ∷ decimal batch.of ∷ batch_word batch.end ∷ [])

-- The report of a fleet: that of its units, and then a line for each batch.
abbrev pub fleet_report : List StepOfFleet → List UnitSeen → List BatchEnd → List ℕ
fleet_report steps units batches = units_report steps units ++ flat_map batch_line batches
