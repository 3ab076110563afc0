-- A fleet's script, as contracts see it.
use Rattle.std.specs.Prelude.{◌≡◌, ℕ, ◌≤◌, List, map, slice_get, Some, ⊤}
use Rattle.link_net.specs.Lines.{line_view}
use Rattle.fleet_trace.specs.FleetLines as spec
use Rattle.fleet_link.specs.declared.fleet_line.FleetLine.{FleetLine}
use Rattle.fleet_link.specs.declared.fleet_line.FleetLine.TheVariants as lines

abbrev pub fleet_line_view : FleetLine → spec.FleetLine
fleet_line_view (lines.At unit line) = spec.Line_at unit (line_view line)
fleet_line_view (lines.Give number) = spec.Give_numbered number
fleet_line_view (lines.Lose number) = spec.Lose_numbered number
fleet_line_view (lines.Next count) = spec.Next_of_all count
fleet_line_view lines.Finish = spec.Finish_all
fleet_line_view (lines.Batch part) = spec.Begin_batch part
fleet_line_view lines.AskNext = spec.Ask_next
fleet_line_view lines.FinishBatch = spec.Finish_batch

abbrev pub fleet_line_views : List FleetLine → List spec.FleetLine
fleet_line_views lines = map fleet_line_view lines

-- what a line says of a unit it says of one of so many
abbrev pub IsAtUnit : (units : ℕ) → spec.FleetLine → Type 0
IsAtUnit units (spec.Line_at unit line) = (1 ≤ unit) × (unit ≤ units)
IsAtUnit units line = ⊤

abbrev pub AreAtUnits : (units : ℕ) → List spec.FleetLine → Type 0
AreAtUnits units lines = (k : ℕ) (line : spec.FleetLine) → slice_get lines k ≡ Some line → IsAtUnit units line

-- for how many units it was read, and its lines
pub record FleetScriptView : Type 0 where
  pub units : ℕ
  pub lines : List spec.FleetLine
