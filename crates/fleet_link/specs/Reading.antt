-- How a fleet's script is read, line by line (docs/FORMATS.md, "Script of a fleet").
use Rattle.std.specs.Prelude.{ℕ, List, [], ◌∷◌, Option, Result, Ok, Err, ◌==◌, if◌then◌else◌}
use Rattle.std.specs.List.{slice_split}
use Rattle.text_words.specs.Words.{pieces_left, is_passed_over, written_from}
use Rattle.exchange_trace.specs.declared.fault.ScriptFault.{ScriptFault}
use Rattle.link_net.specs.Reading.{and_later}
use Rattle.fleet_trace.specs.FleetLines.{FleetLine}
use Rattle.fleet_trace.specs.FleetScripts.{fleet_lines_said, fleet_words_said}

-- what lines say
abbrev pub FleetSaid : Type 0
FleetSaid = Result (List FleetLine) ScriptFault

-- a line, and then what later ones say
abbrev pub before_later : Result FleetLine ScriptFault → FleetSaid → FleetSaid
before_later (Ok line) later = and_later (line ∷ []) later
before_later (Err fault) later = Err fault

-- what a line says, unless it is passed over, and then what later ones say
abbrev pub and_fleet_said : (number units : ℕ) → List ℕ → FleetSaid → FleetSaid
and_fleet_said number units text later =
    if is_passed_over text then later
    else before_later (fleet_words_said number units (slice_split (λ byte. byte == 32) text)) later

-- what lines from this one on say, where this is left of the text
abbrev pub fleet_lines_left : (number units : ℕ) → Option (List ℕ) → FleetSaid
fleet_lines_left number units text = fleet_lines_said units (written_from number (pieces_left 10 text))
