-- What the lines that are left of a fleet's script say, line by line.
use Rattle.std.proofs.Common.{◌≡◌, ◌⊎◌, ⊎_elim, inl, inr, if◌then◌else◌, ℕ, ◌+◌, ◌==◌, Bool, true, false, List, [], ◌∷◌, Option, Some, Result, Ok, Err, refl, ap, ◌∙◌}
use Rattle.std.specs.List.{slice_split}
use Rattle.exchange_trace.specs.Scripts.{◌>>=◌}
use Rattle.text_words.specs.Words.{pieces_left, WrittenLine, is_passed_over, written_from}
use Rattle.exchange_trace.specs.declared.fault.ScriptFault.{ScriptFault}
use Rattle.exchange_trace.specs.declared.fault.ScriptFault.TheVariants.{Memory}
use Rattle.link_net.specs.Reading.{and_later}
use Rattle.fleet_trace.specs.FleetLines.{FleetLine}
use Rattle.fleet_trace.specs.FleetScripts.{fleet_lines_said, fleet_words_said}
use Rattle.fleet_link.specs.Reading.{FleetSaid, and_fleet_said, before_later, fleet_lines_left}

pub none_before : (said : FleetSaid) → said ≡ and_later [] said
none_before (Ok lines) = refl
none_before (Err fault) = refl

in_order : (line : Result FleetLine ScriptFault) (later : FleetSaid) → (line >>= λ first. later >>= λ others. Ok (first ∷ others)) ≡ before_later line later
in_order (Ok line) (Ok lines) = refl
in_order (Ok line) (Err fault) = refl
in_order (Err fault) later = refl

first_said : (units : ℕ) (passed : Bool) (written : WrittenLine) (later : List WrittenLine)
    → fleet_lines_said units (if passed then later else written ∷ later)
    ≡ (if passed then fleet_lines_said units later else before_later (fleet_words_said written.number units written.words) (fleet_lines_said units later))
first_said units true written later = refl
first_said units false written later = in_order (fleet_words_said written.number units written.words) (fleet_lines_said units later)

-- what is left of the text is what its first line says, and then the others
pub said_line_by_line : (number units : ℕ) (text first : List ℕ) (rest : Option (List ℕ)) → slice_split (λ byte. byte == 10) text ≡ first ∷ pieces_left 10 rest
    → fleet_lines_left number units (Some text) ≡ and_fleet_said number units first (fleet_lines_left (number + 1) units rest)
said_line_by_line number units text first rest parts =
    rw parts (first_said units (is_passed_over first) (record { number = number; words = slice_split (λ byte. byte == 32) first }) (written_from (number + 1) (pieces_left 10 rest)))

-- all lines before this one say something: its fault is that of the text
pub first_fault : (fault : ScriptFault) (whole later : FleetSaid) (before : List FleetLine) (number units : ℕ) (text : List ℕ)
    → whole ≡ and_later before (and_fleet_said number units text later)
    → (fault ≡ Memory) ⊎ ((later : FleetSaid) → and_fleet_said number units text later ≡ Err fault) → (fault ≡ Memory) ⊎ (whole ≡ Err fault)
first_fault fault whole later before number units text is refused =
    ⊎_elim inl (λ wrong. inr (is ∙ ap (and_later before) (wrong later))) refused
