-- The reports of units as they are put.
use Rattle.std.proofs.Common.{◌≡◌, ℕ, ◌+◌, List, ◌∷◌, ◌++◌, map, sym, ap, append_assoc, ◌∙◌}
use Rattle.fleet_trace.specs.FleetTraces.{StepOfFleet}
use Rattle.target_fleet.specs.FleetTexts.{posted_at, unit_lines, unit_seen, units_from}
use Rattle.target_fleet.specs.declared.outcome.UnitEnd.{UnitEnd}

-- one unit more is told of
pub unit_put : (number posted : ℕ) (steps : List StepOfFleet) (whole out then : List ℕ) (end : UnitEnd) (left later : List UnitEnd) → whole ≡ out ++ units_from number steps (map unit_seen left)
    → left ≡ end ∷ later → then ≡ out ++ unit_lines number posted (unit_seen end) → posted ≡ posted_at number steps
    → whole ≡ then ++ units_from (number + 1) steps (map unit_seen later)
unit_put number posted steps whole out then end left later before splits put counted =
    let rest = units_from (number + 1) steps (map unit_seen later) in
    let own = unit_lines number (posted_at number steps) (unit_seen end) in
    let told : then ≡ out ++ own = put ∙ ap (λ (n : ℕ). out ++ unit_lines number n (unit_seen end)) counted in
    before
    ∙ (ap (λ (units : List UnitEnd). out ++ units_from number steps (map unit_seen units)) splits
    ∙ (sym (append_assoc out own rest) ∙ ap (λ (text : List ℕ). text ++ rest) (sym told)))
