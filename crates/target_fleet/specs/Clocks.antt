-- The clocks of one unit's disk, step by step of the fleet (docs/EXCHANGE.md, "Fleets").
use Rattle.std.specs.Prelude.{◌≡◌, ℕ, ◌≤◌, List, [], ◌∷◌, ◌==◌, Bool, true, false, if◌then◌else◌}
use Rattle.fleet_trace.specs.FleetTraces.{Of_all, Of_batch, Of_unit, StepOfFleet}
use Rattle.upload_replay.specs.Moments.{Clocks}

-- the clock goes on in a step of its own unit, and stands still in one of another
abbrev pub GoesOnIn : (is_own : Bool) → (clock end : ℕ) → Type 0
GoesOnIn true clock end = clock ≤ end
GoesOnIn false clock end = end ≡ clock

-- These are the clocks of this unit's disk at which the fleet's steps began, the newest first, for steps that began at one
-- clock and ended at another. In a step of another unit or of none the clock stands still, so that the disk gets no image there.
abbrev pub AreFleetClocks : (unit since end : ℕ) → Clocks → List StepOfFleet → Type 0
AreFleetClocks unit since end clocks [] = end ≡ since
AreFleetClocks unit since end [] (s ∷ earlier) = ⊥
AreFleetClocks unit since end (clock ∷ clocks) (Of_unit asked whose s ∷ earlier) =
    GoesOnIn (whose == unit) clock end × AreFleetClocks unit since clock clocks earlier
AreFleetClocks unit since end (clock ∷ clocks) (Of_batch part ∷ earlier) = GoesOnIn false clock end × AreFleetClocks unit since clock clocks earlier
AreFleetClocks unit since end (clock ∷ clocks) (Of_all ∷ earlier) = (clock ≤ end) × AreFleetClocks unit since clock clocks earlier

-- those at which the unit's own steps began
abbrev pub own_clocks : (unit : ℕ) → Clocks → List StepOfFleet → Clocks
own_clocks unit clocks [] = []
own_clocks unit [] (s ∷ earlier) = []
own_clocks unit (clock ∷ clocks) (Of_batch part ∷ earlier) = own_clocks unit clocks earlier
own_clocks unit (clock ∷ clocks) (Of_unit asked whose s ∷ earlier) =
    if whose == unit then clock ∷ own_clocks unit clocks earlier else own_clocks unit clocks earlier
own_clocks unit (clock ∷ clocks) (Of_all ∷ earlier) = clock ∷ own_clocks unit clocks earlier
