-- What was due in each step, and what may be noted of the target (docs/EXCHANGE.md, "Runs").
use Rattle.std.specs.Prelude.{◌≡◌, ◌⊎◌, ℕ, zero, suc, List, [], ◌∷◌, ◌++◌, Bool, true, false, Option, Some, None, if◌then◌else◌, ⊤}
use Rattle.exchange_trace.specs.declared.trace.Side.TheVariants as sides
use Rattle.exchange_trace.specs.Happenings.{DatagramView, HappeningView, Booted, Power_cut}
use Rattle.exchange_trace.specs.Logs.{Event, event_for}
use Rattle.exchange_trace.specs.Posts.{posted_in, first_port_after}
use Rattle.exchange_trace.specs.Steps.{Step, Note, Went_down, Came_up, Boot_refused}
use Rattle.session_rules.specs.LoaderLog.{LoaderReading, loader_due}
use Rattle.session_rules.specs.TargetLog.{target_due}
use Rattle.replay_rules.specs.BothEnds.{Setting, TargetStanding, Is_up, Is_down, loader_at, target_at}

abbrev pub due_of_loader : Setting → LoaderReading → Option Event → List DatagramView
due_of_loader set r None = []
due_of_loader set r (Some e) = loader_due set.media r e

abbrev pub due_of_target : Setting → TargetStanding → Option Event → List DatagramView
due_of_target set (Is_up r) (Some e) = target_due set.accepts r e
due_of_target set state e = []

-- a target that goes down in a step posts nothing in it
abbrev pub goes_down : List Note → Bool
goes_down [] = false
goes_down (Went_down ∷ notes) = true
goes_down (note ∷ notes) = goes_down notes

-- What is due where this happens after these steps: by what the logs of both sides say.
abbrev pub due : Setting → List Step → HappeningView → List Note → List DatagramView
due set earlier h notes =
    due_of_loader set (loader_at set earlier) (event_for sides.Loader (posted_in earlier) h)
    ++ (if goes_down notes then [] else due_of_target set (target_at set earlier) (event_for sides.Target (posted_in earlier) h))

-- In each step exactly what was due was posted.
abbrev pub AllDue : Setting → List Step → Type 0
AllDue set [] = ⊤
AllDue set (s ∷ earlier) = (s.posts ≡ due set earlier s.given s.notes) × AllDue set earlier

-- ---- what is noted of the target

-- the happening is no loss of power, and no boot
abbrev pub LeavesPower : HappeningView → Type 0
LeavesPower (Power_cut calls pick) = ⊥
LeavesPower Booted = ⊥
LeavesPower h = ⊤

abbrev pub is_up : TargetStanding → Bool
is_up (Is_up r) = true
is_up (Is_down active interrupted) = false

-- a boot brings the target up, with the first port that is due, or is refused
abbrev pub IsBooted : (first_port : ℕ) → List Note → Type 0
IsBooted due_port (Came_up first_port sequence ∷ []) = first_port ≡ due_port
IsBooted due_port (Boot_refused fault ∷ []) = ⊤
IsBooted due_port notes = ⊥

-- a loss of power at once brings down a target that is up
abbrev pub IsCut : (up : Bool) → List Note → Type 0
IsCut true notes = notes ≡ Went_down ∷ []
IsCut false notes = notes ≡ []

-- any other happening may bring it down
abbrev pub MayGoDown : (up : Bool) → List Note → Type 0
MayGoDown true notes = (notes ≡ []) ⊎ (notes ≡ Went_down ∷ [])
MayGoDown false notes = notes ≡ []

-- what may be noted where this happens to a target that is up or down, and this would be its first port after a boot
abbrev pub MayBeNoted : (up : Bool) → (first_port : ℕ) → HappeningView → List Note → Type 0
MayBeNoted up first_port Booted notes = IsBooted first_port notes
MayBeNoted up first_port (Power_cut zero pick) notes = IsCut up notes
MayBeNoted up first_port (Power_cut (suc calls) pick) notes = notes ≡ []
MayBeNoted up first_port h notes = MayGoDown up notes

-- In each step only that was noted which may be.
abbrev pub AllNoted : Setting → List Step → Type 0
AllNoted set [] = ⊤
AllNoted set (s ∷ earlier) = MayBeNoted (is_up (target_at set earlier)) (first_port_after earlier) s.given s.notes × AllNoted set earlier
