-- A unit's own script: lines of a single target that give its steps one by one (docs/FORMATS.md, "Script of a fleet").
use Rattle.std.specs.Prelude.{◌≡◌, List, [], ◌∷◌, ◌++◌, Some, false, ⊤}
use Rattle.exchange_trace.specs.Happenings.{DatagramView, HappeningView, Delivered, Lost, Injected, Ticked, Size_told}
use Rattle.exchange_trace.specs.Happenings.{Power_cut, Booted, Info_started, Upload_started, Ended}
use Rattle.exchange_trace.specs.Lines.{Line, Info, Upload, Give, Lose, Tick, Inject, Power, Boot, Blksize}
use Rattle.exchange_trace.specs.Posts.{IsHonest, happenings_of, numbered, posted_in, was_delivered}
use Rattle.exchange_trace.specs.Steps.{Step}

-- the line that gives a happening; the end comes without one
abbrev pub lines_giving : HappeningView → List Line
lines_giving (Delivered side n) = Give n ∷ []
lines_giving (Lost n) = Lose n ∷ []
lines_giving (Injected d) = Inject d ∷ []
lines_giving (Ticked side) = Tick side ∷ []
lines_giving (Size_told size) = Blksize size ∷ []
lines_giving (Power_cut calls pick) = Power calls pick ∷ []
lines_giving Booted = Boot ∷ []
lines_giving (Info_started hw pos) = Info hw pos ∷ []
lines_giving (Upload_started hw pos parts) = Upload hw pos parts ∷ []
lines_giving Ended = []

-- A line for each step, the oldest first.
abbrev pub own_script : List Step → List Line
own_script [] = []
own_script (s ∷ earlier) = own_script earlier ++ lines_giving s.given

-- A line can give this happening after these posts and happenings: what is delivered was posted to that side, what is
-- lost was posted and never delivered, and it isn't the end.
abbrev pub CanBeGiven : List DatagramView → List HappeningView → HappeningView → Type 0
CanBeGiven posted happenings (Lost n) =
    (d : DatagramView) × (numbered posted n ≡ Some d) × (was_delivered n happenings ≡ false)
CanBeGiven posted happenings Ended = ⊥
CanBeGiven posted happenings h = IsHonest posted h

-- each happening could be given when it came
abbrev pub AllCanBeGiven : List Step → Type 0
AllCanBeGiven [] = ⊤
AllCanBeGiven (s ∷ earlier) = CanBeGiven (posted_in earlier) (happenings_of earlier) s.given × AllCanBeGiven earlier
