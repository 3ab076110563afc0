-- What a run does to the power of the target's disk, and how often the disk stops (docs/EXCHANGE.md, "Runs").
use Rattle.std.specs.Prelude.{◌≡◌, ℕ, zero, ◌+◌, ◌-◌, ◌^◌, ◌≤◌, min, List, [], ◌∷◌, Bool, true, false, if◌then◌else◌}
use Rattle.disk_layout.specs.declared.fault.RecoverFault.TheVariants.{DiskFailed}
use Rattle.disk_model.specs.Arming.{next_count}
use Rattle.disk_model.specs.State.{DiskState}
use Rattle.exchange_trace.specs.Happenings.{HappeningView, Power_cut}
use Rattle.exchange_trace.specs.Steps.{Note, Step, Boot_refused, Went_down}

-- ---- how often the disk stops

-- The count rose at least so often. One that is kept in 64 bits may stay at their greatest value instead.
abbrev pub RoseBy : (n before now : ℕ) → Type 0
RoseBy n before now = min (before + n) (2 ^ 64 - 1) ≤ now

-- the target went down, or stayed down since the disk failed
abbrev pub stops_noted : List Note → ℕ
stops_noted (Went_down ∷ []) = 1
stops_noted (Boot_refused DiskFailed ∷ []) = 1
stops_noted notes = 0

-- power is lost at once
abbrev pub is_cut : HappeningView → Bool
is_cut (Power_cut zero pick) = true
is_cut h = false

-- the disk stopped in a step in which this happened and this was noted, and not since power was cut at once
abbrev pub stops_in : HappeningView → List Note → ℕ
stops_in h notes = if is_cut h then 0 else stops_noted notes

-- how often the disk stopped in these steps
abbrev pub disk_stops : List Step → ℕ
disk_stops [] = 0
disk_stops (s ∷ earlier) = stops_in s.given s.notes + disk_stops earlier

-- ---- losses of power that were armed

-- how often a loss was armed, if it was so often before
abbrev pub armings_with : HappeningView → ℕ → ℕ
armings_with (Power_cut calls pick) n = next_count n
armings_with h n = n

-- the numbers of the last arming, if it had these before
abbrev pub armed_with : HappeningView → ℕ × ℕ → ℕ × ℕ
armed_with (Power_cut calls pick) before = (calls, pick)
armed_with h before = before

-- The disk was armed where this was a loss of power, with its numbers, and else not.
pub record ArmsBy (h : HappeningView) (old new : DiskState) : Type 0 where
  pub armings : new.armings ≡ armings_with h old.armings
  pub armed : new.armed ≡ armed_with h old.armed
