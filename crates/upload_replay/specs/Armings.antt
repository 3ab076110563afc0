-- Which losses of power a run arms (docs/EXCHANGE.md, "Runs").
use Rattle.std.specs.Prelude.{◌≡◌, ℕ, List, [], ◌∷◌, ◌++◌}
use Rattle.disk_model.specs.State.{DiskState}
use Rattle.exchange_trace.specs.Happenings.{HappeningView}
use Rattle.replay_turns.specs.Powers.{armed_with, armings_with}

-- the same after all of these happenings, the newest first
abbrev pub armings_after : List HappeningView → ℕ → ℕ
armings_after [] n = n
armings_after (h ∷ earlier) n = armings_with h (armings_after earlier n)

abbrev pub armed_after : List HappeningView → ℕ × ℕ → ℕ × ℕ
armed_after [] before = before
armed_after (h ∷ earlier) before = armed_with h (armed_after earlier before)

-- A loss of power was armed once for each that the link gave meanwhile, with its numbers, and no other was.
pub record ArmsAsGiven (before after : List HappeningView) (old new : DiskState) : Type 0 where
  pub given : List HappeningView
  pub more : after ≡ given ++ before
  pub armings : new.armings ≡ armings_after given old.armings
  pub armed : new.armed ≡ armed_after given old.armed
