-- Which sides of a fleet's units have a live session (docs/EXCHANGE.md, "Fleets").
use Rattle.std.specs.Prelude.{◌≡◌, ℕ, ◌<◌, List, slice_get, Some, is_some}
use Rattle.link_net.specs.declared.link.Waits.{Waits}
use Rattle.replay_turns.specs.Turns.{target_kept}
use Rattle.upload_replay.specs.Drivers.{DriverState}
use Rattle.upload_replay.specs.Drives.{has_session}

-- those of one unit
pub record TellsBoth {R : Type 0} (d : DriverState R) (waits : Waits) : Type 0 where
  pub loader : waits.loader ≡ is_some d.loader.view.live
  pub target : waits.target ≡ has_session (target_kept d.target)

-- those of each unit before this index
abbrev pub TellWaits : {R : Type 0} → (index : ℕ) → List (DriverState R) → List Waits → Type 0
TellWaits {R} index drivers waits = (i : ℕ) (d : DriverState R) → i < index → slice_get drivers i ≡ Some d
    → (w : Waits) × (slice_get waits i ≡ Some w) × TellsBoth d w
