-- Ports and marks of both sides at every moment of a run (docs/EXCHANGE.md, "Runs").
use Rattle.std.specs.Prelude.{ℕ, ◌<◌, List, Option, Some, None, ⊤}
use Rattle.exchange_trace.specs.Steps.{Step}
use Rattle.transfer_end.specs.Readings.{Reading, kept_in, mark_of, next_port_of}
use Rattle.transfer_end.specs.Transfers.{Transfer}
use Rattle.replay_rules.specs.BothEnds.{Setting, TargetStanding, Is_up, Is_down, loader_at, target_at}
use Rattle.replay_rules.specs.OtherEndTraces.{IsUninjected}

abbrev pub IsDrawnBefore : ℕ → Option Transfer → Type 0
IsDrawnBefore port None = ⊤
IsDrawnBefore port (Some t) = t.own < port

-- The port that a side draws next is above port 59, above the mark of the other side, and above its kept transfer's.
pub record PortsAreApart (loader target : Reading) : Type 0 where
  pub loader_low : 59 < next_port_of loader
  pub target_low : 59 < next_port_of target
  pub loader_below : mark_of loader < next_port_of target
  pub target_below : mark_of target < next_port_of loader
  pub loader_kept : IsDrawnBefore (next_port_of loader) (kept_in loader.past)
  pub target_kept : IsDrawnBefore (next_port_of target) (kept_in target.past)

abbrev pub TargetIsApart : Reading → TargetStanding → Type 0
TargetIsApart loader (Is_up r) = PortsAreApart loader r.end
TargetIsApart loader (Is_down active interrupted) = ⊤

-- Where nothing is injected, it is so at every moment at which the target is up, in whichever life.
abbrev pub PortsStayApart : Type 0
PortsStayApart = (set : Setting) (steps : List Step) → IsUninjected set steps → TargetIsApart (loader_at set steps).end (target_at set steps)
