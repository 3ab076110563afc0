-- A session that stops leaves the order in which blocks were first posted.
use Rattle.std.proofs.Common.{◌≡◌, ℕ, ◌<◌, List, Option, Some, None, refl, sym, subst}
use Rattle.std.specs.List.{AllByRecursion}
use Rattle.exchange_trace.specs.declared.trace.Side.{Side}
use Rattle.exchange_trace.specs.Happenings.{DatagramView}
use Rattle.transfer_end.specs.FirstPosts.{AllInOrder}
use Rattle.transfer_end.specs.Moves.{Stops, past_with, reading_after}
use Rattle.transfer_end.specs.Readings.{Reading, next_port_of, port_past, port_with}
use Rattle.transfer_end.specs.Transfers.{Transfer}

pub next_with : (r : Reading) → port_past r.first_port (past_with r.live r.past) ≡ next_port_of r
next_with r = by r.live
  where
    by : (live : Option Transfer) → port_past r.first_port (past_with live r.past) ≡ port_with (port_past r.first_port r.past) live
    by None = refl
    by (Some t) = refl

stops_next : (r : Reading) (posts : List DatagramView) → AllByRecursion (λ (x : DatagramView). x.from < next_port_of r) posts → AllByRecursion (λ (x : DatagramView). x.from < port_past r.first_port (past_with r.live r.past)) posts
stops_next r posts below = subst (λ (port : ℕ). AllByRecursion (λ (x : DatagramView). x.from < port) posts) (sym (next_with r)) below

pub stopped_in_order : (side : Side) (r : Reading) (posts : List DatagramView) → AllInOrder r posts → AllInOrder (reading_after side r Stops) posts
stopped_in_order side r posts h = record { each = h.each; below = stops_next r posts h.below }
