-- What is posted of a step where memory runs out (docs/EXCHANGE.md, "Fleets").
use Rattle.std.specs.Prelude.{◌≡◌, ℕ, List, ◌++◌}
use Rattle.exchange_trace.specs.Happenings.{DatagramView}
use Rattle.fleet_link.specs.FleetLinks.{FleetLinkState}
use Rattle.target_fleet.specs.Runs.{with_posts_at}

-- of what a unit posts in a step, the first datagrams were posted to the link, and the rest not
pub record IsPostedInPartAt (unit : ℕ) (posts : List DatagramView) (link link_then : FleetLinkState) : Type 0 where
  pub sent : List DatagramView
  pub left : List DatagramView
  pub parts : posts ≡ sent ++ left
  pub linked : link_then ≡ with_posts_at link unit sent
