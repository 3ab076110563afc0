-- A trace that a link makes which follows a script (docs/EXCHANGE.md, "Links").
use Rattle.std.specs.Prelude.{◌≡◌, List, Bool, Some}
use Rattle.exchange_trace.specs.declared.trace.Side.{Side}
use Rattle.exchange_trace.specs.Lines.{Line}
use Rattle.exchange_trace.specs.Steps.{Step}
use Rattle.exchange_trace.specs.Posts.{happenings_of, posted_in}
use Rattle.exchange_trace.specs.Following.{FollowsScript, plan_after}
use Rattle.link_net.specs.Links.{LinkState}

-- The steps follow the script, where `waiting` says which sides have a live session. The link was posted what the sides
-- posted in them and gave what happened in them, and what is left of its script is what they leave of it.
pub record HasFollowed (waiting : Side → List Step → Bool) (script : List Line) (steps : List Step) (link : LinkState) : Type 0 where
  pub posted : link.posted ≡ posted_in steps
  pub given : link.given ≡ happenings_of steps
  pub plan : link.plan ≡ Some (plan_after waiting script steps)
  pub follows : FollowsScript waiting script steps
