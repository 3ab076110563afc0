-- Both ends by what they keep, and all that was posted since an upload was started (docs/EXCHANGE.md, "A fault-free run
-- completes").
use Rattle.std.specs.Prelude.{ℕ, List, ◌++◌, Bool, Option, is_some}
use Rattle.exchange_trace.specs.declared.trace.Side.{Side}
use Rattle.exchange_trace.specs.declared.trace.Side.TheVariants as sides
use Rattle.exchange_trace.specs.Happenings.{DatagramView}
use Rattle.exchange_trace.specs.Logs.{Event, Gets, Ticks, Learns}
use Rattle.session_rules.specs.Loader.{LoaderView, loader_posts, loader_after}
use Rattle.session_rules.specs.Target.{TargetView, target_posts, target_after}
use Rattle.replay_rules.specs.BothEnds.{Setting}
use Rattle.transfer_completion.specs.Retries.{with_retries}

pub record World : Type 0 where
  pub loader : LoaderView
  pub target : TargetView
  pub posts : List DatagramView  -- of both ends, the oldest first

-- an event reaches an end
abbrev pub at_loader : Setting → World → Event → World
at_loader set w e = record { loader = loader_after set.media w.loader e; target = w.target; posts = w.posts ++ loader_posts set.media w.loader e }

abbrev pub at_target : Setting → World → Event → World
at_target set w e = record { loader = w.loader; target = target_after set.accepts w.target e; posts = w.posts ++ target_posts set.accepts w.target e }

-- a datagram comes to the side that didn't post it
abbrev pub delivered_to : Setting → World → Side → Event → World
delivered_to set w sides.Target e = at_loader set w e
delivered_to set w sides.Loader e = at_target set w e

abbrev pub delivered : Setting → World → DatagramView → World
delivered set w d = delivered_to set w d.side (Gets d.from d.to d.bytes)

-- both ends learn a block size
abbrev pub told : Setting → World → Option ℕ → World
told set w size = at_target set (at_loader set w (Learns size)) (Learns size)

abbrev pub ticked : Setting → World → Side → World
ticked set w sides.Loader = at_loader set w Ticks
ticked set w sides.Target = at_target set w Ticks

-- ---- the same but for retries and posts

abbrev pub retried_loader : LoaderView → ℕ → LoaderView
retried_loader v retries = record { end = with_retries v.end retries; live = v.live; ended = v.ended }

abbrev pub retried_target : TargetView → ℕ → TargetView
retried_target v retries = record { end = with_retries v.end retries; live = v.live; active = v.active; reason = v.reason }

-- the ends of this world with this many retries, and other posts
abbrev pub retried : World → (loader target : ℕ) → List DatagramView → World
retried w loader target posts = record { loader = retried_loader w.loader loader; target = retried_target w.target target; posts = posts }

-- a session is live at a side
abbrev pub waits : World → Side → Bool
waits w sides.Loader = is_some w.loader.live
waits w sides.Target = is_some w.target.live

abbrev pub last_of : World → Side → Option DatagramView
last_of w sides.Loader = w.loader.end.last
last_of w sides.Target = w.target.end.last
