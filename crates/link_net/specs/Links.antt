-- What a link was posted and gave (docs/EXCHANGE.md, "Links").
use Rattle.std.specs.Prelude.{◌≡◌, ℕ, ◌+◌, ◌≤◌, List, [], ◌∷◌, ◌++◌, Bool, Option, Some, None, Result, IsErrOf, OnOk}
use Rattle.load_base.specs.Counts.{Rose}
use Rattle.exchange_trace.specs.Happenings.{DatagramView, HappeningView}
use Rattle.exchange_trace.specs.Posts.{IsHonest}
use Rattle.exchange_trace.specs.Following.{Plan, Scene, next_turn}
use Rattle.link_net.specs.declared.link.LinkFault.{LinkFault}
use Rattle.link_net.specs.declared.link.LinkFault.TheVariants as links

-- a link: what it was posted, the oldest first; what it gave, the newest first; and what is left of the script that it
-- follows, where it follows one
pub record LinkState : Type 0 where
  pub posted : List DatagramView
  pub given : List HappeningView
  pub plan : Option Plan

-- what the link sees when it is asked, where these sides have a live session
abbrev pub scene_of : LinkState → (loader_waits target_waits : Bool) → Scene
scene_of link loader_waits target_waits = record { posted = link.posted; happenings = link.given; loader_waits = loader_waits; target_waits = target_waits }

-- the link, with one datagram more
abbrev pub with_posted : LinkState → DatagramView → LinkState
with_posted link d = record { posted = link.posted ++ d ∷ []; given = link.given; plan = link.plan }

-- A link that follows a script gives what that gives next.
abbrev pub LinkFollows : Scene → Option Plan → HappeningView → Option Plan → Type 0
LinkFollows s None h left = left ≡ None
LinkFollows s (Some plan) h left = (h ≡ (next_turn s plan).given) × (left ≡ Some (next_turn s plan).plan)

-- The link gives one happening. What is delivered to a side was posted to it.
pub record LinkGives (old new : LinkState) (s : Scene) (h : HappeningView) : Type 0 where
  pub posted : new.posted ≡ old.posted
  pub given : new.given ≡ h ∷ old.given
  pub honest : IsHonest old.posted h
  pub follows : LinkFollows s old.plan h new.plan

-- The count of faults hasn't fallen. A call that failed raised it, by one, and no other did.
pub record HasLinkCause {T : Type 0} (before now : ℕ) (result : Result T LinkFault) : Type 0 where
  pub later : before ≤ now
  pub failed : IsErrOf result links.Failed → Rose before now
  pub once : now ≤ before + 1
  pub ok : OnOk result (now ≡ before)
  pub memory : IsErrOf result links.Memory → now ≡ before
