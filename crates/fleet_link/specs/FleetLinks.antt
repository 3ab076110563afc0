-- What the link of a fleet was posted and gave (docs/FORMATS.md, "Script of a fleet").
use Rattle.std.specs.Prelude.{◌≡◌, ℕ, ◌≤◌, List, [], ◌∷◌, ◌++◌, length, Bool, true, ⊤}
use Rattle.exchange_trace.specs.Happenings.{DatagramView, HappeningView, Upload_started}
use Rattle.fleet_trace.specs.FleetTraces.{FleetHappeningView, At_unit, Batch_begun, Next_asked, All_ended}
use Rattle.fleet_trace.specs.FleetPosts.{UnitPost, happenings_of_unit, posts_of_unit, unit_post}
use Rattle.fleet_trace.specs.FleetFollowing.{FleetPlan, FleetScene, next_fleet_turn}
use Rattle.fleet_trace.specs.OwnScripts.{CanBeGiven}
use Rattle.fleet_trace.specs.FleetLines as spec
use Rattle.link_net.specs.declared.link.Waits.{Waits}
use Rattle.fleet_link.specs.declared.fleet_line.FleetLine.{FleetLine}
use Rattle.fleet_link.specs.declared.fleet_turn.FleetRest.{FleetRest}
use Rattle.fleet_link.specs.FleetMail.{kept_gift}
use Rattle.fleet_link.specs.FleetPlans.{fleet_rest_view, waits_in}
use Rattle.fleet_link.specs.Lines.{AreAtUnits, fleet_line_views}

-- a link of so many units: what it was posted, the oldest first; what happened at units, the newest first, which it gave, or
-- which was started as it asked; and what is left of the line that it follows, and the lines that come later
pub record FleetLinkState : Type 0 where
  pub units : ℕ
  pub posted : List UnitPost
  pub given : List FleetHappeningView
  pub rest : FleetRest
  pub lines : List spec.FleetLine

-- what is left of the script that it follows
abbrev pub plan_in : FleetLinkState → FleetPlan
plan_in link = record { rest = fleet_rest_view link.rest; lines = link.lines }

-- each datagram was posted at one of so many units
abbrev pub ArePostsOf : (units : ℕ) → List UnitPost → Type 0
ArePostsOf units [] = ⊤
ArePostsOf units (p ∷ later) = ((1 ≤ p.unit) × (p.unit ≤ units)) × ArePostsOf units later

-- The lines and the posts are of so many units, which are eight at most.
pub record HoldsScript (units : ℕ) (lines : List FleetLine) (next : ℕ) (posted : List UnitPost) : Type 0 where
  pub few : units ≤ 8
  pub posts : ArePostsOf units posted
  pub within : next ≤ length lines
  pub each : AreAtUnits units (fleet_line_views lines)

-- what the link sees when it is asked, where these sides have a live session, and an upload may be asked or not
abbrev pub fleet_scene_of : FleetLinkState → List Waits → (may_ask : Bool) → FleetScene
fleet_scene_of link waits may_ask = record { posted = link.posted; happenings = link.given; units = link.units; waits_at = waits_in waits; may_ask = may_ask }

-- the link, with one datagram of this unit more
abbrev pub with_post_at : FleetLinkState → (unit : ℕ) → DatagramView → FleetLinkState
with_post_at link unit d = record { units = link.units; posted = link.posted ++ unit_post unit d ∷ []; given = link.given; rest = link.rest; lines = link.lines }

-- an upload starts
abbrev pub IsUploadStart : HappeningView → Type 0
IsUploadStart (Upload_started hw pos parts) = ⊤
IsUploadStart h = ⊥

-- the link, at this unit of which this was started
abbrev pub with_start_at : FleetLinkState → (unit : ℕ) → HappeningView → FleetLinkState
with_start_at link unit h = record { units = link.units; posted = link.posted; given = At_unit unit h ∷ link.given; rest = link.rest; lines = link.lines }

-- it happens at one of so many units, or at none
abbrev pub IsOfUnit : (units : ℕ) → FleetHappeningView → Type 0
IsOfUnit units (At_unit unit h) = (1 ≤ unit) × (unit ≤ units)
IsOfUnit units (Batch_begun part) = ⊤
IsOfUnit units Next_asked = ⊤
IsOfUnit units All_ended = ⊤

-- It can be given at its unit: what is delivered to a side was posted to it there, and it isn't the end. An upload is asked only
-- where it may be.
abbrev pub CanBeGivenIn : FleetLinkState → (may_ask : Bool) → FleetHappeningView → Type 0
CanBeGivenIn link may_ask (At_unit unit h) = CanBeGiven (posts_of_unit unit link.posted) (happenings_of_unit unit link.given) h
CanBeGivenIn link may_ask (Batch_begun part) = ⊤
CanBeGivenIn link may_ask Next_asked = may_ask ≡ true
CanBeGivenIn link may_ask All_ended = ⊤

-- The link gives what its script gives next.
pub record GivesInFleet (old new : FleetLinkState) (waits : List Waits) (may_ask : Bool) (h : FleetHappeningView) : Type 0 where
  pub units : new.units ≡ old.units
  pub posted : new.posted ≡ old.posted
  pub given : new.given ≡ kept_gift h old.given
  pub follows : h ≡ (next_fleet_turn (fleet_scene_of old waits may_ask) (plan_in old)).given
  pub plan : plan_in new ≡ (next_fleet_turn (fleet_scene_of old waits may_ask) (plan_in old)).plan
  pub unit : IsOfUnit old.units h
  pub can : CanBeGivenIn old may_ask h
