-- What was posted and what happened in a fleet, unit by unit, and which datagrams are undelivered (docs/EXCHANGE.md,
-- "Fleets"). The fleet numbers its datagrams over all units, from 1; each unit numbers its own, from 1.
use Rattle.std.specs.Prelude.{ℕ, ◌+◌, ◌-◌, List, [], ◌∷◌, ◌++◌, length, map, filter, Bool, true, ◌==◌, Option, None}
use Rattle.std.specs.Prelude.{slice_get, if◌then◌else◌}
use Rattle.exchange_trace.specs.Happenings.{DatagramView, HappeningView, Ended, Upload_started}
use Rattle.exchange_trace.specs.Posts.{is_undelivered}
use Rattle.fleet_trace.specs.FleetTraces.{FleetHappeningView, At_unit, Batch_begun, Next_asked, All_ended}
use Rattle.fleet_trace.specs.FleetTraces.{StepOfFleet, Of_unit, Of_batch, Of_all}

-- ---- posts

-- a datagram that was posted at a unit
pub record UnitPost : Type 0 where
  pub unit : ℕ
  pub datagram : DatagramView

abbrev pub unit_post : (unit : ℕ) → DatagramView → UnitPost
unit_post unit d = record { unit = unit; datagram = d }

abbrev pub posts_in_step : StepOfFleet → List UnitPost
posts_in_step (Of_unit asked unit s) = map (unit_post unit) s.posts
posts_in_step (Of_batch part) = []
posts_in_step Of_all = []

-- all that was posted, the oldest first
abbrev pub fleet_posts : List StepOfFleet → List UnitPost
fleet_posts [] = []
fleet_posts (s ∷ earlier) = fleet_posts earlier ++ posts_in_step s

-- what was posted at one unit, in its order
abbrev pub posts_of_unit : (unit : ℕ) → List UnitPost → List DatagramView
posts_of_unit unit [] = []
posts_of_unit unit (p ∷ later) =
    if p.unit == unit then p.datagram ∷ posts_of_unit unit later else posts_of_unit unit later

-- ---- happenings

-- what is given as this happens at a unit: of an upload that was asked, that it is
abbrev pub given_as : (asked : Bool) → (unit : ℕ) → HappeningView → FleetHappeningView
given_as true unit (Upload_started hw pos parts) = Next_asked
given_as asked unit h = At_unit unit h

-- what is given as a step begins
abbrev pub given_in_fleet : StepOfFleet → FleetHappeningView
given_in_fleet (Of_unit asked unit s) = given_as asked unit s.given
given_in_fleet (Of_batch part) = Batch_begun part
given_in_fleet Of_all = All_ended

-- what happened at units, with this step more; at no unit does a batch begin
abbrev pub with_happening : StepOfFleet → List FleetHappeningView → List FleetHappeningView
with_happening (Of_unit asked unit s) earlier = At_unit unit s.given ∷ earlier
with_happening (Of_batch part) earlier = earlier
with_happening Of_all earlier = All_ended ∷ earlier

-- all that happened at units, the newest first, also the uploads that were asked
abbrev pub fleet_happenings : List StepOfFleet → List FleetHappeningView
fleet_happenings [] = []
fleet_happenings (s ∷ earlier) = with_happening s (fleet_happenings earlier)

-- a happening before others of one unit, where it is one of that unit
abbrev pub before_own_happenings : (unit : ℕ) → FleetHappeningView → List HappeningView → List HappeningView
before_own_happenings unit (At_unit whose h) earlier = if whose == unit then h ∷ earlier else earlier
before_own_happenings unit (Batch_begun part) earlier = earlier
before_own_happenings unit Next_asked earlier = earlier
before_own_happenings unit All_ended earlier = Ended ∷ earlier

-- what happened at one unit, in its order; the end happens at each
abbrev pub happenings_of_unit : (unit : ℕ) → List FleetHappeningView → List HappeningView
happenings_of_unit unit [] = []
happenings_of_unit unit (h ∷ earlier) = before_own_happenings unit h (happenings_of_unit unit earlier)

-- ---- places

-- where a post stands: at which unit, and which number it has among that unit's own posts
pub record PostPlace : Type 0 where
  pub unit : ℕ
  pub number : ℕ

-- the places of posts that come after these
abbrev pub post_places_after : (before : List UnitPost) → List UnitPost → List PostPlace
post_places_after before [] = []
post_places_after before (p ∷ later) =
    record { unit = p.unit; number = 1 + length (posts_of_unit p.unit before) }
    ∷ post_places_after (before ++ p ∷ []) later

-- The place of each post, in the order of the fleet.
abbrev pub post_places : List UnitPost → List PostPlace
post_places posts = post_places_after [] posts

-- the place of the datagram that has this number in the fleet, if it was posted
abbrev pub located : List UnitPost → ℕ → Option PostPlace
located posts n = if n == 0 then None else slice_get (post_places posts) (n - 1)

-- the own numbers of the places that are of one unit
abbrev pub numbers_of_unit : (unit : ℕ) → List PostPlace → List ℕ
numbers_of_unit unit [] = []
numbers_of_unit unit (p ∷ later) =
    if p.unit == unit then p.number ∷ numbers_of_unit unit later else numbers_of_unit unit later

-- the datagram of this place is undelivered at its unit
abbrev pub is_place_undelivered : List FleetHappeningView → PostPlace → Bool
is_place_undelivered happenings p = is_undelivered (happenings_of_unit p.unit happenings) p.number

-- The places of the undelivered datagrams, in the order of the fleet.
abbrev pub undelivered_places : List UnitPost → List FleetHappeningView → List PostPlace
undelivered_places posts happenings = filter (is_place_undelivered happenings) (post_places posts)
