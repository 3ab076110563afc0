-- The datagrams that a fleet's link was posted, over all units, and what became of them.
use Rattle.std.specs.Prelude.{◌≡◌, ℕ, ◌+◌, ◌-◌, ◌<◌, ◌≤◌, List, [], ◌∷◌, ◌++◌, length, map, reverse, true, false, slice_get, slice_set, Option, Some, None, Bool, ⊤}
use Rattle.exchange_trace.specs.declared.trace.Datagram.{Datagram}
use Rattle.exchange_trace.specs.declared.trace.Side.{Side}
use Rattle.exchange_trace.specs.declared.trace.Happening.{Happening}
use Rattle.exchange_trace.specs.Happenings.{DatagramView, HappeningView, datagram_view, happening_view}
use Rattle.exchange_trace.specs.Posts.{NamesOnlyPosted, is_undelivered}
use Rattle.link_net.specs.Mail.{MailView, NamesPosted, with_given}
use Rattle.fleet_trace.specs.FleetTraces.{FleetHappeningView, At_unit, Batch_begun, Next_asked, All_ended}
use Rattle.fleet_trace.specs.FleetPosts.{PostPlace, UnitPost, happenings_of_unit, is_place_undelivered, post_places, posts_of_unit, unit_post}
use Rattle.fleet_trace.specs.FleetFollowing.{FleetScene}
use Rattle.fleet_link.specs.declared.fleet_mail.Place.{Place}

-- what was posted, the oldest first, and what happened at units, the newest first
pub record FleetMailView : Type 0 where
  pub posted : List UnitPost
  pub given : List FleetHappeningView

-- what of it is one unit's
abbrev pub mail_of : (unit : ℕ) → FleetMailView → MailView
mail_of unit mail = record { posted = posts_of_unit unit mail.posted; given = happenings_of_unit unit mail.given }

-- a place as the code keeps it
abbrev pub place_view : Place → PostPlace
place_view place = record { unit = place.unit; number = place.number }

-- the datagram was posted at its unit, of which these are the mails, from unit 1 on
pub record IsPlaceOfPost (mails : List MailView) (place : Place) : Type 0 where
  pub unit : 1 ≤ place.unit
  pub number : 1 ≤ place.number
  pub mail : MailView
  pub there : slice_get mails (place.unit - 1) ≡ Some mail
  pub within : place.number ≤ length mail.posted

abbrev pub ArePlacesOfPosts : List MailView → List Place → Type 0
ArePlacesOfPosts mails places = (k : ℕ) (place : Place) → slice_get places k ≡ Some place → IsPlaceOfPost mails place

-- Each unit's mail is kept, where each datagram stands, and which is the first undelivered one.
pub record KeepsFleetMail (mails : List MailView) (kept : List Place) (least : ℕ) (mail : FleetMailView) : Type 0 where
  pub units : length mails ≡ 8
  pub each_mail : (i : ℕ) (m : MailView) → slice_get mails i ≡ Some m → m ≡ mail_of (i + 1) mail
  pub each_place : map place_view kept ≡ post_places mail.posted
  pub placed : ArePlacesOfPosts mails kept
  pub within : least ≤ length kept
  pub before : (k : ℕ) (place : Place) → k < least → slice_get kept k ≡ Some place → is_place_undelivered mail.given (place_view place) ≡ false
  pub found : (place : Place) → slice_get kept least ≡ Some place → is_place_undelivered mail.given (place_view place) ≡ true
  pub named : (unit : ℕ) → NamesOnlyPosted (length (posts_of_unit unit mail.posted)) (happenings_of_unit unit mail.given)

-- one datagram more at the unit of this index, and the number that it has there
pub record PostsAt (index : ℕ) (d : DatagramView) (number : ℕ) (old new : List MailView) : Type 0 where
  pub mail : MailView
  pub there : slice_get old index ≡ Some mail
  pub next : number ≡ length mail.posted + 1
  pub kept : new ≡ slice_set old index (record { posted = mail.posted ++ d ∷ []; given = mail.given })

-- this is given at the unit of this index
pub record GivesAt (index : ℕ) (h : HappeningView) (old new : List MailView) : Type 0 where
  pub mail : MailView
  pub there : slice_get old index ≡ Some mail
  pub kept : new ≡ slice_set old index (with_given mail h)

-- the datagram that stands here is undelivered in these mails
abbrev pub is_undelivered_in : List MailView → Place → Bool
is_undelivered_in mails place = in_mail (slice_get mails (place.unit - 1))
  where
    in_mail : Option MailView → Bool
    in_mail (Some mail) = is_undelivered mail.given place.number
    in_mail None = false

-- the datagrams of a log that proofs alone read, with their units
abbrev pub posted_at_units : List (Datagram × ℕ) → List UnitPost
posted_at_units log = map (λ entry. unit_post entry.1 (datagram_view entry.0)) log

-- the happenings of such a log, the newest first
abbrev pub given_at_units : List (Happening × ℕ) → List FleetHappeningView
given_at_units log = reverse (map (λ entry. At_unit entry.1 (happening_view entry.0)) log)

-- what happened at units, with this more; what is of no unit isn't kept
abbrev pub kept_gift : FleetHappeningView → List FleetHappeningView → List FleetHappeningView
kept_gift (At_unit unit h) given = At_unit unit h ∷ given
kept_gift (Batch_begun part) given = given
kept_gift Next_asked given = given
kept_gift All_ended given = given

abbrev pub with_gift : FleetMailView → FleetHappeningView → FleetMailView
with_gift mail h = record { posted = mail.posted; given = kept_gift h mail.given }

-- what following the script sees of it, in a fleet of so many units
abbrev pub fleet_scene_in : FleetMailView → (units : ℕ) → (waits_at : (unit : ℕ) → Side → Bool) → (may_ask : Bool) → FleetScene
fleet_scene_in mail units waits_at may_ask = record { posted = mail.posted; happenings = mail.given; units = units; waits_at = waits_at; may_ask = may_ask }

-- It happens at one of the units, and names a datagram that was posted there, if it names one.
abbrev pub NamesPlaced : FleetMailView → FleetHappeningView → Type 0
NamesPlaced mail (At_unit unit h) = ((1 ≤ unit) × (unit ≤ 8)) × NamesPosted (length (posts_of_unit unit mail.posted)) h
NamesPlaced mail (Batch_begun part) = ⊤
NamesPlaced mail Next_asked = ⊤
NamesPlaced mail All_ended = ⊤
