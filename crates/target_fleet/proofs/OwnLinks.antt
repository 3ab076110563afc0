-- What of a fleet's link is one unit's, as a link of its own.
use Rattle.std.proofs.Common.{◌≡◌, ◌≢◌, ℕ, Bool, true, false, cond, List, [], ◌∷◌, ◌++◌, append-nil, eq-eqb, ne_eqb, refl, sym, ap, ◌∙◌}
use Rattle.std.specs.Prelude.{◌==◌, map}
use Rattle.exchange_trace.specs.Happenings.{DatagramView, Ended, HappeningView}
use Rattle.exchange_trace.specs.Posts.{happenings_of, posted_in}
use Rattle.exchange_trace.specs.Steps.{Step}
use Rattle.fleet_link.specs.FleetLinks.{FleetLinkState}
use Rattle.fleet_trace.specs.FleetPosts.{UnitPost, fleet_happenings, fleet_posts, happenings_of_unit, posts_of_unit, unit_post}
use Rattle.fleet_trace.specs.FleetTraces.{All_ended, At_unit, Batch_begun, FleetHappeningView, Next_asked, StepOfFleet, steps_of_unit}
use Rattle.fleet_trace.proofs.UnitParts.{happenings_are, posts_are, posts_join}
use Rattle.upload_replay.specs.Drivers.{IsLinked}
use Rattle.target_fleet.specs.Runs.{own_link}

-- ---- happenings

happenings_join : (unit : ℕ) (more before : List FleetHappeningView) → happenings_of_unit unit (more ++ before) ≡ happenings_of_unit unit more ++ happenings_of_unit unit before
happenings_join unit [] before = refl
happenings_join unit (All_ended ∷ more) before = ap (λ (hs : List HappeningView). Ended ∷ hs) (happenings_join unit more before)
happenings_join unit (Batch_begun part ∷ more) before = happenings_join unit more before
happenings_join unit (Next_asked ∷ more) before = happenings_join unit more before
happenings_join unit (At_unit whose h ∷ more) before = by (whose == unit) (happenings_join unit more before)
  where
    by : (b : Bool) → happenings_of_unit unit (more ++ before) ≡ happenings_of_unit unit more ++ happenings_of_unit unit before
        → cond b (h ∷ happenings_of_unit unit (more ++ before)) (happenings_of_unit unit (more ++ before)) ≡ cond b (h ∷ happenings_of_unit unit more) (happenings_of_unit unit more) ++ happenings_of_unit unit before
    by true e = ap (λ (hs : List HappeningView). h ∷ hs) e
    by false e = e

given_by : (unit whose : ℕ) (b : Bool) → (whose == unit) ≡ b → (h : HappeningView) (given : List FleetHappeningView)
    → happenings_of_unit unit (At_unit whose h ∷ given) ≡ cond b (h ∷ happenings_of_unit unit given) (happenings_of_unit unit given)
given_by unit whose b is h given = ap (λ (b : Bool). cond b (h ∷ happenings_of_unit unit given) (happenings_of_unit unit given)) is

pub given_own : (unit : ℕ) (h : HappeningView) (given : List FleetHappeningView) → happenings_of_unit unit (At_unit unit h ∷ given) ≡ h ∷ happenings_of_unit unit given
given_own unit h given = given_by unit unit true (eq-eqb unit unit refl) h given

pub given_other : (unit whose : ℕ) (h : HappeningView) (given : List FleetHappeningView) → whose ≢ unit → happenings_of_unit unit (At_unit whose h ∷ given) ≡ happenings_of_unit unit given
given_other unit whose h given other = given_by unit whose false (ne_eqb whose unit other) h given

-- ---- posts

posts_by : (unit whose : ℕ) (b : Bool) → (whose == unit) ≡ b → (ds : List DatagramView) → posts_of_unit unit (map (unit_post whose) ds) ≡ cond b ds []
posts_by unit whose true is [] = refl
posts_by unit whose false is [] = refl
posts_by unit whose true is (d ∷ ds) =
    ap (λ (b : Bool). cond b (d ∷ posts_of_unit unit (map (unit_post whose) ds)) (posts_of_unit unit (map (unit_post whose) ds))) is
    ∙ ap (λ (later : List DatagramView). d ∷ later) (posts_by unit whose true is ds)
posts_by unit whose false is (d ∷ ds) =
    ap (λ (b : Bool). cond b (d ∷ posts_of_unit unit (map (unit_post whose) ds)) (posts_of_unit unit (map (unit_post whose) ds))) is
    ∙ posts_by unit whose false is ds

pub posts_own : (unit : ℕ) (ds : List DatagramView) (posted : List UnitPost) → posts_of_unit unit (posted ++ map (unit_post unit) ds) ≡ posts_of_unit unit posted ++ ds
posts_own unit ds posted = posts_join unit posted (map (unit_post unit) ds) ∙ ap (λ (later : List DatagramView). posts_of_unit unit posted ++ later) (posts_by unit unit true (eq-eqb unit unit refl) ds)

pub posts_other : (unit whose : ℕ) (ds : List DatagramView) (posted : List UnitPost) → whose ≢ unit → posts_of_unit unit (posted ++ map (unit_post whose) ds) ≡ posts_of_unit unit posted
posts_other unit whose ds posted other =
    posts_join unit posted (map (unit_post whose) ds)
    ∙ (ap (λ (later : List DatagramView). posts_of_unit unit posted ++ later) (posts_by unit whose false (ne_eqb whose unit other) ds) ∙ append-nil (posts_of_unit unit posted))

-- ---- a unit's link

-- It was posted what the unit posted, and gave what happened at the unit.
pub own_is_linked : (unit : ℕ) (began link : FleetLinkState) (steps : List StepOfFleet) (own : List Step) → own ≡ steps_of_unit unit steps
    → link.posted ≡ fleet_posts steps → link.given ≡ fleet_happenings steps ++ began.given → IsLinked false (own_link unit began) (own_link unit link) own
own_is_linked unit began link steps own is posted given = record {
  given = ap (happenings_of_unit unit) given
      ∙ (happenings_join unit (fleet_happenings steps) began.given
      ∙ ap (λ (hs : List HappeningView). hs ++ happenings_of_unit unit began.given) (happenings_are unit steps ∙ ap happenings_of (sym is)));
  posted = ap (posts_of_unit unit) posted ∙ (posts_are unit steps ∙ ap posted_in (sym is));
}
