-- What was posted and what happened at a unit is so in its own steps.
use Rattle.std.proofs.Common.{◌≡◌, ℕ, Bool, true, false, cond, List, [], ◌∷◌, ◌++◌, append-nil, refl, ap, ◌∙◌}
use Rattle.std.specs.Prelude.{map, ◌==◌}
use Rattle.exchange_trace.specs.declared.trace.Side.TheVariants as sides
use Rattle.exchange_trace.specs.Following.{Scene, scene_after}
use Rattle.exchange_trace.specs.Happenings.{DatagramView, Ended, HappeningView}
use Rattle.exchange_trace.specs.Posts.{happenings_of, posted_in}
use Rattle.exchange_trace.specs.Steps.{Step}
use Rattle.fleet_trace.specs.FleetFollowing.{FleetAsking, FleetWaiting, fleet_scene_after, unit_scene}
use Rattle.fleet_trace.specs.FleetPosts.{UnitPost, fleet_happenings, fleet_posts, happenings_of_unit, posts_in_step, posts_of_unit, unit_post}
use Rattle.fleet_trace.specs.FleetTraces.{Of_all, Of_batch, Of_unit, StepOfFleet, before_own, ended_step, steps_of_unit}

pub posts_join : (unit : ℕ) (xs ys : List UnitPost) → posts_of_unit unit (xs ++ ys) ≡ posts_of_unit unit xs ++ posts_of_unit unit ys
posts_join unit [] ys = refl
posts_join unit (p ∷ xs) ys = by (p.unit == unit) (posts_join unit xs ys)
  where
    by : (b : Bool) → posts_of_unit unit (xs ++ ys) ≡ posts_of_unit unit xs ++ posts_of_unit unit ys
        → cond b (p.datagram ∷ posts_of_unit unit (xs ++ ys)) (posts_of_unit unit (xs ++ ys)) ≡ cond b (p.datagram ∷ posts_of_unit unit xs) (posts_of_unit unit xs) ++ posts_of_unit unit ys
    by true e = ap (λ (ds : List DatagramView). p.datagram ∷ ds) e
    by false e = e

-- the posts of one step are all of its unit
all_of_one : (unit whose : ℕ) (ds : List DatagramView) → posts_of_unit unit (map (unit_post whose) ds) ≡ cond (whose == unit) ds []
all_of_one unit whose [] = by (whose == unit)
  where
    by : (b : Bool) → ◌≡◌ {A = List DatagramView} [] (cond b [] [])
    by true = refl
    by false = refl
all_of_one unit whose (d ∷ ds) = by (whose == unit) (all_of_one unit whose ds)
  where
    by : (b : Bool) → posts_of_unit unit (map (unit_post whose) ds) ≡ cond b ds []
        → cond b (d ∷ posts_of_unit unit (map (unit_post whose) ds)) (posts_of_unit unit (map (unit_post whose) ds)) ≡ cond b (d ∷ ds) []
    by true e = ap (λ (later : List DatagramView). d ∷ later) e
    by false e = e

posts_step : (unit : ℕ) (s : StepOfFleet) (own : List Step) → posted_in own ++ posts_of_unit unit (posts_in_step s) ≡ posted_in (before_own unit s own)
posts_step unit Of_all own = refl
posts_step unit (Of_batch part) own = append-nil (posted_in own)
posts_step unit (Of_unit asked whose s) own = ap (λ (ds : List DatagramView). posted_in own ++ ds) (all_of_one unit whose s.posts) ∙ by (whose == unit)
  where
    by : (b : Bool) → posted_in own ++ cond b s.posts [] ≡ posted_in (cond b (s ∷ own) own)
    by true = refl
    by false = append-nil (posted_in own)

pub posts_are : (unit : ℕ) (steps : List StepOfFleet) → posts_of_unit unit (fleet_posts steps) ≡ posted_in (steps_of_unit unit steps)
posts_are unit [] = refl
posts_are unit (s ∷ earlier) =
    posts_join unit (fleet_posts earlier) (posts_in_step s)
    ∙ (ap (λ (ds : List DatagramView). ds ++ posts_of_unit unit (posts_in_step s)) (posts_are unit earlier) ∙ posts_step unit s (steps_of_unit unit earlier))

pub happenings_are : (unit : ℕ) (steps : List StepOfFleet) → happenings_of_unit unit (fleet_happenings steps) ≡ happenings_of (steps_of_unit unit steps)
happenings_are unit [] = refl
happenings_are unit (Of_all ∷ earlier) = ap (λ (hs : List HappeningView). Ended ∷ hs) (happenings_are unit earlier)
happenings_are unit (Of_batch part ∷ earlier) = happenings_are unit earlier
happenings_are unit (Of_unit asked whose s ∷ earlier) = by (whose == unit) (happenings_are unit earlier)
  where
    by : (b : Bool) → happenings_of_unit unit (fleet_happenings earlier) ≡ happenings_of (steps_of_unit unit earlier)
        → cond b (s.given ∷ happenings_of_unit unit (fleet_happenings earlier)) (happenings_of_unit unit (fleet_happenings earlier)) ≡ happenings_of (cond b (s ∷ steps_of_unit unit earlier) (steps_of_unit unit earlier))
    by true e = ap (λ (hs : List HappeningView). s.given ∷ hs) e
    by false e = e

pub steps_join : (unit : ℕ) (more before : List StepOfFleet) → steps_of_unit unit (more ++ before) ≡ steps_of_unit unit more ++ steps_of_unit unit before
steps_join unit [] before = refl
steps_join unit (Of_all ∷ more) before = ap (λ (own : List Step). ended_step ∷ own) (steps_join unit more before)
steps_join unit (Of_batch part ∷ more) before = steps_join unit more before
steps_join unit (Of_unit asked whose s ∷ more) before = by (whose == unit) (steps_join unit more before)
  where
    by : (b : Bool) → steps_of_unit unit (more ++ before) ≡ steps_of_unit unit more ++ steps_of_unit unit before
        → cond b (s ∷ steps_of_unit unit (more ++ before)) (steps_of_unit unit (more ++ before)) ≡ cond b (s ∷ steps_of_unit unit more) (steps_of_unit unit more) ++ steps_of_unit unit before
    by true e = ap (λ (own : List Step). s ∷ own) e
    by false e = e

-- so is the unit's scene
pub unit_scene_is : (units : ℕ) (waiting : FleetWaiting) (asks : FleetAsking) (steps : List StepOfFleet) (unit : ℕ)
    → unit_scene (fleet_scene_after units waiting asks steps) unit ≡ scene_after (waiting unit) (steps_of_unit unit steps)
unit_scene_is units waiting asks steps unit =
    ap (λ (ds : List DatagramView). scene ds (happenings_of_unit unit (fleet_happenings steps))) (posts_are unit steps)
    ∙ ap (λ (hs : List HappeningView). scene (posted_in (steps_of_unit unit steps)) hs) (happenings_are unit steps)
  where
    scene : List DatagramView → List HappeningView → Scene
    scene ds hs = record { posted = ds; happenings = hs; loader_waits = waiting unit sides.Loader (steps_of_unit unit steps); target_waits = waiting unit sides.Target (steps_of_unit unit steps) }
