-- A trace that is made with the link of a fleet follows its script.
use Rattle.std.proofs.Common.{◌≡◌, ℕ, Bool, true, false, List, [], ◌∷◌, ◌++◌, map, append-nil, refl, sym, ap, ◌∙◌}
use Rattle.std.proofs.Math.Path.{fun_ext}
use Rattle.std.proofs.lemmas.List.{append_assoc, map-append}
use Rattle.exchange_trace.specs.declared.trace.Side.{Side}
use Rattle.exchange_trace.specs.Happenings.{Booted, DatagramView, Delivered, Ended, HappeningView, Info_started, Injected, Lost, Power_cut, Size_told, Ticked, Upload_started}
use Rattle.exchange_trace.specs.Steps.{Step}
use Rattle.fleet_trace.specs.FleetTraces.{All_ended, At_unit, Batch_begun, FleetHappeningView, Next_asked, Of_all, Of_batch, Of_unit, StepOfFleet, steps_of_unit}
use Rattle.fleet_trace.specs.FleetPosts.{UnitPost, fleet_happenings, fleet_posts, given_as, unit_post}
use Rattle.fleet_trace.specs.FleetLines.{FleetLine}
use Rattle.fleet_trace.specs.FleetFollowing.{FleetAsking, FleetScene, FleetTurn, FleetWaiting, FollowsFleet, fleet_plan_after, fleet_scene_after, next_fleet_turn}
use Rattle.link_net.specs.declared.link.Waits.{Waits}
use Rattle.fleet_link.specs.FleetFollowed.{HasFollowedFleet, TellsWaits, begun_step, posting_step}
use Rattle.fleet_link.specs.FleetLinks.{FleetLinkState, GivesInFleet, IsUploadStart, fleet_scene_of, plan_in, with_post_at, with_start_at}
use Rattle.fleet_link.specs.FleetPlans.{waits_in}

-- an upload that starts as asked is given as that it is asked
pub asks_start : (unit : ℕ) (h : HappeningView) → IsUploadStart h → given_as true unit h ≡ Next_asked
asks_start unit (Upload_started hw pos parts) starts = refl
asks_start unit (Delivered side n) starts = absurd starts
asks_start unit (Lost n) starts = absurd starts
asks_start unit (Injected d) starts = absurd starts
asks_start unit (Ticked side) starts = absurd starts
asks_start unit (Size_told size) starts = absurd starts
asks_start unit (Power_cut calls pick) starts = absurd starts
asks_start unit Booted starts = absurd starts
asks_start unit (Info_started hw pos) starts = absurd starts
asks_start unit Ended starts = absurd starts

module _ (units : ℕ) (waiting : FleetWaiting) (asks : FleetAsking) (script : List FleetLine) (steps : List StepOfFleet) (old : FleetLinkState) (waits : List Waits) (may_ask : Bool) (has : HasFollowedFleet units waiting asks script steps old) (tells : TellsWaits waiting steps waits) (may : may_ask ≡ asks steps) where
  seen : List UnitPost → List FleetHappeningView → (count : ℕ) → ((unit : ℕ) → Side → Bool) → Bool → FleetScene
  seen posted happenings count waits_at may = record { posted = posted; happenings = happenings; units = count; waits_at = waits_at; may_ask = may }

  -- the link sees the scene after the steps
  same_scene : fleet_scene_of old waits may_ask ≡ fleet_scene_after units waiting asks steps
  unfolding seen
  same_scene =
      ap (λ (ps : List UnitPost). seen ps old.given old.units (waits_in waits) may_ask) has.posted
      ∙ (ap (λ (hs : List FleetHappeningView). seen (fleet_posts steps) hs old.units (waits_in waits) may_ask) has.given
      ∙ (ap (λ (n : ℕ). seen (fleet_posts steps) (fleet_happenings steps) n (waits_in waits) may_ask) has.count
      ∙ (ap (λ (waits_at : (unit : ℕ) → Side → Bool). seen (fleet_posts steps) (fleet_happenings steps) units waits_at may_ask) (fun_ext (λ unit. fun_ext (λ side. tells unit side)))
      ∙ ap (seen (fleet_posts steps) (fleet_happenings steps) units (λ unit side. waiting unit side (steps_of_unit unit steps))) may)))

  same_turn : next_fleet_turn (fleet_scene_of old waits may_ask) (plan_in old) ≡ next_fleet_turn (fleet_scene_after units waiting asks steps) (fleet_plan_after units waiting asks script steps)
  same_turn = ap (λ (s : FleetScene). next_fleet_turn s (plan_in old)) same_scene ∙ ap (next_fleet_turn (fleet_scene_after units waiting asks steps)) has.left

  pub next_follows : (new : FleetLinkState) (unit : ℕ) (h : HappeningView) → GivesInFleet old new waits may_ask (At_unit unit h) → HasFollowedFleet units waiting asks script (Of_unit false unit (begun_step h) ∷ steps) new
  next_follows new unit h gives =
      record {
        follows = (gives.follows ∙ ap (λ (t : FleetTurn). t.given) same_turn, has.follows);
        count = gives.units ∙ has.count;
        posted = gives.posted ∙ (has.posted ∙ sym (append-nil (fleet_posts steps)));
        given = gives.given ∙ ap (λ (hs : List FleetHappeningView). At_unit unit h ∷ hs) has.given;
        left = gives.plan ∙ ap (λ (t : FleetTurn). t.plan) same_turn;
      }

  pub batch_follows : (new : FleetLinkState) (part : List ℕ) → GivesInFleet old new waits may_ask (Batch_begun part) → HasFollowedFleet units waiting asks script (Of_batch part ∷ steps) new
  batch_follows new part gives =
      record {
        follows = (gives.follows ∙ ap (λ (t : FleetTurn). t.given) same_turn, has.follows);
        count = gives.units ∙ has.count;
        posted = gives.posted ∙ (has.posted ∙ sym (append-nil (fleet_posts steps)));
        given = gives.given ∙ has.given;
        left = gives.plan ∙ ap (λ (t : FleetTurn). t.plan) same_turn;
      }

  -- an upload that is asked starts at a unit
  pub asked_follows : (new : FleetLinkState) (unit : ℕ) (h : HappeningView) → IsUploadStart h → GivesInFleet old new waits may_ask Next_asked
      → HasFollowedFleet units waiting asks script (Of_unit true unit (begun_step h) ∷ steps) (with_start_at new unit h)
  asked_follows new unit h starts gives =
      record {
        follows = (asks_start unit h starts ∙ (gives.follows ∙ ap (λ (t : FleetTurn). t.given) same_turn), has.follows);
        count = gives.units ∙ has.count;
        posted = gives.posted ∙ (has.posted ∙ sym (append-nil (fleet_posts steps)));
        given = ap (λ (hs : List FleetHappeningView). At_unit unit h ∷ hs) (gives.given ∙ has.given);
        left = gives.plan ∙ ap (λ (t : FleetTurn). t.plan) same_turn;
      }

  pub end_follows : (new : FleetLinkState) → GivesInFleet old new waits may_ask All_ended → FollowsFleet units waiting asks script (Of_all ∷ steps)
  end_follows new gives = (gives.follows ∙ ap (λ (t : FleetTurn). t.given) same_turn, has.follows)

pub post_follows : (units : ℕ) (waiting : FleetWaiting) (asks : FleetAsking) (script : List FleetLine) (asked : Bool) (unit : ℕ) (s : Step) (earlier : List StepOfFleet) (link : FleetLinkState) (d : DatagramView)
    → HasFollowedFleet units waiting asks script (Of_unit asked unit s ∷ earlier) link
    → HasFollowedFleet units waiting asks script (Of_unit asked unit (posting_step s d) ∷ earlier) (with_post_at link unit d)
post_follows units waiting asks script asked unit s earlier link d has =
    record {
      follows = has.follows;
      count = has.count;
      posted = ap (λ (ps : List UnitPost). ps ++ unit_post unit d ∷ []) has.posted
          ∙ (append_assoc (fleet_posts earlier) (map (unit_post unit) s.posts) (unit_post unit d ∷ [])
          ∙ ap (λ (ps : List UnitPost). fleet_posts earlier ++ ps) (sym (map-append (unit_post unit) s.posts (d ∷ []))));
      given = has.given;
      left = has.left;
    }
