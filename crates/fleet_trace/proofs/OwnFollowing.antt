-- Steps that can be given follow their own script.
use Rattle.std.proofs.Common.{◌≡◌, ℕ, Bool, List, [], ◌∷◌, ◌++◌, append-nil, append_assoc, Option, None, option_map, refl, sym, ap, subst, ◌∙◌}
use Rattle.std.specs.Prelude.{if◌then◌else◌}
use Rattle.exchange_trace.specs.declared.trace.Side.{Side}
use Rattle.exchange_trace.specs.Following.{FollowsScript, Nothing_left, Plan, Scene, Turn, from_lines, next_turn, once, or_else, plan_after, plan_of, scene_after, turn}
use Rattle.exchange_trace.specs.Happenings.{Booted, DatagramView, Delivered, Ended, HappeningView, Info_started, Injected, Lost, Power_cut, Size_told, Ticked, Upload_started, other}
use Rattle.exchange_trace.specs.Lines.{Line}
use Rattle.exchange_trace.specs.Posts.{numbered}
use Rattle.exchange_trace.specs.Steps.{Step}
use Rattle.fleet_trace.specs.FleetTraces.{Of_all, Of_batch, Of_unit, StepOfFleet, ended_step, steps_of_unit}
use Rattle.fleet_trace.specs.FleetLines.{FleetLine}
use Rattle.fleet_trace.specs.FleetFollowing.{FleetAsking, FleetWaiting, FollowsFleet}
use Rattle.fleet_trace.specs.OwnScripts.{AllCanBeGiven, CanBeGiven, lines_giving, own_script}
use Rattle.fleet_trace.proofs.CanBeGiven.{all_can}
use Rattle.fleet_trace.proofs.FleetEnds.{none_ended}

-- the line of a happening gives it, and nothing is left of the line
pub own_line_gives : (s : Scene) (h : HappeningView) (later : List Line) → CanBeGiven s.posted s.happenings h
    → next_turn s (plan_of (lines_giving h ++ later)) ≡ turn h Nothing_left later
own_line_gives s (Delivered side n) later (d, posted, whose) =
    ap (λ (o : Option DatagramView). or_else (once later (option_map (λ (x : DatagramView). Delivered (other x.side) n) o)) (from_lines s later)) posted
    ∙ ap (λ (x : Side). turn (Delivered x n) Nothing_left later) (sym whose)
own_line_gives s (Lost n) later (d, posted, never) =
    ap (λ (b : Bool). or_else (once later (if b then None else option_map (λ (x : DatagramView). Lost n) (numbered s.posted n))) (from_lines s later)) never
    ∙ ap (λ (o : Option DatagramView). or_else (once later (option_map (λ (x : DatagramView). Lost n) o)) (from_lines s later)) posted
own_line_gives s (Injected d) later can = refl
own_line_gives s (Ticked side) later can = refl
own_line_gives s (Size_told size) later can = refl
own_line_gives s (Power_cut calls pick) later can = refl
own_line_gives s Booted later can = refl
own_line_gives s (Info_started hw pos) later can = refl
own_line_gives s (Upload_started hw pos parts) later can = refl
own_line_gives s Ended later can = absurd can

module _ (waiting : Side → List Step → Bool) where
  -- the steps follow this script, and these lines are left of it
  abbrev Leads : List Line → List Step → List Line → Type 0
  Leads script steps later = FollowsScript waiting script steps × (plan_after waiting script steps ≡ plan_of later)

  leads_on : (s : Step) (earlier : List Step) (script later : List Line) → CanBeGiven (scene_after waiting earlier).posted (scene_after waiting earlier).happenings s.given
      → Leads script earlier (lines_giving s.given ++ later) → Leads script (s ∷ earlier) later
  leads_on s earlier script later can (follows, left) =
      let next : next_turn (scene_after waiting earlier) (plan_after waiting script earlier) ≡ turn s.given Nothing_left later =
      ap (λ (p : Plan). next_turn (scene_after waiting earlier) p) left ∙ own_line_gives (scene_after waiting earlier) s.given later can in
      ((sym (ap (λ (t : Turn). t.given) next), follows), ap (λ (t : Turn). t.plan) next)

  pub own_script_leads : (steps : List Step) (later : List Line) → AllCanBeGiven steps → Leads (own_script steps ++ later) steps later
  own_script_leads [] later can = (tt, refl)
  own_script_leads (s ∷ earlier) later can =
      leads_on s earlier (own_script (s ∷ earlier) ++ later) later can.0
      (subst (λ (script : List Line). Leads script earlier (lines_giving s.given ++ later)) (sym (append_assoc (own_script earlier) (lines_giving s.given) later))
      (own_script_leads earlier (lines_giving s.given ++ later) can.1))

  pub own_script_follows : (steps : List Step) (later : List Line) → AllCanBeGiven steps → FollowsScript waiting (own_script steps ++ later) steps
  own_script_follows steps later can = (own_script_leads steps later can).0

  pub own_script_leaves : (steps : List Step) (later : List Line) → AllCanBeGiven steps → plan_after waiting (own_script steps ++ later) steps ≡ plan_of later
  own_script_leaves steps later can = (own_script_leads steps later can).1

  own_steps_follow : (steps : List Step) → AllCanBeGiven steps → Leads (own_script steps) steps []
  own_steps_follow steps can = subst (λ (script : List Line). Leads script steps []) (append-nil (own_script steps)) (own_script_leads steps [] can)

  -- after the end comes the end again, without a line
  end_follows : (steps : List Step) → Leads (own_script steps) steps [] → Leads (own_script (ended_step ∷ steps)) (ended_step ∷ steps) []
  end_follows steps (follows, left) =
      subst (λ (script : List Line). Leads script (ended_step ∷ steps) []) (sym (append-nil (own_script steps)))
      ((sym (ap (λ (p : Plan). (next_turn (scene_after waiting steps) p).given) left), follows), ap (λ (p : Plan). (next_turn (scene_after waiting steps) p).plan) left)

module _ (units : ℕ) (waiting : FleetWaiting) (asks : FleetAsking) (script : List FleetLine) (unit : ℕ) where
  units_lead : (steps : List StepOfFleet) → FollowsFleet units waiting asks script steps → Leads (waiting unit) (own_script (steps_of_unit unit steps)) (steps_of_unit unit steps) []
  units_lead [] follows = (tt, refl)
  units_lead (Of_all ∷ earlier) follows = end_follows (waiting unit) (steps_of_unit unit earlier) (units_lead earlier follows.1)
  units_lead (Of_batch part ∷ earlier) follows = units_lead earlier follows.1
  units_lead (Of_unit asked whose s ∷ earlier) follows =
      own_steps_follow (waiting unit) (steps_of_unit unit (Of_unit asked whose s ∷ earlier))
      (all_can units waiting asks script (Of_unit asked whose s ∷ earlier) unit follows (tt, none_ended units waiting asks script (Of_unit asked whose s) earlier tt follows))

pub units_follow : (units : ℕ) (waiting : FleetWaiting) (asks : FleetAsking) (script : List FleetLine) (steps : List StepOfFleet) (unit : ℕ)
    → FollowsFleet units waiting asks script steps → FollowsScript (waiting unit) (own_script (steps_of_unit unit steps)) (steps_of_unit unit steps)
units_follow units waiting asks script steps unit follows = (units_lead units waiting asks script unit steps follows).0
