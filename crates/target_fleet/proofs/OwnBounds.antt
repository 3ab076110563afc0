-- What a unit does in the fleet's last `finish` is what a `finish` of its own gives.
use Rattle.std.proofs.Common.{◌≡◌, ◌⊎◌, inl, inr, ℕ, List, [], ◌∷◌, ◌++◌, Bool, Option, sym, ap, subst, ◌∙◌}
use Rattle.std.specs.List.{AllByRecursion}
use Rattle.exchange_trace.specs.declared.trace.Side.{Side}
use Rattle.exchange_trace.specs.declared.trace.Side.TheVariants as sides
use Rattle.exchange_trace.specs.Following.{Finishing, Plan, Turn, from_lines, goes_on, next_turn, or_else, plan_of}
use Rattle.exchange_trace.specs.Happenings.{HappeningView}
use Rattle.exchange_trace.specs.Lines.{Finish, Line}
use Rattle.exchange_trace.specs.Steps.{Step}
use Rattle.finish_ends.specs.Finishes.{AllOfFinish, FinishEnds, IsOfFinish}
use Rattle.finish_ends.proofs.Given.{Gives, finish_gives, gives, is_done}
use Rattle.fleet_trace.specs.FleetFinishes.{IsLeftToOwnFinish}
use Rattle.fleet_trace.specs.FleetFollowing.{FleetAsking}
use Rattle.fleet_trace.specs.FleetLines.{FleetLine}
use Rattle.fleet_trace.specs.FleetTraces.{StepOfFleet, ended_step, steps_of_unit}
use Rattle.fleet_trace.specs.OwnScripts.{own_script}
use Rattle.fleet_trace.proofs.LastFleetFinish.{each_is_left_to_own}
use Rattle.replay_rules.specs.BothEnds.{Setting}
use Rattle.replay_rules.specs.Changes.{AllCarryBytes}
use Rattle.replay_rules.specs.Promises.{IsNoEnd, IsTrace}
use Rattle.replay_rules.specs.Runs.{TraceFollows, plan_at, scene_at}
use Rattle.target_fleet.specs.Bounds.{FinishEndsAtUnit}
use Rattle.target_fleet.specs.Runs.{fleet_waiting}
use Rattle.target_fleet.proofs.OwnFinish.{waits_as}

module _ (set : Setting) (script : List Line) (steps : List Step) (left : plan_at set script steps ≡ plan_of (Finish ∷ [])) where
  -- the `finish` begins, or goes on
  abbrev IsAtFinish : Plan → Type 0
  IsAtFinish p = (p ≡ plan_of (Finish ∷ [])) ⊎ ((turned : Side) × (p ≡ record { rest = Finishing turned; lines = [] }))

  next_there : (more : List Step) → IsAtFinish (plan_at set script (more ++ steps))
      → (turned : Side) × (next_turn (scene_at set (more ++ steps)) (plan_at set script (more ++ steps)) ≡ or_else (goes_on (scene_at set (more ++ steps)) (Finishing turned) []) (from_lines (scene_at set (more ++ steps)) []))
  next_there more (inl begins) = (sides.Loader, ap (next_turn (scene_at set (more ++ steps))) begins)
  next_there more (inr (turned, on)) = (turned, ap (next_turn (scene_at set (more ++ steps))) on)

  walk : (more : List Step) → TraceFollows set script (more ++ steps) → AllByRecursion (λ (s : Step). IsNoEnd s.given) (more ++ steps) → AllOfFinish set more steps × IsAtFinish (plan_at set script (more ++ steps))
  walk [] follows goes = (tt, inl left)
  walk (s ∷ more) follows goes = by (walk more follows.1 goes.1)
    where
      given : (turned : Side) → next_turn (scene_at set (more ++ steps)) (plan_at set script (more ++ steps)) ≡ or_else (goes_on (scene_at set (more ++ steps)) (Finishing turned) []) (from_lines (scene_at set (more ++ steps)) [])
          → AllOfFinish set more steps → Gives set (more ++ steps) turned [] → AllOfFinish set (s ∷ more) steps × IsAtFinish (plan_at set script (s ∷ (more ++ steps)))
      given turned next before (gives h then of e) =
          let there = next ∙ ap (λ (o : Option Turn). or_else o (from_lines (scene_at set (more ++ steps)) [])) e in
          ((subst (λ (x : HappeningView). IsOfFinish set (more ++ steps) x) (sym (follows.0 ∙ ap (λ (t : Turn). t.given) there)) of, before), inr (then, ap (λ (t : Turn). t.plan) there))
      given turned next before (is_done quiet e) =
          let there = next ∙ ap (λ (o : Option Turn). or_else o (from_lines (scene_at set (more ++ steps)) [])) e in
          absurd (subst (λ (x : HappeningView). IsNoEnd x) (follows.0 ∙ ap (λ (t : Turn). t.given) there) goes.0)

      by : AllOfFinish set more steps × IsAtFinish (plan_at set script (more ++ steps)) → AllOfFinish set (s ∷ more) steps × IsAtFinish (plan_at set script (s ∷ (more ++ steps)))
      by (before, at) = let next = next_there more at in given next.0 next.1 before (finish_gives set (more ++ steps) next.0 [])

pub unit_finish_ends : FinishEnds → (units : ℕ) (sets : ℕ → Setting) (asks : FleetAsking) (script : List FleetLine) (steps : List StepOfFleet) (unit : ℕ) → FinishEndsAtUnit units sets asks script steps unit
unit_finish_ends ends units sets asks script steps unit follows trace carries least most whole =
    let before = steps_of_unit unit whole.before in
    let more = steps_of_unit unit whole.more in
    let own = subst (λ (waits : Side → List Step → Bool). IsLeftToOwnFinish waits before more (steps_of_unit unit steps)) (waits_as units sets unit least most)
    (each_is_left_to_own units (fleet_waiting units sets) asks script steps whole follows unit least most) in
    let own_trace : IsTrace (sets unit) (ended_step ∷ (more ++ before)) = subst (IsTrace (sets unit)) own.split trace in
    let own_carries : AllCarryBytes (ended_step ∷ (more ++ before)) = subst AllCarryBytes own.split carries in
    let own_follows : TraceFollows (sets unit) (own_script before ++ Finish ∷ []) (ended_step ∷ (more ++ before)) = subst (TraceFollows (sets unit) (own_script before ++ Finish ∷ [])) own.split own.follows in
    ends (sets unit) before more (record { due = own_trace.due.1; noted = own_trace.noted.1; carries = own_carries.1 })
    (walk (sets unit) (own_script before ++ Finish ∷ []) before own.left more own_follows.1 own_trace.ends.1).0
