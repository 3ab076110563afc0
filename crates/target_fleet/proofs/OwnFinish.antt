-- A unit that is left to the fleet's last `finish` is left to one of its own.
use Rattle.std.proofs.Common.{◌≡◌, ℕ, ◌≤◌, Bool, List, [], ◌∷◌, ◌++◌, Option, refl, ap, subst}
use Rattle.std.proofs.Math.Path.{fun_ext}
use Rattle.std.proofs.lemmas.Bool.{le-leb}
use Rattle.disk_layout.specs.Holds.{StandingView}
use Rattle.exchange_trace.specs.declared.trace.Side.{Side}
use Rattle.exchange_trace.specs.Following.{Plan, goes_on}
use Rattle.exchange_trace.specs.Lines.{Finish}
use Rattle.exchange_trace.specs.Steps.{Step}
use Rattle.fleet_trace.specs.FleetFinishes.{IsLeftToOwnFinish}
use Rattle.fleet_trace.specs.FleetFollowing.{FleetAsking}
use Rattle.fleet_trace.specs.FleetLines.{FleetLine}
use Rattle.fleet_trace.specs.FleetTraces.{StepOfFleet, ended_step, steps_of_unit}
use Rattle.fleet_trace.specs.OwnScripts.{own_script}
use Rattle.fleet_trace.proofs.LastFleetFinish.{each_is_left_to_own}
use Rattle.replay_rules.specs.BothEnds.{Setting, waiting}
use Rattle.replay_rules.specs.Promises.{OnlyFinishIsLeft}
use Rattle.replay_rules.specs.Runs.{scene_at}
use Rattle.session_completion.proofs.LastFinish.{finish_alone_is_left}
use Rattle.session_rules.specs.Loader.{EndedSession}
use Rattle.target_fleet.specs.Finishes.{CompletesAtUnit}
use Rattle.target_fleet.specs.Runs.{fleet_waiting}

-- one of the fleet's units waits as its setting says
pub waits_as : (units : ℕ) (sets : ℕ → Setting) (unit : ℕ) → 1 ≤ unit → unit ≤ units → fleet_waiting units sets unit ≡ waiting (sets unit)
waits_as units sets unit least most = fun_ext (λ side. fun_ext (λ own. rw (le-leb 1 unit least, le-leb unit units most) refl))

pub unit_completes : (units : ℕ) (sets : ℕ → Setting) (asks : FleetAsking) (script : List FleetLine) (steps : List StepOfFleet) (unit : ℕ) (sessions : List EndedSession) (standing : Option StandingView) → CompletesAtUnit units sets asks script steps unit sessions standing
unit_completes units sets asks script steps unit sessions standing follows keeps accepts told fits left last is active =
    let before = steps_of_unit unit left.whole.before in
    let more = steps_of_unit unit left.whole.more in
    let all = steps_of_unit unit steps in
    let own = subst (λ (waits : Side → List Step → Bool). IsLeftToOwnFinish waits before more all) (waits_as units sets unit left.least left.most)
    (each_is_left_to_own units (fleet_waiting units sets) asks script steps left.whole follows unit left.least left.most) in
    let only : OnlyFinishIsLeft (sets unit) (own_script before ++ Finish ∷ []) before =
    (ap (λ (p : Plan). p.lines) own.left, ap (λ (p : Plan). goes_on (scene_at (sets unit) before) p.rest p.lines) own.left) in
    keeps.completes accepts told fits (own_script before ++ Finish ∷ []) own.follows
    (record { before = before; more = ended_step ∷ more; split = own.split; free = left.free; margin = left.margin; left = finish_alone_is_left (sets unit) (own_script before ++ Finish ∷ []) before only })
    left.stays_up last is active
