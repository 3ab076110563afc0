-- What holds of each unit holds on with one step of the fleet more.
use Rattle.std.proofs.Common.{◌≡◌, ◌≢◌, ℕ, Bool, true, false, cond, List, [], ◌∷◌, eq-eqb, ne_eqb, refl, sym, ap, subst, ◌∙◌}
use Rattle.std.specs.Prelude.{◌==◌}
use Rattle.accept_rules.specs.declared.kept.KeptLoad.{KeptLoad}
use Rattle.disk_model.specs.State.{DiskState}
use Rattle.exchange_trace.specs.Happenings.{DatagramView, HappeningView}
use Rattle.exchange_trace.specs.Posts.{happenings_of}
use Rattle.exchange_trace.specs.Steps.{Step}
use Rattle.fleet_trace.specs.FleetTraces.{Of_batch, Of_unit, StepOfFleet, steps_of_unit}
use Rattle.load_header.specs.declared.header.LoadHeader.{LoadHeader}
use Rattle.media_check.specs.Sets.{SetView}
use Rattle.replay_rules.specs.BothEnds.{Setting}
use Rattle.replay_turns.proofs.PowerLemmas.{rose_joined}
use Rattle.replay_turns.specs.Powers.{ArmsBy, RoseBy, disk_stops, stops_in}
use Rattle.upload_replay.specs.Armings.{ArmsAsGiven}
use Rattle.upload_replay.specs.Drivers.{DriverState, HoldsUnit}
use Rattle.upload_replay.specs.Moments.{AreClocks, Clocks}
use Rattle.upload_replay.proofs.Counted.{arms_on, arms_one}
use Rattle.target_fleet.specs.Clocks.{GoesOnIn, own_clocks}
use Rattle.target_fleet.specs.Runs.{HoldsOwn, RunsInFleet}
use Rattle.upload_replay.specs.DriverSteps.{TakesStep}

-- ---- whose step it is

own_of : (asked : Bool) (unit whose : ℕ) (b : Bool) → (whose == unit) ≡ b → (s : Step) (steps : List StepOfFleet)
    → steps_of_unit unit (Of_unit asked whose s ∷ steps) ≡ cond b (s ∷ steps_of_unit unit steps) (steps_of_unit unit steps)
own_of asked unit whose b is s steps = ap (λ (b : Bool). cond b (s ∷ steps_of_unit unit steps) (steps_of_unit unit steps)) is

clocks_of : (asked : Bool) (unit whose : ℕ) (b : Bool) → (whose == unit) ≡ b → (clock : ℕ) (clocks : Clocks) (s : Step) (steps : List StepOfFleet)
    → own_clocks unit (clock ∷ clocks) (Of_unit asked whose s ∷ steps) ≡ cond b (clock ∷ own_clocks unit clocks steps) (own_clocks unit clocks steps)
clocks_of asked unit whose b is clock clocks s steps = ap (λ (b : Bool). cond b (clock ∷ own_clocks unit clocks steps) (own_clocks unit clocks steps)) is

pub step_of_own : (asked : Bool) (unit : ℕ) (s : Step) (steps : List StepOfFleet) → steps_of_unit unit (Of_unit asked unit s ∷ steps) ≡ s ∷ steps_of_unit unit steps
step_of_own asked unit s steps = own_of asked unit unit true (eq-eqb unit unit refl) s steps

pub step_of_other : (asked : Bool) (unit whose : ℕ) (s : Step) (steps : List StepOfFleet) → whose ≢ unit → steps_of_unit unit (Of_unit asked whose s ∷ steps) ≡ steps_of_unit unit steps
step_of_other asked unit whose s steps other = own_of asked unit whose false (ne_eqb whose unit other) s steps

module _ {R K : Type 0} (state : K → DiskState) (may_say : R → LoadHeader → List KeptLoad → Bool → Type 0) (rule : R) (shown : SetView) (unit : ℕ) (steps : List StepOfFleet) where
  -- ---- a step of another unit

  module _ (asked : Bool) (whose : ℕ) (other : whose ≢ unit) (s : Step) (d : DriverState R) (old new : K) where
    holds_still : (set : Setting) → HoldsOwn set unit (state old).clock steps d (state new) → HoldsOwn set unit (state old).clock (Of_unit asked whose s ∷ steps) d (state new)
    holds_still set own = record {
      clocks = (state new).clock ∷ own.clocks;
      timed = (subst (λ (b : Bool). GoesOnIn b (state new).clock (state new).clock) (sym (ne_eqb whose unit other)) refl, own.timed);
      held = subst (λ (clocks : Clocks). HoldsUnit set (state old).clock clocks d (state new)) (sym (clocks_of asked unit whose false (ne_eqb whose unit other) (state new).clock own.clocks s steps)) own.held;
    }

    pub stays_in_fleet : RunsInFleet state may_say rule shown unit steps d old new → RunsInFleet state may_say rule shown unit (Of_unit asked whose s ∷ steps) d old new
    stays_in_fleet runs = record {
      goes_on = runs.goes_on;
      running = runs.running;
      own = runs.own ∙ sym (step_of_other asked unit whose s steps other);
      media = runs.media;
      stood = runs.stood;
      stops = runs.stops;
      arms = runs.arms;
      lives = runs.lives;
      stands = runs.stands;
      tied = runs.tied;
      held = λ set image is told loses. holds_still set (runs.held set image is told loses);
      identity = runs.identity;
    }

  -- ---- a step of none

  module _ (part : List ℕ) (d : DriverState R) (old new : K) where
    batch_holds : (set : Setting) → HoldsOwn set unit (state old).clock steps d (state new) → HoldsOwn set unit (state old).clock (Of_batch part ∷ steps) d (state new)
    batch_holds set own = record { clocks = (state new).clock ∷ own.clocks; timed = (refl, own.timed); held = own.held }

    pub batch_in_fleet : RunsInFleet state may_say rule shown unit steps d old new → RunsInFleet state may_say rule shown unit (Of_batch part ∷ steps) d old new
    batch_in_fleet runs = record {
      goes_on = runs.goes_on;
      running = runs.running;
      own = runs.own;
      media = runs.media;
      stood = runs.stood;
      stops = runs.stops;
      arms = runs.arms;
      lives = runs.lives;
      stands = runs.stands;
      tied = runs.tied;
      held = λ set image is told loses. batch_holds set (runs.held set image is told loses);
      identity = runs.identity;
    }

  -- ---- a step of its own

  module _ (asked : Bool) (h : HappeningView) (posts : List DatagramView) (before after : DriverState R) (old mid new : K) (takes : TakesStep may_say h posts before after (state mid) (state new)) where
    own_step : Step
    own_step = takes.stepped.step

    later : (since : ℕ) (clocks : Clocks) → AreClocks since (state new).clock ((state mid).clock ∷ clocks) after.steps → GoesOnIn true (state mid).clock (state new).clock
    later since clocks timed = (subst (λ (own : List Step). AreClocks since (state new).clock ((state mid).clock ∷ clocks) own) takes.stepped.recorded timed).0

    holds_more : (set : Setting) → HoldsOwn set unit (state old).clock steps before (state mid)
        → ((clocks : Clocks) → HoldsUnit set (state old).clock clocks before (state mid) → HoldsUnit set (state old).clock ((state mid).clock ∷ clocks) after (state new))
        → HoldsOwn set unit (state old).clock (Of_unit asked unit takes.stepped.step ∷ steps) after (state new)
    holds_more set own on = let held = on (own_clocks unit own.clocks steps) own.held in record {
      clocks = (state mid).clock ∷ own.clocks;
      timed = (subst (λ (b : Bool). GoesOnIn b (state mid).clock (state new).clock) (sym (eq-eqb unit unit refl)) (later (state old).clock (own_clocks unit own.clocks steps) held.held.timed), own.timed);
      held = subst (λ (clocks : Clocks). HoldsUnit set (state old).clock clocks after (state new))
          (sym (clocks_of asked unit unit true (eq-eqb unit unit refl) (state mid).clock own.clocks takes.stepped.step steps)) held;
    }

    pub steps_in_fleet : ArmsBy h (state mid) (state new) → RunsInFleet state may_say rule shown unit steps before old mid
        → RunsInFleet state may_say rule shown unit (Of_unit asked unit takes.stepped.step ∷ steps) after old new
    steps_in_fleet arms runs = record {
      goes_on = takes.stepped.goes_on;
      running = takes.stepped.running;
      own = takes.stepped.recorded ∙ (ap (λ (own : List Step). takes.stepped.step ∷ own) runs.own ∙ sym (step_of_own asked unit takes.stepped.step steps));
      media = takes.stepped.media ∙ runs.media;
      stood = runs.stood;
      stops = rw takes.stepped.recorded (rose_joined (disk_stops before.steps) (stops_in takes.stepped.step.given takes.stepped.step.notes) (state old).faults (state mid).faults (state new).faults runs.stops
          (subst (λ (x : HappeningView). RoseBy (stops_in x takes.stepped.step.notes) (state mid).faults (state new).faults) (sym takes.stepped.given) takes.stepped.stops));
      arms = subst (λ (given : List HappeningView). ArmsAsGiven [] given (state old) (state new)) (sym (ap happenings_of takes.stepped.recorded ∙ ap (λ (x : HappeningView). x ∷ happenings_of before.steps) takes.stepped.given))
          (arms_on [] (happenings_of before.steps) (h ∷ happenings_of before.steps) (state old) (state mid) (state new) runs.arms
          (arms_one (happenings_of before.steps) (h ∷ happenings_of before.steps) h (state mid) (state new) refl arms));
      lives = λ accepts follows. takes.lives accepts (runs.lives accepts follows);
      stands = λ set image is told. takes.stands set (runs.stands set image is told);
      tied = λ set image is told. takes.tied set (runs.stands set image is told) (runs.tied set image is told);
      held = λ set image is told loses. holds_more set (runs.held set image is told loses) (λ clocks held. takes.held set (state old).clock clocks (runs.stands set image is told) held);
      identity = λ set image is told. takes.stepped.identity ∙ runs.identity set image is told;
    }
