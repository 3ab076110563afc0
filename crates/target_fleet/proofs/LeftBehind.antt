-- What a fleet leaves of each unit's disk, between two turns and where memory runs out in one.
use Rattle.std.proofs.Common.{◌≡◌, ◌⊎◌, inl, inr, ℕ, ◌≤◌, List, [], ◌∷◌, ◌++◌, Bool, false, Option, None, Err, append-nil, refl, sym, ap, ◌∙◌}
use Rattle.std.specs.Prelude.{IsErrOf}
use Rattle.accept_rules.specs.declared.kept.KeptLoad.{KeptLoad}
use Rattle.disk_model.specs.Image.{Image}
use Rattle.disk_model.specs.State.{DiskState}
use Rattle.exchange_trace.specs.Happenings.{DatagramView, HappeningView}
use Rattle.exchange_trace.specs.Posts.{happenings_of}
use Rattle.exchange_trace.specs.Steps.{Step}
use Rattle.fleet_link.specs.FleetLinks.{FleetLinkState}
use Rattle.fleet_trace.specs.FleetPosts.{happenings_of_unit, posts_of_unit}
use Rattle.fleet_trace.specs.FleetTraces.{StepOfFleet}
use Rattle.load_header.specs.declared.header.LoadHeader.{LoadHeader}
use Rattle.media_check.specs.Sets.{SetView}
use Rattle.replay_rules.specs.BothEnds.{Setting}
use Rattle.replay_rules.specs.BothEnds.{target_at}
use Rattle.replay_rules.specs.Histories.{may_be_active}
use Rattle.replay_rules.specs.Promises.{HoldsOneOf}
use Rattle.replay_turns.proofs.StepLemmas.{one_left, one_of_either, one_right}
use Rattle.upload_replay.specs.Armings.{ArmsAsGiven}
use Rattle.upload_replay.specs.Drivers.{DriverState, IsLinked}
use Rattle.upload_replay.specs.Endings.{LeavesUnit}
use Rattle.upload_replay.specs.Leaves.{all_active, brought_last}
use Rattle.upload_replay.specs.Turns.{IsPostedInPart}
use Rattle.upload_replay.specs.declared.outcome.DriveFault.TheVariants as faults
use Rattle.upload_replay.proofs.Counted.{arms_none, arms_on, arms_one}
use Rattle.upload_replay.proofs.History.{all_held, history_last, history_now, history_posted}
use Rattle.target_fleet.specs.Clocks.{own_clocks}
use Rattle.target_fleet.specs.Leaves.{LeavesOwn}
use Rattle.target_fleet.specs.PartPosts.{IsPostedInPartAt}
use Rattle.target_fleet.specs.Runs.{HoldsOwn, RunsInFleet, own_link}
use Rattle.upload_replay.specs.DriverSteps.{ActsOnDisk}
use Rattle.target_fleet.proofs.OwnLinks.{posts_own}

-- a run that memory ends isn't one that its link ends
never_link : IsErrOf {T = Unit} (Err faults.Memory) faults.Link → ⊥
never_link is = cc

now_among_all : (set : Setting) (steps : List Step) (image : Image) → HoldsOneOf (may_be_active (target_at set steps)) image → HoldsOneOf (all_active set steps) image
now_among_all set [] image is = is
now_among_all set (s ∷ earlier) image is = one_left image (may_be_active (target_at set (s ∷ earlier))) (all_active set earlier) is

-- what is active now is among all that was
one_of_all : (set : Setting) (steps : List Step) (last : Option HappeningView) (image : Image) → HoldsOneOf (brought_last set steps last ++ may_be_active (target_at set steps)) image
    → HoldsOneOf (brought_last set steps last ++ all_active set steps) image
one_of_all set steps last image is = elim (one_of_either image (brought_last set steps last) (may_be_active (target_at set steps)) is) [
  | inl brought ↦ one_left image (brought_last set steps last) (all_active set steps) brought
  | inr now ↦ one_right image (brought_last set steps last) (all_active set steps) (now_among_all set steps image now)
]

-- what was armed since the start, on a link that had given something before
arms_since : (before own given : List HappeningView) (old new : DiskState) → given ≡ own ++ before → ArmsAsGiven [] own old new → ArmsAsGiven before given old new
arms_since before own given old new is arms = record {
  given = arms.given;
  more = is ∙ ap (λ (more : List HappeningView). more ++ before) (arms.more ∙ append-nil arms.given);
  armings = arms.armings;
  armed = arms.armed;
}

module _ {R K : Type 0} (state : K → DiskState) (may_say : R → LoadHeader → List KeptLoad → Bool → Type 0) (rule : R) (shown : SetView)
    (wider : (k : K) (s t u v : ℕ) (image : Image) → s ≤ t → u ≤ v → (state k).between t u image → (state k).between s v image)
    (splits : (k : K) (t u v : ℕ) (image : Image) → t ≤ u → u ≤ v → (state k).between t v image → (state k).between t u image ⊎ (state k).between u v image)
    (only : (k : K) (t u : ℕ) (image : Image) → (state k).clock ≤ t → (state k).between t u image → (state k).now image)
    (unit : ℕ) (began link : FleetLinkState) (steps : List StepOfFleet) (d : DriverState R) (old new : K) (runs : RunsInFleet state may_say rule shown unit steps d old new) where
  arms_now : (given : List HappeningView) → given ≡ happenings_of d.steps ++ happenings_of_unit unit began.given → ArmsAsGiven (happenings_of_unit unit began.given) given (state old) (state new)
  arms_now given is = arms_since (happenings_of_unit unit began.given) (happenings_of d.steps) given (state old) (state new) is runs.arms

  held_each : (set : Setting) (own : HoldsOwn set unit (state old).clock steps d (state new)) (u : ℕ) (image : Image) → (state new).between (state old).clock u image
      → HoldsOneOf (all_active set d.steps) image
  held_each set own = all_held set (state new) (wider new) (splits new) (only new) (state old).clock (own_clocks unit own.clocks steps) d.steps d.target own.held.held

  -- between two turns
  pub leaves_now : IsLinked false (own_link unit began) (own_link unit link) d.steps → LeavesOwn state may_say rule shown unit began link old new
  leaves_now linked = record {
    arms = arms_now (happenings_of_unit unit link.given) linked.given;
    history = λ set image is told loses. let own = runs.held set image is told loses in
        history_now set (own_link unit began) (state old).clock d (state new) runs.goes_on own.held.tied (own_clocks unit own.clocks steps) own.held.held (held_each set own) (Err faults.Memory) (own_link unit link) linked;
  }

  -- where not all was posted of the last step, after which the unit is so
  module _ (earlier : List Step) (s : Step) (asked given : FleetLinkState) (is : d.steps ≡ s ∷ earlier) (linked : IsLinked false (own_link unit began) (own_link unit asked) earlier)
      (posted : posts_of_unit unit given.posted ≡ posts_of_unit unit asked.posted) (happened : happenings_of_unit unit given.given ≡ s.given ∷ happenings_of_unit unit asked.given) where
    own_part : IsPostedInPartAt unit s.posts given link → IsPostedInPart s.posts (own_link unit given) (own_link unit link)
    own_part part = record {
      sent = part.sent;
      left = part.left;
      parts = part.parts;
      linked = ap (own_link unit) part.linked ∙ ap (λ (posts : List DatagramView). record { posted = posts; given = happenings_of_unit unit given.given; plan = None }) (posts_own unit part.sent given.posted);
    }

    pub leaves_in_part : IsPostedInPartAt unit s.posts given link → LeavesOwn state may_say rule shown unit began link old new
    leaves_in_part part = record {
      arms = arms_now (happenings_of_unit unit link.given)
          (ap (λ (l : FleetLinkState). happenings_of_unit unit l.given) part.linked
          ∙ (happened ∙ (ap (λ (rest : List HappeningView). s.given ∷ rest) linked.given ∙ ap (λ (own : List Step). happenings_of own ++ happenings_of_unit unit began.given) (sym is))));
      history = λ set image is_set told loses. let own = runs.held set image is_set told loses in
          history_posted set (own_link unit began) (state old).clock d (state new) runs.goes_on own.held.tied (own_clocks unit own.clocks steps) own.held.held (held_each set own) (Err faults.Memory) earlier s
          (own_link unit asked) (own_link unit given) (own_link unit link) is linked posted happened (own_part part);
    }

  -- where something happened that came to no step
  pub leaves_in_step : (h : HappeningView) (link_then : FleetLinkState) (then : K) → IsLinked false (own_link unit began) (own_link unit link) d.steps
      → posts_of_unit unit link_then.posted ≡ posts_of_unit unit link.posted → happenings_of_unit unit link_then.given ≡ h ∷ happenings_of_unit unit link.given
      → ActsOnDisk may_say h d (state new) (state then) → LeavesOwn state may_say rule shown unit began link_then old then
  leaves_in_step h link_then then linked posted happened acts = record {
    arms = arms_on (happenings_of_unit unit began.given) (happenings_of_unit unit link.given) (happenings_of_unit unit link_then.given) (state old) (state new) (state then)
        (arms_now (happenings_of_unit unit link.given) linked.given) (arms_one (happenings_of_unit unit link.given) (happenings_of_unit unit link_then.given) h (state new) (state then) happened acts.arms);
    history = λ set image is told loses. let own = runs.held set image is told loses in
        history_last set (own_link unit began) (state old).clock d (state new) runs.goes_on own.held.tied (own_clocks unit own.clocks steps) own.held.held (held_each set own) (Err faults.Memory) (state then) h
        (own_link unit link) (own_link unit link_then) never_link acts.injects linked posted happened (acts.adds set (runs.stands set image is told) own.held.held.holds);
  }

  -- where its last restart left no more
  pub leaves_at_end : (then : K) → IsLinked false (own_link unit began) (own_link unit link) d.steps → LeavesUnit (state new) (state then) → LeavesOwn state may_say rule shown unit began link old then
  leaves_at_end then linked left = let now = leaves_now linked in record {
    arms = arms_on (happenings_of_unit unit began.given) (happenings_of_unit unit link.given) (happenings_of_unit unit link.given) (state old) (state new) (state then) now.arms
        (arms_none (happenings_of_unit unit link.given) (happenings_of_unit unit link.given) (state new) (state then) refl left.power);
    history = λ set image is told loses. let was = now.history set image is told loses in record {
      steps = was.steps;
      last = was.last;
      whole = was.whole;
      given = was.given;
      posted = was.posted;
      due = was.due;
      noted = was.noted;
      honest = was.honest;
      carries = was.carries;
      injects = was.injects;
      tells = left.no_more.tells ∙ was.tells;
      each = λ u image may. elim (left.no_more.each (state old).clock u image may) [
        | inl before ↦ was.each u image before
        | inr here ↦ one_of_all set was.steps was.last image (was.here image here)
      ];
      here = λ image may. was.here image (left.no_more.now image may);
    };
  }
