-- A turn of a fleet: when it may come, and what it leaves where memory runs out in it.
use Rattle.std.proofs.Common.{◌≡◌, ◌≢◌, ◌⊎◌, inl, inr, ℕ, ◌+◌, ◌-◌, ◌<◌, ◌≤◌, List, [], ◌∷◌, ◌++◌, Bool, false, Some, None, Result, Ok, Err, OnErr, length, arith, sym, ap, subst, ◌∙◌}
use Rattle.std.specs.Prelude.{map, slice_get}
use Rattle.std.proofs.lemmas.Option.{slice_get_within}
use Rattle.accept_rules.specs.declared.kept.KeptLoad.{KeptLoad}
use Rattle.disk_model.specs.Image.{Image}
use Rattle.disk_model.specs.State.{DiskState}
use Rattle.exchange_trace.specs.Happenings.{DatagramView, HappeningView, Booted, Delivered, Ended, Info_started, Injected, Lost, Power_cut, Size_told, Ticked, Upload_started}
use Rattle.exchange_trace.specs.Posts.{IsHonest, posted_in}
use Rattle.fleet_link.specs.FleetLinks.{FleetLinkState}
use Rattle.fleet_trace.specs.FleetPosts.{UnitPost, happenings_of_unit, posts_of_unit, unit_post}
use Rattle.fleet_trace.specs.FleetTraces.{FleetHappeningView, Of_unit}
use Rattle.fleet_trace.specs.Merging.{Stepped, Unit_stepped}
use Rattle.fleet_trace.specs.OwnScripts.{CanBeGiven}
use Rattle.link_net.specs.Links.{LinkState}
use Rattle.load_header.specs.declared.header.LoadHeader.{LoadHeader}
use Rattle.media_check.specs.Sets.{SetView}
use Rattle.replay_rules.specs.Promises.{IsNoEnd}
use Rattle.replay_turns.specs.Powers.{ArmsBy}
use Rattle.replay_turns.specs.Turns.{RunsWhileUp}
use Rattle.upload_replay.specs.Armings.{ArmsAsGiven}
use Rattle.upload_replay.specs.Drivers.{DriverState, GoesOn}
use Rattle.upload_replay.specs.Leaves.{LeavesHistory}
use Rattle.upload_replay.specs.declared.outcome.DriveFault.TheVariants.{Memory}
use Rattle.target_fleet.specs.Leaves.{AllLeave, LeavesOwn}
use Rattle.target_fleet.specs.Merges.{AreUnits}
use Rattle.target_fleet.specs.PartPosts.{IsPostedInPartAt}
use Rattle.target_fleet.specs.Runs.{FleetGoesOn, FleetState, IsFleetReady, RunsInFleet, own_link, with_posts_at}
use Rattle.upload_replay.specs.DriverSteps.{CanStep}
use Rattle.target_fleet.specs.Steps.{ActsAt, StepsAt}
use Rattle.target_fleet.specs.AskedTurns.{LeavesStep}
use Rattle.target_fleet.proofs.FirstBoots.{there_is}
use Rattle.target_fleet.proofs.FleetTurns.{ComesAt, acts_armed}
use Rattle.target_fleet.proofs.Indexed.{changed_read, more_read, set_length}
use Rattle.target_fleet.proofs.LeftBehind.{leaves_in_part, leaves_in_step, leaves_now}
use Rattle.target_fleet.proofs.OwnLinks.{given_other, given_own, own_is_linked, posts_other, posts_own}
use Rattle.target_fleet.proofs.StepsInFleet.{steps_in_fleet}

-- ---- a step may come

honest_of : (posted : List DatagramView) (happenings : List HappeningView) (h : HappeningView) → CanBeGiven posted happenings h → IsHonest posted h
honest_of posted happenings (Delivered side n) can = can
honest_of posted happenings (Lost n) can = tt
honest_of posted happenings (Injected d) can = can
honest_of posted happenings (Ticked side) can = can
honest_of posted happenings (Size_told size) can = can
honest_of posted happenings (Power_cut calls pick) can = can
honest_of posted happenings Booted can = can
honest_of posted happenings (Info_started hw pos) can = can
honest_of posted happenings (Upload_started hw pos parts) can = can
honest_of posted happenings Ended can = absurd can

no_end_of : (posted : List DatagramView) (happenings : List HappeningView) (h : HappeningView) → CanBeGiven posted happenings h → IsNoEnd h
no_end_of posted happenings (Delivered side n) can = tt
no_end_of posted happenings (Lost n) can = tt
no_end_of posted happenings (Injected d) can = tt
no_end_of posted happenings (Ticked side) can = tt
no_end_of posted happenings (Size_told size) can = tt
no_end_of posted happenings (Power_cut calls pick) can = tt
no_end_of posted happenings Booted can = tt
no_end_of posted happenings (Info_started hw pos) can = tt
no_end_of posted happenings (Upload_started hw pos parts) can = tt
no_end_of posted happenings Ended can = absurd can

-- what holds anyway holds where a call is refused
pub anyway : {T E : Type 0} (result : Result T E) (P : Type 0) → P → OnErr result P
anyway (Ok x) P holds = tt
anyway (Err fault) P holds = holds

-- the same link of a unit's own
same_own : {R K : Type 0} (state : K → DiskState) (may_say : R → LoadHeader → List KeptLoad → Bool → Type 0) (rule : R) (shown : SetView) (unit : ℕ) (began link link_then : FleetLinkState) (old new : K) → own_link unit link ≡ own_link unit link_then
    → LeavesOwn state may_say rule shown unit began link old new → LeavesOwn state may_say rule shown unit began link_then old new
same_own state may_say rule shown unit began link link_then old new same left = record {
  arms = subst (λ (l : LinkState). ArmsAsGiven (own_link unit began).given l.given (state old) (state new)) same left.arms;
  history = λ set image is told loses.
      subst (λ (l : LinkState). LeavesHistory {T = Unit} set (own_link unit began) l (state old).clock (state new) (Err Memory)) same (left.history set image is told loses);
}

pub can_step : {R K : Type 0} (state : K → DiskState) (link : FleetLinkState) (fleet : FleetState R) (disks : List K) → IsFleetReady state link fleet disks → (unit : ℕ) → 1 ≤ unit → (h : HappeningView)
    → CanBeGiven (posts_of_unit unit link.posted) (happenings_of_unit unit link.given) h → (d : DriverState R) (k : K) → slice_get fleet.drivers (unit - 1) ≡ Some d → slice_get disks (unit - 1) ≡ Some k → CanStep h d (state k)
can_step state link fleet disks ready unit above h can d k e f = record {
  goes_on = ready.goes_on (unit - 1) d e;
  running = ready.running (unit - 1) d k e f;
  no_end = no_end_of (posts_of_unit unit link.posted) (happenings_of_unit unit link.given) h can;
  honest = subst (λ (posted : List DatagramView). IsHonest posted h) (subst (λ (n : ℕ). posts_of_unit n link.posted ≡ posted_in d.steps) (let number : unit - 1 + 1 ≡ unit = omega (arith, above) in number) (ready.posted (unit - 1) d e))
      (honest_of (posts_of_unit unit link.posted) (happenings_of_unit unit link.given) h can);
}

module _ {R K : Type 0} (state : K → DiskState) (link : FleetLinkState) (fleet : FleetState R) (disks : List K) (ready : IsFleetReady state link fleet disks) (given : FleetLinkState) (asked : Bool) (unit : ℕ) (above : 1 ≤ unit) (below : unit ≤ link.units) (h : HappeningView)
    (comes : ComesAt unit h link given) where
  its_number : unit - 1 + 1 ≡ unit
  its_number = omega (arith, above)

  -- ---- after a step

  module _ (may_say : R → LoadHeader → List KeptLoad → Bool → Type 0) (posts : List DatagramView) (drivers_then : List (DriverState R)) (disks_then : List K) (step : StepsAt state may_say (unit - 1) h posts fleet.drivers drivers_then disks disks_then) where
    driver_then : (i : ℕ) (d : DriverState R) → slice_get drivers_then i ≡ Some d → ((i ≡ unit - 1) × (d ≡ step.after)) ⊎ ((i ≢ unit - 1) × (slice_get fleet.drivers i ≡ Some d))
    driver_then i d e = changed_read (unit - 1) step.before step.after fleet.drivers drivers_then step.unit i d e

    disk_then : (i : ℕ) (k : K) → slice_get disks_then i ≡ Some k → ((i ≡ unit - 1) × (k ≡ step.new)) ⊎ ((i ≢ unit - 1) × (slice_get disks i ≡ Some k))
    disk_then i k e = changed_read (unit - 1) step.old step.new disks disks_then step.disk i k e

    goes_then : (d : DriverState R) (i : ℕ) → ((i ≡ unit - 1) × (d ≡ step.after)) ⊎ ((i ≢ unit - 1) × (slice_get fleet.drivers i ≡ Some d)) → GoesOn d
    goes_then d i (inl (index, is)) = subst (λ (x : DriverState R). GoesOn x) (sym is) step.takes.stepped.goes_on
    goes_then d i (inr (other, there)) = ready.goes_on i d there

    runs_then : (i : ℕ) (d : DriverState R) (k : K) → ((i ≡ unit - 1) × (d ≡ step.after)) ⊎ ((i ≢ unit - 1) × (slice_get fleet.drivers i ≡ Some d)) → ((i ≡ unit - 1) × (k ≡ step.new)) ⊎ ((i ≢ unit - 1) × (slice_get disks i ≡ Some k))
        → RunsWhileUp d.target (state k)
    runs_then i d k (inl (index, is_driver)) (inl (again, is_disk)) = rw (is_driver, is_disk) step.takes.stepped.running
    runs_then i d k (inl (index, is_driver)) (inr (other, there)) = absurd (other index)
    runs_then i d k (inr (other, there)) (inl (index, is_disk)) = absurd (other index)
    runs_then i d k (inr (other, driver_there)) (inr (again, disk_there)) = ready.running i d k driver_there disk_there

    posts_then : (i : ℕ) (d : DriverState R) → ((i ≡ unit - 1) × (d ≡ step.after)) ⊎ ((i ≢ unit - 1) × (slice_get fleet.drivers i ≡ Some d)) → posts_of_unit (i + 1) (given.posted ++ map (unit_post unit) posts) ≡ posted_in d.steps
    posts_then i d (inl (index, is)) =
        let number : i + 1 ≡ unit = omega (arith, index, above) in
        let was = subst (λ (n : ℕ). posts_of_unit n link.posted ≡ posted_in step.before.steps) its_number (ready.posted (unit - 1) step.before step.unit.there) in
        rw (number, is, step.takes.stepped.recorded)
        (posts_own unit posts given.posted
        ∙ (ap (λ (ds : List DatagramView). ds ++ posts) (ap (posts_of_unit unit) comes.posted ∙ was) ∙ ap (λ (ds : List DatagramView). posted_in step.before.steps ++ ds) (sym step.takes.stepped.posted)))
    posts_then i d (inr (other, there)) =
        posts_other (i + 1) unit posts given.posted (λ same. other (omega (arith, same))) ∙ (ap (posts_of_unit (i + 1)) comes.posted ∙ ready.posted i d there)

    order_more : (order_then : List Stepped) → order_then ≡ fleet.order ++ Unit_stepped asked unit ∷ [] → AreUnits given.units order_then
    order_more order_then more k whose how e = by (more_read fleet.order k (Unit_stepped asked unit) (Unit_stepped how whose) (ap (λ (all : List Stepped). slice_get all k) (sym more) ∙ e))
      where
        by : ((k ≡ length fleet.order) × (Unit_stepped how whose ≡ Unit_stepped asked unit)) ⊎ ((k < length fleet.order) × (slice_get fleet.order k ≡ Some (Unit_stepped how whose))) → (1 ≤ whose) × (whose ≤ given.units)
        by (inl (here, is)) = let same : whose ≡ unit = cc in rw (same, comes.units) (above, below)
        by (inr (within, there)) = rw comes.units (ready.order k whose how there)

    pub ready_then : (after : FleetState R) → after.drivers ≡ drivers_then → after.order ≡ fleet.order ++ Unit_stepped asked unit ∷ [] → IsFleetReady state (with_posts_at given unit posts) after disks_then
    ready_then after same more = record {
      drivers = ap (λ (ds : List (DriverState R)). length ds) same ∙ (ap length step.unit.kept ∙ (set_length fleet.drivers (unit - 1) step.after ∙ (ready.drivers ∙ sym comes.units)));
      disks_are = ap length step.disk.kept ∙ (set_length disks (unit - 1) step.new ∙ (ready.disks_are ∙ sym comes.units));
      goes_on = λ i d e. goes_then d i (driver_then i d (after_is i d e));
      running = λ i d k e f. runs_then i d k (driver_then i d (after_is i d e)) (disk_then i k f);
      posted = λ i d e. posts_then i d (driver_then i d (after_is i d e));
      order = order_more after.order more;
    }
      where
        after_is : (i : ℕ) (d : DriverState R) → slice_get after.drivers i ≡ Some d → slice_get drivers_then i ≡ Some d
        after_is i d e = ap (λ (ds : List (DriverState R)). slice_get ds i) (sym same) ∙ e

-- ---- what is left

module _ {R K : Type 0} (state : K → DiskState) (may_say : R → LoadHeader → List KeptLoad → Bool → Type 0) (rule : R) (shown : SetView)
    (wider : (k : K) (s t u v : ℕ) (image : Image) → s ≤ t → u ≤ v → (state k).between t u image → (state k).between s v image)
    (splits : (k : K) (t u v : ℕ) (image : Image) → t ≤ u → u ≤ v → (state k).between t v image → (state k).between t u image ⊎ (state k).between u v image)
    (only : (k : K) (t u : ℕ) (image : Image) → (state k).clock ≤ t → (state k).between t u image → (state k).now image)
    (began link : FleetLinkState) (fleet : FleetState R) (first disks : List K) (on : FleetGoesOn state may_say rule shown false began link fleet first disks) (ready : IsFleetReady state link fleet disks) where
  -- between two turns
  pub all_leave_now : AllLeave state may_say rule shown began link first disks
  all_leave_now i old new e f =
      let driver = there_is fleet.drivers i (let lt : i < length fleet.drivers = omega (arith, slice_get_within disks i new f, ready.drivers, ready.disks_are) in lt) in
      let runs = on.units i driver.0 old new driver.1 e f in
      leaves_now state may_say rule shown wider splits only (i + 1) began link on.steps driver.0 old new runs (own_is_linked (i + 1) began link on.steps driver.0.steps runs.own on.posted on.given)

  module _ (given : FleetLinkState) (asked : Bool) (unit : ℕ) (above : 1 ≤ unit) (h : HappeningView) (comes : ComesAt unit h link given) (disks_then : List K) where
    -- another unit's link has nothing more
    other_link : (n : ℕ) → unit ≢ n → own_link n link ≡ own_link n given
    other_link n other =
        ap (λ (posts : List DatagramView). record { posted = posts; given = happenings_of_unit n link.given; plan = None }) (ap (posts_of_unit n) (sym comes.posted))
        ∙ ap (λ (hs : List HappeningView). record { posted = posts_of_unit n given.posted; given = hs; plan = None }) (sym (ap (happenings_of_unit n) comes.given_is ∙ given_other n unit h link.given other))

    same_number : unit - 1 + 1 ≡ unit
    same_number = omega (arith, above)

    given_here : happenings_of_unit unit given.given ≡ h ∷ happenings_of_unit unit link.given
    given_here = ap (happenings_of_unit unit) comes.given_is ∙ given_own unit h link.given

    -- where memory ran out in the step
    pub all_leave_in_step : ActsAt state may_say (unit - 1) h fleet.drivers disks disks_then → AllLeave state may_say rule shown began given first disks_then
    all_leave_in_step acts i old new e f = by (changed_read (unit - 1) acts.old acts.new disks disks_then acts.disk i new f)
      where
        by : ((i ≡ unit - 1) × (new ≡ acts.new)) ⊎ ((i ≢ unit - 1) × (slice_get disks i ≡ Some new)) → LeavesOwn state may_say rule shown (i + 1) began given old new
        by (inl (index, is)) =
            let was = on.units (unit - 1) acts.before old acts.old acts.there (subst (λ (n : ℕ). slice_get first n ≡ Some old) index e) acts.disk.there in
            let runs = subst (λ (n : ℕ). RunsInFleet state may_say rule shown n on.steps acts.before old acts.old) same_number was in
            let number : i + 1 ≡ unit = omega (arith, index, above) in
            rw (number, is)
            (leaves_in_step state may_say rule shown wider splits only unit began link on.steps acts.before old acts.old runs h given acts.new
            (own_is_linked unit began link on.steps acts.before.steps runs.own on.posted on.given) (ap (posts_of_unit unit) comes.posted) given_here acts.acts)
        by (inr (other, there)) = same_own state may_say rule shown (i + 1) began link given old new (other_link (i + 1) (λ same. other (omega (arith, same)))) (all_leave_now i old new e there)

    -- where not all was posted
    module _ (posts : List DatagramView) (drivers_then : List (DriverState R)) (step : StepsAt state may_say (unit - 1) h posts fleet.drivers drivers_then disks disks_then) (arms : ArmsBy h (state step.old) (state step.new))
        (link_then : FleetLinkState) (part : IsPostedInPartAt unit posts given link_then) where
      other_link_then : (n : ℕ) → unit ≢ n → own_link n given ≡ own_link n link_then
      other_link_then n other =
          ap (λ (ds : List DatagramView). record { posted = ds; given = happenings_of_unit n given.given; plan = None }) (sym (posts_other n unit part.sent given.posted other)) ∙ ap (own_link n) (sym part.linked)

      part_of_step : IsPostedInPartAt unit step.takes.stepped.step.posts given link_then
      part_of_step = subst (λ (ds : List DatagramView). IsPostedInPartAt unit ds given link_then) (sym step.takes.stepped.posted) part

      pub all_leave_in_part : AllLeave state may_say rule shown began link_then first disks_then
      all_leave_in_part i old new e f = by (changed_read (unit - 1) step.old step.new disks disks_then step.disk i new f)
        where
          by : ((i ≡ unit - 1) × (new ≡ step.new)) ⊎ ((i ≢ unit - 1) × (slice_get disks i ≡ Some new)) → LeavesOwn state may_say rule shown (i + 1) began link_then old new
          by (inl (index, is)) =
              let stepped = step.takes.stepped in
              let was = subst (λ (n : ℕ). RunsInFleet state may_say rule shown n on.steps step.before old step.old) same_number
              (on.units (unit - 1) step.before old step.old step.unit.there (subst (λ (n : ℕ). slice_get first n ≡ Some old) index e) step.disk.there) in
              let runs = steps_in_fleet state may_say rule shown unit on.steps asked h posts step.before step.after old step.old step.new step.takes arms was in
              let number : i + 1 ≡ unit = omega (arith, index, above) in
              rw (number, is)
              (leaves_in_part state may_say rule shown wider splits only unit began link_then (Of_unit asked unit stepped.step ∷ on.steps) step.after old step.new runs step.before.steps stepped.step link given stepped.recorded
              (own_is_linked unit began link on.steps step.before.steps was.own on.posted on.given) (ap (posts_of_unit unit) comes.posted) (given_here ∙ ap (λ (x : HappeningView). x ∷ happenings_of_unit unit link.given) (sym stepped.given)) part_of_step)
          by (inr (other, there)) = let apart : unit ≢ i + 1 = λ same. other (omega (arith, same)) in
              same_own state may_say rule shown (i + 1) began link link_then old new (other_link (i + 1) apart ∙ other_link_then (i + 1) apart) (all_leave_now i old new e there)

  -- whatever a step left
  pub all_leave_step : (given : FleetLinkState) (asked : Bool) (unit : ℕ) (above : 1 ≤ unit) (h : HappeningView) (comes : ComesAt unit h link given) (link_then : FleetLinkState) (disks_then : List K)
      → LeavesStep state may_say unit h fleet.drivers given link_then disks disks_then → AllLeave state may_say rule shown began link_then first disks_then
  all_leave_step given asked unit above h comes link_then disks_then (inl (same, acts)) =
      subst (λ (l : FleetLinkState). AllLeave state may_say rule shown began l first disks_then) (sym same) (all_leave_in_step given asked unit above h comes disks_then acts)
  all_leave_step given asked unit above h comes link_then disks_then (inr part) =
      all_leave_in_part given asked unit above h comes disks_then part.posts part.drivers_then part.step
      (acts_armed state may_say (unit - 1) h part.posts fleet.drivers part.drivers_then disks disks_then part.acts part.step) link_then part.part

  -- whatever was given to no unit
  pub all_leave_given : (given : FleetLinkState) → given.posted ≡ link.posted → given.given ≡ link.given → AllLeave state may_say rule shown began given first disks
  all_leave_given given posted happened i old new e f = same_own state may_say rule shown (i + 1) began link given old new
      (ap (λ (posts : List UnitPost). record { posted = posts_of_unit (i + 1) posts; given = happenings_of_unit (i + 1) link.given; plan = None }) (sym posted)
      ∙ ap (λ (hs : List FleetHappeningView). record { posted = posts_of_unit (i + 1) given.posted; given = happenings_of_unit (i + 1) hs; plan = None }) (sym happened)) (all_leave_now i old new e f)
