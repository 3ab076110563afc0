-- A whole run of a fleet, put together of its boots, its turns and its ends.
use Rattle.std.proofs.Common.{◌≡◌, ◌⊎◌, inl, inr, ℕ, ◌+◌, ◌<◌, ◌≤◌, List, [], ◌∷◌, Bool, true, false, Option, Some, None, Err, length, arith, refl, sym, ap, subst, ◌∙◌}
use Rattle.std.specs.Prelude.{is_some, map, option_map, slice_get, IfSome}
use Rattle.std.proofs.lemmas.List.{length-map}
use Rattle.std.proofs.lemmas.Option.{slice_get-map, slice_get_within}
use Rattle.accept_rules.specs.declared.kept.KeptLoad.{KeptLoad}
use Rattle.bank_store.specs.Fits.{LosesOnlyWork}
use Rattle.disk_layout.specs.Holds.{HoldsConfig, StandingView, standing_view}
use Rattle.disk_layout.specs.declared.identity.Identity.{Identity}
use Rattle.disk_model.specs.Image.{Image}
use Rattle.disk_model.specs.State.{DiskState, OnlyReads}
use Rattle.exchange_trace.specs.Steps.{Step, steps_of}
use Rattle.exchange_trace.specs.declared.trace.TraceStep.{TraceStep}
use Rattle.fleet_link.specs.FleetLinks.{FleetLinkState}
use Rattle.fleet_trace.specs.FleetPosts.{posts_of_unit}
use Rattle.fleet_trace.specs.FleetTraces.{Of_all, StepOfFleet, steps_of_unit}
use Rattle.load_base.specs.Listed.{Listed}
use Rattle.load_header.specs.declared.header.LoadHeader.{LoadHeader}
use Rattle.loader_machine.specs.Machine.{LoaderState, media_of, session_view}
use Rattle.media_check.specs.Sets.{SetView}
use Rattle.replay_rules.specs.BothEnds.{Setting, target_at}
use Rattle.replay_rules.specs.FirstOrGood.{ActiveIsFirstOrGood}
use Rattle.replay_turns.proofs.PowerLemmas.{rose_not, rose_on}
use Rattle.replay_turns.specs.Powers.{RoseBy, disk_stops}
use Rattle.replay_rules.specs.Ties.{kept_by}
use Rattle.replay_turns.specs.Turns.{target_kept}
use Rattle.session_rules.specs.Target.{TargetView}
use Rattle.target_machine.specs.Decisions as machine
use Rattle.upload_replay.specs.Drivers.{CanEnd, DriverState, IsTiedTo, end_step}
use Rattle.upload_replay.specs.Drives.{IsLoadersRun, IsSet, IsUnitRun, NeverBoots}
use Rattle.upload_replay.specs.Endings.{CountsStops, FailedIfUnknown, HoldsSome}
use Rattle.upload_replay.specs.Lives.{LivesThrough}
use Rattle.upload_replay.specs.Moments.{HoldsThroughout}
use Rattle.upload_replay.specs.declared.outcome.DriveFault.TheVariants as faults
use Rattle.upload_replay.proofs.Counted.{arms_none}
use Rattle.upload_replay.proofs.History.{history_first, history_good}
use Rattle.target_fleet.specs.Asking.{place_of, with_end_of}
use Rattle.target_fleet.specs.AskingCalls.{IsAskedIn, places_in, running_view, sessions_in}
use Rattle.target_fleet.specs.Boots.{AllBoot, BootsUnit}
use Rattle.target_fleet.specs.Clocks.{own_clocks}
use Rattle.target_fleet.specs.Ends.{AllEnd, AllLeaveNoMore, EndsDriver, FailsInEnds}
use Rattle.target_fleet.specs.Fleets.{AllEndInFleet, AllLeaveGood, AsksInBatches, CameToEnd, EndsFleet, EndsInFleet, FailsLater, LeavesFleet}
use Rattle.target_fleet.specs.Leaves.{AllLeave}
use Rattle.exchange_trace.specs.Happenings.{DatagramView}
use Rattle.exchange_trace.specs.Posts.{posted_in}
use Rattle.target_fleet.specs.Merges.{AreUnits, CountsPosts, HaveOwnSteps, KeepsSteps, steps_to_end}
use Rattle.target_fleet.specs.Runs.{AllStandOn, CountsPostsAt, FleetGoesOn, FleetState, FollowsOnEach, IsFleetReady, RunsInFleet, own_link}
use Rattle.target_fleet.specs.Units.{AllDisks, AllOnlyRead}
use Rattle.target_fleet.specs.declared.outcome.FleetDrive.{FleetDrive}
use Rattle.target_fleet.specs.declared.outcome.FleetFault.{FleetFault}
use Rattle.target_fleet.specs.declared.outcome.FleetFault.TheVariants as fleets
use Rattle.target_fleet.specs.declared.outcome.UnitEnd.{UnitEnd}
use Rattle.target_fleet.proofs.FirstBoots.{there_is}
use Rattle.target_fleet.proofs.KeptSteps.{ran_to_end, steps_kept}
use Rattle.target_fleet.proofs.FleetTurns.{ends_are}
use Rattle.target_fleet.proofs.LeftBehind.{leaves_at_end}
use Rattle.target_fleet.proofs.OwnLinks.{own_is_linked}

-- ---- as it begins

-- the first boot reads the identity of the configuration that stands at first
first_identity : {R : Type 0} (set : Setting) (d : DriverState R) (target : machine.TargetState R) → d.target ≡ Some target → d.identity ≡ target.view.active.identity → IsTiedTo set d → d.steps ≡ [] → d.identity ≡ set.start.identity
first_identity set d target is identity tied nothing =
    let kept : Some target.view ≡ kept_by (target_at set []) =
    ap target_kept (sym is) ∙ (tied.tied.target_is ∙ ap (λ (steps : List Step). kept_by (target_at set steps)) nothing) in
    identity ∙ ap (λ (o : Option TargetView). kept_identity (target.view.active.identity) o) kept
  where
    kept_identity : Identity → Option TargetView → Identity
    kept_identity other None = other
    kept_identity other (Some view) = view.active.identity

module _ {R K : Type 0} (state : K → DiskState) (may_say : R → LoadHeader → List KeptLoad → Bool → Type 0) (rule : R) (shown : SetView) (link : FleetLinkState) (unposted : link.posted ≡ []) (drivers : List (DriverState R)) (first booted : List K)
    (many : length drivers ≡ length first) (same : length booted ≡ length first) (boots : AllBoot state may_say rule shown drivers first booted) (reads : AllOnlyRead state first booted) where
  unit_booted : (unit : ℕ) (d : DriverState R) (old new : K) → BootsUnit state may_say rule shown d old new → OnlyReads (state old) (state new) → RunsInFleet state may_say rule shown unit [] d old new
  unit_booted unit d old new boot read = record {
    goes_on = boot.begins.goes_on;
    running = boot.begins.running;
    own = boot.begins.nothing;
    media = ap (λ (l : LoaderState). l.set) boot.begins.loader_is;
    stood = boot.stood;
    stops = rw boot.begins.nothing (rose_not (state old).faults (state new).faults read.faults);
    arms = rw boot.begins.nothing (arms_none [] [] (state old) (state new) refl read.power);
    lives = boot.lives;
    stands = λ set image is told. (boot.on_setting set image is told).stands;
    tied = λ set image is told never. (boot.on_setting set image is told).tied;
    held = λ set image is told loses. record { clocks = []; timed = read.clock; held = (boot.on_setting set image is told).held loses };
    identity = λ set image is told. first_identity set d boot.begins.target boot.begins.target_is boot.begins.identity (boot.on_setting set image is told).tied boot.begins.nothing;
  }

  pub fleet_begins : FleetGoesOn state may_say rule shown false link link (record { drivers = drivers; order = []; running = None; ended = [] }) first booted
  fleet_begins = record {
    steps = [];
    not_ended = tt;
    order = refl;
    count = refl;
    many = sym same;
    posted = unposted;
    given = refl;
    units = λ i d old new e f g. unit_booted (i + 1) d old new (boots i d old new e f g) (reads i old new f g);
    follows = λ sets script stand start. start;
    running = refl;
    ended_are = refl;
    asked = tt;
  }

  pub fleet_is_ready : length first ≡ link.units → IsFleetReady state link (record { drivers = drivers; order = []; running = None; ended = [] }) booted
  fleet_is_ready units = record {
    drivers = many ∙ units;
    disks_are = same ∙ units;
    goes_on = λ i d e. (begun i d e).begins.goes_on;
    running = λ i d k e f. (boots i d (old_at i d e).0 k e (old_at i d e).1 f).begins.running;
    posted = λ i d e. rw (unposted, (begun i d e).begins.nothing) refl;
    order = λ k unit asked e. absurd cc;
  }
    where
      old_at : (i : ℕ) (d : DriverState R) → slice_get drivers i ≡ Some d → (k : K) × (slice_get first i ≡ Some k)
      old_at i d e = there_is first i (let lt : i < length first = omega (arith, slice_get_within drivers i d e, many) in lt)

      new_at : (i : ℕ) (d : DriverState R) → slice_get drivers i ≡ Some d → (k : K) × (slice_get booted i ≡ Some k)
      new_at i d e = there_is booted i (let lt : i < length booted = omega (arith, slice_get_within drivers i d e, many, same) in lt)

      begun : (i : ℕ) (d : DriverState R) (e : slice_get drivers i ≡ Some d) → BootsUnit state may_say rule shown d (old_at i d e).0 (new_at i d e).0
      begun i d e = boots i d (old_at i d e).0 (new_at i d e).0 e (old_at i d e).1 (new_at i d e).1

  pub all_stood : AllDisks (λ (k : K). HoldsSome (state k)) first
  all_stood i k e =
      let within = slice_get_within first i k e in
      let d = there_is drivers i (let lt : i < length drivers = omega (arith, within, many) in lt) in
      let new = there_is booted i (let lt : i < length booted = omega (arith, within, same) in lt) in
      (boots i d.0 k new.0 d.1 e new.1).stood

-- where a unit didn't come up, nothing was written
module _ {R K : Type 0} (state : K → DiskState) (may_say : R → LoadHeader → List KeptLoad → Bool → Type 0) (rule : R) (shown : SetView) (link : FleetLinkState) (unposted : link.posted ≡ []) (first booted : List K) (reads : AllOnlyRead state first booted)
    (only : (k : K) (t u : ℕ) (image : Image) → (state k).clock ≤ t → (state k).between t u image → (state k).now image)
    (alone : (k : K) (image : Image) (s : StandingView) → LosesOnlyWork (state k) → (state k).reads ≡ Some image → HoldsConfig image s → (left : Image) → (state k).now left → HoldsConfig left s) where
  pub all_leave_read : AllLeave state may_say rule shown link link first booted
  all_leave_read i old new e f = record {
    arms = arms_none (own_link (i + 1) link).given (own_link (i + 1) link).given (state old) (state new) refl (reads i old new e f).power;
    history = λ set image is told loses.
        history_first set (own_link (i + 1) link) (state old) (state new) (Err faults.Memory) (ap (posts_of_unit (i + 1)) unposted) (ap is_some told) (only old) (alone old image set.start loses told is.start) (reads i old new e f);
  }

-- what is left is good
all_good : {R K : Type 0} (state : K → DiskState) (may_say : R → LoadHeader → List KeptLoad → Bool → Type 0) (rule : R) (shown : SetView) → ActiveIsFirstOrGood → (began link : FleetLinkState) (first disks : List K)
    → AllLeave state may_say rule shown began link first disks → AllLeaveGood state may_say rule shown first disks
all_good state may_say rule shown active began link first disks left i old new set image e f is told loses accepts =
    history_good active set accepts (own_link (i + 1) began) (own_link (i + 1) link) (state old).clock (state new) (Err faults.Memory) ((left i old new e f).history set image is told loses)

pub left_of_fleet : {R K : Type 0} (state : K → DiskState) (may_say : R → LoadHeader → List KeptLoad → Bool → Type 0) (rule : R) (shown : SetView) → ActiveIsFirstOrGood → (began link : FleetLinkState) (first disks : List K)
    → length disks ≡ length first → AllLeave state may_say rule shown began link first disks → LeavesFleet state may_say rule shown began link first disks
left_of_fleet state may_say rule shown active began link first disks same left = record { same = same; history = left; good = all_good state may_say rule shown active began link first disks left }

-- ---- as it ends

stops_to_end : (steps : List Step) → disk_stops (end_step ∷ steps) ≡ disk_stops steps
stops_to_end steps = omega arith

module _ {R K : Type 0} (state : K → DiskState) (may_say : R → LoadHeader → List KeptLoad → Bool → Type 0) (rule : R) (shown : SetView) (unit : ℕ) (steps : List StepOfFleet) (d : DriverState R) (end : UnitEnd) (trace : List TraceStep) (old mid new : K)
    (runs : RunsInFleet state may_say rule shown unit steps d old mid) (ends : EndsDriver state may_say d end trace mid new) where
  own_end : end_step ∷ d.steps ≡ steps_of_unit unit (Of_all ∷ steps)
  own_end = ap (λ (own : List Step). end_step ∷ own) runs.own

  tied_either : (set : Setting) (image : Image) → IsSet may_say set rule shown image → (state old).reads ≡ Some image → NeverBoots (end_step ∷ d.steps) ⊎ LosesOnlyWork (state old) → IsTiedTo set d
  tied_either set image is told (inl never) = runs.tied set image is told never.1
  tied_either set image is told (inr loses) = (runs.held set image is told loses).held.tied

  counts : CountsStops (end_step ∷ d.steps) end.standing (state old) (state new)
  counts = record {
    stops = subst (λ (n : ℕ). RoseBy n (state old).faults (state new).faults) (sym (stops_to_end d.steps)) (rose_on (disk_stops d.steps) (state old).faults (state mid).faults (state new).faults runs.stops ends.leaves.faults);
    unknown = subst (λ (n : ℕ). FailedIfUnknown end.standing (state old).faults n (state new)) (sym (stops_to_end d.steps)) (ends.unknown (state old).faults runs.stops);
  }

  pub unit_ended : EndsInFleet state may_say rule shown unit (Of_all ∷ steps) end old new
  unit_ended = record {
    stood = runs.stood;
    loader = subst (λ (own : List Step). IsLoadersRun (media_of shown) own (map session_view end.sessions.items)) own_end
        (subst (λ (set : SetView). IsLoadersRun (media_of set) (end_step ∷ d.steps) (map session_view end.sessions.items)) runs.media ends.ran);
    lives = λ accepts follows. subst (λ (own : List Step). LivesThrough (media_of shown) accepts own) own_end
        (subst (λ (set : SetView). LivesThrough (media_of set) accepts (end_step ∷ d.steps)) runs.media (ends.lives accepts (runs.lives accepts follows)));
    stops = subst (λ (own : List Step). CountsStops own end.standing (state old) (state new)) own_end counts;
    standing = ends.stands;
    run = λ set image is told either.
        subst (λ (own : List Step). IsUnitRun set own (map session_view end.sessions.items) (option_map standing_view end.standing)) own_end
        (ends.run set (runs.stands set image is told) (tied_either set image is told (subst (λ (own : List Step). NeverBoots own ⊎ LosesOnlyWork (state old)) (sym own_end) either)));
    moments = λ set image is told loses. let own = runs.held set image is told loses in
        let held = (ends.held set (state old).clock (own_clocks unit own.clocks steps) own.held).moments in
        record {
          clocks = (state mid).clock ∷ own.clocks;
          held = subst (λ (all : List Step). HoldsThroughout set all (option_map standing_view end.standing) (state old).clock ((state mid).clock ∷ own_clocks unit own.clocks steps) (state new)) own_end held;
          timed = ((subst (λ (all : List Step). HoldsThroughout set all (option_map standing_view end.standing) (state old).clock ((state mid).clock ∷ own_clocks unit own.clocks steps) (state new)) own_end held).timed.0, own.timed);
        };
    rests = λ set image is told loses. let own = runs.held set image is told loses in (ends.held set (state old).clock (own_clocks unit own.clocks steps) own.held).rests;
  }

  pub came_to_end : CameToEnd (state old) (state new)
  came_to_end = record { standing = end.standing; stops = disk_stops d.steps; holds = ends.stands; unknown = ends.unknown (state old).faults runs.stops }

module _ {R K : Type 0} (state : K → DiskState) (may_say : R → LoadHeader → List KeptLoad → Bool → Type 0) (rule : R) (shown : SetView) (began link : FleetLinkState) (fleet : FleetState R) (first mid new : List K)
    (on : FleetGoesOn state may_say rule shown true began link fleet first mid) (ready : IsFleetReady state link fleet mid) (same : length new ≡ length mid) where
  driver_at : (i : ℕ) (k : K) → slice_get new i ≡ Some k → (d : DriverState R) × (slice_get fleet.drivers i ≡ Some d)
  driver_at i k e = there_is fleet.drivers i (let lt : i < length fleet.drivers = omega (arith, slice_get_within new i k e, same, ready.drivers, ready.disks_are) in lt)

  mid_at : (i : ℕ) (k : K) → slice_get new i ≡ Some k → (m : K) × (slice_get mid i ≡ Some m)
  mid_at i k e = there_is mid i (let lt : i < length mid = omega (arith, slice_get_within new i k e, same) in lt)

  pub units_can_end : (i : ℕ) (d : DriverState R) (k : K) → slice_get fleet.drivers i ≡ Some d → slice_get mid i ≡ Some k → CanEnd d (state k)
  units_can_end i d k e f = record { goes_on = ready.goes_on i d e; running = ready.running i d k e f }

  pub all_leave_end : (wider : (k : K) (s t u v : ℕ) (image : Image) → s ≤ t → u ≤ v → (state k).between t u image → (state k).between s v image)
      → (splits : (k : K) (t u v : ℕ) (image : Image) → t ≤ u → u ≤ v → (state k).between t v image → (state k).between t u image ⊎ (state k).between u v image)
      → (only : (k : K) (t u : ℕ) (image : Image) → (state k).clock ≤ t → (state k).between t u image → (state k).now image)
      → AllLeaveNoMore state mid new → AllLeave state may_say rule shown began link first new
  all_leave_end wider splits only left i old last e f =
      let d = driver_at i last f in
      let m = mid_at i last f in
      let runs = on.units i d.0 old m.0 d.1 e m.1 in
      leaves_at_end state may_say rule shown wider splits only (i + 1) began link on.steps d.0 old m.0 runs last (own_is_linked (i + 1) began link on.steps d.0.steps runs.own on.posted on.given) (left i m.0 last m.1 f)

  pub fails_later : (fault : FleetFault) → AllDisks (λ (k : K). HoldsSome (state k)) first → FailsInEnds state may_say fault fleet.drivers mid new → FailsLater state fault first new
  fails_later (fleets.Disk unit) stood fails = absurd fails.fails
  fails_later fleets.Memory stood fails = stood
  fails_later (fleets.NoConfig unit fault) stood fails = record {
    stood = stood;
    index = fails.index;
    fails = fails.fails;
    before = λ i old last lt e f.
        let d = driver_at i last f in
        let m = mid_at i last f in
        let ended = fails.before i d.0 m.0 last lt d.1 m.1 f in
        came_to_end state may_say rule shown (i + 1) on.steps d.0 ended.0 ended.1 old m.0 last (on.units i d.0 old m.0 d.1 e m.1) ended.2;
  }

  module _ (units : List UnitEnd) (traces : List (Listed TraceStep)) (units_many : length units ≡ length mid) (traces_many : length traces ≡ length mid) (ended : AllEnd state may_say fleet.drivers units traces mid new) where
    order_is_of_units : AreUnits (length traces) fleet.order
    order_is_of_units = subst (λ (n : ℕ). AreUnits n fleet.order) (sym (traces_many ∙ ready.disks_are)) ready.order

    have_own : HaveOwnSteps traces on.steps
    have_own i trace e =
        let within = slice_get_within traces i trace e in
        let last = there_is new i (let lt : i < length new = omega (arith, within, traces_many, same) in lt) in
        let end = there_is units i (let lt : i < length units = omega (arith, within, traces_many, units_many) in lt) in
        let old = there_is first i (let lt : i < length first = omega (arith, within, traces_many, on.many) in lt) in
        let d = driver_at i last.0 last.1 in
        let m = mid_at i last.0 last.1 in
        ((ended i d.0 end.0 trace m.0 last.0 d.1 end.1 e m.1 last.1).own ∙ (on.units i d.0 old.0 m.0 d.1 old.1 m.1).own, (ended i d.0 end.0 trace m.0 last.0 d.1 end.1 e m.1 last.1).ordered)

    counted_at : (counts : List ℕ) → CountsPostsAt link.units link counts → (i : ℕ) (trace : Listed TraceStep) → slice_get traces i ≡ Some trace
        → slice_get counts i ≡ Some (length (posted_in (steps_of trace.items)))
    counted_at counts counted i trace e =
        let within = slice_get_within traces i trace e in
        let last = there_is new i (let lt : i < length new = omega (arith, within, traces_many, same) in lt) in
        let end = there_is units i (let lt : i < length units = omega (arith, within, traces_many, units_many) in lt) in
        let d = driver_at i last.0 last.1 in
        let m = mid_at i last.0 last.1 in
        counted i (let many = traces_many ∙ ready.disks_are in let lt : i < link.units = omega (arith, within, many) in lt)
        ∙ ap (λ (posts : List DatagramView). Some (length posts)) (ready.posted i d.0 d.1 ∙ ap posted_in (sym (ended i d.0 end.0 trace m.0 last.0 d.1 end.1 e m.1 last.1).own))

    pub posts_counted : (counts : List ℕ) → link.units ≤ 8 → CountsPostsAt link.units link counts → CountsPosts traces counts
    posts_counted counts few counted =
        let many = traces_many ∙ ready.disks_are in record { few = omega (arith, many, few); counted = counted_at counts counted }

    pub fleet_kept : KeepsSteps fleet.order traces
    fleet_kept = steps_kept on.steps on.not_ended fleet.order on.order traces order_is_of_units have_own

    module _ (drive : FleetDrive) (units_are : drive.units.items ≡ units) (trace_is : drive.trace ≡ steps_to_end fleet.order traces) where
      steps_are : drive.trace ≡ Of_all ∷ on.steps
      steps_are = trace_is ∙ ran_to_end on.steps on.not_ended fleet.order on.order traces order_is_of_units have_own

      pub fleet_ended : EndsFleet began link drive
      fleet_ended = record {
        before = on.steps;
        steps = steps_are;
        once = on.not_ended;
        units = ap length units_are ∙ (units_many ∙ (ready.disks_are ∙ on.count));
        posted = on.posted;
        given = on.given;
      }

      pub units_ended : AllEndInFleet state may_say rule shown drive first new
      units_ended i end old last e f g =
          let d = driver_at i last g in
          let m = mid_at i last g in
          let trace = there_is traces i (let lt : i < length traces = omega (arith, slice_get_within new i last g, same, traces_many) in lt) in
          subst (λ (steps : List StepOfFleet). EndsInFleet state may_say rule shown (i + 1) steps end old last) (sym steps_are)
          (unit_ended state may_say rule shown (i + 1) on.steps d.0 end trace.0.items old m.0 last (on.units i d.0 old m.0 d.1 f m.1)
          (ended i d.0 end trace.0 m.0 last d.1 (ap (λ (all : List UnitEnd). slice_get all i) (sym units_are) ∙ e) trace.1 m.1 g))

      pub fleet_follows : (sets : ℕ → Setting) → AllStandOn state may_say rule shown sets first → FollowsOnEach began shown sets drive.trace
      fleet_follows sets stand script start = rw steps_are (on.follows sets script stand start)

      -- what its batches came to
      pub fleet_asked : drive.batches.items ≡ with_end_of shown (places_in fleet.drivers) (sessions_in fleet.drivers) (option_map running_view fleet.running) fleet.ended
          → IfSome fleet.running (λ running. IsAskedIn (length fleet.drivers) running.last) → AsksInBatches state may_say rule shown drive first
      fleet_asked ends last = record {
        before = on.steps;
        steps = steps_are;
        places = places_in fleet.drivers;
        count = length-map fleet.drivers (λ (d : DriverState R). place_of d.identity) ∙ (ready.drivers ∙ (sym ready.disks_are ∙ sym on.many));
        known = λ i k set image e is told.
            let within = slice_get_within first i k e in
            let d = there_is fleet.drivers i (let lt : i < length fleet.drivers = omega (arith, within, on.many, ready.drivers, ready.disks_are) in lt) in
            let m = there_is mid i (let lt : i < length mid = omega (arith, within, on.many) in lt) in
            slice_get-map (λ (d : DriverState R). place_of d.identity) fleet.drivers i
            ∙ (ap (option_map (λ (d : DriverState R). place_of d.identity)) d.1 ∙ ap (λ (identity : Identity). Some (place_of identity)) ((on.units i d.0 k m.0 d.1 e m.1).identity set image is told));
        asked = on.asked;
        ends = ends ∙ ends_are state may_say rule shown began link fleet first mid on ready last;
      }
