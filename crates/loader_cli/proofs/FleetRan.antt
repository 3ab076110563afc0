-- What a run of a fleet comes to.
use Rattle.std.proofs.Common.{◌≡◌, ◌⊎◌, inl, inr, ℕ, ◌+◌, ◌≤◌, List, [], ◌∷◌, ◌++◌, length, map, Bool, true, Option, Some, None, refl, sym, ap, subst, ◌∙◌, arith, append-nil}
use Rattle.std.specs.Prelude.{option_map, slice_get}
use Rattle.std.specs.Option.{ForSome}
use Rattle.std.proofs.lemmas.List.{length-map}
use Rattle.std.proofs.lemmas.Option.{slice_get-map, slice_get_within}
use Rattle.accept_rules.specs.Interlocks.{FollowsAccepts}
use Rattle.accept_rules.specs.Permissions.{permits}
use Rattle.accept_rules.specs.declared.kept.KeptLoad.{KeptLoad}
use Rattle.bank_store.specs.Fits.{LosesOnlyWork}
use Rattle.disk_layout.specs.Holds.{HoldsConfig, StandingView, standing_view}
use Rattle.disk_layout.specs.declared.fault.RecoverFault.{RecoverFault}
use Rattle.disk_layout.specs.declared.standing.Standing.{Standing}
use Rattle.disk_model.specs.Image.{Image}
use Rattle.disk_model.specs.State.{DiskState}
use Rattle.exchange_trace.specs.declared.trace.Side.{Side}
use Rattle.exchange_trace.specs.Following.{Plan, goes_on}
use Rattle.exchange_trace.specs.Happenings.{HappeningView}
use Rattle.exchange_trace.specs.Lines.{Finish}
use Rattle.exchange_trace.specs.Posts.{happenings_of}
use Rattle.exchange_trace.specs.Steps.{Step}
use Rattle.fleet_link.specs.FleetLinks.{FleetLinkState}
use Rattle.fleet_link.specs.declared.fleet_turn.FleetRest.TheVariants.{Nothing}
use Rattle.fleet_trace.specs.FleetFinishes.{IsLeftToOwnFinish}
use Rattle.fleet_trace.specs.FleetFollowing.{FleetAsking, FollowsFleet}
use Rattle.fleet_trace.specs.FleetLines.{FleetLine}
use Rattle.fleet_trace.specs.FleetPosts.{fleet_happenings, happenings_of_unit}
use Rattle.fleet_trace.specs.FleetTraces.{FleetHappeningView, Of_all, StepOfFleet, ended_step, steps_of_unit}
use Rattle.fleet_trace.specs.OwnScripts.{own_script}
use Rattle.fleet_trace.proofs.LastFleetFinish.{each_is_left_to_own}
use Rattle.fleet_trace.proofs.UnitParts.{happenings_are}
use Rattle.load_header.specs.declared.header.LoadHeader.{LoadHeader}
use Rattle.loader_machine.specs.Machine.{media_of, session_view}
use Rattle.media_check.specs.Sets.{SetView}
use Rattle.replay_rules.specs.BothEnds.{Setting}
use Rattle.replay_rules.specs.Due.{AllNoted}
use Rattle.replay_rules.specs.Promises.{NoneGoesDown, OnlyFinishIsLeft}
use Rattle.replay_rules.specs.Runs.{TraceFollows as FollowsOwn, scene_at}
use Rattle.replay_turns.specs.Powers.{RoseBy, disk_stops}
use Rattle.run_promises.specs.Listing.{StandingFits, WhatIsHeldFits}
use Rattle.run_promises.specs.Promises.{CanBeTold}
use Rattle.session_completion.specs.FinishedRuns.{FinishLeavesPower}
use Rattle.session_completion.proofs.LastFinish.{finish_alone_is_left}
use Rattle.session_rules.specs.Loader.{EndedSession}
use Rattle.upload_replay.specs.Armings.{ArmsAsGiven, armed_after, armings_after}
use Rattle.upload_replay.specs.Drives.{IsSet, IsUnitRun}
use Rattle.upload_replay.specs.Endings.{CountsStops, FailedIfUnknown, HoldsSome, HoldsStanding}
use Rattle.target_fleet.specs.Finishes.{CompletesAtUnit, IsLeftAtUnit}
use Rattle.target_fleet.specs.FleetTexts.{UnitSeen, unit_seen}
use Rattle.target_fleet.specs.Fleets.{AllEndInFleet, AllLeaveGood, AsksInBatches, EndsFleet, EndsInFleet, IsFleetRefusal}
use Rattle.target_fleet.specs.Leaves.{AllLeave, LeavesOwn}
use Rattle.target_fleet.specs.Runs.{AllStandOn, FollowsOnEach, fleet_asking, fleet_waiting}
use Rattle.target_fleet.specs.Units.{AllBetween, AllDisks, AllOnlyRead}
use Rattle.target_fleet.specs.declared.outcome.FleetDrive.{FleetDrive}
use Rattle.target_fleet.specs.declared.outcome.FleetFault.{FleetFault}
use Rattle.target_fleet.specs.declared.outcome.FleetFault.TheVariants as fleets
use Rattle.target_fleet.specs.declared.outcome.UnitEnd.{UnitEnd}
use Rattle.target_fleet.proofs.FirstBoots.{there_is}
use Rattle.target_fleet.proofs.OwnFinish.{waits_as}
use Rattle.loader_cli.specs.FleetReplays.{AllHoldAtRest, CompletesInFleet, FleetSeen, HoldsAtRest, IsFleetRun, IsOwnRun, RunsFleet, RunsInOwnSteps, TellsFleet, fleet_seen, settings_of}
use Rattle.loader_cli.specs.FleetReplays.RunsFleet.{disk_failed, ended, no_config, unknown}
use Rattle.loader_cli.specs.FleetReplays.TellsFleet.{all_known, one_unknown}
use Rattle.loader_cli.specs.FleetRuns.{FleetRunsOut}
use Rattle.loader_cli.specs.Replays.{CountsPower, LeavesFirstOrGood, setting_of}
use Rattle.loader_cli.specs.Texts.{disk_fault, no_configuration}
use Rattle.loader_cli.proofs.Left.{accepts_permitted, run_leaves}
use Rattle.loader_cli.proofs.Replayed.{some_standing}
use Rattle.loader_cli.proofs.StaysUp.{none_down_since, none_since}

-- ---- a unit's power

-- what a fleet says of a unit's disk, by the unit's own steps; of the end the link keeps nothing
unit_counts : (unit : ℕ) (steps before : List StepOfFleet) → steps ≡ Of_all ∷ before → (began given : List FleetHappeningView) → began ≡ [] → given ≡ fleet_happenings before ++ began
    → (standing : Option Standing) (old new : DiskState) → CountsStops (steps_of_unit unit steps) standing old new → ArmsAsGiven (happenings_of_unit unit began) (happenings_of_unit unit given) old new
    → CountsPower (steps_of_unit unit steps) old new
unit_counts unit steps before whole began given none gave standing old new stops arms =
    let own : List Step = steps_of_unit unit before in
    let is : ended_step ∷ own ≡ steps_of_unit unit steps = ap (steps_of_unit unit) (sym whole) in
    let all : given ≡ fleet_happenings before = gave ∙ (ap (λ (hs : List FleetHappeningView). fleet_happenings before ++ hs) none ∙ append-nil (fleet_happenings before)) in
    let happened : happenings_of_unit unit given ≡ happenings_of own = ap (happenings_of_unit unit) all ∙ happenings_are unit before in
    let same : arms.given ≡ happenings_of own =
    sym (append-nil arms.given) ∙ (ap (λ (hs : List HappeningView). arms.given ++ hs) (sym (ap (happenings_of_unit unit) none)) ∙ (sym arms.more ∙ happened)) in
    record {
      stops = stops.stops;
      armings = arms.armings ∙ (ap (λ (hs : List HappeningView). armings_after hs old.armings) same ∙ ap (λ (list : List Step). armings_after (happenings_of list) old.armings) is);
      armed = arms.armed ∙ (ap (λ (hs : List HappeningView). armed_after hs old.armed) same ∙ ap (λ (list : List Step). armed_after (happenings_of list) old.armed) is);
    }

-- ---- what stands at the end

stands_then : (standing : Option Standing) (new : DiskState) → HoldsStanding standing new → (last : StandingView) → option_map standing_view standing ≡ Some last → ForSome new.reads (λ image. HoldsConfig image last)
stands_then None new holds last is = absurd cc
stands_then (Some s) new holds last is = let same : standing_view s ≡ last = cc in λ image read. subst (HoldsConfig image) same (holds image read)

unknown_then : (standing : Option Standing) (began stops : ℕ) (new : DiskState) → FailedIfUnknown standing began stops new → option_map standing_view standing ≡ None → RoseBy (stops + 1) began new.faults × (new.stopped ≡ true)
unknown_then None began stops new failed is = failed
unknown_then (Some s) began stops new failed is = absurd cc

-- ---- a run on this media set, by a rule that accepts what it may

module _ {R K : Type 0} (state : K → DiskState) (may_say : R → LoadHeader → List KeptLoad → Bool → Type 0) (rule : R) (set : SetView) (follows_rule : FollowsAccepts may_say rule permits) where
  pub stands_on : (start : StandingView) (image : Image) → HoldsConfig image start → IsSet may_say (setting_of set start) rule set image
  stands_on start image holds = record { media = refl; accepts = follows_rule; start = holds }

  -- ---- one unit

  module _ (can : CanBeTold (media_of set)) (held_fits : WhatIsHeldFits) where
    own_run : (start : StandingView) (image : Image) (steps : List Step) (end : UnitEnd) → HoldsConfig image start
        → IsUnitRun (setting_of set start) steps (map session_view end.sessions.items) (option_map standing_view end.standing) → IsOwnRun set start steps (unit_seen end)
    own_run start image steps end holds is = record {
      is = is;
      good = is.keeps.good accepts_permitted;
      reports = is.keeps.reports accepts_permitted;
      tells = λ none. is.keeps.tells accepts_permitted can (held_fits image start holds) none;
    }

    unit_ran : (unit : ℕ) (steps before : List StepOfFleet) → steps ≡ Of_all ∷ before → (began link : FleetLinkState) → began.given ≡ [] → link.given ≡ fleet_happenings before ++ began.given
        → (end : UnitEnd) (old new : K) → LeavesOwn state may_say rule set unit began link old new → EndsInFleet state may_say rule set unit steps end old new
        → RunsInOwnSteps set unit steps (unit_seen end) (state old) (state new)
    unit_ran unit steps before whole began link none gave end old new leaves ends = record {
      any = record {
        stood = ends.stood;
        counts = unit_counts unit steps before whole began.given link.given none gave end.standing (state old) (state new) ends.stops leaves.arms;
        loader = ends.loader;
        lives = ends.lives permits follows_rule;
        stands = stands_then end.standing (state new) ends.standing;
        unknown = unknown_then end.standing (state old).faults (disk_stops (steps_of_unit unit steps)) (state new) ends.stops.unknown;
      };
      run = λ start image told holds all.
          own_run start image (steps_of_unit unit steps) end holds (ends.run (setting_of set start) image (stands_on start image holds) told all);
      moments = λ start at. ends.moments (setting_of set start) at.image (stands_on start at.image at.holds) at.reads at.rests;
      rests = λ start at known.
          some_standing end.standing (LosesOnlyWork (state new)) (ends.rests (setting_of set start) at.image (stands_on start at.image at.holds) at.reads at.rests) known;
    }

  -- ---- its last `finish`

  module _ (count : ℕ) (starts : ℕ → StandingView) (asks : FleetAsking) (script : List FleetLine) (steps : List StepOfFleet) (unit : ℕ) (least : 1 ≤ unit) (most : unit ≤ count)
      (follows : FollowsFleet count (fleet_waiting count (settings_of set starts)) asks script steps) where
    abbrev own_set : Setting
    own_set = setting_of set (starts unit)

    pub unit_completes : ((sessions : List EndedSession) (standing : Option StandingView) → CompletesAtUnit count (settings_of set starts) asks script steps unit sessions standing) → FinishLeavesPower
        → CanBeTold (media_of set) → StandingFits (starts unit) → (seen : UnitSeen) (old new : DiskState) → RunsInOwnSteps set unit steps seen old new → HoldsAtRest (starts unit) old
        → CompletesInFleet count (settings_of set starts) asks script unit steps seen old new
    unit_completes completes power can fits seen old new ran at left answers last stands =
        let own = ran.run (starts unit) at.image at.reads at.holds (inr at.rests) in
        let before : List Step = steps_of_unit unit left.whole.before in
        let more : List Step = ended_step ∷ steps_of_unit unit left.whole.more in
        let alone = subst (λ (waits : Side → List Step → Bool). IsLeftToOwnFinish waits before (steps_of_unit unit left.whole.more) (steps_of_unit unit steps)) (waits_as count (settings_of set starts) unit least most)
        (each_is_left_to_own count (fleet_waiting count (settings_of set starts)) asks script steps left.whole follows unit least most) in
        let only : OnlyFinishIsLeft own_set (own_script before ++ Finish ∷ []) before =
        (ap (λ (p : Plan). p.lines) alone.left, ap (λ (p : Plan). goes_on (scene_at own_set before) p.rest p.lines) alone.left) in
        let leaves = power own_set (own_script before ++ Finish ∷ []) before more (finish_alone_is_left own_set (own_script before ++ Finish ∷ []) before only)
        (subst (FollowsOwn own_set (own_script before ++ Finish ∷ [])) alone.split alone.follows) in
        let up : NoneGoesDown more = none_down_since own_set more before leaves (subst (λ (list : List Step). AllNoted own_set list) alone.split own.is.trace.noted)
        (none_since more before (steps_of_unit unit steps) old.faults new.faults alone.split answers ran.any.counts.stops) in
        let left_here : IsLeftAtUnit count (settings_of set starts) asks script steps unit =
        record { whole = left.whole; least = least; most = most; free = left.free; margin = left.margin; stays_up = up } in
        completes seen.sessions seen.standing follows own.is.keeps accepts_permitted can fits left_here last stands (sym ((ran.moments (starts unit) at).held.active last stands))

  -- ---- all units

  all_stand_on : (starts : ℕ → StandingView) (disks : List K) → AllHoldAtRest state starts disks → AllStandOn state may_say rule set (settings_of set starts) disks
  all_stand_on starts disks all i k there =
      let at = all i k there in
      record { image = at.image; told = at.reads; set_is = stands_on (starts (i + 1)) at.image at.holds; loses = at.rests }

  -- a link that begins this script of so many units
  abbrev fleet_link_of : (units : ℕ) → List FleetLine → FleetLinkState
  fleet_link_of units script = record { units = units; posted = []; given = []; rest = Nothing; lines = script }

  -- what is seen of a unit is what it came to
  record SeenAt (ends : List UnitEnd) (i : ℕ) (seen : UnitSeen) : Type 0 where
    end : UnitEnd
    there : slice_get ends i ≡ Some end
    is : unit_seen end ≡ seen

  seen_at : (ends : List UnitEnd) (i : ℕ) (seen : UnitSeen) → slice_get (map unit_seen ends) i ≡ Some seen → SeenAt ends i seen
  seen_at ends i seen there = by (slice_get ends i) refl (sym (slice_get-map unit_seen ends i) ∙ there)
    where
      by : (o : Option UnitEnd) → slice_get ends i ≡ o → option_map unit_seen o ≡ Some seen → SeenAt ends i seen
      by None is none = absurd cc
      by (Some end) is some = record { end = end; there = is; is = cc }

  module _ (script : List FleetLine) (link : FleetLinkState) (run : FleetDrive) (old new : List K) where
    abbrev steps : List StepOfFleet
    steps = run.trace

    pub fleet_ran : CanBeTold (media_of set) → WhatIsHeldFits → FinishLeavesPower
        → ((sets : ℕ → Setting) (asks : FleetAsking) (unit : ℕ) (sessions : List EndedSession) (standing : Option StandingView) → CompletesAtUnit (length old) sets asks script steps unit sessions standing)
        → (began : FleetLinkState) → began ≡ fleet_link_of (length old) script
        → EndsFleet began link run → AllEndInFleet state may_say rule set run old new
        → AllLeave state may_say rule set began link old new
        → ((sets : ℕ → Setting) → AllStandOn state may_say rule set sets old → FollowsOnEach began set sets steps)
        → AsksInBatches state may_say rule set run old
        → IsFleetRun state set script old new (fleet_seen run)
    fleet_ran can fits power completes began begins is_any ends leaves_any follows_any asked = record {
      before = is.before;
      steps = is.steps;
      once = is.once;
      count = length-map run.units.items unit_seen ∙ is.units;
      units = units;
      follows = follows_it;
      completes = λ starts all i seen first last told was then.
          unit_completes (length old) starts (fleet_asking set (length old) (settings_of set starts)) script steps (i + 1) (omega arith) (omega (arith, slice_get_within old i first was)) (follows_it starts all)
          (completes (settings_of set starts) (fleet_asking set (length old) (settings_of set starts)) (i + 1)) power can (fits (all i first was).image (starts (i + 1)) (all i first was).holds) seen (state first) (state last) (units i seen first last told was then) (all i first was);
      batches = record {
        before = asked.before;
        steps = asked.steps;
        places = asked.places;
        count = asked.count;
        known = λ i k start image there told holds. asked.known i k (setting_of set start) image there (stands_on start image holds) told;
        asked = asked.asked;
        ends = asked.ends;
      };
    }
      where
        is : EndsFleet (fleet_link_of (length old) script) link run
        is = subst (λ (l : FleetLinkState). EndsFleet l link run) begins is_any

        leaves : AllLeave state may_say rule set (fleet_link_of (length old) script) link old new
        leaves = subst (λ (l : FleetLinkState). AllLeave state may_say rule set l link old new) begins leaves_any

        follows : (sets : ℕ → Setting) → AllStandOn state may_say rule set sets old → FollowsOnEach (fleet_link_of (length old) script) set sets steps
        follows sets all = subst (λ (l : FleetLinkState). FollowsOnEach l set sets steps) begins (follows_any sets all)

        units : (i : ℕ) (seen : UnitSeen) (first last : K) → slice_get (map unit_seen run.units.items) i ≡ Some seen → slice_get old i ≡ Some first → slice_get new i ≡ Some last
            → RunsInOwnSteps set (i + 1) steps seen (state first) (state last)
        units i seen first last told was then =
            let found = seen_at run.units.items i seen told in
            subst (λ (s : UnitSeen). RunsInOwnSteps set (i + 1) steps s (state first) (state last)) found.is
            (unit_ran can fits (i + 1) steps is.before is.steps (fleet_link_of (length old) script) link refl is.given found.end first last (leaves i first last was then) (ends i found.end first last found.there was then))

        follows_it : (starts : ℕ → StandingView) → AllHoldAtRest state starts old → FollowsFleet (length old) (fleet_waiting (length old) (settings_of set starts)) (fleet_asking set (length old) (settings_of set starts)) script steps
        follows_it starts all =
            follows (settings_of set starts) (all_stand_on starts old all) script
            (record { follows = tt; count = refl; posted = refl; given = refl; left = refl })

  -- ---- what is left

  pub fleet_leaves : (old new : List K) → AllLeaveGood state may_say rule set old new → AllBetween (λ i before after. LeavesFirstOrGood (state before) (state after)) old new
  fleet_leaves old new good i before after was is =
      run_leaves set (state before) (state after)
      (λ start image told holds loses. good i before after (setting_of set start) image was is (stands_on start image holds) told loses accepts_permitted)

  -- each unit that came to its end had a configuration at first
  pub all_stood : (run : FleetDrive) (old new : List K) → length run.units.items ≡ length old → length new ≡ length old → AllEndInFleet state may_say rule set run old new → AllDisks (λ (k : K). HoldsSome (state k)) old
  all_stood run old new many same ends i first was =
      let within = slice_get_within old i first was in
      let end = there_is run.units.items i (omega (arith, within, many)) in
      let last = there_is new i (omega (arith, within, same)) in
      (ends i end.0 first last.0 end.1 was last.1).stood

-- ---- what is told of it

pub told_of_run : {K : Type 0} (state : K → DiskState) (set : SetView) (script : List FleetLine) (old new : List K) (run : FleetSeen) (status : ℕ) (text : List ℕ) → IsFleetRun state set script old new run
    → TellsFleet run status text → RunsFleet state set script old new (Some run) status text
told_of_run state set script old new run status text is (all_known known by_sessions told) = ended run refl known is by_sessions told
told_of_run state set script old new run status text is (one_unknown index at status_is told) = unknown run index refl at is status_is told

-- ---- there is none

module _ {K : Type 0} (state : K → DiskState) (old new : List K) {began link : FleetLinkState} where
  pub fleet_disk_failed : (set : SetView) (script : List FleetLine) {fault : FleetFault} {unit : ℕ} → fault ≡ fleets.Disk unit → IsFleetRefusal state fault began link old new → RunsFleet state set script old new None 5 disk_fault
  fleet_disk_failed set script {fault = fault} {unit = unit} is refused = by (subst (λ (f : FleetFault). IsFleetRefusal state f began link old new) is refused)
    where
      by : IsFleetRefusal state (fleets.Disk unit) began link old new → RunsFleet state set script old new None 5 disk_fault
      by (inl first) =
          let at = first.fails.fails in
          disk_failed first.fails.index refl
          (record { first = at.before; last = at.after; there = at.there; now = at.now; failed = at.fails.0; stopped = at.fails.1; stood = first.fails.stood; only_reads = first.only_reads })
          refl refl
      by (inr later) = absurd later

  pub fleet_holds_none : (set : SetView) (script : List FleetLine) {fault : FleetFault} {unit : ℕ} {reason : RecoverFault} → fault ≡ fleets.NoConfig unit reason → IsFleetRefusal state fault began link old new
      → RunsFleet state set script old new None 8 (no_configuration reason)
  fleet_holds_none set script {fault = fault} {unit = unit} {reason = reason} is refused = by (subst (λ (f : FleetFault). IsFleetRefusal state f began link old new) is refused)
    where
      by : IsFleetRefusal state (fleets.NoConfig unit reason) began link old new → RunsFleet state set script old new None 8 (no_configuration reason)
      by (inl first) =
          let at = first.fails.fails in
          no_config reason first.fails.index refl at.fails.0
          (inl (record { first = at.before; last = at.after; there = at.there; now = at.now; none = at.fails.1; stood = first.fails.stood; only_reads = first.only_reads }))
          refl refl
      by (inr later) =
          no_config reason later.index refl later.fails.of_disk
          (inr (record { last = later.fails.disk; now = later.fails.there; none = later.fails.none; stood = later.stood; ended = later.before }))
          refl refl

  -- memory ran out as a unit came up, or in a run
  pub refused_memory : {fault : FleetFault} → fault ≡ fleets.Memory → IsFleetRefusal state fault began link old new → FleetRunsOut state old new
  refused_memory {fault = fault} is refused = by (subst (λ (f : FleetFault). IsFleetRefusal state f began link old new) is refused)
    where
      by : IsFleetRefusal state fleets.Memory began link old new → FleetRunsOut state old new
      by (inl first) = inr (inl (record { index = first.fails.index; runs = first.fails.fails.runs; stood = first.fails.stood; only_reads = first.only_reads }))
      by (inr later) = inr (inr later)

  -- nothing was written, or each disk held one
  pub refused_held : (fault : FleetFault) → IsFleetRefusal state fault began link old new → AllOnlyRead state old new ⊎ AllDisks (λ (k : K). HoldsSome (state k)) old
  refused_held fault (inl first) = inl first.only_reads
  refused_held (fleets.Disk unit) (inr later) = absurd later
  refused_held (fleets.NoConfig unit reason) (inr later) = inr later.stood
  refused_held fleets.Memory (inr later) = inr later
