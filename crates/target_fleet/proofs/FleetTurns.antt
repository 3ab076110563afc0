-- A turn keeps what holds of a fleet that goes on.
use Rattle.std.proofs.Common.{◌≡◌, ◌≢◌, ◌⊎◌, inl, inr, ℕ, zero, suc, ◌+◌, ◌-◌, ◌<◌, ◌≤◌, List, [], ◌∷◌, ◌++◌, Bool, true, false, Option, Some, None, length, arith, refl, sym, ap, subst, ◌∙◌}
use Rattle.std.specs.Prelude.{map, nat_le, option_map, slice_get, slice_set, take, is_some, IfSome}
use Rattle.std.specs.List.{range_with_len}
use Rattle.std.proofs.Math.Dec.{eqb-suc-zero}
use Rattle.std.proofs.lemmas.Bool.{le-leb}
use Rattle.std.proofs.lemmas.Bool.Decides.{leb_tells}
use Rattle.std.proofs.lemmas.Grind.{reverse_onto}
use Rattle.std.proofs.lemmas.List.{append-nil}
use Rattle.std.proofs.lemmas.Option.{slice_get_within}
use Rattle.accept_rules.specs.declared.kept.KeptLoad.{KeptLoad}
use Rattle.disk_model.specs.State.{DiskState}
use Rattle.exchange_trace.specs.Happenings.{DatagramView, HappeningView}
use Rattle.exchange_trace.specs.Steps.{Step}
use Rattle.exchange_trace.specs.declared.trace.Side.{Side}
use Rattle.exchange_trace.specs.declared.trace.Side.TheVariants as sides
use Rattle.fleet_link.specs.FleetFollowed.{HasFollowedFleet, TellsWaits, begun_step}
use Rattle.fleet_link.specs.FleetLinks.{FleetLinkState, GivesInFleet, IsUploadStart, with_start_at}
use Rattle.fleet_link.specs.FleetPlans.{waits_in}
use Rattle.fleet_link.proofs.FleetFollowed.{asked_follows, batch_follows, end_follows, next_follows}
use Rattle.fleet_trace.specs.FleetFollowing.{FleetAsking, FleetWaiting}
use Rattle.fleet_trace.specs.FleetLines.{FleetLine}
use Rattle.fleet_trace.specs.FleetPosts.{UnitPost, fleet_happenings, fleet_posts, given_as, posts_of_unit, unit_post}
use Rattle.fleet_trace.specs.FleetTraces.{All_ended, At_unit, Batch_begun, FleetHappeningView, Next_asked, Of_batch, Of_unit, StepOfFleet, steps_of_unit}
use Rattle.fleet_trace.specs.Merging.{Batch_came, Stepped, Unit_stepped, stepping_order}
use Rattle.link_net.specs.declared.link.Waits.{Waits}
use Rattle.load_header.specs.declared.header.LoadHeader.{LoadHeader}
use Rattle.loader_machine.specs.Machine.{all_sessions, media_of}
use Rattle.media_check.specs.Sets.{SetView, batch_of}
use Rattle.replay_rules.specs.BothEnds.{Setting, waiting}
use Rattle.replay_turns.specs.Powers.{ArmsBy}
use Rattle.upload_replay.specs.Drivers.{DriverState, IsTiedTo}
use Rattle.replay_turns.specs.Turns.{target_kept}
use Rattle.session_rules.specs.Loader.{EndedSession}
use Rattle.upload_replay.specs.Drives.{has_session, loader_by}
use Rattle.upload_replay.proofs.Turning.{loader_waits, target_waits}
use Rattle.target_fleet.specs.Asking.{AllAsked, LastAsked, RunningBatch, UnitPlace, UnitUpload, became_of, end_in, ended_before, ends_of, next_in_batch, next_of_running, next_upload, place_of, running_after, session_came_to, sessions_after, with_end_of}
use Rattle.target_fleet.specs.AskingCalls.{IsAskedIn, asked_view, places_in, running_view, sessions_in, sessions_with}
use Rattle.target_fleet.specs.AskedTurns.{BeginsBatch}
use Rattle.target_fleet.specs.Merges.{AreUnits}
use Rattle.target_fleet.specs.Runs.{AllStandOn, FleetGoesOn, FleetState, IsFleetReady, RunsInFleet, fleet_asking, fleet_waiting, places_of, with_posts_at}
use Rattle.target_fleet.specs.Steps.{ActsAt, StepsAt}
use Rattle.target_fleet.specs.Waits.{TellWaits, TellsBoth}
use Rattle.target_fleet.specs.declared.asking.Asked.{Asked}
use Rattle.target_fleet.specs.declared.asking.Running.{Running}
use Rattle.target_fleet.specs.declared.outcome.BatchEnd.{BatchEnd}
use Rattle.target_fleet.proofs.FirstBoots.{there_is}
use Rattle.target_fleet.proofs.Indexed.{changed_read, same_there, set_length, set_same}
use Rattle.target_fleet.proofs.StepsInFleet.{batch_in_fleet, stays_in_fleet, steps_in_fleet}

-- ---- the script

-- what follows a script doesn't look at what is noted in the newest step, and all of its datagrams may be posted at once
pub step_follows : (units : ℕ) (waits : FleetWaiting) (asks : FleetAsking) (script : List FleetLine) (steps : List StepOfFleet) (asked : Bool) (unit : ℕ) (h : HappeningView) (s : Step) (given : FleetLinkState) → s.given ≡ h
    → HasFollowedFleet units waits asks script (Of_unit asked unit (begun_step h) ∷ steps) given → HasFollowedFleet units waits asks script (Of_unit asked unit s ∷ steps) (with_posts_at given unit s.posts)
step_follows units waits asks script steps asked unit h s given is has = record {
  follows = (ap (given_as asked unit) is ∙ has.follows.0, has.follows.1);
  count = has.count;
  posted = ap (λ (posts : List UnitPost). posts ++ map (unit_post unit) s.posts) (has.posted ∙ append-nil (fleet_posts steps));
  given = has.given ∙ ap (λ (x : HappeningView). At_unit unit x ∷ fleet_happenings steps) (sym is);
  left = has.left;
}

-- ---- waiting

none_beyond : {A : Type 0} (xs : List A) (i : ℕ) → length xs ≤ i → slice_get xs i ≡ None
none_beyond [] i beyond = refl
none_beyond (x ∷ xs) zero beyond = absurd (let no : ⊥ = omega (arith, beyond) in no)
none_beyond (x ∷ xs) (suc i) beyond = none_beyond xs i (omega (arith, beyond))

abbrev waits_told : Option Waits → Side → Bool
waits_told None side = false
waits_told (Some w) sides.Loader = w.loader
waits_told (Some w) sides.Target = w.target

index_is : (i : ℕ) → suc i - 1 ≡ i
index_is i = omega arith

waits_at : (waits : List Waits) (i : ℕ) (o : Option Waits) → slice_get waits i ≡ o → (side : Side) → waits_in waits (suc i) side ≡ waits_told o side
waits_at waits i None e side = let there : slice_get waits (suc i - 1) ≡ None = ap (slice_get waits) (index_is i) ∙ e in rw (there, eqb-suc-zero i) refl
waits_at waits i (Some w) e sides.Loader = let there : slice_get waits (suc i - 1) ≡ Some w = ap (slice_get waits) (index_is i) ∙ e in rw (there, eqb-suc-zero i) refl
waits_at waits i (Some w) e sides.Target = let there : slice_get waits (suc i - 1) ≡ Some w = ap (slice_get waits) (index_is i) ∙ e in rw (there, eqb-suc-zero i) refl

abbrev driver_side : {R : Type 0} → DriverState R → Side → Bool
driver_side d sides.Loader = is_some d.loader.view.live
driver_side d sides.Target = has_session (target_kept d.target)

both_waits : {R : Type 0} (d : DriverState R) (w : Waits) → TellsBoth d w → (side : Side) → waits_told (Some w) side ≡ driver_side d side
both_waits d w tells sides.Loader = tells.loader
both_waits d w tells sides.Target = tells.target

driver_waits : {R : Type 0} (set : Setting) (d : DriverState R) → IsTiedTo set d → (side : Side) → driver_side d side ≡ waiting set side d.steps
driver_waits set d tied sides.Loader = loader_waits set d tied
driver_waits set d tied sides.Target = target_waits set d tied

-- this comes at a unit: the link gave it, or was told that it was started there
pub record ComesAt (unit : ℕ) (h : HappeningView) (link given : FleetLinkState) : Type 0 where
  pub units : given.units ≡ link.units
  pub posted : given.posted ≡ link.posted
  pub given_is : given.given ≡ At_unit unit h ∷ link.given

pub given_comes : (unit : ℕ) (h : HappeningView) (link given : FleetLinkState) (waits : List Waits) (may_ask : Bool) → GivesInFleet link given waits may_ask (At_unit unit h) → ComesAt unit h link given
given_comes unit h link given waits may_ask gives = record { units = gives.units; posted = gives.posted; given_is = gives.given }

pub start_comes : (unit : ℕ) (h : HappeningView) (link given : FleetLinkState) (waits : List Waits) (may_ask : Bool) → GivesInFleet link given waits may_ask Next_asked → ComesAt unit h link (with_start_at given unit h)
start_comes unit h link given waits may_ask gives = record { units = gives.units; posted = gives.posted; given_is = ap (λ (hs : List FleetHappeningView). At_unit unit h ∷ hs) gives.given }

-- where the steps follow a script, so they do as this step begins
abbrev pub FollowsThen : {R K : Type 0} → (state : K → DiskState) → (may_say : R → LoadHeader → List KeptLoad → Bool → Type 0) → R → SetView → (began : FleetLinkState) → (first : List K) → List StepOfFleet → (given : FleetLinkState)
    → (asked : Bool) → (unit : ℕ) → HappeningView → Type 0
FollowsThen state may_say rule shown began first steps given asked unit h =
    (sets : ℕ → Setting) (script : List FleetLine) → AllStandOn state may_say rule shown sets first
    → HasFollowedFleet began.units (fleet_waiting began.units sets) (fleet_asking shown began.units sets) script [] began
    → HasFollowedFleet began.units (fleet_waiting began.units sets) (fleet_asking shown began.units sets) script (Of_unit asked unit (begun_step h) ∷ steps) given

places_set : {R : Type 0} (drivers : List (DriverState R)) (i : ℕ) (before after : DriverState R) → slice_get drivers i ≡ Some before → place_of after.identity ≡ place_of before.identity
    → places_in (slice_set drivers i after) ≡ places_in drivers
places_set [] i before after there same = absurd cc
places_set {R = R} (d ∷ drivers) zero before after there same =
    let is : d ≡ before = cc in
    ap (λ (place : UnitPlace). place ∷ places_in drivers) (same ∙ ap (λ (x : DriverState R). place_of x.identity) (sym is))
places_set (d ∷ drivers) (suc i) before after there same = ap (λ (places : List UnitPlace). place_of d.identity ∷ places) (places_set drivers i before after there same)

-- ---- what the running batch came to, as the units' steps have it

module _ {R K : Type 0} {ended : Bool} (state : K → DiskState) (may_say : R → LoadHeader → List KeptLoad → Bool → Type 0) (rule : R) (shown : SetView) (began link : FleetLinkState) (fleet : FleetState R) (first disks : List K)
    (on : FleetGoesOn state may_say rule shown ended began link fleet first disks) (ready : IsFleetReady state link fleet disks) where
  pub own_sessions : (i : ℕ) (d : DriverState R) → slice_get fleet.drivers i ≡ Some d → all_sessions d.loader.view ≡ sessions_after shown on.steps (i + 1)
  own_sessions i d e =
      let within = slice_get_within fleet.drivers i d e in
      let old = there_is first i (let lt : i < length first = omega (arith, within, on.many, ready.drivers, ready.disks_are) in lt) in
      let new = there_is disks i (let lt : i < length disks = omega (arith, within, ready.drivers, ready.disks_are) in lt) in
      let runs = on.units i d old.0 new.0 e old.1 new.1 in
      ap all_sessions runs.goes_on.loader.kept
      ∙ (ap (λ (set : SetView). all_sessions (loader_by (media_of set) d.steps)) runs.media
      ∙ ap (λ (own : List Step). all_sessions (loader_by (media_of shown) own)) runs.own)

  last_is : (last : Option Asked) → IsAskedIn (length fleet.drivers) last → became_of (sessions_in fleet.drivers) (option_map asked_view last) ≡ became_of (sessions_after shown on.steps) (option_map asked_view last)
  last_is None within = refl
  last_is (Some asked) within =
      let d = there_is fleet.drivers asked.index within in
      let index : asked.index + 1 - 1 ≡ asked.index = omega arith in
      let sessions : sessions_in fleet.drivers (asked.index + 1) ≡ sessions_after shown on.steps (asked.index + 1) =
      ap (λ (o : Option (DriverState R)). sessions_with o) (ap (slice_get fleet.drivers) index ∙ d.1) ∙ own_sessions asked.index d.0 d.1 in
      ap (λ (own : List EndedSession). session_came_to (slice_get own asked.session)) sessions

  module _ (last : IfSome fleet.running (λ running. IsAskedIn (length fleet.drivers) running.last)) where
    running_ends : (running : Option Running) → IfSome running (λ r. IsAskedIn (length fleet.drivers) r.last) → (ended : List BatchEnd)
        → with_end_of shown (places_in fleet.drivers) (sessions_in fleet.drivers) (option_map running_view running) ended ≡ with_end_of shown (places_in fleet.drivers) (sessions_after shown on.steps) (option_map running_view running) ended
    running_ends None within ended = refl
    running_ends (Some running) within ended =
        ap (λ (became : LastAsked). ended ++ end_in (places_in fleet.drivers) (running_view running) became (batch_of shown running.part) ∷ []) (last_is running.last within)

    -- and so is what it ends the running batch with
    pub ends_are : with_end_of shown (places_in fleet.drivers) (sessions_in fleet.drivers) (option_map running_view fleet.running) fleet.ended ≡ ends_of shown (places_in fleet.drivers) on.steps
    ends_are =
        running_ends fleet.running last fleet.ended
        ∙ (ap (λ (running : Option RunningBatch). with_end_of shown (places_in fleet.drivers) (sessions_after shown on.steps) running fleet.ended) on.running
        ∙ ap (with_end_of shown (places_in fleet.drivers) (sessions_after shown on.steps) (running_after shown on.steps)) on.ended_are)

-- what the link is told is what the units' steps say
module _ {R K : Type 0} (state : K → DiskState) (may_say : R → LoadHeader → List KeptLoad → Bool → Type 0) (rule : R) (shown : SetView) (began link : FleetLinkState) (fleet : FleetState R) (first disks : List K)
    (on : FleetGoesOn state may_say rule shown false began link fleet first disks) (ready : IsFleetReady state link fleet disks) where
  module _ (sets : ℕ → Setting) (stand : AllStandOn state may_say rule shown sets first) where
    unit_tied : (i : ℕ) (d : DriverState R) → slice_get fleet.drivers i ≡ Some d → (d.steps ≡ steps_of_unit (i + 1) on.steps) × IsTiedTo (sets (i + 1)) d
    unit_tied i d e =
        let within = slice_get_within fleet.drivers i d e in
        let old = there_is first i (let lt : i < length first = omega (arith, within, on.many, ready.drivers, ready.disks_are) in lt) in
        let new = there_is disks i (let lt : i < length disks = omega (arith, within, ready.drivers, ready.disks_are) in lt) in
        let stands = stand i old.0 old.1 in
        let runs = on.units i d old.0 new.0 e old.1 new.1 in
        (runs.own, (runs.held (sets (i + 1)) stands.image stands.set_is stands.told stands.loses).held.tied)

    pub tells_waits : (waits : List Waits) → length waits ≡ link.units → link.units ≡ began.units → TellWaits (length fleet.drivers) fleet.drivers waits → TellsWaits (fleet_waiting began.units sets) on.steps waits
    tells_waits waits many count told zero side = refl
    tells_waits waits many count told (suc i) side = by (leb_tells (suc i) began.units)
      where
        by : ((nat_le (suc i) began.units ≡ true) × (suc i ≤ began.units)) ⊎ ((nat_le (suc i) began.units ≡ false) × (began.units < suc i)) → waits_in waits (suc i) side ≡ fleet_waiting began.units sets (suc i) side (steps_of_unit (suc i) on.steps)
        by (inl (is, low)) =
            let within : i < length fleet.drivers = omega (arith, low, count, ready.drivers) in
            let driver = there_is fleet.drivers i within in
            let tells = told i driver.0 within driver.1 in
            let tied = subst (λ (unit : ℕ). (driver.0.steps ≡ steps_of_unit unit on.steps) × IsTiedTo (sets unit) driver.0) (let same_unit : i + 1 ≡ suc i = omega arith in same_unit) (unit_tied i driver.0 driver.1) in
            rw (is, le-leb 1 (suc i) (omega arith)) (waits_at waits i (Some tells.0) tells.1 side ∙ (both_waits driver.0 tells.0 tells.2 side ∙ (driver_waits (sets (suc i)) driver.0 tied.1 side ∙ ap (waiting (sets (suc i)) side) tied.0)))
        by (inr (is, high)) = rw (is, le-leb 1 (suc i) (omega arith)) (waits_at waits i None (none_beyond waits i (omega (arith, high, many, count))) side)

    -- ---- where units are

    places_from : (n k : ℕ) (drivers : List (DriverState R)) → length drivers ≡ k
        → ((i : ℕ) (d : DriverState R) → slice_get drivers i ≡ Some d → d.identity ≡ (sets (n + i)).start.identity)
        → places_in drivers ≡ map (λ unit. place_of (sets unit).start.identity) (range_with_len n k)
    places_from n zero [] same each = refl
    places_from n (suc k) [] same each = absurd (let no : ⊥ = omega (arith, same) in no)
    places_from n zero (d ∷ drivers) same each = absurd (let no : ⊥ = omega (arith, same) in no)
    places_from n (suc k) (d ∷ drivers) same each =
        let first : n + 0 ≡ n = omega arith in
        ap (λ (places : List UnitPlace). place_of d.identity ∷ places)
        (places_from (n + 1) k drivers (omega (arith, same)) (λ i e there. let next : n + suc i ≡ n + 1 + i = omega arith in subst (λ (unit : ℕ). e.identity ≡ (sets unit).start.identity) next (each (suc i) e there)))
        ∙ ap (λ (place : UnitPlace). place ∷ map (λ unit. place_of (sets unit).start.identity) (range_with_len (n + 1) k))
        (ap place_of (subst (λ (unit : ℕ). d.identity ≡ (sets unit).start.identity) first (each 0 d refl)))

    own_identity : (i : ℕ) (d : DriverState R) → slice_get fleet.drivers i ≡ Some d → d.identity ≡ (sets (1 + i)).start.identity
    own_identity i d e =
        let within = slice_get_within fleet.drivers i d e in
        let old = there_is first i (let lt : i < length first = omega (arith, within, on.many, ready.drivers, ready.disks_are) in lt) in
        let new = there_is disks i (let lt : i < length disks = omega (arith, within, ready.drivers, ready.disks_are) in lt) in
        let stands = stand i old.0 old.1 in
        let number : i + 1 ≡ 1 + i = omega arith in
        subst (λ (unit : ℕ). d.identity ≡ (sets unit).start.identity) number ((on.units i d old.0 new.0 e old.1 new.1).identity (sets (i + 1)) stands.image stands.set_is stands.told)

    pub places_are : length fleet.drivers ≡ began.units → places_in fleet.drivers ≡ places_of began.units sets
    places_are count = places_from 1 began.units fleet.drivers count own_identity

  -- ---- batches

  module _ (last : IfSome fleet.running (λ running. IsAskedIn (length fleet.drivers) running.last)) where
    running_next : (running : Option Running) → IfSome running (λ r. IsAskedIn (length fleet.drivers) r.last)
        → next_of_running shown (places_in fleet.drivers) (sessions_in fleet.drivers) (option_map running_view running) ≡ next_of_running shown (places_in fleet.drivers) (sessions_after shown on.steps) (option_map running_view running)
    running_next None within = refl
    running_next (Some running) within =
        ap (λ (became : LastAsked). next_in_batch (places_in fleet.drivers) running.asked became (batch_of shown running.part)) (last_is state may_say rule shown began link fleet first disks on ready running.last within)

    -- what the code finds is asked next is what comes next
    pub next_is : next_of_running shown (places_in fleet.drivers) (sessions_in fleet.drivers) (option_map running_view fleet.running) ≡ next_upload shown (places_in fleet.drivers) on.steps
    next_is = running_next fleet.running last ∙ ap (next_of_running shown (places_in fleet.drivers) (sessions_after shown on.steps)) on.running

    pub may_is : (sets : ℕ → Setting) → AllStandOn state may_say rule shown sets first → link.units ≡ began.units
        → is_some (next_of_running shown (places_in fleet.drivers) (sessions_in fleet.drivers) (option_map running_view fleet.running)) ≡ fleet_asking shown began.units sets on.steps
    may_is sets stand count =
        ap (λ (next : Option UnitUpload). is_some next) (next_is ∙ ap (λ (places : List UnitPlace). next_upload shown places on.steps) (places_are sets stand (ready.drivers ∙ count)))

  -- ---- a turn

  -- what the link is told before it gives: which sides wait, and whether an upload may be asked
  module _ (waits : List Waits) (many : length waits ≡ link.units) (told : TellWaits (length fleet.drivers) fleet.drivers waits) (may_ask : Bool)
      (may : may_ask ≡ is_some (next_of_running shown (places_in fleet.drivers) (sessions_in fleet.drivers) (option_map running_view fleet.running)))
      (last : IfSome fleet.running (λ running. IsAskedIn (length fleet.drivers) running.last)) (given : FleetLinkState) where
    may_be : (sets : ℕ → Setting) → AllStandOn state may_say rule shown sets first → may_ask ≡ fleet_asking shown began.units sets on.steps
    may_be sets stand = may ∙ may_is last sets stand on.count

    -- the end comes
    pub ends_here : GivesInFleet link given waits may_ask All_ended → FleetGoesOn state may_say rule shown true began given fleet first disks
    ends_here gives = record {
      steps = on.steps;
      not_ended = on.not_ended;
      order = on.order;
      count = gives.units ∙ on.count;
      many = on.many;
      posted = gives.posted ∙ on.posted;
      given = gives.given ∙ on.given;
      units = on.units;
      follows = λ sets script stand start.
          end_follows began.units (fleet_waiting began.units sets) (fleet_asking shown began.units sets) script on.steps link waits may_ask (on.follows sets script stand start) (tells_waits sets stand waits many on.count told) (may_be sets stand) given gives;
      running = on.running;
      ended_are = on.ended_are;
      asked = on.asked;
    }

    -- a batch begins
    pub batch_begins : (part : List ℕ) (after : FleetState R) → BeginsBatch shown part fleet after → GivesInFleet link given waits may_ask (Batch_begun part) → FleetGoesOn state may_say rule shown false began given after first disks
    batch_begins part after begins gives = record {
      steps = Of_batch part ∷ on.steps;
      not_ended = (tt, on.not_ended);
      order = begins.order ∙ (ap (λ (order : List Stepped). order ++ Batch_came part ∷ []) on.order ∙ sym (reverse_onto (stepping_order on.steps) (Batch_came part) []));
      count = gives.units ∙ on.count;
      many = on.many;
      posted = gives.posted ∙ (on.posted ∙ sym (append-nil (fleet_posts on.steps)));
      given = gives.given ∙ on.given;
      units = λ i d old new e f g. batch_in_fleet state may_say rule shown (i + 1) on.steps part d old new (on.units i d old new (ap (λ (ds : List (DriverState R)). slice_get ds i) (sym begins.drivers) ∙ e) f g);
      follows = λ sets script stand start.
          batch_follows began.units (fleet_waiting began.units sets) (fleet_asking shown began.units sets) script on.steps link waits may_ask (on.follows sets script stand start) (tells_waits sets stand waits many on.count told) (may_be sets stand) given part gives;
      running = begins.running;
      ended_are = begins.ended ∙ (ends_are state may_say rule shown began link fleet first disks on ready last ∙ ap (λ (ds : List (DriverState R)). ends_of shown (places_in ds) on.steps) (sym begins.drivers));
      asked = subst (λ (ds : List (DriverState R)). AllAsked shown (places_in ds) on.steps) (sym begins.drivers) on.asked;
    }

    -- what happens at a unit as the script says is followed
    pub given_follows : (unit : ℕ) (h : HappeningView) → GivesInFleet link given waits may_ask (At_unit unit h) → FollowsThen state may_say rule shown began first on.steps given false unit h
    given_follows unit h gives sets script stand start =
        next_follows began.units (fleet_waiting began.units sets) (fleet_asking shown began.units sets) script on.steps link waits may_ask (on.follows sets script stand start) (tells_waits sets stand waits many on.count told) (may_be sets stand) given unit h gives

    -- and so is an upload that starts as it asked
    pub start_follows : (unit : ℕ) (h : HappeningView) → IsUploadStart h → GivesInFleet link given waits may_ask Next_asked
        → FollowsThen state may_say rule shown began first on.steps (with_start_at given unit h) true unit h
    start_follows unit h starts gives sets script stand start =
        asked_follows began.units (fleet_waiting began.units sets) (fleet_asking shown began.units sets) script on.steps link waits may_ask (on.follows sets script stand start) (tells_waits sets stand waits many on.count told) (may_be sets stand) given unit h starts gives

  -- a unit steps
  module _ (asked : Bool) (unit : ℕ) (above : 1 ≤ unit) (h : HappeningView) (given : FleetLinkState) (comes : ComesAt unit h link given) (follows : FollowsThen state may_say rule shown began first on.steps given asked unit h)
      (posts : List DatagramView) (after : FleetState R) (disks_then : List K) (step : StepsAt state may_say (unit - 1) h posts fleet.drivers after.drivers disks disks_then) (arms : ArmsBy h (state step.old) (state step.new)) where
    its_number : unit - 1 + 1 ≡ unit
    its_number = omega (arith, above)

    unit_steps : (i : ℕ) (d : DriverState R) (old new : K) → slice_get after.drivers i ≡ Some d → slice_get first i ≡ Some old → slice_get disks_then i ≡ Some new
        → RunsInFleet state may_say rule shown (i + 1) (Of_unit asked unit step.takes.stepped.step ∷ on.steps) d old new
    unit_steps i d old new e f g = by (changed_read (unit - 1) step.before step.after fleet.drivers after.drivers step.unit i d e) (changed_read (unit - 1) step.old step.new disks disks_then step.disk i new g)
      where
        here : i ≡ unit - 1 → d ≡ step.after → new ≡ step.new → RunsInFleet state may_say rule shown (i + 1) (Of_unit asked unit step.takes.stepped.step ∷ on.steps) d old new
        here index is_driver is_disk =
            let was = on.units (unit - 1) step.before old step.old step.unit.there (subst (λ (n : ℕ). slice_get first n ≡ Some old) index f) step.disk.there in
            let runs = steps_in_fleet state may_say rule shown unit on.steps asked h posts step.before step.after old step.old step.new step.takes arms
            (subst (λ (n : ℕ). RunsInFleet state may_say rule shown n on.steps step.before old step.old) its_number was) in
            let number : i + 1 ≡ unit = omega (arith, index, above) in
            rw (number, is_driver, is_disk) runs

        by : ((i ≡ unit - 1) × (d ≡ step.after)) ⊎ ((i ≢ unit - 1) × (slice_get fleet.drivers i ≡ Some d)) → ((i ≡ unit - 1) × (new ≡ step.new)) ⊎ ((i ≢ unit - 1) × (slice_get disks i ≡ Some new))
            → RunsInFleet state may_say rule shown (i + 1) (Of_unit asked unit step.takes.stepped.step ∷ on.steps) d old new
        by (inl (index, is_driver)) (inl (again, is_disk)) = here index is_driver is_disk
        by (inl (index, is_driver)) (inr (other, there)) = absurd (other index)
        by (inr (other, there)) (inl (index, is_disk)) = absurd (other index)
        by (inr (other, driver_there)) (inr (again, disk_there)) =
            stays_in_fleet state may_say rule shown (i + 1) on.steps asked unit (λ same. other (omega (arith, same))) step.takes.stepped.step d old new (on.units i d old new driver_there f disk_there)

    -- units are where they were
    pub places_stay : places_in after.drivers ≡ places_in fleet.drivers
    places_stay = ap (λ (ds : List (DriverState R)). places_in ds) step.unit.kept ∙ places_set fleet.drivers (unit - 1) step.before step.after step.unit.there (ap place_of step.takes.stepped.identity)

    pub goes_on_then : after.order ≡ fleet.order ++ Unit_stepped asked unit ∷ []
        → option_map running_view after.running ≡ running_after shown (Of_unit asked unit step.takes.stepped.step ∷ on.steps) → after.ended ≡ fleet.ended
        → AllAsked shown (places_in fleet.drivers) (Of_unit asked unit step.takes.stepped.step ∷ on.steps)
        → FleetGoesOn state may_say rule shown false began (with_posts_at given unit posts) after first disks_then
    goes_on_then more running ended all_asked = let stepped = step.takes.stepped in record {
      steps = Of_unit asked unit stepped.step ∷ on.steps;
      not_ended = (tt, on.not_ended);
      order = more ∙ (ap (λ (order : List Stepped). order ++ Unit_stepped asked unit ∷ []) on.order ∙ sym (reverse_onto (stepping_order on.steps) (Unit_stepped asked unit) []));
      count = comes.units ∙ on.count;
      many = on.many ∙ (sym (set_length disks (unit - 1) step.new) ∙ sym (ap length step.disk.kept));
      posted = ap (λ (posted : List UnitPost). posted ++ map (unit_post unit) posts) (comes.posted ∙ on.posted) ∙ ap (λ (ds : List DatagramView). fleet_posts on.steps ++ map (unit_post unit) ds) (sym stepped.posted);
      given = comes.given_is ∙ (ap (λ (rest : List FleetHappeningView). At_unit unit h ∷ rest) on.given ∙ ap (λ (x : HappeningView). At_unit unit x ∷ (fleet_happenings on.steps ++ began.given)) (sym stepped.given));
      units = unit_steps;
      follows = λ sets script stand start.
          subst (λ (ds : List DatagramView). HasFollowedFleet began.units (fleet_waiting began.units sets) (fleet_asking shown began.units sets) script (Of_unit asked unit stepped.step ∷ on.steps) (with_posts_at given unit ds)) stepped.posted
          (step_follows began.units (fleet_waiting began.units sets) (fleet_asking shown began.units sets) script on.steps asked unit h stepped.step given stepped.given (follows sets script stand start));
      running = running;
      ended_are = ended ∙ (on.ended_are ∙ ap (λ (places : List UnitPlace). ended_before shown places on.steps) (sym places_stay));
      asked = subst (λ (places : List UnitPlace). AllAsked shown places (Of_unit asked unit stepped.step ∷ on.steps)) (sym places_stay) all_asked;
    }

-- ---- what the code hands over

-- the first of so many waits tell what all of them do
pub told_of_taken : {R : Type 0} (drivers : List (DriverState R)) (waits : List Waits) (n : ℕ) → n ≡ length drivers → length waits ≡ 8 → n ≤ 8 → TellWaits (length drivers) drivers waits → TellWaits (length drivers) drivers (take n waits)
told_of_taken drivers waits n is many few told i d within e =
    let tells = told i d within e in
    (tells.0, taken_there waits n i tells.0 (omega (arith, is, within)) tells.1, tells.2)
  where
    taken_there : (xs : List Waits) (n i : ℕ) (w : Waits) → i < n → slice_get xs i ≡ Some w → slice_get (take n xs) i ≡ Some w
    taken_there [] n i w lt there = absurd cc
    taken_there (x ∷ xs) zero i w lt there = absurd (let no : ⊥ = omega (arith, lt) in no)
    taken_there (x ∷ xs) (suc n) zero w lt there = there
    taken_there (x ∷ xs) (suc n) (suc i) w lt there = taken_there xs n i w (omega (arith, lt)) there

-- what a step does to its disk, where it is known which one it was
pub acts_armed : {R K : Type 0} (state : K → DiskState) (may_say : R → LoadHeader → List KeptLoad → Bool → Type 0) (index : ℕ) (h : HappeningView) (posts : List DatagramView) (drivers drivers_then : List (DriverState R)) (disks disks_then : List K)
    → ActsAt state may_say index h drivers disks disks_then → (step : StepsAt state may_say index h posts drivers drivers_then disks disks_then) → ArmsBy h (state step.old) (state step.new)
acts_armed {K = K} state may_say index h posts drivers drivers_then disks disks_then acts step =
    let old : acts.old ≡ step.old = same_there disks index acts.old step.old acts.disk.there step.disk.there in
    let new : acts.new ≡ step.new =
    same_there disks_then index acts.new step.new (ap (λ (ks : List K). slice_get ks index) acts.disk.kept ∙ set_same disks index acts.new acts.old acts.disk.there)
    (ap (λ (ks : List K). slice_get ks index) step.disk.kept ∙ set_same disks index step.new step.old step.disk.there) in
    subst (λ (k : K). ArmsBy h (state step.old) (state k)) new (subst (λ (k : K). ArmsBy h (state k) (state acts.new)) old acts.acts.arms)

-- the end, and a batch that begins, leave a fleet as ready as it was
pub ready_still : {R K : Type 0} (state : K → DiskState) (link given : FleetLinkState) (fleet after : FleetState R) (disks : List K) → after.drivers ≡ fleet.drivers → AreUnits link.units after.order → given.units ≡ link.units → given.posted ≡ link.posted
    → IsFleetReady state link fleet disks → IsFleetReady state given after disks
ready_still {R = R} state link given fleet after disks same order units posted ready = record {
  drivers = ap (λ (ds : List (DriverState R)). length ds) same ∙ (ready.drivers ∙ sym units);
  disks_are = ready.disks_are ∙ sym units;
  goes_on = λ i d e. ready.goes_on i d (there i d e);
  running = λ i d k e f. ready.running i d k (there i d e) f;
  posted = λ i d e. ap (posts_of_unit (i + 1)) posted ∙ ready.posted i d (there i d e);
  order = subst (λ (n : ℕ). AreUnits n after.order) (sym units) order;
}
  where
    there : (i : ℕ) (d : DriverState R) → slice_get after.drivers i ≡ Some d → slice_get fleet.drivers i ≡ Some d
    there i d e = ap (λ (ds : List (DriverState R)). slice_get ds i) (sym same) ∙ e
