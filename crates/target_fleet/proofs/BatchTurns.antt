-- A turn in which a batch begins, or an upload is asked, keeps what holds of a fleet that goes on.
use Rattle.std.proofs.Common.{◌≡◌, ◌⊎◌, inl, inr, ℕ, ◌+◌, ◌-◌, ◌<◌, ◌≤◌, List, [], ◌∷◌, ◌++◌, Bool, true, false, Option, Some, None, Result, Ok, Err, OnOk, length, arith, refl, sym, ap, subst, ◌∙◌}
use Rattle.std.specs.Prelude.{is_some, option_map, slice_get, IfSome}
use Rattle.accept_rules.specs.declared.kept.KeptLoad.{KeptLoad}
use Rattle.batch_lists.specs.Batch.{BatchView}
use Rattle.batch_lists.specs.declared.batch.BatchTarget.{BatchTarget}
use Rattle.disk_model.specs.State.{DiskState}
use Rattle.exchange_trace.specs.Happenings.{DatagramView, HappeningView}
use Rattle.fleet_link.specs.FleetLinks.{FleetLinkState, with_start_at}
use Rattle.fleet_trace.specs.FleetTraces.{All_ended, At_unit, Batch_begun, FleetHappeningView, Next_asked, Of_unit}
use Rattle.fleet_trace.specs.Merging.{Batch_came, Stepped, Unit_stepped}
use Rattle.load_header.specs.declared.header.LoadHeader.{LoadHeader}
use Rattle.loader_machine.specs.Machine.{all_sessions}
use Rattle.media_check.specs.Sets.{SetView, batch_of}
use Rattle.session_rules.specs.Loader.{EndedSession}
use Rattle.target_fleet.specs.Asking.{AllAsked, IsUploadAt, RunningBatch, UnitUpload, asked_once_more, became_of, begun_batch, next_of_running, running_after, session_asked, sessions_after}
use Rattle.target_fleet.specs.AskingCalls.{IsAskedIn, IsAskedWithin, asked_view, places_in, running_view, sessions_in, upload_at}
use Rattle.target_fleet.specs.AskedTurns.{AreBatchesReady, AsksUnit, BeginsBatch, StepsFleet, asked_more, batch_begun, upload_of}
use Rattle.target_fleet.specs.Merges.{AreUnits}
use Rattle.target_fleet.specs.Runs.{FleetGoesOn, FleetState, IsFleetReady, with_posts_at}
use Rattle.target_fleet.specs.Steps.{StepsAt}
use Rattle.target_fleet.specs.declared.asking.Asked.{Asked}
use Rattle.target_fleet.specs.declared.asking.Running.{Running}
use Rattle.target_fleet.proofs.FewTargets.{one_is_left}
use Rattle.target_fleet.proofs.FleetTurns.{next_is, own_sessions}
use Rattle.target_fleet.proofs.Indexed.{more_read}

-- ---- where a call is not refused

-- what follows from what it says there
pub where_ok : {T E P Q : Type 0} (result : Result T E) → (P → Q) → OnOk result P → OnOk result Q
where_ok (Ok x) then holds = then holds
where_ok (Err fault) then holds = tt

-- whether there is one is not changed by what is made of it
pub mapped_is_some : {A B : Type 0} (f : A → B) (o : Option A) → is_some (option_map f o) ≡ is_some o
mapped_is_some f None = refl
mapped_is_some f (Some x) = refl

pub begun_is : (h : FleetHappeningView) (part : List ℕ) → batch_begun h ≡ Some part → h ≡ Batch_begun part
begun_is (At_unit unit h) part e = absurd cc
begun_is (Batch_begun other) part e = let same : other ≡ part = cc in ap Batch_begun same
begun_is Next_asked part e = absurd cc
begun_is All_ended part e = absurd cc

-- ---- an upload that is asked

-- where the unit stepped, and one more was asked
pub asks_of : {R K : Type 0} (state : K → DiskState) (may_say : R → LoadHeader → List KeptLoad → Bool → Type 0) (unit : ℕ) (h : HappeningView) (before mid after : FleetState R) (link given link_then : FleetLinkState) (disks disks_then : List K) (sessions : ℕ)
    → (told : StepsFleet state may_say true unit h before mid given link_then disks disks_then) → given ≡ with_start_at link unit h → after.drivers ≡ mid.drivers → after.order ≡ mid.order
    → after.running ≡ option_map (asked_more (unit - 1) sessions) mid.running → after.ended ≡ mid.ended → sessions ≡ length (all_sessions told.step.before.loader.view)
    → AsksUnit state may_say unit h before after link link_then disks disks_then
asks_of state may_say unit h before mid after link given link_then disks disks_then sessions told started drivers order running ended counted = record {
  posts = told.posts;
  step = record {
    before = told.step.before;
    after = told.step.after;
    old = told.step.old;
    new = told.step.new;
    unit = record { there = told.step.unit.there; kept = drivers ∙ told.step.unit.kept };
    disk = told.step.disk;
    takes = told.step.takes;
  };
  acts = told.acts;
  linked = told.linked ∙ ap (λ (l : FleetLinkState). with_posts_at l unit told.posts) started;
  order = order ∙ told.order;
  running = running ∙ (ap (option_map (asked_more (unit - 1) sessions)) told.running ∙ ap (λ (n : ℕ). option_map (asked_more (unit - 1) n) before.running) counted);
  ended = ended ∙ told.ended;
}

-- ---- what the batches are ready for

-- where no batch was touched, and there are as many units
pub batches_stay : {R : Type 0} (shown : SetView) (before after : FleetState R) → after.running ≡ before.running → length after.drivers ≡ length before.drivers → AreBatchesReady shown before → AreBatchesReady shown after
batches_stay shown before after same many ready = record {
  last = rw (same, many) ready.last;
  within = rw same ready.within;
  few = ready.few;
}

-- a batch that begins
pub batch_is_ready : {R : Type 0} (shown : SetView) (part : List ℕ) (before after : FleetState R) → BeginsBatch shown part before after → AreBatchesReady shown before → AreBatchesReady shown after
batch_is_ready shown part before after begins ready = record {
  last = of_last after.running begins.running;
  within = of_within after.running begins.running;
  few = ready.few;
}
  where
    of_last : (running : Option Running) → option_map running_view running ≡ Some (begun_batch part) → IfSome running (λ r. IsAskedIn (length after.drivers) r.last)
    of_last None e = tt
    of_last (Some r) e = none r.last (let same : running_view r ≡ begun_batch part = cc in ap (λ (x : RunningBatch). x.last) same)
      where
        none : (last : Option Asked) → option_map asked_view last ≡ None → IsAskedIn (length after.drivers) last
        none None is = tt
        none (Some asked) is = absurd cc

    of_within : (running : Option Running) → option_map running_view running ≡ Some (begun_batch part) → IfSome running (λ r. IsAskedWithin shown (running_view r))
    of_within None e = tt
    of_within (Some r) e = λ listed there.
        let same : running_view r ≡ begun_batch part = cc in
        let count : r.asked ≡ 0 = ap (λ (x : RunningBatch). x.asked) same in
        omega (arith, count)

-- the upload that is asked is one to a target that is left
next_within : {R : Type 0} (shown : SetView) (fleet : FleetState R) (running : Running) (next : UnitUpload) → next_of_running shown (places_in fleet.drivers) (sessions_in fleet.drivers) (Some (running_view running)) ≡ Some next
    → (listed : BatchView) → batch_of shown running.part ≡ Some listed → running.asked < length listed.targets
next_within shown fleet running next e listed is =
    one_is_left (places_in fleet.drivers) running.asked (became_of (sessions_in fleet.drivers) (option_map asked_view running.last)) listed next (rw is at e)

-- so less than 64 were asked
pub few_asked : {R : Type 0} (shown : SetView) (fleet : FleetState R) (next : UnitUpload) → AreBatchesReady shown fleet → next_of_running shown (places_in fleet.drivers) (sessions_in fleet.drivers) (option_map running_view fleet.running) ≡ Some next
    → IfSome fleet.running (λ r. r.asked < 64)
few_asked shown fleet next ready e = by fleet.running e
  where
    by : (running : Option Running) → next_of_running shown (places_in fleet.drivers) (sessions_in fleet.drivers) (option_map running_view running) ≡ Some next → IfSome running (λ r. r.asked < 64)
    by None e = tt
    by (Some running) e = listed (batch_of shown running.part) refl
      where
        listed : (o : Option BatchView) → batch_of shown running.part ≡ o → running.asked < 64
        listed None is = absurd (let none = rw is at e in cc)
        listed (Some found) is = let below = next_within shown fleet running next e found is in let few = ready.few running.part found is in omega (arith, below, few)

-- one more was asked
pub asked_is_ready : {R : Type 0} (shown : SetView) (before after : FleetState R) (index sessions : ℕ) (next : UnitUpload) → after.running ≡ option_map (asked_more index sessions) before.running → length after.drivers ≡ length before.drivers → index < length before.drivers
    → next_of_running shown (places_in before.drivers) (sessions_in before.drivers) (option_map running_view before.running) ≡ Some next → AreBatchesReady shown before → AreBatchesReady shown after
asked_is_ready shown before after index sessions next more many below e ready = record {
  last = rw (more, many) (of_last before.running);
  within = rw more (of_within before.running e);
  few = ready.few;
}
  where
    of_last : (running : Option Running) → IfSome (option_map (asked_more index sessions) running) (λ r. IsAskedIn (length before.drivers) r.last)
    of_last None = tt
    of_last (Some r) = below

    of_within : (running : Option Running) → next_of_running shown (places_in before.drivers) (sessions_in before.drivers) (option_map running_view running) ≡ Some next → IfSome (option_map (asked_more index sessions) running) (λ r. IsAskedWithin shown (running_view r))
    of_within None e = tt
    of_within (Some r) e = λ listed there. let left = next_within shown before r next e listed there in omega (arith, left)

-- the order, with a batch more
pub batch_in_order : (units : ℕ) (part : List ℕ) (order order_then : List Stepped) → order_then ≡ order ++ Batch_came part ∷ [] → AreUnits units order → AreUnits units order_then
batch_in_order units part order order_then more each k unit asked e = by (more_read order k (Batch_came part) (Unit_stepped asked unit) (ap (λ (all : List Stepped). slice_get all k) (sym more) ∙ e))
  where
    by : ((k ≡ length order) × (Unit_stepped asked unit ≡ Batch_came part)) ⊎ ((k < length order) × (slice_get order k ≡ Some (Unit_stepped asked unit))) → (1 ≤ unit) × (unit ≤ units)
    by (inl (here, is)) = absurd cc
    by (inr (within, there)) = each k unit asked there

-- ---- what was asked

module _ {R K : Type 0} (state : K → DiskState) (may_say : R → LoadHeader → List KeptLoad → Bool → Type 0) (rule : R) (shown : SetView) (began link : FleetLinkState) (fleet : FleetState R) (first disks : List K)
    (on : FleetGoesOn state may_say rule shown false began link fleet first disks) (ready : IsFleetReady state link fleet disks) (last : IfSome fleet.running (λ running. IsAskedIn (length fleet.drivers) running.last)) where
  module _ (index : ℕ) (target : BatchTarget) (found : next_of_running shown (places_in fleet.drivers) (sessions_in fleet.drivers) (option_map running_view fleet.running) ≡ Some (upload_at index target))
      (posts : List DatagramView) (after : FleetState R) (disks_then : List K) (step : StepsAt state may_say (index + 1 - 1) (upload_of target) posts fleet.drivers after.drivers disks disks_then) where
    back : index + 1 - 1 ≡ index
    back = omega arith

    pub all_asked : AllAsked shown (places_in fleet.drivers) (Of_unit true (index + 1) step.takes.stepped.step ∷ on.steps)
    all_asked = (
      subst (λ (next : Option UnitUpload). IsUploadAt (index + 1) step.takes.stepped.step.given next) (sym found ∙ next_is state may_say rule shown began link fleet first disks on ready last) (refl, step.takes.stepped.given),
      on.asked,
    )

    pub running_then : after.running ≡ option_map (asked_more (index + 1 - 1) (length (all_sessions step.before.loader.view))) fleet.running
        → option_map running_view after.running ≡ running_after shown (Of_unit true (index + 1) step.takes.stepped.step ∷ on.steps)
    running_then more =
        let sessions : all_sessions step.before.loader.view ≡ sessions_after shown on.steps (index + 1 - 1 + 1) = own_sessions state may_say rule shown began link fleet first disks on ready (index + 1 - 1) step.before step.unit.there in
        let number : length (all_sessions step.before.loader.view) ≡ (session_asked shown (index + 1) on.steps).number =
        ap (λ (all : List EndedSession). length all) sessions ∙ ap (λ (n : ℕ). length (sessions_after shown on.steps (n + 1))) back in
        ap (option_map running_view) more
        ∙ (viewed fleet.running (length (all_sessions step.before.loader.view)) (session_asked shown (index + 1) on.steps).number number
        ∙ ap (option_map (asked_once_more (session_asked shown (index + 1) on.steps))) on.running)
      where
        viewed : (running : Option Running) (m n : ℕ) → m ≡ n → option_map running_view (option_map (asked_more (index + 1 - 1) m) running)
            ≡ option_map (asked_once_more (record { unit = index + 1; number = n })) (option_map running_view running)
        viewed None m n same = refl
        viewed (Some r) m n same = rw (same, back) refl
