-- What a turn does, arm by arm: what its unit did, or the batch that began, keeps what holds of a fleet that goes on.
use Rattle.std.proofs.Common.{◌≡◌, ◌⊎◌, inl, inr, ℕ, ◌+◌, ◌-◌, ◌<◌, ◌≤◌, List, Bool, true, false, Some, length, arith, refl, sym, ap, subst, ◌∙◌}
use Rattle.std.specs.Prelude.{option_map, is_some}
use Rattle.accept_rules.specs.declared.kept.KeptLoad.{KeptLoad}
use Rattle.batch_lists.specs.declared.batch.BatchTarget.{BatchTarget}
use Rattle.disk_model.specs.Image.{Image}
use Rattle.disk_model.specs.State.{DiskState}
use Rattle.exchange_trace.specs.Happenings.{HappeningView}
use Rattle.fleet_link.specs.FleetLinks.{FleetLinkState, GivesInFleet, with_start_at}
use Rattle.fleet_trace.specs.FleetTraces.{At_unit, Next_asked}
use Rattle.link_net.specs.declared.link.Waits.{Waits}
use Rattle.load_header.specs.declared.header.LoadHeader.{LoadHeader}
use Rattle.media_check.specs.Sets.{SetView}
use Rattle.target_fleet.specs.Asking.{next_of_running}
use Rattle.target_fleet.specs.AskingCalls.{places_in, running_view, sessions_in, upload_at}
use Rattle.target_fleet.specs.AskedTurns.{AreBatchesReady, AsksUnit, LeavesAsked, LeavesStep, StepsFleet, upload_of}
use Rattle.target_fleet.specs.Leaves.{AllLeave}
use Rattle.target_fleet.specs.Runs.{FleetGoesOn, FleetState, IsFleetReady}
use Rattle.target_fleet.specs.Waits.{TellWaits}
use Rattle.target_fleet.proofs.BatchTurns.{all_asked, asked_is_ready, batches_stay, running_then}
use Rattle.target_fleet.proofs.FleetTurns.{acts_armed, given_comes, given_follows, goes_on_then, start_comes, start_follows}
use Rattle.target_fleet.proofs.Indexed.{set_length}
use Rattle.target_fleet.proofs.TurnsLeave.{all_leave_given, all_leave_step, ready_then}

module _ {R K : Type 0} (state : K → DiskState) (may_say : R → LoadHeader → List KeptLoad → Bool → Type 0) (shown : SetView) (link given : FleetLinkState) (fleet after : FleetState R) (disks disks_then : List K)
    (ready : IsFleetReady state link fleet disks) (batches : AreBatchesReady shown fleet) (waits : List Waits) (may_ask : Bool) (link_then : FleetLinkState) where
  -- ---- a unit steps as the link gave

  module _ (unit : ℕ) (h : HappeningView) (gives : GivesInFleet link given waits may_ask (At_unit unit h)) (done : StepsFleet state may_say false unit h fleet after given link_then disks disks_then) where
    pub unit_ready : IsFleetReady state link_then after disks_then
    unit_ready = subst (λ (l : FleetLinkState). IsFleetReady state l after disks_then) (sym done.linked)
        (ready_then state link fleet disks ready given false unit gives.unit.0 gives.unit.1 h (given_comes unit h link given waits may_ask gives) may_say done.posts after.drivers disks_then done.step after refl done.order)

    pub unit_batches : AreBatchesReady shown after
    unit_batches = batches_stay shown fleet after done.running (ap length done.step.unit.kept ∙ set_length fleet.drivers (unit - 1) done.step.after) batches

    module _ (rule : R) (began : FleetLinkState) (first : List K) (on : FleetGoesOn state may_say rule shown false began link fleet first disks) (many : length waits ≡ link.units) (told : TellWaits (length fleet.drivers) fleet.drivers waits)
        (may : may_ask ≡ is_some (next_of_running shown (places_in fleet.drivers) (sessions_in fleet.drivers) (option_map running_view fleet.running))) where
      pub unit_goes_on : FleetGoesOn state may_say rule shown false began link_then after first disks_then
      unit_goes_on = subst (λ (l : FleetLinkState). FleetGoesOn state may_say rule shown false began l after first disks_then) (sym done.linked)
          (goes_on_then state may_say rule shown began link fleet first disks on ready false unit gives.unit.0 h given (given_comes unit h link given waits may_ask gives)
          (given_follows state may_say rule shown began link fleet first disks on ready waits many told may_ask may batches.last given unit h gives)
          done.posts after disks_then done.step (acts_armed state may_say (unit - 1) h done.posts fleet.drivers after.drivers disks disks_then done.acts done.step)
          done.order (ap (option_map running_view) done.running ∙ on.running) done.ended on.asked)

  -- ---- an upload is asked

  module _ (index : ℕ) (target : BatchTarget) (within : index < length fleet.drivers)
      (found : next_of_running shown (places_in fleet.drivers) (sessions_in fleet.drivers) (option_map running_view fleet.running) ≡ Some (upload_at index target))
      (gives : GivesInFleet link given waits may_ask Next_asked) (done : AsksUnit state may_say (index + 1) (upload_of target) fleet after given link_then disks disks_then) where
    above : 1 ≤ index + 1
    above = omega arith

    below : index + 1 ≤ link.units
    below = omega (arith, within, ready.drivers)

    pub asked_ready : IsFleetReady state link_then after disks_then
    asked_ready = subst (λ (l : FleetLinkState). IsFleetReady state l after disks_then) (sym done.linked)
        (ready_then state link fleet disks ready (with_start_at given (index + 1) (upload_of target)) true (index + 1) above below (upload_of target) (start_comes (index + 1) (upload_of target) link given waits may_ask gives)
        may_say done.posts after.drivers disks_then done.step after refl done.order)

    pub asked_batches : AreBatchesReady shown after
    asked_batches =
        let back : index + 1 - 1 ≡ index = omega arith in
        asked_is_ready shown fleet after (index + 1 - 1) _ (upload_at index target) done.running (ap length done.step.unit.kept ∙ set_length fleet.drivers (index + 1 - 1) done.step.after) (rw back within) found batches

    module _ (rule : R) (began : FleetLinkState) (first : List K) (on : FleetGoesOn state may_say rule shown false began link fleet first disks) (many : length waits ≡ link.units) (told : TellWaits (length fleet.drivers) fleet.drivers waits)
        (may : may_ask ≡ is_some (next_of_running shown (places_in fleet.drivers) (sessions_in fleet.drivers) (option_map running_view fleet.running))) where
      pub asked_goes_on : FleetGoesOn state may_say rule shown false began link_then after first disks_then
      asked_goes_on = subst (λ (l : FleetLinkState). FleetGoesOn state may_say rule shown false began l after first disks_then) (sym done.linked)
          (goes_on_then state may_say rule shown began link fleet first disks on ready true (index + 1) above (upload_of target) (with_start_at given (index + 1) (upload_of target)) (start_comes (index + 1) (upload_of target) link given waits may_ask gives)
          (start_follows state may_say rule shown began link fleet first disks on ready waits many told may_ask may batches.last given (index + 1) (upload_of target) tt gives)
          done.posts after disks_then done.step (acts_armed state may_say (index + 1 - 1) (upload_of target) done.posts fleet.drivers after.drivers disks disks_then done.acts done.step)
          done.order (running_then state may_say rule shown began link fleet first disks on ready batches.last index target found done.posts after disks_then done.step done.running) done.ended
          (all_asked state may_say rule shown began link fleet first disks on ready batches.last index target found done.posts after disks_then done.step))

-- ---- where memory runs out

module _ {R K : Type 0} (state : K → DiskState) (may_say : R → LoadHeader → List KeptLoad → Bool → Type 0) (rule : R) (shown : SetView)
    (wider : (k : K) (s t u v : ℕ) (image : Image) → s ≤ t → u ≤ v → (state k).between t u image → (state k).between s v image)
    (splits : (k : K) (t u v : ℕ) (image : Image) → t ≤ u → u ≤ v → (state k).between t v image → (state k).between t u image ⊎ (state k).between u v image)
    (only : (k : K) (t u : ℕ) (image : Image) → (state k).clock ≤ t → (state k).between t u image → (state k).now image)
    (began link given : FleetLinkState) (fleet : FleetState R) (first disks : List K) (on : FleetGoesOn state may_say rule shown false began link fleet first disks) (ready : IsFleetReady state link fleet disks)
    (waits : List Waits) (may_ask : Bool) (link_then : FleetLinkState) (disks_then : List K) where
  pub unit_leaves : (unit : ℕ) (h : HappeningView) → GivesInFleet link given waits may_ask (At_unit unit h) → LeavesStep state may_say unit h fleet.drivers given link_then disks disks_then
      → AllLeave state may_say rule shown began link_then first disks_then
  unit_leaves unit h gives left =
      all_leave_step state may_say rule shown wider splits only began link fleet first disks on ready given false unit gives.unit.0 h (given_comes unit h link given waits may_ask gives) link_then disks_then left

  pub asked_leaves : (index : ℕ) (h : HappeningView) → GivesInFleet link given waits may_ask Next_asked → LeavesAsked state may_say (index + 1) h fleet given link_then disks disks_then
      → AllLeave state may_say rule shown began link_then first disks_then
  asked_leaves index h gives (inl (same, disks_same)) = rw (same, disks_same)
      (all_leave_given state may_say rule shown wider splits only began link fleet first disks on ready given gives.posted gives.given)
  asked_leaves index h gives (inr left) =
      all_leave_step state may_say rule shown wider splits only began link fleet first disks on ready (with_start_at given (index + 1) h) true (index + 1) (let above : 1 ≤ index + 1 = omega arith in above) h
      (start_comes (index + 1) h link given waits may_ask gives) link_then disks_then left
