-- What each batch of a fleet's run asked, upload by upload (docs/EXCHANGE.md, "Batches").
use Rattle.std.specs.Prelude.{◌≡◌, ℕ, ◌-◌, ◌<◌, List, [], ◌∷◌, ◌++◌, length, map, reverse, take, true, false, Option, Some, None, option_map, slice_get}
use Rattle.batch_lists.specs.Batch.{BatchTargetView, BatchView}
use Rattle.exchange_trace.specs.Happenings.{HappeningView, Upload_started}
use Rattle.fleet_trace.specs.FleetTraces.{StepOfFleet, Of_unit, Of_batch, Of_all}
use Rattle.media_check.specs.Sets.{SetView, batch_of}
use Rattle.session_rules.specs.Loader.{EndedSession}
use Rattle.session_rules.specs.declared.outcome.Outcome.{Outcome}
use Rattle.session_rules.specs.declared.outcome.Outcome.TheVariants as outcomes
use Rattle.target_fleet.specs.Asking.{UnitPlace, ends_of, least_unit_from, sessions_after}
use Rattle.target_fleet.specs.declared.outcome.BatchEnd.{BatchEnd}
use Rattle.target_fleet.specs.declared.outcome.BatchOutcome.TheVariants as ends

-- ---- what was asked

-- an upload that was asked: its unit, what happened there as it started, and the steps before that
pub record AskedUpload : Type 0 where
  pub unit : ℕ
  pub started : HappeningView
  pub before : List StepOfFleet

-- a batch that began, and the uploads that it asked, in their order
pub record AskedBatch : Type 0 where
  pub part : List ℕ
  pub uploads : List AskedUpload

-- the newest batch asked this one more
abbrev pub with_upload : AskedUpload → List AskedBatch → List AskedBatch
with_upload upload [] = []
with_upload upload (batch ∷ older) = record { part = batch.part; uploads = batch.uploads ++ upload ∷ [] } ∷ older

-- the batches of these steps, the newest first
abbrev pub newest_batches : List StepOfFleet → List AskedBatch
newest_batches [] = []
newest_batches (Of_unit true unit s ∷ earlier) = with_upload (record { unit = unit; started = s.given; before = earlier }) (newest_batches earlier)
newest_batches (Of_unit false unit s ∷ earlier) = newest_batches earlier
newest_batches (Of_batch part ∷ earlier) = record { part = part; uploads = [] } ∷ newest_batches earlier
newest_batches (Of_all ∷ earlier) = newest_batches earlier

-- The batches of these steps, in their order, each with the uploads that it asked.
abbrev pub asked_batches : List StepOfFleet → List AskedBatch
asked_batches steps = reverse (newest_batches steps)

-- ---- its session

abbrev pub outcome_at : List EndedSession → (number : ℕ) → Option Outcome
outcome_at sessions number = option_map (λ (session : EndedSession). session.outcome) (slice_get sessions number)

-- The session of an upload is the one that comes after those that its unit had before it. It is completed after these steps.
abbrev pub IsCompletedAfter : SetView → List StepOfFleet → AskedUpload → Type 0
IsCompletedAfter shown steps upload =
    outcome_at (sessions_after shown steps upload.unit) (length (sessions_after shown upload.before upload.unit)) ≡ Some outcomes.Completed

-- each of the first ones of these is
abbrev pub AreCompletedBelow : SetView → List StepOfFleet → (count : ℕ) → List AskedUpload → Type 0
AreCompletedBelow shown steps count uploads = (k : ℕ) (upload : AskedUpload) → k < count → slice_get uploads k ≡ Some upload → IsCompletedAfter shown steps upload

-- Each was asked where the sessions of all before it are completed.
abbrev pub AreAskedInTurn : SetView → List AskedUpload → Type 0
AreAskedInTurn shown uploads = (k : ℕ) (upload : AskedUpload) → slice_get uploads k ≡ Some upload → AreCompletedBelow shown upload.before k uploads

-- ---- the targets of a batch

abbrev pub targets_in : Option BatchView → List BatchTargetView
targets_in None = []
targets_in (Some batch) = batch.targets

-- those of the batch with this part number; none where it isn't on the media
abbrev pub targets_of : SetView → (part : List ℕ) → List BatchTargetView
targets_of shown part = targets_in (batch_of shown part)

-- the upload to a target of exactly its parts
abbrev pub upload_to_target : BatchTargetView → HappeningView
upload_to_target t = Upload_started t.hw t.pos t.parts

-- the least unit that is where a target is
abbrev pub unit_of_target : List UnitPlace → BatchTargetView → Option ℕ
unit_of_target places t = least_unit_from 1 t.hw t.pos places

-- ---- what a batch asked

-- The uploads that a batch asked are those to its first targets, in their order, each of exactly the target's parts, and at
-- the least unit that is where the target is. Each was asked where the sessions of all before it are completed; so after all
-- these steps those of all but the last are. What the batch came to has their number, and that of its targets.
pub record AsksFirstTargets (shown : SetView) (places : List UnitPlace) (steps : List StepOfFleet) (batch : AskedBatch) (end : BatchEnd) : Type 0 where
  pub part : end.part ≡ batch.part
  pub asked : end.asked ≡ length batch.uploads
  pub of : end.of ≡ length (targets_of shown batch.part)
  pub uploads : map (λ (upload : AskedUpload). upload.started) batch.uploads ≡ map upload_to_target (take (length batch.uploads) (targets_of shown batch.part))
  pub units : map (λ (upload : AskedUpload). Some upload.unit) batch.uploads ≡ map (unit_of_target places) (take (length batch.uploads) (targets_of shown batch.part))
  pub in_turn : AreAskedInTurn shown batch.uploads
  pub former : AreCompletedBelow shown steps (length batch.uploads - 1) batch.uploads

-- All targets of a batch were asked, and the sessions of all are completed after these steps.
pub record CompletesTargets (shown : SetView) (steps : List StepOfFleet) (batch : AskedBatch) : Type 0 where
  pub all : map (λ (upload : AskedUpload). upload.started) batch.uploads ≡ map upload_to_target (targets_of shown batch.part)
  pub completed : AreCompletedBelow shown steps (length batch.uploads) batch.uploads

-- ---- all batches

-- each batch asked the uploads to its first targets
abbrev pub AllAskFirstTargets : SetView → List UnitPlace → List StepOfFleet → Type 0
AllAskFirstTargets shown places steps =
    (i : ℕ) (batch : AskedBatch) (end : BatchEnd) → slice_get (asked_batches steps) i ≡ Some batch → slice_get (ends_of shown places steps) i ≡ Some end
    → AsksFirstTargets shown places steps batch end

-- a batch that came to be completed asked all its targets, and all are completed
abbrev pub CompletedAskedAll : SetView → List UnitPlace → List StepOfFleet → Type 0
CompletedAskedAll shown places steps =
    (i : ℕ) (batch : AskedBatch) (end : BatchEnd) → slice_get (asked_batches steps) i ≡ Some batch → slice_get (ends_of shown places steps) i ≡ Some end
    → end.end ≡ ends.Completed → CompletesTargets shown steps batch
