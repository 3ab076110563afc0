-- The batches of a fleet's run: which upload is asked next, and what each batch came to (docs/EXCHANGE.md, "Batches").
use Rattle.std.specs.Prelude.{◌≡◌, ℕ, ◌+◌, List, [], ◌∷◌, ◌++◌, length, nat_lt, ◌&&◌, Bool, true, false, is_some, Option, Some, None, option_map, slice_get, if◌then◌else◌, ⊤}
use Rattle.batch_lists.specs.Batch.{BatchTargetView, BatchView}
use Rattle.disk_layout.specs.declared.identity.Identity.{Identity}
use Rattle.exchange_trace.specs.Happenings.{HappeningView, Upload_started}
use Rattle.fleet_trace.specs.FleetTraces.{StepOfFleet, Of_unit, Of_batch, Of_all, steps_of_unit}
use Rattle.load_base.specs.Bytes.{same_bytes}
use Rattle.loader_machine.specs.Machine.{all_sessions, media_of}
use Rattle.media_check.specs.Sets.{SetView, batch_of}
use Rattle.session_rules.specs.Loader.{EndedSession}
use Rattle.session_rules.specs.declared.outcome.Outcome.{Outcome}
use Rattle.session_rules.specs.declared.outcome.Outcome.TheVariants as outcomes
use Rattle.upload_replay.specs.Drives.{loader_by}
use Rattle.target_fleet.specs.declared.outcome.BatchEnd.{BatchEnd}
use Rattle.target_fleet.specs.declared.outcome.BatchOutcome.{BatchOutcome}
use Rattle.target_fleet.specs.declared.outcome.BatchOutcome.TheVariants as ends

-- ---- units

-- a unit's hardware and position
pub record UnitPlace : Type 0 where
  pub hw : List ℕ
  pub pos : List ℕ

abbrev pub place_of : Identity → UnitPlace
place_of identity = record { hw = identity.hw; pos = identity.pos }

abbrev pub is_at : (hw pos : List ℕ) → UnitPlace → Bool
is_at hw pos place = same_bytes place.hw hw && same_bytes place.pos pos

-- the least unit there, of these from this number on
abbrev pub least_unit_from : (number : ℕ) → (hw pos : List ℕ) → List UnitPlace → Option ℕ
least_unit_from number hw pos [] = None
least_unit_from number hw pos (place ∷ places) =
    if is_at hw pos place then Some number else least_unit_from (number + 1) hw pos places

-- ---- the running batch

-- the session of an upload that was asked: its unit, and which of the unit's sessions it is, from 0
pub record AskedSession : Type 0 where
  pub unit : ℕ
  pub number : ℕ

-- a batch, of which so many uploads were asked; and the session of the last of these
pub record RunningBatch : Type 0 where
  pub part : List ℕ
  pub asked : ℕ
  pub last : Option AskedSession

abbrev pub begun_batch : (part : List ℕ) → RunningBatch
begun_batch part = record { part = part; asked = 0; last = None }

abbrev pub asked_once_more : AskedSession → RunningBatch → RunningBatch
asked_once_more session batch = record { part = batch.part; asked = batch.asked + 1; last = Some session }

-- the sessions of a unit after these steps, the oldest first
abbrev pub sessions_after : SetView → List StepOfFleet → (unit : ℕ) → List EndedSession
sessions_after shown steps unit = all_sessions (loader_by (media_of shown) (steps_of_unit unit steps))

-- The upload that a step starts has the session that comes after those that its unit has before it.
abbrev pub session_asked : SetView → (unit : ℕ) → (earlier : List StepOfFleet) → AskedSession
session_asked shown unit earlier = record { unit = unit; number = length (sessions_after shown earlier unit) }

-- The running batch after these steps, if there is one.
abbrev pub running_after : SetView → List StepOfFleet → Option RunningBatch
running_after shown [] = None
running_after shown (Of_unit true unit s ∷ earlier) =
    option_map (asked_once_more (session_asked shown unit earlier)) (running_after shown earlier)
running_after shown (Of_unit false unit s ∷ earlier) = running_after shown earlier
running_after shown (Of_batch part ∷ earlier) = Some (begun_batch part)
running_after shown (Of_all ∷ earlier) = running_after shown earlier

-- ---- the session asked last

pub data LastAsked : Type 0 where
  None_asked : LastAsked
  Last_completed : LastAsked
  Last_open : LastAsked
  Last_otherwise : LastAsked  -- it came to something else

abbrev pub came_to : Outcome → LastAsked
came_to outcomes.Completed = Last_completed
came_to outcomes.Open = Last_open
came_to outcome = Last_otherwise

abbrev pub session_came_to : Option EndedSession → LastAsked
session_came_to None = Last_otherwise
session_came_to (Some session) = came_to session.outcome

-- what became of it, where units have these sessions
abbrev pub became_of : (sessions : (unit : ℕ) → List EndedSession) → Option AskedSession → LastAsked
became_of sessions None = None_asked
became_of sessions (Some last) = session_came_to (slice_get (sessions last.unit) last.number)

-- ---- what is asked next

-- a batch may go on where a target is left, and either no upload was asked or the session asked last is completed
abbrev pub may_go_on : (asked targets : ℕ) → LastAsked → Bool
may_go_on asked targets None_asked = nat_lt asked targets
may_go_on asked targets Last_completed = nat_lt asked targets
may_go_on asked targets Last_open = false
may_go_on asked targets Last_otherwise = false

-- the upload of these parts to the least unit with this hardware and position
pub record UnitUpload : Type 0 where
  pub unit : ℕ
  pub hw : List ℕ
  pub pos : List ℕ
  pub parts : List (List ℕ)

abbrev pub upload_to : List UnitPlace → Option BatchTargetView → Option UnitUpload
upload_to places None = None
upload_to places (Some t) =
    option_map (λ unit. record { unit = unit; hw = t.hw; pos = t.pos; parts = t.parts }) (least_unit_from 1 t.hw t.pos places)

-- that to the next target of a batch, if it may go on and a unit is there
abbrev pub next_in_batch : List UnitPlace → (asked : ℕ) → LastAsked → Option BatchView → Option UnitUpload
next_in_batch places asked last None = None
next_in_batch places asked last (Some batch) =
    if may_go_on asked (length batch.targets) last then upload_to places (slice_get batch.targets asked) else None

-- that of the running batch, where units have these places and these sessions
abbrev pub next_of_running : SetView → List UnitPlace → (sessions : (unit : ℕ) → List EndedSession) → Option RunningBatch
    → Option UnitUpload
next_of_running shown places sessions None = None
next_of_running shown places sessions (Some running) =
    next_in_batch places running.asked (became_of sessions running.last) (batch_of shown running.part)

-- the upload that is asked next after these steps, if one may be
abbrev pub next_upload : SetView → List UnitPlace → List StepOfFleet → Option UnitUpload
next_upload shown places steps = next_of_running shown places (sessions_after shown steps) (running_after shown steps)

-- Whether an upload may be asked after these steps.
abbrev pub may_ask_after : SetView → List UnitPlace → List StepOfFleet → Bool
may_ask_after shown places steps = is_some (next_upload shown places steps)

-- the step starts this upload, at its unit
abbrev pub IsUploadAt : (unit : ℕ) → HappeningView → Option UnitUpload → Type 0
IsUploadAt unit h None = ⊥
IsUploadAt unit h (Some next) = (unit ≡ next.unit) × (h ≡ Upload_started next.hw next.pos next.parts)

-- Each upload that was asked is the one that came next then. What each batch asked so is told by the law
-- `a_batch_asks_its_first_targets`.
abbrev pub AllAsked : SetView → List UnitPlace → List StepOfFleet → Type 0
AllAsked shown places [] = ⊤
AllAsked shown places (Of_unit true unit s ∷ earlier) =
    IsUploadAt unit s.given (next_upload shown places earlier) × AllAsked shown places earlier
AllAsked shown places (Of_unit false unit s ∷ earlier) = AllAsked shown places earlier
AllAsked shown places (Of_batch part ∷ earlier) = AllAsked shown places earlier
AllAsked shown places (Of_all ∷ earlier) = AllAsked shown places earlier

-- ---- what batches come to

-- where a batch may not go on: all uploads were asked and are completed (the law `a_completed_batch_asked_all`), or the
-- session asked last is live or came to something else. A batch on the media has a target, so one that asked none may go on
abbrev pub ended_by : LastAsked → BatchOutcome
ended_by None_asked = ends.Completed
ended_by Last_completed = ends.Completed
ended_by Last_open = ends.Open
ended_by Last_otherwise = ends.Stopped

abbrev pub outcome_in : List UnitPlace → (asked : ℕ) → LastAsked → BatchView → BatchOutcome
outcome_in places asked last batch =
    if may_go_on asked (length batch.targets) last
    then (if is_some (next_in_batch places asked last (Some batch)) then ends.Open else ends.NoUnit)
    else ended_by last

-- what a batch came to that isn't on the media, or has these targets
abbrev pub end_in : List UnitPlace → RunningBatch → LastAsked → Option BatchView → BatchEnd
end_in places running last None = record { part = running.part; asked = 0; of = 0; end = ends.NotOnMedia }
end_in places running last (Some batch) =
    record { part = running.part; asked = running.asked; of = length batch.targets; end = outcome_in places running.asked last batch }

abbrev pub end_of_running : SetView → List UnitPlace → (sessions : (unit : ℕ) → List EndedSession) → RunningBatch → BatchEnd
end_of_running shown places sessions running =
    end_in places running (became_of sessions running.last) (batch_of shown running.part)

-- of the running batch, if there is one
abbrev pub with_end_of : SetView → List UnitPlace → (sessions : (unit : ℕ) → List EndedSession) → Option RunningBatch → List BatchEnd
    → List BatchEnd
with_end_of shown places sessions None ended = ended
with_end_of shown places sessions (Some running) ended = ended ++ end_of_running shown places sessions running ∷ []

-- what the batches before the running one came to: each ended with what it had come to as the next one began
abbrev pub ended_before : SetView → List UnitPlace → List StepOfFleet → List BatchEnd
ended_before shown places [] = []
ended_before shown places (Of_unit asked unit s ∷ earlier) = ended_before shown places earlier
ended_before shown places (Of_batch part ∷ earlier) =
    with_end_of shown places (sessions_after shown earlier) (running_after shown earlier) (ended_before shown places earlier)
ended_before shown places (Of_all ∷ earlier) = ended_before shown places earlier

-- What each batch of these steps came to, in order.
abbrev pub ends_of : SetView → List UnitPlace → List StepOfFleet → List BatchEnd
ends_of shown places steps =
    with_end_of shown places (sessions_after shown steps) (running_after shown steps) (ended_before shown places steps)
