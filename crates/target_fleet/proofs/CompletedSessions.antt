-- A session of a fleet's unit that is completed stays so, whatever happens after.
use Rattle.std.proofs.Common.{◌≡◌, ℕ, zero, suc, Bool, true, false, cond, List, [], ◌∷◌, ◌++◌, reverse, Option, Some, None, refl, sym, ap, subst, ◌∙◌}
use Rattle.std.specs.Prelude.{◌==◌}
use Rattle.std.proofs.lemmas.List.{append-nil, reverse-append}
use Rattle.exchange_trace.specs.Logs.{Event, event_for, loader_log, logged}
use Rattle.exchange_trace.specs.Posts.{posted_in}
use Rattle.exchange_trace.specs.Steps.{Step}
use Rattle.exchange_trace.specs.declared.trace.Side.TheVariants as sides
use Rattle.fleet_trace.specs.FleetTraces.{StepOfFleet, Of_unit, Of_batch, Of_all, steps_of_unit}
use Rattle.loader_machine.specs.Machine.{all_sessions, media_of, open_session, open_sessions}
use Rattle.media_check.specs.Sets.{SetView}
use Rattle.session_rules.specs.Loader.{Advances, Begins, Begins_over, Continues, EndedSession, Ends, LoaderChange, LoaderSession, LoaderView, ended_by}
use Rattle.session_rules.specs.LoaderLog.{LoaderReading, loader_reading, loader_reading_changed, session_view}
use Rattle.session_rules.specs.MediaFiles.{Media}
use Rattle.session_rules.specs.declared.outcome.Outcome.{Outcome}
use Rattle.session_rules.specs.declared.outcome.Outcome.TheVariants as outcomes
use Rattle.transfer_end.specs.Readings.{Reading}
use Rattle.upload_replay.specs.Drives.{loader_by}
use Rattle.target_fleet.specs.AskedUploads.{AskedUpload, IsCompletedAfter, outcome_at}

-- ---- what is over stays so

-- more sessions are over, the newest first
pub record MoreOver (old new : List EndedSession) : Type 0 where
  pub more : List EndedSession
  pub is : new ≡ more ++ old

none_more : (ended : List EndedSession) → MoreOver ended ended
none_more ended = record { more = []; is = refl }

live_over : (outcome : Outcome) (bytes : List ℕ) (live : Option LoaderSession) (ended : List EndedSession) → MoreOver ended (ended_by outcome bytes live ended)
live_over outcome bytes None ended = none_more ended
live_over outcome bytes (Some s) ended = record { more = ended_by outcome bytes (Some s) []; is = refl }

two_over : (session : EndedSession) (old new : List EndedSession) → MoreOver old new → MoreOver old (session ∷ new)
two_over session old new over = record { more = session ∷ over.more; is = ap (λ (all : List EndedSession). session ∷ all) over.is }

changed_over : (end : Reading) (r : LoaderReading) (change : LoaderChange) → MoreOver r.ended (loader_reading_changed end r change).ended
changed_over end r (Continues more) = none_more r.ended
changed_over end r Advances = none_more r.ended
changed_over end r (Ends outcome more) = live_over outcome more (session_view r.end r.live) r.ended
changed_over end r (Begins s) = live_over outcomes.Replaced [] (session_view r.end r.live) r.ended
changed_over end r (Begins_over kind outcome) =
    two_over (record { kind = kind; outcome = outcome; listed = None }) r.ended (ended_by outcomes.Replaced [] (session_view r.end r.live) r.ended)
    (live_over outcomes.Replaced [] (session_view r.end r.live) r.ended)

logged_over : (media : Media) (event : Option Event) (log : List Event) → MoreOver (loader_reading media log).ended (loader_reading media (logged event log)).ended
logged_over media None log = none_more (loader_reading media log).ended
logged_over media (Some e) log = changed_over _ (loader_reading media log) _

step_over : (media : Media) (s : Step) (steps : List Step) → MoreOver (loader_by media steps).ended (loader_by media (s ∷ steps)).ended
step_over media s steps = logged_over media (event_for sides.Loader (posted_in steps) s.given) (loader_log steps)

-- ---- a completed one among them

was_there : (sessions : List EndedSession) (live : LoaderSession) (k : ℕ) → outcome_at (sessions ++ open_session live ∷ []) k ≡ Some outcomes.Completed → outcome_at sessions k ≡ Some outcomes.Completed
was_there [] live zero e = absurd cc
was_there [] live (suc k) e = absurd cc
was_there (x ∷ sessions) live zero e = e
was_there (x ∷ sessions) live (suc k) e = was_there sessions live k e

is_there : (sessions more : List EndedSession) (k : ℕ) → outcome_at sessions k ≡ Some outcomes.Completed → outcome_at (sessions ++ more) k ≡ Some outcomes.Completed
is_there [] more k e = absurd cc
is_there (x ∷ sessions) more zero e = e
is_there (x ∷ sessions) more (suc k) e = is_there sessions more k e

is_over : (ended : List EndedSession) (live : Option LoaderSession) (k : ℕ) → outcome_at (reverse ended ++ open_sessions live) k ≡ Some outcomes.Completed → outcome_at (reverse ended) k ≡ Some outcomes.Completed
is_over ended None k e = ap (λ (all : List EndedSession). outcome_at all k) (sym (append-nil (reverse ended))) ∙ e
is_over ended (Some live) k e = was_there (reverse ended) live k e

stays : (v w : LoaderView) (k : ℕ) → MoreOver v.ended w.ended → outcome_at (all_sessions v) k ≡ Some outcomes.Completed → outcome_at (all_sessions w) k ≡ Some outcomes.Completed
stays v w k over e =
    let there = is_there (reverse v.ended) (reverse over.more) k (is_over v.ended v.live k e) in
    let same : reverse v.ended ++ reverse over.more ≡ reverse w.ended = sym (ap (λ (all : List EndedSession). reverse all) over.is ∙ reverse-append over.more v.ended) in
    is_there (reverse w.ended) (open_sessions w.live) k (subst (λ (all : List EndedSession). outcome_at all k ≡ Some outcomes.Completed) same there)

step_stays : (media : Media) (s : Step) (steps : List Step) (k : ℕ) → outcome_at (all_sessions (loader_by media steps)) k ≡ Some outcomes.Completed
    → outcome_at (all_sessions (loader_by media (s ∷ steps))) k ≡ Some outcomes.Completed
step_stays media s steps k e = stays (loader_by media steps) (loader_by media (s ∷ steps)) k (step_over media s steps) e

own_stays : (media : Media) (own : Bool) (s : Step) (steps : List Step) (k : ℕ) → outcome_at (all_sessions (loader_by media steps)) k ≡ Some outcomes.Completed
    → outcome_at (all_sessions (loader_by media (cond own (s ∷ steps) steps))) k ≡ Some outcomes.Completed
own_stays media true s steps k e = step_stays media s steps k e
own_stays media false s steps k e = e

-- with one step more of the fleet
pub stays_completed : (shown : SetView) (s : StepOfFleet) (steps : List StepOfFleet) (upload : AskedUpload) → IsCompletedAfter shown steps upload → IsCompletedAfter shown (s ∷ steps) upload
stays_completed shown (Of_unit asked whose s) steps upload e = own_stays (media_of shown) (whose == upload.unit) s (steps_of_unit upload.unit steps) _ e
stays_completed shown (Of_batch part) steps upload e = e
stays_completed shown Of_all steps upload e = e
