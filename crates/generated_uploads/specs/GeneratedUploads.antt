-- The upload of a generated set to a target that can take it (docs/PROMISES.md).
use Rattle.std.specs.Prelude.{◌≡◌, ◌⊎◌, ℕ, ◌<◌, ◌≤◌, List, [], ◌∷◌, codes, true, Some, None, ⊤}
use Rattle.std.specs.List.{AllByRecursion}
use Rattle.load_base.specs.Config.{LoadView}
use Rattle.load_header.specs.Header.{HeaderView}
use Rattle.disk_layout.specs.Holds.{StandingView}
use Rattle.disk_layout.specs.declared.identity.Identity.{Identity}
use Rattle.exchange_trace.specs.Happenings.{Delivered, Ended, HappeningView, Ticked, Upload_started}
use Rattle.exchange_trace.specs.Lines.{Finish, Line, Upload}
use Rattle.exchange_trace.specs.Steps.{Step}
use Rattle.accept_rules.specs.declared.kept.KeptLoad.{KeptLoad}
use Rattle.accept_rules.specs.Permissions.{AcceptsPermitted, Grants}
use Rattle.media_check.specs.Sets.{SetView}
use Rattle.loader_machine.specs.Machine.{all_sessions, media_of}
use Rattle.session_rules.specs.Loader.{EndedSession}
use Rattle.session_rules.specs.LoaderLog.{loader_view}
use Rattle.session_rules.specs.declared.outcome.Outcome.TheVariants.{Completed}
use Rattle.session_rules.specs.declared.outcome.SessionKind.TheVariants as kinds
use Rattle.replay_rules.specs.BothEnds.{Setting, loader_at, target_at}
use Rattle.replay_rules.specs.Histories.{active_by}
use Rattle.replay_rules.specs.Promises.{NoneGoesDown}
use Rattle.replay_rules.specs.Runs.{TraceFollows}
use Rattle.run_promises.specs.Listing.{StandingFits}
use Rattle.run_promises.specs.Promises.{IsWholeRun}
use Rattle.generated_uploads.specs.GeneratedMedia.{IsGeneratedSet, uploaded_load, generated_part}

-- the lines `upload HW POS ABC41-0000-0001`, for this target, and `finish`
abbrev pub trial_script : Identity → List Line
trial_script id = Upload id.hw id.pos (generated_part ∷ []) ∷ Finish ∷ []

-- a load that isn't kept beside the generated one: it has no type id, or the same one
abbrev pub GivesWay : LoadView → Type 0
GivesWay l = (l.type_id ≡ None) ⊎ (l.type_id ≡ Some 1)

-- The target can take the generated set: it is of hardware HW1, a bank has room for the load and its manifest, its sequence
-- number isn't the last, and of what is active there no load is kept.
pub record CanTakeGeneratedSet (s : StandingView) : Type 0 where
  pub hardware : s.identity.hw ≡ codes "HW1"
  pub bank : 4194475 ≤ s.identity.bank
  pub sequence : s.sequence < 4294967295
  pub types : AllByRecursion GivesWay s.loads

-- what happens in a run of this script: the upload is started, datagrams are delivered, sides are ticked, and the end
abbrev pub IsOfTrial : HappeningView → Type 0
IsOfTrial (Upload_started hw pos parts) = ⊤
IsOfTrial (Delivered side n) = ⊤
IsOfTrial (Ticked side) = ⊤
IsOfTrial Ended = ⊤
IsOfTrial h = ⊥

-- and nothing else does
abbrev pub OnlyTrialHappens : Type 0
OnlyTrialHappens = (set : Setting) (id : Identity) (steps : List Step) → TraceFollows set (trial_script id) steps → AllByRecursion (λ (s : Step). IsOfTrial s.given) steps

-- A run of this script on the generated set came to its end, at such a target, which didn't go down, and whose interlock
-- accepts each header that it has to, whatever is kept, and none that it may not.
pub record IsGeneratedUpload (number : ℕ) (shown : SetView) (set : Setting) (steps : List Step) : Type 0 where
  pub is_set : IsGeneratedSet number shown
  pub media : set.media ≡ media_of shown
  pub permitted : AcceptsPermitted set.accepts
  pub granted : (h : HeaderView) (kept : List KeptLoad) → Grants h kept → set.accepts h kept ≡ true
  pub fits : StandingFits set.start
  pub can_take : CanTakeGeneratedSet set.start
  pub whole : IsWholeRun set steps
  pub follows : TraceFollows set (trial_script set.start.identity) steps
  pub stays_up : NoneGoesDown steps

-- the only session is an upload that was completed
pub record IsOneUpload (sessions : List EndedSession) : Type 0 where
  pub session : EndedSession
  pub only : sessions ≡ session ∷ []
  pub kind : session.kind ≡ kinds.Upload
  pub outcome : session.outcome ≡ Completed

-- Its one session is completed, and what is active at its end has exactly the generated load.
pub record CompletesUpload (number : ℕ) (set : Setting) (steps : List Step) : Type 0 where
  pub sessions : IsOneUpload (all_sessions (loader_view (loader_at set steps)))
  pub loads : (last : StandingView) → last ≡ active_by (target_at set steps) (Some last) → last.loads ≡ uploaded_load number ∷ []

-- So it is of each such run.
abbrev pub GeneratedUploadsComplete : Type 0
GeneratedUploadsComplete = (number : ℕ) (shown : SetView) (set : Setting) (steps : List Step) → IsGeneratedUpload number shown set steps → CompletesUpload number set steps
