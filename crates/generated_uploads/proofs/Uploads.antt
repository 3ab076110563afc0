-- An upload of the generated set completes.
use Rattle.std.proofs.Common.{◌≡◌, ℕ, List, [], ◌∷◌, ◌++◌, false, Option, Some, None, refl, sym, ap, subst, ◌∙◌}
use Rattle.std.specs.Prelude.{is_some, reverse}
use Rattle.disk_layout.specs.Holds.{StandingView}
use Rattle.exchange_trace.specs.declared.trace.Side.TheVariants as sides
use Rattle.exchange_trace.specs.Happenings.{DatagramView, HappeningView, Upload_started}
use Rattle.exchange_trace.specs.Logs.{Event, event_for, loader_log}
use Rattle.exchange_trace.specs.Posts.{posted_in}
use Rattle.exchange_trace.specs.Steps.{Note, Step}
use Rattle.media_check.specs.Sets.{SetView}
use Rattle.loader_machine.specs.Machine.{open_sessions}
use Rattle.session_rules.specs.Loader.{EndedSession, LoaderSession}
use Rattle.session_rules.specs.LoaderLog.{SessionLog, loader_view, session_view}
use Rattle.session_rules.specs.MediaFiles.{Media}
use Rattle.session_rules.specs.Sessions.{OneSessionAStart, kinds_of, starts_in}
use Rattle.session_rules.specs.TargetLog.{TargetReading, new_target_reading, target_extended}
use Rattle.session_rules.specs.declared.outcome.SessionKind.TheVariants as kinds
use Rattle.transfer_end.specs.Readings.{Reading}
use Rattle.replay_rules.specs.BothEnds.{Is_up, Setting, TargetStanding, loader_at, noted, reached, target_at, waiting}
use Rattle.replay_rules.specs.Histories.{active_by}
use Rattle.replay_rules.specs.Promises.{EndsOnce, HasCompleted, NoneGoesDown}
use Rattle.replay_rules.specs.Runs.{TraceFollows}
use Rattle.session_completion.specs.FinishedRuns.{IsComplete}
use Rattle.run_promises.specs.Promises.{RunsKeepPromises}
use Rattle.generated_uploads.specs.GeneratedMedia.{AreGoodMedia, GeneratedMediaAreGood, generated_part}
use Rattle.generated_uploads.specs.GeneratedUploads.{CompletesUpload, GeneratedUploadsComplete, IsGeneratedUpload, IsOneUpload, trial_script}
use Rattle.generated_uploads.proofs.Starts.{alone, free, left, start}
use Rattle.generated_uploads.proofs.Turns.{Began, began, first_starts, later_finish, one_start}

-- ---- its first step

began_run : (steps : List Step) → EndsOnce steps → Began steps
began_run [] ends = absurd ends
began_run (s ∷ steps) ends = began s steps

same_step : (given given_2 : HappeningView) (posts : List DatagramView) (notes : List Note) → given ≡ given_2 → notes ≡ []
    → (let one : Step = record { given = given; posts = posts; notes = notes } in one) ≡ record { given = given_2; posts = posts; notes = [] }
same_step given given_2 posts notes e f = rw (e, f) refl

up_before : (more : List Step) (first : Step) → NoneGoesDown (more ++ first ∷ []) → NoneGoesDown more × (first.notes ≡ [])
up_before [] first (now, before) = (tt, now)
up_before (s ∷ more) first (now, before) = let rest = up_before more first before in ((now, rest.0), rest.1)

-- ---- the target stays up

reached_up : (set : Setting) (e : Option Event) (r : TargetReading) → (next : TargetReading) × (reached set e (Is_up r) ≡ Is_up next)
reached_up set None r = (r, refl)
reached_up set (Some e) r = (target_extended set.accepts r e, refl)

stays_up : (set : Setting) (steps : List Step) → NoneGoesDown steps → (r : TargetReading) × (target_at set steps ≡ Is_up r)
stays_up set [] up = (new_target_reading 1024 set.start, refl)
stays_up set (s ∷ earlier) (now, before) =
    let (r, is) = stays_up set earlier before in
    let (next, after) = reached_up set (event_for sides.Target (posted_in earlier) s.given) r in (
      next,
      ap (λ (notes : List Note). noted notes (target_at set earlier) (reached set (event_for sides.Target (posted_in earlier) s.given) (target_at set earlier))) now
          ∙ (ap (λ (state : TargetStanding). reached set (event_for sides.Target (posted_in earlier) s.given) state) is ∙ after),
    )

-- ---- its one session

none_live : (r : Reading) (live : Option SessionLog) → is_some live ≡ false → session_view r live ≡ None
none_live r None quiet = refl
none_live r (Some s) quiet = absurd cc

one_upload : (ended : List EndedSession) (live : Option LoaderSession) → kinds_of live ended ≡ kinds.Upload ∷ [] → live ≡ None → HasCompleted kinds.Upload ended → IsOneUpload (reverse ended ++ open_sessions live)
one_upload ended (Some s) are none done = absurd cc
one_upload [] None are none done = absurd done
one_upload (e ∷ []) None are none done = record { session = e; only = refl; kind = done.0; outcome = done.1 }
one_upload (e ∷ f ∷ more) None are none done = absurd cc

-- ---- the whole

module _ (keeps : RunsKeepPromises) (media : GeneratedMediaAreGood) (one : OneSessionAStart) (number : ℕ) (shown : SetView) (set : Setting) (steps : List Step) (is : IsGeneratedUpload number shown set steps) where
  abbrev good : AreGoodMedia number set.media
  good = subst (λ (m : Media). AreGoodMedia number m) (sym is.media) (media number shown is.is_set)

  abbrev run : Began steps
  run = began_run steps is.whole.trace.ends

  abbrev first : Step
  first = run.first

  starts : first.given ≡ Upload_started set.start.identity.hw set.start.identity.pos (generated_part ∷ [])
  starts = first_starts (waiting set) set.start.identity.hw set.start.identity.pos (generated_part ∷ []) run.more first
      (subst (λ (list : List Step). TraceFollows set (trial_script set.start.identity) list) run.split is.follows)

  completes : (last : StandingView) → last ≡ active_by (target_at set steps) (Some last) → IsComplete set (start number set good is.granted is.can_take first.posts ∷ []) (free number set good is.granted is.can_take first.posts) steps last
  completes last active =
      let ups = up_before run.more first (subst NoneGoesDown run.split is.stays_up) in
      let split : steps ≡ run.more ++ start number set good is.granted is.can_take first.posts ∷ [] =
      run.split ∙ ap (λ (s : Step). run.more ++ s ∷ []) (same_step first.given _ first.posts first.notes starts ups.1) in
      (keeps set steps (Some last) is.whole).completes is.permitted good.told is.fits (trial_script set.start.identity) is.follows
      (left number set good is.granted is.can_take first.posts steps run.more split) ups.0 last refl active

  complete : CompletesUpload number set steps
  complete =
      let (r, up) = stays_up set steps is.stays_up in
      let whole = completes r.active (subst (λ (state : TargetStanding). r.active ≡ active_by state (Some r.active)) (sym up) refl) in
      let finish = later_finish (waiting set) set.start.identity.hw set.start.identity.pos (generated_part ∷ []) run.more first (subst (λ (list : List Step). TraceFollows set (trial_script set.start.identity) list) run.split is.follows) in
      let kinds_are = one set.media (loader_log steps) ∙ (ap (λ (list : List Step). starts_in (loader_log list)) run.split ∙ one_start set.start.identity.hw set.start.identity.pos (generated_part ∷ []) run.more first finish starts) in
      record {
        sessions = one_upload (loader_at set steps).ended (loader_view (loader_at set steps)).live kinds_are (none_live (loader_at set steps).end (loader_at set steps).live whole.quiet.loader) whole.outcome;
        loads = λ last active. (completes last active).loads ∙ alone number set good is.granted is.can_take first.posts;
      }

pub uploads_complete : RunsKeepPromises → GeneratedMediaAreGood → OneSessionAStart → GeneratedUploadsComplete
uploads_complete keeps media one number shown set steps is = complete keeps media one number shown set steps is
