-- How a run ends that uploads the generated set to a target that can take it.
use Rattle.std.proofs.Common.{◌≡◌, ◌⊎◌, inl, inr, ℕ, Bool, true, false, not, List, [], ◌∷◌, Some, refl, sym, subst, arith}
use Rattle.std.specs.Prelude.{All, ◌&&◌, ◌==◌}
use Rattle.std.specs.List.{AllByRecursion}
use Rattle.std.proofs.lemmas.Bool.{ne_eqb}
use Rattle.std.proofs.lemmas.List.Elements.{All-cons, All-nil}
use Rattle.load_header.specs.Header.{HeaderView}
use Rattle.disk_layout.specs.Holds.{StandingView}
use Rattle.disk_layout.specs.Identity.{HasIdentity, identity}
use Rattle.disk_layout.specs.declared.fault.RecoverFault.{RecoverFault}
use Rattle.disk_layout.specs.declared.identity.Identity.{Identity}
use Rattle.field_grammar.proofs.ExactLemmas.{one_value}
use Rattle.exchange_trace.specs.Happenings.{Delivered, Ended, HappeningView, Ticked, Upload_started}
use Rattle.exchange_trace.specs.Lines.{Line}
use Rattle.exchange_trace.specs.Steps.{Step, steps_of}
use Rattle.accept_rules.specs.declared.kept.KeptLoad.{KeptLoad}
use Rattle.accept_rules.specs.Permissions.{Grants, keeps_part, permits}
use Rattle.media_check.specs.Sets.{SetView}
use Rattle.session_rules.specs.Loader.{EndedSession}
use Rattle.replay_rules.specs.Due.{LeavesPower}
use Rattle.generated_uploads.specs.GeneratedMedia.{IsGeneratedSet, uploaded_load}
use Rattle.generated_uploads.specs.GeneratedUploads.{IsGeneratedUpload, IsOfTrial, IsOneUpload, trial_script}
use Rattle.upload_replay.specs.Endings.{HeldNone, HoldsNone, HoldsSome}
use Rattle.replay_turns.specs.Powers.{disk_stops}
use Rattle.loader_cli.specs.Replays.{HoldsScriptRun, IsAnyRun, IsCompleted, IsScriptRun, LeavesFirstOrGood, RunSeen, RunsScript, RunsTo, StatusOfRun, setting_of, told_as}
use Rattle.loader_cli.specs.Replays.RunsTo.{disk_failed, ended, no_config, unknown}
use Rattle.loader_cli.specs.Replays.StatusOfRun.{all_completed, not_completed}
use Rattle.loader_cli.specs.Runs.{Run, Says, TriesSound}
use Rattle.loader_cli.specs.Trials.{Trials}
use Rattle.loader_cli.specs.Trials.Trials.{no_target, target_unread, tried}
use Rattle.loader_cli.specs.declared.replay.Telling.TheVariants.{Report}
use Rattle.loader_cli.specs.CommandLaws.{UploadLaws}
use Rattle.loader_cli.proofs.Asked.{says_of_trial}
use Rattle.loader_cli.proofs.Left.{accepts_permitted}
use Rattle.loader_cli.proofs.ReplayRuns.{EndLaws, read_of}
use Rattle.loader_cli.proofs.StaysUp.{none_down, none_stops, rose_once}

-- ---- power is left alone

leaves_power : (h : HappeningView) → IsOfTrial h → LeavesPower h
leaves_power (Upload_started hw pos parts) is = tt
leaves_power (Delivered side n) is = tt
leaves_power (Ticked side) is = tt
leaves_power Ended is = tt
leaves_power h is = absurd is

all_leave : (steps : List Step) → AllByRecursion (λ (s : Step). IsOfTrial s.given) steps → AllByRecursion (λ (s : Step). LeavesPower s.given) steps
all_leave [] all = tt
all_leave (s ∷ steps) (is, before) = (leaves_power s.given is, all_leave steps before)

-- ---- the setting of a run

neither : (a b : Bool) → a ≡ false → b ≡ false → (not a && not b) ≡ true
neither false false e other = refl
neither false true e other = absurd cc
neither true b e other = absurd cc

grants_permitted : (h : HeaderView) (kept : List KeptLoad) → Grants h kept → permits h kept ≡ true
grants_permitted h kept grants = neither (h.type_id == 0) (keeps_part h.part kept) (ne_eqb h.type_id 0 (λ none. omega (arith, grants.least, none))) grants.part

-- ---- the run comes to its end, completed

zero_status : (sessions : List EndedSession) (status : ℕ) → IsOneUpload sessions → StatusOfRun sessions status → status ≡ 0
zero_status sessions status one (all_completed all is) = is
zero_status sessions status one (not_completed some is) = absurd (some (subst (λ (list : List EndedSession). All IsCompleted list) (sym one.only) (All-cons IsCompleted one.session [] one.outcome (All-nil IsCompleted))))

-- what was printed of such a run
pub record WasUploaded (run : Run) (number status : ℕ) (text : List ℕ) : Type 0 where
  pub seen : RunSeen
  pub last : StandingView
  pub is : run.work.handed ≡ Some seen
  pub stands : seen.standing ≡ Some last
  pub one : IsOneUpload seen.sessions
  pub loads : last.loads ≡ uploaded_load number ∷ []
  pub done : status ≡ 0
  pub told : text ≡ told_as Report seen.sessions seen.trace last

module _ (run : Run) (number : ℕ) (is : TriesSound run number) (uploads : UploadLaws) (laws : EndLaws run.work.disk run.work.disk_after) (leaves : LeavesFirstOrGood run.work.disk run.work.disk_after) where
  same_target : (id : Identity) → HasIdentity is.image id → id ≡ is.start.identity
  same_target id has = one_value identity _ id is.start.identity has is.holds.by.outline.has_active.identity

  none_left : (set : SetView) (fault : RecoverFault) → HeldNone fault run.work.disk run.work.disk_after ⊎ (HoldsSome run.work.disk × HoldsNone fault run.work.disk_after) → ⊥
  none_left set fault (inl held) = laws.not_both is.image is.start fault is.holds (held.none is.image is.reads)
  none_left set fault (inr (some, none)) =
      let left = leaves set is.start is.image is.reads is.holds is.rests in
      let (image, read) = read_of run.work.disk_after left.tells in
      let held = left.only.here image (laws.reads_now image read) in
      laws.not_both image held.active fault held.holds (none image read)

  module _ (set : SetView) (is_set : IsGeneratedSet number set) (status : ℕ) (text : List ℕ) where
    abbrev script : List Line
    script = trial_script is.start.identity

    uploaded : (seen : RunSeen) (last : StandingView) → run.work.handed ≡ Some seen → seen.standing ≡ Some last → RunsScript set script run.work.disk run.work.disk_after seen
        → IsAnyRun set run.work.disk run.work.disk_after seen → StatusOfRun seen.sessions status → text ≡ told_as Report seen.sessions seen.trace last → WasUploaded run number status text
    uploaded seen last handed stands runs counts by_sessions told =
        let both = runs is.start is.image is.reads is.holds in
        let ran : IsScriptRun set script is.start seen = both.0 (inr is.rests) in
        let held : HoldsScriptRun set script is.start run.work.disk run.work.disk_after seen = both.1 is.rests in
        let follows = (ran.is.follows script (record { posted = refl; given = refl; plan = refl; follows = tt })).follows in
        let still = none_stops (disk_stops (steps_of seen.trace)) run.work.disk.faults run.work.disk_after.faults is.disk_answers counts.counts.stops in
        let upload : IsGeneratedUpload number set (setting_of set is.start) (steps_of seen.trace) = record {
          is_set = is_set;
          media = refl;
          permitted = accepts_permitted;
          granted = grants_permitted;
          fits = uploads.fits is.image is.start is.holds;
          can_take = is.can_take;
          whole = record { trace = ran.is.trace; honest = ran.is.honest; carries = ran.is.carries };
          follows = follows;
          stays_up = none_down (setting_of set is.start) (steps_of seen.trace) (all_leave (steps_of seen.trace) (uploads.happens (setting_of set is.start) is.start.identity (steps_of seen.trace) follows)) ran.is.trace.noted still;
        } in
        let upload_done = uploads.completes number set (setting_of set is.start) (steps_of seen.trace) upload in
        let one = subst (λ (list : List EndedSession). IsOneUpload list) (sym ran.is.sessions_are) upload_done.sessions in
        record {
          seen = seen;
          last = last;
          is = handed;
          stands = stands;
          one = one;
          loads = upload_done.loads last (sym (held.moments.1.active last stands));
          done = zero_status seen.sessions status one by_sessions;
          told = told;
        }

    came_to_end : RunsTo Report set script run.work.disk run.work.disk_after run.work.handed status text → WasUploaded run number status text
    came_to_end (ended seen standing held handed stands runs holds counts by_sessions tells) = uploaded seen standing handed stands runs counts by_sessions tells
    came_to_end (unknown seen held handed stands runs counts failed stopped _ _) =
        absurd (is.disk_answers (rose_once (disk_stops (steps_of seen.trace)) run.work.disk.faults run.work.disk_after.faults failed))
    came_to_end (disk_failed handed failed stopped reads _ _) = absurd (is.disk_answers failed)
    came_to_end (no_config fault handed other none _ _) = absurd (none_left set fault none)

  by_trial : (status : ℕ) (text : List ℕ) → Trials number run.work.disk run.work.disk_after run.work.handed status text → WasUploaded run number status text
  by_trial status text (tried id set names is_set runs) =
      came_to_end set is_set status text
      (subst (λ (target : Identity). RunsTo Report set (trial_script target) run.work.disk run.work.disk_after run.work.handed status text) (same_target id (names is.image is.reads)) runs)
  by_trial status text (target_unread read rose stopped _ _ _) = absurd (is.disk_answers rose)
  by_trial status text (no_target fault other held _ _ _) = absurd (laws.not_both is.image is.start fault is.holds (held.none is.image is.reads))

  pub was_uploaded : (status : ℕ) (text : List ℕ) → Says run.work status text → WasUploaded run number status text
  was_uploaded status text says = by_trial status text (says_of_trial run.work number status text is.asked says)
