-- What is told of a run in which nothing fails, by its inputs.
use Rattle.std.proofs.Common.{◌≡◌, inl, inr, ℕ, zero, suc, ◌+◌, Bool, true, false, List, [], ◌∷◌, ◌++◌, length, Option, Some, None, refl, sym, ap, subst, ◌∙◌, arith}
use Rattle.std.specs.Prelude.{is_some}
use Rattle.std.specs.List.{AllByRecursion, count_by}
use Rattle.std.specs.Option.{ForSome}
use Rattle.load_base.specs.Counts.{Rose}
use Rattle.disk_model.specs.Image.{Image}
use Rattle.disk_model.specs.State.{DiskState}
use Rattle.bank_store.specs.Fits.{LosesOnlyWork}
use Rattle.disk_layout.specs.Holds.{HasDiskFault, HoldsConfig, StandingView}
use Rattle.disk_layout.specs.declared.fault.RecoverFault.{RecoverFault}
use Rattle.listing.specs.Listing.{listing}
use Rattle.exchange_trace.specs.Happenings.{HappeningView, Delivered, Lost, Injected, Ticked, Size_told, Power_cut, Booted, Info_started, Upload_started, Ended}
use Rattle.exchange_trace.specs.Lines.{Line}
use Rattle.exchange_trace.specs.Posts.{first_port_after, posted_in}
use Rattle.exchange_trace.specs.Steps.{Boot_refused, Came_up, Note, Step, Went_down, steps_of}
use Rattle.media_check.specs.Sets.{SetView}
use Rattle.session_rules.specs.Loader.{EndedSession}
use Rattle.replay_rules.specs.BothEnds.{Setting, TargetStanding, target_at}
use Rattle.replay_rules.specs.Due.{AllNoted, IsBooted, MayBeNoted, MayGoDown, is_up}
use Rattle.replay_rules.specs.Histories.{active_at}
use Rattle.fixed_runs.specs.FixedRuns.{ActiveIsFixed, BootsTellActive, IsNoFailure, NeverFails, TellsActive, WholeRunsAreFixed, whole_run}
use Rattle.upload_replay.specs.Endings.{HoldsNone, HoldsSome}
use Rattle.replay_turns.specs.StepsOnDisks.{BootIsTold}
use Rattle.upload_replay.specs.Moments.{AllBootsAreTold}
use Rattle.upload_replay.proofs.OrderLemmas.{posts_by_steps, wire_by_steps}
use Rattle.replay_turns.specs.Powers.{RoseBy, disk_stops, stops_in, stops_noted}
use Rattle.upload_replay.specs.Texts.{datagrams_line, is_post, sessions_from}
use Rattle.loader_cli.specs.FixedOutputs.{GivesRun, IsNoLoss, NeverGoesDown, sessions_by, text_by}
use Rattle.loader_cli.specs.FixedOutputs.GivesRun.{held, unheld}
use Rattle.loader_cli.specs.Replays.{HoldsScriptRun, IsAnyRun, IsScriptRun, LeavesFirstOrGood, RunSeen, RunsScript, RunsTo, StatusOfRun, setting_of, told_as}
use Rattle.loader_cli.specs.Replays.RunsTo.{disk_failed, ended, no_config, unknown}
use Rattle.loader_cli.specs.declared.replay.Telling.{Telling}
use Rattle.loader_cli.specs.declared.replay.Telling.TheVariants as telling

-- ---- the target never fails

none_fail : (notes : List Note) → notes ≡ [] → AllByRecursion IsNoFailure notes
none_fail notes none = subst (AllByRecursion IsNoFailure) (sym none) tt

lost : (notes : List Note) → notes ≡ Went_down ∷ [] → AllByRecursion IsNoLoss notes → ⊥
lost notes is none = (subst (AllByRecursion IsNoLoss) is none).0

may_fail : (up : Bool) (notes : List Note) → MayGoDown up notes → AllByRecursion IsNoLoss notes → AllByRecursion IsNoFailure notes
may_fail true notes may none = elim may [ inl e ↦ none_fail notes e | inr e ↦ absurd (lost notes e none) ]
may_fail false notes may none = none_fail notes may

boot_fails : (port : ℕ) (state : TargetStanding) (notes : List Note) → IsBooted port notes → BootIsTold state notes → stops_noted notes ≡ 0 → AllByRecursion IsNoFailure notes
boot_fails port state [] is told never = absurd is
boot_fails port state (Came_up first_port sequence ∷ []) is told never = (tt, tt)
boot_fails port state (Came_up first_port sequence ∷ note ∷ notes) is told never = absurd is
boot_fails port state (Boot_refused fault ∷ []) is told never =
    let one : 1 ≡ 0 = subst (λ (f : RecoverFault). stops_noted (Boot_refused f ∷ []) ≡ 0) told never in absurd (omega (arith, one))
boot_fails port state (Boot_refused fault ∷ note ∷ notes) is told never = absurd is
boot_fails port state (Went_down ∷ []) is told never = absurd is
boot_fails port state (Went_down ∷ note ∷ notes) is told never = absurd is

cut_fails : (up : Bool) (notes : List Note) (port pick : ℕ) → MayBeNoted up port (Power_cut zero pick) notes → AllByRecursion IsNoLoss notes → AllByRecursion IsNoFailure notes
cut_fails true notes port pick may none = absurd (lost notes may none)
cut_fails false notes port pick may none = none_fail notes may

step_fails : (up : Bool) (port : ℕ) (state : TargetStanding) (h : HappeningView) (notes : List Note) → MayBeNoted up port h notes → BootIsTold state notes → AllByRecursion IsNoLoss notes
    → stops_in h notes ≡ 0 → AllByRecursion IsNoFailure notes
step_fails up port state Booted notes may told none never = boot_fails port state notes may told never
step_fails up port state (Power_cut zero pick) notes may told none never = cut_fails up notes port pick may none
step_fails up port state (Power_cut (suc calls) pick) notes may told none never = none_fail notes may
step_fails up port state (Delivered side n) notes may told none never = may_fail up notes may none
step_fails up port state (Lost n) notes may told none never = may_fail up notes may none
step_fails up port state (Injected d) notes may told none never = may_fail up notes may none
step_fails up port state (Ticked side) notes may told none never = may_fail up notes may none
step_fails up port state (Size_told size) notes may told none never = may_fail up notes may none
step_fails up port state (Info_started hw pos) notes may told none never = may_fail up notes may none
step_fails up port state (Upload_started hw pos parts) notes may told none never = may_fail up notes may none
step_fails up port state Ended notes may told none never = may_fail up notes may none

never_fails : (set : Setting) (steps : List Step) → AllNoted set steps → AllBootsAreTold set steps → NeverGoesDown steps → disk_stops steps ≡ 0 → NeverFails steps
never_fails set [] noted told none never = tt
never_fails set (s ∷ earlier) noted told none never =
    let both : stops_in s.given s.notes + disk_stops earlier ≡ 0 = never in
    let here : stops_in s.given s.notes ≡ 0 = omega (arith, both) in
    let before : disk_stops earlier ≡ 0 = omega (arith, both) in (
      step_fails (is_up (target_at set earlier)) (first_port_after earlier) (target_at set (s ∷ earlier)) s.given s.notes noted.0 told.0 none.0 here,
      never_fails set earlier noted.1 told.1 none.1 before,
    )

boot_tells : (state : TargetStanding) (notes : List Note) → BootIsTold state notes → TellsActive state notes
boot_tells state [] told = tt
boot_tells state (Came_up first_port sequence ∷ []) told = told
boot_tells state (Came_up first_port sequence ∷ note ∷ notes) told = tt
boot_tells state (Boot_refused fault ∷ []) told = tt
boot_tells state (Boot_refused fault ∷ note ∷ notes) told = tt
boot_tells state (Went_down ∷ []) told = tt
boot_tells state (Went_down ∷ note ∷ notes) told = tt

boots_tell : (set : Setting) (steps : List Step) → AllBootsAreTold set steps → BootsTellActive set steps
boots_tell set [] told = tt
boots_tell set (s ∷ earlier) told = (boot_tells (target_at set (s ∷ earlier)) s.notes told.0, boots_tell set earlier told.1)

-- ---- counts

rose_once : (n before now : ℕ) → RoseBy (n + 1) before now → Rose before now
rose_once n before now rose = grind (arith, rose)

never_stops : (n before now : ℕ) → RoseBy n before now → ¬ Rose before now → n ≡ 0
never_stops zero before now rose none = refl
never_stops (suc n) before now rose none = let same : suc n ≡ n + 1 = omega arith in absurd (none (rose_once n before now (subst (λ (m : ℕ). RoseBy m before now) same rose)))

-- ---- the run

some_same : {A : Type 0} {a b : A} → Some a ≡ Some b → a ≡ b
some_same same = cc

module _ (fixed : WholeRunsAreFixed) (active : ActiveIsFixed) (told : Telling) (set : SetView) (script : List Line) (start : StandingView) (image : Image) (old new : DiskState) (run : RunSeen)
    (reads : old.reads ≡ Some image) (holds : HoldsConfig image start) (settled : LosesOnlyWork old) (runs : RunsScript set script old new run) (counts : IsAnyRun set old new run)
    (answers : ¬ Rose old.faults new.faults) (up : NeverGoesDown (steps_of run.trace)) where
  script_run : IsScriptRun set script start run
  script_run = (runs start image reads holds).0 (inr settled)

  throughout : HoldsScriptRun set script start old new run
  throughout = (runs start image reads holds).1 settled

  never : NeverFails (steps_of run.trace)
  never = never_fails (setting_of set start) (steps_of run.trace) script_run.is.trace.noted throughout.moments.1.boots up (never_stops (disk_stops (steps_of run.trace)) old.faults new.faults counts.counts.stops answers)

  pub steps_are : steps_of run.trace ≡ whole_run (setting_of set start) script
  steps_are = fixed (setting_of set start) script (steps_of run.trace) (record {
    steady = record {
      follows = (script_run.is.follows script (record { posted = refl; given = refl; plan = refl; follows = tt })).follows;
      due = script_run.is.trace.due;
      noted = script_run.is.trace.noted;
      up = never;
      boots = boots_tell (setting_of set start) (steps_of run.trace) throughout.moments.1.boots;
    };
    ends = script_run.is.trace.ends;
    carries = script_run.is.carries;
  })

  pub sessions_are : run.sessions ≡ sessions_by (setting_of set start) (whole_run (setting_of set start) script)
  sessions_are = script_run.is.sessions_are ∙ ap (sessions_by (setting_of set start)) steps_are

  text_is : (t : Telling) (last : StandingView) → run.standing ≡ Some last → told_as t run.sessions run.trace last ≡ text_by t (setting_of set start) (steps_of run.trace)
  text_is telling.Report last stands =
      let S = setting_of set start in
      let steps = steps_of run.trace in
      let posts : count_by is_post run.trace ≡ length (posted_in steps) = posts_by_steps run.trace script_run.ordered in
      let same : last ≡ active_at S steps = active S steps last never (throughout.moments.1.active last stands) in
      ap (λ (sessions : List EndedSession). sessions_from 1 sessions ++ datagrams_line (count_by is_post run.trace) ++ listing last) script_run.is.sessions_are
      ∙ (ap (λ (n : ℕ). sessions_from 1 (sessions_by S steps) ++ datagrams_line n ++ listing last) posts
      ∙ ap (λ (s : StandingView). sessions_from 1 (sessions_by S steps) ++ datagrams_line (length (posted_in steps)) ++ listing s) same)
  text_is telling.Trace last stands = wire_by_steps run.trace script_run.ordered

  pub run_gives : (last : StandingView) (status : ℕ) (text : List ℕ) → run.standing ≡ Some last → StatusOfRun run.sessions status → text ≡ told_as told run.sessions run.trace last
      → GivesRun told set script image status text
  run_gives last status text stands by_sessions tells =
      held start holds (subst (λ (sessions : List EndedSession). StatusOfRun sessions status) sessions_are by_sessions)
      (tells ∙ (text_is told last stands ∙ ap (λ (steps : List Step). text_by told (setting_of set start) steps) steps_are))

-- ---- each outcome

read_of : (disk : DiskState) → is_some disk.reads ≡ true → (image : Image) × (disk.reads ≡ Some image)
read_of disk tells = by disk.reads refl tells
  where
    by : (o : Option Image) → disk.reads ≡ o → is_some o ≡ true → (image : Image) × (disk.reads ≡ Some image)
    by None is tells = absurd cc
    by (Some image) is tells = (image, is)

-- what is known of images and of what the disk reads in the end
pub record DiskLaws (new : DiskState) : Type 0 where
  pub not_both : (image : Image) (s : StandingView) (f : RecoverFault) → HoldsConfig image s → HasDiskFault image f → ⊥
  pub reads_now : (image : Image) → new.reads ≡ Some image → new.now image

module _ (fixed : WholeRunsAreFixed) (active : ActiveIsFixed) (told : Telling) (set : SetView) (script : List Line) (image : Image) (old new : DiskState) (handed : Option RunSeen)
    (laws : DiskLaws new) (leaves : LeavesFirstOrGood old new) (reads : old.reads ≡ Some image) (settled : LosesOnlyWork old) (answers : ¬ Rose old.faults new.faults)
    (up : ForSome handed (λ (seen : RunSeen). NeverGoesDown (steps_of seen.trace))) where
  none_at_end : (fault : RecoverFault) → HoldsSome old → HoldsNone fault new → ⊥
  none_at_end fault some none =
      let (start, holds) = some image reads in
      let left = leaves set start image reads holds settled in
      let (last, read) = read_of new left.tells in
      let found = left.only.here last (laws.reads_now last read) in
      laws.not_both last found.active fault found.holds (none last read)

  pub outcome_gives : (status : ℕ) (text : List ℕ) → RunsTo told set script old new handed status text → GivesRun told set script image status text
  outcome_gives status text (ended run last some is stands runs holds counts by_sessions tells) =
      let (start, holds_first) = some image reads in
      run_gives fixed active told set script start image old new run reads holds_first settled runs counts answers (up run is) last status text stands by_sessions tells
  outcome_gives status text (unknown run some is stands runs counts failed stopped _ _) = absurd (answers (rose_once (disk_stops (steps_of run.trace)) old.faults new.faults failed))
  outcome_gives status text (disk_failed is failed stopped reads _ _) = absurd (answers failed)
  outcome_gives status text (no_config fault is other (inl was) eight tells) = unheld fault (was.none image reads) eight tells
  outcome_gives status text (no_config fault is other (inr (some, none)) _ _) = absurd (none_at_end fault some none)
