-- Proofs that a run keeps what is promised of it.
use Rattle.std.proofs.Common.{◌≡◌, ℕ, List, [], ◌∷◌, ◌++◌, Option, Some, sym, ap, subst, ◌∙◌, arith}
use Rattle.std.specs.List.{AllByRecursion}
use Rattle.load_base.specs.Config.{FileView, LoadView}
use Rattle.load_base.specs.Name.{IsName}
use Rattle.field_grammar.specs.Grammar.{IsBytes}
use Rattle.disk_layout.specs.Holds.{StandingView}
use Rattle.exchange_trace.specs.Steps.{Step}
use Rattle.accept_rules.specs.Permissions.{AcceptsPermitted}
use Rattle.session_rules.specs.declared.outcome.Outcome.{Outcome}
use Rattle.session_rules.specs.declared.outcome.Outcome.TheVariants.{BadFile, Denied, TargetStopped}
use Rattle.session_rules.specs.declared.outcome.SessionKind.TheVariants.{Info, Upload}
use Rattle.session_rules.specs.Loader.{EndedSession}
use Rattle.session_rules.specs.LoaderLog.{loader_view}
use Rattle.session_rules.specs.declared.outcome.FileKind.{FileKind}
use Rattle.session_rules.specs.FileNames.{file_name}
use Rattle.session_rules.specs.MediaFiles.{Media}
use Rattle.session_rules.specs.NewConfigs.{AreOfMedia, files_in}
use Rattle.loader_machine.specs.Machine.{all_sessions}
use Rattle.replay_rules.specs.BothEnds.{Setting, loader_at, target_at}
use Rattle.replay_rules.specs.Changes.{AllCarryBytes, ChangesAreNew, InstallsAreGood}
use Rattle.replay_rules.specs.FaultFree.{NothingInjected}
use Rattle.replay_rules.specs.FirstOrGood.{ActiveIsFirstOrGood}
use Rattle.replay_rules.specs.ListTraces.{AllListInSession, CompletedListsActive, ListsWhereCompleted}
use Rattle.replay_rules.specs.Histories.{active_by}
use Rattle.replay_rules.specs.MediaTraces.{InstallsAreOfMedia}
use Rattle.replay_rules.specs.OtherEndTraces.{IsUninjected}
use Rattle.replay_rules.specs.OwnSessionTraces.{CompletedStays}
use Rattle.replay_rules.specs.Promises.{IsTrace}
use Rattle.replay_rules.specs.Runs.{TraceFollows}
use Rattle.exchange_trace.specs.Lines.{Line}
use Rattle.run_promises.specs.Reports.{ReportsAreTrue}
use Rattle.replay_rules.specs.Causes.{AllDeniedWhereSpent, AllStoppedWhereFailed, DenialsAreForSequence, DeniedWhereSpent, BeginsSmall, EndsAs, FilesAreGood, IsOutcomeOfFile, NoBadFile, NoBadFiles, SessionsEndInSteps, StoppedWhereFailed, StopsAreForVerdicts}
use Rattle.replay_rules.specs.Outcomes.{OutcomesHaveCauses}
use Rattle.finish_ends.specs.Scripts.{TracesAreBounded}
use Rattle.session_completion.specs.FinishedRuns.{FinishCompletes, IsComplete}
use Rattle.run_promises.specs.Listing.{StandingFits, WhatFitsNamesItsFiles, WhatIsActiveCanBeListed}
use Rattle.run_promises.specs.Promises.{CanBeTold, CompletesAtFinish, DenialIsTrue, EndsIn, IsTold, IsToldAs, IsWholeRun, ListIsTrue, RunsKeepPromises, StopIsTrue, TellsTrue, UploadIsInstalled}
use Rattle.run_promises.proofs.Told.{told_ended}

uninjected : (set : Setting) (steps : List Step) → IsWholeRun set steps → NothingInjected steps → IsUninjected set steps
uninjected set steps is none = record { due = is.trace.due; noted = is.trace.noted; honest = is.honest; injected = none; carries = is.carries }

-- what is listed in a step of a run
lists_at : (set : Setting) (since : List Step) (s : Step) (earlier : List Step) → AllListInSession set (since ++ s ∷ earlier) → ListsWhereCompleted set s earlier
lists_at set [] s earlier (now, before) = now
lists_at set (x ∷ since) s earlier (now, before) = lists_at set since s earlier before

denied_at : (set : Setting) (since : List Step) (s : Step) (earlier : List Step) → AllDeniedWhereSpent set (since ++ s ∷ earlier) → DeniedWhereSpent set s earlier
denied_at set [] s earlier (now, before) = now
denied_at set (x ∷ since) s earlier (now, before) = denied_at set since s earlier before

stopped_at : (set : Setting) (since : List Step) (s : Step) (earlier : List Step) → AllStoppedWhereFailed set (since ++ s ∷ earlier) → StoppedWhereFailed set s earlier
stopped_at set [] s earlier (now, before) = now
stopped_at set (x ∷ since) s earlier (now, before) = stopped_at set since s earlier before

good_at : (set : Setting) (since : List Step) (s : Step) (earlier : List Step) → NoBadFiles set (since ++ s ∷ earlier) → NoBadFile set s earlier
good_at set [] s earlier (now, before) = now
good_at set (x ∷ since) s earlier (now, before) = good_at set since s earlier before

-- what is said of how sessions ended
pub record EndedLaws : Type 0 where
  pub ends : SessionsEndInSteps
  pub denials : DenialsAreForSequence
  pub stops : StopsAreForVerdicts
  pub files : FilesAreGood
  pub causes : OutcomesHaveCauses

module _ (ended : EndedLaws) (media : InstallsAreOfMedia) (lists : CompletedListsActive) (names : WhatFitsNamesItsFiles) (active : WhatIsActiveCanBeListed) (stays : CompletedStays) (set : Setting) (steps : List Step) (standing : Option StandingView) (accepts : AcceptsPermitted set.accepts) (can : CanBeTold set.media) (fits : StandingFits set.start) (is : IsUninjected set steps) where
  abbrev sessions : List EndedSession
  sessions = all_sessions (loader_view (loader_at set steps))

  upload : (told : IsTold Upload sessions) → UploadIsInstalled set steps standing told.before told.session
  upload told =
      let e = told_ended told.session (subst IsOutcomeOfFile (sym told.completed) tt) ended.ends set steps told.before told.after told.place in
      record {
        ended = e;
        stays = stays set e.since e.step e.earlier standing accepts can.entries (subst (λ (list : List Step). IsUninjected set list) e.split is) (told.session, e.ends ∙ ap (λ (others : List EndedSession). told.session ∷ others) (sym e.others)) (rw e.ends (told.kind_is, told.completed));
      }

  list : (told : IsTold Info sessions) → ListIsTrue set steps told.before told.session
  list told =
      let e = told_ended told.session (subst IsOutcomeOfFile (sym told.completed) tt) ended.ends set steps told.before told.after told.place in
      record {
        ended = e;
        lists = lists_at set e.since e.step e.earlier (subst (λ (list : List Step). AllListInSession set list) e.split (lists set steps is (names set.start fits) (active set steps accepts is.carries fits))) told.session (e.ends ∙ ap (λ (others : List EndedSession). told.session ∷ others) (sym e.others)) told.kind_is told.completed;
      }

  ends_as : (outcome : Outcome) (told : IsToldAs outcome sessions) (e : EndsIn set steps told.before told.session) → EndsAs set e.step e.earlier outcome
  ends_as outcome told e = record { session = told.session; ended = e.ends ∙ ap (λ (others : List EndedSession). told.session ∷ others) (sym e.others); came_to = told.came_to }

  denial : (text : List ℕ) (told : IsToldAs (Denied text) sessions) → DenialIsTrue set steps told.before told.session text
  denial text told =
      let e = told_ended told.session (subst IsOutcomeOfFile (sym told.came_to) tt) ended.ends set steps told.before told.after told.place in
      record {
        ended = e;
        denied = denied_at set e.since e.step e.earlier (subst (λ (list : List Step). AllDeniedWhereSpent set list) e.split (ended.denials set steps accepts fits.identity.hw is)) text (ends_as (Denied text) told e);
      }

  stop : (text : List ℕ) (told : IsToldAs (TargetStopped text) sessions) → StopIsTrue set steps told.before told.session text
  stop text told =
      let e = told_ended told.session (subst IsOutcomeOfFile (sym told.came_to) tt) ended.ends set steps told.before told.after told.place in
      record {
        ended = e;
        stopped = stopped_at set e.since e.step e.earlier (subst (λ (list : List Step). AllStoppedWhereFailed set list) e.split (ended.stops set steps accepts fits.identity.hw is)) text (ends_as (TargetStopped text) told e);
      }

  begins_small : BeginsSmall set.start
  begins_small = let bank = fits.identity.bank in record { bank = omega (arith, bank.1); loads = fits.loads }

  good_file : (kind : FileKind) (offset : ℕ) → IsToldAs (BadFile kind offset) sessions → ⊥
  good_file kind offset told =
      let e = told_ended told.session (subst IsOutcomeOfFile (sym told.came_to) tt) ended.ends set steps told.before told.after told.place in
      good_at set e.since e.step e.earlier (subst (λ (list : List Step). NoBadFiles set list) e.split (ended.files set steps accepts fits.identity.hw (names set.start fits) begins_small can.lengths (active set steps accepts is.carries fits) is)) kind offset (ends_as (BadFile kind offset) told e)

  tells : TellsTrue set steps sessions standing
  tells = record { media = media set steps accepts can.lengths is; uploads = upload; lists = list; denials = denial; stops = stop; files = good_file }

-- the files of loads that the media set has
served_bytes : (media : Media) → CanBeTold media → (loads : List LoadView) → AreOfMedia media loads → AllByRecursion (λ (f : FileView). IsBytes f.bytes) (files_in loads)
served_bytes media can loads are = by (files_in loads) are
  where
    by : (files : List FileView) → AllByRecursion (λ (f : FileView). media.file f.name ≡ Some f.bytes) files → AllByRecursion (λ (f : FileView). IsBytes f.bytes) files
    by [] all = tt
    by (f ∷ files) (now, rest) = (can.bytes f.name f.bytes now, by files rest)

-- a fault-free run that was left to its last `finish`
completes_free : FinishCompletes → (set : Setting) (steps : List Step) (standing : Option StandingView) → IsWholeRun set steps → AcceptsPermitted set.accepts → CanBeTold set.media
    → (named : (kind : FileKind) → IsName (file_name set.start.identity.hw set.start.identity.pos kind)) → (script : List Line) → TraceFollows set script steps → CompletesAtFinish set script steps standing
completes_free complete set steps standing is accepts can named script follows left up last stands active =
    subst (λ (list : List Step). IsComplete set left.before left.free list last) (sym left.split)
    (complete set script left.before left.more left.free last accepts can.lengths (record { entries = can.entries; own_files = named; bytes = served_bytes set.media can left.free.loads left.free.served.media }) left.margin (record {
      trace = subst (λ (list : List Step). IsTrace set list) left.split is.trace;
      carries = subst (λ (list : List Step). AllCarryBytes list) left.split is.carries;
      follows = subst (λ (list : List Step). TraceFollows set script list) left.split follows;
      left = left.left;
      stays_up = up;
    }) (subst (λ (list : List Step). last ≡ active_by (target_at set list) (Some last)) left.split active))

pub kept : EndedLaws → ReportsAreTrue → ChangesAreNew → InstallsAreGood → ActiveIsFirstOrGood → InstallsAreOfMedia → CompletedListsActive → WhatFitsNamesItsFiles → WhatIsActiveCanBeListed → CompletedStays → TracesAreBounded → FinishCompletes → RunsKeepPromises
kept ended reports changes good active media lists names listed stays bounded complete set steps standing is = record {
  good = λ accepts. record { changes = changes set steps accepts is.carries; brought = good set steps accepts is.carries; active = active set steps accepts is.carries };
  reports = λ accepts. reports set steps accepts is.carries;
  causes = ended.causes set steps;
  tells = λ accepts can fits none. tells ended media lists names listed stays set steps standing accepts can fits (uninjected set steps is none);
  bounded = λ script follows. bounded set script steps follows is.trace is.carries;
  completes = λ accepts can fits script follows. completes_free complete set steps standing is accepts can (names set.start fits) script follows;
}
