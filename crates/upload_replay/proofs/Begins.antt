-- A driver as it begins, and as it comes to its end.
use Rattle.std.proofs.Common.{◌≡◌, List, [], ◌∷◌, false, Option, Some, refl, sym, ap, subst, ◌∙◌}
use Rattle.disk_layout.specs.Holds.{HoldsConfig, StandingView, outline_of}
use Rattle.disk_model.specs.Image.{Image}
use Rattle.disk_model.specs.State.{DiskState}
use Rattle.exchange_trace.specs.Steps.{Step}
use Rattle.session_rules.specs.Loader.{EndedSession, new_loader}
use Rattle.session_rules.specs.LoaderLog.{loader_view}
use Rattle.session_rules.specs.MediaFiles.{Media}
use Rattle.session_rules.specs.Target.{new_target}
use Rattle.loader_machine.specs.Machine.{all_sessions, media_of}
use Rattle.replay_rules.specs.BothEnds.{Setting, loader_at}
use Rattle.replay_rules.specs.Promises.{IsTrace}
use Rattle.run_promises.specs.Promises.{KeepsPromises, RunsKeepPromises}
use Rattle.target_machine.specs.Boots.{ComesUp}
use Rattle.target_machine.specs.Decisions.{TargetState}
use Rattle.replay_turns.proofs.StepLemmas.{OneStanding}
use Rattle.link_net.specs.Links.{LinkState}
use Rattle.upload_replay.specs.Drivers.{DriverState, GoesOn, IsLinked, IsTiedTo, RunGoesOn, end_step}
use Rattle.upload_replay.specs.Drives.{IsLoadersRun, IsUnitRun, LoaderGoesOn}
use Rattle.upload_replay.proofs.Throughout.{due_to_end, noted_to_end}

pub loader_begins : (media : Media) → LoaderGoesOn media [] new_loader
loader_begins media = record { kept = refl; due = tt; noted = tt; honest = tt }

pub nothing_yet : {R : Type 0} (d : DriverState R) → d.steps ≡ [] → d.loader.view ≡ new_loader → GoesOn d
nothing_yet d none fresh = record { loader = rw (none, fresh) (loader_begins (media_of d.loader.set)); carries = rw none tt; no_end = rw none tt }

-- a target that came up on a disk that holds this configuration
pub comes_up_with : {R : Type 0} → OneStanding → (rule : R) (target : TargetState R) (disk : DiskState) (image : Image) (start : StandingView) → ComesUp rule 1024 target disk → disk.reads ≡ Some image
    → HoldsConfig image start → target.view ≡ new_target 1024 (outline_of start)
comes_up_with one rule target disk image start up told holds =
    let (s, kept, is) = up.active image told in
    let same : s ≡ start = one image s start (record { slot = _; by = kept.by }) holds in
    up.view_is ∙ ap (new_target 1024) (sym is ∙ ap outline_of same)

pub begins_tied : {R : Type 0} (set : Setting) (d : DriverState R) (target : TargetState R) → d.steps ≡ [] → d.loader.view ≡ new_loader → d.target ≡ Some target → target.view ≡ new_target 1024 (outline_of set.start) → IsTiedTo set d
begins_tied set d target none fresh is view = record {
  tied = rw (none, fresh, is) (record { loader_is = refl; target_is = ap (λ v. Some v) view; posted_is = refl; due = tt });
  noted = rw none tt;
}

-- ---- over a link

pub linked_first : {R : Type 0} (d : DriverState R) (link : LinkState) → d.steps ≡ [] → link.posted ≡ [] → IsLinked false link link d.steps
linked_first d link none unposted = rw none (record { given = refl; posted = unposted })

pub starts_on : {R : Type 0} (set : Setting) (d : DriverState R) (link : LinkState) → d.steps ≡ [] → link.posted ≡ [] → IsTiedTo set d → RunGoesOn set false link link d
starts_on set d link none unposted tied = record {
  linked = linked_first d link none unposted;
  tied = tied;
  follows = λ script start. rw none start;
}

-- ---- the end

module _ {R : Type 0} (d : DriverState R) (on : GoesOn d) (steps : List Step) (ended : steps ≡ end_step ∷ d.steps) (sessions : List EndedSession) (are : sessions ≡ all_sessions d.loader.view) where
  pub loaders_run : IsLoadersRun (media_of d.loader.set) steps sessions
  loaders_run = rw ended (record {
    due = (([], refl), on.loader.due);
    noted = ((false, refl), on.loader.noted);
    honest = (tt, on.loader.honest);
    carries = ((tt, tt), on.carries);
    sessions_are = are ∙ ap all_sessions on.loader.kept;
  })

  pub unit_run : RunsKeepPromises → (set : Setting) (standing : Option StandingView) → IsTiedTo set d → IsUnitRun set steps sessions standing
  unit_run promised set standing tied = rw ended (record {
    trace = trace;
    carries = ((tt, tt), on.carries);
    honest = (tt, on.loader.honest);
    sessions_are = sessions_are;
    keeps = subst (λ (list : List EndedSession). KeepsPromises set (end_step ∷ d.steps) list standing) (sym sessions_are)
        (promised set (end_step ∷ d.steps) standing (record { trace = trace; honest = (tt, on.loader.honest); carries = ((tt, tt), on.carries) }));
  })
    where
      trace : IsTrace set (end_step ∷ d.steps)
      trace = record { ends = (refl, on.no_end); due = due_to_end set d.steps tied.tied.due; noted = noted_to_end set d.steps tied.noted }

      sessions_are : sessions ≡ all_sessions (loader_view (loader_at set (end_step ∷ d.steps)))
      sessions_are = are ∙ ap all_sessions tied.tied.loader_is
