-- A run after a survey of its disk.
use Rattle.std.proofs.Common.{◌≡◌, ℕ, ◌+◌, ◌≤◌, ◌⊎◌, inl, inr, List, Option, Some, ap, subst, ◌∙◌, arith}
use Rattle.std.specs.Option.{ForSome}
use Rattle.disk_model.specs.Image.{Image}
use Rattle.disk_model.proofs.MomentLemmas.{reads_joined}
use Rattle.disk_model.specs.State.{DiskState, OnlyReads}
use Rattle.disk_layout.specs.Holds.{StandingView}
use Rattle.disk_layout.specs.Identity.{HasIdentity}
use Rattle.disk_layout.specs.declared.fault.RecoverFault.{RecoverFault}
use Rattle.exchange_trace.specs.Lines.{Line}
use Rattle.exchange_trace.specs.Posts.{happenings_of}
use Rattle.exchange_trace.specs.Steps.{Step, steps_of}
use Rattle.media_check.specs.Sets.{SetView}
use Rattle.recovery.specs.Surveys.{IsSurveyed}
use Rattle.recovery.specs.declared.surveying.Surveyed.{Surveyed}
use Rattle.upload_replay.specs.Endings.{HeldNone, HoldsNone, HoldsSome}
use Rattle.replay_rules.specs.BothEnds.{Setting}
use Rattle.upload_replay.specs.Moments.{AreClocks, HoldsAllAlong}
use Rattle.bank_store.specs.Fits.{LosesOnlyWork}
use Rattle.replay_turns.specs.Powers.{RoseBy, disk_stops}
use Rattle.replay_turns.specs.Turns.{RunsOut}
use Rattle.upload_replay.specs.Armings.{armed_after, armings_after}
use Rattle.session_completion.specs.FinishedRuns.{IsComplete}
use Rattle.run_promises.specs.Promises.{IsLeftToLastFinish}
use Rattle.loader_cli.specs.Replays.{CountsPower, HoldsScriptRun, IsAnyRun, RunSeen, RunsScript, RunsTo, setting_of}
use Rattle.loader_cli.specs.Replays.RunsTo.{ended, unknown, disk_failed, no_config}
use Rattle.loader_cli.specs.declared.replay.Telling.{Telling}

-- the target that a survey found is the one that the disk names
pub names_target : (reads : Option Image) (surveyed : Surveyed) → ForSome reads (λ image. IsSurveyed image surveyed) → ForSome reads (λ image. HasIdentity image surveyed.identity)
names_target reads surveyed found image is = (found image is).outline.has_active.identity

-- ---- counts

rose_since : (n before between now : ℕ) → before ≤ between → RoseBy n between now → RoseBy n before now
rose_since n before between now later rose = grind (arith, later, rose)

counts_since : (steps : List Step) (old mid new : DiskState) → OnlyReads old mid → CountsPower steps mid new → CountsPower steps old new
counts_since steps old mid new read counts = record {
  stops = rose_since (disk_stops steps) old.faults mid.faults new.faults read.faults counts.stops;
  armings = counts.armings ∙ ap (armings_after (happenings_of steps)) read.power.armings;
  armed = counts.armed ∙ ap (armed_after (happenings_of steps)) read.power.armed;
}

any_since : (set : SetView) (old mid new : DiskState) (run : RunSeen) → OnlyReads old mid → IsAnyRun set mid new run → IsAnyRun set old new run
any_since set old mid new run read any = record { counts = counts_since (steps_of run.trace) old mid new read any.counts; loader = any.loader; lives = any.lives; ordered = any.ordered }

-- ---- the run

held_since : (old mid : DiskState) → mid.reads ≡ old.reads → HoldsSome mid → HoldsSome old
held_since old mid same held image is = held image (same ∙ is)

-- it is only read, or held a configuration
pub held_or_read : (old mid new : DiskState) → OnlyReads old mid → mid.reads ≡ old.reads → OnlyReads mid new ⊎ HoldsSome mid → OnlyReads old new ⊎ HoldsSome old
held_or_read old mid new read same (inl reads) = inl (reads_joined old mid new read reads)
held_or_read old mid new read same (inr held) = inr (held_since old mid same held)

-- where memory ran out after a survey
pub out_since : (old mid new : DiskState) → OnlyReads old mid → mid.reads ≡ old.reads → RunsOut mid new ⊎ HoldsSome mid → RunsOut old new ⊎ HoldsSome old
out_since old mid new read same (inl (inl on)) = inl (inl on)
out_since old mid new read same (inl (inr out)) = let before = read.refusals in let rose = out.counted in inl (inr (record { counted = grind (arith, before, rose); stopped = out.stopped }))
out_since old mid new read same (inr held) = inr (held_since old mid same held)

none_since : (fault : RecoverFault) (old mid new : DiskState) → OnlyReads old mid → mid.reads ≡ old.reads → HeldNone fault mid new ⊎ (HoldsSome mid × HoldsNone fault new)
    → HeldNone fault old new ⊎ (HoldsSome old × HoldsNone fault new)
none_since fault old mid new read same (inl held) = inl (record {
  none = λ image is. held.none image (same ∙ is);
  only_reads = reads_joined old mid new read held.only_reads;
  running = record { reads = held.running.reads ∙ same; running = held.running.running };
})
none_since fault old mid new read same (inr (held, holds)) = inr (held_since old mid same held, holds)

-- each moment since a survey is one since its start
throughout_since : (set : Setting) (steps : List Step) (standing : Option StandingView) (old mid new : DiskState) → OnlyReads old mid → HoldsAllAlong set steps standing mid new → HoldsAllAlong set steps standing old new
throughout_since set steps standing old mid new read (clocks, holds) = (
  clocks,
  record {
    end = holds.end;
    timed = subst (λ (since : ℕ). AreClocks since holds.end clocks steps) read.clock holds.timed;
    boots = holds.boots;
    moments = holds.moments;
    after = holds.after;
    left = holds.left;
    active = holds.active;
  },
)

completes_since : (set : SetView) (script : List Line) (start : StandingView) (old mid new : DiskState) (run : RunSeen) → OnlyReads old mid → HoldsScriptRun set script start mid new run
    → (left : IsLeftToLastFinish (setting_of set start) script (steps_of run.trace)) → ¬ RoseBy (disk_stops left.before + 1) old.faults new.faults → (last : StandingView) → run.standing ≡ Some last
    → IsComplete (setting_of set start) left.before left.free (steps_of run.trace) last
completes_since set script start old mid new run read held left answers =
    held.completes left (λ rose. answers (rose_since (disk_stops left.before + 1) old.faults mid.faults new.faults read.faults rose))

runs_since : (set : SetView) (script : List Line) (old mid new : DiskState) (run : RunSeen) → OnlyReads old mid → mid.reads ≡ old.reads → (LosesOnlyWork old → LosesOnlyWork mid) → RunsScript set script mid new run → RunsScript set script old new run
runs_since set script old mid new run read same still runs = λ start image told holds.
    let both = runs start image (same ∙ told) holds in (
      λ all. both.0 (elim all [ inl none ↦ inl none | inr loses ↦ inr (still loses) ]),
      λ loses.
          let held = both.1 (still loses) in
          record { moments = throughout_since (setting_of set start) (steps_of run.trace) run.standing old mid new read held.moments; rests = held.rests; completes = completes_since set script start old mid new run read held },
    )

-- a run on a disk that was only read comes to the same of the disk as it was before
pub run_since : (told : Telling) (set : SetView) (script : List Line) (old mid new : DiskState) (handed : Option RunSeen) (status : ℕ) (text : List ℕ)
    → OnlyReads old mid → mid.reads ≡ old.reads → (LosesOnlyWork old → LosesOnlyWork mid) → RunsTo told set script mid new handed status text → RunsTo told set script old new handed status text
run_since told set script old mid new handed status text read same still (ended run standing held is stands runs holds counts said tells) =
    ended run standing (held_since old mid same held) is stands (runs_since set script old mid new run read same still runs) holds (any_since set old mid new run read counts) said tells
run_since told set script old mid new handed status text read same still (unknown run held is stands runs counts failed stopped said tells) =
    unknown run (held_since old mid same held) is stands (runs_since set script old mid new run read same still runs) (any_since set old mid new run read counts)
    (rose_since (disk_stops (steps_of run.trace) + 1) old.faults mid.faults new.faults read.faults failed) stopped said tells
run_since told set script old mid new handed status text read same still (disk_failed is failed stopped reads said tells) =
    disk_failed is (rose_since 1 old.faults mid.faults new.faults read.faults failed) stopped (reads_joined old mid new read reads) said tells
run_since told set script old mid new handed status text read same still (no_config fault is other holds said tells) =
    no_config fault is other (none_since fault old mid new read same holds) said tells
