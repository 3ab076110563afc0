-- A run as a driver over a link: how it begins, and what is said of it at its end.
use Rattle.std.proofs.Common.{◌≡◌, ◌⊎◌, inl, inr, ℕ, ◌≤◌, List, [], ◌∷◌, true, false, Result, Ok, Err, IfOk, refl, sym, ap, subst, ◌∙◌, arith}
use Rattle.std.specs.Prelude.{map, option_map}
use Rattle.std.proofs.lemmas.List.{append-nil}
use Rattle.bank_store.specs.Fits.{LosesOnlyWork}
use Rattle.disk_layout.specs.Holds.{standing_view}
use Rattle.disk_model.specs.State.{DiskState}
use Rattle.exchange_trace.specs.Posts.{posted_in}
use Rattle.exchange_trace.specs.Steps.{Step, steps_of}
use Rattle.link_net.specs.Links.{LinkState}
use Rattle.loader_machine.specs.Machine.{media_of, session_view}
use Rattle.media_check.specs.Sets.{SetView}
use Rattle.session_rules.specs.MediaFiles.{Media}
use Rattle.replay_rules.specs.BothEnds.{Setting}
use Rattle.replay_turns.proofs.PowerLemmas.{rose_not, rose_on}
use Rattle.replay_turns.specs.Powers.{RoseBy, disk_stops}
use Rattle.upload_replay.specs.declared.outcome.Drive.{Drive}
use Rattle.upload_replay.specs.Drivers.{DriverState, GoesOn, HoldsUnit, IsTiedTo, IsUnderWay, RunGoesOn, RunsOnDisk, end_step}
use Rattle.upload_replay.specs.Drives.{IsLoadersRun, IsDrivenRun, IsUnitRun, NeverBoots}
use Rattle.upload_replay.specs.Endings.{EndsOnSetting, EndsRun, EndsUnit, FailedIfUnknown, HoldsSome}
use Rattle.upload_replay.specs.Moments.{Clocks, HoldsToEnd}
use Rattle.upload_replay.proofs.Begins.{starts_on}

pub under_way_first : {R : Type 0} (link : LinkState) (media : SetView) (d : DriverState R) (old new : DiskState) → d.steps ≡ [] → d.loader.set ≡ media → old.faults ≤ new.faults → IsUnderWay false link link old.faults media d new
under_way_first link media d old new none is later_ = record {
  media_is = is;
  given = rw none refl;
  stops = rw none (rose_not old.faults new.faults later_);
}

pub runs_started : {R : Type 0} (set : Setting) (link : LinkState) (since : ℕ) (d : DriverState R) (disk : DiskState) → d.steps ≡ [] → link.posted ≡ [] → HoldsUnit set since [] d disk → RunsOnDisk set false link link since d disk
runs_started set link since d disk none unposted unit = record { goes_on = starts_on set d link none unposted unit.tied; clocks = []; held = unit.held }

stops_to_end : (steps : List Step) → disk_stops (end_step ∷ steps) ≡ disk_stops steps
stops_to_end steps = omega arith

module _ {R : Type 0} (d : DriverState R) (drive : Drive) (ended : steps_of drive.trace.items ≡ end_step ∷ d.steps) where
  pub run_ended : (media : SetView) (began link : LinkState) (first last new : DiskState) → HoldsSome first → GoesOn d → IsUnderWay true began link first.faults media d last → link.posted ≡ posted_in d.steps → EndsUnit d drive last new
      → FailedIfUnknown drive.standing first.faults (disk_stops d.steps) new → last.faults ≤ new.faults → EndsRun (media_of media) began link drive first new
  run_ended media began link first last new stood on under_way posted end unknown faults = record {
    stood = stood;
    loader = subst (λ (m : Media). IsLoadersRun m (steps_of drive.trace.items) (map session_view drive.sessions.items)) (ap media_of under_way.media_is) end.ran;
    told = rw ended (record { ends = (refl, on.no_end); given = under_way.given; posted = posted ∙ sym (append-nil (posted_in d.steps)) });
    ordered = end.ordered;
    stops = rw ended (record {
      stops = subst (λ (n : ℕ). RoseBy n first.faults new.faults) (sym (stops_to_end d.steps)) (rose_on (disk_stops d.steps) first.faults last.faults new.faults under_way.stops faults);
      unknown = subst (λ (n : ℕ). FailedIfUnknown drive.standing first.faults n new) (sym (stops_to_end d.steps)) unknown;
    });
    standing = end.standing;
  }

  pub unit_is_run : (set : Setting) (began link : LinkState) → RunGoesOn set true began link d → IsUnitRun set (steps_of drive.trace.items) (map session_view drive.sessions.items) (option_map standing_view drive.standing)
      → IsDrivenRun set began link (steps_of drive.trace.items) (map session_view drive.sessions.items) (option_map standing_view drive.standing)
  unit_is_run set began link on unit = record {
    trace = unit.trace;
    carries = unit.carries;
    posted = rw ended (on.linked.posted ∙ sym (append-nil (posted_in d.steps)));
    given = rw ended on.linked.given;
    honest = unit.honest;
    follows = λ script start. rw ended (on.follows script start);
    sessions_are = unit.sessions_are;
    keeps = unit.keeps;
  }

-- what the end of its driver promises of a run on this setting
pub ends_on_setting : {R E : Type 0} (result : Result Drive E) (d : DriverState R) (set : Setting) (began link : LinkState) (old last new : DiskState) → IfOk result (λ drive. EndsUnit d drive last new)
    → (IsTiedTo set d → IfOk result (λ drive. IsUnitRun set (steps_of drive.trace.items) (map session_view drive.sessions.items) (option_map standing_view drive.standing)))
    → ((since : ℕ) (clocks : Clocks) → HoldsUnit set since clocks d last → IfOk result (λ drive. HoldsToEnd set (steps_of drive.trace.items) drive.standing since (last.clock ∷ clocks) new))
    → (NeverBoots d.steps ⊎ LosesOnlyWork old → RunGoesOn set true began link d) → (LosesOnlyWork old → RunsOnDisk set true began link old.clock d last)
    → IfOk result (λ drive. EndsOnSetting set began link drive old new)
ends_on_setting (Err fault) d set began link old last new ended unit held on runs = tt
ends_on_setting (Ok drive) d set began link old last new ended unit held on runs = record {
  run = λ either.
      let going = on (elim either [ inl never ↦ inl (rw ended.ended at never).1 | inr loses ↦ inr loses ]) in
      unit_is_run d drive ended.ended set began link going (unit going.tied);
  moments = λ loses. let run = runs loses in (last.clock ∷ run.clocks, (held old.clock run.clocks (record { tied = run.goes_on.tied; held = run.held })).moments);
  rests = λ loses. let run = runs loses in (held old.clock run.clocks (record { tied = run.goes_on.tied; held = run.held })).rests;
}
