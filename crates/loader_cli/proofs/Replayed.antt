-- What a run of a script comes to.
use Rattle.std.proofs.Common.{◌≡◌, inl, inr, ℕ, List, [], ◌++◌, Option, Some, None, refl, sym, ap, subst, ◌∙◌, ◌<◌}
use Rattle.std.specs.Prelude.{All, IfOk, Result, Ok, Err, is_some, map, option_map, true}
use Rattle.std.proofs.lemmas.List.{append-nil}
use Rattle.std.proofs.lemmas.List.{get_or-map, length-map}
use Rattle.disk_model.specs.State.{DiskState}
use Rattle.disk_layout.specs.Holds.{StandingView, standing_view}
use Rattle.disk_layout.specs.declared.fault.RecoverFault.{RecoverFault}
use Rattle.disk_layout.specs.declared.standing.Standing.{Standing}
use Rattle.exchange_trace.specs.Lines.{Line}
use Rattle.exchange_trace.specs.Happenings.{HappeningView}
use Rattle.exchange_trace.specs.Posts.{happenings_of}
use Rattle.exchange_trace.specs.Steps.{Step, steps_of}
use Rattle.media_check.specs.Sets.{SetView}
use Rattle.link_net.specs.Links.{LinkState}
use Rattle.loader_machine.specs.Machine.{media_of}
use Rattle.run_promises.specs.Listing.{StandingFits}
use Rattle.run_promises.specs.Promises.{CanBeTold}
use Rattle.upload_replay.specs.Drives.{IsDrivenRun}
use Rattle.upload_replay.specs.Moments.{HoldsAllAlong}
use Rattle.bank_store.specs.Fits.{LosesOnlyWork}
use Rattle.replay_rules.specs.Due.{AllNoted}
use Rattle.replay_rules.specs.Runs.{TraceFollows}
use Rattle.session_completion.specs.FinishedRuns.{FinishLeavesPower}
use Rattle.replay_turns.specs.Orders.{IsInOrder}
use Rattle.upload_replay.specs.Endings.{CountsStops, FailedIfUnknown, HoldsSome, HoldsStanding, IsNoConfig}
use Rattle.replay_turns.specs.Powers.{RoseBy, disk_stops}
use Rattle.upload_replay.specs.Armings.{ArmsAsGiven, armed_after, armings_after}
use Rattle.upload_replay.specs.declared.outcome.Drive.{Drive}
use Rattle.upload_replay.specs.declared.outcome.DriveFault.TheVariants.{NoConfig}
use Rattle.load_base.specs.declared.list.NoMemory.{NoMemory}
use Rattle.loader_cli.specs.Answers.{HidesNoFault, answered_of, answered_status, status_of}
use Rattle.loader_cli.specs.declared.answer.Answer.{Answer}
use Rattle.loader_cli.specs.declared.answer.Answered.{Answered}
use Rattle.loader_cli.specs.Replays.{CountsPower, HoldsScriptRun, IsAnyRun, IsScriptRun, RunSeen, RunsScript, RunsTo, Tells, link_of, run_seen, setting_of}
use Rattle.loader_cli.specs.Replays.RunsTo.{ended, unknown, no_config}
use Rattle.loader_cli.specs.Texts.{no_configuration}
use Rattle.loader_cli.specs.declared.replay.Telling.{Telling}
use Rattle.loader_cli.proofs.Left.{accepts_permitted}
use Rattle.loader_cli.proofs.StaysUp.{none_down_since, none_since}

alone : (one other none : List HappeningView) → none ≡ [] → one ++ none ≡ other ++ none → one ≡ other
alone one other none is same = sym (append-nil one) ∙ (ap (λ (rest : List HappeningView). one ++ rest) (sym is) ∙ (same ∙ (ap (λ (rest : List HappeningView). other ++ rest) is ∙ append-nil other)))

-- what a drive says of its disk, by its trace
pub counts_power : (steps : List Step) (standing : Option Standing) (old new : DiskState) (before after : List HappeningView) → before ≡ [] → CountsStops steps standing old new
    → after ≡ happenings_of steps ++ before → ArmsAsGiven before after old new → CountsPower steps old new
counts_power steps standing old new before after none stops is arms =
    let same : arms.given ≡ happenings_of steps = alone arms.given (happenings_of steps) before none (sym arms.more ∙ is) in
    record {
      stops = stops.stops;
      armings = arms.armings ∙ ap (λ (list : List HappeningView). armings_after list old.armings) same;
      armed = arms.armed ∙ ap (λ (list : List HappeningView). armed_after list old.armed) same;
    }

-- a run of a link that followed a script
pub script_run : (set : SetView) (script : List Line) (start : StandingView) (run : RunSeen) (link : LinkState) → CanBeTold (media_of set) → StandingFits start → IsInOrder run.trace
    → IsDrivenRun (setting_of set start) (link_of script) link (steps_of run.trace) run.sessions run.standing → IsScriptRun set script start run
script_run set script start run link can fits ordered is = record {
  ended = link;
  is = is;
  good = is.keeps.good accepts_permitted;
  reports = is.keeps.reports accepts_permitted;
  tells = λ none. is.keeps.tells accepts_permitted can fits none;
  bounded = is.keeps.bounded script (is.follows script (record { posted = refl; given = refl; plan = refl; follows = tt })).follows;
  ordered = ordered;
}

-- where it is known what stands
pub some_standing : (standing : Option Standing) (P : Type 0) → (is_some standing ≡ true → P) → is_some (option_map standing_view standing) ≡ true → P
some_standing None P known is = absurd cc
some_standing (Some s) P known is = known refl

-- on a disk that holds it throughout
pub held_run : (set : SetView) (script : List Line) (start : StandingView) (old new : DiskState) (run : RunSeen) → FinishLeavesPower → CanBeTold (media_of set) → StandingFits start → IsScriptRun set script start run → RoseBy (disk_stops (steps_of run.trace)) old.faults new.faults → HoldsAllAlong (setting_of set start) (steps_of run.trace) run.standing old new → (is_some run.standing ≡ true → LosesOnlyWork new)
    → HoldsScriptRun set script start old new run
held_run set script start old new run power can fits is stops (clocks, moments) rests = record {
  moments = (clocks, moments);
  rests = rests;
  completes = λ left answers last stands.
      let steps = steps_of run.trace in
      let follows = (is.is.follows script (record { posted = refl; given = refl; plan = refl; follows = tt })).follows in
      let leaves = power (setting_of set start) script left.before left.more left.left (subst (λ (list : List Step). TraceFollows (setting_of set start) script list) left.split follows) in
      let up = none_down_since (setting_of set start) left.more left.before leaves (subst (λ (list : List Step). AllNoted (setting_of set start) list) left.split is.is.trace.noted)
      (none_since left.more left.before steps old.faults new.faults left.split answers stops) in
      is.is.keeps.completes accepts_permitted can fits script follows left up last stands (sym (moments.active last stands));
}

pub ran_to : (told : Telling) (set : SetView) (script : List Line) (old new : DiskState) (run : Drive) (status : ℕ) (text : List ℕ) → HoldsSome old
    → RunsScript set script old new (run_seen run) → HoldsStanding run.standing new → CountsStops (steps_of run.trace.items) run.standing old new
    → IsAnyRun set old new (run_seen run) → Tells told (run_seen run) (option_map standing_view run.standing) status text
    → RunsTo told set script old new (Some (run_seen run)) status text
ran_to told set script old new run status text held runs holds stops any tells = by run.standing refl holds stops.unknown tells
  where
    by : (standing : Option Standing) → run.standing ≡ standing → HoldsStanding standing new → FailedIfUnknown standing old.faults (disk_stops (steps_of run.trace.items)) new
        → Tells told (run_seen run) (option_map standing_view standing) status text → RunsTo told set script old new (Some (run_seen run)) status text
    by None is holds failed tells = unknown (run_seen run) held refl (ap (option_map standing_view) is) runs any failed.0 failed.1 tells.0 tells.1
    by (Some standing) is holds failed tells = ended (run_seen run) (standing_view standing) held refl (ap (option_map standing_view) is) runs holds any tells.0 tells.1

pub refused_to : (told : Telling) (set : SetView) (script : List Line) (old new : DiskState) (link link_then : LinkState) (fault : RecoverFault) → IsNoConfig (NoConfig fault) old new link link_then
    → RunsTo told set script old new None 8 (no_configuration fault)
refused_to told set script old new link link_then fault refused =
    no_config fault refl refused.0 (elim refused.1 [ inl never ↦ inl never.held | inr since ↦ inr since ]) refl refl

-- what holds of all that is made of a list's elements
pub each_of_map : {X Y : Type 0} (P : Y → Type 0) (f : X → Y) (xs : List X) → All P (map f xs) → All (λ x. P (f x)) xs
each_of_map P f xs all k d small =
    subst P (get_or-map f xs k d (f d) small) (all k (f d) (subst (λ (n : ℕ). k < n) (sym (length-map xs f)) small))

-- ---- other commands

-- what holds of an answer holds where no run is handed out beside it
pub alone_so : (r : Result Answer NoMemory) (s : Result Answered NoMemory) (P : Answer → Type 0) (Q : Answered → Type 0) → s ≡ answered_of r
    → ((answer : Answer) → P answer → Q (record { answer = answer; drive = None; fleet = None })) → IfOk r P → IfOk s Q
alone_so r s P Q is so holds = subst (λ (t : Result Answered NoMemory). IfOk t Q) (sym is) (by r holds)
  where
    by : (r : Result Answer NoMemory) → IfOk r P → IfOk (answered_of r) Q
    by (Ok answer) holds = so answer holds
    by (Err fault) holds = tt

-- nor does it hide a failure of the host then
pub alone_hides : (r : Result Answer NoMemory) (s : Result Answered NoMemory) (before now : ℕ) → s ≡ answered_of r → HidesNoFault status_of before now r
    → HidesNoFault answered_status before now s
alone_hides r s before now is hides = subst (λ (t : Result Answered NoMemory). HidesNoFault answered_status before now t) (sym is) (by r hides)
  where
    by : (r : Result Answer NoMemory) → HidesNoFault status_of before now r → HidesNoFault answered_status before now (answered_of r)
    by (Ok answer) hides = record { answered = hides.answered; no_memory = tt }
    by (Err fault) hides = record { answered = tt; no_memory = hides.no_memory }

-- where the host didn't fail, nothing is hidden
pub none_failed : {T : Type 0} (told : T → ℕ) (before now : ℕ) (result : Result T NoMemory) → now ≡ before → HidesNoFault told before now result
none_failed told before now (Ok x) same = record { answered = λ other. same; no_memory = tt }
none_failed told before now (Err fault) same = record { answered = tt; no_memory = same }

-- nor where it didn't fail before a call that hides nothing
pub hides_after : {T : Type 0} (told : T → ℕ) (before mid now : ℕ) (result : Result T NoMemory) → mid ≡ before → HidesNoFault told mid now result → HidesNoFault told before now result
hides_after told before mid now result same hides = subst (λ (n : ℕ). HidesNoFault told n now result) same hides
