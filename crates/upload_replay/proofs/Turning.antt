-- A step keeps what holds of a driver, and a turn what holds of a run.
use Rattle.std.proofs.Common.{◌≡◌, Result, Ok, Err, IfOk, OnOk, true, false, Bool, cond, List, [], ◌∷◌, ◌++◌, Option, Some, None, refl, sym, ap, subst, ◌∙◌}
use Rattle.std.specs.Prelude.{is_some}
use Rattle.std.proofs.lemmas.List.{append-nil}
use Rattle.accept_rules.specs.declared.kept.KeptLoad.{KeptLoad}
use Rattle.disk_model.specs.State.{DiskState}
use Rattle.exchange_trace.specs.declared.trace.Side.TheVariants as sides
use Rattle.exchange_trace.specs.Happenings.{DatagramView, HappeningView, Booted, Delivered, Ended, Info_started, Injected, Lost, Power_cut, Size_told, Ticked, Upload_started}
use Rattle.exchange_trace.specs.Lines.{Line}
use Rattle.exchange_trace.specs.Logs.{Event, event_for, logged, loader_log}
use Rattle.exchange_trace.specs.Posts.{IsHonest, first_port_after, happenings_of, posted_in}
use Rattle.exchange_trace.specs.Steps.{Boot_refused, Came_up, Note, Step, Went_down, with_given}
use Rattle.link_net.specs.Followed.{HasFollowed}
use Rattle.link_net.proofs.FollowedLemmas.{followed_next}
use Rattle.link_net.specs.Links.{LinkGives, LinkState, scene_of}
use Rattle.load_header.specs.declared.header.LoadHeader.{LoadHeader}
use Rattle.session_rules.specs.Loader.{LoaderView}
use Rattle.session_rules.specs.Laws.{LoaderFollows}
use Rattle.session_rules.specs.LoaderLog.{LoaderReading, SessionLog, loader_reading, loader_view, session_view as loader_session}
use Rattle.session_rules.specs.MediaFiles.{Media}
use Rattle.session_rules.specs.Target.{TargetView}
use Rattle.session_rules.specs.TargetLog.{TargetSessionLog, session_view as target_session}
use Rattle.loader_machine.specs.Machine.{LoaderState, media_of}
use Rattle.replay_rules.specs.BothEnds.{Is_down, Is_up, Setting, TargetStanding, loader_at, reached, target_at, waiting, waits_in}
use Rattle.replay_rules.specs.Due.{MayBeNoted, goes_down, is_up}
use Rattle.replay_rules.specs.Promises.{IsNoEnd}
use Rattle.replay_rules.specs.Ties.{IsTied, Reacts, StepKeepsTie, kept_after, kept_by, loader_next, loader_says, target_next, target_says}
use Rattle.target_machine.specs.Decisions as machine
use Rattle.replay_turns.specs.Ends.{HasStepped as Moved}
use Rattle.replay_turns.proofs.StepLemmas.{gone_keeps_none}
use Rattle.replay_turns.specs.Targets.{TargetTurns}
use Rattle.replay_turns.specs.Turns.{LoaderTakes, target_kept}
use Rattle.upload_replay.specs.Drivers.{DriverState, GoesOn, IsLinked, IsTiedTo, RunGoesOn, StandsOn, StaysOnSetting, StepsUnit}
use Rattle.upload_replay.specs.Drives.{LoaderGoesOn, has_session, is_end}
use Rattle.upload_replay.specs.Turns.{link_with}

-- ---- what a side keeps tells whether it waits, and is up

loader_waits_is : (r : LoaderReading) → is_some (loader_view r).live ≡ is_some r.live
loader_waits_is r = by r.live
  where
    by : (o : Option SessionLog) → is_some (loader_session r.end o) ≡ is_some o
    by None = refl
    by (Some s) = refl

target_waits_is : (set : Setting) (state : TargetStanding) → has_session (kept_by state) ≡ waits_in state
target_waits_is set (Is_up r) = by r.live
  where
    by : (o : Option TargetSessionLog) → is_some (target_session r.end o) ≡ is_some o
    by None = refl
    by (Some s) = refl
target_waits_is set (Is_down active interrupted) = refl

up_is : (set : Setting) (state : TargetStanding) → is_some (kept_by state) ≡ is_up state
up_is set (Is_up r) = refl
up_is set (Is_down active interrupted) = refl

-- ---- the target

pub target_reacts : (set : Setting) (e : Option Event) (state : TargetStanding) (before after : Option TargetView) (posts : List DatagramView) (notes : List Note)
    → TargetTurns set e state before after posts notes → after ≡ kept_after set notes state (reached set e state) (target_next set.accepts before e)
target_reacts set e state before after posts [] turns = turns.0
target_reacts set e state before after posts (Went_down ∷ []) turns = turns.0 ∙ sym (gone_keeps_none set state (reached set e state))
target_reacts set e state before after posts (Boot_refused fault ∷ []) turns = turns.0 ∙ sym (gone_keeps_none set state (reached set e state))
target_reacts set e state before after posts (Came_up first_port sequence ∷ []) turns = turns.0
target_reacts set e state before after posts (Went_down ∷ note ∷ notes) turns = absurd turns
target_reacts set e state before after posts (Boot_refused fault ∷ note ∷ notes) turns = absurd turns
target_reacts set e state before after posts (Came_up first_port sequence ∷ note ∷ notes) turns = absurd turns

target_silent : (set : Setting) (before : Option TargetView) (e : Option Event) → e ≡ None → target_says set.accepts before e ≡ []
target_silent set None e none = refl
target_silent set (Some v) e none = rw none refl

pub target_posts : (set : Setting) (e : Option Event) (state : TargetStanding) (before after : Option TargetView) (posts : List DatagramView) (notes : List Note)
    → TargetTurns set e state before after posts notes → posts ≡ cond (goes_down notes) [] (target_says set.accepts before e)
target_posts set e state before after posts [] turns = turns.1
target_posts set e state before after posts (Went_down ∷ []) turns = turns.1
target_posts set e state before after posts (Boot_refused fault ∷ []) turns = turns.1 ∙ sym (target_silent set before e turns.2)
target_posts set e state before after posts (Came_up first_port sequence ∷ []) turns = turns.1 ∙ sym (target_silent set before e turns.2)
target_posts set e state before after posts (Went_down ∷ note ∷ notes) turns = absurd turns
target_posts set e state before after posts (Boot_refused fault ∷ note ∷ notes) turns = absurd turns
target_posts set e state before after posts (Came_up first_port sequence ∷ note ∷ notes) turns = absurd turns

-- ---- the loader

loader_turns : (set : Setting) (e : Option Event) (before after : LoaderState) (sent : List DatagramView) → set.media ≡ media_of before.set → LoaderTakes e before after sent
    → (after.view ≡ loader_next set.media before.view e) × (sent ≡ loader_says set.media before.view e) × (after.set ≡ before.set)
loader_turns set None before after sent media takes = (ap (λ (l : LoaderState). l.view) takes.0, takes.1, ap (λ (l : LoaderState). l.set) takes.0)
loader_turns set (Some e) before after sent media takes = (rw media takes.keeps, rw media takes.posts, takes.set)

pub is_up_kept : {R : Type 0} (target : Option (machine.TargetState R)) → is_some (target_kept target) ≡ is_some target
is_up_kept None = refl
is_up_kept (Some t) = refl

pub same_media : (e : Option Event) (before after : LoaderState) (sent : List DatagramView) → LoaderTakes e before after sent → after.set ≡ before.set
same_media None before after sent takes = ap (λ (l : LoaderState). l.set) takes.0
same_media (Some e) before after sent takes = takes.set

pub loader_turned : (e : Option Event) (before after : LoaderState) (sent : List DatagramView) → LoaderTakes e before after sent
    → (after.view ≡ loader_next (media_of before.set) before.view e) × (sent ≡ loader_says (media_of before.set) before.view e)
loader_turned None before after sent takes = (ap (λ (l : LoaderState). l.view) takes.0, takes.1)
loader_turned (Some e) before after sent takes = (takes.keeps, takes.posts)

moved_on : LoaderFollows → (media : Media) (log : List Event) (e : Option Event) → loader_next media (loader_view (loader_reading media log)) e ≡ loader_view (loader_reading media (logged e log))
moved_on follows media log None = refl
moved_on follows media log (Some e) = follows media log e

-- ---- the end

pub no_end_of : (h : HappeningView) → is_end h ≡ false → IsNoEnd h
no_end_of (Delivered side n) e = tt
no_end_of (Lost n) e = tt
no_end_of (Injected d) e = tt
no_end_of (Ticked side) e = tt
no_end_of (Size_told size) e = tt
no_end_of (Power_cut calls pick) e = tt
no_end_of Booted e = tt
no_end_of (Info_started hw pos) e = tt
no_end_of (Upload_started hw pos parts) e = tt
no_end_of Ended e = absurd cc

-- ---- one step

module _ (set : Setting) (steps : List Step) (s : Step) (loader loader_then : LoaderState) (target target_then : Option TargetView) (loader_sent target_sent : List DatagramView) (media : set.media ≡ media_of loader.set)
    (both : s.posts ≡ loader_sent ++ target_sent) (takes : LoaderTakes (event_for sides.Loader (posted_in steps) s.given) loader loader_then loader_sent)
    (turns : TargetTurns set (event_for sides.Target (posted_in steps) s.given) (target_at set steps) target target_then target_sent s.notes) where
  reacts : Reacts set steps loader.view loader_then.view target target_then s
  reacts =
      let does = loader_turns set (event_for sides.Loader (posted_in steps) s.given) loader loader_then loader_sent media takes in
      record {
        loader_does = does.0;
        target_does = target_reacts set (event_for sides.Target (posted_in steps) s.given) (target_at set steps) target target_then target_sent s.notes turns;
        both_post = both
            ∙ (ap (λ (posts : List DatagramView). posts ++ target_sent) does.1
            ∙ ap (λ (posts : List DatagramView). loader_says set.media loader.view (event_for sides.Loader (posted_in steps) s.given) ++ posts)
            (target_posts set (event_for sides.Target (posted_in steps) s.given) (target_at set steps) target target_then target_sent s.notes turns));
      }

  pub step_tied : StepKeepsTie → IsTied set steps loader.view target (posted_in steps) → IsTied set (s ∷ steps) loader_then.view target_then (posted_in (s ∷ steps))
  step_tied keeps tied = keeps set steps loader.view loader_then.view target target_then (posted_in steps) s tied reacts

-- ---- a driver

-- the loader goes on as its log says
loader_on : LoaderFollows → (media : Media) (steps : List Step) (s : Step) (before after : LoaderState) (up : Bool) (loader_sent target_sent : List DatagramView) → media ≡ media_of before.set
    → LoaderTakes (event_for sides.Loader (posted_in steps) s.given) before after loader_sent → s.posts ≡ loader_sent ++ target_sent → MayBeNoted up (first_port_after steps) s.given s.notes → IsHonest (posted_in steps) s.given
    → LoaderGoesOn media steps before.view → LoaderGoesOn media (s ∷ steps) after.view
loader_on follows media steps s before after up loader_sent target_sent is takes both noted honest on =
    let e = event_for sides.Loader (posted_in steps) s.given in
    let does = rw (sym is) at (loader_turned e before after loader_sent takes) in
    record {
      kept = does.0 ∙ (ap (λ (v : LoaderView). loader_next media v e) on.kept ∙ moved_on follows media (loader_log steps) e);
      due = ((target_sent, both ∙ (ap (λ (posts : List DatagramView). posts ++ target_sent) does.1 ∙ ap (λ (v : LoaderView). loader_says media v e ++ target_sent) on.kept)), on.due);
      noted = ((up, noted), on.noted);
      honest = (honest, on.honest);
    }

module _ {R : Type 0} (before after : DriverState R) (old new : DiskState) (h : HappeningView) (posts : List DatagramView)
    (moved : Moved h posts before.steps after.steps before.loader after.loader before.target after.target old new) where
  pub step_of : Step
  step_of = record { given = h; posts = posts; notes = moved.notes }

  loader_set : after.loader.set ≡ before.loader.set
  loader_set = same_media (event_for sides.Loader (posted_in before.steps) h) before.loader after.loader moved.loader_posts moved.takes

  pub has_stepped : LoaderFollows → after.rule ≡ before.rule → after.identity ≡ before.identity → IsNoEnd h → IsHonest (posted_in before.steps) h → GoesOn before → StepsUnit h posts before after old new
  has_stepped follows rule identity no_end honest on =
      let step : Step = record { given = h; posts = posts; notes = moved.notes } in
      record {
        step = step;
        recorded = moved.recorded;
        given = refl;
        posted = refl;
        few = moved.few;
        rule = rule;
        identity = identity;
        media = loader_set;
        goes_on = record {
          loader = subst (λ (steps : List Step). LoaderGoesOn (media_of after.loader.set) steps after.loader.view) (sym moved.recorded)
              (loader_on follows (media_of after.loader.set) before.steps step before.loader after.loader (is_some before.target) moved.loader_posts moved.target_posts (ap media_of loader_set) moved.takes moved.both_post moved.noted honest
              (subst (λ (media : Media). LoaderGoesOn media before.steps before.loader.view) (sym (ap media_of loader_set)) on.loader));
          carries = rw moved.recorded ((moved.carries, moved.injects), on.carries);
          no_end = rw moved.recorded (no_end, on.no_end);
        };
        running = moved.running;
        stops = moved.stops;
      }

  -- it is tied to its trace
  pub tied_on : StepKeepsTie → (set : Setting) → set.media ≡ media_of before.loader.set
      → TargetTurns set (event_for sides.Target (posted_in before.steps) h) (target_at set before.steps) (target_kept before.target) (target_kept after.target) moved.target_posts moved.notes
      → IsTiedTo set before → IsTiedTo set after
  tied_on keeps set media turns was =
      let step : Step = record { given = h; posts = posts; notes = moved.notes } in
      let up : is_some before.target ≡ is_up (target_at set before.steps) = sym (is_up_kept before.target) ∙ (ap is_some was.tied.target_is ∙ up_is set (target_at set before.steps)) in
      record {
        tied = rw moved.recorded (step_tied set before.steps step before.loader after.loader (target_kept before.target) (target_kept after.target) moved.loader_posts moved.target_posts media moved.both_post moved.takes turns keeps was.tied);
        noted = rw moved.recorded (subst (λ (b : Bool). MayBeNoted b (first_port_after before.steps) h moved.notes) up moved.noted, was.noted);
      }

pub set_stays : {R : Type 0} (h : HappeningView) (posts : List DatagramView) (steps steps_then : List Step) (loader loader_then : LoaderState) (target target_then : Option (machine.TargetState R)) (old new : DiskState)
    → Moved h posts steps steps_then loader loader_then target target_then old new → loader_then.set ≡ loader.set
set_stays h posts steps steps_then loader loader_then target target_then old new moved = same_media (event_for sides.Loader (posted_in steps) h) loader loader_then moved.loader_posts moved.takes

-- two things that hold with Ok
-- what follows from all that is promised with Ok
pub with_ok : {T E Q : Type 0} (result : Result T E) → (((P : Type 0) → OnOk result P → P) → Q) → OnOk result Q
with_ok (Ok x) follows = follows (λ P is. is)
with_ok (Err e) follows = tt

pub both_ok : {T E : Type 0} (result : Result T E) (P Q : T → Type 0) → IfOk result P → IfOk result Q → IfOk result (λ x. P x × Q x)
both_ok (Ok x) P Q one other = (one, other)
both_ok (Err e) P Q one other = tt

-- ---- over a link

-- which sides wait, by the trace
module _ {R : Type 0} (set : Setting) (d : DriverState R) (tied : IsTiedTo set d) where
  pub loader_waits : is_some d.loader.view.live ≡ waiting set sides.Loader d.steps
  loader_waits = ap (λ (v : LoaderView). is_some v.live) tied.tied.loader_is ∙ loader_waits_is (loader_at set d.steps)

  pub target_waits : has_session (target_kept d.target) ≡ waiting set sides.Target d.steps
  target_waits = ap has_session tied.tied.target_is ∙ target_waits_is set (target_at set d.steps)

module _ {R : Type 0} (set : Setting) (d : DriverState R) (script : List Line) (link given : LinkState) (h : HappeningView) (loader_side target_side : Bool) (l : loader_side ≡ is_some d.loader.view.live)
    (t : target_side ≡ has_session (target_kept d.target)) (gives : LinkGives link given (scene_of link loader_side target_side) h) (tied : IsTiedTo set d) where
  -- the link as it was asked
  pub asked_on : HasFollowed (waiting set) script d.steps link → HasFollowed (waiting set) script (with_given d.steps h) given
  asked_on is = followed_next (waiting set) script d.steps link given h is
      (subst (λ (b : Bool). LinkGives link given (scene_of link b (waiting set sides.Target d.steps)) h) (l ∙ loader_waits set d tied)
      (subst (λ (b : Bool). LinkGives link given (scene_of link loader_side b) h) (t ∙ target_waits set d tied) gives))

  -- with the posts of the step
  pub posts_on : (s : Step) → s.given ≡ h → HasFollowed (waiting set) script d.steps link → HasFollowed (waiting set) script (s ∷ d.steps) (link_with given s.posts)
  posts_on s is follows =
      let asked = asked_on follows in
      record {
        posted = ap (λ (posted : List DatagramView). posted ++ s.posts) (asked.posted ∙ append-nil (posted_in d.steps));
        given = asked.given ∙ ap (λ (x : HappeningView). x ∷ happenings_of d.steps) (sym is);
        plan = asked.plan ∙ rw is refl;
        follows = rw is asked.follows;
      }

-- what was given and posted
pub linked_on : (began link given link_then : LinkState) (steps steps_then : List Step) (s : Step) (scene_loader scene_target : Bool) → LinkGives link given (scene_of link scene_loader scene_target) s.given → link_then ≡ link_with given s.posts
    → steps_then ≡ s ∷ steps → IsLinked false began link steps → IsLinked false began link_then steps_then
linked_on began link given link_then steps steps_then s scene_loader scene_target gives linked recorded was = record {
  given = rw (linked, recorded) (gives.given ∙ ap (λ (rest : List HappeningView). s.given ∷ rest) was.given);
  posted = rw (linked, recorded) (ap (λ (posted : List DatagramView). posted ++ s.posts) (gives.posted ∙ was.posted));
}

pub linked_end : (began link given : LinkState) (steps : List Step) (h : HappeningView) (scene_loader scene_target : Bool) → h ≡ Ended → LinkGives link given (scene_of link scene_loader scene_target) h
    → IsLinked false began link steps → IsLinked true began given steps
linked_end began link given steps h scene_loader scene_target is gives was = record {
  given = gives.given ∙ (ap (λ (x : HappeningView). x ∷ link.given) is ∙ ap (λ (rest : List HappeningView). Ended ∷ rest) was.given);
  posted = gives.posted ∙ was.posted;
}

pub is_the_end : (h : HappeningView) → is_end h ≡ true → h ≡ Ended
is_the_end (Delivered side n) e = absurd cc
is_the_end (Lost n) e = absurd cc
is_the_end (Injected d) e = absurd cc
is_the_end (Ticked side) e = absurd cc
is_the_end (Size_told size) e = absurd cc
is_the_end (Power_cut calls pick) e = absurd cc
is_the_end Booted e = absurd cc
is_the_end (Info_started hw pos) e = absurd cc
is_the_end (Upload_started hw pos parts) e = absurd cc
is_the_end Ended e = refl

-- the run goes on after a turn
pub turn_on : {R : Type 0} (set : Setting) (began link given link_then : LinkState) (d after : DriverState R) (h : HappeningView) (posts : List DatagramView) (old new : DiskState) → StepsUnit h posts d after old new → (loader_side target_side : Bool)
    → loader_side ≡ is_some d.loader.view.live → target_side ≡ has_session (target_kept d.target) → LinkGives link given (scene_of link loader_side target_side) h → link_then ≡ link_with given posts
    → RunGoesOn set false began link d → IsTiedTo set after → RunGoesOn set false began link_then after
turn_on set began link given link_then d after h posts old new stepped loader_side target_side l t gives linked on tied =
    let step = stepped.step in
    let there : link_then ≡ link_with given step.posts = linked ∙ ap (link_with given) (sym stepped.posted) in
    record {
      linked = linked_on began link given link_then d.steps after.steps step loader_side target_side (subst (λ (x : HappeningView). LinkGives link given (scene_of link loader_side target_side) x) (sym stepped.given) gives) there stepped.recorded on.linked;
      tied = tied;
      follows = λ script start.
          subst (λ (steps : List Step). HasFollowed (waiting set) script steps link_then) (sym stepped.recorded)
          (subst (λ (x : LinkState). HasFollowed (waiting set) script (step ∷ d.steps) x) (sym there)
          (posts_on set d script link given h loader_side target_side l t gives on.tied step stepped.given (on.follows script start)));
    }

-- and where the end came
pub end_on : {R : Type 0} (set : Setting) (began link given : LinkState) (d : DriverState R) (h : HappeningView) (loader_side target_side : Bool) → h ≡ Ended
    → loader_side ≡ is_some d.loader.view.live → target_side ≡ has_session (target_kept d.target) → LinkGives link given (scene_of link loader_side target_side) h → RunGoesOn set false began link d → RunGoesOn set true began given d
end_on set began link given d h loader_side target_side is l t gives on = record {
  linked = linked_end began link given d.steps h loader_side target_side is gives on.linked;
  tied = on.tied;
  follows = λ script start. subst (λ (x : HappeningView). HasFollowed (waiting set) script (with_given d.steps x) given) is (asked_on set d script link given h loader_side target_side l t gives on.tied (on.follows script start));
}

-- ---- turns

-- before any
pub stays_at_first : {R : Type 0} (may_say : R → LoadHeader → List KeptLoad → Bool → Type 0) (set : Setting) (link : LinkState) (d : DriverState R) (disk : DiskState) → StandsOn may_say set d → StaysOnSetting may_say set false link link d d disk disk
stays_at_first may_say set link d disk stands = record { stands = stands; goes_on = λ began before. before; held = λ began since runs. runs }

-- one after the others
pub stays_on : {R : Type 0} (may_say : R → LoadHeader → List KeptLoad → Bool → Type 0) (set : Setting) (ended : Bool) (first mid last : LinkState) (before then after : DriverState R) (old between new : DiskState)
    → StaysOnSetting may_say set false first mid before then old between → StaysOnSetting may_say set ended mid last then after between new → StaysOnSetting may_say set ended first last before after old new
stays_on may_say set ended first mid last before then after old between new so_far next = record {
  stands = next.stands;
  goes_on = λ began was. next.goes_on began (so_far.goes_on began was);
  held = λ began since runs. next.held began since (so_far.held began since runs);
}
