-- In a fault-free run neither end gives up.
use Rattle.std.proofs.Common.{◌≡◌, ℕ, ◌<◌, Bool, true, false, List, [], ◌∷◌, ◌++◌, length, Option, Some, None, refl, sym, ap, subst, ◌∙◌, append_assoc}
use Rattle.std.specs.Prelude.{is_some, nat_lt}
use Rattle.std.specs.List.{AllByRecursion}
use Rattle.std.proofs.lemmas.Bool.{ltb-true}
use Rattle.std.proofs.lemmas.List.{append_cancel_right}
use Rattle.disk_layout.specs.Holds.{StandingView}
use Rattle.exchange_trace.specs.declared.trace.Side.TheVariants as sides
use Rattle.exchange_trace.specs.Happenings.{Booted, Delivered, Ended, HappeningView, Info_started, Injected, Lost, Power_cut, Size_told, Ticked, Upload_started}
use Rattle.exchange_trace.specs.Logs.{Event, Ticks, event_for, logged, loader_log}
use Rattle.exchange_trace.specs.Posts.{posted_in}
use Rattle.exchange_trace.specs.Steps.{Note, Step}
use Rattle.transfer_end.specs.Readings.{Reading}
use Rattle.transfer_end.specs.Views.{end_view}
use Rattle.transfer_end.specs.Packets.{may_repeat}
use Rattle.session_rules.specs.declared.outcome.Outcome.{Outcome}
use Rattle.session_rules.specs.declared.outcome.Outcome.TheVariants.{Completed, GaveUp, Replaced}
use Rattle.session_rules.specs.declared.reason.Reason.{Reason}
use Rattle.session_rules.specs.Loader.{Advances, Begins, Begins_over, Continues, EndedSession, Ends, LoaderChange, LoaderSession, ended_by, loader_decision}
use Rattle.session_rules.specs.LoaderLog.{LoaderReading, SessionLog, loader_extended, loader_reading, loader_reading_changed, loader_view, session_view}
use Rattle.session_rules.specs.MediaFiles.{Media}
use Rattle.session_rules.specs.TargetLog.{TargetReading, TargetSessionLog, target_extended}
use Rattle.replay_rules.specs.BothEnds.{Is_down, Is_up, Setting, TargetStanding, loader_at, noted, reached, target_at, waits_in}
use Rattle.replay_rules.specs.FaultFree.{AllEndWell, EndsInstalled, EndsWell, IsSmooth, NewAreCompleted}
use Rattle.replay_rules.specs.Runs.{retries_in}
use Rattle.session_completion.specs.FaultFreeRuns.{FaultFreeGivesNoneUp, GivesNoneUp, NoneGivesUp, retries_after}

-- ---- the sessions that ended at the loader stay

pub record Grows (before after : List EndedSession) : Type 0 where
  more : List EndedSession
  is : after ≡ more ++ before

over_grows : (outcome : Outcome) (more : List ℕ) (live : Option LoaderSession) (ended : List EndedSession) → Grows ended (ended_by outcome more live ended)
over_grows outcome more None ended = record { more = []; is = refl }
over_grows outcome more (Some s) ended = record { more = _ ∷ []; is = refl }

one_more : (s : EndedSession) (before after : List EndedSession) → Grows before after → Grows before (s ∷ after)
one_more s before after g = record { more = s ∷ g.more; is = ap (λ (x : List EndedSession). s ∷ x) g.is }

changed_grows : (end : Reading) (r : LoaderReading) (change : LoaderChange) → Grows r.ended (loader_reading_changed end r change).ended
changed_grows end r (Continues more) = record { more = []; is = refl }
changed_grows end r Advances = record { more = []; is = refl }
changed_grows end r (Ends outcome more) = over_grows outcome more (session_view r.end r.live) r.ended
changed_grows end r (Begins s) = over_grows Replaced [] (session_view r.end r.live) r.ended
changed_grows end r (Begins_over kind outcome) = one_more (record { kind = kind; outcome = outcome; listed = None }) r.ended _ (over_grows Replaced [] (session_view r.end r.live) r.ended)

logged_grows : (media : Media) (e : Option Event) (log : List Event) → Grows (loader_reading media log).ended (loader_reading media (logged e log)).ended
logged_grows media None log = record { more = []; is = refl }
logged_grows media (Some e) log = changed_grows _ (loader_reading media log) (loader_decision media (loader_view (loader_reading media log)) e).change

step_grows : (set : Setting) (s : Step) (earlier : List Step) → Grows (loader_at set earlier).ended (loader_at set (s ∷ earlier)).ended
step_grows set s earlier = logged_grows set.media (event_for sides.Loader (posted_in earlier) s.given) (loader_log earlier)

all_grow : (set : Setting) (since base : List Step) → Grows (loader_at set base).ended (loader_at set (since ++ base)).ended
all_grow set [] base = record { more = []; is = refl }
all_grow set (s ∷ since) base =
    let g = all_grow set since base in
    let one = step_grows set s (since ++ base) in
    record { more = one.more ++ g.more; is = one.is ∙ ap (λ (x : List EndedSession). one.more ++ x) g.is ∙ sym (append_assoc one.more g.more (loader_at set base).ended) }

-- ---- at the loader

-- the newest session was given up
pub record HasGivenUp (before after : List EndedSession) : Type 0 where
  session : EndedSession
  is : after ≡ session ∷ before
  outcome : session.outcome ≡ GaveUp

given_up : (media : Media) (end : Reading) (s : SessionLog) (ended : List EndedSession) → may_repeat (end_view end) ≡ false
    → HasGivenUp ended (loader_extended media (record { end = end; live = Some s; ended = ended }) Ticks).ended
given_up media end s ended spent = rw spent (record { session = _; is = refl; outcome = refl })

loader_gives_up : (media : Media) (r : LoaderReading) → is_some r.live ≡ true → may_repeat (end_view r.end) ≡ false → HasGivenUp r.ended (loader_extended media r Ticks).ended
loader_gives_up media r live spent = by r.live refl live
  where
    by : (o : Option SessionLog) → r.live ≡ o → is_some o ≡ true → HasGivenUp r.ended (loader_extended media r Ticks).ended
    by None e h = absurd cc
    by (Some s) e h =
        subst (λ (o : Option SessionLog). HasGivenUp r.ended (loader_extended media (record { end = r.end; live = o; ended = r.ended }) Ticks).ended) (sym e) (given_up media r.end s r.ended spent)

last_of_more : (new more : List EndedSession) (s : EndedSession) (mid base : List EndedSession) → more ++ s ∷ (mid ++ base) ≡ new ++ base → new ≡ more ++ s ∷ mid
last_of_more new more s mid base e = append_cancel_right new (more ++ s ∷ mid) base (sym e ∙ sym (append_assoc more (s ∷ mid) base))

one_of : (more : List EndedSession) (s : EndedSession) (mid : List EndedSession) → AllByRecursion (λ (x : EndedSession). x.outcome ≡ Completed) (more ++ s ∷ mid) → s.outcome ≡ Completed
one_of [] s mid all = all.0
one_of (x ∷ more) s mid all = one_of more s mid all.1

-- where all that ended since is completed, none of it was given up
none_given_up : (base before after now : List EndedSession) → Grows base before → HasGivenUp before after → Grows after now → NewAreCompleted base now → ⊥
none_given_up base before after now early up late (new, is, all) =
    let whole : now ≡ late.more ++ up.session ∷ (early.more ++ base)
    = late.is ∙ ap (λ (x : List EndedSession). late.more ++ x) (up.is ∙ ap (λ (x : List EndedSession). up.session ∷ x) early.is) in
    let split : new ≡ late.more ++ up.session ∷ early.more = last_of_more new late.more up.session early.more base (sym whole ∙ is) in
    let completed : up.session.outcome ≡ Completed = one_of late.more up.session early.more (subst (λ (x : List EndedSession). AllByRecursion (λ (s : EndedSession). s.outcome ≡ Completed) x) split all) in
    let wrong : GaveUp ≡ Completed = sym up.outcome ∙ completed in
    absurd cc

-- ---- at the target

target_given_up : (set : Setting) (end : Reading) (s : TargetSessionLog) (active : StandingView) (reason : Option Reason) → may_repeat (end_view end) ≡ false
    → (target_extended set.accepts (record { end = end; live = Some s; active = active; reason = reason }) Ticks).live ≡ None
target_given_up set end s active reason spent = rw spent refl

target_gives_up : (set : Setting) (r : TargetReading) → is_some r.live ≡ true → may_repeat (end_view r.end) ≡ false → EndsInstalled r (Some Ticks) r.live (target_extended set.accepts r Ticks).live → ⊥
target_gives_up set r live spent well = by r.live refl live
  where
    by : (o : Option TargetSessionLog) → r.live ≡ o → is_some o ≡ true → ⊥
    by None e h = absurd cc
    by (Some s) e h =
        let ends : (target_extended set.accepts r Ticks).live ≡ None
        = subst (λ (o : Option TargetSessionLog). (target_extended set.accepts (record { end = r.end; live = o; active = r.active; reason = r.reason }) Ticks).live ≡ None) (sym e) (target_given_up set r.end s r.active r.reason spent) in
        let both : EndsInstalled r (Some Ticks) (Some s) None
        = subst (λ (o : Option TargetSessionLog). EndsInstalled r (Some Ticks) (Some s) o) ends (subst (λ (o : Option TargetSessionLog). EndsInstalled r (Some Ticks) o (target_extended set.accepts r Ticks).live) e well) in
        both.1

state_gives_up : (set : Setting) (state : TargetStanding) → waits_in state ≡ true → nat_lt (retries_in state) 5 ≡ false → EndsWell state (Some Ticks) (reached set (Some Ticks) state) → ⊥
state_gives_up set (Is_up r) live spent well = target_gives_up set r live spent well
state_gives_up set (Is_down active interrupted) live spent well = well

-- ---- in each step

tick_stays : (n : ℕ) → (nat_lt n 5 ≡ false → ⊥) → n < 5
tick_stays n h = by (nat_lt n 5) refl
  where
    by : (b : Bool) → nat_lt n 5 ≡ b → n < 5
    by true e = ltb-true n 5 e
    by false e = absurd (h e)

module _ (set : Setting) (base : List Step) (now : List EndedSession) (completed : NewAreCompleted (loader_at set base).ended now) where
  step_gives_none_up : (since : List Step) (s : Step) (given : HappeningView) → s.given ≡ given → s.notes ≡ [] → Grows (loader_at set (s ∷ (since ++ base))).ended now
      → EndsWell (target_at set (since ++ base)) (event_for sides.Target (posted_in (since ++ base)) s.given) (target_at set (s ∷ (since ++ base))) → GivesNoneUp set given (since ++ base)
  step_gives_none_up since s (Ticked sides.Loader) is notes late well = λ live. tick_stays (retries_after set (since ++ base) sides.Loader) (λ spent.
      none_given_up (loader_at set base).ended (loader_at set (since ++ base)).ended (loader_extended set.media (loader_at set (since ++ base)) Ticks).ended now (all_grow set since base)
      (loader_gives_up set.media (loader_at set (since ++ base)) live spent)
      (subst (λ (h : HappeningView). Grows (loader_reading set.media (logged (event_for sides.Loader (posted_in (since ++ base)) h) (loader_log (since ++ base)))).ended now) is late) completed)
  step_gives_none_up since s (Ticked sides.Target) is notes late well = λ live. tick_stays (retries_after set (since ++ base) sides.Target) (λ spent.
      state_gives_up set (target_at set (since ++ base)) live spent
      (subst (λ (h : HappeningView). EndsWell (target_at set (since ++ base)) (event_for sides.Target (posted_in (since ++ base)) h) (reached set (event_for sides.Target (posted_in (since ++ base)) h) (target_at set (since ++ base)))) is
      (subst (λ (ns : List Note). EndsWell (target_at set (since ++ base)) (event_for sides.Target (posted_in (since ++ base)) s.given) (noted ns (target_at set (since ++ base)) (reached set (event_for sides.Target (posted_in (since ++ base)) s.given) (target_at set (since ++ base))))) notes well)))
  step_gives_none_up since s (Delivered side n) is notes late well = tt
  step_gives_none_up since s (Lost n) is notes late well = tt
  step_gives_none_up since s (Injected d) is notes late well = tt
  step_gives_none_up since s (Size_told size) is notes late well = tt
  step_gives_none_up since s (Power_cut calls pick) is notes late well = tt
  step_gives_none_up since s Booted is notes late well = tt
  step_gives_none_up since s (Info_started hw pos) is notes late well = tt
  step_gives_none_up since s (Upload_started hw pos parts) is notes late well = tt
  step_gives_none_up since s Ended is notes late well = tt

  since_gives_none_up : (before : ℕ) (since : List Step) → AllByRecursion (IsSmooth before) since → AllEndWell set since base → Grows (loader_at set (since ++ base)).ended now → NoneGivesUp set since base
  since_gives_none_up before [] smooth well late = tt
  since_gives_none_up before (s ∷ since) smooth well late =
      (step_gives_none_up since s s.given refl smooth.0.stays_up late well.0, since_gives_none_up before since smooth.1 well.1 (earlier_grows (step_grows set s (since ++ base)) late))
    where
      earlier_grows : Grows (loader_at set (since ++ base)).ended (loader_at set (s ∷ (since ++ base))).ended → Grows (loader_at set (s ∷ (since ++ base))).ended now → Grows (loader_at set (since ++ base)).ended now
      earlier_grows one then = record { more = then.more ++ one.more; is = then.is ∙ ap (λ (x : List EndedSession). then.more ++ x) one.is ∙ sym (append_assoc then.more one.more (loader_at set (since ++ base)).ended) }

pub fault_free_gives_none_up : FaultFreeGivesNoneUp
fault_free_gives_none_up set steps free =
    let base = free.start ∷ free.before in
    let now : (loader_at set steps).ended ≡ (loader_at set (free.since ++ base)).ended = ap (λ (ss : List Step). (loader_at set ss).ended) free.split in
    since_gives_none_up set base (loader_at set steps).ended free.loader_ends (length (posted_in free.before)) free.since free.smooth free.target_ends (record { more = []; is = now })
