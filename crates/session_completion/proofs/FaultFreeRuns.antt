-- A fault-free run leads from world to world.
use Rattle.std.proofs.Common.{◌≡◌, ℕ, zero, suc, ◌+◌, ◌-◌, ◌<◌, ◌≤◌, Bool, true, false, cond, List, [], ◌∷◌, ◌++◌, length, Option, Some, None, refl, sym, ap, subst, ◌∙◌, arith, append-nil, append_assoc}
use Rattle.std.specs.Prelude.{Contains, is_some, slice_get}
use Rattle.std.specs.List.{AllByRecursion}
use Rattle.load_base.specs.Name.{IsName}
use Rattle.disk_layout.specs.declared.identity.Identity.{Identity}
use Rattle.disk_layout.specs.Holds.{StandingView}
use Rattle.exchange_trace.specs.declared.trace.Side.{Side}
use Rattle.exchange_trace.specs.declared.trace.Side.TheVariants as sides
use Rattle.exchange_trace.specs.Happenings.{Booted, DatagramView, Delivered, Ended, HappeningView, Info_started, Injected, Lost, Power_cut, Size_told, Ticked, Upload_started, other}
use Rattle.exchange_trace.specs.Logs.{Event, Gets, Learns, Starts_upload, Ticks, event_for, gets}
use Rattle.exchange_trace.specs.Posts.{AllHonest, IsHonest, numbered, posted_in}
use Rattle.exchange_trace.specs.Steps.{Step}
use Rattle.session_rules.specs.declared.outcome.FileKind.{FileKind}
use Rattle.session_rules.specs.FileNames.{file_name}
use Rattle.session_rules.specs.Loader.{LoaderSession, LoaderView, loader_posts}
use Rattle.session_rules.specs.LoaderLog.{loader_view, SessionLog, session_view}
use Rattle.session_rules.specs.Target.{TargetSession, TargetView, target_after, target_posts}
use Rattle.session_rules.specs.TargetLog.{TargetReading, target_view, TargetSessionLog, session_view as target_session_view}
use Rattle.replay_rules.specs.BothEnds.{Is_down, Is_up, Setting, TargetStanding, loader_at, target_at, waiting, waits_in}
use Rattle.replay_rules.proofs.ChangeLemmas.{HasTarget, has_target}
use Rattle.replay_rules.specs.Changes.{ChangesAreNew}
use Rattle.replay_rules.specs.Histories.{active_at, active_in, setting_after, setting_from}
use Rattle.replay_rules.specs.Due.{AllDue, due_of_loader, due_of_target}
use Rattle.replay_rules.specs.FaultFree.{IsNoInjection, IsReadyFor, IsSmooth, NothingInjected, IsNoStart, IsUndisturbed, ports_for}
use Rattle.replay_rules.specs.Ties.{IsTied, StepKeepsTie, kept_by, loader_next, loader_says, target_next, target_says}
use Rattle.session_completion.specs.FaultFreeRuns.{FaultFreeRunsComplete, FaultFreeRunsLead, GivesNoneUp, IsWorldOf, NoneGivesUp, retries_after, QuietIsIdle}
use Rattle.session_completion.specs.GoodUploads.{GoodUploadsComplete, Leads, begins, delivers, retries_at, started, tells, ticks}
use Rattle.session_completion.specs.Worlds.{World, at_loader, at_target, delivered, told, waits, delivered_to}
use Rattle.transfer_end.specs.Readings.{Reading}
use Rattle.replay_rules.specs.Runs.{retries_in}
use Rattle.session_completion.proofs.GivenUp.{fault_free_gives_none_up}
use Rattle.session_completion.proofs.Queues.{numbered_is}
use Rattle.replay_rules.specs.OtherEndTraces.{IsUninjected}

-- ---- one step of both ends

abbrev pub target_then : Setting → TargetView → Option Event → TargetView
target_then set v None = v
target_then set v (Some e) = target_after set.accepts v e

-- the world after what came to either end
abbrev pub stepped : Setting → World → Option Event → Option Event → World
stepped set w one two = record { loader = loader_next set.media w.loader one; target = target_then set w.target two; posts = w.posts ++ (loader_says set.media w.loader one ++ target_says set.accepts (Some w.target) two) }

then_is : (set : Setting) (v : TargetView) (e : Option Event) → target_next set.accepts (Some v) e ≡ Some (target_then set v e)
then_is set v None = refl
then_is set v (Some e) = refl

loader_due_so : (set : Setting) (steps : List Step) (e : Option Event) → due_of_loader set (loader_at set steps) e ≡ loader_says set.media (loader_view (loader_at set steps)) e
loader_due_so set steps None = refl
loader_due_so set steps (Some e) = refl

target_due_so : (set : Setting) (state : TargetStanding) (v : TargetView) (e : Option Event) → Some v ≡ kept_by state → due_of_target set state e ≡ target_says set.accepts (Some v) e
target_due_so set (Is_up r) v None is = refl
target_due_so set (Is_up r) v (Some e) is = ap (λ (x : TargetView). target_posts set.accepts x e) (some_same (sym is))
  where
    some_same : {x y : TargetView} → Some x ≡ Some y → x ≡ y
    some_same h = cc
target_due_so set (Is_down active interrupted) v e is = absurd cc

-- what is tied stays so, in a step in which nothing is noted
pub step_tied : StepKeepsTie → (set : Setting) (steps : List Step) (before : List DatagramView) (w : World) (s : Step) → IsWorldOf set steps before w → s.notes ≡ [] → AllDue set (s ∷ steps)
    → IsWorldOf set (s ∷ steps) before (stepped set w (event_for sides.Loader (posted_in steps) s.given) (event_for sides.Target (posted_in steps) s.given))
step_tied keeps set steps before w s tied quiet due =
    let one = event_for sides.Loader (posted_in steps) s.given in
    let two = event_for sides.Target (posted_in steps) s.given in
    let says = loader_says set.media w.loader one ++ target_says set.accepts (Some w.target) two in
    let posts : s.posts ≡ says = posts_so in
    let after = keeps set steps w.loader (loader_next set.media w.loader one) (Some w.target) (Some (target_then set w.target two)) (before ++ w.posts) s tied
    (record { loader_does = refl; target_does = target_so; both_post = both_so }) in
    subst (λ (ds : List DatagramView). IsTied set (s ∷ steps) (loader_next set.media w.loader one) (Some (target_then set w.target two)) ds)
    (append_assoc before w.posts s.posts ∙ ap (λ (ds : List DatagramView). before ++ (w.posts ++ ds)) posts) after
  where
    posts_so : s.posts ≡ loader_says set.media w.loader (event_for sides.Loader (posted_in steps) s.given) ++ target_says set.accepts (Some w.target) (event_for sides.Target (posted_in steps) s.given)
    posts_so = due.0 ∙ rw (quiet, loader_due_so set steps (event_for sides.Loader (posted_in steps) s.given), sym tied.loader_is, target_due_so set (target_at set steps) w.target (event_for sides.Target (posted_in steps) s.given) tied.target_is) refl

    both_so : s.posts ≡ loader_says set.media w.loader (event_for sides.Loader (posted_in steps) s.given) ++ (cond (Rattle.replay_rules.specs.Due.goes_down s.notes) [] (target_says set.accepts (Some w.target) (event_for sides.Target (posted_in steps) s.given)))
    both_so = rw quiet posts_so

    target_so : Some (target_then set w.target (event_for sides.Target (posted_in steps) s.given))
        ≡ Rattle.replay_rules.specs.Ties.kept_after set s.notes (target_at set steps) (Rattle.replay_rules.specs.BothEnds.reached set (event_for sides.Target (posted_in steps) s.given) (target_at set steps)) (target_next set.accepts (Some w.target) (event_for sides.Target (posted_in steps) s.given))
    target_so = rw quiet (sym (then_is set w.target (event_for sides.Target (posted_in steps) s.given)))

-- ---- what a step is to a world

abbrev with_posts : World → List DatagramView → World
with_posts w posts = record { loader = w.loader; target = w.target; posts = posts }

pub nothing_comes : (set : Setting) (w : World) → stepped set w None None ≡ w
nothing_comes set w = ap (λ (ds : List DatagramView). with_posts w ds) (append-nil w.posts)

pub loader_alone : (set : Setting) (w : World) (e : Event) → stepped set w (Some e) None ≡ at_loader set w e
loader_alone set w e = ap (λ (ds : List DatagramView). with_posts (at_loader set w e) (w.posts ++ ds)) (append-nil (loader_posts set.media w.loader e))

pub target_alone : (set : Setting) (w : World) (e : Event) → stepped set w None (Some e) ≡ at_target set w e
target_alone set w e = refl

both_told : (set : Setting) (w : World) (size : Option ℕ) → stepped set w (Some (Learns size)) (Some (Learns size)) ≡ told set w size
both_told set w size = ap (λ (ds : List DatagramView). with_posts (told set w size) ds) (sym (append_assoc w.posts (loader_posts set.media w.loader (Learns size)) (target_posts set.accepts w.target (Learns size))))

-- a tick where no session is live changes nothing
abbrev loader_is : LoaderView → Option LoaderSession → LoaderView
loader_is v live = record { end = v.end; live = live; ended = v.ended }

abbrev target_is : TargetView → Option TargetSession → TargetView
target_is v live = record { end = v.end; live = live; active = v.active; reason = v.reason }

abbrev with_loader : World → Option LoaderSession → World
with_loader w live = record { loader = loader_is w.loader live; target = w.target; posts = w.posts }

idle_loader : (set : Setting) (w : World) → w.loader.live ≡ None → at_loader set w Ticks ≡ w
idle_loader set w idle = subst (λ (live : Option LoaderSession). at_loader set (with_loader w live) Ticks ≡ with_loader w live) (sym idle) (ap (λ (ds : List DatagramView). with_posts (with_loader w None) ds) (append-nil w.posts))

abbrev with_target : World → Option TargetSession → World
with_target w live = record { loader = w.loader; target = target_is w.target live; posts = w.posts }

idle_target : (set : Setting) (w : World) → w.target.live ≡ None → at_target set w Ticks ≡ w
idle_target set w idle = subst (λ (live : Option TargetSession). at_target set (with_target w live) Ticks ≡ with_target w live) (sym idle) (ap (λ (ds : List DatagramView). with_posts (with_target w None) ds) (append-nil w.posts))

-- ---- what was posted since

member_is : (xs : List DatagramView) (n : ℕ) (d : DatagramView) → slice_get xs n ≡ Some d → Contains xs d
member_is [] n d e = absurd cc
member_is (x ∷ xs) zero d e = (0, omega arith, cc)
member_is (x ∷ xs) (suc n) d e = let (k, lt, is) = member_is xs n d e in (suc k, omega (arith, lt), is)

later_is : (before since : List DatagramView) (k n : ℕ) → k ≡ length before + n → slice_get (before ++ since) k ≡ slice_get since n
later_is [] since k n e = ap (λ (i : ℕ). slice_get since i) (omega arith)
later_is (d ∷ before) since zero n e = absurd (omega arith)
later_is (d ∷ before) since (suc k) n e = later_is before since k n (omega arith)

plus_one : (k : ℕ) → suc k ≡ k + 1
plus_one k = omega arith

pub posted_since : (before since : List DatagramView) (n : ℕ) (d : DatagramView) → length before < n → numbered (before ++ since) n ≡ Some d → Contains since d
posted_since before since n d above e = so n above e
  where
    so : (n : ℕ) → length before < n → numbered (before ++ since) n ≡ Some d → Contains since d
    so zero above e = absurd (omega arith)
    so (suc k) above e =
        let at : numbered (before ++ since) (suc k) ≡ slice_get (before ++ since) k = ap (λ (i : ℕ). numbered (before ++ since) i) (plus_one k) ∙ numbered_is (before ++ since) k in
        member_is since (k - length before) d (sym (later_is before since k (k - length before) (omega arith)) ∙ sym at ∙ e)

-- ---- a step leads on

none_is : {A : Type 0} (x : Option A) → is_some x ≡ false → x ≡ None
none_is None e = refl
none_is (Some x) e = absurd cc

pub live_so : (r : Reading) (live : Option SessionLog) → is_some (session_view r live) ≡ is_some live
live_so r None = refl
live_so r (Some s) = refl

target_live_so : (r : TargetReading) (live : Option TargetSessionLog) → is_some (target_session_view r.end live) ≡ is_some live
target_live_so r None = refl
target_live_so r (Some s) = refl

pub target_so : (set : Setting) (state : TargetStanding) (v : TargetView) → Some v ≡ kept_by state → (is_some v.live ≡ waits_in state) × (v.end.retries ≡ retries_in state)
target_so set (Is_up r) v is = (ap (λ (x : TargetView). is_some x.live) (same is) ∙ target_live_so r r.live, ap (λ (x : TargetView). x.end.retries) (same is))
  where
    same : {x y : TargetView} → Some x ≡ Some y → x ≡ y
    same h = cc
target_so set (Is_down active interrupted) v is = absurd cc

-- the side that didn't post it
posted_by_target : (s : Side) → sides.Loader ≡ other s → s ≡ sides.Target
posted_by_target sides.Loader e = absurd cc
posted_by_target sides.Target e = refl

posted_by_loader : (s : Side) → sides.Target ≡ other s → s ≡ sides.Loader
posted_by_loader sides.Loader e = refl
posted_by_loader sides.Target e = absurd cc

module _ (set : Setting) (first : StandingView) (steps : List Step) (before : List DatagramView) (from w : World) (tied : IsWorldOf set steps before w) (leads : Leads (setting_from set first) from w) where
  since_is : (n : ℕ) (d : DatagramView) → length before < n → numbered (posted_in steps) n ≡ Some d → Contains w.posts d
  since_is n d above found = posted_since before w.posts n d above (ap (λ (ds : List DatagramView). numbered ds n) tied.posted_is ∙ found)

  tick_loader : (b : Bool) → waits w sides.Loader ≡ b → (waiting set sides.Loader steps ≡ true → retries_after set steps sides.Loader < 5) → Leads (setting_from set first) from (at_loader set w Ticks)
  tick_loader true is up =
      let live : waiting set sides.Loader steps ≡ true = sym (live_so (loader_at set steps).end (loader_at set steps).live) ∙ sym (ap (λ (v : LoaderView). is_some v.live) tied.loader_is) ∙ is in
      let retries : w.loader.end.retries ≡ retries_after set steps sides.Loader = ap (λ (v : LoaderView). v.end.retries) tied.loader_is in
      ticks w sides.Loader leads is (subst (λ (n : ℕ). n < 5) (sym retries) (up live))
  tick_loader false is up = subst (λ (x : World). Leads (setting_from set first) from x) (sym (idle_loader set w (none_is w.loader.live is))) leads

  tick_target : (b : Bool) → waits w sides.Target ≡ b → (waiting set sides.Target steps ≡ true → retries_after set steps sides.Target < 5) → Leads (setting_from set first) from (at_target set w Ticks)
  tick_target true is up =
      let (live, retries) = target_so set (target_at set steps) w.target tied.target_is in
      ticks w sides.Target leads is (subst (λ (n : ℕ). n < 5) (sym retries) (up (sym live ∙ is)))
  tick_target false is up = subst (λ (x : World). Leads (setting_from set first) from x) (sym (idle_target set w (none_is w.target.live is))) leads

  no_event : Leads (setting_from set first) from (stepped set w None None)
  no_event = subst (λ (x : World). Leads (setting_from set first) from x) (sym (nothing_comes set w)) leads

  step_leads : (given : HappeningView) → IsNoInjection given → IsNoStart given → IsUndisturbed (length before) given → IsHonest (posted_in steps) given → GivesNoneUp set given steps
      → Leads (setting_from set first) from (stepped set w (event_for sides.Loader (posted_in steps) given) (event_for sides.Target (posted_in steps) given))
  step_leads (Delivered sides.Loader n) a b above (d, found, to) up =
      let e : stepped set w (gets (numbered (posted_in steps) n)) None ≡ delivered set w d
      = ap (λ (m : Option DatagramView). stepped set w (gets m) None) found ∙ loader_alone set w (Gets d.from d.to d.bytes) ∙ ap (λ (s : Side). delivered_to set w s (Gets d.from d.to d.bytes)) (sym (posted_by_target d.side to)) in
      subst (λ (x : World). Leads (setting_from set first) from x) (sym e) (delivers w d leads (since_is n d above found))
  step_leads (Delivered sides.Target n) a b above (d, found, to) up =
      let e : stepped set w None (gets (numbered (posted_in steps) n)) ≡ delivered set w d
      = ap (λ (m : Option DatagramView). stepped set w None (gets m)) found ∙ ap (λ (s : Side). delivered_to set w s (Gets d.from d.to d.bytes)) (sym (posted_by_loader d.side to)) in
      subst (λ (x : World). Leads (setting_from set first) from x) (sym e) (delivers w d leads (since_is n d above found))
  step_leads (Lost n) a b c honest up = no_event
  step_leads (Injected d) a b c honest up = absurd a
  step_leads (Ticked sides.Loader) a b c honest up = subst (λ (x : World). Leads (setting_from set first) from x) (sym (loader_alone set w Ticks)) (tick_loader (waits w sides.Loader) refl up)
  step_leads (Ticked sides.Target) a b c honest up = tick_target (waits w sides.Target) refl up
  step_leads (Size_told size) a b c honest up = subst (λ (x : World). Leads (setting_from set first) from x) (sym (both_told set w size)) (tells w size leads)
  step_leads (Power_cut calls pick) a b c honest up = absurd c
  step_leads Booted a b c honest up = absurd c
  step_leads (Info_started hw pos) a b c honest up = absurd b
  step_leads (Upload_started hw pos parts) a b c honest up = absurd b
  step_leads Ended a b c honest up = no_event

-- ---- the steps since the start

pub record LedTo (set : Setting) (first : StandingView) (steps : List Step) (before : List DatagramView) (from : World) : Type 0 where
  w : World
  is : IsWorldOf set steps before w
  leads : Leads (setting_from set first) from w

since_leads : StepKeepsTie → (set : Setting) (first : StandingView) (since base : List Step) (before : List DatagramView) (from : World) → LedTo set first base before from → AllDue set (since ++ base) → AllHonest (since ++ base) → NothingInjected (since ++ base)
    → AllByRecursion (IsSmooth (length before)) since → NoneGivesUp set since base → LedTo set first (since ++ base) before from
since_leads keeps set first [] base before from led due honest injected smooth up = led
since_leads keeps set first (s ∷ since) base before from led due honest injected smooth up =
    let led_so = since_leads keeps set first since base before from led due.1 honest.1 injected.1 smooth.1 up.1 in
    record {
      w = stepped set led_so.w (event_for sides.Loader (posted_in (since ++ base)) s.given) (event_for sides.Target (posted_in (since ++ base)) s.given);
      is = step_tied keeps set (since ++ base) before led_so.w s led_so.is smooth.0.stays_up due;
      leads = step_leads set first (since ++ base) before from led_so.w led_so.is led_so.leads s.given injected.0 smooth.0.no_start smooth.0.undisturbed honest.0 up.0;
    }

-- ---- the start

up_is : (state : TargetStanding) (ports : ℕ) → IsReadyFor state ports → (r : TargetReading) × (state ≡ Is_up r)
up_is (Is_up r) ports ready = (r, refl)
up_is (Is_down active interrupted) ports ready = absurd ready

due_before : (set : Setting) (since base : List Step) → AllDue set (since ++ base) → AllDue set base
due_before set [] base due = due
due_before set (s ∷ since) base due = due_before set since base due.1

pub fault_free_runs_lead : StepKeepsTie → FaultFreeRunsLead
fault_free_runs_lead keeps set steps free due honest =
    let (r, is_up) = up_is (target_at set free.before) (ports_for free.loads) free.target_ready in
    let due_so : AllDue set (free.since ++ free.start ∷ free.before) = subst (λ (ss : List Step). AllDue set ss) free.split due in
    let found : World = record { loader = loader_view (loader_at set free.before); target = target_view r; posts = [] } in
    let from_start = due_before set free.since (free.start ∷ free.before) due_so in
    let was : IsWorldOf set free.before (posted_in free.before) found = record { loader_is = refl; target_is = sym (ap (λ (x : TargetStanding). kept_by x) is_up); posted_is = append-nil (posted_in free.before); due = from_start.1 } in
    let is_start : stepped set found (event_for sides.Loader (posted_in free.before) free.start.given) (event_for sides.Target (posted_in free.before) free.start.given) ≡ started set free.parts found
    = ap (λ (h : HappeningView). stepped set found (event_for sides.Loader (posted_in free.before) h) (event_for sides.Target (posted_in free.before) h)) free.starts
    ∙ loader_alone set found (Starts_upload set.start.identity.hw set.start.identity.pos free.parts) in
    let first = step_tied keeps set free.before (posted_in free.before) found free.start was free.stays_up from_start in
    let led = since_leads keeps set (active_at set free.before) free.since (free.start ∷ free.before) (posted_in free.before) (started set free.parts found)
    (record { w = started set free.parts found; is = subst (λ (x : World). IsWorldOf set (free.start ∷ free.before) (posted_in free.before) x) is_start first; leads = begins }) due_so
    (subst (λ (ss : List Step). AllHonest ss) free.split honest) (subst (λ (ss : List Step). NothingInjected ss) free.split free.injected) free.smooth (fault_free_gives_none_up set steps free) in
    record {
      found = found;
      none_posted = refl;
      was = was;
      now = led.w;
      is = subst (λ (ss : List Step). IsWorldOf set ss (posted_in free.before) led.w) (sym free.split) led.is;
      leads = led.leads;
    }

active_is_target : (set : Setting) (state : TargetStanding) → HasTarget set state → (active_in state).identity ≡ set.start.identity
active_is_target set (Is_up r) has = has
active_is_target set (Is_down active interrupted) has = has.0

pub fault_free_runs_complete : StepKeepsTie → ChangesAreNew → QuietIsIdle → GoodUploadsComplete → FaultFreeRunsComplete
fault_free_runs_complete keeps changes quiet complete set steps free is permits named margin =
    let run = fault_free_runs_lead keeps set steps free is.due is.honest in
    let loader : retries_at run.now sides.Loader ≤ 2 = subst (λ (n : ℕ). n ≤ 2) (sym (ap (λ (v : LoaderView). v.end.retries) run.is.loader_is)) margin.loader in
    let target : retries_at run.now sides.Target ≤ 2 = subst (λ (n : ℕ). n ≤ 2) (sym (target_so set (target_at set steps) run.now.target run.is.target_is).1) margin.target in
    let were = uninjected_before set (free.since ++ free.start ∷ []) free.before (subst (λ (ss : List Step). IsUninjected set ss) (free.split ∙ sym (append_assoc free.since (free.start ∷ []) free.before)) is) in
    let idle = quiet set free.before (ports_for free.loads) run.found were free.quiet free.loader_ports free.target_ready run.none_posted run.was in
    let same : (active_at set free.before).identity ≡ set.start.identity = active_is_target set (target_at set free.before) (has_target set free.before (changes set free.before permits were.carries)) in
    let leads = subst (λ (id : Identity). Leads (setting_after set free.before) (at_loader set run.found (Starts_upload id.hw id.pos free.parts)) run.now) (sym same) run.leads in
    let own_files = subst (λ (id : Identity). (kind : FileKind) → IsName (file_name id.hw id.pos kind)) (sym same) named.own_files in (
      run.now,
      run.is,
      λ queue first among. complete (setting_after set free.before) free.parts free.wanted free.loads run.found run.now queue first
          (record { idle = idle; some = free.some; few = free.few; on_media = free.on_media; served = free.served; entries = named.entries; own_files = own_files; bytes = named.bytes }) leads loader target among,
    )
  where
    uninjected_before : (set : Setting) (since base : List Step) → IsUninjected set (since ++ base) → IsUninjected set base
    uninjected_before set [] base is = is
    uninjected_before set (s ∷ since) base is = uninjected_before set since base (record { due = is.due.1; noted = is.noted.1; honest = is.honest.1; injected = is.injected.1; carries = is.carries.1 })
