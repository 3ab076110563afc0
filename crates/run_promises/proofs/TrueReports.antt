-- Proofs that what a target reports as installed is what it installed.
use Rattle.std.proofs.Common.{◌≡◌, inl, inr, ℕ, ◌+◌, Bool, true, false, cond, List, [], ◌∷◌, Option, Some, None, refl, sym, ap, subst, ◌∙◌, arith}
use Rattle.std.specs.Prelude.{◌==◌}
use Rattle.std.proofs.lemmas.Bool.{eqb-true}
use Rattle.load_base.specs.Config.{LoadView}
use Rattle.disk_layout.specs.Holds.{StandingView}
use Rattle.exchange_trace.specs.declared.trace.Side.TheVariants as sides
use Rattle.exchange_trace.specs.Happenings.{DatagramView, HappeningView}
use Rattle.exchange_trace.specs.Logs.{Event, event_for}
use Rattle.exchange_trace.specs.Posts.{posted_in}
use Rattle.exchange_trace.specs.Steps.{Boot_refused, Came_up, Note, Step, Went_down}
use Rattle.transfer_end.specs.Readings.{Reading}
use Rattle.transfer_end.specs.Transfers.{Transfer}
use Rattle.accept_rules.specs.Permissions.{Accepts}
use Rattle.session_rules.specs.declared.reason.Reason.{Reason}
use Rattle.session_rules.proofs.BufferLemmas.{SumsJoin}
use Rattle.session_rules.specs.LoaderLog.{newest}
use Rattle.session_rules.proofs.ReadFileLemmas.{session_is}
use Rattle.session_rules.specs.SoundLogs.{IsNewAt, StaysOrIsNew}
use Rattle.session_rules.specs.Target as target
use Rattle.session_rules.proofs.TargetLemmas.{after}
use Rattle.session_rules.specs.TargetLog.{TargetReading, TargetSessionLog, new_session, standing_after, standing_in, target_extended, target_reading_changed, target_view, with_done}
use Rattle.session_rules.specs.TargetRows.{Gives_denial, Gives_lui, UploadEnd, WholeRow, Writes_completion, first_row}
use Rattle.session_rules.specs.declared.outcome.FileKind.{FileKind}
use Rattle.session_rules.specs.declared.outcome.FileKind.TheVariants as kinds
use Rattle.replay_rules.specs.BothEnds.{Is_down, Is_up, Setting, TargetStanding, changed, come_up, gone_down, noted, reached, target_at}
use Rattle.replay_rules.specs.Changes.{AllStayOrAreNew, ChangesAreNew, TargetStaysOrIsNew}
use Rattle.replay_rules.specs.Histories.{active_in, may_be_active}
use Rattle.replay_rules.proofs.TieLemmas.{HasLive, target_is_live}
use Rattle.run_promises.specs.Reports.{AllReportsAreTrue, HasSession, IsReport, ReportIsTrue, ReportsAreTrue, ReportsCompletion}
use Rattle.run_promises.proofs.Reporting.{IsCompleted, next_sequence, reading, step_completes}

-- ---- a target that goes down has no session

abbrev HasNone : TargetStanding → Type 0
HasNone (Is_up r) = r.live ≡ None × r.end.live ≡ None
HasNone (Is_down active interrupted) = Unit {0}

gone_none : (before after : TargetStanding) → HasNone (gone_down before after)
gone_none (Is_up r) (Is_up s) = tt
gone_none (Is_up r) (Is_down active interrupted) = tt
gone_none (Is_down active interrupted) after = tt

come_none : (first_port sequence : ℕ) (state : TargetStanding) → HasNone state → HasNone (come_up first_port sequence state)
come_none first_port sequence (Is_up r) none = none
come_none first_port sequence (Is_down active interrupted) none = (refl, refl)

noted_none : (notes : List Note) (before after : TargetStanding) → HasNone after → HasNone (noted notes before after)
noted_none [] before after none = none
noted_none (Went_down ∷ notes) before after none = noted_none notes (gone_down before after) (gone_down before after) (gone_none before after)
noted_none (Came_up first_port sequence ∷ notes) before after none =
    let up = come_up first_port sequence (gone_down before after) in noted_none notes up up (come_none first_port sequence (gone_down before after) (gone_none before after))
noted_none (Boot_refused fault ∷ notes) before after none = noted_none notes (gone_down before after) (gone_down before after) (gone_none before after)

one_noted : (note : Note) (notes : List Note) (before after : TargetStanding) → HasNone (noted (note ∷ notes) before after)
one_noted Went_down notes before after = noted_none notes (gone_down before after) (gone_down before after) (gone_none before after)
one_noted (Came_up first_port sequence) notes before after =
    let up = come_up first_port sequence (gone_down before after) in noted_none notes up up (come_none first_port sequence (gone_down before after) (gone_none before after))
one_noted (Boot_refused fault) notes before after = noted_none notes (gone_down before after) (gone_down before after) (gone_none before after)

-- the target is up, and its session is in the row in which it reports that all is installed
abbrev CompletedAt : TargetStanding → Type 0
CompletedAt (Is_up r) = IsCompleted r
CompletedAt (Is_down active interrupted) = ⊥

no_session : (r : TargetReading) → r.live ≡ None → IsCompleted r → ⊥
no_session r none c = let wrong : None ≡ Some c.session = sym none ∙ c.live in cc

none_completed : (state : TargetStanding) → HasNone state → CompletedAt state → ⊥
none_completed (Is_up r) (none, free) c = no_session r none c
none_completed (Is_down active interrupted) none c = c

none_reports : (state : TargetStanding) → HasNone state → ReportsCompletion state → ⊥
none_reports (Is_up r) (none, free) h = subst IsReport free h
none_reports (Is_down active interrupted) none h = h

-- ---- a report is written in the row of the report

module _ (joins : SumsJoin) (set : Setting) where
  reached_completes : (state : TargetStanding) (e : Option Event) → HasLive state → (ReportsCompletion state → CompletedAt state) → ReportsCompletion (reached set e state) → CompletedAt (reached set e state)
  reached_completes (Is_up r) None going before h = before h
  reached_completes (Is_up r) (Some e) going before h = step_completes set.accepts joins r e going before h
  reached_completes (Is_down active interrupted) None going before h = before h
  reached_completes (Is_down active interrupted) (Some e) going before h = before h

  noted_completes : (notes : List Note) (before after : TargetStanding) → (ReportsCompletion after → CompletedAt after) → ReportsCompletion (noted notes before after) → CompletedAt (noted notes before after)
  noted_completes [] before after completes h = completes h
  noted_completes (note ∷ notes) before after completes h = absurd (none_reports (noted (note ∷ notes) before after) (one_noted note notes before after) h)

  reports_completed : (steps : List Step) → ReportsCompletion (target_at set steps) → CompletedAt (target_at set steps)
  reports_completed [] h = absurd h
  reports_completed (s ∷ earlier) h =
      noted_completes s.notes (target_at set earlier) (reached set (event_for sides.Target (posted_in earlier) s.given) (target_at set earlier))
      (reached_completes (target_at set earlier) (event_for sides.Target (posted_in earlier) s.given) (target_is_live joins set earlier) (reports_completed earlier)) h

-- ---- in that row the session's own configuration is active

no_first_row : (kind : FileKind) (sequence : ℕ) (upload : UploadEnd) (loads : List LoadView) → ◌≡◌ {A = WholeRow} (first_row kind sequence) (Writes_completion upload loads) → ⊥
no_first_row kinds.Lui sequence upload loads e = by (sequence == 4294967295) e
  where
    by : (b : Bool) → ◌≡◌ {A = WholeRow} (cond b Gives_denial Gives_lui) (Writes_completion upload loads) → ⊥
    by true f = cc
    by false f = cc
no_first_row kinds.Lci sequence upload loads e = cc
no_first_row kinds.Lcl sequence upload loads e = cc
no_first_row kinds.Lcs sequence upload loads e = cc
no_first_row kinds.Lur sequence upload loads e = cc
no_first_row kinds.Lus sequence upload loads e = cc

one_more : (n : ℕ) (b : Bool) → (n == n + 1) ≡ b → b ≡ false
one_more n true e = let same : n ≡ n + 1 = eqb-true n (n + 1) e in absurd (omega (arith, same))
one_more n false e = refl

brings_next : (before after : StandingView) (loads : List LoadView) → after ≡ standing_after before loads → changed before after ≡ Some after
brings_next before after loads is =
    ap (λ (b : Bool). cond b None (Some after)) (ap (λ (x : StandingView). before.sequence == x.sequence) is ∙ one_more before.sequence (before.sequence == before.sequence + 1) refl)

not_begun : (later : TargetReading) (kind : FileKind) (sequence : ℕ) → IsCompleted later → later.live ≡ Some (new_session kind sequence) → ⊥
not_begun later kind sequence c live =
    let is : new_session kind sequence ≡ c.session = session_is (new_session kind sequence) c.session (sym live ∙ c.live) in
    no_first_row kind sequence c.upload c.loads (ap (λ (s : TargetSessionLog). s.row) is ∙ c.row)

-- how a session comes to that row, or stays in it
data Completing (accepts : Accepts) (before later : TargetReading) : Type 0 where
  stays : later.live ≡ before.live → later.active ≡ before.active → Completing accepts before later
  turns : (s : TargetSessionLog) → before.live ≡ Some s → later.live ≡ Some (with_done accepts before.active s (newest later.end.past))
      → later.active ≡ standing_in before.active (with_done accepts before.active s (newest later.end.past)).row → Completing accepts before later

completing : (accepts : Accepts) (end then : Reading) (live : Option TargetSessionLog) (active : StandingView) (reason : Option Reason) (change : target.TargetChange)
    → IsCompleted (target_reading_changed accepts then (reading end live active reason) change)
    → Completing accepts (reading end live active reason) (target_reading_changed accepts then (reading end live active reason) change)
completing accepts end then live active reason (target.Continues more) c = stays refl refl
completing accepts end then live active reason (target.Begins kind) c =
    absurd (not_begun (target_reading_changed accepts then (reading end live active reason) (target.Begins kind)) kind active.sequence c refl)
completing accepts end then None active reason (target.Turns move more) c = absurd (no_session _ refl c)
completing accepts end then (Some s) active reason (target.Turns move more) c = turns s refl refl refl
completing accepts end then None active reason (target.Turns_without_port move more) c = absurd (no_session _ refl c)
completing accepts end then (Some s) active reason (target.Turns_without_port move more) c = absurd (no_session _ refl c)
completing accepts end then live active reason (target.Ends why) c = absurd (no_session _ refl c)

module _ (set : Setting) (given : HappeningView) (posts : List DatagramView) (earlier : List Step) where
  abbrev quiet_step : Step
  quiet_step = record { given = given; posts = posts; notes = [] }

  abbrev then : List Step
  then = quiet_step ∷ earlier

  -- the report was true before the step, and the session goes on
  still_true : (r later : TargetReading) → target_at set earlier ≡ Is_up r → target_at set then ≡ Is_up later → later.live ≡ r.live → later.active ≡ r.active → ReportIsTrue set earlier → ReportIsTrue set then
  still_true r later up is live active h = record {
    since = quiet_step ∷ h.since;
    install = h.install;
    before = h.before;
    loads = h.loads;
    new = h.new;
    session = h.session;
    upload = h.upload;
    split = ap (λ (x : List Step). quiet_step ∷ x) h.split;
    brought = h.brought;
    stays_up = (refl, h.stays_up);
    installed = h.installed;
    reports = subst (λ (state : TargetStanding). HasSession state h.session) (sym is) (live ∙ subst (λ (state : TargetStanding). HasSession state h.session) up h.reports);
    completes = h.completes;
    asked = h.asked;
    made = h.made;
    only = ap may_be_active is ∙ (ap (λ (s : StandingView). s ∷ []) active ∙ (sym (ap may_be_active up) ∙ h.only));
  }

  module _ (r : TargetReading) (e : Event) (up : target_at set earlier ≡ Is_up r) (comes : event_for sides.Target (posted_in earlier) given ≡ Some e) where
    abbrev later : TargetReading
    later = target_extended set.accepts r e

    state_is : target_at set then ≡ Is_up later
    state_is = ap (λ (state : TargetStanding). reached set (event_for sides.Target (posted_in earlier) given) state) up ∙ ap (λ (x : Option Event). reached set x (Is_up r)) comes

    -- the step installs
    installs_now : (s : TargetSessionLog) → r.live ≡ Some s → later.live ≡ Some (with_done set.accepts r.active s (newest later.end.past)) → IsNewAt set.accepts r later → ReportIsTrue set then
    installs_now s was live new =
        let session : TargetSessionLog = with_done set.accepts r.active s (newest later.end.past) in
        let sessions : with_done set.accepts r.active new.session (new.ended ∷ []) ≡ session =
        ap (λ (x : TargetSessionLog). with_done set.accepts r.active x (new.ended ∷ [])) (session_is new.session s (sym new.live ∙ was)) ∙ ap (λ (ts : List Transfer). with_done set.accepts r.active s ts) (sym new.is_newest) in
        record {
          since = [];
          install = quiet_step;
          before = earlier;
          loads = new.loads;
          new = later.active;
          session = session;
          upload = new.upload;
          split = refl;
          brought = ap (λ (state : TargetStanding). changed (active_in state) (active_in (reached set (event_for sides.Target (posted_in earlier) given) state))) up
              ∙ ap (λ (x : Option Event). changed r.active (active_in (reached set x (Is_up r)))) comes ∙ brings_next r.active later.active new.loads new.next;
          stays_up = (refl, tt);
          installed = subst (λ (state : TargetStanding). HasSession state session) (sym state_is) live;
          reports = subst (λ (state : TargetStanding). HasSession state session) (sym state_is) live;
          completes = sym (ap (λ (x : TargetSessionLog). x.row) sessions) ∙ new.good;
          asked = new.new.each;
          made = subst (λ (state : TargetStanding). later.active ≡ standing_after (active_in state) new.loads) (sym up) new.next;
          only = ap may_be_active state_is;
        }

    -- what is active changes where the session comes to the row of the report
    not_same : (s : TargetSessionLog) → IsCompleted later → later.live ≡ Some s → later.active ≡ r.active → later.active ≡ standing_in r.active s.row → ⊥
    not_same s c live was is =
        let row : s.row ≡ Writes_completion c.upload c.loads = ap (λ (x : TargetSessionLog). x.row) (session_is s c.session (sym live ∙ c.live)) ∙ c.row in
        next_sequence ⊥ r.active c.loads (sym was ∙ (is ∙ ap (λ (x : WholeRow). standing_in r.active x) row))

    completed_now : (IsCompleted r → ReportIsTrue set earlier) → StaysOrIsNew set.accepts r later → IsCompleted later → Completing set.accepts r later → ReportIsTrue set then
    completed_now before change c (stays live active) =
        still_true r later up state_is live active
        (before (record { session = c.session; live = sym live ∙ c.live; upload = c.upload; loads = c.loads; row = c.row }))
    completed_now before (inl same) c (turns s was live is) =
        absurd (not_same (with_done set.accepts r.active s (newest later.end.past)) c live same is)
    completed_now before (inr new) c (turns s was live is) = installs_now s was live new

module _ (set : Setting) where
  abbrev TrueWhereCompleted : List Step → TargetStanding → Type 0
  TrueWhereCompleted steps state = CompletedAt state → ReportIsTrue set steps

  reached_true : (given : HappeningView) (posts : List DatagramView) (earlier : List Step) (state : TargetStanding) (e : Option Event) → target_at set earlier ≡ state → event_for sides.Target (posted_in earlier) given ≡ e → TrueWhereCompleted earlier state
      → TargetStaysOrIsNew set state (reached set e state) → TrueWhereCompleted (record { given = given; posts = posts; notes = [] } ∷ earlier) (reached set e state)
  reached_true given posts earlier (Is_up r) None up comes before change c =
      let is : target_at set (record { given = given; posts = posts; notes = [] } ∷ earlier) ≡ Is_up r =
      ap (λ (state : TargetStanding). reached set (event_for sides.Target (posted_in earlier) given) state) up ∙ ap (λ (x : Option Event). reached set x (Is_up r)) comes in
      still_true set given posts earlier r r up is refl refl (before c)
  reached_true given posts earlier (Is_up r) (Some e) up comes before change c =
      let d = target.target_decision set.accepts (target_view r) e in
      completed_now set given posts earlier r e up comes before change c (completing set.accepts r.end (after r.end d.moves) r.live r.active r.reason d.change c)
  reached_true given posts earlier (Is_down active interrupted) None up comes before change c = absurd c
  reached_true given posts earlier (Is_down active interrupted) (Some e) up comes before change c = absurd c

  step_true : (given : HappeningView) (posts : List DatagramView) (notes : List Note) (earlier : List Step) → TrueWhereCompleted earlier (target_at set earlier) → AllStayOrAreNew set (record { given = given; posts = posts; notes = notes } ∷ earlier)
      → TrueWhereCompleted (record { given = given; posts = posts; notes = notes } ∷ earlier) (target_at set (record { given = given; posts = posts; notes = notes } ∷ earlier))
  step_true given posts [] earlier before change c = reached_true given posts earlier (target_at set earlier) (event_for sides.Target (posted_in earlier) given) refl refl before change.0 c
  step_true given posts (note ∷ notes) earlier before change c = absurd (none_completed _ (one_noted note notes (target_at set earlier) (reached set (event_for sides.Target (posted_in earlier) given) (target_at set earlier))) c)

  completed_true : (steps : List Step) → AllStayOrAreNew set steps → TrueWhereCompleted steps (target_at set steps)
  completed_true [] change c = absurd (no_session _ refl c)
  completed_true (s ∷ earlier) change c = step_true s.given s.posts s.notes earlier (completed_true earlier change.1) change c

  all_true : SumsJoin → (steps : List Step) → AllStayOrAreNew set steps → AllReportsAreTrue set steps
  all_true joins [] change = tt
  all_true joins (s ∷ earlier) change = (λ reports. completed_true (s ∷ earlier) change (reports_completed joins set (s ∷ earlier) reports), all_true joins earlier change.1)

pub reports_are_true : SumsJoin → ChangesAreNew → ReportsAreTrue
reports_are_true joins changes set steps permits bytes = all_true set joins steps (changes set steps permits bytes)
