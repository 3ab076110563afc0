-- Where the target stops a session, the verdict was given since the session's start, in the session that it began.
use Rattle.std.proofs.Common.{◌≡◌, ◌⊎◌, inl, inr, ℕ, ◌<◌, true, false, List, [], ◌∷◌, ◌++◌, Option, Some, None, refl, sym, ap, subst, ◌∙◌}
use Rattle.load_base.specs.Text.{IsText}
use Rattle.exchange_trace.specs.declared.trace.Side.TheVariants as sides
use Rattle.exchange_trace.specs.Logs.{Event, Learns, Starts_upload, event_for, loader_log}
use Rattle.exchange_trace.specs.Posts.{posted_in}
use Rattle.exchange_trace.specs.Steps.{Step}
use Rattle.transfer_end.proofs.OtherEndLemmas.{among_left, among_right}
use Rattle.transfer_end.specs.OtherEnds.{Among, MovesStayFair, OwnPortsRise, is_asking}
use Rattle.transfer_end.specs.Transfers.{Role, Transfer}
use Rattle.session_rules.specs.declared.outcome.Outcome.TheVariants.{TargetStopped}
use Rattle.session_rules.proofs.BufferLemmas.{SumsJoin}
use Rattle.session_rules.specs.Loader.{EndedSession, Start}
use Rattle.session_rules.specs.LoaderLog.{SessionLog}
use Rattle.session_rules.specs.LoaderRoles.{IsOfLoaderRow, LoaderLiveFits, loader_row}
use Rattle.session_rules.specs.LoaderRows.{LoaderRow, Reads_lci, Reads_lui, Serves_files, Takes_lcl, Takes_lcs, Takes_lus, Writes_lur}
use Rattle.session_rules.specs.OwnSessions.{HasComeTo, RequestWritten}
use Rattle.session_rules.specs.Reports.{reason_text}
use Rattle.replay_rules.specs.BothEnds.{Setting, TargetStanding, loader_at, reached, target_at}
use Rattle.replay_rules.specs.OtherEndTraces.{IsUninjected, former_at, loader_transfers, target_transfers, transfers_of}
use Rattle.replay_rules.specs.OwnSessionTraces.{NoneStarts}
use Rattle.replay_rules.proofs.AnsweredLater.{after, all_before, one_before}
use Rattle.replay_rules.proofs.AskedFor.{given_starts}
use Rattle.replay_rules.proofs.EachBefore.{IsOver, over_at}
use Rattle.replay_rules.proofs.ListedTraces.{only_loader, reached_none, takes_receives}
use Rattle.replay_rules.proofs.NewestStart.{AnsweredBelow, EndsNewest, StartedAt, ends_newest, older_ones, rise_apart}
use Rattle.replay_rules.proofs.OtherEnd.{HasOther}
use Rattle.replay_rules.proofs.SentTraces.{TraceIsFair, trace_is_fair}
use Rattle.replay_rules.specs.Causes.{FailsFor, IsStoppedByVerdict, WasBegunSince}
use Rattle.replay_rules.proofs.Arrived.{EndedByTarget}
use Rattle.session_rules.proofs.LoaderRoleLemmas.{IsInfoRow}
use Rattle.replay_rules.proofs.FirstAnswer.{HasRead, StartsUpload, files_answer, upload_started}
use Rattle.replay_rules.proofs.ServedSince.{not_there, posted_still}
use Rattle.replay_rules.proofs.SinceStart.{CameSince, came_since}
use Rattle.replay_rules.proofs.StatusRows as rows
use Rattle.replay_rules.proofs.StopsOver.{FailedAfter, StopsOver, target_stops_over}
use Rattle.replay_rules.proofs.TargetFiles.{BeginsWell}
use Rattle.replay_rules.proofs.TargetRoles.{IsWriting}

-- a row in which the loader takes or serves files of an upload
abbrev pub IsLusRow : LoaderRow → Type 0
IsLusRow Takes_lus = Unit {0}
IsLusRow Serves_files = Unit {0}
IsLusRow row = ⊥

not_info : (row : LoaderRow) → IsLusRow row → IsInfoRow row → ⊥
not_info Takes_lus lus info = info
not_info Serves_files lus info = info
not_info Reads_lci lus info = lus
not_info Takes_lcs lus info = lus
not_info Takes_lcl lus info = lus
not_info Reads_lui lus info = lus
not_info Writes_lur lus info = lus

serves : (start : Start) (row : LoaderRow) (role : Role) → IsLusRow row → IsOfLoaderRow start row role → is_asking role ≡ false
serves start Takes_lus role lus is = (takes_receives _ role is).1
serves start Serves_files role lus is = is
serves start Reads_lci role lus is = absurd lus
serves start Takes_lcs role lus is = absurd lus
serves start Takes_lcl role lus is = absurd lus
serves start Reads_lui role lus is = absurd lus
serves start Writes_lur role lus is = absurd lus

rises_above : (ts : List Transfer) (t : Transfer) → OwnPortsRise ts → Among t ts → 59 < t.own
rises_above [] t rise a = absurd a
rises_above (u ∷ ts) t (low, below, rise) (inl same) = subst (λ (x : Transfer). 59 < x.own) same low
rises_above (u ∷ ts) t (low, below, rise) (inr a) = rises_above ts t rise a

module _ (joins : SumsJoin) (moves : MovesStayFair) (set : Setting) (hw : BeginsWell set.start.identity.hw) (s : Step) (earlier : List Step) (is : IsUninjected set (s ∷ earlier)) (text : List ℕ) (session : EndedSession)
    (grows : (loader_at set (s ∷ earlier)).ended ≡ session ∷ (loader_at set earlier).ended) (h : EndedByTarget set s earlier (TargetStopped text)) (lus : IsLusRow (loader_row h.arrived.ends.session)) where
  abbrev own_log : SessionLog
  own_log = h.arrived.ends.session

  abbrev ended : Transfer
  ended = h.arrived.ends.transfer

  abbrev n : EndsNewest set s earlier own_log h.arrived.ends.live ended
  n = ends_newest joins moves set s earlier is h.event h.comes h.arrived.ends

  upload : StartsUpload n.own.event
  upload = upload_started set.media n.own.event own_log n.own.started (not_info (loader_row own_log) lus)

  -- all that was over before the session
  abbrev older : List Transfer
  older = older_ones set.media (loader_log earlier) own_log n.own

  live_serves : is_asking h.arrived.ends.live.role ≡ false
  live_serves = serves own_log.start (loader_row own_log) h.arrived.ends.live.role lus (subst (λ (live : Option Transfer). LoaderLiveFits own_log.start (loader_row own_log) live) h.arrived.ends.going n.roles.0)

  target_is : target_transfers set s earlier ≡ transfers_of (target_at set earlier) ++ former_at set earlier
  target_is = ap (λ (state : TargetStanding). transfers_of state ++ former_at set earlier) (ap (λ (x : Option Event). reached set x (target_at set earlier)) h.alone ∙ reached_none set (target_at set earlier))

  pub over : IsOver (StopsOver set earlier) (transfers_of (target_at set earlier) ++ former_at set earlier) h.other
  over = over_at (StopsOver set earlier) (transfers_of (target_at set earlier) ++ former_at set earlier) h.other (target_stops_over joins set hw earlier) h.among

  abbrev start_at : StartedAt earlier n.own.event n.own.before
  start_at = n.start

  comes_at : event_for sides.Loader (posted_in start_at.before) start_at.start.given ≡ Some (Starts_upload upload.hw upload.pos upload.parts)
  comes_at = start_at.comes ∙ ap (λ (x : Event). Some x) upload.is

  starts_not : (size : Option ℕ) → n.own.event ≡ Learns size → ⊥
  starts_not size learns = let wrong : Starts_upload upload.hw upload.pos upload.parts ≡ Learns size = sym upload.is ∙ learns in cc

  fair_there : TraceIsFair set start_at.before
  fair_there = trace_is_fair joins moves set start_at.before (one_before set start_at.start start_at.before (all_before set start_at.since (start_at.start ∷ start_at.before) (subst (λ (x : List Step). IsUninjected set x) start_at.split (one_before set s earlier is))))

  fair_earlier : TraceIsFair set earlier
  fair_earlier = trace_is_fair joins moves set earlier (one_before set s earlier is)

  -- what reached the target in the start's step is nothing
  at_start : (t : Transfer) → Among t (target_transfers set start_at.start start_at.before) → Among t (transfers_of (target_at set start_at.before) ++ former_at set start_at.before)
  at_start t a =
      subst (λ (state : TargetStanding). Among t (transfers_of state ++ former_at set start_at.before)) (reached_none set (target_at set start_at.before))
      (subst (λ (x : Option Event). Among t (transfers_of (reached set x (target_at set start_at.before)) ++ former_at set start_at.before)) (only (only_loader (posted_in start_at.before) start_at.start.given n.own.event start_at.comes)) a)
    where
      only : (event_for sides.Target (posted_in start_at.before) start_at.start.given ≡ None) ⊎ ((size : Option ℕ) × (n.own.event ≡ Learns size)) → event_for sides.Target (posted_in start_at.before) start_at.start.given ≡ None
      only (inl none) = none
      only (inr (size, learns)) = absurd (starts_not size learns)

  module _ (file : List ℕ) (failed : FailedAfter set earlier over.earlier file) (tells : IsText (reason_text failed.reason) → text ≡ reason_text failed.reason) where
    -- a session that stops took a request, so the loader wrote one
    files : loader_row own_log ≡ Serves_files
    files = by (loader_row own_log) refl lus
      where
        by : (row : LoaderRow) → loader_row own_log ≡ row → IsLusRow row → loader_row own_log ≡ Serves_files
        by Serves_files e here = e
        by Takes_lus e here = absurd (rows.taking_not joins moves set s earlier is (TargetStopped text) h live_serves (StopsOver set earlier) over e failed.taken)
        by Reads_lci e here = absurd here
        by Takes_lcs e here = absurd here
        by Takes_lcl e here = absurd here
        by Reads_lui e here = absurd here
        by Writes_lur e here = absurd here

    written : RequestWritten own_log.start n.own.mine
    written = subst (λ (row : LoaderRow). HasComeTo own_log.start row n.own.mine) files n.own.come_to

    writes : IsWriting written.request.role
    writes = rows.lur_writes own_log.start written.request.role written.writes

    asks : is_asking written.request.role ≡ true
    asks = rows.writing_asks written.request.role writes

    asked : Among written.request n.own.mine
    asked = subst (λ (ts : List Transfer). Among written.request ts) (sym written.split) (among_right written.request written.since (written.request ∷ written.before) (inl refl))

    read : HasRead n.own.mine
    read = files_answer set.media (loader_log earlier) own_log h.arrived.ends.was_live files n.own

    -- the transfer of the target that took its request
    abbrev taken : AnsweredBelow set s earlier ended written.request
    taken = rows.taken joins moves set s earlier is (TargetStopped text) h live_serves (StopsOver set earlier) over written.since written.request written.before written.split written.serves asks written.packet written.heard written.no_error

    -- the answer began before that file
    f_made : Among taken.answer (target_transfers set failed.failed failed.before)
    f_made =
        subst (λ (ts : List Transfer). Among taken.answer ts) (sym failed.transfers)
        (inr (rows.v_earlier joins moves set s earlier is (TargetStopped text) h live_serves (StopsOver set earlier) over written.since written.request written.before written.split written.serves asks written.packet written.heard written.no_error))

    came : CameSince earlier start_at.start start_at.before start_at.since failed.since failed.failed failed.before
    came = came_since joins moves set s earlier is own_log h.arrived.ends.live ended n written.request asked taken starts_not failed.since failed.failed failed.before failed.split f_made

    -- ---- the session of the target

    abbrev first : Transfer
    first = failed.begun.first

    began : HasOther n.own.mine first
    began =
        rows.began_own joins moves set s earlier is (TargetStopped text) h live_serves (StopsOver set earlier) over written.since written.request written.before written.split written.serves asks written.packet written.heard written.no_error
        writes read failed.session.done failed.begun

    loader_has : Among began.other (loader_transfers set (s ∷ earlier))
    loader_has = subst (λ (ts : List Transfer). Among began.other ts) (sym n.transfers) (inr (among_left began.other n.own.mine older began.among))

    first_there : Among first (transfers_of (target_at set earlier) ++ former_at set earlier)
    first_there =
        subst (λ (ts : List Transfer). Among first ts) (sym over.split)
        (among_right first over.newer (h.other ∷ over.earlier) (inr (subst (λ (ts : List Transfer). Among first ts) (sym failed.begun.split) (among_right first failed.begun.since (first ∷ failed.begun.older) (inl refl)))))

    newer : (t : Transfer) → Among t (loader_transfers set start_at.before) → t.own < began.other.own
    newer t a = rise_apart n.own.mine older began.other t n.rises.2 began.among (n.before_start t a)

    still : (d : _) → Among d (posted_in start_at.before) → Among d (posted_in earlier)
    still d a = subst (λ (x : List Step). Among d (posted_in x)) (sym start_at.split) (posted_still start_at.since (start_at.start ∷ start_at.before) d (posted_still (start_at.start ∷ []) start_at.before d a))

    begun : WasBegunSince set (s ∷ earlier) start_at.start start_at.before failed.session
    begun = record {
      first = first;
      rest = failed.begun.rest;
      done = failed.begun.is;
      request = began.other;
      asked = loader_has;
      answers = began.answers;
      port = began.port;
      back = began.back;
      asked_since = newer;
      served_since = λ t a own.
          not_there (transfers_of (target_at set start_at.before) ++ former_at set start_at.before) (loader_transfers set start_at.before) (transfers_of (target_at set earlier) ++ former_at set earlier) (loader_transfers set earlier)
          (posted_in start_at.before) (posted_in earlier) fair_there.target.one fair_there.target.other_one fair_earlier.target.one still first first_there began.answers.serves began.other.own began.port above newer t (at_start t a) own;
    }
      where
        above : 59 < began.other.own
        above = rises_above (loader_transfers set (s ∷ earlier)) began.other (after joins moves set s earlier is).other_one.ports loader_has

    -- ---- the steps

    pub stopped_in_session : IsStoppedByVerdict set (s ∷ earlier) text
    stopped_in_session = record {
      since = s ∷ failed.since;
      failed = failed.failed;
      between = came.between;
      start = start_at.start;
      before = start_at.before;
      hw = upload.hw;
      pos = upload.pos;
      parts = upload.parts;
      session = session;
      failing = failed.session;
      reason = failed.reason;
      split = ap (λ (z : List Step). s ∷ z) (failed.split ∙ ap (λ (z : List Step). failed.since ++ failed.failed ∷ z) came.split);
      starts = given_starts (posted_in start_at.before) start_at.start.given upload.hw upload.pos upload.parts comes_at;
      newest = (n.no_start, subst NoneStarts came.newest start_at.newest);
      one = grows ∙ ap (λ (z : List EndedSession). session ∷ z) (sym n.ended_then);
      fails = subst (λ (z : List Step). FailsFor (target_at set (failed.failed ∷ z)) failed.session failed.reason) came.split failed.fails;
      begun = begun;
      tells = tells;
    }
