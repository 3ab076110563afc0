-- Proofs that completed information sessions list what was active in their own sessions.
use Rattle.std.proofs.Common.{◌≡◌, ◌⊎◌, inl, inr, ⊎_elim, ℕ, false, true, List, [], ◌∷◌, ◌++◌, Option, Some, None, Result, refl, sym, ap, subst, ◌∙◌, cond, Bool}
use Rattle.std.specs.Result.{result_ok}
use Rattle.field_grammar.specs.Answers.{answer}
use Rattle.load_protocol_files.specs.declared.fault.FileFault.{FileFault}
use Rattle.load_protocol_files.specs.Lcl.{LclSpells, LclView, lcl}
use Rattle.disk_layout.specs.Holds.{outline_of}
use Rattle.exchange_trace.specs.declared.trace.Side.TheVariants as sides
use Rattle.exchange_trace.specs.Happenings.{Booted, DatagramView, Delivered, Ended, HappeningView, Info_started, Injected, Lost, Power_cut, Size_told, Ticked, Upload_started, is_same_side}
use Rattle.exchange_trace.specs.Logs.{Event, Gets, Learns, Starts_info, Starts_upload, Ticks, event_for, gets, logged, loader_log}
use Rattle.exchange_trace.specs.Posts.{numbered, posted_in}
use Rattle.exchange_trace.specs.Steps.{Step}
use Rattle.transfer_end.specs.OtherEnds.{Among, AnswersRequest, ComesFromEnd, MovesStayFair, OwnPortsRise, is_asking, of_end, of_none}
use Rattle.transfer_end.specs.Transfers.{Transfer, arrived_of}
use Rattle.session_rules.specs.declared.outcome.FileKind.{FileKind}
use Rattle.session_rules.specs.declared.outcome.FileKind.TheVariants.{Lcl}
use Rattle.session_rules.specs.declared.outcome.Outcome.TheVariants.{Completed}
use Rattle.session_rules.specs.declared.outcome.SessionKind.TheVariants.{Info, Upload}
use Rattle.session_rules.proofs.BufferLemmas.{SumsJoin}
use Rattle.session_rules.specs.Loader.{EndedSession, Start}
use Rattle.session_rules.specs.LoaderLog.{loader_extended, loader_reading}
use Rattle.session_rules.proofs.LoaderRoleLemmas.{completed_lists_arrived, longer}
use Rattle.session_rules.specs.LoaderRoles.{ListsArrived}
use Rattle.session_rules.specs.LoaderRows.{LoaderRow}
use Rattle.session_rules.specs.MediaFiles.{Media}
use Rattle.session_rules.specs.OwnSessions.{HasComeTo, IsStartedBy, WasAnswered}
use Rattle.session_rules.specs.Reports.{lcl_file, lcl_of}
use Rattle.replay_rules.specs.BothEnds.{Setting, TargetStanding, loader_at, reached, target_at}
use Rattle.replay_rules.specs.Histories.{active_at}
use Rattle.replay_rules.specs.ListTraces.{AllCanBeListed, AllListInSession, CompletedListsActive, ListsInSession, OwnFilesAreNamed}
use Rattle.replay_rules.specs.OtherEndTraces.{IsUninjected, former_at, loader_transfers, target_transfers, transfers_of}
use Rattle.replay_rules.specs.OwnSessionTraces.{NoneStarts}
use Rattle.replay_rules.proofs.AnsweredLater.{after, posted_then, one_before}
use Rattle.replay_rules.proofs.EachBefore.{IsOver, over_at}
use Rattle.replay_rules.proofs.ListedBefore.{ListWasDueAfter, WritesOver, target_lists_over}
use Rattle.replay_rules.proofs.ListedTraces.{ListsAreRead, can_be_listed, false_is_true, only_loader, reached_none, takes_receives, written_kind}
use Rattle.replay_rules.proofs.NewestStart.{AnsweredBelow, EndsNewest, StartedAt, asks_not, ends_newest, older_ones, older_than}
use Rattle.replay_rules.proofs.SinceStart.{CameSince, came_since}
use Rattle.replay_rules.proofs.SentTraces.{TargetIsFair, what_arrives_was_sent}
use Rattle.replay_rules.specs.Promises.{ListIsDue}

-- ---- the start of an information session

pub record InfoStarted (event : Event) : Type 0 where
  pub hw : List ℕ
  pub pos : List ℕ
  pub is : event ≡ Starts_info hw pos

info_started : (media : Media) (event : Event) (start : Start) → IsStartedBy media event start → start.kind ≡ Info → InfoStarted event
info_started media (Starts_info hw pos) start h info = record { hw = hw; pos = pos; is = refl }
info_started media (Starts_upload hw pos parts) start (kind, few, found) info = absurd (let wrong : Info ≡ Upload = sym info ∙ kind in cc)
info_started media (Gets from to bytes) start h info = absurd h
info_started media Ticks start h info = absurd h
info_started media (Learns size) start h info = absurd h

gets_not : (d : Option DatagramView) (hw pos : List ℕ) → gets d ≡ Some (Starts_info hw pos) → ⊥
gets_not None hw pos e = cc
gets_not (Some d) hw pos e = cc

given_info : (posted : List DatagramView) (h : HappeningView) (hw pos : List ℕ) → event_for sides.Loader posted h ≡ Some (Starts_info hw pos) → h ≡ Info_started hw pos
given_info posted (Info_started one two) hw pos e = let same : Starts_info one two ≡ Starts_info hw pos = cc in cc
given_info posted (Delivered to n) hw pos e = absurd (by (is_same_side sides.Loader to) e)
  where
    by : (b : Bool) → cond b (gets (numbered posted n)) None ≡ Some (Starts_info hw pos) → ⊥
    by true f = gets_not (numbered posted n) hw pos f
    by false f = cc
given_info posted (Injected d) hw pos e = absurd (by (is_same_side sides.Loader d.side) e)
  where
    by : (b : Bool) → cond b None (gets (Some d)) ≡ Some (Starts_info hw pos) → ⊥
    by true f = cc
    by false f = cc
given_info posted (Ticked whose) hw pos e = absurd (by (is_same_side sides.Loader whose) e)
  where
    by : (b : Bool) → cond b (Some Ticks) None ≡ Some (Starts_info hw pos) → ⊥
    by true f = cc
    by false f = cc
given_info posted (Size_told size) hw pos e = absurd cc
given_info posted (Upload_started one two parts) hw pos e = absurd cc
given_info posted (Lost n) hw pos e = absurd cc
given_info posted (Power_cut calls pick) hw pos e = absurd cc
given_info posted Booted hw pos e = absurd cc
given_info posted Ended hw pos e = absurd cc

-- ---- the step that completes a session

module _ (joins : SumsJoin) (moves : MovesStayFair) (reads : ListsAreRead) (set : Setting) (named : OwnFilesAreNamed set) where
  module _ (s : Step) (earlier : List Step) (is : IsUninjected set (s ∷ earlier)) (listable : AllCanBeListed set (s ∷ earlier)) (session : EndedSession) (e : Event) (comes : event_for sides.Loader (posted_in earlier) s.given ≡ Some e)
      (alone : event_for sides.Target (posted_in earlier) s.given ≡ None) (grows : (loader_at set (s ∷ earlier)).ended ≡ session ∷ (loader_at set earlier).ended) (h : ListsArrived set.media (loader_at set earlier) e session) where
    abbrev n : EndsNewest set s earlier h.ends.session h.ends.live h.ends.transfer
    n = ends_newest joins moves set s earlier is e comes h.ends

    abbrev ended : Transfer
    ended = h.ends.transfer

    -- ---- at the loader

    info : InfoStarted n.own.event
    info = info_started set.media n.own.event h.ends.session.start n.own.started h.info

    asked : WasAnswered n.own.mine
    asked = subst (λ (row : LoaderRow). HasComeTo h.ends.session.start row n.own.mine) h.row n.own.come_to

    abbrev request : Transfer
    request = asked.request

    -- all that was over before the session
    abbrev older : List Transfer
    older = older_ones set.media (loader_log earlier) h.ends.session n.own

    in_transfers : (t : Transfer) → Among t (ended ∷ (n.own.mine ++ older)) → Among t (loader_transfers set (s ∷ earlier))
    in_transfers t a = subst (λ (ts : List Transfer). Among t ts) (sym n.transfers) a

    fair : TargetIsFair (reached set (event_for sides.Target (posted_in earlier) s.given) (target_at set earlier)) (former_at set earlier) (loader_transfers set (s ∷ earlier)) (posted_then joins moves set s earlier is)
    fair = after joins moves set s earlier is

    -- ---- the transfer of the target that answered its request
    taken : AnsweredBelow set s earlier ended request
    taken = n.answered request asked.packet asked.among asked.asks asked.heard asked.no_error (sym (ap (λ (t : Transfer). is_asking t.role) h.ends.is) ∙ (takes_receives _ ended.role h.role).1)

    abbrev f : Transfer
    f = taken.answer

    -- ---- the list

    abbrev before_now : List Transfer
    before_now = transfers_of (target_at set earlier) ++ former_at set earlier

    target_is : target_transfers set s earlier ≡ before_now
    target_is =
        ap (λ (state : TargetStanding). transfers_of state ++ former_at set earlier) (ap (λ (x : Option Event). reached set x (target_at set earlier)) alone ∙ reached_none set (target_at set earlier))

    record Listed : Type 0 where
      u : Transfer
      port : ended.peer ≡ Some u.own
      newer : List Transfer
      earlier_ones : List Transfer
      split : target_transfers set s earlier ≡ newer ++ u ∷ earlier_ones
      due : ListWasDueAfter set earlier earlier_ones (arrived_of ended)

    listed : Listed
    listed = by ((what_arrives_was_sent joins moves set (s ∷ earlier) is).0.at_loader ended (in_transfers ended (inl refl)) (takes_receives _ ended.role h.role).0)
      where
        by : ComesFromEnd (target_transfers set s earlier) ended → Listed
        by (of_none none not) = absurd (false_is_true (sym not ∙ h.received))
        by (of_end u b brings) =
            let o : IsOver (WritesOver set earlier) before_now u = over_at (WritesOver set earlier) before_now u (target_lists_over joins set earlier) (subst (λ (ts : List Transfer). Among u ts) target_is b) in
            let request : AnswersRequest ended u = ⊎_elim (λ (x : AnswersRequest ended u). x) (λ (x : AnswersRequest u ended). asks_not _ ended.role x.asks (takes_receives _ ended.role h.role).1) brings.ends.request in
            let (tells, due) = written_kind set (λ (kind : FileKind) (file : List ℕ). kind ≡ Lcl → ListWasDueAfter set earlier o.earlier file) Lcl h.ends.session.start.hw h.ends.session.start.pos ended.role u.role brings.file named h.role request.asks brings.sent request.request request.are_bytes o.over in
            record {
              u = u;
              port = brings.ends.port;
              newer = o.newer;
              earlier_ones = o.earlier;
              split = target_is ∙ o.split;
              due = subst (λ (file : List ℕ). ListWasDueAfter set earlier o.earlier file) (sym (brings.whole tells h.received)) (due refl);
            }

    abbrev due : ListWasDueAfter set earlier listed.earlier_ones (arrived_of ended)
    due = listed.due

    -- the answer began before the list
    f_made : Among f (target_transfers set due.made due.before)
    f_made =
        subst (λ (ts : List Transfer). Among f ts) (sym due.transfers)
        (inr (older_than listed.newer listed.u listed.earlier_ones f (subst OwnPortsRise listed.split fair.one.ports) (subst (λ (ts : List Transfer). Among f ts) listed.split taken.among) (taken.below listed.u.own listed.port)))

    -- ---- the steps

    abbrev start_at : StartedAt earlier n.own.event n.own.before
    start_at = n.start

    comes_at : event_for sides.Loader (posted_in start_at.before) start_at.start.given ≡ Some (Starts_info info.hw info.pos)
    comes_at = start_at.comes ∙ ap (λ (x : Event). Some x) info.is

    starts_not : (size : Option ℕ) → n.own.event ≡ Learns size → ⊥
    starts_not size learns = let wrong : Starts_info info.hw info.pos ≡ Learns size = sym info.is ∙ learns in cc

    came : CameSince earlier start_at.start start_at.before start_at.since due.since due.made due.before
    came = came_since joins moves set s earlier is h.ends.session h.ends.live ended n request asked.among taken starts_not due.since due.made due.before due.split f_made

    listed_is : session.listed ≡ Some (lcl_of (outline_of (active_at set due.before)))
    listed_is =
        let o = outline_of (active_at set due.before) in
        let spelled : LclSpells (lcl_of o) (lcl_file o) = can_be_listed set due.since due.made due.before (subst (λ (steps : List Step). AllCanBeListed set steps) due.split listable.1) in
        h.listed ∙ ap (λ (bytes : List ℕ). result_ok (answer lcl bytes)) due.lists ∙ ap (λ (x : Result LclView FileFault). result_ok x) (reads (lcl_of o) (lcl_file o) spelled)

    pub lists_in_session : ListsInSession set (s ∷ earlier) session
    lists_in_session = record {
      since = s ∷ due.since;
      made = due.made;
      between = came.between;
      start = start_at.start;
      before = start_at.before;
      hw = info.hw;
      pos = info.pos;
      split = ap (λ (z : List Step). s ∷ z) (due.split ∙ ap (λ (z : List Step). due.since ++ due.made ∷ z) came.split);
      starts = given_info (posted_in start_at.before) start_at.start.given info.hw info.pos comes_at;
      newest = (n.no_start, subst NoneStarts came.newest start_at.newest);
      one = grows ∙ ap (λ (z : List EndedSession). session ∷ z) (sym n.ended_then);
      due = subst (λ (z : List Step). ListIsDue (target_at set (due.made ∷ z))) came.split due.due;
      newly = subst (λ (z : List Step). ListIsDue (target_at set z) → ⊥) came.split due.newly;
      listed = subst (λ (z : List Step). session.listed ≡ Some (lcl_of (outline_of (active_at set z)))) came.split listed_is;
    }

  lists_where_completed : (s : Step) (earlier : List Step) → IsUninjected set (s ∷ earlier) → AllCanBeListed set (s ∷ earlier) → (session : EndedSession) → (loader_at set (s ∷ earlier)).ended ≡ session ∷ (loader_at set earlier).ended → session.kind ≡ Info → session.outcome ≡ Completed
      → ListsInSession set (s ∷ earlier) session
  lists_where_completed s earlier is listable session grows info completed = by (event_for sides.Loader (posted_in earlier) s.given) refl grows
    where
      by : (e : Option Event) → event_for sides.Loader (posted_in earlier) s.given ≡ e → (loader_reading set.media (logged e (loader_log earlier))).ended ≡ session ∷ (loader_at set earlier).ended → ListsInSession set (s ∷ earlier) session
      by None comes grew = absurd (longer (loader_at set earlier).ended session grew)
      by (Some e) comes grew = alone (only_loader (posted_in earlier) s.given e comes)
        where
          alone : (event_for sides.Target (posted_in earlier) s.given ≡ None) ⊎ ((size : Option ℕ) × (e ≡ Learns size)) → ListsInSession set (s ∷ earlier) session
          alone (inl none) = lists_in_session s earlier is listable session e comes none grows (completed_lists_arrived set.media (loader_log earlier) e session grew info completed)
          alone (inr (size, learns)) = absurd (longer (loader_at set earlier).ended session (subst (λ (x : Event). (loader_extended set.media (loader_at set earlier) x).ended ≡ session ∷ (loader_at set earlier).ended) learns grew))

  all_list : (steps : List Step) → IsUninjected set steps → AllCanBeListed set steps → AllListInSession set steps
  all_list [] is listable = tt
  all_list (s ∷ earlier) is listable = (λ session. lists_where_completed s earlier is listable session, all_list earlier (one_before set s earlier is) listable.1)

pub completed_lists_active : SumsJoin → MovesStayFair → ListsAreRead → CompletedListsActive
completed_lists_active joins moves reads set steps is named listable = all_list joins moves reads set named steps is listable
