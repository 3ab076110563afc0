-- Proofs that completed uploads were installed in their own sessions.
use Rattle.std.proofs.Common.{◌≡◌, ◌⊎◌, inl, inr, ⊎_elim, ℕ, ◌<◌, ◌≤◌, Bool, true, false, List, [], ◌∷◌, ◌++◌, length, map, Option, Some, None, Ok, refl, sym, ap, subst, ◌∙◌, append_assoc, arith, cond}
use Rattle.std.proofs.lemmas.Bool.{eq-eqb}
use Rattle.field_grammar.specs.Grammar.{IsBytes}
use Rattle.load_protocol_files.specs.declared.lur.Wanted.{Wanted}
use Rattle.load_protocol_files.specs.Lur.{LurSpells}
use Rattle.disk_layout.specs.Holds.{StandingView}
use Rattle.exchange_trace.specs.declared.trace.Side.TheVariants as sides
use Rattle.exchange_trace.specs.Logs.{Event, Gets, Learns, Starts_info, Starts_upload, Ticks, event_for, logged, loader_log}
use Rattle.exchange_trace.specs.Posts.{posted_in}
use Rattle.exchange_trace.specs.Steps.{Step}
use Rattle.accept_rules.specs.Permissions.{AcceptsPermitted}
use Rattle.transfer_end.proofs.OtherEndLemmas.{all_at, among_either, among_right}
use Rattle.transfer_end.specs.OtherEnds.{Among, AnswersRequest, ComesFromEnd, MovesStayFair, OwnPortsRise, TellsLength, file_sent, is_asking, of_end, of_none}
use Rattle.transfer_end.specs.Transfers.{Reads, Role, ServesRead, ServesWrite, Transfer, Writes, arrived_of}
use Rattle.session_rules.specs.declared.outcome.Outcome.TheVariants.{Completed}
use Rattle.session_rules.specs.declared.outcome.SessionKind.TheVariants.{Info, Upload}
use Rattle.session_rules.proofs.BufferLemmas.{SumsJoin}
use Rattle.session_rules.proofs.CompletionLemmas.{completed_upload_arrived}
use Rattle.session_rules.specs.Completions.{CompletionArrived, SaysCompleted}
use Rattle.session_rules.proofs.HeardLemmas.{loader_takes_what_came}
use Rattle.session_rules.specs.Loader.{EndedSession, Start}
use Rattle.session_rules.specs.LoaderLog.{loader_extended, loader_reading, newest}
use Rattle.session_rules.specs.LoaderRoles.{IsOfLoaderRow, LoaderLiveFits, WritesLur, loader_row}
use Rattle.session_rules.specs.LoaderRows.{LoaderRow}
use Rattle.session_rules.specs.MediaFiles.{Media, wanted_of}
use Rattle.session_rules.specs.OwnSessions.{HasComeTo, IsStartedBy, RequestWritten}
use Rattle.session_rules.proofs.ReadFileLemmas.{RequestsAreSpelled}
use Rattle.session_rules.specs.Reports.{lur_file}
use Rattle.session_rules.proofs.SoundLogLemmas.{PayloadsAreBytes, newest_bytes}
use Rattle.session_rules.specs.SoundLogs.{LogIsBytes}
use Rattle.session_rules.proofs.SoundnessLemmas.{HeadersAreSpelled}
use Rattle.session_rules.proofs.LoaderRoleLemmas.{longer}
use Rattle.replay_rules.specs.AskedTraces.{EntriesFit}
use Rattle.replay_rules.specs.BothEnds.{Is_down, Is_up, Setting, TargetStanding, changed, loader_at, reached, target_at}
use Rattle.replay_rules.specs.CompletedTraces.{IsToldInTime}
use Rattle.replay_rules.specs.Histories.{IsMadeOf, active_in, brings}
use Rattle.replay_rules.specs.OtherEndTraces.{AllArriveAsSent, ArrivesAsSent, IsUninjected, former_at, loader_transfers, target_transfers, transfers_of}
use Rattle.replay_rules.specs.OwnSessionTraces.{AllInstalledInSession, CompletedInSession, NoneStarts, WasInstalledInSession}
use Rattle.replay_rules.specs.Promises.{HasCompleted, HasEnded, HavePartsAsked}
use Rattle.replay_rules.proofs.AnsweredLater.{after, answer_rises, answers_rise, loader_grows_over, posted_then, one_before}
use Rattle.replay_rules.proofs.AskedFor.{RequestsAreRead, found_fits, given_starts, one_request, started_spells}
use Rattle.replay_rules.proofs.EachBefore.{IsOver, over_at}
use Rattle.replay_rules.proofs.InstalledBefore.{IsInstalledBefore, TellsOver, target_tells_over}
use Rattle.replay_rules.proofs.ListedTraces.{false_is_true, only_loader, reached_none}
use Rattle.replay_rules.proofs.NewestStart.{AnsweredBelow, EndsNewest, Order, StartedAt, asks_not, ends_newest, older_ones, older_than, one_first, order_of, rise_after, same_step, some_is, two_first, writes_asks}
use Rattle.replay_rules.proofs.PortsApart.{PeerIsBelow}
use Rattle.replay_rules.proofs.SentTraces.{TargetIsFair, what_arrives_was_sent}
use Rattle.replay_rules.proofs.ToldTraces.{StatusesAreSpelled, loader_log_bytes, target_tells_in_time}

-- ---- the start of an upload

pub record UploadStarted (media : Media) (event : Event) (start : Start) : Type 0 where
  pub hw : List ℕ
  pub pos : List ℕ
  pub parts : List (List ℕ)
  pub is : event ≡ Starts_upload hw pos parts
  pub few : length parts ≤ 32
  pub found : wanted_of media.loads parts ≡ Ok start.loads

upload_started : (media : Media) (event : Event) (start : Start) → IsStartedBy media event start → start.kind ≡ Upload → UploadStarted media event start
upload_started media (Starts_upload hw pos parts) start (kind, few, found) upload = record { hw = hw; pos = pos; parts = parts; is = refl; few = few; found = found }
upload_started media (Starts_info hw pos) start info upload = absurd (let wrong : Info ≡ Upload = sym info ∙ upload in cc)
upload_started media (Gets from to bytes) start h upload = absurd h
upload_started media Ticks start h upload = absurd h
upload_started media (Learns size) start h upload = absurd h

-- what arrives from it is the request
request_file : (start : Start) (role : Role) (file arrived : List ℕ) → WritesLur start role → file_sent role ≡ Some file → (TellsLength role → arrived ≡ file) → arrived ≡ lur_file start.loads
request_file start (Writes name o f) file arrived is sent whole = let same : f ≡ file = cc in whole tt ∙ sym same ∙ is
request_file start (Reads name o) file arrived is sent whole = absurd is
request_file start (ServesRead name o f) file arrived is sent whole = absurd is
request_file start (ServesWrite name o) file arrived is sent whole = absurd is

-- a file that says that all is installed is one that the target asked to write
over_told : (set : Setting) (steps : List Step) (role : Role) (file : List ℕ) (earlier : List Transfer) → file_sent role ≡ Some file → (TellsLength role → SaysCompleted file) → IsToldInTime set steps role → TellsOver set steps role earlier → IsInstalledBefore set steps earlier
over_told set steps (Writes name o f) file earlier sent says told over = let same : file ≡ f = cc in over (subst SaysCompleted same (says tt))
over_told set steps (ServesRead name o f) file earlier sent says (size, told) over = let same : file ≡ f = cc in absurd (told (subst SaysCompleted same (says size)))
over_told set steps (Reads name o) file earlier sent says told over = absurd cc
over_told set steps (ServesWrite name o) file earlier sent says told over = absurd cc

-- what happens in a step after others
arrives_at : (set : Setting) (since : List Step) (s : Step) (before : List Step) → AllArriveAsSent set (since ++ s ∷ before) → ArrivesAsSent set s before
arrives_at set [] s before (now, all) = now
arrives_at set (x ∷ since) s before (now, all) = arrives_at set since s before all

pub none_brought : (set : Setting) (s : Step) (before : List Step) (new : StandingView) → event_for sides.Target (posted_in before) s.given ≡ None → brings set s before ≡ Some new → ⊥
none_brought set s before new none e = by (target_at set before) (sym (ap (λ (x : Option Event). changed (active_in (target_at set before)) (active_in (reached set x (target_at set before)))) none) ∙ e)
  where
    same_not : (active : StandingView) → changed active active ≡ Some new → ⊥
    same_not active f = let none_there : changed active active ≡ None = ap (λ (b : Bool). cond b None (Some active)) (eq-eqb active.sequence active.sequence refl) in cc

    by : (state : TargetStanding) → changed (active_in state) (active_in (reached set None state)) ≡ Some new → ⊥
    by (Is_up r) f = same_not r.active f
    by (Is_down active interrupted) f = same_not active f

-- ---- the step that completes a session

module _ (joins : SumsJoin) (moves : MovesStayFair) (spells : HeadersAreSpelled) (payloads : PayloadsAreBytes) (requests : RequestsAreSpelled) (reads : RequestsAreRead) (statuses : StatusesAreSpelled) (set : Setting)
    (permits : AcceptsPermitted set.accepts) (entries : EntriesFit set.media) where
  module _ (s : Step) (earlier : List Step) (is : IsUninjected set (s ∷ earlier)) (session : EndedSession) (e : Event) (comes : event_for sides.Loader (posted_in earlier) s.given ≡ Some e) (alone : event_for sides.Target (posted_in earlier) s.given ≡ None)
      (grows : (loader_at set (s ∷ earlier)).ended ≡ session ∷ (loader_at set earlier).ended) (h : CompletionArrived set.media (loader_at set earlier) e) where
    abbrev n : EndsNewest set s earlier h.ends.session h.ends.live h.ends.transfer
    n = ends_newest joins moves set s earlier is e comes h.ends

    abbrev ended : Transfer
    ended = h.ends.transfer

    -- ---- at the loader

    upload : UploadStarted set.media n.own.event h.ends.session.start
    upload = upload_started set.media n.own.event h.ends.session.start n.own.started h.upload

    written : RequestWritten h.ends.session.start n.own.mine
    written = subst (λ (row : LoaderRow). HasComeTo h.ends.session.start row n.own.mine) h.row n.own.come_to

    abbrev w : Transfer
    w = written.request

    live_serves : is_asking h.ends.live.role ≡ false
    live_serves =
        subst (λ (row : LoaderRow). IsOfLoaderRow h.ends.session.start row h.ends.live.role) h.row
        (subst (λ (live : Option Transfer). LoaderLiveFits h.ends.session.start (loader_row h.ends.session) live) h.ends.going n.roles.0)

    -- all that was over before the request
    abbrev older : List Transfer
    older = written.before ++ older_ones set.media (loader_log earlier) h.ends.session n.own

    mine_is : n.own.mine ++ older_ones set.media (loader_log earlier) h.ends.session n.own ≡ written.since ++ w ∷ older
    mine_is = ap (λ (ts : List Transfer). ts ++ older_ones set.media (loader_log earlier) h.ends.session n.own) written.split ∙ append_assoc written.since (w ∷ written.before) _

    transfers_are : loader_transfers set (s ∷ earlier) ≡ ended ∷ (written.since ++ w ∷ older)
    transfers_are = n.transfers ∙ ap (λ (ts : List Transfer). ended ∷ ts) mine_is

    in_transfers : (t : Transfer) → Among t (ended ∷ (written.since ++ w ∷ older)) → Among t (loader_transfers set (s ∷ earlier))
    in_transfers t a = subst (λ (ts : List Transfer). Among t ts) (sym transfers_are) a

    w_among : Among w (loader_transfers set (s ∷ earlier))
    w_among = in_transfers w (inr (among_right w written.since (w ∷ older) (inl refl)))

    fair : TargetIsFair (reached set (event_for sides.Target (posted_in earlier) s.given) (target_at set earlier)) (former_at set earlier) (loader_transfers set (s ∷ earlier)) (posted_then joins moves set s earlier is)
    fair = after joins moves set s earlier is

    -- ---- the transfer of the target that took the request
    taken : AnsweredBelow set s earlier ended w
    taken = n.answered w written.packet (subst (λ (ts : List Transfer). Among w ts) (sym written.split) (among_right w written.since (w ∷ written.before) (inl refl))) (writes_asks h.ends.session.start w.role written.writes) written.heard written.no_error live_serves

    abbrev v : Transfer
    v = taken.answer

    -- ---- the transfer of the target that told the completion

    sent : AllArriveAsSent set (s ∷ earlier)
    sent = what_arrives_was_sent joins moves set (s ∷ earlier) is

    abbrev before_now : List Transfer
    before_now = transfers_of (target_at set earlier) ++ former_at set earlier

    state_is : reached set (event_for sides.Target (posted_in earlier) s.given) (target_at set earlier) ≡ target_at set earlier
    state_is = ap (λ (x : Option Event). reached set x (target_at set earlier)) alone ∙ reached_none set (target_at set earlier)

    target_is : target_transfers set s earlier ≡ before_now
    target_is = ap (λ (state : TargetStanding). transfers_of state ++ former_at set earlier) state_is

    -- what a transfer says that is over, and all before it
    record Told : Type 0 where
      u : Transfer
      port : ended.peer ≡ Some u.own
      newer : List Transfer
      earlier_ones : List Transfer
      split : target_transfers set s earlier ≡ newer ++ u ∷ earlier_ones
      installed : IsInstalledBefore set earlier earlier_ones

    file_fits : IsBytes (arrived_of ended)
    file_fits =
        newest_bytes payloads (e ∷ loader_log earlier) (loader_extended set.media (loader_at set earlier) e).end ended (subst (λ (x : Option Event). LogIsBytes (logged x (loader_log earlier))) comes (loader_log_bytes (s ∷ earlier) is.carries))
        (loader_takes_what_came set.media (e ∷ loader_log earlier)).0 (ap newest h.ends.past)

    told : Told
    told = by (sent.0.at_loader ended (in_transfers ended (inl refl)) h.receives)
      where
        by : ComesFromEnd (target_transfers set s earlier) ended → Told
        by (of_none none not) = absurd (false_is_true (sym not ∙ h.received))
        by (of_end u b brings) =
            let there : Among u before_now = subst (λ (ts : List Transfer). Among u ts) target_is b in
            let o : IsOver (TellsOver set earlier) before_now u = over_at (TellsOver set earlier) before_now u (target_tells_over joins spells payloads requests set permits earlier is.carries.1) there in
            let (lus, read, completed) = h.says in
            let said : SaysCompleted (arrived_of ended) = (lus, statuses lus (arrived_of ended) file_fits read, completed) in
            record {
              u = u;
              port = brings.ends.port;
              newer = o.newer;
              earlier_ones = o.earlier;
              split = target_is ∙ o.split;
              installed = over_told set earlier u.role brings.file o.earlier brings.sent (λ tells. subst SaysCompleted (brings.whole tells h.received) said) (target_tells_in_time joins set earlier u there) o.over;
            }

    abbrev installed : IsInstalledBefore set earlier told.earlier_ones
    installed = told.installed

    abbrev lur : Transfer
    lur = installed.lur

    target_rises : OwnPortsRise (told.newer ++ told.u ∷ (installed.asked ++ lur ∷ installed.older))
    target_rises = subst OwnPortsRise (told.split ∙ ap (λ (ts : List Transfer). told.newer ++ told.u ∷ ts) installed.over) fair.one.ports

    lur_rises : OwnPortsRise (lur ∷ installed.older)
    lur_rises = rise_after installed.asked (lur ∷ installed.older) (rise_after told.newer (told.u ∷ (installed.asked ++ lur ∷ installed.older)) target_rises).2

    -- the request that was taken is the one, or a later one
    v_place : (v.own < lur.own) ⊎ (lur ≡ v)
    v_place = by (among_either v installed.asked (lur ∷ installed.older) there)
      where
        there : Among v (installed.asked ++ lur ∷ installed.older)
        there =
            older_than told.newer told.u (installed.asked ++ lur ∷ installed.older) v target_rises
            (subst (λ (ts : List Transfer). Among v ts) (told.split ∙ ap (λ (ts : List Transfer). told.newer ++ told.u ∷ ts) installed.over) taken.among) (taken.below told.u.own told.port)

        by : Among v installed.asked ⊎ Among v (lur ∷ installed.older) → (v.own < lur.own) ⊎ (lur ≡ v)
        by (inl a) = asks_not _ v.role (all_at (λ (t : Transfer). is_asking t.role ≡ true) installed.asked v installed.asks a) taken.answers.serves
        by (inr (inl same)) = inr same
        by (inr (inr a)) = inl (all_at (λ (t : Transfer). t.own < lur.own) installed.older v lur_rises.1 a)

    -- ---- the request that it took is the session's

    record Asked : Type 0 where
      port : lur.peer ≡ Some w.own
      file : arrived_of lur ≡ lur_file h.ends.session.start.loads

    loader_rises : OwnPortsRise ((ended ∷ written.since) ++ w ∷ older)
    loader_rises = subst OwnPortsRise transfers_are fair.other_one.ports

    w_rises : OwnPortsRise (w ∷ older)
    w_rises = rise_after (ended ∷ written.since) (w ∷ older) loader_rises

    lur_among : Among lur (target_transfers set s earlier)
    lur_among =
        subst (λ (ts : List Transfer). Among lur ts) (sym (told.split ∙ ap (λ (ts : List Transfer). told.newer ++ told.u ∷ ts) installed.over))
        (among_right lur told.newer (told.u ∷ (installed.asked ++ lur ∷ installed.older)) (inr (among_right lur installed.asked (lur ∷ installed.older) (inl refl))))

    -- no request before it was taken later
    not_older : (x : Transfer) → Among x older → x.peer ≡ Some lur.own → ⊥
    not_older x a back =
        let less : x.own < w.own = all_at (λ (t : Transfer). t.own < w.own) older x w_rises.1 a in
        let rises = answer_rises (loader_transfers set (s ∷ earlier)) (target_transfers set s earlier) (answers_rise joins moves set (s ∷ earlier) is).1.0 in
        let below : lur.own < v.own = subst (λ (peer : Option ℕ). PeerIsBelow v.own peer) back
        (rises v taken.among taken.answers.serves w w_among taken.answers.back x (in_transfers x (inr (among_right x written.since (w ∷ older) (inr a)))) less) in
        ⊎_elim (λ (f : v.own < lur.own). omega (arith, f, below)) (λ (f : lur ≡ v). let same : lur.own ≡ v.own = ap (λ (t : Transfer). t.own) f in omega (arith, same, below)) v_place

    asked : Asked
    asked = by (sent.0.at_target lur lur_among installed.receives)
      where
        found : (x : Transfer) → is_asking x.role ≡ true → x.peer ≡ Some lur.own → Among x (ended ∷ (written.since ++ w ∷ older)) → w ≡ x
        found x asks back (inl same) = asks_not _ x.role asks (sym (ap (λ (t : Transfer). is_asking t.role) (sym h.ends.is ∙ same)) ∙ live_serves)
        found x asks back (inr a) = in_past (among_either x written.since (w ∷ older) a)
          where
            in_past : Among x written.since ⊎ Among x (w ∷ older) → w ≡ x
            in_past (inl b) = asks_not _ x.role asks (all_at (λ (t : Transfer). is_asking t.role ≡ false) written.since x written.serves b)
            in_past (inr (inl same)) = same
            in_past (inr (inr b)) = absurd (not_older x b back)

        by : ComesFromEnd (loader_transfers set (s ∷ earlier)) lur → Asked
        by (of_none none not) = absurd (false_is_true (sym not ∙ installed.received))
        by (of_end x b brings) =
            let asks : is_asking x.role ≡ true = ⊎_elim (λ (request : AnswersRequest lur x). request.asks) (λ (request : AnswersRequest x lur). asks_not _ lur.role request.asks installed.serves) brings.ends.request in
            let same : w ≡ x = found x asks brings.ends.back (subst (λ (ts : List Transfer). Among x ts) transfers_are b) in
            record {
              port = brings.ends.port ∙ ap (λ (t : Transfer). Some t.own) (sym same);
              file = request_file h.ends.session.start x.role brings.file (arrived_of lur) (subst (λ (t : Transfer). WritesLur h.ends.session.start t.role) same written.writes) brings.sent (λ tells. brings.whole tells installed.received);
            }

    request_is : installed.request ≡ h.ends.session.start.loads
    request_is =
        one_request reads installed.request h.ends.session.start.loads (lur_file h.ends.session.start.loads) (subst (λ (bytes : List ℕ). LurSpells (record { loads = installed.request }) bytes) asked.file installed.spells)
        (started_spells set.media upload.parts h.ends.session.start.loads entries upload.few upload.found)

    parts_are : IsMadeOf (target_at set installed.before) (HavePartsAsked upload.parts) installed.new
    parts_are = record { new = installed.parts.new; wanted = installed.parts.wanted; are_new = parts; is = installed.parts.is }
      where
        parts : HavePartsAsked upload.parts installed.parts.new
        parts = installed.parts.are_new ∙ ap (map (λ (x : Wanted). x.part)) request_is ∙ (found_fits set.media.loads upload.parts h.ends.session.start.loads entries upload.found).1

    -- ---- the steps

    abbrev start_at : StartedAt earlier n.own.event n.own.before
    start_at = n.start

    comes_at : event_for sides.Loader (posted_in start_at.before) start_at.start.given ≡ Some (Starts_upload upload.hw upload.pos upload.parts)
    comes_at = start_at.comes ∙ ap (λ (x : Event). Some x) upload.is

    -- what was installed before the start was asked for by another request
    not_before : (between : List Step) → start_at.before ≡ between ++ installed.install ∷ installed.before → ⊥
    not_before between f = by (there.at_target lur installed.there installed.receives)
      where
        there : ArrivesAsSent set installed.install installed.before
        there = arrives_at set installed.since installed.install installed.before (subst (λ (x : List Step). AllArriveAsSent set x) installed.split sent.1)

        by : ComesFromEnd (loader_transfers set (installed.install ∷ installed.before)) lur → ⊥
        by (of_none none not) = false_is_true (sym not ∙ installed.received)
        by (of_end x b brings) =
            let (z, c, own_is) = (loader_grows_over set between (installed.install ∷ installed.before)).kept x b in
            let z_older : Among z older = among_right z written.before _ (n.before_start z (subst (λ (x : List Step). Among z (loader_transfers set x)) (sym f) c)) in
            let less : z.own < w.own = all_at (λ (t : Transfer). t.own < w.own) older z w_rises.1 z_older in
            let same : x.own ≡ w.own = some_is x.own w.own (sym brings.ends.port ∙ asked.port) in
            omega (arith, less, same, own_is)

    not_at : installed.install ≡ start_at.start → installed.before ≡ start_at.before → ⊥
    not_at same f =
        none_brought set start_at.start start_at.before installed.new (only (only_loader (posted_in start_at.before) start_at.start.given (Starts_upload upload.hw upload.pos upload.parts) comes_at))
        (subst (λ (x : Step). brings set x start_at.before ≡ Some installed.new) same (subst (λ (x : List Step). brings set installed.install x ≡ Some installed.new) f installed.brought))
      where
        only : (event_for sides.Target (posted_in start_at.before) start_at.start.given ≡ None) ⊎ ((size : Option ℕ) × (Starts_upload upload.hw upload.pos upload.parts ≡ Learns size)) → event_for sides.Target (posted_in start_at.before) start_at.start.given ≡ None
        only (inl none) = none
        only (inr (size, learns)) = absurd cc

    pub installed_in_session : WasInstalledInSession set (s ∷ earlier)
    installed_in_session = by (order_of installed.since start_at.since installed.install start_at.start installed.before start_at.before (sym installed.split ∙ start_at.split))
      where
        by : Order installed.install start_at.start installed.since installed.before start_at.since start_at.before → WasInstalledInSession set (s ∷ earlier)
        by (one_first between f) = absurd (not_before between f)
        by (same_step same f) = absurd (not_at same f)
        by (two_first between f g) = record {
          since = s ∷ installed.since;
          install = installed.install;
          between = between;
          start = start_at.start;
          before = start_at.before;
          hw = upload.hw;
          pos = upload.pos;
          parts = upload.parts;
          session = session;
          new = installed.new;
          split = ap (λ (x : List Step). s ∷ x) (installed.split ∙ ap (λ (x : List Step). installed.since ++ installed.install ∷ x) f);
          starts = given_starts (posted_in start_at.before) start_at.start.given upload.hw upload.pos upload.parts comes_at;
          newest = (n.no_start, subst NoneStarts g start_at.newest);
          one = grows ∙ ap (λ (x : List EndedSession). session ∷ x) (sym n.ended_then);
          brought = subst (λ (x : List Step). brings set installed.install x ≡ Some installed.new) f installed.brought;
          asked = subst (λ (x : List Step). IsMadeOf (target_at set x) (HavePartsAsked upload.parts) installed.new) f parts_are;
          stays_up = installed.stays_up;
        }

  installed_where_completed : (s : Step) (earlier : List Step) → IsUninjected set (s ∷ earlier) → HasEnded set s earlier → HasCompleted Upload (loader_at set (s ∷ earlier)).ended → WasInstalledInSession set (s ∷ earlier)
  installed_where_completed s earlier is (session, grows) completed = by (event_for sides.Loader (posted_in earlier) s.given) refl grows (subst (HasCompleted Upload) grows completed)
    where
      by : (e : Option Event) → event_for sides.Loader (posted_in earlier) s.given ≡ e → (loader_reading set.media (logged e (loader_log earlier))).ended ≡ session ∷ (loader_at set earlier).ended → (session.kind ≡ Upload) × (session.outcome ≡ Completed) → WasInstalledInSession set (s ∷ earlier)
      by None comes grew over = absurd (longer (loader_at set earlier).ended session grew)
      by (Some e) comes grew (upload, over) = alone (only_loader (posted_in earlier) s.given e comes)
        where
          alone : (event_for sides.Target (posted_in earlier) s.given ≡ None) ⊎ ((size : Option ℕ) × (e ≡ Learns size)) → WasInstalledInSession set (s ∷ earlier)
          alone (inl none) = installed_in_session s earlier is session e comes none grows (completed_upload_arrived set.media (loader_log earlier) e session grew upload over)
          alone (inr (size, learns)) = absurd (longer (loader_at set earlier).ended session (subst (λ (x : Event). (loader_extended set.media (loader_at set earlier) x).ended ≡ session ∷ (loader_at set earlier).ended) learns grew))

  all_in_session : (steps : List Step) → IsUninjected set steps → AllInstalledInSession set steps
  all_in_session [] is = tt
  all_in_session (s ∷ earlier) is = (λ ended completed. installed_where_completed s earlier is ended completed, all_in_session earlier (one_before set s earlier is))

pub completed_in_session : SumsJoin → MovesStayFair → HeadersAreSpelled → PayloadsAreBytes → RequestsAreSpelled → RequestsAreRead → StatusesAreSpelled → CompletedInSession
completed_in_session joins moves spells payloads requests reads statuses set steps permits entries is = all_in_session joins moves spells payloads requests reads statuses set permits entries steps is
