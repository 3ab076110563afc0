-- Where a session of the loader takes its first LUS, the target answered it since the session's start.
use Rattle.std.proofs.Common.{◌≡◌, ℕ, inl, inr, true, false, List, [], ◌∷◌, ◌++◌, Option, Some, None, refl, sym, ap, subst, ◌∙◌}
use Rattle.std.specs.Prelude.{fold}
use Rattle.std.specs.List.{AllByRecursion}
use Rattle.std.proofs.lemmas.List.{append_cancel_right}
use Rattle.tftp_packet.specs.Packets.{PacketView}
use Rattle.exchange_trace.specs.declared.trace.Side.TheVariants as sides
use Rattle.exchange_trace.specs.Logs.{Event, Gets, Learns, Starts_info, Starts_upload, Ticks}
use Rattle.transfer_end.specs.Moves.{Move, past_with, readings_after}
use Rattle.transfer_end.proofs.OtherEndLemmas.{among_right}
use Rattle.transfer_end.specs.OtherEnds.{Among, is_asking}
use Rattle.transfer_end.specs.Readings.{Reading}
use Rattle.transfer_end.specs.Transfers.{Reads, Role, ServesRead, ServesWrite, Transfer, Writes, with_packet}
use Rattle.session_rules.specs.declared.outcome.SessionKind.{SessionKind}
use Rattle.session_rules.specs.declared.outcome.SessionKind.TheVariants.{Info, Upload}
use Rattle.session_rules.specs.Loader.{Advances, Begins, Begins_over, Continues, EndedSession, Ends, LoaderChange, Start, loader_decision}
use Rattle.session_rules.proofs.LoaderLemmas.{end_stays, row_of_more, row_of_none}
use Rattle.session_rules.specs.LoaderLog.{LoaderReading, SessionLog, loader_reading, loader_reading_changed, loader_view, newest}
use Rattle.session_rules.proofs.LoaderRoleLemmas.{IsInfoRow, info_after, loader_decision_fits}
use Rattle.session_rules.specs.LoaderRoles.{EndsLive, FitsLoaderChange, IsNoError, loader_row}
use Rattle.session_rules.specs.LoaderRows.{LoaderRow, Reads_lci, Reads_lui, Serves_files, Takes_lcl, Takes_lcs, Takes_lus, Writes_lur, first_row, row_after, row_of}
use Rattle.session_rules.specs.MediaFiles.{Media}
use Rattle.session_rules.specs.OwnSessions.{HasNoStart, IsOfNewestStart, IsStartedBy, WasAnswered}
use Rattle.session_rules.proofs.RequestLemmas.{BeginsBy, loader_fits}
use Rattle.session_rules.proofs.SessionLemmas.{begun_by, decision_begins}
use Rattle.session_rules.specs.Sessions.{started_by}
use Rattle.replay_rules.proofs.FileEnds.{FitsFile, LiveReads, decision_fits}
use Rattle.replay_rules.proofs.TargetRoles.{IsReading}
use Rattle.replay_rules.proofs.NewestStart.{event_is}

-- ---- the first transfer of a session

-- in its first row a session reads
abbrev SessionReads : Reading → Option SessionLog → Type 0
SessionReads end None = Unit {0}
SessionReads end (Some s) = LiveReads (loader_row s) end.live

after_reads : (row : LoaderRow) (live : Option Transfer) → LiveReads (row_after row) live
after_reads row None = tt
after_reads Reads_lci (Some t) = tt
after_reads Takes_lcs (Some t) = tt
after_reads Takes_lcl (Some t) = tt
after_reads Reads_lui (Some t) = tt
after_reads Takes_lus (Some t) = tt
after_reads Writes_lur (Some t) = tt
after_reads Serves_files (Some t) = tt

changed_reads : (end : Reading) (live : Option SessionLog) (ended : List EndedSession) (moves : List Move) (change : LoaderChange) → FitsLoaderChange end live moves change → FitsFile end live moves change → SessionReads end live
    → SessionReads (readings_after sides.Loader end moves) (loader_reading_changed (readings_after sides.Loader end moves) (record { end = end; live = live; ended = ended }) change).live
changed_reads end None ended moves (Continues more) fits reads h = tt
changed_reads end (Some s) ended moves (Continues more) fits reads h = reads h
changed_reads end None ended moves Advances fits reads h = tt
changed_reads end (Some s) ended moves Advances (role, ends, fresh) reads h =
    let then : Reading = readings_after sides.Loader end moves in
    let row : loader_row (record { start = s.start; done = s.done ++ newest then.past }) ≡ row_after (loader_row s) =
    ap (λ (ts : List Transfer). row_of s.start.kind (s.done ++ ts)) (ap newest ends.past) ∙ row_of_more s.start.kind s.done (with_packet ends.live ends.from ends.packet) in
    subst (λ (x : LoaderRow). LiveReads x then.live) (sym row) (after_reads (loader_row s) then.live)
changed_reads end live ended moves (Ends outcome more) fits reads h = tt
changed_reads end live ended moves (Begins start) fits reads h = subst (λ (x : LoaderRow). LiveReads x (readings_after sides.Loader end moves).live) (sym (row_of_none start.kind)) reads
changed_reads end live ended moves (Begins_over kind outcome) fits reads h = tt

session_reads : (media : Media) (log : List Event) → SessionReads (loader_reading media log).end (loader_reading media log).live
session_reads media [] = tt
session_reads media (e ∷ log) =
    let r = loader_reading media log in
    let d = loader_decision media (loader_view r) e in
    subst (λ (end : Reading). SessionReads end (loader_reading media (e ∷ log)).live) (sym (end_stays (readings_after sides.Loader r.end d.moves) r d.change))
    (changed_reads r.end r.live r.ended d.moves d.change (loader_decision_fits media r.end r.live r.ended e) (decision_fits media r.end r.live r.ended e) (session_reads media log))

-- ---- what a session's transfers have come to

-- In one of these transfers, the newest first, the loader read, and got an answer that is no ERROR; it served all since.
pub record ReadAnswered (mine : List Transfer) : Type 0 where
  pub since : List Transfer
  pub request : Transfer
  pub before : List Transfer
  pub split : mine ≡ since ++ request ∷ before
  pub serves : AllByRecursion (λ (t : Transfer). is_asking t.role ≡ false) since
  pub reads : IsReading request.role
  pub packet : PacketView
  pub heard : Among packet request.got
  pub no_error : IsNoError packet

pub reading_asks : (role : Role) → IsReading role → is_asking role ≡ true
reading_asks (Reads name o) is = refl
reading_asks (Writes name o file) is = absurd is
reading_asks (ServesRead name o file) is = absurd is
reading_asks (ServesWrite name o) is = absurd is

pub read_answered : (mine : List Transfer) → ReadAnswered mine → WasAnswered mine
read_answered mine h = record {
  request = h.request;
  among = subst (λ (ts : List Transfer). Among h.request ts) (sym h.split) (among_right h.request h.since (h.request ∷ h.before) (inl refl));
  asks = reading_asks h.request.role h.reads;
  packet = h.packet;
  heard = h.heard;
  no_error = h.no_error;
}

-- it read in one of these transfers, and got an answer that is no ERROR
pub record HasRead (mine : List Transfer) : Type 0 where
  pub request : Transfer
  pub among : Among request mine
  pub reads : IsReading request.role
  pub packet : PacketView
  pub heard : Among packet request.got
  pub no_error : IsNoError packet

answered_read : (mine : List Transfer) → ReadAnswered mine → HasRead mine
answered_read mine h = record {
  request = h.request;
  among = subst (λ (ts : List Transfer). Among h.request ts) (sym h.split) (among_right h.request h.since (h.request ∷ h.before) (inl refl));
  reads = h.reads;
  packet = h.packet;
  heard = h.heard;
  no_error = h.no_error;
}

more_read : (t : Transfer) (mine : List Transfer) → HasRead mine → HasRead (t ∷ mine)
more_read t mine h = record { request = h.request; among = inr h.among; reads = h.reads; packet = h.packet; heard = h.heard; no_error = h.no_error }

abbrev AnsweredIn : LoaderRow → List Transfer → Type 0
AnsweredIn Takes_lus mine = ReadAnswered mine
AnsweredIn Writes_lur mine = HasRead mine
AnsweredIn Serves_files mine = HasRead mine
AnsweredIn row mine = Unit {0}

-- the session is that of the newest start, and these are its transfers that are over
record IsAnsweredSince (media : Media) (log : List Event) (s : SessionLog) : Type 0 where
  since : List Event
  event : Event
  before : List Event
  split : log ≡ since ++ event ∷ before
  newest_one : HasNoStart since
  started : IsStartedBy media event s.start
  mine : List Transfer
  past : (loader_reading media log).end.past ≡ mine ++ past_with (loader_reading media before).end.live (loader_reading media before).end.past
  come_to : AnsweredIn (loader_row s) mine

abbrev LiveIsAnswered : Media → List Event → Option SessionLog → Type 0
LiveIsAnswered media log None = Unit {0}
LiveIsAnswered media log (Some s) = IsAnsweredSince media log s

first_come_to : (kind : SessionKind) (mine : List Transfer) → AnsweredIn (first_row kind) mine
first_come_to Info mine = tt
first_come_to Upload mine = tt

-- a transfer of a row is over, by a packet that was no ERROR
come_to_then : (start : Start) (row : LoaderRow) (t : Transfer) (from : _) (p : PacketView) (mine : List Transfer) → IsNoError p → LiveReads row (Some t) → AnsweredIn row mine → AnsweredIn (row_after row) (with_packet t from p ∷ mine)
come_to_then start Reads_lui t from p mine no_error is before =
    record { since = []; request = with_packet t from p; before = mine; split = refl; serves = tt; reads = is; packet = p; heard = among_right p t.got (p ∷ []) (inl refl); no_error = no_error }
come_to_then start Reads_lci t from p mine no_error is before = tt
come_to_then start Takes_lcs t from p mine no_error is before = tt
come_to_then start Takes_lcl t from p mine no_error is before = tt
come_to_then start Takes_lus t from p mine no_error is before = more_read (with_packet t from p) mine (answered_read mine before)
come_to_then start Writes_lur t from p mine no_error is before = more_read (with_packet t from p) mine before
come_to_then start Serves_files t from p mine no_error is before = more_read (with_packet t from p) mine before

module _ (media : Media) (e : Event) (log : List Event) where
  abbrev before_now : LoaderReading
  before_now = loader_reading media log

  abbrev moves_now : List Move
  moves_now = (loader_decision media (loader_view (loader_reading media log)) e).moves

  abbrev then : Reading
  then = readings_after sides.Loader (loader_reading media log).end moves_now

  abbrev now : LoaderReading
  now = loader_reading media (e ∷ log)

  past_is : now.end.past ≡ then.past
  past_is = ap (λ (x : Reading). x.past) (end_stays then before_now (loader_decision media (loader_view before_now) e).change)

  abbrev changed : Option SessionLog → LoaderChange → LoaderReading
  changed live change = loader_reading_changed then (record { end = before_now.end; live = live; ended = before_now.ended }) change

  advanced : (s : SessionLog) → EndsLive before_now.end moves_now → [] ≡ started_by e → SessionReads before_now.end (Some s) → IsAnsweredSince media log s
      → IsAnsweredSince media (e ∷ log) (record { start = s.start; done = s.done ++ newest then.past })
  advanced s ends none role h =
      let t : Transfer = with_packet ends.live ends.from ends.packet in
      let row : loader_row (record { start = s.start; done = s.done ++ newest then.past }) ≡ row_after (loader_row s) =
      ap (λ (ts : List Transfer). row_of s.start.kind (s.done ++ ts)) (ap newest ends.past) ∙ row_of_more s.start.kind s.done t in
      let of_row : LiveReads (loader_row s) (Some ends.live) = subst (LiveReads (loader_row s)) ends.was_live role in
      record {
        since = e ∷ h.since;
        event = h.event;
        before = h.before;
        split = ap (λ (x : List Event). e ∷ x) h.split;
        newest_one = (sym none, h.newest_one);
        started = h.started;
        mine = t ∷ h.mine;
        past = past_is ∙ ends.past ∙ ap (λ (ts : List Transfer). t ∷ ts) h.past;
        come_to = subst (λ (x : LoaderRow). AnsweredIn x (t ∷ h.mine)) (sym row) (come_to_then s.start (loader_row s) ends.live ends.from ends.packet h.mine ends.no_error of_row h.come_to);
      }

  by_change : (live : Option SessionLog) (change : LoaderChange) → FitsLoaderChange before_now.end live moves_now change → BeginsBy media e change → begun_by change ≡ started_by e → SessionReads before_now.end live → LiveIsAnswered media log live
      → LiveIsAnswered media (e ∷ log) (changed live change).live
  by_change None (Continues more) fits begins none role h = tt
  by_change None Advances fits begins none role h = tt
  by_change live (Ends outcome more) fits begins none role h = tt
  by_change live (Begins_over kind outcome) fits begins none role h = tt
  by_change live (Begins start) (role_then, past, fresh) begins none role h = record {
    since = [];
    event = e;
    before = log;
    split = refl;
    newest_one = tt;
    started = begins;
    mine = [];
    past = past_is ∙ past;
    come_to = subst (λ (row : LoaderRow). AnsweredIn row []) (sym (row_of_none start.kind)) (first_come_to start.kind []);
  }
  by_change (Some s) (Continues more) (role_then, past, fresh) begins none role h = record {
    since = e ∷ h.since;
    event = h.event;
    before = h.before;
    split = ap (λ (x : List Event). e ∷ x) h.split;
    newest_one = (sym none, h.newest_one);
    started = h.started;
    mine = h.mine;
    past = past_is ∙ past ∙ h.past;
    come_to = h.come_to;
  }
  by_change (Some s) Advances (role_then, ends, fresh) begins none role h = advanced s ends none role h

answered_since : (media : Media) (log : List Event) → LiveIsAnswered media log (loader_reading media log).live
answered_since media [] = tt
answered_since media (e ∷ log) =
    let r = loader_reading media log in
    let d = loader_decision media (loader_view r) e in
    by_change media e log r.live d.change (loader_decision_fits media r.end r.live r.ended e) (loader_fits media (loader_view r) e).1 (decision_begins media (loader_view r) e) (session_reads media log) (answered_since media log)

-- ---- the newest start of a log

starts_not : (media : Media) (event : Event) (start : Start) → IsStartedBy media event start → started_by event ≡ [] → ⊥
starts_not media (Starts_info hw pos) start h none = absurd cc
starts_not media (Starts_upload hw pos parts) start h none = absurd cc
starts_not media (Gets from to bytes) start h none = h
starts_not media Ticks start h none = h
starts_not media (Learns size) start h none = h

same_start : (xs ys : List Event) (x y : Event) (before other : List Event) → xs ++ x ∷ before ≡ ys ++ y ∷ other → HasNoStart xs → HasNoStart ys → (started_by x ≡ [] → ⊥) → (started_by y ≡ [] → ⊥) → before ≡ other
same_start [] [] x y before other e none also first second = (event_is x y before other e).1
same_start [] (z ∷ ys) x y before other e none (no_start, also) first second = absurd (first (ap started_by (event_is x z before (ys ++ y ∷ other) e).0 ∙ no_start))
same_start (z ∷ xs) [] x y before other e (no_start, none) also first second = absurd (second (ap started_by (sym (event_is z y (xs ++ x ∷ before) other e).0) ∙ no_start))
same_start (z ∷ xs) (w ∷ ys) x y before other e (no_start, none) (too, also) first second = same_start xs ys x y before other (event_is z w (xs ++ x ∷ before) (ys ++ y ∷ other) e).1 none also first second

-- what the transfers of the live session have come to
own_answers : (media : Media) (log : List Event) (s : SessionLog) (row : LoaderRow) → (loader_reading media log).live ≡ Some s → loader_row s ≡ row → (own : IsOfNewestStart media log s) → AnsweredIn row own.mine
own_answers media log s at live row own =
    let h : IsAnsweredSince media log s = subst (λ (x : Option SessionLog). LiveIsAnswered media log x) live (answered_since media log) in
    let before : h.before ≡ own.before = same_start h.since own.since h.event own.event h.before own.before (sym h.split ∙ own.split) h.newest_one own.newest (λ none. starts_not media h.event s.start h.started none) (λ none. starts_not media own.event s.start own.started none) in
    let older : List Transfer = past_with (loader_reading media own.before).end.live (loader_reading media own.before).end.past in
    let same : h.mine ≡ own.mine =
    append_cancel_right h.mine own.mine older (ap (λ (x : List Event). h.mine ++ past_with (loader_reading media x).end.live (loader_reading media x).end.past) (sym before) ∙ (sym h.past ∙ own.past)) in
    subst (λ (ts : List Transfer). AnsweredIn at ts) same (subst (λ (x : LoaderRow). AnsweredIn x h.mine) row h.come_to)

-- a session that takes its first LUS was answered
pub first_answer : (media : Media) (log : List Event) (s : SessionLog) → (loader_reading media log).live ≡ Some s → loader_row s ≡ Takes_lus → (own : IsOfNewestStart media log s) → ReadAnswered own.mine
first_answer media log s live row own = own_answers media log s Takes_lus live row own

-- and so was one that serves files
pub files_answer : (media : Media) (log : List Event) (s : SessionLog) → (loader_reading media log).live ≡ Some s → loader_row s ≡ Serves_files → (own : IsOfNewestStart media log s) → HasRead own.mine
files_answer media log s live row own = own_answers media log s Serves_files live row own

-- ---- the rows of an information session

info_fold : (row : LoaderRow) (done : List Transfer) → IsInfoRow row → IsInfoRow (fold (λ x _. row_after x) row done)
info_fold row [] h = h
info_fold row (t ∷ done) h = info_fold (row_after row) done (info_after row h)

info_row : (done : List Transfer) → IsInfoRow (row_of Info done)
unfolding row_of
info_row done = info_fold Reads_lci done tt

-- the event starts an upload
pub record StartsUpload (event : Event) : Type 0 where
  pub hw : List ℕ
  pub pos : List ℕ
  pub parts : List (List ℕ)
  pub is : event ≡ Starts_upload hw pos parts

pub upload_started : (media : Media) (event : Event) (s : SessionLog) → IsStartedBy media event s.start → (IsInfoRow (loader_row s) → ⊥) → StartsUpload event
upload_started media (Starts_upload hw pos parts) s h not = record { hw = hw; pos = pos; parts = parts; is = refl }
upload_started media (Starts_info hw pos) s info not = absurd (not (subst (λ (kind : SessionKind). IsInfoRow (row_of kind s.done)) (sym info) (info_row s.done)))
upload_started media (Gets from to bytes) s h not = absurd h
upload_started media Ticks s h not = absurd h
upload_started media (Learns size) s h not = absurd h
