-- What ends a session of the loader whose outcome comes from a file, and that its first transfer reads one.
use Rattle.std.proofs.Common.{◌≡◌, ℕ, Bool, true, false, cond, eqb, List, [], ◌∷◌, ◌++◌, length, Option, Some, None, Result, Ok, Err, refl, sym, ap, subst, ◌∙◌}
use Rattle.std.specs.Prelude.{bytes_eq, nat_lt}
use Rattle.load_protocol_files.specs.declared.lur.Wanted.{Wanted}
use Rattle.tftp_packet.specs.declared.options.Options.{Options}
use Rattle.tftp_packet.specs.Packets.{Ack, Data, Error, Oack, PacketView, Rrq, Wrq}
use Rattle.tftp_link.specs.Answers.{Again, Answer, Completes, Dropped, Fails, Grants, Proceeds, TakesBlock, TakesLast}
use Rattle.exchange_trace.specs.declared.trace.Side.TheVariants as sides
use Rattle.exchange_trace.specs.Happenings.{DatagramView}
use Rattle.exchange_trace.specs.Logs.{Event, Gets, Learns, Starts_info, Starts_upload, Ticks}
use Rattle.transfer_end.specs.Moves.{Asks_size, Hears, Move, Recalls, Refuses, Repeats, Serves, Stops, past_with, reading_after, reading_unchanged, readings_after}
use Rattle.transfer_end.specs.Packets.{belongs, has_port, heard_answer, is_busy, is_fresh, may_repeat, packet_in, transfer_moves}
use Rattle.transfer_end.specs.Readings.{Reading}
use Rattle.transfer_end.specs.Transfers.{Reads, Role, ServesRead, ServesWrite, Writes, Transfer, arriving_in, end_answer, end_in, end_of, with_packet}
use Rattle.transfer_end.specs.Views.{EndView, end_view, transfer_view}
use Rattle.session_rules.specs.declared.outcome.FileKind.{FileKind}
use Rattle.session_rules.specs.declared.outcome.Outcome.{Outcome}
use Rattle.session_rules.specs.declared.outcome.Outcome.TheVariants.{Replaced}
use Rattle.session_rules.specs.declared.outcome.SessionKind.{SessionKind}
use Rattle.session_rules.specs.declared.outcome.SessionKind.TheVariants.{Info, Upload}
use Rattle.session_rules.specs.Buffers.{buffered, buffered_more}
use Rattle.session_rules.specs.FileNames.{file_name}
use Rattle.session_rules.specs.Loader.{Advances, Begins, Begins_over, Continues, EndedSession, Ends, LoaderChange, LoaderDecision, LoaderSession, Start, answer_decision, begin_with, doing, ended_as, got_decision, listed_upload, loader_decision, next_decision, packet_decision, read_decision, request_decision, row_request, take_request, tick_decision, turn_decision, write_decision}
use Rattle.session_rules.proofs.LoaderLemmas.{end_stays}
use Rattle.session_rules.specs.LoaderLog.{LoaderReading, SessionLog, loader_extended, loader_reading, loader_reading_changed, loader_view, session_view}
use Rattle.session_rules.proofs.LoaderRoleLemmas.{head_is, longer, longer_two}
use Rattle.session_rules.specs.LoaderRoles.{EndsWithLive, loader_row}
use Rattle.session_rules.specs.LoaderRows.{Comes_to, Goes_on, LoaderRow, Reads_lci, Reads_lui, Serves_files, Takes_lcl, Takes_lcs, Takes_lus, RowTurn, Writes_lur, file_turn, first_row, kind_taken, row_after, serves_files}
use Rattle.session_rules.specs.MediaFiles.{Media, wanted_of}
use Rattle.session_rules.proofs.SessionLemmas.{begun_by, decision_begins}
use Rattle.session_rules.specs.Sessions.{started_by}
use Rattle.replay_rules.specs.Causes.{IsOutcomeOfFile}
use Rattle.replay_rules.proofs.TargetRoles.{IsReading}

-- the transfer that was live took its file whole, and the session comes to this by it
pub record EndsByTurn (end : Reading) (s : SessionLog) (moves : List Move) (outcome : Outcome) (more : List ℕ) : Type 0 where
  pub live : Transfer
  pub was_live : end.live ≡ Some live
  pub from : ℕ
  pub packet : PacketView
  pub past : (readings_after sides.Loader end moves).past ≡ with_packet live from packet ∷ end.past
  pub free : (readings_after sides.Loader end moves).live ≡ None
  pub last : end_answer (end_in live) packet ≡ TakesLast more
  pub turn : file_turn (loader_row s) (buffered_more (buffered (arriving_in end.live)) more) ≡ Comes_to outcome

abbrev pub EndsFor : Reading → Option SessionLog → List Move → Outcome → List ℕ → Type 0
EndsFor end None moves outcome more = Unit {0}
EndsFor end (Some s) moves outcome more = IsOutcomeOfFile outcome → EndsByTurn end s moves outcome more

-- in its first row the loader reads
abbrev pub LiveReads : LoaderRow → Option Transfer → Type 0
LiveReads row None = Unit {0}
LiveReads Reads_lci (Some t) = IsReading t.role
LiveReads Reads_lui (Some t) = IsReading t.role
LiveReads row (Some t) = Unit {0}

abbrev pub KeepsReading : Reading → Option SessionLog → List Move → Type 0
KeepsReading end None moves = Unit {0}
KeepsReading end (Some s) moves = LiveReads (loader_row s) end.live → LiveReads (loader_row s) (readings_after sides.Loader end moves).live

abbrev pub FitsFile : Reading → Option SessionLog → List Move → LoaderChange → Type 0
FitsFile end live moves (Ends outcome more) = EndsFor end live moves outcome more
FitsFile end live moves (Begins_over kind outcome) = IsOutcomeOfFile outcome → ⊥
FitsFile end live moves (Continues more) = KeepsReading end live moves
FitsFile end live moves Advances = Unit {0}
FitsFile end live moves (Begins start) = LiveReads (first_row start.kind) (readings_after sides.Loader end moves).live

abbrev pub Fits : Reading → Option SessionLog → LoaderDecision → Type 0
Fits end live d = FitsFile end live d.moves d.change

abbrev after : Reading → List Move → Reading
after end moves = readings_after sides.Loader end moves

abbrev kept : SessionLog → Reading → LoaderSession
kept s end = record { start = s.start; row = loader_row s; arriving = buffered (arriving_in end.live) }

fits_if : (end : Reading) (live : Option SessionLog) (b : Bool) (x y : LoaderDecision) → Fits end live x → Fits end live y → Fits end live (cond b x y)
fits_if end live true x y p q = p
fits_if end live false x y p q = q

-- nothing changes of the live transfer
stays_fits : (end : Reading) (live : Option SessionLog) (moves : List Move) → (after end moves).live ≡ end.live → Fits end live (doing moves)
stays_fits end None moves e = tt
stays_fits end (Some s) moves e = λ h. subst (LiveReads (loader_row s)) (sym e) h

-- ---- starts

first_reads : (size : Option ℕ) (start : Start) (kind : SessionKind) (role : Role) → row_request size start (first_row kind) ≡ Some role → IsReading role
first_reads size start Info (Reads name o) e = tt
first_reads size start Upload (Reads name o) e = tt
first_reads size start Info (Writes name o file) e = absurd cc
first_reads size start Upload (Writes name o file) e = absurd cc
first_reads size start Info (ServesRead name o file) e = absurd cc
first_reads size start Upload (ServesRead name o file) e = absurd cc
first_reads size start Info (ServesWrite name o) e = absurd cc
first_reads size start Upload (ServesWrite name o) e = absurd cc

first_live : (kind : SessionKind) (t : Transfer) → IsReading t.role → LiveReads (first_row kind) (Some t)
first_live Info t reads = reads
first_live Upload t reads = reads

begins_fits : (end : Reading) (live : Option SessionLog) (s : Start) (role : Option Role) → row_request end.asks_size s (first_row s.kind) ≡ role → Fits end live (begin_with (end_view end) s role)
begins_fits end live s None is = stays_fits end live [] refl
begins_fits end live s (Some role) is = fits_if end live (has_port (end_view end)) _ _ (first_live s.kind _ (first_reads end.asks_size s s.kind role is)) (λ h. h)

listed_fits : (end : Reading) (live : Option SessionLog) (hw pos : List ℕ) (found : Result (List Wanted) (List ℕ)) → Fits end live (listed_upload (end_view end) hw pos found)
listed_fits end live hw pos (Ok loads) =
    begins_fits end live (record { kind = Upload; hw = hw; pos = pos; loads = loads }) (row_request end.asks_size (record { kind = Upload; hw = hw; pos = pos; loads = loads }) (first_row Upload)) refl
listed_fits end live hw pos (Err part) = λ h. h

-- ---- requests

-- a row in which the loader takes a request isn't its first
abbrev TakesRequests : LoaderRow → Type 0
TakesRequests Reads_lci = ⊥
TakesRequests Reads_lui = ⊥
TakesRequests row = Unit {0}

not_first : (row : LoaderRow) (live : Option Transfer) → TakesRequests row → LiveReads row live
not_first row None h = tt
not_first Reads_lci (Some t) h = absurd h
not_first Reads_lui (Some t) h = absurd h
not_first Takes_lcs (Some t) h = tt
not_first Takes_lcl (Some t) h = tt
not_first Takes_lus (Some t) h = tt
not_first Writes_lur (Some t) h = tt
not_first Serves_files (Some t) h = tt

serving : (row : LoaderRow) → serves_files row ≡ true → TakesRequests row
serving Serves_files e = tt
serving Reads_lci e = absurd cc
serving Reads_lui e = absurd cc
serving Takes_lcs e = tt
serving Takes_lcl e = tt
serving Takes_lus e = tt
serving Writes_lur e = tt

taking : (row : LoaderRow) (kind : FileKind) → kind_taken row ≡ Some kind → TakesRequests row
taking Takes_lcs kind e = tt
taking Takes_lcl kind e = tt
taking Takes_lus kind e = tt
taking Serves_files kind e = tt
taking Writes_lur kind e = tt
taking Reads_lci kind e = absurd cc
taking Reads_lui kind e = absurd cc

taken_fits : (end : Reading) (s : SessionLog) (from : ℕ) (role : Role) → TakesRequests (loader_row s) → Fits end (Some s) (take_request (end_view end) from role)
taken_fits end s from role takes = fits_if end (Some s) (is_fresh (end_view end) from) _ _ (fits_if end (Some s) (has_port (end_view end)) _ _ (λ h. not_first (loader_row s) (after end (Serves from role ∷ [])).live takes) (λ h. absurd h)) (stays_fits end (Some s) [] refl)

read_fits : (end : Reading) (s : SessionLog) (from : ℕ) (name : List ℕ) (o : Options) (found : Option (List ℕ)) → TakesRequests (loader_row s) → Fits end (Some s) (read_decision (end_view end) from name o found)
read_fits end s from name o None takes = stays_fits end (Some s) (Refuses from ∷ []) refl
read_fits end s from name o (Some file) takes = taken_fits end s from (ServesRead name o file) takes

write_fits : (end : Reading) (s : SessionLog) (from : ℕ) (name : List ℕ) (o : Options) (kind : Option FileKind) → kind_taken (loader_row s) ≡ kind → Fits end (Some s) (write_decision (end_view end) s.start from name o kind)
write_fits end s from name o None is = stays_fits end (Some s) [] refl
write_fits end s from name o (Some kind) is =
    fits_if end (Some s) (bytes_eq name (file_name s.start.hw s.start.pos kind)) _ _ (taken_fits end s from (ServesWrite name o) (taking (loader_row s) kind is)) (stays_fits end (Some s) [] refl)

request_fits : (media : Media) (end : Reading) (s : SessionLog) (from : ℕ) (p : PacketView) → Fits end (Some s) (request_decision media (end_view end) (kept s end) from p)
request_fits media end s from (Rrq name o) = by (serves_files (loader_row s)) refl
  where
    by : (b : Bool) → serves_files (loader_row s) ≡ b → Fits end (Some s) (cond b (read_decision (end_view end) from name o (media.file name)) (doing []))
    by true e = read_fits end s from name o (media.file name) (serving (loader_row s) e)
    by false e = stays_fits end (Some s) [] refl
request_fits media end s from (Wrq name o) = write_fits end s from name o (kind_taken (loader_row s)) refl
request_fits media end s from (Data k b) = stays_fits end (Some s) [] refl
request_fits media end s from (Ack k) = stays_fits end (Some s) [] refl
request_fits media end s from (Error code m) = stays_fits end (Some s) [] refl
request_fits media end s from (Oack o) = stays_fits end (Some s) [] refl

-- ---- the end of a transfer

after_more : (end : Reading) (moves : List Move) (move : Move) → after end (moves ++ move ∷ []) ≡ reading_after sides.Loader (after end moves) move
after_more end [] move = refl
after_more end (first ∷ moves) move = after_more (reading_after sides.Loader end first) moves move

next_fits : (end : Reading) (s : SessionLog) (moves : List Move) (more : List ℕ) (role : Option Role) → Fits end (Some s) (next_decision (end_view end) moves more role)
next_fits end s moves more None = tt
next_fits end s moves more (Some role) = fits_if end (Some s) (has_port (end_view end)) _ _ tt (λ h. absurd h)

-- the file of the transfer that was live is whole
turn_fits : (end : Reading) (s : SessionLog) (live : Transfer) (from : ℕ) (p : PacketView) (moves : List Move) (more : List ℕ) (turn : RowTurn) → end.live ≡ Some live → end_answer (end_in live) p ≡ TakesLast more
    → (after end moves).past ≡ with_packet live from p ∷ end.past → (after end moves).live ≡ None → file_turn (loader_row s) (buffered_more (buffered (arriving_in end.live)) more) ≡ turn → Fits end (Some s) (turn_decision (end_view end) (kept s end) moves more turn)
turn_fits end s live from p moves more Goes_on was last one free is = next_fits end s moves more (row_request (end_view end).asks_size s.start (row_after (loader_row s)))
turn_fits end s live from p moves more (Comes_to outcome) was last one free is = λ h. record {
  live = live;
  was_live = was;
  from = from;
  packet = p;
  past = ap (λ (r : Reading). r.past) (after_more end moves Stops) ∙ (ap (λ (t : Option Transfer). past_with t (after end moves).past) free ∙ one);
  free = ap (λ (r : Reading). r.live) (after_more end moves Stops);
  last = last;
  turn = is;
}

-- ---- packets of the live transfer

module _ (first_port : ℕ) (past : List Transfer) (ticks : ℕ) (last : Option DatagramView) (size : Option ℕ) (s : SessionLog) (from : ℕ) (p : PacketView) where
  abbrev with_live : Option Transfer → Reading
  with_live live = record { first_port = first_port; past = past; live = live; ticks = ticks; last = last; asks_size = size }

  more_reads : (row : LoaderRow) (t : Transfer) → LiveReads row (Some t) → LiveReads row (Some (with_packet t from p))
  more_reads Reads_lci t h = h
  more_reads Reads_lui t h = h
  more_reads Takes_lcs t h = tt
  more_reads Takes_lcl t h = tt
  more_reads Takes_lus t h = tt
  more_reads Writes_lur t h = tt
  more_reads Serves_files t h = tt

  unchanged_reads : (t : Transfer) (peer : Option ℕ) → LiveReads (loader_row s) (Some t) → LiveReads (loader_row s) (reading_unchanged (with_live (Some t)) t from p peer).live
  unchanged_reads t None h = h
  unchanged_reads t (Some port) h = more_reads (loader_row s) t h

  answered_fits : (t : Transfer) (answer : Answer) → end_answer (end_of t.role t.got) p ≡ answer → Fits (with_live (Some t)) (Some s) (answer_decision (end_view (with_live (Some t))) (kept s (with_live (Some t))) (Hears from p ∷ []) answer)
  answered_fits t (TakesLast b) e = turn_fits (with_live (Some t)) s t from p (Hears from p ∷ []) b _ refl e (rw e refl) (rw e refl) refl
  answered_fits t (TakesBlock b) e = λ h. rw e (more_reads (loader_row s) t h)
  answered_fits t Completes e = next_fits (with_live (Some t)) s (Hears from p ∷ []) [] (row_request (end_view (with_live (Some t))).asks_size s.start (row_after (loader_row s)))
  answered_fits t (Fails code) e = λ h. absurd h
  answered_fits t Dropped e = λ h. rw e (unchanged_reads t t.peer h)
  answered_fits t Again e = λ h. rw e (unchanged_reads t t.peer h)
  answered_fits t (Grants o) e = λ h. rw e (more_reads (loader_row s) t h)
  answered_fits t Proceeds e = λ h. rw e (more_reads (loader_row s) t h)

  recalled : (end : Reading) (b : Bool) → after end (cond b (Recalls from p ∷ []) []) ≡ end
  recalled end true = refl
  recalled end false = refl

  abbrev recalls : EndView → (to : ℕ) → List Move
  recalls v to = cond (belongs v.kept from to) (Recalls from p ∷ []) []

  recalls_fit : (end : Reading) (to : ℕ) → Fits end (Some s) (doing (recalls (end_view end) to))
  recalls_fit end to = stays_fits end (Some s) (recalls (end_view end) to) (ap (λ (r : Reading). r.live) (recalled end (belongs (end_view end).kept from to)))

  heard_fits : (t : Transfer) (to : ℕ) (b : Bool)
      → Fits (with_live (Some t)) (Some s) (answer_decision (end_view (with_live (Some t))) (kept s (with_live (Some t))) (cond b (Hears from p ∷ []) (recalls (end_view (with_live (Some t))) to)) (cond b (end_answer (end_of t.role t.got) p) Dropped))
  heard_fits t to true = answered_fits t (end_answer (end_of t.role t.got) p) refl
  heard_fits t to false = recalls_fit (with_live (Some t)) to

  transfer_fits : (live : Option Transfer) (to : ℕ)
      → Fits (with_live live) (Some s) (answer_decision (end_view (with_live live)) (kept s (with_live live)) (transfer_moves (end_view (with_live live)) from to p) (heard_answer (end_view (with_live live)) from to p))
  transfer_fits (Some t) to = heard_fits t to (belongs (Some (transfer_view t)) from to)
  transfer_fits None to = recalls_fit (with_live None) to

packet_fits : (media : Media) (end : Reading) (s : SessionLog) (from to : ℕ) (p : PacketView) → Fits end (Some s) (packet_decision media (end_view end) (kept s end) from to p)
packet_fits media end s from to p =
    fits_if end (Some s) (eqb to 59) _ _ (fits_if end (Some s) (is_busy (end_view end)) _ _ (stays_fits end (Some s) [] refl) (request_fits media end s from p))
    (transfer_fits end.first_port end.past end.ticks end.last end.asks_size s from p end.live to)

-- ---- events

got_fits : (media : Media) (end : Reading) (live : Option SessionLog) (ended : List EndedSession) (from to : ℕ) (p : Option PacketView)
    → Fits end live (got_decision media (loader_view (record { end = end; live = live; ended = ended })) from to p)
got_fits media end live ended from to None = stays_fits end live [] refl
got_fits media end None ended from to (Some p) = fits_if end None (eqb to 59) _ _ tt tt
got_fits media end (Some s) ended from to (Some p) = packet_fits media end s from to p

tick_fits : (end : Reading) (live : Option SessionLog) → Fits end live (tick_decision (end_view end) (session_view end live))
tick_fits end None = tt
tick_fits end (Some s) = fits_if end (Some s) (may_repeat (end_view end)) _ _ (stays_fits end (Some s) (Repeats ∷ []) refl) (λ h. absurd h)

pub decision_fits : (media : Media) (end : Reading) (live : Option SessionLog) (ended : List EndedSession) (e : Event) → Fits end live (loader_decision media (loader_view (record { end = end; live = live; ended = ended })) e)
decision_fits media end live ended (Starts_info hw pos) =
    begins_fits end live (record { kind = Info; hw = hw; pos = pos; loads = [] }) (row_request end.asks_size (record { kind = Info; hw = hw; pos = pos; loads = [] }) (first_row Info)) refl
decision_fits media end live ended (Starts_upload hw pos parts) = fits_if end live (nat_lt 32 (length parts)) _ _ (λ h. h) (listed_fits end live hw pos (wanted_of media.loads parts))
decision_fits media end live ended (Gets from to bytes) = got_fits media end live ended from to (packet_in bytes)
decision_fits media end live ended Ticks = tick_fits end live
decision_fits media end live ended (Learns size) = stays_fits end live (Asks_size size ∷ []) refl

-- ---- what ended in a log

-- The session ended with the file that its live transfer took whole.
pub record EndedByFile (media : Media) (r : LoaderReading) (e : Event) (outcome : Outcome) : Type 0 where
  pub ends : EndsWithLive media r e
  pub more : List ℕ
  pub last : end_answer (end_in ends.live) ends.packet ≡ TakesLast more
  pub turn : file_turn (loader_row ends.session) (buffered_more (buffered (arriving_in r.end.live)) more) ≡ Comes_to outcome

module _ (media : Media) (r : LoaderReading) (e : Event) (session : EndedSession) (of_file : IsOutcomeOfFile session.outcome) where
  abbrev moves_now : List Move
  moves_now = (loader_decision media (loader_view r) e).moves

  by_turn : (s : SessionLog) (outcome : Outcome) (more : List ℕ) → r.live ≡ Some s → EndsByTurn r.end s moves_now outcome more → [] ≡ started_by e → (loader_extended media r e).end ≡ after r.end moves_now → EndedByFile media r e outcome
  by_turn s outcome more was h none end = record {
    ends = record {
      session = s;
      was_live = was;
      no_start = sym none;
      live = h.live;
      going = h.was_live;
      from = h.from;
      packet = h.packet;
      transfer = with_packet h.live h.from h.packet;
      is = refl;
      past = ap (λ (x : Reading). x.past) end ∙ h.past;
      free = ap (λ (x : Reading). x.live) end ∙ h.free;
    };
    more = more;
    last = h.last;
    turn = h.turn;
  }

  not_replaced : (s : SessionLog) (bytes : List ℕ) → ended_as s.start.kind Replaced bytes ≡ session → ⊥
  not_replaced s bytes is = subst IsOutcomeOfFile (sym (ap (λ (x : EndedSession). x.outcome) is)) of_file

  by_change : (live : Option SessionLog) (change : LoaderChange) → r.live ≡ live → FitsFile r.end live moves_now change → begun_by change ≡ started_by e → (loader_extended media r e).end ≡ after r.end moves_now
      → (loader_reading_changed (after r.end moves_now) (record { end = r.end; live = live; ended = r.ended }) change).ended ≡ session ∷ r.ended → EndedByFile media r e session.outcome
  by_change live (Continues more) was fits none end grows = absurd (longer r.ended session grows)
  by_change live Advances was fits none end grows = absurd (longer r.ended session grows)
  by_change None (Ends outcome more) was fits none end grows = absurd (longer r.ended session grows)
  by_change (Some s) (Ends outcome more) was fits none end grows =
      let is : outcome ≡ session.outcome = ap (λ (x : EndedSession). x.outcome) (head_is r.ended (ended_as s.start.kind outcome (buffered_more (buffered (arriving_in r.end.live)) more).prefix) session grows) in
      subst (λ (x : Outcome). EndedByFile media r e x) is (by_turn s outcome more was (fits (subst IsOutcomeOfFile (sym is) of_file)) none end)
  by_change None (Begins start) was fits none end grows = absurd (longer r.ended session grows)
  by_change (Some s) (Begins start) was fits none end grows = absurd (not_replaced s _ (head_is r.ended _ session grows))
  by_change None (Begins_over kind outcome) was fits none end grows = absurd (fits (subst IsOutcomeOfFile (sym (ap (λ (x : EndedSession). x.outcome) (head_is r.ended _ session grows))) of_file))
  by_change (Some s) (Begins_over kind outcome) was fits none end grows = absurd (longer_two r.ended _ _ session grows)

pub ended_by_file : (media : Media) (log : List Event) (e : Event) (session : EndedSession) → (loader_reading media (e ∷ log)).ended ≡ session ∷ (loader_reading media log).ended → IsOutcomeOfFile session.outcome → EndedByFile media (loader_reading media log) e session.outcome
ended_by_file media log e session grows of_file =
    let r = loader_reading media log in
    let d = loader_decision media (loader_view r) e in
    by_change media r e session of_file r.live d.change refl (decision_fits media r.end r.live r.ended e) (decision_begins media (loader_view r) e) (end_stays (after r.end d.moves) r d.change) grows
