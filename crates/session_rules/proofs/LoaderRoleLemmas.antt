-- Proofs of which transfers the rows of the loader have, and of how its sessions are completed.
use Rattle.std.proofs.Common.{◌≡◌, ℕ, ◌<◌, Bool, true, false, cond, eqb, List, [], ◌∷◌, ◌++◌, length, Option, Some, None, Result, Ok, Err, refl, sym, ap, subst, ◌∙◌, append-nil, arith}
use Rattle.std.specs.Prelude.{bytes_eq, nat_lt, fold, ◌==◌}
use Rattle.std.specs.List.{concat}
use Rattle.std.specs.Result.{result_ok}
use Rattle.std.proofs.lemmas.Bool.{ltb-false, ltb-true}
use Rattle.std.proofs.lemmas.List.{take_all}
use Rattle.std.proofs.lemmas.Slice.Eq.{bytes_eq-Decides}
use Rattle.field_grammar.specs.Answers.{answer}
use Rattle.load_protocol_files.specs.declared.fault.FileFault.{FileFault}
use Rattle.load_protocol_files.specs.declared.lci.Lci.{Lci}
use Rattle.load_protocol_files.specs.declared.lcs.Lcs.{Lcs}
use Rattle.load_protocol_files.specs.declared.lur.Wanted.{Wanted}
use Rattle.load_protocol_files.specs.Lci.{lci}
use Rattle.load_protocol_files.specs.Lcl.{lcl}
use Rattle.load_protocol_files.specs.Lcs.{lcs}
use Rattle.tftp_packet.specs.declared.options.Options.{Options}
use Rattle.tftp_packet.specs.Packets.{PacketView, Rrq, Wrq, Data, Ack, Error, Oack}
use Rattle.tftp_link.specs.declared.phase.Phase.{Phase}
use Rattle.tftp_link.specs.declared.phase.Phase.TheVariants.{Waiting, Running, Finished, Failed}
use Rattle.tftp_link.specs.Answers.{Again, Answer, Completes, Dropped, Fails, Grants, Proceeds, TakesBlock, TakesLast, error_answer}
use Rattle.exchange_trace.specs.declared.trace.Side.TheVariants as sides
use Rattle.exchange_trace.specs.Happenings.{DatagramView}
use Rattle.exchange_trace.specs.Logs.{Event, Gets, Learns, Starts_info, Starts_upload, Ticks}
use Rattle.tftp_link.specs.Answers.{lent_by}
use Rattle.transfer_end.proofs.ArrivalLemmas.{arrived_more}
use Rattle.transfer_end.proofs.RfcLemmas.{end_is_of_link}
use Rattle.transfer_end.proofs.ViewLemmas.{end_of_more}
use Rattle.transfer_end.specs.Transfers.{LinkEnd, Reads, Receives, Role, Sends, ServesRead, ServesWrite, Transfer, Writes, arrived_of, arriving_in, bound_to, end_answer, end_in, end_moved, end_of, is_received, with_packet}
use Rattle.transfer_end.specs.OtherEnds.{is_asking}
use Rattle.transfer_end.specs.Readings.{Reading, mark_in, mark_of, mark_with}
use Rattle.transfer_end.specs.Views.{EndView, end_view, transfer_view}
use Rattle.transfer_end.specs.Moves.{Asks, Asks_size, Hears, Move, Recalls, Refuses, Repeats, Stops, past_with, reading_after, reading_unchanged, readings_after}
use Rattle.transfer_end.specs.Packets.{belongs, has_port, heard_answer, is_busy, is_fresh, may_repeat, packet_in, transfer_moves}
use Rattle.session_rules.specs.declared.outcome.FileKind.{FileKind}
use Rattle.session_rules.specs.declared.outcome.FileKind.TheVariants as kinds
use Rattle.session_rules.specs.declared.outcome.SessionKind.{SessionKind}
use Rattle.session_rules.specs.declared.outcome.SessionKind.TheVariants.{Info, Upload}
use Rattle.session_rules.specs.declared.outcome.Outcome.{Outcome}
use Rattle.session_rules.specs.declared.outcome.Outcome.TheVariants.{Completed, Denied, GaveUp, Replaced, TargetStopped, PortsSpent}
use Rattle.session_rules.specs.Buffers.{Buffer, buffered, buffered_more, buffer_size, is_too_long}
use Rattle.session_rules.specs.FileNames.{file_name}
use Rattle.session_rules.specs.LoaderRows.{Comes_to, Goes_on, LoaderRow, Reads_lci, Reads_lui, Serves_files, Takes_lcl, Takes_lcs, Takes_lus, RowTurn, Writes_lur, kind_received, bytes_turn, bad_file, file_turn, first_row, kind_taken, lci_turn, lcs_turn, row_after, row_of, serves_files}
use Rattle.session_rules.specs.Loader.{Advances, Begins, Begins_over, Continues, EndedSession, Ends, LoaderChange, ended_as, listed_by, LoaderDecision, LoaderSession, Start, answer_decision, begin_with, doing, got_decision, listed_upload, loader_decision, next_decision, packet_decision, read_decision, request_decision, row_request, take_request, tick_decision, turn_decision, write_decision}
use Rattle.session_rules.proofs.BufferLemmas.{buffered_on}
use Rattle.session_rules.proofs.LoaderLemmas.{FitsChange, decision_fits, end_stays, row_of_more, row_of_none}
use Rattle.session_rules.specs.LoaderLog.{LoaderReading, SessionLog, loader_extended, loader_reading, loader_reading_changed, loader_view, session_view}
use Rattle.session_rules.specs.LoaderRoles.{CompletedListsArrived, EndsByFile, EndsLive, EndsWithLive, IsAboveMark, IsNoError, ListsArrived, ServedIsFresh, TakesFile, FitsLoaderChange, IsOfLoaderRow, LoaderLiveFits, LoaderRoleFits, LoaderRolesFit, loader_row}
use Rattle.session_rules.specs.MediaFiles.{Media, wanted_of}
use Rattle.session_rules.proofs.SessionLemmas.{begun_by, decision_begins}
use Rattle.session_rules.specs.Sessions.{started_by}
use Rattle.session_rules.specs.Reports.{accepted, denied, in_progress, lur_file, stopped}

abbrev after : Reading → List Move → Reading
after end moves = readings_after sides.Loader end moves

abbrev Fits : Reading → Option SessionLog → LoaderDecision → Type 0
Fits end live d = FitsLoaderChange end live d.moves d.change

fits_if : (end : Reading) (live : Option SessionLog) (b : Bool) (x y : LoaderDecision) → (b ≡ true → Fits end live x) → (b ≡ false → Fits end live y) → Fits end live (cond b x y)
fits_if end live true x y p q = p refl
fits_if end live false x y p q = q refl

abbrev kept : SessionLog → Reading → LoaderSession
kept s end = record { start = s.start; row = loader_row s; arriving = buffered (arriving_in end.live) }

-- ---- starts

first_asks : (start : Start) (kind : SessionKind) (role : Role) → is_asking role ≡ true → IsOfLoaderRow start (first_row kind) role
first_asks start Info role asks = asks
first_asks start Upload role asks = asks

stays_fits : (end : Reading) (live : Option SessionLog) (moves : List Move) → (after end moves).live ≡ end.live → (after end moves).past ≡ end.past → Fits end live (doing moves)
stays_fits end None moves e f = tt
stays_fits end (Some s) moves e f = (
  λ fits. subst (λ (t : Option Transfer). LoaderLiveFits s.start (loader_row s) t) (sym e) fits,
  f,
  λ fresh. subst (λ (t : Option Transfer). ServedIsFresh t (after end moves).past) (sym e) (subst (λ (ts : List Transfer). ServedIsFresh end.live ts) (sym f) fresh),
)

nothing_fits : (end : Reading) (live : Option SessionLog) → Fits end live (doing [])
nothing_fits end live = stays_fits end live [] refl refl

-- a row asks in a role that asks
asks_role : (size : Option ℕ) (start : Start) (row : LoaderRow) (role : Role) → row_request size start row ≡ Some role → is_asking role ≡ true
asks_role size start row (Reads name o) e = refl
asks_role size start row (Writes name o file) e = refl
asks_role size start Reads_lci (ServesRead name o file) e = absurd cc
asks_role size start Reads_lui (ServesRead name o file) e = absurd cc
asks_role size start Writes_lur (ServesRead name o file) e = absurd cc
asks_role size start Serves_files (ServesRead name o file) e = absurd cc
asks_role size start Takes_lcs (ServesRead name o file) e = absurd cc
asks_role size start Takes_lcl (ServesRead name o file) e = absurd cc
asks_role size start Takes_lus (ServesRead name o file) e = absurd cc
asks_role size start Reads_lci (ServesWrite name o) e = absurd cc
asks_role size start Reads_lui (ServesWrite name o) e = absurd cc
asks_role size start Writes_lur (ServesWrite name o) e = absurd cc
asks_role size start Serves_files (ServesWrite name o) e = absurd cc
asks_role size start Takes_lcs (ServesWrite name o) e = absurd cc
asks_role size start Takes_lcl (ServesWrite name o) e = absurd cc
asks_role size start Takes_lus (ServesWrite name o) e = absurd cc

asks_not : (role : Role) → is_asking role ≡ true → is_asking role ≡ false → ⊥
asks_not role asks serves = let wrong : true ≡ false = sym asks ∙ serves in cc

begins_fits : (end : Reading) (live : Option SessionLog) (s : Start) (role : Option Role) → row_request end.asks_size s (first_row s.kind) ≡ role → Fits end live (begin_with (end_view end) s role)
begins_fits end live s None is = nothing_fits end live
begins_fits end live s (Some role) is =
    fits_if end live (has_port (end_view end)) _ _
    (λ e. (first_asks s s.kind role (asks_role end.asks_size s (first_row s.kind) role is), refl, λ serves. absurd (asks_not role (asks_role end.asks_size s (first_row s.kind) role is) serves))) (λ e f. cc)

listed_fits : (end : Reading) (live : Option SessionLog) (hw pos : List ℕ) (found : Result (List Wanted) (List ℕ)) → Fits end live (listed_upload (end_view end) hw pos found)
listed_fits end live hw pos (Ok loads) =
    begins_fits end live (record { kind = Upload; hw = hw; pos = pos; loads = loads }) (row_request end.asks_size (record { kind = Upload; hw = hw; pos = pos; loads = loads }) (first_row Upload)) refl
listed_fits end live hw pos (Err part) = λ f. cc

-- ---- requests

ends_otherwise : (end : Reading) (s : SessionLog) (moves : List Move) (outcome : Outcome) (more : List ℕ) → (outcome ≡ Completed → ⊥) → FitsLoaderChange end (Some s) moves (Ends outcome more)
ends_otherwise end s moves outcome more other = λ e. absurd (other e)

mark_is : (live : Option Transfer) (past : List Transfer) → mark_with (mark_in past) live ≡ mark_in (past_with live past)
mark_is None past = refl
mark_is (Some t) past = refl

taken_fits : (end : Reading) (s : SessionLog) (from : ℕ) (role : Role) → end.live ≡ None → IsOfLoaderRow s.start (loader_row s) role → Fits end (Some s) (take_request (end_view end) from role)
taken_fits end s from role free is =
    fits_if end (Some s) (is_fresh (end_view end) from) _ _
    (λ e. fits_if end (Some s) (has_port (end_view end)) _ _ (λ f. (λ fits. is, ap (λ (t : Option Transfer). past_with t end.past) free, λ fresh serves. above e)) (λ f. ends_otherwise end s (Stops ∷ []) PortsSpent [] (λ g. cc)))
    (λ e. nothing_fits end (Some s))
  where
    above : is_fresh (end_view end) from ≡ true → mark_in (past_with end.live end.past) < from
    above e = subst (λ (mark : ℕ). mark < from) (mark_is end.live end.past) (ltb-true (mark_of end) from e)

serves_any : (start : Start) (row : LoaderRow) (role : Role) → serves_files row ≡ true → is_asking role ≡ false → IsOfLoaderRow start row role
serves_any start Reads_lci role e serves = absurd cc
serves_any start Takes_lcs role e serves = absurd cc
serves_any start Takes_lcl role e serves = absurd cc
serves_any start Reads_lui role e serves = absurd cc
serves_any start Takes_lus role e serves = absurd cc
serves_any start Writes_lur role e serves = absurd cc
serves_any start Serves_files role e serves = serves

read_fits : (end : Reading) (s : SessionLog) (from : ℕ) (name : List ℕ) (o : Options) (found : Option (List ℕ)) → end.live ≡ None → serves_files (loader_row s) ≡ true → Fits end (Some s) (read_decision (end_view end) from name o found)
read_fits end s from name o None free serves = stays_fits end (Some s) (Refuses from ∷ []) refl refl
read_fits end s from name o (Some file) free serves = taken_fits end s from _ free (serves_any s.start (loader_row s) (ServesRead name o file) serves refl)

takes_named : (start : Start) (row : LoaderRow) (kind : FileKind) (name : List ℕ) (o : Options) → kind_taken row ≡ Some kind → name ≡ file_name start.hw start.pos kind → IsOfLoaderRow start row (ServesWrite name o)
takes_named start Takes_lcs kind name o e named = let same : kinds.Lcs ≡ kind = cc in named ∙ ap (λ (k : FileKind). file_name start.hw start.pos k) (sym same)
takes_named start Takes_lcl kind name o e named = let same : kinds.Lcl ≡ kind = cc in named ∙ ap (λ (k : FileKind). file_name start.hw start.pos k) (sym same)
takes_named start Takes_lus kind name o e named = let same : kinds.Lus ≡ kind = cc in named ∙ ap (λ (k : FileKind). file_name start.hw start.pos k) (sym same)
takes_named start Reads_lci kind name o e named = absurd cc
takes_named start Reads_lui kind name o e named = absurd cc
takes_named start Writes_lur kind name o e named = absurd cc
takes_named start Serves_files kind name o e named = refl

write_fits : (end : Reading) (s : SessionLog) (from : ℕ) (name : List ℕ) (o : Options) (kind : Option FileKind) → end.live ≡ None → kind_taken (loader_row s) ≡ kind → Fits end (Some s) (write_decision (end_view end) s.start from name o kind)
write_fits end s from name o None free is = nothing_fits end (Some s)
write_fits end s from name o (Some kind) free is =
    fits_if end (Some s) (bytes_eq name (file_name s.start.hw s.start.pos kind)) _ _
    (λ e. taken_fits end s from _ free (takes_named s.start (loader_row s) kind name o is ((bytes_eq-Decides name (file_name s.start.hw s.start.pos kind)).0 e))) (λ e. nothing_fits end (Some s))

request_fits : (media : Media) (end : Reading) (s : SessionLog) (from : ℕ) (p : PacketView) → end.live ≡ None → Fits end (Some s) (request_decision media (end_view end) (kept s end) from p)
request_fits media end s from (Rrq name o) free = fits_if end (Some s) (serves_files (loader_row s)) _ _ (λ e. read_fits end s from name o (media.file name) free e) (λ e. nothing_fits end (Some s))
request_fits media end s from (Wrq name o) free = write_fits end s from name o (kind_taken (loader_row s)) free refl
request_fits media end s from (Data k b) free = nothing_fits end (Some s)
request_fits media end s from (Ack k) free = nothing_fits end (Some s)
request_fits media end s from (Error code m) free = nothing_fits end (Some s)
request_fits media end s from (Oack o) free = nothing_fits end (Some s)

-- ---- the end of a transfer

after_more : (end : Reading) (moves : List Move) (move : Move) → after end (moves ++ move ∷ []) ≡ reading_after sides.Loader (after end moves) move
after_more end [] move = refl
after_more end (first ∷ moves) move = after_more (reading_after sides.Loader end first) moves move

-- what a row asks for is of the row
asking_row : (size : Option ℕ) (start : Start) (row : LoaderRow) (role : Role) → row_request size start row ≡ Some role → IsOfLoaderRow start row role
asking_row size start Reads_lci role e = asks_role size start Reads_lci role e
asking_row size start Reads_lui role e = asks_role size start Reads_lui role e
asking_row size start Writes_lur (Writes name o file) e = let same : lur_file start.loads ≡ file = cc in sym same
asking_row size start Writes_lur (Reads name o) e = absurd cc
asking_row size start Writes_lur (ServesRead name o file) e = absurd cc
asking_row size start Writes_lur (ServesWrite name o) e = absurd cc
asking_row size start Serves_files role e = absurd cc
asking_row size start Takes_lcs role e = absurd cc
asking_row size start Takes_lcl role e = absurd cc
asking_row size start Takes_lus role e = absurd cc

next_fits : (end : Reading) (s : SessionLog) (moves : List Move) (more : List ℕ) (role : Option Role) → row_request end.asks_size s.start (row_after (loader_row s)) ≡ role → (after end moves).live ≡ None → EndsLive end moves
    → Fits end (Some s) (next_decision (end_view end) moves more role)
next_fits end s moves more None is free ends = (
  subst (λ (t : Option Transfer). LoaderLiveFits s.start (row_after (loader_row s)) t) (sym free) tt,
  ends,
  subst (λ (t : Option Transfer). ServedIsFresh t (after end moves).past) (sym free) tt,
)
next_fits end s moves more (Some role) is free ends =
    fits_if end (Some s) (has_port (end_view end)) _ _
    (λ e. (
      subst (λ (r : Reading). LoaderLiveFits s.start (row_after (loader_row s)) r.live) (sym (after_more end moves (Asks role))) (asking_row end.asks_size s.start (row_after (loader_row s)) role is),
      record {
        live = ends.live;
        was_live = ends.was_live;
        from = ends.from;
        packet = ends.packet;
        no_error = ends.no_error;
        past = ap (λ (r : Reading). r.past) (after_more end moves (Asks role)) ∙ ap (λ (t : Option Transfer). past_with t (after end moves).past) free ∙ ends.past;
      },
      subst (λ (r : Reading). ServedIsFresh r.live r.past) (sym (after_more end moves (Asks role))) (λ serves. absurd (asks_not role (asks_role end.asks_size s.start (row_after (loader_row s)) role is) serves)),
    ))
    (λ e. ends_otherwise end s (moves ++ Stops ∷ []) PortsSpent more (λ f. cc))

-- the file of the transfer that was live is whole
turn_fits : (end : Reading) (s : SessionLog) (live : Transfer) (from : ℕ) (p : PacketView) (moves : List Move) (more : List ℕ) (turn : RowTurn) → end.live ≡ Some live → IsNoError p → end_answer (end_in live) p ≡ TakesLast more
    → (after end moves).past ≡ with_packet live from p ∷ end.past → (after end moves).live ≡ None → file_turn (loader_row s) (buffered_more (buffered (arriving_in end.live)) more) ≡ turn → Fits end (Some s) (turn_decision (end_view end) (kept s end) moves more turn)
turn_fits end s live from p moves more Goes_on was no_error last one free is =
    next_fits end s moves more _ refl free (record { live = live; was_live = was; from = from; packet = p; no_error = no_error; past = one })
turn_fits end s live from p moves more (Comes_to outcome) was no_error last one free is = λ e. record {
  live = live;
  was_live = was;
  from = from;
  packet = p;
  past = ap (λ (r : Reading). r.past) (after_more end moves Stops) ∙ ap (λ (t : Option Transfer). past_with t (after end moves).past) free ∙ one;
  free = ap (λ (r : Reading). r.live) (after_more end moves Stops);
  last = last;
  turn = is ∙ ap (λ (x : Outcome). Comes_to x) e;
}

-- what ends a transfer otherwise than by an ERROR is none
abbrev GoesOnBy : Answer → Type 0
GoesOnBy (TakesLast b) = Unit {0}
GoesOnBy Completes = Unit {0}
GoesOnBy answer = ⊥

error_ends : (phase : Phase) (code : ℕ) (answer : Answer) → error_answer phase code ≡ answer → GoesOnBy answer → ⊥
error_ends Waiting code answer e going = subst GoesOnBy (sym e) going
error_ends Running code answer e going = subst GoesOnBy (sym e) going
error_ends Finished code answer e going = subst GoesOnBy (sym e) going
error_ends (Failed other) code answer e going = subst GoesOnBy (sym e) going

ends_without : (end : LinkEnd) (p : PacketView) (answer : Answer) → end_answer end p ≡ answer → GoesOnBy answer → IsNoError p
ends_without (Receives r) (Error code m) answer e going = error_ends r.phase code answer e going
ends_without (Sends s) (Error code m) answer e going = error_ends s.phase code answer e going
ends_without end (Data k b) answer e going = tt
ends_without end (Ack k) answer e going = tt
ends_without end (Oack o) answer e going = tt
ends_without end (Rrq name o) answer e going = tt
ends_without end (Wrq name o) answer e going = tt

-- ---- packets of the live transfer

module _ (first_port : ℕ) (past : List Transfer) (ticks : ℕ) (last : Option DatagramView) (size : Option ℕ) (s : SessionLog) (from : ℕ) (p : PacketView) where
  abbrev with_live : Option Transfer → Reading
  with_live live = record { first_port = first_port; past = past; live = live; ticks = ticks; last = last; asks_size = size }

  unchanged_role : (t : Transfer) (peer : Option ℕ) → LoaderLiveFits s.start (loader_row s) (Some t) → LoaderLiveFits s.start (loader_row s) (reading_unchanged (with_live (Some t)) t from p peer).live
  unchanged_role t None fits = fits
  unchanged_role t (Some port) fits = fits

  unchanged_past : (t : Transfer) (peer : Option ℕ) → (reading_unchanged (with_live (Some t)) t from p peer).past ≡ past
  unchanged_past t None = refl
  unchanged_past t (Some port) = refl

  -- a packet more doesn't change a port that is known
  more_fresh : (t : Transfer) → ServedIsFresh (Some t) past → ServedIsFresh (Some (with_packet t from p)) past
  more_fresh t fresh = λ serves. by t.peer (fresh serves)
    where
      by : (peer : Option ℕ) → IsAboveMark peer past → IsAboveMark (bound_to peer from) past
      by None above = absurd above
      by (Some port) above = above

  unchanged_fresh : (t : Transfer) (peer : Option ℕ) → ServedIsFresh (Some t) past → ServedIsFresh (reading_unchanged (with_live (Some t)) t from p peer).live (reading_unchanged (with_live (Some t)) t from p peer).past
  unchanged_fresh t None fresh = fresh
  unchanged_fresh t (Some port) fresh = more_fresh t fresh

  answered_fits : (t : Transfer) (answer : Answer) → end_answer (end_of t.role t.got) p ≡ answer → Fits (with_live (Some t)) (Some s) (answer_decision (end_view (with_live (Some t))) (kept s (with_live (Some t))) (Hears from p ∷ []) answer)
  answered_fits t Dropped e = (λ fits. rw e (unchanged_role t t.peer fits), rw e (unchanged_past t t.peer), λ fresh. rw e (unchanged_fresh t t.peer fresh))
  answered_fits t Again e = (λ fits. rw e (unchanged_role t t.peer fits), rw e (unchanged_past t t.peer), λ fresh. rw e (unchanged_fresh t t.peer fresh))
  answered_fits t (Grants o) e = (λ fits. rw e fits, rw e refl, λ fresh. rw e (more_fresh t fresh))
  answered_fits t (TakesBlock b) e = (λ fits. rw e fits, rw e refl, λ fresh. rw e (more_fresh t fresh))
  answered_fits t Proceeds e = (λ fits. rw e fits, rw e refl, λ fresh. rw e (more_fresh t fresh))
  answered_fits t (TakesLast b) e = turn_fits (with_live (Some t)) s t from p (Hears from p ∷ []) b _ refl (ends_without (end_in t) p (TakesLast b) e tt) e (rw e refl) (rw e refl) refl
  answered_fits t Completes e =
      next_fits (with_live (Some t)) s (Hears from p ∷ []) [] _ refl (rw e refl)
      (record { live = t; was_live = refl; from = from; packet = p; no_error = ends_without (end_in t) p Completes e tt; past = rw e refl })
  answered_fits t (Fails code) e = λ f. absurd cc

  abbrev recalls : EndView → (to : ℕ) → List Move
  recalls v to = cond (belongs v.kept from to) (Recalls from p ∷ []) []

  recalled : (end : Reading) (b : Bool) → after end (cond b (Recalls from p ∷ []) []) ≡ end
  recalled end true = refl
  recalled end false = refl

  heard_fits : (t : Transfer) (to : ℕ) (b : Bool)
      → Fits (with_live (Some t)) (Some s) (answer_decision (end_view (with_live (Some t))) (kept s (with_live (Some t))) (cond b (Hears from p ∷ []) (recalls (end_view (with_live (Some t))) to)) (cond b (end_answer (end_of t.role t.got) p) Dropped))
  heard_fits t to true = answered_fits t (end_answer (end_of t.role t.got) p) refl
  heard_fits t to false = stays_fits (with_live (Some t)) (Some s) (recalls (end_view (with_live (Some t))) to) (ap (λ (r : Reading). r.live) (recalled (with_live (Some t)) (belongs (end_view (with_live (Some t))).kept from to)))
      (ap (λ (r : Reading). r.past) (recalled (with_live (Some t)) (belongs (end_view (with_live (Some t))).kept from to)))

  transfer_fits : (live : Option Transfer) (to : ℕ)
      → Fits (with_live live) (Some s) (answer_decision (end_view (with_live live)) (kept s (with_live live)) (transfer_moves (end_view (with_live live)) from to p) (heard_answer (end_view (with_live live)) from to p))
  transfer_fits (Some t) to = heard_fits t to (belongs (Some (transfer_view t)) from to)
  transfer_fits None to = stays_fits (with_live None) (Some s) (recalls (end_view (with_live None)) to) (ap (λ (r : Reading). r.live) (recalled (with_live None) (belongs (end_view (with_live None)).kept from to)))
      (ap (λ (r : Reading). r.past) (recalled (with_live None) (belongs (end_view (with_live None)).kept from to)))

free_if : (end : Reading) (live : Option Transfer) → end.live ≡ live → is_busy (end_view end) ≡ false → end.live ≡ None
free_if end None e free = e
free_if end (Some t) e free = absurd (let busy : is_busy (end_view end) ≡ true = rw e refl in let wrong : true ≡ false = sym busy ∙ free in cc)

packet_fits : (media : Media) (end : Reading) (s : SessionLog) (from to : ℕ) (p : PacketView) → Fits end (Some s) (packet_decision media (end_view end) (kept s end) from to p)
packet_fits media end s from to p =
    fits_if end (Some s) (eqb to 59) _ _
    (λ e. fits_if end (Some s) (is_busy (end_view end)) _ _ (λ e. nothing_fits end (Some s)) (λ e. request_fits media end s from p (free_if end end.live refl e)))
    (λ e. transfer_fits end.first_port end.past end.ticks end.last end.asks_size s from p end.live to)

-- ---- events

got_fits : (media : Media) (end : Reading) (live : Option SessionLog) (ended : List EndedSession) (from to : ℕ) (p : Option PacketView)
    → Fits end live (got_decision media (loader_view (record { end = end; live = live; ended = ended })) from to p)
got_fits media end live ended from to None = nothing_fits end live
got_fits media end None ended from to (Some p) = fits_if end None (eqb to 59) _ _ (λ e. tt) (λ e. tt)
got_fits media end (Some s) ended from to (Some p) = packet_fits media end s from to p

tick_fits : (end : Reading) (live : Option SessionLog) → Fits end live (tick_decision (end_view end) (session_view end live))
tick_fits end None = tt
tick_fits end (Some s) = fits_if end (Some s) (may_repeat (end_view end)) _ _ (λ e. stays_fits end (Some s) (Repeats ∷ []) refl refl) (λ e. ends_otherwise end s (Stops ∷ []) GaveUp [] (λ f. cc))

pub loader_decision_fits : (media : Media) (end : Reading) (live : Option SessionLog) (ended : List EndedSession) (e : Event) → Fits end live (loader_decision media (loader_view (record { end = end; live = live; ended = ended })) e)
loader_decision_fits media end live ended (Starts_info hw pos) =
    begins_fits end live (record { kind = Info; hw = hw; pos = pos; loads = [] }) (row_request end.asks_size (record { kind = Info; hw = hw; pos = pos; loads = [] }) (first_row Info)) refl
loader_decision_fits media end live ended (Starts_upload hw pos parts) = fits_if end live (nat_lt 32 (length parts)) _ _ (λ e f. cc) (λ e. listed_fits end live hw pos (wanted_of media.loads parts))
loader_decision_fits media end live ended (Gets from to bytes) = got_fits media end live ended from to (packet_in bytes)
loader_decision_fits media end live ended Ticks = tick_fits end live
loader_decision_fits media end live ended (Learns size) = stays_fits end live (Asks_size size ∷ []) refl refl

-- ---- the live transfer is of its row

changed_role : (end : Reading) (live : Option SessionLog) (ended : List EndedSession) (moves : List Move) (change : LoaderChange) → FitsLoaderChange end live moves change → FitsChange end live moves change → LoaderRoleFits end live
    → LoaderRoleFits (after end moves) (loader_reading_changed (after end moves) (record { end = end; live = live; ended = ended }) change).live
changed_role end None ended moves (Continues more) fits ends h = tt
changed_role end None ended moves Advances fits ends h = tt
changed_role end None ended moves (Ends outcome more) fits ends h = tt
changed_role end None ended moves (Begins start) (fits, past, fresh) ends h = (subst (λ (row : LoaderRow). LoaderLiveFits start row (after end moves).live) (sym (row_of_none start.kind)) fits, fresh)
changed_role end None ended moves (Begins_over kind outcome) fits ends h = tt
changed_role end (Some s) ended moves (Continues more) (fits, past, fresh) ends h = (fits h.0, fresh h.1)
changed_role end (Some s) ended moves Advances (fits, live, fresh) (t, one, none) h =
    (subst (λ (row : LoaderRow). LoaderLiveFits s.start row (after end moves).live) (sym (ap (λ (ts : List Transfer). row_of s.start.kind (s.done ++ ts)) one ∙ row_of_more s.start.kind s.done t)) fits, fresh)
changed_role end (Some s) ended moves (Ends outcome more) fits ends h = tt
changed_role end (Some s) ended moves (Begins start) (fits, past, fresh) ends h = (subst (λ (row : LoaderRow). LoaderLiveFits start row (after end moves).live) (sym (row_of_none start.kind)) fits, fresh)
changed_role end (Some s) ended moves (Begins_over kind outcome) fits ends h = tt

pub loader_roles_fit : LoaderRolesFit
loader_roles_fit media [] = tt
loader_roles_fit media (e ∷ log) =
    let r = loader_reading media log in
    let d = loader_decision media (loader_view r) e in
    subst (λ (x : Reading). LoaderRoleFits x (loader_reading_changed (after r.end d.moves) r d.change).live) (sym (end_stays (after r.end d.moves) r d.change))
    (changed_role r.end r.live r.ended d.moves d.change (loader_decision_fits media r.end r.live r.ended e) (decision_fits media r.end r.live r.ended e) (loader_roles_fit media log))

-- ---- which row completes an information session

abbrev pub IsInfoRow : LoaderRow → Type 0
IsInfoRow Reads_lci = Unit {0}
IsInfoRow Takes_lcs = Unit {0}
IsInfoRow Takes_lcl = Unit {0}
IsInfoRow row = ⊥

pub info_after : (row : LoaderRow) → IsInfoRow row → IsInfoRow (row_after row)
info_after Reads_lci h = tt
info_after Takes_lcs h = tt
info_after Takes_lcl h = tt
info_after Reads_lui h = absurd h
info_after Takes_lus h = absurd h
info_after Writes_lur h = absurd h
info_after Serves_files h = absurd h

info_rows : (row : LoaderRow) (done : List Transfer) → IsInfoRow row → IsInfoRow (fold (λ (x : LoaderRow) (t : Transfer). row_after x) row done)
info_rows row [] h = h
info_rows row (t ∷ done) h = info_rows (row_after row) done (info_after row h)

pub info_row : (kind : SessionKind) (done : List Transfer) → kind ≡ Info → IsInfoRow (row_of kind done)
unfolding row_of
info_row Info done e = info_rows Reads_lci done tt
info_row Upload done e = absurd cc

abbrev IsNotCompleted : RowTurn → Type 0
IsNotCompleted turn = turn ≡ Comes_to Completed → ⊥

turn_if : (b : Bool) (x y : RowTurn) → IsNotCompleted x → IsNotCompleted y → IsNotCompleted (cond b x y)
turn_if true x y p q = p
turn_if false x y p q = q

lci_not : (found : Result Lci FileFault) → IsNotCompleted (lci_turn found)
lci_not (Ok v) = turn_if (v.status == accepted) Goes_on (cond (v.status == denied) (Comes_to (Denied v.description)) (bad_file kinds.Lci 6)) (λ e. cc) (turn_if (v.status == denied) (Comes_to (Denied v.description)) (bad_file kinds.Lci 6) (λ e. cc) (λ e. cc))
lci_not (Err fault) = λ e. cc

lcs_not : (found : Result Lcs FileFault) → IsNotCompleted (lcs_turn found)
lcs_not (Ok v) = turn_if (v.status == in_progress) Goes_on (cond (v.status == stopped) (Comes_to (TargetStopped v.description)) (bad_file kinds.Lcs 8)) (λ e. cc) (turn_if (v.status == stopped) (Comes_to (TargetStopped v.description)) (bad_file kinds.Lcs 8) (λ e. cc) (λ e. cc))
lcs_not (Err fault) = λ e. cc

-- a turn that completes a session is that of bytes that aren't too long
pub not_too_long : (row : LoaderRow) (b : Buffer) → file_turn row b ≡ Comes_to Completed → (is_too_long b ≡ false) × (bytes_turn row b.prefix ≡ Comes_to Completed)
unfolding file_turn
not_too_long row b e = by (is_too_long b) refl e
  where
    by : (long : Bool) → is_too_long b ≡ long → cond long (bad_file (kind_received row) buffer_size) (bytes_turn row b.prefix) ≡ Comes_to Completed → (is_too_long b ≡ false) × (bytes_turn row b.prefix ≡ Comes_to Completed)
    by true is e = absurd cc
    by false is e = (is, e)

completing_row : (row : LoaderRow) (bytes : List ℕ) → IsInfoRow row → bytes_turn row bytes ≡ Comes_to Completed → row ≡ Takes_lcl
completing_row Takes_lcl bytes info e = refl
completing_row Reads_lci bytes info e = absurd (lci_not (answer lci bytes) e)
completing_row Takes_lcs bytes info e = absurd (lcs_not (answer lcs bytes) e)
completing_row Reads_lui bytes info e = absurd info
completing_row Takes_lus bytes info e = absurd info
completing_row Writes_lur bytes info e = absurd info
completing_row Serves_files bytes info e = absurd info

-- ---- the file that completes it

abbrev pub ends_with : (media : Media) (r : LoaderReading) (e : Event) (s : SessionLog) (more : List ℕ) → r.live ≡ Some s → EndsByFile r.end s (loader_decision media (loader_view r) e).moves more → [] ≡ started_by e
    → (loader_extended media r e).end ≡ after r.end (loader_decision media (loader_view r) e).moves → EndsWithLive media r e
ends_with media r e s more was h none end = record {
  session = s;
  was_live = was;
  no_start = sym none;
  live = h.live;
  going = h.was_live;
  from = h.from;
  packet = h.packet;
  transfer = with_packet h.live h.from h.packet;
  is = refl;
  past = ap (λ (x : Reading). x.past) end ∙ h.past;
  free = ap (λ (x : Reading). x.live) end ∙ h.free;
}

pub arrived_last : (live : Transfer) (from : ℕ) (p : PacketView) (more : List ℕ) → end_answer (end_in live) p ≡ TakesLast more → arrived_of (with_packet live from p) ≡ arrived_of live ++ more
arrived_last live from p more e =
    arrived_more live.role live.got p ∙ ap (λ (answer : Answer). arrived_of live ++ concat (lent_by answer)) e ∙ ap (λ (bytes : List ℕ). arrived_of live ++ bytes) (append-nil more)

pub whole_prefix : (first more : List ℕ) → is_too_long (buffered_more (buffered first) more) ≡ false → (buffered_more (buffered first) more).prefix ≡ first ++ more
whole_prefix first more short =
    let joined : buffered (first ++ more) ≡ buffered_more (buffered first) more = sym (buffered_on first more) in
    let less : is_too_long (buffered (first ++ more)) ≡ false = ap is_too_long joined ∙ short in
    ap (λ (b : Buffer). b.prefix) (sym joined) ∙ take_all buffer_size (first ++ more) (ltb-false buffer_size (length (first ++ more)) less)

served_received : (role : Role) (got : List PacketView) (wanted : List ℕ) (p : PacketView) (more : List ℕ) → TakesFile wanted role → end_answer (end_of role got) p ≡ TakesLast more → is_received (end_of role (got ++ p ∷ [])) ≡ true
served_received (ServesWrite name o) got wanted p more takes e =
    ap is_received (end_of_more (ServesWrite name o) got p) ∙ ap (λ (answer : Answer). is_received (end_moved (end_of (ServesWrite name o) got) answer)) e
    ∙ ap (λ (end : LinkEnd). is_received (end_moved end (TakesLast more))) (end_is_of_link name [] o got).1
served_received (ServesRead name o f) got wanted p more takes e = absurd takes
served_received (Reads name o) got wanted p more takes e = absurd takes
served_received (Writes name o f) got wanted p more takes e = absurd takes

-- ---- sessions

pub longer : (xs : List EndedSession) (x : EndedSession) → xs ≡ x ∷ xs → ⊥
longer xs x e = let same : length xs ≡ length (x ∷ xs) = ap length e in omega (arith, same)

pub longer_two : (xs : List EndedSession) (x y z : EndedSession) → x ∷ y ∷ xs ≡ z ∷ xs → ⊥
longer_two xs x y z e = let same : length (x ∷ y ∷ xs) ≡ length (z ∷ xs) = ap length e in omega (arith, same)

pub head_is : (xs : List EndedSession) (x y : EndedSession) → x ∷ xs ≡ y ∷ xs → x ≡ y
head_is xs x y e = cc

module _ (media : Media) (r : LoaderReading) (e : Event) (session : EndedSession) (info : session.kind ≡ Info) (completed : session.outcome ≡ Completed) where
  abbrev moves_now : List Move
  moves_now = (loader_decision media (loader_view r) e).moves

  by_file : (s : SessionLog) (outcome : Outcome) (more : List ℕ) → r.live ≡ Some s → LoaderRoleFits r.end (Some s) → EndsByFile r.end s moves_now more → [] ≡ started_by e → (loader_extended media r e).end ≡ after r.end moves_now
      → ended_as s.start.kind outcome (buffered_more (buffered (arriving_in r.end.live)) more).prefix ≡ session → ListsArrived media r e session
  by_file s outcome more was role h none end is =
      let (short, turn) = not_too_long (loader_row s) (buffered_more (buffered (arriving_in r.end.live)) more) h.turn in
      let kind : s.start.kind ≡ Info = ap (λ (x : EndedSession). x.kind) is ∙ info in
      let row : loader_row s ≡ Takes_lcl = completing_row (loader_row s) _ (info_row s.start.kind s.done kind) turn in
      let takes : TakesFile (file_name s.start.hw s.start.pos kinds.Lcl) h.live.role = subst (λ (x : LoaderRow). LoaderLiveFits s.start x (Some h.live)) row (subst (λ (t : Option Transfer). LoaderLiveFits s.start (loader_row s) t) h.was_live role.0) in
      let arriving : arriving_in r.end.live ≡ arrived_of h.live = ap arriving_in h.was_live in
      let bytes : (buffered_more (buffered (arriving_in r.end.live)) more).prefix ≡ arrived_of (with_packet h.live h.from h.packet) =
      whole_prefix (arriving_in r.end.live) more short ∙ ap (λ (x : List ℕ). x ++ more) arriving ∙ sym (arrived_last h.live h.from h.packet more h.last) in
      record {
        ends = ends_with media r e s more was h none end;
        info = kind;
        row = row;
        role = takes;
        received = served_received h.live.role h.live.got _ h.packet more takes h.last;
        listed = sym (ap (λ (x : EndedSession). x.listed) is) ∙ ap (λ (k : SessionKind). listed_by k outcome (buffered_more (buffered (arriving_in r.end.live)) more).prefix) kind
            ∙ ap (λ (o : Outcome). listed_by Info o (buffered_more (buffered (arriving_in r.end.live)) more).prefix) (ap (λ (x : EndedSession). x.outcome) is ∙ completed) ∙ ap (λ (x : List ℕ). result_ok (answer lcl x)) bytes;
      }

  not_replaced : (s : SessionLog) (bytes : List ℕ) → ended_as s.start.kind Replaced bytes ≡ session → ⊥
  not_replaced s bytes is = let wrong : Replaced ≡ Completed = ap (λ (x : EndedSession). x.outcome) is ∙ completed in cc

  by_change : (live : Option SessionLog) (change : LoaderChange) → r.live ≡ live → LoaderRoleFits r.end live → FitsLoaderChange r.end live moves_now change → begun_by change ≡ started_by e → (loader_extended media r e).end ≡ after r.end moves_now
      → (loader_reading_changed (after r.end moves_now) (record { end = r.end; live = live; ended = r.ended }) change).ended ≡ session ∷ r.ended → ListsArrived media r e session
  by_change live (Continues more) was role fits none end grows = absurd (longer r.ended session grows)
  by_change live Advances was role fits none end grows = absurd (longer r.ended session grows)
  by_change None (Ends outcome more) was role fits none end grows = absurd (longer r.ended session grows)
  by_change (Some s) (Ends outcome more) was role fits none end grows =
      let is : ended_as s.start.kind outcome (buffered_more (buffered (arriving_in r.end.live)) more).prefix ≡ session = head_is r.ended _ session grows in
      by_file s outcome more was role (fits (ap (λ (x : EndedSession). x.outcome) is ∙ completed)) none end is
  by_change None (Begins start) was role fits none end grows = absurd (longer r.ended session grows)
  by_change (Some s) (Begins start) was role fits none end grows = absurd (not_replaced s _ (head_is r.ended _ session grows))
  by_change None (Begins_over kind outcome) was role fits none end grows = absurd (fits (ap (λ (x : EndedSession). x.outcome) (head_is r.ended _ session grows) ∙ completed))
  by_change (Some s) (Begins_over kind outcome) was role fits none end grows = absurd (longer_two r.ended _ _ session grows)

pub completed_lists_arrived : CompletedListsArrived
completed_lists_arrived media log e session grows info completed =
    let r = loader_reading media log in
    let d = loader_decision media (loader_view r) e in
    by_change media r e session info completed r.live d.change refl (loader_roles_fit media log) (loader_decision_fits media r.end r.live r.ended e) (decision_begins media (loader_view r) e) (end_stays (after r.end d.moves) r d.change) grows
