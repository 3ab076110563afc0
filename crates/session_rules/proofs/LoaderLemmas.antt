-- Proofs that what the loader keeps follows its log.
use Rattle.std.proofs.Common.{◌≡◌, ℕ, Bool, true, false, cond, eqb, List, [], ◌∷◌, ◌++◌, length, Option, Some, None, Result, Ok, Err, refl, sym, ap, subst, ◌∙◌, append-nil}
use Rattle.std.specs.Prelude.{bytes_eq, nat_lt}
use Rattle.std.proofs.lemmas.List.Sums.{fold-append}
use Rattle.load_protocol_files.specs.declared.lur.Wanted.{Wanted}
use Rattle.tftp_packet.specs.declared.options.Options.{Options}
use Rattle.tftp_packet.specs.Packets.{PacketView, Rrq, Wrq, Data, Ack, Error, Oack}
use Rattle.tftp_link.specs.Answers.{Again, Answer, Completes, Dropped, Fails, Grants, Proceeds, TakesBlock, TakesLast}
use Rattle.exchange_trace.specs.declared.trace.Side.TheVariants as sides
use Rattle.exchange_trace.specs.Happenings.{DatagramView}
use Rattle.exchange_trace.specs.Logs.{Event, Gets, Learns, Starts_info, Starts_upload, Ticks}
use Rattle.transfer_end.specs.Transfers.{Role, Transfer, arrived_of, arriving_in, end_answer, end_of, with_packet}
use Rattle.transfer_end.specs.Readings.{Reading}
use Rattle.transfer_end.specs.Views.{EndView, end_view, transfer_view}
use Rattle.transfer_end.specs.Moves.{Asks, Asks_size, Hears, Move, Recalls, Refuses, Repeats, Serves, reading_after, readings_after}
use Rattle.transfer_end.specs.Packets.{belongs, has_port, heard_answer, is_busy, is_fresh, may_repeat, packet_in, transfer_moves}
use Rattle.transfer_end.specs.Laws.{IsLive}
use Rattle.transfer_end.proofs.ArrivalLemmas.{arriving_more, nothing_arrived}
use Rattle.transfer_end.proofs.ViewLemmas.{views_follow}
use Rattle.session_rules.specs.declared.outcome.FileKind.{FileKind}
use Rattle.session_rules.specs.declared.outcome.SessionKind.{SessionKind}
use Rattle.session_rules.specs.declared.outcome.SessionKind.TheVariants.{Info, Upload}
use Rattle.session_rules.specs.declared.outcome.Outcome.{Outcome}
use Rattle.session_rules.specs.declared.outcome.Outcome.TheVariants.{NotOnMedia, TooMany}
use Rattle.session_rules.specs.Buffers.{buffered}
use Rattle.session_rules.proofs.BufferLemmas.{buffered_on}
use Rattle.session_rules.specs.FileNames.{file_name}
use Rattle.session_rules.specs.LoaderRows.{Comes_to, Goes_on, LoaderRow, RowTurn, first_row, row_after, row_of, serves_files}
use Rattle.session_rules.specs.Loader.{Advances, Begins, Begins_over, Continues, EndedSession, Ends, LoaderChange, LoaderDecision, LoaderSession, Start, answer_decision, begin_with, doing, got_decision, listed_upload, loader_after, loader_changed, loader_decision, next_decision, packet_decision, read_decision, refused_upload, request_decision, row_request, take_request, tick_decision, turn_decision, write_decision}
use Rattle.session_rules.specs.LoaderLog.{LoaderReading, SessionLog, loader_extended, loader_reading_changed, loader_view, newest, session_view}
use Rattle.session_rules.specs.MediaFiles.{Media, wanted_of}

-- ---- what a change of the session asks of the moves beside it

abbrev after : Reading → List Move → Reading
after end moves = readings_after sides.Loader end moves

-- a transfer is over, and nothing has arrived of another
abbrev pub HasEnded : Reading → Type 0
HasEnded end = (t : Transfer) × (newest end.past ≡ t ∷ []) × (arriving_in end.live ≡ [])

abbrev pub FitsChange : Reading → Option SessionLog → List Move → LoaderChange → Type 0
FitsChange end None moves (Begins s) = arriving_in (after end moves).live ≡ []
FitsChange end None moves change = Unit {0}
FitsChange end (Some s) moves (Continues more) = arriving_in (after end moves).live ≡ arriving_in end.live ++ more
FitsChange end (Some s) moves Advances = HasEnded (after end moves)
FitsChange end (Some s) moves (Begins start) = arriving_in (after end moves).live ≡ []
FitsChange end (Some s) moves change = Unit {0}

abbrev Fits : Reading → Option SessionLog → LoaderDecision → Type 0
Fits end live d = FitsChange end live d.moves d.change

fits_if : (end : Reading) (live : Option SessionLog) (b : Bool) (x y : LoaderDecision) → (b ≡ true → Fits end live x) → (b ≡ false → Fits end live y) → Fits end live (cond b x y)
fits_if end live true x y p q = p refl
fits_if end live false x y p q = q refl

-- ---- one step

pub row_of_more : (kind : SessionKind) (done : List Transfer) (t : Transfer) → row_of kind (done ++ t ∷ []) ≡ row_after (row_of kind done)
unfolding row_of
row_of_more kind done t = fold-append (λ (row : LoaderRow) (t : Transfer). row_after row) (first_row kind) done (t ∷ [])

pub row_of_none : (kind : SessionKind) → row_of kind [] ≡ first_row kind
unfolding row_of
row_of_none kind = refl

abbrev reading : Reading → Option SessionLog → List EndedSession → LoaderReading
reading end live ended = record { end = end; live = live; ended = ended }

changed_same : (end : Reading) (live : Option SessionLog) (ended : List EndedSession) (moves : List Move) (change : LoaderChange) (v : EndView) → v ≡ end_view (after end moves) → FitsChange end live moves change
    → loader_changed v (loader_view (reading end live ended)) change ≡ loader_view (loader_reading_changed (after end moves) (reading end live ended) change)
changed_same end None ended moves (Continues more) v e fits = rw e refl
changed_same end None ended moves Advances v e fits = rw e refl
changed_same end None ended moves (Ends outcome more) v e fits = rw e refl
changed_same end None ended moves (Begins s) v e fits = rw (e, fits, row_of_none s.kind) refl
changed_same end None ended moves (Begins_over kind outcome) v e fits = rw e refl
changed_same end (Some s) ended moves (Continues more) v e fits = rw (e, fits, buffered_on (arriving_in end.live) more) refl
changed_same end (Some s) ended moves Advances v e (t, one, none) = rw (e, one, none, row_of_more s.start.kind s.done t) refl
changed_same end (Some s) ended moves (Ends outcome more) v e fits = rw e refl
changed_same end (Some s) ended moves (Begins start) v e fits = rw (e, fits, row_of_none start.kind) refl
changed_same end (Some s) ended moves (Begins_over kind outcome) v e fits = rw e refl

-- ---- starts

begins_fits : (end : Reading) (live : Option SessionLog) (s : Start) (role : Option Role) → Fits end live (begin_with (end_view end) s role)
begins_fits end None s None = tt
begins_fits end (Some t) s None = sym (append-nil (arriving_in end.live))
begins_fits end None s (Some role) = fits_if end None (has_port (end_view end)) _ _ (λ e. nothing_arrived role) (λ e. tt)
begins_fits end (Some t) s (Some role) = fits_if end (Some t) (has_port (end_view end)) _ _ (λ e. nothing_arrived role) (λ e. tt)

over_fits : (end : Reading) (live : Option SessionLog) (outcome : Outcome) → Fits end live (refused_upload outcome)
over_fits end None outcome = tt
over_fits end (Some s) outcome = tt

listed_fits : (end : Reading) (live : Option SessionLog) (hw pos : List ℕ) (found : Result (List Wanted) (List ℕ)) → Fits end live (listed_upload (end_view end) hw pos found)
listed_fits end live hw pos (Ok loads) =
    begins_fits end live (record { kind = Upload; hw = hw; pos = pos; loads = loads }) (row_request end.asks_size (record { kind = Upload; hw = hw; pos = pos; loads = loads }) (first_row Upload))
listed_fits end live hw pos (Err part) = over_fits end live (NotOnMedia part)

-- ---- requests

-- nothing changes of the live transfer
same_fits : (end : Reading) (s : SessionLog) (moves : List Move) → arriving_in (after end moves).live ≡ arriving_in end.live → Fits end (Some s) (doing moves)
same_fits end s moves e = e ∙ sym (append-nil (arriving_in end.live))

-- a request is taken where no transfer is live
taken_fits : (end : Reading) (s : SessionLog) (from : ℕ) (role : Role) → end.live ≡ None → Fits end (Some s) (take_request (end_view end) from role)
taken_fits end s from role free =
    fits_if end (Some s) (is_fresh (end_view end) from) _ _
    (λ e. fits_if end (Some s) (has_port (end_view end)) _ _ (λ e. same_fits end s (Serves from role ∷ []) (nothing_arrived role ∙ sym (ap arriving_in free))) (λ e. tt))
    (λ e. same_fits end s [] refl)

read_fits : (end : Reading) (s : SessionLog) (from : ℕ) (name : List ℕ) (o : Options) (found : Option (List ℕ)) → end.live ≡ None → Fits end (Some s) (read_decision (end_view end) from name o found)
read_fits end s from name o None free = same_fits end s (Refuses from ∷ []) refl
read_fits end s from name o (Some file) free = taken_fits end s from _ free

write_fits : (end : Reading) (s : SessionLog) (start : Start) (from : ℕ) (name : List ℕ) (o : Options) (kind : Option FileKind) → end.live ≡ None → Fits end (Some s) (write_decision (end_view end) start from name o kind)
write_fits end s start from name o None free = same_fits end s [] refl
write_fits end s start from name o (Some kind) free =
    fits_if end (Some s) (bytes_eq name (file_name start.hw start.pos kind)) _ _ (λ e. taken_fits end s from _ free) (λ e. same_fits end s [] refl)

request_fits : (media : Media) (end : Reading) (s : SessionLog) (l : LoaderSession) (from : ℕ) (p : PacketView) → end.live ≡ None → Fits end (Some s) (request_decision media (end_view end) l from p)
request_fits media end s l from (Rrq name o) free = fits_if end (Some s) (serves_files l.row) _ _ (λ e. read_fits end s from name o _ free) (λ e. same_fits end s [] refl)
request_fits media end s l from (Wrq name o) free = write_fits end s l.start from name o _ free
request_fits media end s l from (Data k b) free = same_fits end s [] refl
request_fits media end s l from (Ack k) free = same_fits end s [] refl
request_fits media end s l from (Error code m) free = same_fits end s [] refl
request_fits media end s l from (Oack o) free = same_fits end s [] refl

-- ---- the end of a transfer

-- the moves so far end the live transfer
abbrev Ended : Reading → List Move → Type 0
Ended end moves = (t : Transfer) × (newest (after end moves).past ≡ t ∷ []) × ((after end moves).live ≡ None)

after_more : (end : Reading) (moves : List Move) (move : Move) → after end (moves ++ move ∷ []) ≡ reading_after sides.Loader (after end moves) move
after_more end [] move = refl
after_more end (first ∷ moves) move = after_more (reading_after sides.Loader end first) moves move

asks_ended : (r : Reading) (t : Transfer) (role : Role) → newest r.past ≡ t ∷ [] → r.live ≡ None → HasEnded (reading_after sides.Loader r (Asks role))
asks_ended r t role one free = (t, rw free one, nothing_arrived role)

next_fits : (end : Reading) (s : SessionLog) (moves : List Move) (more : List ℕ) (role : Option Role) → Ended end moves → Fits end (Some s) (next_decision (end_view end) moves more role)
next_fits end s moves more None (t, one, free) = (t, one, ap arriving_in free)
next_fits end s moves more (Some role) (t, one, free) =
    fits_if end (Some s) (has_port (end_view end)) _ _
    (λ e. subst (λ (r : Reading). HasEnded r) (sym (after_more end moves (Asks role))) (asks_ended (after end moves) t role one free))
    (λ e. tt)

turn_fits : (end : Reading) (s : SessionLog) (l : LoaderSession) (moves : List Move) (more : List ℕ) (turn : RowTurn) → Ended end moves → Fits end (Some s) (turn_decision (end_view end) l moves more turn)
turn_fits end s l moves more Goes_on ended = next_fits end s moves more _ ended
turn_fits end s l moves more (Comes_to outcome) ended = tt

-- ---- packets of the live transfer

module _ (first_port : ℕ) (past : List Transfer) (ticks : ℕ) (last : Option DatagramView) (size : Option ℕ) (s : SessionLog) (l : LoaderSession) (from : ℕ) (p : PacketView) where
  abbrev with_live : Option Transfer → Reading
  with_live live = record { first_port = first_port; past = past; live = live; ticks = ticks; last = last; asks_size = size }

  answered_fits : (t : Transfer) (answer : Answer) → end_answer (end_of t.role t.got) p ≡ answer → Fits (with_live (Some t)) (Some s) (answer_decision (end_view (with_live (Some t))) l (Hears from p ∷ []) answer)
  answered_fits t Dropped e = rw e (arriving_more sides.Loader (with_live (Some t)) t from p Dropped refl e refl)
  answered_fits t Again e = rw e (arriving_more sides.Loader (with_live (Some t)) t from p Again refl e refl)
  answered_fits t (Grants o) e = rw e (arriving_more sides.Loader (with_live (Some t)) t from p (Grants o) refl e refl)
  answered_fits t (TakesBlock b) e = rw e (arriving_more sides.Loader (with_live (Some t)) t from p (TakesBlock b) refl e refl ∙ ap (λ (x : List ℕ). arrived_of t ++ x) (append-nil b))
  answered_fits t Proceeds e = rw e (arriving_more sides.Loader (with_live (Some t)) t from p Proceeds refl e refl)
  answered_fits t (TakesLast b) e = turn_fits (with_live (Some t)) s l (Hears from p ∷ []) b _ (with_packet t from p, rw e refl, rw e refl)
  answered_fits t Completes e = turn_fits (with_live (Some t)) s l (Hears from p ∷ []) [] Goes_on (with_packet t from p, rw e refl, rw e refl)
  answered_fits t (Fails code) e = tt

  abbrev recalls : EndView → (to : ℕ) → List Move
  recalls v to = cond (belongs v.kept from to) (Recalls from p ∷ []) []

  recalled : (end : Reading) (b : Bool) → after end (cond b (Recalls from p ∷ []) []) ≡ end
  recalled end true = refl
  recalled end false = refl

  heard_fits : (t : Transfer) (to : ℕ) (b : Bool)
      → Fits (with_live (Some t)) (Some s) (answer_decision (end_view (with_live (Some t))) l (cond b (Hears from p ∷ []) (recalls (end_view (with_live (Some t))) to)) (cond b (end_answer (end_of t.role t.got) p) Dropped))
  heard_fits t to true = answered_fits t (end_answer (end_of t.role t.got) p) refl
  heard_fits t to false =
      same_fits (with_live (Some t)) s (recalls (end_view (with_live (Some t))) to) (ap (λ (r : Reading). arriving_in r.live) (recalled (with_live (Some t)) (belongs (end_view (with_live (Some t))).kept from to)))

  transfer_fits : (live : Option Transfer) (to : ℕ)
      → Fits (with_live live) (Some s) (answer_decision (end_view (with_live live)) l (transfer_moves (end_view (with_live live)) from to p) (heard_answer (end_view (with_live live)) from to p))
  transfer_fits (Some t) to = heard_fits t to (belongs (Some (transfer_view t)) from to)
  transfer_fits None to = same_fits (with_live None) s (recalls (end_view (with_live None)) to) (ap (λ (r : Reading). arriving_in r.live) (recalled (with_live None) (belongs (end_view (with_live None)).kept from to)))

free_if : (end : Reading) (live : Option Transfer) → end.live ≡ live → is_busy (end_view end) ≡ false → end.live ≡ None
free_if end None e free = e
free_if end (Some t) e free = absurd (let busy : is_busy (end_view end) ≡ true = rw e refl in let wrong : true ≡ false = sym busy ∙ free in cc)

packet_fits : (media : Media) (end : Reading) (s : SessionLog) (l : LoaderSession) (from to : ℕ) (p : PacketView) → Fits end (Some s) (packet_decision media (end_view end) l from to p)
packet_fits media end s l from to p =
    fits_if end (Some s) (eqb to 59) _ _
    (λ e. fits_if end (Some s) (is_busy (end_view end)) _ _ (λ e. same_fits end s [] refl) (λ e. request_fits media end s l from p (free_if end end.live refl e)))
    (λ e. transfer_fits end.first_port end.past end.ticks end.last end.asks_size s l from p end.live to)

-- ---- events

got_fits : (media : Media) (end : Reading) (live : Option SessionLog) (ended : List EndedSession) (from to : ℕ) (p : Option PacketView)
    → Fits end live (got_decision media (loader_view (reading end live ended)) from to p)
got_fits media end None ended from to None = tt
got_fits media end (Some s) ended from to None = same_fits end s [] refl
got_fits media end None ended from to (Some p) = fits_if end None (eqb to 59) _ _ (λ e. tt) (λ e. tt)
got_fits media end (Some s) ended from to (Some p) = packet_fits media end s (record { start = s.start; row = row_of s.start.kind s.done; arriving = buffered (arriving_in end.live) }) from to p

tick_fits : (end : Reading) (live : Option SessionLog) → Fits end live (tick_decision (end_view end) (session_view end live))
tick_fits end None = tt
tick_fits end (Some s) = fits_if end (Some s) (may_repeat (end_view end)) _ _ (λ e. same_fits end s (Repeats ∷ []) refl) (λ e. tt)

learns_fits : (end : Reading) (live : Option SessionLog) (size : Option ℕ) → Fits end live (doing (Asks_size size ∷ []))
learns_fits end None size = tt
learns_fits end (Some s) size = same_fits end s (Asks_size size ∷ []) refl

pub decision_fits : (media : Media) (end : Reading) (live : Option SessionLog) (ended : List EndedSession) (e : Event) → Fits end live (loader_decision media (loader_view (reading end live ended)) e)
decision_fits media end live ended (Starts_info hw pos) =
    begins_fits end live (record { kind = Info; hw = hw; pos = pos; loads = [] }) (row_request end.asks_size (record { kind = Info; hw = hw; pos = pos; loads = [] }) (first_row Info))
decision_fits media end live ended (Starts_upload hw pos parts) = fits_if end live (nat_lt 32 (length parts)) _ _ (λ e. over_fits end live TooMany) (λ e. listed_fits end live hw pos (wanted_of media.loads parts))
decision_fits media end live ended (Gets from to bytes) = got_fits media end live ended from to (packet_in bytes)
decision_fits media end live ended Ticks = tick_fits end live
decision_fits media end live ended (Learns size) = learns_fits end live size

-- ---- the law

pub end_stays : (end : Reading) (r : LoaderReading) (change : LoaderChange) → (loader_reading_changed end r change).end ≡ end
end_stays end r (Continues more) = refl
end_stays end r Advances = refl
end_stays end r (Ends outcome more) = refl
end_stays end r (Begins s) = refl
end_stays end r (Begins_over kind outcome) = refl

pub loader_follows : (media : Media) (r : LoaderReading) (e : Event) → IsLive r.end.live
    → (loader_after media (loader_view r) e ≡ loader_view (loader_extended media r e)) × IsLive (loader_extended media r e).end.live
loader_follows media r e live =
    let d = loader_decision media (loader_view r) e in
    let end = views_follow sides.Loader r.end d.moves live in (
      changed_same r.end r.live r.ended d.moves d.change _ end.0 (decision_fits media r.end r.live r.ended e),
      subst (λ (x : Reading). IsLive x.live) (sym (end_stays (after r.end d.moves) r d.change)) end.1,
    )
