-- Proofs that what the target keeps follows its log.
use Rattle.std.proofs.Common.{◌≡◌, ℕ, ◌+◌, ◌-◌, Bool, true, false, cond, eqb, ◌&&◌, length, List, [], ◌∷◌, ◌++◌, Option, Some, None, refl, sym, ap, subst, ◌∙◌, append-nil}
use Rattle.std.specs.Prelude.{bytes_eq, nat_lt, ◌==◌}
use Rattle.std.specs.List.{concat}
use Rattle.disk_layout.specs.Holds.{Outline, StandingView, outline_of}
use Rattle.tftp_packet.specs.declared.options.Options.{Options}
use Rattle.tftp_packet.specs.Packets.{PacketView, Rrq, Wrq, Data, Ack, Error, Oack}
use Rattle.tftp_link.specs.declared.phase.Phase.{Phase}
use Rattle.tftp_link.specs.declared.phase.Phase.TheVariants.{Waiting, Running, Finished, Failed}
use Rattle.tftp_link.specs.Answers.{Again, Answer, Completes, Dropped, Fails, Grants, Proceeds, TakesBlock, TakesLast, code_of, error_answer, is_ended_by, is_live, lent_by}
use Rattle.tftp_link.specs.Negotiation.{fits_said, may_grant}
use Rattle.tftp_link.specs.Receiver.{Receiver, data_answer, is_last_block, is_next_block, receiver_answer, receiver_oack_answer, taken_answer, were_granted}
use Rattle.tftp_link.specs.Sender.{Sender, ack_answer, awaited_answer, last_of, sender_answer, sender_oack_answer}
use Rattle.exchange_trace.specs.declared.trace.Side.TheVariants as sides
use Rattle.exchange_trace.specs.Happenings.{DatagramView}
use Rattle.exchange_trace.specs.Logs.{Event, Gets, Learns, Starts_info, Starts_upload, Ticks}
use Rattle.transfer_end.specs.Transfers.{LinkEnd, Receives, Role, Sends, ServesWrite, Transfer, arrived_of, arriving_in, end_answer, end_in, end_moved, end_of, error_of, phase_of, with_packet}
use Rattle.transfer_end.specs.Readings.{Reading}
use Rattle.transfer_end.specs.Views.{EndView, end_view, transfer_view}
use Rattle.transfer_end.specs.Moves.{Asks, Asks_size, Hears, Move, Recalls, Refuses, Repeats, Serves, Stops, past_with, reading_after, reading_answered, reading_unchanged, readings_after}
use Rattle.transfer_end.specs.Packets.{belongs, has_port, is_busy, is_fresh, may_repeat, packet_in}
use Rattle.transfer_end.specs.Laws.{IsLive}
use Rattle.transfer_end.proofs.ArrivalLemmas.{arrived_more, arriving_more, nothing_arrived}
use Rattle.transfer_end.proofs.ViewLemmas.{end_of_more, views_follow}
use Rattle.accept_rules.specs.Permissions.{Accepts}
use Rattle.session_rules.specs.declared.outcome.FileKind.{FileKind}
use Rattle.session_rules.specs.declared.outcome.FileKind.TheVariants.{Lci, Lui, Lur}
use Rattle.session_rules.specs.declared.reason.Reason.{Reason}
use Rattle.session_rules.proofs.BufferLemmas.{SumsJoin}
use Rattle.session_rules.proofs.KeptLemmas.{installed_same}
use Rattle.session_rules.specs.LoaderLog.{newest}
use Rattle.session_rules.specs.Roles.{HasRole, IsOfView, LiveFits, LiveReadsNothing}
use Rattle.session_rules.proofs.RowLemmas.{arriving_on, row_follows}
use Rattle.session_rules.specs.TargetRows.{Arriving, Awaits_lur, Gives_denial, Gives_lci, Gives_lui, Over, Reads_file, RowMove, RowView, TransferEnd, WholeRow, Writes_completion, Writes_lcl, Writes_lcs, Writes_progress, Writes_ready, Writes_stop, arriving_of, first_row, row_move, row_of, row_view, row_with, view_moved, with_bytes}
use Rattle.session_rules.specs.Target.{Begins, Continues, Ends, TargetChange, TargetDecision, TargetSession, TargetView, Turns, Turns_without_port, active_in, answer_decision, doing, got_decision, in_row, is_over, later_reason, next_decision, own_decision, own_name, read_decision, reason_in, request_decision, row_request, target_after, target_changed, target_decision, tick_decision, transfer_decision, turn_decision, view_turned, view_without_port, without_port, write_decision, write_in}
use Rattle.session_rules.specs.TargetLog.{TargetReading, TargetSessionLog, log_turned, new_session, reading_turned, reading_without_port, session_view, standing_in, target_extended, target_reading_changed, target_view, with_done}

-- ---- what a change of the session asks of the moves beside it

abbrev pub after : Reading → List Move → Reading
after end moves = readings_after sides.Target end moves

abbrev pub seen_row : TargetSessionLog → RowView
seen_row s = row_view s.row

-- The move is what the transfer comes to that ended last, with these bytes as the last of its file.
pub record HasTurned (accepts : Accepts) (active : StandingView) (end : Reading) (s : TargetSessionLog) (moves : List Move) (move : RowMove) (more : List ℕ) : Type 0 where
  pub ended : Transfer
  pub is_newest : newest (after end moves).past ≡ ended ∷ []
  pub past : (after end moves).past ≡ ended ∷ end.past
  pub bytes : arriving_in end.live ++ more ≡ arrived_of ended
  pub arrived : with_bytes (arriving_of (seen_row s) (arriving_in end.live)) more ≡ arriving_of (seen_row s) (arrived_of ended)
  pub comes_to : move ≡ row_move accepts (outline_of active) (seen_row s) (record { error = error_of ended; arriving = arriving_of (seen_row s) (arrived_of ended) })
  pub was_live : HasRole end.live ended.role
  pub over : is_live (phase_of (end_in ended)) ≡ false

-- the row that a session comes to then
abbrev pub turned_view : Reading → TargetSessionLog → RowMove → List ℕ → RowView
turned_view end s move more = view_moved (seen_row s) (with_bytes (arriving_of (seen_row s) (arriving_in end.live)) more) move

abbrev pub FitsChange : Accepts → StandingView → Reading → Option TargetSessionLog → List Move → TargetChange → Type 0
FitsChange accepts active end live moves (Begins kind) = (arriving_in (after end moves).live ≡ []) × LiveReadsNothing (after end moves).live
FitsChange accepts active end live moves (Ends reason) = Unit {0}
FitsChange accepts active end None moves change = Unit {0}
FitsChange accepts active end (Some s) moves (Continues more) =
    (arriving_in (after end moves).live ≡ arriving_in end.live ++ more)
    × (LiveFits (seen_row s) end.live → LiveFits (seen_row s) (after end moves).live)
    × ((after end moves).past ≡ end.past)
FitsChange accepts active end (Some s) moves (Turns move more) =
    HasTurned accepts active end s moves move more × (arriving_in (after end moves).live ≡ []) × LiveFits (turned_view end s move more) (after end moves).live
FitsChange accepts active end (Some s) moves (Turns_without_port move more) = HasTurned accepts active end s moves move more

abbrev pub Fits : Accepts → StandingView → Reading → Option TargetSessionLog → TargetDecision → Type 0
Fits accepts active end live d = FitsChange accepts active end live d.moves d.change

fits_if : (accepts : Accepts) (active : StandingView) (end : Reading) (live : Option TargetSessionLog) (b : Bool) (x y : TargetDecision)
    → (b ≡ true → Fits accepts active end live x) → (b ≡ false → Fits accepts active end live y) → Fits accepts active end live (cond b x y)
fits_if accepts active end live true x y p q = p refl
fits_if accepts active end live false x y p q = q refl

-- ---- what is active and why, row by row

pub identity_stays : (s : StandingView) (row : WholeRow) → (standing_in s row).identity ≡ s.identity
identity_stays s (Writes_completion e loads) = refl
identity_stays s row = refl

active_same : (s : StandingView) (row : WholeRow) → outline_of (standing_in s row) ≡ active_in (outline_of s) (row_view row)
active_same s Gives_lci = refl
active_same s Writes_lcs = refl
active_same s Writes_lcl = refl
active_same s Gives_lui = refl
active_same s Gives_denial = refl
active_same s Writes_ready = refl
active_same s Awaits_lur = refl
active_same s (Reads_file u) = refl
active_same s (Writes_progress u) = refl
active_same s (Writes_stop e) = refl
active_same s Over = refl
active_same s (Writes_completion e loads) = installed_same s loads

reason_same : (row : WholeRow) → reason_in row ≡ reason_in (row_view row)
reason_same Gives_lci = refl
reason_same Writes_lcs = refl
reason_same Writes_lcl = refl
reason_same Gives_lui = refl
reason_same Gives_denial = refl
reason_same Writes_ready = refl
reason_same Awaits_lur = refl
reason_same (Reads_file u) = refl
reason_same (Writes_progress u) = refl
reason_same (Writes_stop e) = refl
reason_same (Writes_completion e loads) = refl
reason_same Over = refl

first_same : (kind : FileKind) (sequence : ℕ) → row_view (first_row kind sequence) ≡ first_row kind sequence
first_same Lci sequence = refl
first_same Lui sequence = by_last (eqb sequence 4294967295)
  where
    by_last : (b : Bool) → row_view (cond b Gives_denial Gives_lui) ≡ cond b Gives_denial Gives_lui
    by_last true = refl
    by_last false = refl
first_same kind sequence = refl

-- ---- one step

pub row_of_one : (accepts : Accepts) (active : StandingView) (row : WholeRow) (t : Transfer) → row_of accepts active row (t ∷ []) ≡ row_with accepts active row t
unfolding row_of
row_of_one accepts active row t = refl

-- the row after it, as it is kept
pub turned_row : SumsJoin → (accepts : Accepts) (active : StandingView) (s : TargetSessionLog) (end : Reading) (moves : List Move) (move : RowMove) (more : List ℕ) → HasTurned accepts active end s moves move more
    → seen_row (with_done accepts active s (newest (after end moves).past)) ≡ view_moved (seen_row s) (with_bytes (arriving_of (seen_row s) (arriving_in end.live)) more) move
turned_row joins accepts active s end moves move more h =
    ap (λ (ts : List Transfer). row_view (row_of accepts active s.row ts)) h.is_newest
    ∙ (ap (λ (x : WholeRow). row_view x) (row_of_one accepts active s.row h.ended)
    ∙ (row_follows joins accepts (outline_of active) s.row (error_of h.ended) (arrived_of h.ended)
    ∙ rw (h.arrived, h.comes_to) refl))

abbrev view : EndView → Option TargetSession → Outline → Option Reason → TargetView
view end live active reason = record { end = end; live = live; active = active; reason = reason }

abbrev reading : Reading → Option TargetSessionLog → StandingView → Option Reason → TargetReading
reading end live active reason = record { end = end; live = live; active = active; reason = reason }

same_view : (v w : EndView) → v ≡ w → (live other : Option TargetSession) → live ≡ other → (active then : Outline) → active ≡ then → (reason later : Option Reason) → reason ≡ later → view v live active reason ≡ view w other then later
same_view v w a live other b active then c reason later d = rw (a, b, c, d) refl

abbrev kept_session : TargetSessionLog → Reading → Option TargetSession
kept_session s end = Some (record { row = seen_row s; arriving = arriving_of (seen_row s) (arriving_in end.live) })

in_row_same : (s : TargetSessionLog) (end : Reading) (row : RowView) → arriving_in end.live ≡ [] → seen_row s ≡ row → Some (in_row row) ≡ kept_session s end
in_row_same s end row none at = rw (none, at) refl

-- a row that was reached, with nothing of its file yet
turned_same : (end : Reading) (v : EndView) (r : TargetReading) (s : TargetSessionLog) (row : RowView) → v ≡ end_view end → arriving_in end.live ≡ [] → seen_row s ≡ row
    → view_turned v (target_view r) row ≡ target_view (reading_turned end r s)
turned_same end v r s row e none at =
    same_view _ _ e _ _ (in_row_same s end row none at)
    _ _ (ap (active_in (outline_of r.active)) (sym at) ∙ sym (active_same r.active s.row))
    _ _ (ap (λ (x : RowView). later_reason r.reason (reason_in x)) (sym at) ∙ ap (later_reason r.reason) (sym (reason_same s.row)))

without_port_same : (end : Reading) (v : EndView) (r : TargetReading) (s : TargetSessionLog) (row : RowView) → v ≡ end_view end → seen_row s ≡ row
    → view_without_port v (target_view r) row ≡ target_view (reading_without_port end r s)
without_port_same end v r s row e at =
    same_view _ _ e _ _ refl _ _ (ap (active_in (outline_of r.active)) (sym at) ∙ sym (active_same r.active s.row)) _ _ refl

changed_same : SumsJoin → (accepts : Accepts) (end : Reading) (live : Option TargetSessionLog) (active : StandingView) (reason : Option Reason) (moves : List Move) (change : TargetChange) (v : EndView)
    → v ≡ end_view (after end moves) → FitsChange accepts active end live moves change
    → target_changed v (target_view (reading end live active reason)) change ≡ target_view (target_reading_changed accepts (after end moves) (reading end live active reason) change)
changed_same joins accepts end None active reason moves (Continues more) v e fits = rw e refl
changed_same joins accepts end None active reason moves (Turns move more) v e fits = rw e refl
changed_same joins accepts end None active reason moves (Turns_without_port move more) v e fits = rw e refl
changed_same joins accepts end None active reason moves (Begins kind) v e fits =
    turned_same (after end moves) v (reading end None active reason) (new_session kind active.sequence) (first_row kind active.sequence) e fits.0 (first_same kind active.sequence)
changed_same joins accepts end None active reason moves (Ends why) v e fits = rw e refl
changed_same joins accepts end (Some s) active reason moves (Continues more) v e (fits, role, past) = rw (e, fits, arriving_on joins s.row (arriving_in end.live) more) refl
changed_same joins accepts end (Some s) active reason moves (Turns move more) v e (turn, none, role) =
    turned_same (after end moves) v (reading end (Some s) active reason) (with_done accepts active s (newest (after end moves).past)) _ e none (turned_row joins accepts active s end moves move more turn)
changed_same joins accepts end (Some s) active reason moves (Turns_without_port move more) v e turn =
    without_port_same (after end moves) v (reading end (Some s) active reason) (with_done accepts active s (newest (after end moves).past)) _ e (turned_row joins accepts active s end moves move more turn)
changed_same joins accepts end (Some s) active reason moves (Begins kind) v e fits =
    turned_same (after end moves) v (reading end (Some s) active reason) (new_session kind active.sequence) (first_row kind active.sequence) e fits.0 (first_same kind active.sequence)
changed_same joins accepts end (Some s) active reason moves (Ends why) v e fits = rw e refl

-- ---- requests

abbrev viewed : Reading → Option TargetSessionLog → StandingView → Option Reason → TargetView
viewed end live active reason = target_view (reading end live active reason)

-- nothing changes of the live transfer
same_fits : (accepts : Accepts) (active : StandingView) (end : Reading) (live : Option TargetSessionLog) (moves : List Move) → arriving_in (after end moves).live ≡ arriving_in end.live → (after end moves).past ≡ end.past
    → ((s : TargetSessionLog) → live ≡ Some s → LiveFits (seen_row s) end.live → LiveFits (seen_row s) (after end moves).live) → Fits accepts active end live (doing moves)
same_fits accepts active end None moves e past keeps = tt
same_fits accepts active end (Some s) moves e past keeps = (e ∙ sym (append-nil (arriving_in end.live)), keeps s refl, past)

-- the live transfer stays as it is
stays_fits : (accepts : Accepts) (active : StandingView) (end : Reading) (live : Option TargetSessionLog) (moves : List Move) → (after end moves).live ≡ end.live → (after end moves).past ≡ end.past → Fits accepts active end live (doing moves)
stays_fits accepts active end live moves e past =
    same_fits accepts active end live moves (ap arriving_in e) past (λ s is h. subst (λ (x : Option Transfer). LiveFits (seen_row s) x) (sym e) h)

abbrev row_or : Option TargetSessionLog → RowView
row_or None = Over
row_or (Some s) = seen_row s

module _ (accepts : Accepts) (r : TargetReading) where
  abbrev FitsHere : TargetDecision → Type 0
  FitsHere d = Fits accepts r.active r.end r.live d

  fits_here : (b : Bool) (x y : TargetDecision) → (b ≡ true → FitsHere x) → (b ≡ false → FitsHere y) → FitsHere (cond b x y)
  fits_here b x y p q = fits_if accepts r.active r.end r.live b x y p q

  nothing_fits : FitsHere (doing [])
  nothing_fits = stays_fits accepts r.active r.end r.live [] refl refl

  without_port_fits : FitsHere (without_port (session_view r.end r.live))
  without_port_fits = by_live r.live
    where
      by_live : (live : Option TargetSessionLog) → Fits accepts r.active r.end live (without_port (session_view r.end live))
      by_live None = tt
      by_live (Some s) = tt

  own_fits : (from : ℕ) (kind : FileKind) (name : List ℕ) (o : Options) → FitsHere (own_decision (target_view r) from kind name o)
  own_fits from kind name o =
      fits_here (is_fresh (end_view r.end) from) _ _ (λ e. fits_here (has_port (end_view r.end)) _ _ (λ e. (nothing_arrived _, tt)) (λ e. without_port_fits)) (λ e. nothing_fits)

  read_fits : (from : ℕ) (name : List ℕ) (o : Options) → FitsHere (read_decision (target_view r) from name o)
  read_fits from name o =
      fits_here (bytes_eq name (own_name (target_view r) Lci)) _ _ (λ e. own_fits from Lci name o)
      (λ e. fits_here (bytes_eq name (own_name (target_view r) Lui)) _ _ (λ e. own_fits from Lui name o)
      (λ e. fits_here (is_busy (end_view r.end)) _ _ (λ e. nothing_fits) (λ e. stays_fits accepts r.active r.end r.live (Refuses from ∷ []) refl refl)))

  -- a request to write is taken where the row awaits it
  taken_fits : (from : ℕ) (name : List ℕ) (o : Options) (s : TargetSessionLog) → r.live ≡ Some s → seen_row s ≡ Awaits_lur → r.end.live ≡ None → FitsHere (doing (Serves from (ServesWrite name o) ∷ []))
  taken_fits from name o s is at free =
      same_fits accepts r.active r.end r.live (Serves from (ServesWrite name o) ∷ []) (nothing_arrived (ServesWrite name o) ∙ sym (ap arriving_in free)) (ap (λ (t : Option Transfer). past_with t r.end.past) free)
      (λ t also h. subst (λ (row : RowView). IsOfView row (ServesWrite name o)) (sym (ap (λ (x : Option TargetSessionLog). row_or x) (sym also ∙ is) ∙ at)) tt)

  write_in_fits : (from : ℕ) (name : List ℕ) (o : Options) (s : TargetSessionLog) (row : RowView) → r.live ≡ Some s → seen_row s ≡ row → r.end.live ≡ None → FitsHere (write_in (target_view r) from name o row)
  write_in_fits from name o s Awaits_lur is at free =
      fits_here (bytes_eq name (own_name (target_view r) Lur)) _ _
      (λ e. fits_here (is_fresh (end_view r.end) from) _ _
      (λ e. fits_here (has_port (end_view r.end)) _ _ (λ e. taken_fits from name o s is at free) (λ e. without_port_fits)) (λ e. nothing_fits))
      (λ e. nothing_fits)
  write_in_fits from name o s row is at free = nothing_fits

  write_fits : (from : ℕ) (name : List ℕ) (o : Options) (live : Option TargetSessionLog) → r.live ≡ live → r.end.live ≡ None → FitsHere (write_decision (target_view r) from name o (session_view r.end live))
  write_fits from name o None is free = nothing_fits
  write_fits from name o (Some s) is free = write_in_fits from name o s (seen_row s) is refl free

  free_if : (live : Option Transfer) → r.end.live ≡ live → is_busy (end_view r.end) ≡ false → r.end.live ≡ None
  free_if None e free = e
  free_if (Some t) e free = absurd (let busy : is_busy (end_view r.end) ≡ true = rw e refl in let wrong : true ≡ false = sym busy ∙ free in cc)

  request_fits : (from : ℕ) (p : PacketView) → FitsHere (request_decision (target_view r) from p)
  request_fits from (Rrq name o) = read_fits from name o
  request_fits from (Wrq name o) = fits_here (is_busy (end_view r.end)) _ _ (λ e. nothing_fits) (λ e. write_fits from name o r.live refl (free_if r.end.live refl e))
  request_fits from (Data k b) = nothing_fits
  request_fits from (Ack k) = nothing_fits
  request_fits from (Error code m) = nothing_fits
  request_fits from (Oack o) = nothing_fits

-- ---- the end of a transfer

live_no_error : (phase : Phase) → is_live phase ≡ true → code_of phase ≡ None
live_no_error Waiting live = refl
live_no_error Running live = refl
live_no_error Finished live = absurd cc
live_no_error (Failed code) live = absurd (let wrong : false ≡ true = live in cc)

abbrev error_by : Answer → Option ℕ
error_by (Fails code) = Some code
error_by answer = None

ended_error : (end : LinkEnd) (answer : Answer) → is_live (phase_of end) ≡ true → code_of (phase_of (end_moved end answer)) ≡ error_by answer
ended_error (Receives r) (TakesLast b) live = refl
ended_error (Receives r) Completes live = live_no_error r.phase live
ended_error (Receives r) (Fails code) live = refl
ended_error (Receives r) Dropped live = live_no_error r.phase live
ended_error (Receives r) Again live = live_no_error r.phase live
ended_error (Receives r) (Grants o) live = refl
ended_error (Receives r) (TakesBlock b) live = refl
ended_error (Receives r) Proceeds live = live_no_error r.phase live
ended_error (Sends s) (TakesLast b) live = live_no_error s.phase live
ended_error (Sends s) Completes live = refl
ended_error (Sends s) (Fails code) live = refl
ended_error (Sends s) Dropped live = live_no_error s.phase live
ended_error (Sends s) Again live = live_no_error s.phase live
ended_error (Sends s) (Grants o) live = refl
ended_error (Sends s) (TakesBlock b) live = live_no_error s.phase live
ended_error (Sends s) Proceeds live = refl

after_more : (end : Reading) (moves : List Move) (move : Move) → after end (moves ++ move ∷ []) ≡ reading_after sides.Target (after end moves) move
after_more end [] move = refl
after_more end (first ∷ moves) move = after_more (reading_after sides.Target end first) moves move

-- the moves end the live transfer, and this comes of it
pub record EndsBy (accepts : Accepts) (active : StandingView) (end : Reading) (s : TargetSessionLog) (moves : List Move) (move : RowMove) (more : List ℕ) : Type 0 where
  pub turned : HasTurned accepts active end s moves move more
  pub free : (after end moves).live ≡ None

past_asks : (r : Reading) (ts : List Transfer) (role : Role) → r.past ≡ ts → r.live ≡ None → (reading_after sides.Target r (Asks role)).past ≡ ts
past_asks r ts role one free = rw free one

past_stops : (r : Reading) (ts : List Transfer) → r.past ≡ ts → r.live ≡ None → (reading_after sides.Target r Stops).past ≡ ts
past_stops r ts one free = rw free one

-- one move more that keeps which transfer ended last
turned_on : (accepts : Accepts) (active : StandingView) (end : Reading) (s : TargetSessionLog) (moves : List Move) (move : RowMove) (more : List ℕ) (next : Move) → (h : HasTurned accepts active end s moves move more)
    → (reading_after sides.Target (after end moves) next).past ≡ h.ended ∷ end.past → HasTurned accepts active end s (moves ++ next ∷ []) move more
turned_on accepts active end s moves move more next h one =
    record { ended = h.ended; is_newest = ap (λ (r : Reading). newest r.past) (after_more end moves next) ∙ ap newest one; past = ap (λ (r : Reading). r.past) (after_more end moves next) ∙ one; bytes = h.bytes; arrived = h.arrived; comes_to = h.comes_to; was_live = h.was_live; over = h.over }

-- what a row asks for is of the row
abbrev RoleFits : RowView → Option Role → Type 0
RoleFits row None = Unit {0}
RoleFits row (Some role) = IsOfView row role

row_request_fits : (v : TargetView) (row : RowView) → RoleFits row (row_request v row)
row_request_fits v Gives_lci = tt
row_request_fits v Writes_lcs = tt
row_request_fits v Writes_lcl = tt
row_request_fits v Gives_lui = tt
row_request_fits v Gives_denial = tt
row_request_fits v Writes_ready = tt
row_request_fits v Awaits_lur = tt
row_request_fits v (Reads_file u) = refl
row_request_fits v (Writes_progress u) = tt
row_request_fits v (Writes_stop e) = tt
row_request_fits v (Writes_completion e loads) = tt
row_request_fits v Over = tt

next_fits : (accepts : Accepts) (active : StandingView) (end : Reading) (s : TargetSessionLog) (moves : List Move) (move : RowMove) (more : List ℕ) (row : RowView) (role : Option Role) → EndsBy accepts active end s moves move more
    → turned_view end s move more ≡ row → RoleFits row role → Fits accepts active end (Some s) (next_decision (end_view end) moves more move row role)
next_fits accepts active end s moves move more row (Some role) e at asked =
    fits_if accepts active end (Some s) (has_port (end_view end)) _ _
    (λ x. (
      turned_on accepts active end s moves move more (Asks role) e.turned (past_asks (after end moves) (e.turned.ended ∷ end.past) role e.turned.past e.free),
      ap (λ (r : Reading). arriving_in r.live) (after_more end moves (Asks role)) ∙ nothing_arrived role,
      subst (λ (r : Reading). LiveFits (turned_view end s move more) r.live) (sym (after_more end moves (Asks role))) (subst (λ (x : RowView). IsOfView x role) (sym at) asked),
    ))
    (λ x. turned_on accepts active end s moves move more Stops e.turned (past_stops (after end moves) (e.turned.ended ∷ end.past) e.turned.past e.free))
next_fits accepts active end s moves move more row None e at asked =
    fits_if accepts active end (Some s) (is_over row) _ _ (λ x. tt)
    (λ x. (e.turned, ap arriving_in e.free, subst (λ (live : Option Transfer). LiveFits (turned_view end s move more) live) (sym e.free) tt))

-- ---- packets of the live transfer

abbrev end_with : ℕ → List Transfer → Option Transfer → ℕ → Option DatagramView → Option ℕ → Reading
end_with first_port past live ticks last size = record { first_port = first_port; past = past; live = live; ticks = ticks; last = last; asks_size = size }

arrives_with : (t : Transfer) (p : PacketView) (answer : Answer) (more : List ℕ) → end_answer (end_of t.role t.got) p ≡ answer → concat (lent_by answer) ≡ more → (from : ℕ) → arrived_of t ++ more ≡ arrived_of (with_packet t from p)
arrives_with t p answer more e lent from = ap (λ (x : List ℕ). arrived_of t ++ x) (sym lent ∙ ap (λ (x : Answer). concat (lent_by x)) (sym e)) ∙ sym (arrived_more t.role t.got p)

error_with : (t : Transfer) (p : PacketView) (answer : Answer) → end_answer (end_of t.role t.got) p ≡ answer → is_live (phase_of (end_in t)) ≡ true → (from : ℕ) → error_of (with_packet t from p) ≡ error_by answer
error_with t p answer e live from =
    ap (λ (x : LinkEnd). code_of (phase_of x)) (end_of_more t.role t.got p) ∙ (ap (λ (x : Answer). code_of (phase_of (end_moved (end_of t.role t.got) x))) e ∙ ended_error (end_of t.role t.got) answer live)

-- an answer that ends a transfer leaves it over
not_over_if : (b : Bool) (x y : Answer) → (x ≡ Completes → ⊥) → (y ≡ Completes → ⊥) → cond b x y ≡ Completes → ⊥
not_over_if true x y f g e = f e
not_over_if false x y f g e = g e

receiver_not_done : (r : Receiver) (p : PacketView) → receiver_answer r p ≡ Completes → ⊥
receiver_not_done r (Data k b) e = by r.phase e
  where
    taken : taken_answer r b ≡ Completes → ⊥
    taken = not_over_if (nat_lt (length b) r.size) (TakesLast b) (TakesBlock b) (λ f. cc) (λ f. cc)

    by : (phase : Phase) → data_answer phase r k b ≡ Completes → ⊥
    by Waiting = not_over_if (is_next_block r k b) (taken_answer r b) Dropped taken (λ f. cc)
    by Running = not_over_if (is_next_block r k b) (taken_answer r b) (cond (is_last_block r k b) Again Dropped) taken (not_over_if (is_last_block r k b) Again Dropped (λ f. cc) (λ f. cc))
    by Finished = not_over_if (is_last_block r k b) Again Dropped (λ f. cc) (λ f. cc)
    by (Failed code) = λ f. cc
receiver_not_done r (Oack o) e = by r.phase e
  where
    by : (phase : Phase) → receiver_oack_answer phase r o ≡ Completes → ⊥
    by Waiting = not_over_if (may_grant r.asked o) (Grants o) Dropped (λ f. cc) (λ f. cc)
    by Running = not_over_if ((r.taken == 0) && were_granted r.granted o) Again Dropped (λ f. cc) (λ f. cc)
    by Finished = λ f. cc
    by (Failed code) = λ f. cc
receiver_not_done r (Error code m) e = by r.phase e
  where
    by : (phase : Phase) → error_answer phase code ≡ Completes → ⊥
    by Waiting = λ f. cc
    by Running = λ f. cc
    by Finished = λ f. cc
    by (Failed before) = λ f. cc
receiver_not_done r (Ack k) e = cc
receiver_not_done r (Rrq name o) e = cc
receiver_not_done r (Wrq name o) e = cc

sender_if : (b : Bool) (x y : Answer) (bytes : List ℕ) → (x ≡ TakesLast bytes → ⊥) → (y ≡ TakesLast bytes → ⊥) → cond b x y ≡ TakesLast bytes → ⊥
sender_if true x y bytes f g e = f e
sender_if false x y bytes f g e = g e

sender_takes_none : (s : Sender) (p : PacketView) (bytes : List ℕ) → sender_answer s p ≡ TakesLast bytes → ⊥
sender_takes_none s (Ack k) bytes e = by s.phase e
  where
    by : (phase : Phase) → ack_answer phase s k ≡ TakesLast bytes → ⊥
    by Waiting = sender_if (k == 0) Proceeds Dropped bytes (λ f. cc) (λ f. cc)
    by Running = sender_if (k == s.sent) (awaited_answer s) Dropped bytes (sender_if (s.sent == last_of s) Completes Proceeds bytes (λ f. cc) (λ f. cc)) (λ f. cc)
    by Finished = λ f. cc
    by (Failed code) = λ f. cc
sender_takes_none s (Oack o) bytes e = by s.phase e
  where
    by : (phase : Phase) → sender_oack_answer phase s o ≡ TakesLast bytes → ⊥
    by Waiting = sender_if (may_grant s.options o && fits_said (length s.file) o.blksize) (Grants o) Dropped bytes (λ f. cc) (λ f. cc)
    by Running = λ f. cc
    by Finished = λ f. cc
    by (Failed code) = λ f. cc
sender_takes_none s (Error code m) bytes e = by s.phase e
  where
    by : (phase : Phase) → error_answer phase code ≡ TakesLast bytes → ⊥
    by Waiting = λ f. cc
    by Running = λ f. cc
    by Finished = λ f. cc
    by (Failed before) = λ f. cc
sender_takes_none s (Data k b) bytes e = cc
sender_takes_none s (Rrq name o) bytes e = cc
sender_takes_none s (Wrq name o) bytes e = cc

over_end : (end : LinkEnd) (p : PacketView) (answer : Answer) → end_answer end p ≡ answer → is_ended_by answer ≡ true → is_live (phase_of (end_moved end answer)) ≡ false
over_end (Receives r) p (TakesLast b) e ends = refl
over_end (Receives r) p (Fails code) e ends = refl
over_end (Receives r) p Completes e ends = absurd (receiver_not_done r p e)
over_end (Sends s) p Completes e ends = refl
over_end (Sends s) p (Fails code) e ends = refl
over_end (Sends s) p (TakesLast b) e ends = absurd (sender_takes_none s p b e)
over_end end p Dropped e ends = absurd cc
over_end end p Again e ends = absurd cc
over_end end p (Grants o) e ends = absurd cc
over_end end p (TakesBlock b) e ends = absurd cc
over_end end p Proceeds e ends = absurd cc

over_with : (t : Transfer) (p : PacketView) (answer : Answer) → end_answer (end_of t.role t.got) p ≡ answer → is_ended_by answer ≡ true → (from : ℕ) → is_live (phase_of (end_in (with_packet t from p))) ≡ false
over_with t p answer e ends from =
    ap (λ (x : LinkEnd). is_live (phase_of x)) (end_of_more t.role t.got p) ∙ ap (λ (x : Answer). is_live (phase_of (end_moved (end_of t.role t.got) x))) e ∙ over_end (end_of t.role t.got) p answer e ends

abbrev transfer_end : Option ℕ → Arriving → TransferEnd
transfer_end error arriving = record { error = error; arriving = arriving }

move_same : (accepts : Accepts) (active : StandingView) (row : RowView) (e f : Option ℕ) (a b : Arriving) → e ≡ f → a ≡ b → row_move accepts (outline_of active) row (transfer_end e a) ≡ row_move accepts (outline_of active) row (transfer_end f b)
move_same accepts active row e f a b p q = ap (λ (x : Option ℕ). row_move accepts (outline_of active) row (transfer_end x a)) p ∙ ap (λ (x : Arriving). row_move accepts (outline_of active) row (transfer_end f x)) q

module _ (joins : SumsJoin) (accepts : Accepts) (first_port : ℕ) (past : List Transfer) (ticks : ℕ) (last : Option DatagramView) (size : Option ℕ) (s : TargetSessionLog) (active : StandingView) (reason : Option Reason) (from : ℕ) (p : PacketView) where
  abbrev with_live : Option Transfer → Reading
  with_live live = end_with first_port past live ticks last size

  abbrev session : Reading → TargetSession
  session end = record { row = seen_row s; arriving = arriving_of (seen_row s) (arriving_in end.live) }

  -- the packet ends the transfer
  turn_fits : (t : Transfer) (answer : Answer) (bytes : List ℕ) → end_answer (end_of t.role t.got) p ≡ answer → is_live (phase_of (end_in t)) ≡ true → is_live (phase_of (end_in (with_packet t from p))) ≡ false → concat (lent_by answer) ≡ bytes
      → (after (with_live (Some t)) (Hears from p ∷ [])).past ≡ with_packet t from p ∷ past → (after (with_live (Some t)) (Hears from p ∷ [])).live ≡ None
      → Fits accepts active (with_live (Some t)) (Some s) (turn_decision accepts (viewed (with_live (Some t)) (Some s) active reason) (session (with_live (Some t))) (Hears from p ∷ []) bytes (error_by answer))
  turn_fits t answer bytes e live over lent one free =
      let end = with_live (Some t) in
      let row = s.row in
      let all : with_bytes (arriving_of (row_view row) (arrived_of t)) bytes ≡ arriving_of (row_view row) (arrived_of (with_packet t from p)) =
      arriving_on joins row (arrived_of t) bytes ∙ ap (λ (x : List ℕ). arriving_of (row_view row) x) (arrives_with t p answer bytes e lent from) in
      next_fits accepts active end s (Hears from p ∷ [])
      (row_move accepts (outline_of active) (row_view row) (transfer_end (error_by answer) (with_bytes (arriving_of (row_view row) (arrived_of t)) bytes))) bytes
      (view_moved (row_view row) (with_bytes (arriving_of (row_view row) (arrived_of t)) bytes) (row_move accepts (outline_of active) (row_view row) (transfer_end (error_by answer) (with_bytes (arriving_of (row_view row) (arrived_of t)) bytes))))
      (row_request (viewed end (Some s) active reason) (view_moved (row_view row) (with_bytes (arriving_of (row_view row) (arrived_of t)) bytes) (row_move accepts (outline_of active) (row_view row) (transfer_end (error_by answer) (with_bytes (arriving_of (row_view row) (arrived_of t)) bytes)))))
      (record {
        turned = record { ended = with_packet t from p; is_newest = ap newest one; past = one; bytes = arrives_with t p answer bytes e lent from; arrived = all; comes_to = move_same accepts active (row_view row) _ _ _ _ (sym (error_with t p answer e live from)) all; was_live = refl; over = over };
        free = free;
      })
      refl (row_request_fits (viewed end (Some s) active reason) _)

  -- the live transfer keeps its role
  unchanged_keeps : (t : Transfer) (peer : Option ℕ) (row : RowView) → LiveFits row (Some t) → LiveFits row (reading_unchanged (with_live (Some t)) t from p peer).live
  unchanged_keeps t None row h = h
  unchanged_keeps t (Some q) row h = h

  unchanged_past : (t : Transfer) (peer : Option ℕ) → (reading_unchanged (with_live (Some t)) t from p peer).past ≡ past
  unchanged_past t None = refl
  unchanged_past t (Some q) = refl

  answer_keeps : (t : Transfer) (answer : Answer) → is_ended_by answer ≡ false → (row : RowView) → LiveFits row (Some t) → LiveFits row (reading_answered sides.Target (with_live (Some t)) t from p answer).live
  answer_keeps t Dropped going row h = unchanged_keeps t t.peer row h
  answer_keeps t Again going row h = unchanged_keeps t t.peer row h
  answer_keeps t (Grants o) going row h = h
  answer_keeps t (TakesBlock b) going row h = h
  answer_keeps t Proceeds going row h = h
  answer_keeps t (TakesLast b) going row h = absurd cc
  answer_keeps t Completes going row h = absurd cc
  answer_keeps t (Fails code) going row h = absurd cc

  answered_fits : (t : Transfer) (answer : Answer) → end_answer (end_of t.role t.got) p ≡ answer → is_live (phase_of (end_in t)) ≡ true
      → Fits accepts active (with_live (Some t)) (Some s) (answer_decision accepts (viewed (with_live (Some t)) (Some s) active reason) (session (with_live (Some t))) (Hears from p ∷ []) answer)
  answered_fits t Dropped e live = rw e (arriving_more sides.Target (with_live (Some t)) t from p Dropped refl e refl, answer_keeps t Dropped refl (seen_row s), unchanged_past t t.peer)
  answered_fits t Again e live = rw e (arriving_more sides.Target (with_live (Some t)) t from p Again refl e refl, answer_keeps t Again refl (seen_row s), unchanged_past t t.peer)
  answered_fits t (Grants o) e live = rw e (arriving_more sides.Target (with_live (Some t)) t from p (Grants o) refl e refl, answer_keeps t (Grants o) refl (seen_row s), refl)
  answered_fits t (TakesBlock b) e live = rw e (arriving_more sides.Target (with_live (Some t)) t from p (TakesBlock b) refl e refl ∙ ap (λ (x : List ℕ). arrived_of t ++ x) (append-nil b), answer_keeps t (TakesBlock b) refl (seen_row s), refl)
  answered_fits t Proceeds e live = rw e (arriving_more sides.Target (with_live (Some t)) t from p Proceeds refl e refl, answer_keeps t Proceeds refl (seen_row s), refl)
  answered_fits t (TakesLast b) e live = turn_fits t (TakesLast b) b e live (over_with t p (TakesLast b) e refl from) (append-nil b) (rw e refl) (rw e refl)
  answered_fits t Completes e live = turn_fits t Completes [] e live (over_with t p Completes e refl from) refl (rw e refl) (rw e refl)
  answered_fits t (Fails code) e live = turn_fits t (Fails code) [] e live (over_with t p (Fails code) e refl from) refl (rw e refl) (rw e refl)

  abbrev recalls : EndView → (to : ℕ) → List Move
  recalls v to = cond (belongs v.kept from to) (Recalls from p ∷ []) []

  recalled : (end : Reading) (b : Bool) → after end (cond b (Recalls from p ∷ []) []) ≡ end
  recalled end true = refl
  recalled end false = refl

  recalls_fit : (end : Reading) (to : ℕ) → Fits accepts active end (Some s) (doing (recalls (end_view end) to))
  recalls_fit end to = stays_fits accepts active end (Some s) (recalls (end_view end) to) (ap (λ (r : Reading). r.live) (recalled end (belongs (end_view end).kept from to))) (ap (λ (r : Reading). r.past) (recalled end (belongs (end_view end).kept from to)))

  heard_fits : (t : Transfer) (to : ℕ) (b : Bool) → is_live (phase_of (end_in t)) ≡ true
      → Fits accepts active (with_live (Some t)) (Some s)
      (answer_decision accepts (viewed (with_live (Some t)) (Some s) active reason) (session (with_live (Some t))) (cond b (Hears from p ∷ []) (recalls (end_view (with_live (Some t))) to)) (cond b (end_answer (end_of t.role t.got) p) Dropped))
  heard_fits t to true live = answered_fits t (end_answer (end_of t.role t.got) p) refl live
  heard_fits t to false live = recalls_fit (with_live (Some t)) to

  transfer_fits : (live : Option Transfer) (to : ℕ) → IsLive live
      → Fits accepts active (with_live live) (Some s) (transfer_decision accepts (viewed (with_live live) (Some s) active reason) (Some (session (with_live live))) from to p)
  transfer_fits (Some t) to live = heard_fits t to (belongs (Some (transfer_view t)) from to) live
  transfer_fits None to live = recalls_fit (with_live None) to

-- ---- events

any_transfer_fits : SumsJoin → (accepts : Accepts) (end : Reading) (session : Option TargetSessionLog) (active : StandingView) (reason : Option Reason) (from to : ℕ) (p : PacketView) → IsLive end.live
    → Fits accepts active end session (transfer_decision accepts (viewed end session active reason) (session_view end session) from to p)
any_transfer_fits joins accepts end None active reason from to p live = tt
any_transfer_fits joins accepts end (Some s) active reason from to p live = transfer_fits joins accepts end.first_port end.past end.ticks end.last end.asks_size s active reason from p end.live to live

got_fits : SumsJoin → (accepts : Accepts) (r : TargetReading) (from to : ℕ) (p : Option PacketView) → IsLive r.end.live → Fits accepts r.active r.end r.live (got_decision accepts (target_view r) from to p)
got_fits joins accepts r from to None live = nothing_fits accepts r
got_fits joins accepts r from to (Some p) live =
    fits_here accepts r (eqb to 59) _ _ (λ e. request_fits accepts r from p) (λ e. any_transfer_fits joins accepts r.end r.live r.active r.reason from to p live)

tick_fits : (accepts : Accepts) (active : StandingView) (end : Reading) (live : Option TargetSessionLog) (session : Option TargetSession) → Fits accepts active end live (tick_decision (end_view end) session)
tick_fits accepts active end live None = stays_fits accepts active end live [] refl refl
tick_fits accepts active end live (Some s) = fits_if accepts active end live (may_repeat (end_view end)) _ _ (λ e. stays_fits accepts active end live (Repeats ∷ []) refl refl) (λ e. tt)

pub decision_fits : SumsJoin → (accepts : Accepts) (r : TargetReading) (e : Event) → IsLive r.end.live → Fits accepts r.active r.end r.live (target_decision accepts (target_view r) e)
decision_fits joins accepts r (Gets from to bytes) live = got_fits joins accepts r from to (packet_in bytes) live
decision_fits joins accepts r Ticks live = tick_fits accepts r.active r.end r.live (session_view r.end r.live)
decision_fits joins accepts r (Learns size) live = stays_fits accepts r.active r.end r.live (Asks_size size ∷ []) refl refl
decision_fits joins accepts r (Starts_info hw pos) live = nothing_fits accepts r
decision_fits joins accepts r (Starts_upload hw pos parts) live = nothing_fits accepts r

-- ---- the law

turned_end : (accepts : Accepts) (end : Reading) (r : TargetReading) (live : Option TargetSessionLog) → (log_turned accepts reading_turned end r live).end ≡ end
turned_end accepts end r None = refl
turned_end accepts end r (Some s) = refl

without_port_end : (accepts : Accepts) (end : Reading) (r : TargetReading) (live : Option TargetSessionLog) → (log_turned accepts reading_without_port end r live).end ≡ end
without_port_end accepts end r None = refl
without_port_end accepts end r (Some s) = refl

pub end_stays : (accepts : Accepts) (end : Reading) (r : TargetReading) (change : TargetChange) → (target_reading_changed accepts end r change).end ≡ end
end_stays accepts end r (Continues more) = refl
end_stays accepts end r (Begins kind) = refl
end_stays accepts end r (Turns move more) = turned_end accepts end r r.live
end_stays accepts end r (Turns_without_port move more) = without_port_end accepts end r r.live
end_stays accepts end r (Ends reason) = refl

pub target_follows : SumsJoin → (accepts : Accepts) (r : TargetReading) (e : Event) → IsLive r.end.live
    → (target_after accepts (target_view r) e ≡ target_view (target_extended accepts r e)) × IsLive (target_extended accepts r e).end.live
target_follows joins accepts r e live =
    let d = target_decision accepts (target_view r) e in
    let end = views_follow sides.Target r.end d.moves live in (
      changed_same joins accepts r.end r.live r.active r.reason d.moves d.change _ end.0 (decision_fits joins accepts r e live),
      subst (λ (x : Reading). IsLive x.live) (sym (end_stays accepts (after r.end d.moves) r d.change)) end.1,
    )
