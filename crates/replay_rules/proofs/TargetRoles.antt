-- The transfers of the target's rows: what it serves and what it asks for.
use Rattle.std.proofs.Common.{◌≡◌, ℕ, Bool, true, false, cond, eqb, List, [], ◌∷◌, ◌++◌, Option, Some, None, refl, sym, ap, subst, ◌∙◌}
use Rattle.std.specs.Prelude.{bytes_eq}
use Rattle.disk_layout.specs.Holds.{StandingView, outline_of}
use Rattle.tftp_packet.specs.declared.options.Options.{Options}
use Rattle.tftp_packet.specs.Packets.{Ack, Data, Error, Oack, PacketView, Rrq, Wrq}
use Rattle.tftp_link.specs.Answers.{Again, Answer, Completes, Dropped, Fails, Grants, Proceeds, TakesBlock, TakesLast}
use Rattle.exchange_trace.specs.declared.trace.Side.TheVariants as sides
use Rattle.exchange_trace.specs.Happenings.{DatagramView}
use Rattle.exchange_trace.specs.Logs.{Event, Gets, Learns, Starts_info, Starts_upload, Ticks}
use Rattle.transfer_end.specs.Moves.{Asks, Asks_size, Hears, Move, Recalls, Refuses, Repeats, Serves, reading_after, reading_unchanged}
use Rattle.transfer_end.specs.OtherEnds.{is_asking}
use Rattle.transfer_end.specs.Packets.{belongs, has_port, is_busy, is_fresh, may_repeat, packet_in}
use Rattle.transfer_end.specs.Readings.{Reading}
use Rattle.transfer_end.specs.Transfers.{Reads, Role, ServesRead, ServesWrite, Transfer, Writes, arriving_in, end_answer, end_of}
use Rattle.transfer_end.specs.Views.{EndView, end_view, transfer_view}
use Rattle.accept_rules.specs.Permissions.{Accepts}
use Rattle.session_rules.specs.declared.outcome.FileKind.{FileKind}
use Rattle.session_rules.specs.declared.outcome.FileKind.TheVariants.{Lci, Lui, Lur}
use Rattle.session_rules.specs.declared.reason.Reason.{Reason}
use Rattle.session_rules.specs.Target.{Begins, Continues, Ends, TargetChange, TargetDecision, TargetSession, TargetView, Turns, Turns_without_port, answer_decision, doing, got_decision, is_over, next_decision, own_decision, own_name, read_decision, request_decision, row_request, target_decision, tick_decision, transfer_decision, turn_decision, without_port, write_decision, write_in}
use Rattle.session_rules.proofs.TargetLemmas.{after, seen_row, turned_view}
use Rattle.session_rules.specs.TargetLog.{TargetReading, TargetSessionLog, session_view, target_view}
use Rattle.session_rules.specs.TargetRows.{Awaits_lur, Gives_denial, Gives_lci, Gives_lui, Over, Reads_file, RowMove, RowView, Writes_completion, Writes_lcl, Writes_lcs, Writes_progress, Writes_ready, Writes_stop, arriving_of, row_move, view_moved, with_bytes}

-- the side serves a request to read
abbrev pub IsGiving : Role → Type 0
IsGiving (ServesRead name options file) = Unit {0}
IsGiving role = ⊥

-- the side serves a request to write
abbrev pub IsTaking : Role → Type 0
IsTaking (ServesWrite name options) = Unit {0}
IsTaking role = ⊥

-- the side asked to read, or to write
abbrev pub IsReading : Role → Type 0
IsReading (Reads name options) = Unit {0}
IsReading role = ⊥

abbrev pub IsWriting : Role → Type 0
IsWriting (Writes name options file) = Unit {0}
IsWriting role = ⊥

-- the transfer of a row
abbrev pub IsOfTargetRow : RowView → Role → Type 0
IsOfTargetRow Gives_lci role = IsGiving role
IsOfTargetRow Gives_lui role = IsGiving role
IsOfTargetRow Gives_denial role = IsGiving role
IsOfTargetRow Awaits_lur role = IsTaking role
IsOfTargetRow Over role = Unit {0}
IsOfTargetRow row role = is_asking role ≡ true

abbrev pub LiveOfRow : RowView → Option Transfer → Type 0
LiveOfRow row None = Unit {0}
LiveOfRow row (Some t) = IsOfTargetRow row t.role

abbrev pub LiveGives : Option Transfer → Type 0
LiveGives None = Unit {0}
LiveGives (Some t) = IsGiving t.role

-- what a change of the session asks of the moves beside it
abbrev pub FitsRole : Reading → Option TargetSessionLog → List Move → TargetChange → Type 0
FitsRole end live moves (Begins kind) = LiveGives (after end moves).live
FitsRole end live moves (Ends reason) = Unit {0}
FitsRole end None moves change = Unit {0}
FitsRole end (Some s) moves (Continues more) = LiveOfRow (seen_row s) end.live → LiveOfRow (seen_row s) (after end moves).live
FitsRole end (Some s) moves (Turns move more) = LiveOfRow (turned_view end s move more) (after end moves).live
FitsRole end (Some s) moves (Turns_without_port move more) = Unit {0}

abbrev pub Fits : Reading → Option TargetSessionLog → TargetDecision → Type 0
Fits end live d = FitsRole end live d.moves d.change

fits_if : (end : Reading) (live : Option TargetSessionLog) (b : Bool) (x y : TargetDecision)
    → (b ≡ true → Fits end live x) → (b ≡ false → Fits end live y) → Fits end live (cond b x y)
fits_if end live true x y p q = p refl
fits_if end live false x y p q = q refl

stays_fits : (end : Reading) (live : Option TargetSessionLog) (moves : List Move) → (after end moves).live ≡ end.live → Fits end live (doing moves)
stays_fits end None moves e = tt
stays_fits end (Some s) moves e = λ h. subst (LiveOfRow (seen_row s)) (sym e) h

-- ---- requests

module _ (accepts : Accepts) (r : TargetReading) where
  abbrev FitsHere : TargetDecision → Type 0
  FitsHere d = Fits r.end r.live d

  fits_here : (b : Bool) (x y : TargetDecision) → (b ≡ true → FitsHere x) → (b ≡ false → FitsHere y) → FitsHere (cond b x y)
  fits_here b x y p q = fits_if r.end r.live b x y p q

  nothing_fits : FitsHere (doing [])
  nothing_fits = stays_fits r.end r.live [] refl

  without_port_fits : FitsHere (without_port (session_view r.end r.live))
  without_port_fits = by_live r.live
    where
      by_live : (live : Option TargetSessionLog) → Fits r.end live (without_port (session_view r.end live))
      by_live None = tt
      by_live (Some s) = tt

  own_fits : (from : ℕ) (kind : FileKind) (name : List ℕ) (o : Options) → FitsHere (own_decision (target_view r) from kind name o)
  own_fits from kind name o = fits_here (is_fresh (end_view r.end) from) _ _ (λ e. fits_here (has_port (end_view r.end)) _ _ (λ f. tt) (λ f. without_port_fits)) (λ e. nothing_fits)

  read_fits : (from : ℕ) (name : List ℕ) (o : Options) → FitsHere (read_decision (target_view r) from name o)
  read_fits from name o =
      fits_here (bytes_eq name (own_name (target_view r) Lci)) _ _ (λ e. own_fits from Lci name o)
      (λ e. fits_here (bytes_eq name (own_name (target_view r) Lui)) _ _ (λ f. own_fits from Lui name o)
      (λ f. fits_here (is_busy (end_view r.end)) _ _ (λ g. nothing_fits) (λ g. stays_fits r.end r.live (Refuses from ∷ []) refl)))

  -- a request to write is taken where the row awaits it
  taken_fits : (from : ℕ) (name : List ℕ) (o : Options) (live : Option TargetSessionLog) (s : TargetSessionLog) → live ≡ Some s → seen_row s ≡ Awaits_lur → Fits r.end live (doing (Serves from (ServesWrite name o) ∷ []))
  taken_fits from name o None s is at = tt
  taken_fits from name o (Some t) s is at = λ h. subst (λ (row : RowView). IsOfTargetRow row (ServesWrite name o)) (sym (ap (λ (x : TargetSessionLog). seen_row x) (some_is t s is) ∙ at)) tt
    where
      some_is : (x y : TargetSessionLog) → Some x ≡ Some y → x ≡ y
      some_is x y e = cc

  write_in_fits : (from : ℕ) (name : List ℕ) (o : Options) (s : TargetSessionLog) (row : RowView) → r.live ≡ Some s → seen_row s ≡ row → FitsHere (write_in (target_view r) from name o row)
  write_in_fits from name o s Awaits_lur is at =
      fits_here (bytes_eq name (own_name (target_view r) Lur)) _ _
      (λ e. fits_here (is_fresh (end_view r.end) from) _ _ (λ f. fits_here (has_port (end_view r.end)) _ _ (λ g. taken_fits from name o r.live s is at) (λ g. without_port_fits)) (λ f. nothing_fits)) (λ e. nothing_fits)
  write_in_fits from name o s row is at = nothing_fits

  write_fits : (from : ℕ) (name : List ℕ) (o : Options) (live : Option TargetSessionLog) → r.live ≡ live → FitsHere (write_decision (target_view r) from name o (session_view r.end live))
  write_fits from name o None is = nothing_fits
  write_fits from name o (Some s) is = write_in_fits from name o s (seen_row s) is refl

  request_fits : (from : ℕ) (p : PacketView) → FitsHere (request_decision (target_view r) from p)
  request_fits from (Rrq name o) = read_fits from name o
  request_fits from (Wrq name o) = fits_here (is_busy (end_view r.end)) _ _ (λ e. nothing_fits) (λ e. write_fits from name o r.live refl)
  request_fits from (Data k b) = nothing_fits
  request_fits from (Ack k) = nothing_fits
  request_fits from (Error code m) = nothing_fits
  request_fits from (Oack o) = nothing_fits

-- ---- the end of a transfer

after_more : (end : Reading) (moves : List Move) (move : Move) → after end (moves ++ move ∷ []) ≡ reading_after sides.Target (after end moves) move
after_more end [] move = refl
after_more end (first ∷ moves) move = after_more (reading_after sides.Target end first) moves move

abbrev RoleFits : RowView → Option Role → Type 0
RoleFits row None = Unit {0}
RoleFits row (Some role) = IsOfTargetRow row role

-- what a row asks for is of the row
row_request_fits : (v : TargetView) (row : RowView) → RoleFits row (row_request v row)
row_request_fits v Gives_lci = tt
row_request_fits v Writes_lcs = refl
row_request_fits v Writes_lcl = refl
row_request_fits v Gives_lui = tt
row_request_fits v Gives_denial = tt
row_request_fits v Writes_ready = refl
row_request_fits v Awaits_lur = tt
row_request_fits v (Reads_file u) = refl
row_request_fits v (Writes_progress u) = refl
row_request_fits v (Writes_stop e) = refl
row_request_fits v (Writes_completion e loads) = refl
row_request_fits v Over = tt

next_fits : (end : Reading) (s : TargetSessionLog) (moves : List Move) (move : RowMove) (more : List ℕ) (row : RowView) (role : Option Role) → (after end moves).live ≡ None → turned_view end s move more ≡ row → RoleFits row role
    → Fits end (Some s) (next_decision (end_view end) moves more move row role)
next_fits end s moves move more row (Some role) free at asked =
    fits_if end (Some s) (has_port (end_view end)) _ _
    (λ x. subst (λ (r : Reading). LiveOfRow (turned_view end s move more) r.live) (sym (after_more end moves (Asks role))) (subst (λ (x : RowView). IsOfTargetRow x role) (sym at) asked)) (λ x. tt)
next_fits end s moves move more row None free at asked =
    fits_if end (Some s) (is_over row) _ _ (λ x. tt) (λ x. subst (LiveOfRow (turned_view end s move more)) (sym free) tt)

-- ---- packets of the live transfer

abbrev viewed : Reading → Option TargetSessionLog → StandingView → Option Reason → TargetView
viewed end live active reason = target_view (record { end = end; live = live; active = active; reason = reason })

module _ (accepts : Accepts) (first_port : ℕ) (past : List Transfer) (ticks : ℕ) (last : Option DatagramView) (size : Option ℕ) (s : TargetSessionLog) (active : StandingView) (reason : Option Reason) (from : ℕ) (p : PacketView) where
  abbrev with_live : Option Transfer → Reading
  with_live live = record { first_port = first_port; past = past; live = live; ticks = ticks; last = last; asks_size = size }

  abbrev session : Reading → TargetSession
  session end = record { row = seen_row s; arriving = arriving_of (seen_row s) (arriving_in end.live) }

  turn_fits : (end : Reading) (moves : List Move) (bytes : List ℕ) (error : Option ℕ) → (after end moves).live ≡ None → Fits end (Some s) (turn_decision accepts (viewed end (Some s) active reason) (session end) moves bytes error)
  turn_fits end moves bytes error free =
      let arriving = with_bytes (arriving_of (seen_row s) (arriving_in end.live)) bytes in
      let move : RowMove = row_move accepts (outline_of active) (seen_row s) (record { error = error; arriving = arriving }) in
      let row : RowView = view_moved (seen_row s) arriving move in
      next_fits end s moves move bytes row (row_request (viewed end (Some s) active reason) row) free refl (row_request_fits (viewed end (Some s) active reason) row)

  -- the live transfer keeps its role
  unchanged_keeps : (t : Transfer) (peer : Option ℕ) (row : RowView) → LiveOfRow row (Some t) → LiveOfRow row (reading_unchanged (with_live (Some t)) t from p peer).live
  unchanged_keeps t None row h = h
  unchanged_keeps t (Some q) row h = h

  answered_fits : (t : Transfer) (answer : Answer) → end_answer (end_of t.role t.got) p ≡ answer → Fits (with_live (Some t)) (Some s) (answer_decision accepts (viewed (with_live (Some t)) (Some s) active reason) (session (with_live (Some t))) (Hears from p ∷ []) answer)
  answered_fits t Dropped e = λ h. rw e (unchanged_keeps t t.peer (seen_row s) h)
  answered_fits t Again e = λ h. rw e (unchanged_keeps t t.peer (seen_row s) h)
  answered_fits t (Grants o) e = λ h. rw e h
  answered_fits t (TakesBlock b) e = λ h. rw e h
  answered_fits t Proceeds e = λ h. rw e h
  answered_fits t (TakesLast b) e = turn_fits (with_live (Some t)) (Hears from p ∷ []) b None (rw e refl)
  answered_fits t Completes e = turn_fits (with_live (Some t)) (Hears from p ∷ []) [] None (rw e refl)
  answered_fits t (Fails code) e = turn_fits (with_live (Some t)) (Hears from p ∷ []) [] (Some code) (rw e refl)

  abbrev recalls : EndView → (to : ℕ) → List Move
  recalls v to = cond (belongs v.kept from to) (Recalls from p ∷ []) []

  recalled : (end : Reading) (b : Bool) → after end (cond b (Recalls from p ∷ []) []) ≡ end
  recalled end true = refl
  recalled end false = refl

  recalls_fit : (end : Reading) (to : ℕ) → Fits end (Some s) (doing (recalls (end_view end) to))
  recalls_fit end to = stays_fits end (Some s) (recalls (end_view end) to) (ap (λ (r : Reading). r.live) (recalled end (belongs (end_view end).kept from to)))

  heard_fits : (t : Transfer) (to : ℕ) (b : Bool)
      → Fits (with_live (Some t)) (Some s)
      (answer_decision accepts (viewed (with_live (Some t)) (Some s) active reason) (session (with_live (Some t))) (cond b (Hears from p ∷ []) (recalls (end_view (with_live (Some t))) to)) (cond b (end_answer (end_of t.role t.got) p) Dropped))
  heard_fits t to true = answered_fits t (end_answer (end_of t.role t.got) p) refl
  heard_fits t to false = recalls_fit (with_live (Some t)) to

  transfer_fits : (live : Option Transfer) (to : ℕ) → Fits (with_live live) (Some s) (transfer_decision accepts (viewed (with_live live) (Some s) active reason) (Some (session (with_live live))) from to p)
  transfer_fits (Some t) to = heard_fits t to (belongs (Some (transfer_view t)) from to)
  transfer_fits None to = recalls_fit (with_live None) to

-- ---- events

any_transfer_fits : (accepts : Accepts) (end : Reading) (live : Option TargetSessionLog) (active : StandingView) (reason : Option Reason) (from to : ℕ) (p : PacketView)
    → Fits end live (transfer_decision accepts (viewed end live active reason) (session_view end live) from to p)
any_transfer_fits accepts end None active reason from to p = tt
any_transfer_fits accepts end (Some s) active reason from to p = transfer_fits accepts end.first_port end.past end.ticks end.last end.asks_size s active reason from p end.live to

got_fits : (accepts : Accepts) (r : TargetReading) (from to : ℕ) (p : Option PacketView) → Fits r.end r.live (got_decision accepts (target_view r) from to p)
got_fits accepts r from to None = nothing_fits accepts r
got_fits accepts r from to (Some p) = fits_here accepts r (eqb to 59) _ _ (λ e. request_fits accepts r from p) (λ e. any_transfer_fits accepts r.end r.live r.active r.reason from to p)

tick_fits : (end : Reading) (live : Option TargetSessionLog) (session : Option TargetSession) → Fits end live (tick_decision (end_view end) session)
tick_fits end live None = stays_fits end live [] refl
tick_fits end live (Some s) = fits_if end live (may_repeat (end_view end)) _ _ (λ e. stays_fits end live (Repeats ∷ []) refl) (λ e. tt)

pub decision_roles : (accepts : Accepts) (r : TargetReading) (e : Event) → Fits r.end r.live (target_decision accepts (target_view r) e)
decision_roles accepts r (Gets from to bytes) = got_fits accepts r from to (packet_in bytes)
decision_roles accepts r Ticks = tick_fits r.end r.live (session_view r.end r.live)
decision_roles accepts r (Learns size) = stays_fits r.end r.live (Asks_size size ∷ []) refl
decision_roles accepts r (Starts_info hw pos) = nothing_fits accepts r
decision_roles accepts r (Starts_upload hw pos parts) = nothing_fits accepts r
