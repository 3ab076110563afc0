-- A target reports a completion only while its session is in the row of the report.
use Rattle.std.proofs.Common.{◌≡◌, ◌⊎◌, inl, inr, ℕ, ◌+◌, Bool, true, false, cond, eqb, List, [], ◌∷◌, ◌++◌, length, Option, Some, None, refl, sym, ap, subst, ◌∙◌, arith}
use Rattle.std.specs.Prelude.{bytes_eq}
use Rattle.std.specs.List.{AllByRecursion}
use Rattle.load_base.specs.Config.{LoadView}
use Rattle.disk_layout.specs.Holds.{StandingView}
use Rattle.tftp_packet.specs.declared.options.Options.{Options}
use Rattle.tftp_packet.specs.Packets.{Ack, Data, Error, Oack, PacketView, Rrq, Wrq}
use Rattle.tftp_link.specs.Answers.{Again, Answer, Completes, Dropped, Fails, Grants, Proceeds, TakesBlock, TakesLast}
use Rattle.exchange_trace.specs.declared.trace.Side.TheVariants as sides
use Rattle.exchange_trace.specs.Happenings.{DatagramView}
use Rattle.exchange_trace.specs.Logs.{Event, Gets, Learns, Starts_info, Starts_upload, Ticks}
use Rattle.transfer_end.proofs.CameLemmas.{all_mapped}
use Rattle.transfer_end.specs.Laws.{IsLive}
use Rattle.transfer_end.specs.Moves.{Asks, Asks_size, Hears, Move, Recalls, Refuses, Repeats, Serves, Stops, reading_after, reading_answered, reading_unchanged, readings_after}
use Rattle.transfer_end.specs.OtherEnds.{MoveHasRole}
use Rattle.transfer_end.specs.Packets.{belongs, has_port, heard_answer, is_busy, is_fresh, may_repeat, packet_in, transfer_moves}
use Rattle.transfer_end.specs.Readings.{Reading}
use Rattle.transfer_end.specs.Transfers.{Reads, Role, ServesRead, ServesWrite, Transfer, Writes, end_answer, end_of}
use Rattle.accept_rules.specs.Permissions.{Accepts}
use Rattle.session_rules.specs.declared.outcome.FileKind.{FileKind}
use Rattle.session_rules.specs.declared.outcome.FileKind.TheVariants as kinds
use Rattle.session_rules.specs.declared.reason.Reason.{Reason}
use Rattle.session_rules.proofs.BufferLemmas.{SumsJoin}
use Rattle.session_rules.proofs.CompletionLemmas.{target_tells_installed}
use Rattle.session_rules.specs.Completions.{InstallsNow, TellsInstalled}
use Rattle.session_rules.specs.LoaderLog.{newest}
use Rattle.session_rules.specs.Target as target
use Rattle.session_rules.proofs.TargetLemmas.{FitsChange, after, decision_fits, end_stays}
use Rattle.session_rules.specs.TargetLog.{TargetReading, TargetSessionLog, standing_after, standing_in, target_extended, target_reading_changed, target_view, with_done}
use Rattle.session_rules.specs.TargetRows.{Awaits_lur, Gives_denial, Gives_lci, Gives_lui, Over, Reads_file, RowMove, RowView, UploadEnd, WholeRow, Writes_completion, Writes_lcl, Writes_lcs, Writes_progress, Writes_ready, Writes_stop, row_move, view_moved, with_bytes}
use Rattle.run_promises.specs.Reports.{IsReport, WritesReport}

-- ---- where a session ends or begins anew, no report is live

abbrev IsQuiet : List Move → Type 0
IsQuiet moves = (end : Reading) → IsReport (readings_after sides.Target end moves).live → ⊥

abbrev QuietAt : List Move → target.TargetChange → Type 0
QuietAt moves (target.Ends reason) = IsQuiet moves
QuietAt moves (target.Begins kind) = IsQuiet moves
QuietAt moves (target.Turns_without_port move more) = IsQuiet moves
QuietAt moves change = Unit {0}

abbrev Quiet : target.TargetDecision → Type 0
Quiet d = QuietAt d.moves d.change

quiet_if : (b : Bool) (x y : target.TargetDecision) → Quiet x → Quiet y → Quiet (cond b x y)
quiet_if true x y p q = p
quiet_if false x y p q = q

without_port_quiet : (live : Option target.TargetSession) → Quiet (target.without_port live)
without_port_quiet None = tt
without_port_quiet (Some s) = λ end h. h

tick_quiet : (v : target.TargetView) (live : Option target.TargetSession) → Quiet (target.tick_decision v.end live)
tick_quiet v None = tt
tick_quiet v (Some s) = quiet_if (may_repeat v.end) _ _ tt (λ end h. h)

module _ (v : target.TargetView) (from : ℕ) where
  own_quiet : (kind : FileKind) (name : List ℕ) (o : Options) → Quiet (target.own_decision v from kind name o)
  own_quiet kind name o = quiet_if (is_fresh v.end from) _ _ (quiet_if (has_port v.end) _ _ (λ end h. h) (without_port_quiet v.live)) tt

  read_quiet : (name : List ℕ) (o : Options) → Quiet (target.read_decision v from name o)
  read_quiet name o =
      quiet_if (bytes_eq name (target.own_name v kinds.Lci)) _ _ (own_quiet kinds.Lci name o)
      (quiet_if (bytes_eq name (target.own_name v kinds.Lui)) _ _ (own_quiet kinds.Lui name o) (quiet_if (is_busy v.end) _ _ tt tt))

  write_in_quiet : (name : List ℕ) (o : Options) (row : RowView) → Quiet (target.write_in v from name o row)
  write_in_quiet name o Awaits_lur = quiet_if (bytes_eq name (target.own_name v kinds.Lur)) _ _ (quiet_if (is_fresh v.end from) _ _ (quiet_if (has_port v.end) _ _ tt (without_port_quiet v.live)) tt) tt
  write_in_quiet name o row = tt

  write_quiet : (name : List ℕ) (o : Options) (live : Option target.TargetSession) → Quiet (target.write_decision v from name o live)
  write_quiet name o None = tt
  write_quiet name o (Some s) = write_in_quiet name o s.row

  request_quiet : (p : PacketView) → Quiet (target.request_decision v from p)
  request_quiet (Rrq name o) = read_quiet name o
  request_quiet (Wrq name o) = quiet_if (is_busy v.end) _ _ tt (write_quiet name o v.live)
  request_quiet (Data k b) = tt
  request_quiet (Ack k) = tt
  request_quiet (Error code m) = tt
  request_quiet (Oack o) = tt

  -- what a packet does before the session stops
  then_stops : (to : ℕ) (p : PacketView) → IsQuiet (transfer_moves v.end from to p ++ Stops ∷ [])
  then_stops to p = by (belongs v.end.live from to) (belongs v.end.kept from to)
    where
      by : (a b : Bool) → IsQuiet (cond a (Hears from p ∷ []) (cond b (Recalls from p ∷ []) []) ++ Stops ∷ [])
      by true b = λ end h. h
      by false true = λ end h. h
      by false false = λ end h. h

  next_quiet : (to : ℕ) (p : PacketView) (more : List ℕ) (move : RowMove) (row : RowView) (role : Option Role) → Quiet (target.next_decision v.end (transfer_moves v.end from to p) more move row role)
  next_quiet to p more move row (Some role) = quiet_if (has_port v.end) _ _ tt (then_stops to p)
  next_quiet to p more move row None = quiet_if (target.is_over row) _ _ (then_stops to p) tt

  turn_quiet : (accepts : Accepts) (s : target.TargetSession) (to : ℕ) (p : PacketView) (more : List ℕ) (error : Option ℕ) → Quiet (target.turn_decision accepts v s (transfer_moves v.end from to p) more error)
  turn_quiet accepts s to p more error =
      let move : RowMove = row_move accepts v.active s.row (record { error = error; arriving = with_bytes s.arriving more }) in
      next_quiet to p more move (view_moved s.row (with_bytes s.arriving more) move) (target.row_request v (view_moved s.row (with_bytes s.arriving more) move))

  answer_quiet : (accepts : Accepts) (s : target.TargetSession) (to : ℕ) (p : PacketView) (answer : Answer) → Quiet (target.answer_decision accepts v s (transfer_moves v.end from to p) answer)
  answer_quiet accepts s to p (TakesBlock b) = tt
  answer_quiet accepts s to p (TakesLast b) = turn_quiet accepts s to p b None
  answer_quiet accepts s to p Completes = turn_quiet accepts s to p [] None
  answer_quiet accepts s to p (Fails code) = turn_quiet accepts s to p [] (Some code)
  answer_quiet accepts s to p Dropped = tt
  answer_quiet accepts s to p Again = tt
  answer_quiet accepts s to p (Grants o) = tt
  answer_quiet accepts s to p Proceeds = tt

  transfer_quiet : (accepts : Accepts) (live : Option target.TargetSession) (to : ℕ) (p : PacketView) → Quiet (target.transfer_decision accepts v live from to p)
  transfer_quiet accepts None to p = tt
  transfer_quiet accepts (Some s) to p = answer_quiet accepts s to p (heard_answer v.end from to p)

  got_quiet : (accepts : Accepts) (to : ℕ) (p : Option PacketView) → Quiet (target.got_decision accepts v from to p)
  got_quiet accepts to None = tt
  got_quiet accepts to (Some p) = quiet_if (eqb to 59) _ _ (request_quiet p) (transfer_quiet accepts v.live to p)

target_is_quiet : (accepts : Accepts) (v : target.TargetView) (e : Event) → Quiet (target.target_decision accepts v e)
target_is_quiet accepts v (Gets from to bytes) = got_quiet v from accepts to (packet_in bytes)
target_is_quiet accepts v Ticks = tick_quiet v v.live
target_is_quiet accepts v (Learns size) = tt
target_is_quiet accepts v (Starts_info hw pos) = tt
target_is_quiet accepts v (Starts_upload hw pos parts) = tt

-- ---- a report that is live was live before, or begins

module _ (Begins : Type 0) where
  abbrev BeginsReport : Role → Type 0
  BeginsReport role = WritesReport role → Begins

  -- it was live before, and no transfer is over since
  abbrev WasLive : (before then : Reading) → Type 0
  WasLive before then = IsReport before.live × (then.past ≡ before.past)

  abbrev with_live : (first_port : ℕ) → List Transfer → Transfer → (ticks : ℕ) → Option DatagramView → Option ℕ → Reading
  with_live first_port past t ticks last size = record { first_port = first_port; past = past; live = Some t; ticks = ticks; last = last; asks_size = size }

  unchanged_was : (first_port : ℕ) (past : List Transfer) (t : Transfer) (ticks : ℕ) (last : Option DatagramView) (size : Option ℕ) (from : ℕ) (p : PacketView) (peer : Option ℕ) → IsReport (reading_unchanged (with_live first_port past t ticks last size) t from p peer).live
      → WasLive (with_live first_port past t ticks last size) (reading_unchanged (with_live first_port past t ticks last size) t from p peer)
  unchanged_was first_port past t ticks last size from p None h = (h, refl)
  unchanged_was first_port past t ticks last size from p (Some port) h = (h, refl)

  answered_was : (first_port : ℕ) (past : List Transfer) (t : Transfer) (ticks : ℕ) (last : Option DatagramView) (size : Option ℕ) (from : ℕ) (p : PacketView) (answer : Answer)
      → IsReport (reading_answered sides.Target (with_live first_port past t ticks last size) t from p answer).live
      → WasLive (with_live first_port past t ticks last size) (reading_answered sides.Target (with_live first_port past t ticks last size) t from p answer)
  answered_was first_port past t ticks last size from p Dropped h = unchanged_was first_port past t ticks last size from p t.peer h
  answered_was first_port past t ticks last size from p Again h = unchanged_was first_port past t ticks last size from p t.peer h
  answered_was first_port past t ticks last size from p (Grants o) h = (h, refl)
  answered_was first_port past t ticks last size from p (TakesBlock b) h = (h, refl)
  answered_was first_port past t ticks last size from p Proceeds h = (h, refl)
  answered_was first_port past t ticks last size from p (TakesLast b) h = absurd h
  answered_was first_port past t ticks last size from p Completes h = absurd h
  answered_was first_port past t ticks last size from p (Fails code) h = absurd h

  heard_was : (first_port : ℕ) (past : List Transfer) (live : Option Transfer) (ticks : ℕ) (last : Option DatagramView) (size : Option ℕ) (from : ℕ) (p : PacketView)
      → IsReport (reading_after sides.Target (record { first_port = first_port; past = past; live = live; ticks = ticks; last = last; asks_size = size }) (Hears from p)).live
      → WasLive (record { first_port = first_port; past = past; live = live; ticks = ticks; last = last; asks_size = size })
      (reading_after sides.Target (record { first_port = first_port; past = past; live = live; ticks = ticks; last = last; asks_size = size }) (Hears from p))
  heard_was first_port past None ticks last size from p h = absurd h
  heard_was first_port past (Some t) ticks last size from p h = answered_was first_port past t ticks last size from p (end_answer (end_of t.role t.got) p) h

  move_was : (end : Reading) (move : Move) → MoveHasRole BeginsReport move → IsReport (reading_after sides.Target end move).live → WasLive end (reading_after sides.Target end move) ⊎ Begins
  move_was end (Hears from p) begins h = inl (heard_was end.first_port end.past end.live end.ticks end.last end.asks_size from p h)
  move_was end (Recalls from p) begins h = inl (h, refl)
  move_was end (Asks role) begins h = inr (begins h)
  move_was end (Serves from role) begins h = inr (begins h)
  move_was end (Refuses from) begins h = inl (h, refl)
  move_was end Repeats begins h = inl (h, refl)
  move_was end Stops begins h = absurd h
  move_was end (Asks_size n) begins h = inl (h, refl)

  moves_were : (end : Reading) (moves : List Move) → AllByRecursion (MoveHasRole BeginsReport) moves → IsReport (readings_after sides.Target end moves).live → WasLive end (readings_after sides.Target end moves) ⊎ Begins
  moves_were end [] begins h = inl (h, refl)
  moves_were end (move ∷ moves) (one, begins) h = by (moves_were (reading_after sides.Target end move) moves begins h)
    where
      first : IsReport (reading_after sides.Target end move).live → (readings_after sides.Target end (move ∷ moves)).past ≡ (reading_after sides.Target end move).past → WasLive end (reading_after sides.Target end move) ⊎ Begins
          → WasLive end (readings_after sides.Target end (move ∷ moves)) ⊎ Begins
      first live same (inl (was, past)) = inl (was, same ∙ past)
      first live same (inr now) = inr now

      by : WasLive (reading_after sides.Target end move) (readings_after sides.Target end (move ∷ moves)) ⊎ Begins → WasLive end (readings_after sides.Target end (move ∷ moves)) ⊎ Begins
      by (inl (live, same)) = first live same (move_was end move one live)
      by (inr now) = inr now

-- ---- the row of a report

-- the session is in the row in which it reports that these loads are installed
pub record IsCompleted (r : TargetReading) : Type 0 where
  pub session : TargetSessionLog
  pub live : r.live ≡ Some session
  pub upload : UploadEnd
  pub loads : List LoadView
  pub row : session.row ≡ Writes_completion upload loads

abbrev pub reading : Reading → Option TargetSessionLog → StandingView → Option Reason → TargetReading
reading end live active reason = record { end = end; live = live; active = active; reason = reason }

abbrev Installs : StandingView → TargetReading → Type 0
Installs active later = (loads : List LoadView) × (later.active ≡ standing_after active loads)

pub next_sequence : (A : Type 0) (active : StandingView) (loads : List LoadView) → active ≡ standing_after active loads → A
next_sequence A active loads e = let one : active.sequence ≡ active.sequence + 1 = ap (λ (s : StandingView). s.sequence) e in absurd (omega (arith, one))

longer : (A : Type 0) (t : Transfer) (past : List Transfer) → t ∷ past ≡ past → A
longer A t past e = let one : length (t ∷ past) ≡ length past = ap length e in absurd (omega (arith, one))

-- which row makes another configuration active
pub installing_row : (active : StandingView) (row : WholeRow) (loads : List LoadView) → standing_in active row ≡ standing_after active loads → (upload : UploadEnd) × (brought : List LoadView) × (row ≡ Writes_completion upload brought)
installing_row active (Writes_completion upload brought) loads e = (upload, brought, refl)
installing_row active Gives_lci loads e = next_sequence _ active loads e
installing_row active Writes_lcs loads e = next_sequence _ active loads e
installing_row active Writes_lcl loads e = next_sequence _ active loads e
installing_row active Gives_lui loads e = next_sequence _ active loads e
installing_row active Gives_denial loads e = next_sequence _ active loads e
installing_row active Writes_ready loads e = next_sequence _ active loads e
installing_row active Awaits_lur loads e = next_sequence _ active loads e
installing_row active (Reads_file u) loads e = next_sequence _ active loads e
installing_row active (Writes_progress u) loads e = next_sequence _ active loads e
installing_row active (Writes_stop u) loads e = next_sequence _ active loads e
installing_row active Over loads e = next_sequence _ active loads e

module _ (accepts : Accepts) where
  -- the row that a session turned to
  turned_completes : (then : Reading) (active : StandingView) (reason : Option Reason) (session : TargetSessionLog) (loads : List LoadView) → standing_in active session.row ≡ standing_after active loads
      → IsCompleted (record { end = then; live = Some session; active = standing_in active session.row; reason = reason })
  turned_completes then active reason session loads e =
      let (upload, brought, row) = installing_row active session.row loads e in
      record {
        session = session;
        live = refl;
        upload = upload;
        loads = brought;
        row = row;
      }

  changed_completes : (end : Reading) (live : Option TargetSessionLog) (active : StandingView) (reason : Option Reason) (moves : List Move) (change : target.TargetChange) → FitsChange accepts active end live moves change → QuietAt moves change
      → (IsReport end.live → IsCompleted (reading end live active reason)) → IsReport (after end moves).live
      → (IsReport end.live × ((after end moves).past ≡ end.past)) ⊎ Installs active (target_reading_changed accepts (after end moves) (reading end live active reason) change)
      → IsCompleted (target_reading_changed accepts (after end moves) (reading end live active reason) change)
  changed_completes end live active reason moves (target.Begins kind) fits quiet before h came = absurd (quiet end h)
  changed_completes end live active reason moves (target.Ends why) fits quiet before h came = absurd (quiet end h)
  changed_completes end live active reason moves (target.Turns_without_port move more) fits quiet before h came = absurd (quiet end h)
  changed_completes end live active reason moves (target.Continues more) fits quiet before h (inl (was, past)) =
      let c = before was in record { session = c.session; live = c.live; upload = c.upload; loads = c.loads; row = c.row }
  changed_completes end live active reason moves (target.Continues more) fits quiet before h (inr (loads, now)) = next_sequence _ active loads now
  changed_completes end None active reason moves (target.Turns move more) fits quiet before h (inl (was, past)) = absurd (none (before was))
    where
      none : IsCompleted (reading end None active reason) → ⊥
      none c = let wrong = c.live in cc
  changed_completes end None active reason moves (target.Turns move more) fits quiet before h (inr (loads, now)) = next_sequence _ active loads now
  changed_completes end (Some s) active reason moves (target.Turns move more) (turn, none, role) quiet before h (inl (was, past)) = longer _ turn.ended end.past (sym turn.past ∙ past)
  changed_completes end (Some s) active reason moves (target.Turns move more) fits quiet before h (inr (loads, now)) =
      turned_completes (after end moves) active _ (with_done accepts active s (newest (after end moves).past)) loads now

  tells : (r : TargetReading) (e : Event) (role : Role) → TellsInstalled accepts r e role → WritesReport role → InstallsNow accepts r e
  tells r e (Writes name o file) h says = h says
  tells r e (Reads name o) h says = absurd says
  tells r e (ServesRead name o file) h says = absurd says
  tells r e (ServesWrite name o) h says = absurd says

  move_tells : (r : TargetReading) (e : Event) (move : Move) → MoveHasRole (TellsInstalled accepts r e) move → MoveHasRole (λ (role : Role). WritesReport role → InstallsNow accepts r e) move
  move_tells r e (Asks role) h = tells r e role h
  move_tells r e (Serves from role) h = tells r e role h
  move_tells r e (Hears from p) h = tt
  move_tells r e (Recalls from p) h = tt
  move_tells r e (Refuses from) h = tt
  move_tells r e Repeats h = tt
  move_tells r e Stops h = tt
  move_tells r e (Asks_size n) h = tt

  -- one event more
  pub step_completes : SumsJoin → (r : TargetReading) (e : Event) → IsLive r.end.live → (IsReport r.end.live → IsCompleted r) → IsReport (target_extended accepts r e).end.live → IsCompleted (target_extended accepts r e)
  step_completes joins r e going before h =
      let d = target.target_decision accepts (target_view r) e in
      let live : IsReport (after r.end d.moves).live = subst (λ (end : Reading). IsReport end.live) (ended d.moves d.change) h in
      let begins = all_mapped (MoveHasRole (TellsInstalled accepts r e)) (MoveHasRole (λ (role : Role). WritesReport role → InstallsNow accepts r e)) (move_tells r e) d.moves (target_tells_installed joins accepts r e going) in
      changed_completes r.end r.live r.active r.reason d.moves d.change (decision_fits joins accepts r e going) (target_is_quiet accepts (target_view r) e) before live (now (moves_were (InstallsNow accepts r e) r.end d.moves begins live))
    where
      ended : (moves : List Move) (change : target.TargetChange) → (target_reading_changed accepts (after r.end moves) r change).end ≡ after r.end moves
      ended moves change = end_stays accepts (after r.end moves) r change

      now : (IsReport r.end.live × ((after r.end (target.target_decision accepts (target_view r) e).moves).past ≡ r.end.past)) ⊎ InstallsNow accepts r e
          → (IsReport r.end.live × ((after r.end (target.target_decision accepts (target_view r) e).moves).past ≡ r.end.past)) ⊎ Installs r.active (target_extended accepts r e)
      now (inl was) = inl was
      now (inr h) = inr (h.loads, h.next)
