-- A side without a session has no live transfer.
use Rattle.std.proofs.Common.{◌≡◌, ℕ, Bool, true, false, cond, eqb, List, [], ◌∷◌, ◌++◌, length, Option, Some, None, Result, Ok, Err, refl, sym, subst}
use Rattle.std.specs.Prelude.{bytes_eq, nat_lt}
use Rattle.load_protocol_files.specs.declared.lur.Wanted.{Wanted}
use Rattle.tftp_packet.specs.declared.options.Options.{Options}
use Rattle.tftp_packet.specs.Packets.{Ack, Data, Error, Oack, PacketView, Rrq, Wrq}
use Rattle.tftp_link.specs.Answers.{Again, Answer, Completes, Dropped, Fails, Grants, Proceeds, TakesBlock, TakesLast}
use Rattle.exchange_trace.specs.declared.trace.Side.{Side}
use Rattle.exchange_trace.specs.declared.trace.Side.TheVariants as sides
use Rattle.exchange_trace.specs.Logs.{Event, Gets, Learns, Starts_info, Starts_upload, Ticks}
use Rattle.transfer_end.specs.Moves.{Hears, Move, Recalls, Stops, view_after, view_heard, views_after}
use Rattle.transfer_end.specs.Packets.{belongs, has_port, heard_answer, is_busy, is_fresh, may_repeat, packet_in, transfer_moves}
use Rattle.transfer_end.specs.Transfers.{Role, ServesRead, ServesWrite}
use Rattle.transfer_end.specs.Views.{EndView, TransferView}
use Rattle.accept_rules.specs.Permissions.{Accepts}
use Rattle.session_rules.specs.declared.outcome.FileKind.{FileKind}
use Rattle.session_rules.specs.declared.outcome.FileKind.TheVariants.{Lci, Lui, Lur}
use Rattle.session_rules.specs.declared.outcome.Outcome.TheVariants.{PeerError}
use Rattle.session_rules.specs.declared.outcome.SessionKind.TheVariants.{Info, Upload}
use Rattle.session_rules.specs.Buffers.{buffered_more}
use Rattle.session_rules.specs.FileNames.{file_name}
use Rattle.session_rules.specs.Loader as Loader
use Rattle.session_rules.specs.Loader.{Advances, Begins, Begins_over, Continues, EndedSession, Ends, LoaderChange, LoaderDecision, LoaderSession, LoaderView, Start, loader_after, loader_changed, loader_decision}
use Rattle.session_rules.specs.LoaderRows.{Comes_to, Goes_on, RowTurn, file_turn, kind_taken, row_after, serves_files}
use Rattle.session_rules.specs.MediaFiles.{Media, wanted_of}
use Rattle.session_rules.specs.Target as Target
use Rattle.session_rules.specs.Target.{TargetChange, TargetDecision, TargetSession, TargetView, target_after, target_changed, target_decision}
use Rattle.session_rules.specs.TargetRows.{Awaits_lur, Gives_denial, Gives_lci, Gives_lui, Over, Reads_file, RowMove, RowView, Writes_completion, Writes_lcl, Writes_lcs, Writes_progress, Writes_ready, Writes_stop}

-- ---- ends

module _ (side : Side) where
  stops_last : (v : EndView) (heard : List Move) → (views_after side v (heard ++ Stops ∷ [])).live ≡ None
  stops_last v [] = refl
  stops_last v (move ∷ heard) = stops_last (view_after side v move) heard

  heard_free : (v : EndView) (live : Option TransferView) (from : ℕ) (p : PacketView) → live ≡ None → v.live ≡ None → (view_heard side v live from p).live ≡ None
  heard_free v None from p none free = free
  heard_free v (Some t) from p none free = absurd cc

  transfer_free : (v : EndView) (from to : ℕ) (p : PacketView) → v.live ≡ None → (views_after side v (transfer_moves v from to p)).live ≡ None
  transfer_free v from to p free = by (belongs v.live from to) (belongs v.kept from to)
    where
      by : (a b : Bool) → (views_after side v (cond a (Hears from p ∷ []) (cond b (Recalls from p ∷ []) []))).live ≡ None
      by true b = heard_free v v.live from p free free
      by false true = free
      by false false = free

-- ---- the loader

module _ (v : EndView) where
  abbrev after : List Move → Option TransferView
  after moves = (views_after sides.Loader v moves).live

  -- with a live session: where it ends, its transfer is stopped
  abbrev Stopped : LoaderChange → Option TransferView → Type 0
  Stopped (Ends outcome more) live = live ≡ None
  Stopped (Begins_over kind outcome) live = live ≡ None
  Stopped change live = Unit {0}

  abbrev IsStopped : LoaderDecision → Type 0
  IsStopped d = Stopped d.change (after d.moves)

  stopped_if : (b : Bool) (x y : LoaderDecision) → IsStopped x → IsStopped y → IsStopped (cond b x y)
  stopped_if true x y p q = p
  stopped_if false x y p q = q

  begin_stops : (s : Start) (role : Option Role) → IsStopped (Loader.begin_with v s role)
  begin_stops s None = tt
  begin_stops s (Some role) = stopped_if (has_port v) _ _ tt refl

  start_stops : (s : Start) → IsStopped (Loader.start_decision v s)
  start_stops s = begin_stops s (Loader.row_request v.asks_size s (Rattle.session_rules.specs.LoaderRows.first_row s.kind))

  listed_stops : (hw pos : List ℕ) (found : Result (List Wanted) (List ℕ)) → IsStopped (Loader.listed_upload v hw pos found)
  listed_stops hw pos (Ok loads) = start_stops (record { kind = Upload; hw = hw; pos = pos; loads = loads })
  listed_stops hw pos (Err part) = refl

  taken_stops : (from : ℕ) (role : Role) → IsStopped (Loader.take_request v from role)
  taken_stops from role = stopped_if (is_fresh v from) _ _ (stopped_if (has_port v) _ _ tt refl) tt

  read_stops : (from : ℕ) (name : List ℕ) (o : Options) (found : Option (List ℕ)) → IsStopped (Loader.read_decision v from name o found)
  read_stops from name o None = tt
  read_stops from name o (Some file) = taken_stops from (ServesRead name o file)

  write_stops : (s : Start) (from : ℕ) (name : List ℕ) (o : Options) (kind : Option FileKind) → IsStopped (Loader.write_decision v s from name o kind)
  write_stops s from name o None = tt
  write_stops s from name o (Some kind) = stopped_if (bytes_eq name (file_name s.hw s.pos kind)) _ _ (taken_stops from (ServesWrite name o)) tt

  request_stops : (media : Media) (s : LoaderSession) (from : ℕ) (p : PacketView) → IsStopped (Loader.request_decision media v s from p)
  request_stops media s from (Rrq name o) = stopped_if (serves_files s.row) _ _ (read_stops from name o (media.file name)) tt
  request_stops media s from (Wrq name o) = write_stops s.start from name o (kind_taken s.row)
  request_stops media s from (Data k b) = tt
  request_stops media s from (Ack k) = tt
  request_stops media s from (Error code m) = tt
  request_stops media s from (Oack o) = tt

  next_stops : (heard : List Move) (more : List ℕ) (role : Option Role) → IsStopped (Loader.next_decision v heard more role)
  next_stops heard more None = tt
  next_stops heard more (Some role) = stopped_if (has_port v) _ _ tt (stops_last sides.Loader v heard)

  turn_stops : (s : LoaderSession) (heard : List Move) (more : List ℕ) (turn : RowTurn) → IsStopped (Loader.turn_decision v s heard more turn)
  turn_stops s heard more Goes_on = next_stops heard more (Loader.row_request v.asks_size s.start (row_after s.row))
  turn_stops s heard more (Comes_to outcome) = stops_last sides.Loader v heard

  answer_stops : (s : LoaderSession) (heard : List Move) (answer : Answer) → IsStopped (Loader.answer_decision v s heard answer)
  answer_stops s heard (TakesBlock payload) = tt
  answer_stops s heard (TakesLast payload) = turn_stops s heard payload (file_turn s.row (buffered_more s.arriving payload))
  answer_stops s heard Completes = turn_stops s heard [] Goes_on
  answer_stops s heard (Fails code) = turn_stops s heard [] (Comes_to (PeerError code))
  answer_stops s heard Dropped = tt
  answer_stops s heard Again = tt
  answer_stops s heard (Grants o) = tt
  answer_stops s heard Proceeds = tt

  packet_stops : (media : Media) (s : LoaderSession) (from to : ℕ) (p : PacketView) → IsStopped (Loader.packet_decision media v s from to p)
  packet_stops media s from to p =
      stopped_if (eqb to 59) _ _ (stopped_if (is_busy v) _ _ tt (request_stops media s from p)) (answer_stops s (transfer_moves v from to p) (heard_answer v from to p))

  -- without one: none begins, or another session does
  abbrev Freed : LoaderChange → Option TransferView → Type 0
  Freed (Begins s) live = Unit {0}
  Freed change live = live ≡ None

  abbrev IsFreed : LoaderDecision → Type 0
  IsFreed d = Freed d.change (after d.moves)

  freed_if : (b : Bool) (x y : LoaderDecision) → IsFreed x → IsFreed y → IsFreed (cond b x y)
  freed_if true x y p q = p
  freed_if false x y p q = q

  begin_frees : (s : Start) (role : Option Role) → v.live ≡ None → IsFreed (Loader.begin_with v s role)
  begin_frees s None free = free
  begin_frees s (Some role) free = freed_if (has_port v) _ _ tt refl

  start_frees : (s : Start) → v.live ≡ None → IsFreed (Loader.start_decision v s)
  start_frees s free = begin_frees s (Loader.row_request v.asks_size s (Rattle.session_rules.specs.LoaderRows.first_row s.kind)) free

  listed_frees : (hw pos : List ℕ) (found : Result (List Wanted) (List ℕ)) → v.live ≡ None → IsFreed (Loader.listed_upload v hw pos found)
  listed_frees hw pos (Ok loads) free = start_frees (record { kind = Upload; hw = hw; pos = pos; loads = loads }) free
  listed_frees hw pos (Err part) free = refl

-- a session is live, or no transfer is
abbrev pub LoaderIsFree : LoaderView → Type 0
LoaderIsFree v = v.live ≡ None → v.end.live ≡ None

with_session : (media : Media) (end : EndView) (s : LoaderSession) (ended : List EndedSession) (e : Event) → IsStopped end (loader_decision media (record { end = end; live = Some s; ended = ended }) e)
with_session media end s ended (Starts_info hw pos) = start_stops end (record { kind = Info; hw = hw; pos = pos; loads = [] })
with_session media end s ended (Starts_upload hw pos parts) = stopped_if end (nat_lt 32 (length parts)) _ _ refl (listed_stops end hw pos (wanted_of media.loads parts))
with_session media end s ended (Gets from to bytes) = by (packet_in bytes)
  where
    by : (p : Option PacketView) → IsStopped end (Loader.got_decision media (record { end = end; live = Some s; ended = ended }) from to p)
    by None = tt
    by (Some p) = packet_stops end media s from to p
with_session media end s ended Ticks = stopped_if end (may_repeat end) _ _ tt refl
with_session media end s ended (Learns size) = tt

without_session : (media : Media) (end : EndView) (ended : List EndedSession) (e : Event) → end.live ≡ None → IsFreed end (loader_decision media (record { end = end; live = None; ended = ended }) e)
without_session media end ended (Starts_info hw pos) free = start_frees end (record { kind = Info; hw = hw; pos = pos; loads = [] }) free
without_session media end ended (Starts_upload hw pos parts) free = freed_if end (nat_lt 32 (length parts)) _ _ refl (listed_frees end hw pos (wanted_of media.loads parts) free)
without_session media end ended (Gets from to bytes) free = by (packet_in bytes)
  where
    by : (p : Option PacketView) → IsFreed end (Loader.got_decision media (record { end = end; live = None; ended = ended }) from to p)
    by None = free
    by (Some p) = freed_if end (eqb to 59) _ _ free (transfer_free sides.Loader end from to p free)
without_session media end ended Ticks free = free
without_session media end ended (Learns size) free = free

changed_with : (now end : EndView) (s : LoaderSession) (ended : List EndedSession) (change : LoaderChange) → Stopped end change now.live → LoaderIsFree (loader_changed now (record { end = end; live = Some s; ended = ended }) change)
changed_with now end s ended (Continues more) h none = absurd cc
changed_with now end s ended Advances h none = absurd cc
changed_with now end s ended (Ends outcome more) h none = h
changed_with now end s ended (Begins t) h none = absurd cc
changed_with now end s ended (Begins_over kind outcome) h none = h

changed_without : (now end : EndView) (ended : List EndedSession) (change : LoaderChange) → Freed end change now.live → LoaderIsFree (loader_changed now (record { end = end; live = None; ended = ended }) change)
changed_without now end ended (Continues more) h none = h
changed_without now end ended Advances h none = h
changed_without now end ended (Ends outcome more) h none = h
changed_without now end ended (Begins t) h none = absurd cc
changed_without now end ended (Begins_over kind outcome) h none = h

pub loader_stays_free : (media : Media) (v : LoaderView) (e : Event) → LoaderIsFree v → LoaderIsFree (loader_after media v e)
loader_stays_free media v e free = by v.live free
  where
    by : (live : Option LoaderSession) → (live ≡ None → v.end.live ≡ None) → LoaderIsFree (loader_after media (record { end = v.end; live = live; ended = v.ended }) e)
    by None f =
        let d = loader_decision media (record { end = v.end; live = None; ended = v.ended }) e in
        changed_without (views_after sides.Loader v.end d.moves) v.end v.ended d.change (without_session media v.end v.ended e (f refl))
    by (Some s) f =
        let d = loader_decision media (record { end = v.end; live = Some s; ended = v.ended }) e in
        changed_with (views_after sides.Loader v.end d.moves) v.end s v.ended d.change (with_session media v.end s v.ended e)

-- ---- the target

module _ (v : EndView) where
  abbrev TargetStopped : TargetChange → Option TransferView → Type 0
  TargetStopped (Target.Ends reason) live = live ≡ None
  TargetStopped (Target.Turns_without_port move more) live = live ≡ None
  TargetStopped change live = Unit {0}

  abbrev TargetIsStopped : TargetDecision → Type 0
  TargetIsStopped d = TargetStopped d.change (views_after sides.Target v d.moves).live

  target_stopped_if : (b : Bool) (x y : TargetDecision) → TargetIsStopped x → TargetIsStopped y → TargetIsStopped (cond b x y)
  target_stopped_if true x y p q = p
  target_stopped_if false x y p q = q

  target_next_stops : (heard : List Move) (more : List ℕ) (move : RowMove) (row : RowView) (role : Option Role) → TargetIsStopped (Target.next_decision v heard more move row role)
  target_next_stops heard more move row (Some role) = target_stopped_if (has_port v) _ _ tt (stops_last sides.Target v heard)
  target_next_stops heard more move row None = target_stopped_if (Target.is_over row) _ _ (stops_last sides.Target v heard) tt

  without_port_stops : (s : TargetSession) → TargetIsStopped (Target.without_port (Some s))
  without_port_stops s = refl

module _ (accepts : Accepts) (v : TargetView) (s : TargetSession) (live : v.live ≡ Some s) where
  target_turn_stops : (heard : List Move) (more : List ℕ) (error : Option ℕ) → TargetIsStopped v.end (Target.turn_decision accepts v s heard more error)
  target_turn_stops heard more error = target_next_stops v.end heard more _ _ _

  target_answer_stops : (heard : List Move) (answer : Answer) → TargetIsStopped v.end (Target.answer_decision accepts v s heard answer)
  target_answer_stops heard (TakesBlock payload) = tt
  target_answer_stops heard (TakesLast payload) = target_turn_stops heard payload None
  target_answer_stops heard Completes = target_turn_stops heard [] None
  target_answer_stops heard (Fails code) = target_turn_stops heard [] (Some code)
  target_answer_stops heard Dropped = tt
  target_answer_stops heard Again = tt
  target_answer_stops heard (Grants o) = tt
  target_answer_stops heard Proceeds = tt

  port_stops : TargetIsStopped v.end (Target.without_port v.live)
  port_stops = subst (λ (x : Option TargetSession). TargetIsStopped v.end (Target.without_port x)) (sym live) (without_port_stops v.end s)

  own_stops : (from : ℕ) (kind : FileKind) (name : List ℕ) (o : Options) → TargetIsStopped v.end (Target.own_decision v from kind name o)
  own_stops from kind name o = target_stopped_if v.end (is_fresh v.end from) _ _ (target_stopped_if v.end (has_port v.end) _ _ tt port_stops) tt

  target_read_stops : (from : ℕ) (name : List ℕ) (o : Options) → TargetIsStopped v.end (Target.read_decision v from name o)
  target_read_stops from name o =
      target_stopped_if v.end (bytes_eq name (Target.own_name v Lci)) _ _ (own_stops from Lci name o)
      (target_stopped_if v.end (bytes_eq name (Target.own_name v Lui)) _ _ (own_stops from Lui name o) (target_stopped_if v.end (is_busy v.end) _ _ tt tt))

  write_in_stops : (from : ℕ) (name : List ℕ) (o : Options) (row : RowView) → TargetIsStopped v.end (Target.write_in v from name o row)
  write_in_stops from name o Awaits_lur = target_stopped_if v.end (bytes_eq name (Target.own_name v Lur)) _ _ (target_stopped_if v.end (is_fresh v.end from) _ _ (target_stopped_if v.end (has_port v.end) _ _ tt port_stops) tt) tt
  write_in_stops from name o Writes_lcs = tt
  write_in_stops from name o Writes_lcl = tt
  write_in_stops from name o Gives_lci = tt
  write_in_stops from name o Gives_lui = tt
  write_in_stops from name o Gives_denial = tt
  write_in_stops from name o Writes_ready = tt
  write_in_stops from name o (Reads_file u) = tt
  write_in_stops from name o (Writes_progress u) = tt
  write_in_stops from name o (Writes_stop e) = tt
  write_in_stops from name o (Writes_completion e loads) = tt
  write_in_stops from name o Over = tt

  target_write_stops : (from : ℕ) (name : List ℕ) (o : Options) (session : Option TargetSession) → TargetIsStopped v.end (Target.write_decision v from name o session)
  target_write_stops from name o None = tt
  target_write_stops from name o (Some t) = write_in_stops from name o t.row

  target_request_stops : (from : ℕ) (p : PacketView) → TargetIsStopped v.end (Target.request_decision v from p)
  target_request_stops from (Rrq name o) = target_read_stops from name o
  target_request_stops from (Wrq name o) = target_stopped_if v.end (is_busy v.end) _ _ tt (target_write_stops from name o v.live)
  target_request_stops from (Data k b) = tt
  target_request_stops from (Ack k) = tt
  target_request_stops from (Error code m) = tt
  target_request_stops from (Oack o) = tt

  transfer_stops : (session : Option TargetSession) (from to : ℕ) (p : PacketView) → session ≡ Some s → TargetIsStopped v.end (Target.transfer_decision accepts v session from to p)
  transfer_stops None from to p e = absurd cc
  transfer_stops (Some t) from to p e = subst (λ (x : TargetSession). TargetIsStopped v.end (Target.transfer_decision accepts v (Some x) from to p)) same (target_answer_stops (transfer_moves v.end from to p) (heard_answer v.end from to p))
    where
      same : s ≡ t
      same = cc

  target_with_session : (e : Event) → TargetIsStopped v.end (target_decision accepts v e)
  target_with_session (Starts_info hw pos) = tt
  target_with_session (Starts_upload hw pos parts) = tt
  target_with_session (Gets from to bytes) = by (packet_in bytes)
    where
      by : (p : Option PacketView) → TargetIsStopped v.end (Target.got_decision accepts v from to p)
      by None = tt
      by (Some p) = target_stopped_if v.end (eqb to 59) _ _ (target_request_stops from p) (transfer_stops v.live from to p live)
  target_with_session Ticks = subst (λ (x : Option TargetSession). TargetIsStopped v.end (Target.tick_decision v.end x)) (sym live) (target_stopped_if v.end (may_repeat v.end) _ _ tt refl)
  target_with_session (Learns size) = tt

-- without a session: none begins, or one does
module _ (accepts : Accepts) (v : TargetView) (none : v.live ≡ None) (free : v.end.live ≡ None) where
  abbrev TargetFreed : TargetChange → Option TransferView → Type 0
  TargetFreed (Target.Begins kind) live = Unit {0}
  TargetFreed change live = live ≡ None

  abbrev TargetIsFreed : TargetDecision → Type 0
  TargetIsFreed d = TargetFreed d.change (views_after sides.Target v.end d.moves).live

  target_freed_if : (b : Bool) (x y : TargetDecision) → TargetIsFreed x → TargetIsFreed y → TargetIsFreed (cond b x y)
  target_freed_if true x y p q = p
  target_freed_if false x y p q = q

  port_frees : TargetIsFreed (Target.without_port v.live)
  port_frees = subst (λ (x : Option TargetSession). TargetIsFreed (Target.without_port x)) (sym none) free

  own_frees : (from : ℕ) (kind : FileKind) (name : List ℕ) (o : Options) → TargetIsFreed (Target.own_decision v from kind name o)
  own_frees from kind name o = target_freed_if (is_fresh v.end from) _ _ (target_freed_if (has_port v.end) _ _ tt port_frees) free

  target_read_frees : (from : ℕ) (name : List ℕ) (o : Options) → TargetIsFreed (Target.read_decision v from name o)
  target_read_frees from name o =
      target_freed_if (bytes_eq name (Target.own_name v Lci)) _ _ (own_frees from Lci name o)
      (target_freed_if (bytes_eq name (Target.own_name v Lui)) _ _ (own_frees from Lui name o) (target_freed_if (is_busy v.end) _ _ free free))

  target_write_frees : (from : ℕ) (name : List ℕ) (o : Options) → TargetIsFreed (Target.write_decision v from name o v.live)
  target_write_frees from name o = subst (λ (x : Option TargetSession). TargetIsFreed (Target.write_decision v from name o x)) (sym none) free

  target_request_frees : (from : ℕ) (p : PacketView) → TargetIsFreed (Target.request_decision v from p)
  target_request_frees from (Rrq name o) = target_read_frees from name o
  target_request_frees from (Wrq name o) = target_freed_if (is_busy v.end) _ _ free (target_write_frees from name o)
  target_request_frees from (Data k b) = free
  target_request_frees from (Ack k) = free
  target_request_frees from (Error code m) = free
  target_request_frees from (Oack o) = free

  target_without_session : (e : Event) → TargetIsFreed (target_decision accepts v e)
  target_without_session (Starts_info hw pos) = free
  target_without_session (Starts_upload hw pos parts) = free
  target_without_session (Gets from to bytes) = by (packet_in bytes)
    where
      by : (p : Option PacketView) → TargetIsFreed (Target.got_decision accepts v from to p)
      by None = free
      by (Some p) =
          target_freed_if (eqb to 59) _ _ (target_request_frees from p)
          (subst (λ (x : Option TargetSession). TargetIsFreed (Target.transfer_decision accepts v x from to p)) (sym none) (transfer_free sides.Target v.end from to p free))
  target_without_session Ticks = subst (λ (x : Option TargetSession). TargetIsFreed (Target.tick_decision v.end x)) (sym none) free
  target_without_session (Learns size) = free

abbrev pub TargetIsFree : TargetView → Type 0
TargetIsFree v = v.live ≡ None → v.end.live ≡ None

target_changed_with : (now : EndView) (v : TargetView) (s : TargetSession) (change : TargetChange) → v.live ≡ Some s → TargetStopped v.end change now.live → TargetIsFree (target_changed now v change)
target_changed_with now v s (Target.Continues more) live h none = absurd (let e : Target.continued (Some s) more ≡ None = subst (λ (x : Option TargetSession). Target.continued x more ≡ None) live none in cc)
target_changed_with now v s (Target.Begins kind) live h none = absurd cc
target_changed_with now v s (Target.Turns move more) live h none = absurd (let e = subst (λ (x : Option TargetSession). (Target.session_turned Target.view_turned now v x move more).live ≡ None) live none in cc)
target_changed_with now v s (Target.Turns_without_port move more) live h none = by v.live
  where
    by : (x : Option TargetSession) → (Target.session_turned Target.view_without_port now v x move more).end.live ≡ None
    by None = h
    by (Some t) = h
target_changed_with now v s (Target.Ends reason) live h none = h

target_changed_without : (accepts : Accepts) (now : EndView) (v : TargetView) (change : TargetChange) (none : v.live ≡ None) (free : v.end.live ≡ None) → TargetFreed accepts v none free change now.live → TargetIsFree (target_changed now v change)
target_changed_without accepts now v (Target.Continues more) none free h is = h
target_changed_without accepts now v (Target.Begins kind) none free h is = absurd cc
target_changed_without accepts now v (Target.Turns move more) none free h is = subst (λ (x : Option TargetSession). (Target.session_turned Target.view_turned now v x move more).end.live ≡ None) (sym none) h
target_changed_without accepts now v (Target.Turns_without_port move more) none free h is = subst (λ (x : Option TargetSession). (Target.session_turned Target.view_without_port now v x move more).end.live ≡ None) (sym none) h
target_changed_without accepts now v (Target.Ends reason) none free h is = h

pub target_stays_free : (accepts : Accepts) (v : TargetView) (e : Event) → TargetIsFree v → TargetIsFree (target_after accepts v e)
target_stays_free accepts v e free = by v.live refl
  where
    by : (x : Option TargetSession) → v.live ≡ x → TargetIsFree (target_after accepts v e)
    by None is =
        target_changed_without accepts (views_after sides.Target v.end (target_decision accepts v e).moves) v (target_decision accepts v e).change is (free is) (target_without_session accepts v is (free is) e)
    by (Some s) is =
        target_changed_with (views_after sides.Target v.end (target_decision accepts v e).moves) v s (target_decision accepts v e).change is (target_with_session accepts v s is e)
