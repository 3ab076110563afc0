-- Proofs that what is in the transfers of a log came, and of how many datagrams are posted.
use Rattle.std.proofs.Common.{◌≡◌, ◌≤◌, ℕ, Bool, true, false, cond, eqb, List, [], ◌∷◌, ◌++◌, length, Option, Some, None, Result, Ok, Err, refl, sym, subst}
use Rattle.std.specs.Prelude.{bytes_eq, nat_lt}
use Rattle.load_protocol_files.specs.declared.lur.Wanted.{Wanted}
use Rattle.disk_layout.specs.Holds.{StandingView}
use Rattle.tftp_packet.specs.declared.options.Options.{Options}
use Rattle.tftp_packet.specs.Packets.{Ack, Data, Error, Oack, PacketView, Rrq, Wrq}
use Rattle.tftp_link.specs.Answers.{Again, Answer, Completes, Dropped, Fails, Grants, Proceeds, TakesBlock, TakesLast}
use Rattle.exchange_trace.specs.declared.trace.Side.TheVariants as sides
use Rattle.exchange_trace.specs.Logs.{Event, Gets, Learns, Starts_info, Starts_upload, Ticks}
use Rattle.transfer_end.specs.Came.{MovesHeard, PacketsCame}
use Rattle.transfer_end.proofs.CameLemmas.{moves_came, taken_blocks_came, then_heard, transfer_heard}
use Rattle.transfer_end.specs.Moves.{Asks, Stops, readings_after}
use Rattle.transfer_end.specs.Packets.{has_port, heard_answer, is_busy, is_fresh, may_repeat, packet_in, transfer_moves}
use Rattle.transfer_end.proofs.PostedLemmas.{moves_post_two}
use Rattle.transfer_end.specs.Readings.{Reading}
use Rattle.transfer_end.specs.Transfers.{Role, ServesRead, ServesWrite}
use Rattle.transfer_end.specs.Views.{EndView}
use Rattle.accept_rules.specs.Permissions.{Accepts}
use Rattle.session_rules.specs.declared.outcome.FileKind.{FileKind}
use Rattle.session_rules.specs.declared.outcome.FileKind.TheVariants as kinds
use Rattle.session_rules.specs.declared.outcome.Outcome.TheVariants.{PeerError}
use Rattle.session_rules.specs.declared.outcome.SessionKind.TheVariants.{Info, Upload}
use Rattle.session_rules.specs.Buffers.{buffered_more}
use Rattle.session_rules.specs.FileNames.{file_name}
use Rattle.session_rules.specs.Laws.{LoaderTakesWhatCame, TargetTakesWhatCame}
use Rattle.session_rules.specs.Loader as loader
use Rattle.session_rules.proofs.LoaderLemmas.{end_stays as loader_end_stays}
use Rattle.session_rules.specs.LoaderLog.{loader_reading, loader_view}
use Rattle.session_rules.specs.LoaderRows.{Comes_to, Goes_on, RowTurn, file_turn, first_row, kind_taken, row_after, serves_files}
use Rattle.session_rules.specs.MediaFiles.{Media, wanted_of}
use Rattle.session_rules.specs.Target as target
use Rattle.session_rules.proofs.TargetLemmas.{end_stays as target_end_stays}
use Rattle.session_rules.specs.TargetLog.{TargetReading, target_extended, target_reading, target_view}
use Rattle.session_rules.specs.TargetRows.{Arriving, Awaits_lur, RowMove, RowView, row_move, view_moved, with_bytes}

-- ---- the loader

module _ (v : EndView) where
  abbrev LoaderHeard : Event → loader.LoaderDecision → Type 0
  LoaderHeard e d = MovesHeard e v.live d.moves

  loader_if : (e : Event) (b : Bool) (x y : loader.LoaderDecision) → LoaderHeard e x → LoaderHeard e y → LoaderHeard e (cond b x y)
  loader_if e true x y p q = p
  loader_if e false x y p q = q

  begin_heard : (e : Event) (s : loader.Start) (role : Option Role) → LoaderHeard e (loader.begin_with v s role)
  begin_heard e s None = tt
  begin_heard e s (Some role) = loader_if e (has_port v) _ _ (tt, tt) (tt, tt)

  start_heard : (e : Event) (s : loader.Start) → LoaderHeard e (loader.start_decision v s)
  start_heard e s = begin_heard e s (loader.row_request v.asks_size s (first_row s.kind))

  listed_heard : (e : Event) (hw pos : List ℕ) (found : Result (List Wanted) (List ℕ)) → LoaderHeard e (loader.listed_upload v hw pos found)
  listed_heard e hw pos (Ok loads) = start_heard e (record { kind = Upload; hw = hw; pos = pos; loads = loads })
  listed_heard e hw pos (Err part) = (tt, tt)

  module _ (from to : ℕ) (bytes : List ℕ) where
    taken_heard : (role : Role) → LoaderHeard (Gets from to bytes) (loader.take_request v from role)
    taken_heard role = loader_if (Gets from to bytes) (is_fresh v from) _ _ (loader_if (Gets from to bytes) (has_port v) _ _ (tt, tt) (tt, tt)) tt

    read_heard : (name : List ℕ) (o : Options) (found : Option (List ℕ)) → LoaderHeard (Gets from to bytes) (loader.read_decision v from name o found)
    read_heard name o None = (tt, tt)
    read_heard name o (Some file) = taken_heard (ServesRead name o file)

    write_heard : (s : loader.Start) (name : List ℕ) (o : Options) (kind : Option FileKind) → LoaderHeard (Gets from to bytes) (loader.write_decision v s from name o kind)
    write_heard s name o None = tt
    write_heard s name o (Some kind) = loader_if (Gets from to bytes) (bytes_eq name (file_name s.hw s.pos kind)) _ _ (taken_heard (ServesWrite name o)) tt

    request_heard : (media : Media) (s : loader.LoaderSession) (p : PacketView) → LoaderHeard (Gets from to bytes) (loader.request_decision media v s from p)
    request_heard media s (Rrq name o) = loader_if (Gets from to bytes) (serves_files s.row) _ _ (read_heard name o (media.file name)) tt
    request_heard media s (Wrq name o) = write_heard s.start name o (kind_taken s.row)
    request_heard media s (Data k b) = tt
    request_heard media s (Ack k) = tt
    request_heard media s (Error code m) = tt
    request_heard media s (Oack o) = tt

    -- what the end heard, and one move more
    heard_then_asks : (p : PacketView) (role : Role) → packet_in bytes ≡ Some p → MovesHeard (Gets from to bytes) v.live (transfer_moves v from to p ++ Asks role ∷ [])
    heard_then_asks p role is = then_heard v from to bytes p (Asks role) is tt

    heard_then_stops : (p : PacketView) → packet_in bytes ≡ Some p → MovesHeard (Gets from to bytes) v.live (transfer_moves v from to p ++ Stops ∷ [])
    heard_then_stops p is = then_heard v from to bytes p Stops is tt

    next_heard : (p : PacketView) (more : List ℕ) (role : Option Role) → packet_in bytes ≡ Some p → LoaderHeard (Gets from to bytes) (loader.next_decision v (transfer_moves v from to p) more role)
    next_heard p more None is = transfer_heard v from to bytes p is
    next_heard p more (Some role) is = loader_if (Gets from to bytes) (has_port v) _ _ (heard_then_asks p role is) (heard_then_stops p is)

    turn_heard : (s : loader.LoaderSession) (p : PacketView) (more : List ℕ) (turn : RowTurn) → packet_in bytes ≡ Some p → LoaderHeard (Gets from to bytes) (loader.turn_decision v s (transfer_moves v from to p) more turn)
    turn_heard s p more Goes_on is = next_heard p more (loader.row_request v.asks_size s.start (row_after s.row)) is
    turn_heard s p more (Comes_to outcome) is = heard_then_stops p is

    answer_heard : (s : loader.LoaderSession) (p : PacketView) (answer : Answer) → packet_in bytes ≡ Some p → LoaderHeard (Gets from to bytes) (loader.answer_decision v s (transfer_moves v from to p) answer)
    answer_heard s p (TakesBlock payload) is = transfer_heard v from to bytes p is
    answer_heard s p (TakesLast payload) is = turn_heard s p payload (file_turn s.row (buffered_more s.arriving payload)) is
    answer_heard s p Completes is = turn_heard s p [] Goes_on is
    answer_heard s p (Fails code) is = turn_heard s p [] (Comes_to (PeerError code)) is
    answer_heard s p Dropped is = transfer_heard v from to bytes p is
    answer_heard s p Again is = transfer_heard v from to bytes p is
    answer_heard s p (Grants o) is = transfer_heard v from to bytes p is
    answer_heard s p Proceeds is = transfer_heard v from to bytes p is

    session_heard : (media : Media) (live : Option loader.LoaderSession) (p : PacketView) → packet_in bytes ≡ Some p → LoaderHeard (Gets from to bytes) (loader.session_decision media v live from to p)
    session_heard media None p is = loader_if (Gets from to bytes) (eqb to 59) _ _ tt (transfer_heard v from to bytes p is)
    session_heard media (Some s) p is =
        loader_if (Gets from to bytes) (eqb to 59) _ _ (loader_if (Gets from to bytes) (is_busy v) _ _ tt (request_heard media s p)) (answer_heard s p (heard_answer v from to p) is)

  tick_heard : (live : Option loader.LoaderSession) → LoaderHeard Ticks (loader.tick_decision v live)
  tick_heard None = tt
  tick_heard (Some s) = loader_if Ticks (may_repeat v) _ _ (tt, tt) (tt, tt)

got_heard : (media : Media) (v : loader.LoaderView) (from to : ℕ) (bytes : List ℕ) (p : Option PacketView) → packet_in bytes ≡ p → LoaderHeard v.end (Gets from to bytes) (loader.got_decision media v from to p)
got_heard media v from to bytes None is = tt
got_heard media v from to bytes (Some p) is = session_heard v.end from to bytes media v.live p is

pub loader_moves_heard : (media : Media) (v : loader.LoaderView) (e : Event) → MovesHeard e v.end.live (loader.loader_decision media v e).moves
loader_moves_heard media v (Starts_info hw pos) = start_heard v.end (Starts_info hw pos) (record { kind = Info; hw = hw; pos = pos; loads = [] })
loader_moves_heard media v (Starts_upload hw pos parts) =
    loader_if v.end (Starts_upload hw pos parts) (nat_lt 32 (length parts)) _ _ (tt, tt) (listed_heard v.end (Starts_upload hw pos parts) hw pos (wanted_of media.loads parts))
loader_moves_heard media v (Gets from to bytes) = got_heard media v from to bytes (packet_in bytes) refl
loader_moves_heard media v Ticks = tick_heard v.end v.live
loader_moves_heard media v (Learns size) = (tt, tt)

-- ---- the target

module _ (v : target.TargetView) where
  abbrev TargetHeard : Event → target.TargetDecision → Type 0
  TargetHeard e d = MovesHeard e v.end.live d.moves

  target_if : (e : Event) (b : Bool) (x y : target.TargetDecision) → TargetHeard e x → TargetHeard e y → TargetHeard e (cond b x y)
  target_if e true x y p q = p
  target_if e false x y p q = q

  without_port_heard : (e : Event) (live : Option target.TargetSession) → TargetHeard e (target.without_port live)
  without_port_heard e None = tt
  without_port_heard e (Some s) = (tt, tt)

  target_tick_heard : (live : Option target.TargetSession) → TargetHeard Ticks (target.tick_decision v.end live)
  target_tick_heard None = tt
  target_tick_heard (Some s) = target_if Ticks (may_repeat v.end) _ _ (tt, tt) (tt, tt)

  module _ (from to : ℕ) (bytes : List ℕ) where
    own_heard : (kind : FileKind) (name : List ℕ) (o : Options) → TargetHeard (Gets from to bytes) (target.own_decision v from kind name o)
    own_heard kind name o =
        target_if (Gets from to bytes) (is_fresh v.end from) _ _ (target_if (Gets from to bytes) (has_port v.end) _ _ (tt, tt) (without_port_heard (Gets from to bytes) v.live)) tt

    target_read_heard : (name : List ℕ) (o : Options) → TargetHeard (Gets from to bytes) (target.read_decision v from name o)
    target_read_heard name o =
        target_if (Gets from to bytes) (bytes_eq name (target.own_name v kinds.Lci)) _ _ (own_heard kinds.Lci name o)
        (target_if (Gets from to bytes) (bytes_eq name (target.own_name v kinds.Lui)) _ _ (own_heard kinds.Lui name o)
        (target_if (Gets from to bytes) (is_busy v.end) _ _ tt (tt, tt)))

    write_in_heard : (name : List ℕ) (o : Options) (row : RowView) → TargetHeard (Gets from to bytes) (target.write_in v from name o row)
    write_in_heard name o Awaits_lur =
        target_if (Gets from to bytes) (bytes_eq name (target.own_name v kinds.Lur)) _ _
        (target_if (Gets from to bytes) (is_fresh v.end from) _ _
        (target_if (Gets from to bytes) (has_port v.end) _ _ (tt, tt) (without_port_heard (Gets from to bytes) v.live)) tt)
        tt
    write_in_heard name o row = tt

    target_write_heard : (name : List ℕ) (o : Options) (live : Option target.TargetSession) → TargetHeard (Gets from to bytes) (target.write_decision v from name o live)
    target_write_heard name o None = tt
    target_write_heard name o (Some s) = write_in_heard name o s.row

    target_request_heard : (p : PacketView) → TargetHeard (Gets from to bytes) (target.request_decision v from p)
    target_request_heard (Rrq name o) = target_read_heard name o
    target_request_heard (Wrq name o) = target_if (Gets from to bytes) (is_busy v.end) _ _ tt (target_write_heard name o v.live)
    target_request_heard (Data k b) = tt
    target_request_heard (Ack k) = tt
    target_request_heard (Error code m) = tt
    target_request_heard (Oack o) = tt

    target_stops : (p : PacketView) → packet_in bytes ≡ Some p → MovesHeard (Gets from to bytes) v.end.live (transfer_moves v.end from to p ++ Stops ∷ [])
    target_stops p is = then_heard v.end from to bytes p Stops is tt

    target_next_heard : (p : PacketView) (more : List ℕ) (move : RowMove) (row : RowView) (role : Option Role) → packet_in bytes ≡ Some p
        → TargetHeard (Gets from to bytes) (target.next_decision v.end (transfer_moves v.end from to p) more move row role)
    target_next_heard p more move row (Some role) is =
        target_if (Gets from to bytes) (has_port v.end) _ _ (then_heard v.end from to bytes p (Asks role) is tt) (target_stops p is)
    target_next_heard p more move row None is = target_if (Gets from to bytes) (target.is_over row) _ _ (target_stops p is) (transfer_heard v.end from to bytes p is)

    target_turn_heard : (accepts : Accepts) (s : target.TargetSession) (p : PacketView) (more : List ℕ) (error : Option ℕ) → packet_in bytes ≡ Some p
        → TargetHeard (Gets from to bytes) (target.turn_decision accepts v s (transfer_moves v.end from to p) more error)
    target_turn_heard accepts s p more error is =
        let arriving : Arriving = with_bytes s.arriving more in
        let move : RowMove = row_move accepts v.active s.row (record { error = error; arriving = arriving }) in
        target_next_heard p more move (view_moved s.row arriving move) (target.row_request v (view_moved s.row arriving move)) is

    target_answer_heard : (accepts : Accepts) (s : target.TargetSession) (p : PacketView) (answer : Answer) → packet_in bytes ≡ Some p
        → TargetHeard (Gets from to bytes) (target.answer_decision accepts v s (transfer_moves v.end from to p) answer)
    target_answer_heard accepts s p (TakesBlock payload) is = transfer_heard v.end from to bytes p is
    target_answer_heard accepts s p (TakesLast payload) is = target_turn_heard accepts s p payload None is
    target_answer_heard accepts s p Completes is = target_turn_heard accepts s p [] None is
    target_answer_heard accepts s p (Fails code) is = target_turn_heard accepts s p [] (Some code) is
    target_answer_heard accepts s p Dropped is = transfer_heard v.end from to bytes p is
    target_answer_heard accepts s p Again is = transfer_heard v.end from to bytes p is
    target_answer_heard accepts s p (Grants o) is = transfer_heard v.end from to bytes p is
    target_answer_heard accepts s p Proceeds is = transfer_heard v.end from to bytes p is

    target_transfer_heard : (accepts : Accepts) (live : Option target.TargetSession) (p : PacketView) → packet_in bytes ≡ Some p → TargetHeard (Gets from to bytes) (target.transfer_decision accepts v live from to p)
    target_transfer_heard accepts None p is = transfer_heard v.end from to bytes p is
    target_transfer_heard accepts (Some s) p is = target_answer_heard accepts s p (heard_answer v.end from to p) is

    target_got_heard : (accepts : Accepts) (p : Option PacketView) → packet_in bytes ≡ p → TargetHeard (Gets from to bytes) (target.got_decision accepts v from to p)
    target_got_heard accepts None is = tt
    target_got_heard accepts (Some p) is = target_if (Gets from to bytes) (eqb to 59) _ _ (target_request_heard p) (target_transfer_heard accepts v.live p is)

pub target_moves_heard : (accepts : Accepts) (v : target.TargetView) (e : Event) → MovesHeard e v.end.live (target.target_decision accepts v e).moves
target_moves_heard accepts v (Gets from to bytes) = target_got_heard v from to bytes accepts (packet_in bytes) refl
target_moves_heard accepts v Ticks = target_tick_heard v v.live
target_moves_heard accepts v (Learns size) = (tt, tt)
target_moves_heard accepts v (Starts_info hw pos) = tt
target_moves_heard accepts v (Starts_upload hw pos parts) = tt

-- ---- logs

loader_came : (media : Media) (log : List Event) → PacketsCame log (loader_reading media log).end
loader_came media [] = tt
loader_came media (e ∷ log) =
    let r = loader_reading media log in
    let d = loader.loader_decision media (loader_view r) e in
    subst (λ (x : Reading). PacketsCame (e ∷ log) x) (sym (loader_end_stays (readings_after sides.Loader r.end d.moves) r d.change))
    (moves_came sides.Loader e log r.end d.moves (loader_moves_heard media (loader_view r) e) (loader_came media log))

pub target_extended_came : (accepts : Accepts) (log : List Event) (r : TargetReading) (e : Event) → PacketsCame log r.end → PacketsCame (e ∷ log) (target_extended accepts r e).end
target_extended_came accepts log r e h =
    let d = target.target_decision accepts (target_view r) e in
    subst (λ (x : Reading). PacketsCame (e ∷ log) x) (sym (target_end_stays accepts (readings_after sides.Target r.end d.moves) r d.change))
    (moves_came sides.Target e log r.end d.moves (target_moves_heard accepts (target_view r) e) h)

target_came : (accepts : Accepts) (first_port : ℕ) (active : StandingView) (log : List Event) → PacketsCame log (target_reading accepts first_port active log).end
target_came accepts first_port active [] = tt
target_came accepts first_port active (e ∷ log) = target_extended_came accepts log (target_reading accepts first_port active log) e (target_came accepts first_port active log)

pub loader_takes_what_came : LoaderTakesWhatCame
loader_takes_what_came media log = (loader_came media log, taken_blocks_came log (loader_reading media log).end (loader_came media log))

pub target_takes_what_came : TargetTakesWhatCame
target_takes_what_came accepts first_port active log =
    let came = target_came accepts first_port active log in
    (came, taken_blocks_came log (target_reading accepts first_port active log).end came)

-- ---- posts

pub loader_posts_two : (media : Media) (v : loader.LoaderView) (e : Event) → length (loader.loader_posts media v e) ≤ 2
loader_posts_two media v e = moves_post_two sides.Loader e v.end (loader.loader_decision media v e).moves (loader_moves_heard media v e)

pub target_posts_two : (accepts : Accepts) (v : target.TargetView) (e : Event) → length (target.target_posts accepts v e) ≤ 2
target_posts_two accepts v e = moves_post_two sides.Target e v.end (target.target_decision accepts v e).moves (target_moves_heard accepts v e)
