-- Proofs that what both sides post goes where it may, and that the own ports of a log count up.
use Rattle.std.proofs.Common.{◌≡◌, ℕ, Bool, true, false, cond, eqb, List, [], ◌∷◌, ◌++◌, length, Option, Some, None, Result, Ok, Err, refl, sym, subst}
use Rattle.std.specs.Prelude.{bytes_eq, nat_lt}
use Rattle.std.proofs.lemmas.Bool.{eqb-true}
use Rattle.load_protocol_files.specs.declared.lur.Wanted.{Wanted}
use Rattle.disk_layout.specs.Holds.{StandingView}
use Rattle.tftp_packet.specs.declared.options.Options.{Options}
use Rattle.tftp_packet.specs.Packets.{Ack, Data, Error, Oack, PacketView, Rrq, Wrq}
use Rattle.tftp_link.specs.Answers.{Again, Answer, Completes, Dropped, Fails, Grants, Proceeds, TakesBlock, TakesLast}
use Rattle.exchange_trace.specs.declared.trace.Side.TheVariants as sides
use Rattle.exchange_trace.specs.Logs.{Event, Gets, Learns, Starts_info, Starts_upload, Ticks}
use Rattle.transfer_end.specs.Laws.{PortsCountUp}
use Rattle.transfer_end.specs.Moves.{Asks, Refuses, Repeats, Serves, Stops, all_posts, readings_after, views_after}
use Rattle.transfer_end.specs.Packets.{has_port, heard_answer, is_busy, is_fresh, may_repeat, packet_in, transfer_moves}
use Rattle.transfer_end.specs.Placed.{ArePlaced}
use Rattle.transfer_end.proofs.PlacedLemmas.{asks_placed, heard_moves_port, one_placed, refuses_placed, repeats_placed, serves_placed, then_placed, transfer_placed}
use Rattle.transfer_end.specs.Readings.{Reading}
use Rattle.transfer_end.proofs.RfcLemmas.{moves_count_up}
use Rattle.transfer_end.specs.Transfers.{Role, ServesRead, ServesWrite}
use Rattle.transfer_end.specs.Views.{EndView}
use Rattle.accept_rules.specs.Permissions.{Accepts}
use Rattle.session_rules.specs.declared.outcome.FileKind.{FileKind}
use Rattle.session_rules.specs.declared.outcome.FileKind.TheVariants as kinds
use Rattle.session_rules.specs.declared.outcome.Outcome.TheVariants.{PeerError}
use Rattle.session_rules.specs.declared.outcome.SessionKind.TheVariants.{Info, Upload}
use Rattle.session_rules.specs.Buffers.{buffered_more}
use Rattle.session_rules.specs.FileNames.{file_name}
use Rattle.session_rules.specs.Loader as loader
use Rattle.session_rules.proofs.LoaderLemmas.{end_stays as loader_end_stays}
use Rattle.session_rules.specs.LoaderLog.{loader_reading, loader_view}
use Rattle.session_rules.specs.LoaderRows.{Comes_to, Goes_on, RowTurn, file_turn, first_row, kind_taken, row_after, serves_files}
use Rattle.session_rules.specs.MediaFiles.{Media, wanted_of}
use Rattle.session_rules.specs.Target as target
use Rattle.session_rules.proofs.TargetLemmas.{end_stays as target_end_stays}
use Rattle.session_rules.specs.TargetLog.{TargetReading, target_extended, target_reading, target_view}
use Rattle.session_rules.specs.TargetRows.{Arriving, Awaits_lur, RowMove, RowView, row_move, view_moved, with_bytes}

-- ---- the loader

module _ (v : EndView) where
  abbrev LoaderPlaced : Event → loader.LoaderDecision → Type 0
  LoaderPlaced e d = ArePlaced sides.Loader v e (all_posts sides.Loader v d.moves)

  loader_if : (e : Event) (b : Bool) (x y : loader.LoaderDecision) → LoaderPlaced e x → LoaderPlaced e y → LoaderPlaced e (cond b x y)
  loader_if e true x y p q = p
  loader_if e false x y p q = q

  begin_placed : (e : Event) (s : loader.Start) (role : Option Role) → LoaderPlaced e (loader.begin_with v s role)
  begin_placed e s None = tt
  begin_placed e s (Some role) =
      loader_if e (has_port v) _ _ (then_placed sides.Loader v e (Stops ∷ []) (Asks role) tt (asks_placed sides.Loader v (views_after sides.Loader v (Stops ∷ [])) e role refl)) tt

  start_placed : (e : Event) (s : loader.Start) → LoaderPlaced e (loader.start_decision v s)
  start_placed e s = begin_placed e s (loader.row_request v.asks_size s (first_row s.kind))

  listed_placed : (e : Event) (hw pos : List ℕ) (found : Result (List Wanted) (List ℕ)) → LoaderPlaced e (loader.listed_upload v hw pos found)
  listed_placed e hw pos (Ok loads) = start_placed e (record { kind = Upload; hw = hw; pos = pos; loads = loads })
  listed_placed e hw pos (Err part) = tt

  module _ (from to : ℕ) (bytes : List ℕ) where
    loader_when : (b : Bool) (x y : loader.LoaderDecision) → (b ≡ true → LoaderPlaced (Gets from to bytes) x) → LoaderPlaced (Gets from to bytes) y → LoaderPlaced (Gets from to bytes) (cond b x y)
    loader_when true x y p q = p refl
    loader_when false x y p q = q

    taken_placed : (role : Role) → to ≡ 59 → LoaderPlaced (Gets from to bytes) (loader.take_request v from role)
    taken_placed role at =
        loader_when (is_fresh v from) _ _
        (λ fresh. loader_if (Gets from to bytes) (has_port v) _ _ (one_placed sides.Loader v (Gets from to bytes) (Serves from role) (serves_placed sides.Loader v v from to bytes role at fresh refl)) tt)
        tt

    read_placed : (name : List ℕ) (o : Options) (found : Option (List ℕ)) → to ≡ 59 → LoaderPlaced (Gets from to bytes) (loader.read_decision v from name o found)
    read_placed name o None at = one_placed sides.Loader v (Gets from to bytes) (Refuses from) (refuses_placed sides.Loader v from to bytes at)
    read_placed name o (Some file) at = taken_placed (ServesRead name o file) at

    write_placed : (s : loader.Start) (name : List ℕ) (o : Options) (kind : Option FileKind) → to ≡ 59 → LoaderPlaced (Gets from to bytes) (loader.write_decision v s from name o kind)
    write_placed s name o None at = tt
    write_placed s name o (Some kind) at = loader_if (Gets from to bytes) (bytes_eq name (file_name s.hw s.pos kind)) _ _ (taken_placed (ServesWrite name o) at) tt

    request_placed : (media : Media) (s : loader.LoaderSession) (p : PacketView) → to ≡ 59 → LoaderPlaced (Gets from to bytes) (loader.request_decision media v s from p)
    request_placed media s (Rrq name o) at = loader_if (Gets from to bytes) (serves_files s.row) _ _ (read_placed name o (media.file name) at) tt
    request_placed media s (Wrq name o) at = write_placed s.start name o (kind_taken s.row) at
    request_placed media s (Data k b) at = tt
    request_placed media s (Ack k) at = tt
    request_placed media s (Error code m) at = tt
    request_placed media s (Oack o) at = tt

    -- what the end heard, and one move more
    heard_then_asks : (p : PacketView) (role : Role) → packet_in bytes ≡ Some p → ArePlaced sides.Loader v (Gets from to bytes) (all_posts sides.Loader v (transfer_moves v from to p ++ Asks role ∷ []))
    heard_then_asks p role is =
        then_placed sides.Loader v (Gets from to bytes) (transfer_moves v from to p) (Asks role) (transfer_placed sides.Loader v from to bytes p is)
        (asks_placed sides.Loader v (views_after sides.Loader v (transfer_moves v from to p)) (Gets from to bytes) role (heard_moves_port sides.Loader v from to p))

    heard_then_stops : (p : PacketView) → packet_in bytes ≡ Some p → ArePlaced sides.Loader v (Gets from to bytes) (all_posts sides.Loader v (transfer_moves v from to p ++ Stops ∷ []))
    heard_then_stops p is = then_placed sides.Loader v (Gets from to bytes) (transfer_moves v from to p) Stops (transfer_placed sides.Loader v from to bytes p is) tt

    next_placed : (p : PacketView) (more : List ℕ) (role : Option Role) → packet_in bytes ≡ Some p → LoaderPlaced (Gets from to bytes) (loader.next_decision v (transfer_moves v from to p) more role)
    next_placed p more None is = transfer_placed sides.Loader v from to bytes p is
    next_placed p more (Some role) is = loader_if (Gets from to bytes) (has_port v) _ _ (heard_then_asks p role is) (heard_then_stops p is)

    turn_placed : (s : loader.LoaderSession) (p : PacketView) (more : List ℕ) (turn : RowTurn) → packet_in bytes ≡ Some p → LoaderPlaced (Gets from to bytes) (loader.turn_decision v s (transfer_moves v from to p) more turn)
    turn_placed s p more Goes_on is = next_placed p more (loader.row_request v.asks_size s.start (row_after s.row)) is
    turn_placed s p more (Comes_to outcome) is = heard_then_stops p is

    answer_placed : (s : loader.LoaderSession) (p : PacketView) (answer : Answer) → packet_in bytes ≡ Some p → LoaderPlaced (Gets from to bytes) (loader.answer_decision v s (transfer_moves v from to p) answer)
    answer_placed s p (TakesBlock payload) is = transfer_placed sides.Loader v from to bytes p is
    answer_placed s p (TakesLast payload) is = turn_placed s p payload (file_turn s.row (buffered_more s.arriving payload)) is
    answer_placed s p Completes is = turn_placed s p [] Goes_on is
    answer_placed s p (Fails code) is = turn_placed s p [] (Comes_to (PeerError code)) is
    answer_placed s p Dropped is = transfer_placed sides.Loader v from to bytes p is
    answer_placed s p Again is = transfer_placed sides.Loader v from to bytes p is
    answer_placed s p (Grants o) is = transfer_placed sides.Loader v from to bytes p is
    answer_placed s p Proceeds is = transfer_placed sides.Loader v from to bytes p is

    loader_at_59 : (b : Bool) (x y : loader.LoaderDecision) → eqb to 59 ≡ b → (to ≡ 59 → LoaderPlaced (Gets from to bytes) x) → LoaderPlaced (Gets from to bytes) y → LoaderPlaced (Gets from to bytes) (cond b x y)
    loader_at_59 true x y e p q = p (eqb-true to 59 e)
    loader_at_59 false x y e p q = q

    session_placed : (media : Media) (live : Option loader.LoaderSession) (p : PacketView) → packet_in bytes ≡ Some p → LoaderPlaced (Gets from to bytes) (loader.session_decision media v live from to p)
    session_placed media None p is = loader_at_59 (eqb to 59) _ _ refl (λ at. tt) (transfer_placed sides.Loader v from to bytes p is)
    session_placed media (Some s) p is =
        loader_at_59 (eqb to 59) _ _ refl (λ at. loader_if (Gets from to bytes) (is_busy v) _ _ tt (request_placed media s p at)) (answer_placed s p (heard_answer v from to p) is)

  tick_placed : (live : Option loader.LoaderSession) → LoaderPlaced Ticks (loader.tick_decision v live)
  tick_placed None = tt
  tick_placed (Some s) = loader_if Ticks (may_repeat v) _ _ (one_placed sides.Loader v Ticks Repeats (repeats_placed sides.Loader v)) tt

got_placed : (media : Media) (v : loader.LoaderView) (from to : ℕ) (bytes : List ℕ) (p : Option PacketView) → packet_in bytes ≡ p → LoaderPlaced v.end (Gets from to bytes) (loader.got_decision media v from to p)
got_placed media v from to bytes None is = tt
got_placed media v from to bytes (Some p) is = session_placed v.end from to bytes media v.live p is

pub loader_posts_placed : (media : Media) (v : loader.LoaderView) (e : Event) → ArePlaced sides.Loader v.end e (loader.loader_posts media v e)
loader_posts_placed media v (Starts_info hw pos) = start_placed v.end (Starts_info hw pos) (record { kind = Info; hw = hw; pos = pos; loads = [] })
loader_posts_placed media v (Starts_upload hw pos parts) =
    loader_if v.end (Starts_upload hw pos parts) (nat_lt 32 (length parts)) _ _ tt (listed_placed v.end (Starts_upload hw pos parts) hw pos (wanted_of media.loads parts))
loader_posts_placed media v (Gets from to bytes) = got_placed media v from to bytes (packet_in bytes) refl
loader_posts_placed media v Ticks = tick_placed v.end v.live
loader_posts_placed media v (Learns size) = tt

-- ---- the target

module _ (v : target.TargetView) where
  abbrev TargetPlaced : Event → target.TargetDecision → Type 0
  TargetPlaced e d = ArePlaced sides.Target v.end e (all_posts sides.Target v.end d.moves)

  target_if : (e : Event) (b : Bool) (x y : target.TargetDecision) → TargetPlaced e x → TargetPlaced e y → TargetPlaced e (cond b x y)
  target_if e true x y p q = p
  target_if e false x y p q = q

  without_port_placed : (e : Event) (live : Option target.TargetSession) → TargetPlaced e (target.without_port live)
  without_port_placed e None = tt
  without_port_placed e (Some s) = tt

  target_tick_placed : (live : Option target.TargetSession) → TargetPlaced Ticks (target.tick_decision v.end live)
  target_tick_placed None = tt
  target_tick_placed (Some s) = target_if Ticks (may_repeat v.end) _ _ (one_placed sides.Target v.end Ticks Repeats (repeats_placed sides.Target v.end)) tt

  module _ (from to : ℕ) (bytes : List ℕ) where
    target_when : (b : Bool) (x y : target.TargetDecision) → (b ≡ true → TargetPlaced (Gets from to bytes) x) → TargetPlaced (Gets from to bytes) y → TargetPlaced (Gets from to bytes) (cond b x y)
    target_when true x y p q = p refl
    target_when false x y p q = q

    own_placed : (kind : FileKind) (name : List ℕ) (o : Options) → to ≡ 59 → TargetPlaced (Gets from to bytes) (target.own_decision v from kind name o)
    own_placed kind name o at =
        target_when (is_fresh v.end from) _ _
        (λ fresh. target_if (Gets from to bytes) (has_port v.end) _ _
        (then_placed sides.Target v.end (Gets from to bytes) (Stops ∷ []) (Serves from (ServesRead name o (target.own_file kind v.active.sequence))) tt
        (serves_placed sides.Target v.end (views_after sides.Target v.end (Stops ∷ [])) from to bytes (ServesRead name o (target.own_file kind v.active.sequence)) at fresh refl))
        (without_port_placed (Gets from to bytes) v.live))
        tt

    target_read_placed : (name : List ℕ) (o : Options) → to ≡ 59 → TargetPlaced (Gets from to bytes) (target.read_decision v from name o)
    target_read_placed name o at =
        target_if (Gets from to bytes) (bytes_eq name (target.own_name v kinds.Lci)) _ _ (own_placed kinds.Lci name o at)
        (target_if (Gets from to bytes) (bytes_eq name (target.own_name v kinds.Lui)) _ _ (own_placed kinds.Lui name o at)
        (target_if (Gets from to bytes) (is_busy v.end) _ _ tt (one_placed sides.Target v.end (Gets from to bytes) (Refuses from) (refuses_placed sides.Target v.end from to bytes at))))

    write_in_placed : (name : List ℕ) (o : Options) (row : RowView) → to ≡ 59 → TargetPlaced (Gets from to bytes) (target.write_in v from name o row)
    write_in_placed name o Awaits_lur at =
        target_if (Gets from to bytes) (bytes_eq name (target.own_name v kinds.Lur)) _ _
        (target_when (is_fresh v.end from) _ _
        (λ fresh. target_if (Gets from to bytes) (has_port v.end) _ _ (one_placed sides.Target v.end (Gets from to bytes) (Serves from (ServesWrite name o)) (serves_placed sides.Target v.end v.end from to bytes (ServesWrite name o) at fresh refl)) (without_port_placed (Gets from to bytes) v.live)) tt)
        tt
    write_in_placed name o row at = tt

    target_write_placed : (name : List ℕ) (o : Options) (live : Option target.TargetSession) → to ≡ 59 → TargetPlaced (Gets from to bytes) (target.write_decision v from name o live)
    target_write_placed name o None at = tt
    target_write_placed name o (Some s) at = write_in_placed name o s.row at

    target_request_placed : (p : PacketView) → to ≡ 59 → TargetPlaced (Gets from to bytes) (target.request_decision v from p)
    target_request_placed (Rrq name o) at = target_read_placed name o at
    target_request_placed (Wrq name o) at = target_if (Gets from to bytes) (is_busy v.end) _ _ tt (target_write_placed name o v.live at)
    target_request_placed (Data k b) at = tt
    target_request_placed (Ack k) at = tt
    target_request_placed (Error code m) at = tt
    target_request_placed (Oack o) at = tt

    target_stops : (p : PacketView) → packet_in bytes ≡ Some p → ArePlaced sides.Target v.end (Gets from to bytes) (all_posts sides.Target v.end (transfer_moves v.end from to p ++ Stops ∷ []))
    target_stops p is = then_placed sides.Target v.end (Gets from to bytes) (transfer_moves v.end from to p) Stops (transfer_placed sides.Target v.end from to bytes p is) tt

    target_next_placed : (p : PacketView) (more : List ℕ) (move : RowMove) (row : RowView) (role : Option Role) → packet_in bytes ≡ Some p → TargetPlaced (Gets from to bytes) (target.next_decision v.end (transfer_moves v.end from to p) more move row role)
    target_next_placed p more move row (Some role) is =
        target_if (Gets from to bytes) (has_port v.end) _ _
        (then_placed sides.Target v.end (Gets from to bytes) (transfer_moves v.end from to p) (Asks role) (transfer_placed sides.Target v.end from to bytes p is)
        (asks_placed sides.Target v.end (views_after sides.Target v.end (transfer_moves v.end from to p)) (Gets from to bytes) role (heard_moves_port sides.Target v.end from to p)))
        (target_stops p is)
    target_next_placed p more move row None is = target_if (Gets from to bytes) (target.is_over row) _ _ (target_stops p is) (transfer_placed sides.Target v.end from to bytes p is)

    target_turn_placed : (accepts : Accepts) (s : target.TargetSession) (p : PacketView) (more : List ℕ) (error : Option ℕ) → packet_in bytes ≡ Some p → TargetPlaced (Gets from to bytes) (target.turn_decision accepts v s (transfer_moves v.end from to p) more error)
    target_turn_placed accepts s p more error is =
        let arriving : Arriving = with_bytes s.arriving more in
        let move : RowMove = row_move accepts v.active s.row (record { error = error; arriving = arriving }) in
        target_next_placed p more move (view_moved s.row arriving move) (target.row_request v (view_moved s.row arriving move)) is

    target_answer_placed : (accepts : Accepts) (s : target.TargetSession) (p : PacketView) (answer : Answer) → packet_in bytes ≡ Some p → TargetPlaced (Gets from to bytes) (target.answer_decision accepts v s (transfer_moves v.end from to p) answer)
    target_answer_placed accepts s p (TakesBlock payload) is = transfer_placed sides.Target v.end from to bytes p is
    target_answer_placed accepts s p (TakesLast payload) is = target_turn_placed accepts s p payload None is
    target_answer_placed accepts s p Completes is = target_turn_placed accepts s p [] None is
    target_answer_placed accepts s p (Fails code) is = target_turn_placed accepts s p [] (Some code) is
    target_answer_placed accepts s p Dropped is = transfer_placed sides.Target v.end from to bytes p is
    target_answer_placed accepts s p Again is = transfer_placed sides.Target v.end from to bytes p is
    target_answer_placed accepts s p (Grants o) is = transfer_placed sides.Target v.end from to bytes p is
    target_answer_placed accepts s p Proceeds is = transfer_placed sides.Target v.end from to bytes p is

    target_transfer_placed : (accepts : Accepts) (live : Option target.TargetSession) (p : PacketView) → packet_in bytes ≡ Some p → TargetPlaced (Gets from to bytes) (target.transfer_decision accepts v live from to p)
    target_transfer_placed accepts None p is = transfer_placed sides.Target v.end from to bytes p is
    target_transfer_placed accepts (Some s) p is = target_answer_placed accepts s p (heard_answer v.end from to p) is

    target_at_59 : (b : Bool) (x y : target.TargetDecision) → eqb to 59 ≡ b → (to ≡ 59 → TargetPlaced (Gets from to bytes) x) → TargetPlaced (Gets from to bytes) y → TargetPlaced (Gets from to bytes) (cond b x y)
    target_at_59 true x y e p q = p (eqb-true to 59 e)
    target_at_59 false x y e p q = q

    target_got_placed : (accepts : Accepts) (p : Option PacketView) → packet_in bytes ≡ p → TargetPlaced (Gets from to bytes) (target.got_decision accepts v from to p)
    target_got_placed accepts None is = tt
    target_got_placed accepts (Some p) is = target_at_59 (eqb to 59) _ _ refl (λ at. target_request_placed p at) (target_transfer_placed accepts v.live p is)

pub target_posts_placed : (accepts : Accepts) (v : target.TargetView) (e : Event) → ArePlaced sides.Target v.end e (target.target_posts accepts v e)
target_posts_placed accepts v (Gets from to bytes) = target_got_placed v from to bytes accepts (packet_in bytes) refl
target_posts_placed accepts v Ticks = target_tick_placed v v.live
target_posts_placed accepts v (Learns size) = tt
target_posts_placed accepts v (Starts_info hw pos) = tt
target_posts_placed accepts v (Starts_upload hw pos parts) = tt

-- ---- ports

pub loader_ports_count_up : (media : Media) (log : List Event) → PortsCountUp (loader_reading media log).end
loader_ports_count_up media [] = tt
loader_ports_count_up media (e ∷ log) =
    let r = loader_reading media log in
    let d = loader.loader_decision media (loader_view r) e in
    subst (λ (x : Reading). PortsCountUp x) (sym (loader_end_stays (readings_after sides.Loader r.end d.moves) r d.change)) (moves_count_up sides.Loader r.end d.moves (loader_ports_count_up media log))

pub target_extended_counts : (accepts : Accepts) (r : TargetReading) (e : Event) → PortsCountUp r.end → PortsCountUp (target_extended accepts r e).end
target_extended_counts accepts r e h =
    let d = target.target_decision accepts (target_view r) e in
    subst (λ (x : Reading). PortsCountUp x) (sym (target_end_stays accepts (readings_after sides.Target r.end d.moves) r d.change)) (moves_count_up sides.Target r.end d.moves h)

pub target_ports_count_up : (accepts : Accepts) (first_port : ℕ) (active : StandingView) (log : List Event) → PortsCountUp (target_reading accepts first_port active log).end
target_ports_count_up accepts first_port active [] = tt
target_ports_count_up accepts first_port active (e ∷ log) = target_extended_counts accepts (target_reading accepts first_port active log) e (target_ports_count_up accepts first_port active log)
