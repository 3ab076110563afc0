-- Proofs that the moves of both sides fit what comes.
use Rattle.std.proofs.Common.{◌≡◌, ℕ, Bool, true, false, cond, eqb, List, [], ◌∷◌, ◌++◌, length, Option, Some, None, Result, Ok, Err, refl, sym, subst, arith}
use Rattle.std.specs.Prelude.{bytes_eq, nat_lt}
use Rattle.std.proofs.lemmas.Bool.{eqb-true}
use Rattle.load_protocol_files.specs.declared.lur.Wanted.{Wanted}
use Rattle.tftp_packet.specs.declared.options.Options.{Options}
use Rattle.tftp_packet.specs.Packets.{Ack, Data, Error, Oack, PacketView, Rrq, Wrq}
use Rattle.tftp_link.specs.Answers.{Again, Answer, Completes, Dropped, Fails, Grants, Proceeds, TakesBlock, TakesLast}
use Rattle.exchange_trace.specs.declared.trace.Side.TheVariants as sides
use Rattle.exchange_trace.specs.Logs.{Event, Gets, Learns, Starts_info, Starts_upload, Ticks}
use Rattle.transfer_end.specs.Moves.{Asks, Asks_size, Hears, Move, Recalls, Refuses, Repeats, Serves, Stops, readings_after}
use Rattle.transfer_end.proofs.OtherEndLemmas.{moves_roles, ports_stay}
use Rattle.transfer_end.specs.OtherEnds.{MovesStayFair, AreFair, HaveRoles, MoveFits, MoveHasRole, PortsFit, all_of, is_asking, request_taken}
use Rattle.transfer_end.specs.Packets.{belongs, has_port, heard_answer, is_busy, is_fresh, may_repeat, packet_in, transfer_moves}
use Rattle.transfer_end.specs.Readings.{Reading}
use Rattle.transfer_end.specs.Transfers.{Reads, Role, ServesRead, ServesWrite, Transfer, Writes}
use Rattle.transfer_end.specs.Views.{EndView}
use Rattle.accept_rules.specs.Permissions.{Accepts}
use Rattle.session_rules.specs.declared.outcome.FileKind.{FileKind}
use Rattle.session_rules.specs.declared.outcome.FileKind.TheVariants as kinds
use Rattle.session_rules.specs.declared.outcome.Outcome.TheVariants.{PeerError}
use Rattle.session_rules.specs.declared.outcome.SessionKind.TheVariants.{Info, Upload}
use Rattle.session_rules.specs.Buffers.{buffered_more}
use Rattle.session_rules.specs.Fairness.{IsLoaderRole, IsTargetRole, LoaderGivesMediaFiles, LoaderMovesFit, LoaderStaysFair, MovesAreFit, TargetMovesFit, TargetStaysFair}
use Rattle.session_rules.specs.FileNames.{file_name}
use Rattle.session_rules.specs.Loader as loader
use Rattle.session_rules.proofs.LoaderLemmas.{end_stays as loader_end_stays}
use Rattle.session_rules.specs.LoaderLog.{loader_due, loader_reading, loader_view}
use Rattle.session_rules.specs.LoaderRows.{Comes_to, Goes_on, LoaderRow, Reads_lci, Reads_lui, Serves_files, Takes_lcl, Takes_lcs, Takes_lus, RowTurn, Writes_lur, file_turn, first_row, kind_taken, row_after, serves_files}
use Rattle.session_rules.specs.MediaFiles.{Media, wanted_of}
use Rattle.session_rules.specs.Target as target
use Rattle.session_rules.proofs.TargetLemmas.{end_stays as target_end_stays}
use Rattle.session_rules.specs.TargetLog.{TargetReading, target_due, target_extended, target_view}
use Rattle.session_rules.specs.TargetRows.{Arriving, Awaits_lur, Gives_denial, Gives_lci, Gives_lui, Over, Reads_file, RowMove, RowView, Writes_completion, Writes_lcl, Writes_lcs, Writes_progress, Writes_ready, Writes_stop, row_move, view_moved, with_bytes}

-- ---- the moves of a packet

module _ (v : EndView) (Has : Role → Type 0) (from to : ℕ) (bytes : List ℕ) where
  transfer_fits : (p : PacketView) → packet_in bytes ≡ Some p → MovesAreFit (Gets from to bytes) v Has (transfer_moves v from to p)
  transfer_fits p is = by (belongs v.live from to) (belongs v.kept from to) refl refl
    where
      by : (a b : Bool) → belongs v.live from to ≡ a → belongs v.kept from to ≡ b → MovesAreFit (Gets from to bytes) v Has (cond a (Hears from p ∷ []) (cond b (Recalls from p ∷ []) []))
      by true b live kept = (((refl, is, live), tt), (tt, tt))
      by false true live kept = (((refl, is, kept), tt), (tt, tt))
      by false false live kept = (tt, tt)

  any_fits : (move : Move) → MoveFits (Gets from to bytes) None None move → MoveFits (Gets from to bytes) v.live v.kept move
  any_fits (Hears source p) (at, is, none) = absurd cc
  any_fits (Recalls source p) (at, is, none) = absurd cc
  any_fits (Asks role) h = h
  any_fits (Serves source role) h = h
  any_fits (Refuses source) h = tt
  any_fits Repeats h = h
  any_fits Stops h = tt
  any_fits (Asks_size n) h = tt

  -- and one move after them
  then_fits : (p : PacketView) (move : Move) → packet_in bytes ≡ Some p → MoveFits (Gets from to bytes) None None move → MoveHasRole Has move → MovesAreFit (Gets from to bytes) v Has (transfer_moves v from to p ++ move ∷ [])
  then_fits p move is fits has = by (belongs v.live from to) (belongs v.kept from to) refl refl
    where
      by : (a b : Bool) → belongs v.live from to ≡ a → belongs v.kept from to ≡ b → MovesAreFit (Gets from to bytes) v Has (cond a (Hears from p ∷ []) (cond b (Recalls from p ∷ []) []) ++ move ∷ [])
      by true b live kept = (((refl, is, live), (fits, tt)), (tt, (has, tt)))
      by false true live kept = (((refl, is, kept), (fits, tt)), (tt, (has, tt)))
      by false false live kept = ((any_fits move fits, tt), (has, tt))

-- ---- the loader

module _ (media : Media) (v : EndView) where
  abbrev LoaderFit : Event → loader.LoaderDecision → Type 0
  LoaderFit e d = MovesAreFit e v (IsLoaderRole media) d.moves

  loader_if : (e : Event) (b : Bool) (x y : loader.LoaderDecision) → LoaderFit e x → LoaderFit e y → LoaderFit e (cond b x y)
  loader_if e true x y p q = p
  loader_if e false x y p q = q

  -- a row asks in a role that asks
  loader_asks : (size : Option ℕ) (s : loader.Start) (row : LoaderRow) (role : Role) → loader.row_request size s row ≡ Some role → (is_asking role ≡ true) × IsLoaderRole media role
  loader_asks size s Reads_lci (Reads name o) e = (refl, tt)
  loader_asks size s Reads_lci (Writes name o file) e = absurd cc
  loader_asks size s Reads_lci (ServesRead name o file) e = absurd cc
  loader_asks size s Reads_lci (ServesWrite name o) e = absurd cc
  loader_asks size s Reads_lui (Reads name o) e = (refl, tt)
  loader_asks size s Reads_lui (Writes name o file) e = absurd cc
  loader_asks size s Reads_lui (ServesRead name o file) e = absurd cc
  loader_asks size s Reads_lui (ServesWrite name o) e = absurd cc
  loader_asks size s Writes_lur (Reads name o) e = absurd cc
  loader_asks size s Writes_lur (Writes name o file) e = (refl, tt)
  loader_asks size s Writes_lur (ServesRead name o file) e = absurd cc
  loader_asks size s Writes_lur (ServesWrite name o) e = absurd cc
  loader_asks size s Takes_lcs role e = absurd cc
  loader_asks size s Takes_lcl role e = absurd cc
  loader_asks size s Takes_lus role e = absurd cc
  loader_asks size s Serves_files role e = absurd cc

  begin_fits : (e : Event) (s : loader.Start) (row : LoaderRow) (role : Option Role) → loader.row_request v.asks_size s row ≡ role → LoaderFit e (loader.begin_with v s role)
  begin_fits e s row None is = (tt, tt)
  begin_fits e s row (Some role) is = let (asks, has) = loader_asks v.asks_size s row role is in loader_if e (has_port v) _ _ ((tt, (asks, tt)), (tt, (has, tt))) ((tt, tt), (tt, tt))

  start_fits : (e : Event) (s : loader.Start) → LoaderFit e (loader.start_decision v s)
  start_fits e s = begin_fits e s (first_row s.kind) (loader.row_request v.asks_size s (first_row s.kind)) refl

  listed_fits : (e : Event) (hw pos : List ℕ) (found : Result (List Wanted) (List ℕ)) → LoaderFit e (loader.listed_upload v hw pos found)
  listed_fits e hw pos (Ok loads) = start_fits e (record { kind = Upload; hw = hw; pos = pos; loads = loads })
  listed_fits e hw pos (Err part) = ((tt, tt), (tt, tt))

  module _ (from to : ℕ) (bytes : List ℕ) where
    taken_fits : (role : Role) → to ≡ 59 → is_asking role ≡ false → packet_in bytes ≡ request_taken role → IsLoaderRole media role → LoaderFit (Gets from to bytes) (loader.take_request v from role)
    taken_fits role at serves is has =
        loader_if (Gets from to bytes) (is_fresh v from) _ _ (loader_if (Gets from to bytes) (has_port v) _ _ (((refl, at, serves, is), tt), (has, tt)) ((tt, tt), (tt, tt))) (tt, tt)

    read_fits : (name : List ℕ) (o : Options) (found : Option (List ℕ)) → media.file name ≡ found → to ≡ 59 → packet_in bytes ≡ Some (Rrq name o) → LoaderFit (Gets from to bytes) (loader.read_decision v from name o found)
    read_fits name o None held at is = ((tt, tt), (tt, tt))
    read_fits name o (Some file) held at is = taken_fits (ServesRead name o file) at refl is held

    write_fits : (s : loader.Start) (name : List ℕ) (o : Options) (kind : Option FileKind) → to ≡ 59 → packet_in bytes ≡ Some (Wrq name o) → LoaderFit (Gets from to bytes) (loader.write_decision v s from name o kind)
    write_fits s name o None at is = (tt, tt)
    write_fits s name o (Some kind) at is = loader_if (Gets from to bytes) (bytes_eq name (file_name s.hw s.pos kind)) _ _ (taken_fits (ServesWrite name o) at refl is tt) (tt, tt)

    request_fits : (s : loader.LoaderSession) (p : PacketView) → to ≡ 59 → packet_in bytes ≡ Some p → LoaderFit (Gets from to bytes) (loader.request_decision media v s from p)
    request_fits s (Rrq name o) at is = loader_if (Gets from to bytes) (serves_files s.row) _ _ (read_fits name o (media.file name) refl at is) (tt, tt)
    request_fits s (Wrq name o) at is = write_fits s.start name o (kind_taken s.row) at is
    request_fits s (Data k b) at is = (tt, tt)
    request_fits s (Ack k) at is = (tt, tt)
    request_fits s (Error code m) at is = (tt, tt)
    request_fits s (Oack o) at is = (tt, tt)

    heard_fits : (p : PacketView) → packet_in bytes ≡ Some p → MovesAreFit (Gets from to bytes) v (IsLoaderRole media) (transfer_moves v from to p)
    heard_fits p is = transfer_fits v (IsLoaderRole media) from to bytes p is

    heard_then_stops : (p : PacketView) → packet_in bytes ≡ Some p → MovesAreFit (Gets from to bytes) v (IsLoaderRole media) (transfer_moves v from to p ++ Stops ∷ [])
    heard_then_stops p is = then_fits v (IsLoaderRole media) from to bytes p Stops is tt tt

    next_fits : (p : PacketView) (more : List ℕ) (s : loader.Start) (row : LoaderRow) (role : Option Role) → loader.row_request v.asks_size s row ≡ role → packet_in bytes ≡ Some p → LoaderFit (Gets from to bytes) (loader.next_decision v (transfer_moves v from to p) more role)
    next_fits p more s row None e is = heard_fits p is
    next_fits p more s row (Some role) e is =
        let (asks, has) = loader_asks v.asks_size s row role e in
        loader_if (Gets from to bytes) (has_port v) _ _ (then_fits v (IsLoaderRole media) from to bytes p (Asks role) is asks has) (heard_then_stops p is)

    turn_fits : (s : loader.LoaderSession) (p : PacketView) (more : List ℕ) (turn : RowTurn) → packet_in bytes ≡ Some p → LoaderFit (Gets from to bytes) (loader.turn_decision v s (transfer_moves v from to p) more turn)
    turn_fits s p more Goes_on is = next_fits p more s.start (row_after s.row) (loader.row_request v.asks_size s.start (row_after s.row)) refl is
    turn_fits s p more (Comes_to outcome) is = heard_then_stops p is

    answer_fits : (s : loader.LoaderSession) (p : PacketView) (answer : Answer) → packet_in bytes ≡ Some p → LoaderFit (Gets from to bytes) (loader.answer_decision v s (transfer_moves v from to p) answer)
    answer_fits s p (TakesBlock payload) is = heard_fits p is
    answer_fits s p (TakesLast payload) is = turn_fits s p payload (file_turn s.row (buffered_more s.arriving payload)) is
    answer_fits s p Completes is = turn_fits s p [] Goes_on is
    answer_fits s p (Fails code) is = turn_fits s p [] (Comes_to (PeerError code)) is
    answer_fits s p Dropped is = heard_fits p is
    answer_fits s p Again is = heard_fits p is
    answer_fits s p (Grants o) is = heard_fits p is
    answer_fits s p Proceeds is = heard_fits p is

    loader_at_59 : (b : Bool) (x y : loader.LoaderDecision) → eqb to 59 ≡ b → (to ≡ 59 → LoaderFit (Gets from to bytes) x) → LoaderFit (Gets from to bytes) y → LoaderFit (Gets from to bytes) (cond b x y)
    loader_at_59 true x y e p q = p (eqb-true to 59 e)
    loader_at_59 false x y e p q = q

    session_fits : (live : Option loader.LoaderSession) (p : PacketView) → packet_in bytes ≡ Some p → LoaderFit (Gets from to bytes) (loader.session_decision media v live from to p)
    session_fits None p is = loader_if (Gets from to bytes) (eqb to 59) _ _ (tt, tt) (heard_fits p is)
    session_fits (Some s) p is =
        loader_at_59 (eqb to 59) _ _ refl (λ at. loader_if (Gets from to bytes) (is_busy v) _ _ (tt, tt) (request_fits s p at is)) (answer_fits s p (heard_answer v from to p) is)

    got_fits : (live : Option loader.LoaderSession) (ended : List loader.EndedSession) (p : Option PacketView) → packet_in bytes ≡ p → LoaderFit (Gets from to bytes) (loader.got_decision media (record { end = v; live = live; ended = ended }) from to p)
    got_fits live ended None is = (tt, tt)
    got_fits live ended (Some p) is = session_fits live p is

  tick_fits : (live : Option loader.LoaderSession) → LoaderFit Ticks (loader.tick_decision v live)
  tick_fits None = (tt, tt)
  tick_fits (Some s) = loader_if Ticks (may_repeat v) _ _ ((tt, tt), (tt, tt)) ((tt, tt), (tt, tt))

pub loader_moves_fit : LoaderMovesFit
loader_moves_fit media v (Starts_info hw pos) = start_fits media v.end (Starts_info hw pos) (record { kind = Info; hw = hw; pos = pos; loads = [] })
loader_moves_fit media v (Starts_upload hw pos parts) =
    loader_if media v.end (Starts_upload hw pos parts) (nat_lt 32 (length parts)) _ _ ((tt, tt), (tt, tt)) (listed_fits media v.end (Starts_upload hw pos parts) hw pos (wanted_of media.loads parts))
loader_moves_fit media v (Gets from to bytes) = got_fits media v.end from to bytes v.live v.ended (packet_in bytes) refl
loader_moves_fit media v Ticks = tick_fits media v.end v.live
loader_moves_fit media v (Learns size) = ((tt, tt), (tt, tt))

-- ---- the target

module _ (v : target.TargetView) where
  abbrev TargetFit : Event → target.TargetDecision → Type 0
  TargetFit e d = MovesAreFit e v.end (IsTargetRole v) d.moves

  target_if : (e : Event) (b : Bool) (x y : target.TargetDecision) → TargetFit e x → TargetFit e y → TargetFit e (cond b x y)
  target_if e true x y p q = p
  target_if e false x y p q = q

  -- a row asks in a role that asks
  target_asks : (row : RowView) (role : Role) → target.row_request v row ≡ Some role → (is_asking role ≡ true) × IsTargetRole v role
  target_asks row (Reads name o) e = (refl, (row, e))
  target_asks row (Writes name o file) e = (refl, (row, e))
  target_asks row (ServesRead name o file) e = absurd (by row e)
    where
      by : (row : RowView) → target.row_request v row ≡ Some (ServesRead name o file) → ⊥
      by Writes_lcs e = cc
      by Writes_lcl e = cc
      by Writes_ready e = cc
      by (Reads_file u) e = cc
      by (Writes_progress u) e = cc
      by (Writes_stop end) e = cc
      by (Writes_completion end loads) e = cc
      by Gives_lci e = cc
      by Gives_lui e = cc
      by Gives_denial e = cc
      by Awaits_lur e = cc
      by Over e = cc
  target_asks row (ServesWrite name o) e = absurd (by row e)
    where
      by : (row : RowView) → target.row_request v row ≡ Some (ServesWrite name o) → ⊥
      by Writes_lcs e = cc
      by Writes_lcl e = cc
      by Writes_ready e = cc
      by (Reads_file u) e = cc
      by (Writes_progress u) e = cc
      by (Writes_stop end) e = cc
      by (Writes_completion end loads) e = cc
      by Gives_lci e = cc
      by Gives_lui e = cc
      by Gives_denial e = cc
      by Awaits_lur e = cc
      by Over e = cc

  without_port_fits : (e : Event) (live : Option target.TargetSession) → TargetFit e (target.without_port live)
  without_port_fits e None = (tt, tt)
  without_port_fits e (Some s) = ((tt, tt), (tt, tt))

  target_tick_fits : (live : Option target.TargetSession) → TargetFit Ticks (target.tick_decision v.end live)
  target_tick_fits None = (tt, tt)
  target_tick_fits (Some s) = target_if Ticks (may_repeat v.end) _ _ ((tt, tt), (tt, tt)) ((tt, tt), (tt, tt))

  module _ (from to : ℕ) (bytes : List ℕ) where
    own_fits : (kind : FileKind) (name : List ℕ) (o : Options) → to ≡ 59 → packet_in bytes ≡ Some (Rrq name o) → TargetFit (Gets from to bytes) (target.own_decision v from kind name o)
    own_fits kind name o at is =
        target_if (Gets from to bytes) (is_fresh v.end from) _ _
        (target_if (Gets from to bytes) (has_port v.end) _ _ ((tt, ((refl, at, refl, is), tt)), (tt, ((kind, refl), tt))) (without_port_fits (Gets from to bytes) v.live)) (tt, tt)

    target_read_fits : (name : List ℕ) (o : Options) → to ≡ 59 → packet_in bytes ≡ Some (Rrq name o) → TargetFit (Gets from to bytes) (target.read_decision v from name o)
    target_read_fits name o at is =
        target_if (Gets from to bytes) (bytes_eq name (target.own_name v kinds.Lci)) _ _ (own_fits kinds.Lci name o at is)
        (target_if (Gets from to bytes) (bytes_eq name (target.own_name v kinds.Lui)) _ _ (own_fits kinds.Lui name o at is)
        (target_if (Gets from to bytes) (is_busy v.end) _ _ (tt, tt) ((tt, tt), (tt, tt))))

    write_in_fits : (name : List ℕ) (o : Options) (row : RowView) → to ≡ 59 → packet_in bytes ≡ Some (Wrq name o) → TargetFit (Gets from to bytes) (target.write_in v from name o row)
    write_in_fits name o Awaits_lur at is =
        target_if (Gets from to bytes) (bytes_eq name (target.own_name v kinds.Lur)) _ _
        (target_if (Gets from to bytes) (is_fresh v.end from) _ _
        (target_if (Gets from to bytes) (has_port v.end) _ _ (((refl, at, refl, is), tt), (tt, tt)) (without_port_fits (Gets from to bytes) v.live)) (tt, tt))
        (tt, tt)
    write_in_fits name o row at is = (tt, tt)

    target_write_fits : (name : List ℕ) (o : Options) (live : Option target.TargetSession) → to ≡ 59 → packet_in bytes ≡ Some (Wrq name o) → TargetFit (Gets from to bytes) (target.write_decision v from name o live)
    target_write_fits name o None at is = (tt, tt)
    target_write_fits name o (Some s) at is = write_in_fits name o s.row at is

    target_request_fits : (p : PacketView) → to ≡ 59 → packet_in bytes ≡ Some p → TargetFit (Gets from to bytes) (target.request_decision v from p)
    target_request_fits (Rrq name o) at is = target_read_fits name o at is
    target_request_fits (Wrq name o) at is = target_if (Gets from to bytes) (is_busy v.end) _ _ (tt, tt) (target_write_fits name o v.live at is)
    target_request_fits (Data k b) at is = (tt, tt)
    target_request_fits (Ack k) at is = (tt, tt)
    target_request_fits (Error code m) at is = (tt, tt)
    target_request_fits (Oack o) at is = (tt, tt)

    target_heard_fits : (p : PacketView) → packet_in bytes ≡ Some p → MovesAreFit (Gets from to bytes) v.end (IsTargetRole v) (transfer_moves v.end from to p)
    target_heard_fits p is = transfer_fits v.end (IsTargetRole v) from to bytes p is

    target_stops : (p : PacketView) → packet_in bytes ≡ Some p → MovesAreFit (Gets from to bytes) v.end (IsTargetRole v) (transfer_moves v.end from to p ++ Stops ∷ [])
    target_stops p is = then_fits v.end (IsTargetRole v) from to bytes p Stops is tt tt

    target_next_fits : (p : PacketView) (more : List ℕ) (move : RowMove) (row : RowView) (role : Option Role) → target.row_request v row ≡ role → packet_in bytes ≡ Some p
        → TargetFit (Gets from to bytes) (target.next_decision v.end (transfer_moves v.end from to p) more move row role)
    target_next_fits p more move row (Some role) e is =
        let (asks, has) = target_asks row role e in
        target_if (Gets from to bytes) (has_port v.end) _ _ (then_fits v.end (IsTargetRole v) from to bytes p (Asks role) is asks has) (target_stops p is)
    target_next_fits p more move row None e is = target_if (Gets from to bytes) (target.is_over row) _ _ (target_stops p is) (target_heard_fits p is)

    target_turn_fits : (accepts : Accepts) (s : target.TargetSession) (p : PacketView) (more : List ℕ) (error : Option ℕ) → packet_in bytes ≡ Some p
        → TargetFit (Gets from to bytes) (target.turn_decision accepts v s (transfer_moves v.end from to p) more error)
    target_turn_fits accepts s p more error is =
        let arriving : Arriving = with_bytes s.arriving more in
        let move : RowMove = row_move accepts v.active s.row (record { error = error; arriving = arriving }) in
        target_next_fits p more move (view_moved s.row arriving move) (target.row_request v (view_moved s.row arriving move)) refl is

    target_answer_fits : (accepts : Accepts) (s : target.TargetSession) (p : PacketView) (answer : Answer) → packet_in bytes ≡ Some p
        → TargetFit (Gets from to bytes) (target.answer_decision accepts v s (transfer_moves v.end from to p) answer)
    target_answer_fits accepts s p (TakesBlock payload) is = target_heard_fits p is
    target_answer_fits accepts s p (TakesLast payload) is = target_turn_fits accepts s p payload None is
    target_answer_fits accepts s p Completes is = target_turn_fits accepts s p [] None is
    target_answer_fits accepts s p (Fails code) is = target_turn_fits accepts s p [] (Some code) is
    target_answer_fits accepts s p Dropped is = target_heard_fits p is
    target_answer_fits accepts s p Again is = target_heard_fits p is
    target_answer_fits accepts s p (Grants o) is = target_heard_fits p is
    target_answer_fits accepts s p Proceeds is = target_heard_fits p is

    target_transfer_fits : (accepts : Accepts) (live : Option target.TargetSession) (p : PacketView) → packet_in bytes ≡ Some p → TargetFit (Gets from to bytes) (target.transfer_decision accepts v live from to p)
    target_transfer_fits accepts None p is = target_heard_fits p is
    target_transfer_fits accepts (Some s) p is = target_answer_fits accepts s p (heard_answer v.end from to p) is

    target_at_59 : (b : Bool) (x y : target.TargetDecision) → eqb to 59 ≡ b → (to ≡ 59 → TargetFit (Gets from to bytes) x) → TargetFit (Gets from to bytes) y → TargetFit (Gets from to bytes) (cond b x y)
    target_at_59 true x y e p q = p (eqb-true to 59 e)
    target_at_59 false x y e p q = q

    target_got_fits : (accepts : Accepts) (p : Option PacketView) → packet_in bytes ≡ p → TargetFit (Gets from to bytes) (target.got_decision accepts v from to p)
    target_got_fits accepts None is = (tt, tt)
    target_got_fits accepts (Some p) is = target_at_59 (eqb to 59) _ _ refl (λ at. target_request_fits p at is) (target_transfer_fits accepts v.live p is)

pub target_moves_fit : TargetMovesFit
target_moves_fit accepts v (Gets from to bytes) = target_got_fits v from to bytes accepts (packet_in bytes) refl
target_moves_fit accepts v Ticks = target_tick_fits v v.live
target_moves_fit accepts v (Learns size) = ((tt, tt), (tt, tt))
target_moves_fit accepts v (Starts_info hw pos) = (tt, tt)
target_moves_fit accepts v (Starts_upload hw pos parts) = (tt, tt)

-- ---- one event more

-- which transfer_end promises of all moves (`what_comes_was_sent`)
pub loader_stays_fair : MovesStayFair → LoaderStaysFair
loader_stays_fair moves_stay_fair media r e theirs posted was live ports h =
    let d = loader.loader_decision media (loader_view r) e in
    subst (λ (x : Reading). AreFair sides.Loader sides.Target (all_of x []) theirs x.last (posted ++ loader_due media r e)) (sym (loader_end_stays (readings_after sides.Loader r.end d.moves) r d.change))
    (moves_stay_fair sides.Loader sides.Target e r.end [] theirs d.moves posted (λ same. cc) (loader_moves_fit media (loader_view r) e).0 was live ports h)

pub target_stays_fair : MovesStayFair → TargetStaysFair
target_stays_fair moves_stay_fair accepts r e former theirs posted was live ports h =
    let d = target.target_decision accepts (target_view r) e in
    subst (λ (x : Reading). AreFair sides.Target sides.Loader (all_of x former) theirs x.last (posted ++ target_due accepts r e)) (sym (target_end_stays accepts (readings_after sides.Target r.end d.moves) r d.change))
    (moves_stay_fair sides.Target sides.Loader e r.end former theirs d.moves posted (λ same. cc) (target_moves_fit accepts (target_view r) e).0 was live ports h)

pub loader_ports_stay : (media : Media) (log : List Event) → PortsFit (loader_reading media log).end []
loader_ports_stay media [] = record { counts = tt; first = omega arith; below = tt; rise = tt }
loader_ports_stay media (e ∷ log) =
    let r = loader_reading media log in
    let d = loader.loader_decision media (loader_view r) e in
    subst (λ (x : Reading). PortsFit x []) (sym (loader_end_stays (readings_after sides.Loader r.end d.moves) r d.change)) (ports_stay sides.Loader r.end [] d.moves (loader_ports_stay media log))

pub target_ports_stay : (accepts : Accepts) (r : TargetReading) (e : Event) (former : List Transfer) → PortsFit r.end former → PortsFit (target_extended accepts r e).end former
target_ports_stay accepts r e former fit =
    let d = target.target_decision accepts (target_view r) e in
    subst (λ (x : Reading). PortsFit x former) (sym (target_end_stays accepts (readings_after sides.Target r.end d.moves) r d.change)) (ports_stay sides.Target r.end former d.moves fit)

pub loader_gives_media_files : LoaderGivesMediaFiles
loader_gives_media_files media [] = tt
loader_gives_media_files media (e ∷ log) =
    let r = loader_reading media log in
    let d = loader.loader_decision media (loader_view r) e in
    subst (λ (x : Reading). HaveRoles (IsLoaderRole media) x) (sym (loader_end_stays (readings_after sides.Loader r.end d.moves) r d.change))
    (moves_roles (IsLoaderRole media) sides.Loader r.end d.moves (loader_moves_fit media (loader_view r) e).1 (loader_gives_media_files media log))
