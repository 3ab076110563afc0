-- Proofs of when a target writes its list.
use Rattle.std.proofs.Common.{◌≡◌, ℕ, Bool, true, false, cond, eqb, List, [], ◌∷◌, ◌++◌, Option, Some, None, refl, sym, ap, subst, ◌∙◌}
use Rattle.std.specs.Prelude.{bytes_eq}
use Rattle.std.specs.List.{AllByRecursion}
use Rattle.disk_layout.specs.Holds.{outline_of}
use Rattle.tftp_packet.specs.declared.options.Options.{Options}
use Rattle.tftp_packet.specs.Packets.{Ack, Data, Error, Oack, PacketView, Rrq, Wrq}
use Rattle.tftp_link.specs.Answers.{Again, Answer, Completes, Dropped, Fails, Grants, Proceeds, TakesBlock, TakesLast}
use Rattle.exchange_trace.specs.Logs.{Event, Gets, Learns, Starts_info, Starts_upload, Ticks}
use Rattle.transfer_end.specs.Laws.{IsLive}
use Rattle.transfer_end.specs.Moves.{Asks, Asks_size, Hears, Move, Recalls, Refuses, Repeats, Serves, Stops}
use Rattle.transfer_end.specs.OtherEnds.{MoveFits, MoveHasRole, MovesFit, ServesIn, is_asking}
use Rattle.transfer_end.specs.Readings.{Reading}
use Rattle.transfer_end.specs.Views.{TransferView}
use Rattle.transfer_end.specs.Packets.{belongs, has_port, heard_answer, is_busy, is_fresh, may_repeat, packet_in, transfer_moves}
use Rattle.transfer_end.specs.Transfers.{Reads, Role, ServesRead, ServesWrite, Writes, arriving_in}
use Rattle.accept_rules.specs.Permissions.{Accepts}
use Rattle.session_rules.specs.declared.outcome.FileKind.{FileKind}
use Rattle.session_rules.specs.declared.outcome.FileKind.TheVariants as kinds
use Rattle.session_rules.specs.Lists.{AskedInTurn, IsAskedRole, ListIsAsked, RowAsks, TargetAsksForItsFiles, TargetAsksInTurn}
use Rattle.session_rules.specs.Reports.{lcl_file}
use Rattle.session_rules.proofs.BufferLemmas.{SumsJoin}
use Rattle.session_rules.proofs.FairLemmas.{target_moves_fit}
use Rattle.session_rules.specs.LoaderLog.{newest}
use Rattle.session_rules.specs.Target as target
use Rattle.session_rules.proofs.TargetLemmas.{FitsChange, HasTurned, after, decision_fits, seen_row, turned_row, turned_view}
use Rattle.session_rules.specs.TargetLog.{TargetReading, TargetSessionLog, log_turned, reading_turned, session_view, target_extended, target_reading_changed, target_view, with_done}
use Rattle.session_rules.specs.TargetRows.{Arriving, Awaits_lur, Breaks_off, Gives_denial, Gives_lci, Gives_lui, Judges, Over, Passes, Reads_file, Refuses_request, Requests, RowMove, RowView, WholeRow, Writes_completion, Writes_lcl, Writes_lcs, Writes_progress, Writes_ready, Writes_stop, arriving_of, row_move, row_view, view_moved, with_bytes}

module _ (v : target.TargetView) where
  abbrev Asked : target.TargetDecision → Type 0
  Asked d = AllByRecursion (AskedInTurn v d.change) d.moves

  asked_if : (b : Bool) (x y : target.TargetDecision) → Asked x → Asked y → Asked (cond b x y)
  asked_if true x y p q = p
  asked_if false x y p q = q

  without_port_asked : (live : Option target.TargetSession) → Asked (target.without_port live)
  without_port_asked None = tt
  without_port_asked (Some s) = (tt, tt)

  tick_asked : (live : Option target.TargetSession) → Asked (target.tick_decision v.end live)
  tick_asked None = tt
  tick_asked (Some s) = asked_if (may_repeat v.end) _ _ (tt, tt) (tt, tt)

  -- the moves of a packet ask for nothing
  heard_asks_none : (change : target.TargetChange) (from to : ℕ) (p : PacketView) → AllByRecursion (AskedInTurn v change) (transfer_moves v.end from to p)
  heard_asks_none change from to p = by (belongs v.end.live from to) (belongs v.end.kept from to)
    where
      hears : (change : target.TargetChange) → AskedInTurn v change (Hears from p)
      hears (target.Turns move more) = tt
      hears (target.Continues more) = tt
      hears (target.Begins kind) = tt
      hears (target.Turns_without_port move more) = tt
      hears (target.Ends reason) = tt

      recalls : (change : target.TargetChange) → AskedInTurn v change (Recalls from p)
      recalls (target.Turns move more) = tt
      recalls (target.Continues more) = tt
      recalls (target.Begins kind) = tt
      recalls (target.Turns_without_port move more) = tt
      recalls (target.Ends reason) = tt

      by : (a b : Bool) → AllByRecursion (AskedInTurn v change) (cond a (Hears from p ∷ []) (cond b (Recalls from p ∷ []) []))
      by true b = (hears change, tt)
      by false true = (recalls change, tt)
      by false false = tt

  then_asked : (change : target.TargetChange) (from to : ℕ) (p : PacketView) (move : Move) → AskedInTurn v change move → AllByRecursion (AskedInTurn v change) (transfer_moves v.end from to p ++ move ∷ [])
  then_asked change from to p move h = append (transfer_moves v.end from to p) (heard_asks_none change from to p)
    where
      append : (moves : List Move) → AllByRecursion (AskedInTurn v change) moves → AllByRecursion (AskedInTurn v change) (moves ++ move ∷ [])
      append [] all = (h, tt)
      append (first ∷ moves) (one, all) = (one, append moves all)

  module _ (from to : ℕ) where
    own_asked : (kind : FileKind) (name : List ℕ) (o : Options) → Asked (target.own_decision v from kind name o)
    own_asked kind name o = asked_if (is_fresh v.end from) _ _ (asked_if (has_port v.end) _ _ (tt, (tt, tt)) (without_port_asked v.live)) tt

    read_asked : (name : List ℕ) (o : Options) → Asked (target.read_decision v from name o)
    read_asked name o =
        asked_if (bytes_eq name (target.own_name v kinds.Lci)) _ _ (own_asked kinds.Lci name o)
        (asked_if (bytes_eq name (target.own_name v kinds.Lui)) _ _ (own_asked kinds.Lui name o) (asked_if (is_busy v.end) _ _ tt (tt, tt)))

    write_in_asked : (name : List ℕ) (o : Options) (row : RowView) → Asked (target.write_in v from name o row)
    write_in_asked name o Awaits_lur =
        asked_if (bytes_eq name (target.own_name v kinds.Lur)) _ _ (asked_if (is_fresh v.end from) _ _ (asked_if (has_port v.end) _ _ (tt, tt) (without_port_asked v.live)) tt) tt
    write_in_asked name o row = tt

    write_asked : (name : List ℕ) (o : Options) (live : Option target.TargetSession) → Asked (target.write_decision v from name o live)
    write_asked name o None = tt
    write_asked name o (Some s) = write_in_asked name o s.row

    request_asked : (p : PacketView) → Asked (target.request_decision v from p)
    request_asked (Rrq name o) = read_asked name o
    request_asked (Wrq name o) = asked_if (is_busy v.end) _ _ tt (write_asked name o v.live)
    request_asked (Data k b) = tt
    request_asked (Ack k) = tt
    request_asked (Error code m) = tt
    request_asked (Oack o) = tt

    next_asked : (s : target.TargetSession) (p : PacketView) (more : List ℕ) (move : RowMove) (role : Option Role) → v.live ≡ Some s → target.row_request v (view_moved s.row (with_bytes s.arriving more) move) ≡ role
        → Asked (target.next_decision v.end (transfer_moves v.end from to p) more move (view_moved s.row (with_bytes s.arriving more) move) role)
    next_asked s p more move (Some role) live is =
        asked_if (has_port v.end) _ _ (then_asked (target.Turns move more) from to p (Asks role) (subst (λ (x : Option target.TargetSession). RowAsks v x move more role) (sym live) is)) (then_asked (target.Turns_without_port move more) from to p Stops tt)
    next_asked s p more move None live is =
        asked_if (target.is_over (view_moved s.row (with_bytes s.arriving more) move)) _ _ (then_asked (target.Ends None) from to p Stops tt) (heard_asks_none (target.Turns move more) from to p)

    turn_asked : (accepts : Accepts) (s : target.TargetSession) (p : PacketView) (more : List ℕ) (error : Option ℕ) → v.live ≡ Some s → Asked (target.turn_decision accepts v s (transfer_moves v.end from to p) more error)
    turn_asked accepts s p more error live =
        let move : RowMove = row_move accepts v.active s.row (record { error = error; arriving = with_bytes s.arriving more }) in
        next_asked s p more move (target.row_request v (view_moved s.row (with_bytes s.arriving more) move)) live refl

    answer_asked : (accepts : Accepts) (s : target.TargetSession) (p : PacketView) (answer : Answer) → v.live ≡ Some s → Asked (target.answer_decision accepts v s (transfer_moves v.end from to p) answer)
    answer_asked accepts s p (TakesBlock payload) live = heard_asks_none (target.Continues payload) from to p
    answer_asked accepts s p (TakesLast payload) live = turn_asked accepts s p payload None live
    answer_asked accepts s p Completes live = turn_asked accepts s p [] None live
    answer_asked accepts s p (Fails code) live = turn_asked accepts s p [] (Some code) live
    answer_asked accepts s p Dropped live = heard_asks_none (target.Continues []) from to p
    answer_asked accepts s p Again live = heard_asks_none (target.Continues []) from to p
    answer_asked accepts s p (Grants o) live = heard_asks_none (target.Continues []) from to p
    answer_asked accepts s p Proceeds live = heard_asks_none (target.Continues []) from to p

    transfer_asked : (accepts : Accepts) (live : Option target.TargetSession) (p : PacketView) → v.live ≡ live → Asked (target.transfer_decision accepts v live from to p)
    transfer_asked accepts None p is = heard_asks_none (target.Continues []) from to p
    transfer_asked accepts (Some s) p is = answer_asked accepts s p (heard_answer v.end from to p) is

    got_asked : (accepts : Accepts) (p : Option PacketView) → Asked (target.got_decision accepts v from to p)
    got_asked accepts None = tt
    got_asked accepts (Some p) = asked_if (eqb to 59) _ _ (request_asked p) (transfer_asked accepts v.live p refl)

pub target_asks_in_turn : TargetAsksInTurn
target_asks_in_turn accepts v (Gets from to bytes) = got_asked v from to accepts (packet_in bytes)
target_asks_in_turn accepts v Ticks = tick_asked v v.live
target_asks_in_turn accepts v (Learns size) = (tt, tt)
target_asks_in_turn accepts v (Starts_info hw pos) = tt
target_asks_in_turn accepts v (Starts_upload hw pos parts) = tt

-- ---- which row asks for which file

abbrev Asking : target.TargetView → RowView → (name file : List ℕ) → Type 0
Asking v row name file = (kind : FileKind) × (name ≡ target.own_name v kind) × (kind ≡ kinds.Lcl → (row ≡ Writes_lcl) × (file ≡ lcl_file v.active))

abbrev written_name : Option Role → List ℕ
written_name (Some (Writes name o file)) = name
written_name role = []

abbrev written_file : Option Role → List ℕ
written_file (Some (Writes name o file)) = file
written_file role = []

row_asks : (v : target.TargetView) (row : RowView) (name : List ℕ) (o : Options) (file : List ℕ) → target.row_request v row ≡ Some (Writes name o file) → Asking v row name file
row_asks v Writes_lcs name o file e = (kinds.Lcs, sym (ap written_name e), λ f. absurd cc)
row_asks v Writes_lcl name o file e = (kinds.Lcl, sym (ap written_name e), λ f. (refl, sym (ap written_file e)))
row_asks v Writes_ready name o file e = (kinds.Lus, sym (ap written_name e), λ f. absurd cc)
row_asks v (Reads_file u) name o file e = absurd cc
row_asks v (Writes_progress u) name o file e = (kinds.Lus, sym (ap written_name e), λ f. absurd cc)
row_asks v (Writes_stop end) name o file e = (kinds.Lus, sym (ap written_name e), λ f. absurd cc)
row_asks v (Writes_completion end loads) name o file e = (kinds.Lus, sym (ap written_name e), λ f. absurd cc)
row_asks v Gives_lci name o file e = absurd cc
row_asks v Gives_lui name o file e = absurd cc
row_asks v Gives_denial name o file e = absurd cc
row_asks v Awaits_lur name o file e = absurd cc
row_asks v Over name o file e = absurd cc

is_list_row : (row : WholeRow) → row_view row ≡ Writes_lcl → row ≡ Writes_lcl
is_list_row Writes_lcl e = refl
is_list_row Writes_lcs e = absurd cc
is_list_row Writes_ready e = absurd cc
is_list_row (Reads_file u) e = absurd cc
is_list_row (Writes_progress u) e = absurd cc
is_list_row (Writes_stop end) e = absurd cc
is_list_row (Writes_completion end loads) e = absurd cc
is_list_row Gives_lci e = absurd cc
is_list_row Gives_lui e = absurd cc
is_list_row Gives_denial e = absurd cc
is_list_row Awaits_lur e = absurd cc
is_list_row Over e = absurd cc

-- a session turns to the list once
list_once : (arriving : Arriving) (move : RowMove) → view_moved Writes_lcl arriving move ≡ Writes_lcl → ⊥
list_once arriving Passes e = absurd cc
list_once arriving (Requests loads) e = absurd cc
list_once arriving (Refuses_request fault) e = absurd cc
list_once arriving (Judges judgement) e = absurd cc
list_once arriving Breaks_off e = absurd cc

not_yet : (live : Option TargetSessionLog) (s before : TargetSessionLog) (end : Reading) (move : RowMove) (more : List ℕ) → live ≡ Some s → turned_view end s move more ≡ Writes_lcl → live ≡ Some before → before.row ≡ Writes_lcl → ⊥
not_yet live s before end move more is turns was listing =
    let same : before ≡ s = let both : Some before ≡ Some s = sym was ∙ is in cc in
    let row : seen_row s ≡ Writes_lcl = ap (λ (x : TargetSessionLog). row_view x.row) (sym same) ∙ ap (λ (x : WholeRow). row_view x) listing in
    list_once (with_bytes (arriving_of Writes_lcl (arriving_in end.live)) more) move (subst (λ (x : RowView). view_moved x (with_bytes (arriving_of x (arriving_in end.live)) more) move ≡ Writes_lcl) row turns)

-- ---- one event

pub turned_reading : (accepts : Accepts) (end : Reading) (r : TargetReading) (s : TargetSessionLog) (move : RowMove) (more : List ℕ) (change : target.TargetChange) → r.live ≡ Some s → change ≡ target.Turns move more
    → target_reading_changed accepts end r change ≡ reading_turned end r (with_done accepts r.active s (newest end.past))
turned_reading accepts end r s move more change live is =
    ap (λ (c : target.TargetChange). target_reading_changed accepts end r c) is ∙ ap (λ (l : Option TargetSessionLog). log_turned accepts reading_turned end r l) live

module _ (joins : SumsJoin) (accepts : Accepts) (r : TargetReading) (e : Event) (going : IsLive r.end.live) where
  abbrev v_now : target.TargetView
  v_now = target_view r

  abbrev d_now : target.TargetDecision
  d_now = target.target_decision accepts (target_view r) e

  -- the row that is asked for is the session's row then
  list_is_asked : (s : TargetSessionLog) (move : RowMove) (more : List ℕ) (file : List ℕ) → r.live ≡ Some s → d_now.change ≡ target.Turns move more → turned_view r.end s move more ≡ Writes_lcl
      → file ≡ lcl_file (outline_of r.active) → ListIsAsked accepts r e file
  list_is_asked s move more file live is row lists =
      let end : Reading = after r.end d_now.moves in
      let session : TargetSessionLog = with_done accepts r.active s (newest end.past) in
      let same : target_extended accepts r e ≡ reading_turned end r session = turned_reading accepts end r s move more d_now.change live is in
      let turned : HasTurned accepts r.active r.end s d_now.moves move more =
      fits_turned r.live d_now.change live is (decision_fits joins accepts r e going) in
      let view : seen_row session ≡ Writes_lcl = turned_row joins accepts r.active s r.end d_now.moves move more turned ∙ row in
      record {
        session = session;
        live = ap (λ (x : TargetReading). x.live) same;
        row = is_list_row session.row view;
        newly = λ before was listing. not_yet r.live s before r.end move more live row was listing;
        lists = lists;
      }
    where
      fits_turned : (live : Option TargetSessionLog) (change : target.TargetChange) → live ≡ Some s → change ≡ target.Turns move more → FitsChange accepts r.active r.end live d_now.moves change → HasTurned accepts r.active r.end s d_now.moves move more
      fits_turned live change is_some is_turn fits =
          (subst (λ (x : Option TargetSessionLog). FitsChange accepts r.active r.end x d_now.moves (target.Turns move more)) is_some
          (subst (λ (c : target.TargetChange). FitsChange accepts r.active r.end live d_now.moves c) is_turn fits)).0

  asked_by_row : (s : TargetSessionLog) (move : RowMove) (more : List ℕ) (role : Role) → r.live ≡ Some s → d_now.change ≡ target.Turns move more → target.row_request v_now (turned_view r.end s move more) ≡ Some role
      → IsAskedRole accepts r e role
  asked_by_row s move more (Writes name o file) live is asks =
      let (kind, named, lists) = row_asks v_now (turned_view r.end s move more) name o file asks in
      (kind, named, λ k. list_is_asked s move more file live is (lists k).0 (lists k).1)
  asked_by_row s move more (Reads name o) live is asks = tt
  asked_by_row s move more (ServesRead name o file) live is asks = tt
  asked_by_row s move more (ServesWrite name o) live is asks = tt

  asked_in_turn : (live : Option TargetSessionLog) (move : RowMove) (more : List ℕ) (role : Role) → r.live ≡ live → d_now.change ≡ target.Turns move more → RowAsks v_now (session_view r.end live) move more role → IsAskedRole accepts r e role
  asked_in_turn None move more role live is asks = absurd asks
  asked_in_turn (Some s) move more role live is asks = asked_by_row s move more role live is asks

  asked_by_change : (change : target.TargetChange) (role : Role) → d_now.change ≡ change → AskedInTurn v_now change (Asks role) → IsAskedRole accepts r e role
  asked_by_change (target.Turns move more) role is asks = asked_in_turn r.live move more role refl is asks
  asked_by_change (target.Continues more) role is asks = absurd asks
  asked_by_change (target.Begins kind) role is asks = absurd asks
  asked_by_change (target.Turns_without_port move more) role is asks = absurd asks
  asked_by_change (target.Ends reason) role is asks = absurd asks

  served_role : (role : Role) → is_asking role ≡ false → IsAskedRole accepts r e role
  served_role (Writes name o file) asks = absurd cc
  served_role (Reads name o) asks = tt
  served_role (ServesRead name o file) asks = tt
  served_role (ServesWrite name o) asks = tt

  serves_not : (event : Event) (from : ℕ) (role : Role) → ServesIn event from role → is_asking role ≡ false
  serves_not (Gets source to bytes) from role h = h.2
  serves_not Ticks from role h = absurd h
  serves_not (Learns n) from role h = absurd h
  serves_not (Starts_info hw pos) from role h = absurd h
  serves_not (Starts_upload hw pos parts) from role h = absurd h

  move_asks : (live kept : Option TransferView) (move : Move) → AskedInTurn v_now d_now.change move → MoveFits e live kept move → MoveHasRole (IsAskedRole accepts r e) move
  move_asks live kept (Asks role) asked fits = asked_by_change d_now.change role refl asked
  move_asks live kept (Serves from role) asked fits = served_role role (serves_not e from role fits)
  move_asks live kept (Hears from p) asked fits = tt
  move_asks live kept (Recalls from p) asked fits = tt
  move_asks live kept (Refuses from) asked fits = tt
  move_asks live kept Repeats asked fits = tt
  move_asks live kept Stops asked fits = tt
  move_asks live kept (Asks_size n) asked fits = tt

  later_ask : (moves : List Move) → AllByRecursion (AskedInTurn v_now d_now.change) moves → AllByRecursion (MoveFits e None None) moves → AllByRecursion (MoveHasRole (IsAskedRole accepts r e)) moves
  later_ask [] asked fits = tt
  later_ask (move ∷ moves) (one, asked) (first, fits) = (move_asks None None move one first, later_ask moves asked fits)

  all_ask : (moves : List Move) → AllByRecursion (AskedInTurn v_now d_now.change) moves → MovesFit e v_now.end.live v_now.end.kept moves → AllByRecursion (MoveHasRole (IsAskedRole accepts r e)) moves
  all_ask [] asked fits = tt
  all_ask (move ∷ moves) (one, asked) (first, fits) = (move_asks v_now.end.live v_now.end.kept move one first, later_ask moves asked fits)

  -- what the target asks for at an event
  pub moves_ask : AllByRecursion (MoveHasRole (IsAskedRole accepts r e)) d_now.moves
  moves_ask = all_ask d_now.moves (target_asks_in_turn accepts v_now e) (target_moves_fit accepts v_now e).0

pub target_asks_for_its_files : SumsJoin → TargetAsksForItsFiles
target_asks_for_its_files joins accepts r e going = moves_ask joins accepts r e going
