-- Which file a target writes in which row, and that its session is in that row then.
use Rattle.std.proofs.Common.{◌≡◌, ℕ, true, false, List, [], ◌∷◌, length, Option, Some, None, refl, sym, ap, subst, ◌∙◌}
use Rattle.std.specs.List.{AllByRecursion}
use Rattle.tftp_packet.specs.declared.options.Options.{Options}
use Rattle.exchange_trace.specs.Logs.{Event, Gets, Learns, Starts_info, Starts_upload, Ticks}
use Rattle.transfer_end.specs.Laws.{IsLive}
use Rattle.transfer_end.specs.Moves.{Asks, Asks_size, Hears, Move, Recalls, Refuses, Repeats, Serves, Stops}
use Rattle.transfer_end.specs.OtherEnds.{MoveFits, MoveHasRole, MovesFit, ServesIn, is_asking}
use Rattle.transfer_end.specs.Readings.{Reading}
use Rattle.transfer_end.specs.Transfers.{Role, Writes, arriving_in}
use Rattle.transfer_end.specs.Views.{TransferView}
use Rattle.accept_rules.specs.Permissions.{Accepts}
use Rattle.session_rules.specs.declared.outcome.FileKind.{FileKind}
use Rattle.session_rules.specs.declared.outcome.FileKind.TheVariants as kinds
use Rattle.session_rules.proofs.BufferLemmas.{SumsJoin}
use Rattle.session_rules.proofs.FairLemmas.{target_moves_fit}
use Rattle.session_rules.proofs.ListLemmas.{target_asks_in_turn, turned_reading}
use Rattle.session_rules.specs.Lists.{AskedInTurn, RowAsks}
use Rattle.session_rules.specs.LoaderLog.{newest}
use Rattle.session_rules.specs.Reports.{lcs_file, progress_lus, ready_lus}
use Rattle.session_rules.specs.Target as target
use Rattle.session_rules.proofs.TargetLemmas.{FitsChange, HasTurned, after, decision_fits, seen_row, turned_row, turned_view}
use Rattle.session_rules.specs.TargetLog.{TargetReading, TargetSessionLog, reading_turned, session_view, target_extended, target_view, with_done}
use Rattle.session_rules.specs.TargetRows.{Arriving, Awaits_lur, Gives_denial, Gives_lci, Gives_lui, Over, Reads_file, RowMove, RowView, Writes_completion, Writes_lcl, Writes_lcs, Writes_progress, Writes_ready, Writes_stop, arriving_of, view_moved, with_bytes}

-- ---- the file of a row

-- the kind of file that a row writes
abbrev pub row_kind : RowView → FileKind
row_kind Writes_lcs = kinds.Lcs
row_kind Writes_lcl = kinds.Lcl
row_kind row = kinds.Lus

-- a row writes this file; of a list that is said elsewhere
abbrev pub RowWrites : RowView → List ℕ → Type 0
RowWrites Writes_lcs file = file ≡ lcs_file
RowWrites Writes_lcl file = Unit {0}
RowWrites Writes_ready file = file ≡ ready_lus
RowWrites (Writes_progress u) file = file ≡ progress_lus u.request (length u.loads) u.reports
RowWrites (Writes_stop e) file = file ≡ target.last_lus e e.reason
RowWrites (Writes_completion e loads) file = file ≡ target.last_lus e e.reason
RowWrites row file = ⊥

abbrev written_name : Option Role → List ℕ
written_name (Some (Writes name o file)) = name
written_name role = []

abbrev written_file : Option Role → List ℕ
written_file (Some (Writes name o file)) = file
written_file role = []

pub row_writes : (v : target.TargetView) (row : RowView) (name : List ℕ) (o : Options) (file : List ℕ) → target.row_request v row ≡ Some (Writes name o file) → (name ≡ target.own_name v (row_kind row)) × RowWrites row file
row_writes v Writes_lcs name o file e = (sym (ap written_name e), sym (ap written_file e))
row_writes v Writes_lcl name o file e = (sym (ap written_name e), tt)
row_writes v Writes_ready name o file e = (sym (ap written_name e), sym (ap written_file e))
row_writes v (Writes_progress u) name o file e = (sym (ap written_name e), sym (ap written_file e))
row_writes v (Writes_stop end) name o file e = (sym (ap written_name e), sym (ap written_file e))
row_writes v (Writes_completion end loads) name o file e = (sym (ap written_name e), sym (ap written_file e))
row_writes v (Reads_file u) name o file e = absurd cc
row_writes v Gives_lci name o file e = absurd cc
row_writes v Gives_lui name o file e = absurd cc
row_writes v Gives_denial name o file e = absurd cc
row_writes v Awaits_lur name o file e = absurd cc
row_writes v Over name o file e = absurd cc

-- ---- one event

-- The session turned to another row, and that row asks for the transfer.
pub record IsAskedByRow (accepts : Accepts) (r : TargetReading) (e : Event) (role : Role) : Type 0 where
  pub session : TargetSessionLog
  pub was : RowView
  pub kept : Arriving
  pub move : RowMove
  pub turned : seen_row session ≡ view_moved was kept move
  pub live : (target_extended accepts r e).live ≡ Some session
  pub asks : target.row_request (target_view r) (seen_row session) ≡ Some role

-- so it is of what the target asks for at an event
abbrev pub IsAskedSo : Accepts → TargetReading → Event → Role → Type 0
IsAskedSo accepts r e role = is_asking role ≡ true → IsAskedByRow accepts r e role

module _ (joins : SumsJoin) (accepts : Accepts) (r : TargetReading) (e : Event) (going : IsLive r.end.live) where
  abbrev v_now : target.TargetView
  v_now = target_view r

  abbrev d_now : target.TargetDecision
  d_now = target.target_decision accepts (target_view r) e

  asked_by_row : (s : TargetSessionLog) (move : RowMove) (more : List ℕ) (role : Role) → r.live ≡ Some s → d_now.change ≡ target.Turns move more → target.row_request v_now (turned_view r.end s move more) ≡ Some role → IsAskedByRow accepts r e role
  asked_by_row s move more role live is asks =
      let then : Reading = after r.end d_now.moves in
      let session : TargetSessionLog = with_done accepts r.active s (newest then.past) in
      let same : target_extended accepts r e ≡ reading_turned then r session = turned_reading accepts then r s move more d_now.change live is in
      let turned : HasTurned accepts r.active r.end s d_now.moves move more = fits_turned r.live d_now.change live is (decision_fits joins accepts r e going) in
      let view : seen_row session ≡ turned_view r.end s move more = turned_row joins accepts r.active s r.end d_now.moves move more turned in
      record {
        session = session;
        was = seen_row s;
        kept = with_bytes (arriving_of (seen_row s) (arriving_in r.end.live)) more;
        move = move;
        turned = view;
        live = ap (λ (x : TargetReading). x.live) same;
        asks = ap (λ (row : RowView). target.row_request v_now row) view ∙ asks;
      }
    where
      fits_turned : (live : Option TargetSessionLog) (change : target.TargetChange) → live ≡ Some s → change ≡ target.Turns move more → FitsChange accepts r.active r.end live d_now.moves change → HasTurned accepts r.active r.end s d_now.moves move more
      fits_turned live change is_some is_turn fits =
          (subst (λ (x : Option TargetSessionLog). FitsChange accepts r.active r.end x d_now.moves (target.Turns move more)) is_some
          (subst (λ (c : target.TargetChange). FitsChange accepts r.active r.end live d_now.moves c) is_turn fits)).0

  asked_in_turn : (live : Option TargetSessionLog) (move : RowMove) (more : List ℕ) (role : Role) → r.live ≡ live → d_now.change ≡ target.Turns move more → RowAsks v_now (session_view r.end live) move more role → IsAskedByRow accepts r e role
  asked_in_turn None move more role live is asks = absurd asks
  asked_in_turn (Some s) move more role live is asks = asked_by_row s move more role live is asks

  asked_by_change : (change : target.TargetChange) (role : Role) → d_now.change ≡ change → AskedInTurn v_now change (Asks role) → IsAskedByRow accepts r e role
  asked_by_change (target.Turns move more) role is asks = asked_in_turn r.live move more role refl is asks
  asked_by_change (target.Continues more) role is asks = absurd asks
  asked_by_change (target.Begins kind) role is asks = absurd asks
  asked_by_change (target.Turns_without_port move more) role is asks = absurd asks
  asked_by_change (target.Ends reason) role is asks = absurd asks

  serves_not : (event : Event) (from : ℕ) (role : Role) → ServesIn event from role → is_asking role ≡ false
  serves_not (Gets source to bytes) from role h = h.2
  serves_not Ticks from role h = absurd h
  serves_not (Learns n) from role h = absurd h
  serves_not (Starts_info hw pos) from role h = absurd h
  serves_not (Starts_upload hw pos parts) from role h = absurd h

  move_asked : (live kept : Option TransferView) (move : Move) → AskedInTurn v_now d_now.change move → MoveFits e live kept move → MoveHasRole (IsAskedSo accepts r e) move
  move_asked live kept (Asks role) asked fits = λ asks. asked_by_change d_now.change role refl asked
  move_asked live kept (Serves from role) asked fits = λ asks. absurd (let wrong : true ≡ false = sym asks ∙ serves_not e from role fits in cc)
  move_asked live kept (Hears from p) asked fits = tt
  move_asked live kept (Recalls from p) asked fits = tt
  move_asked live kept (Refuses from) asked fits = tt
  move_asked live kept Repeats asked fits = tt
  move_asked live kept Stops asked fits = tt
  move_asked live kept (Asks_size n) asked fits = tt

  later_asked : (moves : List Move) → AllByRecursion (AskedInTurn v_now d_now.change) moves → AllByRecursion (MoveFits e None None) moves → AllByRecursion (MoveHasRole (IsAskedSo accepts r e)) moves
  later_asked [] asked fits = tt
  later_asked (move ∷ moves) (one, asked) (first, fits) = (move_asked None None move one first, later_asked moves asked fits)

  all_asked : (moves : List Move) → AllByRecursion (AskedInTurn v_now d_now.change) moves → MovesFit e v_now.end.live v_now.end.kept moves → AllByRecursion (MoveHasRole (IsAskedSo accepts r e)) moves
  all_asked [] asked fits = tt
  all_asked (move ∷ moves) (one, asked) (first, fits) = (move_asked v_now.end.live v_now.end.kept move one first, later_asked moves asked fits)

  pub moves_asked : AllByRecursion (MoveHasRole (IsAskedSo accepts r e)) d_now.moves
  moves_asked = all_asked d_now.moves (target_asks_in_turn accepts v_now e) (target_moves_fit accepts v_now e).0
