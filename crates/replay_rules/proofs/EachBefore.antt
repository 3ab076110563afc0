-- What holds of each transfer of the target and of all before it, whatever comes.
use Rattle.std.proofs.Common.{◌≡◌, inl, inr, ℕ, Bool, true, false, cond, eqb, List, [], ◌∷◌, ◌++◌, Option, Some, None, refl, sym, ap, subst, ◌∙◌}
use Rattle.std.specs.Prelude.{bytes_eq}
use Rattle.std.specs.List.{AllByRecursion}
use Rattle.tftp_packet.specs.declared.options.Options.{Options}
use Rattle.tftp_packet.specs.Packets.{Ack, Data, Error, Oack, PacketView, Rrq, Wrq}
use Rattle.tftp_link.specs.Answers.{Again, Answer, Completes, Dropped, Fails, Grants, Proceeds, TakesBlock, TakesLast}
use Rattle.exchange_trace.specs.declared.trace.Side.{Side}
use Rattle.exchange_trace.specs.declared.trace.Side.TheVariants as sides
use Rattle.exchange_trace.specs.Happenings.{DatagramView, HappeningView}
use Rattle.exchange_trace.specs.Logs.{Event, Gets, Learns, Starts_info, Starts_upload, Ticks, event_for}
use Rattle.exchange_trace.specs.Posts.{posted_in}
use Rattle.exchange_trace.specs.Steps.{Note, Step}
use Rattle.transfer_end.proofs.CameLemmas.{all_mapped}
use Rattle.transfer_end.specs.Moves.{Asks, Asks_size, Hears, Move, Recalls, Refuses, Repeats, Serves, Stops, past_with, reading_after, reading_answered, reading_unchanged, readings_after}
use Rattle.transfer_end.specs.OtherEnds.{Among, MoveHasRole, all_of}
use Rattle.transfer_end.specs.Packets.{belongs, has_port, heard_answer, is_busy, is_fresh, may_repeat, packet_in, transfer_moves}
use Rattle.transfer_end.specs.Readings.{Reading}
use Rattle.transfer_end.specs.Transfers.{Role, Transfer, end_answer, end_of}
use Rattle.transfer_end.specs.Views.{EndView}
use Rattle.accept_rules.specs.Permissions.{Accepts}
use Rattle.session_rules.specs.declared.outcome.FileKind.{FileKind}
use Rattle.session_rules.specs.declared.outcome.FileKind.TheVariants as kinds
use Rattle.session_rules.specs.Target as target
use Rattle.session_rules.proofs.TargetLemmas.{end_stays}
use Rattle.session_rules.specs.TargetLog.{TargetReading, target_extended, target_view}
use Rattle.session_rules.specs.TargetRows.{Awaits_lur, RowMove, RowView, row_move, view_moved, with_bytes}
use Rattle.replay_rules.specs.BothEnds.{Is_down, Is_up, Setting, TargetStanding, reached, target_at}
use Rattle.replay_rules.specs.OtherEndTraces.{former_at, target_transfers, transfers_of}
use Rattle.replay_rules.proofs.ListedTraces.{one_noted}

-- ---- what holds of each transfer and those before it

abbrev pub AllOver : (Role → List Transfer → Type 0) → List Transfer → Type 0
AllOver Over [] = Unit {0}
AllOver Over (t ∷ earlier) = Over t.role earlier × AllOver Over earlier

pub record IsOver (Over : Role → List Transfer → Type 0) (ts : List Transfer) (t : Transfer) : Type 0 where
  pub newer : List Transfer
  pub earlier : List Transfer
  pub split : ts ≡ newer ++ t ∷ earlier
  pub over : Over t.role earlier

pub over_at : (Over : Role → List Transfer → Type 0) (ts : List Transfer) (t : Transfer) → AllOver Over ts → Among t ts → IsOver Over ts t
over_at Over [] t all a = absurd a
over_at Over (u ∷ ts) t (one, all) (inl same) =
    record { newer = []; earlier = ts; split = ap (λ (x : Transfer). x ∷ ts) same; over = subst (λ (x : Transfer). Over x.role ts) same one }
over_at Over (u ∷ ts) t (one, all) (inr a) =
    let h = over_at Over ts t all a in record { newer = u ∷ h.newer; earlier = h.earlier; split = ap (λ (x : List Transfer). u ∷ x) h.split; over = h.over }

over_mapped : (Over Then : Role → List Transfer → Type 0) → ((role : Role) (earlier : List Transfer) → Over role earlier → Then role earlier) → (ts : List Transfer) → AllOver Over ts → AllOver Then ts
over_mapped Over Then f [] all = tt
over_mapped Over Then f (t ∷ ts) (one, all) = (f t.role ts one, over_mapped Over Then f ts all)

module _ (Over : Role → List Transfer → Type 0) (side : Side) (former : List Transfer) where
  abbrev MoveOver : Reading → Move → Type 0
  MoveOver r (Asks role) = Over role (all_of r former)
  MoveOver r (Serves from role) = Over role (all_of r former)
  MoveOver r move = Unit {0}

  abbrev MovesOver : Reading → List Move → Type 0
  MovesOver r [] = Unit {0}
  MovesOver r (move ∷ moves) = MoveOver r move × MovesOver (reading_after side r move) moves

  abbrev with_live : (first_port : ℕ) → List Transfer → Transfer → (ticks : ℕ) → Option DatagramView → Option ℕ → Reading
  with_live first_port past t ticks last size = record { first_port = first_port; past = past; live = Some t; ticks = ticks; last = last; asks_size = size }

  unchanged_over : (first_port : ℕ) (past : List Transfer) (t : Transfer) (ticks : ℕ) (last : Option DatagramView) (size : Option ℕ) (from : ℕ) (p : PacketView) (peer : Option ℕ) → AllOver Over (t ∷ (past ++ former))
      → AllOver Over (all_of (reading_unchanged (with_live first_port past t ticks last size) t from p peer) former)
  unchanged_over first_port past t ticks last size from p None all = all
  unchanged_over first_port past t ticks last size from p (Some port) all = all

  answered_over : (first_port : ℕ) (past : List Transfer) (t : Transfer) (ticks : ℕ) (last : Option DatagramView) (size : Option ℕ) (from : ℕ) (p : PacketView) (answer : Answer) → AllOver Over (t ∷ (past ++ former))
      → AllOver Over (all_of (reading_answered side (with_live first_port past t ticks last size) t from p answer) former)
  answered_over first_port past t ticks last size from p Dropped all = unchanged_over first_port past t ticks last size from p t.peer all
  answered_over first_port past t ticks last size from p Again all = unchanged_over first_port past t ticks last size from p t.peer all
  answered_over first_port past t ticks last size from p (Grants o) all = all
  answered_over first_port past t ticks last size from p (TakesBlock b) all = all
  answered_over first_port past t ticks last size from p (TakesLast b) all = all
  answered_over first_port past t ticks last size from p Proceeds all = all
  answered_over first_port past t ticks last size from p Completes all = all
  answered_over first_port past t ticks last size from p (Fails code) all = all

  heard_over : (first_port : ℕ) (past : List Transfer) (live : Option Transfer) (ticks : ℕ) (last : Option DatagramView) (size : Option ℕ) (from : ℕ) (p : PacketView) → AllOver Over (past_with live past ++ former)
      → AllOver Over (all_of (reading_after side (record { first_port = first_port; past = past; live = live; ticks = ticks; last = last; asks_size = size }) (Hears from p)) former)
  heard_over first_port past None ticks last size from p all = all
  heard_over first_port past (Some t) ticks last size from p all = answered_over first_port past t ticks last size from p (end_answer (end_of t.role t.got) p) all

  move_over : (r : Reading) (move : Move) → MoveOver r move → AllOver Over (all_of r former) → AllOver Over (all_of (reading_after side r move) former)
  move_over r (Hears from p) one all = heard_over r.first_port r.past r.live r.ticks r.last r.asks_size from p all
  move_over r (Recalls from p) one all = all
  move_over r (Asks role) one all = (one, all)
  move_over r (Serves from role) one all = (one, all)
  move_over r (Refuses from) one all = all
  move_over r Repeats one all = all
  move_over r Stops one all = all
  move_over r (Asks_size n) one all = all

  moves_over : (r : Reading) (moves : List Move) → MovesOver r moves → AllOver Over (all_of r former) → AllOver Over (all_of (readings_after side r moves) former)
  moves_over r [] each all = all
  moves_over r (move ∷ moves) (one, each) all = moves_over (reading_after side r move) moves each (move_over r move one all)

-- ---- what begins is the last of what a side does

abbrev BeginsNone : Move → Type 0
BeginsNone (Asks role) = ⊥
BeginsNone (Serves from role) = ⊥
BeginsNone move = Unit {0}

abbrev BeginsLast : List Move → Type 0
BeginsLast [] = Unit {0}
BeginsLast (move ∷ []) = Unit {0}
BeginsLast (move ∷ next ∷ moves) = BeginsNone move × BeginsLast (next ∷ moves)

-- what holds of a role in which a transfer is live, over all that is over
abbrev pub NewOver : (Role → List Transfer → Type 0) → (former : List Transfer) → Reading → Role → Type 0
NewOver Over former end role = (t : Transfer) → end.live ≡ Some t → Over role (end.past ++ former)

one_mapped : (P Q : Role → Type 0) → ((role : Role) → P role → Q role) → (move : Move) → MoveHasRole P move → MoveHasRole Q move
one_mapped P Q f (Asks role) h = f role h
one_mapped P Q f (Serves from role) h = f role h
one_mapped P Q f (Hears from p) h = tt
one_mapped P Q f (Recalls from p) h = tt
one_mapped P Q f (Refuses from) h = tt
one_mapped P Q f Repeats h = tt
one_mapped P Q f Stops h = tt
one_mapped P Q f (Asks_size n) h = tt

-- what holds of each role that begins
pub roles_mapped : (P Q : Role → Type 0) → ((role : Role) → P role → Q role) → (moves : List Move) → AllByRecursion (MoveHasRole P) moves → AllByRecursion (MoveHasRole Q) moves
roles_mapped P Q f moves all = all_mapped (MoveHasRole P) (MoveHasRole Q) (one_mapped P Q f) moves all

-- what began last is live then
last_over : (Over : Role → List Transfer → Type 0) (side : Side) (former : List Transfer) (r : Reading) (moves : List Move) → BeginsLast moves → AllByRecursion (MoveHasRole (NewOver Over former (readings_after side r moves))) moves → MovesOver Over side former r moves
last_over Over side former r [] lasts all = tt
last_over Over side former r (Asks role ∷ []) lasts (one, all) = (one _ refl, tt)
last_over Over side former r (Serves from role ∷ []) lasts (one, all) = (one _ refl, tt)
last_over Over side former r (Hears from p ∷ []) lasts (one, all) = (tt, tt)
last_over Over side former r (Recalls from p ∷ []) lasts (one, all) = (tt, tt)
last_over Over side former r (Refuses from ∷ []) lasts (one, all) = (tt, tt)
last_over Over side former r (Repeats ∷ []) lasts (one, all) = (tt, tt)
last_over Over side former r (Stops ∷ []) lasts (one, all) = (tt, tt)
last_over Over side former r (Asks_size n ∷ []) lasts (one, all) = (tt, tt)
last_over Over side former r (Asks role ∷ next ∷ moves) (none, lasts) (one, all) = absurd none
last_over Over side former r (Serves from role ∷ next ∷ moves) (none, lasts) (one, all) = absurd none
last_over Over side former r (Hears from p ∷ next ∷ moves) (none, lasts) (one, all) = (tt, last_over Over side former (reading_after side r (Hears from p)) (next ∷ moves) lasts all)
last_over Over side former r (Recalls from p ∷ next ∷ moves) (none, lasts) (one, all) = (tt, last_over Over side former (reading_after side r (Recalls from p)) (next ∷ moves) lasts all)
last_over Over side former r (Refuses from ∷ next ∷ moves) (none, lasts) (one, all) = (tt, last_over Over side former (reading_after side r (Refuses from)) (next ∷ moves) lasts all)
last_over Over side former r (Repeats ∷ next ∷ moves) (none, lasts) (one, all) = (tt, last_over Over side former (reading_after side r Repeats) (next ∷ moves) lasts all)
last_over Over side former r (Stops ∷ next ∷ moves) (none, lasts) (one, all) = (tt, last_over Over side former (reading_after side r Stops) (next ∷ moves) lasts all)
last_over Over side former r (Asks_size n ∷ next ∷ moves) (none, lasts) (one, all) = (tt, last_over Over side former (reading_after side r (Asks_size n)) (next ∷ moves) lasts all)

abbrev Lasts : target.TargetDecision → Type 0
Lasts d = BeginsLast d.moves

lasts_if : (b : Bool) (x y : target.TargetDecision) → Lasts x → Lasts y → Lasts (cond b x y)
lasts_if true x y p q = p
lasts_if false x y p q = q

without_port_lasts : (live : Option target.TargetSession) → Lasts (target.without_port live)
without_port_lasts None = tt
without_port_lasts (Some s) = tt

module _ (v : target.TargetView) (from : ℕ) where
  own_lasts : (kind : FileKind) (name : List ℕ) (o : Options) → Lasts (target.own_decision v from kind name o)
  own_lasts kind name o = lasts_if (is_fresh v.end from) _ _ (lasts_if (has_port v.end) _ _ (tt, tt) (without_port_lasts v.live)) tt

  read_lasts : (name : List ℕ) (o : Options) → Lasts (target.read_decision v from name o)
  read_lasts name o =
      lasts_if (bytes_eq name (target.own_name v kinds.Lci)) _ _ (own_lasts kinds.Lci name o)
      (lasts_if (bytes_eq name (target.own_name v kinds.Lui)) _ _ (own_lasts kinds.Lui name o) (lasts_if (is_busy v.end) _ _ tt tt))

  write_in_lasts : (name : List ℕ) (o : Options) (row : RowView) → Lasts (target.write_in v from name o row)
  write_in_lasts name o Awaits_lur = lasts_if (bytes_eq name (target.own_name v kinds.Lur)) _ _ (lasts_if (is_fresh v.end from) _ _ (lasts_if (has_port v.end) _ _ tt (without_port_lasts v.live)) tt) tt
  write_in_lasts name o row = tt

  write_lasts : (name : List ℕ) (o : Options) (live : Option target.TargetSession) → Lasts (target.write_decision v from name o live)
  write_lasts name o None = tt
  write_lasts name o (Some s) = write_in_lasts name o s.row

  request_lasts : (p : PacketView) → Lasts (target.request_decision v from p)
  request_lasts (Rrq name o) = read_lasts name o
  request_lasts (Wrq name o) = lasts_if (is_busy v.end) _ _ tt (write_lasts name o v.live)
  request_lasts (Data k b) = tt
  request_lasts (Ack k) = tt
  request_lasts (Error code m) = tt
  request_lasts (Oack o) = tt

  heard_lasts : (to : ℕ) (p : PacketView) → BeginsLast (transfer_moves v.end from to p)
  heard_lasts to p = by (belongs v.end.live from to) (belongs v.end.kept from to)
    where
      by : (a b : Bool) → BeginsLast (cond a (Hears from p ∷ []) (cond b (Recalls from p ∷ []) []))
      by true b = tt
      by false true = tt
      by false false = tt

  then_lasts : (to : ℕ) (p : PacketView) (move : Move) → BeginsLast (transfer_moves v.end from to p ++ move ∷ [])
  then_lasts to p move = by (belongs v.end.live from to) (belongs v.end.kept from to)
    where
      by : (a b : Bool) → BeginsLast (cond a (Hears from p ∷ []) (cond b (Recalls from p ∷ []) []) ++ move ∷ [])
      by true b = (tt, tt)
      by false true = (tt, tt)
      by false false = tt

  next_lasts : (to : ℕ) (p : PacketView) (more : List ℕ) (move : RowMove) (row : RowView) (role : Option Role) → Lasts (target.next_decision v.end (transfer_moves v.end from to p) more move row role)
  next_lasts to p more move row (Some role) = lasts_if (has_port v.end) _ _ (then_lasts to p (Asks role)) (then_lasts to p Stops)
  next_lasts to p more move row None = lasts_if (target.is_over row) _ _ (then_lasts to p Stops) (heard_lasts to p)

  turn_lasts : (accepts : Accepts) (s : target.TargetSession) (to : ℕ) (p : PacketView) (more : List ℕ) (error : Option ℕ) → Lasts (target.turn_decision accepts v s (transfer_moves v.end from to p) more error)
  turn_lasts accepts s to p more error =
      let move : RowMove = row_move accepts v.active s.row (record { error = error; arriving = with_bytes s.arriving more }) in
      next_lasts to p more move (view_moved s.row (with_bytes s.arriving more) move) (target.row_request v (view_moved s.row (with_bytes s.arriving more) move))

  answer_lasts : (accepts : Accepts) (s : target.TargetSession) (to : ℕ) (p : PacketView) (answer : Answer) → Lasts (target.answer_decision accepts v s (transfer_moves v.end from to p) answer)
  answer_lasts accepts s to p (TakesBlock b) = heard_lasts to p
  answer_lasts accepts s to p (TakesLast b) = turn_lasts accepts s to p b None
  answer_lasts accepts s to p Completes = turn_lasts accepts s to p [] None
  answer_lasts accepts s to p (Fails code) = turn_lasts accepts s to p [] (Some code)
  answer_lasts accepts s to p Dropped = heard_lasts to p
  answer_lasts accepts s to p Again = heard_lasts to p
  answer_lasts accepts s to p (Grants o) = heard_lasts to p
  answer_lasts accepts s to p Proceeds = heard_lasts to p

  transfer_lasts : (accepts : Accepts) (live : Option target.TargetSession) (to : ℕ) (p : PacketView) → Lasts (target.transfer_decision accepts v live from to p)
  transfer_lasts accepts None to p = heard_lasts to p
  transfer_lasts accepts (Some s) to p = answer_lasts accepts s to p (heard_answer v.end from to p)

  got_lasts : (accepts : Accepts) (to : ℕ) (p : Option PacketView) → Lasts (target.got_decision accepts v from to p)
  got_lasts accepts to None = tt
  got_lasts accepts to (Some p) = lasts_if (eqb to 59) _ _ (request_lasts p) (transfer_lasts accepts v.live to p)

tick_lasts : (v : EndView) (live : Option target.TargetSession) → Lasts (target.tick_decision v live)
tick_lasts v None = tt
tick_lasts v (Some s) = lasts_if (may_repeat v) _ _ tt tt

target_begins_last : (accepts : Accepts) (v : target.TargetView) (e : Event) → Lasts (target.target_decision accepts v e)
target_begins_last accepts v (Gets from to bytes) = got_lasts v from accepts to (packet_in bytes)
target_begins_last accepts v Ticks = tick_lasts v.end v.live
target_begins_last accepts v (Learns size) = tt
target_begins_last accepts v (Starts_info hw pos) = tt
target_begins_last accepts v (Starts_upload hw pos parts) = tt

-- ---- a trace

-- what is live after an event is the newest of all
pub newest_then : (set : Setting) (given : HappeningView) (posts : List DatagramView) (steps : List Step) (r : TargetReading) (e : Event) (t : Transfer) → target_at set steps ≡ Is_up r → event_for sides.Target (posted_in steps) given ≡ Some e → (target_extended set.accepts r e).end.live ≡ Some t
    → target_transfers set (record { given = given; posts = posts; notes = [] }) steps ≡ t ∷ ((target_extended set.accepts r e).end.past ++ former_at set steps)
newest_then set given posts steps r e t up comes live =
    ap (λ (x : Option Event). transfers_of (reached set x (target_at set steps)) ++ former_at set steps) comes ∙ ap (λ (state : TargetStanding). transfers_of (reached set (Some e) state) ++ former_at set steps) up
    ∙ ap (λ (x : Option Transfer). past_with x (target_extended set.accepts r e).end.past ++ former_at set steps) live

-- What holds of all transfers of the target and those before them, where steps keep it, and where it holds of what begins in a
-- step in which nothing is noted.
module _ (set : Setting) (Over : List Step → Role → List Transfer → Type 0) (Fact : List Step → Type 0) (before : (s : Step) (steps : List Step) → Fact (s ∷ steps) → Fact steps)
    (still : (s : Step) (steps : List Step) (role : Role) (earlier : List Transfer) → Over steps role earlier → Over (s ∷ steps) role earlier)
    (begins : (given : HappeningView) (posts : List DatagramView) (steps : List Step) (r : TargetReading) (e : Event) → target_at set steps ≡ Is_up r → event_for sides.Target (posted_in steps) given ≡ Some e → Fact (record { given = given; posts = posts; notes = [] } ∷ steps)
    → AllByRecursion (MoveHasRole (NewOver (Over (record { given = given; posts = posts; notes = [] } ∷ steps)) (former_at set steps) (target_extended set.accepts r e).end)) (target.target_decision set.accepts (target_view r) e).moves) where
  stays_over : (s : Step) (steps : List Step) (ts : List Transfer) → AllOver (Over steps) ts → AllOver (Over (s ∷ steps)) ts
  stays_over s steps ts all = over_mapped (Over steps) (Over (s ∷ steps)) (still s steps) ts all

  up_over : (given : HappeningView) (posts : List DatagramView) (steps : List Step) (r : TargetReading) (e : Event) → target_at set steps ≡ Is_up r → event_for sides.Target (posted_in steps) given ≡ Some e → Fact (record { given = given; posts = posts; notes = [] } ∷ steps)
      → AllOver (Over steps) (all_of r.end (former_at set steps)) → AllOver (Over (record { given = given; posts = posts; notes = [] } ∷ steps)) (all_of (target_extended set.accepts r e).end (former_at set steps))
  up_over given posts steps r e up comes fact all =
      let s : Step = record { given = given; posts = posts; notes = [] } in
      let d = target.target_decision set.accepts (target_view r) e in
      let is : (target_extended set.accepts r e).end ≡ readings_after sides.Target r.end d.moves = end_stays set.accepts (readings_after sides.Target r.end d.moves) r d.change in
      subst (λ (x : Reading). AllOver (Over (s ∷ steps)) (all_of x (former_at set steps))) (sym is)
      (moves_over (Over (s ∷ steps)) sides.Target (former_at set steps) r.end d.moves
      (last_over (Over (s ∷ steps)) sides.Target (former_at set steps) r.end d.moves (target_begins_last set.accepts (target_view r) e)
      (subst (λ (x : Reading). AllByRecursion (MoveHasRole (NewOver (Over (s ∷ steps)) (former_at set steps) x)) d.moves) is (begins given posts steps r e up comes fact)))
      (stays_over s steps (all_of r.end (former_at set steps)) all))

  reached_over : (given : HappeningView) (posts : List DatagramView) (steps : List Step) (state : TargetStanding) (e : Option Event) → target_at set steps ≡ state → event_for sides.Target (posted_in steps) given ≡ e → Fact (record { given = given; posts = posts; notes = [] } ∷ steps)
      → AllOver (Over steps) (transfers_of state ++ former_at set steps) → AllOver (Over (record { given = given; posts = posts; notes = [] } ∷ steps)) (transfers_of (reached set e state) ++ former_at set steps)
  reached_over given posts steps (Is_up r) (Some e) up comes fact all = up_over given posts steps r e up comes fact all
  reached_over given posts steps (Is_up r) None up comes fact all = stays_over (record { given = given; posts = posts; notes = [] }) steps _ all
  reached_over given posts steps (Is_down active interrupted) None up comes fact all = stays_over (record { given = given; posts = posts; notes = [] }) steps _ all
  reached_over given posts steps (Is_down active interrupted) (Some e) up comes fact all = stays_over (record { given = given; posts = posts; notes = [] }) steps _ all

  step_over : (given : HappeningView) (posts : List DatagramView) (notes : List Note) (steps : List Step) → Fact (record { given = given; posts = posts; notes = notes } ∷ steps) → AllOver (Over steps) (transfers_of (target_at set steps) ++ former_at set steps)
      → AllOver (Over (record { given = given; posts = posts; notes = notes } ∷ steps)) (transfers_of (target_at set (record { given = given; posts = posts; notes = notes } ∷ steps)) ++ former_at set (record { given = given; posts = posts; notes = notes } ∷ steps))
  step_over given posts [] steps fact all = reached_over given posts steps (target_at set steps) (event_for sides.Target (posted_in steps) given) refl refl fact all
  step_over given posts (note ∷ notes) steps fact all =
      let s : Step = record { given = given; posts = posts; notes = note ∷ notes } in
      subst (λ (ts : List Transfer). AllOver (Over (s ∷ steps)) (ts ++ (transfers_of (target_at set steps) ++ former_at set steps)))
      (sym (one_noted note notes (target_at set steps) (reached set (event_for sides.Target (posted_in steps) given) (target_at set steps)))) (stays_over s steps (transfers_of (target_at set steps) ++ former_at set steps) all)

  pub trace_over : (steps : List Step) → Fact steps → AllOver (Over steps) (transfers_of (target_at set steps) ++ former_at set steps)
  trace_over [] fact = tt
  trace_over (s ∷ steps) fact = step_over s.given s.posts s.notes steps fact (trace_over steps (before s steps fact))
