-- Proofs that what is in a transfer came.
use Rattle.std.proofs.Common.{◌≡◌, ◌⊎◌, inl, inr, ℕ, ◌+◌, Bool, true, false, cond, eqb, ◌&&◌, List, [], ◌∷◌, ◌++◌, Option, Some, None, refl, sym, subst, ◌∙◌}
use Rattle.std.specs.List.{AllByRecursion}
use Rattle.std.specs.Prelude.{◌==◌}
use Rattle.std.proofs.lemmas.Bool.{eqb-true}
use Rattle.tftp_packet.specs.declared.options.Options.{Options}
use Rattle.tftp_packet.specs.Packets.{Ack, Data, Error, Oack, PacketView, Rrq, Wrq}
use Rattle.tftp_link.specs.declared.phase.Phase.{Phase}
use Rattle.tftp_link.specs.declared.phase.Phase.TheVariants.{Waiting, Running, Finished, Failed}
use Rattle.tftp_link.specs.Answers.{Again, Answer, Completes, Dropped, Fails, Grants, Proceeds, TakesBlock, TakesLast, error_answer}
use Rattle.tftp_link.specs.Receiver.{Receiver, data_answer, is_last_block, is_next_block, receiver_after, receiver_after_all, receiver_answer, receiver_asking, receiver_moved, receiver_oack_answer, receiver_serving, taken_answer, were_granted}
use Rattle.tftp_link.specs.Negotiation.{may_grant}
use Rattle.exchange_trace.specs.declared.trace.Side.{Side}
use Rattle.exchange_trace.specs.Happenings.{DatagramView}
use Rattle.exchange_trace.specs.Logs.{Event, Gets, Learns, Starts_info, Starts_upload, Ticks}
use Rattle.transfer_end.specs.Came.{AllCame, BlockCame, CameFrom, DataCame, HasData, HeardIn, HearsNothing, IsDataOf, IsOneAtMost, MoveHeard, MovesHeard, PacketsCame, MovesCame, TakenBlocksCame, TakenCame, TakenWasGot, data_came}
use Rattle.transfer_end.specs.Moves.{Asks, Asks_size, Hears, Move, Recalls, Refuses, Repeats, Serves, Stops, past_with, reading_after, reading_answered, reading_unchanged, readings_after}
use Rattle.transfer_end.specs.Packets.{belongs, packet_in, transfer_moves}
use Rattle.transfer_end.specs.Readings.{Reading}
use Rattle.transfer_end.proofs.RfcLemmas.{end_is_of_link}
use Rattle.transfer_end.specs.Transfers.{LinkEnd, Reads, Receives, Role, ServesRead, ServesWrite, Transfer, Writes, bound_to, end_answer, end_of, with_packet}
use Rattle.transfer_end.specs.Views.{EndView, TransferView, seen, transfer_view}

-- ---- what came before, came

pub all_mapped : {A : Type 0} (P Q : A → Type 0) → ((x : A) → P x → Q x) → (xs : List A) → AllByRecursion P xs → AllByRecursion Q xs
all_mapped P Q f [] all = tt
all_mapped P Q f (x ∷ xs) (one, all) = (f x one, all_mapped P Q f xs all)

all_append : {A : Type 0} (P : A → Type 0) (xs ys : List A) → AllByRecursion P xs → AllByRecursion P ys → AllByRecursion P (xs ++ ys)
all_append P [] ys all rest = rest
all_append P (x ∷ xs) ys (one, all) rest = (one, all_append P xs ys all rest)

pub still_from : (e : Event) (log : List Event) (own : ℕ) (peer : Option ℕ) (p : PacketView) → CameFrom log own peer p → CameFrom (e ∷ log) own peer p
still_from e log own None p h = h
still_from e log own (Some peer) p h = inr h

still_came : (e : Event) (log : List Event) (r : Reading) → PacketsCame log r → PacketsCame (e ∷ log) r
still_came e log r h = all_mapped (AllCame log) (AllCame (e ∷ log)) (λ t all. all_mapped (CameFrom log t.own t.peer) (CameFrom (e ∷ log) t.own t.peer) (still_from e log t.own t.peer) t.got all) (past_with r.live r.past) h

-- ---- one packet more

and_first : (a b : Bool) → (a && b) ≡ true → a ≡ true
and_first true b e = refl
and_first false b e = absurd cc

and_second : (a b : Bool) → (a && b) ≡ true → b ≡ true
and_second true b e = e
and_second false b e = absurd cc

pub packet_came : (e : Event) (log : List Event) (role : Role) (own : ℕ) (peer : Option ℕ) (got : List PacketView) (from : ℕ) (p : PacketView)
    → HeardIn e (Some (transfer_view (record { role = role; own = own; peer = peer; got = got }))) from p
    → AllByRecursion (CameFrom (e ∷ log) own peer) got → AllByRecursion (CameFrom (e ∷ log) own (bound_to peer from)) (got ++ p ∷ [])
packet_came (Gets source to bytes) log role own None got from p (at, is, b) all =
    all_append (CameFrom (Gets source to bytes ∷ log) own (Some from)) got (p ∷ [])
    (all_mapped (CameFrom (Gets source to bytes ∷ log) own None) (CameFrom (Gets source to bytes ∷ log) own (Some from)) (λ x h. absurd h) got all)
    (inl (at, eqb-true to own (and_first (eqb to own) true b), is), tt)
packet_came (Gets source to bytes) log role own (Some peer) got from p (at, is, b) all =
    all_append (CameFrom (Gets source to bytes ∷ log) own (Some peer)) got (p ∷ []) all
    (inl (at ∙ sym (eqb-true peer from (and_second (eqb to own) (eqb peer from) b)), eqb-true to own (and_first (eqb to own) (eqb peer from) b), is), tt)
packet_came Ticks log role own peer got from p h all = absurd h
packet_came (Learns size) log role own peer got from p h all = absurd h
packet_came (Starts_info hw pos) log role own peer got from p h all = absurd h
packet_came (Starts_upload hw pos parts) log role own peer got from p h all = absurd h

-- ---- moves

abbrev reading : ℕ → List Transfer → Option Transfer → ℕ → Option DatagramView → Option ℕ → Reading
reading first_port past live ticks last size = record { first_port = first_port; past = past; live = live; ticks = ticks; last = last; asks_size = size }

unchanged_came : (log : List Event) (r : Reading) (t : Transfer) (from : ℕ) (p : PacketView) (peer : Option ℕ) → PacketsCame log r → AllCame log (with_packet t from p) → AllByRecursion (AllCame log) r.past → PacketsCame log (reading_unchanged r t from p peer)
unchanged_came log r t from p None h now before = h
unchanged_came log r t from p (Some peer) h now before = (now, before)

answered_came : (side : Side) (log : List Event) (r : Reading) (t : Transfer) (from : ℕ) (p : PacketView) (answer : Answer) → PacketsCame log r → AllCame log (with_packet t from p) → AllByRecursion (AllCame log) r.past
    → PacketsCame log (reading_answered side r t from p answer)
answered_came side log r t from p Dropped h now before = unchanged_came log r t from p t.peer h now before
answered_came side log r t from p Again h now before = unchanged_came log r t from p t.peer h now before
answered_came side log r t from p (Grants o) h now before = (now, before)
answered_came side log r t from p (TakesBlock b) h now before = (now, before)
answered_came side log r t from p (TakesLast b) h now before = (now, before)
answered_came side log r t from p Proceeds h now before = (now, before)
answered_came side log r t from p Completes h now before = (now, before)
answered_came side log r t from p (Fails code) h now before = (now, before)

heard_came : (side : Side) (e : Event) (log : List Event) (first_port : ℕ) (past : List Transfer) (live : Option Transfer) (ticks : ℕ) (last : Option DatagramView) (size : Option ℕ) (from : ℕ) (p : PacketView)
    → HeardIn e (seen live) from p → PacketsCame (e ∷ log) (reading first_port past live ticks last size) → PacketsCame (e ∷ log) (reading_after side (reading first_port past live ticks last size) (Hears from p))
heard_came side e log first_port past None ticks last size from p heard h = h
heard_came side e log first_port past (Some t) ticks last size from p heard (now, before) =
    answered_came side (e ∷ log) (reading first_port past (Some t) ticks last size) t from p (end_answer (end_of t.role t.got) p) (now, before) (packet_came e log t.role t.own t.peer t.got from p heard now) before

other_came : (side : Side) (log : List Event) (r : Reading) (move : Move) → HearsNothing move → PacketsCame log r → PacketsCame log (reading_after side r move)
other_came side log r (Hears from p) none h = absurd none
other_came side log r (Recalls from p) none h = h
other_came side log r (Asks role) none h = (tt, h)
other_came side log r (Serves from role) none h = (tt, h)
other_came side log r (Refuses from) none h = h
other_came side log r Repeats none h = h
other_came side log r Stops none h = h
other_came side log r (Asks_size n) none h = h

later_came : (side : Side) (log : List Event) (r : Reading) (moves : List Move) → IsOneAtMost moves → PacketsCame log r → PacketsCame log (readings_after side r moves)
later_came side log r [] none h = h
later_came side log r (move ∷ []) none h = other_came side log r move none h
later_came side log r (move ∷ next ∷ moves) none h = absurd none

move_came : (side : Side) (e : Event) (log : List Event) (r : Reading) (move : Move) → MoveHeard e (seen r.live) move → PacketsCame (e ∷ log) r → PacketsCame (e ∷ log) (reading_after side r move)
move_came side e log r (Hears from p) heard h = heard_came side e log r.first_port r.past r.live r.ticks r.last r.asks_size from p heard h
move_came side e log r (Recalls from p) heard h = h
move_came side e log r (Asks role) heard h = (tt, h)
move_came side e log r (Serves from role) heard h = (tt, h)
move_came side e log r (Refuses from) heard h = h
move_came side e log r Repeats heard h = h
move_came side e log r Stops heard h = h
move_came side e log r (Asks_size n) heard h = h

-- after the moves of one event more, all packets of all transfers came
pub moves_came : MovesCame
moves_came side e log r [] heard h = still_came e log r h
moves_came side e log r (move ∷ moves) (first, rest) h = later_came side (e ∷ log) (reading_after side r move) moves rest (move_came side e log r move first (still_came e log r h))

-- ---- the moves of a packet

pub transfer_heard : (v : EndView) (from to : ℕ) (bytes : List ℕ) (p : PacketView) → packet_in bytes ≡ Some p → MovesHeard (Gets from to bytes) v.live (transfer_moves v from to p)
transfer_heard v from to bytes p is = by (belongs v.live from to) (belongs v.kept from to) refl
  where
    by : (a b : Bool) → belongs v.live from to ≡ a → MovesHeard (Gets from to bytes) v.live (cond a (Hears from p ∷ []) (cond b (Recalls from p ∷ []) []))
    by true b live = ((refl, is, live), tt)
    by false true live = (tt, tt)
    by false false live = tt

not_heard : (e : Event) (live : Option TransferView) (move : Move) → HearsNothing move → MoveHeard e live move
not_heard e live (Hears from p) none = absurd none
not_heard e live (Recalls from p) none = tt
not_heard e live (Asks role) none = tt
not_heard e live (Serves from role) none = tt
not_heard e live (Refuses from) none = tt
not_heard e live Repeats none = tt
not_heard e live Stops none = tt
not_heard e live (Asks_size n) none = tt

-- and one move after them
pub then_heard : (v : EndView) (from to : ℕ) (bytes : List ℕ) (p : PacketView) (move : Move) → packet_in bytes ≡ Some p → HearsNothing move
    → MovesHeard (Gets from to bytes) v.live (transfer_moves v from to p ++ move ∷ [])
then_heard v from to bytes p move is none = by (belongs v.live from to) (belongs v.kept from to) refl
  where
    by : (a b : Bool) → belongs v.live from to ≡ a → MovesHeard (Gets from to bytes) v.live (cond a (Hears from p ∷ []) (cond b (Recalls from p ∷ []) []) ++ move ∷ [])
    by true b live = ((refl, is, live), none)
    by false true live = (tt, none)
    by false false live = (not_heard (Gets from to bytes) v.live move none, tt)

-- ---- blocks

abbrev TakesOrData : Receiver → PacketView → Answer → Type 0
TakesOrData r p answer = ((receiver_moved r answer).taken ≡ r.taken) ⊎ IsDataOf (receiver_moved r answer).taken p

data_or : (r : Receiver) (k : ℕ) (payload : List ℕ) (b : Bool) (x y : Answer) → (b ≡ true → TakesOrData r (Data k payload) x) → TakesOrData r (Data k payload) y → TakesOrData r (Data k payload) (cond b x y)
data_or r k payload true x y f h = f refl
data_or r k payload false x y f h = h

same_or : (r : Receiver) (p : PacketView) (b : Bool) → TakesOrData r p (cond b Again Dropped)
same_or r p true = inl refl
same_or r p false = inl refl

taken_is : (r : Receiver) (k : ℕ) (payload : List ℕ) (b : Bool) → k ≡ r.taken + 1 → TakesOrData r (Data k payload) (cond b (TakesLast payload) (TakesBlock payload))
taken_is r k payload true e = inr e
taken_is r k payload false e = inr e

next_is : (r : Receiver) (k : ℕ) (payload : List ℕ) → is_next_block r k payload ≡ true → TakesOrData r (Data k payload) (taken_answer r payload)
next_is r k payload e = taken_is r k payload _ (eqb-true k (r.taken + 1) (and_first (eqb k (r.taken + 1)) _ e))

data_takes : (r : Receiver) (k : ℕ) (payload : List ℕ) (phase : Phase) → TakesOrData r (Data k payload) (data_answer phase r k payload)
data_takes r k payload Waiting = data_or r k payload (is_next_block r k payload) _ _ (next_is r k payload) (inl refl)
data_takes r k payload Running = data_or r k payload (is_next_block r k payload) _ _ (next_is r k payload) (same_or r (Data k payload) (is_last_block r k payload))
data_takes r k payload Finished = same_or r (Data k payload) (is_last_block r k payload)
data_takes r k payload (Failed code) = inl refl

granted_takes : (r : Receiver) (o : Options) (b : Bool) → TakesOrData r (Oack o) (cond b (Grants o) Dropped)
granted_takes r o true = inl refl
granted_takes r o false = inl refl

oack_takes : (r : Receiver) (o : Options) (phase : Phase) → TakesOrData r (Oack o) (receiver_oack_answer phase r o)
oack_takes r o Waiting = granted_takes r o (may_grant r.asked o)
oack_takes r o Running = same_or r (Oack o) ((r.taken == 0) && were_granted r.granted o)
oack_takes r o Finished = inl refl
oack_takes r o (Failed code) = inl refl

error_takes : (r : Receiver) (code : ℕ) (message : List ℕ) (phase : Phase) → TakesOrData r (Error code message) (error_answer phase code)
error_takes r code message Waiting = inl refl
error_takes r code message Running = inl refl
error_takes r code message Finished = inl refl
error_takes r code message (Failed before) = inl refl

packet_takes : (r : Receiver) (p : PacketView) → TakesOrData r p (receiver_answer r p)
packet_takes r (Data k payload) = data_takes r k payload r.phase
packet_takes r (Oack o) = oack_takes r o r.phase
packet_takes r (Error code message) = error_takes r code message r.phase
packet_takes r (Ack k) = inl refl
packet_takes r (Rrq name o) = inl refl
packet_takes r (Wrq name o) = inl refl

either : (p : PacketView) (got : List PacketView) (first then last : ℕ) → (then ≡ first) ⊎ IsDataOf then p → (last ≡ then) ⊎ HasData last got → (last ≡ first) ⊎ (IsDataOf last p ⊎ HasData last got)
either p got first then last now (inr later) = inr (inr later)
either p got first then last (inl now) (inl later) = inl (later ∙ now)
either p got first then last (inr now) (inl later) = inr (inl (subst (λ (k : ℕ). IsDataOf k p) (sym later) now))

pub taken_was_got : TakenWasGot
taken_was_got r [] = inl refl
taken_was_got r (p ∷ got) = either p got r.taken (receiver_after r p).taken (receiver_after_all (receiver_after r p) got).taken (packet_takes r p) (taken_was_got (receiver_after r p) got)

module _ (log : List Event) (own : ℕ) (peer : Option ℕ) where
  is_data : (k : ℕ) (p : PacketView) → CameFrom log own peer p → IsDataOf k p → DataCame log own peer k
  is_data k (Data n payload) came e = data_came payload (subst (λ (j : ℕ). CameFrom log own peer (Data j payload)) e came)
  is_data k (Ack n) came e = absurd e
  is_data k (Oack o) came e = absurd e
  is_data k (Error code message) came e = absurd e
  is_data k (Rrq name o) came e = absurd e
  is_data k (Wrq name o) came e = absurd e

  data_among : (k : ℕ) (got : List PacketView) → AllByRecursion (CameFrom log own peer) got → HasData k got → DataCame log own peer k
  data_among k [] all h = absurd h
  data_among k (p ∷ got) (one, all) (inl e) = is_data k p one e
  data_among k (p ∷ got) (one, all) (inr h) = data_among k got all h

  received : (r : Receiver) (got : List PacketView) → r.taken ≡ 0 → AllByRecursion (CameFrom log own peer) got → TakenCame log own peer (Receives (receiver_after_all r got))
  received r got new all = by (taken_was_got r got)
    where
      by : ((receiver_after_all r got).taken ≡ r.taken) ⊎ HasData (receiver_after_all r got).taken got → TakenCame log own peer (Receives (receiver_after_all r got))
      by (inl e) = inl (e ∙ new)
      by (inr h) = inr (data_among (receiver_after_all r got).taken got all h)

  pub taken_came : (role : Role) (got : List PacketView) → AllByRecursion (CameFrom log own peer) got → TakenCame log own peer (end_of role got)
  taken_came (Reads name o) got all = subst (λ (end : LinkEnd). TakenCame log own peer end) (sym (end_is_of_link name [] o got).0) (received (receiver_asking name o) got refl all)
  taken_came (ServesWrite name o) got all = subst (λ (end : LinkEnd). TakenCame log own peer end) (sym (end_is_of_link name [] o got).1) (received (receiver_serving o) got refl all)
  taken_came (Writes name o file) got all = subst (λ (end : LinkEnd). TakenCame log own peer end) (sym (end_is_of_link name file o got).2) tt
  taken_came (ServesRead name o file) got all = subst (λ (end : LinkEnd). TakenCame log own peer end) (sym (end_is_of_link name file o got).3) tt

pub taken_blocks_came : TakenBlocksCame
taken_blocks_came log r h = all_mapped (AllCame log) (BlockCame log) (λ t all. taken_came log t.own t.peer t.role t.got all) (past_with r.live r.past) h
