-- Proofs that what is acknowledged had come.
use Rattle.std.proofs.Common.{◌≡◌, ◌⊎◌, inl, inr, ℕ, Bool, true, false, cond, ◌&&◌, List, [], ◌∷◌, ◌++◌, Option, Some, None, refl, sym, ap, subst}
use Rattle.std.specs.List.{AllByRecursion}
use Rattle.std.specs.Prelude.{◌==◌, is_none}
use Rattle.std.proofs.lemmas.Bool.{eqb-true}
use Rattle.tftp_packet.specs.declared.options.Options.{Options}
use Rattle.tftp_packet.specs.Packets.{Ack, Data, Error, Oack, PacketView, Rrq, Wrq}
use Rattle.tftp_link.specs.Answers.{Again, Answer, Completes, Dropped, Fails, Grants, Proceeds, TakesBlock, TakesLast}
use Rattle.tftp_link.specs.Negotiation.{is_empty}
use Rattle.tftp_link.specs.Receiver.{Receiver, receiver_first, receiver_opens}
use Rattle.tftp_link.specs.Sender.{Sender, data_of, sender_first, sender_opens}
use Rattle.exchange_trace.specs.declared.trace.Side.{Side}
use Rattle.exchange_trace.specs.Happenings.{DatagramView}
use Rattle.exchange_trace.specs.Logs.{Event, Gets, Learns, Starts_info, Starts_upload, Ticks}
use Rattle.transfer_end.specs.Came.{Acknowledges, AcksWhatCame, AllCame, CameFrom, DataCame, HeardIn, HearsNothing, LastAcks, LastStaysAcked, MoveHeard, PacketsCame, PostsAckWhatCame, TakenCame, data_came}
use Rattle.transfer_end.proofs.CameLemmas.{all_mapped, packet_came, still_from, taken_came}
use Rattle.transfer_end.specs.Moves.{Asks, Asks_size, Hears, Move, Recalls, Refuses, Repeats, Serves, Stops, datagram, last_of, past_with, reading_after, reading_answered, reading_unchanged}
use Rattle.transfer_end.specs.Packets.{belongs, is_peer, packet_in}
use Rattle.transfer_end.specs.Placed.{is_answer, is_first, is_refusal, is_repeat, is_request}
use Rattle.transfer_end.proofs.PlacedLemmas.{own_port}
use Rattle.transfer_end.specs.Readings.{Reading, kept_in, next_port_of}
use Rattle.transfer_end.specs.Transfers.{LinkEnd, Reads, Receives, Role, Sends, ServesRead, ServesWrite, Transfer, Writes, bound_to, end_after, end_answer, end_in, end_moved, end_of, end_packet, first_packet, is_received}
use Rattle.transfer_end.proofs.ViewLemmas.{end_of_more}
use Rattle.transfer_end.specs.Views.{TransferView, seen, transfer_view}

-- ---- packets that acknowledge no block

module _ (log : List Event) (from to : ℕ) where
  accepts_none : (b : Bool) (o : Options) → Acknowledges log from to (cond b (Ack 0) (Oack o))
  accepts_none true o = inl refl
  accepts_none false o = tt

  data_or_oack : (b : Bool) (k : ℕ) (payload : List ℕ) (o : Options) → Acknowledges log from to (cond b (Data k payload) (Oack o))
  data_or_oack true k payload o = tt
  data_or_oack false k payload o = tt

  opens_none : (name : Option (List ℕ)) (asked : Options) → Acknowledges log from to (receiver_opens name asked)
  opens_none None asked = accepts_none (is_empty asked) asked
  opens_none (Some name) asked = tt

  sends_none : (name : Option (List ℕ)) (s : Sender) → Acknowledges log from to (sender_opens name s)
  sends_none None s = data_or_oack (is_empty s.options) 1 _ s.options
  sends_none (Some name) s = tt

  pub first_acks : (role : Role) → Acknowledges log from to (first_packet role)
  first_acks (Reads name o) = tt
  first_acks (Writes name o file) = tt
  first_acks (ServesRead name o file) = data_or_oack _ 1 _ _
  first_acks (ServesWrite name o) = accepts_none (is_empty o) o

  -- what an end sent last
  received_acks : (b : Bool) (r : Receiver) → (r.taken ≡ 0) ⊎ DataCame log from (Some to) r.taken → Acknowledges log from to (cond b (receiver_first r) (Ack r.taken))
  received_acks true r taken = opens_none r.name r.asked
  received_acks false r taken = taken

  sent_acks : (b : Bool) (s : Sender) → Acknowledges log from to (cond b (sender_first s) (data_of s.file s.size s.sent))
  sent_acks true s = sends_none s.name s
  sent_acks false s = tt

  end_acks : (end : LinkEnd) → TakenCame log from (Some to) end → Acknowledges log from to (end_packet end)
  end_acks (Receives r) taken = received_acks ((r.taken == 0) && is_none r.granted) r taken
  end_acks (Sends s) taken = sent_acks (s.sent == 0) s

-- ---- answers to packets of a transfer

and_second : (a b : Bool) → (a && b) ≡ true → b ≡ true
and_second true b e = e
and_second false b e = absurd cc

-- a packet that belongs to a transfer comes from its other end
from_peer : (t : TransferView) (from to : ℕ) → belongs (Some t) from to ≡ true → bound_to t.peer from ≡ Some from
from_peer t from to mine = by t.peer (and_second (to == t.own) (is_peer t.peer from) mine)
  where
    by : (peer : Option ℕ) → is_peer peer from ≡ true → bound_to peer from ≡ Some from
    by None b = refl
    by (Some q) b = ap (λ (port : ℕ). Some port) (eqb-true q from b)

answer_acks : (log : List Event) (t : Transfer) (from to : ℕ) (bytes : List ℕ) (p : PacketView) → packet_in bytes ≡ Some p → belongs (Some (transfer_view t)) from to ≡ true → AllCame log t
    → Acknowledges (Gets from to bytes ∷ log) t.own from (end_packet (end_after (end_in t) p))
answer_acks log t from to bytes p is mine all =
    let e : Event = Gets from to bytes in
    let now : AllByRecursion (CameFrom (e ∷ log) t.own (bound_to t.peer from)) (t.got ++ p ∷ []) =
    packet_came e log t.role t.own t.peer t.got from p (refl, is, mine) (all_mapped (CameFrom log t.own t.peer) (CameFrom (e ∷ log) t.own t.peer) (still_from e log t.own t.peer) t.got all) in
    let taken : TakenCame (e ∷ log) t.own (bound_to t.peer from) (end_of t.role (t.got ++ p ∷ [])) = taken_came (e ∷ log) t.own (bound_to t.peer from) t.role (t.got ++ p ∷ []) now in
    end_acks (e ∷ log) t.own from (end_after (end_in t) p)
    (subst (λ (end : LinkEnd). TakenCame (e ∷ log) t.own (Some from) end) (end_of_more t.role t.got p)
    (subst (λ (peer : Option ℕ). TakenCame (e ∷ log) t.own peer (end_of t.role (t.got ++ p ∷ []))) (from_peer (transfer_view t) from to mine) taken))

-- ---- datagrams

packet_acks_still : (e : Event) (log : List Event) (from to : ℕ) (p : PacketView) → Acknowledges log from to p → Acknowledges (e ∷ log) from to p
packet_acks_still e log from to (Ack k) (inl zero) = inl zero
packet_acks_still e log from to (Ack k) (inr (data_came payload came)) = inr (data_came payload (inr came))
packet_acks_still e log from to (Data k payload) h = tt
packet_acks_still e log from to (Oack o) h = tt
packet_acks_still e log from to (Error code message) h = tt
packet_acks_still e log from to (Rrq name o) h = tt
packet_acks_still e log from to (Wrq name o) h = tt

acks_still : (side : Side) (e : Event) (log : List Event) (d : DatagramView) → AcksWhatCame side log d → AcksWhatCame side (e ∷ log) d
acks_still side e log d acks = record { poster = acks.poster; packet = acks.packet; bytes = acks.bytes; came = packet_acks_still e log d.from d.to acks.packet acks.came }

last_still : (side : Side) (e : Event) (log : List Event) (last : Option DatagramView) → LastAcks side log last → LastAcks side (e ∷ log) last
last_still side e log None h = tt
last_still side e log (Some d) h = acks_still side e log d h

acks_of : (log : List Event) (side : Side) (from to : ℕ) (p : PacketView) → Acknowledges log from to p → AcksWhatCame side log (datagram side from to p)
acks_of log side from to p came = record { poster = refl; packet = p; bytes = refl; came = came }

-- ---- a transfer that an end keeps is one of the log

abbrev Found : List Event → TransferView → Type 0
Found log t = (x : Transfer) × (transfer_view x ≡ t) × AllCame log x

live_found : (log : List Event) (past : List Transfer) (live : Option Transfer) (t : TransferView) → seen live ≡ Some t → AllByRecursion (AllCame log) (past_with live past) → Found log t
live_found log past None t e all = absurd cc
live_found log past (Some x) t e (one, all) = (x, cc, one)

kept_or_before : (log : List Event) (x : Transfer) (earlier : Option Transfer) (t : TransferView) (b : Bool) → seen (cond b (Some x) earlier) ≡ Some t → AllCame log x
    → (seen earlier ≡ Some t → Found log t) → Found log t
kept_or_before log x earlier t true e one before = (x, cc, one)
kept_or_before log x earlier t false e one before = before e

kept_found : (log : List Event) (past : List Transfer) (t : TransferView) → seen (kept_in past) ≡ Some t → AllByRecursion (AllCame log) past → Found log t
kept_found log [] t e all = absurd cc
kept_found log (x ∷ past) t e (one, all) = kept_or_before log x (kept_in past) t (is_received (end_in x)) e one (λ f. kept_found log past t f all)

pub past_all : (log : List Event) (past : List Transfer) (live : Option Transfer) → AllByRecursion (AllCame log) (past_with live past) → AllByRecursion (AllCame log) past
past_all log past None all = all
past_all log past (Some x) (one, all) = all

found : (log : List Event) (r : Reading) (t : TransferView) → (seen r.live ≡ Some t) ⊎ (seen (kept_in r.past) ≡ Some t) → PacketsCame log r → Found log t
found log r t (inl live) all = live_found log r.past r.live t live all
found log r t (inr kept) all = kept_found log r.past t kept (past_all log r.past r.live all)

found_acks : (log : List Event) (t : TransferView) (from to : ℕ) (bytes : List ℕ) (p : PacketView) → packet_in bytes ≡ Some p → belongs (Some t) from to ≡ true → Found log t
    → Acknowledges (Gets from to bytes ∷ log) t.own from (end_packet (end_after t.end p))
found_acks log t from to bytes p is mine (x, same, all) =
    subst (λ (v : TransferView). Acknowledges (Gets from to bytes ∷ log) v.own from (end_packet (end_after v.end p))) same
    (answer_acks log x from to bytes p is (subst (λ (v : TransferView). belongs (Some v) from to ≡ true) (sym same) mine) all)

pub posts_ack_what_came : PostsAckWhatCame
posts_ack_what_came side log r e d packets last (is_request role is) =
    subst (λ (x : DatagramView). AcksWhatCame side (e ∷ log) x) (sym is) (acks_of (e ∷ log) side (next_port_of r) 59 (first_packet role) (first_acks (e ∷ log) (next_port_of r) 59 role))
posts_ack_what_came side log r e d packets last (is_answer t p from to bytes at is which mine sent post) =
    let came : Acknowledges (Gets from to bytes ∷ log) t.own from (end_packet (end_after t.end p)) = found_acks log t from to bytes p is mine (found log r t which packets) in
    let here : Acknowledges (e ∷ log) to from (end_packet (end_after t.end p)) =
    subst (λ (event : Event). Acknowledges (event ∷ log) to from (end_packet (end_after t.end p))) (sym at)
    (subst (λ (port : ℕ). Acknowledges (Gets from to bytes ∷ log) port from (end_packet (end_after t.end p))) (sym (own_port t from to mine)) came) in
    subst (λ (x : DatagramView). AcksWhatCame side (e ∷ log) x) (sym post) (acks_of (e ∷ log) side to from (end_packet (end_after t.end p)) here)
posts_ack_what_came side log r e d packets last (is_first role from to bytes at port fresh post) =
    subst (λ (x : DatagramView). AcksWhatCame side (e ∷ log) x) (sym post) (acks_of (e ∷ log) side (next_port_of r) from (first_packet role) (first_acks (e ∷ log) (next_port_of r) from role))
posts_ack_what_came side log r e d packets last (is_refusal from to bytes at port post) =
    subst (λ (x : DatagramView). AcksWhatCame side (e ∷ log) x) (sym post) (acks_of (e ∷ log) side 59 from (Error 1 []) tt)
posts_ack_what_came side log r e d packets last (is_repeat at same) = acks_still side e log d (subst (λ (x : Option DatagramView). LastAcks side log x) same last)

-- ---- what was posted last

module _ (side : Side) (e : Event) (log : List Event) where
  sent_last : (b : Bool) (last : Option DatagramView) (d : DatagramView) → LastAcks side (e ∷ log) last → AcksWhatCame side (e ∷ log) d → LastAcks side (e ∷ log) (last_of last (cond b (d ∷ []) []))
  sent_last true last d h acks = acks
  sent_last false last d h acks = h

  unchanged_last : (r : Reading) (t : Transfer) (from : ℕ) (p : PacketView) (peer : Option ℕ) → LastAcks side (e ∷ log) r.last → LastAcks side (e ∷ log) (reading_unchanged r t from p peer).last
  unchanged_last r t from p None h = h
  unchanged_last r t from p (Some peer) h = h

  answered_last : (r : Reading) (t : Transfer) (from : ℕ) (p : PacketView) (answer : Answer) → LastAcks side (e ∷ log) r.last
      → Acknowledges (e ∷ log) t.own from (end_packet (end_moved (end_in t) answer)) → LastAcks side (e ∷ log) (reading_answered side r t from p answer).last
  answered_last r t from p Dropped h acks = unchanged_last r t from p t.peer h
  answered_last r t from p Again h acks = unchanged_last r t from p t.peer h
  answered_last r t from p (Grants o) h acks = acks_of (e ∷ log) side t.own from _ acks
  answered_last r t from p (TakesBlock payload) h acks = acks_of (e ∷ log) side t.own from _ acks
  answered_last r t from p (TakesLast payload) h acks = acks_of (e ∷ log) side t.own from _ acks
  answered_last r t from p Proceeds h acks = acks_of (e ∷ log) side t.own from _ acks
  answered_last r t from p Completes h acks = h
  answered_last r t from p (Fails code) h acks = h

  begun_last : (from to : ℕ) (role : Role) → AcksWhatCame side (e ∷ log) (datagram side from to (first_packet role))
  begun_last from to role = acks_of (e ∷ log) side from to (first_packet role) (first_acks (e ∷ log) from to role)

  -- a move that hears nothing
  other_last : (r : Reading) (move : Move) → HearsNothing move → LastAcks side (e ∷ log) r.last → LastAcks side (e ∷ log) (reading_after side r move).last
  other_last r (Hears from p) none h = absurd none
  other_last r (Recalls from p) none h = h
  other_last r (Asks role) none h = begun_last (next_port_of r) 59 role
  other_last r (Serves from role) none h = begun_last (next_port_of r) from role
  other_last r (Refuses from) none h = h
  other_last r Repeats none h = h
  other_last r Stops none h = h
  other_last r (Asks_size n) none h = h

abbrev reading : ℕ → List Transfer → Option Transfer → ℕ → Option DatagramView → Option ℕ → Reading
reading first_port past live ticks last size = record { first_port = first_port; past = past; live = live; ticks = ticks; last = last; asks_size = size }

-- what a live transfer hears
heard_last : (side : Side) (e : Event) (log : List Event) (first_port : ℕ) (past : List Transfer) (live : Option Transfer) (ticks : ℕ) (last : Option DatagramView) (size : Option ℕ) (from : ℕ) (p : PacketView)
    → HeardIn e (seen live) from p → PacketsCame log (reading first_port past live ticks last size) → LastAcks side log last
    → LastAcks side (e ∷ log) (reading_after side (reading first_port past live ticks last size) (Hears from p)).last
heard_last side e log first_port past None ticks last size from p heard all h = last_still side e log last h
heard_last side (Gets source to bytes) log first_port past (Some t) ticks last size from p (at, is, mine) (one, all) h =
    let came : Acknowledges (Gets source to bytes ∷ log) t.own from (end_packet (end_after (end_in t) p)) =
    subst (λ (port : ℕ). Acknowledges (Gets source to bytes ∷ log) t.own port (end_packet (end_after (end_in t) p))) at
    (answer_acks log t source to bytes p is (subst (λ (port : ℕ). belongs (Some (transfer_view t)) port to ≡ true) (sym at) mine) one) in
    answered_last side (Gets source to bytes) log (reading first_port past (Some t) ticks last size) t from p (end_answer (end_in t) p) (last_still side (Gets source to bytes) log last h) came
heard_last side Ticks log first_port past (Some t) ticks last size from p heard all h = absurd heard
heard_last side (Learns n) log first_port past (Some t) ticks last size from p heard all h = absurd heard
heard_last side (Starts_info hw pos) log first_port past (Some t) ticks last size from p heard all h = absurd heard
heard_last side (Starts_upload hw pos parts) log first_port past (Some t) ticks last size from p heard all h = absurd heard

move_last : (side : Side) (e : Event) (log : List Event) (r : Reading) (move : Move) → MoveHeard e (seen r.live) move → PacketsCame log r → LastAcks side log r.last → LastAcks side (e ∷ log) (reading_after side r move).last
move_last side e log r (Hears from p) heard all h = heard_last side e log r.first_port r.past r.live r.ticks r.last r.asks_size from p heard all h
move_last side e log r (Recalls from p) heard all h = last_still side e log r.last h
move_last side e log r (Asks role) heard all h = begun_last side e log (next_port_of r) 59 role
move_last side e log r (Serves from role) heard all h = begun_last side e log (next_port_of r) from role
move_last side e log r (Refuses from) heard all h = last_still side e log r.last h
move_last side e log r Repeats heard all h = last_still side e log r.last h
move_last side e log r Stops heard all h = last_still side e log r.last h
move_last side e log r (Asks_size n) heard all h = last_still side e log r.last h

pub last_stays_acked : LastStaysAcked
last_stays_acked side e log r [] heard all h = last_still side e log r.last h
last_stays_acked side e log r (move ∷ []) heard all h = move_last side e log r move heard.0 all h
last_stays_acked side e log r (move ∷ next ∷ []) heard all h = other_last side e log (reading_after side r move) next heard.1 (move_last side e log r move heard.0 all h)
last_stays_acked side e log r (move ∷ next ∷ more ∷ moves) (heard, none) all h = absurd none
