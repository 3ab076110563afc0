-- What arrives of a file, packet by packet.
use Rattle.std.proofs.Common.{◌≡◌, ℕ, false, List, [], ◌∷◌, ◌++◌, Option, Some, None, refl, sym, ap, ◌∙◌, append_assoc, append-nil}
use Rattle.std.specs.Prelude.{fold}
use Rattle.std.specs.List.{concat}
use Rattle.std.proofs.lemmas.List.Folds.{concat-append}
use Rattle.exchange_trace.specs.declared.trace.Side.{Side}
use Rattle.tftp_packet.specs.Packets.{PacketView}
use Rattle.tftp_link.specs.Answers.{Again, Answer, Completes, Dropped, Fails, Grants, Proceeds, TakesBlock, TakesLast, is_ended_by, lent_by}
use Rattle.tftp_link.specs.Laws.{lent}
use Rattle.tftp_link.specs.Receiver.{Receiver, receiver_after}
use Rattle.transfer_end.specs.Transfers.{LinkEnd, Receives, Role, Transfer, arrived_in, arrived_of, arriving_in, begin_of, end_after, end_answer, end_of, taken_from}
use Rattle.transfer_end.specs.Readings.{Reading}
use Rattle.transfer_end.specs.Moves.{reading_answered, reading_unchanged}

-- a receiving end takes the payloads that it lends
pub taken_is_lent : (r : Receiver) (got : List PacketView) → taken_from (Receives r) got ≡ lent r got
taken_is_lent r [] = refl
taken_is_lent r (packet ∷ got) = ap (λ (later : List (List ℕ)). lent_by (end_answer (Receives r) packet) ++ later) (taken_is_lent (receiver_after r packet) got)

taken_more : (end : LinkEnd) (got : List PacketView) (packet : PacketView) → taken_from end (got ++ packet ∷ []) ≡ taken_from end got ++ lent_by (end_answer (fold end_after end got) packet)
taken_more end [] packet = append-nil (lent_by (end_answer end packet))
taken_more end (first ∷ got) packet =
    ap (λ (later : List (List ℕ)). lent_by (end_answer end first) ++ later) (taken_more (end_after end first) got packet)
    ∙ sym (append_assoc (lent_by (end_answer end first)) (taken_from (end_after end first) got) (lent_by (end_answer (fold end_after (end_after end first) got) packet)))

-- a packet more brings the payload that is taken of it
pub arrived_more : (role : Role) (got : List PacketView) (packet : PacketView) → arrived_in role (got ++ packet ∷ []) ≡ arrived_in role got ++ concat (lent_by (end_answer (end_of role got) packet))
unfolding arrived_in end_of
arrived_more role got packet =
    ap concat (taken_more (begin_of role) got packet) ∙ concat-append (taken_from (begin_of role) got) (lent_by (end_answer (fold end_after (begin_of role) got) packet))

pub nothing_arrived : (role : Role) → arrived_in role [] ≡ []
unfolding arrived_in
nothing_arrived role = refl

unchanged_arrives : (r : Reading) (t : Transfer) (from : ℕ) (packet : PacketView) (peer : Option ℕ) → r.live ≡ Some t → arrived_in t.role (t.got ++ packet ∷ []) ≡ arrived_of t
    → arriving_in (reading_unchanged r t from packet peer).live ≡ arrived_of t
unchanged_arrives r t from packet None live e = ap arriving_in live
unchanged_arrives r t from packet (Some peer) live e = e

takes_none : (t : Transfer) (packet : PacketView) (answer : Answer) → end_answer (end_of t.role t.got) packet ≡ answer → lent_by answer ≡ [] → arrived_in t.role (t.got ++ packet ∷ []) ≡ arrived_of t
takes_none t packet answer e none = arrived_more t.role t.got packet ∙ rw (e, none) (append-nil (arrived_of t))

-- what arrived of the live transfer after a packet that doesn't end it
pub arriving_more : (side : Side) (r : Reading) (t : Transfer) (from : ℕ) (packet : PacketView) (answer : Answer) → r.live ≡ Some t → end_answer (end_of t.role t.got) packet ≡ answer → is_ended_by answer ≡ false
    → arriving_in (reading_answered side r t from packet answer).live ≡ arrived_of t ++ concat (lent_by answer)
arriving_more side r t from packet Dropped live e going = unchanged_arrives r t from packet t.peer live (takes_none t packet Dropped e refl) ∙ sym (append-nil (arrived_of t))
arriving_more side r t from packet Again live e going = unchanged_arrives r t from packet t.peer live (takes_none t packet Again e refl) ∙ sym (append-nil (arrived_of t))
arriving_more side r t from packet (Grants options) live e going = arrived_more t.role t.got packet ∙ rw e refl
arriving_more side r t from packet (TakesBlock payload) live e going = arrived_more t.role t.got packet ∙ rw e refl
arriving_more side r t from packet Proceeds live e going = arrived_more t.role t.got packet ∙ rw e refl
arriving_more side r t from packet (TakesLast payload) live e going = absurd cc
arriving_more side r t from packet Completes live e going = absurd cc
arriving_more side r t from packet (Fails code) live e going = absurd cc
