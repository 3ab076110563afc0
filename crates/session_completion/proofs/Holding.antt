-- What the end of a transfer does at a packet, whether it knows the other end already or not.
use Rattle.std.proofs.Common.{◌≡◌, ℕ, ◌+◌, ◌<◌, true, List, [], ◌∷◌, Option, refl, sym, ap, subst, ◌∙◌, arith, inl, inr}
use Rattle.exchange_trace.specs.declared.trace.Side.{Side}
use Rattle.exchange_trace.specs.Happenings.{DatagramView}
use Rattle.tftp_packet.specs.Packets.{PacketView}
use Rattle.tftp_link.specs.Answers.{TakesLast}
use Rattle.tftp_link.specs.Receiver.{Receiver, receiver_answer, receiver_moved, receiver_packet}
use Rattle.tftp_link.specs.Sender.{Sender}
use Rattle.transfer_end.specs.Moves.{Hears, datagram}
use Rattle.transfer_end.specs.Packets.{answer_of, belongs}
use Rattle.transfer_end.specs.Transfers.{LinkEnd, Reads, Receives, Role, Sends, Writes, begin_of, end_answer, end_moved, end_packet}
use Rattle.transfer_end.specs.Views.{EndView, TransferView}
use Rattle.transfer_completion.proofs.BlockLemmas.{eq_true}
use Rattle.transfer_completion.specs.Positions.{HasAsked, IsIn, IsEndRunning, Position, Rests, StandsIn, live_at}
use Rattle.transfer_completion.specs.Replies.{acknowledges}
use Rattle.transfer_completion.specs.Steps.{IsGoing}
use Rattle.session_completion.specs.Stages.{HoldsReceiver, HoldsSender}
use Rattle.session_completion.proofs.Moved.{Moved, TookLast, hears_first, hears_first_last, hears_last, hears_on}

-- the position of an end that has a live transfer, and what the transfer's end knows
pub data Holds : Position → LinkEnd → Type 0 where
  knows : (end : LinkEnd) → Holds (IsIn end) end
  waits : (role : Role) → Holds (HasAsked role) (begin_of role)

pub holds_receiver : (position : Position) (r : Receiver) → HoldsReceiver position r → Holds position (Receives r)
holds_receiver position r (inl e) = subst (λ (x : Position). Holds x (Receives r)) (sym e) (knows (Receives r))
holds_receiver position r (inr (name, o, e, f)) =
    subst (λ (x : Position). Holds x (Receives r)) (sym e) (subst (λ (x : Receiver). Holds (HasAsked (Reads name o)) (Receives x)) (sym f) (waits (Reads name o)))

pub holds_sender : (position : Position) (s : Sender) → HoldsSender position s → Holds position (Sends s)
holds_sender position s (inl e) = subst (λ (x : Position). Holds x (Sends s)) (sym e) (knows (Sends s))
holds_sender position s (inr (name, o, file, e, f)) =
    subst (λ (x : Position). Holds x (Sends s)) (sym e) (subst (λ (x : Sender). Holds (HasAsked (Writes name o file)) (Sends x)) (sym f) (waits (Writes name o file)))

module _ (side : Side) (posts : List DatagramView) (own peer i : ℕ) where
  -- the packet is for it

  mine_at : (position : Position) (end : LinkEnd) → Holds position end → belongs (live_at position (own + i) (peer + i)) (peer + i) (own + i) ≡ true
  mine_at Rests end' h = elim h [ ]
  mine_at (IsIn end) end' (knows e) = rw (eq_true (own + i) (own + i) refl, eq_true (peer + i) (peer + i) refl) refl
  mine_at (HasAsked role) end' (waits r) = rw (eq_true (own + i) (own + i) refl) refl

  pub is_mine : (position : Position) (end : LinkEnd) (v : EndView) → Holds position end → StandsIn side posts own peer i position v → belongs v.live (peer + i) (own + i) ≡ true
  is_mine position end v holds stands = ap (λ (live : Option TransferView). belongs live (peer + i) (own + i)) stands.live ∙ mine_at position end holds

  answers_at : (position : Position) (end : LinkEnd) (p : PacketView) → Holds position end → answer_of (live_at position (own + i) (peer + i)) p ≡ end_answer end p
  answers_at Rests end' p h = elim h [ ]
  answers_at (IsIn end) end' p (knows e) = refl
  answers_at (HasAsked role) end' p (waits r) = refl

  pub answers_so : (position : Position) (end : LinkEnd) (v : EndView) (p : PacketView) → Holds position end → StandsIn side posts own peer i position v → answer_of v.live p ≡ end_answer end p
  answers_so position end v p holds stands = ap (λ (live : Option TransferView). answer_of live p) stands.live ∙ answers_at position end p holds

  port_at : (position : Position) (end : LinkEnd) (v : EndView) → Holds position end → StandsIn side posts own peer i position v → v.next_port ≡ own + (i + 1)
  port_at Rests end' v h stands = elim h [ ]
  port_at (IsIn end) end' v (knows e) stands = stands.port
  port_at (HasAsked role) end' v (waits r) stands = stands.port

  pub next_port : (position : Position) (end : LinkEnd) (v : EndView) → Holds position end → StandsIn side posts own peer i position v → own + i + 2 < 65537 → v.next_port < 65536
  next_port position end v holds stands room = let e = port_at position end v holds stands in omega arith

  -- and it does so

  pub goes : (position : Position) (end : LinkEnd) (v : EndView) (p : PacketView) → Holds position end → IsGoing (end_answer end p) → IsEndRunning (end_moved end (end_answer end p)) → StandsIn side posts own peer i position v
      → Moved side v (Hears (peer + i) p ∷ []) posts own peer i (IsIn (end_moved end (end_answer end p))) (datagram side (own + i) (peer + i) (end_packet (end_moved end (end_answer end p))) ∷ [])
  goes Rests end' v p h going runs stands = elim h [ ]
  goes (IsIn end) end' v p (knows e) going runs stands = hears_on side posts own peer i v e p going runs stands
  goes (HasAsked role) end' v p (waits r) going runs stands = hears_first side posts own peer i v r p going runs stands

  pub takes_last : (position : Position) (r : Receiver) (v : EndView) (p : PacketView) (payload : List ℕ) → HoldsReceiver position r → receiver_answer r p ≡ TakesLast payload
      → acknowledges (datagram side (own + i) (peer + i) (receiver_packet (receiver_moved r (TakesLast payload)))) ≡ true → StandsIn side posts own peer i position v → TookLast side posts own peer i v p r payload
  takes_last position r v p payload (inl e) is ack stands =
      hears_last side posts own peer i v r payload p is ack (subst (λ (x : Position). StandsIn side posts own peer i x v) e stands)
  takes_last position r v p payload (inr (name, o, e, f)) is ack stands =
      subst (λ (x : Receiver). TookLast side posts own peer i v p x payload) (sym f)
      (hears_first_last side posts own peer i v name o payload p (ap (λ (x : Receiver). receiver_answer x p) (sym f) ∙ is)
      (ap (λ (x : Receiver). acknowledges (datagram side (own + i) (peer + i) (receiver_packet (receiver_moved x (TakesLast payload))))) (sym f) ∙ ack)
      (subst (λ (x : Position). StandsIn side posts own peer i x v) e stands))
