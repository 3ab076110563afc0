-- What came in a transfer before is dropped in it, or acknowledged again.
use Rattle.std.proofs.Common.{◌≡◌, ℕ, ◌+◌, ◌<◌, Bool, true, false, cond, List, length, Option, Some, None, refl, ap, arith, inl, inr}
use Rattle.std.specs.Prelude.{◌==◌, nat_lt, nat_le, ◌&&◌}
use Rattle.exchange_trace.specs.declared.trace.Side.{Side}
use Rattle.tftp_packet.specs.declared.options.Options.{Options}
use Rattle.tftp_packet.specs.Packets.{PacketView, Rrq, Wrq, Data, Ack, Error, Oack}
use Rattle.tftp_link.specs.declared.phase.Phase.TheVariants.{Running}
use Rattle.tftp_link.specs.Answers.{Dropped, Again}
use Rattle.tftp_link.specs.Receiver.{Receiver, receiver_answer, receiver_packet, is_last_block, were_granted}
use Rattle.tftp_link.specs.Sender.{Sender, sender_answer}
use Rattle.transfer_end.specs.Transfers.{Receives, Sends}
use Rattle.transfer_end.specs.Moves.{datagram}
use Rattle.transfer_end.proofs.SentPacketLemmas.{written_is_read}
use Rattle.transfer_completion.proofs.BlockLemmas.{lt_false, eq_false}
use Rattle.transfer_completion.specs.Laws.{IsNoAck, IsStale, BehindIsStale}
use Rattle.transfer_completion.specs.Positions.{IsBehind}
use Rattle.transfer_completion.specs.Replies.{is_ack, acknowledges}
use Rattle.transfer_completion.specs.Talks.{is_opening}

-- an acknowledgement of a number in its range is one
pub ack_acknowledges : (side : Side) (from to k : ℕ) → k < 65536 → acknowledges (datagram side from to (Ack k)) ≡ true
ack_acknowledges side from to k small = ap is_ack (written_is_read (Ack k) small tt)

-- what a receiving end sends that took a block, or an OACK
pub packet_acks : (side : Side) (from to : ℕ) (r : Receiver) → r.taken < 65536 → is_opening r.granted r.taken ≡ false → acknowledges (datagram side from to (receiver_packet r)) ≡ true
packet_acks side from to r small opens = rw opens (ack_acknowledges side from to r.taken small)

first_true : (a b : Bool) → (a && b) ≡ true → a ≡ true
first_true true b e = refl
first_true false b e = absurd cc

some_taken : (r : Receiver) (k : ℕ) (payload : List ℕ) → is_last_block r k payload ≡ true → is_opening r.granted r.taken ≡ false
some_taken r k payload e = rw (eq_false r.taken 0 (λ f. none (first_true (nat_lt 0 r.taken) ((k == r.taken) && nat_le (length payload) r.size) e) f)) refl
  where
    none : nat_lt 0 r.taken ≡ true → r.taken ≡ 0 → ⊥
    none f g = let h = lt_false 0 r.taken (omega arith) in absurd cc

granted_once : (granted : Option Options) (taken : ℕ) (o : Options) → ((taken == 0) && were_granted granted o) ≡ true → is_opening granted taken ≡ false
granted_once None taken o e = absurd (and_false (taken == 0) e)
  where
    and_false : (b : Bool) → (b && false) ≡ true → ⊥
    and_false true e = absurd cc
    and_false false e = absurd cc
granted_once (Some g) taken o e = false_after (taken == 0)
  where
    false_after : (b : Bool) → (b && false) ≡ false
    false_after true = refl
    false_after false = refl

stale_by : (side : Side) (from to : ℕ) (r : Receiver) (p : PacketView) (b : Bool) → IsNoAck p → (b ≡ true → acknowledges (datagram side from to (receiver_packet r)) ≡ true) → IsStale side from to (Receives r) p (cond b Again Dropped)
stale_by side from to r p true none ack = inr (refl, none, ack refl)
stale_by side from to r p false none ack = inl refl

at_receiver : (side : Side) (from to : ℕ) (r : Receiver) (p : PacketView) → r.phase ≡ Running → r.taken < 65536 → IsBehind (Receives r) p → IsStale side from to (Receives r) p (receiver_answer r p)
at_receiver side from to r (Data k payload) phase small old =
    rw (phase, eq_false k (r.taken + 1) (λ e. omega (arith, old)))
    (stale_by side from to r (Data k payload) (is_last_block r k payload) tt (λ e. packet_acks side from to r small (some_taken r k payload e)))
at_receiver side from to r (Oack o) phase small old =
    rw phase (stale_by side from to r (Oack o) ((r.taken == 0) && were_granted r.granted o) tt (λ e. packet_acks side from to r small (granted_once r.granted r.taken o e)))
at_receiver side from to r (Ack k) phase small old = absurd old
at_receiver side from to r (Rrq name o) phase small old = absurd old
at_receiver side from to r (Wrq name o) phase small old = absurd old
at_receiver side from to r (Error code m) phase small old = absurd old

at_sender : (side : Side) (from to : ℕ) (s : Sender) (p : PacketView) → s.phase ≡ Running → IsBehind (Sends s) p → IsStale side from to (Sends s) p (sender_answer s p)
at_sender side from to s (Ack k) phase old = rw (phase, eq_false k s.sent (λ e. omega (arith, old))) (inl refl)
at_sender side from to s (Oack o) phase old = rw phase (inl refl)
at_sender side from to s (Data k payload) phase old = absurd old
at_sender side from to s (Rrq name o) phase old = absurd old
at_sender side from to s (Wrq name o) phase old = absurd old
at_sender side from to s (Error code m) phase old = absurd old

pub behind_is_stale : BehindIsStale
behind_is_stale side from to (Receives r) p running old = at_receiver side from to r p running.0 running.1 old
behind_is_stale side from to (Sends s) p running old = at_sender side from to s p running old
