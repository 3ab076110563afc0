-- Proofs of what RFC 1350 asks of both ends of a transfer, and of ports.
use Rattle.std.proofs.Common.{◌≡◌, ◌⊎◌, inl, inr, ℕ, ◌+◌, Bool, true, false, cond, ◌&&◌, List, [], ◌∷◌, length, Option, Some, None, refl, sym, subst, ◌∙◌, arith}
use Rattle.std.specs.Prelude.{fold, ◌==◌, is_none}
use Rattle.std.proofs.Common.{add-one}
use Rattle.std.proofs.Math.Dec.{eqb-suc-zero}
use Rattle.exchange_trace.specs.declared.trace.Side.{Side}
use Rattle.exchange_trace.specs.Happenings.{DatagramView}
use Rattle.tftp_packet.specs.declared.options.Options.{Options}
use Rattle.tftp_packet.specs.Packets.{Ack, Data, Error, Oack, PacketView, Rrq, Wrq}
use Rattle.tftp_link.specs.declared.phase.Phase.{Phase}
use Rattle.tftp_link.specs.declared.phase.Phase.TheVariants.{Waiting, Running, Finished, Failed}
use Rattle.tftp_link.specs.Answers.{Again, Answer, Completes, Dropped, Fails, Grants, Proceeds, TakesBlock, TakesLast, error_answer, is_sent_by}
use Rattle.tftp_link.specs.Negotiation.{fits_said, may_grant}
use Rattle.tftp_link.specs.Receiver.{Receiver, receiver_after, receiver_after_all, receiver_answer, receiver_first, receiver_moved}
use Rattle.tftp_link.specs.Sender.{Sender, ack_answer, data_of, last_of, sender_after, sender_after_all, sender_moved, sender_oack_answer, sender_packet}
use Rattle.transfer_end.specs.Laws.{AcknowledgesTaken, CountUp, EndIsOfLink, MovesCountUp, PortsCountUp, SendsNextBlock}
use Rattle.transfer_end.specs.Moves.{Asks, Asks_size, Hears, Move, Recalls, Refuses, Repeats, Serves, Stops, past_with, reading_after, reading_answered, reading_unchanged}
use Rattle.transfer_end.specs.Readings.{Reading, port_past, port_with}
use Rattle.transfer_end.specs.Transfers.{Receives, Sends, Transfer, end_after, end_answer, end_of}

-- ---- the end of a transfer

receives_all : (r : Receiver) (got : List PacketView) → fold end_after (Receives r) got ≡ Receives (receiver_after_all r got)
receives_all r [] = refl
receives_all r (packet ∷ got) = receives_all (receiver_after r packet) got

sends_all : (s : Sender) (got : List PacketView) → fold end_after (Sends s) got ≡ Sends (sender_after_all s got)
sends_all s [] = refl
sends_all s (packet ∷ got) = sends_all (sender_after s packet) got

pub end_is_of_link : EndIsOfLink
unfolding end_of
end_is_of_link name file options got = (receives_all _ got, receives_all _ got, sends_all _ got, sends_all _ got)

-- ---- blocks and acknowledgements

-- an answer sends nothing
silent : (answer : Answer) (A : Type 0) → is_sent_by answer ≡ false → is_sent_by answer ≡ true → A
silent answer A off on = absurd (let wrong : false ≡ true = sym off ∙ on in cc)

abbrev NextBlock : Sender → Answer → Type 0
NextBlock s answer = is_sent_by answer ≡ true
    → ((sender_moved s answer).sent ≡ s.sent + 1) × (sender_packet (sender_moved s answer) ≡ data_of s.file (sender_moved s answer).size (s.sent + 1))

not_zero : (n : ℕ) → (n + 1 == 0) ≡ false
not_zero n = rw (add-one n) (eqb-suc-zero n)

chosen : (b : Bool) (x y : PacketView) → b ≡ false → cond b x y ≡ y
chosen true x y e = absurd cc
chosen false x y e = refl

-- what is sent of a sender whose counter was raised
raised : (s then : Sender) → then.sent ≡ s.sent + 1 → then.file ≡ s.file → sender_packet then ≡ data_of s.file then.size (s.sent + 1)
raised s then e f = chosen (then.sent == 0) _ _ (rw e (not_zero s.sent)) ∙ rw (e, f) refl

dropped_or : (s : Sender) (b : Bool) (answer : Answer) → NextBlock s answer → NextBlock s (cond b answer Dropped)
dropped_or s true answer h = h
dropped_or s false answer h = λ e. absurd cc

proceeds : (s : Sender) → NextBlock s Proceeds
proceeds s = λ e. (refl, raised s (sender_moved s Proceeds) refl refl)

grants : (s : Sender) (o : Options) → NextBlock s (Grants o)
grants s o = λ e. (refl, raised s (sender_moved s (Grants o)) refl refl)

completes_or : (s : Sender) (b : Bool) → NextBlock s (cond b Completes Proceeds)
completes_or s true = λ e. absurd cc
completes_or s false = proceeds s

ack_next : (s : Sender) (k : ℕ) (phase : Phase) → NextBlock s (ack_answer phase s k)
ack_next s k Waiting = dropped_or s (k == 0) Proceeds (proceeds s)
ack_next s k Running = dropped_or s (k == s.sent) _ (completes_or s (s.sent == last_of s))
ack_next s k Finished = λ e. absurd cc
ack_next s k (Failed code) = λ e. absurd cc

oack_next : (s : Sender) (o : Options) (phase : Phase) → NextBlock s (sender_oack_answer phase s o)
oack_next s o Waiting = dropped_or s (may_grant s.options o && fits_said (length s.file) o.blksize) (Grants o) (grants s o)
oack_next s o Running = λ e. absurd cc
oack_next s o Finished = λ e. absurd cc
oack_next s o (Failed code) = λ e. absurd cc

error_silent : (phase : Phase) (code : ℕ) → is_sent_by (error_answer phase code) ≡ false
error_silent Waiting code = refl
error_silent Running code = refl
error_silent Finished code = refl
error_silent (Failed before) code = refl

pub sends_next_block : SendsNextBlock
sends_next_block s (Ack k) = ack_next s k s.phase
sends_next_block s (Oack o) = oack_next s o s.phase
sends_next_block s (Error code m) = λ e. silent (error_answer s.phase code) _ (error_silent s.phase code) e
sends_next_block s (Data k b) = λ e. absurd cc
sends_next_block s (Rrq name o) = λ e. absurd cc
sends_next_block s (Wrq name o) = λ e. absurd cc

-- an end sends an acknowledgement of what it took last, or its first packet again
pub acknowledges_taken : AcknowledgesTaken
acknowledges_taken r packet = λ sent. by ((receiver_after r packet).taken == 0 && is_none (receiver_after r packet).granted) (receiver_after r packet) (same_first r (receiver_answer r packet))
  where
    by : (b : Bool) (then : Receiver) → receiver_first then ≡ receiver_first r
        → (cond b (receiver_first then) (Ack then.taken) ≡ Ack then.taken) ⊎ (cond b (receiver_first then) (Ack then.taken) ≡ receiver_first r)
    by true then e = inr e
    by false then e = inl refl

    same_first : (r : Receiver) (answer : Answer) → receiver_first (receiver_moved r answer) ≡ receiver_first r
    same_first r Dropped = refl
    same_first r Again = refl
    same_first r (Grants o) = refl
    same_first r (TakesBlock b) = refl
    same_first r (TakesLast b) = refl
    same_first r Proceeds = refl
    same_first r Completes = refl
    same_first r (Fails code) = refl

-- ---- ports

port_is : (first_port : ℕ) (past : List Transfer) → port_past first_port past ≡ first_port + length past
port_is first_port [] = omega arith
port_is first_port (t ∷ past) = let e = port_is first_port past in omega arith

port_with_is : (first_port : ℕ) (past : List Transfer) (live : Option Transfer) → port_with (port_past first_port past) live ≡ first_port + length (past_with live past)
port_with_is first_port past None = port_is first_port past
port_with_is first_port past (Some t) = let e = port_is first_port past in omega arith

abbrev reading : ℕ → List Transfer → Option Transfer → ℕ → Option DatagramView → Option ℕ → Reading
reading first_port past live ticks last size = record { first_port = first_port; past = past; live = live; ticks = ticks; last = last; asks_size = size }

-- a transfer with one packet more has its own port
unchanged_counts : (r : Reading) (t : Transfer) (from : ℕ) (packet : PacketView) (peer : Option ℕ) → r.live ≡ Some t → PortsCountUp r → PortsCountUp (reading_unchanged r t from packet peer)
unchanged_counts r t from packet None live h = h
unchanged_counts r t from packet (Some peer) live h = let g : CountUp r.first_port (t ∷ r.past) = subst (λ (x : Option Transfer). CountUp r.first_port (past_with x r.past)) live h in (g.0, g.1)

answered_counts : (side : Side) (r : Reading) (t : Transfer) (from : ℕ) (packet : PacketView) (answer : Answer) → r.live ≡ Some t → PortsCountUp r → PortsCountUp (reading_answered side r t from packet answer)
answered_counts side r t from packet Dropped live h = unchanged_counts r t from packet t.peer live h
answered_counts side r t from packet Again live h = unchanged_counts r t from packet t.peer live h
answered_counts side r t from packet (Grants o) live h = let g : CountUp r.first_port (t ∷ r.past) = subst (λ (x : Option Transfer). CountUp r.first_port (past_with x r.past)) live h in (g.0, g.1)
answered_counts side r t from packet (TakesBlock b) live h = let g : CountUp r.first_port (t ∷ r.past) = subst (λ (x : Option Transfer). CountUp r.first_port (past_with x r.past)) live h in (g.0, g.1)
answered_counts side r t from packet (TakesLast b) live h = let g : CountUp r.first_port (t ∷ r.past) = subst (λ (x : Option Transfer). CountUp r.first_port (past_with x r.past)) live h in (g.0, g.1)
answered_counts side r t from packet Proceeds live h = let g : CountUp r.first_port (t ∷ r.past) = subst (λ (x : Option Transfer). CountUp r.first_port (past_with x r.past)) live h in (g.0, g.1)
answered_counts side r t from packet Completes live h = let g : CountUp r.first_port (t ∷ r.past) = subst (λ (x : Option Transfer). CountUp r.first_port (past_with x r.past)) live h in (g.0, g.1)
answered_counts side r t from packet (Fails code) live h = let g : CountUp r.first_port (t ∷ r.past) = subst (λ (x : Option Transfer). CountUp r.first_port (past_with x r.past)) live h in (g.0, g.1)

move_counts : (side : Side) (first_port : ℕ) (past : List Transfer) (live : Option Transfer) (ticks : ℕ) (last : Option DatagramView) (size : Option ℕ) (move : Move)
    → PortsCountUp (reading first_port past live ticks last size) → PortsCountUp (reading_after side (reading first_port past live ticks last size) move)
move_counts side first_port past None ticks last size (Hears from packet) h = h
move_counts side first_port past (Some t) ticks last size (Hears from packet) h =
    answered_counts side (reading first_port past (Some t) ticks last size) t from packet (end_answer (end_of t.role t.got) packet) refl h
move_counts side first_port past live ticks last size (Recalls from packet) h = h
move_counts side first_port past live ticks last size (Asks role) h = (port_with_is first_port past live, h)
move_counts side first_port past live ticks last size (Serves from role) h = (port_with_is first_port past live, h)
move_counts side first_port past live ticks last size (Refuses from) h = h
move_counts side first_port past live ticks last size Repeats h = h
move_counts side first_port past None ticks last size Stops h = h
move_counts side first_port past (Some t) ticks last size Stops h = h
move_counts side first_port past live ticks last size (Asks_size n) h = h

pub moves_count_up : MovesCountUp
moves_count_up side r [] h = h
moves_count_up side r (move ∷ moves) h = moves_count_up side (reading_after side r move) moves (move_counts side r.first_port r.past r.live r.ticks r.last r.asks_size move h)
