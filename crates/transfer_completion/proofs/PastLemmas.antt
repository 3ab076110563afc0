-- What was posted to an end before is old there, by its ports.
use Rattle.std.proofs.Common.{◌≡◌, ℕ, ◌+◌, ◌<◌, ◌≤◌, Bool, true, false, List, Option, Some, None, refl, sym, ap, subst, ◌∙◌, arith, inl, inr}
use Rattle.std.specs.Prelude.{Contains, ◌==◌, ◌&&◌}
use Rattle.std.proofs.lemmas.Bool.Decides.{eqb_tells}
use Rattle.exchange_trace.specs.declared.trace.Side.{Side}
use Rattle.exchange_trace.specs.Happenings.{DatagramView}
use Rattle.tftp_packet.specs.Packets.{PacketView, Rrq, Wrq, Data, Ack, Error, Oack}
use Rattle.tftp_link.specs.Answers.{Answer, Dropped, Again, Grants, TakesBlock, TakesLast, Proceeds, Completes, Fails}
use Rattle.transfer_end.specs.Transfers.{LinkEnd, Receives, Sends, begin_of, end_answer, end_packet}
use Rattle.transfer_end.specs.Views.{EndView, TransferView}
use Rattle.transfer_end.specs.Moves.{datagram}
use Rattle.transfer_end.specs.Packets.{belongs, is_busy, is_fresh, is_peer, packet_in}
use Rattle.transfer_completion.proofs.BlockLemmas.{lt_false, eq_true}
use Rattle.transfer_completion.specs.Laws.{IsNoAck, IsStale, PastIsOld, PastIsQuiet, PastRequestIsSpent}
use Rattle.transfer_completion.specs.Positions.{Position, Rests, HasAsked, IsIn, live_at, last_at, drawn, heard, IsLast, IsMark, IsReceiving, IsUnderway, IsKeptTransfer, StandsIn, IsBehindIn, was_asked, earlier, here, too_early}
use Rattle.transfer_completion.specs.Replies.{is_ack, acknowledges, weight, IsReplyTo, OldAnswer, OldToLive, OldRecall, OldToKept, IsOldPacket}
use Rattle.transfer_completion.proofs.ReplyLemmas.{old_is_quiet}
use Rattle.transfer_completion.proofs.StaleLemmas.{behind_is_stale}

-- a test that says yes
equal : (a b : ℕ) → (a == b) ≡ true → a ≡ b
equal a b e = elim (eqb_tells a b) [ inl h ↦ h.1 | inr h ↦ absurd cc ]

first_true : (a b : Bool) → (a && b) ≡ true → a ≡ true
first_true true b e = refl
first_true false b e = absurd cc

second_true : (a b : Bool) → (a && b) ≡ true → b ≡ true
second_true true b e = e
second_true false b e = absurd cc

to_own : (t : TransferView) (from to : ℕ) → belongs (Some t) from to ≡ true → to ≡ t.own
to_own t from to e = equal to t.own (first_true (to == t.own) (is_peer t.peer from) e)

from_peer : (t : TransferView) (peer from to : ℕ) → t.peer ≡ Some peer → belongs (Some t) from to ≡ true → from ≡ peer
from_peer t peer from to p e = sym (equal peer from (ap (λ (o : Option ℕ). is_peer o from) (sym p) ∙ second_true (to == t.own) (is_peer t.peer from) e))

-- ---- the kept transfer

recall : (side : Side) (P : DatagramView → Type 0) (t : TransferView) (from : ℕ) (a : Answer) → (a ≡ Again → P (datagram side t.own from (end_packet t.end))) → OldRecall side P t from a
recall side P t from Dropped has = tt
recall side P t from Again has = has refl
recall side P t from (Grants o) has = tt
recall side P t from (TakesBlock b) has = tt
recall side P t from (TakesLast b) has = tt
recall side P t from Proceeds has = tt
recall side P t from Completes has = tt
recall side P t from (Fails code) has = tt

no_ack : (p : PacketView) → IsNoAck p → is_ack (Some p) ≡ false
no_ack (Rrq name o) h = refl
no_ack (Wrq name o) h = refl
no_ack (Data k b) h = refl
no_ack (Ack k) h = absurd h
no_ack (Error code m) h = refl
no_ack (Oack o) h = refl

lighter : (d reply : DatagramView) (p : PacketView) → packet_in d.bytes ≡ Some p → IsNoAck p → acknowledges reply ≡ true → weight reply < weight d
lighter d reply p is h k = let f = ap is_ack is ∙ no_ack p h in rw (k, f) (one_less 1)
  where
    one_less : (n : ℕ) → n < n + 1
    one_less n = omega arith

again_no_ack : (end : LinkEnd) (p : PacketView) → IsReceiving end → end_answer end p ≡ Again → IsNoAck p
again_no_ack (Receives r) (Rrq name o) h e = tt
again_no_ack (Receives r) (Wrq name o) h e = tt
again_no_ack (Receives r) (Data k b) h e = tt
again_no_ack (Receives r) (Ack k) h e = absurd cc
again_no_ack (Receives r) (Error code m) h e = tt
again_no_ack (Receives r) (Oack o) h e = tt
again_no_ack (Sends s) p h e = absurd h

kept_recalls : (side : Side) (posts : List DatagramView) (d : DatagramView) (own peer count : ℕ) (kept : Option TransferView) (p : PacketView) → packet_in d.bytes ≡ Some p → IsKeptTransfer side posts own peer count kept → own ≤ d.to → belongs kept d.from d.to ≡ true
    → OldToKept side (IsReplyTo posts d) kept d.from p
kept_recalls side posts d own peer count None p is is_kept le e = tt
kept_recalls side posts d own peer count (Some t) p is (inl before) le e = let f = to_own t d.from d.to e in absurd (omega arith)
kept_recalls side posts d own peer count (Some t) p is (inr (j, lt, o, q, receives, has, ack)) le e =
    let f = from_peer t (peer + j) d.from d.to q e in
    recall side (IsReplyTo posts d) t d.from (end_answer t.end p) (λ again.
    subst (λ (x : ℕ). IsReplyTo posts d (datagram side x d.from (end_packet t.end))) (sym o)
    (subst (λ (x : ℕ). IsReplyTo posts d (datagram side (own + j) x (end_packet t.end))) (sym f)
    (has, lighter d (datagram side (own + j) (peer + j) (end_packet t.end)) p is (again_no_ack t.end p receives again) ack)))

-- ---- the live one

abbrev transfer : ℕ → Option ℕ → LinkEnd → TransferView
transfer own peer end = record { own = own; peer = peer; end = end }

old_here : (side : Side) (posts : List DatagramView) (d : DatagramView) (own peer : ℕ) (end : LinkEnd) (p : PacketView) (a : Answer) → packet_in d.bytes ≡ Some p → Contains posts (datagram side own peer (end_packet end)) → IsStale side own peer end p a → d.from ≡ peer
    → OldAnswer side (IsReplyTo posts d) (transfer own (Some peer) end) d.from a
old_here side posts d own peer end p a is has (inl dropped) e = rw dropped tt
old_here side posts d own peer end p a is has (inr (again, none, ack)) e =
    rw again (subst (λ (x : ℕ). IsReplyTo posts d (datagram side own x (end_packet end))) (sym e) (has, lighter d (datagram side own peer (end_packet end)) p is none ack))

here_old : (side : Side) (posts : List DatagramView) (d : DatagramView) (own peer : ℕ) (position : Position) (last : Option DatagramView) (p : PacketView) → packet_in d.bytes ≡ Some p → IsLast posts (last_at side position own peer) last → IsUnderway position
    → IsBehindIn position p → d.from ≡ peer → OldToLive side (IsReplyTo posts d) (live_at position own peer) d.from p
here_old side posts d own peer Rests last p is sent runs behind e = tt
here_old side posts d own peer (HasAsked role) last p is sent runs behind e = absurd behind
here_old side posts d own peer (IsIn end) last p is sent runs behind e = old_here side posts d own peer end p (end_answer end p) is sent.1 (behind_is_stale side own peer end p runs behind) e

-- a packet of another transfer isn't for it
not_live : (own peer i j : ℕ) (position : Position) (from to : ℕ) → j < i → to ≡ own + j → belongs (live_at position (own + i) (peer + i)) from to ≡ true → ⊥
not_live own peer i j Rests from to lt e b = absurd cc
not_live own peer i j (HasAsked role) from to lt e b = let f = to_own (transfer (own + i) None (begin_of role)) from to b in absurd (omega arith)
not_live own peer i j (IsIn end) from to lt e b = let f = to_own (transfer (own + i) (Some (peer + i)) end) from to b in absurd (omega arith)

not_59 : (a b : ℕ) → (a == 59) ≡ false → a ≡ 59 → ⊥
not_59 a b e f = let g = eq_true a 59 f in absurd cc

same_packet : (o : Option PacketView) (p q : PacketView) → o ≡ Some p → o ≡ Some q → p ≡ q
same_packet o p q e f = cc

earlier_old : (side : Side) (posts : List DatagramView) (d : DatagramView) (own peer i : ℕ) (position : Position) (v : EndView) (j : ℕ) (p : PacketView) → packet_in d.bytes ≡ Some p → StandsIn side posts own peer i position v → j < i → d.to ≡ own + j
    → IsOldPacket side v (IsReplyTo posts d) d.from d.to p
earlier_old side posts d own peer i position v j p is end lt e = record {
  live = λ b. absurd (not_live own peer i j position d.from d.to lt e (subst (λ (o : Option TransferView). belongs o d.from d.to ≡ true) end.live b));
  kept = λ isnt b. kept_recalls side posts d own peer (drawn position i) v.kept p is end.kept (omega arith) b;
}

now_old : (side : Side) (posts : List DatagramView) (d : DatagramView) (own peer i : ℕ) (position : Position) (v : EndView) (p : PacketView) → packet_in d.bytes ≡ Some p → StandsIn side posts own peer i position v → IsBehindIn position p
    → d.from ≡ peer + i → d.to ≡ own + i → IsOldPacket side v (IsReplyTo posts d) d.from d.to p
now_old side posts d own peer i position v p is end behind e f = record {
  live = λ b. subst (λ (o : Option TransferView). OldToLive side (IsReplyTo posts d) o d.from p) (sym end.live) (here_old side posts d (own + i) (peer + i) position v.last p is end.last end.underway behind e);
  kept = λ isnt b. kept_recalls side posts d own peer (drawn position i) v.kept p is end.kept (omega arith) b;
}

pub past_is_old : PastIsOld
past_is_old R E side posts own peer i position v d p end is (was_asked j q e r lt from to) isnt = absurd (not_59 d.to 0 isnt to)
past_is_old R E side posts own peer i position v d p end is (earlier j q e lt from to) isnt = earlier_old side posts d own peer i position v j p is end lt to
past_is_old R E side posts own peer i position v d p end is (here q e behind from to) isnt =
    now_old side posts d own peer i position v p is end (subst (λ (x : PacketView). IsBehindIn position x) (same_packet (packet_in d.bytes) q p e is) behind) from to
past_is_old R E side posts own peer i position v d p end is (too_early q e r link in_it to) isnt = absurd (not_59 d.to 0 isnt to)

-- and a request was taken up, or comes too early
spent_by : (v : EndView) (peer count j from : ℕ) → IsMark peer count v.mark → j < count → from ≡ peer + j → is_fresh v from ≡ false
spent_by v peer count j from mark lt e = let le = mark.all j lt in lt_false v.mark from (omega arith)

busy_by : (v : EndView) (own peer : ℕ) (position : Position) (end : LinkEnd) → v.live ≡ live_at position own peer → position ≡ IsIn end → is_busy v ≡ true
busy_by v own peer position end e f =
    ap (λ (o : Option TransferView). is_busy (record { next_port = v.next_port; mark = v.mark; live = o; kept = v.kept; retries = v.retries; last = v.last; asks_size = v.asks_size })) (e ∙ ap (λ (x : Position). live_at x own peer) f)

pub past_request_is_spent : PastRequestIsSpent
past_request_is_spent R E side posts own peer i position v d p end low is (was_asked j q e r lt from to) does =
    inl (spent_by v peer (heard position i) j d.from end.mark lt from, subst (λ (x : PacketView). R x ≡ true) (same_packet (packet_in d.bytes) q p e is) r)
past_request_is_spent R E side posts own peer i position v d p end low is (earlier j q e lt from to) does = let f = equal d.to 59 does in absurd (omega arith)
past_request_is_spent R E side posts own peer i position v d p end low is (here q e behind from to) does = let f = equal d.to 59 does in absurd (omega arith)
past_request_is_spent R E side posts own peer i position v d p end low is (too_early q e r link in_it to) does =
    inr (busy_by v (own + i) (peer + i) position link end.live in_it, subst (λ (x : PacketView). E x ≡ true) (same_packet (packet_in d.bytes) q p e is) r)

pub past_is_quiet : PastIsQuiet
past_is_quiet R E side posts own peer i position v d p end is past isnt = old_is_quiet side v (IsReplyTo posts d) d.from d.to p (past_is_old R E side posts own peer i position v d p end is past isnt)
