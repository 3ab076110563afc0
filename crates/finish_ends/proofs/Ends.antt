-- What is left of a transfer, and what uses it up.
use Rattle.std.proofs.Common.{◌≡◌, ℕ, ◌+◌, ◌-◌, ◌<◌, ◌≤◌, Bool, true, false, cond, ◌&&◌, List, length, Option, Some, None, refl, arith}
use Rattle.std.specs.Prelude.{nat_lt, nat_le, ◌==◌, ◌||◌, is_none}
use Rattle.std.proofs.lemmas.Bool.{and_parts, eqb-true, ltb-true}
use Rattle.tftp_packet.specs.declared.options.Options.{Options}
use Rattle.tftp_packet.specs.Packets.{Ack, Data, Error, Oack, PacketView, Rrq, Wrq}
use Rattle.tftp_link.specs.declared.phase.Phase.{Phase}
use Rattle.tftp_link.specs.declared.phase.Phase.TheVariants.{Waiting, Running, Finished, Failed}
use Rattle.tftp_link.specs.Answers.{Again, Answer, Completes, Grants, Proceeds, TakesBlock, error_answer}
use Rattle.tftp_link.specs.Blocks.{is_block}
use Rattle.tftp_link.specs.Negotiation.{fits_said, may_grant}
use Rattle.tftp_link.specs.Receiver.{Receiver, data_answer, is_last_block, is_next_block, receiver_first, receiver_oack_answer, taken_answer, were_granted}
use Rattle.tftp_link.specs.Sender.{Sender, ack_answer, last_of, sender_oack_answer}
use Rattle.transfer_end.specs.Transfers.{LinkEnd, Reads, Receives, Role, Sends, ServesRead, ServesWrite, Writes, begin_of, end_answer, end_moved, end_packet}
use Rattle.transfer_completion.proofs.BlockLemmas.{eq_false}
use Rattle.finish_ends.proofs.Weights.{IsNumbered, is_reply}

-- ---- the blocks that are left

abbrev pub unanswered : Phase → ℕ
unanswered Waiting = 1
unanswered phase = 0

abbrev pub blocks_left : LinkEnd → ℕ
blocks_left (Receives r) = unanswered r.phase + (65535 - r.taken)
blocks_left (Sends s) = unanswered s.phase + (65536 - s.sent)

pub begin_blocks : (role : Role) → blocks_left (begin_of role) ≤ 65537
begin_blocks (Reads name options) = omega arith
begin_blocks (Writes name options file) = omega arith
begin_blocks (ServesRead name options file) = omega arith
begin_blocks (ServesWrite name options) = omega arith

-- what comes again is acknowledged, and is no acknowledgement itself
pub record IsAcked (end : LinkEnd) (p : PacketView) : Type 0 where
  pub k : ℕ
  pub small : k < 65536
  pub is : end_packet end ≡ Ack k
  pub calls : is_reply (Some p) ≡ false

-- by what a packet is: where the transfer goes on, fewer blocks are left
abbrev pub Uses : LinkEnd → PacketView → Answer → Type 0
Uses end p Again = IsAcked end p
Uses end p (Grants o) = blocks_left (end_moved end (Grants o)) < blocks_left end
Uses end p (TakesBlock b) = blocks_left (end_moved end (TakesBlock b)) < blocks_left end
Uses end p Proceeds = blocks_left (end_moved end Proceeds) < blocks_left end
Uses end p a = Unit {0}

uses_if : (end : LinkEnd) (p : PacketView) (b : Bool) (x y : Answer) → (b ≡ true → Uses end p x) → (b ≡ false → Uses end p y) → Uses end p (cond b x y)
uses_if end p true x y f g = f refl
uses_if end p false x y f g = g refl

error_uses : (end : LinkEnd) (p : PacketView) (code : ℕ) (phase : Phase) → Uses end p (error_answer phase code)
error_uses end p code Waiting = tt
error_uses end p code Running = tt
error_uses end p code Finished = tt
error_uses end p code (Failed before) = tt

-- ---- the receiving end

or_second : (a b : Bool) → a ≡ false → (a || b) ≡ true → b ≡ true
or_second true b e f = absurd cc
or_second false b e f = f

not_zero : (n : ℕ) → 0 < n → (n == 0) ≡ false
not_zero n lt = eq_false n 0 (λ e. omega (arith, lt, e))

module _ (r : Receiver) (k : ℕ) (payload : List ℕ) (small : k < 65536) where
  taken_uses : is_next_block r k payload ≡ true → Uses (Receives r) (Data k payload) (taken_answer r payload)
  taken_uses next = uses_if (Receives r) (Data k payload) (nat_lt (length payload) r.size) _ _ (λ short. tt) (λ full. fewer (is_full full))
    where
      parts : ((k == r.taken + 1) ≡ true) × (is_block r.size k payload ≡ true)
      parts = and_parts (k == r.taken + 1) (is_block r.size k payload) next

      is_full : nat_lt (length payload) r.size ≡ false → k < 65535
      is_full full = ltb-true k 65535 (and_parts (length payload == r.size) (nat_lt k 65535) (or_second (nat_lt (length payload) r.size) ((length payload == r.size) && nat_lt k 65535) full parts.1)).1

      fewer : k < 65535 → 0 + (65535 - (r.taken + 1)) < unanswered r.phase + (65535 - r.taken)
      fewer lt = let same = eqb-true k (r.taken + 1) parts.0 in omega (arith, lt, same)

  again_uses : is_last_block r k payload ≡ true → IsAcked (Receives r) (Data k payload)
  again_uses last =
      let (some, both) = and_parts (nat_lt 0 r.taken) ((k == r.taken) && nat_le (length payload) r.size) last in
      let (same, le) = and_parts (k == r.taken) (nat_le (length payload) r.size) both in
      let e = eqb-true k r.taken same in
      record { k = r.taken; small = omega (arith, small, e); is = acked r.taken some; calls = refl }
    where
      acked : (n : ℕ) → nat_lt 0 n ≡ true → cond ((n == 0) && is_none r.granted) (receiver_first r) (Ack n) ≡ Ack n
      acked n some = rw (not_zero n (ltb-true 0 n some)) refl

  data_uses : (phase : Phase) → Uses (Receives r) (Data k payload) (data_answer phase r k payload)
  data_uses Waiting = uses_if (Receives r) (Data k payload) (is_next_block r k payload) _ _ taken_uses (λ e. tt)
  data_uses Running = uses_if (Receives r) (Data k payload) (is_next_block r k payload) _ _ taken_uses (λ e. uses_if (Receives r) (Data k payload) (is_last_block r k payload) _ _ again_uses (λ f. tt))
  data_uses Finished = uses_if (Receives r) (Data k payload) (is_last_block r k payload) _ _ again_uses (λ e. tt)
  data_uses (Failed code) = tt

less_waiting : (phase : Phase) (n : ℕ) → phase ≡ Waiting → 0 + n < unanswered phase + n
less_waiting phase n e = rw e (omega arith)

module _ (r : Receiver) (o : Options) where
  oack_again : ((r.taken == 0) && were_granted r.granted o) ≡ true → IsAcked (Receives r) (Oack o)
  oack_again is =
      let (none, granted) = and_parts (r.taken == 0) (were_granted r.granted o) is in
      let e = eqb-true r.taken 0 none in
      record { k = r.taken; small = omega (arith, e); is = acked r.granted granted; calls = refl }
    where
      unasked : (b : Bool) → cond (b && false) (receiver_first r) (Ack r.taken) ≡ Ack r.taken
      unasked true = refl
      unasked false = refl

      acked : (granted : Option Options) → were_granted granted o ≡ true → cond ((r.taken == 0) && is_none granted) (receiver_first r) (Ack r.taken) ≡ Ack r.taken
      acked None e = absurd cc
      acked (Some g) e = unasked (r.taken == 0)

  oack_uses : (phase : Phase) → r.phase ≡ phase → Uses (Receives r) (Oack o) (receiver_oack_answer phase r o)
  oack_uses Waiting e = uses_if (Receives r) (Oack o) (may_grant r.asked o) _ _ (λ f. less_waiting r.phase (65535 - r.taken) e) (λ f. tt)
  oack_uses Running e = uses_if (Receives r) (Oack o) ((r.taken == 0) && were_granted r.granted o) _ _ oack_again (λ f. tt)
  oack_uses Finished e = tt
  oack_uses (Failed code) e = tt

-- ---- the sending end

less_opened : (phase : Phase) (n : ℕ) → phase ≡ Waiting → 0 + (65536 - (n + 1)) < unanswered phase + (65536 - n)
less_opened phase n e = rw e (omega arith)

module _ (s : Sender) where
  ack_uses : (k : ℕ) → k < 65536 → (phase : Phase) → s.phase ≡ phase → Uses (Sends s) (Ack k) (ack_answer phase s k)
  ack_uses k small Waiting e = uses_if (Sends s) (Ack k) (k == 0) _ _ (λ f. less_opened s.phase s.sent e) (λ f. tt)
  ack_uses k small Running e =
      uses_if (Sends s) (Ack k) (k == s.sent) _ _
      (λ same. uses_if (Sends s) (Ack k) (s.sent == last_of s) Completes Proceeds (λ f. tt) (λ f. goes (eqb-true k s.sent same)))
      (λ f. tt)
    where
      goes : k ≡ s.sent → 0 + (65536 - (s.sent + 1)) < unanswered s.phase + (65536 - s.sent)
      goes same = omega (arith, small, same)
  ack_uses k small Finished e = tt
  ack_uses k small (Failed code) e = tt

  granted_uses : (o : Options) (phase : Phase) → s.phase ≡ phase → Uses (Sends s) (Oack o) (sender_oack_answer phase s o)
  granted_uses o Waiting e = uses_if (Sends s) (Oack o) (may_grant s.options o && fits_said (length s.file) o.blksize) _ _ (λ f. less_opened s.phase s.sent e) (λ f. tt)
  granted_uses o Running e = tt
  granted_uses o Finished e = tt
  granted_uses o (Failed code) e = tt

-- ---- either end

pub uses : (end : LinkEnd) (p : PacketView) → IsNumbered p → Uses end p (end_answer end p)
uses (Receives r) (Rrq name o) n = tt
uses (Receives r) (Wrq name o) n = tt
uses (Receives r) (Data k b) n = data_uses r k b n r.phase
uses (Receives r) (Ack k) n = tt
uses (Receives r) (Error code m) n = error_uses (Receives r) (Error code m) code r.phase
uses (Receives r) (Oack o) n = oack_uses r o r.phase refl
uses (Sends s) (Rrq name o) n = tt
uses (Sends s) (Wrq name o) n = tt
uses (Sends s) (Data k b) n = tt
uses (Sends s) (Ack k) n = ack_uses s k n s.phase refl
uses (Sends s) (Error code m) n = error_uses (Sends s) (Error code m) code s.phase
uses (Sends s) (Oack o) n = granted_uses s o s.phase refl
