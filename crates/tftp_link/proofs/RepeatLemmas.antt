-- What packets that come again, early or late are, and ERRORs.
use Rattle.std.proofs.Common.{◌≡◌, ℕ, ◌+◌, ◌≤◌, Bool, true, false, cond, eqb, ◌&&◌, List, length, Option, Some, None, refl, ap, ◌∙◌, arith}
use Rattle.std.specs.Prelude.{◌==◌, ◌↔◌, nat_lt}
use Rattle.std.proofs.lemmas.Bool.{eqb-true, eq-eqb}
use Rattle.tftp_packet.specs.declared.options.Options.{Options}
use Rattle.tftp_packet.specs.Packets.{Rrq, Wrq, Data, Ack, Error, Oack}
use Rattle.tftp_link.specs.declared.phase.Phase.{Phase}
use Rattle.tftp_link.specs.declared.phase.Phase.TheVariants.{Waiting, Running, Finished, Failed}
use Rattle.tftp_link.specs.Negotiation.{may_grant, fits_said, same_number, same_options}
use Rattle.tftp_link.specs.Answers.{Answer, Dropped, Again, Grants, TakesBlock, TakesLast, Proceeds, Completes, is_live, error_answer}
use Rattle.tftp_link.specs.Receiver.{Receiver, receiver_asking, receiver_answer, receiver_moved, data_answer, taken_answer, is_next_block, is_last_block, receiver_oack_answer, were_granted}
use Rattle.tftp_link.specs.Sender.{Sender, sender_answer, sender_moved, ack_answer, awaited_answer, sender_oack_answer, last_of}
use Rattle.tftp_link.specs.Laws.{DuplicateAckIsDropped, OtherAckIsDropped, OackIsAcknowledgedAgain, LateOackIsDropped, FailsWith, ReceiverFailsAtError, SenderFailsAtError}

-- ---- ACKs

not_equal : (x y : ℕ) → (x ≡ y → ⊥) → eqb x y ≡ false
not_equal x y other = by_value (eqb x y) refl
  where
    by_value : (t : Bool) → eqb x y ≡ t → eqb x y ≡ false
    by_value true e = absurd (other (eqb-true x y e))
    by_value false e = e

abbrev in_phase : Sender → ℕ → Phase → Sender
in_phase s n phase = record { name = s.name; file = s.file; options = s.options; size = s.size; sent = n; phase = phase }

next_drops : (s : Sender) (k : ℕ) → (k ≡ s.sent + 1 → ⊥) → sender_answer (in_phase s (s.sent + 1) Running) (Ack k) ≡ Dropped
next_drops s k other = ap (λ (t : Bool). cond t (awaited_answer (in_phase s (s.sent + 1) Running)) Dropped) (not_equal k (s.sent + 1) other)

awaited_drops : (s : Sender) (k : ℕ) (b : Bool) → k ≡ s.sent → sender_answer (sender_moved s (cond b Completes Proceeds)) (Ack k) ≡ Dropped
awaited_drops s k true e = refl
awaited_drops s k false e = next_drops s k (λ f. absurd (apart f))
  where
    apart : k ≡ s.sent + 1 → ⊥
    apart f = omega (arith, e)

running_drops : (s : Sender) (k : ℕ) (t : Bool) → eqb k s.sent ≡ t → s.phase ≡ Running
    → sender_answer (sender_moved s (cond t (awaited_answer s) Dropped)) (Ack k) ≡ Dropped
running_drops s k true e live = awaited_drops s k (s.sent == last_of s) (eqb-true k s.sent e)
running_drops s k false e live =
    ap (λ (phase : Phase). ack_answer phase s k) live ∙ ap (λ (t : Bool). cond t (awaited_answer s) Dropped) e

waiting_drops : (s : Sender) (k : ℕ) (t : Bool) → eqb k 0 ≡ t → s.phase ≡ Waiting → sender_answer (sender_moved s (cond t Proceeds Dropped)) (Ack k) ≡ Dropped
waiting_drops s k true e live = next_drops s k (λ f. absurd (apart (eqb-true k 0 e) f))
  where
    apart : k ≡ 0 → k ≡ s.sent + 1 → ⊥
    apart z f = omega arith
waiting_drops s k false e live = ap (λ (phase : Phase). ack_answer phase s k) live ∙ ap (λ (t : Bool). cond t Proceeds Dropped) e

drops_again : (s : Sender) (k : ℕ) (phase : Phase) → s.phase ≡ phase → sender_answer (sender_moved s (ack_answer phase s k)) (Ack k) ≡ Dropped
drops_again s k Waiting e = waiting_drops s k (k == 0) refl e
drops_again s k Running e = running_drops s k (k == s.sent) refl e
drops_again s k Finished e = ap (λ (phase : Phase). ack_answer phase s k) e
drops_again s k (Failed code) e = ap (λ (phase : Phase). ack_answer phase s k) e

pub duplicate_ack_is_dropped : DuplicateAckIsDropped
duplicate_ack_is_dropped s k = drops_again s k s.phase refl

pub other_ack_is_dropped : OtherAckIsDropped
other_ack_is_dropped s k live other =
    ap (λ (phase : Phase). ack_answer phase s k) live ∙ ap (λ (t : Bool). cond t (awaited_answer s) Dropped) (not_equal k s.sent other)

-- ---- OACKs

same_itself : (n : Option ℕ) → same_number n n ≡ true
same_itself None = refl
same_itself (Some n) = eq-eqb n n refl

options_same : (o : Options) → same_options o o ≡ true
options_same o = rw (same_itself o.blksize, same_itself o.timeout, same_itself o.tsize) refl

pub oack_is_acknowledged_again : OackIsAcknowledgedAgain
oack_is_acknowledged_again name asked granted may =
    let first : receiver_answer (receiver_asking name asked) (Oack granted) ≡ Grants granted = ap (λ (t : Bool). cond t (Grants granted) Dropped) may in
    ap (λ (a : Answer). receiver_answer (receiver_moved (receiver_asking name asked) a) (Oack granted)) first
    ∙ ap (λ (t : Bool). cond t Again Dropped) (options_same granted)

late_oack : (phase : Phase) (r : Receiver) (o : Options) → r.phase ≡ phase → (r.phase ≡ Waiting → ⊥) → 1 ≤ r.taken → receiver_oack_answer phase r o ≡ Dropped
late_oack Waiting r o e answered some = absurd (answered e)
late_oack Running r o e answered some = ap (λ (t : Bool). cond (t && were_granted r.granted o) Again Dropped) (not_equal r.taken 0 (λ z. absurd (none z)))
  where
    none : r.taken ≡ 0 → ⊥
    none z = omega (arith, some)
late_oack Finished r o e answered some = refl
late_oack (Failed code) r o e answered some = refl

pub late_oack_is_dropped : LateOackIsDropped
late_oack_is_dropped r o answered some = late_oack r.phase r o refl answered some

-- ---- ERRORs

error_fails : (phase : Phase) (found code : ℕ) → FailsWith code (error_answer phase found) ↔ ((is_live phase ≡ true) × (found ≡ code))
error_fails Waiting found code = (λ h. (refl, h), λ (live, h). h)
error_fails Running found code = (λ h. (refl, h), λ (live, h). h)
error_fails Finished found code = (λ h. absurd h, λ (live, h). absurd cc)
error_fails (Failed before) found code = (λ h. absurd h, λ (live, h). absurd cc)

again_fails_not : (code : ℕ) (l : Bool) → FailsWith code (cond l Again Dropped) → ⊥
again_fails_not code true h = h
again_fails_not code false h = h

grant_fails_not : (code : ℕ) (l : Bool) (o : Options) → FailsWith code (cond l (Grants o) Dropped) → ⊥
grant_fails_not code true o h = h
grant_fails_not code false o h = h

taken_fails_not : (code : ℕ) (s : Bool) (b : List ℕ) → FailsWith code (cond s (TakesLast b) (TakesBlock b)) → ⊥
taken_fails_not code true b h = h
taken_fails_not code false b h = h

next_fails_not : (code : ℕ) (r : Receiver) (b : List ℕ) (t l : Bool) → FailsWith code (cond t (taken_answer r b) (cond l Again Dropped)) → ⊥
next_fails_not code r b true l h = taken_fails_not code (nat_lt (length b) r.size) b h
next_fails_not code r b false l h = again_fails_not code l h

data_fails_not : (code : ℕ) (phase : Phase) (r : Receiver) (k : ℕ) (b : List ℕ) → FailsWith code (data_answer phase r k b) → ⊥
data_fails_not code Waiting r k b h = next_fails_not code r b (is_next_block r k b) false h
data_fails_not code Running r k b h = next_fails_not code r b (is_next_block r k b) (is_last_block r k b) h
data_fails_not code Finished r k b h = again_fails_not code (is_last_block r k b) h
data_fails_not code (Failed before) r k b h = h

oack_fails_not : (code : ℕ) (phase : Phase) (r : Receiver) (o : Options) → FailsWith code (receiver_oack_answer phase r o) → ⊥
oack_fails_not code Waiting r o h = grant_fails_not code (may_grant r.asked o) o h
oack_fails_not code Running r o h = again_fails_not code ((r.taken == 0) && were_granted r.granted o) h
oack_fails_not code Finished r o h = h
oack_fails_not code (Failed before) r o h = h

pub receiver_fails_at_error : ReceiverFailsAtError
receiver_fails_at_error r (Error found m) code = error_fails r.phase found code
receiver_fails_at_error r (Data k b) code = (λ h. absurd (data_fails_not code r.phase r k b h), λ (live, h). absurd h)
receiver_fails_at_error r (Oack o) code = (λ h. absurd (oack_fails_not code r.phase r o h), λ (live, h). absurd h)
receiver_fails_at_error r (Ack k) code = (λ h. absurd h, λ (live, h). absurd h)
receiver_fails_at_error r (Rrq name o) code = (λ h. absurd h, λ (live, h). absurd h)
receiver_fails_at_error r (Wrq name o) code = (λ h. absurd h, λ (live, h). absurd h)

awaited_fails_not : (code : ℕ) (b : Bool) → FailsWith code (cond b Completes Proceeds) → ⊥
awaited_fails_not code true h = h
awaited_fails_not code false h = h

ack_fails_not : (code : ℕ) (s : Sender) (k : ℕ) (phase : Phase) → FailsWith code (ack_answer phase s k) → ⊥
ack_fails_not code s k Waiting h = at_start (k == 0) h
  where
    at_start : (t : Bool) → FailsWith code (cond t Proceeds Dropped) → ⊥
    at_start true i = i
    at_start false i = i
ack_fails_not code s k Running h = at_last (k == s.sent) h
  where
    at_last : (t : Bool) → FailsWith code (cond t (awaited_answer s) Dropped) → ⊥
    at_last true i = awaited_fails_not code (s.sent == last_of s) i
    at_last false i = i
ack_fails_not code s k Finished h = h
ack_fails_not code s k (Failed before) h = h

sender_oack_fails_not : (code : ℕ) (s : Sender) (o : Options) (phase : Phase) → FailsWith code (sender_oack_answer phase s o) → ⊥
sender_oack_fails_not code s o Waiting h = grant_fails_not code (may_grant s.options o && fits_said (length s.file) o.blksize) o h
sender_oack_fails_not code s o Running h = h
sender_oack_fails_not code s o Finished h = h
sender_oack_fails_not code s o (Failed before) h = h

pub sender_fails_at_error : SenderFailsAtError
sender_fails_at_error s (Error found m) code = error_fails s.phase found code
sender_fails_at_error s (Ack k) code = (λ h. absurd (ack_fails_not code s k s.phase h), λ (live, h). absurd h)
sender_fails_at_error s (Oack o) code = (λ h. absurd (sender_oack_fails_not code s o s.phase h), λ (live, h). absurd h)
sender_fails_at_error s (Data k b) code = (λ h. absurd h, λ (live, h). absurd h)
sender_fails_at_error s (Rrq name o) code = (λ h. absurd h, λ (live, h). absurd h)
sender_fails_at_error s (Wrq name o) code = (λ h. absurd h, λ (live, h). absurd h)
