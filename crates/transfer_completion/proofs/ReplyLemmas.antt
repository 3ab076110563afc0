-- What changes nothing at an end.
use Rattle.std.proofs.Common.{◌≡◌, Bool, true, false, cond, ℕ, [], ◌∷◌, ◌++◌, Option, Some, None, refl}
use Rattle.exchange_trace.specs.declared.trace.Side.{Side}
use Rattle.exchange_trace.specs.Happenings.{DatagramView}
use Rattle.tftp_packet.specs.Packets.{PacketView}
use Rattle.tftp_link.specs.Answers.{Answer, Dropped, Again, Grants, TakesBlock, TakesLast, Proceeds, Completes, Fails}
use Rattle.transfer_end.specs.Transfers.{LinkEnd, Receives, Sends, end_answer, end_moved, end_packet}
use Rattle.transfer_end.specs.Views.{EndView, TransferView}
use Rattle.transfer_end.specs.Moves.{Hears, Recalls, heard_post, kept_post, live_post, recalled_post, view_answered, view_heard}
use Rattle.transfer_end.specs.Packets.{answer_of, belongs, transfer_moves}
use Rattle.transfer_completion.specs.Replies.{Replies, OldAnswer, OldToLive, OldRecall, OldToKept, IsOldPacket, AreQuiet}

again_same : (end : LinkEnd) → end_packet (end_moved end Again) ≡ end_packet end
again_same (Receives r) = refl
again_same (Sends s) = refl

heard_old : (side : Side) (v : EndView) (MayReply : DatagramView → Type 0) (t : TransferView) (from : ℕ) (a : Answer) → OldAnswer side MayReply t from a
    → (view_answered side v t from a ≡ v) × Replies MayReply (heard_post side t from a ++ [])
heard_old side v MayReply t from Dropped old = (refl, tt)
heard_old side v MayReply t from Again old = (refl, rw again_same old)
heard_old side v MayReply t from (Grants o) old = absurd old
heard_old side v MayReply t from (TakesBlock b) old = absurd old
heard_old side v MayReply t from (TakesLast b) old = absurd old
heard_old side v MayReply t from Proceeds old = absurd old
heard_old side v MayReply t from Completes old = absurd old
heard_old side v MayReply t from (Fails code) old = absurd old

live_old : (side : Side) (v : EndView) (MayReply : DatagramView → Type 0) (live : Option TransferView) (from : ℕ) (p : PacketView) → OldToLive side MayReply live from p
    → (view_heard side v live from p ≡ v) × Replies MayReply (live_post side live from p ++ [])
live_old side v MayReply None from p old = (refl, tt)
live_old side v MayReply (Some t) from p old = heard_old side v MayReply t from (end_answer t.end p) old

recall_old : (side : Side) (MayReply : DatagramView → Type 0) (t : TransferView) (from : ℕ) (a : Answer) → OldRecall side MayReply t from a → Replies MayReply (recalled_post side t from a ++ [])
recall_old side MayReply t from Dropped old = tt
recall_old side MayReply t from Again old = old
recall_old side MayReply t from (Grants o) old = tt
recall_old side MayReply t from (TakesBlock b) old = tt
recall_old side MayReply t from (TakesLast b) old = tt
recall_old side MayReply t from Proceeds old = tt
recall_old side MayReply t from Completes old = tt
recall_old side MayReply t from (Fails code) old = tt

kept_old : (side : Side) (MayReply : DatagramView → Type 0) (kept : Option TransferView) (from : ℕ) (p : PacketView) → OldToKept side MayReply kept from p → Replies MayReply (kept_post side kept from p ++ [])
kept_old side MayReply None from p old = tt
kept_old side MayReply (Some t) from p old = recall_old side MayReply t from (end_answer t.end p) old

moves_old : (side : Side) (v : EndView) (MayReply : DatagramView → Type 0) (from : ℕ) (p : PacketView) (b c : Bool)
    → (b ≡ true → OldToLive side MayReply v.live from p) → (b ≡ false → c ≡ true → OldToKept side MayReply v.kept from p)
    → AreQuiet side v MayReply (cond b (Hears from p ∷ []) (cond c (Recalls from p ∷ []) []))
moves_old side v MayReply from p true c live kept = live_old side v MayReply v.live from p (live refl)
moves_old side v MayReply from p false true live kept = (refl, kept_old side MayReply v.kept from p (kept refl refl))
moves_old side v MayReply from p false false live kept = (refl, tt)

-- Such a packet changes nothing at an end, and is answered by nothing or by one such datagram.
pub old_is_quiet : (side : Side) (v : EndView) (MayReply : DatagramView → Type 0) (from to : ℕ) (p : PacketView) → IsOldPacket side v MayReply from to p → AreQuiet side v MayReply (transfer_moves v from to p)
old_is_quiet side v MayReply from to p old = moves_old side v MayReply from p (belongs v.live from to) (belongs v.kept from to) old.live old.kept

-- ---- and it isn't awaited

abbrev pub IsDroppedOrAgain : Answer → Type 0
IsDroppedOrAgain Dropped = Unit {0}
IsDroppedOrAgain Again = Unit {0}
IsDroppedOrAgain a = ⊥

old_answer : (side : Side) (MayReply : DatagramView → Type 0) (t : TransferView) (from : ℕ) (a : Answer) → OldAnswer side MayReply t from a → IsDroppedOrAgain a
old_answer side MayReply t from Dropped old = tt
old_answer side MayReply t from Again old = tt
old_answer side MayReply t from (Grants o) old = absurd old
old_answer side MayReply t from (TakesBlock b) old = absurd old
old_answer side MayReply t from (TakesLast b) old = absurd old
old_answer side MayReply t from Proceeds old = absurd old
old_answer side MayReply t from Completes old = absurd old
old_answer side MayReply t from (Fails code) old = absurd old

old_to_live : (side : Side) (MayReply : DatagramView → Type 0) (live : Option TransferView) (from : ℕ) (p : PacketView) → OldToLive side MayReply live from p → IsDroppedOrAgain (answer_of live p)
old_to_live side MayReply None from p old = tt
old_to_live side MayReply (Some t) from p old = old_answer side MayReply t from (end_answer t.end p) old

pub old_is_not_awaited : (side : Side) (MayReply : DatagramView → Type 0) (live : Option TransferView) (from : ℕ) (p : PacketView) (b : Bool) → (b ≡ true → OldToLive side MayReply live from p)
    → IsDroppedOrAgain (cond b (answer_of live p) Dropped)
old_is_not_awaited side MayReply live from p true old = old_to_live side MayReply live from p (old refl)
old_is_not_awaited side MayReply live from p false old = tt
