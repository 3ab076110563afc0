-- Proofs that what moves post goes where it may.
use Rattle.std.proofs.Common.{◌≡◌, inl, inr, ℕ, Bool, true, false, cond, eqb, ◌&&◌, List, [], ◌∷◌, ◌++◌, Option, Some, None, refl, sym, ap, subst, ◌∙◌, append-nil, append_assoc}
use Rattle.std.specs.List.{AllByRecursion}
use Rattle.std.proofs.lemmas.Bool.{eqb-true}
use Rattle.tftp_packet.specs.Packets.{PacketView}
use Rattle.tftp_link.specs.Answers.{Again, Answer, Completes, Dropped, Fails, Grants, Proceeds, TakesBlock, TakesLast, is_sent_by}
use Rattle.exchange_trace.specs.declared.trace.Side.{Side}
use Rattle.exchange_trace.specs.Happenings.{DatagramView}
use Rattle.exchange_trace.specs.Logs.{Event, Gets, Ticks}
use Rattle.transfer_end.specs.Moves.{Asks, datagram, Hears, Move, Recalls, Refuses, Repeats, Serves, all_posts, heard_post, kept_post, last_post, live_post, posts_of, recalled_post, request, view_after, view_answered, view_heard, views_after}
use Rattle.transfer_end.specs.Packets.{belongs, is_fresh, is_peer, packet_in, transfer_moves}
use Rattle.transfer_end.specs.Placed.{ArePlaced, IsPlaced, is_answer, is_first, is_refusal, is_repeat, is_request}
use Rattle.transfer_end.specs.Transfers.{LinkEnd, Receives, Role, Sends, end_after, end_answer, end_moved, end_packet, first_packet}
use Rattle.transfer_end.specs.Views.{EndView, TransferView}

all_append : {A : Type 0} (P : A → Type 0) (xs ys : List A) → AllByRecursion P xs → AllByRecursion P ys → AllByRecursion P (xs ++ ys)
all_append P [] ys all rest = rest
all_append P (x ∷ xs) ys (one, all) rest = (one, all_append P xs ys all rest)

pub both_placed : (side : Side) (v : EndView) (e : Event) (xs ys : List DatagramView) → ArePlaced side v e xs → ArePlaced side v e ys → ArePlaced side v e (xs ++ ys)
both_placed side v e xs ys first rest = all_append (IsPlaced side v e) xs ys first rest

-- ---- the next port stays but where a transfer begins

answered_port : (side : Side) (v : EndView) (t : TransferView) (from : ℕ) (answer : Answer) → (view_answered side v t from answer).next_port ≡ v.next_port
answered_port side v t from Dropped = refl
answered_port side v t from Again = refl
answered_port side v t from (Grants o) = refl
answered_port side v t from (TakesBlock b) = refl
answered_port side v t from (TakesLast b) = refl
answered_port side v t from Proceeds = refl
answered_port side v t from Completes = refl
answered_port side v t from (Fails code) = refl

heard_port : (side : Side) (v : EndView) (live : Option TransferView) (from : ℕ) (p : PacketView) → (view_heard side v live from p).next_port ≡ v.next_port
heard_port side v None from p = refl
heard_port side v (Some t) from p = answered_port side v t from (end_answer t.end p)

pub heard_moves_port : (side : Side) (v : EndView) (from to : ℕ) (p : PacketView) → (views_after side v (transfer_moves v from to p)).next_port ≡ v.next_port
heard_moves_port side v from to p = by (belongs v.live from to) (belongs v.kept from to)
  where
    by : (a b : Bool) → (views_after side v (cond a (Hears from p ∷ []) (cond b (Recalls from p ∷ []) []))).next_port ≡ v.next_port
    by true b = heard_port side v v.live from p
    by false true = refl
    by false false = refl

-- ---- several moves

pub posts_more : (side : Side) (v : EndView) (moves : List Move) (move : Move) → all_posts side v (moves ++ move ∷ []) ≡ all_posts side v moves ++ posts_of side (views_after side v moves) move
posts_more side v [] move = append-nil (posts_of side v move)
posts_more side v (first ∷ moves) move =
    ap (λ (posts : List DatagramView). posts_of side v first ++ posts) (posts_more side (view_after side v first) moves move)
    ∙ sym (append_assoc (posts_of side v first) (all_posts side (view_after side v first) moves) (posts_of side (views_after side (view_after side v first) moves) move))

pub one_placed : (side : Side) (v : EndView) (e : Event) (move : Move) → ArePlaced side v e (posts_of side v move) → ArePlaced side v e (all_posts side v (move ∷ []))
one_placed side v e move placed = both_placed side v e (posts_of side v move) [] placed tt

pub then_placed : (side : Side) (v : EndView) (e : Event) (moves : List Move) (move : Move) → ArePlaced side v e (all_posts side v moves) → ArePlaced side v e (posts_of side (views_after side v moves) move)
    → ArePlaced side v e (all_posts side v (moves ++ move ∷ []))
then_placed side v e moves move first last =
    subst (λ (posts : List DatagramView). ArePlaced side v e posts) (sym (posts_more side v moves move)) (both_placed side v e (all_posts side v moves) (posts_of side (views_after side v moves) move) first last)

-- ---- move by move

pub asks_placed : (side : Side) (v w : EndView) (e : Event) (role : Role) → w.next_port ≡ v.next_port → ArePlaced side v e (posts_of side w (Asks role))
asks_placed side v w e role same = (is_request role (ap (λ (port : ℕ). request side port role) same), tt)

pub serves_placed : (side : Side) (v w : EndView) (from to : ℕ) (bytes : List ℕ) (role : Role) → to ≡ 59 → is_fresh v from ≡ true → w.next_port ≡ v.next_port → ArePlaced side v (Gets from to bytes) (posts_of side w (Serves from role))
serves_placed side v w from to bytes role at fresh same = (is_first role from to bytes refl at fresh (ap (λ (port : ℕ). datagram side port from (first_packet role)) same), tt)

pub refuses_placed : (side : Side) (v : EndView) (from to : ℕ) (bytes : List ℕ) → to ≡ 59 → ArePlaced side v (Gets from to bytes) (posts_of side v (Refuses from))
refuses_placed side v from to bytes at = (is_refusal from to bytes refl at refl, tt)

pub repeats_placed : (side : Side) (v : EndView) → ArePlaced side v Ticks (posts_of side v Repeats)
repeats_placed side v = by v.last refl
  where
    by : (last : Option DatagramView) → v.last ≡ last → ArePlaced side v Ticks (last_post last)
    by None e = tt
    by (Some d) e = (is_repeat refl e, tt)

and_first : (a b : Bool) → (a && b) ≡ true → a ≡ true
and_first true b e = refl
and_first false b e = absurd cc

pub own_port : (t : TransferView) (from to : ℕ) → belongs (Some t) from to ≡ true → to ≡ t.own
own_port t from to e = eqb-true to t.own (and_first (eqb to t.own) (is_peer t.peer from) e)

heard_placed : (side : Side) (v : EndView) (live : Option TransferView) (from to : ℕ) (bytes : List ℕ) (p : PacketView) → packet_in bytes ≡ Some p → v.live ≡ live → belongs v.live from to ≡ true
    → ArePlaced side v (Gets from to bytes) (live_post side v.live from p)
heard_placed side v None from to bytes p is e b = rw e tt
heard_placed side v (Some t) from to bytes p is e b =
    let mine : belongs (Some t) from to ≡ true = subst (λ (x : Option TransferView). belongs x from to ≡ true) e b in
    subst (λ (x : Option TransferView). ArePlaced side v (Gets from to bytes) (live_post side x from p)) (sym e) (sent mine (own_port t from to mine) (is_sent_by (end_answer t.end p)) refl)
  where
    sent : belongs (Some t) from to ≡ true → to ≡ t.own → (s : Bool) → is_sent_by (end_answer t.end p) ≡ s → ArePlaced side v (Gets from to bytes) (heard_post side t from (end_answer t.end p))
    sent mine own true f = rw f (is_answer t p from to bytes refl is (inl e) mine f (ap (λ (port : ℕ). datagram side port from (end_packet (end_after t.end p))) (sym own)), tt)
    sent mine own false f = rw f tt

end_again : (end : LinkEnd) → end_moved end Again ≡ end
end_again (Receives r) = refl
end_again (Sends s) = refl

recalled_placed : (side : Side) (v : EndView) (kept : Option TransferView) (from to : ℕ) (bytes : List ℕ) (p : PacketView) → packet_in bytes ≡ Some p → v.kept ≡ kept → belongs v.kept from to ≡ true
    → ArePlaced side v (Gets from to bytes) (kept_post side v.kept from p)
recalled_placed side v None from to bytes p is e b = rw e tt
recalled_placed side v (Some t) from to bytes p is e b =
    let mine : belongs (Some t) from to ≡ true = subst (λ (x : Option TransferView). belongs x from to ≡ true) e b in
    subst (λ (x : Option TransferView). ArePlaced side v (Gets from to bytes) (kept_post side x from p)) (sym e) (by mine (own_port t from to mine) (end_answer t.end p) refl)
  where
    same : to ≡ t.own → end_answer t.end p ≡ Again → datagram side t.own from (end_packet t.end) ≡ datagram side to from (end_packet (end_after t.end p))
    same own again =
        ap (λ (port : ℕ). datagram side port from (end_packet t.end)) (sym own)
        ∙ ap (λ (end : LinkEnd). datagram side to from (end_packet end)) (sym (ap (λ (answer : Answer). end_moved t.end answer) again ∙ end_again t.end))

    by : belongs (Some t) from to ≡ true → to ≡ t.own → (answer : Answer) → end_answer t.end p ≡ answer → ArePlaced side v (Gets from to bytes) (recalled_post side t from answer)
    by mine own Again f = (is_answer t p from to bytes refl is (inr e) mine (ap is_sent_by f) (same own f), tt)
    by mine own Dropped f = tt
    by mine own (Grants o) f = tt
    by mine own (TakesBlock payload) f = tt
    by mine own (TakesLast payload) f = tt
    by mine own Proceeds f = tt
    by mine own Completes f = tt
    by mine own (Fails code) f = tt

-- a packet of a transfer
pub transfer_placed : (side : Side) (v : EndView) (from to : ℕ) (bytes : List ℕ) (p : PacketView) → packet_in bytes ≡ Some p → ArePlaced side v (Gets from to bytes) (all_posts side v (transfer_moves v from to p))
transfer_placed side v from to bytes p is = by (belongs v.live from to) (belongs v.kept from to) refl refl
  where
    by : (a b : Bool) → belongs v.live from to ≡ a → belongs v.kept from to ≡ b → ArePlaced side v (Gets from to bytes) (all_posts side v (cond a (Hears from p ∷ []) (cond b (Recalls from p ∷ []) [])))
    by true b live kept = one_placed side v (Gets from to bytes) (Hears from p) (heard_placed side v v.live from to bytes p is refl live)
    by false true live kept = one_placed side v (Gets from to bytes) (Recalls from p) (recalled_placed side v v.kept from to bytes p is refl kept)
    by false false live kept = tt
