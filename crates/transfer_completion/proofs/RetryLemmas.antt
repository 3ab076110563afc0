-- But for ticks, an end does the same whatever its retries are.
use Rattle.std.proofs.Common.{◌≡◌, ℕ, cond, List, [], ◌∷◌, ◌++◌, Option, Some, None, refl, ap, ◌∙◌}
use Rattle.exchange_trace.specs.declared.trace.Side.{Side}
use Rattle.exchange_trace.specs.Happenings.{DatagramView}
use Rattle.tftp_packet.specs.Packets.{PacketView}
use Rattle.tftp_link.specs.Answers.{Answer, Dropped, Again, Grants, TakesBlock, TakesLast, Proceeds, Completes, Fails, is_awaited_by}
use Rattle.transfer_end.specs.Transfers.{end_answer}
use Rattle.transfer_end.specs.Views.{EndView, TransferView}
use Rattle.transfer_end.specs.Moves.{Move, Hears, Recalls, Asks, Serves, Refuses, Repeats, Stops, Asks_size, posts_of, view_after, view_answered, view_heard, views_after, all_posts}
use Rattle.transfer_completion.specs.Retries.{with_retries, retries_heard, retries_by, retries_after, IsNoRepeat, NoTicks, MovesDoTheSame}

answered_same : (side : Side) (v : EndView) (n : ℕ) (t : TransferView) (from : ℕ) (a : Answer)
    → view_answered side (with_retries v n) t from a ≡ with_retries (view_answered side v t from a) (cond (is_awaited_by a) 0 n)
answered_same side v n t from Dropped = refl
answered_same side v n t from Again = refl
answered_same side v n t from (Grants o) = refl
answered_same side v n t from (TakesBlock b) = refl
answered_same side v n t from (TakesLast b) = refl
answered_same side v n t from Proceeds = refl
answered_same side v n t from Completes = refl
answered_same side v n t from (Fails code) = refl

heard_same : (side : Side) (v : EndView) (n : ℕ) (live : Option TransferView) (from : ℕ) (p : PacketView)
    → view_heard side (with_retries v n) live from p ≡ with_retries (view_heard side v live from p) (retries_heard live p n)
heard_same side v n None from p = refl
heard_same side v n (Some t) from p = answered_same side v n t from (end_answer t.end p)

move_same : (side : Side) (v : EndView) (n : ℕ) (m : Move) → IsNoRepeat m → view_after side (with_retries v n) m ≡ with_retries (view_after side v m) (retries_by v m n)
move_same side v n (Hears from p) k = heard_same side v n v.live from p
move_same side v n (Recalls from p) k = refl
move_same side v n (Asks role) k = refl
move_same side v n (Serves from role) k = refl
move_same side v n (Refuses from) k = refl
move_same side v n Repeats k = absurd k
move_same side v n Stops k = refl
move_same side v n (Asks_size size) k = refl

moves_same : (side : Side) (v : EndView) (n : ℕ) (ms : List Move) → NoTicks ms → views_after side (with_retries v n) ms ≡ with_retries (views_after side v ms) (retries_after side v ms n)
moves_same side v n [] k = refl
moves_same side v n (m ∷ ms) k = ap (λ (w : EndView). views_after side w ms) (move_same side v n m k.0) ∙ moves_same side (view_after side v m) (retries_by v m n) ms k.1

post_same : (side : Side) (v : EndView) (n : ℕ) (m : Move) → posts_of side (with_retries v n) m ≡ posts_of side v m
post_same side v n (Hears from p) = refl
post_same side v n (Recalls from p) = refl
post_same side v n (Asks role) = refl
post_same side v n (Serves from role) = refl
post_same side v n (Refuses from) = refl
post_same side v n Repeats = refl
post_same side v n Stops = refl
post_same side v n (Asks_size size) = refl

posts_same : (side : Side) (v : EndView) (n : ℕ) (ms : List Move) → NoTicks ms → all_posts side (with_retries v n) ms ≡ all_posts side v ms
posts_same side v n [] k = refl
posts_same side v n (m ∷ ms) k =
    let one = post_same side v n m in
    let rest = ap (λ (w : EndView). all_posts side w ms) (move_same side v n m k.0) ∙ posts_same side (view_after side v m) (retries_by v m n) ms k.1 in
    ap (λ (ds : List DatagramView). ds ++ all_posts side (view_after side (with_retries v n) m) ms) one ∙ ap (λ (ds : List DatagramView). posts_of side v m ++ ds) rest

pub moves_do_the_same : MovesDoTheSame
moves_do_the_same side v n moves k = (moves_same side v n moves k, posts_same side v n moves k)
