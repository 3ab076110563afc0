-- Proofs of how many datagrams moves post.
use Rattle.std.proofs.Common.{◌≤◌, ℕ, Bool, true, false, cond, List, [], ◌∷◌, ◌++◌, length, length-append, Option, Some, None, arith}
use Rattle.tftp_packet.specs.Packets.{PacketView}
use Rattle.tftp_link.specs.Answers.{Again, Answer, Completes, Dropped, Fails, Grants, Proceeds, TakesBlock, TakesLast, is_sent_by}
use Rattle.exchange_trace.specs.declared.trace.Side.{Side}
use Rattle.exchange_trace.specs.Happenings.{DatagramView}
use Rattle.transfer_end.specs.Came.{MovesPostTwo}
use Rattle.transfer_end.specs.Moves.{Asks, Asks_size, Hears, Move, Recalls, Refuses, Repeats, Serves, Stops, datagram, kept_post, last_post, live_post, posts_of, recalled_post, view_after}
use Rattle.transfer_end.specs.Transfers.{end_answer, end_moved, end_packet}
use Rattle.transfer_end.specs.Views.{EndView, TransferView}

one_if : (b : Bool) (d : DatagramView) → length (cond b (d ∷ []) []) ≤ 1
one_if true d = omega arith
one_if false d = omega arith

live_posts_one : (side : Side) (live : Option TransferView) (from : ℕ) (p : PacketView) → length (live_post side live from p) ≤ 1
live_posts_one side None from p = omega arith
live_posts_one side (Some t) from p = one_if (is_sent_by (end_answer t.end p)) (datagram side t.own from (end_packet (end_moved t.end (end_answer t.end p))))

recalled_posts_one : (side : Side) (t : TransferView) (from : ℕ) (answer : Answer) → length (recalled_post side t from answer) ≤ 1
recalled_posts_one side t from Again = omega arith
recalled_posts_one side t from Dropped = omega arith
recalled_posts_one side t from (Grants o) = omega arith
recalled_posts_one side t from (TakesBlock b) = omega arith
recalled_posts_one side t from (TakesLast b) = omega arith
recalled_posts_one side t from Proceeds = omega arith
recalled_posts_one side t from Completes = omega arith
recalled_posts_one side t from (Fails code) = omega arith

kept_posts_one : (side : Side) (kept : Option TransferView) (from : ℕ) (p : PacketView) → length (kept_post side kept from p) ≤ 1
kept_posts_one side None from p = omega arith
kept_posts_one side (Some t) from p = recalled_posts_one side t from (end_answer t.end p)

last_posts_one : (last : Option DatagramView) → length (last_post last) ≤ 1
last_posts_one None = omega arith
last_posts_one (Some d) = omega arith

posts_one : (side : Side) (v : EndView) (move : Move) → length (posts_of side v move) ≤ 1
posts_one side v (Hears from p) = live_posts_one side v.live from p
posts_one side v (Recalls from p) = kept_posts_one side v.kept from p
posts_one side v (Asks role) = omega arith
posts_one side v (Serves from role) = omega arith
posts_one side v (Refuses from) = omega arith
posts_one side v Repeats = last_posts_one v.last
posts_one side v Stops = omega arith
posts_one side v (Asks_size size) = omega arith

both_two : (xs ys : List DatagramView) → length xs ≤ 1 → length ys ≤ 1 → length (xs ++ (ys ++ [])) ≤ 2
both_two xs ys one other = rw (length-append xs (ys ++ []), length-append ys []) (omega (arith, one, other))

-- the moves of one event post at most two datagrams
pub moves_post_two : MovesPostTwo
moves_post_two side e v [] heard = omega arith
moves_post_two side e v (move ∷ []) heard = both_two (posts_of side v move) [] (posts_one side v move) (omega arith)
moves_post_two side e v (move ∷ next ∷ []) heard = both_two (posts_of side v move) (posts_of side (view_after side v move) next) (posts_one side v move) (posts_one side (view_after side v move) next)
moves_post_two side e v (move ∷ next ∷ more ∷ moves) (heard, none) = absurd none
