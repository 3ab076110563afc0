-- What calls one after the other make, and what a packet leaves as it is.
use Rattle.std.proofs.Common.{◌≡◌, ℕ, Bool, true, false, List, [], ◌∷◌, ◌++◌, Option, Some, None, refl, sym, ap, ◌∙◌, if◌then◌else◌}
use Rattle.std.proofs.lemmas.List.{append_assoc}
use Rattle.exchange_trace.specs.declared.trace.Side.{Side}
use Rattle.tftp_packet.specs.Packets.{PacketView}
use Rattle.tftp_link.specs.Answers.{Answer, Dropped, Again, Grants, TakesBlock, TakesLast, Proceeds, Completes, Fails}
use Rattle.transfer_end.specs.Moves.{Move, Hears, Recalls, all_posts, posts_of, view_after, view_answered, view_heard, views_after}
use Rattle.transfer_end.specs.Packets.{belongs, transfer_moves}
use Rattle.transfer_end.specs.Transfers.{end_answer}
use Rattle.transfer_end.specs.Views.{EndView, TransferView}

-- ---- moves one after the other

pub views_join : (side : Side) (v : EndView) (moves more : List Move) → views_after side v (moves ++ more) ≡ views_after side (views_after side v moves) more
views_join side v [] more = refl
views_join side v (move ∷ moves) more = views_join side (view_after side v move) moves more

pub posts_join : (side : Side) (v : EndView) (moves more : List Move) → all_posts side v (moves ++ more) ≡ all_posts side v moves ++ all_posts side (views_after side v moves) more
posts_join side v [] more = refl
posts_join side v (move ∷ moves) more =
    ap (λ posts. posts_of side v move ++ posts) (posts_join side (view_after side v move) moves more)
    ∙ sym (append_assoc (posts_of side v move) (all_posts side (view_after side v move) moves) (all_posts side (views_after side (view_after side v move) moves) more))

-- ---- what a packet leaves as it is

-- the port that is drawn next, and the block size that requests ask for
pub record KeepsPorts (before after : EndView) : Type 0 where
  pub next_port : after.next_port ≡ before.next_port
  pub asks_size : after.asks_size ≡ before.asks_size

module _ (side : Side) (v : EndView) (from to : ℕ) (p : PacketView) where
  answered_keeps : (t : TransferView) (answer : Answer) → KeepsPorts v (view_answered side v t from answer)
  answered_keeps t Dropped = record { next_port = refl; asks_size = refl }
  answered_keeps t Again = record { next_port = refl; asks_size = refl }
  answered_keeps t (Grants options) = record { next_port = refl; asks_size = refl }
  answered_keeps t (TakesBlock payload) = record { next_port = refl; asks_size = refl }
  answered_keeps t (TakesLast payload) = record { next_port = refl; asks_size = refl }
  answered_keeps t Proceeds = record { next_port = refl; asks_size = refl }
  answered_keeps t Completes = record { next_port = refl; asks_size = refl }
  answered_keeps t (Fails code) = record { next_port = refl; asks_size = refl }

  heard_keeps : (live : Option TransferView) → KeepsPorts v (view_heard side v live from p)
  heard_keeps None = record { next_port = refl; asks_size = refl }
  heard_keeps (Some t) = answered_keeps t (end_answer t.end p)

  chosen_keeps : (live kept : Bool) → KeepsPorts v (views_after side v (if live then Hears from p ∷ [] else if kept then Recalls from p ∷ [] else []))
  chosen_keeps true kept = heard_keeps v.live
  chosen_keeps false true = record { next_port = refl; asks_size = refl }
  chosen_keeps false false = record { next_port = refl; asks_size = refl }

-- a packet of a transfer leaves both
pub transfer_keeps : (side : Side) (v : EndView) (from to : ℕ) (p : PacketView) → KeepsPorts v (views_after side v (transfer_moves v from to p))
transfer_keeps side v from to p = chosen_keeps side v from to p (belongs v.live from to) (belongs v.kept from to)
