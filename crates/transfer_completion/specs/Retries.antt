-- Retries are read by ticks alone (docs/EXCHANGE.md, "A fault-free run completes").
use Rattle.std.specs.Prelude.{◌≡◌, ℕ, List, [], ◌∷◌, Option, Some, None, if◌then◌else◌}
use Rattle.exchange_trace.specs.declared.trace.Side.{Side}
use Rattle.tftp_packet.specs.Packets.{PacketView}
use Rattle.tftp_link.specs.Answers.{is_awaited_by}
use Rattle.transfer_end.specs.Transfers.{end_answer}
use Rattle.transfer_end.specs.Views.{EndView, TransferView}
use Rattle.transfer_end.specs.Moves.{Move, Hears, Serves, Repeats, Stops, all_posts, view_after, views_after}

abbrev pub with_retries : EndView → ℕ → EndView
with_retries v retries = record { next_port = v.next_port; mark = v.mark; live = v.live; kept = v.kept; retries = retries; last = v.last; asks_size = v.asks_size }

-- the retries after a packet for the live transfer
abbrev pub retries_heard : Option TransferView → PacketView → ℕ → ℕ
retries_heard None p retries = retries
retries_heard (Some t) p retries = if is_awaited_by (end_answer t.end p) then 0 else retries

-- and after a move
abbrev pub retries_by : EndView → Move → ℕ → ℕ
retries_by v (Hears from p) retries = retries_heard v.live p retries
retries_by v (Serves from role) retries = 0
retries_by v Stops retries = 0
retries_by v move retries = retries

abbrev pub retries_after : Side → EndView → List Move → ℕ → ℕ
retries_after side v [] retries = retries
retries_after side v (move ∷ moves) retries = retries_after side (view_after side v move) moves (retries_by v move retries)

abbrev pub IsNoRepeat : Move → Type 0
IsNoRepeat Repeats = ⊥
IsNoRepeat move = Unit {0}

abbrev pub NoTicks : List Move → Type 0
NoTicks [] = Unit {0}
NoTicks (move ∷ moves) = IsNoRepeat move × NoTicks moves

-- But for ticks, an end does the same and posts the same whatever its retries are.
abbrev pub MovesDoTheSame : Type 0
MovesDoTheSame = (side : Side) (v : EndView) (retries : ℕ) (moves : List Move) → NoTicks moves
    → (views_after side (with_retries v retries) moves ≡ with_retries (views_after side v moves) (retries_after side v moves retries))
    × (all_posts side (with_retries v retries) moves ≡ all_posts side v moves)
