-- What a packet does to a transfer, by what is told of it.
use Rattle.std.proofs.Common.{◌≡◌, ℕ, Bool, true, false, List, [], ◌∷◌, ◌++◌, Some, refl, sym, ◌∙◌, if◌then◌else◌}
use Rattle.std.proofs.lemmas.List.{append-nil}
use Rattle.exchange_trace.specs.declared.trace.Side.{Side}
use Rattle.exchange_trace.specs.Happenings.{DatagramView}
use Rattle.tftp_link.specs.Answers.{Answer, Dropped, Again, Grants, TakesBlock, TakesLast, Proceeds, Completes, Fails, is_awaited_by, is_sent_by, news_by}
use Rattle.transfer_end.specs.Calls.{ends_transfer, view_awaited, with_end, with_live}
use Rattle.transfer_end.specs.Moves.{datagram, heard_post, view_answered}
use Rattle.transfer_end.specs.Transfers.{LinkEnd, Receives, Sends, end_moved, end_packet}
use Rattle.transfer_end.specs.Views.{EndView, TransferView}

-- nothing changes at a packet that wasn't awaited
pub unawaited_stays : (end : LinkEnd) (answer : Answer) → is_awaited_by answer ≡ false → end_moved end answer ≡ end
unawaited_stays (Receives r) Dropped e = refl
unawaited_stays (Receives r) Again e = refl
unawaited_stays (Sends s) Dropped e = refl
unawaited_stays (Sends s) Again e = refl
unawaited_stays end (Grants options) e = absurd cc
unawaited_stays end (TakesBlock payload) e = absurd cc
unawaited_stays end (TakesLast payload) e = absurd cc
unawaited_stays end Proceeds e = absurd cc
unawaited_stays end Completes e = absurd cc
unawaited_stays end (Fails code) e = absurd cc

pub unawaited_keeps : (side : Side) (v : EndView) (t : TransferView) (from : ℕ) (answer : Answer) → is_awaited_by answer ≡ false → view_answered side v t from answer ≡ v
unawaited_keeps side v t from Dropped e = refl
unawaited_keeps side v t from Again e = refl
unawaited_keeps side v t from (Grants options) e = absurd cc
unawaited_keeps side v t from (TakesBlock payload) e = absurd cc
unawaited_keeps side v t from (TakesLast payload) e = absurd cc
unawaited_keeps side v t from Proceeds e = absurd cc
unawaited_keeps side v t from Completes e = absurd cc
unawaited_keeps side v t from (Fails code) e = absurd cc

pub awaited_changes : (side : Side) (v : EndView) (t : TransferView) (from : ℕ) (answer : Answer) → is_awaited_by answer ≡ true
    → view_answered side v t from answer ≡ view_awaited v (with_end t (end_moved t.end answer)) from (ends_transfer (news_by answer)) (heard_post side t from answer)
awaited_changes side v t from Dropped e = absurd cc
awaited_changes side v t from Again e = absurd cc
awaited_changes side v t from (Grants options) e = refl
awaited_changes side v t from (TakesBlock payload) e = refl
awaited_changes side v t from (TakesLast payload) e = refl
awaited_changes side v t from Proceeds e = refl
awaited_changes side v t from Completes e = refl
awaited_changes side v t from (Fails code) e = refl

-- ---- the live transfer, as the code goes on

pub goes_on : (side : Side) (v : EndView) (t : TransferView) (end : LinkEnd) (from : ℕ) (answer : Answer) (awaited over : Bool) (posts : List DatagramView)
    → end ≡ end_moved t.end answer → awaited ≡ is_awaited_by answer → awaited ≡ true → over ≡ ends_transfer (news_by answer) → posts ≡ heard_post side t from answer
    → view_awaited v (with_end t end) from over posts ≡ view_answered side (with_live v (Some t)) t from answer
goes_on side v t end from answer awaited over posts e a is o p = rw (e, o, p) (sym (awaited_changes side (with_live v (Some t)) t from answer (sym a ∙ is)))

pub stays : (side : Side) (v : EndView) (t : TransferView) (end : LinkEnd) (from : ℕ) (answer : Answer) (awaited : Bool)
    → end ≡ end_moved t.end answer → awaited ≡ is_awaited_by answer → awaited ≡ false
    → with_live v (Some (with_end t end)) ≡ view_answered side (with_live v (Some t)) t from answer
stays side v t end from answer awaited e a is =
    rw (e, unawaited_stays t.end answer (sym a ∙ is)) (sym (unawaited_keeps side (with_live v (Some t)) t from answer (sym a ∙ is)))

pub sends : (side : Side) (t : TransferView) (from : ℕ) (answer : Answer) (send : Bool) (end : LinkEnd) (posts : List DatagramView)
    → end ≡ end_moved t.end answer → send ≡ is_sent_by answer → posts ≡ (if send then datagram side t.own from (end_packet end) ∷ [] else [])
    → posts ≡ heard_post side t from answer
sends side t from answer send end posts e s p = rw (p, s, e) refl

pub nothing_more : (posts more : List DatagramView) → posts ≡ more → posts ≡ more ++ []
nothing_more posts more e = e ∙ sym (append-nil more)
