-- How an end stands after each move, where nothing is lost.
use Rattle.std.proofs.Common.{◌≡◌, ℕ, ◌+◌, ◌≤◌, max, Bool, true, false, List, [], ◌∷◌, ◌++◌, Option, Some, None, refl, ap, ◌∙◌, arith, inl, inr}
use Rattle.std.proofs.lemmas.List.Elements.{Contains-append_left, Contains-push}
use Rattle.std.proofs.lemmas.List.{append-nil}
use Rattle.exchange_trace.specs.declared.trace.Side.{Side}
use Rattle.exchange_trace.specs.Happenings.{DatagramView}
use Rattle.tftp_link.specs.Answers.{Answer, Dropped, Again, Grants, TakesBlock, TakesLast, Proceeds, Completes, Fails}
use Rattle.tftp_link.specs.Negotiation.{is_empty, granted_to_reader}
use Rattle.tftp_link.specs.Receiver.{receiver_moved, receiver_packet}
use Rattle.tftp_link.specs.Sender.{sender_granting, sender_first, sender_packet}
use Rattle.transfer_end.specs.Transfers.{Role, Reads, Writes, ServesRead, ServesWrite, LinkEnd, begin_of, first_packet, end_answer, end_moved, end_packet}
use Rattle.transfer_end.specs.Views.{EndView, TransferView}
use Rattle.transfer_end.specs.Moves.{datagram, heard_post, request, view_answered}
use Rattle.transfer_completion.specs.Positions.{Position, HasAsked, IsIn, live_at, last_at, drawn, IsLast, IsMark, IsEndRunning, IsKeptTransfer, StandsIn}
use Rattle.transfer_completion.specs.Steps.{IsGoing, with_live, AsksFromRest, ServesFromRest, MovesItsTransfer, Binds, TakesTheLast, BindsWithTheLast, LastIsAcknowledged, MorePosts}

abbrev transfer : ℕ → ℕ → LinkEnd → TransferView
transfer own peer end = record { own = own; peer = Some peer; end = end }

-- an end by its live transfer
pub by_live : (side : Side) (posts : List DatagramView) (own peer i : ℕ) (position : Position) (v : EndView) → StandsIn side posts own peer i position v → v ≡ with_live v (live_at position (own + i) (peer + i))
by_live side posts own peer i position v end = ap (λ (o : Option TransferView). with_live v o) end.live

-- what begins a transfer is what its end sends then
begins_by : (file : List ℕ) (o : Rattle.tftp_packet.specs.declared.options.Options.Options) (b : Bool) → is_empty o ≡ b → sender_first (sender_granting file o) ≡ sender_packet (sender_granting file o)
begins_by file o true e = rw e refl
begins_by file o false e = rw e refl

pub first_is_sent : (role : Role) → first_packet role ≡ end_packet (begin_of role)
first_is_sent (Reads name o) = refl
first_is_sent (Writes name o file) = refl
first_is_sent (ServesRead name o file) = begins_by file (granted_to_reader (Rattle.std.specs.Prelude.length file) o) (is_empty (granted_to_reader (Rattle.std.specs.Prelude.length file) o)) refl
first_is_sent (ServesWrite name o) = refl

-- ---- more posts

last_more : (posts new : List DatagramView) (wanted last : Option DatagramView) → IsLast posts wanted last → IsLast (posts ++ new) wanted last
last_more posts new None last h = tt
last_more posts new (Some d) last h = (h.0, Contains-append_left posts new d h.1)

kept_more : (side : Side) (posts new : List DatagramView) (own peer i k : ℕ) (kept : Option TransferView) → i ≤ k → IsKeptTransfer side posts own peer i kept → IsKeptTransfer side (posts ++ new) own peer k kept
kept_more side posts new own peer i k None le h = tt
kept_more side posts new own peer i k (Some x) le (inl before) = inl before
kept_more side posts new own peer i k (Some x) le (inr (j, lt, o, q, receives, has, ack)) = inr (j, omega arith, o, q, receives, Contains-append_left posts new _ has, ack)

pub more_posts : MorePosts
more_posts side posts new own peer i position v end = record {
  port = end.port;
  mark = end.mark;
  live = end.live;
  last = last_more posts new (last_at side position (own + i) (peer + i)) v.last end.last;
  underway = end.underway;
  kept = kept_more side posts new own peer (drawn position i) (drawn position i) v.kept (omega arith) end.kept;
}

mark_more : (peer i mark : ℕ) → IsMark peer i mark → IsMark peer (i + 1) (max mark (peer + i))
mark_more peer i mark m = record { all = λ j lt. omega arith; none = let n = m.none in omega arith }

-- ---- a packet that is awaited

abbrev moved : EndView → (mark own peer : ℕ) → LinkEnd → DatagramView → EndView
moved v mark own peer end d = record { next_port = v.next_port; mark = mark; live = Some (transfer own peer end); kept = v.kept; retries = 0; last = Some d; asks_size = v.asks_size }

moved_end : (side : Side) (posts : List DatagramView) (own peer i mark : ℕ) (position : Position) (v : EndView) (end : LinkEnd) → StandsIn side posts own peer i position v → drawn position i ≡ i + 1 → IsMark peer (i + 1) mark → IsEndRunning end
    → StandsIn side (posts ++ datagram side (own + i) (peer + i) (end_packet end) ∷ []) own peer i (IsIn end) (moved v mark (own + i) (peer + i) end (datagram side (own + i) (peer + i) (end_packet end)))
moved_end side posts own peer i mark position v end stands d m runs = record {
  port = stands.port ∙ ap (λ (k : ℕ). own + k) d;
  mark = m;
  live = refl;
  last = (refl, Contains-push posts (datagram side (own + i) (peer + i) (end_packet end)));
  underway = runs;
  kept = kept_more side posts (datagram side (own + i) (peer + i) (end_packet end) ∷ []) own peer (drawn position i) (i + 1) v.kept (omega arith) stands.kept;
}

goes_by : (side : Side) (posts : List DatagramView) (own peer i : ℕ) (end : LinkEnd) (v : EndView) (a : Answer) → IsGoing a → IsEndRunning (end_moved end a) → StandsIn side posts own peer i (IsIn end) v
    → StandsIn side (posts ++ heard_post side (transfer (own + i) (peer + i) end) (peer + i) a) own peer i (IsIn (end_moved end a)) (view_answered side v (transfer (own + i) (peer + i) end) (peer + i) a)
goes_by side posts own peer i end v (Grants o) going runs stands = moved_end side posts own peer i v.mark (IsIn end) v (end_moved end (Grants o)) stands refl stands.mark runs
goes_by side posts own peer i end v (TakesBlock b) going runs stands = moved_end side posts own peer i v.mark (IsIn end) v (end_moved end (TakesBlock b)) stands refl stands.mark runs
goes_by side posts own peer i end v Proceeds going runs stands = moved_end side posts own peer i v.mark (IsIn end) v (end_moved end Proceeds) stands refl stands.mark runs
goes_by side posts own peer i end v Dropped going runs stands = absurd going
goes_by side posts own peer i end v Again going runs stands = absurd going
goes_by side posts own peer i end v (TakesLast b) going runs stands = absurd going
goes_by side posts own peer i end v Completes going runs stands = absurd going
goes_by side posts own peer i end v (Fails code) going runs stands = absurd going

-- the same, by its live transfer
lived : (side : Side) (posts : List DatagramView) (own peer i : ℕ) (position : Position) (v : EndView) → StandsIn side posts own peer i position v → StandsIn side posts own peer i position (with_live v (live_at position (own + i) (peer + i)))
lived side posts own peer i position v stands = record { port = stands.port; mark = stands.mark; live = refl; last = stands.last; underway = stands.underway; kept = stands.kept }

pub goes_on : MovesItsTransfer
goes_on side posts own peer i end v p going runs stands = goes_by side posts own peer i end (with_live v (live_at (IsIn end) (own + i) (peer + i))) (end_answer end p) going runs (lived side posts own peer i (IsIn end) v stands)

abbrev asked_transfer : ℕ → Role → TransferView
asked_transfer own role = record { own = own; peer = None; end = begin_of role }

binds_by : (side : Side) (posts : List DatagramView) (own peer i : ℕ) (role : Role) (v : EndView) (a : Answer) → IsGoing a → IsEndRunning (end_moved (begin_of role) a) → StandsIn side posts own peer i (HasAsked role) v
    → StandsIn side (posts ++ heard_post side (asked_transfer (own + i) role) (peer + i) a) own peer i (IsIn (end_moved (begin_of role) a)) (view_answered side v (asked_transfer (own + i) role) (peer + i) a)
binds_by side posts own peer i role v (Grants o) going runs stands = moved_end side posts own peer i (max v.mark (peer + i)) (HasAsked role) v (end_moved (begin_of role) (Grants o)) stands refl (mark_more peer i v.mark stands.mark) runs
binds_by side posts own peer i role v (TakesBlock b) going runs stands = moved_end side posts own peer i (max v.mark (peer + i)) (HasAsked role) v (end_moved (begin_of role) (TakesBlock b)) stands refl (mark_more peer i v.mark stands.mark) runs
binds_by side posts own peer i role v Proceeds going runs stands = moved_end side posts own peer i (max v.mark (peer + i)) (HasAsked role) v (end_moved (begin_of role) Proceeds) stands refl (mark_more peer i v.mark stands.mark) runs
binds_by side posts own peer i role v Dropped going runs stands = absurd going
binds_by side posts own peer i role v Again going runs stands = absurd going
binds_by side posts own peer i role v (TakesLast b) going runs stands = absurd going
binds_by side posts own peer i role v Completes going runs stands = absurd going
binds_by side posts own peer i role v (Fails code) going runs stands = absurd going

-- the first answer to a request
pub binds : Binds
binds side posts own peer i role v p going runs stands = binds_by side posts own peer i role (with_live v (live_at (HasAsked role) (own + i) (peer + i))) (end_answer (begin_of role) p) going runs (lived side posts own peer i (HasAsked role) v stands)

-- ---- a request

port_more : (own i : ℕ) → own + i + 1 ≡ own + (i + 1)
port_more own i = omega arith

-- an end at rest asks
pub asks : AsksFromRest
asks side posts own peer i v role stands = record {
  port = rw stands.port (port_more own i);
  mark = stands.mark;
  live = ap (λ (port : ℕ). Some (asked_transfer port role)) stands.port;
  last = rw stands.port (refl, Contains-push posts (request side (own + i) role));
  underway = tt;
  kept = kept_more side posts (request side v.next_port role ∷ []) own peer i (i + 1) v.kept (omega arith) stands.kept;
}

-- an end at rest takes a request
pub serves : ServesFromRest
serves side posts own peer i v role stands runs = record {
  port = rw stands.port (port_more own i);
  mark = mark_more peer i v.mark stands.mark;
  live = ap (λ (port : ℕ). Some (transfer port (peer + i) (begin_of role))) stands.port;
  last = rw (stands.port, first_is_sent role) (refl, Contains-push posts (datagram side (own + i) (peer + i) (end_packet (begin_of role))));
  underway = runs;
  kept = kept_more side posts (datagram side v.next_port (peer + i) (first_packet role) ∷ []) own peer i (i + 1) v.kept (omega arith) stands.kept;
}

-- ---- the end of a transfer

-- the short block was taken: the transfer is kept
pub takes_the_last : TakesTheLast
takes_the_last side posts own peer i r b v p e ack stands = rw e (record {
  port = stands.port;
  mark = stands.mark;
  live = refl;
  last = tt;
  underway = tt;
  kept = inr (i, omega arith, refl, refl, tt, Contains-push posts (datagram side (own + i) (peer + i) (receiver_packet (receiver_moved r (TakesLast b)))), ack);
})

-- it may be the first answer
pub binds_with_the_last : BindsWithTheLast
binds_with_the_last side posts own peer i name o b v p e ack stands = rw e (record {
  port = stands.port;
  mark = mark_more peer i v.mark stands.mark;
  live = refl;
  last = tt;
  underway = tt;
  kept = inr (i, omega arith, refl, refl, tt, Contains-push posts (datagram side (own + i) (peer + i) (end_packet (end_moved (begin_of (Reads name o)) (TakesLast b)))), ack);
})

-- the last block was acknowledged
pub last_is_acknowledged : LastIsAcknowledged
last_is_acknowledged side posts own peer i s v p e stands =
    rw (e, append-nil posts) (record { port = stands.port; mark = stands.mark; live = refl; last = tt; underway = tt; kept = stands.kept })
