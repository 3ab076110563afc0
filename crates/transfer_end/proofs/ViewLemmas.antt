-- Proofs that what an end keeps follows its log, move by move.
use Rattle.std.proofs.Common.{◌≡◌, ℕ, ◌+◌, max, Bool, true, false, cond, List, [], ◌∷◌, ◌++◌, Option, Some, None, refl, sym, ap, subst, ◌∙◌}
use Rattle.std.proofs.lemmas.List.Sums.{fold-append}
use Rattle.exchange_trace.specs.declared.trace.Side.{Side}
use Rattle.exchange_trace.specs.Happenings.{DatagramView}
use Rattle.tftp_packet.specs.Packets.{PacketView}
use Rattle.tftp_link.specs.declared.phase.Phase.{Phase}
use Rattle.tftp_link.specs.declared.phase.Phase.TheVariants.{Waiting, Running, Finished, Failed}
use Rattle.tftp_link.specs.Answers.{Answer, Dropped, Again, Grants, TakesBlock, TakesLast, Proceeds, Completes, Fails, is_ended_by, is_finished, is_live}
use Rattle.transfer_end.specs.Transfers.{LinkEnd, Receives, Role, Reads, Writes, ServesRead, ServesWrite, Sends, Transfer, begin_of, bound_to, end_after, end_answer, end_moved, end_of, is_received, phase_of}
use Rattle.transfer_end.specs.Readings.{Reading, kept_in, mark_in, mark_with, port_past, port_with, raised_by}
use Rattle.transfer_end.specs.Views.{EndView, TransferView, end_view, seen, transfer_view}
use Rattle.transfer_end.specs.Moves.{Asks, Asks_size, Hears, Move, Recalls, Refuses, Repeats, Serves, Stops, heard_post, kept_after, last_of, mark_bound, past_with, reading_after, reading_answered, reading_unchanged, view_after, view_answered, view_begun, views_after}
use Rattle.transfer_end.specs.Laws.{IsLive, ViewFollows, ViewsFollow}

-- ---- one packet more

pub end_of_more : (role : Role) (got : List PacketView) (packet : PacketView) → end_of role (got ++ packet ∷ []) ≡ end_after (end_of role got) packet
unfolding end_of
end_of_more role got packet = fold-append end_after (begin_of role) got (packet ∷ [])

dropped_stays : (end : LinkEnd) → end_moved end Dropped ≡ end
dropped_stays (Receives r) = refl
dropped_stays (Sends s) = refl

again_stays : (end : LinkEnd) → end_moved end Again ≡ end
again_stays (Receives r) = refl
again_stays (Sends s) = refl

-- a packet that doesn't end a transfer leaves it live
stays_live : (end : LinkEnd) (answer : Answer) → is_ended_by answer ≡ false → is_live (phase_of end) ≡ true → is_live (phase_of (end_moved end answer)) ≡ true
stays_live (Receives r) Dropped e live = live
stays_live (Receives r) Again e live = live
stays_live (Receives r) (Grants options) e live = refl
stays_live (Receives r) (TakesBlock payload) e live = refl
stays_live (Receives r) (TakesLast payload) e live = absurd cc
stays_live (Receives r) Proceeds e live = live
stays_live (Receives r) Completes e live = absurd cc
stays_live (Receives r) (Fails code) e live = absurd cc
stays_live (Sends s) Dropped e live = live
stays_live (Sends s) Again e live = live
stays_live (Sends s) (Grants options) e live = refl
stays_live (Sends s) (TakesBlock payload) e live = live
stays_live (Sends s) (TakesLast payload) e live = absurd cc
stays_live (Sends s) Proceeds e live = refl
stays_live (Sends s) Completes e live = absurd cc
stays_live (Sends s) (Fails code) e live = absurd cc

live_unfinished : (phase : Phase) → is_live phase ≡ true → is_finished phase ≡ false
live_unfinished Waiting live = refl
live_unfinished Running live = refl
live_unfinished Finished live = absurd cc
live_unfinished (Failed code) live = refl

-- a live transfer isn't one to keep
live_not_received : (end : LinkEnd) → is_live (phase_of end) ≡ true → is_received end ≡ false
live_not_received (Receives r) live = live_unfinished r.phase live
live_not_received (Sends s) live = refl

begins_live : (role : Role) → is_live (phase_of (end_of role [])) ≡ true
unfolding end_of
begins_live (Reads name options) = refl
begins_live (Writes name options file) = refl
begins_live (ServesRead name options file) = refl
begins_live (ServesWrite name options) = refl

begins_so : (role : Role) → end_of role [] ≡ begin_of role
unfolding end_of
begins_so role = refl

-- ---- the kept transfer

chosen : (b : Bool) (t : Transfer) (kept : Option Transfer) → seen (cond b (Some t) kept) ≡ cond b (Some (transfer_view t)) (seen kept)
chosen true t kept = refl
chosen false t kept = refl

kept_more : (t : Transfer) (past : List Transfer) → seen (kept_in (t ∷ past)) ≡ kept_after (end_of t.role t.got) (transfer_view t) (seen (kept_in past))
kept_more t past = chosen (is_received (end_of t.role t.got)) t (kept_in past)

kept_same : (t : Transfer) (past : List Transfer) → IsLive (Some t) → seen (kept_in (t ∷ past)) ≡ seen (kept_in past)
kept_same t past live = kept_more t past ∙ rw (live_not_received (end_of t.role t.got) live) refl

-- ---- records by their fields

abbrev reading : ℕ → List Transfer → Option Transfer → ℕ → Option DatagramView → Option ℕ → Reading
reading first_port past live ticks last size = record { first_port = first_port; past = past; live = live; ticks = ticks; last = last; asks_size = size }

abbrev transfer : Role → ℕ → Option ℕ → List PacketView → Transfer
transfer role own peer got = record { role = role; own = own; peer = peer; got = got }

abbrev viewed : ℕ → ℕ → Option TransferView → Option TransferView → ℕ → Option DatagramView → Option ℕ → EndView
viewed port mark live kept retries last size = record { next_port = port; mark = mark; live = live; kept = kept; retries = retries; last = last; asks_size = size }

abbrev open_transfer : ℕ → Option ℕ → LinkEnd → TransferView
open_transfer own peer end = record { own = own; peer = peer; end = end }

-- ---- a packet for the live transfer

mark_same : (mark : ℕ) (peer : Option ℕ) (from : ℕ) → mark_bound (raised_by mark peer) peer from ≡ raised_by mark (bound_to peer from)
mark_same mark None from = refl
mark_same mark (Some peer) from = refl

continues : (port mark own : ℕ) (peer : Option ℕ) (from : ℕ) (kept : Option TransferView) (ticks : ℕ) (last : Option DatagramView) (size : Option ℕ) (one other : LinkEnd) → other ≡ one
    → viewed port (mark_bound (raised_by mark peer) peer from) (Some (open_transfer own (bound_to peer from) one)) kept ticks last size
    ≡ viewed port (raised_by mark (bound_to peer from)) (Some (open_transfer own (bound_to peer from) other)) kept ticks last size
continues port mark own peer from kept ticks last size one other e = rw (e, mark_same mark peer from) refl

ends : (port mark own : ℕ) (peer : Option ℕ) (from : ℕ) (kept keeps : Option TransferView) (last : Option DatagramView) (size : Option ℕ) (one other : LinkEnd) → other ≡ one
    → keeps ≡ kept_after other (open_transfer own (bound_to peer from) other) kept
    → viewed port (mark_bound (raised_by mark peer) peer from) None (kept_after one (open_transfer own (bound_to peer from) one) kept) 0 last size
    ≡ viewed port (raised_by mark (bound_to peer from)) None keeps 0 last size
ends port mark own peer from kept keeps last size one other e k = rw (k, e, mark_same mark peer from) refl

unchanged : (port mark own peer : ℕ) (kept : Option TransferView) (ticks : ℕ) (last : Option DatagramView) (size : Option ℕ) (one other : LinkEnd) → other ≡ one
    → viewed port mark (Some (open_transfer own (Some peer) one)) kept ticks last size ≡ viewed port mark (Some (open_transfer own (Some peer) other)) kept ticks last size
unchanged port mark own peer kept ticks last size one other e = rw e refl

abbrev Holds : EndView → Reading → Type 0
Holds v r = (v ≡ end_view r) × IsLive r.live

-- the packet changes nothing
nothing_heard : (first_port : ℕ) (past : List Transfer) (role : Role) (own : ℕ) (peer : Option ℕ) (got : List PacketView) (ticks : ℕ) (last : Option DatagramView) (size : Option ℕ) (from : ℕ) (packet : PacketView)
    → is_live (phase_of (end_of role got)) ≡ true → end_of role (got ++ packet ∷ []) ≡ end_of role got
    → Holds (end_view (reading first_port past (Some (transfer role own peer got)) ticks last size))
    (reading_unchanged (reading first_port past (Some (transfer role own peer got)) ticks last size) (transfer role own peer got) from packet peer)
nothing_heard first_port past role own None got ticks last size from packet live e = (refl, live)
nothing_heard first_port past role own (Some peer) got ticks last size from packet live e = (
  unchanged (port_past first_port past + 1) (max (mark_in past) peer) own peer (seen (kept_in past)) ticks last size (end_of role got) (end_of role (got ++ packet ∷ [])) e,
  subst (λ (end : LinkEnd). is_live (phase_of end) ≡ true) (sym e) live,
)

module _ (side : Side) (first_port : ℕ) (past : List Transfer) (role : Role) (own : ℕ) (peer : Option ℕ) (got : List PacketView) (ticks : ℕ) (last : Option DatagramView) (size : Option ℕ) (from : ℕ) (packet : PacketView) where
  abbrev Answered : Answer → Type 0
  Answered answer =
      Holds (view_answered side (end_view (reading first_port past (Some (transfer role own peer got)) ticks last size)) (transfer_view (transfer role own peer got)) from answer)
      (reading_answered side (reading first_port past (Some (transfer role own peer got)) ticks last size) (transfer role own peer got) from packet answer)

  -- the transfer goes on with the packet
  goes_on : (answer : Answer) → is_ended_by answer ≡ false → is_live (phase_of (end_of role got)) ≡ true → end_of role (got ++ packet ∷ []) ≡ end_moved (end_of role got) answer
      → Holds (viewed (port_past first_port past + 1) (mark_bound (raised_by (mark_in past) peer) peer from) (Some (open_transfer own (bound_to peer from) (end_moved (end_of role got) answer))) (seen (kept_in past)) 0
      (last_of last (heard_post side (open_transfer own peer (end_of role got)) from answer)) size)
      (reading first_port past (Some (transfer role own (bound_to peer from) (got ++ packet ∷ []))) 0 (last_of last (heard_post side (open_transfer own peer (end_of role got)) from answer)) size)
  goes_on answer going live e = (
    continues (port_past first_port past + 1) (mark_in past) own peer from (seen (kept_in past)) 0 (last_of last (heard_post side (open_transfer own peer (end_of role got)) from answer)) size
        (end_moved (end_of role got) answer) (end_of role (got ++ packet ∷ [])) e,
    subst (λ (end : LinkEnd). is_live (phase_of end) ≡ true) (sym e) (stays_live (end_of role got) answer going live),
  )

  -- the transfer is over with the packet
  is_over : (answer : Answer) → end_of role (got ++ packet ∷ []) ≡ end_moved (end_of role got) answer
      → Holds (viewed (port_past first_port past + 1) (mark_bound (raised_by (mark_in past) peer) peer from) None
      (kept_after (end_moved (end_of role got) answer) (open_transfer own (bound_to peer from) (end_moved (end_of role got) answer)) (seen (kept_in past))) 0
      (last_of last (heard_post side (open_transfer own peer (end_of role got)) from answer)) size)
      (reading first_port (transfer role own (bound_to peer from) (got ++ packet ∷ []) ∷ past) None 0 (last_of last (heard_post side (open_transfer own peer (end_of role got)) from answer)) size)
  is_over answer e = (
    ends (port_past first_port past + 1) (mark_in past) own peer from (seen (kept_in past)) (seen (kept_in (transfer role own (bound_to peer from) (got ++ packet ∷ []) ∷ past)))
        (last_of last (heard_post side (open_transfer own peer (end_of role got)) from answer)) size (end_moved (end_of role got) answer) (end_of role (got ++ packet ∷ [])) e
        (kept_more (transfer role own (bound_to peer from) (got ++ packet ∷ [])) past),
    tt,
  )

  answered : (answer : Answer) → is_live (phase_of (end_of role got)) ≡ true → end_of role (got ++ packet ∷ []) ≡ end_moved (end_of role got) answer → Answered answer
  answered Dropped live e = nothing_heard first_port past role own peer got ticks last size from packet live (e ∙ dropped_stays (end_of role got))
  answered Again live e = nothing_heard first_port past role own peer got ticks last size from packet live (e ∙ again_stays (end_of role got))
  answered (Grants options) live e = goes_on (Grants options) refl live e
  answered (TakesBlock payload) live e = goes_on (TakesBlock payload) refl live e
  answered Proceeds live e = goes_on Proceeds refl live e
  answered (TakesLast payload) live e = is_over (TakesLast payload) e
  answered Completes live e = is_over Completes e
  answered (Fails code) live e = is_over (Fails code) e

-- ---- the other moves

-- the live transfer is over
pub record IsPast (first_port : ℕ) (past : List Transfer) (live : Option Transfer) (then : List Transfer) : Type 0 where
  pub port : port_past first_port then ≡ port_with (port_past first_port past) live
  pub mark : mark_in then ≡ mark_with (mark_in past) live
  pub kept : seen (kept_in then) ≡ seen (kept_in past)

is_past : (first_port : ℕ) (past : List Transfer) (live : Option Transfer) → IsLive live → IsPast first_port past live (past_with live past)
is_past first_port past None live = record { port = refl; mark = refl; kept = refl }
is_past first_port past (Some t) live = record { port = refl; mark = refl; kept = kept_same t past live }

begins : (first_port : ℕ) (past then : List Transfer) (live : Option Transfer) (ticks : ℕ) (last : Option DatagramView) (size : Option ℕ) (peer : Option ℕ) (role : Role) (retries : ℕ) (posted : DatagramView)
    → IsPast first_port past live then
    → view_begun (end_view (reading first_port past live ticks last size)) (raised_by (mark_with (mark_in past) live) peer) peer role retries posted
    ≡ end_view (reading first_port then (Some (transfer role (port_with (port_past first_port past) live) peer [])) retries (Some posted) size)
begins first_port past then live ticks last size peer role retries posted h = rw (h.port, h.mark, h.kept, begins_so role) refl

stops : (first_port : ℕ) (past then : List Transfer) (live : Option Transfer) (last : Option DatagramView) (size : Option ℕ) → IsPast first_port past live then
    → viewed (port_with (port_past first_port past) live) (mark_with (mark_in past) live) None (seen (kept_in past)) 0 last size ≡ end_view (reading first_port then None 0 last size)
stops first_port past then live last size h = rw (h.port, h.mark, h.kept) refl

follows : (side : Side) (first_port : ℕ) (past : List Transfer) (live : Option Transfer) (ticks : ℕ) (last : Option DatagramView) (size : Option ℕ) (move : Move) → IsLive live
    → Holds (view_after side (end_view (reading first_port past live ticks last size)) move) (reading_after side (reading first_port past live ticks last size) move)
follows side first_port past None ticks last size (Hears from packet) live = (refl, tt)
follows side first_port past (Some t) ticks last size (Hears from packet) live =
    answered side first_port past t.role t.own t.peer t.got ticks last size from packet (end_answer (end_of t.role t.got) packet) live (end_of_more t.role t.got packet)
follows side first_port past t ticks last size (Recalls from packet) live = (refl, live)
follows side first_port past t ticks last size (Asks role) live =
    (begins first_port past (past_with t past) t ticks last size None role ticks _ (is_past first_port past t live), begins_live role)
follows side first_port past t ticks last size (Serves from role) live =
    (begins first_port past (past_with t past) t ticks last size (Some from) role 0 _ (is_past first_port past t live), begins_live role)
follows side first_port past t ticks last size (Refuses from) live = (refl, live)
follows side first_port past t ticks last size Repeats live = (refl, live)
follows side first_port past t ticks last size Stops live = (stops first_port past (past_with t past) t last size (is_past first_port past t live), tt)
follows side first_port past t ticks last size (Asks_size n) live = (refl, live)

pub view_follows : ViewFollows
view_follows side r move live = follows side r.first_port r.past r.live r.ticks r.last r.asks_size move live

pub views_follow : ViewsFollow
views_follow side r [] live = (refl, live)
views_follow side r (move ∷ moves) live =
    let one = view_follows side r move live in
    let rest = views_follow side (reading_after side r move) moves one.1 in
    (ap (λ (v : EndView). views_after side v moves) one.0 ∙ rest.0, rest.1)
