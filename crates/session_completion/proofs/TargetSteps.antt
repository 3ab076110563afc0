-- What the target does at each step of a clean upload.
use Rattle.std.proofs.Common.{◌≡◌, ℕ, Bool, true, false, cond, List, [], ◌∷◌, Option, Some, None, refl, sym, ap, subst, ◌∙◌}
use Rattle.std.specs.Prelude.{bytes_eq, ◌==◌}
use Rattle.exchange_trace.specs.declared.trace.Side.TheVariants as sides
use Rattle.exchange_trace.specs.Happenings.{DatagramView}
use Rattle.exchange_trace.specs.Logs.{Event, Gets}
use Rattle.tftp_packet.specs.declared.options.Options.{Options}
use Rattle.tftp_packet.specs.Packets.{PacketView, Rrq, Wrq}
use Rattle.tftp_link.specs.Answers.{Answer, Dropped, Again, Grants, TakesBlock, TakesLast, Proceeds, Completes, Fails}
use Rattle.transfer_end.specs.Moves.{Move, Hears, Asks, Serves, Stops, all_posts, views_after}
use Rattle.transfer_end.specs.Packets.{answer_of, belongs, is_busy, is_fresh, has_port, packet_in}
use Rattle.transfer_end.specs.Transfers.{Role, ServesRead, ServesWrite}
use Rattle.transfer_end.specs.Views.{EndView, TransferView}
use Rattle.accept_rules.specs.Permissions.{Accepts}
use Rattle.session_rules.specs.declared.outcome.FileKind.TheVariants.{Lci, Lui, Lur}
use Rattle.session_rules.specs.Target as target
use Rattle.session_rules.specs.Target.{TargetChange, TargetDecision, TargetSession, TargetView, own_name, target_after, target_changed, target_decision, target_posts}
use Rattle.session_rules.specs.TargetRows.{RowMove, RowView, Awaits_lur, row_move, view_moved, with_bytes}
use Rattle.transfer_completion.specs.Positions.{Position}
use Rattle.transfer_completion.specs.Retries.{retries_after}
use Rattle.transfer_completion.specs.Steps.{IsGoing}
use Rattle.session_completion.specs.Retries.{target_retries}
use Rattle.session_completion.proofs.LoaderSteps.{Reaches, payload_of, same_name}
use Rattle.session_completion.proofs.Moved.{Moved}

turned_end : (end : EndView) (v : TargetView) (live : Option TargetSession) (m : RowMove) (more : List ℕ) → (target.session_turned target.view_turned end v live m more).end ≡ end
turned_end end v None m more = refl
turned_end end v (Some s) m more = refl

spent_end : (end : EndView) (v : TargetView) (live : Option TargetSession) (m : RowMove) (more : List ℕ) → (target.session_turned target.view_without_port end v live m more).end ≡ end
spent_end end v None m more = refl
spent_end end v (Some s) m more = refl

change_end : (end : EndView) (v : TargetView) (c : TargetChange) → (target_changed end v c).end ≡ end
change_end end v (target.Continues more) = refl
change_end end v (target.Begins kind) = refl
change_end end v (target.Turns m more) = turned_end end v v.live m more
change_end end v (target.Turns_without_port m more) = spent_end end v v.live m more
change_end end v (target.Ends reason) = refl

abbrev pub TargetReaches : Accepts → TargetView → Event → List DatagramView → (own peer i : ℕ) → Position → List DatagramView → Type 0
TargetReaches accepts v e posts own peer i position new = Reaches sides.Target posts own peer i position new (target_after accepts v e).end (target_posts accepts v e) (target_retries accepts v e)

pub target_reaches : (accepts : Accepts) (v : TargetView) (e : Event) (moves : List Move) (change : TargetChange) (posts : List DatagramView) (own peer i : ℕ) (position : Position) (new : List DatagramView)
    → target_decision accepts v e ≡ record { moves = moves; change = change } → Moved sides.Target v.end moves posts own peer i position new → TargetReaches accepts v e posts own peer i position new
target_reaches accepts v e moves change posts own peer i position new is m =
    subst (λ (d : TargetDecision). Reaches sides.Target posts own peer i position new (target_changed (views_after sides.Target v.end d.moves) v d.change).end (all_posts sides.Target v.end d.moves) (λ r. retries_after sides.Target v.end d.moves r)) (sym is)
    (subst (λ (x : EndView). Reaches sides.Target posts own peer i position new x (all_posts sides.Target v.end moves) (λ r. retries_after sides.Target v.end moves r)) (sym (change_end (views_after sides.Target v.end moves) v change))
    (record { stands = m.stands; posted_is = m.posted; resets = m.resets; last = m.last }))

pub target_is : (accepts : Accepts) (v : TargetView) (e : Event) (moves : List Move) (change : TargetChange) → target_decision accepts v e ≡ record { moves = moves; change = change }
    → target_after accepts v e ≡ target_changed (views_after sides.Target v.end moves) v change
target_is accepts v e moves change is = ap (λ (d : TargetDecision). target_changed (views_after sides.Target v.end d.moves) v d.change) is

abbrev decides : List Move → TargetChange → TargetDecision
decides moves change = record { moves = moves; change = change }

-- what the end of a transfer comes to, with these bytes as the last of its file, and the row after it
abbrev pub move_for : Accepts → TargetView → TargetSession → List ℕ → RowMove
move_for accepts v s more = row_move accepts v.active s.row (record { error = None; arriving = with_bytes s.arriving more })

abbrev pub row_for : Accepts → TargetView → TargetSession → List ℕ → RowView
row_for accepts v s more = view_moved s.row (with_bytes s.arriving more) (move_for accepts v s more)

module _ (accepts : Accepts) (v : TargetView) (from to : ℕ) (bytes : List ℕ) (p : PacketView) (is : packet_in bytes ≡ Some p) where
  asked : (to == 59) ≡ true → target_decision accepts v (Gets from to bytes) ≡ target.request_decision v from p
  asked low = ap (λ (o : Option PacketView). target.got_decision accepts v from to o) is ∙ rw low refl

  -- the request for the LUI, with which a session begins; the LCI has another name
  pub begins : (o : Options) → p ≡ Rrq (own_name v Lui) o → bytes_eq (own_name v Lui) (own_name v Lci) ≡ false → (to == 59) ≡ true → is_fresh v.end from ≡ true → has_port v.end ≡ true
      → target_decision accepts v (Gets from to bytes) ≡ decides (Stops ∷ Serves from (ServesRead (own_name v Lui) o (target.own_file Lui v.active.sequence)) ∷ []) (target.Begins Lui)
  begins o asks differs low fresh room =
      asked low ∙ ap (λ (q : PacketView). target.request_decision v from q) asks ∙ rw (differs, same_name (own_name v Lui), fresh, room) refl

  module _ (s : TargetSession) (live : v.live ≡ Some s) where
    -- the request to write the LUR
    pub serves_lur : (o : Options) → p ≡ Wrq (own_name v Lur) o → s.row ≡ Awaits_lur → (to == 59) ≡ true → v.end.live ≡ None → is_fresh v.end from ≡ true → has_port v.end ≡ true
        → target_decision accepts v (Gets from to bytes) ≡ decides (Serves from (ServesWrite (own_name v Lur) o) ∷ []) (target.Continues [])
    serves_lur o asks row low free fresh room =
        asked low ∙ ap (λ (q : PacketView). target.request_decision v from q) asks
        ∙ ap (λ (b : Bool). cond b target.nothing (target.write_decision v from (own_name v Lur) o v.live)) (free_end v.end free)
        ∙ ap (λ (l : Option TargetSession). target.write_decision v from (own_name v Lur) o l) live
        ∙ ap (λ (r : RowView). target.write_in v from (own_name v Lur) o r) row
        ∙ rw (same_name (own_name v Lur), fresh, room) refl
      where
        free_end : (end : EndView) → end.live ≡ None → is_busy end ≡ false
        free_end end e = ap (λ (o : Option TransferView). is_busy (record { next_port = end.next_port; mark = end.mark; live = o; kept = end.kept; retries = end.retries; last = end.last; asks_size = end.asks_size })) e

    hears : (a : Answer) → (to == 59) ≡ false → belongs v.end.live from to ≡ true → answer_of v.end.live p ≡ a
        → target_decision accepts v (Gets from to bytes) ≡ target.answer_decision accepts v s (Hears from p ∷ []) a
    hears a high mine answers =
        ap (λ (o : Option PacketView). target.got_decision accepts v from to o) is
        ∙ rw high (ap (λ (l : Option TargetSession). target.transfer_decision accepts v l from to p) live
        ∙ rw mine (ap (λ (x : Answer). target.answer_decision accepts v s (Hears from p ∷ []) x) answers))

    goes_so : (a : Answer) → IsGoing a → target.answer_decision accepts v s (Hears from p ∷ []) a ≡ decides (Hears from p ∷ []) (target.Continues (payload_of a))
    goes_so (Grants o) going = refl
    goes_so (TakesBlock b) going = refl
    goes_so Proceeds going = refl
    goes_so Dropped going = absurd going
    goes_so Again going = absurd going
    goes_so (TakesLast b) going = absurd going
    goes_so Completes going = absurd going
    goes_so (Fails code) going = absurd going

    pub goes_on : (a : Answer) → IsGoing a → (to == 59) ≡ false → belongs v.end.live from to ≡ true → answer_of v.end.live p ≡ a
        → target_decision accepts v (Gets from to bytes) ≡ decides (Hears from p ∷ []) (target.Continues (payload_of a))
    goes_on a going high mine answers = hears a high mine answers ∙ goes_so a going

    -- with the last block of a file, or its last acknowledgement, the transfer is over
    abbrev pub IsOver : Answer → List ℕ → Type 0
    IsOver (TakesLast payload) more = payload ≡ more
    IsOver Completes more = [] ≡ more
    IsOver a more = ⊥

    over : (a : Answer) (more : List ℕ) → IsOver a more → target.answer_decision accepts v s (Hears from p ∷ []) a ≡ target.turn_decision accepts v s (Hears from p ∷ []) more None
    over (TakesLast payload) more e = ap (λ (x : List ℕ). target.turn_decision accepts v s (Hears from p ∷ []) x None) e
    over Completes more e = ap (λ (x : List ℕ). target.turn_decision accepts v s (Hears from p ∷ []) x None) e
    over Dropped more e = absurd e
    over Again more e = absurd e
    over (Grants o) more e = absurd e
    over (TakesBlock b) more e = absurd e
    over Proceeds more e = absurd e
    over (Fails code) more e = absurd e

    turns : (a : Answer) (more : List ℕ) → IsOver a more → (to == 59) ≡ false → belongs v.end.live from to ≡ true → answer_of v.end.live p ≡ a
        → target_decision accepts v (Gets from to bytes) ≡ target.next_decision v.end (Hears from p ∷ []) more (move_for accepts v s more) (row_for accepts v s more) (target.row_request v (row_for accepts v s more))
    turns a more ends high mine answers = hears a high mine answers ∙ over a more ends

    pub over_and_asks : (a : Answer) (more : List ℕ) (role : Role) → IsOver a more → target.row_request v (row_for accepts v s more) ≡ Some role → has_port v.end ≡ true → (to == 59) ≡ false → belongs v.end.live from to ≡ true → answer_of v.end.live p ≡ a
        → target_decision accepts v (Gets from to bytes) ≡ decides (Hears from p ∷ Asks role ∷ []) (target.Turns (move_for accepts v s more) more)
    over_and_asks a more role ends asks room high mine answers =
        turns a more ends high mine answers ∙ ap (λ (r : Option Role). target.next_decision v.end (Hears from p ∷ []) more (move_for accepts v s more) (row_for accepts v s more) r) asks ∙ rw room refl

    pub over_and_waits : (a : Answer) (more : List ℕ) → IsOver a more → target.row_request v (row_for accepts v s more) ≡ None → target.is_over (row_for accepts v s more) ≡ false → (to == 59) ≡ false → belongs v.end.live from to ≡ true → answer_of v.end.live p ≡ a
        → target_decision accepts v (Gets from to bytes) ≡ decides (Hears from p ∷ []) (target.Turns (move_for accepts v s more) more)
    over_and_waits a more ends none goes high mine answers =
        turns a more ends high mine answers ∙ ap (λ (r : Option Role). target.next_decision v.end (Hears from p ∷ []) more (move_for accepts v s more) (row_for accepts v s more) r) none ∙ rw goes refl

    pub over_and_ends : (a : Answer) (more : List ℕ) → IsOver a more → target.row_request v (row_for accepts v s more) ≡ None → target.is_over (row_for accepts v s more) ≡ true → (to == 59) ≡ false → belongs v.end.live from to ≡ true → answer_of v.end.live p ≡ a
        → target_decision accepts v (Gets from to bytes) ≡ decides (Hears from p ∷ Stops ∷ []) (target.Ends None)
    over_and_ends a more ends none is_end high mine answers =
        turns a more ends high mine answers ∙ ap (λ (r : Option Role). target.next_decision v.end (Hears from p ∷ []) more (move_for accepts v s more) (row_for accepts v s more) r) none ∙ rw is_end refl

pub target_end_is : (accepts : Accepts) (v : TargetView) (e : Event) (moves : List Move) (change : TargetChange) → target_decision accepts v e ≡ record { moves = moves; change = change }
    → (target_after accepts v e).end ≡ views_after sides.Target v.end moves
target_end_is accepts v e moves change is = ap (λ (x : TargetView). x.end) (target_is accepts v e moves change is) ∙ change_end (views_after sides.Target v.end moves) v change
