-- What the target has left falls by each datagram that it gets, and by each tick while it waits.
use Rattle.std.proofs.Common.{◌≡◌, ℕ, ◌+◌, ◌<◌, Bool, true, false, cond, eqb, List, [], ◌∷◌, ◌++◌, Option, Some, None, refl, subst, sym, ◌∙◌, arith}
use Rattle.std.specs.Prelude.{bytes_eq, is_some}
use Rattle.field_grammar.specs.Grammar.{IsBytes}
use Rattle.exchange_trace.specs.declared.trace.Side.TheVariants as sides
use Rattle.exchange_trace.specs.Logs.{Gets, Ticks}
use Rattle.tftp_packet.specs.declared.options.Options.{Options}
use Rattle.tftp_packet.specs.Packets.{Ack, Data, Error, Oack, PacketView, Rrq, Wrq}
use Rattle.tftp_link.specs.Answers.{Again, Answer, Completes, Dropped, Fails, Grants, Proceeds, TakesBlock, TakesLast}
use Rattle.transfer_end.specs.Moves.{Asks, Refuses, Repeats, Stops, all_posts, views_after}
use Rattle.transfer_end.specs.Packets.{has_port, heard_answer, is_busy, is_fresh, may_repeat, packet_in, transfer_moves}
use Rattle.transfer_end.proofs.PlacedLemmas.{heard_moves_port}
use Rattle.transfer_end.specs.Transfers.{Role, ServesRead, ServesWrite}
use Rattle.transfer_end.specs.Views.{EndView}
use Rattle.accept_rules.specs.Permissions.{Accepts}
use Rattle.session_rules.specs.declared.outcome.FileKind.{FileKind}
use Rattle.session_rules.specs.declared.outcome.FileKind.TheVariants as kinds
use Rattle.session_rules.specs.declared.reason.Reason.TheVariants as reasons
use Rattle.session_rules.specs.Target.{Begins, Continues, Ends, TargetChange, TargetDecision, TargetSession, TargetView, Turns, Turns_without_port, answer_decision, continued, doing, ending, got_decision, is_over, next_decision, nothing, own_decision, own_file, own_name, read_decision, request_decision, row_request, session_turned, target_after, target_changed, target_decision, target_posts, tick_decision, transfer_decision, turn_decision, view_turned, view_without_port, without_port, write_decision, write_in}
use Rattle.session_rules.specs.TargetRows.{Arriving, Awaits_lur, RowMove, RowView, row_move, view_moved, with_bytes}
use Rattle.finish_ends.proofs.Moves.{Falls, Heard, anew_falls, gives_up_falls, heard_falls, left, refuses_heard, repeats_falls, serves_falls, stays, stop_falls, then_asks, then_stops, transfer_heard}
use Rattle.finish_ends.proofs.Weights.{IsNumbered, most_weight, read_numbered, some_weight, total, weight_of}

-- what is left of a target that is up
abbrev pub target_left : TargetView → ℕ
target_left v = left v.end (is_some v.live)

still_live : (live : Option TargetSession) (more : List ℕ) → is_some (continued live more) ≡ is_some live
still_live None more = refl
still_live (Some s) more = refl

also_live : (end : EndView) (v : TargetView) (live : Option TargetSession) (move : RowMove) (more : List ℕ) → is_some (session_turned view_turned end v live move more).live ≡ is_some live
also_live end v None move more = refl
also_live end v (Some s) move more = refl

not_live : (end : EndView) (v : TargetView) (live : Option TargetSession) (move : RowMove) (more : List ℕ) → is_some (session_turned view_without_port end v live move more).live ≡ false
not_live end v None move more = refl
not_live end v (Some s) move more = refl

module _ (v : TargetView) where
  abbrev pub TargetFalls : ℕ → TargetDecision → Type 0
  TargetFalls w d =
      Falls w v.end (is_some v.live) (views_after sides.Target v.end d.moves) (is_some (target_changed (views_after sides.Target v.end d.moves) v d.change).live) (all_posts sides.Target v.end d.moves)

  falls_if : (w : ℕ) (b : Bool) (x y : TargetDecision) → (b ≡ true → TargetFalls w x) → TargetFalls w y → TargetFalls w (cond b x y)
  falls_if w true x y f g = f refl
  falls_if w false x y f g = g

  nothing_falls : (w : ℕ) → 0 < w → TargetFalls w nothing
  nothing_falls w some = heard_falls w v.end v.end (is_some v.live) (is_some (continued v.live [])) [] some (still_live v.live []) (stays refl some)

  module _ (from : ℕ) (p : PacketView) (n : IsNumbered p) where
    abbrev w : ℕ
    w = weight_of (Some p)

    some : 0 < w
    some = some_weight (Some p)

    without_falls : (live : Option TargetSession) → TargetFalls w (without_port live)
    without_falls None = nothing_falls w some
    without_falls (Some s) = stop_falls sides.Target w v.end (is_some v.live) some

    -- requests
    own_falls : (kind : FileKind) (name : List ℕ) (o : Options) → TargetFalls w (own_decision v from kind name o)
    own_falls kind name o =
        falls_if w (is_fresh v.end from) _ _
        (λ fresh. falls_if w (has_port v.end) _ _ (λ port. anew_falls sides.Target w v.end (is_some v.live) true from (ServesRead name o (own_file kind v.active.sequence)) port) (without_falls v.live))
        (nothing_falls w some)

    write_in_falls : (name : List ℕ) (o : Options) (row : RowView) → TargetFalls w (write_in v from name o row)
    write_in_falls name o Awaits_lur =
        falls_if w (bytes_eq name (own_name v kinds.Lur)) _ _
        (λ own. falls_if w (is_fresh v.end from) _ _
        (λ fresh. falls_if w (has_port v.end) _ _ (λ port. serves_falls sides.Target w v.end (is_some v.live) (is_some (continued v.live [])) from (ServesWrite name o) port) (without_falls v.live)) (nothing_falls w some))
        (nothing_falls w some)
    write_in_falls name o row = nothing_falls w some

    write_falls : (name : List ℕ) (o : Options) (live : Option TargetSession) → TargetFalls w (write_decision v from name o live)
    write_falls name o None = nothing_falls w some
    write_falls name o (Some s) = write_in_falls name o s.row

    -- a packet of a transfer
    module _ (to : ℕ) where
      heard : Heard w v.end (views_after sides.Target v.end (transfer_moves v.end from to p)) (all_posts sides.Target v.end (transfer_moves v.end from to p))
      heard = transfer_heard sides.Target v.end from p n to

      heard_goes : (more : List ℕ) → TargetFalls w (record { moves = transfer_moves v.end from to p; change = Continues more })
      heard_goes more =
          heard_falls w v.end (views_after sides.Target v.end (transfer_moves v.end from to p)) (is_some v.live) (is_some (continued v.live more)) (all_posts sides.Target v.end (transfer_moves v.end from to p)) some (still_live v.live more) heard

      heard_stops : Falls w v.end (is_some v.live) (views_after sides.Target v.end (transfer_moves v.end from to p ++ Stops ∷ [])) false (all_posts sides.Target v.end (transfer_moves v.end from to p ++ Stops ∷ []))
      heard_stops = then_stops sides.Target w v.end (is_some v.live) (transfer_moves v.end from to p) some heard

      next_falls : (more : List ℕ) (move : RowMove) (row : RowView) (role : Option Role) → TargetFalls w (next_decision v.end (transfer_moves v.end from to p) more move row role)
      next_falls more move row (Some role) =
          falls_if w (has_port v.end) _ _
          (λ port. then_asks sides.Target w v.end (is_some v.live) (is_some (session_turned view_turned (views_after sides.Target v.end (transfer_moves v.end from to p ++ Asks role ∷ [])) v v.live move more).live) (transfer_moves v.end from to p) role
          (most_weight (Some p)) port (heard_moves_port sides.Target v.end from to p) heard)
          (subst (λ (b : Bool). Falls w v.end (is_some v.live) (views_after sides.Target v.end (transfer_moves v.end from to p ++ Stops ∷ [])) b (all_posts sides.Target v.end (transfer_moves v.end from to p ++ Stops ∷ [])))
          (sym (not_live (views_after sides.Target v.end (transfer_moves v.end from to p ++ Stops ∷ [])) v v.live move more)) heard_stops)
      next_falls more move row None =
          falls_if w (is_over row) _ _ (λ over. heard_stops)
          (heard_falls w v.end (views_after sides.Target v.end (transfer_moves v.end from to p)) (is_some v.live) (is_some (session_turned view_turned (views_after sides.Target v.end (transfer_moves v.end from to p)) v v.live move more).live)
          (all_posts sides.Target v.end (transfer_moves v.end from to p)) some (also_live (views_after sides.Target v.end (transfer_moves v.end from to p)) v v.live move more) heard)

      turn_falls : (accepts : Accepts) (s : TargetSession) (more : List ℕ) (error : Option ℕ) → TargetFalls w (turn_decision accepts v s (transfer_moves v.end from to p) more error)
      turn_falls accepts s more error =
          let arriving : Arriving = with_bytes s.arriving more in
          let move : RowMove = row_move accepts v.active s.row (record { error = error; arriving = arriving }) in
          next_falls more move (view_moved s.row arriving move) (row_request v (view_moved s.row arriving move))

      answer_falls : (accepts : Accepts) (s : TargetSession) (answer : Answer) → TargetFalls w (answer_decision accepts v s (transfer_moves v.end from to p) answer)
      answer_falls accepts s (TakesBlock payload) = heard_goes payload
      answer_falls accepts s (TakesLast payload) = turn_falls accepts s payload None
      answer_falls accepts s Completes = turn_falls accepts s [] None
      answer_falls accepts s (Fails code) = turn_falls accepts s [] (Some code)
      answer_falls accepts s Dropped = heard_goes []
      answer_falls accepts s Again = heard_goes []
      answer_falls accepts s (Grants o) = heard_goes []
      answer_falls accepts s Proceeds = heard_goes []

      transfer_falls : (accepts : Accepts) (live : Option TargetSession) → TargetFalls w (transfer_decision accepts v live from to p)
      transfer_falls accepts None = heard_goes []
      transfer_falls accepts (Some s) = answer_falls accepts s (heard_answer v.end from to p)

  refuses_falls : (from : ℕ) → TargetFalls 2 (doing (Refuses from ∷ []))
  refuses_falls from = heard_falls 2 v.end (views_after sides.Target v.end (Refuses from ∷ [])) (is_some v.live) (is_some (continued v.live [])) (all_posts sides.Target v.end (Refuses from ∷ [])) (omega arith) (still_live v.live []) (refuses_heard sides.Target v.end from)

  read_falls : (from : ℕ) (name : List ℕ) (o : Options) → TargetFalls 2 (read_decision v from name o)
  read_falls from name o =
      falls_if 2 (bytes_eq name (own_name v kinds.Lci)) _ _ (λ e. own_falls from (Rrq name o) tt kinds.Lci name o)
      (falls_if 2 (bytes_eq name (own_name v kinds.Lui)) _ _ (λ e. own_falls from (Rrq name o) tt kinds.Lui name o)
      (falls_if 2 (is_busy v.end) _ _ (λ e. nothing_falls 2 (omega arith)) (refuses_falls from)))

  request_falls : (from : ℕ) (p : PacketView) → IsNumbered p → TargetFalls (weight_of (Some p)) (request_decision v from p)
  request_falls from (Rrq name o) n = read_falls from name o
  request_falls from (Wrq name o) n = falls_if 2 (is_busy v.end) _ _ (λ e. nothing_falls 2 (omega arith)) (write_falls from (Wrq name o) tt name o v.live)
  request_falls from (Data k b) n = nothing_falls 2 (omega arith)
  request_falls from (Ack k) n = nothing_falls 1 (omega arith)
  request_falls from (Error code m) n = nothing_falls 1 (omega arith)
  request_falls from (Oack o) n = nothing_falls 2 (omega arith)

  got_falls : (accepts : Accepts) (from to : ℕ) (p : Option PacketView) → ((q : PacketView) → p ≡ Some q → IsNumbered q) → TargetFalls (weight_of p) (got_decision accepts v from to p)
  got_falls accepts from to None n = nothing_falls 2 (omega arith)
  got_falls accepts from to (Some p) n = falls_if (weight_of (Some p)) (eqb to 59) _ _ (λ e. request_falls from p (n p refl)) (transfer_falls from p (n p refl) to accepts v.live)

-- ---- the view after it

turned_end : (end : EndView) (v : TargetView) (live : Option TargetSession) (move : RowMove) (more : List ℕ) → (session_turned view_turned end v live move more).end ≡ end
turned_end end v None move more = refl
turned_end end v (Some s) move more = refl

without_end : (end : EndView) (v : TargetView) (live : Option TargetSession) (move : RowMove) (more : List ℕ) → (session_turned view_without_port end v live move more).end ≡ end
without_end end v None move more = refl
without_end end v (Some s) move more = refl

target_end : (end : EndView) (v : TargetView) (change : TargetChange) → (target_changed end v change).end ≡ end
target_end end v (Continues more) = refl
target_end end v (Begins kind) = refl
target_end end v (Turns move more) = turned_end end v v.live move more
target_end end v (Turns_without_port move more) = without_end end v v.live move more
target_end end v (Ends reason) = refl

module _ (v : TargetView) where
  as_view : (w : ℕ) (d : TargetDecision) → TargetFalls v w d
      → total (all_posts sides.Target v.end d.moves) + target_left (target_changed (views_after sides.Target v.end d.moves) v d.change) < w + target_left v
  as_view w d falls =
      subst (λ (x : EndView). total (all_posts sides.Target v.end d.moves) + left x (is_some (target_changed (views_after sides.Target v.end d.moves) v d.change).live) < w + target_left v)
      (sym (target_end (views_after sides.Target v.end d.moves) v d.change)) falls

  -- a datagram comes
  pub target_gets : (accepts : Accepts) (from to : ℕ) (bytes : List ℕ) → IsBytes bytes
      → total (target_posts accepts v (Gets from to bytes)) + target_left (target_after accepts v (Gets from to bytes)) < weight_of (packet_in bytes) + target_left v
  target_gets accepts from to bytes fit =
      as_view (weight_of (packet_in bytes)) (target_decision accepts v (Gets from to bytes)) (got_falls v accepts from to (packet_in bytes) (λ q e. read_numbered bytes q fit e))

  repeats : is_some v.live ≡ true → may_repeat v.end ≡ true → TargetFalls v 0 (doing (Repeats ∷ []))
  repeats live e =
      subst (λ (b : Bool). Falls 0 v.end b (views_after sides.Target v.end (Repeats ∷ [])) (is_some (continued v.live [])) (all_posts sides.Target v.end (Repeats ∷ []))) (sym live)
      (subst (λ (b : Bool). Falls 0 v.end true (views_after sides.Target v.end (Repeats ∷ [])) b (all_posts sides.Target v.end (Repeats ∷ []))) (sym (still_live v.live [] ∙ live))
      (repeats_falls sides.Target v.end e))

  gives_up : is_some v.live ≡ true → TargetFalls v 0 (ending (Some reasons.GaveUp))
  gives_up live = subst (λ (b : Bool). Falls 0 v.end b (views_after sides.Target v.end (Stops ∷ [])) false (all_posts sides.Target v.end (Stops ∷ []))) (sym live) (gives_up_falls sides.Target v.end)

  tick_falls : is_some v.live ≡ true → (live : Option TargetSession) → is_some live ≡ true → TargetFalls v 0 (tick_decision v.end live)
  tick_falls waits None e = absurd cc
  tick_falls waits (Some s) e = falls_if v 0 (may_repeat v.end) _ _ (λ may. repeats waits may) (gives_up waits)

  -- it is ticked
  pub target_ticks : (accepts : Accepts) → is_some v.live ≡ true → total (target_posts accepts v Ticks) + target_left (target_after accepts v Ticks) < 0 + target_left v
  target_ticks accepts waits = as_view 0 (target_decision accepts v Ticks) (tick_falls waits v.live waits)
