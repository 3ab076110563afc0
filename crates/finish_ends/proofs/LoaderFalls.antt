-- What the loader has left falls by each datagram that it gets, and by each tick while it waits.
use Rattle.std.proofs.Common.{◌≡◌, ℕ, ◌+◌, ◌<◌, Bool, true, false, cond, eqb, List, [], ◌∷◌, ◌++◌, Option, Some, None, refl, subst, sym, ◌∙◌, arith}
use Rattle.std.specs.Prelude.{bytes_eq, is_some}
use Rattle.field_grammar.specs.Grammar.{IsBytes}
use Rattle.exchange_trace.specs.declared.trace.Side.TheVariants as sides
use Rattle.exchange_trace.specs.Logs.{Gets, Ticks}
use Rattle.tftp_packet.specs.declared.options.Options.{Options}
use Rattle.tftp_packet.specs.Packets.{Ack, Data, Error, Oack, PacketView, Rrq, Wrq}
use Rattle.tftp_link.specs.Answers.{Again, Answer, Completes, Dropped, Fails, Grants, Proceeds, TakesBlock, TakesLast}
use Rattle.transfer_end.specs.Moves.{Refuses, Repeats, Stops, all_posts, views_after}
use Rattle.transfer_end.specs.Packets.{has_port, heard_answer, is_busy, is_fresh, may_repeat, packet_in, transfer_moves}
use Rattle.transfer_end.proofs.PlacedLemmas.{heard_moves_port}
use Rattle.transfer_end.specs.Transfers.{Role, ServesRead, ServesWrite}
use Rattle.transfer_end.specs.Views.{EndView}
use Rattle.session_rules.specs.declared.outcome.FileKind.{FileKind}
use Rattle.session_rules.specs.declared.outcome.Outcome.{Outcome}
use Rattle.session_rules.specs.declared.outcome.Outcome.TheVariants.{GaveUp, PeerError, PortsSpent}
use Rattle.session_rules.specs.Buffers.{buffered_more}
use Rattle.session_rules.specs.FileNames.{file_name}
use Rattle.session_rules.specs.Loader.{Advances, Begins, Begins_over, Continues, Ends, LoaderChange, LoaderDecision, LoaderSession, LoaderView, Start, advanced, answer_decision, continued, doing, ending, got_decision, loader_after, loader_changed, loader_decision, loader_posts, next_decision, nothing, read_decision, request_decision, row_request, session_decision, take_request, tick_decision, turn_decision, write_decision}
use Rattle.session_rules.specs.LoaderRows.{Comes_to, Goes_on, RowTurn, file_turn, kind_taken, row_after, serves_files}
use Rattle.session_rules.specs.MediaFiles.{Media}
use Rattle.finish_ends.proofs.Moves.{Falls, Heard, gives_up_falls, heard_falls, left, refuses_heard, repeats_falls, serves_falls, stays, stop_falls, then_asks, then_stops, transfer_heard}
use Rattle.finish_ends.proofs.Weights.{IsNumbered, most_weight, read_numbered, some_weight, total, weight_of}

-- what is left of the loader
abbrev pub loader_left : LoaderView → ℕ
loader_left v = left v.end (is_some v.live)

still_live : (live : Option LoaderSession) (more : List ℕ) → is_some (continued live more) ≡ is_some live
still_live None more = refl
still_live (Some s) more = refl

also_live : (live : Option LoaderSession) → is_some (advanced live) ≡ is_some live
also_live None = refl
also_live (Some s) = refl

module _ (v : LoaderView) where
  abbrev pub LoaderFalls : ℕ → LoaderDecision → Type 0
  LoaderFalls w d =
      Falls w v.end (is_some v.live) (views_after sides.Loader v.end d.moves) (is_some (loader_changed (views_after sides.Loader v.end d.moves) v d.change).live) (all_posts sides.Loader v.end d.moves)

  falls_if : (w : ℕ) (b : Bool) (x y : LoaderDecision) → (b ≡ true → LoaderFalls w x) → LoaderFalls w y → LoaderFalls w (cond b x y)
  falls_if w true x y f g = f refl
  falls_if w false x y f g = g

  nothing_falls : (w : ℕ) → 0 < w → LoaderFalls w nothing
  nothing_falls w some = heard_falls w v.end v.end (is_some v.live) (is_some (continued v.live [])) [] some (still_live v.live []) (stays refl some)

  module _ (from : ℕ) (p : PacketView) (n : IsNumbered p) where
    abbrev w : ℕ
    w = weight_of (Some p)

    some : 0 < w
    some = some_weight (Some p)

    taken_falls : (role : Role) → LoaderFalls w (take_request v.end from role)
    taken_falls role =
        falls_if w (is_fresh v.end from) _ _
        (λ e. falls_if w (has_port v.end) _ _ (λ port. serves_falls sides.Loader w v.end (is_some v.live) (is_some (continued v.live [])) from role port) (stop_falls sides.Loader w v.end (is_some v.live) some))
        (nothing_falls w some)

    write_falls : (start : Start) (name : List ℕ) (o : Options) (kind : Option FileKind) → LoaderFalls w (write_decision v.end start from name o kind)
    write_falls start name o None = nothing_falls w some
    write_falls start name o (Some kind) = falls_if w (bytes_eq name (file_name start.hw start.pos kind)) _ _ (λ e. taken_falls (ServesWrite name o)) (nothing_falls w some)

    -- a packet of a transfer
    module _ (to : ℕ) where
      heard : Heard w v.end (views_after sides.Loader v.end (transfer_moves v.end from to p)) (all_posts sides.Loader v.end (transfer_moves v.end from to p))
      heard = transfer_heard sides.Loader v.end from p n to

      heard_goes : (more : List ℕ) → LoaderFalls w (record { moves = transfer_moves v.end from to p; change = Continues more })
      heard_goes more =
          heard_falls w v.end (views_after sides.Loader v.end (transfer_moves v.end from to p)) (is_some v.live) (is_some (continued v.live more)) (all_posts sides.Loader v.end (transfer_moves v.end from to p)) some (still_live v.live more) heard

      heard_stops : (outcome : Outcome) (more : List ℕ) → LoaderFalls w (record { moves = transfer_moves v.end from to p ++ Stops ∷ []; change = Ends outcome more })
      heard_stops outcome more = then_stops sides.Loader w v.end (is_some v.live) (transfer_moves v.end from to p) some heard

      next_falls : (more : List ℕ) (role : Option Role) → LoaderFalls w (next_decision v.end (transfer_moves v.end from to p) more role)
      next_falls more None =
          heard_falls w v.end (views_after sides.Loader v.end (transfer_moves v.end from to p)) (is_some v.live) (is_some (advanced v.live)) (all_posts sides.Loader v.end (transfer_moves v.end from to p)) some (also_live v.live) heard
      next_falls more (Some role) =
          falls_if w (has_port v.end) _ _
          (λ port. then_asks sides.Loader w v.end (is_some v.live) (is_some (advanced v.live)) (transfer_moves v.end from to p) role (most_weight (Some p)) port (heard_moves_port sides.Loader v.end from to p) heard)
          (heard_stops PortsSpent more)

      turn_falls : (s : LoaderSession) (more : List ℕ) (turn : RowTurn) → LoaderFalls w (turn_decision v.end s (transfer_moves v.end from to p) more turn)
      turn_falls s more Goes_on = next_falls more (row_request v.end.asks_size s.start (row_after s.row))
      turn_falls s more (Comes_to outcome) = heard_stops outcome more

      answer_falls : (s : LoaderSession) (answer : Answer) → LoaderFalls w (answer_decision v.end s (transfer_moves v.end from to p) answer)
      answer_falls s (TakesBlock payload) = heard_goes payload
      answer_falls s (TakesLast payload) = turn_falls s payload (file_turn s.row (buffered_more s.arriving payload))
      answer_falls s Completes = turn_falls s [] Goes_on
      answer_falls s (Fails code) = turn_falls s [] (Comes_to (PeerError code))
      answer_falls s Dropped = heard_goes []
      answer_falls s Again = heard_goes []
      answer_falls s (Grants o) = heard_goes []
      answer_falls s Proceeds = heard_goes []

  -- requests
  module _ (media : Media) (s : LoaderSession) (from : ℕ) where
    read_falls : (name : List ℕ) (o : Options) (found : Option (List ℕ)) → LoaderFalls (weight_of (Some (Rrq name o))) (read_decision v.end from name o found)
    read_falls name o None = heard_falls 2 v.end (views_after sides.Loader v.end (Refuses from ∷ [])) (is_some v.live) (is_some (continued v.live [])) (all_posts sides.Loader v.end (Refuses from ∷ [])) (omega arith) (still_live v.live []) (refuses_heard sides.Loader v.end from)
    read_falls name o (Some file) = taken_falls from (Rrq name o) tt (ServesRead name o file)

    request_falls : (p : PacketView) → IsNumbered p → LoaderFalls (weight_of (Some p)) (request_decision media v.end s from p)
    request_falls (Rrq name o) n = falls_if (weight_of (Some (Rrq name o))) (serves_files s.row) _ _ (λ e. read_falls name o (media.file name)) (nothing_falls (weight_of (Some (Rrq name o))) (omega arith))
    request_falls (Wrq name o) n = write_falls from (Wrq name o) tt s.start name o (kind_taken s.row)
    request_falls (Data k b) n = nothing_falls 2 (omega arith)
    request_falls (Ack k) n = nothing_falls 1 (omega arith)
    request_falls (Error code m) n = nothing_falls 1 (omega arith)
    request_falls (Oack o) n = nothing_falls 2 (omega arith)

  session_falls : (media : Media) (live : Option LoaderSession) (from to : ℕ) (p : PacketView) → IsNumbered p → LoaderFalls (weight_of (Some p)) (session_decision media v.end live from to p)
  session_falls media None from to p n = falls_if (weight_of (Some p)) (eqb to 59) _ _ (λ e. nothing_falls (weight_of (Some p)) (some_weight (Some p))) (heard_goes from p n to [])
  session_falls media (Some s) from to p n =
      falls_if (weight_of (Some p)) (eqb to 59) _ _
      (λ e. falls_if (weight_of (Some p)) (is_busy v.end) _ _ (λ f. nothing_falls (weight_of (Some p)) (some_weight (Some p))) (request_falls media s from p n))
      (answer_falls from p n to s (heard_answer v.end from to p))

  got_falls : (media : Media) (from to : ℕ) (p : Option PacketView) → ((q : PacketView) → p ≡ Some q → IsNumbered q) → LoaderFalls (weight_of p) (got_decision media v from to p)
  got_falls media from to None n = nothing_falls 2 (omega arith)
  got_falls media from to (Some p) n = session_falls media v.live from to p (n p refl)

-- the view after a decision has its moves' end
pub loader_end : (v : LoaderView) (d : LoaderDecision) → (loader_changed (views_after sides.Loader v.end d.moves) v d.change).end ≡ views_after sides.Loader v.end d.moves
loader_end v d = by d.change
  where
    by : (change : LoaderChange) → (loader_changed (views_after sides.Loader v.end d.moves) v change).end ≡ views_after sides.Loader v.end d.moves
    by (Continues more) = refl
    by Advances = refl
    by (Ends outcome more) = refl
    by (Begins s) = refl
    by (Begins_over kind outcome) = refl

module _ (v : LoaderView) where
  as_view : (w : ℕ) (d : LoaderDecision) → LoaderFalls v w d
      → total (all_posts sides.Loader v.end d.moves) + loader_left (loader_changed (views_after sides.Loader v.end d.moves) v d.change) < w + loader_left v
  as_view w d falls =
      subst (λ (x : EndView). total (all_posts sides.Loader v.end d.moves) + left x (is_some (loader_changed (views_after sides.Loader v.end d.moves) v d.change).live) < w + loader_left v) (sym (loader_end v d)) falls

  -- a datagram comes
  pub loader_gets : (media : Media) (from to : ℕ) (bytes : List ℕ) → IsBytes bytes
      → total (loader_posts media v (Gets from to bytes)) + loader_left (loader_after media v (Gets from to bytes)) < weight_of (packet_in bytes) + loader_left v
  loader_gets media from to bytes fit =
      as_view (weight_of (packet_in bytes)) (loader_decision media v (Gets from to bytes)) (got_falls v media from to (packet_in bytes) (λ q e. read_numbered bytes q fit e))

  repeats : is_some v.live ≡ true → may_repeat v.end ≡ true → LoaderFalls v 0 (doing (Repeats ∷ []))
  repeats live e =
      subst (λ (b : Bool). Falls 0 v.end b (views_after sides.Loader v.end (Repeats ∷ [])) (is_some (continued v.live [])) (all_posts sides.Loader v.end (Repeats ∷ []))) (sym live)
      (subst (λ (b : Bool). Falls 0 v.end true (views_after sides.Loader v.end (Repeats ∷ [])) b (all_posts sides.Loader v.end (Repeats ∷ []))) (sym (still_live v.live [] ∙ live))
      (repeats_falls sides.Loader v.end e))

  gives_up : is_some v.live ≡ true → LoaderFalls v 0 (ending GaveUp)
  gives_up live = subst (λ (b : Bool). Falls 0 v.end b (views_after sides.Loader v.end (Stops ∷ [])) false (all_posts sides.Loader v.end (Stops ∷ []))) (sym live) (gives_up_falls sides.Loader v.end)

  tick_falls : is_some v.live ≡ true → (live : Option LoaderSession) → is_some live ≡ true → LoaderFalls v 0 (tick_decision v.end live)
  tick_falls waits None e = absurd cc
  tick_falls waits (Some s) e = falls_if v 0 (may_repeat v.end) _ _ (λ may. repeats waits may) (gives_up waits)

  -- it is ticked
  pub loader_ticks : (media : Media) → is_some v.live ≡ true → total (loader_posts media v Ticks) + loader_left (loader_after media v Ticks) < 0 + loader_left v
  loader_ticks media waits = as_view 0 (loader_decision media v Ticks) (tick_falls waits v.live waits)
