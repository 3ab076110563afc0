-- What an end keeps and posts after the moves of a clean upload.
use Rattle.std.proofs.Common.{◌≡◌, ℕ, ◌+◌, true, cond, List, [], ◌∷◌, ◌++◌, Some, None, refl, sym, ap, subst, ◌∙◌, append_assoc}
use Rattle.std.proofs.lemmas.List.{append-nil}
use Rattle.std.proofs.lemmas.List.Elements.{Contains-append_left, Contains-push}
use Rattle.exchange_trace.specs.declared.trace.Side.{Side}
use Rattle.exchange_trace.specs.Happenings.{DatagramView}
use Rattle.tftp_packet.specs.declared.options.Options.{Options}
use Rattle.tftp_packet.specs.Packets.{PacketView}
use Rattle.tftp_link.specs.Answers.{Answer, Dropped, Again, Grants, TakesBlock, TakesLast, Proceeds, Completes, Fails, is_awaited_by}
use Rattle.tftp_link.specs.Receiver.{Receiver, receiver_answer, receiver_asking, receiver_moved, receiver_packet}
use Rattle.tftp_link.specs.Sender.{Sender, sender_answer}
use Rattle.transfer_end.specs.Moves.{Move, Hears, Asks, Serves, Stops, all_posts, datagram, heard_post, posts_of, request, view_after, views_after}
use Rattle.transfer_end.specs.Transfers.{LinkEnd, Reads, Receives, Role, Sends, begin_of, end_answer, end_moved, end_packet}
use Rattle.transfer_end.specs.Views.{EndView, TransferView}
use Rattle.transfer_completion.proofs.MoveLemmas.{asks, binds, binds_with_the_last, by_live, first_is_sent, goes_on, last_is_acknowledged, serves, takes_the_last}
use Rattle.transfer_completion.specs.Positions.{HasAsked, IsIn, IsEndRunning, Position, Rests, StandsIn}
use Rattle.transfer_completion.specs.Replies.{acknowledges}
use Rattle.transfer_completion.specs.Retries.{retries_after}
use Rattle.transfer_completion.specs.Steps.{IsGoing, placed}
use Rattle.session_completion.specs.Stages.{IsPosted}

-- after these moves the end stands so, and posted these
pub record Moved (side : Side) (v : EndView) (moves : List Move) (posts : List DatagramView) (own peer i : ℕ) (position : Position) (new : List DatagramView) : Type 0 where
  pub stands : StandsIn side (posts ++ new) own peer i position (views_after side v moves)
  pub posted : all_posts side v moves ≡ new
  pub resets : (r : ℕ) → retries_after side v moves r ≡ 0
  pub last : IsPosted (posts ++ new) (views_after side v moves).last

abbrev here : ℕ → ℕ → LinkEnd → TransferView
here own peer end = record { own = own; peer = Some peer; end = end }

abbrev asked : ℕ → Role → TransferView
asked own role = record { own = own; peer = None; end = begin_of role }

module _ (side : Side) (posts : List DatagramView) (own peer i : ℕ) where
  abbrev By : List Move → Position → List DatagramView → EndView → Type 0
  By moves position new v = Moved side v moves posts own peer i position new

  -- ---- a packet that moves the transfer

  going_post : (t : TransferView) (a : Answer) → IsGoing a → heard_post side t (peer + i) a ≡ datagram side t.own (peer + i) (end_packet (end_moved t.end a)) ∷ []
  going_post t (Grants o) going = refl
  going_post t (TakesBlock b) going = refl
  going_post t Proceeds going = refl
  going_post t Dropped going = absurd going
  going_post t Again going = absurd going
  going_post t (TakesLast b) going = absurd going
  going_post t Completes going = absurd going
  going_post t (Fails code) going = absurd going

  going_resets : (a : Answer) (r : ℕ) → IsGoing a → cond (is_awaited_by a) 0 r ≡ 0
  going_resets (Grants o) r going = refl
  going_resets (TakesBlock b) r going = refl
  going_resets Proceeds r going = refl
  going_resets Dropped r going = absurd going
  going_resets Again r going = absurd going
  going_resets (TakesLast b) r going = absurd going
  going_resets Completes r going = absurd going
  going_resets (Fails code) r going = absurd going

  abbrev sent : LinkEnd → List DatagramView
  sent end = datagram side (own + i) (peer + i) (end_packet end) ∷ []

  by_posts : (position : Position) (v : EndView) (old new : List DatagramView) → old ≡ new → StandsIn side (posts ++ old) own peer i position v → StandsIn side (posts ++ new) own peer i position v
  by_posts position v old new e h = subst (λ (ds : List DatagramView). StandsIn side (posts ++ ds) own peer i position v) e h

  is_last : (end : LinkEnd) (v : EndView) (new : List DatagramView) → StandsIn side (posts ++ new) own peer i (IsIn end) v → IsPosted (posts ++ new) v.last
  is_last end v new stands = (datagram side (own + i) (peer + i) (end_packet end), stands.last.0, stands.last.1)

  asked_last : (role : Role) (v : EndView) (new : List DatagramView) → StandsIn side (posts ++ new) own peer i (HasAsked role) v → IsPosted (posts ++ new) v.last
  asked_last role v new stands = (request side (own + i) role, stands.last.0, stands.last.1)

  pub hears_on : (v : EndView) (end : LinkEnd) (p : PacketView) → IsGoing (end_answer end p) → IsEndRunning (end_moved end (end_answer end p)) → StandsIn side posts own peer i (IsIn end) v
      → By (Hears (peer + i) p ∷ []) (IsIn (end_moved end (end_answer end p))) (sent (end_moved end (end_answer end p))) v
  hears_on v end p going runs stands =
      let w = placed v (IsIn end) own peer i in
      let post = going_post (here (own + i) (peer + i) end) (end_answer end p) going in
      let now = by_posts (IsIn (end_moved end (end_answer end p))) (view_after side w (Hears (peer + i) p)) _ _ post (goes_on side posts own peer i end v p going runs stands) in
      subst (λ (x : EndView). By (Hears (peer + i) p ∷ []) (IsIn (end_moved end (end_answer end p))) (sent (end_moved end (end_answer end p))) x) (sym (by_live side posts own peer i (IsIn end) v stands)) (record {
        stands = now;
        posted = append-nil (heard_post side (here (own + i) (peer + i) end) (peer + i) (end_answer end p)) ∙ post;
        resets = λ r. going_resets (end_answer end p) r going;
        last = is_last (end_moved end (end_answer end p)) (view_after side w (Hears (peer + i) p)) (sent (end_moved end (end_answer end p))) now;
      })

  pub hears_first : (v : EndView) (role : Role) (p : PacketView) → IsGoing (end_answer (begin_of role) p) → IsEndRunning (end_moved (begin_of role) (end_answer (begin_of role) p)) → StandsIn side posts own peer i (HasAsked role) v
      → By (Hears (peer + i) p ∷ []) (IsIn (end_moved (begin_of role) (end_answer (begin_of role) p))) (sent (end_moved (begin_of role) (end_answer (begin_of role) p))) v
  hears_first v role p going runs stands =
      let w = placed v (HasAsked role) own peer i in
      let post = going_post (asked (own + i) role) (end_answer (begin_of role) p) going in
      let now = by_posts (IsIn (end_moved (begin_of role) (end_answer (begin_of role) p))) (view_after side w (Hears (peer + i) p)) _ _ post (binds side posts own peer i role v p going runs stands) in
      subst (λ (x : EndView). By (Hears (peer + i) p ∷ []) (IsIn (end_moved (begin_of role) (end_answer (begin_of role) p))) (sent (end_moved (begin_of role) (end_answer (begin_of role) p))) x) (sym (by_live side posts own peer i (HasAsked role) v stands)) (record {
        stands = now;
        posted = append-nil (heard_post side (asked (own + i) role) (peer + i) (end_answer (begin_of role) p)) ∙ post;
        resets = λ r. going_resets (end_answer (begin_of role) p) r going;
        last = is_last (end_moved (begin_of role) (end_answer (begin_of role) p)) (view_after side w (Hears (peer + i) p)) (sent (end_moved (begin_of role) (end_answer (begin_of role) p))) now;
      })

  -- ---- the request that is taken

  pub serves_now : (v : EndView) (role : Role) → IsEndRunning (begin_of role) → StandsIn side posts own peer i Rests v → By (Serves (peer + i) role ∷ []) (IsIn (begin_of role)) (sent (begin_of role)) v
  serves_now v role runs stands =
      let post : posts_of side v (Serves (peer + i) role) ≡ sent (begin_of role) = rw (stands.port, first_is_sent role) refl in
      let now = by_posts (IsIn (begin_of role)) (view_after side v (Serves (peer + i) role)) _ _ post (serves side posts own peer i v role stands runs) in
      record {
        stands = now;
        posted = append-nil (posts_of side v (Serves (peer + i) role)) ∙ post;
        resets = λ r. refl;
        last = is_last (begin_of role) (view_after side v (Serves (peer + i) role)) (sent (begin_of role)) now;
      }

  stopped : (v : EndView) → StandsIn side posts own peer i Rests v → StandsIn side posts own peer i Rests (view_after side v Stops)
  stopped v stands = record { port = stands.port; mark = stands.mark; live = refl; last = tt; underway = tt; kept = stands.kept }

  -- the target's session begins anew
  pub begins_to_serve : (v : EndView) (role : Role) → IsEndRunning (begin_of role) → StandsIn side posts own peer i Rests v → By (Stops ∷ Serves (peer + i) role ∷ []) (IsIn (begin_of role)) (sent (begin_of role)) v
  begins_to_serve v role runs stands = let m = serves_now (view_after side v Stops) role runs (stopped v stands) in record { stands = m.stands; posted = m.posted; resets = m.resets; last = m.last }

-- ---- the end of a transfer

module _ (side : Side) (posts : List DatagramView) (own peer i : ℕ) where
  abbrev Then : List Move → Position → List DatagramView → EndView → Type 0
  Then moves position new v = Moved side v moves posts own peer (i + 1) position new

  abbrev acked : Receiver → List ℕ → List DatagramView
  acked r payload = datagram side (own + i) (peer + i) (receiver_packet (receiver_moved r (TakesLast payload))) ∷ []

  posted_now : (r : Receiver) (payload : List ℕ) → IsPosted (posts ++ acked r payload) (Some (datagram side (own + i) (peer + i) (receiver_packet (receiver_moved r (TakesLast payload)))))
  posted_now r payload = (datagram side (own + i) (peer + i) (receiver_packet (receiver_moved r (TakesLast payload))), refl, Contains-push posts (datagram side (own + i) (peer + i) (receiver_packet (receiver_moved r (TakesLast payload)))))

  -- what is kept of the transfer
  pub record TookLast (v : EndView) (p : PacketView) (r : Receiver) (payload : List ℕ) : Type 0 where
    pub moved : Then (Hears (peer + i) p ∷ []) Rests (acked r payload) v
    pub kept : (views_after side v (Hears (peer + i) p ∷ [])).kept ≡ Some (record { own = own + i; peer = Some (peer + i); end = Receives (receiver_moved r (TakesLast payload)) })

  took_last : (r : Receiver) (payload : List ℕ) (a : Answer) (v : EndView) (p : PacketView) → a ≡ TakesLast payload
      → StandsIn side (posts ++ heard_post side (here (own + i) (peer + i) (Receives r)) (peer + i) (receiver_answer r p)) own peer (i + 1) Rests (view_after side (placed v (IsIn (Receives r)) own peer i) (Hears (peer + i) p))
      → receiver_answer r p ≡ a → TookLast (placed v (IsIn (Receives r)) own peer i) p r payload
  took_last r payload a v p e stands is =
      let f : receiver_answer r p ≡ TakesLast payload = is ∙ e in
      record {
        moved = record {
          stands = subst (λ (x : Answer). StandsIn side (posts ++ heard_post side (here (own + i) (peer + i) (Receives r)) (peer + i) x) own peer (i + 1) Rests (view_after side (placed v (IsIn (Receives r)) own peer i) (Hears (peer + i) p))) f stands;
          posted = rw f refl;
          resets = λ n. rw f refl;
          last = rw f (posted_now r payload);
        };
        kept = rw f refl;
      }

  pub hears_last : (v : EndView) (r : Receiver) (payload : List ℕ) (p : PacketView) → receiver_answer r p ≡ TakesLast payload
      → acknowledges (datagram side (own + i) (peer + i) (receiver_packet (receiver_moved r (TakesLast payload)))) ≡ true
      → StandsIn side posts own peer i (IsIn (Receives r)) v → TookLast v p r payload
  hears_last v r payload p e ack stands =
      subst (λ (x : EndView). TookLast x p r payload) (sym (by_live side posts own peer i (IsIn (Receives r)) v stands))
      (took_last r payload (TakesLast payload) v p refl (takes_the_last side posts own peer i r payload v p e ack stands) e)

  took_first : (name : List ℕ) (o : Options) (payload : List ℕ) (v : EndView) (p : PacketView) → receiver_answer (receiver_asking name o) p ≡ TakesLast payload
      → StandsIn side (posts ++ heard_post side (asked (own + i) (Reads name o)) (peer + i) (receiver_answer (receiver_asking name o) p)) own peer (i + 1) Rests (view_after side (placed v (HasAsked (Reads name o)) own peer i) (Hears (peer + i) p))
      → TookLast (placed v (HasAsked (Reads name o)) own peer i) p (receiver_asking name o) payload
  took_first name o payload v p f stands = record {
    moved = record {
      stands = subst (λ (x : Answer). StandsIn side (posts ++ heard_post side (asked (own + i) (Reads name o)) (peer + i) x) own peer (i + 1) Rests (view_after side (placed v (HasAsked (Reads name o)) own peer i) (Hears (peer + i) p))) f stands;
      posted = rw f refl;
      resets = λ n. rw f refl;
      last = rw f (posted_now (receiver_asking name o) payload);
    };
    kept = rw f refl;
  }

  pub hears_first_last : (v : EndView) (name : List ℕ) (o : Options) (payload : List ℕ) (p : PacketView) → receiver_answer (receiver_asking name o) p ≡ TakesLast payload
      → acknowledges (datagram side (own + i) (peer + i) (receiver_packet (receiver_moved (receiver_asking name o) (TakesLast payload)))) ≡ true
      → StandsIn side posts own peer i (HasAsked (Reads name o)) v → TookLast v p (receiver_asking name o) payload
  hears_first_last v name o payload p e ack stands =
      subst (λ (x : EndView). TookLast x p (receiver_asking name o) payload) (sym (by_live side posts own peer i (HasAsked (Reads name o)) v stands))
      (took_first name o payload v p e (binds_with_the_last side posts own peer i name o payload v p e ack stands))

  -- the last block was acknowledged
  pub hears_done : (v : EndView) (s : Sender) (p : PacketView) → sender_answer s p ≡ Completes → StandsIn side posts own peer i (IsIn (Sends s)) v → Then (Hears (peer + i) p ∷ []) Rests [] v
  hears_done v s p e stands =
      let w = placed v (IsIn (Sends s)) own peer i in
      let d = datagram side (own + i) (peer + i) (end_packet (Sends s)) in
      subst (λ (x : EndView). Then (Hears (peer + i) p ∷ []) Rests [] x) (sym (by_live side posts own peer i (IsIn (Sends s)) v stands)) (record {
        stands = subst (λ (x : Answer). StandsIn side (posts ++ heard_post side (here (own + i) (peer + i) (Sends s)) (peer + i) x) own peer (i + 1) Rests (view_after side w (Hears (peer + i) p))) e (last_is_acknowledged side posts own peer i s v p e stands);
        posted = rw e refl;
        resets = λ n. rw e refl;
        last = rw e (d, stands.last.0, Contains-append_left posts [] d stands.last.1);
      })

-- ---- and what follows in the same step

pub then_asks : (side : Side) (v : EndView) (move : Move) (role : Role) (posts : List DatagramView) (own peer i : ℕ) (new : List DatagramView) → Moved side v (move ∷ []) posts own peer i Rests new
    → Moved side v (move ∷ Asks role ∷ []) posts own peer i (HasAsked role) (new ++ request side (own + i) role ∷ [])
then_asks side v move role posts own peer i new m =
    let w = view_after side v move in
    let post : posts_of side w (Asks role) ≡ request side (own + i) role ∷ [] = rw m.stands.port refl in
    let now : StandsIn side ((posts ++ new) ++ request side (own + i) role ∷ []) own peer i (HasAsked role) (view_after side w (Asks role)) =
    subst (λ (ds : List DatagramView). StandsIn side ((posts ++ new) ++ ds) own peer i (HasAsked role) (view_after side w (Asks role))) post (asks side (posts ++ new) own peer i w role m.stands) in
    let both = append_assoc posts new (request side (own + i) role ∷ []) in
    record {
      stands = subst (λ (ds : List DatagramView). StandsIn side ds own peer i (HasAsked role) (view_after side w (Asks role))) both now;
      posted = ap (λ (ds : List DatagramView). posts_of side v move ++ ds) post ∙ ap (λ (ds : List DatagramView). ds ++ request side (own + i) role ∷ []) (sym (append-nil (posts_of side v move)) ∙ m.posted);
      resets = m.resets;
      last = subst (λ (ds : List DatagramView). IsPosted ds (view_after side w (Asks role)).last) both (request side (own + i) role, now.last.0, now.last.1);
    }

pub then_stops : (side : Side) (v : EndView) (move : Move) (posts : List DatagramView) (own peer i : ℕ) (new : List DatagramView) → Moved side v (move ∷ []) posts own peer i Rests new
    → Moved side v (move ∷ Stops ∷ []) posts own peer i Rests new
then_stops side v move posts own peer i new m = record {
  stands = record { port = m.stands.port; mark = m.stands.mark; live = refl; last = tt; underway = tt; kept = m.stands.kept };
  posted = m.posted;
  resets = λ r. refl;
  last = m.last;
}
