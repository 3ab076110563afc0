-- What follows from a packet of a transfer, step by step.
use Rattle.std.proofs.Common.{◌≡◌, ℕ, List, [], ◌∷◌, ◌++◌, Bool, true, false, Option, Some, None, is_none, Result, Ok, Err, IfOk, refl, sym, ap, subst, ◌∙◌, if◌then◌else◌}
use Rattle.std.proofs.lemmas.List.{append-nil}
use Rattle.exchange_trace.specs.declared.trace.Datagram.{Datagram}
use Rattle.accept_rules.specs.Permissions.{Accepts}
use Rattle.load_intake.specs.declared.down.Down.{Down}
use Rattle.exchange_trace.specs.declared.trace.Side.TheVariants as sides
use Rattle.exchange_trace.specs.Happenings.{DatagramView}
use Rattle.disk_layout.specs.Holds.{Outline}
use Rattle.tftp_packet.specs.Packets.{PacketView}
use Rattle.tftp_link.specs.Answers.{Answer, Dropped, Again, Grants, TakesBlock, TakesLast, Proceeds, Completes, Fails, NewsView, news_by}
use Rattle.transfer_end.specs.Calls.{Makes, posted}
use Rattle.transfer_end.proofs.CallLemmas.{KeepsPorts, posts_join, transfer_keeps, views_join}
use Rattle.transfer_end.specs.Moves.{Move, Asks, Repeats, Stops, all_posts, view_after, views_after}
use Rattle.transfer_end.specs.Packets.{has_port, heard_answer, may_repeat, transfer_moves}
use Rattle.transfer_end.specs.Transfers.{Role}
use Rattle.transfer_end.specs.Views.{EndView}
use Rattle.session_rules.specs.declared.reason.Reason.{Reason}
use Rattle.session_rules.specs.Target.{Begins, Continues, Ends, TargetChange, TargetDecision, TargetSession, TargetView, Turns, Turns_without_port, active_in, answer_decision, continued, doing, in_row, is_over, later_reason, moved_decision, next_decision, nothing, reason_in, row_request, session_turned, target_changed, tick_decision, transfer_decision, turn_decision, view_turned, view_without_port}
use Rattle.session_rules.specs.TargetRows.{Arriving, Gives_lci, Writes_lcs, Writes_lcl, Gives_lui, Gives_denial, Writes_ready, Awaits_lur, Reads_file, Writes_progress, Writes_stop, Writes_completion, Over, RowMove, RowView, row_move, view_moved, with_bytes}
use Rattle.target_machine.specs.Decisions.{TargetDoes, Enters, IsCalm, TargetKeeps, TargetState, asked_view, end_with, entered_view, entering_moves, following, in_next_row, row_then, with_live}

-- these moves, and no change of the session
pub does_moves : {R : Type 0} (st after : TargetState R) (moves : List Move) (end : EndView) (posts : List DatagramView) → IsCalm st.view.live → Makes sides.Target moves st.view.end end posts
    → after.rule ≡ st.rule → after.view ≡ end_with st.view end → TargetDoes (doing moves) st after posts
does_moves st after moves end posts calm makes rule is = record {
  rule = rule;
  keeps = is ∙ rw calm (ap (end_with st.view) makes.keeps);
  posts = makes.posts;
}

-- nothing at all
pub does_nothing : {R : Type 0} (st : TargetState R) → IsCalm st.view.live → TargetDoes nothing st st []
does_nothing st calm = record { rule = refl; keeps = rw calm refl; posts = refl }

-- ---- a packet

-- one decision is another after the moves of a packet
pub record Continues_with (heard : List Move) (whole rest : TargetDecision) : Type 0 where
  pub moves : whole.moves ≡ heard ++ rest.moves
  pub change : whole.change ≡ rest.change

module _ (accepts : Accepts) (v : TargetView) (end : EndView) (heard : List Move) (keeps : KeepsPorts v.end end) where
  asked_after : (role : Role) (more : List ℕ) (move : RowMove) (port : Bool)
      → Continues_with heard (if port then record { moves = heard ++ Asks role ∷ []; change = Turns move more } else record { moves = heard ++ Stops ∷ []; change = Turns_without_port move more })
      (if port then record { moves = Asks role ∷ []; change = Turns move more } else record { moves = Stops ∷ []; change = Turns_without_port move more })
  asked_after role more move true = record { moves = refl; change = refl }
  asked_after role more move false = record { moves = refl; change = refl }

  over_after : (more : List ℕ) (move : RowMove) (over : Bool)
      → Continues_with heard (if over then record { moves = heard ++ Stops ∷ []; change = Ends None } else record { moves = heard; change = Turns move more })
      (if over then record { moves = Stops ∷ []; change = Ends None } else record { moves = []; change = Turns move more })
  over_after more move true = record { moves = refl; change = refl }
  over_after more move false = record { moves = sym (append-nil heard); change = refl }

  same_port : has_port end ≡ has_port v.end
  same_port = rw keeps.next_port refl

  next_after : (role : Option Role) (more : List ℕ) (move : RowMove) (row : RowView) → Continues_with heard (next_decision v.end heard more move row role) (next_decision end [] more move row role)
  next_after None more move row = over_after more move (is_over row)
  next_after (Some role) more move row = rw same_port (asked_after role more move (has_port v.end))

  -- the other end of the transfers doesn't change what a row asks for
  pub same_request : (row : RowView) → row_request (end_with v end) row ≡ row_request v row
  same_request Gives_lci = refl
  same_request Writes_lcs = rw keeps.asks_size refl
  same_request Writes_lcl = rw keeps.asks_size refl
  same_request Gives_lui = refl
  same_request Gives_denial = refl
  same_request Writes_ready = rw keeps.asks_size refl
  same_request Awaits_lur = refl
  same_request (Reads_file u) = rw keeps.asks_size refl
  same_request (Writes_progress u) = rw keeps.asks_size refl
  same_request (Writes_stop e) = rw keeps.asks_size refl
  same_request (Writes_completion e loads) = rw keeps.asks_size refl
  same_request Over = refl

  moved_after : (row : RowView) (more : List ℕ) (arriving : Arriving) (move : RowMove)
      → Continues_with heard (moved_decision v row heard more arriving move) (moved_decision (end_with v end) row [] more arriving move)
  moved_after row more arriving move = rw (same_request (view_moved row arriving move)) (next_after (row_request v (view_moved row arriving move)) more move (view_moved row arriving move))

  turn_after : (s : TargetSession) (more : List ℕ) (error : Option ℕ) → Continues_with heard (turn_decision accepts v s heard more error) (turn_decision accepts (end_with v end) s [] more error)
  turn_after s more error = moved_after s.row more (with_bytes s.arriving more) (row_move accepts v.active s.row (record { error = error; arriving = with_bytes s.arriving more }))

  pub answer_after : (s : TargetSession) (answer : Answer) → Continues_with heard (answer_decision accepts v s heard answer) (following accepts (end_with v end) s (news_by answer))
  answer_after s Dropped = record { moves = sym (append-nil heard); change = refl }
  answer_after s Again = record { moves = sym (append-nil heard); change = refl }
  answer_after s (Grants options) = record { moves = sym (append-nil heard); change = refl }
  answer_after s (TakesBlock payload) = record { moves = sym (append-nil heard); change = refl }
  answer_after s (TakesLast payload) = turn_after s payload None
  answer_after s Proceeds = record { moves = sym (append-nil heard); change = refl }
  answer_after s Completes = turn_after s [] None
  answer_after s (Fails code) = turn_after s [] (Some code)

-- the end before a change doesn't matter to it
changed_so : (v : TargetView) (one end : EndView) (change : TargetChange) → target_changed end (end_with v one) change ≡ target_changed end v change
changed_so v one end (Continues more) = refl
changed_so v one end (Begins kind) = refl
changed_so v one end (Turns move more) = turned_so v.live
  where
    turned_so : (live : Option TargetSession) → session_turned view_turned end (end_with v one) live move more ≡ session_turned view_turned end v live move more
    turned_so None = refl
    turned_so (Some s) = refl
changed_so v one end (Turns_without_port move more) = turned_so v.live
  where
    turned_so : (live : Option TargetSession) → session_turned view_without_port end (end_with v one) live move more ≡ session_turned view_without_port end v live move more
    turned_so None = refl
    turned_so (Some s) = refl
changed_so v one end (Ends reason) = refl

-- what is done after the moves of a packet, and with them
pub does_both : {R : Type 0} (st mid : TargetState R) (heard : List Move) (end : EndView) (whole rest : TargetDecision) (after : TargetState R) (first second : List DatagramView)
    → Makes sides.Target heard st.view.end end first → mid.rule ≡ st.rule → mid.view ≡ end_with st.view end → Continues_with heard whole rest → TargetDoes rest mid after second
    → TargetDoes whole st after (first ++ second)
does_both st mid heard end whole rest after first second makes rule is both does = record {
  rule = does.rule ∙ rule;
  keeps = does.keeps
      ∙ ap (λ (x : TargetView). target_changed (views_after sides.Target x.end rest.moves) x rest.change) is
      ∙ changed_so st.view end (views_after sides.Target end rest.moves) rest.change
      ∙ ap (λ (x : EndView). target_changed (views_after sides.Target x rest.moves) st.view rest.change) makes.keeps
      ∙ ap (λ (x : EndView). target_changed x st.view rest.change) (sym (views_join sides.Target st.view.end heard rest.moves) ∙ ap (λ moves. views_after sides.Target st.view.end moves) (sym both.moves))
      ∙ ap (λ change. target_changed (views_after sides.Target st.view.end whole.moves) st.view change) (sym both.change);
  posts = ap (λ posts. posts ++ second) makes.posts
      ∙ ap (λ posts. all_posts sides.Target st.view.end heard ++ posts)
      (does.posts ∙ ap (λ (x : TargetView). all_posts sides.Target x.end rest.moves) is ∙ ap (λ (x : EndView). all_posts sides.Target x rest.moves) makes.keeps)
      ∙ sym (posts_join sides.Target st.view.end heard rest.moves) ∙ ap (λ moves. all_posts sides.Target st.view.end moves) (sym both.moves);
}

-- a packet of a transfer, in a session or in none
transfers : {R : Type 0} (accepts : Accepts) (st mid : TargetState R) (from to : ℕ) (p : PacketView) (live : Option TargetSession) (news : NewsView) (after : TargetState R) (first second : List DatagramView)
    → st.view.live ≡ live → Makes sides.Target (transfer_moves st.view.end from to p) st.view.end mid.view.end first → mid.rule ≡ st.rule → mid.view ≡ end_with st.view mid.view.end
    → news ≡ news_by (heard_answer st.view.end from to p)
    → ((s : TargetSession) → live ≡ Some s → TargetDoes (following accepts mid.view s news) mid after second) → (live ≡ None → (second ≡ []) × (after ≡ mid))
    → TargetDoes (transfer_decision accepts st.view live from to p) st after (first ++ second)
transfers accepts st mid from to p None news after first second is makes rule same n does idle =
    let (none, kept) = idle refl in
    rw (none, append-nil first, kept) (does_moves st mid (transfer_moves st.view.end from to p) mid.view.end first (rw is refl) makes rule same)
transfers accepts st mid from to p (Some s) news after first second is makes rule same n does idle =
    let kept = subst (λ (x : EndView). KeepsPorts st.view.end x) (sym makes.keeps) (transfer_keeps sides.Target st.view.end from to p) in
    does_both st mid (transfer_moves st.view.end from to p) mid.view.end _ _ after first second makes rule same
    (answer_after accepts st.view mid.view.end (transfer_moves st.view.end from to p) kept s (heard_answer st.view.end from to p))
    (subst (λ x. TargetDoes (following accepts (end_with st.view mid.view.end) s x) mid after second) n
    (subst (λ (x : TargetView). TargetDoes (following accepts x s news) mid after second) same (does s refl)))

pub hears : {R : Type 0} (accepts : Accepts) (st mid : TargetState R) (from to : ℕ) (p : PacketView) (news : NewsView) (after : TargetState R) (first second sent : List DatagramView)
    → Makes sides.Target (transfer_moves st.view.end from to p) st.view.end mid.view.end first → mid.rule ≡ st.rule → mid.view ≡ end_with st.view mid.view.end
    → news ≡ news_by (heard_answer st.view.end from to p)
    → ((s : TargetSession) → st.view.live ≡ Some s → TargetDoes (following accepts mid.view s news) mid after second) → (st.view.live ≡ None → (second ≡ []) × (after ≡ mid))
    → sent ≡ first ++ second → TargetDoes (transfer_decision accepts st.view st.view.live from to p) st after sent
hears accepts st mid from to p news after first second sent makes rule same n does idle q =
    rw q (transfers accepts st mid from to p st.view.live news after first second refl makes rule same n does idle)

-- ---- a file that is whole

-- the session with the last bytes of its file
abbrev whole : TargetSession → List ℕ → TargetSession
whole s payload = record { row = s.row; arriving = with_bytes s.arriving payload }

module _ (v : TargetView) (s : TargetSession) (payload : List ℕ) (calm : with_bytes (with_bytes s.arriving payload) [] ≡ with_bytes s.arriving payload) where
  abbrev kept : Option TargetSession → TargetDecision → TargetView
  kept live d = target_changed (views_after sides.Target v.end d.moves) (with_live v live) d.change

  -- Both decisions come to the same: whether the last bytes were taken before, or come with the change.
  pub record AreOne (one other : TargetDecision) : Type 0 where
    pub moves : one.moves ≡ other.moves
    pub kept_so : kept (Some (whole s payload)) one ≡ kept (Some s) other

  over_one : (move : RowMove) (over : Bool) → AreOne (if over then record { moves = Stops ∷ []; change = Ends None } else record { moves = []; change = Turns move [] })
      (if over then record { moves = Stops ∷ []; change = Ends None } else record { moves = []; change = Turns move payload })
  over_one move true = record { moves = refl; kept_so = refl }
  over_one move false = record { moves = refl; kept_so = rw calm refl }

  port_one : (move : RowMove) (role : Role) (port : Bool)
      → AreOne (if port then record { moves = Asks role ∷ []; change = Turns move [] } else record { moves = Stops ∷ []; change = Turns_without_port move [] })
      (if port then record { moves = Asks role ∷ []; change = Turns move payload } else record { moves = Stops ∷ []; change = Turns_without_port move payload })
  port_one move role true = record { moves = refl; kept_so = rw calm refl }
  port_one move role false = record { moves = refl; kept_so = rw calm refl }

  next_one : (row : RowView) (move : RowMove) (role : Option Role) → AreOne (next_decision v.end [] [] move row role) (next_decision v.end [] payload move row role)
  next_one row move None = over_one move (is_over row)
  next_one row move (Some role) = port_one move role (has_port v.end)

  moved_one : (move : RowMove) → AreOne (moved_decision v s.row [] [] (with_bytes s.arriving payload) move) (moved_decision v s.row [] payload (with_bytes s.arriving payload) move)
  moved_one move = next_one (view_moved s.row (with_bytes s.arriving payload) move) move (row_request v (view_moved s.row (with_bytes s.arriving payload) move))

  pub turns_so : (accepts : Accepts) → AreOne (turn_decision accepts (with_live v (Some (whole s payload))) (whole s payload) [] [] None) (turn_decision accepts v s [] payload None)
  turns_so accepts =
      subst (λ (x : Arriving). AreOne (moved_decision v s.row [] [] x (row_move accepts v.active s.row (record { error = None; arriving = x }))) (turn_decision accepts v s [] payload None)) (sym calm)
      (moved_one (row_move accepts v.active s.row (record { error = None; arriving = with_bytes s.arriving payload })))

calm_of : (s : TargetSession) → IsCalm (Some s) → with_bytes s.arriving [] ≡ s.arriving
calm_of s e = ap arriving_in e
  where
    arriving_in : Option TargetSession → Arriving
    arriving_in None = s.arriving
    arriving_in (Some x) = x.arriving

-- what the last bytes of a file come to
pub takes_last : {R : Type 0} (accepts : Accepts) (now mid after : TargetState R) (s : TargetSession) (payload : List ℕ) (posts : List DatagramView) → now.view.live ≡ Some s
    → mid.rule ≡ now.rule → mid.view ≡ with_live now.view (continued now.view.live payload) → IsCalm mid.view.live
    → ((t : TargetSession) → mid.view.live ≡ Some t → TargetDoes (turn_decision accepts mid.view t [] [] None) mid after posts)
    → TargetDoes (turn_decision accepts now.view s [] payload None) now after posts
takes_last accepts now mid after s payload posts live rule m calm does =
    let taken : mid.view ≡ with_live now.view (Some (whole s payload)) = m ∙ ap (λ x. with_live now.view (continued x payload)) live in
    let is : mid.view.live ≡ Some (whole s payload) = ap (λ (x : TargetView). x.live) taken in
    let same = turns_so now.view s payload (calm_of (whole s payload) (subst (λ x. IsCalm x) is calm)) accepts in
    let done = does (whole s payload) is in
    record {
      rule = done.rule ∙ rule;
      keeps = done.keeps
          ∙ ap (λ (x : TargetView). target_changed (views_after sides.Target x.end (turn_decision accepts x (whole s payload) [] [] None).moves) x (turn_decision accepts x (whole s payload) [] [] None).change) taken
          ∙ same.kept_so
          ∙ ap (λ x. target_changed (views_after sides.Target now.view.end (turn_decision accepts now.view s [] payload None).moves) (with_live now.view x) (turn_decision accepts now.view s [] payload None).change) (sym live);
      posts = done.posts
          ∙ ap (λ (x : TargetView). all_posts sides.Target x.end (turn_decision accepts x (whole s payload) [] [] None).moves) taken
          ∙ ap (λ moves. all_posts sides.Target now.view.end moves) same.moves;
    }

-- ---- the next row

-- a row's request is the same once the session has turned to it
pub request_then : (v : TargetView) (row : RowView) → row_request (view_turned v.end v row) row ≡ row_request v row
request_then v Gives_lci = refl
request_then v Writes_lcs = refl
request_then v Writes_lcl = refl
request_then v Gives_lui = refl
request_then v Gives_denial = refl
request_then v Writes_ready = refl
request_then v Awaits_lur = refl
request_then v (Reads_file u) = refl
request_then v (Writes_progress u) = refl
request_then v (Writes_stop e) = refl
request_then v (Writes_completion e loads) = refl
request_then v Over = refl

-- no request is asked for where a session is over
over_asks_nothing : (v : TargetView) (row : RowView) → is_over row ≡ true → row_request v row ≡ None
over_asks_nothing v Over is = refl
over_asks_nothing v Gives_lci is = absurd cc
over_asks_nothing v Writes_lcs is = absurd cc
over_asks_nothing v Writes_lcl is = absurd cc
over_asks_nothing v Gives_lui is = absurd cc
over_asks_nothing v Gives_denial is = absurd cc
over_asks_nothing v Writes_ready is = absurd cc
over_asks_nothing v Awaits_lur is = absurd cc
over_asks_nothing v (Reads_file u) is = absurd cc
over_asks_nothing v (Writes_progress u) is = absurd cc
over_asks_nothing v (Writes_stop e) is = absurd cc
over_asks_nothing v (Writes_completion e loads) is = absurd cc

-- what a session comes to, by what is decided and in two pieces
pub record ComesTo (v : TargetView) (d : TargetDecision) (mid : TargetView) : Type 0 where
  pub keeps : target_changed (views_after sides.Target v.end d.moves) v d.change ≡ entered_view mid mid.live
  pub moves : d.moves ≡ entering_moves mid mid.live

module _ (o : TargetView) (s : TargetSession) (calm : with_bytes s.arriving [] ≡ s.arriving) (move : RowMove) where
  -- what is kept, with this session, and the row to which it turns
  abbrev v : TargetView
  v = with_live o (Some s)

  abbrev turned : RowView
  turned = view_moved s.row s.arriving move

  port_kept : (role : Role) (port : Bool) → has_port o.end ≡ port → row_request v turned ≡ Some role
      → target_changed (views_after sides.Target o.end (if port then Asks role ∷ [] else Stops ∷ [])) v (if port then Turns move [] else Turns_without_port move []) ≡ asked_view (view_turned o.end v turned) (Some role)
  port_kept role true p r = rw (calm, p) refl
  port_kept role false p r = rw (calm, p) refl

  with_role : (role : Role) (port : Bool) → has_port o.end ≡ port → row_request v turned ≡ Some role
      → ComesTo v (if port then record { moves = Asks role ∷ []; change = Turns move [] } else record { moves = Stops ∷ []; change = Turns_without_port move [] }) (view_turned o.end v turned)
  with_role role true p r = record { keeps = port_kept role true p r ∙ ap (asked_view (view_turned o.end v turned)) (sym r ∙ sym (request_then v turned)); moves = rw (request_then v turned, r, p) refl }
  with_role role false p r = record { keeps = port_kept role false p r ∙ ap (asked_view (view_turned o.end v turned)) (sym r ∙ sym (request_then v turned)); moves = rw (request_then v turned, r, p) refl }

  without_role : (over : Bool) → is_over turned ≡ over → row_request v turned ≡ None
      → ComesTo v (if over then record { moves = Stops ∷ []; change = Ends None } else record { moves = []; change = Turns move [] }) (if over then with_live v None else view_turned o.end v turned)
  without_role true is r = record { keeps = refl; moves = refl }
  without_role false is r = record {
    keeps = ap (λ (x : Arriving). view_turned o.end v (view_moved s.row x move)) calm ∙ ap (asked_view (view_turned o.end v turned)) (sym r ∙ sym (request_then v turned));
    moves = rw (request_then v turned, r) refl;
  }

  by_role : (role : Option Role) → row_request v turned ≡ role → ComesTo v (next_decision o.end [] [] move turned role) (in_next_row v turned)
  by_role None r = without_role (is_over turned) refl r
  by_role (Some role) r =
      subst (λ x. ComesTo v (next_decision o.end [] [] move turned (Some role)) (if x then with_live v None else view_turned o.end v turned)) (sym (not_over (is_over turned) refl))
      (with_role role (has_port o.end) refl r)
    where
      not_over : (over : Bool) → is_over turned ≡ over → is_over turned ≡ false
      not_over false is = is
      not_over true is = absurd (some_is_none (sym r ∙ over_asks_nothing v turned is))
        where
          some_is_none : Some role ≡ None → ⊥
          some_is_none e = absurd cc

next_end : (v : TargetView) (row : RowView) (over : Bool) → (if over then with_live v None else view_turned v.end v row).end ≡ v.end
next_end v row true = refl
next_end v row false = refl

-- A transfer of the live session is over: its row turns, and then asks for what it asks for.
pub turns : {R : Type 0} (accepts : Accepts) (now mid after : TargetState R) (s : TargetSession) (error : Option ℕ) (sent : List DatagramView) → now.view.live ≡ Some s → IsCalm now.view.live
    → TargetKeeps now mid (in_next_row now.view (row_then accepts now.view.active s error)) → Enters mid after sent
    → TargetDoes (turn_decision accepts now.view s [] [] error) now after sent
turns accepts now mid after s error sent live calm turned enters =
    let still = calm_of s (subst (λ x. IsCalm x) live calm) in
    let move = row_move accepts now.view.active s.row (record { error = error; arriving = s.arriving }) in
    let v : now.view ≡ with_live now.view (Some s) = ap (with_live now.view) live in
    let d : turn_decision accepts now.view s [] [] error ≡ moved_decision now.view s.row [] [] s.arriving move =
    ap (λ (x : Arriving). moved_decision now.view s.row [] [] x (row_move accepts now.view.active s.row (record { error = error; arriving = x }))) still in
    let comes : ComesTo now.view (moved_decision now.view s.row [] [] s.arriving move) (in_next_row now.view (view_moved s.row s.arriving move)) =
    subst (λ (x : TargetView). ComesTo x (moved_decision x s.row [] [] s.arriving move) (in_next_row x (view_moved s.row s.arriving move))) (sym v)
    (by_role now.view s still move (row_request (with_live now.view (Some s)) (view_moved s.row s.arriving move)) refl) in
    subst (λ x. TargetDoes x now after sent) (sym d)
    (record {
      rule = enters.rule ∙ turned.rule;
      keeps = enters.keeps ∙ ap (λ (x : TargetView). entered_view x x.live) turned.view_is ∙ sym comes.keeps;
      posts = enters.posts ∙ ap (λ (x : TargetView). all_posts sides.Target x.end (entering_moves x x.live)) turned.view_is
          ∙ ap (λ (x : EndView). all_posts sides.Target x (entering_moves (in_next_row now.view (view_moved s.row s.arriving move)) (in_next_row now.view (view_moved s.row s.arriving move)).live)) (next_end now.view (view_moved s.row s.arriving move) (is_over (view_moved s.row s.arriving move)))
          ∙ ap (λ moves. all_posts sides.Target now.view.end moves) (sym comes.moves);
    })

-- ---- ticks

ticks_live : (v : EndView) (live : Option TargetSession) → is_none live ≡ false → may_repeat v ≡ true → tick_decision v live ≡ doing (Repeats ∷ [])
ticks_live v None is may = absurd cc
ticks_live v (Some s) is may = rw may refl

pub ticks : {R : Type 0} (st after : TargetState R) (end : EndView) (first sent : List DatagramView) → IsCalm st.view.live → is_none st.view.live ≡ false → may_repeat st.view.end ≡ true
    → Makes sides.Target (Repeats ∷ []) st.view.end end first → after.rule ≡ st.rule → after.view ≡ end_with st.view end → sent ≡ first ++ [] → TargetDoes (tick_decision st.view.end st.view.live) st after sent
ticks st after end first sent calm is may makes rule same p =
    rw (ticks_live st.view.end st.view.live is may, p ∙ append-nil first) (does_moves st after (Repeats ∷ []) end first calm makes rule same)

-- ---- as the code does it

pub does_so : {R : Type 0} (st now after : TargetState R) (moves : List Move) (end : EndView) (posts : List DatagramView) → st ≡ now → IsCalm st.view.live → Makes sides.Target moves st.view.end end posts
    → after.rule ≡ st.rule → after.view ≡ end_with st.view end → TargetDoes (doing moves) now after posts
does_so st now after moves end posts same calm makes rule is = subst (λ x. TargetDoes (doing moves) x after posts) same (does_moves st after moves end posts calm makes rule is)

pub ticks_so : {R : Type 0} (st now after : TargetState R) (end : EndView) (first sent : List DatagramView) → st ≡ now → IsCalm st.view.live → is_none st.view.live ≡ false → may_repeat st.view.end ≡ true
    → Makes sides.Target (Repeats ∷ []) st.view.end end first → after.rule ≡ st.rule → after.view ≡ end_with st.view end → sent ≡ first ++ [] → TargetDoes (tick_decision now.view.end now.view.live) now after sent
ticks_so st now after end first sent same calm is may makes rule kept p =
    subst (λ x. TargetDoes (tick_decision x.view.end x.view.live) x after sent) same (ticks st after end first sent calm is may makes rule kept p)

pub same_view : (end end' : EndView) (live live' : Option TargetSession) (active active' : Outline) (reason reason' : Option Reason) → end ≡ end' → live ≡ live' → active ≡ active' → reason ≡ reason'
    → ◌≡◌ {A = TargetView} (record { end = end; live = live; active = active; reason = reason }) (record { end = end'; live = live'; active = active'; reason = reason' })
same_view end end' live live' active active' reason reason' e l a r = rw (e, l, a, r) refl

-- a live session is over
pub closes : {R : Type 0} (st now after : TargetState R) → st ≡ now → after.rule ≡ st.rule → after.view.live ≡ None → after.view.active ≡ st.view.active → after.view.reason ≡ st.view.reason
    → Makes sides.Target (Stops ∷ []) st.view.end after.view.end [] → TargetKeeps now after (with_live (end_with now.view (view_after sides.Target now.view.end Stops)) None)
closes st now after same rule live active reason makes =
    subst (λ x. TargetKeeps x after (with_live (end_with x.view (view_after sides.Target x.view.end Stops)) None)) same
    (record { rule = rule; view_is = same_view _ _ _ _ _ _ _ _ makes.keeps live active reason })

-- an event of the session's own is heard as it was sent
pub hears_so : {R : Type 0} (accepts : Accepts) (st now mid after : TargetState R) (from to : ℕ) (p : PacketView) (news : NewsView) (first second sent : List DatagramView)
    → st ≡ now → Makes sides.Target (transfer_moves st.view.end from to p) st.view.end mid.view.end first → mid.rule ≡ st.rule → mid.view ≡ end_with st.view mid.view.end
    → news ≡ news_by (heard_answer st.view.end from to p)
    → ((s : TargetSession) → mid.view.live ≡ Some s → TargetDoes (following accepts mid.view s news) mid after second) → (mid.view.live ≡ None → (second ≡ []) × (after ≡ mid))
    → sent ≡ first ++ second → TargetDoes (transfer_decision accepts now.view now.view.live from to p) now after sent
hears_so accepts st now mid after from to p news first second sent same makes rule kept n does idle q =
    let is : st.view.live ≡ mid.view.live = sym (ap (λ (x : TargetView). x.live) kept) in
    subst (λ x. TargetDoes (transfer_decision accepts x.view x.view.live from to p) x after sent) same
    (hears accepts st mid from to p news after first second sent makes rule kept n (λ s e. does s (sym is ∙ e)) (λ e. idle (sym is ∙ e)) q)

-- ---- rows

-- the session turns to a row in which nothing has arrived
pub turned_to : (v : TargetView) (row : RowView) (end : EndView) (live : Option TargetSession) (active : Outline) (reason : Option Reason) → is_over row ≡ false → end ≡ v.end → live ≡ Some (in_row row)
    → active ≡ active_in v.active row → reason ≡ later_reason v.reason (reason_in row) → ◌≡◌ {A = TargetView} (record { end = end; live = live; active = active; reason = reason }) (in_next_row v row)
turned_to v row end live active reason over e l a r = same_view _ _ _ _ _ _ _ _ e l a r ∙ sym (ap (λ x. if x then with_live v None else view_turned v.end v row) over)

-- or is over
pub turned_over : (v : TargetView) (row : RowView) (end : EndView) (live : Option TargetSession) (active : Outline) (reason : Option Reason) → row ≡ Over → end ≡ v.end → live ≡ None
    → active ≡ active_in v.active row → reason ≡ v.reason → ◌≡◌ {A = TargetView} (record { end = end; live = live; active = active; reason = reason }) (in_next_row v row)
turned_over v row end live active reason over e l a r =
    same_view _ _ _ _ _ _ _ _ e l (a ∙ ap (active_in v.active) over) r ∙ sym (ap (λ x. if is_over x then with_live v None else view_turned v.end v x) over)

pub ends_with_last : {R : Type 0} (accepts : Accepts) (now mid after : TargetState R) (s : TargetSession) (payload : List ℕ) (result : Result (Option Datagram) Down) → now.view.live ≡ Some s
    → TargetKeeps now mid (with_live now.view (continued now.view.live payload)) → IsCalm mid.view.live
    → ((t : TargetSession) → mid.view.live ≡ Some t → IfOk result (λ post. TargetDoes (turn_decision accepts mid.view t [] [] None) mid after (posted post)))
    → IfOk result (λ post. TargetDoes (turn_decision accepts now.view s [] payload None) now after (posted post))
ends_with_last accepts now mid after s payload (Err e) live takes calm does = tt
ends_with_last accepts now mid after s payload (Ok post) live takes calm does = takes_last accepts now mid after s payload (posted post) live takes.rule takes.view_is calm does
