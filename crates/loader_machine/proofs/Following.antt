-- What follows from a packet of a transfer, step by step.
use Rattle.std.proofs.Common.{arith, ◌≡◌, ℕ, ◌+◌, ◌==◌, ◌-◌, length, List, [], ◌∷◌, ◌++◌, Bool, true, false, Option, Some, None, is_some, is_none, Result, Ok, Err, IfOk, OnOk, refl, sym, ap, subst, ◌∙◌, if◌then◌else◌}
use Rattle.std.proofs.Math.Seq.{take-nil}
use Rattle.std.proofs.lemmas.List.{append-nil}
use Rattle.load_base.specs.declared.list.NoMemory.{NoMemory}
use Rattle.exchange_trace.specs.declared.trace.Datagram.{Datagram}
use Rattle.exchange_trace.specs.declared.trace.Side.TheVariants as sides
use Rattle.exchange_trace.specs.Happenings.{DatagramView}
use Rattle.load_protocol_files.specs.Lcl.{LclView}
use Rattle.tftp_packet.specs.Packets.{PacketView}
use Rattle.tftp_link.specs.Answers.{Answer, Dropped, Again, Grants, TakesBlock, TakesLast, Proceeds, Completes, Fails, NewsView, news_by}
use Rattle.transfer_end.specs.Calls.{Makes, posted}
use Rattle.transfer_end.proofs.CallLemmas.{KeepsPorts, posts_join, transfer_keeps, views_join}
use Rattle.transfer_end.specs.Moves.{Move, Asks, Repeats, Stops, all_posts, view_after, views_after}
use Rattle.transfer_end.specs.Packets.{has_port, heard_answer, may_repeat, transfer_moves}
use Rattle.transfer_end.specs.Transfers.{Role}
use Rattle.transfer_end.specs.Views.{EndView}
use Rattle.session_rules.specs.declared.outcome.Outcome.{Outcome}
use Rattle.session_rules.specs.declared.outcome.Outcome.TheVariants.{PeerError, PortsSpent}
use Rattle.session_rules.specs.declared.outcome.SessionKind.{SessionKind}
use Rattle.session_rules.specs.declared.outcome.SessionKind.TheVariants.{Info, Upload}
use Rattle.session_rules.specs.Buffers.{Buffer, buffer_size, buffered_more}
use Rattle.session_rules.specs.Loader.{Advances, EndedSession, Ends, LoaderDecision, LoaderSession, LoaderView, Start, advanced, answer_decision, continued, doing, ended_by, listed_by, loader_changed, next_decision, row_request, session_decision, tick_decision, turn_decision}
use Rattle.session_rules.specs.LoaderRows.{LoaderRow, Comes_to, Goes_on, Reads_lci, Takes_lcs, Takes_lcl, Reads_lui, Takes_lus, Writes_lur, Serves_files, RowTurn, file_turn, row_after}
use Rattle.loader_machine.specs.Machine.{LoaderDoes, LoaderState, asking, closed, following, is_asking, is_row_of, media_of, with_end, with_session}
use Rattle.loader_machine.proofs.Closing.{buffered_nothing, closes, state}

-- ---- nothing more of a file

zero_more : (n : ℕ) → n + 0 ≡ n
zero_more n = omega arith

pub buffered_same : (b : Buffer) → buffered_more b [] ≡ b
buffered_same b = rw (take-nil (buffer_size - length b.prefix), append-nil b.prefix, zero_more b.count) refl

pub continued_same : (live : Option LoaderSession) → continued live [] ≡ live
continued_same None = refl
continued_same (Some s) = rw (buffered_same s.arriving) refl

-- these moves, and no change of the session
pub does_moves : (st : LoaderState) (moves : List Move) (end : EndView) (posts : List DatagramView) → Makes sides.Loader moves st.view.end end posts → LoaderDoes (doing moves) st (with_end st end) posts
does_moves st moves end posts makes = record {
  set = refl;
  keeps = rw (continued_same st.view.live) (ap (λ (x : EndView). record { end = x; live = st.view.live; ended = st.view.ended }) makes.keeps);
  posts = makes.posts;
}

pub does_so : (st now : LoaderState) (moves : List Move) (end : EndView) (posts : List DatagramView) → st ≡ now → Makes sides.Loader moves st.view.end end posts → LoaderDoes (doing moves) now (with_end st end) posts
does_so st now moves end posts same makes = subst (λ x. LoaderDoes (doing moves) x (with_end st end) posts) same (does_moves st moves end posts makes)

-- ---- rows

-- the next row is one of the same operation
pub next_of : (kind : SessionKind) (row : LoaderRow) → is_row_of kind row ≡ true → is_row_of kind (row_after row) ≡ true
next_of Info Reads_lci is = refl
next_of Info Takes_lcs is = refl
next_of Info Takes_lcl is = refl
next_of Info Reads_lui is = absurd cc
next_of Info Takes_lus is = absurd cc
next_of Info Writes_lur is = absurd cc
next_of Info Serves_files is = absurd cc
next_of Upload Reads_lci is = absurd cc
next_of Upload Takes_lcs is = absurd cc
next_of Upload Takes_lcl is = absurd cc
next_of Upload Reads_lui is = refl
next_of Upload Takes_lus is = refl
next_of Upload Writes_lur is = refl
next_of Upload Serves_files is = refl

asks_so : (asks_size : Option ℕ) (s : Start) (row : LoaderRow) → is_some (row_request asks_size s row) ≡ is_asking row
asks_so asks_size s Reads_lci = refl
asks_so asks_size s Takes_lcs = refl
asks_so asks_size s Takes_lcl = refl
asks_so asks_size s Reads_lui = refl
asks_so asks_size s Takes_lus = refl
asks_so asks_size s Writes_lur = refl
asks_so asks_size s Serves_files = refl

goes_next : (v : EndView) (role : Option Role) → (is_some role ≡ true → has_port v ≡ true) → next_decision v [] [] role ≡ record { moves = asking role; change = Advances }
goes_next v None port = refl
goes_next v (Some role) port = rw (port refl) refl

module _ (now after : LoaderState) (s : LoaderSession) where
  abbrev asked : Option Role
  asked = row_request now.view.end.asks_size s.start (row_after s.row)

  -- the session enters its next row
  pub enters : (posts : List DatagramView) → (is_asking (row_after s.row) ≡ true → has_port now.view.end ≡ true) → Makes sides.Loader (asking asked) now.view.end after.view.end posts
      → after ≡ with_session (with_end now after.view.end) (advanced now.view.live) → LoaderDoes (turn_decision now.view.end s [] [] Goes_on) now after posts
  enters posts port makes rest =
      rw (goes_next now.view.end asked (λ is. port (sym (asks_so now.view.end.asks_size s.start (row_after s.row)) ∙ is)))
      (record {
        set = ap (λ (x : LoaderState). x.set) rest;
        keeps = ap (λ (x : LoaderState). x.view) rest ∙ ap (λ (x : EndView). record { end = x; live = advanced now.view.live; ended = now.view.ended }) makes.keeps;
        posts = makes.posts;
      })

  -- or comes to its end
  pub comes_to : (outcome : Outcome) (listed : Option LclView) (idle : LoaderState) → now.view.live ≡ Some s → listed ≡ listed_by s.start.kind outcome s.arriving.prefix
      → idle ≡ with_end now (view_after sides.Loader now.view.end Stops) → after ≡ closed idle outcome listed → LoaderDoes (turn_decision now.view.end s [] [] (Comes_to outcome)) now after []
  comes_to outcome listed idle live l i a =
      let stopped = view_after sides.Loader now.view.end Stops in
      let over : after ≡ state now.set stopped None (ended_by outcome [] now.view.live now.view.ended) =
      a ∙ ap (λ (x : LoaderState). closed x outcome listed) i ∙ ap (λ x. closed (state now.set stopped x now.view.ended) outcome listed) live
      ∙ closes now.set stopped s now.view.ended outcome listed l ∙ ap (λ x. state now.set stopped None (ended_by outcome [] x now.view.ended)) (sym live) in
      rw over (record { set = refl; keeps = refl; posts = refl })

-- ---- a file that is whole

module _ (v : EndView) (s : LoaderSession) (payload : List ℕ) (ended : List EndedSession) where
  -- the session with the last bytes of its file
  abbrev whole : LoaderSession
  whole = record { start = s.start; row = s.row; arriving = buffered_more s.arriving payload }

  abbrev kept : Option LoaderSession → LoaderDecision → LoaderView
  kept live d = loader_changed (views_after sides.Loader v d.moves) (record { end = v; live = live; ended = ended }) d.change

  -- Both decisions come to the same: whether the last bytes were taken before, or come with the change.
  pub record AreOne (one other : LoaderDecision) : Type 0 where
    pub moves : one.moves ≡ other.moves
    pub kept : kept (Some whole) one ≡ kept (Some s) other

  ends_so : (outcome : Outcome) → AreOne (record { moves = Stops ∷ []; change = Ends outcome [] }) (record { moves = Stops ∷ []; change = Ends outcome payload })
  ends_so outcome = record { moves = refl; kept = rw (buffered_nothing (buffered_more s.arriving payload)) refl }

  asked_so : (role : Role) (port : Bool)
      → AreOne (if port then record { moves = Asks role ∷ []; change = Advances } else record { moves = Stops ∷ []; change = Ends PortsSpent [] })
      (if port then record { moves = Asks role ∷ []; change = Advances } else record { moves = Stops ∷ []; change = Ends PortsSpent payload })
  asked_so role true = record { moves = refl; kept = refl }
  asked_so role false = ends_so PortsSpent

  next_so : (role : Option Role) → AreOne (next_decision v [] [] role) (next_decision v [] payload role)
  next_so None = record { moves = refl; kept = refl }
  next_so (Some role) = asked_so role (has_port v)

  pub turns_so : (turn : RowTurn) → AreOne (turn_decision v whole [] [] turn) (turn_decision v s [] payload turn)
  turns_so Goes_on = next_so (row_request v.asks_size s.start (row_after s.row))
  turns_so (Comes_to outcome) = ends_so outcome

-- what the last bytes of a file come to
pub takes_last : (now mid after : LoaderState) (s : LoaderSession) (payload : List ℕ) (turn : RowTurn) (posts : List DatagramView) → now.view.live ≡ Some s
    → mid ≡ with_session now (continued now.view.live payload) → turn ≡ file_turn s.row (buffered_more s.arriving payload)
    → ((t : LoaderSession) → mid.view.live ≡ Some t → LoaderDoes (turn_decision mid.view.end t [] [] turn) mid after posts)
    → LoaderDoes (turn_decision now.view.end s [] payload (file_turn s.row (buffered_more s.arriving payload))) now after posts
takes_last now mid after s payload turn posts live m t does =
    let taken : mid ≡ state now.set now.view.end (Some (whole now.view.end s payload now.view.ended)) now.view.ended = m ∙ ap (λ x. with_session now (continued x payload)) live in
    let done = subst (λ (x : LoaderState). LoaderDoes (turn_decision x.view.end (whole now.view.end s payload now.view.ended) [] [] turn) x after posts) taken (does (whole now.view.end s payload now.view.ended) (ap (λ (x : LoaderState). x.view.live) taken)) in
    let same = turns_so now.view.end s payload now.view.ended turn in
    subst (λ x. LoaderDoes (turn_decision now.view.end s [] payload x) now after posts) t
    (record {
      set = done.set;
      keeps = done.keeps ∙ same.kept ∙ ap (λ x. kept now.view.end s payload now.view.ended x (turn_decision now.view.end s [] payload turn)) (sym live);
      posts = done.posts ∙ ap (λ moves. all_posts sides.Loader now.view.end moves) same.moves;
    })

-- ---- a packet

-- one decision is another after the moves of a packet
pub record Continues_with (heard : List Move) (whole rest : LoaderDecision) : Type 0 where
  pub moves : whole.moves ≡ heard ++ rest.moves
  pub change : whole.change ≡ rest.change

module _ (v end : EndView) (heard : List Move) (keeps : KeepsPorts v end) where
  asked_after : (role : Role) (more : List ℕ) (port : Bool)
      → Continues_with heard (if port then record { moves = heard ++ Asks role ∷ []; change = Advances } else record { moves = heard ++ Stops ∷ []; change = Ends PortsSpent more })
      (if port then record { moves = Asks role ∷ []; change = Advances } else record { moves = Stops ∷ []; change = Ends PortsSpent more })
  asked_after role more true = record { moves = refl; change = refl }
  asked_after role more false = record { moves = refl; change = refl }

  same_port : has_port end ≡ has_port v
  same_port = rw keeps.next_port refl

  next_after : (role : Option Role) (more : List ℕ) → Continues_with heard (next_decision v heard more role) (next_decision end [] more role)
  next_after None more = record { moves = sym (append-nil heard); change = refl }
  next_after (Some role) more = rw same_port (asked_after role more (has_port v))

  turn_after : (s : LoaderSession) (more : List ℕ) (turn : RowTurn) → Continues_with heard (turn_decision v s heard more turn) (turn_decision end s [] more turn)
  turn_after s more Goes_on = rw keeps.asks_size (next_after (row_request v.asks_size s.start (row_after s.row)) more)
  turn_after s more (Comes_to outcome) = record { moves = refl; change = refl }

  pub answer_after : (s : LoaderSession) (answer : Answer) → Continues_with heard (answer_decision v s heard answer) (following end s (news_by answer))
  answer_after s Dropped = record { moves = sym (append-nil heard); change = refl }
  answer_after s Again = record { moves = sym (append-nil heard); change = refl }
  answer_after s (Grants options) = record { moves = sym (append-nil heard); change = refl }
  answer_after s (TakesBlock payload) = record { moves = sym (append-nil heard); change = refl }
  answer_after s (TakesLast payload) = turn_after s payload (file_turn s.row (buffered_more s.arriving payload))
  answer_after s Proceeds = record { moves = sym (append-nil heard); change = refl }
  answer_after s Completes = turn_after s [] Goes_on
  answer_after s (Fails code) = turn_after s [] (Comes_to (PeerError code))

-- what is done after the moves of a packet, and with them
pub does_both : (st : LoaderState) (heard : List Move) (end : EndView) (whole rest : LoaderDecision) (after : LoaderState) (first second : List DatagramView)
    → Makes sides.Loader heard st.view.end end first → Continues_with heard whole rest → LoaderDoes rest (with_end st end) after second → LoaderDoes whole st after (first ++ second)
does_both st heard end whole rest after first second makes both does = record {
  set = does.set;
  keeps = does.keeps
      ∙ ap (λ (x : EndView). loader_changed (views_after sides.Loader x rest.moves) st.view rest.change) makes.keeps
      ∙ ap (λ (x : EndView). loader_changed x st.view rest.change) (sym (views_join sides.Loader st.view.end heard rest.moves) ∙ ap (λ moves. views_after sides.Loader st.view.end moves) (sym both.moves))
      ∙ ap (λ change. loader_changed (views_after sides.Loader st.view.end whole.moves) st.view change) (sym both.change);
  posts = ap (λ posts. posts ++ second) makes.posts ∙ ap (λ posts. all_posts sides.Loader st.view.end heard ++ posts) (does.posts ∙ ap (λ (x : EndView). all_posts sides.Loader x rest.moves) makes.keeps)
      ∙ sym (posts_join sides.Loader st.view.end heard rest.moves) ∙ ap (λ moves. all_posts sides.Loader st.view.end moves) (sym both.moves);
}

-- ---- calls

ticks_live : (v : EndView) (live : Option LoaderSession) → is_none live ≡ false → may_repeat v ≡ true → tick_decision v live ≡ doing (Repeats ∷ [])
ticks_live v None is may = absurd cc
ticks_live v (Some s) is may = rw may refl

pub ticks : (st now : LoaderState) (end : EndView) (first sent : List DatagramView) → st ≡ now → is_none st.view.live ≡ false → may_repeat st.view.end ≡ true
    → Makes sides.Loader (Repeats ∷ []) st.view.end end first → sent ≡ first ++ [] → LoaderDoes (tick_decision now.view.end now.view.live) now (with_end st end) sent
ticks st now end first sent same is may makes p =
    subst (λ (x : LoaderState). LoaderDoes (tick_decision x.view.end x.view.live) x (with_end st end) sent) same
    (rw (ticks_live st.view.end st.view.live is may, p ∙ append-nil first) (does_moves st (Repeats ∷ []) end first makes))

pub port_so : (st now : LoaderState) (s : LoaderSession) (row : LoaderRow) → st ≡ now → st.view.live ≡ Some s → row ≡ row_after s.row
    → ((x : LoaderSession) → now.view.live ≡ Some x → is_asking (row_after x.row) ≡ true → has_port now.view.end ≡ true) → is_asking row ≡ true → has_port st.view.end ≡ true
port_so st now s row same live r port is =
    ap (λ (x : LoaderState). has_port x.view.end) same ∙ port s (ap (λ (x : LoaderState). x.view.live) (sym same) ∙ live) (ap is_asking (sym r) ∙ is)

pub advances : (now after : LoaderState) (s : LoaderSession) (result : Result (Option Datagram) NoMemory) → now.view.live ≡ Some s → (is_asking (row_after s.row) ≡ true → has_port now.view.end ≡ true)
    → IfOk result (λ post. Makes sides.Loader (asking (row_request now.view.end.asks_size s.start (row_after s.row))) now.view.end after.view.end (posted post))
    → OnOk result (after ≡ with_session (with_end now after.view.end) (advanced now.view.live))
    → IfOk result (λ post. LoaderDoes (turn_decision now.view.end s [] [] Goes_on) now after (posted post))
advances now after s (Ok post) live port makes rest = enters now after s (posted post) port makes rest
advances now after s (Err e) live port makes rest = tt

pub ends_with_last : (now mid after : LoaderState) (s : LoaderSession) (payload : List ℕ) (turn : RowTurn) (result : Result (Option Datagram) NoMemory) → now.view.live ≡ Some s
    → mid ≡ with_session now (continued now.view.live payload)
    → ((t : LoaderSession) → mid.view.live ≡ Some t → turn ≡ file_turn t.row t.arriving)
    → ((t : LoaderSession) → mid.view.live ≡ Some t → IfOk result (λ post. LoaderDoes (turn_decision mid.view.end t [] [] turn) mid after (posted post)))
    → IfOk result (λ post. LoaderDoes (turn_decision now.view.end s [] payload (file_turn s.row (buffered_more s.arriving payload))) now after (posted post))
ends_with_last now mid after s payload turn (Err e) live m t does = tt
ends_with_last now mid after s payload turn (Ok post) live m t does =
    takes_last now mid after s payload turn (posted post) live m
    (t (whole now.view.end s payload now.view.ended) (ap (λ (x : LoaderState). x.view.live) m ∙ ap (λ x. continued x payload) live)) does

-- a packet of a transfer, in a session or in none
transfers : (st : LoaderState) (from to : ℕ) (p : PacketView) (end : EndView) (live : Option LoaderSession) (news : NewsView) (after : LoaderState) (first second : List DatagramView)
    → st.view.live ≡ live → (to == 59) ≡ false → Makes sides.Loader (transfer_moves st.view.end from to p) st.view.end end first → news ≡ news_by (heard_answer st.view.end from to p)
    → ((s : LoaderSession) → live ≡ Some s → LoaderDoes (following end s news) (with_end st end) after second) → (live ≡ None → (second ≡ []) × (after ≡ with_end st end))
    → LoaderDoes (session_decision (media_of st.set) st.view.end live from to p) st after (first ++ second)
transfers st from to p end None news after first second is port makes n does idle =
    let (none, same) = idle refl in
    rw (port, none, append-nil first, same) (does_moves st (transfer_moves st.view.end from to p) end first makes)
transfers st from to p end (Some s) news after first second is port makes n does idle =
    let kept = subst (λ (x : EndView). KeepsPorts st.view.end x) (sym makes.keeps) (transfer_keeps sides.Loader st.view.end from to p) in
    rw port
    (does_both st (transfer_moves st.view.end from to p) end _ _ after first second makes
    (answer_after st.view.end end (transfer_moves st.view.end from to p) kept s (heard_answer st.view.end from to p))
    (subst (λ x. LoaderDoes (following end s x) (with_end st end) after second) n (does s refl)))

pub hears : (st now : LoaderState) (from to : ℕ) (p : PacketView) (end : EndView) (news : NewsView) (after : LoaderState) (first second sent : List DatagramView)
    → st ≡ now → (to == 59) ≡ false → Makes sides.Loader (transfer_moves st.view.end from to p) st.view.end end first → news ≡ news_by (heard_answer st.view.end from to p)
    → ((s : LoaderSession) → st.view.live ≡ Some s → LoaderDoes (following end s news) (with_end st end) after second) → (st.view.live ≡ None → (second ≡ []) × (after ≡ with_end st end))
    → sent ≡ first ++ second → LoaderDoes (session_decision (media_of now.set) now.view.end now.view.live from to p) now after sent
hears st now from to p end news after first second sent same port makes n does idle q =
    subst (λ (x : LoaderState). LoaderDoes (session_decision (media_of x.set) x.view.end x.view.live from to p) x after sent) same
    (rw q (transfers st from to p end st.view.live news after first second refl port makes n does idle))
