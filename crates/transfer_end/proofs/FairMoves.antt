-- Proofs that whatever moves a side makes, both sides stay fair.
use Rattle.std.proofs.Common.{◌≡◌, inl, inr, ⊎_elim, ℕ, Bool, true, false, cond, eqb, ◌&&◌, List, [], ◌∷◌, ◌++◌, length, Option, Some, None, refl, sym, ap, subst, ◌∙◌, append-nil, append_assoc}
use Rattle.std.specs.List.{AllByRecursion}
use Rattle.std.proofs.lemmas.Bool.{eqb-true}
use Rattle.field_grammar.specs.Grammar.{IsBytes}
use Rattle.tftp_packet.specs.Packets.{Ack, Data, Error, Oack, PacketView, Rrq, Wrq, packet_bytes}
use Rattle.tftp_link.specs.Answers.{Again, Answer, Completes, Dropped, Fails, Grants, Proceeds, TakesBlock, TakesLast, is_sent_by}
use Rattle.tftp_link.specs.Negotiation.{fits_said, may_grant}
use Rattle.std.specs.Prelude.{nat_lt, ◌==◌}
use Rattle.tftp_link.specs.Receiver.{is_next_block, receiver_asking, taken_answer}
use Rattle.tftp_link.specs.Sender.{sender_asking}
use Rattle.exchange_trace.specs.declared.trace.Side.{Side}
use Rattle.exchange_trace.specs.Happenings.{DatagramView}
use Rattle.exchange_trace.specs.Logs.{Event, Gets, Learns, Starts_info, Starts_upload, Ticks}
use Rattle.transfer_end.specs.Came.{HeardIn}
use Rattle.transfer_end.proofs.CameLemmas.{all_mapped}
use Rattle.transfer_end.specs.Laws.{IsLive}
use Rattle.transfer_end.specs.Moves.{Asks, Asks_size, Hears, Move, Recalls, Refuses, Repeats, Serves, Stops, all_posts, datagram, heard_post, kept_post, last_of, last_post, past_with, posts_of, reading_after, reading_answered, reading_unchanged, readings_after, recalled_post, request}
use Rattle.transfer_end.proofs.OtherEndLemmas.{all_at, among_either, among_left, among_right, first_is_sent, fits_any, kept_among, own_not_59, ports_fit_rise, ports_stay_one, posted_by, was_posted_still}
use Rattle.transfer_end.specs.OtherEnds.{Among, AreFair, Brought, BroughtFrom, EventWasPosted, GotIsPosted, TransferHasBegun, HasPosted, IsAnsweredBy, IsFair, IsPostOf, IsPostOfSide, LastIsPost, MoveFits, MovesFit, MovesStayFair, OwnPortsRise, PortsFit, ServesIn, TookRequest, all_of, answered, is_asking, of_refusal, of_transfer, refused, request_taken, served, unanswered}
use Rattle.transfer_end.specs.Packets.{is_peer, packet_in}
use Rattle.transfer_end.specs.Readings.{Reading, kept_in, next_port_of}
use Rattle.transfer_end.specs.Transfers.{LinkEnd, Reads, Role, ServesRead, ServesWrite, Transfer, Writes, bound_to, end_answer, end_in, end_moved, end_of, end_packet, first_packet, is_received, with_packet}
use Rattle.transfer_end.proofs.ViewLemmas.{end_of_more, view_follows}
use Rattle.transfer_end.specs.Views.{EndView, TransferView, end_view, seen, transfer_view}

-- ---- a transfer later on

pub record IsLater (t u : Transfer) : Type 0 where
  pub role : u.role ≡ t.role
  pub own : u.own ≡ t.own
  pub more : List PacketView
  pub got : u.got ≡ t.got ++ more
  pub peer : (port : ℕ) → t.peer ≡ Some port → u.peer ≡ Some port

abbrev pub Extends : List Transfer → List Transfer → Type 0
Extends ts us = (t : Transfer) → Among t ts → (u : Transfer) × Among u us × IsLater t u

is_later : (t : Transfer) → IsLater t t
is_later t = record { role = refl; own = refl; more = []; got = sym (append-nil t.got); peer = λ port e. e }

pub extends_same : (ts : List Transfer) → Extends ts ts
extends_same ts t a = (t, a, is_later t)

extends_new : (n : Transfer) (ts : List Transfer) → Extends ts (n ∷ ts)
extends_new n ts t a = (t, inr a, is_later t)

extends_first : (t u : Transfer) (ts : List Transfer) → IsLater t u → Extends (t ∷ ts) (u ∷ ts)
extends_first t u ts later x (inl e) = (u, inl refl, subst (λ (y : Transfer). IsLater y u) e later)
extends_first t u ts later x (inr a) = (x, inr a, is_later x)

later_post : (t u : Transfer) (d : DatagramView) → IsLater t u → IsPostOf t d → IsPostOf u d
later_post t u d later post = record {
  port = post.port ∙ sym later.own;
  heard = post.heard;
  later = post.later ++ later.more;
  split = later.got ∙ ap (λ (got : List PacketView). got ++ later.more) post.split ∙ append_assoc post.heard post.later later.more;
  bytes = post.bytes ∙ ap (λ (role : Role). packet_bytes (end_packet (end_of role post.heard))) (sym later.role);
  goes = ⊎_elim (λ e. inl (later.peer d.to e)) (λ (r : (d.to ≡ 59) × (post.heard ≡ []) × (is_asking t.role ≡ true)). inr (r.0, r.1, ap is_asking later.role ∙ r.2)) post.goes;
}

pub later_side : (ts us : List Transfer) (d : DatagramView) → Extends ts us → IsPostOfSide ts d → IsPostOfSide us d
later_side ts us d extends (of_transfer t a post) = let (u, b, later) = extends t a in of_transfer u b (later_post t u d later post)
later_side ts us d extends (of_refusal port bytes) = of_refusal port bytes

last_later : (side : Side) (ts us : List Transfer) (last : Option DatagramView) → Extends ts us → LastIsPost side ts last → LastIsPost side us last
last_later side ts us None extends h = tt
last_later side ts us (Some d) extends (is, h) = (is, later_side ts us d extends h)

-- ---- datagrams more

pub brought_still : (posted more : List DatagramView) (side : Side) (from to : ℕ) (p : PacketView) → Brought posted side from to p → Brought (posted ++ more) side from to p
brought_still posted more side from to p b = record { bytes = b.bytes; among = among_left _ posted more b.among; spells = b.spells; are_bytes = b.are_bytes }

from_still : (posted more : List DatagramView) (side : Side) (own : ℕ) (peer : Option ℕ) (p : PacketView) → BroughtFrom posted side own peer p → BroughtFrom (posted ++ more) side own peer p
from_still posted more side own None p h = h
from_still posted more side own (Some port) p h = brought_still posted more side port own p h

got_still : (posted more : List DatagramView) (side : Side) (t : Transfer) → GotIsPosted posted side t → GotIsPosted (posted ++ more) side t
got_still posted more side t all = all_mapped (BroughtFrom posted side t.own t.peer) (BroughtFrom (posted ++ more) side t.own t.peer) (from_still posted more side t.own t.peer) t.got all

took_still : (posted more : List DatagramView) (side : Side) (t : Transfer) → TookRequest posted side t → TookRequest (posted ++ more) side t
took_still posted more side t h = record { peer = h.peer; bound = h.bound; request = h.request; taken = h.taken; brought = brought_still posted more side h.peer 59 h.request h.brought }

answered_still : (t s later : Transfer) → IsLater s later → IsAnsweredBy t s → IsAnsweredBy t later
answered_still t s later after h = record {
  port = h.port ∙ ap (λ (port : ℕ). Some port) (sym after.own);
  back = after.peer t.own h.back;
  serves = ap is_asking after.role ∙ h.serves;
  first = h.first;
  rest = h.rest;
  split = h.split;
  sent = ap (λ (role : Role). packet_in (packet_bytes (first_packet role))) after.role ∙ h.sent;
  are_bytes = subst (λ (role : Role). IsBytes (packet_bytes (first_packet role))) (sym after.role) h.are_bytes;
  binds = h.binds;
}

begun_still : (posted more : List DatagramView) (side : Side) (theirs then : List Transfer) (t : Transfer) → Extends theirs then → TransferHasBegun posted side theirs t → TransferHasBegun (posted ++ more) side then t
begun_still posted more side theirs then t extends (served serves took) = served serves (took_still posted more side t took)
begun_still posted more side theirs then t extends (unanswered asks unbound none) = unanswered asks unbound none
begun_still posted more side theirs then t extends (refused asks by) = refused asks by
begun_still posted more side theirs then t extends (answered asks s a h) = let (u, b, later) = extends s a in answered asks u b (answered_still t s u later h)

sent_still : (posted more : List DatagramView) (side : Side) (from : ℕ) → HasPosted posted side from → HasPosted (posted ++ more) side from
sent_still posted more side from h = record { datagram = h.datagram; among = among_left h.datagram posted more h.among; poster = h.poster; port = h.port }

-- one side moves on, and posts these; the other side is as fair as it was
pub other_stays_fair : (me them : Side) (mine then theirs : List Transfer) (posted more : List DatagramView) → (me ≡ them → ⊥) → Extends mine then → AllByRecursion (λ (d : DatagramView). d.side ≡ me) more
    → IsFair them me theirs mine posted → IsFair them me theirs then (posted ++ more)
other_stays_fair me them mine then theirs posted more differ extends of_me fair = record {
  ports = fair.ports;
  posts = λ d a is. ⊎_elim (λ (b : Among d posted). fair.posts d b is) (λ (b : Among d more). absurd (differ (sym (all_at (λ (x : DatagramView). x.side ≡ me) more d of_me b) ∙ is))) (among_either d posted more a);
  sent = λ t a. sent_still posted more them t.own (fair.sent t a);
  got = λ t a. got_still posted more me t (fair.got t a);
  begun = λ t a. begun_still posted more me mine then t extends (fair.begun t a);
}

-- ---- what a side posts

-- the transfers stay as they are, and what is posted is theirs
pub same_stays_fair : (me them : Side) (mine theirs : List Transfer) (posted more : List DatagramView) → AllByRecursion (IsPostOfSide mine) more → IsFair me them mine theirs posted → IsFair me them mine theirs (posted ++ more)
same_stays_fair me them mine theirs posted more sent fair = record {
  ports = fair.ports;
  posts = λ d a is. ⊎_elim (λ (b : Among d posted). fair.posts d b is) (λ (b : Among d more). all_at (IsPostOfSide mine) more d sent b) (among_either d posted more a);
  sent = λ t a. sent_still posted more me t.own (fair.sent t a);
  got = λ t a. got_still posted more them t (fair.got t a);
  begun = λ t a. begun_still posted more them theirs theirs t (extends_same theirs) (fair.begun t a);
}

-- a transfer begins
pub new_stays_fair : (me them : Side) (n : Transfer) (mine theirs : List Transfer) (posted more : List DatagramView) → OwnPortsRise (n ∷ mine) → n.got ≡ [] → TransferHasBegun (posted ++ more) them theirs n → AllByRecursion (IsPostOf n) more → HasPosted (posted ++ more) me n.own
    → IsFair me them mine theirs posted → IsFair me them (n ∷ mine) theirs (posted ++ more)
new_stays_fair me them n mine theirs posted more rise none begins sent first fair = record {
  ports = rise;
  posts = λ d a is. ⊎_elim (λ (b : Among d posted). later_side mine (n ∷ mine) d (extends_new n mine) (fair.posts d b is)) (λ (b : Among d more). of_transfer n (inl refl) (all_at (IsPostOf n) more d sent b)) (among_either d posted more a);
  sent = sent_of;
  got = got_of;
  begun = begun_of;
}
  where
    sent_of : (t : Transfer) → Among t (n ∷ mine) → HasPosted (posted ++ more) me t.own
    sent_of t (inl e) = subst (λ (x : Transfer). HasPosted (posted ++ more) me x.own) e first
    sent_of t (inr a) = sent_still posted more me t.own (fair.sent t a)

    got_of : (t : Transfer) → Among t (n ∷ mine) → GotIsPosted (posted ++ more) them t
    got_of t (inl e) = subst (λ (x : Transfer). GotIsPosted (posted ++ more) them x) e (subst (λ (got : List PacketView). AllByRecursion (BroughtFrom (posted ++ more) them n.own n.peer) got) (sym none) tt)
    got_of t (inr a) = got_still posted more them t (fair.got t a)

    begun_of : (t : Transfer) → Among t (n ∷ mine) → TransferHasBegun (posted ++ more) them theirs t
    begun_of t (inl e) = subst (λ (x : Transfer). TransferHasBegun (posted ++ more) them theirs x) e begins
    begun_of t (inr a) = begun_still posted more them theirs theirs t (extends_same theirs) (fair.begun t a)

-- ---- a packet more

with_later : (t : Transfer) (from : ℕ) (p : PacketView) → IsLater t (with_packet t from p)
with_later t from p = record { role = refl; own = refl; more = p ∷ []; got = refl; peer = λ port e. ap (λ (peer : Option ℕ). bound_to peer from) e }

abbrev IsBound : Option ℕ → (from : ℕ) → Type 0
IsBound peer from = bound_to peer from ≡ Some from

some_is : (a b : ℕ) → Some a ≡ Some b → a ≡ b
some_is a b e = cc

none_is_some : (A : Type 0) (peer : Option ℕ) (port : ℕ) → peer ≡ None → peer ≡ Some port → A
none_is_some A peer port none some = absurd (let wrong : None ≡ Some port = sym none ∙ some in cc)

nil_is_cons : (A : Type 0) (got rest : List PacketView) (p : PacketView) → got ≡ [] → got ≡ p ∷ rest → A
nil_is_cons A got rest p none some = absurd (let wrong : [] ≡ p ∷ rest = sym none ∙ some in cc)

-- the packets of a transfer that isn't bound: none
from_none : (posted : List DatagramView) (side : Side) (own : ℕ) (got : List PacketView) → AllByRecursion (BroughtFrom posted side own None) got → got ≡ []
from_none posted side own [] all = refl
from_none posted side own (p ∷ got) (one, all) = absurd one

front_none : (heard later : List PacketView) → [] ≡ heard ++ later → heard ≡ []
front_none [] later e = refl
front_none (p ∷ heard) later e = absurd cc

-- a transfer of the other side to which one is bound that isn't bound itself got nothing
unbound_posts_none : (me them : Side) (mine theirs : List Transfer) (posted : List DatagramView) (t u : Transfer) → IsFair me them mine theirs posted → IsFair them me theirs mine posted → Among t mine → Among u theirs → t.peer ≡ None → u.peer ≡ Some t.own → u.got ≡ []
unbound_posts_none me them mine theirs posted t u fair other a b none bound = by u.got (subst (λ (peer : Option ℕ). AllByRecursion (BroughtFrom posted me u.own peer) u.got) bound (other.got u b))
  where
    wrong : (bytes : List ℕ) → IsPostOf t (record { side = me; from = t.own; to = u.own; bytes = bytes }) → ⊥
    wrong bytes post = ⊎_elim (λ (e : t.peer ≡ Some u.own). none_is_some ⊥ t.peer u.own none e) (λ (r : (u.own ≡ 59) × (post.heard ≡ []) × (is_asking t.role ≡ true)). own_not_59 theirs u other.ports b r.0) post.goes

    by : (got : List PacketView) → AllByRecursion (Brought posted me t.own u.own) got → got ≡ []
    by [] all = refl
    by (q ∷ got) (one, all) = absurd (wrong one.bytes (posted_by me them mine theirs posted t _ fair a one.among refl refl))

-- ---- how a transfer is bound

module _ (me them : Side) (mine theirs : List Transfer) (posted : List DatagramView) (fair : IsFair me them mine theirs posted) (other : IsFair them me theirs mine posted) where
  -- what comes first comes from a transfer that serves and got nothing, or refuses
  binds : (t : Transfer) (from : ℕ) (p : PacketView) → Among t mine → is_asking t.role ≡ true → t.peer ≡ None → t.got ≡ [] → (end_answer (end_of t.role []) p ≡ Dropped → ⊥) → Brought posted them from t.own p → TransferHasBegun posted them theirs (with_packet t from p)
  binds t from p a asks none empty taken b = by (other.posts _ b.among refl)
    where
      bound : bound_to t.peer from ≡ Some from
      bound = ap (λ (peer : Option ℕ). bound_to peer from) none

      -- of a transfer that got nothing it is the first packet
      first_bytes : (u : Transfer) → (post : IsPostOf u (record { side = them; from = from; to = t.own; bytes = b.bytes })) → u.got ≡ [] → packet_bytes (first_packet u.role) ≡ b.bytes
      first_bytes u post nothing =
          ap packet_bytes (first_is_sent u.role) ∙ ap (λ (heard : List PacketView). packet_bytes (end_packet (end_of u.role heard))) (sym (front_none post.heard post.later (sym nothing ∙ post.split))) ∙ sym post.bytes

      serving : (u : Transfer) → Among u theirs → IsPostOf u (record { side = them; from = from; to = t.own; bytes = b.bytes }) → u.peer ≡ Some t.own → u.got ≡ [] → is_asking u.role ≡ false → TransferHasBegun posted them theirs (with_packet t from p)
      serving u c post back nothing serves = answered asks u c (record {
        port = bound ∙ ap (λ (port : ℕ). Some port) post.port;
        back = back;
        serves = serves;
        first = p;
        rest = [];
        split = ap (λ (got : List PacketView). got ++ p ∷ []) empty;
        sent = ap packet_in (first_bytes u post nothing) ∙ b.spells;
        are_bytes = subst IsBytes (sym (first_bytes u post nothing)) b.are_bytes;
        binds = taken;
      })

      begun : (u : Transfer) → Among u theirs → IsPostOf u (record { side = them; from = from; to = t.own; bytes = b.bytes }) → u.peer ≡ Some t.own → u.got ≡ [] → TransferHasBegun posted me mine u → TransferHasBegun posted them theirs (with_packet t from p)
      begun u c post back nothing (served serves took) = serving u c post back nothing serves
      begun u c post back nothing (unanswered asked unbound none_yet) = none_is_some _ u.peer t.own unbound back
      begun u c post back nothing (refused asked by_59) = absurd (own_not_59 mine t fair.ports a (some_is t.own 59 (sym back ∙ by_59)))
      begun u c post back nothing (answered asked s d h) = nil_is_cons _ u.got h.rest h.first nothing h.split

      by : IsPostOfSide theirs (record { side = them; from = from; to = t.own; bytes = b.bytes }) → TransferHasBegun posted them theirs (with_packet t from p)
      by (of_refusal port bytes) = refused asks (bound ∙ ap (λ (port : ℕ). Some port) port)
      by (of_transfer u c post) = ⊎_elim
          (λ (back : u.peer ≡ Some t.own). begun u c post back (unbound_posts_none me them mine theirs posted t u fair other a c none back) (other.begun u c))
          (λ (r : (t.own ≡ 59) × (post.heard ≡ []) × (is_asking u.role ≡ true)). absurd (own_not_59 mine t fair.ports a r.0)) post.goes

  still_begun : (t : Transfer) (from : ℕ) (p : PacketView) → Among t mine → (t.peer ≡ None → end_answer (end_in t) p ≡ Dropped → ⊥) → Brought posted them from t.own p → TransferHasBegun posted them theirs t → TransferHasBegun posted them theirs (with_packet t from p)
  still_begun t from p a taken b (served serves took) = served serves (record { peer = took.peer; bound = ap (λ (peer : Option ℕ). bound_to peer from) took.bound; request = took.request; taken = took.taken; brought = took.brought })
  still_begun t from p a taken b (unanswered asks unbound none) =
      binds t from p a asks unbound none (subst (λ (got : List PacketView). end_answer (end_of t.role got) p ≡ Dropped → ⊥) none (taken unbound)) b
  still_begun t from p a taken b (refused asks by_59) = refused asks (ap (λ (peer : Option ℕ). bound_to peer from) by_59)
  still_begun t from p a taken b (answered asks s c h) = answered asks s c (record {
    port = ap (λ (peer : Option ℕ). bound_to peer from) h.port;
    back = h.back;
    serves = h.serves;
    first = h.first;
    rest = h.rest ++ p ∷ [];
    split = ap (λ (got : List PacketView). got ++ p ∷ []) h.split;
    sent = h.sent;
    are_bytes = h.are_bytes;
    binds = h.binds;
  })

  got_more : (t : Transfer) (from : ℕ) (p : PacketView) → is_peer t.peer from ≡ true → Brought posted them from t.own p → GotIsPosted posted them t → GotIsPosted posted them (with_packet t from p)
  got_more t from p mine_is b all = by t.peer mine_is all
    where
      append : (peer : Option ℕ) (got : List PacketView) → AllByRecursion (BroughtFrom posted them t.own peer) got → BroughtFrom posted them t.own peer p → AllByRecursion (BroughtFrom posted them t.own peer) (got ++ p ∷ [])
      append peer [] all one = (one, tt)
      append peer (q ∷ got) (first, all) one = (first, append peer got all one)

      by : (peer : Option ℕ) → is_peer peer from ≡ true → AllByRecursion (BroughtFrom posted them t.own peer) t.got → AllByRecursion (BroughtFrom posted them t.own (bound_to peer from)) (t.got ++ p ∷ [])
      by None is all = subst (λ (got : List PacketView). AllByRecursion (BroughtFrom posted them t.own (Some from)) (got ++ p ∷ [])) (sym (from_none posted them t.own t.got all)) (b, tt)
      by (Some peer) is all = append (Some peer) t.got all (subst (λ (port : ℕ). Brought posted them port t.own p) (sym (eqb-true peer from is)) b)

-- a packet comes to the newest transfer
heard_stays_fair : (me them : Side) (t : Transfer) (mine theirs : List Transfer) (posted more : List DatagramView) (from : ℕ) (p : PacketView) → is_peer t.peer from ≡ true → (t.peer ≡ None → end_answer (end_in t) p ≡ Dropped → ⊥) → Brought posted them from t.own p
    → AllByRecursion (IsPostOf (with_packet t from p)) more → IsFair me them (t ∷ mine) theirs posted → IsFair them me theirs (t ∷ mine) posted → IsFair me them (with_packet t from p ∷ mine) theirs (posted ++ more)
heard_stays_fair me them t mine theirs posted more from p is taken b sent fair other = record {
  ports = fair.ports;
  posts = λ d a e. ⊎_elim (λ (c : Among d posted). later_side (t ∷ mine) (with_packet t from p ∷ mine) d (extends_first t (with_packet t from p) mine (with_later t from p)) (fair.posts d c e))
      (λ (c : Among d more). of_transfer (with_packet t from p) (inl refl) (all_at (IsPostOf (with_packet t from p)) more d sent c)) (among_either d posted more a);
  sent = sent_of;
  got = got_of;
  begun = begun_of;
}
  where
    sent_of : (u : Transfer) → Among u (with_packet t from p ∷ mine) → HasPosted (posted ++ more) me u.own
    sent_of u (inl e) = subst (λ (x : Transfer). HasPosted (posted ++ more) me x.own) e (sent_still posted more me t.own (fair.sent t (inl refl)))
    sent_of u (inr a) = sent_still posted more me u.own (fair.sent u (inr a))

    got_of : (u : Transfer) → Among u (with_packet t from p ∷ mine) → GotIsPosted (posted ++ more) them u
    got_of u (inl e) = subst (λ (x : Transfer). GotIsPosted (posted ++ more) them x) e
        (got_still posted more them (with_packet t from p) (got_more me them (t ∷ mine) theirs posted fair other t from p is b (fair.got t (inl refl))))
    got_of u (inr a) = got_still posted more them u (fair.got u (inr a))

    begun_of : (u : Transfer) → Among u (with_packet t from p ∷ mine) → TransferHasBegun (posted ++ more) them theirs u
    begun_of u (inl e) = subst (λ (x : Transfer). TransferHasBegun (posted ++ more) them theirs x) e
        (begun_still posted more them theirs theirs (with_packet t from p) (extends_same theirs) (still_begun me them (t ∷ mine) theirs posted fair other t from p (inl refl) taken b (fair.begun t (inl refl))))
    begun_of u (inr a) = begun_still posted more them theirs theirs u (extends_same theirs) (fair.begun u (inr a))

-- ---- moves

last_after : (side : Side) (ts : List Transfer) (last : Option DatagramView) (posts : List DatagramView) → LastIsPost side ts last → AllByRecursion (λ (d : DatagramView). d.side ≡ side) posts → AllByRecursion (IsPostOfSide ts) posts
    → LastIsPost side ts (last_of last posts)
last_after side ts last [] h sides all = h
last_after side ts last (d ∷ posts) h (is, sides) (one, all) = last_after side ts (Some d) posts (is, one) sides all

of_one : (t : Transfer) (ts : List Transfer) (posts : List DatagramView) → AllByRecursion (IsPostOf t) posts → AllByRecursion (IsPostOfSide (t ∷ ts)) posts
of_one t ts posts all = all_mapped (IsPostOf t) (IsPostOfSide (t ∷ ts)) (λ d h. of_transfer t (inl refl) h) posts all

heard_side : (me : Side) (t : TransferView) (from : ℕ) (answer : Answer) → AllByRecursion (λ (d : DatagramView). d.side ≡ me) (heard_post me t from answer)
heard_side me t from Dropped = tt
heard_side me t from Again = (refl, tt)
heard_side me t from (Grants o) = (refl, tt)
heard_side me t from (TakesBlock b) = (refl, tt)
heard_side me t from (TakesLast b) = (refl, tt)
heard_side me t from Proceeds = (refl, tt)
heard_side me t from Completes = tt
heard_side me t from (Fails code) = tt

-- an end that asked and got nothing yet acknowledges nothing again
abbrev IsOther : Answer → Type 0
IsOther Again = ⊥
IsOther answer = Unit {0}

next_or : (b : Bool) (x y : Answer) → IsOther x → IsOther y → IsOther (cond b x y)
next_or true x y f g = f
next_or false x y f g = g

asking_other : (role : Role) (p : PacketView) → is_asking role ≡ true → IsOther (end_answer (end_of role []) p)
unfolding end_of
asking_other (Reads name o) (Data k payload) asks =
    next_or (is_next_block (receiver_asking name o) k payload) (taken_answer (receiver_asking name o) payload) Dropped (next_or (nat_lt (length payload) 512) (TakesLast payload) (TakesBlock payload) tt tt) tt
asking_other (Reads name o) (Oack granted) asks = next_or (may_grant o granted) (Grants granted) Dropped tt tt
asking_other (Reads name o) (Error code m) asks = tt
asking_other (Reads name o) (Ack k) asks = tt
asking_other (Reads name o) (Rrq n q) asks = tt
asking_other (Reads name o) (Wrq n q) asks = tt
asking_other (Writes name o file) (Ack k) asks = next_or (k == 0) Proceeds Dropped tt tt
asking_other (Writes name o file) (Oack granted) asks =
    next_or (may_grant (sender_asking name file o).options granted && fits_said (length file) granted.blksize) (Grants granted) Dropped tt tt
asking_other (Writes name o file) (Error code m) asks = tt
asking_other (Writes name o file) (Data k payload) asks = tt
asking_other (Writes name o file) (Rrq n q) asks = tt
asking_other (Writes name o file) (Wrq n q) asks = tt
asking_other (ServesRead name o file) p asks = absurd cc
asking_other (ServesWrite name o) p asks = absurd cc

asking_not_again : (role : Role) (p : PacketView) → is_asking role ≡ true → end_answer (end_of role []) p ≡ Again → ⊥
asking_not_again role p asks e = subst IsOther e (asking_other role p asks)

not_received : (role : Role) → is_received (end_of role []) ≡ true → ⊥
unfolding end_of
not_received (Reads name o) e = cc
not_received (Writes name o file) e = cc
not_received (ServesRead name o file) e = cc
not_received (ServesWrite name o) e = cc

-- a transfer without another end got nothing, and asked
unbound_asks : (posted : List DatagramView) (side : Side) (theirs : List Transfer) (t : Transfer) → t.peer ≡ None → TransferHasBegun posted side theirs t → (is_asking t.role ≡ true) × (t.got ≡ [])
unbound_asks posted side theirs t none (served serves took) = none_is_some _ t.peer took.peer none took.bound
unbound_asks posted side theirs t none (unanswered asks unbound empty) = (asks, empty)
unbound_asks posted side theirs t none (refused asks by_59) = none_is_some _ t.peer 59 none by_59
unbound_asks posted side theirs t none (answered asks s a h) = none_is_some _ t.peer s.own none h.port

and_parts : (a b : Bool) → (a && b) ≡ true → (a ≡ true) × (b ≡ true)
and_parts true b e = (refl, e)
and_parts false b e = absurd cc

-- what is heard was brought
heard_brought : (posted : List DatagramView) (side : Side) (e : Event) (t : TransferView) (from : ℕ) (p : PacketView) → HeardIn e (Some t) from p → EventWasPosted posted side e → (is_peer t.peer from ≡ true) × Brought posted side from t.own p
heard_brought posted side (Gets source to bytes) t from p (at, is, mine) (among, fit) =
    let both = and_parts (eqb to t.own) (is_peer t.peer from) mine in
    let own : to ≡ t.own = eqb-true to t.own both.0 in
    let here : Brought posted side source to p = record { bytes = bytes; among = among; spells = is; are_bytes = fit } in
    (both.1, subst (λ (port : ℕ). Brought posted side from port p) own (subst (λ (port : ℕ). Brought posted side port to p) at here))
heard_brought posted side Ticks t from p h was = absurd h
heard_brought posted side (Learns n) t from p h was = absurd h
heard_brought posted side (Starts_info hw pos) t from p h was = absurd h
heard_brought posted side (Starts_upload hw pos parts) t from p h was = absurd h

bound_if_peer : (peer : Option ℕ) (from : ℕ) → is_peer peer from ≡ true → bound_to peer from ≡ Some from
bound_if_peer None from e = refl
bound_if_peer (Some port) from e = ap (λ (q : ℕ). Some q) (eqb-true port from e)

-- what an end posts at a packet is the transfer's, with that packet
heard_is_post : (me : Side) (t : Transfer) (from : ℕ) (p : PacketView) (answer : Answer) → end_answer (end_in t) p ≡ answer → is_peer t.peer from ≡ true → AllByRecursion (IsPostOf (with_packet t from p)) (heard_post me (transfer_view t) from answer)
heard_is_post me t from p answer is mine = by (is_sent_by answer)
  where
    by : (b : Bool) → AllByRecursion (IsPostOf (with_packet t from p)) (cond b (datagram me t.own from (end_packet (end_moved (end_in t) answer)) ∷ []) [])
    by false = tt
    by true = (
      record {
        port = refl;
        heard = t.got ++ p ∷ [];
        later = [];
        split = sym (append-nil (t.got ++ p ∷ []));
        bytes = ap (λ (x : Answer). packet_bytes (end_packet (end_moved (end_in t) x))) (sym is) ∙ ap (λ (end : LinkEnd). packet_bytes (end_packet end)) (sym (end_of_more t.role t.got p));
        goes = inl (bound_if_peer t.peer from mine);
      },
      tt,
    )

module _ (me them : Side) (former theirs : List Transfer) (posted : List DatagramView) (differ : me ≡ them → ⊥) where
  abbrev Stays : Reading → List DatagramView → Type 0
  Stays r more = AreFair me them (all_of r former) theirs r.last (posted ++ more)

  -- nothing changes in the transfers
  same_stays : (ts : List Transfer) (last last_then : Option DatagramView) (more : List DatagramView) → AllByRecursion (λ (d : DatagramView). d.side ≡ me) more → AllByRecursion (IsPostOfSide ts) more → LastIsPost me ts last_then
      → AreFair me them ts theirs last posted → AreFair me them ts theirs last_then (posted ++ more)
  same_stays ts last last_then more of_me sent last_is h = record {
    one = same_stays_fair me them ts theirs posted more sent h.one;
    other = other_stays_fair me them ts ts theirs posted more differ (extends_same ts) of_me h.other;
    last_is = last_is;
  }

  none_more : (ts : List Transfer) (last : Option DatagramView) → AreFair me them ts theirs last posted → AreFair me them ts theirs last (posted ++ [])
  none_more ts last h = same_stays ts last last [] tt tt h.last_is h

  -- a packet comes to the newest transfer, and this is posted
  packet_stays : (t : Transfer) (ts : List Transfer) (last : Option DatagramView) (from : ℕ) (p : PacketView) (answer : Answer) → end_answer (end_in t) p ≡ answer → is_peer t.peer from ≡ true → Brought posted them from t.own p → (t.peer ≡ None → answer ≡ Dropped → ⊥)
      → AreFair me them (t ∷ ts) theirs last posted → AreFair me them (with_packet t from p ∷ ts) theirs (last_of last (heard_post me (transfer_view t) from answer)) (posted ++ heard_post me (transfer_view t) from answer)
  packet_stays t ts last from p answer is mine b taken h =
      let more : List DatagramView = heard_post me (transfer_view t) from answer in
      let sent : AllByRecursion (IsPostOf (with_packet t from p)) more = heard_is_post me t from p answer is mine in
      let of_me : AllByRecursion (λ (d : DatagramView). d.side ≡ me) more = heard_side me (transfer_view t) from answer in
      let extends : Extends (t ∷ ts) (with_packet t from p ∷ ts) = extends_first t (with_packet t from p) ts (with_later t from p) in
      record {
        one = heard_stays_fair me them t ts theirs posted more from p mine (λ none e. taken none (sym is ∙ e)) b sent h.one h.other;
        other = other_stays_fair me them (t ∷ ts) (with_packet t from p ∷ ts) theirs posted more differ extends of_me h.other;
        last_is = last_after me (with_packet t from p ∷ ts) last more (last_later me (t ∷ ts) (with_packet t from p ∷ ts) last extends h.last_is) of_me (of_one (with_packet t from p) ts more sent);
      }

  -- a transfer begins
  new_stays : (n : Transfer) (ts : List Transfer) (last : Option DatagramView) (d : DatagramView) → OwnPortsRise (n ∷ ts) → n.got ≡ [] → TransferHasBegun (posted ++ d ∷ []) them theirs n → d.side ≡ me → IsPostOf n d
      → AreFair me them ts theirs last posted → AreFair me them (n ∷ ts) theirs (Some d) (posted ++ d ∷ [])
  new_stays n ts last d rise empty begun is post h = record {
    one = new_stays_fair me them n ts theirs posted (d ∷ []) rise empty begun (post, tt) (record { datagram = d; among = among_right d posted (d ∷ []) (inl refl); poster = is; port = post.port }) h.one;
    other = other_stays_fair me them ts (n ∷ ts) theirs posted (d ∷ []) differ (extends_new n ts) (is, tt) h.other;
    last_is = (is, of_transfer n (inl refl) post);
  }

  -- ---- the moves

  abbrev reading : ℕ → List Transfer → Option Transfer → ℕ → Option DatagramView → Option ℕ → Reading
  reading first_port past live ticks last size = record { first_port = first_port; past = past; live = live; ticks = ticks; last = last; asks_size = size }

  -- a packet that changes nothing
  unchanged_stays : (first_port : ℕ) (past : List Transfer) (t : Transfer) (ticks : ℕ) (last : Option DatagramView) (size : Option ℕ) (from : ℕ) (p : PacketView) (answer : Answer) (peer : Option ℕ) → t.peer ≡ peer → (t.peer ≡ None → heard_post me (transfer_view t) from answer ≡ [])
      → AreFair me them (t ∷ past ++ former) theirs last posted
      → ((t.peer ≡ None → ⊥) → AreFair me them (with_packet t from p ∷ past ++ former) theirs last (posted ++ heard_post me (transfer_view t) from answer))
      → AreFair me them (all_of (reading_unchanged (reading first_port past (Some t) ticks last size) t from p peer) former) theirs (reading_unchanged (reading first_port past (Some t) ticks last size) t from p peer).last (posted ++ heard_post me (transfer_view t) from answer)
  unchanged_stays first_port past t ticks last size from p answer None e none before after =
      subst (λ (more : List DatagramView). AreFair me them (t ∷ past ++ former) theirs last (posted ++ more)) (sym (none e)) (none_more (t ∷ past ++ former) last before)
  unchanged_stays first_port past t ticks last size from p answer (Some port) e none before after = after (λ unbound. none_is_some ⊥ t.peer port unbound e)

  answered_stays : (first_port : ℕ) (past : List Transfer) (t : Transfer) (ticks : ℕ) (last : Option DatagramView) (size : Option ℕ) (from : ℕ) (p : PacketView) (answer : Answer) → end_answer (end_in t) p ≡ answer
      → (t.peer ≡ None → (is_asking t.role ≡ true) × (t.got ≡ []))
      → AreFair me them (t ∷ past ++ former) theirs last posted
      → ((t.peer ≡ None → answer ≡ Dropped → ⊥) → AreFair me them (with_packet t from p ∷ past ++ former) theirs (last_of last (heard_post me (transfer_view t) from answer)) (posted ++ heard_post me (transfer_view t) from answer))
      → AreFair me them (all_of (reading_answered me (reading first_port past (Some t) ticks last size) t from p answer) former) theirs (reading_answered me (reading first_port past (Some t) ticks last size) t from p answer).last (posted ++ heard_post me (transfer_view t) from answer)
  answered_stays first_port past t ticks last size from p Dropped is fresh before after = unchanged_stays first_port past t ticks last size from p Dropped t.peer refl (λ none. refl) before (λ bound. after (λ none e. absurd (bound none)))
  answered_stays first_port past t ticks last size from p Again is fresh before after =
      unchanged_stays first_port past t ticks last size from p Again t.peer refl
      (λ none. absurd (asking_not_again t.role p (fresh none).0 (subst (λ (got : List PacketView). end_answer (end_of t.role got) p ≡ Again) (fresh none).1 is))) before
      (λ bound. let then = after (λ none e. absurd (bound none)) in record {
        one = then.one;
        other = then.other;
        last_is = last_later me (t ∷ past ++ former) (with_packet t from p ∷ past ++ former) last (extends_first t (with_packet t from p) (past ++ former) (with_later t from p)) before.last_is;
      })
  answered_stays first_port past t ticks last size from p (Grants o) is fresh before after = after (λ none e. cc)
  answered_stays first_port past t ticks last size from p (TakesBlock b) is fresh before after = after (λ none e. cc)
  answered_stays first_port past t ticks last size from p (TakesLast b) is fresh before after = after (λ none e. cc)
  answered_stays first_port past t ticks last size from p Proceeds is fresh before after = after (λ none e. cc)
  answered_stays first_port past t ticks last size from p Completes is fresh before after = after (λ none e. cc)
  answered_stays first_port past t ticks last size from p (Fails code) is fresh before after = after (λ none e. cc)

  abbrev Kept : Reading → Move → Type 0
  Kept r move = AreFair me them (all_of (reading_after me r move) former) theirs (reading_after me r move).last (posted ++ posts_of me (end_view r) move)

  -- the kept transfer acknowledges its last block again
  recalled_is_post : (ts : List Transfer) (t : Transfer) (from : ℕ) (p : PacketView) (answer : Answer) → Among t ts → t.peer ≡ Some from → AllByRecursion (IsPostOfSide ts) (recalled_post me (transfer_view t) from answer)
  recalled_is_post ts t from p Again a bound = (of_transfer t a (record { port = refl; heard = t.got; later = []; split = sym (append-nil t.got); bytes = refl; goes = inl bound }), tt)
  recalled_is_post ts t from p Dropped a bound = tt
  recalled_is_post ts t from p (Grants o) a bound = tt
  recalled_is_post ts t from p (TakesBlock b) a bound = tt
  recalled_is_post ts t from p (TakesLast b) a bound = tt
  recalled_is_post ts t from p Proceeds a bound = tt
  recalled_is_post ts t from p Completes a bound = tt
  recalled_is_post ts t from p (Fails code) a bound = tt

  recalled_side : (t : TransferView) (from : ℕ) (answer : Answer) → AllByRecursion (λ (d : DatagramView). d.side ≡ me) (recalled_post me t from answer)
  recalled_side t from Again = (refl, tt)
  recalled_side t from Dropped = tt
  recalled_side t from (Grants o) = tt
  recalled_side t from (TakesBlock b) = tt
  recalled_side t from (TakesLast b) = tt
  recalled_side t from Proceeds = tt
  recalled_side t from Completes = tt
  recalled_side t from (Fails code) = tt

  hears_stays : (e : Event) (first_port : ℕ) (past : List Transfer) (live : Option Transfer) (ticks : ℕ) (last : Option DatagramView) (size : Option ℕ) (from : ℕ) (p : PacketView) → HeardIn e (seen live) from p → EventWasPosted posted them e
      → AreFair me them (past_with live past ++ former) theirs last posted → Kept (reading first_port past live ticks last size) (Hears from p)
  hears_stays e first_port past None ticks last size from p heard was h = none_more (past ++ former) last h
  hears_stays e first_port past (Some t) ticks last size from p heard was h =
      let (mine, b) = heard_brought posted them e (transfer_view t) from p heard was in
      answered_stays first_port past t ticks last size from p (end_answer (end_in t) p) refl (λ none. unbound_asks posted them theirs t none (h.one.begun t (inl refl))) h
      (λ taken. packet_stays t (past ++ former) last from p (end_answer (end_in t) p) refl mine b taken h)

  recalls_stays : (e : Event) (r : Reading) (from : ℕ) (p : PacketView) (kept : Option Transfer) → kept_in r.past ≡ kept → HeardIn e (seen kept) from p → EventWasPosted posted them e
      → AreFair me them (all_of r former) theirs r.last posted → AreFair me them (all_of r former) theirs r.last (posted ++ kept_post me (seen kept) from p)
  recalls_stays e r from p None is heard was h = none_more (all_of r former) r.last h
  recalls_stays e r from p (Some t) is heard was h =
      let (mine, b) = heard_brought posted them e (transfer_view t) from p heard was in
      let (a, whole) = kept_among r.past t is in
      let among : Among t (all_of r former) = among_left t (past_with r.live r.past) former (by_live r.live t r.past a) in
      same_stays (all_of r former) r.last r.last (recalled_post me (transfer_view t) from (end_answer (end_in t) p)) (recalled_side (transfer_view t) from (end_answer (end_in t) p))
      (recalled_is_post (all_of r former) t from p (end_answer (end_in t) p) among (bound t.peer refl mine among whole)) h.last_is h
    where
      by_live : (live : Option Transfer) (x : Transfer) (past : List Transfer) → Among x past → Among x (past_with live past)
      by_live None x past a = a
      by_live (Some y) x past a = inr a

      bound : (peer : Option ℕ) → t.peer ≡ peer → is_peer t.peer from ≡ true → Among t (all_of r former) → is_received (end_in t) ≡ true → t.peer ≡ Some from
      bound None none mine among whole =
          absurd (not_received t.role (subst (λ (got : List PacketView). is_received (end_of t.role got) ≡ true) (unbound_asks posted them theirs t none (h.one.begun t among)).1 whole))
      bound (Some port) some mine among whole = some ∙ ap (λ (q : ℕ). Some q) (eqb-true port from (subst (λ (peer : Option ℕ). is_peer peer from ≡ true) some mine))

  last_posts_stay : (ts : List Transfer) (last : Option DatagramView) → AreFair me them ts theirs last posted → AreFair me them ts theirs last (posted ++ last_post last)
  last_posts_stay ts None h = none_more ts None h
  last_posts_stay ts (Some d) h = same_stays ts (Some d) (Some d) (d ∷ []) (h.last_is.0, tt) (h.last_is.1, tt) h.last_is h

  asks_stays : (r : Reading) (role : Role) → is_asking role ≡ true → OwnPortsRise (all_of (reading_after me r (Asks role)) former) → AreFair me them (all_of r former) theirs r.last posted → Kept r (Asks role)
  asks_stays r role asks rise h =
      new_stays (record { role = role; own = next_port_of r; peer = None; got = [] }) (all_of r former) r.last (request me (next_port_of r) role) rise refl (unanswered asks refl refl) refl
      (record { port = refl; heard = []; later = []; split = refl; bytes = ap packet_bytes (first_is_sent role); goes = inr (refl, refl, asks) }) h

  taken_request : (role : Role) → is_asking role ≡ false → (p : PacketView) × (request_taken role ≡ Some p)
  taken_request (Reads name o) e = absurd cc
  taken_request (Writes name o file) e = absurd cc
  taken_request (ServesRead name o file) e = (Rrq name o, refl)
  taken_request (ServesWrite name o) e = (Wrq name o, refl)

  request_came : (e : Event) (from : ℕ) (role : Role) (p : PacketView) → ServesIn e from role → EventWasPosted posted them e → request_taken role ≡ Some p → Brought posted them from 59 p
  request_came (Gets source to bytes) from role p (at, to_59, serves, spells) (among, fit) is =
      let here : Brought posted them source to p = record { bytes = bytes; among = among; spells = spells ∙ is; are_bytes = fit } in
      subst (λ (port : ℕ). Brought posted them port 59 p) at (subst (λ (port : ℕ). Brought posted them source port p) to_59 here)
  request_came Ticks from role p h was is = absurd h
  request_came (Learns n) from role p h was is = absurd h
  request_came (Starts_info hw pos) from role p h was is = absurd h
  request_came (Starts_upload hw pos parts) from role p h was is = absurd h

  serves_of : (e : Event) (from : ℕ) (role : Role) → ServesIn e from role → is_asking role ≡ false
  serves_of (Gets source to bytes) from role h = h.2
  serves_of Ticks from role h = absurd h
  serves_of (Learns n) from role h = absurd h
  serves_of (Starts_info hw pos) from role h = absurd h
  serves_of (Starts_upload hw pos parts) from role h = absurd h

  serves_stays : (e : Event) (r : Reading) (from : ℕ) (role : Role) → ServesIn e from role → EventWasPosted posted them e → OwnPortsRise (all_of (reading_after me r (Serves from role)) former) → AreFair me them (all_of r former) theirs r.last posted
      → Kept r (Serves from role)
  serves_stays e r from role serves was rise h =
      let (p, is) = taken_request role (serves_of e from role serves) in
      let d : DatagramView = datagram me (next_port_of r) from (first_packet role) in
      let n : Transfer = record { role = role; own = next_port_of r; peer = Some from; got = [] } in
      new_stays n (all_of r former) r.last d rise refl
      (served (serves_of e from role serves) (record { peer = from; bound = refl; request = p; taken = is; brought = brought_still posted (d ∷ []) them from 59 p (request_came e from role p serves was is) })) refl
      (record { port = refl; heard = []; later = []; split = refl; bytes = ap packet_bytes (first_is_sent role); goes = inl refl }) h

  move_stays : (e : Event) (r : Reading) (move : Move) → MoveFits e (seen r.live) (seen (kept_in r.past)) move → EventWasPosted posted them e → OwnPortsRise (all_of (reading_after me r move) former) → AreFair me them (all_of r former) theirs r.last posted → Kept r move
  move_stays e r (Hears from p) fits was rise h = hears_stays e r.first_port r.past r.live r.ticks r.last r.asks_size from p fits was h
  move_stays e r (Recalls from p) fits was rise h = recalls_stays e r from p (kept_in r.past) refl fits was h
  move_stays e r (Asks role) fits was rise h = asks_stays r role fits rise h
  move_stays e r (Serves from role) fits was rise h = serves_stays e r from role fits was rise h
  move_stays e r (Refuses from) fits was rise h = same_stays (all_of r former) r.last r.last (datagram me 59 from (Error 1 []) ∷ []) (refl, tt) (of_refusal refl refl, tt) h.last_is h
  move_stays e r Repeats fits was rise h = last_posts_stay (all_of r former) r.last h
  move_stays e r Stops fits was rise h = none_more (all_of r former) r.last h
  move_stays e r (Asks_size n) fits was rise h = none_more (all_of r former) r.last h

-- ---- several moves

module _ (me them : Side) (e : Event) (former theirs : List Transfer) (differ : me ≡ them → ⊥) where
  abbrev Stay : Reading → List Move → List DatagramView → Type 0
  Stay r moves posted = AreFair me them (all_of (readings_after me r moves) former) theirs (readings_after me r moves).last (posted ++ all_posts me (end_view r) moves)

  -- one move, and others after it
  then_others : (r : Reading) (move : Move) (moves : List Move) (posted : List DatagramView) → IsLive r.live → Stay (reading_after me r move) moves (posted ++ posts_of me (end_view r) move) → Stay r (move ∷ moves) posted
  then_others r move moves posted live h =
      let view = view_follows me r move live in
      let same : (posted ++ posts_of me (end_view r) move) ++ all_posts me (end_view (reading_after me r move)) moves ≡ posted ++ all_posts me (end_view r) (move ∷ moves) =
      append_assoc posted (posts_of me (end_view r) move) (all_posts me (end_view (reading_after me r move)) moves)
      ∙ ap (λ (v : EndView). posted ++ (posts_of me (end_view r) move ++ all_posts me v moves)) (sym view.0) in
      subst (λ (all : List DatagramView). AreFair me them (all_of (readings_after me r (move ∷ moves)) former) theirs (readings_after me r (move ∷ moves)).last all) same h

  later_stay : (r : Reading) (moves : List Move) (posted : List DatagramView) → AllByRecursion (MoveFits e None None) moves → EventWasPosted posted them e → IsLive r.live → PortsFit r former → AreFair me them (all_of r former) theirs r.last posted → Stay r moves posted
  later_stay r [] posted fits was live ports h = none_more me them former theirs posted differ (all_of r former) r.last h
  later_stay r (move ∷ moves) posted (one, fits) was live ports h =
      then_others r move moves posted live
      (later_stay (reading_after me r move) moves (posted ++ posts_of me (end_view r) move) fits (was_posted_still posted (posts_of me (end_view r) move) them e was) (view_follows me r move live).1 (ports_stay_one me r former move ports)
      (move_stays me them former theirs posted differ e r move (fits_any e (seen r.live) (seen (kept_in r.past)) move one) was (ports_fit_rise (reading_after me r move) former (ports_stay_one me r former move ports)) h))

  moves_stay : (r : Reading) (moves : List Move) (posted : List DatagramView) → MovesFit e (seen r.live) (seen (kept_in r.past)) moves → EventWasPosted posted them e → IsLive r.live → PortsFit r former → AreFair me them (all_of r former) theirs r.last posted
      → Stay r moves posted
  moves_stay r [] posted fits was live ports h = none_more me them former theirs posted differ (all_of r former) r.last h
  moves_stay r (move ∷ moves) posted (one, fits) was live ports h =
      then_others r move moves posted live
      (later_stay (reading_after me r move) moves (posted ++ posts_of me (end_view r) move) fits (was_posted_still posted (posts_of me (end_view r) move) them e was) (view_follows me r move live).1 (ports_stay_one me r former move ports)
      (move_stays me them former theirs posted differ e r move one was (ports_fit_rise (reading_after me r move) former (ports_stay_one me r former move ports)) h))

pub moves_stay_fair : MovesStayFair
moves_stay_fair me them e r former theirs moves posted differ fits was live ports h = moves_stay me them e former theirs differ r moves posted fits was live ports h
