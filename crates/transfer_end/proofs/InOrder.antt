-- Proofs that whatever moves a side makes, it posts blocks in their order.
use Rattle.std.proofs.Common.{◌≡◌, ◌⊎◌, inl, inr, ⊎_elim, ℕ, ◌+◌, ◌<◌, Bool, true, false, cond, ◌&&◌, List, [], ◌∷◌, ◌++◌, length, map, Option, Some, None, refl, sym, ap, subst, ◌∙◌, arith, append-nil, append_assoc}
use Rattle.std.specs.Prelude.{◌==◌, filter}
use Rattle.std.specs.List.{AllByRecursion}
use Rattle.std.proofs.Common.{add-one}
use Rattle.std.proofs.lemmas.Bool.{eqb-true, eq-eqb}
use Rattle.std.proofs.lemmas.List.{map-append}
use Rattle.std.proofs.lemmas.List.Elements.{filter-append}
use Rattle.tftp_packet.specs.declared.options.Options.{Options}
use Rattle.tftp_packet.specs.Packets.{Ack, Data, Error, Oack, PacketView, Rrq, Wrq, packet_bytes}
use Rattle.tftp_link.specs.declared.phase.Phase.{Phase}
use Rattle.tftp_link.specs.declared.phase.Phase.TheVariants.{Waiting, Running, Finished, Failed}
use Rattle.tftp_link.specs.Answers.{Again, Answer, Completes, Dropped, Fails, Grants, Proceeds, TakesBlock, TakesLast, error_answer, is_sent_by}
use Rattle.tftp_link.specs.Negotiation.{fits_said, granted_to_reader, is_empty, may_grant}
use Rattle.tftp_link.specs.Sender.{Sender, ack_answer, awaited_answer, data_of, last_of as last_block_of, sender_after, sender_after_all, sender_answer, sender_asking, sender_moved, sender_oack_answer, sender_packet, sender_serving}
use Rattle.exchange_trace.specs.declared.trace.Side.{Side}
use Rattle.exchange_trace.specs.Happenings.{DatagramView}
use Rattle.exchange_trace.specs.Logs.{Event, Gets, Learns, Starts_info, Starts_upload, Ticks}
use Rattle.transfer_end.proofs.CameLemmas.{all_mapped}
use Rattle.transfer_end.proofs.FirstPostLemmas.{next_with, stopped_in_order}
use Rattle.transfer_end.specs.FirstPosts.{AllInOrder, MovesPostInOrder, PostsInOrder, blocks_of, opening, posted_from, sent_by}
use Rattle.transfer_end.specs.Laws.{CountUp, IsLive, PortsCountUp}
use Rattle.transfer_end.specs.Moves.{Asks, Asks_size, Hears, Move, Recalls, Refuses, Repeats, Serves, Stops, all_posts, datagram, heard_post, kept_post, past_with, posts_of, reading_after, reading_answered, reading_unchanged, readings_after, recalled_post, request}
use Rattle.transfer_end.specs.OtherEnds.{Among, IsNoTick, IsTick, MoveFits, MovesFit, OwnPortsRise, file_sent, end_block_size}
use Rattle.transfer_end.proofs.OtherEndLemmas.{count_rise, first_stays, fits_any, kept_among, own_is_one, own_not_59}
use Rattle.transfer_end.specs.Readings.{Reading, kept_in, next_port_of, port_past, port_with}
use Rattle.transfer_end.proofs.RfcLemmas.{end_is_of_link, moves_count_up, sends_next_block}
use Rattle.transfer_end.specs.Transfers.{LinkEnd, Reads, Role, Sends, ServesRead, ServesWrite, Transfer, Writes, end_after, end_answer, end_in, end_moved, end_of, end_packet, first_packet, is_received, with_packet}
use Rattle.transfer_end.proofs.ViewLemmas.{end_of_more, view_follows}
use Rattle.transfer_end.specs.Views.{EndView, TransferView, end_view, seen, transfer_view}

-- ---- a sending end

-- an end whose request wasn't answered sent no block
abbrev IsNewIfWaiting : Sender → Type 0
IsNewIfWaiting s = s.phase ≡ Waiting → s.sent ≡ 0

-- what one packet does: the next block goes out, or nothing does
abbrev SendsNextOrNothing : Sender → Answer → Type 0
SendsNextOrNothing s answer =
    ((is_sent_by answer ≡ true) × (((sender_moved s answer).size ≡ s.size) ⊎ (s.sent ≡ 0)))
    ⊎ ((is_sent_by answer ≡ false) × ((sender_moved s answer).sent ≡ s.sent) × ((sender_moved s answer).size ≡ s.size))

goes_if : (s : Sender) (b : Bool) (x y : Answer) → SendsNextOrNothing s x → SendsNextOrNothing s y → SendsNextOrNothing s (cond b x y)
goes_if s true x y p q = p
goes_if s false x y p q = q

ack_goes : (s : Sender) (k : ℕ) (phase : Phase) → SendsNextOrNothing s (ack_answer phase s k)
ack_goes s k Waiting = goes_if s (k == 0) Proceeds Dropped (inl (refl, inl refl)) (inr (refl, refl, refl))
ack_goes s k Running = goes_if s (k == s.sent) (awaited_answer s) Dropped (goes_if s (s.sent == last_block_of s) Completes Proceeds (inr (refl, refl, refl)) (inl (refl, inl refl))) (inr (refl, refl, refl))
ack_goes s k Finished = inr (refl, refl, refl)
ack_goes s k (Failed code) = inr (refl, refl, refl)

oack_goes : (s : Sender) (o : Options) (phase : Phase) → s.phase ≡ phase → IsNewIfWaiting s → SendsNextOrNothing s (sender_oack_answer phase s o)
oack_goes s o Waiting e new = goes_if s (may_grant s.options o && fits_said (length s.file) o.blksize) (Grants o) Dropped (inl (refl, inr (new e))) (inr (refl, refl, refl))
oack_goes s o Running e new = inr (refl, refl, refl)
oack_goes s o Finished e new = inr (refl, refl, refl)
oack_goes s o (Failed code) e new = inr (refl, refl, refl)

error_goes : (s : Sender) (code : ℕ) (phase : Phase) → SendsNextOrNothing s (error_answer phase code)
error_goes s code Waiting = inr (refl, refl, refl)
error_goes s code Running = inr (refl, refl, refl)
error_goes s code Finished = inr (refl, refl, refl)
error_goes s code (Failed before) = inr (refl, refl, refl)

packet_goes : (s : Sender) (p : PacketView) → IsNewIfWaiting s → SendsNextOrNothing s (sender_answer s p)
packet_goes s (Ack k) new = ack_goes s k s.phase
packet_goes s (Oack o) new = oack_goes s o s.phase refl new
packet_goes s (Error code m) new = error_goes s code s.phase
packet_goes s (Data k b) new = inr (refl, refl, refl)
packet_goes s (Rrq name o) new = inr (refl, refl, refl)
packet_goes s (Wrq name o) new = inr (refl, refl, refl)

-- what holds of a sender of a file after any packets
pub record SendsOf (file : List ℕ) (s : Sender) : Type 0 where
  pub same : s.file ≡ file
  pub new : IsNewIfWaiting s

moved_sends : (file : List ℕ) (s : Sender) (answer : Answer) → SendsOf file s → SendsOf file (sender_moved s answer)
moved_sends file s Dropped h = h
moved_sends file s Again h = h
moved_sends file s (Grants o) h = record { same = h.same; new = λ e. absurd cc }
moved_sends file s (TakesBlock b) h = h
moved_sends file s (TakesLast b) h = h
moved_sends file s Proceeds h = record { same = h.same; new = λ e. absurd cc }
moved_sends file s Completes h = record { same = h.same; new = λ e. absurd cc }
moved_sends file s (Fails code) h = record { same = h.same; new = λ e. absurd cc }

all_sends : (file : List ℕ) (s : Sender) (got : List PacketView) → SendsOf file s → SendsOf file (sender_after_all s got)
all_sends file s [] h = h
all_sends file s (p ∷ got) h = all_sends file (sender_after s p) got (moved_sends file s (sender_answer s p) h)

some_is : (a b : List ℕ) → Some a ≡ Some b → a ≡ b
some_is a b e = cc

-- the end of a transfer that sends this file
pub record EndSends (file : List ℕ) (role : Role) (got : List PacketView) : Type 0 where
  pub sender : Sender
  pub end : end_of role got ≡ Sends sender
  pub sends : SendsOf file sender

end_sends : (role : Role) (got : List PacketView) (file : List ℕ) → file_sent role ≡ Some file → EndSends file role got
end_sends (Writes name o f) got file e = record {
  sender = sender_after_all (sender_asking name f o) got;
  end = (end_is_of_link name f o got).2;
  sends = all_sends file (sender_asking name f o) got (record { same = some_is f file e; new = λ w. refl });
}
end_sends (ServesRead name o f) got file e = record {
  sender = sender_after_all (sender_serving f o) got;
  end = (end_is_of_link name f o got).3;
  sends = all_sends file (sender_serving f o) got (record { same = some_is f file e; new = λ w. absurd cc });
}
end_sends (Reads name o) got file e = absurd cc
end_sends (ServesWrite name o) got file e = absurd cc

-- ---- one packet more

abbrev Bytes : List DatagramView → List (List ℕ)
Bytes posts = map (λ (d : DatagramView). d.bytes) posts

none_or_same : (file : List ℕ) (size then n : ℕ) → (then ≡ size) ⊎ (n ≡ 0) → blocks_of file then n ≡ blocks_of file size n
none_or_same file size then n (inl e) = ap (λ (k : ℕ). blocks_of file k n) e
none_or_same file size then n (inr e) = ap (λ (k : ℕ). blocks_of file then k) e ∙ sym (ap (λ (k : ℕ). blocks_of file size k) e)

one_more : (file : List ℕ) (size n : ℕ) → blocks_of file size (n + 1) ≡ blocks_of file size n ++ data_of file size (n + 1) ∷ []
one_more file size n = rw (add-one n) refl

-- what the end posts at a packet are the blocks that it sent then and not before
heard_blocks : (side : Side) (own : ℕ) (peer : Option ℕ) (from : ℕ) (file : List ℕ) (s : Sender) (p : PacketView) → SendsOf file s
    → map packet_bytes (blocks_of file (sender_after s p).size (sender_after s p).sent)
    ≡ map packet_bytes (blocks_of file s.size s.sent) ++ Bytes (heard_post side (record { own = own; peer = peer; end = Sends s }) from (sender_answer s p))
heard_blocks side own peer from file s p h = by (packet_goes s p h.new)
  where
    by : SendsNextOrNothing s (sender_answer s p)
        → map packet_bytes (blocks_of file (sender_after s p).size (sender_after s p).sent)
        ≡ map packet_bytes (blocks_of file s.size s.sent) ++ Bytes (heard_post side (record { own = own; peer = peer; end = Sends s }) from (sender_answer s p))
    by (inl (sent, size)) =
        let next = sends_next_block s p sent in
        ap (λ (n : ℕ). map packet_bytes (blocks_of file (sender_after s p).size n)) next.0
        ∙ ap (map packet_bytes) (one_more file (sender_after s p).size s.sent ∙ ap (λ (blocks : List PacketView). blocks ++ data_of file (sender_after s p).size (s.sent + 1) ∷ []) (none_or_same file s.size (sender_after s p).size s.sent size))
        ∙ map-append packet_bytes (blocks_of file s.size s.sent) (data_of file (sender_after s p).size (s.sent + 1) ∷ [])
        ∙ ap (λ (x : List (List ℕ)). map packet_bytes (blocks_of file s.size s.sent) ++ x)
        (ap (λ (q : PacketView). packet_bytes q ∷ []) (sym (next.1 ∙ ap (λ (f : List ℕ). data_of f (sender_after s p).size (s.sent + 1)) h.same)) ∙ sym (posts sent))
      where
        posts : is_sent_by (sender_answer s p) ≡ true → Bytes (heard_post side (record { own = own; peer = peer; end = Sends s }) from (sender_answer s p)) ≡ packet_bytes (sender_packet (sender_after s p)) ∷ []
        posts e = rw e refl
    by (inr (silent, sent, size)) =
        ap (λ (n : ℕ). map packet_bytes (blocks_of file n (sender_after s p).sent)) size ∙ ap (λ (n : ℕ). map packet_bytes (blocks_of file s.size n)) sent
        ∙ sym (append-nil (map packet_bytes (blocks_of file s.size s.sent))) ∙ ap (λ (x : List (List ℕ)). map packet_bytes (blocks_of file s.size s.sent) ++ x) (sym (none silent))
      where
        none : is_sent_by (sender_answer s p) ≡ false → Bytes (heard_post side (record { own = own; peer = peer; end = Sends s }) from (sender_answer s p)) ≡ []
        none e = rw e refl

-- ---- posts from a port

posted_more : (port : ℕ) (posts more : List DatagramView) → posted_from port (posts ++ more) ≡ posted_from port posts ++ posted_from port more
posted_more port posts more =
    ap Bytes (filter-append (λ (d : DatagramView). d.from == port) posts more)
    ∙ map-append (λ (d : DatagramView). d.bytes) (filter (λ (d : DatagramView). d.from == port) posts) (filter (λ (d : DatagramView). d.from == port) more)

none_from : (port : ℕ) (more : List DatagramView) → AllByRecursion (λ (d : DatagramView). (d.from == port) ≡ false) more → posted_from port more ≡ []
none_from port [] all = refl
none_from port (d ∷ more) (one, all) = rw one (none_from port more all)

all_from : (port : ℕ) (more : List DatagramView) → AllByRecursion (λ (d : DatagramView). (d.from == port) ≡ true) more → posted_from port more ≡ Bytes more
all_from port [] all = refl
all_from port (d ∷ more) (one, all) = rw one (ap (λ (rest : List (List ℕ)). d.bytes ∷ rest) (all_from port more all))

-- what is posted from another port
others_stay : (posts more : List DatagramView) (t : Transfer) → AllByRecursion (λ (d : DatagramView). (d.from == t.own) ≡ false) more → PostsInOrder posts t → PostsInOrder (posts ++ more) t
others_stay posts more t other h = λ file e. posted_more t.own posts more ∙ ap (λ (x : List (List ℕ)). posted_from t.own posts ++ x) (none_from t.own more other) ∙ append-nil (posted_from t.own posts) ∙ h file e

not_equal : (a b : ℕ) → (a ≡ b → ⊥) → (a == b) ≡ false
not_equal a b differ = by (a == b) refl
  where
    by : (x : Bool) → (a == b) ≡ x → (a == b) ≡ false
    by true e = absurd (differ (eqb-true a b e))
    by false e = e

equal : (a : ℕ) → (a == a) ≡ true
equal a = eq-eqb a a refl

heard_from : (P : ℕ → Type 0) (side : Side) (t : TransferView) (from : ℕ) (answer : Answer) → P t.own → AllByRecursion (λ (d : DatagramView). P d.from) (heard_post side t from answer)
heard_from P side t from answer h = by (is_sent_by answer)
  where
    by : (b : Bool) → AllByRecursion (λ (d : DatagramView). P d.from) (cond b (datagram side t.own from (end_packet (end_moved t.end answer)) ∷ []) [])
    by true = (h, tt)
    by false = tt

-- a packet more for the transfer that sends
packet_in_order : (side : Side) (t : Transfer) (from : ℕ) (p : PacketView) (posts : List DatagramView) → PostsInOrder posts t → PostsInOrder (posts ++ heard_post side (transfer_view t) from (end_answer (end_in t) p)) (with_packet t from p)
packet_in_order side t from p posts h = λ file e. by file e (end_sends t.role t.got file e)
  where
    more : List DatagramView
    more = heard_post side (transfer_view t) from (end_answer (end_in t) p)

    by : (file : List ℕ) → file_sent t.role ≡ Some file → EndSends file t.role t.got
        → posted_from t.own (posts ++ more) ≡ map packet_bytes (opening t.role ++ blocks_of file (end_block_size (end_in (with_packet t from p))) (sent_by (end_in (with_packet t from p))))
    by file e s =
        let blocks : map packet_bytes (blocks_of file (end_block_size (end_after (end_in t) p)) (sent_by (end_after (end_in t) p))) ≡ map packet_bytes (blocks_of file (end_block_size (end_in t)) (sent_by (end_in t))) ++ Bytes more =
        subst (λ (end : LinkEnd). map packet_bytes (blocks_of file (end_block_size (end_after end p)) (sent_by (end_after end p)))
        ≡ map packet_bytes (blocks_of file (end_block_size end) (sent_by end)) ++ Bytes (heard_post side (record { own = t.own; peer = t.peer; end = end }) from (end_answer end p))) (sym s.end)
        (heard_blocks side t.own t.peer from file s.sender p s.sends) in
        posted_more t.own posts more
        ∙ ap (λ (x : List (List ℕ)). posted_from t.own posts ++ x) (all_from t.own more (heard_from (λ (port : ℕ). (port == t.own) ≡ true) side (transfer_view t) from (end_answer (end_in t) p) (equal t.own)))
        ∙ ap (λ (x : List (List ℕ)). x ++ Bytes more) (h file e ∙ map-append packet_bytes (opening t.role) (blocks_of file (end_block_size (end_in t)) (sent_by (end_in t))))
        ∙ append_assoc (map packet_bytes (opening t.role)) (map packet_bytes (blocks_of file (end_block_size (end_in t)) (sent_by (end_in t)))) (Bytes more)
        ∙ ap (λ (x : List (List ℕ)). map packet_bytes (opening t.role) ++ x) (sym blocks)
        ∙ sym (map-append packet_bytes (opening t.role) (blocks_of file (end_block_size (end_after (end_in t) p)) (sent_by (end_after (end_in t) p))))
        ∙ ap (λ (end : LinkEnd). map packet_bytes (opening t.role ++ blocks_of file (end_block_size end) (sent_by end))) (sym (end_of_more t.role t.got p))

-- ---- ports

port_past_is : (first_port : ℕ) (past : List Transfer) → port_past first_port past ≡ first_port + length past
port_past_is first_port [] = omega arith
port_past_is first_port (t ∷ past) = let e = port_past_is first_port past in omega arith

rise_of : (first_port : ℕ) (ts : List Transfer) → 59 < first_port → CountUp first_port ts → OwnPortsRise ts
rise_of first_port ts above counts = subst OwnPortsRise (append-nil ts) (count_rise first_port ts [] above counts tt tt)

all_below : (first_port : ℕ) (ts : List Transfer) → CountUp first_port ts → (u : Transfer) → Among u ts → u.own < first_port + length ts
all_below first_port [] counts u a = absurd a
all_below first_port (t ∷ ts) (own, counts) u (inl e) = let same : t.own ≡ u.own = ap (λ (x : Transfer). x.own) e in omega (arith, own, same)
all_below first_port (t ∷ ts) (own, counts) u (inr a) = let less = all_below first_port ts counts u a in omega (arith, less)

next_is : (first_port : ℕ) (past : List Transfer) (live : Option Transfer) → port_with (port_past first_port past) live ≡ first_port + length (past_with live past)
next_is first_port past None = port_past_is first_port past
next_is first_port past (Some t) = let e = port_past_is first_port past in omega arith

own_below_next : (r : Reading) → PortsCountUp r → (u : Transfer) → Among u (past_with r.live r.past) → u.own < next_port_of r
own_below_next r counts u a = let less = all_below r.first_port (past_with r.live r.past) counts u a in let next = next_is r.first_port r.past r.live in omega (arith, less, next)

all_append : {A : Type 0} (P : A → Type 0) (xs ys : List A) → AllByRecursion P xs → AllByRecursion P ys → AllByRecursion P (xs ++ ys)
all_append P [] ys all rest = rest
all_append P (x ∷ xs) ys (one, all) rest = (one, all_append P xs ys all rest)

-- ---- moves

abbrev Then : Side → Reading → Move → List DatagramView → Type 0
Then side r move posts = AllInOrder (reading_after side r move) (posts ++ posts_of side (end_view r) move)

abbrev reading : ℕ → List Transfer → Option Transfer → ℕ → Option DatagramView → Option ℕ → Reading
reading first_port past live ticks last size = record { first_port = first_port; past = past; live = live; ticks = ticks; last = last; asks_size = size }

no_more : (r : Reading) (posts : List DatagramView) → AllInOrder r posts → AllInOrder r (posts ++ [])
no_more r posts h = subst (λ (all : List DatagramView). AllInOrder r all) (sym (append-nil posts)) h

module _ (side : Side) (first_port : ℕ) (past : List Transfer) (t : Transfer) (ticks : ℕ) (last : Option DatagramView) (size : Option ℕ) (from : ℕ) (p : PacketView) (posts : List DatagramView)
    (above : 59 < first_port) (counts : CountUp first_port (t ∷ past)) (h : AllInOrder (reading first_port past (Some t) ticks last size) posts) where
  abbrev more_now : List DatagramView
  more_now = heard_post side (transfer_view t) from (end_answer (end_in t) p)

  not_its : (u : Transfer) → Among u past → t.own ≡ u.own → ⊥
  not_its u a e = let less = all_below first_port past counts.1 u a in let own = counts.0 in omega (arith, less, own, e)

  past_stays : (u : Transfer) → Among u past → PostsInOrder (posts ++ more_now) u
  past_stays u a = others_stay posts more_now u (heard_from (λ (port : ℕ). (port == u.own) ≡ false) side (transfer_view t) from (end_answer (end_in t) p) (not_equal t.own u.own (not_its u a))) (h.each u (inr a))

  each_now : (u : Transfer) → Among u (with_packet t from p ∷ past) → PostsInOrder (posts ++ more_now) u
  each_now u (inl e) = subst (λ (x : Transfer). PostsInOrder (posts ++ more_now) x) e (packet_in_order side t from p posts (h.each t (inl refl)))
  each_now u (inr a) = past_stays u a

  below_now : AllByRecursion (λ (d : DatagramView). d.from < port_past first_port past + 1) (posts ++ more_now)
  below_now =
      all_append (λ (d : DatagramView). d.from < port_past first_port past + 1) posts more_now h.below
      (heard_from (λ (port : ℕ). port < port_past first_port past + 1) side (transfer_view t) from (end_answer (end_in t) p) (let own = counts.0 in let next = port_past_is first_port past in omega (arith, own, next)))

  -- one that isn't sent by a sending end
  silent_or_receives : (end_answer (end_in t) p ≡ Again) ⊎ (end_answer (end_in t) p ≡ Dropped) → PostsInOrder (posts ++ more_now) t
  silent_or_receives (inr dropped) = subst (λ (all : List DatagramView). PostsInOrder all t) (sym (ap (λ (x : List DatagramView). posts ++ x) (ap (heard_post side (transfer_view t) from) dropped) ∙ append-nil posts)) (h.each t (inl refl))
  silent_or_receives (inl again) = λ file e. absurd (by file (end_sends t.role t.got file e))
    where
      by : (file : List ℕ) → EndSends file t.role t.got → ⊥
      by file s =
          let is : sender_answer s.sender p ≡ Again = ap (λ (end : LinkEnd). end_answer end p) (sym s.end) ∙ again in
          let next = sends_next_block s.sender p (ap is_sent_by is) in
          let same : (sender_after s.sender p).sent ≡ s.sender.sent = ap (λ (answer : Answer). (sender_moved s.sender answer).sent) is in
          let up = next.0 in
          omega (arith, same, up)

  unchanged_now : (answer : Answer) → end_answer (end_in t) p ≡ answer → (answer ≡ Again) ⊎ (answer ≡ Dropped) → (peer : Option ℕ) → AllInOrder (reading_unchanged (reading first_port past (Some t) ticks last size) t from p peer) (posts ++ more_now)
  unchanged_now answer is which (Some port) = record { each = each_now; below = below_now }
  unchanged_now answer is which None = record { each = each_of; below = below_now }
    where
      each_of : (u : Transfer) → Among u (t ∷ past) → PostsInOrder (posts ++ more_now) u
      each_of u (inl e) = subst (λ (x : Transfer). PostsInOrder (posts ++ more_now) x) e (silent_or_receives (⊎_elim (λ a. inl (is ∙ a)) (λ d. inr (is ∙ d)) which))
      each_of u (inr a) = past_stays u a

  answered_now : (answer : Answer) → end_answer (end_in t) p ≡ answer → AllInOrder (reading_answered side (reading first_port past (Some t) ticks last size) t from p answer) (posts ++ more_now)
  answered_now Dropped is = unchanged_now Dropped is (inr refl) t.peer
  answered_now Again is = unchanged_now Again is (inl refl) t.peer
  answered_now (Grants o) is = record { each = each_now; below = below_now }
  answered_now (TakesBlock b) is = record { each = each_now; below = below_now }
  answered_now (TakesLast b) is = record { each = each_now; below = below_now }
  answered_now Proceeds is = record { each = each_now; below = below_now }
  answered_now Completes is = record { each = each_now; below = below_now }
  answered_now (Fails code) is = record { each = each_now; below = below_now }

hears_now : (side : Side) (r : Reading) (live : Option Transfer) (from : ℕ) (p : PacketView) (posts : List DatagramView) → r.live ≡ live → 59 < r.first_port → PortsCountUp r → AllInOrder r posts → Then side r (Hears from p) posts
hears_now side r live from p posts is above counts h = by r.first_port r.past r.live r.ticks r.last r.asks_size above counts h
  where
    by : (first_port : ℕ) (past : List Transfer) (live : Option Transfer) (ticks : ℕ) (last : Option DatagramView) (size : Option ℕ) → 59 < first_port → CountUp first_port (past_with live past) → AllInOrder (reading first_port past live ticks last size) posts
        → Then side (reading first_port past live ticks last size) (Hears from p) posts
    by first_port past None ticks last size above counts h = no_more (reading first_port past None ticks last size) posts h
    by first_port past (Some t) ticks last size above counts h = answered_now side first_port past t ticks last size from p posts above counts h (end_answer (end_in t) p) refl

-- the kept transfer receives
recalled_from : (P : ℕ → Type 0) (side : Side) (t : TransferView) (from : ℕ) (answer : Answer) → P t.own → AllByRecursion (λ (d : DatagramView). P d.from) (recalled_post side t from answer)
recalled_from P side t from Again h = (h, tt)
recalled_from P side t from Dropped h = tt
recalled_from P side t from (Grants o) h = tt
recalled_from P side t from (TakesBlock b) h = tt
recalled_from P side t from (TakesLast b) h = tt
recalled_from P side t from Proceeds h = tt
recalled_from P side t from Completes h = tt
recalled_from P side t from (Fails code) h = tt

received_sends_none : (A : Type 0) (t : Transfer) (file : List ℕ) → is_received (end_in t) ≡ true → file_sent t.role ≡ Some file → A
received_sends_none A t file whole e = absurd (by (end_sends t.role t.got file e))
  where
    by : EndSends file t.role t.got → ⊥
    by s = let wrong : false ≡ true = ap is_received (sym s.end) ∙ whole in cc

among_past : (live : Option Transfer) (x : Transfer) (past : List Transfer) → Among x past → Among x (past_with live past)
among_past None x past a = a
among_past (Some y) x past a = inr a

recalls_now : (side : Side) (r : Reading) (from : ℕ) (p : PacketView) (posts : List DatagramView) (kept : Option Transfer) → kept_in r.past ≡ kept → 59 < r.first_port → PortsCountUp r → AllInOrder r posts → AllInOrder r (posts ++ kept_post side (seen kept) from p)
recalls_now side r from p posts None is above counts h = no_more r posts h
recalls_now side r from p posts (Some x) is above counts h = record {
  each = each_of;
  below = all_append (λ (d : DatagramView). d.from < next_port_of r) posts more h.below (recalled_from (λ (port : ℕ). port < next_port_of r) side (transfer_view x) from (end_answer (end_in x) p) (own_below_next r counts x there));
}
  where
    more : List DatagramView
    more = recalled_post side (transfer_view x) from (end_answer (end_in x) p)

    found : Among x r.past × (is_received (end_in x) ≡ true)
    found = kept_among r.past x is

    there : Among x (past_with r.live r.past)
    there = among_past r.live x r.past found.0

    each_of : (u : Transfer) → Among u (past_with r.live r.past) → PostsInOrder (posts ++ more) u
    each_of u a = by (x.own == u.own) refl
      where
        by : (b : Bool) → (x.own == u.own) ≡ b → PostsInOrder (posts ++ more) u
        by false e = others_stay posts more u (recalled_from (λ (port : ℕ). (port == u.own) ≡ false) side (transfer_view x) from (end_answer (end_in x) p) e) (h.each u a)
        by true e =
            let same : x ≡ u = own_is_one (past_with r.live r.past) x u (rise_of r.first_port (past_with r.live r.past) above counts) there a (eqb-true x.own u.own e) in
            λ file sends. received_sends_none _ u file (subst (λ (y : Transfer). is_received (end_in y) ≡ true) same found.1) sends

-- a transfer begins with its first packet
first_in_order : (role : Role) (file : List ℕ) → file_sent role ≡ Some file → packet_bytes (first_packet role) ∷ [] ≡ map packet_bytes (opening role ++ blocks_of file (end_block_size (end_of role [])) (sent_by (end_of role [])))
unfolding end_of
first_in_order (Writes name o f) file e = refl
first_in_order (ServesRead name o f) file e = by (is_empty (granted_to_reader (length f) o)) refl
  where
    same : f ≡ file
    same = some_is f file e

    by : (b : Bool) → is_empty (granted_to_reader (length f) o) ≡ b
        → packet_bytes (first_packet (ServesRead name o f)) ∷ [] ≡ map packet_bytes (opening (ServesRead name o f) ++ blocks_of file (end_block_size (end_of (ServesRead name o f) [])) (sent_by (end_of (ServesRead name o f) [])))
    by true is = rw (is, same) refl
    by false is = rw is refl
first_in_order (Reads name o) file e = absurd cc
first_in_order (ServesWrite name o) file e = absurd cc

nothing_from : (port : ℕ) (posts : List DatagramView) → AllByRecursion (λ (d : DatagramView). d.from < port) posts → posted_from port posts ≡ []
nothing_from port posts below = none_from port posts (all_mapped (λ (d : DatagramView). d.from < port) (λ (d : DatagramView). (d.from == port) ≡ false) (λ d less. not_equal d.from port (λ e. omega (arith, less, e))) posts below)

begins_now : (r : Reading) (n : Transfer) (d : DatagramView) (posts : List DatagramView) → PortsCountUp r → n.own ≡ next_port_of r → n.got ≡ [] → d.from ≡ n.own → d.bytes ≡ packet_bytes (first_packet n.role) → AllInOrder r posts
    → ((u : Transfer) → Among u (n ∷ past_with r.live r.past) → PostsInOrder (posts ++ d ∷ []) u)
begins_now r n d posts counts own empty from bytes h u (inl e) = subst (λ (x : Transfer). PostsInOrder (posts ++ d ∷ []) x) e (λ file sends.
    posted_more n.own posts (d ∷ [])
    ∙ ap (λ (x : List (List ℕ)). x ++ posted_from n.own (d ∷ [])) (ap (λ (port : ℕ). posted_from port posts) own ∙ nothing_from (next_port_of r) posts h.below)
    ∙ all_from n.own (d ∷ []) (ap (λ (port : ℕ). port == n.own) from ∙ equal n.own, tt)
    ∙ ap (λ (x : List ℕ). x ∷ []) bytes ∙ first_in_order n.role file sends
    ∙ ap (λ (got : List PacketView). map packet_bytes (opening n.role ++ blocks_of file (end_block_size (end_of n.role got)) (sent_by (end_of n.role got)))) (sym empty))
begins_now r n d posts counts own empty from bytes h u (inr a) =
    let less = own_below_next r counts u a in
    others_stay posts (d ∷ []) u (not_equal d.from u.own (λ e. omega (arith, less, own, from, e)), tt) (h.each u a)

below_more : (r : Reading) (d : DatagramView) (posts : List DatagramView) → d.from ≡ next_port_of r → AllByRecursion (λ (x : DatagramView). x.from < next_port_of r) posts
    → AllByRecursion (λ (x : DatagramView). x.from < port_past r.first_port (past_with r.live r.past) + 1) (posts ++ d ∷ [])
below_more r d posts from below =
    let next = next_with r in
    all_append (λ (x : DatagramView). x.from < port_past r.first_port (past_with r.live r.past) + 1) posts (d ∷ [])
    (all_mapped (λ (x : DatagramView). x.from < next_port_of r) (λ (x : DatagramView). x.from < port_past r.first_port (past_with r.live r.past) + 1) (λ x less. omega (arith, less, next)) posts below) (omega (arith, from, next), tt)

no_repeat : (A : Type 0) (e : Event) → IsNoTick e → IsTick e → A
no_repeat A Ticks none tick = absurd none
no_repeat A (Gets from to bytes) none tick = absurd tick
no_repeat A (Learns n) none tick = absurd tick
no_repeat A (Starts_info hw pos) none tick = absurd tick
no_repeat A (Starts_upload hw pos parts) none tick = absurd tick

refuses_now : (side : Side) (r : Reading) (from : ℕ) (posts : List DatagramView) → 59 < r.first_port → PortsCountUp r → AllInOrder r posts → Then side r (Refuses from) posts
refuses_now side r from posts above counts h = record {
  each = λ u a. others_stay posts _ u (not_equal 59 u.own (λ e. own_not_59 (past_with r.live r.past) u (rise_of r.first_port (past_with r.live r.past) above counts) a (sym e)), tt) (h.each u a);
  below = all_append (λ (d : DatagramView). d.from < next_port_of r) posts _ h.below (let next = next_is r.first_port r.past r.live in omega (arith, above, next), tt);
}

move_now : (side : Side) (e : Event) (r : Reading) (move : Move) (posts : List DatagramView) → IsNoTick e → MoveFits e (seen r.live) (seen (kept_in r.past)) move → 59 < r.first_port → PortsCountUp r → AllInOrder r posts → Then side r move posts
move_now side e r (Hears from p) posts none fits above counts h = hears_now side r r.live from p posts refl above counts h
move_now side e r (Recalls from p) posts none fits above counts h = recalls_now side r from p posts (kept_in r.past) refl above counts h
move_now side e r (Asks role) posts none fits above counts h = record {
  each = begins_now r (record { role = role; own = next_port_of r; peer = None; got = [] }) (request side (next_port_of r) role) posts counts refl refl refl refl h;
  below = below_more r (request side (next_port_of r) role) posts refl h.below;
}
move_now side e r (Serves from role) posts none fits above counts h = record {
  each = begins_now r (record { role = role; own = next_port_of r; peer = Some from; got = [] }) (datagram side (next_port_of r) from (first_packet role)) posts counts refl refl refl refl h;
  below = below_more r (datagram side (next_port_of r) from (first_packet role)) posts refl h.below;
}
move_now side e r (Refuses from) posts none fits above counts h = refuses_now side r from posts above counts h
move_now side e r Repeats posts none fits above counts h = no_repeat _ e none fits
move_now side e r Stops posts none fits above counts h = no_more (reading_after side r Stops) posts (stopped_in_order side r posts h)
move_now side e r (Asks_size n) posts none fits above counts h = no_more (reading_after side r (Asks_size n)) posts (record { each = h.each; below = h.below })

-- ---- several moves

module _ (side : Side) (e : Event) (none : IsNoTick e) where
  abbrev After : Reading → List Move → List DatagramView → Type 0
  After r moves posts = AllInOrder (readings_after side r moves) (posts ++ all_posts side (end_view r) moves)

  then_others : (r : Reading) (move : Move) (moves : List Move) (posts : List DatagramView) → IsLive r.live → After (reading_after side r move) moves (posts ++ posts_of side (end_view r) move) → After r (move ∷ moves) posts
  then_others r move moves posts live h =
      let view = view_follows side r move live in
      let same : (posts ++ posts_of side (end_view r) move) ++ all_posts side (end_view (reading_after side r move)) moves ≡ posts ++ all_posts side (end_view r) (move ∷ moves) =
      append_assoc posts (posts_of side (end_view r) move) (all_posts side (end_view (reading_after side r move)) moves)
      ∙ ap (λ (v : EndView). posts ++ (posts_of side (end_view r) move ++ all_posts side v moves)) (sym view.0) in
      subst (λ (all : List DatagramView). AllInOrder (readings_after side r (move ∷ moves)) all) same h

  later_now : (r : Reading) (moves : List Move) (posts : List DatagramView) → AllByRecursion (MoveFits e None None) moves → IsLive r.live → 59 < r.first_port → PortsCountUp r → AllInOrder r posts → After r moves posts
  later_now r [] posts fits live above counts h = no_more r posts h
  later_now r (move ∷ moves) posts (one, fits) live above counts h =
      then_others r move moves posts live
      (later_now (reading_after side r move) moves (posts ++ posts_of side (end_view r) move) fits (view_follows side r move live).1 (subst (λ (port : ℕ). 59 < port) (sym (first_stays side r move)) above) (moves_count_up side r (move ∷ []) counts)
      (move_now side e r move posts none (fits_any e (seen r.live) (seen (kept_in r.past)) move one) above counts h))

  moves_now : (r : Reading) (moves : List Move) (posts : List DatagramView) → MovesFit e (seen r.live) (seen (kept_in r.past)) moves → IsLive r.live → 59 < r.first_port → PortsCountUp r → AllInOrder r posts → After r moves posts
  moves_now r [] posts fits live above counts h = no_more r posts h
  moves_now r (move ∷ moves) posts (one, fits) live above counts h =
      then_others r move moves posts live
      (later_now (reading_after side r move) moves (posts ++ posts_of side (end_view r) move) fits (view_follows side r move live).1 (subst (λ (port : ℕ). 59 < port) (sym (first_stays side r move)) above) (moves_count_up side r (move ∷ []) counts)
      (move_now side e r move posts none one above counts h))

pub moves_post_in_order : MovesPostInOrder
moves_post_in_order side e r moves posts none fits live counts above h = moves_now side e none r moves posts fits live above counts h
