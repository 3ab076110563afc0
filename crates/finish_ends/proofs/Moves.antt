-- What is left at a side, and how moves use it up.
use Rattle.std.proofs.Common.{◌≡◌, ℕ, ◌+◌, ◌-◌, ◌*◌, ◌<◌, ◌≤◌, Bool, true, false, cond, List, [], ◌∷◌, ◌++◌, Option, Some, None, refl, sym, ap, subst, ◌∙◌, arith}
use Rattle.std.proofs.lemmas.Bool.{ltb-true}
use Rattle.exchange_trace.specs.declared.trace.Side.{Side}
use Rattle.exchange_trace.specs.Happenings.{DatagramView}
use Rattle.tftp_packet.specs.Packets.{Ack, PacketView}
use Rattle.tftp_link.specs.Answers.{Again, Answer, Completes, Dropped, Fails, Grants, Proceeds, TakesBlock, TakesLast}
use Rattle.transfer_end.specs.Moves.{Asks, Hears, Move, Recalls, Refuses, Repeats, Serves, Stops, all_posts, datagram, heard_post, kept_post, last_post, live_post, posts_of, recalled_post, view_after, view_answered, view_heard, views_after}
use Rattle.transfer_end.specs.Packets.{belongs, has_port, may_repeat, packet_in, transfer_moves}
use Rattle.transfer_end.proofs.PlacedLemmas.{posts_more}
use Rattle.transfer_end.specs.Transfers.{LinkEnd, Receives, Role, Sends, begin_of, end_answer, end_moved, end_packet, first_packet}
use Rattle.transfer_end.specs.Views.{EndView, TransferView}
use Rattle.finish_ends.proofs.Ends.{Uses, begin_blocks, blocks_left, uses}
use Rattle.finish_ends.proofs.Weights.{IsNumbered, ack_weight, error_weight, is_reply, most_weight, some_weight, total, total_more, weight, weight_of}

-- ---- what is left

abbrev pub transfer_left : Option TransferView → ℕ
transfer_left None = 0
transfer_left (Some t) = 1 + blocks_left t.end

-- by ports and blocks; a port is worth more than all blocks of a transfer
abbrev pub energy : (next_port : ℕ) → Option TransferView → ℕ
energy port live = 1400000 * (65536 - port) + 20 * transfer_left live

abbrev pub energy_of : EndView → ℕ
energy_of v = energy v.next_port v.live

-- the ticks to come of a live session
abbrev pub ticks_left : Bool → (retries : ℕ) → ℕ
ticks_left waits retries = cond waits (3 * (1 + (5 - retries))) 0

abbrev pub left : EndView → Bool → ℕ
left v waits = energy_of v + ticks_left waits v.retries

few_ticks : (waits : Bool) (retries : ℕ) → ticks_left waits retries ≤ 18
few_ticks true retries = omega arith
few_ticks false retries = omega arith

-- what is posted and what is left then weigh less than what came and what was left
abbrev pub Falls : (w : ℕ) → EndView → Bool → EndView → Bool → List DatagramView → Type 0
Falls w v waits v' waits' posts = total posts + left v' waits' < w + left v waits

-- what becomes of an end at a packet of a transfer
pub data Heard (w : ℕ) (v v' : EndView) (posts : List DatagramView) : Type 0 where
  stays : v' ≡ v → total posts < w → Heard w v v' posts
  spends : energy_of v' + 20 ≤ energy_of v → total posts ≤ 2 → Heard w v v' posts

pub heard_falls : (w : ℕ) (v v' : EndView) (waits waits' : Bool) (posts : List DatagramView) → 0 < w → waits' ≡ waits → Heard w v v' posts → Falls w v waits v' waits' posts
heard_falls w v v' waits waits' posts some same (stays e light) =
    let is : left v' waits' ≡ left v waits = ap (λ (x : EndView). left x waits') e ∙ ap (λ (b : Bool). left v b) same in
    omega (arith, is, light)
heard_falls w v v' waits waits' posts some same (spends less light) = let few = few_ticks waits' v'.retries in omega (arith, less, light, few, some)

pub drawn_falls : (w : ℕ) (v v' : EndView) (waits waits' : Bool) (posts : List DatagramView) → energy_of v' + 30 ≤ energy_of v → total posts ≤ 4 → Falls w v waits v' waits' posts
drawn_falls w v v' waits waits' posts less light = let few = few_ticks waits' v'.retries in omega (arith, less, light, few)

pub over_falls : (w : ℕ) (v v' : EndView) (waits : Bool) (posts : List DatagramView) → energy_of v' ≤ energy_of v → total posts < w → Falls w v waits v' false posts
over_falls w v v' waits posts less light = omega (arith, less, light)

-- ---- a packet of a transfer

again_same : (end : LinkEnd) → end_packet (end_moved end Again) ≡ end_packet end
again_same (Receives r) = refl
again_same (Sends s) = refl

acked_light : (side : Side) (own from : ℕ) (q p : PacketView) (k : ℕ) → k < 65536 → q ≡ Ack k → is_reply (Some p) ≡ false → total (datagram side own from q ∷ []) < weight_of (Some p)
acked_light side own from q p k small is calls =
    let one = ap (λ (x : PacketView). weight (datagram side own from x)) is ∙ ack_weight side own from k small in
    let two : weight_of (Some p) ≡ 2 = ap (λ (b : Bool). cond b 1 2) calls in
    omega (arith, one, two)

module _ (side : Side) (v : EndView) (from : ℕ) (p : PacketView) where
  module _ (t : TransferView) (live : v.live ≡ Some t) where
    continued : (end : LinkEnd) → blocks_left end < blocks_left t.end → 1400000 * (65536 - v.next_port) + 20 * (1 + blocks_left end) + 20 ≤ energy_of v
    continued end less = let e : transfer_left v.live ≡ 1 + blocks_left t.end = ap transfer_left live in omega (arith, less, e)

    ended : 1400000 * (65536 - v.next_port) + 20 * 0 + 20 ≤ energy_of v
    ended = let e : transfer_left v.live ≡ 1 + blocks_left t.end = ap transfer_left live in omega (arith, e)

    one_light : (q : PacketView) → total (datagram side t.own from q ∷ []) ≤ 2
    one_light q = let most = most_weight (packet_in (datagram side t.own from q).bytes) in omega (arith, most)

    answered : (a : Answer) → Uses t.end p a → Heard (weight_of (Some p)) v (view_answered side v t from a) (heard_post side t from a ++ [])
    answered Dropped u = stays refl (some_weight (Some p))
    answered Again u = stays refl (acked_light side t.own from (end_packet (end_moved t.end Again)) p u.k u.small (again_same t.end ∙ u.is) u.calls)
    answered (Grants o) u = spends (continued (end_moved t.end (Grants o)) u) (one_light (end_packet (end_moved t.end (Grants o))))
    answered (TakesBlock b) u = spends (continued (end_moved t.end (TakesBlock b)) u) (one_light (end_packet (end_moved t.end (TakesBlock b))))
    answered (TakesLast b) u = spends ended (one_light (end_packet (end_moved t.end (TakesLast b))))
    answered Proceeds u = spends (continued (end_moved t.end Proceeds) u) (one_light (end_packet (end_moved t.end Proceeds)))
    answered Completes u = spends ended (omega arith)
    answered (Fails code) u = spends ended (omega arith)

  live_heard : IsNumbered p → (live : Option TransferView) → v.live ≡ live → Heard (weight_of (Some p)) v (view_heard side v live from p) (live_post side live from p ++ [])
  live_heard n None e = stays refl (some_weight (Some p))
  live_heard n (Some t) e = answered t e (end_answer t.end p) (uses t.end p n)

  recalled : (t : TransferView) (a : Answer) → Uses t.end p a → Heard (weight_of (Some p)) v v (recalled_post side t from a ++ [])
  recalled t Dropped u = stays refl (some_weight (Some p))
  recalled t Again u = stays refl (acked_light side t.own from (end_packet t.end) p u.k u.small u.is u.calls)
  recalled t (Grants o) u = stays refl (some_weight (Some p))
  recalled t (TakesBlock b) u = stays refl (some_weight (Some p))
  recalled t (TakesLast b) u = stays refl (some_weight (Some p))
  recalled t Proceeds u = stays refl (some_weight (Some p))
  recalled t Completes u = stays refl (some_weight (Some p))
  recalled t (Fails code) u = stays refl (some_weight (Some p))

  kept_heard : IsNumbered p → (kept : Option TransferView) → Heard (weight_of (Some p)) v v (kept_post side kept from p ++ [])
  kept_heard n None = stays refl (some_weight (Some p))
  kept_heard n (Some t) = recalled t (end_answer t.end p) (uses t.end p n)

  pub transfer_heard : IsNumbered p → (to : ℕ) → Heard (weight_of (Some p)) v (views_after side v (transfer_moves v from to p)) (all_posts side v (transfer_moves v from to p))
  transfer_heard n to = by (belongs v.live from to) (belongs v.kept from to)
    where
      by : (a b : Bool) → Heard (weight_of (Some p)) v (views_after side v (cond a (Hears from p ∷ []) (cond b (Recalls from p ∷ []) []))) (all_posts side v (cond a (Hears from p ∷ []) (cond b (Recalls from p ∷ []) [])))
      by true b = live_heard n v.live refl
      by false true = kept_heard n v.kept
      by false false = stays refl (some_weight (Some p))

-- ---- a port is drawn

views_more : (side : Side) (v : EndView) (moves : List Move) (m : Move) → views_after side v (moves ++ m ∷ []) ≡ view_after side (views_after side v moves) m
views_more side v [] m = refl
views_more side v (first ∷ moves) m = views_more side (view_after side v first) moves m

heard_energy : (w : ℕ) (v v' : EndView) (posts : List DatagramView) → Heard w v v' posts → energy_of v' ≤ energy_of v
heard_energy w v v' posts (stays e light) = let is = ap energy_of e in omega (arith, is)
heard_energy w v v' posts (spends less light) = omega (arith, less)

heard_light : (w : ℕ) (v v' : EndView) (posts : List DatagramView) → w ≤ 2 → Heard w v v' posts → total posts ≤ 2
heard_light w v v' posts small (stays e light) = omega (arith, small, light)
heard_light w v v' posts small (spends less light) = light

begun : (port : ℕ) (role : Role) → port < 65536 → 1400000 * (65536 - (port + 1)) + 20 * (1 + blocks_left (begin_of role)) + 30 ≤ 1400000 * (65536 - port)
begun port role lt = let few = begin_blocks role in omega (arith, lt, few)

has_one : (v : EndView) → has_port v ≡ true → v.next_port < 65536
has_one v e = ltb-true v.next_port 65536 e

light_one : (side : Side) (from to : ℕ) (q : PacketView) → total (datagram side from to q ∷ []) ≤ 2
light_one side from to q = let most = most_weight (packet_in (datagram side from to q).bytes) in omega (arith, most)

-- after a packet the next request is asked
pub then_asks : (side : Side) (w : ℕ) (v : EndView) (waits waits' : Bool) (moves : List Move) (role : Role) → w ≤ 2 → has_port v ≡ true → (views_after side v moves).next_port ≡ v.next_port
    → Heard w v (views_after side v moves) (all_posts side v moves) → Falls w v waits (views_after side v (moves ++ Asks role ∷ [])) waits' (all_posts side v (moves ++ Asks role ∷ []))
then_asks side w v waits waits' moves role small port same heard =
    let now = views_after side v moves in
    let lt = has_one v port in
    let less : energy_of (view_after side now (Asks role)) + 30 ≤ energy_of v = more now (heard_energy w v now (all_posts side v moves) heard) (omega (arith, lt, same)) in
    let light : total (all_posts side v moves ++ posts_of side now (Asks role)) ≤ 4 = both (all_posts side v moves) (posts_of side now (Asks role)) (heard_light w v now (all_posts side v moves) small heard) (light_one side now.next_port 59 (first_packet role)) in
    drawn_falls w v (views_after side v (moves ++ Asks role ∷ [])) waits waits' (all_posts side v (moves ++ Asks role ∷ []))
    (subst (λ (x : EndView). energy_of x + 30 ≤ energy_of v) (sym (views_more side v moves (Asks role))) less)
    (subst (λ (ds : List DatagramView). total ds ≤ 4) (sym (posts_more side v moves (Asks role))) light)
  where
    more : (x : EndView) → energy_of x ≤ energy_of v → x.next_port < 65536 → energy_of (view_after side x (Asks role)) + 30 ≤ energy_of v
    more x le lt = let b = begun x.next_port role lt in omega (arith, le, b)

    both : (ds es : List DatagramView) → total ds ≤ 2 → total es ≤ 2 → total (ds ++ es) ≤ 4
    both ds es a b = let e = total_more ds es in omega (arith, a, b, e)

-- after a packet the session ends
pub then_stops : (side : Side) (w : ℕ) (v : EndView) (waits : Bool) (moves : List Move) → 0 < w
    → Heard w v (views_after side v moves) (all_posts side v moves) → Falls w v waits (views_after side v (moves ++ Stops ∷ [])) false (all_posts side v (moves ++ Stops ∷ []))
then_stops side w v waits moves some heard =
    subst (λ (x : EndView). Falls w v waits x false (all_posts side v (moves ++ Stops ∷ []))) (sym (views_more side v moves Stops))
    (subst (λ (ds : List DatagramView). Falls w v waits (view_after side (views_after side v moves) Stops) false ds) (sym (posts_more side v moves Stops)) (by (views_after side v moves) (all_posts side v moves) heard))
  where
    by : (x : EndView) (ds : List DatagramView) → Heard w v x ds → Falls w v waits (view_after side x Stops) false (ds ++ [])
    by x ds (stays e light) = let is = ap energy_of e in let t = total_more ds [] in omega (arith, is, light, t)
    by x ds (spends less light) = let t = total_more ds [] in omega (arith, less, light, t, some)

-- ---- requests, and the end of a session

pub serves_falls : (side : Side) (w : ℕ) (v : EndView) (waits waits' : Bool) (from : ℕ) (role : Role) → has_port v ≡ true → Falls w v waits (views_after side v (Serves from role ∷ [])) waits' (all_posts side v (Serves from role ∷ []))
serves_falls side w v waits waits' from role port =
    let b = begun v.next_port role (has_one v port) in
    let light = light_one side v.next_port from (first_packet role) in
    drawn_falls w v (views_after side v (Serves from role ∷ [])) waits waits' (all_posts side v (Serves from role ∷ [])) (omega (arith, b)) (omega (arith, light))

-- also where a session begins anew
pub anew_falls : (side : Side) (w : ℕ) (v : EndView) (waits waits' : Bool) (from : ℕ) (role : Role) → has_port v ≡ true → Falls w v waits (views_after side v (Stops ∷ Serves from role ∷ [])) waits' (all_posts side v (Stops ∷ Serves from role ∷ []))
anew_falls side w v waits waits' from role port =
    let b = begun v.next_port role (has_one v port) in
    let light = light_one side v.next_port from (first_packet role) in
    drawn_falls w v (views_after side v (Stops ∷ Serves from role ∷ [])) waits waits' (all_posts side v (Stops ∷ Serves from role ∷ [])) (omega (arith, b)) (omega (arith, light))

pub stop_falls : (side : Side) (w : ℕ) (v : EndView) (waits : Bool) → 0 < w → Falls w v waits (views_after side v (Stops ∷ [])) false (all_posts side v (Stops ∷ []))
stop_falls side w v waits some = over_falls w v (views_after side v (Stops ∷ [])) waits [] (omega arith) some

pub refuses_heard : (side : Side) (v : EndView) (from : ℕ) → Heard 2 v (views_after side v (Refuses from ∷ [])) (all_posts side v (Refuses from ∷ []))
refuses_heard side v from = let one = error_weight side 59 from in stays refl (omega (arith, one))

-- ---- ticks

last_light : (last : Option DatagramView) → total (last_post last ++ []) ≤ 2
last_light None = omega arith
last_light (Some d) = let most = most_weight (packet_in d.bytes) in omega (arith, most)

pub repeats_falls : (side : Side) (v : EndView) → may_repeat v ≡ true → Falls 0 v true (views_after side v (Repeats ∷ [])) true (all_posts side v (Repeats ∷ []))
repeats_falls side v e = let few = ltb-true v.retries 5 e in let light = last_light v.last in omega (arith, few, light)

pub gives_up_falls : (side : Side) (v : EndView) → Falls 0 v true (views_after side v (Stops ∷ [])) false (all_posts side v (Stops ∷ []))
gives_up_falls side v = omega arith
