-- How the lists of all transfers of a side grow: only the newest may change, and new ones get greater ports.
use Rattle.std.proofs.Common.{◌≡◌, inl, inr, ⊎_elim, ◌⊎◌, ℕ, ◌<◌, List, [], ◌∷◌, ◌++◌, Option, Some, None, refl, sym, ap, subst, ◌∙◌, arith}
use Rattle.tftp_packet.specs.Packets.{PacketView}
use Rattle.tftp_link.specs.Answers.{Again, Answer, Completes, Dropped, Fails, Grants, Proceeds, TakesBlock, TakesLast}
use Rattle.exchange_trace.specs.declared.trace.Side.{Side}
use Rattle.exchange_trace.specs.Happenings.{DatagramView}
use Rattle.transfer_end.specs.Moves.{Asks, Asks_size, Hears, Move, Recalls, Refuses, Repeats, Serves, Stops, past_with, reading_after, reading_answered, reading_unchanged, readings_after}
use Rattle.transfer_end.proofs.OtherEndLemmas.{all_at, ports_fit_rise, ports_stay_one}
use Rattle.transfer_end.specs.OtherEnds.{Among, OwnPortsRise, PortsFit, all_of}
use Rattle.transfer_end.specs.Readings.{Reading}
use Rattle.transfer_end.specs.Transfers.{Transfer, bound_to, end_answer, end_of, with_packet}

-- ---- what it means

-- the transfer was there before, perhaps with fewer packets
pub record WasThere (old : List Transfer) (t : Transfer) : Type 0 where
  pub was : Transfer
  pub among : Among was old
  pub own : was.own ≡ t.own
  pub role : was.role ≡ t.role
  pub peer : (port : ℕ) → was.peer ≡ Some port → t.peer ≡ Some port

-- its port is above all before
abbrev pub IsNewer : List Transfer → Transfer → Type 0
IsNewer old t = (u : Transfer) → Among u old → u.own < t.own

pub record GrowsTo (old new : List Transfer) : Type 0 where
  -- what is older than another that was there didn't change
  pub older : (t u : Transfer) → Among t new → Among u old → t.own < u.own → Among t old
  pub kept : (u : Transfer) → Among u old → (t : Transfer) × Among t new × (t.own ≡ u.own)
  pub came : (t : Transfer) → Among t new → WasThere old t ⊎ IsNewer old t

pub grows_none : (ts : List Transfer) → GrowsTo ts ts
grows_none ts = record {
  older = λ t u a b less. a;
  kept = λ u a. (u, a, refl);
  came = λ t a. inl (record { was = t; among = a; own = refl; role = refl; peer = λ port e. e });
}

pub grows_on : (xs ys zs : List Transfer) → GrowsTo xs ys → GrowsTo ys zs → GrowsTo xs zs
grows_on xs ys zs first second = record {
  older = λ t u a b less. older t u a b less;
  kept = λ u a. kept u a;
  came = λ t a. came t a;
}
  where
    older : (t u : Transfer) → Among t zs → Among u xs → t.own < u.own → Among t xs
    older t u a b less =
        let (v, c, same) = first.kept u b in
        first.older t u (second.older t v a c (subst (λ (port : ℕ). t.own < port) (sym same) less)) b less

    kept : (u : Transfer) → Among u xs → (t : Transfer) × Among t zs × (t.own ≡ u.own)
    kept u a = let (v, b, same) = first.kept u a in let (t, c, also) = second.kept v b in (t, c, also ∙ same)

    newer : (t : Transfer) → IsNewer ys t → IsNewer xs t
    newer t above u a = let (v, b, same) = first.kept u a in subst (λ (port : ℕ). port < t.own) same (above v b)

    before : (t : Transfer) (h : WasThere ys t) → WasThere xs h.was ⊎ IsNewer xs h.was → WasThere xs t ⊎ IsNewer xs t
    before t h (inl there) =
        inl (record { was = there.was; among = there.among; own = there.own ∙ h.own; role = there.role ∙ h.role; peer = λ port e. h.peer port (there.peer port e) })
    before t h (inr above) = inr (λ u a. subst (λ (port : ℕ). u.own < port) h.own (above u a))

    came : (t : Transfer) → Among t zs → WasThere xs t ⊎ IsNewer xs t
    came t a = ⊎_elim (λ (h : WasThere ys t). before t h (first.came h.was h.among)) (λ (above : IsNewer ys t). inr (newer t above)) (second.came t a)

-- ---- the newest changes, or another begins

heard_grows : (t u : Transfer) (ts : List Transfer) → OwnPortsRise (t ∷ ts) → t.own ≡ u.own → t.role ≡ u.role → ((port : ℕ) → t.peer ≡ Some port → u.peer ≡ Some port) → GrowsTo (t ∷ ts) (u ∷ ts)
heard_grows t u ts (low, below, rise) own role peer = record {
  older = λ x y a b less. older x y a b less;
  kept = λ y a. kept y a;
  came = λ x a. came x a;
}
  where
    not_above : (y : Transfer) → Among y (t ∷ ts) → u.own < y.own → ⊥
    not_above y (inl same) less = let e : t.own ≡ y.own = ap (λ (z : Transfer). z.own) same in omega (arith, own, e, less)
    not_above y (inr b) less = let under : y.own < t.own = all_at (λ (z : Transfer). z.own < t.own) ts y below b in omega (arith, own, under, less)

    older : (x y : Transfer) → Among x (u ∷ ts) → Among y (t ∷ ts) → x.own < y.own → Among x (t ∷ ts)
    older x y (inl same) b less = absurd (not_above y b (subst (λ (z : Transfer). z.own < y.own) (sym same) less))
    older x y (inr a) b less = inr a

    kept : (y : Transfer) → Among y (t ∷ ts) → (x : Transfer) × Among x (u ∷ ts) × (x.own ≡ y.own)
    kept y (inl same) = (u, inl refl, sym own ∙ ap (λ (z : Transfer). z.own) same)
    kept y (inr b) = (y, inr b, refl)

    came : (x : Transfer) → Among x (u ∷ ts) → WasThere (t ∷ ts) x ⊎ IsNewer (t ∷ ts) x
    came x (inl same) = inl (subst (λ (z : Transfer). WasThere (t ∷ ts) z) same (record { was = t; among = inl refl; own = own; role = role; peer = peer }))
    came x (inr a) = inl (record { was = x; among = inr a; own = refl; role = refl; peer = λ port e. e })

begun_grows : (u : Transfer) (ts : List Transfer) → OwnPortsRise (u ∷ ts) → GrowsTo ts (u ∷ ts)
begun_grows u ts (low, below, rise) = record {
  older = λ x y a b less. older x y a b less;
  kept = λ y a. (y, inr a, refl);
  came = λ x a. came x a;
}
  where
    under : (y : Transfer) → Among y ts → y.own < u.own
    under y b = all_at (λ (z : Transfer). z.own < u.own) ts y below b

    older : (x y : Transfer) → Among x (u ∷ ts) → Among y ts → x.own < y.own → Among x ts
    older x y (inl same) b less = let e : u.own ≡ x.own = ap (λ (z : Transfer). z.own) same in let h = under y b in absurd (omega (arith, e, h, less))
    older x y (inr a) b less = a

    came : (x : Transfer) → Among x (u ∷ ts) → WasThere ts x ⊎ IsNewer ts x
    came x (inl same) = inr (λ y b. subst (λ (z : Transfer). y.own < z.own) same (under y b))
    came x (inr a) = inl (record { was = x; among = a; own = refl; role = refl; peer = λ port e. e })

-- ---- moves

still_bound : (peer : Option ℕ) (from port : ℕ) → peer ≡ Some port → bound_to peer from ≡ Some port
still_bound None from port e = absurd cc
still_bound (Some p) from port e = e

module _ (side : Side) (former : List Transfer) where
  more_grows : (t : Transfer) (past : List Transfer) (from : ℕ) (p : PacketView) → OwnPortsRise (t ∷ past ++ former) → GrowsTo (t ∷ past ++ former) (with_packet t from p ∷ past ++ former)
  more_grows t past from p rise = heard_grows t (with_packet t from p) (past ++ former) rise refl refl (λ port e. still_bound t.peer from port e)

  unchanged_grows : (first_port : ℕ) (past : List Transfer) (t : Transfer) (ticks : ℕ) (last : Option DatagramView) (size : Option ℕ) (from : ℕ) (p : PacketView) (peer : Option ℕ) → OwnPortsRise (t ∷ past ++ former)
      → GrowsTo (t ∷ past ++ former) (all_of (reading_unchanged (record { first_port = first_port; past = past; live = Some t; ticks = ticks; last = last; asks_size = size }) t from p peer) former)
  unchanged_grows first_port past t ticks last size from p None rise = grows_none (t ∷ past ++ former)
  unchanged_grows first_port past t ticks last size from p (Some port) rise = more_grows t past from p rise

  answered_grows : (first_port : ℕ) (past : List Transfer) (t : Transfer) (ticks : ℕ) (last : Option DatagramView) (size : Option ℕ) (from : ℕ) (p : PacketView) (answer : Answer) → OwnPortsRise (t ∷ past ++ former)
      → GrowsTo (t ∷ past ++ former) (all_of (reading_answered side (record { first_port = first_port; past = past; live = Some t; ticks = ticks; last = last; asks_size = size }) t from p answer) former)
  answered_grows first_port past t ticks last size from p Dropped rise = unchanged_grows first_port past t ticks last size from p t.peer rise
  answered_grows first_port past t ticks last size from p Again rise = unchanged_grows first_port past t ticks last size from p t.peer rise
  answered_grows first_port past t ticks last size from p (Grants o) rise = more_grows t past from p rise
  answered_grows first_port past t ticks last size from p (TakesBlock b) rise = more_grows t past from p rise
  answered_grows first_port past t ticks last size from p (TakesLast b) rise = more_grows t past from p rise
  answered_grows first_port past t ticks last size from p Proceeds rise = more_grows t past from p rise
  answered_grows first_port past t ticks last size from p Completes rise = more_grows t past from p rise
  answered_grows first_port past t ticks last size from p (Fails code) rise = more_grows t past from p rise

  heard_move : (first_port : ℕ) (past : List Transfer) (live : Option Transfer) (ticks : ℕ) (last : Option DatagramView) (size : Option ℕ) (from : ℕ) (p : PacketView) → OwnPortsRise (past_with live past ++ former)
      → GrowsTo (past_with live past ++ former) (all_of (reading_after side (record { first_port = first_port; past = past; live = live; ticks = ticks; last = last; asks_size = size }) (Hears from p)) former)
  heard_move first_port past None ticks last size from p rise = grows_none (past ++ former)
  heard_move first_port past (Some t) ticks last size from p rise = answered_grows first_port past t ticks last size from p (end_answer (end_of t.role t.got) p) rise

  move_grows : (r : Reading) (move : Move) → PortsFit r former → GrowsTo (all_of r former) (all_of (reading_after side r move) former)
  move_grows r (Hears from p) fit = heard_move r.first_port r.past r.live r.ticks r.last r.asks_size from p (ports_fit_rise r former fit)
  move_grows r (Recalls from p) fit = grows_none (all_of r former)
  move_grows r (Asks role) fit = begun_grows _ (all_of r former) (ports_fit_rise (reading_after side r (Asks role)) former (ports_stay_one side r former (Asks role) fit))
  move_grows r (Serves from role) fit = begun_grows _ (all_of r former) (ports_fit_rise (reading_after side r (Serves from role)) former (ports_stay_one side r former (Serves from role) fit))
  move_grows r (Refuses from) fit = grows_none (all_of r former)
  move_grows r Repeats fit = grows_none (all_of r former)
  move_grows r Stops fit = grows_none (all_of r former)
  move_grows r (Asks_size n) fit = grows_none (all_of r former)

  pub moves_grow : (r : Reading) (moves : List Move) → PortsFit r former → GrowsTo (all_of r former) (all_of (readings_after side r moves) former)
  moves_grow r [] fit = grows_none (all_of r former)
  moves_grow r (move ∷ moves) fit =
      grows_on (all_of r former) (all_of (reading_after side r move) former) (all_of (readings_after side (reading_after side r move) moves) former) (move_grows r move fit)
      (moves_grow (reading_after side r move) moves (ports_stay_one side r former move fit))
