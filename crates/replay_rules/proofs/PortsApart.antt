-- Proofs that the ports that both sides draw stay apart from marks.
use Rattle.std.proofs.Common.{◌≡◌, inl, inr, ⊎_elim, ◌⊎◌, ℕ, suc, ◌+◌, ◌<◌, Bool, true, false, cond, List, [], ◌∷◌, ◌++◌, length, Option, Some, None, refl, sym, subst, ◌∙◌, arith}
use Rattle.std.specs.List.{AllByRecursion}
use Rattle.exchange_trace.specs.declared.trace.Side.{Side}
use Rattle.exchange_trace.specs.declared.trace.Side.TheVariants as sides
use Rattle.exchange_trace.specs.Happenings.{DatagramView}
use Rattle.exchange_trace.specs.Logs.{loader_log}
use Rattle.exchange_trace.specs.Posts.{posted_in}
use Rattle.transfer_end.specs.Laws.{CountUp}
use Rattle.transfer_end.specs.Moves.{past_with}
use Rattle.transfer_end.proofs.OtherEndLemmas.{all_at}
use Rattle.transfer_end.specs.OtherEnds.{MovesStayFair, Among, TransferHasBegun, IsFair, IsPostOfSide, PortsFit, all_of, answered, of_refusal, of_transfer, refused, served, unanswered}
use Rattle.transfer_end.specs.Readings.{Reading, kept_in, mark_in, mark_of, next_port_of, port_past, port_with, raised_by}
use Rattle.transfer_end.specs.Transfers.{Transfer, end_in, is_received}
use Rattle.session_rules.proofs.BufferLemmas.{SumsJoin}
use Rattle.session_rules.proofs.FairLemmas.{loader_ports_stay}
use Rattle.replay_rules.specs.BothEnds.{Is_down, Is_up, Setting, TargetStanding, loader_at, target_at}
use Rattle.replay_rules.specs.OtherEndTraces.{former_at}
use Rattle.replay_rules.specs.PortTraces.{IsDrawnBefore, PortsStayApart, TargetIsApart}
use Rattle.replay_rules.proofs.SentTraces.{TargetIsFair, trace_is_fair}

-- ---- own ports

past_is : (first : ℕ) (ts : List Transfer) → port_past first ts ≡ first + length ts
past_is first [] = omega arith
past_is first (t ∷ ts) = let h = past_is first ts in omega (arith, h)

next_is : (r : Reading) → next_port_of r ≡ r.first_port + length (past_with r.live r.past)
next_is r = by r.live
  where
    by : (live : Option Transfer) → port_with (port_past r.first_port r.past) live ≡ r.first_port + length (past_with live r.past)
    by None = past_is r.first_port r.past
    by (Some t) = let h = past_is r.first_port r.past in omega (arith, h)

own_below : (first : ℕ) (ts : List Transfer) → CountUp first ts → AllByRecursion (λ (t : Transfer). t.own < first + length ts) ts
own_below first [] count = tt
own_below first (t ∷ ts) count = (let e = count.0 in omega (arith, e), more ts (own_below first ts count.1))
  where
    more : (us : List Transfer) → AllByRecursion (λ (u : Transfer). u.own < first + length ts) us → AllByRecursion (λ (u : Transfer). u.own < first + suc (length ts)) us
    more [] all = tt
    more (u ∷ us) all = (let h = all.0 in omega (arith, h), more us all.1)

left : (t : Transfer) (xs ys : List Transfer) → Among t xs → Among t (xs ++ ys)
left t [] ys a = absurd a
left t (x ∷ xs) ys a = ⊎_elim (λ e. inl e) (λ b. inr (left t xs ys b)) a

among_both : (t : Transfer) (xs ys : List Transfer) → Among t (xs ++ ys) → Among t xs ⊎ Among t ys
among_both t [] ys a = inr a
among_both t (x ∷ xs) ys a = ⊎_elim (λ e. inl (inl e)) (λ b. ⊎_elim (λ c. inl (inr c)) (λ c. inr c) (among_both t xs ys b)) a

own_is_below : (r : Reading) (former : List Transfer) → PortsFit r former → (t : Transfer) → Among t (all_of r former) → t.own < next_port_of r
own_is_below r former fit t a = rw (next_is r) (⊎_elim here before (among_both t (past_with r.live r.past) former a))
  where
    here : Among t (past_with r.live r.past) → t.own < r.first_port + length (past_with r.live r.past)
    here b = all_at (λ (u : Transfer). u.own < r.first_port + length (past_with r.live r.past)) (past_with r.live r.past) t (own_below r.first_port (past_with r.live r.past) fit.counts) b

    before : Among t former → t.own < r.first_port + length (past_with r.live r.past)
    before b = let h = all_at (λ (u : Transfer). u.own < r.first_port) former t fit.below b in omega (arith, h)

next_low : (r : Reading) (former : List Transfer) → PortsFit r former → 59 < next_port_of r
next_low r former fit = let e = next_is r in omega (arith, e, fit.first)

kept_before : (r : Reading) (former : List Transfer) → PortsFit r former → IsDrawnBefore (next_port_of r) (kept_in r.past)
kept_before r former fit = by r.past (λ t a. own_is_below r former fit t (in_all r.live t a))
  where
    in_all : (live : Option Transfer) (t : Transfer) → Among t r.past → Among t (past_with live r.past ++ former)
    in_all None t a = left t r.past former a
    in_all (Some u) t a = inr (left t r.past former a)

    by : (ts : List Transfer) → ((t : Transfer) → Among t ts → t.own < next_port_of r) → IsDrawnBefore (next_port_of r) (kept_in ts)
    by [] f = tt
    by (t ∷ ts) f = by_test (is_received (end_in t)) (by ts (λ u a. f u (inr a)))
      where
        by_test : (b : Bool) → IsDrawnBefore (next_port_of r) (kept_in ts) → IsDrawnBefore (next_port_of r) (cond b (Some t) (kept_in ts))
        by_test true h = f t (inl refl)
        by_test false h = h

-- ---- ports of the other side

abbrev pub PeerIsBelow : ℕ → Option ℕ → Type 0
PeerIsBelow port None = Unit {0}
PeerIsBelow port (Some peer) = peer < port

raised_below : (port mark : ℕ) (peer : Option ℕ) → mark < port → PeerIsBelow port peer → raised_by mark peer < port
raised_below port mark None a b = a
raised_below port mark (Some p) a b = omega (arith, a, b)

marks_below : (port : ℕ) (ts : List Transfer) → 0 < port → ((t : Transfer) → Among t ts → PeerIsBelow port t.peer) → mark_in ts < port
marks_below port [] some f = some
marks_below port (t ∷ ts) some f = raised_below port (mark_in ts) t.peer (marks_below port ts some (λ u a. f u (inr a))) (f t (inl refl))

mark_is : (r : Reading) → mark_of r ≡ mark_in (past_with r.live r.past)
mark_is r = by r.live
  where
    by : (live : Option Transfer) → Rattle.transfer_end.specs.Readings.mark_with (mark_in r.past) live ≡ mark_in (past_with live r.past)
    by None = refl
    by (Some t) = refl

pub peer_below : (me them : Side) (mine theirs : List Transfer) (posted : List DatagramView) (port : ℕ) → IsFair me them mine theirs posted → IsFair them me theirs mine posted → 59 < port
    → ((t : Transfer) → Among t theirs → t.own < port) → (t : Transfer) → Among t mine → PeerIsBelow port t.peer
peer_below me them mine theirs posted port one other_one low below t a = by (one.begun t a)
  where
    of_post : (peer : ℕ) (d : DatagramView) → d.from ≡ peer → IsPostOfSide theirs d → peer < port
    of_post peer d from (of_transfer u b post) = subst (λ (n : ℕ). n < port) (sym post.port ∙ from) (below u b)
    of_post peer d from (of_refusal is_59 bytes) = subst (λ (n : ℕ). n < port) (sym is_59 ∙ from) low

    by : TransferHasBegun posted them theirs t → PeerIsBelow port t.peer
    by (served serves took) = subst (λ (p : Option ℕ). PeerIsBelow port p) (sym took.bound)
        (of_post took.peer (record { side = them; from = took.peer; to = 59; bytes = took.brought.bytes }) refl (other_one.posts (record { side = them; from = took.peer; to = 59; bytes = took.brought.bytes }) took.brought.among refl))
    by (unanswered asks none got) = subst (λ (p : Option ℕ). PeerIsBelow port p) (sym none) tt
    by (refused asks is_59) = subst (λ (p : Option ℕ). PeerIsBelow port p) (sym is_59) low
    by (answered asks s b is) = subst (λ (p : Option ℕ). PeerIsBelow port p) (sym is.port) (below s b)

mark_below : (me them : Side) (r : Reading) (former theirs : List Transfer) (posted : List DatagramView) (port : ℕ) → IsFair me them (all_of r former) theirs posted → IsFair them me theirs (all_of r former) posted → 59 < port
    → ((t : Transfer) → Among t theirs → t.own < port) → mark_of r < port
mark_below me them r former theirs posted port one other_one low below =
    rw (mark_is r) (marks_below port (past_with r.live r.past) (omega (arith, low)) (λ t a. peer_below me them (all_of r former) theirs posted port one other_one low below t (left t (past_with r.live r.past) former a)))

-- ---- a trace

apart : (set : Setting) (loader : Reading) (state : TargetStanding) (former : List Transfer) (posted : List DatagramView) → PortsFit loader [] → TargetIsFair state former (all_of loader []) posted → TargetIsApart loader state
apart set loader (Is_up r) former posted fit h =
    let (last, ports) = h.has in
    record {
      loader_low = next_low loader [] fit;
      target_low = next_low r.end former ports;
      loader_below = mark_below sides.Loader sides.Target loader [] (all_of r.end former) posted (next_port_of r.end) h.other_one h.one (next_low r.end former ports) (own_is_below r.end former ports);
      target_below = mark_below sides.Target sides.Loader r.end former (all_of loader []) posted (next_port_of loader) h.one h.other_one (next_low loader [] fit) (own_is_below loader [] fit);
      loader_kept = kept_before loader [] fit;
      target_kept = kept_before r.end former ports;
    }
apart set loader (Is_down active interrupted) former posted fit h = tt

pub ports_stay_apart : SumsJoin → MovesStayFair → PortsStayApart
ports_stay_apart joins moves set steps is =
    apart set (loader_at set steps).end (target_at set steps) (former_at set steps) (posted_in steps) (loader_ports_stay set.media (loader_log steps)) (trace_is_fair joins moves set steps is).target
