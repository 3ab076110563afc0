-- A transfer that answers a request is drawn after all that was accepted before the request.
use Rattle.std.proofs.Common.{◌≡◌, inl, inr, ⊎_elim, ◌⊎◌, ℕ, ◌<◌, true, false, List, [], ◌∷◌, ◌++◌, Option, Some, None, refl, sym, ap, subst, ◌∙◌}
use Rattle.exchange_trace.specs.declared.trace.Side.{Side}
use Rattle.exchange_trace.specs.declared.trace.Side.TheVariants as sides
use Rattle.exchange_trace.specs.Happenings.{DatagramView}
use Rattle.exchange_trace.specs.Logs.{Event, event_for, logged, loader_log}
use Rattle.exchange_trace.specs.Posts.{posted_in}
use Rattle.exchange_trace.specs.Steps.{Note, Step}
use Rattle.transfer_end.specs.Moves.{readings_after}
use Rattle.transfer_end.proofs.OtherEndLemmas.{own_not_59}
use Rattle.transfer_end.specs.OtherEnds.{Among, TransferHasBegun, IsFair, IsPostOfSide, MovesStayFair, OwnPortsRise, all_of, answered, is_asking, of_refusal, of_transfer, refused, served, unanswered}
use Rattle.transfer_end.specs.Readings.{Reading}
use Rattle.transfer_end.specs.Transfers.{Transfer}
use Rattle.session_rules.proofs.BufferLemmas.{SumsJoin}
use Rattle.session_rules.proofs.FairLemmas.{loader_ports_stay}
use Rattle.session_rules.specs.Loader.{loader_decision}
use Rattle.session_rules.proofs.LoaderLemmas.{end_stays as loader_end_stays}
use Rattle.session_rules.specs.LoaderLog.{loader_reading, loader_view}
use Rattle.session_rules.specs.MediaFiles.{Media}
use Rattle.session_rules.specs.Target.{target_decision}
use Rattle.session_rules.proofs.TargetLemmas.{end_stays as target_end_stays}
use Rattle.session_rules.specs.TargetLog.{target_view}
use Rattle.replay_rules.specs.BothEnds.{Is_down, Is_up, Setting, TargetStanding, loader_at, noted, reached, target_at}
use Rattle.replay_rules.specs.Due.{due_of_loader, due_of_target}
use Rattle.replay_rules.proofs.ChangeLemmas.{posted_bytes}
use Rattle.replay_rules.specs.OtherEndTraces.{IsUninjected, former_at, loader_transfers, over_with, target_transfers, transfers_of}
use Rattle.replay_rules.proofs.Growing.{GrowsTo, IsNewer, WasThere, grows_none, grows_on, moves_grow}
use Rattle.replay_rules.proofs.ListedTraces.{one_noted}
use Rattle.replay_rules.proofs.PortsApart.{PeerIsBelow, peer_below}
use Rattle.replay_rules.proofs.SentTraces.{TargetHas, TargetIsFair, TraceIsFair, target_before, target_now, trace_is_fair}

-- ---- one step

loader_log_grows : (media : Media) (log : List Event) (e : Option Event) → GrowsTo (all_of (loader_reading media log).end []) (all_of (loader_reading media (logged e log)).end [])
loader_log_grows media log None = grows_none (all_of (loader_reading media log).end [])
loader_log_grows media log (Some e) =
    let r = loader_reading media log in
    let d = loader_decision media (loader_view r) e in
    subst (λ (x : Reading). GrowsTo (all_of r.end []) (all_of x [])) (sym (loader_end_stays (readings_after sides.Loader r.end d.moves) r d.change)) (moves_grow sides.Loader [] r.end d.moves (loader_ports_stay media log))

pub loader_grows : (set : Setting) (s : Step) (earlier : List Step) → GrowsTo (loader_transfers set earlier) (loader_transfers set (s ∷ earlier))
loader_grows set s earlier = loader_log_grows set.media (loader_log earlier) (event_for sides.Loader (posted_in earlier) s.given)

pub loader_grows_over : (set : Setting) (since steps : List Step) → GrowsTo (loader_transfers set steps) (loader_transfers set (since ++ steps))
loader_grows_over set [] steps = grows_none (loader_transfers set steps)
loader_grows_over set (s ∷ since) steps =
    grows_on (loader_transfers set steps) (loader_transfers set (since ++ steps)) (loader_transfers set (s ∷ since ++ steps)) (loader_grows_over set since steps) (loader_grows set s (since ++ steps))

target_grows : (set : Setting) (state : TargetStanding) (e : Option Event) (former : List Transfer) → TargetHas state former → GrowsTo (transfers_of state ++ former) (transfers_of (reached set e state) ++ former)
target_grows set (Is_up r) None former has = grows_none (all_of r.end former)
target_grows set (Is_up r) (Some e) former (last, ports) =
    let d = target_decision set.accepts (target_view r) e in
    subst (λ (x : Reading). GrowsTo (all_of r.end former) (all_of x former)) (sym (target_end_stays set.accepts (readings_after sides.Target r.end d.moves) r d.change)) (moves_grow sides.Target former r.end d.moves ports)
target_grows set (Is_down active interrupted) None former has = grows_none former
target_grows set (Is_down active interrupted) (Some e) former has = grows_none former

-- ---- which request a serving transfer took

asks_not : (A : Type 0) (t : Transfer) → is_asking t.role ≡ true → is_asking t.role ≡ false → A
asks_not A t asks serves = absurd (let wrong : true ≡ false = sym asks ∙ serves in cc)

-- it has another end, which is port 59 or posted the request
pub record TookOne (theirs : List Transfer) (t : Transfer) : Type 0 where
  pub peer : ℕ
  pub bound : t.peer ≡ Some peer
  pub from : (peer ≡ 59) ⊎ ((w : Transfer) × Among w theirs × (w.own ≡ peer))

pub took_one : (me them : Side) (mine theirs : List Transfer) (posted : List DatagramView) (t : Transfer) → IsFair me them mine theirs posted → IsFair them me theirs mine posted → Among t mine → is_asking t.role ≡ false → TookOne theirs t
took_one me them mine theirs posted t one other_one a serves = by (one.begun t a)
  where
    of_post : (peer : ℕ) (d : DatagramView) → d.from ≡ peer → IsPostOfSide theirs d → (peer ≡ 59) ⊎ ((w : Transfer) × Among w theirs × (w.own ≡ peer))
    of_post peer d from (of_transfer w b post) = inr (w, b, sym post.port ∙ from)
    of_post peer d from (of_refusal is_59 bytes) = inl (sym from ∙ is_59)

    by : TransferHasBegun posted them theirs t → TookOne theirs t
    by (served also took) = record {
      peer = took.peer;
      bound = took.bound;
      from = of_post took.peer (record { side = them; from = took.peer; to = 59; bytes = took.brought.bytes }) refl (other_one.posts (record { side = them; from = took.peer; to = 59; bytes = took.brought.bytes }) took.brought.among refl);
    }
    by (unanswered asks none got) = asks_not _ t asks serves
    by (refused asks is_59) = asks_not _ t asks serves
    by (answered asks s b is) = asks_not _ t asks serves

-- ---- the law

-- Where a transfer of one side serves the request of one of the other, its port is above all that the other side had accepted
-- before that request.
pub AnswersRise : (theirs mine : List Transfer) → Type 0
AnswersRise theirs mine = (v : Transfer) → Among v mine → is_asking v.role ≡ false → (w : Transfer) → Among w theirs → v.peer ≡ Some w.own → (x : Transfer) → Among x theirs → x.own < w.own → PeerIsBelow v.own x.peer

pub answer_rises : (theirs mine : List Transfer) → AnswersRise theirs mine → (v : Transfer) → Among v mine → is_asking v.role ≡ false → (w : Transfer) → Among w theirs → v.peer ≡ Some w.own → (x : Transfer) → Among x theirs → x.own < w.own → PeerIsBelow v.own x.peer
unfolding AnswersRise
answer_rises theirs mine h = h

some_is : (p q : ℕ) → Some p ≡ Some q → p ≡ q
some_is p q e = cc

-- the other side went on
theirs_on : (me them : Side) (mine theirs later : List Transfer) (posted : List DatagramView) → IsFair me them mine theirs posted → IsFair them me theirs mine posted → GrowsTo theirs later → OwnPortsRise later → AnswersRise theirs mine → AnswersRise later mine
unfolding AnswersRise
theirs_on me them mine theirs later posted one other_one grows rise h = λ v a serves w b peer x c less. by v a serves w b peer x c less (took_one me them mine theirs posted v one other_one a serves)
  where
    by : (v : Transfer) → Among v mine → is_asking v.role ≡ false → (w : Transfer) → Among w later → v.peer ≡ Some w.own → (x : Transfer) → Among x later → x.own < w.own → TookOne theirs v → PeerIsBelow v.own x.peer
    by v a serves w b peer x c less took =
        let same : took.peer ≡ w.own = some_is took.peer w.own (sym took.bound ∙ peer) in
        ⊎_elim (λ (is_59 : took.peer ≡ 59). absurd (own_not_59 later w rise b (sym same ∙ is_59)))
        (λ (found : (y : Transfer) × Among y theirs × (y.own ≡ took.peer)).
        let (y, d, own) = found in
        let below : x.own < y.own = subst (λ (port : ℕ). x.own < port) (sym (own ∙ same)) less in
        h v a serves y d (took.bound ∙ ap (λ (port : ℕ). Some port) (sym own)) x (grows.older x y c d below) below) took.from

-- the side itself went on
mine_on : (me them : Side) (mine theirs later : List Transfer) (posted then : List DatagramView) → IsFair me them mine theirs posted → IsFair them me theirs mine posted → GrowsTo mine later → IsFair me them later theirs then → IsFair them me theirs later then → AnswersRise theirs mine
    → AnswersRise theirs later
unfolding AnswersRise
mine_on me them mine theirs later posted then one other_one grows one_then other_then h = λ v a serves w b peer x c less. by v a serves w b peer x c less (grows.came v a)
  where
    rises : (v : Transfer) → (ts : List Transfer) → OwnPortsRise ts → Among v ts → 59 < v.own
    rises v [] rise a = absurd a
    rises v (t ∷ ts) (low, below, rise) (inl same) = subst (λ (z : Transfer). 59 < z.own) same low
    rises v (t ∷ ts) (low, below, rise) (inr a) = rises v ts rise a

    by : (v : Transfer) → Among v later → is_asking v.role ≡ false → (w : Transfer) → Among w theirs → v.peer ≡ Some w.own → (x : Transfer) → Among x theirs → x.own < w.own → WasThere mine v ⊎ IsNewer mine v → PeerIsBelow v.own x.peer
    by v a serves w b peer x c less (inl was) =
        let also : is_asking was.was.role ≡ false = ap is_asking was.role ∙ serves in
        let took = took_one me them mine theirs posted was.was one other_one was.among also in
        let bound : was.was.peer ≡ Some w.own = took.bound ∙ sym (was.peer took.peer took.bound) ∙ peer in
        subst (λ (port : ℕ). PeerIsBelow port x.peer) was.own (h was.was was.among also w b bound x c less)
    by v a serves w b peer x c less (inr above) = peer_below them me theirs mine posted v.own other_one one (rises v later one_then.ports a) above x c

-- ---- a trace

-- what is asked of a trace holds of the steps before
pub one_before : (set : Setting) (s : Step) (earlier : List Step) → IsUninjected set (s ∷ earlier) → IsUninjected set earlier
one_before set s earlier is = record { due = is.due.1; noted = is.noted.1; honest = is.honest.1; injected = is.injected.1; carries = is.carries.1 }

pub all_before : (set : Setting) (since steps : List Step) → IsUninjected set (since ++ steps) → IsUninjected set steps
all_before set [] steps is = is
all_before set (s ∷ since) steps is = all_before set since steps (one_before set s (since ++ steps) is)

-- so it is after the newest step, before the target may go down in it
abbrev pub AllAnswersRise : Setting → List Step → Type 0
AllAnswersRise set [] = Unit {0}
AllAnswersRise set (s ∷ earlier) = AnswersRise (loader_transfers set (s ∷ earlier)) (target_transfers set s earlier) × AllAnswersRise set earlier

module _ (joins : SumsJoin) (moves : MovesStayFair) (set : Setting) where
  module _ (s : Step) (earlier : List Step) (is : IsUninjected set (s ∷ earlier)) where
    abbrev fair_before : TraceIsFair set earlier
    fair_before = trace_is_fair joins moves set earlier (one_before set s earlier is)

    abbrev pub posted_between : List DatagramView
    posted_between = posted_in earlier ++ due_of_loader set (loader_at set earlier) (event_for sides.Loader (posted_in earlier) s.given)

    abbrev pub posted_then : List DatagramView
    posted_then = posted_between ++ due_of_target set (target_at set earlier) (event_for sides.Target (posted_in earlier) s.given)

    -- both sides, after what reaches the loader in the step, and after what reaches the target
    between : TargetIsFair (target_at set earlier) (former_at set earlier) (loader_transfers set (s ∷ earlier)) posted_between
    between = target_before joins moves set s earlier is.honest.0 is.injected.0 (posted_bytes earlier is.carries.1) fair_before

    pub after : TargetIsFair (reached set (event_for sides.Target (posted_in earlier) s.given) (target_at set earlier)) (former_at set earlier) (loader_transfers set (s ∷ earlier)) posted_then
    after = target_now joins moves set s earlier is.honest.0 is.injected.0 (posted_bytes earlier is.carries.1) fair_before

    abbrev AllBefore : Type 0
    AllBefore = AnswersRise (loader_transfers set earlier) (transfers_of (target_at set earlier) ++ former_at set earlier)

    loader_rises : AllBefore → AnswersRise (loader_transfers set (s ∷ earlier)) (transfers_of (target_at set earlier) ++ former_at set earlier)
    loader_rises h =
        theirs_on sides.Target sides.Loader (transfers_of (target_at set earlier) ++ former_at set earlier) (loader_transfers set earlier) (loader_transfers set (s ∷ earlier)) (posted_in earlier) fair_before.target.one fair_before.target.other_one
        (loader_grows set s earlier) between.other_one.ports h

    target_rises : AllBefore → AnswersRise (loader_transfers set (s ∷ earlier)) (target_transfers set s earlier)
    target_rises h =
        mine_on sides.Target sides.Loader (transfers_of (target_at set earlier) ++ former_at set earlier) (loader_transfers set (s ∷ earlier)) (target_transfers set s earlier) posted_between posted_then between.one between.other_one
        (target_grows set (target_at set earlier) (event_for sides.Target (posted_in earlier) s.given) (former_at set earlier) between.has) after.one after.other_one (loader_rises h)

    noted_rises : (notes : List Note) → AllBefore → AnswersRise (loader_transfers set (s ∷ earlier))
        (transfers_of (noted notes (target_at set earlier) (reached set (event_for sides.Target (posted_in earlier) s.given) (target_at set earlier))) ++ (over_with notes (transfers_of (target_at set earlier)) ++ former_at set earlier))
    noted_rises [] h = target_rises h
    noted_rises (note ∷ notes) h =
        subst (λ (ts : List Transfer). AnswersRise (loader_transfers set (s ∷ earlier)) (ts ++ (transfers_of (target_at set earlier) ++ former_at set earlier)))
        (sym (one_noted note notes (target_at set earlier) (reached set (event_for sides.Target (posted_in earlier) s.given) (target_at set earlier)))) (loader_rises h)

  none_rises : AnswersRise [] []
  unfolding AnswersRise
  none_rises = λ v a. absurd a

  pub answers_rise : (steps : List Step) → IsUninjected set steps → AnswersRise (loader_transfers set steps) (transfers_of (target_at set steps) ++ former_at set steps) × AllAnswersRise set steps
  answers_rise [] is = (none_rises, tt)
  answers_rise (s ∷ earlier) is =
      let before = answers_rise earlier (one_before set s earlier is) in
      (noted_rises s earlier is s.notes before.0, (target_rises s earlier is before.0, before.1))
