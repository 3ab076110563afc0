-- Proofs that what arrives in a trace is what the other side sent.
use Rattle.std.proofs.Common.{◌≡◌, inl, inr, ⊎_elim, ℕ, zero, suc, ◌-◌, ◌<◌, Bool, true, false, not, cond, ◌&&◌, List, [], ◌∷◌, ◌++◌, Option, Some, None, refl, sym, ap, subst, ◌∙◌, arith, append-nil, append_assoc}
use Rattle.std.specs.Prelude.{slice_get, ◌==◌}
use Rattle.std.specs.List.{AllByRecursion}
use Rattle.std.proofs.lemmas.Bool.{eqb-true}
use Rattle.disk_layout.specs.declared.fault.RecoverFault.{RecoverFault}
use Rattle.exchange_trace.specs.declared.trace.Side.{Side}
use Rattle.exchange_trace.specs.declared.trace.Side.TheVariants as sides
use Rattle.exchange_trace.specs.Happenings.{Booted, DatagramView, Delivered, Ended, HappeningView, Info_started, Injected, Lost, Power_cut, Size_told, Ticked, Upload_started, is_loader, is_same_side, other}
use Rattle.exchange_trace.specs.Logs.{Event, Ticks, event_for, gets, logged, loader_log}
use Rattle.exchange_trace.proofs.PostLemmas.{port_above_all, port_above_least}
use Rattle.exchange_trace.specs.Posts.{IsHonest, first_port_after, is_from_own_port, numbered, posted_in}
use Rattle.exchange_trace.specs.Steps.{Boot_refused, Came_up, Note, Step, Went_down}
use Rattle.transfer_end.proofs.OtherEndLemmas.{all_at, own_not_59, was_posted_still}
use Rattle.transfer_end.specs.OtherEnds.{MovesStayFair, Among, AreFair, EventWasPosted, IsFair, LastIsPost, PortsFit, all_of}
use Rattle.transfer_end.proofs.ReceivedLemmas.{receives_what_was_sent}
use Rattle.transfer_end.specs.Transfers.{Transfer}
use Rattle.session_rules.proofs.BufferLemmas.{SumsJoin}
use Rattle.session_rules.proofs.FairLemmas.{loader_gives_media_files, loader_ports_stay, loader_stays_fair, target_ports_stay, target_stays_fair}
use Rattle.session_rules.specs.LoaderLog.{loader_reading}
use Rattle.session_rules.proofs.ViewLemmas.{loader_live}
use Rattle.replay_rules.specs.BothEnds.{Is_down, Is_up, Setting, TargetStanding, come_up, gone_down, loader_at, noted, reached, target_at}
use Rattle.replay_rules.proofs.ChangeLemmas.{posted_bytes}
use Rattle.replay_rules.specs.Changes.{CarriesBytes}
use Rattle.replay_rules.specs.Due.{IsBooted, IsCut, MayBeNoted, MayGoDown, due, due_of_loader, due_of_target, goes_down, is_up}
use Rattle.replay_rules.specs.FaultFree.{IsNoInjection}
use Rattle.replay_rules.specs.OtherEndTraces.{AllArriveAsSent, ArrivesAsSent, IsUninjected, LoaderGivesMedia, WhatArrivesWasSent, former_at, loader_transfers, over_with, target_transfers, transfers_of}
use Rattle.replay_rules.proofs.TieLemmas.{HasLive, target_is_live}

-- ---- what reaches a side was posted by the other

found_among : (posted : List DatagramView) (n : ℕ) (d : DatagramView) → slice_get posted n ≡ Some d → Among d posted
found_among [] n d e = absurd cc
found_among (x ∷ posted) zero d e = let same : x ≡ d = cc in inl same
found_among (x ∷ posted) (suc n) d e = inr (found_among posted n d e)

numbered_among : (posted : List DatagramView) (n : ℕ) (d : DatagramView) → numbered posted n ≡ Some d → Among d posted
numbered_among posted n d = by (n == 0)
  where
    by : (b : Bool) → cond b None (slice_get posted (n - 1)) ≡ Some d → Among d posted
    by true e = absurd cc
    by false e = found_among posted (n - 1) d e

abbrev WasPosted : List DatagramView → Side → Option Event → Type 0
WasPosted posted side None = Unit {0}
WasPosted posted side (Some e) = EventWasPosted posted side e

posted_if : (posted : List DatagramView) (side : Side) (b : Bool) (x y : Option Event) → (b ≡ true → WasPosted posted side x) → (b ≡ false → WasPosted posted side y) → WasPosted posted side (cond b x y)
posted_if posted side true x y f g = f refl
posted_if posted side false x y f g = g refl

same_other : (me to poster : Side) → is_same_side me to ≡ true → to ≡ other poster → poster ≡ other me
same_other sides.Loader sides.Loader sides.Target same e = refl
same_other sides.Target sides.Target sides.Loader same e = refl
same_other sides.Loader sides.Loader sides.Loader same e = absurd cc
same_other sides.Target sides.Target sides.Target same e = absurd cc
same_other sides.Loader sides.Target poster same e = absurd cc
same_other sides.Target sides.Loader poster same e = absurd cc

got_was_posted : (posted : List DatagramView) (me to : Side) (n : ℕ) → AllByRecursion CarriesBytes posted → IsHonest posted (Delivered to n) → is_same_side me to ≡ true → WasPosted posted (other me) (gets (numbered posted n))
got_was_posted posted me to n bytes (d, found, towards) same =
    let a : Among d posted = numbered_among posted n d found in
    let poster : d.side ≡ other me = same_other me to d.side same towards in
    subst (λ (x : Option DatagramView). WasPosted posted (other me) (gets x)) (sym found)
    (subst (λ (side : Side). Among (record { side = side; from = d.from; to = d.to; bytes = d.bytes }) posted) poster a, all_at CarriesBytes posted d bytes a)

event_was_posted : (me : Side) (posted : List DatagramView) (h : HappeningView) → AllByRecursion CarriesBytes posted → IsHonest posted h → IsNoInjection h → WasPosted posted (other me) (event_for me posted h)
event_was_posted me posted (Delivered to n) bytes honest none = posted_if posted (other me) (is_same_side me to) (gets (numbered posted n)) None (λ same. got_was_posted posted me to n bytes honest same) (λ not_me. tt)
event_was_posted me posted (Injected d) bytes honest none = absurd none
event_was_posted me posted (Ticked whose) bytes honest none = posted_if posted (other me) (is_same_side me whose) (Some Ticks) None (λ same. tt) (λ not_me. tt)
event_was_posted me posted (Size_told size) bytes honest none = tt
event_was_posted sides.Loader posted (Info_started hw pos) bytes honest none = tt
event_was_posted sides.Target posted (Info_started hw pos) bytes honest none = tt
event_was_posted sides.Loader posted (Upload_started hw pos parts) bytes honest none = tt
event_was_posted sides.Target posted (Upload_started hw pos parts) bytes honest none = tt
event_was_posted me posted (Lost n) bytes honest none = tt
event_was_posted me posted (Power_cut calls pick) bytes honest none = tt
event_was_posted me posted Booted bytes honest none = tt
event_was_posted me posted Ended bytes honest none = tt

-- ---- what may be noted

pub data NotedAs (port : ℕ) (h : HappeningView) : List Note → Type 0 where
  nothing_noted : NotedAs port h []
  went_down : NotedAs port h (Went_down ∷ [])
  came_up : (first_port sequence : ℕ) → first_port ≡ port → h ≡ Booted → NotedAs port h (Came_up first_port sequence ∷ [])
  was_refused : (fault : RecoverFault) → h ≡ Booted → NotedAs port h (Boot_refused fault ∷ [])

as_none : (port : ℕ) (h : HappeningView) (notes : List Note) → notes ≡ [] → NotedAs port h notes
as_none port h notes e = subst (λ (x : List Note). NotedAs port h x) (sym e) nothing_noted

as_down : (port : ℕ) (h : HappeningView) (notes : List Note) → notes ≡ Went_down ∷ [] → NotedAs port h notes
as_down port h notes e = subst (λ (x : List Note). NotedAs port h x) (sym e) went_down

may_go_down : (up : Bool) (port : ℕ) (h : HappeningView) (notes : List Note) → MayGoDown up notes → NotedAs port h notes
may_go_down true port h notes may = ⊎_elim (λ e. as_none port h notes e) (λ e. as_down port h notes e) may
may_go_down false port h notes may = as_none port h notes may

may_cut : (up : Bool) (port : ℕ) (h : HappeningView) (notes : List Note) → IsCut up notes → NotedAs port h notes
may_cut true port h notes may = as_down port h notes may
may_cut false port h notes may = as_none port h notes may

may_boot : (port : ℕ) (notes : List Note) → IsBooted port notes → NotedAs port Booted notes
may_boot port [] may = absurd may
may_boot port (Came_up first_port sequence ∷ []) may = came_up first_port sequence may refl
may_boot port (Boot_refused fault ∷ []) may = was_refused fault refl
may_boot port (Went_down ∷ notes) may = absurd may
may_boot port (Came_up first_port sequence ∷ note ∷ notes) may = absurd may
may_boot port (Boot_refused fault ∷ note ∷ notes) may = absurd may

pub noted_as : (up : Bool) (port : ℕ) (h : HappeningView) (notes : List Note) → MayBeNoted up port h notes → NotedAs port h notes
noted_as up port Booted notes may = may_boot port notes may
noted_as up port (Power_cut zero pick) notes may = may_cut up port (Power_cut 0 pick) notes may
noted_as up port (Power_cut (suc calls) pick) notes may = as_none port (Power_cut (suc calls) pick) notes may
noted_as up port (Delivered to n) notes may = may_go_down up port (Delivered to n) notes may
noted_as up port (Lost n) notes may = may_go_down up port (Lost n) notes may
noted_as up port (Injected d) notes may = may_go_down up port (Injected d) notes may
noted_as up port (Ticked whose) notes may = may_go_down up port (Ticked whose) notes may
noted_as up port (Size_told size) notes may = may_go_down up port (Size_told size) notes may
noted_as up port (Info_started hw pos) notes may = may_go_down up port (Info_started hw pos) notes may
noted_as up port (Upload_started hw pos parts) notes may = may_go_down up port (Upload_started hw pos parts) notes may
noted_as up port Ended notes may = may_go_down up port Ended notes may

-- ---- both sides in a trace

-- of a target that is up
abbrev pub TargetHas : TargetStanding → (former : List Transfer) → Type 0
TargetHas (Is_up r) former = LastIsPost sides.Target (all_of r.end former) r.end.last × PortsFit r.end former
TargetHas (Is_down active interrupted) former = Unit {0}

pub record TargetIsFair (state : TargetStanding) (former theirs : List Transfer) (posted : List DatagramView) : Type 0 where
  pub one : IsFair sides.Target sides.Loader (transfers_of state ++ former) theirs posted
  pub other_one : IsFair sides.Loader sides.Target theirs (transfers_of state ++ former) posted
  pub has : TargetHas state former

none_posted : (P : List DatagramView → Type 0) (posted : List DatagramView) → P posted → P (posted ++ [])
none_posted P posted h = subst P (sym (append-nil posted)) h

module _ (set : Setting) where
  -- what reaches the loader
  loader_fair : MovesStayFair → (log : List Event) (e : Option Event) (theirs : List Transfer) (posted : List DatagramView) → WasPosted posted sides.Target e
      → AreFair sides.Loader sides.Target (all_of (loader_reading set.media log).end []) theirs (loader_reading set.media log).end.last posted
      → AreFair sides.Loader sides.Target (all_of (loader_reading set.media (logged e log)).end []) theirs (loader_reading set.media (logged e log)).end.last (posted ++ due_of_loader set (loader_reading set.media log) e)
  loader_fair moves log None theirs posted was h =
      none_posted (λ (all : List DatagramView). AreFair sides.Loader sides.Target (all_of (loader_reading set.media log).end []) theirs (loader_reading set.media log).end.last all) posted h
  loader_fair moves log (Some e) theirs posted was h = loader_stays_fair moves set.media (loader_reading set.media log) e theirs posted was (loader_live set.media log) (loader_ports_stay set.media log) h

  -- what reaches the target
  target_fair : MovesStayFair → (state : TargetStanding) (e : Option Event) (former theirs : List Transfer) (posted : List DatagramView) → WasPosted posted sides.Loader e → HasLive state → TargetIsFair state former theirs posted
      → TargetIsFair (reached set e state) former theirs (posted ++ due_of_target set state e)
  target_fair moves (Is_up r) None former theirs posted was live h = none_posted (λ (all : List DatagramView). TargetIsFair (Is_up r) former theirs all) posted h
  target_fair moves (Is_up r) (Some e) former theirs posted was live h =
      let then = target_stays_fair moves set.accepts r e former theirs posted was live h.has.1 (record { one = h.one; other = h.other_one; last_is = h.has.0 }) in
      record { one = then.one; other_one = then.other; has = (then.last_is, target_ports_stay set.accepts r e former h.has.1) }
  target_fair moves (Is_down active interrupted) None former theirs posted was live h = none_posted (λ (all : List DatagramView). TargetIsFair (Is_down active interrupted) former theirs all) posted h
  target_fair moves (Is_down active interrupted) (Some e) former theirs posted was live h = none_posted (λ (all : List DatagramView). TargetIsFair (Is_down active interrupted) former theirs all) posted h

  -- a life ends
  gone_fair : (before after : TargetStanding) (former theirs : List Transfer) (posted : List DatagramView) → TargetIsFair before former theirs posted → TargetIsFair (gone_down before after) (transfers_of before ++ former) theirs posted
  gone_fair (Is_up r) (Is_up s) former theirs posted h = record { one = h.one; other_one = h.other_one; has = tt }
  gone_fair (Is_up r) (Is_down active interrupted) former theirs posted h = record { one = h.one; other_one = h.other_one; has = tt }
  gone_fair (Is_down active interrupted) after former theirs posted h = record { one = h.one; other_one = h.other_one; has = tt }

  -- and another begins, with ports above those of all before
  new_fair : (before after : TargetStanding) (first_port sequence : ℕ) (former theirs : List Transfer) (posted : List DatagramView) → 59 < first_port → AllByRecursion (λ (u : Transfer). u.own < first_port) (transfers_of before ++ former)
      → TargetIsFair before former theirs posted → TargetIsFair (come_up first_port sequence (gone_down before after)) (transfers_of before ++ former) theirs posted
  new_fair (Is_up r) (Is_up s) first_port sequence former theirs posted above below h = record { one = h.one; other_one = h.other_one; has = (tt, record { counts = tt; first = above; below = below; rise = h.one.ports }) }
  new_fair (Is_up r) (Is_down active interrupted) first_port sequence former theirs posted above below h = record { one = h.one; other_one = h.other_one; has = (tt, record { counts = tt; first = above; below = below; rise = h.one.ports }) }
  new_fair (Is_down active interrupted) after first_port sequence former theirs posted above below h = record { one = h.one; other_one = h.other_one; has = (tt, record { counts = tt; first = above; below = below; rise = h.one.ports }) }

  noted_fair : (notes : List Note) (port : ℕ) (h : HappeningView) (before after : TargetStanding) (former theirs : List Transfer) (posted due : List DatagramView) → NotedAs port h notes → (h ≡ Booted → due ≡ [])
      → 59 < port → AllByRecursion (λ (u : Transfer). u.own < port) (transfers_of before ++ former) → TargetIsFair before former theirs posted → TargetIsFair after former theirs (posted ++ due)
      → TargetIsFair (noted notes before after) (over_with notes (transfers_of before) ++ former) theirs (posted ++ cond (goes_down notes) [] due)
  noted_fair notes port h before after former theirs posted due nothing_noted booted above below was is = is
  noted_fair notes port h before after former theirs posted due went_down booted above below was is =
      none_posted (λ (all : List DatagramView). TargetIsFair (gone_down before after) (transfers_of before ++ former) theirs all) posted (gone_fair before after former theirs posted was)
  noted_fair notes port h before after former theirs posted due (came_up first_port sequence same boots) booted above below was is =
      subst (λ (posts : List DatagramView). TargetIsFair (come_up first_port sequence (gone_down before after)) (transfers_of before ++ former) theirs (posted ++ posts)) (sym (booted boots))
      (none_posted (λ (all : List DatagramView). TargetIsFair (come_up first_port sequence (gone_down before after)) (transfers_of before ++ former) theirs all) posted
      (new_fair before after first_port sequence former theirs posted (subst (λ (p : ℕ). 59 < p) (sym same) above) (subst (λ (p : ℕ). AllByRecursion (λ (u : Transfer). u.own < p) (transfers_of before ++ former)) (sym same) below) was))
  noted_fair notes port h before after former theirs posted due (was_refused fault boots) booted above below was is =
      subst (λ (posts : List DatagramView). TargetIsFair (gone_down before after) (transfers_of before ++ former) theirs (posted ++ posts)) (sym (booted boots))
      (none_posted (λ (all : List DatagramView). TargetIsFair (gone_down before after) (transfers_of before ++ former) theirs all) posted (gone_fair before after former theirs posted was))

-- ---- ports after a boot

all_from_among : (P : Transfer → Type 0) (ts : List Transfer) → ((t : Transfer) → Among t ts → P t) → AllByRecursion P ts
all_from_among P [] f = tt
all_from_among P (t ∷ ts) f = (f t (inl refl), all_from_among P ts (λ u a. f u (inr a)))

pub own_port_is : (d : DatagramView) → d.side ≡ sides.Target → (d.from ≡ 59 → ⊥) → is_from_own_port d ≡ true
own_port_is d poster not_59 = by d.side (d.from == 59) poster refl
  where
    by : (side : Side) (b : Bool) → side ≡ sides.Target → (d.from == 59) ≡ b → (is_loader (other side) && not b) ≡ true
    by sides.Target false is e = refl
    by sides.Target true is e = absurd (not_59 (eqb-true d.from 59 e))
    by sides.Loader b is e = absurd cc

below_next : (set : Setting) (state : TargetStanding) (former theirs : List Transfer) (steps : List Step) → TargetIsFair state former theirs (posted_in steps) → AllByRecursion (λ (u : Transfer). u.own < first_port_after steps) (transfers_of state ++ former)
below_next set state former theirs steps h = all_from_among (λ (u : Transfer). u.own < first_port_after steps) (transfers_of state ++ former) below
  where
    below : (u : Transfer) → Among u (transfers_of state ++ former) → u.own < first_port_after steps
    below u a =
        let sent = h.one.sent u a in
        let not_59 : sent.datagram.from ≡ 59 → ⊥ = λ e. own_not_59 (transfers_of state ++ former) u h.one.ports a (sym sent.port ∙ e) in
        subst (λ (port : ℕ). port < first_port_after steps) sent.port
        (all_at (λ (d : DatagramView). is_from_own_port d ≡ true → d.from < first_port_after steps) (posted_in steps) sent.datagram (port_above_all 1024 (posted_in steps)) sent.among (own_port_is sent.datagram sent.poster not_59))

pub above_59 : (steps : List Step) → 59 < first_port_after steps
above_59 steps = let least = port_above_least 1024 (posted_in steps) in omega (arith, least)

-- ---- a trace

pub record TraceIsFair (set : Setting) (steps : List Step) : Type 0 where
  pub target : TargetIsFair (target_at set steps) (former_at set steps) (loader_transfers set steps) (posted_in steps)
  pub last : LastIsPost sides.Loader (loader_transfers set steps) (loader_at set steps).end.last

nothing_is_fair : (me them : Side) → IsFair me them [] [] []
nothing_is_fair me them = record { ports = tt; posts = λ d a is. absurd a; sent = λ t a. absurd a; got = λ t a. absurd a; begun = λ t a. absurd a }

pub no_due_at_boot : (set : Setting) (state : TargetStanding) (posted : List DatagramView) (h : HappeningView) → h ≡ Booted → due_of_target set state (event_for sides.Target posted h) ≡ []
no_due_at_boot set state posted h boots = ap (λ (x : HappeningView). due_of_target set state (event_for sides.Target posted x)) boots ∙ by state
  where
    by : (state : TargetStanding) → due_of_target set state None ≡ []
    by (Is_up r) = refl
    by (Is_down active interrupted) = refl

was_still : (posted more : List DatagramView) (side : Side) (e : Option Event) → WasPosted posted side e → WasPosted (posted ++ more) side e
was_still posted more side None h = tt
was_still posted more side (Some e) h = was_posted_still posted more side e h

module _ (joins : SumsJoin) (moves : MovesStayFair) (set : Setting) (s : Step) (earlier : List Step) (honest : IsHonest (posted_in earlier) s.given) (none : IsNoInjection s.given) (bytes : AllByRecursion CarriesBytes (posted_in earlier)) (h : TraceIsFair set earlier) where
  abbrev pub to_loader : Option Event
  to_loader = event_for sides.Loader (posted_in earlier) s.given

  abbrev pub to_target : Option Event
  to_target = event_for sides.Target (posted_in earlier) s.given

  abbrev pub loader_posts_now : List DatagramView
  loader_posts_now = due_of_loader set (loader_at set earlier) to_loader

  abbrev pub target_posts_now : List DatagramView
  target_posts_now = due_of_target set (target_at set earlier) to_target

  loader_now : AreFair sides.Loader sides.Target (loader_transfers set (s ∷ earlier)) (transfers_of (target_at set earlier) ++ former_at set earlier) (loader_at set (s ∷ earlier)).end.last (posted_in earlier ++ loader_posts_now)
  loader_now =
      loader_fair set moves (loader_log earlier) to_loader (transfers_of (target_at set earlier) ++ former_at set earlier) (posted_in earlier) (event_was_posted sides.Loader (posted_in earlier) s.given bytes honest none)
      (record { one = h.target.other_one; other = h.target.one; last_is = h.last })

  pub target_before : TargetIsFair (target_at set earlier) (former_at set earlier) (loader_transfers set (s ∷ earlier)) (posted_in earlier ++ loader_posts_now)
  target_before = record { one = loader_now.other; other_one = loader_now.one; has = h.target.has }

  pub target_now : TargetIsFair (reached set to_target (target_at set earlier)) (former_at set earlier) (loader_transfers set (s ∷ earlier)) ((posted_in earlier ++ loader_posts_now) ++ target_posts_now)
  target_now =
      target_fair set moves (target_at set earlier) to_target (former_at set earlier) (loader_transfers set (s ∷ earlier)) (posted_in earlier ++ loader_posts_now)
      (was_still (posted_in earlier) loader_posts_now sides.Loader to_target (event_was_posted sides.Target (posted_in earlier) s.given bytes honest none)) (target_is_live joins set earlier) target_before

  pub arrives_as_sent : ArrivesAsSent set s earlier
  arrives_as_sent = record {
    at_loader = λ t a receives. receives_what_was_sent sides.Loader sides.Target (loader_transfers set (s ∷ earlier)) (target_transfers set s earlier) _ t target_now.other_one target_now.one a receives;
    at_target = λ t a receives. receives_what_was_sent sides.Target sides.Loader (target_transfers set s earlier) (loader_transfers set (s ∷ earlier)) _ t target_now.one target_now.other_one a receives;
  }

  pub step_is_fair : s.posts ≡ due set earlier s.given s.notes → MayBeNoted (is_up (target_at set earlier)) (first_port_after earlier) s.given s.notes → TraceIsFair set (s ∷ earlier)
  step_is_fair posts may =
      let all : posted_in (s ∷ earlier) ≡ (posted_in earlier ++ loader_posts_now) ++ cond (goes_down s.notes) [] target_posts_now =
      ap (λ (x : List DatagramView). posted_in earlier ++ x) posts ∙ sym (append_assoc (posted_in earlier) loader_posts_now (cond (goes_down s.notes) [] target_posts_now)) in
      record {
        target = subst (λ (x : List DatagramView). TargetIsFair (target_at set (s ∷ earlier)) (former_at set (s ∷ earlier)) (loader_transfers set (s ∷ earlier)) x) (sym all)
            (noted_fair set s.notes (first_port_after earlier) s.given (target_at set earlier) (reached set to_target (target_at set earlier)) (former_at set earlier) (loader_transfers set (s ∷ earlier)) (posted_in earlier ++ loader_posts_now) target_posts_now
            (noted_as (is_up (target_at set earlier)) (first_port_after earlier) s.given s.notes may) (no_due_at_boot set (target_at set earlier) (posted_in earlier) s.given) (above_59 earlier)
            (below_next set (target_at set earlier) (former_at set earlier) (loader_transfers set earlier) earlier h.target) target_before target_now);
        last = loader_now.last_is;
      }

module _ (joins : SumsJoin) (moves : MovesStayFair) (set : Setting) where
  pub trace_is_fair : (steps : List Step) → IsUninjected set steps → TraceIsFair set steps
  trace_is_fair [] is = record {
    target = record { one = nothing_is_fair sides.Target sides.Loader; other_one = nothing_is_fair sides.Loader sides.Target; has = (tt, record { counts = tt; first = omega arith; below = tt; rise = tt }) };
    last = tt;
  }
  trace_is_fair (s ∷ earlier) is =
      step_is_fair joins moves set s earlier is.honest.0 is.injected.0 (posted_bytes earlier is.carries.1) (trace_is_fair earlier (record { due = is.due.1; noted = is.noted.1; honest = is.honest.1; injected = is.injected.1; carries = is.carries.1 })) is.due.0 is.noted.0

  pub all_arrive_as_sent : (steps : List Step) → IsUninjected set steps → AllArriveAsSent set steps
  all_arrive_as_sent [] is = tt
  all_arrive_as_sent (s ∷ earlier) is =
      let before : IsUninjected set earlier = record { due = is.due.1; noted = is.noted.1; honest = is.honest.1; injected = is.injected.1; carries = is.carries.1 } in
      (arrives_as_sent joins moves set s earlier is.honest.0 is.injected.0 (posted_bytes earlier is.carries.1) (trace_is_fair earlier before), all_arrive_as_sent earlier before)

pub what_arrives_was_sent : SumsJoin → MovesStayFair → WhatArrivesWasSent
what_arrives_was_sent joins moves set steps is = all_arrive_as_sent joins moves set steps is

pub loader_gives_media : LoaderGivesMedia
loader_gives_media set steps = loader_gives_media_files set.media (loader_log steps)
