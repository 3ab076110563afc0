-- What the target made once it had answered a session's request, it made since the session's start.
use Rattle.std.proofs.Common.{◌≡◌, ◌⊎◌, inl, inr, ℕ, ◌<◌, List, ◌∷◌, ◌++◌, Option, None, sym, subst, ◌∙◌, arith}
use Rattle.exchange_trace.specs.declared.trace.Side.TheVariants as sides
use Rattle.exchange_trace.specs.Logs.{Event, Learns, event_for, loader_log}
use Rattle.exchange_trace.specs.Posts.{posted_in}
use Rattle.exchange_trace.specs.Steps.{Step}
use Rattle.transfer_end.proofs.OtherEndLemmas.{among_left, own_not_59}
use Rattle.transfer_end.specs.OtherEnds.{Among, MovesStayFair}
use Rattle.transfer_end.specs.Transfers.{Transfer}
use Rattle.session_rules.proofs.BufferLemmas.{SumsJoin}
use Rattle.session_rules.specs.LoaderLog.{SessionLog}
use Rattle.replay_rules.specs.BothEnds.{Setting, TargetStanding, reached, target_at}
use Rattle.replay_rules.specs.OtherEndTraces.{IsUninjected, former_at, loader_transfers, target_transfers, transfers_of}
use Rattle.replay_rules.proofs.AnsweredLater.{TookOne, after, all_before, loader_grows_over, one_before, posted_then, took_one}
use Rattle.replay_rules.proofs.Growing.{GrowsTo, grows_none}
use Rattle.replay_rules.proofs.ListedTraces.{only_loader, reached_none}
use Rattle.replay_rules.proofs.NewestStart.{AnsweredBelow, EndsNewest, Order, StartedAt, older_ones, one_first, order_of, rise_apart, same_step, some_is, two_first}
use Rattle.replay_rules.proofs.SentTraces.{TraceIsFair, trace_is_fair}

-- a step came since a start
pub record CameSince (steps : List Step) (start : Step) (began since_start : List Step) (since : List Step) (made : Step) (before : List Step) : Type 0 where
  pub between : List Step
  pub split : before ≡ between ++ start ∷ began
  pub newest : since_start ≡ since ++ made ∷ between

module _ (joins : SumsJoin) (moves : MovesStayFair) (set : Setting) (s : Step) (earlier : List Step) (is : IsUninjected set (s ∷ earlier)) (session : SessionLog) (live ended : Transfer) (n : EndsNewest set s earlier session live ended) (request : Transfer) (asked : Among request n.own.mine)
    (taken : AnsweredBelow set s earlier ended request) (no_size : (size : Option ℕ) → n.own.event ≡ Learns size → ⊥) (since : List Step) (made : Step) (before : List Step) (split : earlier ≡ since ++ made ∷ before) (there : Among taken.answer (target_transfers set made before)) where
  abbrev f : Transfer
  f = taken.answer

  -- all that was over before the session
  abbrev older : List Transfer
  older = older_ones set.media (loader_log earlier) session n.own

  abbrev start_at : StartedAt earlier n.own.event n.own.before
  start_at = n.start

  -- the answer took no request from before the start
  not_from : (theirs : List Transfer) → GrowsTo theirs (loader_transfers set start_at.before) → TookOne theirs f → ⊥
  not_from theirs grown took = by took.from
    where
      same : took.peer ≡ request.own
      same = some_is took.peer request.own (sym took.bound ∙ taken.answers.back)

      by : (took.peer ≡ 59) ⊎ ((w : Transfer) × Among w theirs × (w.own ≡ took.peer)) → ⊥
      by (inl is_59) = own_not_59 (ended ∷ (n.own.mine ++ older)) request n.rises (inr (among_left request n.own.mine older asked)) (sym same ∙ is_59)
      by (inr (w, b, own_is)) =
          let (z, c, also) = grown.kept w b in
          let less : z.own < request.own = rise_apart n.own.mine older request z n.rises.2 asked (n.before_start z c) in
          omega (arith, less, also, own_is, same)

  before_start : IsUninjected set start_at.before
  before_start = one_before set start_at.start start_at.before (all_before set start_at.since (start_at.start ∷ start_at.before) (subst (λ (x : List Step). IsUninjected set x) start_at.split (one_before set s earlier is)))

  at_made : IsUninjected set (made ∷ before)
  at_made = all_before set since (made ∷ before) (subst (λ (x : List Step). IsUninjected set x) split (one_before set s earlier is))

  not_before : (between : List Step) → start_at.before ≡ between ++ made ∷ before → ⊥
  not_before between same =
      not_from (loader_transfers set (made ∷ before)) (subst (λ (x : List Step). GrowsTo (loader_transfers set (made ∷ before)) (loader_transfers set x)) (sym same) (loader_grows_over set between (made ∷ before)))
      (took_one sides.Target sides.Loader (target_transfers set made before) (loader_transfers set (made ∷ before)) (posted_then joins moves set made before at_made) f (after joins moves set made before at_made).one (after joins moves set made before at_made).other_one there
      taken.answers.serves)

  not_at : made ≡ start_at.start → before ≡ start_at.before → ⊥
  not_at same same_before =
      not_from (loader_transfers set start_at.before) (grows_none (loader_transfers set start_at.before))
      (took_one sides.Target sides.Loader (transfers_of (target_at set start_at.before) ++ former_at set start_at.before) (loader_transfers set start_at.before) (posted_in start_at.before) f fair_there.target.one fair_there.target.other_one at_start taken.answers.serves)
    where
      fair_there : TraceIsFair set start_at.before
      fair_there = trace_is_fair joins moves set start_at.before before_start

      only : (event_for sides.Target (posted_in start_at.before) start_at.start.given ≡ None) ⊎ ((size : Option ℕ) × (n.own.event ≡ Learns size)) → event_for sides.Target (posted_in start_at.before) start_at.start.given ≡ None
      only (inl none) = none
      only (inr (size, learns)) = absurd (no_size size learns)

      at_start : Among f (transfers_of (target_at set start_at.before) ++ former_at set start_at.before)
      at_start =
          subst (λ (state : TargetStanding). Among f (transfers_of state ++ former_at set start_at.before)) (reached_none set (target_at set start_at.before))
          (subst (λ (x : Option Event). Among f (transfers_of (reached set x (target_at set start_at.before)) ++ former_at set start_at.before)) (only (only_loader (posted_in start_at.before) start_at.start.given n.own.event start_at.comes))
          (subst (λ (x : List Step). Among f (target_transfers set start_at.start x)) same_before (subst (λ (x : Step). Among f (target_transfers set x before)) same there)))

  pub came_since : CameSince earlier start_at.start start_at.before start_at.since since made before
  came_since = by (order_of since start_at.since made start_at.start before start_at.before (sym split ∙ start_at.split))
    where
      by : Order made start_at.start since before start_at.since start_at.before → CameSince earlier start_at.start start_at.before start_at.since since made before
      by (one_first between x) = absurd (not_before between x)
      by (same_step x y) = absurd (not_at x y)
      by (two_first between x y) = record { between = between; split = x; newest = y }
