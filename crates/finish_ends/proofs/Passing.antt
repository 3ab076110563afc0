-- Each `finish` of a script passes on to the lines after it.
use Rattle.std.proofs.Common.{◌≡◌, ◌⊎◌, inl, inr, List, [], ◌∷◌, ◌++◌, Option, Some, None, refl, sym, ap, subst, ◌∙◌, arith}
use Rattle.exchange_trace.specs.declared.trace.Side.{Side}
use Rattle.exchange_trace.specs.Following.{Finishing, Plan, Rest, Turn, from_lines, goes_on, next_turn, or_else, turn}
use Rattle.exchange_trace.specs.Happenings.{HappeningView}
use Rattle.exchange_trace.specs.Lines.{Line}
use Rattle.exchange_trace.specs.Steps.{Step}
use Rattle.replay_rules.specs.BothEnds.{Setting}
use Rattle.replay_rules.specs.Runs.{TraceFollows, plan_at, scene_at}
use Rattle.finish_ends.specs.Finishes.{AllOfFinish, FinishEnds, IsOfFinish}
use Rattle.finish_ends.specs.Scripts.{FinishPassesOn, PassesOn}
use Rattle.finish_ends.proofs.Given.{Gives, finish_gives, gives, is_done}

module _ (set : Setting) (script : List Line) (steps : List Step) where
  -- the `finish` still goes on after these steps
  record GoesOn (more : List Step) : Type 0 where
    turned : Side
    plan : plan_at set script (more ++ steps) ≡ record { rest = Finishing turned; lines = (plan_at set script steps).lines }
    gives : AllOfFinish set more steps

  turn_there : (more : List Step) (g : GoesOn more) (o : Option Turn) → goes_on (scene_at set (more ++ steps)) (Finishing g.turned) (plan_at set script steps).lines ≡ o
      → next_turn (scene_at set (more ++ steps)) (plan_at set script (more ++ steps)) ≡ or_else o (from_lines (scene_at set (more ++ steps)) (plan_at set script steps).lines)
  turn_there more g o e =
      ap (λ (p : Plan). next_turn (scene_at set (more ++ steps)) p) g.plan ∙ ap (λ (x : Option Turn). or_else x (from_lines (scene_at set (more ++ steps)) (plan_at set script steps).lines)) e

  walk : (more : List Step) (first : Side) → (plan_at set script steps).rest ≡ Finishing first → TraceFollows set script (more ++ steps) → PassesOn set script more steps ⊎ GoesOn more
  walk [] first rest follows = inr (record { turned = first; plan = ap (λ (r : Rest). record { rest = r; lines = (plan_at set script steps).lines }) rest; gives = tt })
  walk (s ∷ more) first rest follows = by (walk more first rest follows.1)
    where
      now : (g : GoesOn more) → Gives set (more ++ steps) g.turned (plan_at set script steps).lines → PassesOn set script (s ∷ more) steps ⊎ GoesOn (s ∷ more)
      now g (gives h turned of e) =
          let t = turn_there more g (Some (turn h (Finishing turned) (plan_at set script steps).lines)) e in
          inr (record { turned = turned; plan = ap (λ (x : Turn). x.plan) t; gives = (subst (λ (x : HappeningView). IsOfFinish set (more ++ steps) x) (sym (follows.0 ∙ ap (λ (x : Turn). x.given) t)) of, g.gives) })
      now g (is_done quiet e) = inl (record { later = s ∷ []; finish = more; split = refl; gives = g.gives; quiet = quiet; passes = turn_there more g None e })

      by : PassesOn set script more steps ⊎ GoesOn more → PassesOn set script (s ∷ more) steps ⊎ GoesOn (s ∷ more)
      by (inl p) = inl (record { later = s ∷ p.later; finish = p.finish; split = ap (λ (xs : List Step). s ∷ xs) p.split; gives = p.gives; quiet = p.quiet; passes = p.passes })
      by (inr g) = now g (finish_gives set (more ++ steps) g.turned (plan_at set script steps).lines)

pub finish_passes_on : FinishEnds → FinishPassesOn
finish_passes_on ends set script steps more first follows run rest long = by (walk set script steps more first rest follows)
  where
    by : PassesOn set script more steps ⊎ GoesOn set script steps more → PassesOn set script more steps
    by (inl p) = p
    by (inr g) = absurd (let few = ends set steps more run g.gives in omega (arith, few, long))
