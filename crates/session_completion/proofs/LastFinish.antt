-- Each run that ended of a script whose last line is `finish` comes to where that is left.
use Rattle.std.proofs.Common.{◌≡◌, ◌⊎◌, ℕ, zero, suc, List, [], ◌∷◌, ◌++◌, Option, Some, None, IfSome, inl, inr, ⊎_elim, refl, sym, ap, subst, ◌∙◌}
use Rattle.exchange_trace.specs.declared.trace.Side.{Side}
use Rattle.exchange_trace.specs.declared.trace.Side.TheVariants as sides
use Rattle.exchange_trace.specs.Following.{Deliveries, Finishing, Nothing_left, Plan, Rest, Scene, Turn, begins, delivered_next, delivery, finishing, finishing_tick, from_lines, goes_on, least_delivery, loss, next_turn, once, or_else, ticked_side}
use Rattle.exchange_trace.proofs.FollowingLemmas.{end_is_last}
use Rattle.exchange_trace.specs.Happenings.{HappeningView}
use Rattle.exchange_trace.specs.Lines.{Blksize, Boot, Finish, Give, Info, Inject, Line, Lose, Next, Power, Tick, Upload}
use Rattle.exchange_trace.specs.Steps.{Step}
use Rattle.replay_rules.specs.BothEnds.{Setting}
use Rattle.replay_rules.specs.Runs.{plan_at, scene_at}
use Rattle.session_completion.specs.FinishedRuns.{AllGiveNothing, FinishAloneIsLeft, FinishIsLeft, LastFinishIsReached, ReachesFinish}

pub finish_alone_is_left : FinishAloneIsLeft
finish_alone_is_left set script steps only = record { idle = []; lines = only.0; over = only.1; give_nothing = tt }

pub some_left : (idle : List Line) → [] ≡ idle ++ Finish ∷ [] → ⊥
some_left [] e = absurd cc
some_left (line ∷ idle) e = absurd cc

-- ---- a line leaves those after it

abbrev Leaves : List Line → Option Turn → Type 0
Leaves lines o = IfSome o (λ (t : Turn). t.plan.lines ≡ lines)

once_leaves : (lines : List Line) (o : Option HappeningView) → Leaves lines (once lines o)
once_leaves lines None = tt
once_leaves lines (Some h) = refl

next_leaves : (k : ℕ) (lines : List Line) (o : Option HappeningView) → Leaves lines (delivered_next k lines o)
next_leaves k lines None = tt
next_leaves k lines (Some h) = refl

tick_leaves : (lines : List Line) (o : Option Side) → Leaves lines (finishing_tick lines o)
tick_leaves lines None = tt
tick_leaves lines (Some side) = refl

finishing_leaves : (s : Scene) (first : Side) (lines : List Line) (o : Option HappeningView) → Leaves lines (finishing s first lines o)
finishing_leaves s first lines None = tick_leaves lines (ticked_side s first)
finishing_leaves s first lines (Some h) = refl

goes_on_leaves : (s : Scene) (rest : Rest) (lines : List Line) → Leaves lines (goes_on s rest lines)
goes_on_leaves s Nothing_left lines = tt
goes_on_leaves s (Deliveries zero) lines = tt
goes_on_leaves s (Deliveries (suc k)) lines = next_leaves k lines (least_delivery s)
goes_on_leaves s (Finishing first) lines = finishing_leaves s first lines (least_delivery s)

begins_leaves : (s : Scene) (line : Line) (lines : List Line) → Leaves lines (begins s line lines)
begins_leaves s (Info hw pos) lines = refl
begins_leaves s (Upload hw pos parts) lines = refl
begins_leaves s (Give n) lines = once_leaves lines (delivery s n)
begins_leaves s (Lose n) lines = once_leaves lines (loss s n)
begins_leaves s (Next k) lines = goes_on_leaves s (Deliveries k) lines
begins_leaves s (Tick side) lines = refl
begins_leaves s (Inject d) lines = refl
begins_leaves s (Power calls pick) lines = refl
begins_leaves s Boot lines = refl
begins_leaves s (Blksize size) lines = refl
begins_leaves s Finish lines = goes_on_leaves s (Finishing sides.Loader) lines

-- ---- a last `finish` stays until it is next

abbrev IsLast : List Line → Type 0
IsLast lines = (idle : List Line) × (lines ≡ idle ++ Finish ∷ [])

-- the lines before it give nothing, or it is left by what they give
lines_give : (s : Scene) (idle : List Line) → AllGiveNothing s idle (Finish ∷ []) ⊎ IsLast (from_lines s (idle ++ Finish ∷ [])).plan.lines
lines_give s [] = inl tt
lines_give s (line ∷ idle) = by (begins s line (idle ++ Finish ∷ [])) refl (begins_leaves s line (idle ++ Finish ∷ [])) (lines_give s idle)
  where
    by : (o : Option Turn) → begins s line (idle ++ Finish ∷ []) ≡ o → Leaves (idle ++ Finish ∷ []) o → AllGiveNothing s idle (Finish ∷ []) ⊎ IsLast (from_lines s (idle ++ Finish ∷ [])).plan.lines
        → ((◌≡◌ {A = Option Turn} (begins s line (idle ++ Finish ∷ [])) None) × AllGiveNothing s idle (Finish ∷ [])) ⊎ IsLast (or_else o (from_lines s (idle ++ Finish ∷ []))).plan.lines
    by None e leaves (inl none) = inl (e, none)
    by None e leaves (inr last) = inr last
    by (Some t) e leaves others = inr (idle, leaves)

next_gives : (set : Setting) (script : List Line) (steps : List Step) → IsLast (plan_at set script steps).lines → FinishIsLeft set script steps ⊎ IsLast (next_turn (scene_at set steps) (plan_at set script steps)).plan.lines
next_gives set script steps (idle, e) =
    by (goes_on (scene_at set steps) (plan_at set script steps).rest (plan_at set script steps).lines) refl (goes_on_leaves (scene_at set steps) (plan_at set script steps).rest (plan_at set script steps).lines) (lines_give (scene_at set steps) idle)
  where
    by : (o : Option Turn) → goes_on (scene_at set steps) (plan_at set script steps).rest (plan_at set script steps).lines ≡ o → Leaves (plan_at set script steps).lines o
        → AllGiveNothing (scene_at set steps) idle (Finish ∷ []) ⊎ IsLast (from_lines (scene_at set steps) (idle ++ Finish ∷ [])).plan.lines
        → FinishIsLeft set script steps ⊎ IsLast (or_else o (from_lines (scene_at set steps) (plan_at set script steps).lines)).plan.lines
    by None over leaves (inl none) = inl (record { idle = idle; lines = e; over = over; give_nothing = none })
    by None over leaves (inr last) = inr (subst (λ (lines : List Line). IsLast (from_lines (scene_at set steps) lines).plan.lines) (sym e) last)
    by (Some t) over leaves others = inr (idle, leaves ∙ e)

reaches : (set : Setting) (lines : List Line) (steps : List Step) → ReachesFinish set (lines ++ Finish ∷ []) steps ⊎ IsLast (plan_at set (lines ++ Finish ∷ []) steps).lines
reaches set lines [] = inr (lines, refl)
reaches set lines (s ∷ earlier) = ⊎_elim (λ r. inl (record { before = r.before; more = s ∷ r.more; split = ap (λ (xs : List Step). s ∷ xs) r.split; left = r.left })) (λ last. ⊎_elim (λ left. inl (record { before = earlier; more = s ∷ []; split = refl; left = left })) (λ next. inr next) (next_gives set (lines ++ Finish ∷ []) earlier last)) (reaches set lines earlier)

pub last_finish_is_reached : LastFinishIsReached
last_finish_is_reached set lines [] ends follows = absurd ends
last_finish_is_reached set lines (s ∷ earlier) ends follows =
    ⊎_elim (λ r. r) (λ last. absurd (let (idle, e) = last in some_left idle (sym none ∙ e))) (reaches set lines (s ∷ earlier))
  where
    none : (plan_at set (lines ++ Finish ∷ []) (s ∷ earlier)).lines ≡ []
    none = ap (λ (p : Plan). p.lines) (end_is_last (scene_at set earlier) (plan_at set (lines ++ Finish ∷ []) earlier) (sym follows.0 ∙ ends.0))
