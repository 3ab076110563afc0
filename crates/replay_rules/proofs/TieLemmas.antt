-- Proofs that a step keeps the tie between both ends and the trace.
use Rattle.std.proofs.Common.{◌≡◌, ℕ, cond, List, [], ◌∷◌, ◌++◌, Option, Some, None, refl, ap, ◌∙◌}
use Rattle.exchange_trace.specs.declared.trace.Side.TheVariants as sides
use Rattle.exchange_trace.specs.Happenings.{DatagramView}
use Rattle.exchange_trace.specs.Logs.{Event, event_for, loader_log, logged}
use Rattle.exchange_trace.specs.Posts.{posted_in}
use Rattle.exchange_trace.specs.Steps.{Step, Note, Went_down, Came_up, Boot_refused}
use Rattle.transfer_end.specs.Laws.{IsLive}
use Rattle.session_rules.proofs.BufferLemmas.{SumsJoin}
use Rattle.session_rules.specs.LoaderLog.{loader_reading, loader_view}
use Rattle.session_rules.specs.Target.{TargetView}
use Rattle.session_rules.proofs.TargetLemmas.{target_follows}
use Rattle.session_rules.proofs.ViewLemmas.{loaders_follow}
use Rattle.replay_rules.specs.BothEnds.{Setting, TargetStanding, Is_up, Is_down, loader_at, target_at, reached, gone_down, come_up, noted}
use Rattle.replay_rules.specs.Due.{due_of_loader, due_of_target, goes_down}
use Rattle.replay_rules.specs.Ties.{StepKeepsTie, kept_after, kept_by, loader_next, loader_says, target_next, target_says}

-- the live transfer of a target that is up isn't over
abbrev pub HasLive : TargetStanding → Type 0
HasLive (Is_up r) = IsLive r.end.live
HasLive (Is_down active interrupted) = Unit {0}

reached_live : SumsJoin → (set : Setting) (e : Option Event) (state : TargetStanding) → HasLive state → HasLive (reached set e state)
reached_live joins set None (Is_up r) live = live
reached_live joins set (Some e) (Is_up r) live = (target_follows joins set.accepts r e live).1
reached_live joins set None (Is_down active interrupted) live = tt
reached_live joins set (Some e) (Is_down active interrupted) live = tt

gone_live : (before after : TargetStanding) → HasLive (gone_down before after)
gone_live (Is_up r) (Is_up s) = tt
gone_live (Is_up r) (Is_down active interrupted) = tt
gone_live (Is_down active interrupted) after = tt

come_live : (port sequence : ℕ) (state : TargetStanding) → HasLive state → HasLive (come_up port sequence state)
come_live port sequence (Is_up r) live = live
come_live port sequence (Is_down active interrupted) live = tt

noted_live : (notes : List Note) (before after : TargetStanding) → HasLive after → HasLive (noted notes before after)
noted_live [] before after live = live
noted_live (Went_down ∷ notes) before after live = noted_live notes (gone_down before after) (gone_down before after) (gone_live before after)
noted_live (Came_up port sequence ∷ notes) before after live =
    noted_live notes (come_up port sequence (gone_down before after)) (come_up port sequence (gone_down before after)) (come_live port sequence (gone_down before after) (gone_live before after))
noted_live (Boot_refused fault ∷ notes) before after live = noted_live notes (gone_down before after) (gone_down before after) (gone_live before after)

pub target_is_live : SumsJoin → (set : Setting) (steps : List Step) → HasLive (target_at set steps)
target_is_live joins set [] = tt
target_is_live joins set (s ∷ earlier) =
    noted_live s.notes (target_at set earlier) _ (reached_live joins set (event_for sides.Target (posted_in earlier) s.given) (target_at set earlier) (target_is_live joins set earlier))

loader_more : (set : Setting) (log : List Event) (e : Option Event) → loader_next set.media (loader_view (loader_reading set.media log)) e ≡ loader_view (loader_reading set.media (logged e log))
loader_more set log None = refl
loader_more set log (Some e) = loaders_follow set.media log e

loader_due_is : (set : Setting) (steps : List Step) (e : Option Event) → loader_says set.media (loader_view (loader_at set steps)) e ≡ due_of_loader set (loader_at set steps) e
loader_due_is set steps None = refl
loader_due_is set steps (Some e) = refl

target_more : SumsJoin → (set : Setting) (state : TargetStanding) (e : Option Event) → HasLive state → target_next set.accepts (kept_by state) e ≡ kept_by (reached set e state)
target_more joins set (Is_up r) None live = refl
target_more joins set (Is_up r) (Some e) live = ap (λ (v : TargetView). Some v) (target_follows joins set.accepts r e live).0
target_more joins set (Is_down active interrupted) None live = refl
target_more joins set (Is_down active interrupted) (Some e) live = refl

target_due_is : (set : Setting) (state : TargetStanding) (e : Option Event) → target_says set.accepts (kept_by state) e ≡ due_of_target set state e
target_due_is set (Is_up r) None = refl
target_due_is set (Is_up r) (Some e) = refl
target_due_is set (Is_down active interrupted) None = refl
target_due_is set (Is_down active interrupted) (Some e) = refl

kept_noted : (set : Setting) (notes : List Note) (before after : TargetStanding) (v : Option TargetView) → v ≡ kept_by after → kept_after set notes before after v ≡ kept_by (noted notes before after)
kept_noted set [] before after v e = e
kept_noted set (note ∷ notes) before after v e = refl

pub step_keeps_tie : SumsJoin → StepKeepsTie
step_keeps_tie joins set steps loader loader_then target target_then posted s tied reacts =
    let to_loader = event_for sides.Loader (posted_in steps) s.given in
    let to_target = event_for sides.Target (posted_in steps) s.given in
    let said : loader_says set.media loader to_loader ≡ due_of_loader set (loader_at set steps) to_loader = rw tied.loader_is (loader_due_is set steps to_loader) in
    let answered : target_says set.accepts target to_target ≡ due_of_target set (target_at set steps) to_target = rw tied.target_is (target_due_is set (target_at set steps) to_target) in
    let moved : target_next set.accepts target to_target ≡ kept_by (reached set to_target (target_at set steps)) = rw tied.target_is (target_more joins set (target_at set steps) to_target (target_is_live joins set steps)) in
    record {
      loader_is = reacts.loader_does ∙ rw tied.loader_is (loader_more set (loader_log steps) to_loader);
      target_is = reacts.target_does ∙ kept_noted set s.notes (target_at set steps) (reached set to_target (target_at set steps)) (target_next set.accepts target to_target) moved;
      posted_is = ap (λ (posts : List DatagramView). posts ++ s.posts) tied.posted_is;
      due = (
        reacts.both_post
            ∙ (ap (λ (posts : List DatagramView). posts ++ cond (goes_down s.notes) [] (target_says set.accepts target to_target)) said
            ∙ ap (λ (posts : List DatagramView). due_of_loader set (loader_at set steps) to_loader ++ cond (goes_down s.notes) [] posts) answered),
        tied.due,
      );
    }
