-- Proofs that what is in the transfers of a trace came.
use Rattle.std.proofs.Common.{ℕ, inl, inr, cond, List, [], ◌∷◌, Option, Some, None, sym, subst}
use Rattle.std.specs.List.{AllByRecursion}
use Rattle.exchange_trace.specs.declared.trace.Side.TheVariants as sides
use Rattle.exchange_trace.specs.Happenings.{DatagramView}
use Rattle.exchange_trace.specs.Logs.{Event, Life, Up, Down, event_for, logged, loader_log, noted as life_noted, reached as life_reached, target_life}
use Rattle.exchange_trace.specs.Posts.{posted_in}
use Rattle.exchange_trace.specs.Steps.{Boot_refused, Came_up, Note, Step, Went_down}
use Rattle.transfer_end.specs.Came.{AcksWhatCame}
use Rattle.transfer_end.proofs.CameLemmas.{taken_blocks_came}
use Rattle.session_rules.proofs.AckLemmas.{loader_acks_what_came, loader_last, target_extended_acks, target_extended_last}
use Rattle.session_rules.proofs.HeardLemmas.{loader_takes_what_came, target_extended_came}
use Rattle.session_rules.specs.TargetLog.{target_extended}
use Rattle.replay_rules.specs.BothEnds.{Is_down, Is_up, Setting, TargetStanding, come_up, gone_down, loader_at, noted, reached, target_at}
use Rattle.replay_rules.specs.CameTraces.{BothTakeWhatCame, DueIsAcked, IsAckedAt, TargetAcks, LifeTakesWhatCame}
use Rattle.replay_rules.specs.Due.{due_of_loader, due_of_target, goes_down}
use Rattle.replay_rules.proofs.PlacedTraceLemmas.{all_append, all_mapped, unless_down}

reached_takes : (set : Setting) (e : Option Event) (life : Life) (state : TargetStanding) → LifeTakesWhatCame life state → LifeTakesWhatCame (life_reached e life) (reached set e state)
reached_takes set None (Up first_port log) (Is_up r) h = h
reached_takes set (Some e) (Up first_port log) (Is_up r) (packets, blocks, last) =
    let came = target_extended_came set.accepts log r e packets in
    (came, taken_blocks_came (e ∷ log) (target_extended set.accepts r e).end came, target_extended_last set.accepts log r e packets last)
reached_takes set None (Up first_port log) (Is_down active interrupted) h = absurd h
reached_takes set (Some e) (Up first_port log) (Is_down active interrupted) h = absurd h
reached_takes set None Down (Is_up r) h = absurd h
reached_takes set (Some e) Down (Is_up r) h = absurd h
reached_takes set None Down (Is_down active interrupted) h = tt
reached_takes set (Some e) Down (Is_down active interrupted) h = tt

gone_takes : (before after : TargetStanding) → LifeTakesWhatCame Down (gone_down before after)
gone_takes (Is_up r) (Is_up s) = tt
gone_takes (Is_up r) (Is_down active interrupted) = tt
gone_takes (Is_down active interrupted) after = tt

come_takes : (first_port sequence : ℕ) (state : TargetStanding) → LifeTakesWhatCame Down state → LifeTakesWhatCame (Up first_port []) (come_up first_port sequence state)
come_takes first_port sequence (Is_up r) h = absurd h
come_takes first_port sequence (Is_down active interrupted) h = (tt, tt, tt)

noted_takes : (notes : List Note) (life : Life) (before after : TargetStanding) → LifeTakesWhatCame life after → LifeTakesWhatCame (life_noted notes life) (noted notes before after)
noted_takes [] life before after h = h
noted_takes (Went_down ∷ notes) life before after h = noted_takes notes Down (gone_down before after) (gone_down before after) (gone_takes before after)
noted_takes (Came_up first_port sequence ∷ notes) life before after h =
    let up = come_up first_port sequence (gone_down before after) in
    noted_takes notes (Up first_port []) up up (come_takes first_port sequence (gone_down before after) (gone_takes before after))
noted_takes (Boot_refused fault ∷ notes) life before after h = noted_takes notes Down (gone_down before after) (gone_down before after) (gone_takes before after)

pub target_takes : (set : Setting) (steps : List Step) → LifeTakesWhatCame (target_life steps) (target_at set steps)
target_takes set [] = (tt, tt, tt)
target_takes set (s ∷ earlier) =
    let e = event_for sides.Target (posted_in earlier) s.given in
    noted_takes s.notes (life_reached e (target_life earlier)) (target_at set earlier) (reached set e (target_at set earlier)) (reached_takes set e (target_life earlier) (target_at set earlier) (target_takes set earlier))

pub both_take_what_came : BothTakeWhatCame
both_take_what_came set steps =
    let (packets, blocks) = loader_takes_what_came set.media (loader_log steps) in
    ((packets, blocks, loader_last set.media (loader_log steps)), target_takes set steps)

-- ---- acknowledgements

loader_acked : (set : Setting) (earlier : List Step) (e : Option Event) → AllByRecursion (AcksWhatCame sides.Loader (logged e (loader_log earlier))) (due_of_loader set (loader_at set earlier) e)
loader_acked set earlier None = tt
loader_acked set earlier (Some e) = loader_acks_what_came set.media (loader_log earlier) e

target_acked : (set : Setting) (life : Life) (state : TargetStanding) (e : Option Event) → LifeTakesWhatCame life state → AllByRecursion (TargetAcks (life_reached e life)) (due_of_target set state e)
target_acked set (Up first_port log) (Is_up r) None h = tt
target_acked set (Up first_port log) (Is_up r) (Some e) (packets, blocks, last) = target_extended_acks set.accepts log r e packets last
target_acked set (Up first_port log) (Is_down active interrupted) e h = absurd h
target_acked set Down (Is_up r) e h = absurd h
target_acked set Down (Is_down active interrupted) None h = tt
target_acked set Down (Is_down active interrupted) (Some e) h = tt

pub due_is_acked : DueIsAcked
due_is_acked set [] due = tt
due_is_acked set (s ∷ earlier) (now, before) =
    let to_loader = event_for sides.Loader (posted_in earlier) s.given in
    let to_target = event_for sides.Target (posted_in earlier) s.given in
    let first : AllByRecursion (IsAckedAt earlier s) (due_of_loader set (loader_at set earlier) to_loader) =
    all_mapped (AcksWhatCame sides.Loader (logged to_loader (loader_log earlier))) (IsAckedAt earlier s) (λ d h. inl h) _ (loader_acked set earlier to_loader) in
    let second : AllByRecursion (IsAckedAt earlier s) (cond (goes_down s.notes) [] (due_of_target set (target_at set earlier) to_target)) =
    unless_down (IsAckedAt earlier s) (goes_down s.notes) _
    (all_mapped (TargetAcks (life_reached to_target (target_life earlier))) (IsAckedAt earlier s) (λ d h. inr h) _ (target_acked set (target_life earlier) (target_at set earlier) to_target (target_takes set earlier))) in
    (subst (λ (posts : List DatagramView). AllByRecursion (IsAckedAt earlier s) posts) (sym now) (all_append (IsAckedAt earlier s) _ _ first second), due_is_acked set earlier before)
