-- Proofs of where the datagrams of a trace go, how many at once, and from which ports.
use Rattle.std.proofs.Common.{◌≡◌, ◌≤◌, ℕ, inl, inr, Bool, true, false, cond, List, [], ◌∷◌, ◌++◌, length, Option, Some, None, refl, sym, subst, append-nil, arith}
use Rattle.std.specs.List.{AllByRecursion}
use Rattle.exchange_trace.specs.declared.trace.Side.{Side}
use Rattle.exchange_trace.specs.declared.trace.Side.TheVariants as sides
use Rattle.exchange_trace.specs.Happenings.{Booted, DatagramView, Delivered, Ended, HappeningView, Info_started, Injected, Lost, Power_cut, Size_told, Ticked, Upload_started, is_same_side}
use Rattle.exchange_trace.specs.Logs.{Event, Learns, Starts_info, Starts_upload, Ticks, event_for, gets, loader_log}
use Rattle.exchange_trace.specs.Posts.{numbered, posted_in}
use Rattle.exchange_trace.specs.Steps.{Boot_refused, Came_up, Note, Step, Went_down}
use Rattle.transfer_end.specs.Views.{end_view}
use Rattle.session_rules.proofs.HeardLemmas.{loader_posts_two, target_posts_two}
use Rattle.session_rules.specs.LoaderLog.{LoaderReading, loader_view}
use Rattle.session_rules.proofs.PlacedLemmas.{loader_ports_count_up, loader_posts_placed, target_extended_counts, target_posts_placed}
use Rattle.session_rules.specs.TargetLog.{target_view}
use Rattle.replay_rules.specs.BothEnds.{Is_down, Is_up, Setting, TargetStanding, come_up, gone_down, loader_at, noted, reached, target_at}
use Rattle.replay_rules.specs.Due.{due_of_loader, due_of_target, goes_down}
use Rattle.replay_rules.specs.PlacedTraces.{DueIsPlaced, DueIsTwoAtMost, IsPlacedAt, IsPlacedOf, IsPlacedOfTarget, PortsRise, TargetCountsUp}

pub all_append : {A : Type 0} (P : A → Type 0) (xs ys : List A) → AllByRecursion P xs → AllByRecursion P ys → AllByRecursion P (xs ++ ys)
all_append P [] ys all rest = rest
all_append P (x ∷ xs) ys (one, all) rest = (one, all_append P xs ys all rest)

pub all_mapped : {A : Type 0} (P Q : A → Type 0) → ((x : A) → P x → Q x) → (xs : List A) → AllByRecursion P xs → AllByRecursion Q xs
all_mapped P Q f [] all = tt
all_mapped P Q f (x ∷ xs) (one, all) = (f x one, all_mapped P Q f xs all)

loader_placed : (set : Setting) (r : LoaderReading) (e : Option Event) → AllByRecursion (IsPlacedOf sides.Loader (end_view r.end) e) (due_of_loader set r e)
loader_placed set r None = tt
loader_placed set r (Some e) = loader_posts_placed set.media (loader_view r) e

target_placed : (set : Setting) (state : TargetStanding) (e : Option Event) → AllByRecursion (IsPlacedOfTarget state e) (due_of_target set state e)
target_placed set (Is_up r) None = tt
target_placed set (Is_up r) (Some e) = target_posts_placed set.accepts (target_view r) e
target_placed set (Is_down active interrupted) None = tt
target_placed set (Is_down active interrupted) (Some e) = tt

pub unless_down : {A : Type 0} (P : A → Type 0) (b : Bool) (xs : List A) → AllByRecursion P xs → AllByRecursion P (cond b [] xs)
unless_down P true xs all = tt
unless_down P false xs all = all

pub due_is_placed : DueIsPlaced
due_is_placed set [] due = tt
due_is_placed set (s ∷ earlier) (now, before) =
    let to_loader = event_for sides.Loader (posted_in earlier) s.given in
    let to_target = event_for sides.Target (posted_in earlier) s.given in
    let first : AllByRecursion (IsPlacedAt set earlier s) (due_of_loader set (loader_at set earlier) to_loader) =
    all_mapped (IsPlacedOf sides.Loader (end_view (loader_at set earlier).end) to_loader) (IsPlacedAt set earlier s) (λ d h. inl h) _ (loader_placed set (loader_at set earlier) to_loader) in
    let second : AllByRecursion (IsPlacedAt set earlier s) (cond (goes_down s.notes) [] (due_of_target set (target_at set earlier) to_target)) =
    unless_down (IsPlacedAt set earlier s) (goes_down s.notes) _ (all_mapped (IsPlacedOfTarget (target_at set earlier) to_target) (IsPlacedAt set earlier s) (λ d h. inr h) _ (target_placed set (target_at set earlier) to_target)) in
    (subst (λ (posts : List DatagramView). AllByRecursion (IsPlacedAt set earlier s) posts) (sym now) (all_append (IsPlacedAt set earlier s) _ _ first second), due_is_placed set earlier before)

-- ---- two datagrams at most

abbrev StepPosts : Setting → LoaderReading → TargetStanding → Bool → Option Event → Option Event → List DatagramView
StepPosts set r state down to_loader to_target = due_of_loader set r to_loader ++ cond down [] (due_of_target set state to_target)

loader_two : (set : Setting) (r : LoaderReading) (e : Option Event) → length (due_of_loader set r e) ≤ 2
loader_two set r None = omega arith
loader_two set r (Some e) = loader_posts_two set.media (loader_view r) e

target_two : (set : Setting) (state : TargetStanding) (e : Option Event) → length (due_of_target set state e) ≤ 2
target_two set (Is_up r) None = omega arith
target_two set (Is_up r) (Some e) = target_posts_two set.accepts (target_view r) e
target_two set (Is_down active interrupted) None = omega arith
target_two set (Is_down active interrupted) (Some e) = omega arith

not_to_target : (set : Setting) (state : TargetStanding) (down : Bool) → cond down [] (due_of_target set state None) ≡ []
not_to_target set state true = refl
not_to_target set (Is_up r) false = refl
not_to_target set (Is_down active interrupted) false = refl

-- what reaches one side alone
only_loader : (set : Setting) (r : LoaderReading) (state : TargetStanding) (down : Bool) (e : Option Event) → length (StepPosts set r state down e None) ≤ 2
only_loader set r state down e = rw (not_to_target set state down, append-nil (due_of_loader set r e)) (loader_two set r e)

only_target : (set : Setting) (r : LoaderReading) (state : TargetStanding) (down : Bool) (e : Option Event) → length (StepPosts set r state down None e) ≤ 2
only_target set r state true e = omega arith
only_target set r state false e = target_two set state e

to_one : (set : Setting) (r : LoaderReading) (state : TargetStanding) (down : Bool) (side : Side) (e : Option Event)
    → length (StepPosts set r state down (cond (is_same_side sides.Loader side) e None) (cond (is_same_side sides.Target side) e None)) ≤ 2
to_one set r state down sides.Loader e = only_loader set r state down e
to_one set r state down sides.Target e = only_target set r state down e

from_one : (set : Setting) (r : LoaderReading) (state : TargetStanding) (down : Bool) (side : Side) (e : Option Event)
    → length (StepPosts set r state down (cond (is_same_side sides.Loader side) None e) (cond (is_same_side sides.Target side) None e)) ≤ 2
from_one set r state down sides.Loader e = only_target set r state down e
from_one set r state down sides.Target e = only_loader set r state down e

-- a block size reaches both sides, and neither posts
size_told : (set : Setting) (r : LoaderReading) (state : TargetStanding) (down : Bool) (size : Option ℕ) → length (StepPosts set r state down (Some (Learns size)) (Some (Learns size))) ≤ 2
size_told set r state true size = omega arith
size_told set r (Is_up s) false size = omega arith
size_told set r (Is_down active interrupted) false size = omega arith

step_posts_two : (set : Setting) (r : LoaderReading) (state : TargetStanding) (down : Bool) (posted : List DatagramView) (h : HappeningView)
    → length (StepPosts set r state down (event_for sides.Loader posted h) (event_for sides.Target posted h)) ≤ 2
step_posts_two set r state down posted (Delivered to n) = to_one set r state down to (gets (numbered posted n))
step_posts_two set r state down posted (Injected d) = from_one set r state down d.side (gets (Some d))
step_posts_two set r state down posted (Ticked whose) = to_one set r state down whose (Some Ticks)
step_posts_two set r state down posted (Size_told size) = size_told set r state down size
step_posts_two set r state down posted (Info_started hw pos) = only_loader set r state down (Some (Starts_info hw pos))
step_posts_two set r state down posted (Upload_started hw pos parts) = only_loader set r state down (Some (Starts_upload hw pos parts))
step_posts_two set r state down posted (Lost n) = only_loader set r state down None
step_posts_two set r state down posted (Power_cut calls pick) = only_loader set r state down None
step_posts_two set r state down posted Booted = only_loader set r state down None
step_posts_two set r state down posted Ended = only_loader set r state down None

pub due_is_two_at_most : DueIsTwoAtMost
due_is_two_at_most set [] due = tt
due_is_two_at_most set (s ∷ earlier) (now, before) = (
  subst (λ (posts : List DatagramView). length posts ≤ 2) (sym now) (step_posts_two set (loader_at set earlier) (target_at set earlier) (goes_down s.notes) (posted_in earlier) s.given),
  due_is_two_at_most set earlier before,
)

-- ---- ports

reached_counts : (set : Setting) (e : Option Event) (state : TargetStanding) → TargetCountsUp state → TargetCountsUp (reached set e state)
reached_counts set None (Is_up r) h = h
reached_counts set (Some e) (Is_up r) h = target_extended_counts set.accepts r e h
reached_counts set None (Is_down active interrupted) h = tt
reached_counts set (Some e) (Is_down active interrupted) h = tt

gone_counts : (before after : TargetStanding) → TargetCountsUp (gone_down before after)
gone_counts (Is_up r) (Is_up s) = tt
gone_counts (Is_up r) (Is_down active interrupted) = tt
gone_counts (Is_down active interrupted) after = tt

come_counts : (port sequence : ℕ) (state : TargetStanding) → TargetCountsUp state → TargetCountsUp (come_up port sequence state)
come_counts port sequence (Is_up r) h = h
come_counts port sequence (Is_down active interrupted) h = tt

noted_counts : (notes : List Note) (before after : TargetStanding) → TargetCountsUp after → TargetCountsUp (noted notes before after)
noted_counts [] before after h = h
noted_counts (Went_down ∷ notes) before after h = noted_counts notes (gone_down before after) (gone_down before after) (gone_counts before after)
noted_counts (Came_up port sequence ∷ notes) before after h =
    noted_counts notes (come_up port sequence (gone_down before after)) (come_up port sequence (gone_down before after)) (come_counts port sequence (gone_down before after) (gone_counts before after))
noted_counts (Boot_refused fault ∷ notes) before after h = noted_counts notes (gone_down before after) (gone_down before after) (gone_counts before after)

target_counts : (set : Setting) (steps : List Step) → TargetCountsUp (target_at set steps)
target_counts set [] = tt
target_counts set (s ∷ earlier) = noted_counts s.notes (target_at set earlier) _ (reached_counts set (event_for sides.Target (posted_in earlier) s.given) (target_at set earlier) (target_counts set earlier))

pub ports_rise : PortsRise
ports_rise set steps = (loader_ports_count_up set.media (loader_log steps), target_counts set steps)
