-- Proofs that in a trace blocks are first posted in their order.
use Rattle.std.proofs.Common.{◌≡◌, ℕ, ◌<◌, Bool, true, false, cond, List, [], ◌∷◌, ◌++◌, Option, Some, None, refl, sym, ap, subst, ◌∙◌, append-nil, arith}
use Rattle.std.specs.Prelude.{◌==◌}
use Rattle.std.specs.List.{AllByRecursion}
use Rattle.std.proofs.lemmas.Bool.{eqb-true}
use Rattle.std.proofs.lemmas.List.Elements.{filter-append}
use Rattle.exchange_trace.specs.declared.trace.Side.{Side}
use Rattle.exchange_trace.specs.declared.trace.Side.TheVariants as sides
use Rattle.exchange_trace.specs.Happenings.{Booted, DatagramView, Delivered, Ended, HappeningView, Info_started, Injected, Lost, Power_cut, Size_told, Ticked, Upload_started, is_same_side, other}
use Rattle.exchange_trace.specs.Logs.{Down, Event, Gets, Learns, Life, Starts_info, Starts_upload, Ticks, Up, event_for, gets, logged, loader_log, target_life}
use Rattle.exchange_trace.proofs.PostLemmas.{port_above_all}
use Rattle.exchange_trace.specs.Posts.{first_port_after, is_from_own_port, numbered, posted_in}
use Rattle.exchange_trace.specs.Steps.{Note, Step}
use Rattle.transfer_end.specs.Came.{AcksWhatCame}
use Rattle.transfer_end.proofs.CameLemmas.{all_mapped}
use Rattle.transfer_end.specs.FirstPosts.{AllInOrder, MovesPostInOrder}
use Rattle.transfer_end.specs.OtherEnds.{PortsFit}
use Rattle.session_rules.proofs.AckLemmas.{loader_acks_what_came, target_extended_acks}
use Rattle.session_rules.proofs.BufferLemmas.{SumsJoin}
use Rattle.session_rules.proofs.FairLemmas.{loader_ports_stay, target_ports_stay}
use Rattle.session_rules.proofs.FirstPostLemmas.{loader_step_in_order, target_step_in_order}
use Rattle.session_rules.specs.FirstPosts.{unless_tick}
use Rattle.session_rules.specs.LoaderLog.{loader_reading}
use Rattle.session_rules.specs.TargetLog.{target_extended}
use Rattle.session_rules.proofs.ViewLemmas.{loader_live}
use Rattle.replay_rules.specs.BothEnds.{Is_down, Is_up, Setting, TargetStanding, come_up, gone_down, loader_at, noted, reached, target_at}
use Rattle.replay_rules.proofs.CameTraceLemmas.{target_takes}
use Rattle.replay_rules.specs.CameTraces.{LifeTakesWhatCame}
use Rattle.replay_rules.specs.Due.{AllDue, AllNoted, due_of_loader, due_of_target, goes_down, is_up}
use Rattle.replay_rules.specs.FirstPostTraces.{LoaderPostsInOrder, TargetInOrder, TargetPostsInOrder, first_posts, is_tick, posts_of_side}
use Rattle.replay_rules.proofs.PlacedTraceLemmas.{all_append}
use Rattle.replay_rules.proofs.TieLemmas.{HasLive, target_is_live}
use Rattle.replay_rules.proofs.SentTraces.{NotedAs, above_59, came_up, no_due_at_boot, noted_as, nothing_noted, was_refused, went_down}

-- ---- whose posts

abbrev OfSide : Side → List DatagramView → Type 0
OfSide side posts = AllByRecursion (λ (d : DatagramView). d.side ≡ side) posts

same_side : (side : Side) → is_same_side side side ≡ true
same_side sides.Loader = refl
same_side sides.Target = refl

all_of_side : (side : Side) (posts : List DatagramView) → OfSide side posts → posts_of_side side posts ≡ posts
all_of_side side [] all = refl
all_of_side side (d ∷ posts) (one, all) = rw (ap (is_same_side side) one ∙ same_side side) (ap (λ (rest : List DatagramView). d ∷ rest) (all_of_side side posts all))

none_of_side : (side : Side) (posts : List DatagramView) → OfSide (other side) posts → posts_of_side side posts ≡ []
none_of_side sides.Loader [] all = refl
none_of_side sides.Target [] all = refl
none_of_side sides.Loader (d ∷ posts) (one, all) = rw (ap (is_same_side sides.Loader) one) (none_of_side sides.Loader posts all)
none_of_side sides.Target (d ∷ posts) (one, all) = rw (ap (is_same_side sides.Target) one) (none_of_side sides.Target posts all)

unless_down : (b : Bool) (posts : List DatagramView) → OfSide sides.Target posts → OfSide sides.Target (cond b [] posts)
unless_down true posts all = tt
unless_down false posts all = all

loader_posts_its : (set : Setting) (steps : List Step) (e : Option Event) → OfSide sides.Loader (due_of_loader set (loader_at set steps) e)
loader_posts_its set steps None = tt
loader_posts_its set steps (Some e) = all_mapped (AcksWhatCame sides.Loader (e ∷ loader_log steps)) (λ (d : DatagramView). d.side ≡ sides.Loader) (λ d h. h.poster) _ (loader_acks_what_came set.media (loader_log steps) e)

target_posts_its : (set : Setting) (life : Life) (state : TargetStanding) (e : Option Event) → LifeTakesWhatCame life state → OfSide sides.Target (due_of_target set state e)
target_posts_its set (Up first_port log) (Is_up r) None takes = tt
target_posts_its set (Up first_port log) (Is_up r) (Some e) (packets, blocks, last) =
    all_mapped (AcksWhatCame sides.Target (e ∷ log)) (λ (d : DatagramView). d.side ≡ sides.Target) (λ d h. h.poster) _ (target_extended_acks set.accepts log r e packets last)
target_posts_its set (Up first_port log) (Is_down active interrupted) e takes = absurd takes
target_posts_its set Down (Is_up r) e takes = absurd takes
target_posts_its set Down (Is_down active interrupted) None takes = tt
target_posts_its set Down (Is_down active interrupted) (Some e) takes = tt

module _ (set : Setting) (s : Step) (earlier : List Step) (due : AllDue set (s ∷ earlier)) where
  abbrev to_loader : Option Event
  to_loader = event_for sides.Loader (posted_in earlier) s.given

  abbrev to_target : Option Event
  to_target = event_for sides.Target (posted_in earlier) s.given

  abbrev of_target : List DatagramView
  of_target = cond (goes_down s.notes) [] (due_of_target set (target_at set earlier) to_target)

  target_its : OfSide sides.Target of_target
  target_its = unless_down (goes_down s.notes) _ (target_posts_its set (target_life earlier) (target_at set earlier) to_target (target_takes set earlier))

  loader_posts : posts_of_side sides.Loader s.posts ≡ due_of_loader set (loader_at set earlier) to_loader
  loader_posts =
      ap (posts_of_side sides.Loader) due.0 ∙ filter-append (λ (d : DatagramView). is_same_side sides.Loader d.side) (due_of_loader set (loader_at set earlier) to_loader) of_target
      ∙ ap (λ (x : List DatagramView). x ++ posts_of_side sides.Loader of_target) (all_of_side sides.Loader _ (loader_posts_its set earlier to_loader))
      ∙ ap (λ (x : List DatagramView). due_of_loader set (loader_at set earlier) to_loader ++ x) (none_of_side sides.Loader of_target target_its) ∙ append-nil _

  target_posts : posts_of_side sides.Target s.posts ≡ of_target
  target_posts =
      ap (posts_of_side sides.Target) due.0 ∙ filter-append (λ (d : DatagramView). is_same_side sides.Target d.side) (due_of_loader set (loader_at set earlier) to_loader) of_target
      ∙ ap (λ (x : List DatagramView). x ++ posts_of_side sides.Target of_target) (none_of_side sides.Target _ (loader_posts_its set earlier to_loader))
      ∙ all_of_side sides.Target of_target target_its

-- ---- ticks

abbrev TickIs : HappeningView → Event → List DatagramView → Type 0
TickIs h e posts = cond (is_tick h) [] posts ≡ unless_tick e posts

got_tick : (h : HappeningView) (d : Option DatagramView) (e : Event) (posts : List DatagramView) → is_tick h ≡ false → gets d ≡ Some e → TickIs h e posts
got_tick h None e posts no_tick is = absurd cc
got_tick h (Some d) (Gets from to bytes) posts no_tick is = rw no_tick refl
got_tick h (Some d) Ticks posts no_tick is = absurd cc
got_tick h (Some d) (Learns n) posts no_tick is = absurd cc
got_tick h (Some d) (Starts_info hw pos) posts no_tick is = absurd cc
got_tick h (Some d) (Starts_upload hw pos parts) posts no_tick is = absurd cc

if_some : (b : Bool) (x y : Option Event) (e : Event) (P : Type 0) → (x ≡ Some e → P) → (y ≡ Some e → P) → cond b x y ≡ Some e → P
if_some true x y e P f g is = f is
if_some false x y e P f g is = g is

tick_is : (side : Side) (posted : List DatagramView) (h : HappeningView) (e : Event) (posts : List DatagramView) → event_for side posted h ≡ Some e → TickIs h e posts
tick_is side posted (Delivered to n) e posts = if_some (is_same_side side to) (gets (numbered posted n)) None e _ (λ is. got_tick (Delivered to n) (numbered posted n) e posts refl is) (λ is. absurd cc)
tick_is side posted (Injected d) e posts = if_some (is_same_side side d.side) None (gets (Some d)) e _ (λ is. absurd cc) (λ is. got_tick (Injected d) (Some d) e posts refl is)
tick_is side posted (Ticked whose) e posts = if_some (is_same_side side whose) (Some Ticks) None e _ (λ is. let same : Ticks ≡ e = cc in ap (λ (x : Event). unless_tick x posts) same) (λ is. absurd cc)
tick_is side posted (Size_told size) e posts = λ is. let same : Learns size ≡ e = cc in ap (λ (x : Event). unless_tick x posts) same
tick_is sides.Loader posted (Info_started hw pos) e posts = λ is. let same : Starts_info hw pos ≡ e = cc in ap (λ (x : Event). unless_tick x posts) same
tick_is sides.Target posted (Info_started hw pos) e posts = λ is. absurd cc
tick_is sides.Loader posted (Upload_started hw pos parts) e posts = λ is. let same : Starts_upload hw pos parts ≡ e = cc in ap (λ (x : Event). unless_tick x posts) same
tick_is sides.Target posted (Upload_started hw pos parts) e posts = λ is. absurd cc
tick_is side posted (Lost n) e posts = λ is. absurd cc
tick_is side posted (Power_cut calls pick) e posts = λ is. absurd cc
tick_is side posted Booted e posts = λ is. absurd cc
tick_is side posted Ended e posts = λ is. absurd cc

abbrev no_posts : List DatagramView
no_posts = []

none_if : (b : Bool) → cond b no_posts no_posts ≡ no_posts
none_if true = refl
none_if false = refl

-- ---- the loader

loader_step : MovesPostInOrder → (set : Setting) (log : List Event) (h : HappeningView) (e : Option Event) (posts : List DatagramView) → ((x : Event) → e ≡ Some x → (more : List DatagramView) → TickIs h x more) → AllInOrder (loader_reading set.media log).end posts
    → AllInOrder (loader_reading set.media (logged e log)).end (posts ++ cond (is_tick h) [] (due_of_loader set (loader_reading set.media log) e))
loader_step in_order set log h None posts ticks was =
    subst (λ (more : List DatagramView). AllInOrder (loader_reading set.media log).end (posts ++ more)) (sym (none_if (is_tick h))) (subst (λ (all : List DatagramView). AllInOrder (loader_reading set.media log).end all) (sym (append-nil posts)) was)
loader_step in_order set log h (Some e) posts ticks was =
    subst (λ (more : List DatagramView). AllInOrder (loader_reading set.media (e ∷ log)).end (posts ++ more)) (sym (ticks e refl _))
    (loader_step_in_order in_order set.media (loader_reading set.media log) e posts (loader_live set.media log) (loader_ports_stay set.media log) was)

loader_in_order : MovesPostInOrder → (set : Setting) (steps : List Step) → AllDue set steps → AllInOrder (loader_at set steps).end (first_posts sides.Loader steps)
loader_in_order in_order set [] due = record { each = λ t a. absurd a; below = tt }
loader_in_order in_order set (s ∷ earlier) due =
    subst (λ (more : List DatagramView). AllInOrder (loader_at set (s ∷ earlier)).end (first_posts sides.Loader earlier ++ cond (is_tick s.given) [] more)) (sym (loader_posts set s earlier due))
    (loader_step in_order set (loader_log earlier) s.given (event_for sides.Loader (posted_in earlier) s.given) (first_posts sides.Loader earlier) (λ e is more. tick_is sides.Loader (posted_in earlier) s.given e more is) (loader_in_order in_order set earlier due.1))

pub loader_posts_in_order : MovesPostInOrder → LoaderPostsInOrder
loader_posts_in_order in_order set steps due = (loader_in_order in_order set steps due).each

-- ---- the target

abbrev TargetAll : List DatagramView → TargetStanding → Type 0
TargetAll posts (Is_up r) = AllInOrder r.end posts × PortsFit r.end []
TargetAll posts (Is_down active interrupted) = Unit {0}

target_step : MovesPostInOrder → (set : Setting) (h : HappeningView) (state : TargetStanding) (e : Option Event) (posts : List DatagramView) → ((x : Event) → e ≡ Some x → (more : List DatagramView) → TickIs h x more) → HasLive state → TargetAll posts state
    → TargetAll (posts ++ cond (is_tick h) [] (due_of_target set state e)) (reached set e state)
target_step in_order set h (Is_up r) None posts ticks live (was, ports) =
    (subst (λ (more : List DatagramView). AllInOrder r.end (posts ++ more)) (sym (none_if (is_tick h))) (subst (λ (all : List DatagramView). AllInOrder r.end all) (sym (append-nil posts)) was), ports)
target_step in_order set h (Is_up r) (Some e) posts ticks live (was, ports) = (
  subst (λ (more : List DatagramView). AllInOrder (target_extended set.accepts r e).end (posts ++ more)) (sym (ticks e refl _)) (target_step_in_order in_order set.accepts r e posts [] live ports was),
  target_ports_stay set.accepts r e [] ports,
)
target_step in_order set h (Is_down active interrupted) None posts ticks live was = tt
target_step in_order set h (Is_down active interrupted) (Some e) posts ticks live was = tt

gone_all : (posts : List DatagramView) (before after : TargetStanding) → TargetAll posts (gone_down before after)
gone_all posts (Is_up r) (Is_up s) = tt
gone_all posts (Is_up r) (Is_down active interrupted) = tt
gone_all posts (Is_down active interrupted) after = tt

new_all : (posts : List DatagramView) (before after : TargetStanding) (first_port sequence : ℕ) → 59 < first_port → AllByRecursion (λ (d : DatagramView). d.from < first_port) posts → TargetAll posts (come_up first_port sequence (gone_down before after))
new_all posts (Is_up r) (Is_up s) first_port sequence above below = (record { each = λ t a. absurd a; below = below }, record { counts = tt; first = above; below = tt; rise = tt })
new_all posts (Is_up r) (Is_down active interrupted) first_port sequence above below = (record { each = λ t a. absurd a; below = below }, record { counts = tt; first = above; below = tt; rise = tt })
new_all posts (Is_down active interrupted) after first_port sequence above below = (record { each = λ t a. absurd a; below = below }, record { counts = tt; first = above; below = tt; rise = tt })

-- what the target posted first came from ports below the next first one
own_below : (port : ℕ) (d : DatagramView) → 59 < port → (is_from_own_port d ≡ true → d.from < port) → is_same_side sides.Target d.side ≡ true → d.from < port
own_below port d above own its = by d.side (d.from == 59) its refl refl
  where
    by : (side : Side) (b : Bool) → is_same_side sides.Target side ≡ true → (d.from == 59) ≡ b → d.side ≡ side → d.from < port
    by sides.Loader b is e same = absurd cc
    by sides.Target true is e same = let at : d.from ≡ 59 = eqb-true d.from 59 e in omega (arith, above, at)
    by sides.Target false is e same = own (rw (same, e) refl)

filtered_below : (port : ℕ) (posts : List DatagramView) → 59 < port → AllByRecursion (λ (d : DatagramView). is_from_own_port d ≡ true → d.from < port) posts → AllByRecursion (λ (d : DatagramView). d.from < port) (posts_of_side sides.Target posts)
filtered_below port [] above all = tt
filtered_below port (d ∷ posts) above (one, all) = by (is_same_side sides.Target d.side) refl (filtered_below port posts above all)
  where
    by : (b : Bool) → is_same_side sides.Target d.side ≡ b → AllByRecursion (λ (x : DatagramView). x.from < port) (posts_of_side sides.Target posts) → AllByRecursion (λ (x : DatagramView). x.from < port) (cond b (d ∷ posts_of_side sides.Target posts) (posts_of_side sides.Target posts))
    by true is rest = (own_below port d above one is, rest)
    by false is rest = rest

split_all : {A : Type 0} (P : A → Type 0) (xs ys : List A) → AllByRecursion P (xs ++ ys) → AllByRecursion P xs × AllByRecursion P ys
split_all P [] ys all = (tt, all)
split_all P (x ∷ xs) ys (one, all) = let rest = split_all P xs ys all in ((one, rest.0), rest.1)

first_below : (port : ℕ) (steps : List Step) → 59 < port → AllByRecursion (λ (d : DatagramView). is_from_own_port d ≡ true → d.from < port) (posted_in steps) → AllByRecursion (λ (d : DatagramView). d.from < port) (first_posts sides.Target steps)
first_below port [] above all = tt
first_below port (s ∷ earlier) above all =
    let parts = split_all (λ (d : DatagramView). is_from_own_port d ≡ true → d.from < port) (posted_in earlier) s.posts all in
    all_append (λ (d : DatagramView). d.from < port) (first_posts sides.Target earlier) _ (first_below port earlier above parts.0) (by (is_tick s.given) (filtered_below port s.posts above parts.1))
  where
    by : (b : Bool) → AllByRecursion (λ (d : DatagramView). d.from < port) (posts_of_side sides.Target s.posts) → AllByRecursion (λ (d : DatagramView). d.from < port) (cond b [] (posts_of_side sides.Target s.posts))
    by true h = tt
    by false h = h

noted_all : (notes : List Note) (port : ℕ) (h : HappeningView) (before after : TargetStanding) (posts due : List DatagramView) → NotedAs port h notes → (h ≡ Booted → due ≡ []) → 59 < port → AllByRecursion (λ (d : DatagramView). d.from < port) posts
    → TargetAll (posts ++ cond (is_tick h) [] due) after → TargetAll (posts ++ cond (is_tick h) [] (cond (goes_down notes) [] due)) (noted notes before after)
noted_all notes port h before after posts due nothing_noted booted above below is = is
noted_all notes port h before after posts due went_down booted above below is = gone_all _ before after
noted_all notes port h before after posts due (came_up first_port sequence same boots) booted above below is =
    new_all _ before after first_port sequence (subst (λ (p : ℕ). 59 < p) (sym same) above)
    (subst (λ (x : List DatagramView). AllByRecursion (λ (d : DatagramView). d.from < first_port) (posts ++ cond (is_tick h) [] x)) (sym (booted boots))
    (subst (λ (x : List DatagramView). AllByRecursion (λ (d : DatagramView). d.from < first_port) (posts ++ x)) (sym (none_if (is_tick h)))
    (subst (λ (x : List DatagramView). AllByRecursion (λ (d : DatagramView). d.from < first_port) x) (sym (append-nil posts)) (subst (λ (p : ℕ). AllByRecursion (λ (d : DatagramView). d.from < p) posts) (sym same) below))))
noted_all notes port h before after posts due (was_refused fault boots) booted above below is = gone_all _ before after

target_in_order : SumsJoin → MovesPostInOrder → (set : Setting) (steps : List Step) → AllDue set steps → AllNoted set steps → TargetAll (first_posts sides.Target steps) (target_at set steps)
target_in_order joins in_order set [] due noted = (record { each = λ t a. absurd a; below = tt }, record { counts = tt; first = omega arith; below = tt; rise = tt })
target_in_order joins in_order set (s ∷ earlier) due may =
    let e = event_for sides.Target (posted_in earlier) s.given in
    subst (λ (more : List DatagramView). TargetAll (first_posts sides.Target earlier ++ cond (is_tick s.given) [] more) (target_at set (s ∷ earlier))) (sym (target_posts set s earlier due))
    (noted_all s.notes (first_port_after earlier) s.given (target_at set earlier) (reached set e (target_at set earlier)) (first_posts sides.Target earlier) (due_of_target set (target_at set earlier) e)
    (noted_as (is_up (target_at set earlier)) (first_port_after earlier) s.given s.notes may.0) (no_due_at_boot set (target_at set earlier) (posted_in earlier) s.given) (above_59 earlier)
    (first_below (first_port_after earlier) earlier (above_59 earlier) (port_above_all 1024 (posted_in earlier)))
    (target_step in_order set s.given (target_at set earlier) e (first_posts sides.Target earlier) (λ x is more. tick_is sides.Target (posted_in earlier) s.given x more is) (target_is_live joins set earlier) (target_in_order joins in_order set earlier due.1 may.1)))

only_order : (posts : List DatagramView) (state : TargetStanding) → TargetAll posts state → TargetInOrder posts state
only_order posts (Is_up r) h = h.0.each
only_order posts (Is_down active interrupted) h = tt

pub target_posts_in_order : SumsJoin → MovesPostInOrder → TargetPostsInOrder
target_posts_in_order joins in_order set steps due noted = only_order (first_posts sides.Target steps) (target_at set steps) (target_in_order joins in_order set steps due noted)
