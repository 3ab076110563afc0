-- Each happening of a `finish` leaves less, so that it ends.
use Rattle.std.proofs.Common.{◌≡◌, ℕ, ◌+◌, ◌<◌, ◌≤◌, Bool, true, false, cond, List, [], ◌∷◌, ◌++◌, length, Option, Some, None, refl, sym, ap, subst, ◌∙◌, arith, inl, inr}
use Rattle.std.specs.Prelude.{is_some}
use Rattle.field_grammar.specs.Grammar.{IsBytes}
use Rattle.tftp_link.specs.declared.phase.Phase.{Phase}
use Rattle.tftp_link.specs.declared.phase.Phase.TheVariants.{Waiting, Running, Finished, Failed}
use Rattle.exchange_trace.specs.declared.trace.Side.{Side}
use Rattle.exchange_trace.specs.declared.trace.Side.TheVariants as sides
use Rattle.exchange_trace.specs.Happenings.{DatagramView, Delivered, HappeningView, Ticked, other}
use Rattle.exchange_trace.specs.Logs.{Event, Gets, Ticks, event_for, gets, logged, loader_log}
use Rattle.exchange_trace.specs.Posts.{first_port_after, numbered, posted_in}
use Rattle.exchange_trace.specs.Steps.{Note, Step}
use Rattle.transfer_end.specs.Packets.{packet_in}
use Rattle.transfer_end.specs.Readings.{Reading}
use Rattle.transfer_end.specs.Transfers.{LinkEnd, Receives, Sends}
use Rattle.transfer_end.specs.Views.{EndView, TransferView}
use Rattle.session_rules.proofs.BufferLemmas.{SumsJoin}
use Rattle.session_rules.specs.Loader.{LoaderView, loader_after, loader_posts}
use Rattle.session_rules.specs.LoaderLog.{SessionLog, loader_reading, loader_view, session_view as loader_session}
use Rattle.session_rules.specs.Target.{TargetView, target_after, target_posts}
use Rattle.session_rules.proofs.TargetLemmas.{target_follows}
use Rattle.session_rules.specs.TargetLog.{TargetReading, TargetSessionLog, session_view as target_session, target_view}
use Rattle.session_rules.proofs.ViewLemmas.{loaders_follow}
use Rattle.replay_rules.specs.BothEnds.{Is_down, Is_up, Setting, TargetStanding, loader_at, noted, reached, target_at, waiting, waits_in}
use Rattle.replay_rules.specs.Changes.{AllCarryBytes}
use Rattle.replay_rules.specs.Due.{AllDue, AllNoted, MayBeNoted, MayGoDown, due, due_of_loader, due_of_target, goes_down, is_up}
use Rattle.replay_rules.specs.Ties.{kept_by}
use Rattle.replay_rules.proofs.TieLemmas.{HasLive, target_is_live}
use Rattle.finish_ends.specs.Finishes.{AllOfFinish, FinishEnds, IsOfFinish, delivers, most_of_finish, ticks}
use Rattle.finish_ends.proofs.Ends.{blocks_left, unanswered}
use Rattle.finish_ends.proofs.LoaderFalls.{loader_gets, loader_left, loader_ticks}
use Rattle.finish_ends.proofs.Moves.{energy_of, left, ticks_left, transfer_left}
use Rattle.finish_ends.proofs.TargetFalls.{target_gets, target_left, target_ticks}
use Rattle.finish_ends.proofs.Undelivered.{after_any, after_delivery, least_is_undelivered, posted_carries, undelivered_weight, weight_of_undelivered}
use Rattle.finish_ends.proofs.Weights.{some_weight, total, total_more, weight}

-- ---- what is left after steps

abbrev pub kept_left : Option TargetView → ℕ
kept_left None = 0
kept_left (Some v) = target_left v

abbrev pub left_after : Setting → List Step → ℕ
left_after set steps = loader_left (loader_view (loader_at set steps)) + kept_left (kept_by (target_at set steps)) + undelivered_weight steps

-- ---- the target at what reaches it

module _ (joins : SumsJoin) (set : Setting) where
  target_any : (state : TargetStanding) (notes : List Note) (e : Event) (w : ℕ) → MayGoDown (is_up state) notes → HasLive state → 0 < w + kept_left (kept_by state)
      → ((r : TargetReading) → state ≡ Is_up r → total (target_posts set.accepts (target_view r) e) + target_left (target_after set.accepts (target_view r) e) < w + target_left (target_view r))
      → total (cond (goes_down notes) [] (due_of_target set state (Some e))) + kept_left (kept_by (noted notes state (reached set (Some e) state))) < w + kept_left (kept_by state)
  target_any (Is_up r) notes e w (inl none) live some falls =
      subst (λ (ns : List Note). total (cond (goes_down ns) [] (due_of_target set (Is_up r) (Some e))) + kept_left (kept_by (noted ns (Is_up r) (reached set (Some e) (Is_up r)))) < w + kept_left (kept_by (Is_up r))) (sym none)
      (subst (λ (v : TargetView). total (target_posts set.accepts (target_view r) e) + target_left v < w + target_left (target_view r)) (target_follows joins set.accepts r e live).0 (falls r refl))
  target_any (Is_up r) notes e w (inr down) live some falls =
      subst (λ (ns : List Note). total (cond (goes_down ns) [] (due_of_target set (Is_up r) (Some e))) + kept_left (kept_by (noted ns (Is_up r) (reached set (Some e) (Is_up r)))) < w + kept_left (kept_by (Is_up r))) (sym down)
      some
  target_any (Is_down active interrupted) notes e w none live some falls =
      subst (λ (ns : List Note). total (cond (goes_down ns) [] (due_of_target set (Is_down active interrupted) (Some e))) + kept_left (kept_by (noted ns (Is_down active interrupted) (reached set (Some e) (Is_down active interrupted)))) < w + kept_left (kept_by (Is_down active interrupted))) (sym none)
      some

target_none : (set : Setting) (state : TargetStanding) (notes : List Note) → MayGoDown (is_up state) notes
    → total (cond (goes_down notes) [] (due_of_target set state None)) + kept_left (kept_by (noted notes state (reached set None state))) ≤ kept_left (kept_by state)
target_none set (Is_up r) notes (inl none) =
    subst (λ (ns : List Note). total (cond (goes_down ns) [] (due_of_target set (Is_up r) None)) + kept_left (kept_by (noted ns (Is_up r) (reached set None (Is_up r)))) ≤ kept_left (kept_by (Is_up r))) (sym none) (omega arith)
target_none set (Is_up r) notes (inr down) =
    subst (λ (ns : List Note). total (cond (goes_down ns) [] (due_of_target set (Is_up r) None)) + kept_left (kept_by (noted ns (Is_up r) (reached set None (Is_up r)))) ≤ kept_left (kept_by (Is_up r))) (sym down) (omega arith)
target_none set (Is_down active interrupted) notes none =
    subst (λ (ns : List Note). total (cond (goes_down ns) [] (due_of_target set (Is_down active interrupted) None)) + kept_left (kept_by (noted ns (Is_down active interrupted) (reached set None (Is_down active interrupted)))) ≤ kept_left (kept_by (Is_down active interrupted))) (sym none) (omega arith)

-- ---- who waits

loader_so : (end : Reading) (live : Option SessionLog) → is_some (loader_session end live) ≡ is_some live
loader_so end None = refl
loader_so end (Some s) = refl

target_so : (r : TargetReading) (live : Option TargetSessionLog) → is_some (target_session r.end live) ≡ is_some live
target_so r None = refl
target_so r (Some s) = refl

waits_some : (b : Bool) (retries n : ℕ) → b ≡ true → 0 < 0 + (n + ticks_left b retries)
waits_some true retries n e = omega arith
waits_some false retries n e = absurd cc

-- ---- both sides at what reaches them

module _ (joins : SumsJoin) (set : Setting) (base : List Step) (notes : List Note) (may : MayGoDown (is_up (target_at set base)) notes) where
  abbrev Less : (to_loader to_target : Option Event) → (w : ℕ) → Type 0
  Less to_loader to_target w =
      total (due_of_loader set (loader_at set base) to_loader) + loader_left (loader_view (loader_reading set.media (logged to_loader (loader_log base))))
      + (total (cond (goes_down notes) [] (due_of_target set (target_at set base) to_target)) + kept_left (kept_by (noted notes (target_at set base) (reached set to_target (target_at set base)))))
      < w + (loader_left (loader_view (loader_at set base)) + kept_left (kept_by (target_at set base)))

  loader_alone : (e : Event) (w : ℕ)
      → total (loader_posts set.media (loader_view (loader_at set base)) e) + loader_left (loader_after set.media (loader_view (loader_at set base)) e) < w + loader_left (loader_view (loader_at set base))
      → Less (Some e) None w
  loader_alone e w falls =
      let now = subst (λ (v : LoaderView). total (loader_posts set.media (loader_view (loader_at set base)) e) + loader_left v < w + loader_left (loader_view (loader_at set base))) (loaders_follow set.media (loader_log base) e) falls in
      let same = target_none set (target_at set base) notes may in
      omega (arith, now, same)

  target_alone : (e : Event) (w : ℕ) → 0 < w + kept_left (kept_by (target_at set base))
      → ((r : TargetReading) → target_at set base ≡ Is_up r → total (target_posts set.accepts (target_view r) e) + target_left (target_after set.accepts (target_view r) e) < w + target_left (target_view r))
      → Less None (Some e) w
  target_alone e w some falls =
      let now = target_any joins set (target_at set base) notes e w may (target_is_live joins set base) some falls in
      omega (arith, now)

  delivered_so : (n : ℕ) (d : DatagramView) → IsBytes d.bytes → numbered (posted_in base) n ≡ Some d → (side : Side)
      → Less (event_for sides.Loader (posted_in base) (Delivered (other side) n)) (event_for sides.Target (posted_in base) (Delivered (other side) n)) (weight d)
  delivered_so n d fit names sides.Target =
      subst (λ (x : Option DatagramView). Less (gets x) None (weight d)) (sym names) (loader_alone (Gets d.from d.to d.bytes) (weight d) (loader_gets (loader_view (loader_at set base)) set.media d.from d.to d.bytes fit))
  delivered_so n d fit names sides.Loader =
      subst (λ (x : Option DatagramView). Less None (gets x) (weight d)) (sym names)
      (target_alone (Gets d.from d.to d.bytes) (weight d) (let some = some_weight (packet_in d.bytes) in omega (arith, some)) (λ r e. target_gets (target_view r) set.accepts d.from d.to d.bytes fit))

  ticked_so : (side : Side) → waiting set side base ≡ true → Less (event_for sides.Loader (posted_in base) (Ticked side)) (event_for sides.Target (posted_in base) (Ticked side)) 0
  ticked_so sides.Loader waits = loader_alone Ticks 0 (loader_ticks (loader_view (loader_at set base)) set.media (loader_so (loader_at set base).end (loader_at set base).live ∙ waits))
  ticked_so sides.Target waits =
      target_alone Ticks 0 (some (target_at set base) waits)
      (λ r e. target_ticks (target_view r) set.accepts (target_so r r.live ∙ subst (λ (state : TargetStanding). waits_in state ≡ true) e waits))
    where
      some : (state : TargetStanding) → waits_in state ≡ true → 0 < 0 + kept_left (kept_by state)
      some (Is_up r) e = waits_some (is_some (target_view r).live) (target_view r).end.retries (energy_of (target_view r).end) (target_so r r.live ∙ e)
      some (Is_down active interrupted) e = absurd cc

-- ---- one step

less_together : (w loader loader_then target target_then queue queue_then first second posts : ℕ) → posts ≡ first + second → first + loader_then + (second + target_then) < w + (loader + target) → queue_then + w ≤ queue + posts
    → loader_then + target_then + queue_then < loader + target + queue
less_together w loader loader_then target target_then queue queue_then first second posts same sides queued = omega (arith, same, sides, queued)

pub step_falls : SumsJoin → (set : Setting) (base : List Step) (s : Step) → AllDue set (s ∷ base) → AllNoted set (s ∷ base) → AllCarryBytes base → IsOfFinish set base s.given → left_after set (s ∷ base) < left_after set base
step_falls joins set base s due_now noted_now carry gives = by s.given refl gives
  where
    posted_now : (h : HappeningView) → s.given ≡ h
        → total s.posts ≡ total (due_of_loader set (loader_at set base) (event_for sides.Loader (posted_in base) h)) + total (cond (goes_down s.notes) [] (due_of_target set (target_at set base) (event_for sides.Target (posted_in base) h)))
    posted_now h e = ap total (due_now.0 ∙ ap (λ (x : HappeningView). due set base x s.notes) e) ∙ total_more (due_of_loader set (loader_at set base) (event_for sides.Loader (posted_in base) h)) (cond (goes_down s.notes) [] (due_of_target set (target_at set base) (event_for sides.Target (posted_in base) h)))

    joined : (h : HappeningView) (w : ℕ) → s.given ≡ h → MayGoDown (is_up (target_at set base)) s.notes
        → ((may : MayGoDown (is_up (target_at set base)) s.notes) → Less joins set base s.notes may (event_for sides.Loader (posted_in base) h) (event_for sides.Target (posted_in base) h) w)
        → undelivered_weight (s ∷ base) + w ≤ undelivered_weight base + total s.posts → left_after set (s ∷ base) < left_after set base
    joined h w e may less queued =
        let loader_now : loader_left (loader_view (loader_at set (s ∷ base))) ≡ loader_left (loader_view (loader_reading set.media (logged (event_for sides.Loader (posted_in base) h) (loader_log base))))
        = ap (λ (x : HappeningView). loader_left (loader_view (loader_reading set.media (logged (event_for sides.Loader (posted_in base) x) (loader_log base))))) e in
        let target_now : kept_left (kept_by (target_at set (s ∷ base))) ≡ kept_left (kept_by (noted s.notes (target_at set base) (reached set (event_for sides.Target (posted_in base) h) (target_at set base))))
        = ap (λ (x : HappeningView). kept_left (kept_by (noted s.notes (target_at set base) (reached set (event_for sides.Target (posted_in base) x) (target_at set base))))) e in
        let sides_now = less may in
        let posts = posted_now h e in
        omega (arith, loader_now, target_now, sides_now, posts, queued)

    by : (h : HappeningView) → s.given ≡ h → IsOfFinish set base h → left_after set (s ∷ base) < left_after set base
    by h e (delivers n others d split names) =
        joined (Delivered (other d.side) n) (weight d) e (subst (λ (x : HappeningView). MayBeNoted (is_up (target_at set base)) (first_port_after base) x s.notes) e noted_now.0)
        (λ may. delivered_so joins set base s.notes may n d (posted_carries base n d carry names) names d.side)
        (after_delivery s base (other d.side) n d e names (least_is_undelivered base n others split))
    by h e (ticks side none waits) =
        joined (Ticked side) 0 e (subst (λ (x : HappeningView). MayBeNoted (is_up (target_at set base)) (first_port_after base) x s.notes) e noted_now.0)
        (λ may. ticked_so joins set base s.notes may side waits)
        (let any = after_any s base in omega (arith, any))

-- ---- all of them

most_unanswered : (phase : Phase) → unanswered phase ≤ 1
most_unanswered Waiting = omega arith
most_unanswered Running = omega arith
most_unanswered Finished = omega arith
most_unanswered (Failed code) = omega arith

most_blocks : (end : LinkEnd) → blocks_left end ≤ 65537
most_blocks (Receives r) = let one = most_unanswered r.phase in omega (arith, one)
most_blocks (Sends s) = let one = most_unanswered s.phase in omega (arith, one)

most_of_transfer : (live : Option TransferView) → transfer_left live ≤ 65538
most_of_transfer None = omega arith
most_of_transfer (Some t) = let most = most_blocks t.end in omega (arith, most)

most_ticks : (waits : Bool) (retries : ℕ) → ticks_left waits retries ≤ 18
most_ticks true retries = omega arith
most_ticks false retries = omega arith

most_left : (v : EndView) (waits : Bool) → left v waits ≤ 91751710778
most_left v waits = let transfer = most_of_transfer v.live in let few = most_ticks waits v.retries in omega (arith, transfer, few)

most_kept : (v : Option TargetView) → kept_left v ≤ 91751710778
most_kept None = omega arith
most_kept (Some v) = most_left v.end (is_some v.live)

pub most_left_after : (set : Setting) (steps : List Step) → left_after set steps ≤ most_of_finish + undelivered_weight steps
most_left_after set steps =
    let one = most_left (loader_view (loader_at set steps)).end (is_some (loader_view (loader_at set steps)).live) in
    let two = most_kept (kept_by (target_at set steps)) in
    omega (arith, one, two)

ends_by : SumsJoin → (set : Setting) (steps more : List Step) → AllDue set (more ++ steps) → AllNoted set (more ++ steps) → AllCarryBytes (more ++ steps) → AllOfFinish set more steps → length more + left_after set (more ++ steps) ≤ left_after set steps
ends_by joins set steps [] is_due is_noted carry gives = omega arith
ends_by joins set steps (s ∷ more) is_due is_noted carry gives =
    let one = step_falls joins set (more ++ steps) s is_due is_noted carry.1 gives.0 in
    let rest = ends_by joins set steps more is_due.1 is_noted.1 carry.1 gives.1 in
    omega (arith, one, rest)

pub finish_ends : SumsJoin → FinishEnds
finish_ends joins set steps more run gives =
    let all = ends_by joins set steps more run.due run.noted run.carries gives in
    let most = most_left_after set steps in
    let weighs = weight_of_undelivered steps in
    omega (arith, all, most, weighs)
