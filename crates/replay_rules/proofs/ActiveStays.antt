-- What each installation keeps holds of all that may be active.
use Rattle.std.proofs.Common.{◌≡◌, inl, inr, ℕ, cond, List, [], ◌∷◌, Bool, true, false, Option, Some, None, sym, subst}
use Rattle.std.specs.Prelude.{◌==◌}
use Rattle.std.specs.List.{AllByRecursion}
use Rattle.disk_layout.specs.Holds.{StandingView}
use Rattle.exchange_trace.specs.declared.trace.Side.TheVariants as sides
use Rattle.exchange_trace.specs.Logs.{Event, event_for}
use Rattle.exchange_trace.specs.Posts.{posted_in}
use Rattle.exchange_trace.specs.Steps.{Boot_refused, Came_up, Note, Step, Went_down}
use Rattle.session_rules.specs.SoundLogs.{IsNewAt, StaysOrIsNew}
use Rattle.session_rules.specs.TargetLog.{TargetReading}
use Rattle.replay_rules.specs.BothEnds.{Is_down, Is_up, Setting, TargetStanding, come_up, gone_down, noted, reached, settled, target_at}
use Rattle.replay_rules.proofs.ChangeLemmas.{HasTarget, has_target}
use Rattle.replay_rules.specs.Changes.{AllStayOrAreNew, TargetStaysOrIsNew}
use Rattle.replay_rules.specs.Histories.{active_in, may_be_active}

-- what a good verdict makes active has this, where what was active has it
abbrev pub IsKept : Setting → (StandingView → Type 0) → Type 0
IsKept set Has = (before after : TargetReading) → IsNewAt set.accepts before after → before.active.identity ≡ set.start.identity → Has before.active → Has after.active

module _ (set : Setting) (Has : StandingView → Type 0) (kept : IsKept set Has) where
  abbrev AllHave : TargetStanding → Type 0
  AllHave state = AllByRecursion Has (may_be_active state)

  stays : (before after : TargetReading) → StaysOrIsNew set.accepts before after → before.active.identity ≡ set.start.identity → Has before.active → Has after.active
  stays before after (inl same) id has = subst Has (sym same) has
  stays before after (inr new) id has = kept before after new id has

  gone_if : (before after : StandingView) (same : Bool) → Has before → Has after → AllHave (Is_down before (cond same None (Some after)))
  gone_if before after true has then = (has, tt)
  gone_if before after false has then = (has, (then, tt))

  gone_have : (before after : TargetStanding) → AllHave before → AllHave after → AllHave (gone_down before after)
  gone_have (Is_up r) (Is_up s) (has, none) (then, nothing) = gone_if r.active s.active (r.active.sequence == s.active.sequence) has then
  gone_have (Is_up r) (Is_down active interrupted) have then = then
  gone_have (Is_down active interrupted) after have then = have

  settled_has : (sequence : ℕ) (active : StandingView) (interrupted : Option StandingView) → AllHave (Is_down active interrupted) → Has (settled sequence active interrupted)
  settled_has sequence active None (has, none) = has
  settled_has sequence active (Some new) (has, (then, none)) = by (sequence == new.sequence)
    where
      by : (b : Bool) → Has (cond b new active)
      by true = then
      by false = has

  come_have : (first_port sequence : ℕ) (state : TargetStanding) → AllHave state → AllHave (come_up first_port sequence state)
  come_have first_port sequence (Is_up r) have = have
  come_have first_port sequence (Is_down active interrupted) have = (settled_has sequence active interrupted have, tt)

  noted_have : (notes : List Note) (before after : TargetStanding) → AllHave before → AllHave after → AllHave (noted notes before after)
  noted_have [] before after have then = then
  noted_have (Went_down ∷ notes) before after have then = let down = gone_have before after have then in noted_have notes (gone_down before after) (gone_down before after) down down
  noted_have (Came_up first_port sequence ∷ notes) before after have then =
      let up = come_have first_port sequence (gone_down before after) (gone_have before after have then) in
      noted_have notes (come_up first_port sequence (gone_down before after)) (come_up first_port sequence (gone_down before after)) up up
  noted_have (Boot_refused fault ∷ notes) before after have then = let down = gone_have before after have then in noted_have notes (gone_down before after) (gone_down before after) down down

  reached_have : (e : Option Event) (state : TargetStanding) → TargetStaysOrIsNew set state (reached set e state) → HasTarget set state → AllHave state → AllHave (reached set e state)
  reached_have None (Is_up r) change is have = have
  reached_have (Some e) (Is_up r) change is (has, none) = (stays r _ change is has, tt)
  reached_have None (Is_down active interrupted) change is have = have
  reached_have (Some e) (Is_down active interrupted) change is have = have

  pub all_have : Has set.start → (steps : List Step) → AllStayOrAreNew set steps → AllHave (target_at set steps)
  all_have first [] all = (first, tt)
  all_have first (s ∷ earlier) (change, all) =
      let have = all_have first earlier all in
      noted_have s.notes (target_at set earlier) _ have (reached_have (event_for sides.Target (posted_in earlier) s.given) (target_at set earlier) change (has_target set earlier all) have)

  active_one : (state : TargetStanding) → AllHave state → Has (active_in state)
  active_one (Is_up r) have = have.0
  active_one (Is_down active None) have = have.0
  active_one (Is_down active (Some new)) have = have.0

  pub active_has : Has set.start → (steps : List Step) → AllStayOrAreNew set steps → Has (active_in (target_at set steps))
  active_has first steps all = active_one (target_at set steps) (all_have first steps all)
