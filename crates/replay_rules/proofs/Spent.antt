-- Once no sequence number is left, none is left after.
use Rattle.std.proofs.Common.{◌≡◌, ℕ, Bool, true, false, cond, List, [], ◌∷◌, Option, Some, None, refl, arith}
use Rattle.std.specs.Prelude.{◌==◌}
use Rattle.disk_layout.specs.Holds.{StandingView}
use Rattle.exchange_trace.specs.declared.trace.Side.TheVariants as sides
use Rattle.exchange_trace.specs.Logs.{Event, event_for}
use Rattle.exchange_trace.specs.Posts.{posted_in}
use Rattle.exchange_trace.specs.Steps.{Boot_refused, Came_up, Note, Step, Went_down}
use Rattle.transfer_end.specs.Readings.{Reading}
use Rattle.accept_rules.specs.Permissions.{Accepts}
use Rattle.session_rules.specs.Target as target
use Rattle.session_rules.proofs.TargetLemmas.{after}
use Rattle.session_rules.specs.TargetLog.{TargetReading, TargetSessionLog, standing_in, target_extended, target_reading_changed, target_view}
use Rattle.session_rules.specs.TargetRows.{WholeRow, Writes_completion, first_row}
use Rattle.replay_rules.specs.BothEnds.{Is_down, Is_up, Setting, TargetStanding, changed, come_up, gone_down, noted, reached, settled, target_at}
use Rattle.replay_rules.specs.Histories.{active_in}
use Rattle.replay_rules.specs.Causes.{IsSequenceSpent}

abbrev SpentIf : Option StandingView → Type 0
SpentIf None = Unit {0}
SpentIf (Some s) = IsSequenceSpent s

-- so it is of all that may be active
abbrev pub AllSpent : TargetStanding → Type 0
AllSpent (Is_up r) = IsSequenceSpent r.active
AllSpent (Is_down active interrupted) = IsSequenceSpent active × SpentIf interrupted

pub active_spent : (state : TargetStanding) → AllSpent state → IsSequenceSpent (active_in state)
active_spent (Is_up r) h = h
active_spent (Is_down active interrupted) h = h.0

-- ---- what is noted

changed_spent : (before after : StandingView) → IsSequenceSpent after → SpentIf (changed before after)
changed_spent before after h = by (before.sequence == after.sequence)
  where
    by : (b : Bool) → SpentIf (cond b None (Some after))
    by true = tt
    by false = h

settled_spent : (sequence : ℕ) (active : StandingView) (interrupted : Option StandingView) → IsSequenceSpent active → SpentIf interrupted → IsSequenceSpent (settled sequence active interrupted)
settled_spent sequence active None h then = h
settled_spent sequence active (Some new) h then = by (sequence == new.sequence)
  where
    by : (b : Bool) → IsSequenceSpent (cond b new active)
    by true = then
    by false = h

gone_spent : (before after : TargetStanding) → AllSpent before → AllSpent after → AllSpent (gone_down before after)
gone_spent (Is_up r) (Is_up s) h then = (h, changed_spent r.active s.active then)
gone_spent (Is_up r) (Is_down active interrupted) h then = then
gone_spent (Is_down active interrupted) after h then = h

come_spent : (first_port sequence : ℕ) (state : TargetStanding) → AllSpent state → AllSpent (come_up first_port sequence state)
come_spent first_port sequence (Is_up r) h = h
come_spent first_port sequence (Is_down active interrupted) h = settled_spent sequence active interrupted h.0 h.1

noted_spent : (notes : List Note) (before after : TargetStanding) → AllSpent before → AllSpent after → AllSpent (noted notes before after)
noted_spent [] before after h then = then
noted_spent (Went_down ∷ notes) before after h then = let down = gone_spent before after h then in noted_spent notes (gone_down before after) (gone_down before after) down down
noted_spent (Came_up first_port sequence ∷ notes) before after h then =
    let up = come_spent first_port sequence (gone_down before after) (gone_spent before after h then) in
    noted_spent notes (come_up first_port sequence (gone_down before after)) (come_up first_port sequence (gone_down before after)) up up
noted_spent (Boot_refused fault ∷ notes) before after h then = let down = gone_spent before after h then in noted_spent notes (gone_down before after) (gone_down before after) down down

-- ---- a step more

installed_spent : (active : StandingView) (row : WholeRow) → IsSequenceSpent active → IsSequenceSpent (standing_in active row)
installed_spent active (Writes_completion upload loads) h = omega (arith, h)
installed_spent active row h = h

changed_by : (accepts : Accepts) (end : Reading) (r : TargetReading) (live : Option TargetSessionLog) (change : target.TargetChange) → r.live ≡ live → IsSequenceSpent r.active → IsSequenceSpent (target_reading_changed accepts end r change).active
changed_by accepts end r live (target.Continues more) is h = h
changed_by accepts end r live (target.Begins kind) is h = installed_spent r.active (first_row kind r.active.sequence) h
changed_by accepts end r None (target.Turns move more) is h = rw is h
changed_by accepts end r (Some s) (target.Turns move more) is h = rw is (installed_spent r.active _ h)
changed_by accepts end r None (target.Turns_without_port move more) is h = rw is h
changed_by accepts end r (Some s) (target.Turns_without_port move more) is h = rw is (installed_spent r.active _ h)
changed_by accepts end r live (target.Ends why) is h = h

pub extended_spent : (accepts : Accepts) (r : TargetReading) (e : Event) → IsSequenceSpent r.active → IsSequenceSpent (target_extended accepts r e).active
extended_spent accepts r e h =
    let d = target.target_decision accepts (target_view r) e in
    changed_by accepts (after r.end d.moves) r r.live d.change refl h

reached_spent : (set : Setting) (e : Option Event) (state : TargetStanding) → AllSpent state → AllSpent (reached set e state)
reached_spent set None (Is_up r) h = h
reached_spent set (Some e) (Is_up r) h = extended_spent set.accepts r e h
reached_spent set None (Is_down active interrupted) h = h
reached_spent set (Some e) (Is_down active interrupted) h = h

pub step_spent : (set : Setting) (s : Step) (earlier : List Step) → AllSpent (target_at set earlier) → AllSpent (target_at set (s ∷ earlier))
step_spent set s earlier h =
    noted_spent s.notes (target_at set earlier) (reached set (event_for sides.Target (posted_in earlier) s.given) (target_at set earlier)) h
    (reached_spent set (event_for sides.Target (posted_in earlier) s.given) (target_at set earlier) h)
