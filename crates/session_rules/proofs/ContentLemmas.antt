-- Proofs that what there is at a target, with all contents, follows its log.
use Rattle.std.proofs.Common.{◌≡◌, ℕ, List, [], ◌++◌, Option, Some, None, refl, sym, ap, ◌∙◌}
use Rattle.disk_layout.specs.Holds.{StandingView}
use Rattle.exchange_trace.specs.Logs.{Event}
use Rattle.transfer_end.specs.Laws.{IsLive}
use Rattle.transfer_end.specs.Moves.{Move}
use Rattle.transfer_end.specs.Readings.{Reading}
use Rattle.transfer_end.specs.Transfers.{Transfer, arrived_of, arriving_in}
use Rattle.accept_rules.specs.Permissions.{Accepts}
use Rattle.session_rules.specs.declared.reason.Reason.{Reason}
use Rattle.session_rules.proofs.BufferLemmas.{SumsJoin}
use Rattle.session_rules.specs.Contents.{AreKept, ContentsAreKept, ContentsFollow, TargetContents, contents_after, contents_changed, contents_of, session_contents}
use Rattle.session_rules.specs.LoaderLog.{newest}
use Rattle.session_rules.proofs.RowLemmas.{arriving_on, row_follows}
use Rattle.session_rules.specs.Target.{Begins, Continues, Ends, TargetChange, Turns, Turns_without_port, target_decision}
use Rattle.session_rules.proofs.TargetLemmas.{FitsChange, HasTurned, after, decision_fits, row_of_one}
use Rattle.session_rules.specs.TargetLog.{TargetReading, TargetSessionLog, new_session, standing_in, target_extended, target_reading, target_reading_changed, target_view, with_done}
use Rattle.session_rules.specs.TargetRows.{RowMove, WholeRow, first_row, row_moved, row_of}
use Rattle.session_rules.proofs.ViewLemmas.{target_live}

-- ---- what is kept

pub are_kept : (r : TargetReading) → AreKept (contents_of r) (target_view r)
are_kept r = kept r r.live refl
  where
    kept : (r : TargetReading) (live : Option TargetSessionLog) → r.live ≡ live → AreKept (contents_of r) (target_view r)
    kept r None e = record { active = refl; live = rw e refl }
    kept r (Some s) e = record { active = refl; live = rw e refl }

pub contents_are_kept : SumsJoin → ContentsAreKept
contents_are_kept joins = record {
  more = λ row first rest. arriving_on joins row first rest;
  moved = λ accepts active row error bytes. sym (row_follows joins accepts active row error bytes);
}

-- ---- one event more

-- the row after a transfer that is over
row_turned : (accepts : Accepts) (active : StandingView) (end : Reading) (s : TargetSessionLog) (moves : List Move) (move : RowMove) (more : List ℕ) → HasTurned accepts active end s moves move more
    → (with_done accepts active s (newest (after end moves).past)).row ≡ row_moved s.row (arriving_in end.live ++ more) move
row_turned accepts active end s moves move more h =
    ap (λ (ts : List Transfer). row_of accepts active s.row ts) h.is_newest
    ∙ (row_of_one accepts active s.row h.ended
    ∙ (ap (λ (m : RowMove). row_moved s.row (arrived_of h.ended) m) (sym h.comes_to)
    ∙ ap (λ (bytes : List ℕ). row_moved s.row bytes move) (sym h.bytes)))

abbrev reading : Reading → Option TargetSessionLog → StandingView → Option Reason → TargetReading
reading end live active reason = record { end = end; live = live; active = active; reason = reason }

abbrev contents : StandingView → Option TargetSessionLog → Reading → TargetContents
contents active live end = record { active = active; live = session_contents end live }

-- a row is reached in which nothing has arrived
reached_same : (active : StandingView) (end : Reading) (s : TargetSessionLog) (row : WholeRow) → s.row ≡ row → arriving_in end.live ≡ []
    → contents (standing_in active s.row) (Some s) end ≡ record { active = standing_in active row; live = Some (record { row = row; arrived = [] }) }
reached_same active end s row at none = rw (at, none) refl

changed_contents : (accepts : Accepts) (end : Reading) (live : Option TargetSessionLog) (active : StandingView) (reason : Option Reason) (moves : List Move) (change : TargetChange) → FitsChange accepts active end live moves change
    → contents_of (target_reading_changed accepts (after end moves) (reading end live active reason) change) ≡ contents_changed (contents_of (reading end live active reason)) change
changed_contents accepts end None active reason moves (Continues more) fits = refl
changed_contents accepts end None active reason moves (Turns move more) fits = refl
changed_contents accepts end None active reason moves (Turns_without_port move more) fits = refl
changed_contents accepts end None active reason moves (Ends why) fits = refl
changed_contents accepts end None active reason moves (Begins kind) fits = reached_same active (after end moves) (new_session kind active.sequence) (first_row kind active.sequence) refl fits.0
changed_contents accepts end (Some s) active reason moves (Continues more) fits = rw fits.0 refl
changed_contents accepts end (Some s) active reason moves (Turns move more) (turn, none, role) =
    reached_same active (after end moves) (with_done accepts active s (newest (after end moves).past)) _ (row_turned accepts active end s moves move more turn) none
changed_contents accepts end (Some s) active reason moves (Turns_without_port move more) turn =
    ap (λ (row : WholeRow). contents (standing_in active row) None end) (row_turned accepts active end s moves move more turn)
changed_contents accepts end (Some s) active reason moves (Ends why) fits = refl
changed_contents accepts end (Some s) active reason moves (Begins kind) fits = reached_same active (after end moves) (new_session kind active.sequence) (first_row kind active.sequence) refl fits.0

pub contents_extended : SumsJoin → (accepts : Accepts) (r : TargetReading) (e : Event) → IsLive r.end.live
    → contents_of (target_extended accepts r e) ≡ contents_after accepts (target_view r) e (contents_of r)
contents_extended joins accepts r e live =
    let d = target_decision accepts (target_view r) e in
    changed_contents accepts r.end r.live r.active r.reason d.moves d.change (decision_fits joins accepts r e live)

pub contents_follow : SumsJoin → ContentsFollow
contents_follow joins =
    (are_kept, λ accepts first_port active log e. contents_extended joins accepts (target_reading accepts first_port active log) e (target_live joins accepts first_port active log))
