-- Where the target writes that it stops, the verdict said so in the step in which the transfer began.
use Rattle.std.proofs.Common.{◌≡◌, ℕ, List, [], ◌∷◌, ◌++◌, Option, Some, refl, sym, ap, subst, ◌∙◌}
use Rattle.std.specs.List.{AllByRecursion}
use Rattle.exchange_trace.specs.declared.trace.Side.TheVariants as sides
use Rattle.exchange_trace.specs.Happenings.{DatagramView, HappeningView}
use Rattle.exchange_trace.specs.Logs.{Event, event_for}
use Rattle.exchange_trace.specs.Posts.{posted_in}
use Rattle.exchange_trace.specs.Steps.{Step}
use Rattle.transfer_end.specs.OtherEnds.{MoveHasRole}
use Rattle.transfer_end.specs.Transfers.{Reads, Role, ServesRead, ServesWrite, Transfer, Writes}
use Rattle.session_rules.specs.declared.reason.Reason.{Reason}
use Rattle.session_rules.proofs.BufferLemmas.{SumsJoin}
use Rattle.session_rules.specs.NewConfigs.{stopped_by, verdict_in}
use Rattle.session_rules.specs.Reports.{stopped_lus}
use Rattle.session_rules.specs.Target.{target_decision}
use Rattle.session_rules.specs.TargetLog.{TargetReading, TargetSessionLog, target_extended, target_view}
use Rattle.session_rules.specs.TargetRows.{UploadEnd, WholeRow, Writes_stop, row_view}
use Rattle.replay_rules.specs.BothEnds.{Is_up, Setting, TargetStanding, reached, target_at}
use Rattle.replay_rules.proofs.ChangeLemmas.{HasTarget}
use Rattle.replay_rules.specs.OtherEndTraces.{former_at, target_transfers, transfers_of}
use Rattle.replay_rules.proofs.TieLemmas.{HasLive, target_is_live}
use Rattle.replay_rules.proofs.BegunSessions.{BegunRow, HasBegunBy, SessionBegun, StateBegun, begun_before, reached_begun, state_begun}
use Rattle.replay_rules.proofs.EachBefore.{AllOver, NewOver, newest_then, roles_mapped, trace_over}
use Rattle.replay_rules.proofs.ListedTraces.{same_target}
use Rattle.replay_rules.proofs.PlacedRows.{HasServed, PlacedRow, SessionPlaced, StatePlaced, reached_placed, served_before, state_placed}
use Rattle.replay_rules.proofs.TargetRoles.{IsTaking}
use Rattle.replay_rules.specs.Causes.{FailsFor}
use Rattle.replay_rules.proofs.TargetFiles.{BeginsWell, IsStop, StopsNow, TellsCause, moves_tell}
use Rattle.replay_rules.proofs.TargetTells.{hardware_at}

-- After one of these steps the verdict of a session of the target was that it fails for a reason, and this LUS says so; the
-- transfer that was the newest then came after these, of which the session has had that with which it began, and took a request.
pub record FailedAfter (set : Setting) (steps : List Step) (earlier : List Transfer) (file : List ℕ) : Type 0 where
  pub since : List Step
  pub failed : Step
  pub before : List Step
  pub session : TargetSessionLog
  pub reason : Reason
  pub upload : UploadEnd
  pub split : steps ≡ since ++ failed ∷ before
  pub fails : FailsFor (target_at set (failed ∷ before)) session reason
  pub writes : file ≡ stopped_lus upload.request upload.arrived upload.reports reason
  pub newest : Transfer
  pub transfers : target_transfers set failed before ≡ newest ∷ earlier
  pub begun : HasBegunBy session.done earlier
  pub taken : HasServed IsTaking earlier

abbrev pub StopsOver : Setting → List Step → Role → List Transfer → Type 0
StopsOver set steps (Writes name options file) earlier = IsStop file → FailedAfter set steps earlier file
StopsOver set steps role earlier = Unit {0}

still_failed : (set : Setting) (s : Step) (steps : List Step) (earlier : List Transfer) (file : List ℕ) → FailedAfter set steps earlier file → FailedAfter set (s ∷ steps) earlier file
still_failed set s steps earlier file h = record {
  since = s ∷ h.since;
  failed = h.failed;
  before = h.before;
  session = h.session;
  reason = h.reason;
  upload = h.upload;
  split = ap (λ (x : List Step). s ∷ x) h.split;
  fails = h.fails;
  writes = h.writes;
  newest = h.newest;
  transfers = h.transfers;
  begun = h.begun;
  taken = h.taken;
}

still_stops : (set : Setting) (s : Step) (steps : List Step) (role : Role) (earlier : List Transfer) → StopsOver set steps role earlier → StopsOver set (s ∷ steps) role earlier
still_stops set s steps (Writes name o file) earlier h = λ stop. still_failed set s steps earlier file (h stop)
still_stops set s steps (Reads name o) earlier h = tt
still_stops set s steps (ServesRead name o file) earlier h = tt
still_stops set s steps (ServesWrite name o) earlier h = tt

module _ (joins : SumsJoin) (set : Setting) (hw : BeginsWell set.start.identity.hw) where
  module _ (given : HappeningView) (posts : List DatagramView) (steps : List Step) (r : TargetReading) (e : Event) (up : target_at set steps ≡ Is_up r) (comes : event_for sides.Target (posted_in steps) given ≡ Some e) where
    abbrev quiet_step : Step
    quiet_step = record { given = given; posts = posts; notes = [] }

    abbrev then : TargetReading
    then = target_extended set.accepts r e

    state_is : target_at set (quiet_step ∷ steps) ≡ Is_up then
    state_is = ap (λ (state : TargetStanding). reached set (event_for sides.Target (posted_in steps) given) state) up ∙ ap (λ (x : Option Event). reached set x (Is_up r)) comes

    was_live : HasLive (Is_up r)
    was_live = subst (λ (state : TargetStanding). HasLive state) up (target_is_live joins set steps)

    was_placed : StatePlaced (Is_up r)
    was_placed = subst StatePlaced up (state_placed set joins steps)

    -- what the session that stops has served
    taken_now : (h : TargetSessionLog) (upload : UploadEnd) → then.live ≡ Some h → h.row ≡ Writes_stop upload → HasServed IsTaking then.end.past
    taken_now h upload live row =
        subst (λ (x : WholeRow). PlacedRow (row_view x) then.end.past) row
        (subst (SessionPlaced then.end) live (reached_placed set joins (Some e) (Is_up r) was_live was_placed)).placed

    begun_now : (h : TargetSessionLog) (upload : UploadEnd) → then.live ≡ Some h → h.row ≡ Writes_stop upload → HasBegunBy h.done then.end.past
    begun_now h upload live row =
        subst (λ (x : WholeRow). BegunRow (row_view x) h.done then.end.past) row
        (subst (SessionBegun then.end) live (reached_begun set joins (Some e) (Is_up r) was_live was_placed (subst StateBegun up (state_begun set joins steps))))

    stops_over : (role : Role) → TellsCause set.accepts r e role → NewOver (StopsOver set (quiet_step ∷ steps)) (former_at set steps) then.end role
    stops_over (Writes name o file) (no_denial, no_lcs, stops) = λ t live stop. (
        let h : StopsNow set.accepts then file = stops stop in
        record {
          since = [];
          failed = quiet_step;
          before = steps;
          session = h.session;
          reason = h.reason;
          upload = h.upload;
          split = refl;
          fails = subst (λ (state : TargetStanding). FailsFor state h.session h.reason) (sym state_is) (h.live, ap verdict_in h.row ∙ ap stopped_by h.why);
          writes = h.writes;
          newest = t;
          transfers = newest_then set given posts steps r e t up comes live;
          begun = begun_before h.session.done then.end.past (former_at set steps) (begun_now h.session h.upload h.live h.row);
          taken = served_before IsTaking then.end.past (former_at set steps) (taken_now h.session h.upload h.live h.row);
        }
        )
    stops_over (Reads name o) h = λ t live. tt
    stops_over (ServesRead name o file) h = λ t live. tt
    stops_over (ServesWrite name o) h = λ t live. tt

  abbrev Fact : List Step → Type 0
  Fact steps = Unit {0}

  begins : (given : HappeningView) (posts : List DatagramView) (steps : List Step) (r : TargetReading) (e : Event) → target_at set steps ≡ Is_up r → event_for sides.Target (posted_in steps) given ≡ Some e → Fact (record { given = given; posts = posts; notes = [] } ∷ steps)
      → AllByRecursion (MoveHasRole (NewOver (StopsOver set (record { given = given; posts = posts; notes = [] } ∷ steps)) (former_at set steps) (target_extended set.accepts r e).end)) (target_decision set.accepts (target_view r) e).moves
  begins given posts steps r e up comes fact =
      roles_mapped (TellsCause set.accepts r e) (NewOver (StopsOver set (record { given = given; posts = posts; notes = [] } ∷ steps)) (former_at set steps) (target_extended set.accepts r e).end)
      (stops_over given posts steps r e up comes) _
      (moves_tell joins set.accepts r e (subst (λ (state : TargetStanding). HasLive state) up (target_is_live joins set steps)) (hardware_at set r hw (subst (λ (state : TargetStanding). HasTarget set state) up (same_target set steps))))

  -- whatever comes to the target
  pub target_stops_over : (steps : List Step) → AllOver (StopsOver set steps) (transfers_of (target_at set steps) ++ former_at set steps)
  target_stops_over steps = trace_over set (StopsOver set) Fact (λ s before fact. tt) (still_stops set) begins steps tt
