-- Where the target writes a list, it was due in the step in which the transfer began.
use Rattle.std.proofs.Common.{◌≡◌, List, [], ◌∷◌, ◌++◌, ℕ, Option, Some, refl, sym, ap, subst, ◌∙◌}
use Rattle.std.specs.List.{AllByRecursion}
use Rattle.disk_layout.specs.declared.identity.Identity.{Identity}
use Rattle.disk_layout.specs.Holds.{outline_of}
use Rattle.exchange_trace.specs.declared.trace.Side.TheVariants as sides
use Rattle.exchange_trace.specs.Happenings.{DatagramView, HappeningView}
use Rattle.exchange_trace.specs.Logs.{Event, event_for}
use Rattle.exchange_trace.specs.Posts.{posted_in}
use Rattle.exchange_trace.specs.Steps.{Step}
use Rattle.transfer_end.specs.OtherEnds.{MoveHasRole}
use Rattle.transfer_end.specs.Transfers.{Reads, Role, ServesRead, ServesWrite, Transfer, Writes}
use Rattle.session_rules.proofs.BufferLemmas.{SumsJoin}
use Rattle.session_rules.specs.FileNames.{file_name}
use Rattle.session_rules.proofs.ListLemmas.{moves_ask}
use Rattle.session_rules.specs.Lists.{IsAskedRole}
use Rattle.session_rules.specs.Reports.{lcl_file}
use Rattle.session_rules.specs.Target.{target_decision}
use Rattle.session_rules.specs.TargetLog.{TargetReading, target_extended, target_view}
use Rattle.replay_rules.specs.BothEnds.{Is_up, Setting, TargetStanding, reached, target_at}
use Rattle.replay_rules.proofs.ChangeLemmas.{HasTarget}
use Rattle.replay_rules.specs.Histories.{active_at, active_in}
use Rattle.replay_rules.specs.ListTraces.{IsWrittenInTime, TargetWritesInTime}
use Rattle.replay_rules.specs.OtherEndTraces.{former_at, target_transfers, transfers_of}
use Rattle.replay_rules.specs.Promises.{ListIsDue}
use Rattle.replay_rules.proofs.TieLemmas.{HasLive, target_is_live}
use Rattle.replay_rules.proofs.EachBefore.{AllOver, NewOver, newest_then, over_at, roles_mapped, trace_over}
use Rattle.replay_rules.proofs.ListedTraces.{IsWrittenAs, list_due, not_due, same_target}

-- The file is the list of what was active before one of these steps, which made a session's list due; the transfer that was the
-- newest then came after these.
pub record ListWasDueAfter (set : Setting) (steps : List Step) (earlier : List Transfer) (file : List ℕ) : Type 0 where
  pub since : List Step
  pub made : Step
  pub before : List Step
  pub split : steps ≡ since ++ made ∷ before
  pub due : ListIsDue (target_at set (made ∷ before))
  pub newly : ListIsDue (target_at set before) → ⊥
  pub lists : file ≡ lcl_file (outline_of (active_at set before))
  pub newest : Transfer
  pub transfers : target_transfers set made before ≡ newest ∷ earlier

abbrev pub WritesOver : Setting → List Step → Role → List Transfer → Type 0
WritesOver set steps role earlier = IsWrittenAs set (ListWasDueAfter set steps earlier) role

still_after : (set : Setting) (s : Step) (steps : List Step) (earlier : List Transfer) (file : List ℕ) → ListWasDueAfter set steps earlier file → ListWasDueAfter set (s ∷ steps) earlier file
still_after set s steps earlier file h =
    record { since = s ∷ h.since; made = h.made; before = h.before; split = ap (λ (x : List Step). s ∷ x) h.split; due = h.due; newly = h.newly; lists = h.lists; newest = h.newest; transfers = h.transfers }

still_writes : (set : Setting) (s : Step) (steps : List Step) (role : Role) (earlier : List Transfer) → WritesOver set steps role earlier → WritesOver set (s ∷ steps) role earlier
still_writes set s steps (Writes name o file) earlier (kind, named, due) = (kind, named, λ e. still_after set s steps earlier file (due e))
still_writes set s steps (Reads name o) earlier h = tt
still_writes set s steps (ServesRead name o file) earlier h = tt
still_writes set s steps (ServesWrite name o) earlier h = tt

module _ (joins : SumsJoin) (set : Setting) where
  module _ (given : HappeningView) (posts : List DatagramView) (steps : List Step) (r : TargetReading) (e : Event) (up : target_at set steps ≡ Is_up r) (comes : event_for sides.Target (posted_in steps) given ≡ Some e) where
    abbrev quiet_step : Step
    quiet_step = record { given = given; posts = posts; notes = [] }

    abbrev then : TargetReading
    then = target_extended set.accepts r e

    asked_over : (role : Role) → IsAskedRole set.accepts r e role → NewOver (WritesOver set (quiet_step ∷ steps)) (former_at set steps) then.end role
    asked_over (Writes name o file) (kind, named, lists) = λ t live. (
      kind,
      named ∙ ap (λ (id : Identity). file_name id.hw id.pos kind) (subst (λ (state : TargetStanding). HasTarget set state) up (same_target set steps)),
      λ is. let asked = lists is in record {
        since = [];
        made = quiet_step;
        before = steps;
        split = refl;
        due = subst (λ (x : Option Event). ListIsDue (reached set x (target_at set steps))) (sym comes) (subst (λ (state : TargetStanding). ListIsDue (reached set (Some e) state)) (sym up) (list_due set r e file asked));
        newly = λ was. not_due set.accepts r e file asked (subst (λ (state : TargetStanding). ListIsDue state) up was);
        lists = asked.lists ∙ ap (λ (state : TargetStanding). lcl_file (outline_of (active_in state))) (sym up);
        newest = t;
        transfers = newest_then set given posts steps r e t up comes live;
      },
    )
    asked_over (Reads name o) h = λ t live. tt
    asked_over (ServesRead name o file) h = λ t live. tt
    asked_over (ServesWrite name o) h = λ t live. tt

  abbrev Fact : List Step → Type 0
  Fact steps = Unit {0}

  begins : (given : HappeningView) (posts : List DatagramView) (steps : List Step) (r : TargetReading) (e : Event) → target_at set steps ≡ Is_up r → event_for sides.Target (posted_in steps) given ≡ Some e → Fact (record { given = given; posts = posts; notes = [] } ∷ steps)
      → AllByRecursion (MoveHasRole (NewOver (WritesOver set (record { given = given; posts = posts; notes = [] } ∷ steps)) (former_at set steps) (target_extended set.accepts r e).end)) (target_decision set.accepts (target_view r) e).moves
  begins given posts steps r e up comes fact =
      roles_mapped (IsAskedRole set.accepts r e) (NewOver (WritesOver set (record { given = given; posts = posts; notes = [] } ∷ steps)) (former_at set steps) (target_extended set.accepts r e).end)
      (asked_over given posts steps r e up comes) _ (moves_ask joins set.accepts r e (subst (λ (state : TargetStanding). HasLive state) up (target_is_live joins set steps)))

  -- whatever comes to the target
  pub target_lists_over : (steps : List Step) → AllOver (WritesOver set steps) (transfers_of (target_at set steps) ++ former_at set steps)
  target_lists_over steps = trace_over set (WritesOver set) Fact (λ s before fact. tt) (still_writes set) begins steps tt

-- what is due so was due
due_in_time : (set : Setting) (steps : List Step) (role : Role) (earlier : List Transfer) → WritesOver set steps role earlier → IsWrittenInTime set steps role
due_in_time set steps (Writes name o file) earlier (kind, named, due) =
    (kind, named, λ e. let h : ListWasDueAfter set steps earlier file = due e in record { since = h.since; made = h.made; before = h.before; split = h.split; due = h.due; newly = h.newly; lists = h.lists })
due_in_time set steps (Reads name o) earlier h = tt
due_in_time set steps (ServesRead name o file) earlier h = tt
due_in_time set steps (ServesWrite name o) earlier h = tt

pub target_writes_in_time : SumsJoin → TargetWritesInTime
target_writes_in_time joins set steps t a =
    let o = over_at (WritesOver set steps) (transfers_of (target_at set steps) ++ former_at set steps) t (target_lists_over joins set steps) a in due_in_time set steps t.role o.earlier o.over
