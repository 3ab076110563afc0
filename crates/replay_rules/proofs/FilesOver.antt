-- What holds of each file that the target writes in a run, where nothing is injected: the row in which it was written.
use Rattle.std.proofs.Common.{Option, ◌≡◌, ℕ, List, [], ◌∷◌, ◌++◌, Some, refl, ap, subst, ◌∙◌}
use Rattle.std.specs.List.{AllByRecursion}
use Rattle.disk_layout.specs.declared.identity.Identity.{Identity}
use Rattle.exchange_trace.specs.declared.trace.Side.TheVariants as sides
use Rattle.exchange_trace.specs.Happenings.{DatagramView, HappeningView}
use Rattle.exchange_trace.specs.Logs.{Event, event_for}
use Rattle.exchange_trace.specs.Posts.{posted_in}
use Rattle.exchange_trace.specs.Steps.{Step}
use Rattle.accept_rules.specs.Permissions.{AcceptsPermitted}
use Rattle.transfer_end.specs.OtherEnds.{MoveHasRole, MovesStayFair}
use Rattle.transfer_end.specs.Transfers.{Reads, Role, ServesRead, ServesWrite, Transfer, Writes}
use Rattle.session_rules.specs.declared.outcome.FileKind.{FileKind}
use Rattle.session_rules.proofs.BufferLemmas.{SumsJoin}
use Rattle.session_rules.specs.FileNames.{file_name}
use Rattle.session_rules.proofs.ReadFileLemmas.{RequestsAreSpelled}
use Rattle.session_rules.proofs.SoundLogLemmas.{PayloadsAreBytes}
use Rattle.session_rules.proofs.SoundnessLemmas.{HeadersAreSpelled}
use Rattle.session_rules.specs.Target.{target_decision}
use Rattle.session_rules.proofs.TargetLemmas.{seen_row}
use Rattle.session_rules.specs.TargetLog.{TargetReading, target_extended, target_view}
use Rattle.session_rules.specs.TargetRows.{RowView}
use Rattle.replay_rules.specs.BothEnds.{Is_up, Setting, TargetStanding, target_at}
use Rattle.replay_rules.proofs.ChangeLemmas.{HasTarget}
use Rattle.replay_rules.specs.Causes.{BeginsSmall}
use Rattle.replay_rules.specs.MediaTraces.{LengthsAreTold}
use Rattle.replay_rules.specs.OtherEndTraces.{IsUninjected, WhatArrivesWasSent, former_at, transfers_of}
use Rattle.replay_rules.proofs.TieLemmas.{HasLive, target_is_live}
use Rattle.replay_rules.proofs.EachBefore.{AllOver, NewOver, roles_mapped, trace_over}
use Rattle.replay_rules.proofs.PlacedRows.{PlacedRow, SessionPlaced, StatePlaced, placed_before, reached_placed, state_placed}
use Rattle.replay_rules.proofs.AnsweredLater.{one_before}
use Rattle.replay_rules.proofs.Reasons.{HasText, UploadSmall}
use Rattle.replay_rules.proofs.RowsFit.{RowFits}
use Rattle.replay_rules.proofs.SessionRows.{BringsAt, SessionFits, StateFits, reached_fits, state_fits}
use Rattle.replay_rules.proofs.SmallLoads.{HasSmallLoads, begins_with_small, installs_small}
use Rattle.replay_rules.proofs.SmallTransfers.{brings_at}
use Rattle.replay_rules.proofs.StatusFiles.{AllWanted}
use Rattle.replay_rules.proofs.FilesInRows.{IsAskedSo, RowWrites, moves_asked, row_kind, row_writes}
use Rattle.replay_rules.proofs.ListedTraces.{IsNamedAs, same_target}

-- a file of a kind, as a session of the target wrote it in a row of that kind
pub record IsOfRow (earlier : List Transfer) (kind : FileKind) (file : List ℕ) : Type 0 where
  pub row : RowView
  pub is_kind : row_kind row ≡ kind
  pub writes : RowWrites row file
  pub placed : PlacedRow row earlier
  pub fits : RowFits AllWanted UploadSmall HasText row

-- so it is of what the target writes
abbrev pub FilesOver : Setting → List Step → Role → List Transfer → Type 0
FilesOver set steps role earlier = IsNamedAs set (IsOfRow earlier) role

still_files : (set : Setting) (s : Step) (steps : List Step) (role : Role) (earlier : List Transfer) → FilesOver set steps role earlier → FilesOver set (s ∷ steps) role earlier
still_files set s steps (Writes name o file) earlier h = h
still_files set s steps (Reads name o) earlier h = tt
still_files set s steps (ServesRead name o file) earlier h = tt
still_files set s steps (ServesWrite name o) earlier h = tt

module _ (joins : SumsJoin) (moves : MovesStayFair) (spells : HeadersAreSpelled) (payloads : PayloadsAreBytes) (requests : RequestsAreSpelled) (arrives : WhatArrivesWasSent) (set : Setting) (permits : AcceptsPermitted set.accepts) (told : LengthsAreTold set.media)
    (begins_small : BeginsSmall set.start) where
  module _ (given : HappeningView) (posts : List DatagramView) (steps : List Step) (r : TargetReading) (e : Event) (up : target_at set steps ≡ Is_up r) (comes : event_for sides.Target (posted_in steps) given ≡ Some e)
      (is : IsUninjected set (record { given = given; posts = posts; notes = [] } ∷ steps)) where
    abbrev quiet_step : Step
    quiet_step = record { given = given; posts = posts; notes = [] }

    abbrev then : TargetReading
    then = target_extended set.accepts r e

    placed_now : SessionPlaced then.end then.live
    placed_now = reached_placed set joins (Some e) (Is_up r) (subst (λ (state : TargetStanding). HasLive state) up (target_is_live joins set steps)) (subst StatePlaced up (state_placed set joins steps))

    fits_now : SessionFits AllWanted UploadSmall HasText then.live
    fits_now =
        let brings : BringsAt AllWanted UploadSmall HasText HasSmallLoads set (Is_up r) (Some e) =
        subst (λ (state : TargetStanding). BringsAt AllWanted UploadSmall HasText HasSmallLoads set state (Some e)) up
        (subst (λ (x : Option Event). BringsAt AllWanted UploadSmall HasText HasSmallLoads set (target_at set steps) x) comes (brings_at joins moves spells payloads requests arrives set permits told begins_small quiet_step steps is)) in
        (reached_fits AllWanted UploadSmall HasText HasSmallLoads set installs_small tt joins (Some e) (Is_up r) (subst (λ (state : TargetStanding). HasLive state) up (target_is_live joins set steps)) brings
        (subst (StateFits AllWanted UploadSmall HasText HasSmallLoads set) up
        (state_fits AllWanted UploadSmall HasText HasSmallLoads set installs_small tt joins (IsUninjected set) (one_before set) (brings_at joins moves spells payloads requests arrives set permits told begins_small) (begins_with_small set.start begins_small) steps (one_before set quiet_step steps is)))).0

    asked_over : (role : Role) → IsAskedSo set.accepts r e role → NewOver (FilesOver set (quiet_step ∷ steps)) (former_at set steps) then.end role
    asked_over (Writes name o file) asked = λ t live. (
        let h = asked refl in
        let row : RowView = seen_row h.session in
        let is = row_writes (target_view r) row name o file h.asks in (
          row_kind row,
          is.0 ∙ ap (λ (id : Identity). file_name id.hw id.pos (row_kind row)) (subst (λ (state : TargetStanding). HasTarget set state) up (same_target set steps)),
          record { row = row; is_kind = refl; writes = is.1; placed = placed_before row then.end.past (former_at set steps) (subst (SessionPlaced then.end) h.live placed_now).placed; fits = subst (SessionFits AllWanted UploadSmall HasText) h.live fits_now },
        )
        )
    asked_over (Reads name o) asked = λ t live. tt
    asked_over (ServesRead name o file) asked = λ t live. tt
    asked_over (ServesWrite name o) asked = λ t live. tt

  abbrev Fact : List Step → Type 0
  Fact steps = IsUninjected set steps

  begins : (given : HappeningView) (posts : List DatagramView) (steps : List Step) (r : TargetReading) (e : Event) → target_at set steps ≡ Is_up r → event_for sides.Target (posted_in steps) given ≡ Some e → Fact (record { given = given; posts = posts; notes = [] } ∷ steps)
      → AllByRecursion (MoveHasRole (NewOver (FilesOver set (record { given = given; posts = posts; notes = [] } ∷ steps)) (former_at set steps) (target_extended set.accepts r e).end)) (target_decision set.accepts (target_view r) e).moves
  begins given posts steps r e up comes fact =
      roles_mapped (IsAskedSo set.accepts r e) (NewOver (FilesOver set (record { given = given; posts = posts; notes = [] } ∷ steps)) (former_at set steps) (target_extended set.accepts r e).end)
      (asked_over given posts steps r e up comes fact) _ (moves_asked joins set.accepts r e (subst (λ (state : TargetStanding). HasLive state) up (target_is_live joins set steps)))

  pub target_files_over : (steps : List Step) → IsUninjected set steps → AllOver (FilesOver set steps) (transfers_of (target_at set steps) ++ former_at set steps)
  target_files_over steps is = trace_over set (FilesOver set) Fact (one_before set) (still_files set) begins steps is
