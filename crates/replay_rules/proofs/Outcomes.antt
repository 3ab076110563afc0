-- Proofs that sessions are denied and stopped for the target's reasons.
use Rattle.std.proofs.Common.{◌≡◌, ◌⊎◌, inl, inr, ℕ, List, [], ◌∷◌, ◌++◌, Some, sym, subst, ◌∙◌}
use Rattle.load_base.specs.Text.{IsText}
use Rattle.exchange_trace.specs.Steps.{Step}
use Rattle.transfer_end.specs.OtherEnds.{MovesStayFair, TellsLength, file_sent}
use Rattle.transfer_end.specs.Transfers.{Reads, Role, ServesRead, ServesWrite, Writes}
use Rattle.session_rules.specs.declared.outcome.Outcome.TheVariants.{Denied, TargetStopped}
use Rattle.session_rules.proofs.BufferLemmas.{SumsJoin}
use Rattle.session_rules.specs.Loader.{EndedSession}
use Rattle.session_rules.specs.LoaderRoles.{loader_row}
use Rattle.session_rules.specs.LoaderRows.{LoaderRow, Reads_lci, Reads_lui, Serves_files, Takes_lcl, Takes_lcs, Takes_lus, Writes_lur}
use Rattle.session_rules.proofs.ReadFileLemmas.{RequestsAreSpelled}
use Rattle.session_rules.proofs.SoundnessLemmas.{HeadersAreSpelled}
use Rattle.session_rules.proofs.SoundLogLemmas.{PayloadsAreBytes}
use Rattle.replay_rules.specs.BothEnds.{Setting, loader_at, target_at}
use Rattle.replay_rules.specs.Changes.{AllStayOrAreNew, ChangesAreNew}
use Rattle.replay_rules.specs.OtherEndTraces.{IsUninjected, WhatArrivesWasSent, former_at, transfers_of}
use Rattle.replay_rules.proofs.AnsweredLater.{one_before}
use Rattle.replay_rules.proofs.EachBefore.{IsOver}
use Rattle.replay_rules.proofs.BadFiles.{all_good}
use Rattle.replay_rules.specs.Causes.{AllDeniedWhereSpent, AllStoppedWhereFailed, DenialsAreForSequence, EndsAs, FilesAreGood, IsDeniedForSequence, IsStoppedByVerdict, StopsAreForVerdicts}
use Rattle.replay_rules.proofs.Arrived.{EndedByTarget, ended_by_target}
use Rattle.replay_rules.proofs.OwnStops.{IsLusRow, over, stopped_in_session}
use Rattle.replay_rules.proofs.Replies.{Describes, FileLaws, IsStoppedIn, ReadsStoppedLcs, denial, denial_text, lcs_stop, row_denied, row_stopped, stop, stop_text, stopped_in}
use Rattle.replay_rules.proofs.Spent.{active_spent, step_spent}
use Rattle.replay_rules.proofs.TargetFiles.{BeginsWell, IsDenial, IsLcsStop, IsStop}
use Rattle.replay_rules.proofs.StopsOver.{FailedAfter, StopsOver}
use Rattle.replay_rules.proofs.TargetTells.{IsToldCause, ident_begins}

same_file : (f g : List ℕ) → Some f ≡ Some g → f ≡ g
same_file f g e = cc

module _ (set : Setting) (s : Step) (earlier : List Step) where
  denied_by : (role : Role) (bytes file text : List ℕ) → file_sent role ≡ Some file → IsToldCause set earlier role → (TellsLength role → bytes ≡ file) → IsDenial bytes → Describes bytes text [] → IsDeniedForSequence set (s ∷ earlier) text
  denied_by (Writes name o f) bytes file text sent told whole denies says =
      let same : bytes ≡ f = whole tt ∙ sym (same_file f file sent) in absurd (told.no_denial (subst IsDenial same denies))
  denied_by (ServesRead name o f) bytes file text sent told whole denies says =
      let same : bytes ≡ f = whole told.small ∙ sym (same_file f file sent) in
      let here : IsDenial f = subst IsDenial same denies in
      record {
        spent = active_spent (target_at set (s ∷ earlier)) (step_spent set s earlier (told.spent here));
        tells = denial_text text (subst (λ (x : List ℕ). Describes x text []) (same ∙ told.denies here) says);
      }
  denied_by (Reads name o) bytes file text sent told whole denies says = absurd cc
  denied_by (ServesWrite name o) bytes file text sent told whole denies says = absurd cc

module _ (joins : SumsJoin) (moves : MovesStayFair) (laws : FileLaws) (set : Setting) (hw : BeginsWell set.start.identity.hw) (s : Step) (earlier : List Step) (is : IsUninjected set (s ∷ earlier)) (text : List ℕ) (session : EndedSession)
    (grows : (loader_at set (s ∷ earlier)).ended ≡ session ∷ (loader_at set earlier).ended) (h : EndedByTarget set s earlier (TargetStopped text)) (lus : IsLusRow (loader_row h.arrived.ends.session)) where
  abbrev over_now : IsOver (StopsOver set earlier) (transfers_of (target_at set earlier) ++ former_at set earlier) h.other
  over_now = over joins moves set hw s earlier is text session grows h lus

  stopped_for : (rest : List ℕ) → IsText text → Describes h.bytes text rest → FailedAfter set earlier over_now.earlier h.bytes → IsStoppedByVerdict set (s ∷ earlier) text
  stopped_for rest fit says f =
      stopped_in_session joins moves set hw s earlier is text session grows h lus h.bytes f
      (λ also. stop_text f.upload.request f.upload.arrived f.upload.reports f.reason text rest fit (subst (λ (x : List ℕ). Describes x text rest) f.writes says) also)

  stopped_by : (role : Role) → file_sent role ≡ Some h.file → IsToldCause set earlier role → (TellsLength role → h.bytes ≡ h.file) → StopsOver set earlier role over_now.earlier
      → IsLcsStop h.bytes ⊎ (IsStop h.bytes × IsText text × ((rest : List ℕ) × Describes h.bytes text rest)) → IsStoppedByVerdict set (s ∷ earlier) text
  stopped_by (Writes name o f) sent told whole over (inl stops) =
      let same : h.bytes ≡ f = whole tt ∙ sym (same_file f h.file sent) in absurd (told.no_lcs (subst IsLcsStop same stops))
  stopped_by (Writes name o f) sent told whole over (inr (stops, fit, (rest, says))) =
      let same : h.bytes ≡ f = whole tt ∙ sym (same_file f h.file sent) in
      stopped_for rest fit says (subst (λ (x : List ℕ). FailedAfter set earlier over_now.earlier x) (sym same) (over (subst IsStop same stops)))
  stopped_by (ServesRead name o f) sent told whole over (inl stops) =
      let same : h.bytes ≡ f = whole told.small ∙ sym (same_file f h.file sent) in absurd (told.no_lcs (subst IsLcsStop same stops))
  stopped_by (ServesRead name o f) sent told whole over (inr (stops, fit, says)) =
      let same : h.bytes ≡ f = whole told.small ∙ sym (same_file f h.file sent) in absurd (told.no_stop (subst IsStop same stops))
  stopped_by (Reads name o) sent told whole over stops = absurd cc
  stopped_by (ServesWrite name o) sent told whole over stops = absurd cc

  stopped_lus_row : IsStoppedByVerdict set (s ∷ earlier) text
  stopped_lus_row = stopped_by h.other.role h.sent h.cause h.whole over_now.over (stop laws h.bytes h.fit text (row_stopped h.bytes text (loader_row h.arrived.ends.session) (h.turn (λ kind offset e. cc))))

-- no LCS stops a session
lcs_not : (set : Setting) (earlier : List Step) (role : Role) (bytes file : List ℕ) → file_sent role ≡ Some file → IsToldCause set earlier role → (TellsLength role → bytes ≡ file) → IsLcsStop bytes → ⊥
lcs_not set earlier (Writes name o f) bytes file sent told whole stops =
    let same : bytes ≡ f = whole tt ∙ sym (same_file f file sent) in told.no_lcs (subst IsLcsStop same stops)
lcs_not set earlier (ServesRead name o f) bytes file sent told whole stops =
    let same : bytes ≡ f = whole told.small ∙ sym (same_file f file sent) in told.no_lcs (subst IsLcsStop same stops)
lcs_not set earlier (Reads name o) bytes file sent told whole stops = absurd cc
lcs_not set earlier (ServesWrite name o) bytes file sent told whole stops = absurd cc

lus_row : (bytes : List ℕ) (row : LoaderRow) → IsStoppedIn bytes row → (ReadsStoppedLcs bytes → ⊥) → IsLusRow row
lus_row bytes Takes_lus stops not = tt
lus_row bytes Serves_files stops not = tt
lus_row bytes Takes_lcs stops not = absurd (not stops)
lus_row bytes Reads_lci stops not = absurd stops
lus_row bytes Reads_lui stops not = absurd stops
lus_row bytes Takes_lcl stops not = absurd stops
lus_row bytes Writes_lur stops not = absurd stops

module _ (joins : SumsJoin) (moves : MovesStayFair) (payloads : PayloadsAreBytes) (arrives : WhatArrivesWasSent) (laws : FileLaws) (set : Setting) (hw : BeginsWell set.start.identity.hw) where
  denied : (s : Step) (earlier : List Step) → IsUninjected set (s ∷ earlier) → AllStayOrAreNew set earlier → (text : List ℕ) → EndsAs set s earlier (Denied text) → IsDeniedForSequence set (s ∷ earlier) text
  denied s earlier is changes text ends =
      let h : EndedByTarget set s earlier (Denied text) = ended_by_target joins payloads arrives set hw s earlier is changes (Denied text) tt ends in
      let (denies, says) = denial laws h.bytes h.fit text (row_denied h.bytes text (loader_row h.arrived.ends.session) (h.turn (λ kind offset e. cc))) in
      denied_by set s earlier h.other.role h.bytes h.file text h.sent h.cause h.whole denies says

  stopped : (s : Step) (earlier : List Step) → IsUninjected set (s ∷ earlier) → AllStayOrAreNew set earlier → (text : List ℕ) → EndsAs set s earlier (TargetStopped text) → IsStoppedByVerdict set (s ∷ earlier) text
  stopped s earlier is changes text ends =
      let h : EndedByTarget set s earlier (TargetStopped text) = ended_by_target joins payloads arrives set hw s earlier is changes (TargetStopped text) tt ends in
      stopped_lus_row joins moves laws set hw s earlier is text ends.session ends.ended h
      (lus_row h.bytes (loader_row h.arrived.ends.session) (stopped_in h.bytes text (loader_row h.arrived.ends.session) (h.turn (λ kind offset e. cc))) (λ read. lcs_not set earlier h.other.role h.bytes h.file h.sent h.cause h.whole (lcs_stop laws h.bytes h.fit read)))

  all_denied : (steps : List Step) → IsUninjected set steps → AllStayOrAreNew set steps → AllDeniedWhereSpent set steps
  all_denied [] is changes = tt
  all_denied (s ∷ earlier) is changes = (denied s earlier is changes.1, all_denied earlier (one_before set s earlier is) changes.1)

  all_stopped : (steps : List Step) → IsUninjected set steps → AllStayOrAreNew set steps → AllStoppedWhereFailed set steps
  all_stopped [] is changes = tt
  all_stopped (s ∷ earlier) is changes = (stopped s earlier is changes.1, all_stopped earlier (one_before set s earlier is) changes.1)

pub denials_are_for_sequence : SumsJoin → MovesStayFair → PayloadsAreBytes → WhatArrivesWasSent → FileLaws → ChangesAreNew → DenialsAreForSequence
denials_are_for_sequence joins moves payloads arrives laws changes set steps permits hw is = all_denied joins moves payloads arrives laws set (ident_begins set.start.identity.hw hw) steps is (changes set steps permits is.carries)

pub stops_are_for_verdicts : SumsJoin → MovesStayFair → PayloadsAreBytes → WhatArrivesWasSent → FileLaws → ChangesAreNew → StopsAreForVerdicts
stops_are_for_verdicts joins moves payloads arrives laws changes set steps permits hw is = all_stopped joins moves payloads arrives laws set (ident_begins set.start.identity.hw hw) steps is (changes set steps permits is.carries)

pub files_are_good : SumsJoin → MovesStayFair → HeadersAreSpelled → PayloadsAreBytes → RequestsAreSpelled → WhatArrivesWasSent → FileLaws → ChangesAreNew → FilesAreGood
files_are_good joins moves spells payloads requests arrives laws changes set steps permits hw named small lengths listable is =
    all_good joins moves spells payloads requests arrives laws set permits (ident_begins set.start.identity.hw hw) named small lengths steps is listable (changes set steps permits is.carries)
