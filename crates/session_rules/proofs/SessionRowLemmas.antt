-- Proof that the row of a session is that of all its transfers.
use Rattle.std.proofs.Common.{◌≡◌, ◌⊎◌, inl, inr, ℕ, List, [], ◌∷◌, ◌++◌, Option, Some, None, refl, sym, ap, subst, ◌∙◌, append-nil}
use Rattle.std.proofs.lemmas.List.Sums.{fold-append}
use Rattle.disk_layout.specs.Holds.{StandingView}
use Rattle.exchange_trace.specs.declared.trace.Side.TheVariants as sides
use Rattle.exchange_trace.specs.Logs.{Event}
use Rattle.transfer_end.specs.Moves.{readings_after}
use Rattle.transfer_end.specs.Readings.{Reading}
use Rattle.transfer_end.specs.Transfers.{Transfer, error_of}
use Rattle.accept_rules.specs.Permissions.{Accepts}
use Rattle.session_rules.specs.declared.outcome.FileKind.{FileKind}
use Rattle.session_rules.specs.declared.reason.Reason.{Reason}
use Rattle.session_rules.specs.LoaderLog.{newest}
use Rattle.session_rules.specs.SessionRows.{IsOfAllTransfers, RowsAreOfAllTransfers, active_as_begun, begun_beside}
use Rattle.session_rules.proofs.SoundLogLemmas.{begins_active}
use Rattle.session_rules.specs.Target.{Begins, Continues, Ends, TargetChange, Turns, Turns_without_port, target_decision}
use Rattle.session_rules.specs.TargetLog.{TargetReading, TargetSessionLog, new_session, standing_in, target_reading, target_reading_changed, target_view, with_done}
use Rattle.session_rules.specs.TargetRows.{Awaits_lur, Gives_denial, Gives_lci, Gives_lui, Over, Reads_file, WholeRow, Writes_completion, Writes_lcl, Writes_lcs, Writes_progress, Writes_ready, Writes_stop, first_row, row_of, row_with}

-- ---- the last rows

-- the session has installed, or is over: whatever its next transfer comes to, it is over then
abbrev IsLast : WholeRow → Type 0
IsLast (Writes_completion e loads) = Unit {0}
IsLast Over = Unit {0}
IsLast row = ⊥

last_ends : (accepts : Accepts) (active : StandingView) (row : WholeRow) (t : Transfer) → IsLast row → row_with accepts active row t ≡ Over
last_ends accepts active (Writes_completion e loads) t last = by (error_of t) refl
  where
    by : (error : Option ℕ) → error_of t ≡ error → row_with accepts active (Writes_completion e loads) t ≡ Over
    by None is = rw is refl
    by (Some code) is = rw is refl
last_ends accepts active Over t last = by (error_of t) refl
  where
    by : (error : Option ℕ) → error_of t ≡ error → row_with accepts active Over t ≡ Over
    by None is = rw is refl
    by (Some code) is = rw is refl
last_ends accepts active Gives_lci t last = absurd last
last_ends accepts active Writes_lcs t last = absurd last
last_ends accepts active Writes_lcl t last = absurd last
last_ends accepts active Gives_lui t last = absurd last
last_ends accepts active Gives_denial t last = absurd last
last_ends accepts active Writes_ready t last = absurd last
last_ends accepts active Awaits_lur t last = absurd last
last_ends accepts active (Reads_file u) t last = absurd last
last_ends accepts active (Writes_progress u) t last = absurd last
last_ends accepts active (Writes_stop e) t last = absurd last

-- ---- one transfer more

row_of_none : (accepts : Accepts) (active : StandingView) (row : WholeRow) → row_of accepts active row [] ≡ row
unfolding row_of
row_of_none accepts active row = refl

row_of_more : (accepts : Accepts) (active : StandingView) (first : WholeRow) (done : List Transfer) (t : Transfer) → row_of accepts active first (done ++ t ∷ []) ≡ row_with accepts active (row_of accepts active first done) t
unfolding row_of
row_of_more accepts active first done t = fold-append (row_with accepts active) first done (t ∷ [])

-- The row is that of all transfers beside what was active as the session began, which is active still, or the row is a last one.
record IsMovedOn (accepts : Accepts) (begun active : StandingView) (s : TargetSessionLog) : Type 0 where
  pub is : IsOfAllTransfers accepts begun s
  pub still : (active ≡ begun) ⊎ IsLast s.row

-- what is active changes in a last row alone
stays_or_last : (begun active : StandingView) (row : WholeRow) → active ≡ begun → (standing_in active row ≡ begun) ⊎ IsLast row
stays_or_last begun active (Writes_completion e loads) same = inr tt
stays_or_last begun active Gives_lci same = inl same
stays_or_last begun active Writes_lcs same = inl same
stays_or_last begun active Writes_lcl same = inl same
stays_or_last begun active Gives_lui same = inl same
stays_or_last begun active Gives_denial same = inl same
stays_or_last begun active Writes_ready same = inl same
stays_or_last begun active Awaits_lur same = inl same
stays_or_last begun active (Reads_file u) same = inl same
stays_or_last begun active (Writes_progress u) same = inl same
stays_or_last begun active (Writes_stop e) same = inl same
stays_or_last begun active Over same = inl same

moved_on : (accepts : Accepts) (begun active : StandingView) (s : TargetSessionLog) (past : List Transfer) → IsMovedOn accepts begun active s
    → IsMovedOn accepts begun (standing_in active (with_done accepts active s (newest past)).row) (with_done accepts active s (newest past))
moved_on accepts begun active s [] h = record {
  is = record {
    kind = h.is.kind;
    row = row_of_none accepts active s.row ∙ (h.is.row ∙ ap (λ (done : List Transfer). row_of accepts begun (first_row h.is.kind begun.sequence) done) (sym (append-nil s.done)));
  };
  still = subst (λ (row : WholeRow). (standing_in active row ≡ begun) ⊎ IsLast row) (sym (row_of_none accepts active s.row)) (by h.still);
}
  where
    by : (active ≡ begun) ⊎ IsLast s.row → (standing_in active s.row ≡ begun) ⊎ IsLast s.row
    by (inl same) = stays_or_last begun active s.row same
    by (inr last) = inr last
moved_on accepts begun active s (t ∷ past) h = by h.still
  where
    first : WholeRow
    first = first_row h.is.kind begun.sequence

    -- both configurations judge the transfer alike
    at_once : row_with accepts active s.row t ≡ row_with accepts begun s.row t → row_of accepts active s.row (t ∷ []) ≡ row_of accepts begun first (s.done ++ t ∷ [])
    at_once alike =
        row_of_more accepts active s.row [] t ∙ (ap (λ (row : WholeRow). row_with accepts active row t) (row_of_none accepts active s.row)
        ∙ (alike ∙ (ap (λ (row : WholeRow). row_with accepts begun row t) h.is.row ∙ sym (row_of_more accepts begun first s.done t))))

    by : (active ≡ begun) ⊎ IsLast s.row → IsMovedOn accepts begun (standing_in active (with_done accepts active s (t ∷ [])).row) (with_done accepts active s (t ∷ []))
    by (inl same) = record {
      is = record { kind = h.is.kind; row = at_once (ap (λ (a : StandingView). row_with accepts a s.row t) same) };
      still = stays_or_last begun active (with_done accepts active s (t ∷ [])).row same;
    }
    by (inr last) = record {
      is = record { kind = h.is.kind; row = at_once (last_ends accepts active s.row t last ∙ sym (last_ends accepts begun s.row t last)) };
      still = inr (subst IsLast (sym (row_of_more accepts active s.row [] t ∙ (ap (λ (row : WholeRow). row_with accepts active row t) (row_of_none accepts active s.row) ∙ last_ends accepts active s.row t last))) tt);
    }

-- ---- one event more

abbrev LiveMovesOn : Accepts → (begun active : StandingView) → Option TargetSessionLog → Type 0
LiveMovesOn accepts begun active None = Unit {0}
LiveMovesOn accepts begun active (Some s) = IsMovedOn accepts begun active s

abbrev MovesOn : Accepts → (begun : StandingView) → TargetReading → Type 0
MovesOn accepts begun r = LiveMovesOn accepts begun r.active r.live

abbrev reading : Reading → Option TargetSessionLog → StandingView → Option Reason → TargetReading
reading end live active reason = record { end = end; live = live; active = active; reason = reason }

begins_so : (accepts : Accepts) (active : StandingView) (kind : FileKind) → IsMovedOn accepts active (standing_in active (first_row kind active.sequence)) (new_session kind active.sequence)
begins_so accepts active kind = record {
  is = record { kind = kind; row = sym (row_of_none accepts active (first_row kind active.sequence)) };
  still = inl (begins_active active kind active.sequence);
}

changed_so : (accepts : Accepts) (begun : StandingView) (end then : Reading) (live : Option TargetSessionLog) (active : StandingView) (reason : Option Reason) (change : TargetChange) → MovesOn accepts begun (reading end live active reason)
    → MovesOn accepts (begun_beside change active begun) (target_reading_changed accepts then (reading end live active reason) change)
changed_so accepts begun end then live active reason (Begins kind) h = begins_so accepts active kind
changed_so accepts begun end then live active reason (Continues more) h = h
changed_so accepts begun end then live active reason (Ends why) h = tt
changed_so accepts begun end then None active reason (Turns move more) h = tt
changed_so accepts begun end then (Some s) active reason (Turns move more) h = moved_on accepts begun active s then.past h
changed_so accepts begun end then None active reason (Turns_without_port move more) h = tt
changed_so accepts begun end then (Some s) active reason (Turns_without_port move more) h = tt

moves_on : (accepts : Accepts) (first_port : ℕ) (active : StandingView) (log : List Event) → MovesOn accepts (active_as_begun accepts first_port active log) (target_reading accepts first_port active log)
moves_on accepts first_port active [] = tt
moves_on accepts first_port active (e ∷ earlier) =
    let r = target_reading accepts first_port active earlier in
    let d = target_decision accepts (target_view r) e in
    changed_so accepts (active_as_begun accepts first_port active earlier) r.end (readings_after sides.Target r.end d.moves) r.live r.active r.reason d.change (moves_on accepts first_port active earlier)

pub rows_are_of_all_transfers : RowsAreOfAllTransfers
rows_are_of_all_transfers accepts first_port active log s live =
    (subst (LiveMovesOn accepts (active_as_begun accepts first_port active log) (target_reading accepts first_port active log).active) live (moves_on accepts first_port active log)).is
