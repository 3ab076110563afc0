-- What an installation brings is one load for each that the session asked for.
use Rattle.std.proofs.Common.{◌≡◌, ℕ, ◌≤◌, List, [], ◌∷◌, Option, Some, None, length, refl, sym, ap, subst, ◌∙◌, arith}
use Rattle.std.specs.List.{AllZip}
use Rattle.std.proofs.lemmas.List.{length-append}
use Rattle.load_base.specs.Config.{LoadView}
use Rattle.load_protocol_files.specs.declared.lur.Wanted.{Wanted}
use Rattle.disk_layout.specs.Holds.{StandingView, outline_of}
use Rattle.accept_rules.specs.Permissions.{Accepts}
use Rattle.transfer_end.specs.Transfers.{Transfer, arrived_of}
use Rattle.session_rules.specs.NewConfigs.{IsWanted, request_in}
use Rattle.session_rules.specs.SoundLogs.{IsNewAt}
use Rattle.session_rules.proofs.TargetLemmas.{row_of_one}
use Rattle.session_rules.specs.TargetLog.{TargetReading}
use Rattle.session_rules.specs.TargetRows.{Awaits_lur, Breaks_off, Gives_denial, Gives_lci, Gives_lui, Judges, Over, Passes, Reads_file, Refuses_request, Requests, RowMove, UploadEnd, WholeRow, Writes_completion, Writes_lcl, Writes_lcs, Writes_progress, Writes_ready, Writes_stop, load_of, placed, placed_if, row_judged, row_move, row_moved, row_of, row_view, transfer_end, with_file, with_header}
use Rattle.session_rules.specs.Uploads.{Accepts_file, Accepts_header, Complete, Judgement, More_files, Next, Next_load, OpenLoad, Stops_for, Upload, next_name, next_wanted, upload_view}
use Rattle.replay_rules.specs.BothEnds.{Is_up}
use Rattle.replay_rules.specs.Histories.{IsMadeOf, request_of, requested_in}

-- where a row says that all is installed, it has a load, and its request is this one
abbrev Completes : (request : List Wanted) → WholeRow → Type 0
Completes request (Writes_completion e loads) = (e.request ≡ request) × (1 ≤ length loads)
Completes request row = Unit {0}

placed_so : (u : Upload) (l : OpenLoad) (next : Next) → Completes u.request (placed u l next)
placed_so u l More_files = tt
placed_so u l Next_load = tt
placed_so u l Complete = (refl, omega (arith, length-append u.loads (load_of l ∷ [])))

placed_if_so : (u : Upload) (l : Option OpenLoad) (next : Next) → Completes u.request (placed_if u l next)
placed_if_so u None next = tt
placed_if_so u (Some l) next = placed_so u l next

judged_so : (u : Upload) (bytes : List ℕ) (j : Judgement) → Completes u.request (row_judged u bytes j)
judged_so u bytes (Stops_for reason arrived) = tt
judged_so u bytes (Accepts_header h next) = placed_if_so u (with_header (next_wanted (upload_view u)) h bytes) next
judged_so u bytes (Accepts_file next) = placed_if_so u (with_file u.current (next_name (upload_view u)) bytes) next

module _ (bytes : List ℕ) where
  moved_so : (row : WholeRow) (m : RowMove) → Completes (request_in row) (row_moved row bytes m)
  moved_so row (Requests loads) = tt
  moved_so row (Refuses_request fault) = tt
  moved_so row Breaks_off = tt
  moved_so Gives_lci Passes = tt
  moved_so Writes_lcs Passes = tt
  moved_so Writes_lcl Passes = tt
  moved_so Gives_lui Passes = tt
  moved_so Gives_denial Passes = tt
  moved_so Writes_ready Passes = tt
  moved_so Awaits_lur Passes = tt
  moved_so (Reads_file u) Passes = tt
  moved_so (Writes_progress u) Passes = tt
  moved_so (Writes_stop e) Passes = tt
  moved_so (Writes_completion e loads) Passes = tt
  moved_so Over Passes = tt
  moved_so Gives_lci (Judges j) = tt
  moved_so Writes_lcs (Judges j) = tt
  moved_so Writes_lcl (Judges j) = tt
  moved_so Gives_lui (Judges j) = tt
  moved_so Gives_denial (Judges j) = tt
  moved_so Writes_ready (Judges j) = tt
  moved_so Awaits_lur (Judges j) = tt
  moved_so (Reads_file u) (Judges j) = judged_so u bytes j
  moved_so (Writes_progress u) (Judges j) = tt
  moved_so (Writes_stop e) (Judges j) = tt
  moved_so (Writes_completion e loads) (Judges j) = tt
  moved_so Over (Judges j) = tt

-- the loads of a good verdict
pub completes_so : (accepts : Accepts) (active : StandingView) (row : WholeRow) (t : Transfer) (e : UploadEnd) (loads : List LoadView) → row_of accepts active row (t ∷ []) ≡ Writes_completion e loads → (e.request ≡ request_in row) × (1 ≤ length loads)
completes_so accepts active row t e loads is =
    subst (Completes (request_in row)) (sym (row_of_one accepts active row t) ∙ is) (moved_so (arrived_of t) row (row_move accepts (outline_of active) (row_view row) (transfer_end (row_view row) t)))

module _ (accepts : Accepts) (before after : TargetReading) (new : IsNewAt accepts before after) where
  pub new_has_load : 1 ≤ length new.loads
  new_has_load = (completes_so accepts before.active new.session.row new.ended new.upload new.loads new.good).1

  pub new_request : new.upload.request ≡ requested_in (Is_up before)
  new_request = (completes_so accepts before.active new.session.row new.ended new.upload new.loads new.good).0 ∙ sym (ap request_of new.live)

  -- what becomes active is made of these loads
  pub new_is_made : (New : List LoadView → Type 0) → New new.loads → IsMadeOf (Is_up before) New after.active
  new_is_made New are = record { new = new.loads; wanted = subst (λ (request : List Wanted). AllZip IsWanted request new.loads) new_request new.new.each; are_new = are; is = new.next }
