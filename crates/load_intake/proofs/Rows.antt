-- What a file comes to, row by row.
use Rattle.std.proofs.Common.{◌≡◌, ℕ, ◌+◌, length, Bool, true, false, nat_lt, Option, Some, None, refl, sym, ap, ◌∙◌, if◌then◌else◌}
use Rattle.load_header.specs.declared.header.FileEntry.{FileEntry}
use Rattle.load_header.specs.Header.{HeaderView}
use Rattle.disk_layout.specs.Holds.{Outline}
use Rattle.accept_rules.specs.Permissions.{Accepts}
use Rattle.session_rules.specs.declared.reason.Reason.{Reason}
use Rattle.session_rules.specs.Buffers.{Sums}
use Rattle.session_rules.specs.TargetRows.{Kept_sums, Reads_file, RowView, Writes_stop, done_move, placed_view, stopped_upload, view_moved}
use Rattle.session_rules.specs.Uploads.{Complete, More_files, Next, Next_load, OpenLoadView, UploadView, arrived_with, file_reason, files_of, judge_file, load_reason, next_entry, next_number, next_with, or_else}
use Rattle.load_intake.specs.Places.{arrived_at}
use Rattle.load_intake.specs.States.{WholeView, upload_of, with_one}

-- ---- how many loads have arrived

by_tests : (loads : ℕ) (more another : Bool) → arrived_at loads (if more then More_files else if another then Next_load else Complete) ≡ (if more then loads else loads + 1)
by_tests loads true another = refl
by_tests loads false true = refl
by_tests loads false false = refl

pub arrived_is : (w : WholeView) (current : Option OpenLoadView) (h : HeaderView) (n : ℕ) (next : Next) → next ≡ next_with (upload_of w current) h n → arrived_at (length w.loads) next ≡ arrived_with (upload_of w current) h n
arrived_is w current h n next e =
    ap (λ (x : Next). arrived_at (length w.loads) x) e ∙ by_tests (length w.loads) (nat_lt n (length (files_of h))) (nat_lt (length w.loads + 1) (length w.request))

-- ---- data and support files

module _ (accepts : Accepts) (active : Outline) (w : WholeView) (l : OpenLoadView) (s : Sums) (e : FileEntry) where
  abbrev pub u : UploadView
  u = upload_of w (Some l)

  abbrev pub moved : RowView
  moved = view_moved (Reads_file u) (Kept_sums s) (done_move accepts active (Reads_file u) (Kept_sums s))

  abbrev verdict : Next → Option Reason
  verdict next = or_else (file_reason (next_number l) e s) (load_reason l.header next s.load_crc)

  pub file_stopped : (next : Next) (reason : Reason) (arrived : ℕ) → next_entry l ≡ Some e → next ≡ next_with u l.header (next_number l) → Some reason ≡ verdict next → arrived ≡ arrived_at (length w.loads) next
      → Writes_stop (stopped_upload w.request arrived (length w.loads + 1) reason) ≡ moved
  unfolding judge_file
  file_stopped next reason arrived entry is found many =
      let here : verdict (next_with u l.header (next_number l)) ≡ Some reason = ap verdict (sym is) ∙ sym found in
      rw (entry, here, many, arrived_is w (Some l) l.header (next_number l) next is) refl

  pub file_placed : (next : Next) (one : OpenLoadView) → next_entry l ≡ Some e → next ≡ next_with u l.header (next_number l) → None ≡ verdict next → one ≡ with_one l (record { name = e.name; length = s.count }) s.load_crc
      → placed_view (upload_of w None) one next ≡ moved
  unfolding judge_file
  file_placed next one entry is found made =
      let here : verdict (next_with u l.header (next_number l)) ≡ None = ap verdict (sym is) ∙ sym found in
      rw (entry, here, made, is, entry) refl
