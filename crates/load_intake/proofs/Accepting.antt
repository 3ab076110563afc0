-- What a file that is accepted brings, with all contents.
use Rattle.std.proofs.Common.{◌≡◌, ℕ, ◌+◌, ◌<◌, List, [], ◌∷◌, ◌++◌, length, take, false, Option, Some, None, Result, Ok, refl, sym, ap, subst, ◌∙◌, arith, length-append}
use Rattle.std.specs.Prelude.{slice_get}
use Rattle.std.proofs.lemmas.Bool.{ltb-false}
use Rattle.std.proofs.lemmas.List.{length-map, take_all}
use Rattle.disk_model.specs.State.{DiskState}
use Rattle.disk_layout.specs.Contents.{HeadersAreFirst, file_entry_of}
use Rattle.disk_layout.specs.Holds.{Outline, StandingView}
use Rattle.crc_fields.specs.CheckSums.{crc32_of}
use Rattle.load_header.specs.declared.header.FileEntry.{FileEntry}
use Rattle.load_header.specs.Header.{HeaderView, header}
use Rattle.load_protocol_files.specs.declared.lur.Wanted.{Wanted}
use Rattle.field_grammar.specs.Answers.{answer}
use Rattle.accept_rules.specs.Permissions.{Accepts}
use Rattle.bank_store.specs.declared.store.Store.{Store}
use Rattle.bank_store.specs.Given.{Given, loads_of, with_bytes, with_file, with_load}
use Rattle.session_rules.specs.KeptLoads.{types_in, types_of}
use Rattle.session_rules.specs.declared.reason.Reason.{Reason}
use Rattle.session_rules.specs.Buffers.{Buffer, Sums, buffer_size, buffered, is_too_long, summed}
use Rattle.session_rules.specs.TargetRows.{Judges, Kept_bytes, Kept_sums, Reads_file, RowMove, UploadEnd, WholeRow, Writes_stop, arriving_load, done_move, placed, placed_if, row_judged, row_moved, said_length, view_judged, with_header}
use Rattle.session_rules.specs.Uploads.{Accepts_file, Accepts_header, Judgement, Next, OpenLoad, OpenLoadView, Upload, UploadView, covered_header, current_view, file_reason, files_of, header_reason, judge_file, judge_header, judge_spelled_header, load_reason, entry_name, next_entry, next_name, next_number, next_wanted, next_with, open_load_view, or_else, upload_view}
use Rattle.load_intake.specs.declared.down.Down.{Down}
use Rattle.load_intake.specs.Contents.{BringsRow, GoesTo, IsOf, given_of}
use Rattle.load_intake.specs.Judging.{header_row, whole_buffer, whole_header_row, whole_judged}
use Rattle.load_intake.specs.Kept.{intake_at}
use Rattle.load_intake.specs.States.{WholeView, upload_of}
use Rattle.load_intake.proofs.Files.{count_right}
use Rattle.load_intake.proofs.Moving.{file_open, given_file, given_header, header_open, judged_stops, next_brings, types_given, whole_in, with_open}

-- ---- data and support files

module _ (accepts : Accepts) (active : Outline) (w : WholeView) (l : OpenLoadView) (s : Sums) (e : FileEntry) where
  abbrev view : UploadView
  view = upload_of w (Some l)

  abbrev pub move : RowMove
  move = done_move accepts active (Reads_file view) (Kept_sums s)

  abbrev verdict : Next → Option Reason
  verdict next = or_else (file_reason (next_number l) e s) (load_reason l.header next s.load_crc)

  -- no test fails
  file_moves : (next : Next) → next_entry l ≡ Some e → next ≡ next_with view l.header (next_number l) → None ≡ verdict next → move ≡ Judges (Accepts_file next)
  unfolding judge_file
  file_moves next entry is found =
      let here : verdict (next_with view l.header (next_number l)) ≡ None = ap verdict (sym is) ∙ sym found in
      rw (entry, here, is) refl

  pub file_brings : {T : Type 0} (u : Upload) (arrived name : List ℕ) (next : Next) (old : DiskState) (after : Store) (new : DiskState) (st : StandingView) (r : Result T Down) → IsOf (intake_at w (Some l) (Kept_sums s)) u arrived → next_entry l ≡ Some e
      → next ≡ next_with view l.header (next_number l) → None ≡ verdict next → length l.files < length (files_of l.header) → name ≡ e.name → HeadersAreFirst u.loads
      → (types_in (loads_of (with_file name (given_of u arrived))) ≡ types_of w.loads ++ l.header.type_id ∷ [] → GoesTo next old after new st (with_file name (given_of u arrived)) r)
      → BringsRow old after new st (row_moved (Reads_file u) arrived move) r
  file_brings {T} u arrived name next old after new st r is entry comes found left called headers goes = by_current u.current refl
    where
      by_current : (current : Option OpenLoad) → u.current ≡ current → BringsRow old after new st (row_moved (Reads_file u) arrived move) r
      by_current None none = absurd (let wrong : Some l ≡ None = ap (λ (v : UploadView). v.current) is.upload ∙ ap current_view none in cc)
      by_current (Some one) some =
          let seen : Some l ≡ Some (open_load_view one) = ap (λ (v : UploadView). v.current) is.upload ∙ ap current_view some in
          let same : l ≡ open_load_view one = cc in
          let sums : Kept_sums s ≡ Kept_sums (summed (said_length (next_entry (open_load_view one))) (open_load_view one).crc arrived) = is.arriving ∙ ap (λ (c : Option OpenLoad). arriving_load (current_view c) arrived) some in
          let which : s ≡ summed (said_length (next_entry (open_load_view one))) (open_load_view one).crc arrived = cc in
          let count : length arrived ≡ e.length = sym (ap (λ (x : Sums). x.count) which) ∙ count_right (next_number l) e s (load_reason l.header next s.load_crc) found in
          let said : said_length (next_entry (open_load_view one)) ≡ e.length = ap (λ (x : OpenLoadView). said_length (next_entry x)) (sym same) ∙ ap said_length entry in
          let all : take (said_length (next_entry (open_load_view one))) arrived ≡ arrived = take_all (said_length (next_entry (open_load_view one))) arrived (omega (arith, count, said)) in
          let opened : u ≡ with_open u one = ap (λ (c : Option OpenLoad). record { request = u.request; loads = u.loads; current = c; reports = u.reports }) some in
          let named : name ≡ next_name (upload_view (with_open u one)) = called ∙ sym (ap entry_name (ap next_entry (sym same) ∙ entry)) in
          let more = file_open one name arrived in
          let grown : length l.files + 1 ≡ length more.files = omega (arith, ap (λ (x : OpenLoadView). length x.files) same, length-map one.files file_entry_of, length-append one.files (record { name = name; bytes = arrived } ∷ [])) in
          let whole = whole_in view l.header more (next_number l) next comes (ap (λ (x : OpenLoadView). x.header) same) grown (omega (arith, left)) in
          let given : with_file name (given_of u arrived) ≡ given_of (with_open u more) [] = ap (λ (x : Upload). with_file name (given_of x arrived)) opened ∙ given_file u.request u.loads one u.reports name arrived all in
          let typed : types_in (loads_of (with_file name (given_of u arrived))) ≡ types_of w.loads ++ l.header.type_id ∷ [] =
          ap (λ (g : Given). types_in (loads_of g)) given ∙ (types_given u more w.loads (sym (ap (λ (v : UploadView). v.loads) is.upload)) ∙ ap (λ (x : OpenLoadView). types_of w.loads ++ x.header.type_id ∷ []) (sym same)) in
          let brought = next_brings u more next old after new st (with_file name (given_of u arrived)) r headers whole given (goes typed) in
          subst (λ (m : RowMove). BringsRow old after new st (row_moved (Reads_file u) arrived m) r) (sym (file_moves next entry comes found))
          (subst (λ (x : Upload). BringsRow old after new st (row_moved (Reads_file x) arrived (Judges (Accepts_file next))) r) (sym opened)
          (subst (λ (n : List ℕ). BringsRow old after new st (placed (with_open u one) (file_open one n arrived) next) r) named brought))

-- ---- headers

module _ (accepts : Accepts) (active : Outline) (w : WholeView) (wanted : Wanted) (h : HeaderView) (bytes : List ℕ) where
  abbrev unopened : UploadView
  unopened = upload_of w None

  abbrev first_reason : Option Reason
  first_reason = header_reason accepts active unopened wanted h (length bytes)

  abbrev header_verdict : (first : Option Reason) → Next → (crc : ℕ) → Option Reason
  header_verdict first next crc = or_else first (load_reason h next crc)

  -- no test fails
  pub header_judged : (first : Option Reason) (next : Next) (crc : ℕ) → first ≡ first_reason → next ≡ next_with unopened h 0 → crc ≡ crc32_of (covered_header bytes) → None ≡ header_verdict first next crc
      → judge_spelled_header accepts active unopened wanted (whole_buffer bytes) h ≡ Accepts_header h next
  header_judged first next crc f x c found =
      let same : header_verdict first next crc ≡ header_verdict first_reason (next_with unopened h 0) (crc32_of (covered_header bytes)) = rw (f, x, c) refl in
      let here : header_verdict first_reason (next_with unopened h 0) (crc32_of (covered_header bytes)) ≡ None = sym same ∙ sym found in
      rw (here, x) refl

  pub header_brings : {T : Type 0} (u : Upload) (next : Next) (old : DiskState) (after : Store) (new : DiskState) (st : StandingView) (r : Result T Down) → unopened ≡ upload_view u → slice_get w.request (length w.loads) ≡ Some wanted
      → judge_spelled_header accepts active unopened wanted (whole_buffer bytes) h ≡ Accepts_header h next → next ≡ next_with unopened h 0 → HeadersAreFirst u.loads
      → (types_in (loads_of (with_file wanted.header (with_bytes bytes (with_load wanted.part h.type_id (length (files_of h) + 1) (given_of u bytes))))) ≡ types_of w.loads ++ h.type_id ∷ []
      → GoesTo next old after new st (with_file wanted.header (with_bytes bytes (with_load wanted.part h.type_id (length (files_of h) + 1) (given_of u bytes)))) r)
      → BringsRow old after new st (whole_header_row accepts active u h bytes) r
  header_brings {T} u next old after new st r seen asked judged comes headers goes = by_current u.current refl
    where
      by_current : (current : Option OpenLoad) → u.current ≡ current → BringsRow old after new st (whole_header_row accepts active u h bytes) r
      by_current (Some one) some = absurd (let wrong : None ≡ Some (open_load_view one) = ap (λ (v : UploadView). v.current) seen ∙ ap current_view some in cc)
      by_current None none =
          let opened : u ≡ record { request = u.request; loads = u.loads; current = None; reports = u.reports } = ap (λ (c : Option OpenLoad). record { request = u.request; loads = u.loads; current = c; reports = u.reports }) none in
          let l = header_open wanted h bytes in
          let found : next_wanted unopened ≡ Some wanted = asked in
          let whole = whole_in unopened h l 0 next comes refl refl (omega arith) in
          let given : with_file wanted.header (with_bytes bytes (with_load wanted.part h.type_id (length (files_of h) + 1) (given_of u bytes))) ≡ given_of (with_open u l) [] =
          ap (λ (x : Upload). with_file wanted.header (with_bytes bytes (with_load wanted.part h.type_id (length (files_of h) + 1) (given_of x bytes)))) opened ∙ given_header u.request u.loads u.reports wanted h bytes bytes in
          let typed = ap (λ (g : Given). types_in (loads_of g)) given ∙ types_given u l w.loads (sym (ap (λ (v : UploadView). v.loads) seen)) in
          let brought = next_brings u l next old after new st _ r headers whole given (goes typed) in
          subst (λ (v : UploadView). BringsRow old after new st (whole_judged accepts active u v h bytes (next_wanted v)) r) seen
          (subst (λ (o : Option Wanted). BringsRow old after new st (whole_judged accepts active u unopened h bytes o) r) (sym found)
          (subst (λ (j : Judgement). BringsRow old after new st (row_judged u bytes j) r) (sym judged)
          (subst (λ (v : UploadView). BringsRow old after new st (row_judged_at v) r) seen (subst (λ (o : Option Wanted). BringsRow old after new st (placed_at o) r) (sym found) brought))))
        where
          placed_at : Option Wanted → WholeRow
          placed_at o = placed_if u (with_header o h bytes) next

          row_judged_at : UploadView → WholeRow
          row_judged_at v = placed_at (next_wanted v)

  -- a test fails
  pub header_stops : (u : Upload) (e : UploadEnd) → unopened ≡ upload_view u → slice_get w.request (length w.loads) ≡ Some wanted → Writes_stop e ≡ header_row accepts active w h bytes → (x : UploadEnd) × (whole_header_row accepts active u h bytes ≡ Writes_stop x)
  header_stops u e seen asked is =
      let stop : Writes_stop e ≡ view_judged unopened (Kept_bytes (whole_buffer bytes)) (judge_spelled_header accepts active unopened wanted (whole_buffer bytes) h) = rw asked at is in
      let (x, there) = judged_stops u unopened bytes (Kept_bytes (whole_buffer bytes)) (judge_spelled_header accepts active unopened wanted (whole_buffer bytes) h) e stop in
      (x, subst (λ (v : UploadView). whole_judged accepts active u v h bytes (next_wanted v) ≡ Writes_stop x) seen (rw asked there))

-- ---- all that may come of a header's bytes

-- the buffer has all of them
pub buffer_is : (b : Buffer) (arrived : List ℕ) → Kept_bytes b ≡ Kept_bytes (buffered arrived) → is_too_long b ≡ false → b.prefix ≡ arrived
buffer_is b arrived is short =
    let same : b ≡ buffered arrived = cc in
    ap (λ (x : Buffer). x.prefix) same ∙ take_all buffer_size arrived (omega (arith, ltb-false buffer_size b.count short, ap (λ (x : Buffer). x.count) same))

-- a header that is read
pub read_brings : {T : Type 0} (accepts : Accepts) (active : Outline) (w : WholeView) (b : Buffer) (h : HeaderView) (wanted : Wanted) (u : Upload) (arrived : List ℕ) (old : DiskState) (after : Store) (new : DiskState) (st : StandingView) (r : Result T Down)
    → upload_of w None ≡ upload_view u → slice_get w.request (length w.loads) ≡ Some wanted → is_too_long b ≡ false → answer header b.prefix ≡ Ok h → b ≡ whole_buffer b.prefix → b.prefix ≡ arrived
    → BringsRow old after new st (whole_header_row accepts active u h b.prefix) r → BringsRow old after new st (row_moved (Reads_file u) arrived (done_move accepts active (Reads_file (upload_of w None)) (Kept_bytes b))) r
unfolding judge_header
read_brings {T} accepts active w b h wanted u arrived old after new st r seen asked short is whole same brings =
    let here : BringsRow old after new st (whole_judged accepts active u (upload_of w None) h b.prefix (Some wanted)) r =
    subst (λ (o : Option Wanted). BringsRow old after new st (whole_judged accepts active u (upload_of w None) h b.prefix o) r) asked
    (subst (λ (v : UploadView). BringsRow old after new st (whole_judged accepts active u v h b.prefix (next_wanted v)) r) (sym seen) brings) in
    let P : List ℕ → Buffer → Type 0 = λ bytes x. BringsRow old after new st (row_judged u bytes (judge_spelled_header accepts active (upload_of w None) wanted x h)) r in
    rw (asked, short, is) (subst (λ (bytes : List ℕ). P bytes b) same (subst (P b.prefix) (sym whole) here))
