-- How many loads are told of in a row of the target, and what holds of what was asked for and of the reason.
use Rattle.std.proofs.Common.{◌≡◌, ℕ, ◌+◌, ◌<◌, ◌≤◌, Bool, true, false, cond, ◌&&◌, List, [], ◌∷◌, ◌++◌, length, length-append, Option, Some, None, Result, Ok, Err, refl, arith}
use Rattle.std.specs.Prelude.{nat_le, nat_lt}
use Rattle.std.proofs.lemmas.Bool.{leb-true, ltb-true}
use Rattle.field_grammar.specs.Answers.{answer}
use Rattle.load_header.specs.declared.header.FileEntry.{FileEntry}
use Rattle.load_header.specs.declared.fault.HeaderFault.{HeaderFault}
use Rattle.load_header.specs.Header.{HeaderView, header}
use Rattle.load_protocol_files.specs.declared.fault.FileFault.{FileFault}
use Rattle.load_protocol_files.specs.declared.lur.Wanted.{Wanted}
use Rattle.load_protocol_files.specs.Lur.{LurView, lur}
use Rattle.disk_layout.specs.Holds.{Outline}
use Rattle.accept_rules.specs.Permissions.{Accepts}
use Rattle.session_rules.specs.declared.reason.Reason.{Reason}
use Rattle.session_rules.specs.declared.reason.Reason.TheVariants as reasons
use Rattle.session_rules.specs.declared.reason.RequestFault.TheVariants as requests
use Rattle.session_rules.specs.Buffers.{Buffer, is_too_long}
use Rattle.session_rules.specs.TargetRows.{Arriving, Awaits_lur, Breaks_off, Gives_denial, Gives_lci, Gives_lui, Judges, Kept_bytes, Kept_sums, Over, Passes, Reads_file, Refuses_request, Requests, RowMove, RowView, TransferEnd, UploadEnd, Writes_completion, Writes_lcl, Writes_lcs, Writes_progress, Writes_ready, Writes_stop, error_move, file_move, header_move, load_entry_of, lur_move, new_upload_view, placed_view, placed_view_if, read_move, request_move, row_after, row_move, row_move_by, view_judged, view_judged_in, view_moved, with_file_view, with_header_view}
use Rattle.session_rules.specs.Uploads.{Accepts_file, Accepts_header, Complete, Judgement, More_files, Next, Next_load, OpenLoadView, Stops_for, UploadView, arrived_with, files_of, judge_file, judge_header, judge_read_header, judge_request, judged, next_entry, next_name, next_wanted, next_with, request_read}

-- ---- what a row tells of

-- how far an upload has come: this holds of what was asked for and of what arrived, fewer loads have arrived than were asked
-- for, and each of them was reported
pub record UploadFits (Asked : List Wanted → Type 0) (Sound : UploadView → Type 0) (u : UploadView) : Type 0 where
  pub asked : Asked u.request
  pub sound : Sound u
  pub few : length u.request ≤ 32
  pub more : length u.loads < length u.request
  pub reports : u.reports ≡ length u.loads + 1

abbrev pub ToldIf : (Reason → Type 0) → Option Reason → Type 0
ToldIf Told None = Unit {0}
ToldIf Told (Some reason) = Told reason

pub record EndFits (Asked : List Wanted → Type 0) (Told : Reason → Type 0) (e : UploadEnd) : Type 0 where
  pub asked : Asked e.request
  pub few : length e.request ≤ 32
  pub arrived : e.arrived ≤ length e.request
  pub reports : e.reports ≤ 33
  pub why : ToldIf Told e.reason

module _ (Asked : List Wanted → Type 0) (Sound : UploadView → Type 0) (Told : Reason → Type 0) where
  abbrev pub RowFits : RowView → Type 0
  RowFits (Reads_file u) = UploadFits Asked Sound u
  RowFits (Writes_progress u) = UploadFits Asked Sound u
  RowFits (Writes_stop e) = EndFits Asked Told e
  RowFits (Writes_completion e loads) = EndFits Asked Told e × (e.reason ≡ None) × Sound (record { request = e.request; loads = loads; current = None; reports = e.reports })
  RowFits row = Unit {0}

  -- a load that is read, and so it is once it is whole
  abbrev pub SoundPlaced : UploadView → Option OpenLoadView → Type 0
  SoundPlaced u None = Unit {0}
  SoundPlaced u (Some l) =
      Sound (record { request = u.request; loads = u.loads; current = Some l; reports = u.reports })
      × Sound (record { request = u.request; loads = u.loads ++ load_entry_of l ∷ []; current = None; reports = u.reports + 1 })

  abbrev pub BringsJudged : UploadView → Arriving → Judgement → Type 0
  BringsJudged u arriving (Stops_for reason arrived) = Told reason
  BringsJudged u arriving (Accepts_header h next) = SoundPlaced u (with_header_view (next_wanted u) h arriving)
  BringsJudged u arriving (Accepts_file next) = SoundPlaced u (with_file_view u.current (next_name u) arriving)

  abbrev pub BringsIn : RowView → Arriving → Judgement → Type 0
  BringsIn (Reads_file u) arriving judgement = BringsJudged u arriving judgement
  BringsIn row arriving judgement = Unit {0}

  -- what a transfer that is over brings: loads that are asked for, a file of a load, or a reason
  abbrev pub Brings : RowView → Arriving → RowMove → Type 0
  Brings row arriving (Requests loads) = Asked loads × Sound (new_upload_view loads)
  Brings row arriving (Refuses_request fault) = Told (reasons.RequestRefused fault)
  Brings row arriving (Judges judgement) = BringsIn row arriving judgement
  Brings row arriving move = Unit {0}

  -- ---- how many loads

  abbrev NextFits : UploadView → Next → Type 0
  NextFits u Next_load = length u.loads + 1 < length u.request
  NextFits u next = Unit {0}

  abbrev JudgedFits : UploadView → Judgement → Type 0
  JudgedFits u (Stops_for reason arrived) = arrived ≤ length u.request
  JudgedFits u (Accepts_header h next) = NextFits u next
  JudgedFits u (Accepts_file next) = NextFits u next

  abbrev JudgedIn : RowView → Judgement → Type 0
  JudgedIn (Reads_file u) judgement = JudgedFits u judgement
  JudgedIn row judgement = Unit {0}

  abbrev Counts : RowView → RowMove → Type 0
  Counts row (Requests loads) = (1 ≤ length loads) × (length loads ≤ 32)
  Counts row (Judges judgement) = JudgedIn row judgement
  Counts row move = Unit {0}

  next_fits : (u : UploadView) (h : HeaderView) (files : ℕ) → NextFits u (next_with u h files)
  next_fits u h files = by (nat_lt files (length (files_of h))) (nat_lt (length u.loads + 1) (length u.request)) refl
    where
      by : (a b : Bool) → nat_lt (length u.loads + 1) (length u.request) ≡ b → NextFits u (cond a More_files (cond b Next_load Complete))
      by true b e = tt
      by false true e = ltb-true (length u.loads + 1) (length u.request) e
      by false false e = tt

  arrived_fits : (u : UploadView) (h : HeaderView) (files : ℕ) → length u.loads < length u.request → arrived_with u h files ≤ length u.request
  arrived_fits u h files more = by (nat_lt files (length (files_of h)))
    where
      by : (a : Bool) → cond a (length u.loads) (length u.loads + 1) ≤ length u.request
      by true = omega (arith, more)
      by false = omega (arith, more)

  judged_fits : (u : UploadView) (reason : Option Reason) (arrived : ℕ) (judgement : Judgement) → arrived ≤ length u.request → JudgedFits u judgement → JudgedFits u (judged reason arrived judgement)
  judged_fits u None arrived judgement few h = h
  judged_fits u (Some reason) arrived judgement few h = few

  read_header_fits : (accepts : Accepts) (active : Outline) (u : UploadView) (w : Wanted) (b : Buffer) (found : Result HeaderView HeaderFault) → length u.loads < length u.request → JudgedFits u (judge_read_header accepts active u w b found)
  read_header_fits accepts active u w b (Ok h) more = judged_fits u _ (arrived_with u h 0) (Accepts_header h (next_with u h 0)) (arrived_fits u h 0 more) (next_fits u h 0)
  read_header_fits accepts active u w b (Err fault) more = omega (arith, more)

  header_fits : (accepts : Accepts) (active : Outline) (u : UploadView) (w : Wanted) (b : Buffer) → length u.loads < length u.request → JudgedFits u (judge_header accepts active u w b)
  unfolding judge_header
  header_fits accepts active u w b more = by (is_too_long b)
    where
      by : (long : Bool) → JudgedFits u (cond long (Stops_for (reasons.HeaderRefused Rattle.load_header.specs.declared.fault.HeaderFault.TheVariants.TooLong) (length u.loads)) (judge_read_header accepts active u w b (answer header b.prefix)))
      by true = omega (arith, more)
      by false = read_header_fits accepts active u w b (answer header b.prefix) more

  file_fits : (u : UploadView) (l : OpenLoadView) (entry : FileEntry) (s : _) → length u.loads < length u.request → JudgedFits u (judge_file u l entry s)
  unfolding judge_file
  file_fits u l entry s more = judged_fits u _ (arrived_with u l.header _) (Accepts_file (next_with u l.header _)) (arrived_fits u l.header _ more) (next_fits u l.header _)

  -- a request asks for 1 to 32 loads
  request_counts : (row : RowView) (found : Result LurView FileFault) → Counts row (request_move (request_read found))
  request_counts row (Ok v) = by (nat_le 1 (length v.loads)) (nat_le (length v.loads) 32) refl refl
    where
      by : (a b : Bool) → nat_le 1 (length v.loads) ≡ a → nat_le (length v.loads) 32 ≡ b → Counts row (request_move (cond (a && b) (Ok v.loads) (Err (requests.Loads (length v.loads)))))
      by true true e f = (leb-true 1 (length v.loads) e, leb-true (length v.loads) 32 f)
      by true false e f = tt
      by false b e f = tt
  request_counts row (Err fault) = tt

  lur_counts : (row : RowView) (arriving : Arriving) → Counts row (lur_move arriving)
  unfolding judge_request
  lur_counts row (Kept_bytes b) = by (is_too_long b)
    where
      by : (long : Bool) → Counts row (request_move (cond long (Err requests.TooLong) (request_read (answer lur b.prefix))))
      by true = tt
      by false = request_counts row (answer lur b.prefix)
  lur_counts row (Kept_sums s) = tt

  module _ (accepts : Accepts) (active : Outline) where
    header_counts : (u : UploadView) (wanted : Option Wanted) (arriving : Arriving) → length u.loads < length u.request → Counts (Reads_file u) (header_move accepts active u wanted arriving)
    header_counts u (Some w) (Kept_bytes b) more = header_fits accepts active u w b more
    header_counts u (Some w) (Kept_sums s) more = tt
    header_counts u None arriving more = tt

    file_counts : (u : UploadView) (l : OpenLoadView) (entry : Option FileEntry) (arriving : Arriving) → length u.loads < length u.request → Counts (Reads_file u) (file_move u l entry arriving)
    file_counts u l (Some entry) (Kept_sums s) more = file_fits u l entry s more
    file_counts u l (Some entry) (Kept_bytes b) more = tt
    file_counts u l None arriving more = tt

    read_counts : (u : UploadView) (current : Option OpenLoadView) (arriving : Arriving) → length u.loads < length u.request → Counts (Reads_file u) (read_move accepts active u current arriving)
    read_counts u None arriving more = header_counts u (next_wanted u) arriving more
    read_counts u (Some l) arriving more = file_counts u l (next_entry l) arriving more

    error_counts : (row : RowView) (code : ℕ) → RowFits row → Counts row (error_move row code)
    error_counts (Reads_file u) code h = let more = h.more in omega (arith, more)
    error_counts Gives_lci code h = tt
    error_counts Writes_lcs code h = tt
    error_counts Writes_lcl code h = tt
    error_counts Gives_lui code h = tt
    error_counts Gives_denial code h = tt
    error_counts Writes_ready code h = tt
    error_counts Awaits_lur code h = tt
    error_counts (Writes_progress u) code h = tt
    error_counts (Writes_stop e) code h = tt
    error_counts (Writes_completion e loads) code h = tt
    error_counts Over code h = tt

    move_counts : (row : RowView) (error : Option ℕ) (arriving : Arriving) → RowFits row → Counts row (row_move_by accepts active row arriving error)
    move_counts row (Some code) arriving h = error_counts row code h
    move_counts (Reads_file u) None arriving h = read_counts u u.current arriving h.more
    move_counts Awaits_lur None arriving h = lur_counts Awaits_lur arriving
    move_counts Gives_lci None arriving h = tt
    move_counts Writes_lcs None arriving h = tt
    move_counts Writes_lcl None arriving h = tt
    move_counts Gives_lui None arriving h = tt
    move_counts Gives_denial None arriving h = tt
    move_counts Writes_ready None arriving h = tt
    move_counts (Writes_progress u) None arriving h = tt
    move_counts (Writes_stop e) None arriving h = tt
    move_counts (Writes_completion e loads) None arriving h = tt
    move_counts Over None arriving h = tt

  -- ---- the row after it

  placed_fits : (u : UploadView) (l : OpenLoadView) (next : Next) → UploadFits Asked Sound u → NextFits u next → SoundPlaced u (Some l) → RowFits (placed_view u l next)
  placed_fits u l More_files h more sound = record { asked = h.asked; sound = sound.0; few = h.few; more = h.more; reports = h.reports }
  placed_fits u l Next_load h more sound =
      let one : length (u.loads ++ load_entry_of l ∷ []) ≡ length u.loads + 1 = length-append u.loads (load_entry_of l ∷ []) in
      let reports = h.reports in
      record { asked = h.asked; sound = sound.1; few = h.few; more = omega (arith, one, more); reports = omega (arith, one, reports) }
  placed_fits u l Complete h more sound =
      let reports = h.reports in
      let few = h.few in
      let less = h.more in
      (record { asked = h.asked; few = h.few; arrived = omega arith; reports = omega (arith, reports, few, less); why = tt }, refl, sound.1)

  placed_if_fits : (u : UploadView) (l : Option OpenLoadView) (next : Next) → UploadFits Asked Sound u → NextFits u next → SoundPlaced u l → RowFits (placed_view_if u l next)
  placed_if_fits u None next h more sound = tt
  placed_if_fits u (Some l) next h more sound = placed_fits u l next h more sound

  stopped_fits : (u : UploadView) (reason : Reason) (arrived : ℕ) → UploadFits Asked Sound u → arrived ≤ length u.request → Told reason → RowFits (view_judged u (Kept_bytes (record { prefix = []; count = 0 })) (Stops_for reason arrived))
  stopped_fits u reason arrived h le told =
      let reports = h.reports in
      let few = h.few in
      let less = h.more in
      record { asked = h.asked; few = h.few; arrived = le; reports = omega (arith, reports, few, less); why = told }

  judged_row : (u : UploadView) (arriving : Arriving) (judgement : Judgement) → UploadFits Asked Sound u → JudgedFits u judgement → BringsJudged u arriving judgement → RowFits (view_judged u arriving judgement)
  judged_row u arriving (Stops_for reason arrived) h fits brings = stopped_fits u reason arrived h fits brings
  judged_row u arriving (Accepts_header header next) h fits brings = placed_if_fits u (with_header_view (next_wanted u) header arriving) next h fits brings
  judged_row u arriving (Accepts_file next) h fits brings = placed_if_fits u (with_file_view u.current (next_name u) arriving) next h fits brings

  judged_in_row : (row : RowView) (arriving : Arriving) (judgement : Judgement) → RowFits row → JudgedIn row judgement → BringsIn row arriving judgement → RowFits (view_judged_in row arriving judgement)
  judged_in_row (Reads_file u) arriving judgement h fits brings = judged_row u arriving judgement h fits brings
  judged_in_row Gives_lci arriving judgement h fits brings = tt
  judged_in_row Writes_lcs arriving judgement h fits brings = tt
  judged_in_row Writes_lcl arriving judgement h fits brings = tt
  judged_in_row Gives_lui arriving judgement h fits brings = tt
  judged_in_row Gives_denial arriving judgement h fits brings = tt
  judged_in_row Writes_ready arriving judgement h fits brings = tt
  judged_in_row Awaits_lur arriving judgement h fits brings = tt
  judged_in_row (Writes_progress u) arriving judgement h fits brings = tt
  judged_in_row (Writes_stop e) arriving judgement h fits brings = tt
  judged_in_row (Writes_completion e loads) arriving judgement h fits brings = tt
  judged_in_row Over arriving judgement h fits brings = tt

  passed_fits : (row : RowView) → RowFits row → RowFits (row_after row)
  passed_fits (Writes_progress u) h = h
  passed_fits (Reads_file u) h = tt
  passed_fits Gives_lci h = tt
  passed_fits Writes_lcs h = tt
  passed_fits Writes_lcl h = tt
  passed_fits Gives_lui h = tt
  passed_fits Gives_denial h = tt
  passed_fits Writes_ready h = tt
  passed_fits Awaits_lur h = tt
  passed_fits (Writes_stop e) h = tt
  passed_fits (Writes_completion e loads) h = tt
  passed_fits Over h = tt

  moved_fits : Asked [] → (row : RowView) (arriving : Arriving) (move : RowMove) → RowFits row → Counts row move → Brings row arriving move → RowFits (view_moved row arriving move)
  moved_fits none row arriving Passes h counts brings = passed_fits row h
  moved_fits none row arriving (Requests loads) h (some, few) brings = record { asked = brings.0; sound = brings.1; few = few; more = omega (arith, some); reports = refl }
  moved_fits none row arriving (Refuses_request fault) h counts brings = record { asked = none; few = omega arith; arrived = omega arith; reports = omega arith; why = brings }
  moved_fits none row arriving (Judges judgement) h counts brings = judged_in_row row arriving judgement h counts brings
  moved_fits none row arriving Breaks_off h counts brings = tt

  -- a transfer that is over keeps it
  pub row_fits : Asked [] → (accepts : Accepts) (active : Outline) (row : RowView) (arriving : Arriving) (end : TransferEnd) → RowFits row → Brings row arriving (row_move accepts active row end) → RowFits (view_moved row arriving (row_move accepts active row end))
  row_fits none accepts active row arriving end h brings = moved_fits none row arriving (row_move accepts active row end) h (move_counts accepts active row end.error end.arriving h) brings
