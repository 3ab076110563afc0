-- Proofs that what the target keeps of an upload follows what arrived.
use Rattle.std.proofs.Common.{◌≡◌, ℕ, Bool, true, false, cond, eqb, List, [], ◌∷◌, ◌++◌, length, take, map, Option, Some, None, Result, Ok, Err, refl, sym, ap, ◌∙◌, append-nil, append_assoc, arith}
use Rattle.std.proofs.lemmas.Bool.{eqb-true, ltb-false}
use Rattle.std.proofs.lemmas.List.{take_all, map-append}
use Rattle.std.proofs.lemmas.Grind.{flat_map-append}
use Rattle.crc_fields.specs.CheckSums.{crc32_of, crc32_after}
use Rattle.load_base.specs.Config.{FileView, LoadView}
use Rattle.load_header.specs.declared.fault.HeaderFault.{HeaderFault}
use Rattle.load_header.specs.declared.header.FileEntry.{FileEntry}
use Rattle.load_header.specs.Header.{HeaderView, header}
use Rattle.field_grammar.specs.Answers.{answer}
use Rattle.load_protocol_files.specs.declared.lur.Wanted.{Wanted}
use Rattle.disk_layout.specs.Holds.{Outline}
use Rattle.disk_layout.specs.declared.manifest.ManifestFile.{ManifestFile}
use Rattle.disk_layout.specs.Contents.{file_entry_of, entry_of, entries_of, bytes_of}
use Rattle.accept_rules.specs.Permissions.{Accepts}
use Rattle.session_rules.specs.declared.reason.Reason.{Reason}
use Rattle.session_rules.specs.declared.reason.RequestFault.{RequestFault}
use Rattle.session_rules.specs.Buffers.{Buffer, Sums, buffered, summed, is_too_long, buffer_size}
use Rattle.session_rules.proofs.BufferLemmas.{SumsJoin, buffered_on, summed_on}
use Rattle.session_rules.specs.Uploads.{Accepts_file, Accepts_header, Complete, Judgement, More_files, Next, Next_load, OpenLoad, OpenLoadView, Stops_for, Upload, UploadView, covered, covered_header, current_view, judge_file, judge_header, judge_read_header, judged, next_entry, next_name, next_wanted, open_load_view, or_else, unless, upload_view}
use Rattle.session_rules.specs.TargetRows.{Awaits_lur, Gives_denial, Gives_lci, Gives_lui, Kept_bytes, Kept_sums, Over, Reads_file, TransferEnd, WholeRow, Writes_completion, Writes_lcl, Writes_lcs, Writes_progress, Writes_ready, Writes_stop, arriving_load, arriving_of, file_move, header_move, load_entry_of, load_of, placed, placed_view, request_move, row_judged, row_move, row_moved, row_view, said_length, view_judged, view_moved, with_bytes}

-- ---- what arrives

arriving_load_on : SumsJoin → (current : Option OpenLoad) (first rest : List ℕ) → with_bytes (arriving_load (current_view current) first) rest ≡ arriving_load (current_view current) (first ++ rest)
arriving_load_on joins None first rest = ap Kept_bytes (buffered_on first rest)
arriving_load_on joins (Some l) first rest = ap Kept_sums (summed_on joins (said_length (next_entry (open_load_view l))) (covered l.bytes l.files) first rest)

pub arriving_on : SumsJoin → (row : WholeRow) (first rest : List ℕ) → with_bytes (arriving_of (row_view row) first) rest ≡ arriving_of (row_view row) (first ++ rest)
arriving_on joins Gives_lci first rest = ap Kept_bytes (buffered_on first rest)
arriving_on joins Writes_lcs first rest = ap Kept_bytes (buffered_on first rest)
arriving_on joins Writes_lcl first rest = ap Kept_bytes (buffered_on first rest)
arriving_on joins Gives_lui first rest = ap Kept_bytes (buffered_on first rest)
arriving_on joins Gives_denial first rest = ap Kept_bytes (buffered_on first rest)
arriving_on joins Writes_ready first rest = ap Kept_bytes (buffered_on first rest)
arriving_on joins Awaits_lur first rest = ap Kept_bytes (buffered_on first rest)
arriving_on joins (Reads_file u) first rest = arriving_load_on joins u.current first rest
arriving_on joins (Writes_progress u) first rest = ap Kept_bytes (buffered_on first rest)
arriving_on joins (Writes_stop e) first rest = ap Kept_bytes (buffered_on first rest)
arriving_on joins (Writes_completion e loads) first rest = ap Kept_bytes (buffered_on first rest)
arriving_on joins Over first rest = ap Kept_bytes (buffered_on first rest)

-- ---- a file in its place

abbrev upload : List Wanted → List LoadView → Option OpenLoad → ℕ → Upload
upload request loads current reports = record { request = request; loads = loads; current = current; reports = reports }

abbrev open_load : Wanted → HeaderView → List ℕ → List FileView → OpenLoad
open_load wanted h bytes files = record { wanted = wanted; header = h; bytes = bytes; files = files }

abbrev open_view : Wanted → HeaderView → ℕ → List ManifestFile → ℕ → OpenLoadView
open_view wanted h size files crc = record { wanted = wanted; header = h; size = size; files = files; crc = crc }

abbrev file : (name bytes : List ℕ) → FileView
file name bytes = record { name = name; bytes = bytes }

entries_more : (loads : List LoadView) (l : OpenLoad) → entries_of (loads ++ load_of l ∷ []) ≡ entries_of loads ++ load_entry_of (open_load_view l) ∷ []
entries_more loads l = map-append entry_of loads (load_of l ∷ [])

placed_same : (u : Upload) (l : OpenLoad) (next : Next) → row_view (placed u l next) ≡ placed_view (upload_view u) (open_load_view l) next
placed_same u l More_files = refl
placed_same u l Next_load = rw (entries_more u.loads l) refl
placed_same u l Complete = rw (entries_more u.loads l) refl

placed_as : (u : Upload) (l : OpenLoad) (v : OpenLoadView) (next : Next) → open_load_view l ≡ v → row_view (placed u l next) ≡ placed_view (upload_view u) v next
placed_as u l v next e = placed_same u l next ∙ ap (λ (x : OpenLoadView). placed_view (upload_view u) x next) e

-- ---- headers

-- a header that is accepted isn't too long
short_if : (b : Bool) (reason : Reason) (n : ℕ) (other : Judgement) (h : HeaderView) (next : Next) → cond b (Stops_for reason n) other ≡ Accepts_header h next → b ≡ false
short_if true reason n other h next e = absurd cc
short_if false reason n other h next e = refl

accepted_is_short : (accepts : Accepts) (active : Outline) (u : UploadView) (wanted : Wanted) (b : Buffer) (h : HeaderView) (next : Next) → judge_header accepts active u wanted b ≡ Accepts_header h next → is_too_long b ≡ false
unfolding judge_header
accepted_is_short accepts active u wanted b h next e = short_if (is_too_long b) _ _ _ h next e

judged_no_file : (reason : Option Reason) (n : ℕ) (h : HeaderView) (m next : Next) → judged reason n (Accepts_header h m) ≡ Accepts_file next → ⊥
judged_no_file None n h m next e = cc
judged_no_file (Some reason) n h m next e = cc

read_no_file : (accepts : Accepts) (active : Outline) (u : UploadView) (wanted : Wanted) (b : Buffer) (found : Result HeaderView HeaderFault) (next : Next) → judge_read_header accepts active u wanted b found ≡ Accepts_file next → ⊥
read_no_file accepts active u wanted b (Ok h) next e = judged_no_file _ _ h _ next e
read_no_file accepts active u wanted b (Err fault) next e = cc

if_no_file : (b : Bool) (reason : Reason) (n : ℕ) (other : Judgement) (next : Next) → (other ≡ Accepts_file next → ⊥) → cond b (Stops_for reason n) other ≡ Accepts_file next → ⊥
if_no_file true reason n other next none e = cc
if_no_file false reason n other next none e = none e

-- a header is never accepted as another file
pub header_no_file : (accepts : Accepts) (active : Outline) (u : UploadView) (wanted : Wanted) (b : Buffer) (next : Next) → judge_header accepts active u wanted b ≡ Accepts_file next → ⊥
unfolding judge_header
header_no_file accepts active u wanted b next e = if_no_file (is_too_long b) _ _ _ next (read_no_file accepts active u wanted b (answer header b.prefix) next) e

header_viewed : (wanted : Wanted) (h : HeaderView) (bytes : List ℕ) → is_too_long (buffered bytes) ≡ false
    → open_load_view (open_load wanted h bytes []) ≡ open_view wanted h (length bytes) [] (crc32_of (covered_header (take buffer_size bytes)))
header_viewed wanted h bytes short =
    let whole : take buffer_size bytes ≡ bytes = take_all buffer_size bytes (ltb-false buffer_size (length bytes) short) in
    rw (append-nil (covered_header bytes), whole) refl

header_same : (accepts : Accepts) (active : Outline) (u : Upload) (wanted : Wanted) (found : Option Wanted) (bytes : List ℕ) (judgement : Judgement) → found ≡ Some wanted → next_wanted (upload_view u) ≡ found
    → judge_header accepts active (upload_view u) wanted (buffered bytes) ≡ judgement → row_view (row_judged u bytes judgement) ≡ view_judged (upload_view u) (Kept_bytes (buffered bytes)) judgement
header_same accepts active u wanted found bytes (Stops_for reason n) a b e = refl
header_same accepts active u wanted found bytes (Accepts_header h next) a b e =
    rw (b, a) (placed_as u (open_load wanted h bytes []) _ next (header_viewed wanted h bytes (accepted_is_short accepts active (upload_view u) wanted (buffered bytes) h next e)))
header_same accepts active u wanted found bytes (Accepts_file next) a b e = absurd (header_no_file accepts active (upload_view u) wanted (buffered bytes) next e)

-- ---- data and support files

judged_no_header : (reason : Option Reason) (n : ℕ) (m : Next) (h : HeaderView) (next : Next) → judged reason n (Accepts_file m) ≡ Accepts_header h next → ⊥
judged_no_header None n m h next e = cc
judged_no_header (Some reason) n m h next e = cc

-- another file is never accepted as a header
pub file_no_header : (u : UploadView) (l : OpenLoadView) (entry : FileEntry) (s : Sums) (h : HeaderView) (next : Next) → judge_file u l entry s ≡ Accepts_header h next → ⊥
unfolding judge_file
file_no_header u l entry s h next e = judged_no_header _ _ _ h next e

first_passes : (b : Bool) (reason : Reason) (second third : Option Reason) (n : ℕ) (m next : Next) → judged (or_else (or_else (unless b reason) second) third) n (Accepts_file m) ≡ Accepts_file next → b ≡ true
first_passes true reason second third n m next e = refl
first_passes false reason second third n m next e = absurd cc

-- a file that is accepted has its length
accepted_is_whole : (u : UploadView) (l : OpenLoadView) (entry : FileEntry) (s : Sums) (next : Next) → judge_file u l entry s ≡ Accepts_file next → s.count ≡ entry.length
unfolding judge_file
accepted_is_whole u l entry s next e = eqb-true s.count entry.length (first_passes (eqb s.count entry.length) _ _ _ _ _ next e)

pub bytes_more : (files : List FileView) (name bytes : List ℕ) → bytes_of (files ++ file name bytes ∷ []) ≡ bytes_of files ++ bytes
bytes_more files name bytes = flat_map-append (λ (f : FileView). f.bytes) files (file name bytes ∷ []) ∙ ap (λ (x : List ℕ). bytes_of files ++ x) (append-nil bytes)

file_viewed : SumsJoin → (wanted : Wanted) (h : HeaderView) (head : List ℕ) (files : List FileView) (name bytes : List ℕ) (said : ℕ) → length bytes ≡ said
    → open_load_view (open_load wanted h head (files ++ file name bytes ∷ []))
    ≡ open_view wanted h (length head) (map file_entry_of files ++ record { name = name; length = length bytes } ∷ []) (crc32_after (crc32_of (covered head files)) (take said bytes))
file_viewed joins wanted h head files name bytes said e =
    let whole : take said bytes ≡ bytes = take_all said bytes (omega arith) in
    let joined : crc32_after (crc32_of (covered head files)) bytes ≡ crc32_of (covered head (files ++ file name bytes ∷ [])) =
    joins.crc32 (covered head files) bytes ∙ ap crc32_of (append_assoc (covered_header head) (bytes_of files) bytes ∙ ap (λ (x : List ℕ). covered_header head ++ x) (sym (bytes_more files name bytes))) in
    rw (whole, joined, map-append file_entry_of files (file name bytes ∷ [])) refl

file_same : SumsJoin → (request : List Wanted) (loads : List LoadView) (l : OpenLoad) (reports : ℕ) (found : Option FileEntry) (entry : FileEntry) (bytes : List ℕ) (judgement : Judgement) → found ≡ Some entry → next_entry (open_load_view l) ≡ found
    → judge_file (upload_view (upload request loads (Some l) reports)) (open_load_view l) entry (summed (said_length (next_entry (open_load_view l))) (open_load_view l).crc bytes) ≡ judgement
    → row_view (row_judged (upload request loads (Some l) reports) bytes judgement)
    ≡ view_judged (upload_view (upload request loads (Some l) reports)) (Kept_sums (summed (said_length (next_entry (open_load_view l))) (open_load_view l).crc bytes)) judgement
file_same joins request loads l reports found entry bytes (Stops_for reason n) a b e = refl
file_same joins request loads l reports found entry bytes (Accepts_header h next) a b e = absurd (file_no_header _ _ entry _ h next e)
file_same joins request loads l reports found entry bytes (Accepts_file next) a b e =
    let u = upload request loads (Some l) reports in
    let said : length bytes ≡ said_length (next_entry (open_load_view l)) = accepted_is_whole _ _ entry _ next e ∙ sym (ap said_length (b ∙ a)) in
    placed_as u (open_load l.wanted l.header l.bytes (l.files ++ file (next_name (upload_view u)) bytes ∷ [])) _ next
    (file_viewed joins l.wanted l.header l.bytes l.files (next_name (upload_view u)) bytes (said_length (next_entry (open_load_view l))) said)

-- ---- the end of a transfer

abbrev pub RowFollows : Accepts → Outline → WholeRow → Option ℕ → List ℕ → Type 0
RowFollows accepts active row error bytes =
    let end : TransferEnd = record { error = error; arriving = arriving_of (row_view row) bytes } in
    row_view (row_moved row bytes (row_move accepts active (row_view row) end)) ≡ view_moved (row_view row) (arriving_of (row_view row) bytes) (row_move accepts active (row_view row) end)

header_follows : (accepts : Accepts) (active : Outline) (request : List Wanted) (loads : List LoadView) (reports : ℕ) (bytes : List ℕ) (found : Option Wanted) → next_wanted (upload_view (upload request loads None reports)) ≡ found
    → row_view (row_moved (Reads_file (upload request loads None reports)) bytes (header_move accepts active (upload_view (upload request loads None reports)) found (Kept_bytes (buffered bytes))))
    ≡ view_moved (Reads_file (upload_view (upload request loads None reports))) (Kept_bytes (buffered bytes)) (header_move accepts active (upload_view (upload request loads None reports)) found (Kept_bytes (buffered bytes)))
header_follows accepts active request loads reports bytes None e = refl
header_follows accepts active request loads reports bytes (Some wanted) e =
    header_same accepts active (upload request loads None reports) wanted (Some wanted) bytes (judge_header accepts active (upload_view (upload request loads None reports)) wanted (buffered bytes)) refl e refl

file_follows : SumsJoin → (request : List Wanted) (loads : List LoadView) (l : OpenLoad) (reports : ℕ) (bytes : List ℕ) (found : Option FileEntry) → next_entry (open_load_view l) ≡ found
    → row_view (row_moved (Reads_file (upload request loads (Some l) reports)) bytes (file_move (upload_view (upload request loads (Some l) reports)) (open_load_view l) found (Kept_sums (summed (said_length (next_entry (open_load_view l))) (open_load_view l).crc bytes))))
    ≡ view_moved (Reads_file (upload_view (upload request loads (Some l) reports))) (Kept_sums (summed (said_length (next_entry (open_load_view l))) (open_load_view l).crc bytes))
    (file_move (upload_view (upload request loads (Some l) reports)) (open_load_view l) found (Kept_sums (summed (said_length (next_entry (open_load_view l))) (open_load_view l).crc bytes)))
file_follows joins request loads l reports bytes None e = refl
file_follows joins request loads l reports bytes (Some f) e =
    file_same joins request loads l reports (Some f) f bytes (judge_file (upload_view (upload request loads (Some l) reports)) (open_load_view l) f (summed (said_length (next_entry (open_load_view l))) (open_load_view l).crc bytes)) refl e refl

read_follows : SumsJoin → (accepts : Accepts) (active : Outline) (request : List Wanted) (loads : List LoadView) (current : Option OpenLoad) (reports : ℕ) (bytes : List ℕ) → RowFollows accepts active (Reads_file (upload request loads current reports)) None bytes
read_follows joins accepts active request loads None reports bytes = header_follows accepts active request loads reports bytes (next_wanted (upload_view (upload request loads None reports))) refl
read_follows joins accepts active request loads (Some l) reports bytes = file_follows joins request loads l reports bytes (next_entry (open_load_view l)) refl

lur_follows : (bytes : List ℕ) (found : Result (List Wanted) RequestFault)
    → row_view (row_moved Awaits_lur bytes (request_move found)) ≡ view_moved Awaits_lur (Kept_bytes (buffered bytes)) (request_move found)
lur_follows bytes (Ok loads) = refl
lur_follows bytes (Err fault) = refl

pub row_follows : SumsJoin → (accepts : Accepts) (active : Outline) (row : WholeRow) (error : Option ℕ) (bytes : List ℕ) → RowFollows accepts active row error bytes
row_follows joins accepts active (Reads_file u) None bytes = read_follows joins accepts active u.request u.loads u.current u.reports bytes
row_follows joins accepts active (Reads_file u) (Some code) bytes = refl
row_follows joins accepts active Awaits_lur None bytes = lur_follows bytes _
row_follows joins accepts active Awaits_lur (Some code) bytes = refl
row_follows joins accepts active Gives_lci None bytes = refl
row_follows joins accepts active Gives_lci (Some code) bytes = refl
row_follows joins accepts active Writes_lcs None bytes = refl
row_follows joins accepts active Writes_lcs (Some code) bytes = refl
row_follows joins accepts active Writes_lcl None bytes = refl
row_follows joins accepts active Writes_lcl (Some code) bytes = refl
row_follows joins accepts active Gives_lui None bytes = refl
row_follows joins accepts active Gives_lui (Some code) bytes = refl
row_follows joins accepts active Gives_denial None bytes = refl
row_follows joins accepts active Gives_denial (Some code) bytes = refl
row_follows joins accepts active Writes_ready None bytes = refl
row_follows joins accepts active Writes_ready (Some code) bytes = refl
row_follows joins accepts active (Writes_progress u) None bytes = refl
row_follows joins accepts active (Writes_progress u) (Some code) bytes = refl
row_follows joins accepts active (Writes_stop e) None bytes = refl
row_follows joins accepts active (Writes_stop e) (Some code) bytes = refl
row_follows joins accepts active (Writes_completion e loads) None bytes = refl
row_follows joins accepts active (Writes_completion e loads) (Some code) bytes = refl
row_follows joins accepts active Over None bytes = refl
row_follows joins accepts active Over (Some code) bytes = refl
