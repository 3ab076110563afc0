-- Proofs that what a session of the target read arrived whole.
use Rattle.std.proofs.Common.{◌≡◌, ◌↔◌, ◌⊎◌, inl, inr, ⊎_elim, ℕ, suc, ◌+◌, Bool, true, false, cond, eqb, List, [], ◌∷◌, ◌++◌, length, Option, Some, None, Result, Ok, Err, refl, sym, ap, subst, ◌∙◌, arith}
use Rattle.std.specs.Prelude.{take}
use Rattle.std.specs.List.{All}
use Rattle.std.proofs.lemmas.Bool.{ltb-false}
use Rattle.std.proofs.lemmas.List.{take_all}
use Rattle.field_grammar.specs.Answers.{answer}
use Rattle.field_grammar.specs.Grammar.{IsBytes, IsDecided, Spelled}
use Rattle.load_protocol_files.specs.declared.fault.FileFault.{FileFault}
use Rattle.load_protocol_files.specs.declared.lur.Wanted.{Wanted}
use Rattle.load_protocol_files.specs.Lur.{LurSpells, LurView, WantedFits, lur}
use Rattle.disk_layout.specs.Holds.{StandingView, outline_of}
use Rattle.tftp_packet.specs.Packets.{PacketView}
use Rattle.tftp_link.specs.declared.phase.Phase.{Phase}
use Rattle.tftp_link.specs.declared.phase.Phase.TheVariants.{Waiting, Running, Finished, Failed}
use Rattle.tftp_link.specs.Answers.{Again, Answer, Completes, Dropped, Fails, Grants, Proceeds, TakesBlock, TakesLast, code_of, is_finished, is_live}
use Rattle.tftp_link.specs.Receiver.{receiver_after_all, receiver_asking}
use Rattle.exchange_trace.specs.declared.trace.Side.{Side}
use Rattle.exchange_trace.specs.declared.trace.Side.TheVariants as sides
use Rattle.exchange_trace.specs.Logs.{Event}
use Rattle.transfer_end.specs.Came.{PacketsCame}
use Rattle.transfer_end.proofs.CameLemmas.{moves_came}
use Rattle.transfer_end.specs.Laws.{IsLive}
use Rattle.transfer_end.specs.Moves.{Asks, Asks_size, Hears, Move, Recalls, Refuses, Repeats, Serves, Stops, past_with, reading_after, reading_answered, reading_heard, reading_unchanged, readings_after}
use Rattle.transfer_end.proofs.OtherEndLemmas.{among_either}
use Rattle.transfer_end.specs.OtherEnds.{Among}
use Rattle.transfer_end.specs.Readings.{Reading}
use Rattle.transfer_end.proofs.RfcLemmas.{end_is_of_link}
use Rattle.transfer_end.specs.Transfers.{LinkEnd, Reads, Receives, Role, ServesRead, ServesWrite, Transfer, Writes, arrived_of, end_answer, end_in, end_of, error_of, is_reading, is_received, phase_of}
use Rattle.accept_rules.specs.Permissions.{Accepts}
use Rattle.session_rules.specs.declared.reason.RequestFault.{RequestFault}
use Rattle.session_rules.specs.declared.reason.RequestFault.TheVariants as requests
use Rattle.session_rules.specs.Buffers.{buffer_size, buffered, is_too_long}
use Rattle.session_rules.specs.LoaderLog.{newest}
use Rattle.session_rules.specs.NewConfigs.{request_in}
use Rattle.session_rules.specs.ReadFiles.{AreNamed, AreReadWhole, InstallsWhatWasRead, IsReadBy, ReadsIn, SessionReads, is_stopped}
use Rattle.session_rules.specs.declared.outcome.FileKind.{FileKind}
use Rattle.session_rules.specs.declared.outcome.FileKind.TheVariants.{Lci, Lui}
use Rattle.session_rules.specs.declared.reason.Reason.{Reason}
use Rattle.session_rules.proofs.BufferLemmas.{SumsJoin}
use Rattle.session_rules.proofs.HeardLemmas.{target_moves_heard}
use Rattle.session_rules.proofs.SoundLogLemmas.{PayloadsAreBytes, begins_active, newest_bytes}
use Rattle.session_rules.specs.SoundLogs.{IsNewAt, LogIsBytes}
use Rattle.session_rules.proofs.SoundnessLemmas.{read_is_spelled}
use Rattle.session_rules.specs.Target.{Begins, Continues, Ends, TargetChange, Turns, Turns_without_port, target_decision}
use Rattle.session_rules.proofs.TargetLemmas.{FitsChange, HasTurned, after, decision_fits, row_of_one}
use Rattle.session_rules.specs.TargetLog.{TargetReading, TargetSessionLog, target_extended, target_reading_changed, target_view, with_done}
use Rattle.session_rules.specs.TargetRows.{Arriving, Awaits_lur, Breaks_off, Gives_denial, Gives_lci, Gives_lui, Judges, Kept_bytes, Kept_sums, Over, Passes, Reads_file, Refuses_request, Requests, RowMove, RowView, WholeRow, Writes_completion, Writes_lcl, Writes_lcs, Writes_progress, Writes_ready, Writes_stop, arriving_of, error_move, file_move, first_row, header_move, placed_if, read_move, request_move, row_judged, row_move, row_move_by, row_moved, row_view, row_with, transfer_end, with_file, with_header}
use Rattle.session_rules.specs.Uploads.{Accepts_file, Accepts_header, Complete, Judgement, More_files, Next, Next_load, OpenLoad, OpenLoadView, Stops_for, Upload, UploadView, is_load_count, judge_request, next_entry, next_name, next_wanted, request_read, upload_view}

-- ---- transfers that are over stay

unchanged_past : (r : Reading) (t : Transfer) (from : ℕ) (p : PacketView) (peer : Option ℕ) → (reading_unchanged r t from p peer).past ≡ r.past
unchanged_past r t from p None = refl
unchanged_past r t from p (Some port) = refl

answered_past : (side : Side) (r : Reading) (t : Transfer) (from : ℕ) (p : PacketView) (answer : Answer) (x : Transfer) → Among x r.past → Among x (reading_answered side r t from p answer).past
answered_past side r t from p Dropped x a = subst (λ (ts : List Transfer). Among x ts) (sym (unchanged_past r t from p t.peer)) a
answered_past side r t from p Again x a = subst (λ (ts : List Transfer). Among x ts) (sym (unchanged_past r t from p t.peer)) a
answered_past side r t from p (Grants o) x a = a
answered_past side r t from p (TakesBlock b) x a = a
answered_past side r t from p (TakesLast b) x a = inr a
answered_past side r t from p Proceeds x a = a
answered_past side r t from p Completes x a = inr a
answered_past side r t from p (Fails code) x a = inr a

heard_past : (side : Side) (r : Reading) (live : Option Transfer) (from : ℕ) (p : PacketView) (x : Transfer) → Among x r.past → Among x (reading_heard side r live from p).past
heard_past side r None from p x a = a
heard_past side r (Some t) from p x a = answered_past side r t from p (end_answer (end_of t.role t.got) p) x a

with_past : (live : Option Transfer) (past : List Transfer) (x : Transfer) → Among x past → Among x (past_with live past)
with_past None past x a = a
with_past (Some t) past x a = inr a

move_past : (side : Side) (r : Reading) (move : Move) (x : Transfer) → Among x r.past → Among x (reading_after side r move).past
move_past side r (Hears from p) x a = heard_past side r r.live from p x a
move_past side r (Recalls from p) x a = a
move_past side r (Asks role) x a = with_past r.live r.past x a
move_past side r (Serves from role) x a = with_past r.live r.past x a
move_past side r (Refuses from) x a = a
move_past side r Repeats x a = a
move_past side r Stops x a = with_past r.live r.past x a
move_past side r (Asks_size n) x a = a

pub moves_past : (side : Side) (r : Reading) (moves : List Move) (x : Transfer) → Among x r.past → Among x (readings_after side r moves).past
moves_past side r [] x a = a
moves_past side r (move ∷ moves) x a = moves_past side (reading_after side r move) moves x (move_past side r move x a)

pub newest_among : (past : List Transfer) (t : Transfer) → newest past ≡ t ∷ [] → Among t past
newest_among [] t e = absurd cc
newest_among (x ∷ past) t e = let same : x ≡ t = cc in inl same

-- ---- what is asked for

abbrev pub RequestsAreSpelled : Type 0
RequestsAreSpelled = (v : LurView) (bytes : List ℕ) → IsBytes bytes → answer lur bytes ≡ Ok v → LurSpells v bytes

named_of_all : (ws : List Wanted) → All (λ w. WantedFits w) ws → AreNamed ws
named_of_all [] all = tt
named_of_all (w ∷ ws) all = ((all 0 w (omega arith)).header, named_of_all ws (λ k d less. all (suc k) d (omega (arith, less))))

abbrev IsOkRequest : Result (List Wanted) RequestFault → Type 0
IsOkRequest (Ok loads) = AreNamed loads
IsOkRequest (Err fault) = Unit {0}

abbrev MoveNamed : RowMove → Type 0
MoveNamed (Requests loads) = AreNamed loads
MoveNamed move = Unit {0}

read_named : RequestsAreSpelled → (bytes : List ℕ) → IsBytes bytes → (found : Result LurView FileFault) → answer lur bytes ≡ found → IsOkRequest (request_read found)
read_named reads bytes fit (Ok v) e = by (is_load_count (length v.loads)) (named_of_all v.loads (reads v bytes fit e).0.loads)
  where
    by : (b : Bool) → AreNamed v.loads → IsOkRequest (cond b (Ok v.loads) (Err (requests.Loads (length v.loads))))
    by true h = h
    by false h = tt
read_named reads bytes fit (Err fault) e = tt

request_named : RequestsAreSpelled → (bytes : List ℕ) → IsBytes bytes → IsOkRequest (judge_request (buffered bytes))
unfolding judge_request
request_named reads bytes fit = by (is_too_long (buffered bytes)) refl
  where
    by : (b : Bool) → is_too_long (buffered bytes) ≡ b → IsOkRequest (cond b (Err requests.TooLong) (request_read (answer lur (buffered bytes).prefix)))
    by true e = tt
    by false e =
        let whole : take buffer_size bytes ≡ bytes = take_all buffer_size bytes (ltb-false buffer_size (length bytes) e) in
        subst (λ (x : List ℕ). IsOkRequest (request_read (answer lur x))) (sym whole) (read_named reads bytes fit (answer lur bytes) refl)

as_move : (found : Result (List Wanted) RequestFault) → IsOkRequest found → MoveNamed (request_move found)
as_move (Ok loads) h = h
as_move (Err fault) h = tt

module _ (accepts : Accepts) (active : StandingView) where
  header_asks_none : (u : UploadView) (wanted : Option Wanted) (arriving : Arriving) → MoveNamed (header_move accepts (outline_of active) u wanted arriving)
  header_asks_none u None arriving = tt
  header_asks_none u (Some w) (Kept_bytes b) = tt
  header_asks_none u (Some w) (Kept_sums s) = tt

  read_asks_none : (u : UploadView) (current : Option OpenLoadView) (arriving : Arriving) → MoveNamed (read_move accepts (outline_of active) u current arriving)
  read_asks_none u None arriving = header_asks_none u (next_wanted u) arriving
  read_asks_none u (Some l) (Kept_bytes b) = by (next_entry l)
    where
      by : (entry : Option _) → MoveNamed (file_move u l entry (Kept_bytes b))
      by None = tt
      by (Some entry) = tt
  read_asks_none u (Some l) (Kept_sums s) = by (next_entry l)
    where
      by : (entry : Option _) → MoveNamed (file_move u l entry (Kept_sums s))
      by None = tt
      by (Some entry) = tt

  error_asks_none : (row : RowView) (code : ℕ) → MoveNamed (error_move row code)
  error_asks_none (Reads_file u) code = tt
  error_asks_none Gives_lci code = tt
  error_asks_none Writes_lcs code = tt
  error_asks_none Writes_lcl code = tt
  error_asks_none Gives_lui code = tt
  error_asks_none Gives_denial code = tt
  error_asks_none Writes_ready code = tt
  error_asks_none Awaits_lur code = tt
  error_asks_none (Writes_progress u) code = tt
  error_asks_none (Writes_stop e) code = tt
  error_asks_none (Writes_completion e loads) code = tt
  error_asks_none Over code = tt

  move_named : RequestsAreSpelled → (row : WholeRow) (bytes : List ℕ) (error : Option ℕ) → IsBytes bytes → MoveNamed (row_move_by accepts (outline_of active) (row_view row) (arriving_of (row_view row) bytes) error)
  move_named reads row bytes (Some code) fit = error_asks_none (row_view row) code
  move_named reads (Reads_file u) bytes None fit = read_asks_none (upload_view u) (upload_view u).current _
  move_named reads Awaits_lur bytes None fit = as_move (judge_request (buffered bytes)) (request_named reads bytes fit)
  move_named reads Gives_lci bytes None fit = tt
  move_named reads Writes_lcs bytes None fit = tt
  move_named reads Writes_lcl bytes None fit = tt
  move_named reads Gives_lui bytes None fit = tt
  move_named reads Gives_denial bytes None fit = tt
  move_named reads Writes_ready bytes None fit = tt
  move_named reads (Writes_progress u) bytes None fit = tt
  move_named reads (Writes_stop e) bytes None fit = tt
  move_named reads (Writes_completion e loads) bytes None fit = tt
  move_named reads Over bytes None fit = tt

  placed_named : (u : Upload) (l : Option OpenLoad) (next : Next) → AreNamed u.request → AreNamed (request_in (placed_if u l next))
  placed_named u None next h = tt
  placed_named u (Some l) More_files h = h
  placed_named u (Some l) Next_load h = h
  placed_named u (Some l) Complete h = h

  judged_named : (u : Upload) (bytes : List ℕ) (judgement : Judgement) → AreNamed u.request → AreNamed (request_in (row_judged u bytes judgement))
  judged_named u bytes (Stops_for reason n) h = h
  judged_named u bytes (Accepts_header header next) h = placed_named u (with_header (next_wanted (upload_view u)) header bytes) next h
  judged_named u bytes (Accepts_file next) h = placed_named u (with_file u.current (next_name (upload_view u)) bytes) next h

  moved_named : (row : WholeRow) (bytes : List ℕ) (move : RowMove) → MoveNamed move → AreNamed (request_in row) → AreNamed (request_in (row_moved row bytes move))
  moved_named row bytes (Requests loads) named h = named
  moved_named row bytes (Refuses_request fault) named h = tt
  moved_named row bytes Breaks_off named h = tt
  moved_named (Reads_file u) bytes (Judges judgement) named h = judged_named u bytes judgement h
  moved_named Gives_lci bytes (Judges judgement) named h = tt
  moved_named Writes_lcs bytes (Judges judgement) named h = tt
  moved_named Writes_lcl bytes (Judges judgement) named h = tt
  moved_named Gives_lui bytes (Judges judgement) named h = tt
  moved_named Gives_denial bytes (Judges judgement) named h = tt
  moved_named Writes_ready bytes (Judges judgement) named h = tt
  moved_named Awaits_lur bytes (Judges judgement) named h = tt
  moved_named (Writes_progress u) bytes (Judges judgement) named h = tt
  moved_named (Writes_stop e) bytes (Judges judgement) named h = tt
  moved_named (Writes_completion e loads) bytes (Judges judgement) named h = tt
  moved_named Over bytes (Judges judgement) named h = tt
  moved_named (Writes_progress u) bytes Passes named h = h
  moved_named (Reads_file u) bytes Passes named h = tt
  moved_named Gives_lci bytes Passes named h = tt
  moved_named Writes_lcs bytes Passes named h = tt
  moved_named Writes_lcl bytes Passes named h = tt
  moved_named Gives_lui bytes Passes named h = tt
  moved_named Gives_denial bytes Passes named h = tt
  moved_named Writes_ready bytes Passes named h = tt
  moved_named Awaits_lur bytes Passes named h = tt
  moved_named (Writes_stop e) bytes Passes named h = tt
  moved_named (Writes_completion e loads) bytes Passes named h = tt
  moved_named Over bytes Passes named h = tt

  row_named : RequestsAreSpelled → (row : WholeRow) (t : Transfer) → IsBytes (arrived_of t) → AreNamed (request_in row) → AreNamed (request_in (row_with accepts active row t))
  row_named reads row t fit h = moved_named row (arrived_of t) (row_move accepts (outline_of active) (row_view row) (transfer_end (row_view row) t)) (move_named reads row (arrived_of t) (error_of t) fit) h

  -- ---- what is read whole

  error_stops : (row : WholeRow) (t : Transfer) (code : ℕ) → error_of t ≡ Some code → is_stopped (row_with accepts active row t) ≡ true
  error_stops Gives_lci t code e = rw e refl
  error_stops Writes_lcs t code e = rw e refl
  error_stops Writes_lcl t code e = rw e refl
  error_stops Gives_lui t code e = rw e refl
  error_stops Gives_denial t code e = rw e refl
  error_stops Writes_ready t code e = rw e refl
  error_stops Awaits_lur t code e = rw e refl
  error_stops (Reads_file u) t code e = rw e refl
  error_stops (Writes_progress u) t code e = rw e refl
  error_stops (Writes_stop end) t code e = rw e refl
  error_stops (Writes_completion end loads) t code e = rw e refl
  error_stops Over t code e = rw e refl

  stopped_by : (row : WholeRow) (t : Transfer) (error : Option ℕ) → error_of t ≡ error → is_stopped row ≡ true → is_stopped (row_with accepts active row t) ≡ true
  stopped_by row t (Some code) e stopped = error_stops row t code e
  stopped_by (Writes_stop end) t None e stopped = rw e refl
  stopped_by Over t None e stopped = rw e refl
  stopped_by Gives_lci t None e stopped = absurd cc
  stopped_by Writes_lcs t None e stopped = absurd cc
  stopped_by Writes_lcl t None e stopped = absurd cc
  stopped_by Gives_lui t None e stopped = absurd cc
  stopped_by Gives_denial t None e stopped = absurd cc
  stopped_by Writes_ready t None e stopped = absurd cc
  stopped_by Awaits_lur t None e stopped = absurd cc
  stopped_by (Reads_file u) t None e stopped = absurd cc
  stopped_by (Writes_progress u) t None e stopped = absurd cc
  stopped_by (Writes_completion end loads) t None e stopped = absurd cc

true_is_false : (A : Type 0) (b : Bool) → b ≡ true → b ≡ false → A
true_is_false A b yes_it no_it = absurd (let wrong : true ≡ false = sym yes_it ∙ no_it in cc)

pub finished_of : (phase : Phase) → is_live phase ≡ false → code_of phase ≡ None → is_finished phase ≡ true
finished_of Waiting over none = absurd cc
finished_of Running over none = absurd cc
finished_of Finished over none = refl
finished_of (Failed code) over none = absurd cc

-- a file that was read without an ERROR is whole
read_is_whole : (role : Role) (got : List PacketView) → is_reading role ≡ true → is_live (phase_of (end_of role got)) ≡ false → code_of (phase_of (end_of role got)) ≡ None → is_received (end_of role got) ≡ true
read_is_whole (Reads name o) got reads over none =
    let end : end_of (Reads name o) got ≡ Receives (receiver_after_all (receiver_asking name o) got) = (end_is_of_link name [] o got).0 in
    ap is_received end ∙ finished_of (receiver_after_all (receiver_asking name o) got).phase (sym (ap (λ (x : LinkEnd). is_live (phase_of x)) end) ∙ over) (sym (ap (λ (x : LinkEnd). code_of (phase_of x)) end) ∙ none)
read_is_whole (Writes name o f) got reads over none = absurd cc
read_is_whole (ServesRead name o f) got reads over none = absurd cc
read_is_whole (ServesWrite name o) got reads over none = absurd cc

-- a session turns to its next row
pub turned_reads : RequestsAreSpelled → (accepts : Accepts) (active : StandingView) (end : Reading) (s : TargetSessionLog) (moves : List Move) (move : RowMove) (more : List ℕ) → (h : HasTurned accepts active end s moves move more) → IsBytes (arrived_of h.ended)
    → IsReadBy s.row end s.done → IsReadBy (with_done accepts active s (h.ended ∷ [])).row (after end moves) (s.done ++ h.ended ∷ [])
turned_reads reads accepts active end s moves move more h fit was = record {
  past = λ t a. ⊎_elim (λ (b : Among t s.done). moves_past _ end moves t (was.past t b)) (λ (b : Among t (h.ended ∷ [])). only t b) (among_either t s.done (h.ended ∷ []) a);
  whole = whole_of;
  named = subst (λ (row : WholeRow). AreNamed (request_in row)) (sym same) (row_named accepts active reads s.row h.ended fit was.named);
}
  where
    same : (with_done accepts active s (h.ended ∷ [])).row ≡ row_with accepts active s.row h.ended
    same = row_of_one accepts active s.row h.ended

    only : (t : Transfer) → Among t (h.ended ∷ []) → Among t (after end moves).past
    only t (inl e) = subst (λ (x : Transfer). Among x (after end moves).past) e (newest_among (after end moves).past h.ended h.is_newest)
    only t (inr e) = absurd e

    whole_of : is_stopped (with_done accepts active s (h.ended ∷ [])).row ≡ false → AreReadWhole (s.done ++ h.ended ∷ [])
    whole_of going = λ t a reading. by (error_of h.ended) refl (is_stopped s.row) refl t reading (among_either t s.done (h.ended ∷ []) a)
      where
        now : is_stopped (row_with accepts active s.row h.ended) ≡ false
        now = ap is_stopped (sym same) ∙ going

        by : (error : Option ℕ) → error_of h.ended ≡ error → (stopped : Bool) → is_stopped s.row ≡ stopped → (t : Transfer) → is_reading t.role ≡ true → Among t s.done ⊎ Among t (h.ended ∷ []) → is_received (end_in t) ≡ true
        by (Some code) e stopped f t reading a = true_is_false _ _ (error_stops accepts active s.row h.ended code e) now
        by None e true f t reading a = true_is_false _ _ (stopped_by accepts active s.row h.ended None e f) now
        by None e false f t reading (inl b) = was.whole f t b reading
        by None e false f t reading (inr (inl x)) =
            subst (λ (y : Transfer). is_received (end_in y) ≡ true) x (read_is_whole h.ended.role h.ended.got (subst (λ (y : Transfer). is_reading y.role ≡ true) (sym x) reading) h.over e)
        by None e false f t reading (inr (inr b)) = absurd b

-- ---- one event more

abbrev pub reading : Reading → Option TargetSessionLog → StandingView → Option Reason → TargetReading
reading end live active reason = record { end = end; live = live; active = active; reason = reason }

first_named : (kind : FileKind) (sequence : ℕ) → AreNamed (request_in (first_row kind sequence))
first_named Lci sequence = tt
first_named Lui sequence = by (eqb sequence 4294967295)
  where
    by : (b : Bool) → AreNamed (request_in (cond b Gives_denial Gives_lui))
    by true = tt
    by false = tt
first_named kind sequence = tt

-- the configuration that stays is not a new one
pub no_new : (A : Type 0) (accepts : Accepts) (before after : TargetReading) → after.active ≡ before.active → IsNewAt accepts before after → A
no_new A accepts before after same new =
    let next : before.active.sequence + 1 ≡ before.active.sequence = sym (ap (λ (s : StandingView). s.sequence) new.next) ∙ ap (λ (s : StandingView). s.sequence) same in
    absurd (omega (arith, next))

pub one_is : (ts : List Transfer) (t u : Transfer) → ts ≡ t ∷ [] → ts ≡ u ∷ [] → t ≡ u
one_is ts t u a b = let both : t ∷ [] ≡ u ∷ [] = sym a ∙ b in cc

pub session_is : (s t : TargetSessionLog) → Some s ≡ Some t → s ≡ t
session_is s t e = cc

-- what is installed was read
turned_installs : (accepts : Accepts) (before after : TargetReading) (s : TargetSessionLog) (t : Transfer) → before.live ≡ Some s → newest after.end.past ≡ t ∷ [] → IsReadBy (with_done accepts before.active s (t ∷ [])).row after.end (s.done ++ t ∷ [])
    → (new : IsNewAt accepts before after) → InstallsWhatWasRead accepts before after new
turned_installs accepts before after s t live one reads new =
    let same : s ≡ new.session = session_is s new.session (sym live ∙ new.live) in
    let last : t ≡ new.ended = one_is (newest after.end.past) t new.ended one new.is_newest in
    let here : IsReadBy (with_done accepts before.active new.session (new.ended ∷ [])).row after.end (new.session.done ++ new.ended ∷ []) =
    subst (λ (x : TargetSessionLog). IsReadBy (with_done accepts before.active x (new.ended ∷ [])).row after.end (x.done ++ new.ended ∷ [])) same
    (subst (λ (x : Transfer). IsReadBy (with_done accepts before.active s (x ∷ [])).row after.end (s.done ++ x ∷ [])) last reads) in
    let row : IsReadBy (Writes_completion new.upload new.loads) after.end (new.session.done ++ new.ended ∷ []) = subst (λ (x : WholeRow). IsReadBy x after.end (new.session.done ++ new.ended ∷ [])) new.good here in
    record { past = row.past; whole = row.whole refl; named = row.named }

abbrev EventReads : Accepts → TargetReading → TargetReading → Type 0
EventReads accepts before after = SessionReads after × ((new : IsNewAt accepts before after) → InstallsWhatWasRead accepts before after new)

module _ (reads : RequestsAreSpelled) (accepts : Accepts) where
  longer_past : (row : WholeRow) (end : Reading) (moves : List Move) (done : List Transfer) → IsReadBy row end done → IsReadBy row (after end moves) done
  longer_past row end moves done h = record { past = λ t a. moves_past _ end moves t (h.past t a); whole = h.whole; named = h.named }

  changed_reads : (end : Reading) (live : Option TargetSessionLog) (active : StandingView) (reason : Option Reason) (moves : List Move) (change : TargetChange) → FitsChange accepts active end live moves change → ReadsIn end live
      → ((t : Transfer) → newest (after end moves).past ≡ t ∷ [] → IsBytes (arrived_of t))
      → EventReads accepts (reading end live active reason) (target_reading_changed accepts (after end moves) (reading end live active reason) change)
  changed_reads end live active reason moves (Begins kind) fits h bytes = (
    record { past = λ t a. absurd a; whole = λ going t a. absurd a; named = first_named kind active.sequence },
    λ new. no_new _ accepts _ _ (begins_active active kind active.sequence) new,
  )
  changed_reads end live active reason moves (Ends why) fits h bytes = (tt, λ new. no_new _ accepts _ _ refl new)
  changed_reads end None active reason moves (Continues more) fits h bytes = (tt, λ new. no_new _ accepts _ _ refl new)
  changed_reads end None active reason moves (Turns move more) fits h bytes = (tt, λ new. no_new _ accepts _ _ refl new)
  changed_reads end None active reason moves (Turns_without_port move more) fits h bytes = (tt, λ new. no_new _ accepts _ _ refl new)
  changed_reads end (Some s) active reason moves (Continues more) fits h bytes = (longer_past s.row end moves s.done h, λ new. no_new _ accepts _ _ refl new)
  changed_reads end (Some s) active reason moves (Turns move more) (turn, none, role) h bytes =
      let now = turned_reads reads accepts active end s moves move more turn (bytes turn.ended turn.is_newest) h in (
        subst (λ (ts : List Transfer). IsReadBy (with_done accepts active s ts).row (after end moves) (s.done ++ ts)) (sym turn.is_newest) now,
        turned_installs accepts _ _ s turn.ended refl turn.is_newest now,
      )
  changed_reads end (Some s) active reason moves (Turns_without_port move more) turn h bytes =
      (tt, turned_installs accepts _ _ s turn.ended refl turn.is_newest (turned_reads reads accepts active end s moves move more turn (bytes turn.ended turn.is_newest) h))

  pub target_step_reads : SumsJoin → PayloadsAreBytes → (log : List Event) (r : TargetReading) (e : Event) → LogIsBytes (e ∷ log) → PacketsCame log r.end → IsLive r.end.live → SessionReads r → EventReads accepts r (target_extended accepts r e)
  target_step_reads joins payloads log r e fit packets live h =
      let d = target_decision accepts (target_view r) e in
      changed_reads r.end r.live r.active r.reason d.moves d.change (decision_fits joins accepts r e live) h
      (λ t one. newest_bytes payloads (e ∷ log) (after r.end d.moves) t fit (moves_came sides.Target e log r.end d.moves (target_moves_heard accepts (target_view r) e) packets) one)

-- which load_protocol_files promises of its format (`protocol_file_laws`)
pub requests_are_spelled : ((bytes : List ℕ) → IsBytes bytes → IsDecided lur bytes) → ((bytes : List ℕ) (v : LurView) → Spelled lur bytes v ↔ LurSpells v bytes) → RequestsAreSpelled
requests_are_spelled decided spells v bytes fit e = (spells bytes v).0 (read_is_spelled lur bytes v (decided bytes fit).one_or_other e)
