-- Proofs of how an upload is completed.
use Rattle.std.proofs.Common.{arith, ◌≡◌, ℕ, ◌≤◌, Bool, true, false, cond, eqb, List, [], ◌∷◌, ◌++◌, length, Option, Some, None, Result, Ok, Err, refl, sym, ap, subst, ◌∙◌}
use Rattle.std.specs.Prelude.{bytes_eq, drop, fold, take, ◌==◌}
use Rattle.std.specs.List.{AllByRecursion}
use Rattle.std.proofs.lemmas.Bool.{eqb-true}
use Rattle.field_grammar.specs.Answers.{answer}
use Rattle.field_grammar.specs.Fields.{number_bytes}
use Rattle.load_protocol_files.specs.declared.fault.FileFault.{FileFault}
use Rattle.load_protocol_files.specs.declared.lui.Lui.{Lui}
use Rattle.load_protocol_files.specs.declared.lur.Wanted.{Wanted}
use Rattle.load_protocol_files.specs.Files.{file_fields}
use Rattle.load_protocol_files.specs.Lui.{lui}
use Rattle.load_protocol_files.specs.Lus.{LusView, lus}
use Rattle.load_protocol_files.specs.Pieces.{counted_fields}
use Rattle.load_base.specs.Config.{LoadView}
use Rattle.disk_layout.specs.Holds.{Outline, StandingView}
use Rattle.disk_layout.specs.Manifest.{LoadEntry}
use Rattle.tftp_packet.specs.declared.options.Options.{Options}
use Rattle.tftp_packet.specs.Packets.{PacketView, Rrq, Wrq, Data, Ack, Error, Oack}
use Rattle.tftp_link.specs.declared.phase.Phase.{Phase}
use Rattle.tftp_link.specs.declared.phase.Phase.TheVariants.{Waiting, Running, Finished, Failed}
use Rattle.tftp_link.specs.Answers.{Answer, Completes, Dropped, Grants, Proceeds, TakesLast, error_answer}
use Rattle.tftp_link.specs.Sender.{Sender, ack_answer, awaited_answer, last_of, sender_answer, sender_oack_answer}
use Rattle.exchange_trace.specs.declared.trace.Side.TheVariants as sides
use Rattle.exchange_trace.specs.Logs.{Event, Gets, Learns, Starts_info, Starts_upload, Ticks}
use Rattle.transfer_end.specs.Laws.{IsLive}
use Rattle.transfer_end.specs.Moves.{Asks, Asks_size, Hears, Move, Recalls, Refuses, Repeats, Serves, Stops, readings_after}
use Rattle.transfer_end.specs.OtherEnds.{MoveFits, MoveHasRole, MovesFit, ServesIn, is_asking, is_receiving}
use Rattle.transfer_end.specs.Readings.{Reading}
use Rattle.transfer_end.proofs.RfcLemmas.{end_is_of_link}
use Rattle.transfer_end.proofs.ViewLemmas.{end_of_more}
use Rattle.transfer_end.specs.Transfers.{LinkEnd, Role, ServesRead, ServesWrite, Transfer, Writes, arrived_of, arriving_in, end_answer, end_moved, end_of, is_received, with_packet}
use Rattle.transfer_end.specs.Transfers as transfers
use Rattle.transfer_end.specs.Views.{TransferView}
use Rattle.accept_rules.specs.Permissions.{Accepts}
use Rattle.session_rules.specs.declared.outcome.FileKind.{FileKind}
use Rattle.session_rules.specs.declared.outcome.FileKind.TheVariants as kinds
use Rattle.session_rules.specs.declared.outcome.Outcome.{Outcome}
use Rattle.session_rules.specs.declared.outcome.Outcome.TheVariants.{Completed, Denied, Replaced, TargetStopped}
use Rattle.session_rules.specs.declared.outcome.SessionKind.{SessionKind}
use Rattle.session_rules.specs.declared.outcome.SessionKind.TheVariants.{Info, Upload}
use Rattle.session_rules.specs.declared.reason.Reason.{Reason}
use Rattle.session_rules.proofs.BufferLemmas.{SumsJoin}
use Rattle.session_rules.specs.Buffers.{buffered, buffered_more}
use Rattle.session_rules.specs.Completions.{CompletedUploadArrived, CompletionArrived, InstallsNow, SaysCompleted, TargetTellsInstalled, TellsInstalled}
use Rattle.session_rules.proofs.FairLemmas.{target_moves_fit}
use Rattle.session_rules.specs.Fairness.{IsTargetRole}
use Rattle.session_rules.proofs.ListLemmas.{target_asks_in_turn, turned_reading}
use Rattle.session_rules.specs.Lists.{AskedInTurn, RowAsks}
use Rattle.session_rules.specs.Loader.{Advances, Begins, Begins_over, Continues, EndedSession, Ends, LoaderChange, ended_as, loader_decision}
use Rattle.session_rules.proofs.LoaderLemmas.{end_stays as loader_end_stays}
use Rattle.session_rules.specs.LoaderLog.{LoaderReading, SessionLog, loader_extended, loader_reading, loader_reading_changed, loader_view, newest}
use Rattle.session_rules.proofs.LoaderRoleLemmas.{arrived_last, ends_with, head_is, loader_decision_fits, longer, longer_two, not_too_long, whole_prefix}
use Rattle.session_rules.specs.LoaderRoles.{EndsByFile, FitsLoaderChange, loader_row}
use Rattle.session_rules.specs.LoaderRows.{Comes_to, Goes_on, LoaderRow, Reads_lci, Reads_lui, Serves_files, Takes_lcl, Takes_lcs, Takes_lus, RowTurn, Writes_lur, bad_file, bytes_turn, first_lus_turn, later_lus_turn, lui_turn, row_after, row_of}
use Rattle.session_rules.specs.MediaFiles.{Media}
use Rattle.session_rules.specs.Reports.{accepted, accepting_lui, completed, denied, denying_lui, in_progress, lci_file, lcl_file, lcs_file, progress_lus, ready_lus, stopped, stopped_lus}
use Rattle.session_rules.proofs.SessionLemmas.{begun_by, decision_begins}
use Rattle.session_rules.specs.Sessions.{started_by}
use Rattle.session_rules.specs.Target as target
use Rattle.session_rules.proofs.TargetLemmas.{FitsChange, HasTurned, after, decision_fits, seen_row, turned_row, turned_view}
use Rattle.session_rules.specs.TargetLog.{TargetReading, TargetSessionLog, reading_turned, session_view, standing_after, standing_in, target_extended, target_view, with_done}
use Rattle.session_rules.specs.TargetRows as rows
use Rattle.session_rules.specs.TargetRows.{Arriving, Breaks_off, Judges, Passes, Refuses_request, Requests, placed_view, placed_view_if, view_judged, view_judged_in, with_file_view, with_header_view}
use Rattle.session_rules.specs.Uploads.{Accepts_file, Accepts_header, Complete, Judgement, More_files, Next, Next_load, OpenLoadView, Stops_for, UploadView, next_name, next_wanted}
use Rattle.session_rules.specs.TargetRows.{Awaits_lur, Gives_denial, Gives_lci, Gives_lui, Over, Reads_file, RowMove, RowView, UploadEnd, WholeRow, Writes_completion, Writes_lcl, Writes_lcs, Writes_progress, Writes_ready, Writes_stop, row_view, view_moved}

-- ---- the bytes of a status

-- two bytes at offset 6: the status of an LUS
abbrev status_in : List ℕ → List ℕ
status_in file = take 2 (drop 6 file)

says_status : (file : List ℕ) → SaysCompleted file → status_in file ≡ 0 ∷ 3 ∷ []
unfolding number_bytes
says_status file (v, spells, is) =
    ap status_in spells.1.written ∙ ap (λ (n : ℕ). number_bytes 2 n) is

lci_status : status_in lci_file ≡ 0 ∷ 1 ∷ []
unfolding lci_file file_fields number_bytes
lci_status = refl

accepting_status : status_in accepting_lui ≡ 0 ∷ 1 ∷ []
unfolding accepting_lui file_fields number_bytes
accepting_status = refl

denying_status : status_in denying_lui ≡ 16 ∷ 0 ∷ []
unfolding denying_lui file_fields number_bytes
denying_status = refl

lcs_status : status_in lcs_file ≡ 0 ∷ 1 ∷ []
unfolding lcs_file file_fields number_bytes
lcs_status = refl

lcl_status : (o : Outline) → status_in (lcl_file o) ≡ 0 ∷ 1 ∷ []
unfolding lcl_file file_fields number_bytes counted_fields
lcl_status o = refl

ready_status : status_in ready_lus ≡ 0 ∷ 1 ∷ []
unfolding ready_lus file_fields number_bytes
ready_status = refl

progress_status : (loads : List Wanted) (arrived counter : ℕ) → status_in (progress_lus loads arrived counter) ≡ 0 ∷ 2 ∷ []
unfolding progress_lus file_fields number_bytes
progress_status loads arrived counter = refl

stopped_status : (loads : List Wanted) (arrived counter : ℕ) (reason : Reason) → status_in (stopped_lus loads arrived counter reason) ≡ 16 ∷ 3 ∷ []
unfolding stopped_lus file_fields number_bytes
stopped_status loads arrived counter reason = refl

abbrev bytes_same : List ℕ → Bool
bytes_same bytes = bytes_eq bytes (0 ∷ 3 ∷ [])

other_status : (A : Type 0) (file : List ℕ) (a b : ℕ) → status_in file ≡ a ∷ b ∷ [] → bytes_same (a ∷ b ∷ []) ≡ false → SaysCompleted file → A
other_status A file a b is not says =
    absurd (let wrong : true ≡ false = ap bytes_same (sym (says_status file says) ∙ is) ∙ not in cc)

-- ---- the loader: which row completes an upload

abbrev IsUploadRow : LoaderRow → Type 0
IsUploadRow Reads_lci = ⊥
IsUploadRow Takes_lcs = ⊥
IsUploadRow Takes_lcl = ⊥
IsUploadRow row = Unit {0}

upload_after : (row : LoaderRow) → IsUploadRow row → IsUploadRow (row_after row)
upload_after Reads_lci h = absurd h
upload_after Takes_lcs h = absurd h
upload_after Takes_lcl h = absurd h
upload_after Reads_lui h = tt
upload_after Takes_lus h = tt
upload_after Writes_lur h = tt
upload_after Serves_files h = tt

upload_rows : (row : LoaderRow) (done : List Transfer) → IsUploadRow row → IsUploadRow (fold (λ (x : LoaderRow) (t : Transfer). row_after x) row done)
upload_rows row [] h = h
upload_rows row (t ∷ done) h = upload_rows (row_after row) done (upload_after row h)

upload_row : (kind : SessionKind) (done : List Transfer) → kind ≡ Upload → IsUploadRow (row_of kind done)
unfolding row_of
upload_row Upload done e = upload_rows Reads_lui done tt
upload_row Info done e = absurd cc

abbrev Reads : List ℕ → Type 0
Reads bytes = (v : LusView) × (answer lus bytes ≡ Ok v) × (v.status ≡ completed)

-- what holds where a turn completes a session
abbrev Says : Type 0 → RowTurn → Type 0
Says A turn = turn ≡ Comes_to Completed → A

says_if : (A : Type 0) (b : Bool) (x y : RowTurn) → (b ≡ true → Says A x) → (b ≡ false → Says A y) → Says A (cond b x y)
says_if A true x y p q = p refl
says_if A false x y p q = q refl

lui_says : (A : Type 0) (found : Result Lui FileFault) → Says A (lui_turn found)
lui_says A (Ok v) =
    says_if A (v.status == accepted) Goes_on (cond (v.status == denied) (Comes_to (Denied v.description)) (bad_file kinds.Lui 6)) (λ b e. absurd cc)
    (λ b. says_if A (v.status == denied) (Comes_to (Denied v.description)) (bad_file kinds.Lui 6) (λ b e. absurd cc) (λ b e. absurd cc))
lui_says A (Err fault) = λ e. absurd cc

first_lus_says : (A : Type 0) (found : Result LusView FileFault) → Says A (first_lus_turn found)
first_lus_says A (Ok v) =
    says_if A (v.status == accepted) Goes_on (cond (v.status == stopped) (Comes_to (TargetStopped v.description)) (bad_file kinds.Lus 6)) (λ b e. absurd cc)
    (λ b. says_if A (v.status == stopped) (Comes_to (TargetStopped v.description)) (bad_file kinds.Lus 6) (λ b e. absurd cc) (λ b e. absurd cc))
first_lus_says A (Err fault) = λ e. absurd cc

later_lus_says : (bytes : List ℕ) (found : Result LusView FileFault) → answer lus bytes ≡ found → Says (Reads bytes) (later_lus_turn found)
later_lus_says bytes (Ok v) is =
    says_if (Reads bytes) (v.status == completed) (Comes_to Completed) (cond (v.status == in_progress) Goes_on (cond (v.status == stopped) (Comes_to (TargetStopped v.description)) (bad_file kinds.Lus 6)))
    (λ b e. (v, is, eqb-true v.status completed b))
    (λ b. says_if (Reads bytes) (v.status == in_progress) Goes_on (cond (v.status == stopped) (Comes_to (TargetStopped v.description)) (bad_file kinds.Lus 6)) (λ b e. absurd cc)
    (λ b. says_if (Reads bytes) (v.status == stopped) (Comes_to (TargetStopped v.description)) (bad_file kinds.Lus 6) (λ b e. absurd cc) (λ b e. absurd cc)))
later_lus_says bytes (Err fault) is = λ e. absurd cc

-- the row in which files are served completes an upload, by an LUS that says so
completing_says : (row : LoaderRow) (bytes : List ℕ) → IsUploadRow row → Says ((row ≡ Serves_files) × Reads bytes) (bytes_turn row bytes)
completing_says Reads_lui bytes upload = lui_says _ (answer lui bytes)
completing_says Takes_lus bytes upload = first_lus_says _ (answer lus bytes)
completing_says Writes_lur bytes upload = λ e. absurd cc
completing_says Serves_files bytes upload = λ e. (refl, later_lus_says bytes (answer lus bytes) refl e)
completing_says Reads_lci bytes upload = absurd upload
completing_says Takes_lcs bytes upload = absurd upload
completing_says Takes_lcl bytes upload = absurd upload

-- ---- an end that takes the last block of a file receives it

abbrev IsNotLast : Answer → Type 0
IsNotLast answer = (more : List ℕ) → answer ≡ TakesLast more → ⊥

not_last_if : (b : Bool) (x y : Answer) → IsNotLast x → IsNotLast y → IsNotLast (cond b x y)
not_last_if true x y p q = p
not_last_if false x y p q = q

dropped_not : IsNotLast Dropped
dropped_not more e = cc

proceeds_not : IsNotLast Proceeds
proceeds_not more e = cc

awaited_not : (s : Sender) → IsNotLast (awaited_answer s)
awaited_not s = not_last_if (s.sent == last_of s) Completes Proceeds (λ more e. cc) proceeds_not

ack_not : (phase : Phase) (s : Sender) (k : ℕ) → IsNotLast (ack_answer phase s k)
ack_not Waiting s k = not_last_if (k == 0) Proceeds Dropped proceeds_not dropped_not
ack_not Running s k = not_last_if (k == s.sent) (awaited_answer s) Dropped (awaited_not s) dropped_not
ack_not Finished s k = dropped_not
ack_not (Failed code) s k = dropped_not

oack_not : (phase : Phase) (s : Sender) (o : Options) → IsNotLast (sender_oack_answer phase s o)
oack_not Waiting s o = not_last_if _ (Grants o) Dropped (λ more e. cc) dropped_not
oack_not Running s o = dropped_not
oack_not Finished s o = dropped_not
oack_not (Failed code) s o = dropped_not

error_not : (phase : Phase) (code : ℕ) → IsNotLast (error_answer phase code)
error_not Waiting code more e = cc
error_not Running code more e = cc
error_not Finished code more e = cc
error_not (Failed other) code more e = cc

sender_not : (s : Sender) (p : PacketView) → IsNotLast (sender_answer s p)
sender_not s (Ack k) = ack_not s.phase s k
sender_not s (Oack o) = oack_not s.phase s o
sender_not s (Error code m) = error_not s.phase code
sender_not s (Data k b) = dropped_not
sender_not s (Rrq name o) = dropped_not
sender_not s (Wrq name o) = dropped_not

pub last_received : (role : Role) (got : List PacketView) (p : PacketView) (more : List ℕ) → end_answer (end_of role got) p ≡ TakesLast more → (is_receiving role ≡ true) × (is_received (end_of role (got ++ p ∷ [])) ≡ true)
last_received (ServesWrite name o) got p more e = (
  refl,
  ap is_received (end_of_more (ServesWrite name o) got p) ∙ ap (λ (answer : Answer). is_received (end_moved (end_of (ServesWrite name o) got) answer)) e
      ∙ ap (λ (end : LinkEnd). is_received (end_moved end (TakesLast more))) (end_is_of_link name [] o got).1,
)
last_received (transfers.Reads name o) got p more e = (
  refl,
  ap is_received (end_of_more (transfers.Reads name o) got p) ∙ ap (λ (answer : Answer). is_received (end_moved (end_of (transfers.Reads name o) got) answer)) e
      ∙ ap (λ (end : LinkEnd). is_received (end_moved end (TakesLast more))) (end_is_of_link name [] o got).0,
)
last_received (Writes name o f) got p more e = absurd (sender_not _ p more (sym (ap (λ (end : LinkEnd). end_answer end p) (end_is_of_link name f o got).2) ∙ e))
last_received (ServesRead name o f) got p more e = absurd (sender_not _ p more (sym (ap (λ (end : LinkEnd). end_answer end p) (end_is_of_link name f o got).3) ∙ e))

-- ---- the file that completes it

module _ (media : Media) (r : LoaderReading) (e : Event) (session : EndedSession) (upload : session.kind ≡ Upload) (over : session.outcome ≡ Completed) where
  abbrev moves_now : List Move
  moves_now = (loader_decision media (loader_view r) e).moves

  abbrev then : Reading
  then = readings_after sides.Loader r.end moves_now

  by_file : (s : SessionLog) (outcome : Outcome) (more : List ℕ) → r.live ≡ Some s → EndsByFile r.end s moves_now more → [] ≡ started_by e → (loader_extended media r e).end ≡ then
      → ended_as s.start.kind outcome (buffered_more (buffered (arriving_in r.end.live)) more).prefix ≡ session → CompletionArrived media r e
  by_file s outcome more was h none end is =
      let (short, turn) = not_too_long (loader_row s) (buffered_more (buffered (arriving_in r.end.live)) more) h.turn in
      let kind : s.start.kind ≡ Upload = ap (λ (x : EndedSession). x.kind) is ∙ upload in
      let arriving : arriving_in r.end.live ≡ arrived_of h.live = ap arriving_in h.was_live in
      let bytes : (buffered_more (buffered (arriving_in r.end.live)) more).prefix ≡ arrived_of (with_packet h.live h.from h.packet) =
      whole_prefix (arriving_in r.end.live) more short ∙ ap (λ (x : List ℕ). x ++ more) arriving ∙ sym (arrived_last h.live h.from h.packet more h.last) in
      let (receives, received) = last_received h.live.role h.live.got h.packet more h.last in
      let (row, says) = completing_says (loader_row s) _ (upload_row s.start.kind s.done kind) turn in
      record {
        ends = ends_with media r e s more was h none end;
        upload = kind;
        row = row;
        receives = receives;
        received = received;
        says = subst Reads bytes says;
      }

  not_replaced : (s : SessionLog) (bytes : List ℕ) → ended_as s.start.kind Replaced bytes ≡ session → ⊥
  not_replaced s bytes is = let wrong : Replaced ≡ Completed = ap (λ (x : EndedSession). x.outcome) is ∙ over in cc

  by_change : (live : Option SessionLog) (change : LoaderChange) → r.live ≡ live → FitsLoaderChange r.end live moves_now change → begun_by change ≡ started_by e → (loader_extended media r e).end ≡ then
      → (loader_reading_changed then (record { end = r.end; live = live; ended = r.ended }) change).ended ≡ session ∷ r.ended → CompletionArrived media r e
  by_change live (Continues more) was fits none end grows = absurd (longer r.ended session grows)
  by_change live Advances was fits none end grows = absurd (longer r.ended session grows)
  by_change None (Ends outcome more) was fits none end grows = absurd (longer r.ended session grows)
  by_change (Some s) (Ends outcome more) was fits none end grows =
      let is : ended_as s.start.kind outcome (buffered_more (buffered (arriving_in r.end.live)) more).prefix ≡ session = head_is r.ended _ session grows in
      by_file s outcome more was (fits (ap (λ (x : EndedSession). x.outcome) is ∙ over)) none end is
  by_change None (Begins start) was fits none end grows = absurd (longer r.ended session grows)
  by_change (Some s) (Begins start) was fits none end grows = absurd (not_replaced s _ (head_is r.ended _ session grows))
  by_change None (Begins_over kind outcome) was fits none end grows = absurd (fits (ap (λ (x : EndedSession). x.outcome) (head_is r.ended _ session grows) ∙ over))
  by_change (Some s) (Begins_over kind outcome) was fits none end grows = absurd (longer_two r.ended _ _ session grows)

pub completed_upload_arrived : CompletedUploadArrived
completed_upload_arrived media log e session grows upload over =
    let r = loader_reading media log in
    let d = loader_decision media (loader_view r) e in
    by_change media r e session upload over r.live d.change refl (loader_decision_fits media r.end r.live r.ended e) (decision_begins media (loader_view r) e) (loader_end_stays (readings_after sides.Loader r.end d.moves) r d.change) grows

-- ---- the target: which row says so

own_says_not : (A : Type 0) (kind : FileKind) (sequence : ℕ) → SaysCompleted (target.own_file kind sequence) → A
own_says_not A kinds.Lui sequence says = by (eqb sequence 4294967295) says
  where
    by : (b : Bool) → SaysCompleted (cond b denying_lui accepting_lui) → A
    by true h = other_status A denying_lui 16 0 denying_status refl h
    by false h = other_status A accepting_lui 0 1 accepting_status refl h
own_says_not A kinds.Lci sequence says = other_status A lci_file 0 1 lci_status refl says
own_says_not A kinds.Lcl sequence says = other_status A lci_file 0 1 lci_status refl says
own_says_not A kinds.Lcs sequence says = other_status A lci_file 0 1 lci_status refl says
own_says_not A kinds.Lur sequence says = other_status A lci_file 0 1 lci_status refl says
own_says_not A kinds.Lus sequence says = other_status A lci_file 0 1 lci_status refl says

pub lci_size : length lci_file ≤ 4294967295
unfolding lci_file file_fields number_bytes
lci_size = let e : length lci_file ≡ 9 = refl in omega (arith, e)

pub accepting_size : length accepting_lui ≤ 4294967295
unfolding accepting_lui file_fields number_bytes
accepting_size = let e : length accepting_lui ≡ 9 = refl in omega (arith, e)

pub denying_size : length denying_lui ≤ 4294967295
unfolding denying_lui file_fields number_bytes
denying_size = let e : length denying_lui ≡ 12 = refl in omega (arith, e)

own_size : (kind : FileKind) (sequence : ℕ) → length (target.own_file kind sequence) ≤ 4294967295
own_size kinds.Lui sequence = by (eqb sequence 4294967295)
  where
    by : (b : Bool) → length (cond b denying_lui accepting_lui) ≤ 4294967295
    by true = denying_size
    by false = accepting_size
own_size kinds.Lci sequence = lci_size
own_size kinds.Lcl sequence = lci_size
own_size kinds.Lcs sequence = lci_size
own_size kinds.Lur sequence = lci_size
own_size kinds.Lus sequence = lci_size

-- the row of a completed upload
abbrev Completes_row : RowView → Type 0
Completes_row row = (end : UploadEnd) × (entries : List LoadEntry) × (row ≡ Writes_completion end entries)

abbrev pub written_file : Option Role → List ℕ
written_file (Some (Writes name o file)) = file
written_file role = []

-- where a session turns to the end of an upload, it is stopped for a reason, and completed without one
abbrev pub EndsForReason : RowView → Type 0
EndsForReason (Writes_stop end) = end.reason ≡ None → ⊥
EndsForReason (Writes_completion end entries) = end.reason ≡ None
EndsForReason row = Unit {0}

placed_reason : (u : UploadView) (l : OpenLoadView) (next : Next) → EndsForReason (placed_view u l next)
placed_reason u l More_files = tt
placed_reason u l Next_load = tt
placed_reason u l Complete = refl

placed_if_reason : (u : UploadView) (l : Option OpenLoadView) (next : Next) → EndsForReason (placed_view_if u l next)
placed_if_reason u None next = tt
placed_if_reason u (Some l) next = placed_reason u l next

judged_reason : (u : UploadView) (arriving : Arriving) (judgement : Judgement) → EndsForReason (view_judged u arriving judgement)
judged_reason u arriving (Stops_for reason n) = λ e. cc
judged_reason u arriving (Accepts_header h next) = placed_if_reason u (with_header_view (next_wanted u) h arriving) next
judged_reason u arriving (Accepts_file next) = placed_if_reason u (with_file_view u.current (next_name u) arriving) next

passed_reason : (row : RowView) → EndsForReason (rows.row_after row)
passed_reason Gives_lci = tt
passed_reason Writes_lcs = tt
passed_reason Writes_lcl = tt
passed_reason Gives_lui = tt
passed_reason Gives_denial = tt
passed_reason Writes_ready = tt
passed_reason Awaits_lur = tt
passed_reason (Reads_file u) = tt
passed_reason (Writes_progress u) = tt
passed_reason (Writes_stop end) = tt
passed_reason (Writes_completion end loads) = tt
passed_reason Over = tt

judged_in_reason : (row : RowView) (arriving : Arriving) (judgement : Judgement) → EndsForReason (view_judged_in row arriving judgement)
judged_in_reason (Reads_file u) arriving judgement = judged_reason u arriving judgement
judged_in_reason Gives_lci arriving judgement = tt
judged_in_reason Writes_lcs arriving judgement = tt
judged_in_reason Writes_lcl arriving judgement = tt
judged_in_reason Gives_lui arriving judgement = tt
judged_in_reason Gives_denial arriving judgement = tt
judged_in_reason Writes_ready arriving judgement = tt
judged_in_reason Awaits_lur arriving judgement = tt
judged_in_reason (Writes_progress u) arriving judgement = tt
judged_in_reason (Writes_stop end) arriving judgement = tt
judged_in_reason (Writes_completion end loads) arriving judgement = tt
judged_in_reason Over arriving judgement = tt

pub moved_reason : (row : RowView) (arriving : Arriving) (move : RowMove) → EndsForReason (view_moved row arriving move)
moved_reason row arriving Passes = passed_reason row
moved_reason row arriving (Requests loads) = tt
moved_reason row arriving (Refuses_request fault) = λ e. cc
moved_reason row arriving (Judges judgement) = judged_in_reason row arriving judgement
moved_reason row arriving Breaks_off = tt

stop_says_not : (end : UploadEnd) (reason : Option Reason) → (reason ≡ None → ⊥) → SaysCompleted (target.last_lus end reason) → ⊥
stop_says_not end None some says = some refl
stop_says_not end (Some reason) some says = other_status ⊥ (stopped_lus end.request end.arrived end.reports reason) 16 3 (stopped_status end.request end.arrived end.reports reason) refl says

row_says : (v : target.TargetView) (row : RowView) (name : List ℕ) (o : Options) (file : List ℕ) → EndsForReason row → target.row_request v row ≡ Some (Writes name o file) → SaysCompleted file → Completes_row row
row_says v Writes_lcs name o file why e says = other_status _ lcs_file 0 1 lcs_status refl (subst SaysCompleted (sym (ap written_file e)) says)
row_says v Writes_lcl name o file why e says = other_status _ (lcl_file v.active) 0 1 (lcl_status v.active) refl (subst SaysCompleted (sym (ap written_file e)) says)
row_says v Writes_ready name o file why e says = other_status _ ready_lus 0 1 ready_status refl (subst SaysCompleted (sym (ap written_file e)) says)
row_says v (Reads_file u) name o file why e says = absurd cc
row_says v (Writes_progress u) name o file why e says =
    other_status _ (progress_lus u.request (length u.loads) u.reports) 0 2 (progress_status u.request (length u.loads) u.reports) refl (subst SaysCompleted (sym (ap written_file e)) says)
row_says v (Writes_stop end) name o file why e says = absurd (stop_says_not end end.reason why (subst SaysCompleted (sym (ap written_file e)) says))
row_says v (Writes_completion end loads) name o file why e says = (end, loads, refl)
row_says v Gives_lci name o file why e says = absurd cc
row_says v Gives_lui name o file why e says = absurd cc
row_says v Gives_denial name o file why e says = absurd cc
row_says v Awaits_lur name o file why e says = absurd cc
row_says v Over name o file why e says = absurd cc

row_serves_not : (v : target.TargetView) (row : RowView) (name : List ℕ) (o : Options) (file : List ℕ) → target.row_request v row ≡ Some (ServesRead name o file) → ⊥
row_serves_not v Writes_lcs name o file e = cc
row_serves_not v Writes_lcl name o file e = cc
row_serves_not v Writes_ready name o file e = cc
row_serves_not v (Reads_file u) name o file e = cc
row_serves_not v (Writes_progress u) name o file e = cc
row_serves_not v (Writes_stop end) name o file e = cc
row_serves_not v (Writes_completion end loads) name o file e = cc
row_serves_not v Gives_lci name o file e = cc
row_serves_not v Gives_lui name o file e = cc
row_serves_not v Gives_denial name o file e = cc
row_serves_not v Awaits_lur name o file e = cc
row_serves_not v Over name o file e = cc

-- what a row installs
abbrev Installs_row : StandingView → WholeRow → Type 0
Installs_row active row = (loads : List LoadView) × (standing_in active row ≡ standing_after active loads)

installs_row : (active : StandingView) (row : WholeRow) (end : UploadEnd) (entries : List LoadEntry) → row_view row ≡ Writes_completion end entries → Installs_row active row
installs_row active (Writes_completion end loads) other entries e = (loads, refl)
installs_row active Writes_lcl other entries e = absurd cc
installs_row active Writes_lcs other entries e = absurd cc
installs_row active Writes_ready other entries e = absurd cc
installs_row active (Reads_file u) other entries e = absurd cc
installs_row active (Writes_progress u) other entries e = absurd cc
installs_row active (Writes_stop end) other entries e = absurd cc
installs_row active Gives_lci other entries e = absurd cc
installs_row active Gives_lui other entries e = absurd cc
installs_row active Gives_denial other entries e = absurd cc
installs_row active Awaits_lur other entries e = absurd cc
installs_row active Over other entries e = absurd cc

-- ---- the target: one event

module _ (joins : SumsJoin) (accepts : Accepts) (r : TargetReading) (e : Event) (going : IsLive r.end.live) where
  abbrev v_now : target.TargetView
  v_now = target_view r

  abbrev d_now : target.TargetDecision
  d_now = target.target_decision accepts (target_view r) e

  installs : (s : TargetSessionLog) (move : RowMove) (more : List ℕ) → r.live ≡ Some s → d_now.change ≡ target.Turns move more → Completes_row (turned_view r.end s move more) → InstallsNow accepts r e
  installs s move more live is (end, entries, row) =
      let then : Reading = after r.end d_now.moves in
      let session : TargetSessionLog = with_done accepts r.active s (newest then.past) in
      let same : target_extended accepts r e ≡ reading_turned then r session = turned_reading accepts then r s move more d_now.change live is in
      let turned : HasTurned accepts r.active r.end s d_now.moves move more =
      fits_turned r.live d_now.change live is (decision_fits joins accepts r e going) in
      let view : seen_row session ≡ Writes_completion end entries = turned_row joins accepts r.active s r.end d_now.moves move more turned ∙ row in
      let (loads, next) = installs_row r.active session.row end entries view in
      record { loads = loads; next = ap (λ (x : TargetReading). x.active) same ∙ next }
    where
      fits_turned : (live : Option TargetSessionLog) (change : target.TargetChange) → live ≡ Some s → change ≡ target.Turns move more → FitsChange accepts r.active r.end live d_now.moves change → HasTurned accepts r.active r.end s d_now.moves move more
      fits_turned live change is_some is_turn fits =
          (subst (λ (x : Option TargetSessionLog). FitsChange accepts r.active r.end x d_now.moves (target.Turns move more)) is_some
          (subst (λ (c : target.TargetChange). FitsChange accepts r.active r.end live d_now.moves c) is_turn fits)).0

  asked_by_row : (s : TargetSessionLog) (move : RowMove) (more : List ℕ) (role : Role) → r.live ≡ Some s → d_now.change ≡ target.Turns move more → target.row_request v_now (turned_view r.end s move more) ≡ Some role
      → TellsInstalled accepts r e role
  asked_by_row s move more (Writes name o file) live is asks = λ says. installs s move more live is
      (row_says v_now (turned_view r.end s move more) name o file (moved_reason _ _ move) asks says)
  asked_by_row s move more (transfers.Reads name o) live is asks = tt
  asked_by_row s move more (ServesWrite name o) live is asks = tt
  asked_by_row s move more (ServesRead name o file) live is asks = absurd (row_serves_not v_now (turned_view r.end s move more) name o file asks)

  asked_in_turn : (live : Option TargetSessionLog) (move : RowMove) (more : List ℕ) (role : Role) → r.live ≡ live → d_now.change ≡ target.Turns move more → RowAsks v_now (session_view r.end live) move more role → TellsInstalled accepts r e role
  asked_in_turn None move more role live is asks = absurd asks
  asked_in_turn (Some s) move more role live is asks = asked_by_row s move more role live is asks

  asked_by_change : (change : target.TargetChange) (role : Role) → d_now.change ≡ change → AskedInTurn v_now change (Asks role) → TellsInstalled accepts r e role
  asked_by_change (target.Turns move more) role is asks = asked_in_turn r.live move more role refl is asks
  asked_by_change (target.Continues more) role is asks = absurd asks
  asked_by_change (target.Begins kind) role is asks = absurd asks
  asked_by_change (target.Turns_without_port move more) role is asks = absurd asks
  asked_by_change (target.Ends reason) role is asks = absurd asks

  serves_not : (event : Event) (from : ℕ) (role : Role) → ServesIn event from role → is_asking role ≡ false
  serves_not (Gets source to bytes) from role h = h.2
  serves_not Ticks from role h = absurd h
  serves_not (Learns n) from role h = absurd h
  serves_not (Starts_info hw pos) from role h = absurd h
  serves_not (Starts_upload hw pos parts) from role h = absurd h

  served_role : (role : Role) → is_asking role ≡ false → IsTargetRole v_now role → TellsInstalled accepts r e role
  served_role (Writes name o file) asks h = absurd cc
  served_role (transfers.Reads name o) asks h = tt
  served_role (ServesRead name o file) asks (kind, is) = (subst (λ (x : List ℕ). length x ≤ 4294967295) (sym is) (own_size kind v_now.active.sequence), λ says. own_says_not ⊥ kind v_now.active.sequence (subst SaysCompleted is says))
  served_role (ServesWrite name o) asks h = tt

  move_tells : (live kept : Option TransferView) (move : Move) → AskedInTurn v_now d_now.change move → MoveFits e live kept move → MoveHasRole (IsTargetRole v_now) move → MoveHasRole (TellsInstalled accepts r e) move
  move_tells live kept (Asks role) asked fits has = asked_by_change d_now.change role refl asked
  move_tells live kept (Serves from role) asked fits has = served_role role (serves_not e from role fits) has
  move_tells live kept (Hears from p) asked fits has = tt
  move_tells live kept (Recalls from p) asked fits has = tt
  move_tells live kept (Refuses from) asked fits has = tt
  move_tells live kept Repeats asked fits has = tt
  move_tells live kept Stops asked fits has = tt
  move_tells live kept (Asks_size n) asked fits has = tt

  later_tell : (moves : List Move) → AllByRecursion (AskedInTurn v_now d_now.change) moves → AllByRecursion (MoveFits e None None) moves → AllByRecursion (MoveHasRole (IsTargetRole v_now)) moves → AllByRecursion (MoveHasRole (TellsInstalled accepts r e)) moves
  later_tell [] asked fits has = tt
  later_tell (move ∷ moves) (one, asked) (first, fits) (role, has) = (move_tells None None move one first role, later_tell moves asked fits has)

  all_tell : (moves : List Move) → AllByRecursion (AskedInTurn v_now d_now.change) moves → MovesFit e v_now.end.live v_now.end.kept moves → AllByRecursion (MoveHasRole (IsTargetRole v_now)) moves → AllByRecursion (MoveHasRole (TellsInstalled accepts r e)) moves
  all_tell [] asked fits has = tt
  all_tell (move ∷ moves) (one, asked) (first, fits) (role, has) = (move_tells v_now.end.live v_now.end.kept move one first role, later_tell moves asked fits has)

  -- what the target tells at an event
  pub moves_tell : AllByRecursion (MoveHasRole (TellsInstalled accepts r e)) d_now.moves
  moves_tell = let fit = target_moves_fit accepts v_now e in all_tell d_now.moves (target_asks_in_turn accepts v_now e) fit.0 fit.1

pub target_tells_installed : SumsJoin → TargetTellsInstalled
target_tells_installed joins accepts r e going = moves_tell joins accepts r e going
