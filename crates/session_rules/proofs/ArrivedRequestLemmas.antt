-- Proofs of which loads an upload asks for, at the target.
use Rattle.std.proofs.Common.{arith, ◌≡◌, ℕ, Bool, true, false, cond, eqb, List, [], ◌∷◌, ◌++◌, length, Option, Some, None, Result, Ok, Err, refl, sym, ap, subst, ◌∙◌}
use Rattle.std.specs.Prelude.{take, ◌==◌}
use Rattle.std.specs.List.{concat}
use Rattle.std.proofs.lemmas.Bool.{ltb-false}
use Rattle.std.proofs.lemmas.List.{take_all}
use Rattle.field_grammar.specs.Answers.{answer}
use Rattle.field_grammar.specs.Fields.{number_bytes}
use Rattle.field_grammar.specs.Grammar.{IsBytes}
use Rattle.load_protocol_files.specs.declared.fault.FileFault.{FileFault}
use Rattle.load_protocol_files.specs.declared.lur.Wanted.{Wanted}
use Rattle.load_protocol_files.specs.Lur.{LurSpells, LurView, lur}
use Rattle.disk_layout.specs.Holds.{StandingView, outline_of}
use Rattle.tftp_packet.specs.declared.options.Options.{Options}
use Rattle.tftp_packet.specs.Packets.{Ack, Data, Error, Oack, PacketView, Rrq, Wrq}
use Rattle.tftp_link.specs.declared.phase.Phase.{Phase}
use Rattle.tftp_link.specs.declared.phase.Phase.TheVariants.{Waiting, Running, Finished, Failed}
use Rattle.tftp_link.specs.Answers.{Answer, Completes, Dropped, Grants, Proceeds, code_of, error_answer, is_live, lent_by}
use Rattle.tftp_link.specs.Receiver.{receiver_after_all, receiver_serving}
use Rattle.tftp_link.specs.Sender.{Sender, ack_answer, awaited_answer, last_of, sender_answer, sender_asking, sender_moved, sender_oack_answer, sender_serving}
use Rattle.exchange_trace.specs.declared.trace.Side.TheVariants as sides
use Rattle.exchange_trace.specs.Logs.{Event}
use Rattle.transfer_end.specs.Came.{PacketsCame}
use Rattle.transfer_end.proofs.CameLemmas.{moves_came}
use Rattle.transfer_end.specs.Laws.{IsLive}
use Rattle.transfer_end.specs.Moves.{Move}
use Rattle.transfer_end.specs.OtherEnds.{is_asking, is_receiving}
use Rattle.transfer_end.specs.Readings.{Reading}
use Rattle.transfer_end.proofs.RfcLemmas.{end_is_of_link}
use Rattle.transfer_end.specs.Transfers.{LinkEnd, Reads, Receives, Role, Sends, ServesRead, ServesWrite, Transfer, Writes, arrived_in, arrived_of, end_in, end_of, error_of, is_received, phase_of, taken_from}
use Rattle.accept_rules.specs.Permissions.{Accepts}
use Rattle.session_rules.specs.declared.outcome.FileKind.{FileKind}
use Rattle.session_rules.specs.declared.outcome.FileKind.TheVariants.{Lci, Lui}
use Rattle.session_rules.specs.declared.reason.Reason.{Reason}
use Rattle.session_rules.specs.declared.reason.RequestFault.{RequestFault}
use Rattle.session_rules.specs.declared.reason.RequestFault.TheVariants as requests
use Rattle.session_rules.proofs.BufferLemmas.{SumsJoin}
use Rattle.session_rules.specs.Buffers.{buffer_size, buffered, is_too_long}
use Rattle.session_rules.proofs.HeardLemmas.{target_moves_heard}
use Rattle.session_rules.specs.LoaderLog.{newest}
use Rattle.session_rules.proofs.ReadFileLemmas.{RequestsAreSpelled, finished_of, no_new, one_is, reading, session_is}
use Rattle.session_rules.specs.Requests.{HasRequest, InstallsRequest, RequestArrived, RequestIn, SessionHasRequest}
use Rattle.session_rules.specs.Roles.{HasRole, IsOfView, LiveFits, RoleReads, ReadsNothing, RoleWrites}
use Rattle.session_rules.proofs.SoundLogLemmas.{PayloadsAreBytes, begins_active, newest_bytes}
use Rattle.session_rules.specs.SoundLogs.{LogIsBytes, SessionIsSound, SoundIn}
use Rattle.session_rules.specs.Target.{Begins, Continues, Ends, TargetChange, Turns, Turns_without_port, target_decision}
use Rattle.session_rules.proofs.TargetLemmas.{FitsChange, HasTurned, after, decision_fits, row_of_one}
use Rattle.session_rules.specs.TargetLog.{TargetReading, TargetSessionLog, target_extended, target_reading_changed, target_view, with_done}
use Rattle.session_rules.specs.TargetRows.{Arriving, Awaits_lur, Breaks_off, Gives_denial, Gives_lci, Gives_lui, Judges, Kept_bytes, Kept_sums, Over, Passes, Reads_file, Refuses_request, Requests, RowMove, RowView, WholeRow, Writes_completion, Writes_lcl, Writes_lcs, Writes_progress, Writes_ready, Writes_stop, arriving_of, error_move, file_move, first_row, header_move, placed_if, read_move, request_move, row_judged, row_move, row_move_by, row_moved, row_view, row_with, transfer_end, with_file, with_header}
use Rattle.session_rules.specs.Uploads.{Accepts_file, Accepts_header, Complete, Judgement, More_files, Next, Next_load, OpenLoad, OpenLoadView, Stops_for, Upload, UploadView, is_load_count, judge_request, next_entry, next_name, next_wanted, request_read, upload_view}

-- ---- an end that sends takes nothing

abbrev LendsNone : Answer → Type 0
LendsNone answer = lent_by answer ≡ []

lends_if : (b : Bool) (x y : Answer) → LendsNone x → LendsNone y → LendsNone (cond b x y)
lends_if true x y p q = p
lends_if false x y p q = q

ack_lends : (phase : Phase) (s : Sender) (k : ℕ) → LendsNone (ack_answer phase s k)
ack_lends Waiting s k = lends_if (k == 0) Proceeds Dropped refl refl
ack_lends Running s k = lends_if (k == s.sent) (awaited_answer s) Dropped (lends_if (s.sent == last_of s) Completes Proceeds refl refl) refl
ack_lends Finished s k = refl
ack_lends (Failed code) s k = refl

oack_lends : (phase : Phase) (s : Sender) (o : Options) → LendsNone (sender_oack_answer phase s o)
oack_lends Waiting s o = lends_if _ (Grants o) Dropped refl refl
oack_lends Running s o = refl
oack_lends Finished s o = refl
oack_lends (Failed code) s o = refl

error_lends : (phase : Phase) (code : ℕ) → LendsNone (error_answer phase code)
error_lends Waiting code = refl
error_lends Running code = refl
error_lends Finished code = refl
error_lends (Failed other) code = refl

sender_lends : (s : Sender) (p : PacketView) → LendsNone (sender_answer s p)
sender_lends s (Ack k) = ack_lends s.phase s k
sender_lends s (Oack o) = oack_lends s.phase s o
sender_lends s (Error code m) = error_lends s.phase code
sender_lends s (Data k b) = refl
sender_lends s (Rrq name o) = refl
sender_lends s (Wrq name o) = refl

sender_takes : (s : Sender) (got : List PacketView) → taken_from (Sends s) got ≡ []
sender_takes s [] = refl
sender_takes s (p ∷ got) = ap (λ (x : List (List ℕ)). x ++ taken_from (Sends (sender_moved s (sender_answer s p))) got) (sender_lends s p) ∙ sender_takes (sender_moved s (sender_answer s p)) got

writes_takes : (name : List ℕ) (o : Options) (file : List ℕ) (got : List PacketView) → arrived_in (Writes name o file) got ≡ []
unfolding arrived_in
writes_takes name o file got = ap concat (sender_takes (sender_asking name file o) got)

gives_takes : (name : List ℕ) (o : Options) (file : List ℕ) (got : List PacketView) → arrived_in (ServesRead name o file) got ≡ []
unfolding arrived_in
gives_takes name o file got = ap concat (sender_takes (sender_serving file o) got)

-- a request has bytes
not_empty : (v : LurView) (bytes : List ℕ) → LurSpells v bytes → bytes ≡ [] → ⊥
unfolding number_bytes
not_empty v bytes spells none =
    let e = ap length (sym none ∙ spells.1.written) in
    omega (arith, e)

-- a file that came without an ERROR in a transfer that is over is whole, and some end received it
came_whole : (role : Role) (got : List PacketView) → ReadsNothing role → (arrived_in role got ≡ [] → ⊥) → is_live (phase_of (end_of role got)) ≡ false → code_of (phase_of (end_of role got)) ≡ None
    → (is_receiving role ≡ true) × (is_asking role ≡ false) × (is_received (end_of role got) ≡ true)
came_whole (Reads name o) got nothing some over none = absurd nothing
came_whole (ServesWrite name o) got nothing some over none =
    let end : end_of (ServesWrite name o) got ≡ Receives (receiver_after_all (receiver_serving o) got) = (end_is_of_link name [] o got).1 in (
      refl,
      refl,
      ap is_received end ∙ finished_of (receiver_after_all (receiver_serving o) got).phase (sym (ap (λ (x : LinkEnd). is_live (phase_of x)) end) ∙ over) (sym (ap (λ (x : LinkEnd). code_of (phase_of x)) end) ∙ none),
    )
came_whole (Writes name o file) got nothing some over none = absurd (some (writes_takes name o file got))
came_whole (ServesRead name o file) got nothing some over none = absurd (some (gives_takes name o file got))

-- ---- a request that is accepted

accepted_if : (b : Bool) (found loads : List Wanted) (fault : RequestFault) → cond b (Ok found) (Err fault) ≡ Ok loads → found ≡ loads
accepted_if true found loads fault e = cc
accepted_if false found loads fault e = absurd cc

read_accepted : RequestsAreSpelled → (bytes : List ℕ) (loads : List Wanted) → IsBytes bytes → (found : Result LurView FileFault) → answer lur bytes ≡ found → request_read found ≡ Ok loads → LurSpells (record { loads = loads }) bytes
read_accepted reads bytes loads fit (Ok v) e is =
    subst (λ (x : List Wanted). LurSpells (record { loads = x }) bytes) (accepted_if (is_load_count (length v.loads)) v.loads loads (requests.Loads (length v.loads)) is) (reads v bytes fit e)
read_accepted reads bytes loads fit (Err fault) e is = absurd cc

request_accepted : RequestsAreSpelled → (bytes : List ℕ) (loads : List Wanted) → IsBytes bytes → judge_request (buffered bytes) ≡ Ok loads → LurSpells (record { loads = loads }) bytes
unfolding judge_request
request_accepted reads bytes loads fit is = by (is_too_long (buffered bytes)) refl is
  where
    by : (b : Bool) → is_too_long (buffered bytes) ≡ b → cond b (Err requests.TooLong) (request_read (answer lur (buffered bytes).prefix)) ≡ Ok loads → LurSpells (record { loads = loads }) bytes
    by true e is = absurd cc
    by false e is =
        let whole : take buffer_size bytes ≡ bytes = take_all buffer_size bytes (ltb-false buffer_size (length bytes) e) in
        read_accepted reads bytes loads fit (answer lur bytes) refl (sym (ap (λ (x : List ℕ). request_read (answer lur x)) whole) ∙ is)

request_arrived : RequestsAreSpelled → (end : Reading) (t : Transfer) (before : List Transfer) (loads : List Wanted) → end.past ≡ t ∷ before → ReadsNothing t.role → IsBytes (arrived_of t) → is_live (phase_of (end_in t)) ≡ false → error_of t ≡ None → judge_request (buffered (arrived_of t)) ≡ Ok loads → RequestArrived end loads
request_arrived reads end t before loads a nothing fit over none is =
    let spells : LurSpells (record { loads = loads }) (arrived_of t) = request_accepted reads (arrived_of t) loads fit is in
    let (receives, serves, received) = came_whole t.role t.got nothing (not_empty (record { loads = loads }) (arrived_of t) spells) over none in
    record { since = []; transfer = t; before = before; past = a; asks = tt; receives = receives; serves = serves; received = received; spells = spells }

-- ---- one transfer of a session

-- what is asked for in a row in which a file is read or progress is told
abbrev RequestBefore : Reading → WholeRow → Type 0
RequestBefore end (Reads_file u) = RequestArrived end u.request
RequestBefore end (Writes_progress u) = RequestArrived end u.request
RequestBefore end row = Unit {0}

module _ (reads : RequestsAreSpelled) (accepts : Accepts) (active : StandingView) (end : Reading) (t : Transfer) (before : List Transfer) (a : end.past ≡ t ∷ before) (fit : IsBytes (arrived_of t)) (over : is_live (phase_of (end_in t)) ≡ false) where
  abbrev Brings : RowMove → Type 0
  Brings (Requests loads) = RequestArrived end loads
  Brings move = Unit {0}

  as_move : (found : Result (List Wanted) RequestFault) → ReadsNothing t.role → error_of t ≡ None → judge_request (buffered (arrived_of t)) ≡ found → Brings (request_move found)
  as_move (Ok loads) nothing none is = request_arrived reads end t before loads a nothing fit over none is
  as_move (Err fault) nothing none is = tt

  header_brings : (u : UploadView) (wanted : Option Wanted) (arriving : Arriving) → Brings (header_move accepts (outline_of active) u wanted arriving)
  header_brings u None arriving = tt
  header_brings u (Some w) (Kept_bytes b) = tt
  header_brings u (Some w) (Kept_sums s) = tt

  read_brings : (u : UploadView) (current : Option OpenLoadView) (arriving : Arriving) → Brings (read_move accepts (outline_of active) u current arriving)
  read_brings u None arriving = header_brings u (next_wanted u) arriving
  read_brings u (Some l) (Kept_bytes b) = by (next_entry l)
    where
      by : (entry : Option _) → Brings (file_move u l entry (Kept_bytes b))
      by None = tt
      by (Some entry) = tt
  read_brings u (Some l) (Kept_sums s) = by (next_entry l)
    where
      by : (entry : Option _) → Brings (file_move u l entry (Kept_sums s))
      by None = tt
      by (Some entry) = tt

  error_brings : (row : RowView) (code : ℕ) → Brings (error_move row code)
  error_brings (Reads_file u) code = tt
  error_brings Gives_lci code = tt
  error_brings Writes_lcs code = tt
  error_brings Writes_lcl code = tt
  error_brings Gives_lui code = tt
  error_brings Gives_denial code = tt
  error_brings Writes_ready code = tt
  error_brings Awaits_lur code = tt
  error_brings (Writes_progress u) code = tt
  error_brings (Writes_stop e) code = tt
  error_brings (Writes_completion e loads) code = tt
  error_brings Over code = tt

  move_brings : (row : WholeRow) (error : Option ℕ) → IsOfView (row_view row) t.role → error_of t ≡ error → Brings (row_move_by accepts (outline_of active) (row_view row) (arriving_of (row_view row) (arrived_of t)) error)
  move_brings row (Some code) is e = error_brings (row_view row) code
  move_brings (Reads_file u) None is e = read_brings (upload_view u) (upload_view u).current _
  move_brings Awaits_lur None is e = as_move (judge_request (buffered (arrived_of t))) is e refl
  move_brings Gives_lci None is e = tt
  move_brings Writes_lcs None is e = tt
  move_brings Writes_lcl None is e = tt
  move_brings Gives_lui None is e = tt
  move_brings Gives_denial None is e = tt
  move_brings Writes_ready None is e = tt
  move_brings (Writes_progress u) None is e = tt
  move_brings (Writes_stop x) None is e = tt
  move_brings (Writes_completion x loads) None is e = tt
  move_brings Over None is e = tt

  placed_has : (u : Upload) (l : Option OpenLoad) (next : Next) → RequestArrived end u.request → HasRequest end (placed_if u l next)
  placed_has u None next h = tt
  placed_has u (Some l) More_files h = h
  placed_has u (Some l) Next_load h = h
  placed_has u (Some l) Complete h = h

  judged_has : (u : Upload) (bytes : List ℕ) (judgement : Judgement) → RequestArrived end u.request → HasRequest end (row_judged u bytes judgement)
  judged_has u bytes (Stops_for reason n) h = tt
  judged_has u bytes (Accepts_header header next) h = placed_has u (with_header (next_wanted (upload_view u)) header bytes) next h
  judged_has u bytes (Accepts_file next) h = placed_has u (with_file u.current (next_name (upload_view u)) bytes) next h

  moved_has : (row : WholeRow) (bytes : List ℕ) (move : RowMove) → Brings move → RequestBefore end row → HasRequest end (row_moved row bytes move)
  moved_has row bytes (Requests loads) brings h = brings
  moved_has row bytes (Refuses_request fault) brings h = tt
  moved_has row bytes Breaks_off brings h = tt
  moved_has (Reads_file u) bytes (Judges judgement) brings h = judged_has u bytes judgement h
  moved_has Gives_lci bytes (Judges judgement) brings h = tt
  moved_has Writes_lcs bytes (Judges judgement) brings h = tt
  moved_has Writes_lcl bytes (Judges judgement) brings h = tt
  moved_has Gives_lui bytes (Judges judgement) brings h = tt
  moved_has Gives_denial bytes (Judges judgement) brings h = tt
  moved_has Writes_ready bytes (Judges judgement) brings h = tt
  moved_has Awaits_lur bytes (Judges judgement) brings h = tt
  moved_has (Writes_progress u) bytes (Judges judgement) brings h = tt
  moved_has (Writes_stop e) bytes (Judges judgement) brings h = tt
  moved_has (Writes_completion e loads) bytes (Judges judgement) brings h = tt
  moved_has Over bytes (Judges judgement) brings h = tt
  moved_has (Writes_progress u) bytes Passes brings h = h
  moved_has (Reads_file u) bytes Passes brings h = tt
  moved_has Gives_lci bytes Passes brings h = tt
  moved_has Writes_lcs bytes Passes brings h = tt
  moved_has Writes_lcl bytes Passes brings h = tt
  moved_has Gives_lui bytes Passes brings h = tt
  moved_has Gives_denial bytes Passes brings h = tt
  moved_has Writes_ready bytes Passes brings h = tt
  moved_has Awaits_lur bytes Passes brings h = tt
  moved_has (Writes_stop e) bytes Passes brings h = tt
  moved_has (Writes_completion e loads) bytes Passes brings h = tt
  moved_has Over bytes Passes brings h = tt

  row_has : (row : WholeRow) → IsOfView (row_view row) t.role → RequestBefore end row → HasRequest end (row_with accepts active row t)
  row_has row is h = moved_has row (arrived_of t) (row_move accepts (outline_of active) (row_view row) (transfer_end (row_view row) t)) (move_brings row (error_of t) is refl) h

-- ---- one event more

-- the transfers that are over are the same
arrived_still : (end then : Reading) (loads : List Wanted) → then.past ≡ end.past → RequestArrived end loads → RequestArrived then loads
arrived_still end then loads same h =
    record { since = h.since; transfer = h.transfer; before = h.before; past = same ∙ h.past; asks = h.asks; receives = h.receives; serves = h.serves; received = h.received; spells = h.spells }

has_still : (end then : Reading) (row : WholeRow) → then.past ≡ end.past → HasRequest end row → HasRequest then row
has_still end then (Reads_file u) same h = arrived_still end then u.request same h
has_still end then (Writes_progress u) same h = arrived_still end then u.request same h
has_still end then (Writes_completion e loads) same h = arrived_still end then e.request same h
has_still end then (Writes_stop e) same h = tt
has_still end then Gives_lci same h = tt
has_still end then Writes_lcs same h = tt
has_still end then Writes_lcl same h = tt
has_still end then Gives_lui same h = tt
has_still end then Gives_denial same h = tt
has_still end then Writes_ready same h = tt
has_still end then Awaits_lur same h = tt
has_still end then Over same h = tt

-- one more is over, which the target asked for
arrived_then : (end then : Reading) (t : Transfer) (loads : List Wanted) → then.past ≡ t ∷ end.past → is_asking t.role ≡ true → RequestArrived end loads → RequestArrived then loads
arrived_then end then t loads more asks h = record {
  since = t ∷ h.since;
  transfer = h.transfer;
  before = h.before;
  past = more ∙ ap (λ (ts : List Transfer). t ∷ ts) h.past;
  asks = (asks, h.asks);
  receives = h.receives;
  serves = h.serves;
  received = h.received;
  spells = h.spells;
}

reads_asks : (next : List ℕ) (role : Role) → RoleReads next role → is_asking role ≡ true
reads_asks next (Reads name o) is = refl
reads_asks next (Writes name o file) is = absurd is
reads_asks next (ServesRead name o file) is = absurd is
reads_asks next (ServesWrite name o) is = absurd is

writes_asks : (role : Role) → RoleWrites role → is_asking role ≡ true
writes_asks (Writes name o file) is = refl
writes_asks (Reads name o) is = absurd is
writes_asks (ServesRead name o file) is = absurd is
writes_asks (ServesWrite name o) is = absurd is

has_then : (end then : Reading) (t : Transfer) (row : WholeRow) → then.past ≡ t ∷ end.past → IsOfView (row_view row) t.role → HasRequest end row → RequestBefore then row
has_then end then t (Reads_file u) more is h = arrived_then end then t u.request more (reads_asks (next_name (upload_view u)) t.role is) h
has_then end then t (Writes_progress u) more is h = arrived_then end then t u.request more (writes_asks t.role is) h
has_then end then t (Writes_completion e loads) more is h = tt
has_then end then t (Writes_stop e) more is h = tt
has_then end then t Gives_lci more is h = tt
has_then end then t Writes_lcs more is h = tt
has_then end then t Writes_lcl more is h = tt
has_then end then t Gives_lui more is h = tt
has_then end then t Gives_denial more is h = tt
has_then end then t Writes_ready more is h = tt
has_then end then t Awaits_lur more is h = tt
has_then end then t Over more is h = tt

of_view : (row : RowView) (live : Option Transfer) (role : Role) → HasRole live role → LiveFits row live → IsOfView row role
of_view row None role was fits = absurd was
of_view row (Some t) role was fits = subst (λ (x : Role). IsOfView row x) was fits

-- a session turns to its next row
turned_has : RequestsAreSpelled → (accepts : Accepts) (active : StandingView) (end : Reading) (s : TargetSessionLog) (moves : List Move) (move : RowMove) (more : List ℕ) → (h : HasTurned accepts active end s moves move more) → IsBytes (arrived_of h.ended)
    → LiveFits (row_view s.row) end.live → HasRequest end s.row → HasRequest (after end moves) (with_done accepts active s (h.ended ∷ [])).row
turned_has reads accepts active end s moves move more h fit role was =
    subst (λ (row : WholeRow). HasRequest (after end moves) row) (sym (row_of_one accepts active s.row h.ended))
    (row_has reads accepts active (after end moves) h.ended end.past h.past fit h.over s.row is (has_then end (after end moves) h.ended s.row h.past is was))
  where
    is : IsOfView (row_view s.row) h.ended.role
    is = of_view (row_view s.row) end.live h.ended.role h.was_live role

first_has : (end : Reading) (kind : FileKind) (sequence : ℕ) → HasRequest end (first_row kind sequence)
first_has end Lci sequence = tt
first_has end Lui sequence = by (eqb sequence 4294967295)
  where
    by : (b : Bool) → HasRequest end (cond b Gives_denial Gives_lui)
    by true = tt
    by false = tt
first_has end kind sequence = tt

turned_installs : (accepts : Accepts) (before now : TargetReading) (s : TargetSessionLog) (t : Transfer) → before.live ≡ Some s → newest now.end.past ≡ t ∷ [] → HasRequest now.end (with_done accepts before.active s (t ∷ [])).row
    → InstallsRequest accepts before now
turned_installs accepts before now s t live one has new =
    let same : s ≡ new.session = session_is s new.session (sym live ∙ new.live) in
    let last : t ≡ new.ended = one_is (newest now.end.past) t new.ended one new.is_newest in
    let here : HasRequest now.end (with_done accepts before.active new.session (new.ended ∷ [])).row =
    subst (λ (x : TargetSessionLog). HasRequest now.end (with_done accepts before.active x (new.ended ∷ [])).row) same
    (subst (λ (x : Transfer). HasRequest now.end (with_done accepts before.active s (x ∷ [])).row) last has) in
    subst (λ (x : WholeRow). HasRequest now.end x) new.good here

abbrev EventRequests : Accepts → TargetReading → TargetReading → Type 0
EventRequests accepts before now = SessionHasRequest now × InstallsRequest accepts before now

module _ (reads : RequestsAreSpelled) (accepts : Accepts) where
  changed_requests : (end : Reading) (live : Option TargetSessionLog) (active : StandingView) (reason : Option Reason) (moves : List Move) (change : TargetChange) → FitsChange accepts active end live moves change → SoundIn accepts active end.live live → RequestIn end live
      → ((t : Transfer) → newest (after end moves).past ≡ t ∷ [] → IsBytes (arrived_of t))
      → EventRequests accepts (reading end live active reason) (target_reading_changed accepts (after end moves) (reading end live active reason) change)
  changed_requests end live active reason moves (Begins kind) fits sound h bytes =
      (first_has (after end moves) kind active.sequence, λ new. no_new _ accepts _ _ (begins_active active kind active.sequence) new)
  changed_requests end live active reason moves (Ends why) fits sound h bytes = (tt, λ new. no_new _ accepts _ _ refl new)
  changed_requests end None active reason moves (Continues more) fits sound h bytes = (tt, λ new. no_new _ accepts _ _ refl new)
  changed_requests end None active reason moves (Turns move more) fits sound h bytes = (tt, λ new. no_new _ accepts _ _ refl new)
  changed_requests end None active reason moves (Turns_without_port move more) fits sound h bytes = (tt, λ new. no_new _ accepts _ _ refl new)
  changed_requests end (Some s) active reason moves (Continues more) fits sound h bytes = (has_still end (after end moves) s.row fits.2 h, λ new. no_new _ accepts _ _ refl new)
  changed_requests end (Some s) active reason moves (Turns move more) (turn, none, role) sound h bytes =
      let now = turned_has reads accepts active end s moves move more turn (bytes turn.ended turn.is_newest) sound.role h in (
        subst (λ (ts : List Transfer). HasRequest (after end moves) (with_done accepts active s ts).row) (sym turn.is_newest) now,
        turned_installs accepts _ _ s turn.ended refl turn.is_newest now,
      )
  changed_requests end (Some s) active reason moves (Turns_without_port move more) turn sound h bytes =
      (tt, turned_installs accepts _ _ s turn.ended refl turn.is_newest (turned_has reads accepts active end s moves move more turn (bytes turn.ended turn.is_newest) sound.role h))

  pub target_step_requests : SumsJoin → PayloadsAreBytes → (log : List Event) (r : TargetReading) (e : Event) → LogIsBytes (e ∷ log) → PacketsCame log r.end → IsLive r.end.live → SessionIsSound accepts r → SessionHasRequest r → EventRequests accepts r (target_extended accepts r e)
  target_step_requests joins payloads log r e fit packets live sound h =
      let d = target_decision accepts (target_view r) e in
      changed_requests r.end r.live r.active r.reason d.moves d.change (decision_fits joins accepts r e live) sound h
      (λ t one. newest_bytes payloads (e ∷ log) (after r.end d.moves) t fit (moves_came sides.Target e log r.end d.moves (target_moves_heard accepts (target_view r) e) packets) one)
