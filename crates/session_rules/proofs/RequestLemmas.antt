-- Proofs of which loads an upload asks for, at the loader.
use Rattle.std.proofs.Common.{◌≡◌, ◌≤◌, inl, inr, ℕ, Bool, true, false, cond, eqb, List, [], ◌∷◌, ◌++◌, length, Option, Some, None, Result, Ok, Err, refl, sym, ap, subst, ◌∙◌}
use Rattle.std.specs.Prelude.{bytes_eq, nat_lt}
use Rattle.std.specs.List.{AllByRecursion}
use Rattle.std.proofs.lemmas.Bool.{ltb-false}
use Rattle.load_protocol_files.specs.declared.lur.Wanted.{Wanted}
use Rattle.tftp_packet.specs.declared.options.Options.{Options}
use Rattle.tftp_packet.specs.Packets.{Ack, Data, Error, Oack, PacketView, Rrq, Wrq}
use Rattle.tftp_link.specs.Answers.{Again, Answer, Completes, Dropped, Fails, Grants, Proceeds, TakesBlock, TakesLast}
use Rattle.exchange_trace.specs.declared.trace.Side.TheVariants as sides
use Rattle.exchange_trace.specs.Logs.{Event, Gets, Learns, Starts_info, Starts_upload, Ticks}
use Rattle.transfer_end.proofs.CameLemmas.{all_mapped}
use Rattle.transfer_end.specs.Moves.{Asks, Asks_size, Hears, Move, Recalls, Refuses, Repeats, Serves, Stops, past_with, readings_after}
use Rattle.transfer_end.proofs.OtherEndLemmas.{moves_roles}
use Rattle.transfer_end.specs.OtherEnds.{HaveRoles, MoveHasRole}
use Rattle.transfer_end.specs.Packets.{belongs, has_port, heard_answer, is_busy, is_fresh, may_repeat, packet_in, transfer_moves}
use Rattle.transfer_end.specs.Readings.{Reading}
use Rattle.transfer_end.specs.Transfers.{Reads, Role, ServesRead, ServesWrite, Transfer, Writes}
use Rattle.transfer_end.specs.Views.{EndView}
use Rattle.session_rules.specs.declared.outcome.FileKind.{FileKind}
use Rattle.session_rules.specs.declared.outcome.Outcome.TheVariants.{PeerError, TooMany}
use Rattle.session_rules.specs.declared.outcome.SessionKind.{SessionKind}
use Rattle.session_rules.specs.declared.outcome.SessionKind.TheVariants.{Info, Upload}
use Rattle.session_rules.specs.Buffers.{buffered_more}
use Rattle.session_rules.specs.FileNames.{file_name}
use Rattle.session_rules.specs.Loader as loader
use Rattle.session_rules.proofs.LoaderLemmas.{end_stays}
use Rattle.session_rules.specs.LoaderLog.{LoaderReading, SessionLog, loader_reading, loader_reading_changed, loader_view, session_view}
use Rattle.session_rules.proofs.LoaderRoleLemmas.{IsInfoRow, info_row}
use Rattle.session_rules.specs.LoaderRoles.{loader_row}
use Rattle.session_rules.specs.LoaderRows.{Comes_to, Goes_on, LoaderRow, Reads_lci, Reads_lui, Serves_files, Takes_lcl, Takes_lcs, Takes_lus, RowTurn, Writes_lur, file_turn, first_row, kind_taken, row_after, serves_files}
use Rattle.session_rules.specs.MediaFiles.{Media, wanted_of}
use Rattle.session_rules.specs.OwnSessions.{IsStartedBy}
use Rattle.session_rules.specs.Reports.{lur_file}
use Rattle.session_rules.specs.Requests.{AreStarted, LoaderWritesRequests, WritesRequest}

-- ---- what a decision writes and begins

-- the live session writes its request after this row
abbrev pub RequestsOf : Option loader.LoaderSession → List ℕ → Type 0
RequestsOf None file = ⊥
RequestsOf (Some s) file = (row_after s.row ≡ Writes_lur) × (file ≡ lur_file s.start.loads)

abbrev pub WritesOf : Option loader.LoaderSession → Role → Type 0
WritesOf live (Writes name o file) = RequestsOf live file
WritesOf live role = Unit {0}

-- a session begins with the loads of its start
abbrev pub BeginsBy : Media → Event → loader.LoaderChange → Type 0
BeginsBy media e (loader.Begins start) = IsStartedBy media e start
BeginsBy media e change = Unit {0}

abbrev written_file : Option Role → List ℕ
written_file (Some (Writes name o file)) = file
written_file role = []

module _ (media : Media) (v : EndView) (e : Event) (live : Option loader.LoaderSession) where
  abbrev pub Fit : loader.LoaderDecision → Type 0
  Fit d = AllByRecursion (MoveHasRole (WritesOf live)) d.moves × BeginsBy media e d.change

  fit_if : (b : Bool) (x y : loader.LoaderDecision) → Fit x → Fit y → Fit (cond b x y)
  fit_if true x y p q = p
  fit_if false x y p q = q

  first_reads : (size : Option ℕ) (s : loader.Start) (kind : SessionKind) (role : Role) → loader.row_request size s (first_row kind) ≡ Some role → WritesOf live role
  first_reads size s Info (Writes name o file) e = absurd cc
  first_reads size s Info (Reads name o) e = tt
  first_reads size s Info (ServesRead name o file) e = tt
  first_reads size s Info (ServesWrite name o) e = tt
  first_reads size s Upload (Writes name o file) e = absurd cc
  first_reads size s Upload (Reads name o) e = tt
  first_reads size s Upload (ServesRead name o file) e = tt
  first_reads size s Upload (ServesWrite name o) e = tt

  begin_fits : (s : loader.Start) (role : Option Role) → loader.row_request v.asks_size s (first_row s.kind) ≡ role → IsStartedBy media e s → Fit (loader.begin_with v s role)
  begin_fits s None is started = (tt, tt)
  begin_fits s (Some role) is started = fit_if (has_port v) _ _ ((tt, (first_reads v.asks_size s s.kind role is, tt)), started) ((tt, tt), tt)

  start_fits : (s : loader.Start) → IsStartedBy media e s → Fit (loader.start_decision v s)
  start_fits s started = begin_fits s (loader.row_request v.asks_size s (first_row s.kind)) refl started

  taken_fits : (from : ℕ) (role : Role) → WritesOf live role → Fit (loader.take_request v from role)
  taken_fits from role none = fit_if (is_fresh v from) _ _ (fit_if (has_port v) _ _ ((none, tt), tt) ((tt, tt), tt)) (tt, tt)

  read_fits : (from : ℕ) (name : List ℕ) (o : Options) (found : Option (List ℕ)) → Fit (loader.read_decision v from name o found)
  read_fits from name o None = ((tt, tt), tt)
  read_fits from name o (Some file) = taken_fits from (ServesRead name o file) tt

  write_fits : (s : loader.Start) (from : ℕ) (name : List ℕ) (o : Options) (kind : Option FileKind) → Fit (loader.write_decision v s from name o kind)
  write_fits s from name o None = (tt, tt)
  write_fits s from name o (Some kind) = fit_if (bytes_eq name (file_name s.hw s.pos kind)) _ _ (taken_fits from (ServesWrite name o) tt) (tt, tt)

  request_fits : (s : loader.LoaderSession) (from : ℕ) (p : PacketView) → Fit (loader.request_decision media v s from p)
  request_fits s from (Rrq name o) = fit_if (serves_files s.row) _ _ (read_fits from name o (media.file name)) (tt, tt)
  request_fits s from (Wrq name o) = write_fits s.start from name o (kind_taken s.row)
  request_fits s from (Data k b) = (tt, tt)
  request_fits s from (Ack k) = (tt, tt)
  request_fits s from (Error code m) = (tt, tt)
  request_fits s from (Oack o) = (tt, tt)

  heard_fits : (from to : ℕ) (p : PacketView) → AllByRecursion (MoveHasRole (WritesOf live)) (transfer_moves v from to p)
  heard_fits from to p = by (belongs v.live from to) (belongs v.kept from to)
    where
      by : (a b : Bool) → AllByRecursion (MoveHasRole (WritesOf live)) (cond a (Hears from p ∷ []) (cond b (Recalls from p ∷ []) []))
      by true b = (tt, tt)
      by false true = (tt, tt)
      by false false = tt

  then_fits : (from to : ℕ) (p : PacketView) (move : Move) → MoveHasRole (WritesOf live) move → AllByRecursion (MoveHasRole (WritesOf live)) (transfer_moves v from to p ++ move ∷ [])
  then_fits from to p move h = by (belongs v.live from to) (belongs v.kept from to)
    where
      by : (a b : Bool) → AllByRecursion (MoveHasRole (WritesOf live)) (cond a (Hears from p ∷ []) (cond b (Recalls from p ∷ []) []) ++ move ∷ [])
      by true b = (tt, (h, tt))
      by false true = (tt, (h, tt))
      by false false = (h, tt)

  row_writes : (s : loader.LoaderSession) (row : LoaderRow) (role : Role) → live ≡ Some s → row_after s.row ≡ row → loader.row_request v.asks_size s.start row ≡ Some role → WritesOf live role
  row_writes s Writes_lur (Writes name o file) is at asks = subst (λ (x : Option loader.LoaderSession). RequestsOf x file) (sym is) (at, sym (ap written_file asks))
  row_writes s Reads_lci (Writes name o file) is at asks = absurd cc
  row_writes s Reads_lui (Writes name o file) is at asks = absurd cc
  row_writes s Takes_lcs (Writes name o file) is at asks = absurd cc
  row_writes s Takes_lcl (Writes name o file) is at asks = absurd cc
  row_writes s Takes_lus (Writes name o file) is at asks = absurd cc
  row_writes s Serves_files (Writes name o file) is at asks = absurd cc
  row_writes s row (Reads name o) is at asks = tt
  row_writes s row (ServesRead name o file) is at asks = tt
  row_writes s row (ServesWrite name o) is at asks = tt

  next_fits : (from to : ℕ) (p : PacketView) (more : List ℕ) (s : loader.LoaderSession) (role : Option Role) → live ≡ Some s → loader.row_request v.asks_size s.start (row_after s.row) ≡ role → Fit (loader.next_decision v (transfer_moves v from to p) more role)
  next_fits from to p more s None is asks = (heard_fits from to p, tt)
  next_fits from to p more s (Some role) is asks =
      fit_if (has_port v) _ _ (then_fits from to p (Asks role) (row_writes s (row_after s.row) role is refl asks), tt) (then_fits from to p Stops tt, tt)

  turn_fits : (from to : ℕ) (p : PacketView) (s : loader.LoaderSession) (more : List ℕ) (turn : RowTurn) → live ≡ Some s → Fit (loader.turn_decision v s (transfer_moves v from to p) more turn)
  turn_fits from to p s more Goes_on is = next_fits from to p more s (loader.row_request v.asks_size s.start (row_after s.row)) is refl
  turn_fits from to p s more (Comes_to outcome) is = (then_fits from to p Stops tt, tt)

  answer_fits : (from to : ℕ) (p : PacketView) (s : loader.LoaderSession) (answer : Answer) → live ≡ Some s → Fit (loader.answer_decision v s (transfer_moves v from to p) answer)
  answer_fits from to p s (TakesBlock payload) is = (heard_fits from to p, tt)
  answer_fits from to p s (TakesLast payload) is = turn_fits from to p s payload (file_turn s.row (buffered_more s.arriving payload)) is
  answer_fits from to p s Completes is = turn_fits from to p s [] Goes_on is
  answer_fits from to p s (Fails code) is = turn_fits from to p s [] (Comes_to (PeerError code)) is
  answer_fits from to p s Dropped is = (heard_fits from to p, tt)
  answer_fits from to p s Again is = (heard_fits from to p, tt)
  answer_fits from to p s (Grants o) is = (heard_fits from to p, tt)
  answer_fits from to p s Proceeds is = (heard_fits from to p, tt)

  session_fits : (from to : ℕ) (p : PacketView) (now : Option loader.LoaderSession) → live ≡ now → Fit (loader.session_decision media v now from to p)
  session_fits from to p None is = fit_if (eqb to 59) _ _ (tt, tt) (heard_fits from to p, tt)
  session_fits from to p (Some s) is = fit_if (eqb to 59) _ _ (fit_if (is_busy v) _ _ (tt, tt) (request_fits s from p)) (answer_fits from to p s (heard_answer v from to p) is)

  tick_fits : (now : Option loader.LoaderSession) → Fit (loader.tick_decision v now)
  tick_fits None = (tt, tt)
  tick_fits (Some s) = fit_if (may_repeat v) _ _ ((tt, tt), tt) ((tt, tt), tt)

listed_fits : (media : Media) (v : EndView) (live : Option loader.LoaderSession) (hw pos : List ℕ) (parts : List (List ℕ)) (found : Result (List Wanted) (List ℕ)) → length parts ≤ 32 → wanted_of media.loads parts ≡ found → Fit media v (Starts_upload hw pos parts) live (loader.listed_upload v hw pos found)
listed_fits media v live hw pos parts (Ok loads) few is = start_fits media v (Starts_upload hw pos parts) live (record { kind = Upload; hw = hw; pos = pos; loads = loads }) (refl, few, is)
listed_fits media v live hw pos parts (Err part) few is = ((tt, tt), tt)

got_fits : (media : Media) (v : loader.LoaderView) (from to : ℕ) (bytes : List ℕ) (p : Option PacketView) → Fit media v.end (Gets from to bytes) v.live (loader.got_decision media v from to p)
got_fits media v from to bytes None = (tt, tt)
got_fits media v from to bytes (Some p) = session_fits media v.end (Gets from to bytes) v.live from to p v.live refl

pub loader_fits : (media : Media) (v : loader.LoaderView) (e : Event) → Fit media v.end e v.live (loader.loader_decision media v e)
loader_fits media v (Starts_info hw pos) = start_fits media v.end (Starts_info hw pos) v.live (record { kind = Info; hw = hw; pos = pos; loads = [] }) refl
loader_fits media v (Starts_upload hw pos parts) = by (nat_lt 32 (length parts)) refl
  where
    by : (b : Bool) → nat_lt 32 (length parts) ≡ b → Fit media v.end (Starts_upload hw pos parts) v.live (cond b (loader.refused_upload TooMany) (loader.listed_upload v.end hw pos (wanted_of media.loads parts)))
    by true e = ((tt, tt), tt)
    by false e = listed_fits media v.end v.live hw pos parts (wanted_of media.loads parts) (ltb-false 32 (length parts) e) refl
loader_fits media v (Gets from to bytes) = got_fits media v from to bytes (packet_in bytes)
loader_fits media v Ticks = tick_fits media v.end Ticks v.live v.live
loader_fits media v (Learns size) = ((tt, tt), tt)

-- ---- logs

still_started : (media : Media) (e : Event) (log : List Event) (loads : List Wanted) → AreStarted media log loads → AreStarted media (e ∷ log) loads
still_started media e log loads h = record { hw = h.hw; pos = h.pos; parts = h.parts; among = inr h.among; few = h.few; found = h.found }

-- an upload that is live was started for its loads
abbrev LiveIsStarted : Media → List Event → Option SessionLog → Type 0
LiveIsStarted media log None = Unit {0}
LiveIsStarted media log (Some s) = s.start.kind ≡ Upload → AreStarted media log s.start.loads

begun_started : (media : Media) (e : Event) (log : List Event) (start : loader.Start) → IsStartedBy media e start → start.kind ≡ Upload → AreStarted media (e ∷ log) start.loads
begun_started media (Starts_upload hw pos parts) log start by upload = record { hw = hw; pos = pos; parts = parts; among = inl refl; few = by.1; found = by.2 }
begun_started media (Starts_info hw pos) log start by upload = absurd (let wrong : Info ≡ Upload = sym by ∙ upload in cc)
begun_started media (Gets from to bytes) log start by upload = absurd by
begun_started media Ticks log start by upload = absurd by
begun_started media (Learns n) log start by upload = absurd by

changed_started : (media : Media) (e : Event) (log : List Event) (end : Reading) (r : LoaderReading) (live : Option SessionLog) (change : loader.LoaderChange) → BeginsBy media e change → LiveIsStarted media log live
    → LiveIsStarted media (e ∷ log) (loader_reading_changed end (record { end = r.end; live = live; ended = r.ended }) change).live
changed_started media e log end r None (loader.Continues more) begins h = tt
changed_started media e log end r (Some s) (loader.Continues more) begins h = λ upload. still_started media e log s.start.loads (h upload)
changed_started media e log end r None loader.Advances begins h = tt
changed_started media e log end r (Some s) loader.Advances begins h = λ upload. still_started media e log s.start.loads (h upload)
changed_started media e log end r live (loader.Ends outcome more) begins h = tt
changed_started media e log end r live (loader.Begins start) begins h = λ upload. begun_started media e log start begins upload
changed_started media e log end r live (loader.Begins_over kind outcome) begins h = tt

live_is_started : (media : Media) (log : List Event) → LiveIsStarted media log (loader_reading media log).live
live_is_started media [] = tt
live_is_started media (e ∷ log) =
    let r = loader_reading media log in
    let d = loader.loader_decision media (loader_view r) e in
    changed_started media e log (readings_after sides.Loader r.end d.moves) r r.live d.change (loader_fits media (loader_view r) e).1 (live_is_started media log)

-- only an upload writes a request
info_writes_not : (row : LoaderRow) → IsInfoRow row → row_after row ≡ Writes_lur → ⊥
info_writes_not Reads_lci info e = cc
info_writes_not Takes_lcs info e = cc
info_writes_not Takes_lcl info e = cc
info_writes_not Reads_lui info e = info
info_writes_not Takes_lus info e = info
info_writes_not Writes_lur info e = info
info_writes_not Serves_files info e = info

upload_writes : (s : SessionLog) (kind : SessionKind) → s.start.kind ≡ kind → row_after (loader_row s) ≡ Writes_lur → s.start.kind ≡ Upload
upload_writes s Upload is e = is
upload_writes s Info is e = absurd (info_writes_not (loader_row s) (info_row s.start.kind s.done is) e)

session_writes : (media : Media) (e : Event) (log : List Event) (end : Reading) (live : Option SessionLog) (role : Role) → LiveIsStarted media log live → WritesOf (session_view end live) role → WritesRequest media (e ∷ log) role
session_writes media e log end None (Writes name o file) h writes = absurd writes
session_writes media e log end (Some s) (Writes name o file) h (row, is) = (s.start.loads, still_started media e log s.start.loads (h (upload_writes s s.start.kind refl row)), is)
session_writes media e log end live (Reads name o) h writes = tt
session_writes media e log end live (ServesRead name o file) h writes = tt
session_writes media e log end live (ServesWrite name o) h writes = tt

move_writes : (media : Media) (e : Event) (log : List Event) (end : Reading) (live : Option SessionLog) → LiveIsStarted media log live → (move : Move) → MoveHasRole (WritesOf (session_view end live)) move → MoveHasRole (WritesRequest media (e ∷ log)) move
move_writes media e log end live h (Asks role) writes = session_writes media e log end live role h writes
move_writes media e log end live h (Serves from role) writes = session_writes media e log end live role h writes
move_writes media e log end live h (Hears from p) writes = tt
move_writes media e log end live h (Recalls from p) writes = tt
move_writes media e log end live h (Refuses from) writes = tt
move_writes media e log end live h Repeats writes = tt
move_writes media e log end live h Stops writes = tt
move_writes media e log end live h (Asks_size n) writes = tt

still_writes : (media : Media) (e : Event) (log : List Event) (role : Role) → WritesRequest media log role → WritesRequest media (e ∷ log) role
still_writes media e log (Writes name o file) (loads, started, is) = (loads, still_started media e log loads started, is)
still_writes media e log (Reads name o) h = tt
still_writes media e log (ServesRead name o file) h = tt
still_writes media e log (ServesWrite name o) h = tt

pub loader_writes_requests : LoaderWritesRequests
loader_writes_requests media [] = tt
loader_writes_requests media (e ∷ log) =
    let r = loader_reading media log in
    let d = loader.loader_decision media (loader_view r) e in
    subst (λ (x : Reading). HaveRoles (WritesRequest media (e ∷ log)) x) (sym (end_stays (readings_after sides.Loader r.end d.moves) r d.change))
    (moves_roles (WritesRequest media (e ∷ log)) sides.Loader r.end d.moves
    (all_mapped (MoveHasRole (WritesOf (session_view r.end r.live))) (MoveHasRole (WritesRequest media (e ∷ log))) (move_writes media e log r.end r.live (live_is_started media log)) d.moves (loader_fits media (loader_view r) e).0)
    (all_mapped (λ (t : Transfer). WritesRequest media log t.role) (λ (t : Transfer). WritesRequest media (e ∷ log) t.role) (λ t. still_writes media e log t.role) (past_with r.end.live r.end.past) (loader_writes_requests media log)))
