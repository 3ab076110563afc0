-- Proofs that each session comes to its outcome by its cause.
use Rattle.std.proofs.Common.{◌≡◌, ℕ, Bool, true, false, cond, eqb, List, [], ◌∷◌, ◌++◌, length, Option, Some, None, Result, Ok, Err, refl, sym, ap, ◌∙◌}
use Rattle.std.specs.Prelude.{bytes_eq, nat_lt}
use Rattle.std.specs.List.{AllByRecursion}
use Rattle.std.proofs.lemmas.Bool.{ltb-false, ltb-true}
use Rattle.load_protocol_files.specs.declared.lur.Wanted.{Wanted}
use Rattle.tftp_packet.specs.declared.options.Options.{Options}
use Rattle.tftp_packet.specs.Packets.{Ack, Data, Error, Oack, PacketView, Rrq, Wrq}
use Rattle.tftp_link.specs.Answers.{Again, Answer, Completes, Dropped, Fails, Grants, Proceeds, TakesBlock, TakesLast}
use Rattle.exchange_trace.specs.declared.trace.Side.TheVariants as sides
use Rattle.exchange_trace.specs.Happenings.{DatagramView}
use Rattle.exchange_trace.specs.Logs.{Event, Gets, Learns, Starts_info, Starts_upload, Ticks, event_for, logged, loader_log}
use Rattle.exchange_trace.specs.Posts.{posted_in}
use Rattle.exchange_trace.specs.Steps.{Step}
use Rattle.transfer_end.specs.Moves.{Hears, Move, readings_after}
use Rattle.transfer_end.specs.Packets.{belongs, has_port, heard_answer, is_busy, is_fresh, may_repeat, packet_in, transfer_moves}
use Rattle.transfer_end.specs.Readings.{Reading, next_port_of}
use Rattle.transfer_end.specs.Transfers.{Role, ServesRead, ServesWrite, Transfer, arrived_of, arriving_in, end_answer, end_of}
use Rattle.transfer_end.specs.Views.{end_view, transfer_view}
use Rattle.session_rules.specs.declared.outcome.FileKind.{FileKind}
use Rattle.session_rules.specs.declared.outcome.Outcome.{Outcome}
use Rattle.session_rules.specs.declared.outcome.Outcome.TheVariants.{PortsSpent}
use Rattle.session_rules.specs.declared.outcome.SessionKind.TheVariants.{Info, Upload}
use Rattle.session_rules.proofs.BufferLemmas.{buffered_on}
use Rattle.session_rules.specs.Buffers.{Buffer, buffered, buffered_more}
use Rattle.session_rules.specs.FileNames.{file_name}
use Rattle.session_rules.specs.Loader.{Advances, Begins, Begins_over, Continues, EndedSession, Ends, LoaderChange, LoaderDecision, LoaderSession, Start, answer_decision, begin_with, got_decision, listed_upload, loader_decision, next_decision, packet_decision, read_decision, request_decision, row_request, take_request, tick_decision, turn_decision, write_decision}
use Rattle.session_rules.specs.LoaderLog.{LoaderReading, SessionLog, loader_reading, loader_reading_changed, loader_view, session_view}
use Rattle.session_rules.specs.LoaderRoles.{loader_row}
use Rattle.session_rules.specs.LoaderRows.{Comes_to, Goes_on, RowTurn, file_turn, first_row, kind_taken, row_after, serves_files}
use Rattle.session_rules.specs.MediaFiles.{Media, wanted_of}
use Rattle.replay_rules.specs.BothEnds.{Setting, loader_at}
use Rattle.replay_rules.specs.Outcomes.{AllEndByCause, EndsByCause, OutcomeHasCause, IsStart, OutcomesHaveCauses, gave_up, no_port, not_on_media, of_error, of_file, too_many, was_replaced}

-- ---- what a change asks of its event

module _ (media : Media) (end : Reading) (live : Option SessionLog) (ended : List EndedSession) (e : Event) where
  abbrev r : LoaderReading
  r = record { end = end; live = live; ended = ended }

  abbrev Cause : Outcome → Type 0
  Cause outcome = OutcomeHasCause media (record { end = end; live = live; ended = ended }) e outcome

  abbrev pub ChangeHasCause : LoaderChange → Type 0
  ChangeHasCause (Ends outcome more) = Cause outcome
  ChangeHasCause (Begins start) = IsStart e
  ChangeHasCause (Begins_over kind outcome) = IsStart e × Cause outcome
  ChangeHasCause (Continues more) = Unit {0}
  ChangeHasCause Advances = Unit {0}

  abbrev pub Caused : LoaderDecision → Type 0
  Caused d = ChangeHasCause d.change

  caused_if : (b : Bool) (x y : LoaderDecision) → (b ≡ true → Caused x) → (b ≡ false → Caused y) → Caused (cond b x y)
  caused_if true x y p q = p refl
  caused_if false x y p q = q refl

  spent : has_port (end_view end) ≡ false → Cause PortsSpent
  spent none = no_port (ltb-false (next_port_of end) 65536 none)

  -- ---- starts

  begins_caused : (s : Start) (role : Option Role) → IsStart e → Caused (begin_with (end_view end) s role)
  begins_caused s None starts = tt
  begins_caused s (Some role) starts = caused_if (has_port (end_view end)) _ _ (λ has. starts) (λ none. (starts, spent none))

  listed_caused : (hw pos : List ℕ) (parts : List (List ℕ)) (found : Result (List Wanted) (List ℕ)) → e ≡ Starts_upload hw pos parts → wanted_of media.loads parts ≡ found → IsStart e → Caused (listed_upload (end_view end) hw pos found)
  listed_caused hw pos parts (Ok loads) is same starts =
      begins_caused (record { kind = Upload; hw = hw; pos = pos; loads = loads }) (row_request end.asks_size (record { kind = Upload; hw = hw; pos = pos; loads = loads }) (first_row Upload)) starts
  listed_caused hw pos parts (Err part) is same starts = (starts, not_on_media hw pos parts part is same)

  -- ---- requests

  taken_caused : (from : ℕ) (role : Role) → Caused (take_request (end_view end) from role)
  taken_caused from role = caused_if (is_fresh (end_view end) from) _ _ (λ fresh. caused_if (has_port (end_view end)) _ _ (λ has. tt) (λ none. spent none)) (λ stale. tt)

  read_caused : (from : ℕ) (name : List ℕ) (o : Options) (found : Option (List ℕ)) → Caused (read_decision (end_view end) from name o found)
  read_caused from name o None = tt
  read_caused from name o (Some file) = taken_caused from (ServesRead name o file)

  write_caused : (s : Start) (from : ℕ) (name : List ℕ) (o : Options) (kind : Option FileKind) → Caused (write_decision (end_view end) s from name o kind)
  write_caused s from name o None = tt
  write_caused s from name o (Some kind) = caused_if (bytes_eq name (file_name s.hw s.pos kind)) _ _ (λ named. taken_caused from (ServesWrite name o)) (λ other. tt)

  request_caused : (s : LoaderSession) (from : ℕ) (p : PacketView) → Caused (request_decision media (end_view end) s from p)
  request_caused s from (Rrq name o) = caused_if (serves_files s.row) _ _ (λ serves. read_caused from name o (media.file name)) (λ not. tt)
  request_caused s from (Wrq name o) = write_caused s.start from name o (kind_taken s.row)
  request_caused s from (Data k b) = tt
  request_caused s from (Ack k) = tt
  request_caused s from (Error code m) = tt
  request_caused s from (Oack o) = tt

  -- ---- the end of a transfer

  next_caused : (moves : List Move) (more : List ℕ) (role : Option Role) → Caused (next_decision (end_view end) moves more role)
  next_caused moves more None = tt
  next_caused moves more (Some role) = caused_if (has_port (end_view end)) _ _ (λ has. tt) (λ none. spent none)

  turn_caused : (s : LoaderSession) (moves : List Move) (more : List ℕ) (turn : RowTurn) → ((outcome : Outcome) → turn ≡ Comes_to outcome → Cause outcome) → Caused (turn_decision (end_view end) s moves more turn)
  turn_caused s moves more Goes_on comes = next_caused moves more (row_request end.asks_size s.start (row_after s.row))
  turn_caused s moves more (Comes_to outcome) comes = comes outcome refl

-- ---- packets of the live transfer

module _ (media : Media) (first_port : ℕ) (past : List Transfer) (ticks : ℕ) (last : Option DatagramView) (size : Option ℕ) (s : SessionLog) (ended : List EndedSession) (from to : ℕ) (bytes : List ℕ) (p : PacketView) (is : packet_in bytes ≡ Some p) where
  abbrev with_live : Option Transfer → Reading
  with_live live = record { first_port = first_port; past = past; live = live; ticks = ticks; last = last; asks_size = size }

  abbrev kept : Reading → LoaderSession
  kept end = record { start = s.start; row = loader_row s; arriving = buffered (arriving_in end.live) }

  abbrev CausedHere : Reading → LoaderDecision → Type 0
  CausedHere end d = Caused media end (Some s) ended (Gets from to bytes) d

  whole : (t : Transfer) (b : List ℕ) (outcome : Outcome) → end_answer (end_of t.role t.got) p ≡ TakesLast b → file_turn (loader_row s) (buffered_more (buffered (arrived_of t)) b) ≡ Comes_to outcome
      → OutcomeHasCause media (record { end = with_live (Some t); live = Some s; ended = ended }) (Gets from to bytes) outcome
  whole t b outcome takes turn = of_file outcome (record {
    session = s;
    live = refl;
    transfer = t;
    going = refl;
    from = from;
    to = to;
    bytes = bytes;
    packet = p;
    block = b;
    gets = refl;
    spells = is;
    last = takes;
    comes_to = ap (λ (x : Buffer). file_turn (loader_row s) x) (sym (buffered_on (arrived_of t) b)) ∙ turn;
  })

  answered_caused : (t : Transfer) (answer : Answer) → end_answer (end_of t.role t.got) p ≡ answer → CausedHere (with_live (Some t)) (answer_decision (end_view (with_live (Some t))) (kept (with_live (Some t))) (Hears from p ∷ []) answer)
  answered_caused t (TakesLast b) e =
      turn_caused media (with_live (Some t)) (Some s) ended (Gets from to bytes) (kept (with_live (Some t))) (Hears from p ∷ []) b (file_turn (loader_row s) (buffered_more (buffered (arrived_of t)) b)) (λ outcome turn. whole t b outcome e turn)
  answered_caused t (TakesBlock b) e = tt
  answered_caused t Completes e = next_caused media (with_live (Some t)) (Some s) ended (Gets from to bytes) (Hears from p ∷ []) [] (row_request size s.start (row_after (loader_row s)))
  answered_caused t (Fails code) e = of_error code (record { transfer = t; going = refl; from = from; to = to; bytes = bytes; packet = p; gets = refl; spells = is; fails = e })
  answered_caused t Dropped e = tt
  answered_caused t Again e = tt
  answered_caused t (Grants o) e = tt
  answered_caused t Proceeds e = tt

  heard_caused : (t : Transfer) (b : Bool) (others : List Move) → CausedHere (with_live (Some t)) (answer_decision (end_view (with_live (Some t))) (kept (with_live (Some t))) (cond b (Hears from p ∷ []) others) (cond b (end_answer (end_of t.role t.got) p) Dropped))
  heard_caused t true others = answered_caused t (end_answer (end_of t.role t.got) p) refl
  heard_caused t false others = tt

  transfer_caused : (live : Option Transfer) → CausedHere (with_live live) (answer_decision (end_view (with_live live)) (kept (with_live live)) (transfer_moves (end_view (with_live live)) from to p) (heard_answer (end_view (with_live live)) from to p))
  transfer_caused (Some t) = heard_caused t (belongs (Some (transfer_view t)) from to) _
  transfer_caused None = tt

module _ (media : Media) (end : Reading) (ended : List EndedSession) where
  packet_caused : (s : SessionLog) (from to : ℕ) (bytes : List ℕ) (p : PacketView) → packet_in bytes ≡ Some p
      → Caused media end (Some s) ended (Gets from to bytes) (packet_decision media (end_view end) (record { start = s.start; row = loader_row s; arriving = buffered (arriving_in end.live) }) from to p)
  packet_caused s from to bytes p is =
      caused_if media end (Some s) ended (Gets from to bytes) (eqb to 59) _ _
      (λ at. caused_if media end (Some s) ended (Gets from to bytes) (is_busy (end_view end)) _ _ (λ busy. tt)
      (λ free. request_caused media end (Some s) ended (Gets from to bytes) (record { start = s.start; row = loader_row s; arriving = buffered (arriving_in end.live) }) from p))
      (λ other. transfer_caused media end.first_port end.past end.ticks end.last end.asks_size s ended from to bytes p is end.live)

  got_caused : (live : Option SessionLog) (from to : ℕ) (bytes : List ℕ) (p : Option PacketView) → packet_in bytes ≡ p → Caused media end live ended (Gets from to bytes) (got_decision media (loader_view (record { end = end; live = live; ended = ended })) from to p)
  got_caused live from to bytes None is = tt
  got_caused None from to bytes (Some p) is = caused_if media end None ended (Gets from to bytes) (eqb to 59) _ _ (λ at. tt) (λ other. tt)
  got_caused (Some s) from to bytes (Some p) is = packet_caused s from to bytes p is

  tick_caused : (live : Option SessionLog) → Caused media end live ended Ticks (tick_decision (end_view end) (session_view end live))
  tick_caused None = tt
  tick_caused (Some s) = caused_if media end (Some s) ended Ticks (may_repeat (end_view end)) _ _ (λ repeats. tt) (λ none. gave_up refl (ltb-false end.ticks 5 none))

  decision_caused : (live : Option SessionLog) (e : Event) → Caused media end live ended e (loader_decision media (loader_view (record { end = end; live = live; ended = ended })) e)
  decision_caused live (Starts_info hw pos) =
      begins_caused media end live ended (Starts_info hw pos) (record { kind = Info; hw = hw; pos = pos; loads = [] }) (row_request end.asks_size (record { kind = Info; hw = hw; pos = pos; loads = [] }) (first_row Info)) tt
  decision_caused live (Starts_upload hw pos parts) =
      caused_if media end live ended (Starts_upload hw pos parts) (nat_lt 32 (length parts)) _ _ (λ many. (tt, too_many hw pos parts refl (ltb-true 32 (length parts) many)))
      (λ few. listed_caused media end live ended (Starts_upload hw pos parts) hw pos parts (wanted_of media.loads parts) refl refl tt)
  decision_caused live (Gets from to bytes) = got_caused live from to bytes (packet_in bytes) refl
  decision_caused live Ticks = tick_caused live
  decision_caused live (Learns size) = tt

-- ---- the sessions that end at an event

-- those that end come to their outcomes by their causes
pub record EndWithCauses (media : Media) (r : LoaderReading) (e : Event) (then : List EndedSession) : Type 0 where
  pub ends : List EndedSession
  pub split : then ≡ ends ++ r.ended
  pub causes : AllByRecursion (λ (session : EndedSession). OutcomeHasCause media r e session.outcome) ends

changed_ends : (media : Media) (end then : Reading) (live : Option SessionLog) (ended : List EndedSession) (e : Event) (change : LoaderChange) → ChangeHasCause media end live ended e change
    → EndWithCauses media (record { end = end; live = live; ended = ended }) e (loader_reading_changed then (record { end = end; live = live; ended = ended }) change).ended
changed_ends media end then live ended e (Continues more) cause = record { ends = []; split = refl; causes = tt }
changed_ends media end then live ended e Advances cause = record { ends = []; split = refl; causes = tt }
changed_ends media end then None ended e (Ends outcome more) cause = record { ends = []; split = refl; causes = tt }
changed_ends media end then (Some s) ended e (Ends outcome more) cause = record { ends = _ ∷ []; split = refl; causes = (cause, tt) }
changed_ends media end then None ended e (Begins start) cause = record { ends = []; split = refl; causes = tt }
changed_ends media end then (Some s) ended e (Begins start) cause = record { ends = _ ∷ []; split = refl; causes = (was_replaced cause, tt) }
changed_ends media end then None ended e (Begins_over kind outcome) (starts, cause) = record { ends = _ ∷ []; split = refl; causes = (cause, tt) }
changed_ends media end then (Some s) ended e (Begins_over kind outcome) (starts, cause) = record { ends = _ ∷ _ ∷ []; split = refl; causes = (cause, (was_replaced starts, tt)) }

event_ends : (media : Media) (log : List Event) (e : Event) → EndWithCauses media (loader_reading media log) e (loader_reading media (e ∷ log)).ended
event_ends media log e =
    let r = loader_reading media log in
    let d = loader_decision media (loader_view r) e in
    changed_ends media r.end (readings_after sides.Loader r.end d.moves) r.live r.ended e d.change (decision_caused media r.end r.ended r.live e)

-- ---- in a run

module _ (set : Setting) where
  mapped : (s : Step) (earlier : List Step) (e : Event) → event_for sides.Loader (posted_in earlier) s.given ≡ Some e → (ends : List EndedSession) → AllByRecursion (λ (session : EndedSession). OutcomeHasCause set.media (loader_at set earlier) e session.outcome) ends
      → AllByRecursion (EndsByCause set s earlier) ends
  mapped s earlier e comes [] causes = tt
  mapped s earlier e comes (session ∷ ends) (cause, causes) = (record { event = e; reaches = comes; cause = cause }, mapped s earlier e comes ends causes)

  step_ends : (s : Step) (earlier : List Step) → (e : Option Event) → event_for sides.Loader (posted_in earlier) s.given ≡ e
      → (ends : List EndedSession) × ((loader_reading set.media (logged e (loader_log earlier))).ended ≡ ends ++ (loader_at set earlier).ended) × AllByRecursion (EndsByCause set s earlier) ends
  step_ends s earlier None comes = ([], refl, tt)
  step_ends s earlier (Some e) comes = let h = event_ends set.media (loader_log earlier) e in (h.ends, h.split, mapped s earlier e comes h.ends h.causes)

  all_end : (steps : List Step) → AllEndByCause set steps
  all_end [] = tt
  all_end (s ∷ earlier) = (step_ends s earlier (event_for sides.Loader (posted_in earlier) s.given) refl, all_end earlier)

pub outcomes_have_causes : OutcomesHaveCauses
outcomes_have_causes set steps = all_end set steps
