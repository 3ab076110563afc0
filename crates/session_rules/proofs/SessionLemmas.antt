-- Proofs that the loader has one session for each start.
use Rattle.std.proofs.Common.{◌≡◌, ℕ, Bool, true, false, cond, eqb, List, [], ◌∷◌, ◌++◌, length, Option, Some, None, Result, Ok, Err, refl, sym, ap, ◌∙◌}
use Rattle.std.specs.Prelude.{bytes_eq, nat_lt}
use Rattle.load_protocol_files.specs.declared.lur.Wanted.{Wanted}
use Rattle.tftp_packet.specs.declared.options.Options.{Options}
use Rattle.tftp_packet.specs.Packets.{Ack, Data, Error, Oack, PacketView, Rrq, Wrq}
use Rattle.tftp_link.specs.Answers.{Again, Answer, Completes, Dropped, Fails, Grants, Proceeds, TakesBlock, TakesLast}
use Rattle.exchange_trace.specs.Logs.{Event, Gets, Learns, Starts_info, Starts_upload, Ticks}
use Rattle.transfer_end.specs.Moves.{Move}
use Rattle.transfer_end.specs.Packets.{has_port, heard_answer, is_busy, is_fresh, may_repeat, packet_in, transfer_moves}
use Rattle.transfer_end.specs.Transfers.{Role, ServesRead, ServesWrite}
use Rattle.transfer_end.specs.Views.{EndView}
use Rattle.session_rules.specs.declared.outcome.FileKind.{FileKind}
use Rattle.session_rules.specs.declared.outcome.Outcome.{Outcome}
use Rattle.session_rules.specs.declared.outcome.Outcome.TheVariants.{PeerError, Replaced}
use Rattle.session_rules.specs.declared.outcome.SessionKind.{SessionKind}
use Rattle.session_rules.specs.declared.outcome.SessionKind.TheVariants.{Info, Upload}
use Rattle.session_rules.specs.Buffers.{buffered_more}
use Rattle.session_rules.specs.FileNames.{file_name}
use Rattle.session_rules.specs.Loader as Loader
use Rattle.session_rules.specs.Loader.{Advances, Begins, Begins_over, Continues, EndedSession, Ends, LoaderChange, LoaderDecision, LoaderSession, LoaderView, Start, ended_by, loader_changed, loader_decision}
use Rattle.session_rules.specs.LoaderLog.{loader_reading, loader_view}
use Rattle.session_rules.specs.LoaderRows.{Comes_to, Goes_on, RowTurn, file_turn, kind_taken, row_after, serves_files}
use Rattle.session_rules.specs.MediaFiles.{Media, wanted_of}
use Rattle.session_rules.specs.Sessions.{OneSessionAStart, kinds_of, sessions_in, started_by}
use Rattle.session_rules.proofs.ViewLemmas.{loaders_follow}

-- ---- changes

-- the session that begins with a change
abbrev pub begun_by : LoaderChange → List SessionKind
begun_by (Begins s) = s.kind ∷ []
begun_by (Begins_over kind outcome) = kind ∷ []
begun_by change = []

ended_kinds : (outcome : Outcome) (more : List ℕ) (live : Option LoaderSession) (ended : List EndedSession) → kinds_of None (ended_by outcome more live ended) ≡ kinds_of live ended
ended_kinds outcome more None ended = refl
ended_kinds outcome more (Some s) ended = refl

continued_kinds : (more : List ℕ) (live : Option LoaderSession) (ended : List EndedSession) → kinds_of (Loader.continued live more) ended ≡ kinds_of live ended
continued_kinds more None ended = refl
continued_kinds more (Some s) ended = refl

advanced_kinds : (live : Option LoaderSession) (ended : List EndedSession) → kinds_of (Loader.advanced live) ended ≡ kinds_of live ended
advanced_kinds None ended = refl
advanced_kinds (Some s) ended = refl

changed_kinds : (end : EndView) (v : LoaderView) (change : LoaderChange) → sessions_in (loader_changed end v change) ≡ begun_by change ++ sessions_in v
changed_kinds end v (Continues more) = continued_kinds more v.live v.ended
changed_kinds end v Advances = advanced_kinds v.live v.ended
changed_kinds end v (Ends outcome more) = ended_kinds outcome more v.live v.ended
changed_kinds end v (Begins s) = ap (λ (kinds : List SessionKind). s.kind ∷ kinds) (ended_kinds Replaced [] v.live v.ended)
changed_kinds end v (Begins_over kind outcome) = ap (λ (kinds : List SessionKind). kind ∷ kinds) (ended_kinds Replaced [] v.live v.ended)

-- ---- decisions

-- the session that a decision begins
abbrev pub begun_in : LoaderDecision → List SessionKind
begun_in d = begun_by d.change

begun_if : (kinds : List SessionKind) (b : Bool) (x y : LoaderDecision) → begun_in x ≡ kinds → begun_in y ≡ kinds → begun_in (cond b x y) ≡ kinds
begun_if kinds true x y p q = p
begun_if kinds false x y p q = q

module _ (v : EndView) where
  begin_begins : (s : Start) (role : Role) → begun_in (Loader.begin_with v s (Some role)) ≡ s.kind ∷ []
  begin_begins s role = begun_if (s.kind ∷ []) (has_port v) _ _ refl refl

  start_begins : (kind : SessionKind) (hw pos : List ℕ) (loads : List Wanted) → begun_in (Loader.start_decision v (record { kind = kind; hw = hw; pos = pos; loads = loads })) ≡ kind ∷ []
  start_begins Info hw pos loads = begin_begins (record { kind = Info; hw = hw; pos = pos; loads = loads }) _
  start_begins Upload hw pos loads = begin_begins (record { kind = Upload; hw = hw; pos = pos; loads = loads }) _

  listed_begins : (hw pos : List ℕ) (found : Result (List Wanted) (List ℕ)) → begun_in (Loader.listed_upload v hw pos found) ≡ Upload ∷ []
  listed_begins hw pos (Ok loads) = start_begins Upload hw pos loads
  listed_begins hw pos (Err part) = refl

  taken_begins : (from : ℕ) (role : Role) → begun_in (Loader.take_request v from role) ≡ []
  taken_begins from role = begun_if [] (is_fresh v from) _ _ (begun_if [] (has_port v) _ _ refl refl) refl

  read_begins : (from : ℕ) (name : List ℕ) (o : Options) (found : Option (List ℕ)) → begun_in (Loader.read_decision v from name o found) ≡ []
  read_begins from name o None = refl
  read_begins from name o (Some file) = taken_begins from (ServesRead name o file)

  write_begins : (s : Start) (from : ℕ) (name : List ℕ) (o : Options) (kind : Option FileKind) → begun_in (Loader.write_decision v s from name o kind) ≡ []
  write_begins s from name o None = refl
  write_begins s from name o (Some kind) = begun_if [] (bytes_eq name (file_name s.hw s.pos kind)) _ _ (taken_begins from (ServesWrite name o)) refl

  request_begins : (media : Media) (s : LoaderSession) (from : ℕ) (p : PacketView) → begun_in (Loader.request_decision media v s from p) ≡ []
  request_begins media s from (Rrq name o) = begun_if [] (serves_files s.row) _ _ (read_begins from name o (media.file name)) refl
  request_begins media s from (Wrq name o) = write_begins s.start from name o (kind_taken s.row)
  request_begins media s from (Data k b) = refl
  request_begins media s from (Ack k) = refl
  request_begins media s from (Error code m) = refl
  request_begins media s from (Oack o) = refl

  next_begins : (heard : List Move) (more : List ℕ) (role : Option Role) → begun_in (Loader.next_decision v heard more role) ≡ []
  next_begins heard more None = refl
  next_begins heard more (Some role) = begun_if [] (has_port v) _ _ refl refl

  turn_begins : (s : LoaderSession) (heard : List Move) (more : List ℕ) (turn : RowTurn) → begun_in (Loader.turn_decision v s heard more turn) ≡ []
  turn_begins s heard more Goes_on = next_begins heard more (Loader.row_request v.asks_size s.start (row_after s.row))
  turn_begins s heard more (Comes_to outcome) = refl

  answer_begins : (s : LoaderSession) (heard : List Move) (answer : Answer) → begun_in (Loader.answer_decision v s heard answer) ≡ []
  answer_begins s heard (TakesBlock payload) = refl
  answer_begins s heard (TakesLast payload) = turn_begins s heard payload (file_turn s.row (buffered_more s.arriving payload))
  answer_begins s heard Completes = turn_begins s heard [] Goes_on
  answer_begins s heard (Fails code) = turn_begins s heard [] (Comes_to (PeerError code))
  answer_begins s heard Dropped = refl
  answer_begins s heard Again = refl
  answer_begins s heard (Grants o) = refl
  answer_begins s heard Proceeds = refl

  session_begins : (media : Media) (live : Option LoaderSession) (from to : ℕ) (p : PacketView) → begun_in (Loader.session_decision media v live from to p) ≡ []
  session_begins media None from to p = begun_if [] (eqb to 59) _ _ refl refl
  session_begins media (Some s) from to p =
      begun_if [] (eqb to 59) _ _ (begun_if [] (is_busy v) _ _ refl (request_begins media s from p)) (answer_begins s (transfer_moves v from to p) (heard_answer v from to p))

  tick_begins : (live : Option LoaderSession) → begun_in (Loader.tick_decision v live) ≡ []
  tick_begins None = refl
  tick_begins (Some s) = begun_if [] (may_repeat v) _ _ refl refl

got_begins : (media : Media) (v : LoaderView) (from to : ℕ) (p : Option PacketView) → begun_in (Loader.got_decision media v from to p) ≡ []
got_begins media v from to None = refl
got_begins media v from to (Some p) = session_begins v.end media v.live from to p

pub decision_begins : (media : Media) (v : LoaderView) (e : Event) → begun_in (loader_decision media v e) ≡ started_by e
decision_begins media v (Starts_info hw pos) = start_begins v.end Info hw pos []
decision_begins media v (Starts_upload hw pos parts) = begun_if (Upload ∷ []) (nat_lt 32 (length parts)) _ _ refl (listed_begins v.end hw pos (wanted_of media.loads parts))
decision_begins media v (Gets from to bytes) = got_begins media v from to (packet_in bytes)
decision_begins media v Ticks = tick_begins v.end v.live
decision_begins media v (Learns size) = refl

-- ---- the law

pub one_session_a_start : OneSessionAStart
one_session_a_start media [] = refl
one_session_a_start media (e ∷ log) =
    let v = loader_view (loader_reading media log) in
    let d = loader_decision media v e in
    ap (λ (w : LoaderView). sessions_in w) (sym (loaders_follow media log e))
    ∙ (changed_kinds _ v d.change
    ∙ (ap (λ (kinds : List SessionKind). kinds ++ sessions_in v) (decision_begins media v e) ∙ ap (λ (kinds : List SessionKind). started_by e ++ kinds) (one_session_a_start media log)))
