-- Proofs that each log of a target keeps its session sound.
use Rattle.std.proofs.Common.{◌≡◌, ◌↔◌, inl, inr, ℕ, zero, suc, Bool, true, false, cond, eqb, List, [], ◌∷◌, ◌++◌, length, Option, Some, None, Result, Ok, Err, refl, sym, ap, subst, ◌∙◌, arith}
use Rattle.std.specs.Prelude.{nat_lt, ◌==◌}
use Rattle.std.specs.List.{AllByRecursion, concat}
use Rattle.std.proofs.lemmas.List.Folds.{concat-append}
use Rattle.std.specs.Result.{result_ok}
use Rattle.field_grammar.specs.Answers.{answer}
use Rattle.field_grammar.specs.Grammar.{IsBytes, IsDecided, Spelled}
use Rattle.load_base.specs.Config.{FileView}
use Rattle.disk_layout.specs.Holds.{StandingView}
use Rattle.tftp_packet.specs.declared.options.Options.{Options}
use Rattle.tftp_packet.specs.declared.fault.PacketFault.{PacketFault}
use Rattle.tftp_packet.proofs.PacketLemmas.{spelled_typed}
use Rattle.tftp_packet.specs.Packets.{Ack, Data, Error, IsTyped, Oack, PacketSpells, PacketView, Rrq, Wrq, packet}
use Rattle.tftp_link.specs.declared.phase.Phase.{Phase}
use Rattle.tftp_link.specs.declared.phase.Phase.TheVariants.{Waiting, Running, Finished, Failed}
use Rattle.tftp_link.specs.Answers.{Again, Answer, Completes, Dropped, Grants, Proceeds, TakesBlock, TakesLast, error_answer, lent_by}
use Rattle.tftp_link.specs.Receiver.{Receiver, data_answer, is_last_block, is_next_block, receiver_oack_answer, taken_answer}
use Rattle.tftp_link.specs.Sender.{Sender, ack_answer, awaited_answer, last_of, sender_oack_answer}
use Rattle.exchange_trace.specs.declared.trace.Side.TheVariants as sides
use Rattle.exchange_trace.specs.Logs.{Event, Gets, Learns, Starts_info, Starts_upload, Ticks}
use Rattle.transfer_end.proofs.AckLemmas.{past_all}
use Rattle.transfer_end.specs.Came.{AllCame, Came, CameFrom, PacketsCame}
use Rattle.transfer_end.proofs.CameLemmas.{all_mapped, moves_came}
use Rattle.transfer_end.specs.Laws.{IsLive}
use Rattle.transfer_end.specs.Moves.{Move}
use Rattle.transfer_end.specs.Packets.{packet_in}
use Rattle.transfer_end.specs.Readings.{Reading}
use Rattle.transfer_end.specs.Transfers.{LinkEnd, Receives, Role, Sends, Transfer, arrived_in, arrived_of, begin_of, end_after, end_answer, error_of, taken_from}
use Rattle.accept_rules.specs.Permissions.{Accepts, AcceptsPermitted}
use Rattle.session_rules.specs.declared.outcome.FileKind.{FileKind}
use Rattle.session_rules.specs.declared.outcome.FileKind.TheVariants.{Lci, Lui}
use Rattle.session_rules.specs.declared.reason.Reason.{Reason}
use Rattle.session_rules.proofs.BufferLemmas.{SumsJoin}
use Rattle.session_rules.proofs.HeardLemmas.{target_moves_heard, target_takes_what_came}
use Rattle.session_rules.specs.LoaderLog.{newest}
use Rattle.session_rules.specs.NewConfigs.{reads_in}
use Rattle.session_rules.specs.Roles.{HasRole, IsOfView, LiveFits, LiveReadsNothing}
use Rattle.session_rules.specs.Soundness.{IsSoundRow}
use Rattle.session_rules.proofs.SoundnessLemmas.{HeadersAreSpelled, read_is_spelled, verdict_is_sound}
use Rattle.session_rules.specs.SoundLogs.{IsSoundOrInstalled, IsSoundSession, LogIsBytes, SessionIsSound, SoundIn, StaysOrIsNew}
use Rattle.session_rules.specs.Target.{Begins, Continues, Ends, TargetChange, Turns, Turns_without_port, target_decision}
use Rattle.session_rules.proofs.TargetLemmas.{FitsChange, HasTurned, after, decision_fits, row_of_one, turned_row}
use Rattle.session_rules.specs.TargetLog.{TargetReading, TargetSessionLog, new_session, reading_turned, standing_in, target_extended, target_reading, target_reading_changed, target_view, with_done}
use Rattle.session_rules.specs.TargetRows.{Awaits_lur, Gives_denial, Gives_lci, Gives_lui, Over, Reads_file, RowMove, RowView, WholeRow, Writes_completion, Writes_lcl, Writes_lcs, Writes_progress, Writes_ready, Writes_stop, first_row, row_of, row_view, row_with}
use Rattle.session_rules.proofs.ViewLemmas.{target_live}

-- ---- what arrives are bytes

abbrev PayloadIsBytes : PacketView → Type 0
PayloadIsBytes (Data k payload) = IsBytes payload
PayloadIsBytes p = Unit {0}

-- Packets that are read from bytes have payloads of bytes.
abbrev pub PayloadsAreBytes : Type 0
PayloadsAreBytes = (bytes : List ℕ) (p : PacketView) → IsBytes bytes → packet_in bytes ≡ Some p → PayloadIsBytes p

typed_payload : (p : PacketView) → IsTyped p → PayloadIsBytes p
typed_payload (Data k payload) typed = typed.1
typed_payload (Ack k) typed = tt
typed_payload (Oack o) typed = tt
typed_payload (Error code message) typed = tt
typed_payload (Rrq name o) typed = tt
typed_payload (Wrq name o) typed = tt

read_as : (r : Result PacketView PacketFault) (p : PacketView) → result_ok r ≡ Some p → r ≡ Ok p
read_as (Ok x) p e = cc
read_as (Err fault) p e = absurd cc

answer_in : (bytes : List ℕ) (p : PacketView) → packet_in bytes ≡ Some p → answer packet bytes ≡ Ok p
unfolding packet_in
answer_in bytes p e = read_as (answer packet bytes) p e

-- which tftp_packet promises of its format (`packet_laws`)
pub payloads_are_bytes : ((bytes : List ℕ) → IsBytes bytes → IsDecided packet bytes) → ((p : PacketView) (bytes : List ℕ) → Spelled packet bytes p ↔ PacketSpells p bytes) → PayloadsAreBytes
payloads_are_bytes decided spells bytes p fit is =
    typed_payload p (spelled_typed p bytes ((spells p bytes).0 (read_is_spelled packet bytes p (decided bytes fit).one_or_other (answer_in bytes p is))))

bytes_append : (xs ys : List ℕ) → IsBytes xs → IsBytes ys → IsBytes (xs ++ ys)
bytes_append [] ys a b i = b i
bytes_append (x ∷ xs) ys a b zero = a 0
bytes_append (x ∷ xs) ys a b (suc i) = bytes_append xs ys (λ j. a (suc j)) b i

no_bytes : IsBytes []
no_bytes i = omega arith

abbrev LendsBytes : Answer → Type 0
LendsBytes answer = IsBytes (concat (lent_by answer))

one_payload : (payload : List ℕ) → IsBytes payload → IsBytes (concat (payload ∷ []))
one_payload payload fit = bytes_append payload [] fit no_bytes

lends_if : (b : Bool) (x y : Answer) → LendsBytes x → LendsBytes y → LendsBytes (cond b x y)
lends_if true x y p q = p
lends_if false x y p q = q

taken_lends : (r : Receiver) (payload : List ℕ) → IsBytes payload → LendsBytes (taken_answer r payload)
taken_lends r payload fit = lends_if (nat_lt (length payload) r.size) (TakesLast payload) (TakesBlock payload) (one_payload payload fit) (one_payload payload fit)

data_lends : (phase : Phase) (r : Receiver) (k : ℕ) (payload : List ℕ) → IsBytes payload → LendsBytes (data_answer phase r k payload)
data_lends Waiting r k payload fit = lends_if (is_next_block r k payload) (taken_answer r payload) Dropped (taken_lends r payload fit) no_bytes
data_lends Running r k payload fit =
    lends_if (is_next_block r k payload) (taken_answer r payload) (cond (is_last_block r k payload) Again Dropped) (taken_lends r payload fit) (lends_if (is_last_block r k payload) Again Dropped no_bytes no_bytes)
data_lends Finished r k payload fit = lends_if (is_last_block r k payload) Again Dropped no_bytes no_bytes
data_lends (Failed code) r k payload fit = no_bytes

oack_lends : (phase : Phase) (r : Receiver) (o : Options) → LendsBytes (receiver_oack_answer phase r o)
oack_lends Waiting r o = lends_if _ (Grants o) Dropped no_bytes no_bytes
oack_lends Running r o = lends_if _ Again Dropped no_bytes no_bytes
oack_lends Finished r o = no_bytes
oack_lends (Failed code) r o = no_bytes

error_lends : (phase : Phase) (code : ℕ) → LendsBytes (error_answer phase code)
error_lends Waiting code = no_bytes
error_lends Running code = no_bytes
error_lends Finished code = no_bytes
error_lends (Failed before) code = no_bytes

ack_lends : (phase : Phase) (s : Sender) (k : ℕ) → LendsBytes (ack_answer phase s k)
ack_lends Waiting s k = lends_if _ Proceeds Dropped no_bytes no_bytes
ack_lends Running s k = lends_if (k == s.sent) (awaited_answer s) Dropped (lends_if (s.sent == last_of s) Completes Proceeds no_bytes no_bytes) no_bytes
ack_lends Finished s k = no_bytes
ack_lends (Failed code) s k = no_bytes

granted_lends : (phase : Phase) (s : Sender) (o : Options) → LendsBytes (sender_oack_answer phase s o)
granted_lends Waiting s o = lends_if _ (Grants o) Dropped no_bytes no_bytes
granted_lends Running s o = no_bytes
granted_lends Finished s o = no_bytes
granted_lends (Failed code) s o = no_bytes

end_lends : (end : LinkEnd) (p : PacketView) → PayloadIsBytes p → LendsBytes (end_answer end p)
end_lends (Receives r) (Data k payload) fit = data_lends r.phase r k payload fit
end_lends (Receives r) (Oack o) fit = oack_lends r.phase r o
end_lends (Receives r) (Error code message) fit = error_lends r.phase code
end_lends (Receives r) (Ack k) fit = no_bytes
end_lends (Receives r) (Rrq name o) fit = no_bytes
end_lends (Receives r) (Wrq name o) fit = no_bytes
end_lends (Sends s) (Ack k) fit = ack_lends s.phase s k
end_lends (Sends s) (Oack o) fit = granted_lends s.phase s o
end_lends (Sends s) (Error code message) fit = error_lends s.phase code
end_lends (Sends s) (Data k payload) fit = no_bytes
end_lends (Sends s) (Rrq name o) fit = no_bytes
end_lends (Sends s) (Wrq name o) fit = no_bytes

taken_bytes : (end : LinkEnd) (got : List PacketView) → AllByRecursion PayloadIsBytes got → IsBytes (concat (taken_from end got))
taken_bytes end [] all = no_bytes
taken_bytes end (p ∷ got) (one, all) =
    subst IsBytes (sym (concat-append (lent_by (end_answer end p)) (taken_from (end_after end p) got)))
    (bytes_append (concat (lent_by (end_answer end p))) (concat (taken_from (end_after end p) got)) (end_lends end p one) (taken_bytes (end_after end p) got all))

arrived_bytes : (role : Role) (got : List PacketView) → AllByRecursion PayloadIsBytes got → IsBytes (arrived_in role got)
unfolding arrived_in
arrived_bytes role got all = taken_bytes (begin_of role) got all

module _ (payloads : PayloadsAreBytes) where
  came_bytes : (log : List Event) (from to : ℕ) (p : PacketView) → LogIsBytes log → Came log from to p → PayloadIsBytes p
  came_bytes [] from to p all h = absurd h
  came_bytes (Gets source target bytes ∷ log) from to p (fit, all) (inl (a, b, is)) = payloads bytes p fit is
  came_bytes (Ticks ∷ log) from to p all (inl h) = absurd h
  came_bytes (Learns size ∷ log) from to p all (inl h) = absurd h
  came_bytes (Starts_info hw pos ∷ log) from to p all (inl h) = absurd h
  came_bytes (Starts_upload hw pos parts ∷ log) from to p all (inl h) = absurd h
  came_bytes (e ∷ log) from to p (fit, all) (inr h) = came_bytes log from to p all h

  from_bytes : (log : List Event) (own : ℕ) (peer : Option ℕ) (p : PacketView) → LogIsBytes log → CameFrom log own peer p → PayloadIsBytes p
  from_bytes log own None p all h = absurd h
  from_bytes log own (Some peer) p all h = came_bytes log peer own p all h

  transfer_bytes : (log : List Event) (t : Transfer) → LogIsBytes log → AllCame log t → IsBytes (arrived_of t)
  transfer_bytes log t fit all =
      arrived_bytes t.role t.got (all_mapped (CameFrom log t.own t.peer) PayloadIsBytes (λ p h. from_bytes log t.own t.peer p fit h) t.got all)

  newest_came : (log : List Event) (past : List Transfer) (t : Transfer) → AllByRecursion (AllCame log) past → newest past ≡ t ∷ [] → AllCame log t
  newest_came log [] t all e = absurd cc
  newest_came log (x ∷ past) t (one, all) e = let same : x ≡ t = cc in subst (λ (y : Transfer). AllCame log y) same one

  pub newest_bytes : (log : List Event) (r : Reading) (t : Transfer) → LogIsBytes log → PacketsCame log r → newest r.past ≡ t ∷ [] → IsBytes (arrived_of t)
  newest_bytes log r t fit all e = transfer_bytes log t fit (newest_came log r.past t (past_all log r.past r.live all) e)

-- ---- rows

module _ (accepts : Accepts) (active : StandingView) where
  -- an ERROR makes nothing that could be unsound
  error_sound : (reads : List FileView) (row : WholeRow) (t : Transfer) (code : ℕ) → error_of t ≡ Some code → IsSoundRow accepts active reads (row_with accepts active row t)
  error_sound reads Gives_lci t code e = rw e tt
  error_sound reads Writes_lcs t code e = rw e tt
  error_sound reads Writes_lcl t code e = rw e tt
  error_sound reads Gives_lui t code e = rw e tt
  error_sound reads Gives_denial t code e = rw e tt
  error_sound reads Writes_ready t code e = rw e tt
  error_sound reads Awaits_lur t code e = rw e tt
  error_sound reads (Reads_file u) t code e = rw e tt
  error_sound reads (Writes_progress u) t code e = rw e tt
  error_sound reads (Writes_stop end) t code e = rw e tt
  error_sound reads (Writes_completion end loads) t code e = rw e tt
  error_sound reads Over t code e = rw e tt

  of_row : (row : RowView) (live : Option Transfer) (role : Role) → LiveFits row live → HasRole live role → IsOfView row role
  of_row row None role fits has = absurd has
  of_row row (Some t) role fits same = subst (λ (x : Role). IsOfView row x) same fits

  -- a row that was sound where it was judged is sound beside what is active after it
  as_active : (reads : List FileView) (row : WholeRow) → IsSoundRow accepts active reads row → IsSoundOrInstalled accepts (standing_in active row) reads row
  as_active reads Gives_lci s = s
  as_active reads Writes_lcs s = s
  as_active reads Writes_lcl s = s
  as_active reads Gives_lui s = s
  as_active reads Gives_denial s = s
  as_active reads Writes_ready s = s
  as_active reads Awaits_lur s = s
  as_active reads (Reads_file u) s = s
  as_active reads (Writes_progress u) s = s
  as_active reads (Writes_stop end) s = s
  as_active reads (Writes_completion end loads) s = tt
  as_active reads Over s = s

  module _ (joins : SumsJoin) (spells : HeadersAreSpelled) (permits : AcceptsPermitted accepts) where
    -- after an installation nothing more is judged
    passed_sound : (row : WholeRow) (done : List Transfer) (t : Transfer) → IsBytes (arrived_of t) → error_of t ≡ None → IsOfView (row_view row) t.role → IsSoundOrInstalled accepts active (reads_in done) row
        → IsSoundRow accepts active (reads_in (done ++ t ∷ [])) (row_with accepts active row t)
    passed_sound (Writes_completion end loads) done t fit e of s = rw e tt
    passed_sound Gives_lci done t fit e of s = verdict_is_sound joins spells accepts active Gives_lci done t permits fit e of s
    passed_sound Writes_lcs done t fit e of s = verdict_is_sound joins spells accepts active Writes_lcs done t permits fit e of s
    passed_sound Writes_lcl done t fit e of s = verdict_is_sound joins spells accepts active Writes_lcl done t permits fit e of s
    passed_sound Gives_lui done t fit e of s = verdict_is_sound joins spells accepts active Gives_lui done t permits fit e of s
    passed_sound Gives_denial done t fit e of s = verdict_is_sound joins spells accepts active Gives_denial done t permits fit e of s
    passed_sound Writes_ready done t fit e of s = verdict_is_sound joins spells accepts active Writes_ready done t permits fit e of s
    passed_sound Awaits_lur done t fit e of s = verdict_is_sound joins spells accepts active Awaits_lur done t permits fit e of s
    passed_sound (Reads_file u) done t fit e of s = verdict_is_sound joins spells accepts active (Reads_file u) done t permits fit e of s
    passed_sound (Writes_progress u) done t fit e of s = verdict_is_sound joins spells accepts active (Writes_progress u) done t permits fit e of s
    passed_sound (Writes_stop end) done t fit e of s = verdict_is_sound joins spells accepts active (Writes_stop end) done t permits fit e of s
    passed_sound Over done t fit e of s = verdict_is_sound joins spells accepts active Over done t permits fit e of s

    pub row_sound : (live : Option Transfer) (s : TargetSessionLog) (t : Transfer) → IsSoundSession accepts active live s → HasRole live t.role → IsBytes (arrived_of t)
        → IsSoundRow accepts active (reads_in (s.done ++ t ∷ [])) (row_of accepts active s.row (t ∷ []))
    row_sound live s t sound has fit =
        subst (λ (row : WholeRow). IsSoundRow accepts active (reads_in (s.done ++ t ∷ [])) row) (sym (row_of_one accepts active s.row t)) (by (error_of t) refl)
      where
        by : (error : Option ℕ) → error_of t ≡ error → IsSoundRow accepts active (reads_in (s.done ++ t ∷ [])) (row_with accepts active s.row t)
        by None e = passed_sound s.row s.done t fit e (of_row (row_view s.row) live t.role sound.role has) sound.row
        by (Some code) e = error_sound (reads_in (s.done ++ t ∷ [])) s.row t code e

-- ---- one event more

-- a session that begins
begins_sound : (accepts : Accepts) (active : StandingView) (kind : FileKind) (sequence : ℕ) → IsSoundRow accepts active [] (first_row kind sequence)
begins_sound accepts active Lci sequence = refl
begins_sound accepts active Lui sequence = by (eqb sequence 4294967295)
  where
    by : (b : Bool) → IsSoundRow accepts active [] (cond b Gives_denial Gives_lui)
    by true = refl
    by false = refl
begins_sound accepts active kind sequence = tt

begins_role : (kind : FileKind) (sequence : ℕ) (live : Option Transfer) → LiveReadsNothing live → LiveFits (row_view (first_row kind sequence)) live
begins_role kind sequence None none = tt
begins_role Lci sequence (Some t) none = none
begins_role Lui sequence (Some t) none = by (eqb sequence 4294967295)
  where
    by : (b : Bool) → LiveFits (row_view (cond b Gives_denial Gives_lui)) (Some t)
    by true = none
    by false = none
begins_role kind sequence (Some t) none = none

pub begins_active : (active : StandingView) (kind : FileKind) (sequence : ℕ) → standing_in active (first_row kind sequence) ≡ active
begins_active active Lci sequence = refl
begins_active active Lui sequence = by (eqb sequence 4294967295)
  where
    by : (b : Bool) → standing_in active (cond b Gives_denial Gives_lui) ≡ active
    by true = refl
    by false = refl
begins_active active kind sequence = refl

abbrev reading : Reading → Option TargetSessionLog → StandingView → Option Reason → TargetReading
reading end live active reason = record { end = end; live = live; active = active; reason = reason }

module _ (accepts : Accepts) where
  abbrev Outcome : TargetReading → TargetReading → Type 0
  Outcome before later = SessionIsSound accepts later × StaysOrIsNew accepts before later

  begun : (end then : Reading) (live : Option TargetSessionLog) (active : StandingView) (reason : Option Reason) (kind : FileKind) → LiveReadsNothing then.live
      → Outcome (reading end live active reason) (reading_turned then (reading end live active reason) (new_session kind active.sequence))
  begun end then live active reason kind none = (
    record {
      row = as_active accepts active [] (first_row kind active.sequence) (begins_sound accepts active kind active.sequence);
      role = begins_role kind active.sequence then.live none;
    },
    inl (begins_active active kind active.sequence),
  )

  -- what a row that was reached makes active
  installs : (end : Reading) (s : TargetSessionLog) (active : StandingView) (reason : Option Reason) (later : TargetReading) (t : Transfer) (row : WholeRow) → newest later.end.past ≡ t ∷ []
      → (with_done accepts active s (t ∷ [])).row ≡ row → later.active ≡ standing_in active row → IsSoundRow accepts active (reads_in (s.done ++ t ∷ [])) row
      → StaysOrIsNew accepts (reading end (Some s) active reason) later
  installs end s active reason later t (Writes_completion e loads) one at is sound =
      inr (record { session = s; live = refl; ended = t; is_newest = one; upload = e; loads = loads; good = at; new = sound; next = is })
  installs end s active reason later t Gives_lci one at is sound = inl is
  installs end s active reason later t Writes_lcs one at is sound = inl is
  installs end s active reason later t Writes_lcl one at is sound = inl is
  installs end s active reason later t Gives_lui one at is sound = inl is
  installs end s active reason later t Gives_denial one at is sound = inl is
  installs end s active reason later t Writes_ready one at is sound = inl is
  installs end s active reason later t Awaits_lur one at is sound = inl is
  installs end s active reason later t (Reads_file u) one at is sound = inl is
  installs end s active reason later t (Writes_progress u) one at is sound = inl is
  installs end s active reason later t (Writes_stop e) one at is sound = inl is
  installs end s active reason later t Over one at is sound = inl is

  module _ (joins : SumsJoin) (spells : HeadersAreSpelled) (permits : AcceptsPermitted accepts) where
    turn_sound : (active : StandingView) (end : Reading) (s : TargetSessionLog) (moves : List Move) (move : RowMove) (more : List ℕ) (h : HasTurned accepts active end s moves move more) → IsSoundSession accepts active end.live s → IsBytes (arrived_of h.ended)
        → IsSoundRow accepts active (reads_in (s.done ++ h.ended ∷ [])) (with_done accepts active s (h.ended ∷ [])).row
    turn_sound active end s moves move more h sound fit = row_sound accepts active joins spells permits end.live s h.ended sound h.was_live fit

    -- the row that the session comes to, and what is active then
    turn_installs : (end : Reading) (s : TargetSessionLog) (active : StandingView) (reason : Option Reason) (moves : List Move) (move : RowMove) (more : List ℕ) (h : HasTurned accepts active end s moves move more) (later : TargetReading)
        → later.end ≡ after end moves → later.active ≡ standing_in active (with_done accepts active s (newest (after end moves).past)).row
        → IsSoundRow accepts active (reads_in (s.done ++ h.ended ∷ [])) (with_done accepts active s (h.ended ∷ [])).row → StaysOrIsNew accepts (reading end (Some s) active reason) later
    turn_installs end s active reason moves move more h later same is sound =
        installs end s active reason later h.ended (with_done accepts active s (h.ended ∷ [])).row (ap (λ (x : Reading). newest x.past) same ∙ h.is_newest) refl
        (is ∙ ap (λ (ts : List Transfer). standing_in active (with_done accepts active s ts).row) h.is_newest) sound

    changed_sound : (end : Reading) (live : Option TargetSessionLog) (active : StandingView) (reason : Option Reason) (moves : List Move) (change : TargetChange) → FitsChange accepts active end live moves change
        → SoundIn accepts active end.live live → ((t : Transfer) → newest (after end moves).past ≡ t ∷ [] → IsBytes (arrived_of t))
        → Outcome (reading end live active reason) (target_reading_changed accepts (after end moves) (reading end live active reason) change)
    changed_sound end live active reason moves (Begins kind) fits sound bytes = begun end (after end moves) live active reason kind fits.1
    changed_sound end live active reason moves (Ends why) fits sound bytes = (tt, inl refl)
    changed_sound end None active reason moves (Continues more) fits sound bytes = (tt, inl refl)
    changed_sound end None active reason moves (Turns move more) fits sound bytes = (tt, inl refl)
    changed_sound end None active reason moves (Turns_without_port move more) fits sound bytes = (tt, inl refl)
    changed_sound end (Some s) active reason moves (Continues more) fits sound bytes = (record { row = sound.row; role = fits.1 sound.role }, inl refl)
    changed_sound end (Some s) active reason moves (Turns move more) (turn, none, role) sound bytes =
        let now = turn_sound active end s moves move more turn sound (bytes turn.ended turn.is_newest) in
        let then = with_done accepts active s (newest (after end moves).past) in (
          record {
            row = as_active accepts active (reads_in then.done) then.row (subst (λ (ts : List Transfer). IsSoundRow accepts active (reads_in (s.done ++ ts)) (with_done accepts active s ts).row) (sym turn.is_newest) now);
            role = subst (λ (row : RowView). LiveFits row (after end moves).live) (sym (turned_row joins accepts active s end moves move more turn)) role;
          },
          turn_installs end s active reason moves move more turn (target_reading_changed accepts (after end moves) (reading end (Some s) active reason) (Turns move more)) refl refl now,
        )
    changed_sound end (Some s) active reason moves (Turns_without_port move more) turn sound bytes = (
      tt,
      turn_installs end s active reason moves move more turn (target_reading_changed accepts (after end moves) (reading end (Some s) active reason) (Turns_without_port move more)) refl refl
          (turn_sound active end s moves move more turn sound (bytes turn.ended turn.is_newest)),
    )

    module _ (payloads : PayloadsAreBytes) where
      -- one event more, where all packets of the transfers came
      pub target_step_sound : (log : List Event) (r : TargetReading) (e : Event) → LogIsBytes (e ∷ log) → PacketsCame log r.end → IsLive r.end.live → SessionIsSound accepts r → Outcome r (target_extended accepts r e)
      target_step_sound log r e fit packets live sound =
          let d = target_decision accepts (target_view r) e in
          changed_sound r.end r.live r.active r.reason d.moves d.change (decision_fits joins accepts r e live) sound
          (λ t one. newest_bytes payloads (e ∷ log) (after r.end d.moves) t fit (moves_came sides.Target e log r.end d.moves (target_moves_heard accepts (target_view r) e) packets) one)

      target_sound : (first_port : ℕ) (active : StandingView) (log : List Event) → LogIsBytes log → SessionIsSound accepts (target_reading accepts first_port active log)
      target_sound first_port active [] fit = tt
      target_sound first_port active (e ∷ log) fit =
          (target_step_sound log (target_reading accepts first_port active log) e fit (target_takes_what_came accepts first_port active log).0 (target_live joins accepts first_port active log) (target_sound first_port active log fit.1)).0

      pub changes_by_verdict : (first_port : ℕ) (active : StandingView) (log : List Event) (e : Event) → LogIsBytes (e ∷ log)
          → StaysOrIsNew accepts (target_reading accepts first_port active log) (target_reading accepts first_port active (e ∷ log))
      changes_by_verdict first_port active log e fit =
          (target_step_sound log (target_reading accepts first_port active log) e fit (target_takes_what_came accepts first_port active log).0 (target_live joins accepts first_port active log) (target_sound first_port active log fit.1)).1
