-- The numbers of a transfer of the target that is over are small, where nothing is injected.
use Rattle.std.proofs.Common.{◌≡◌, ◌⊎◌, inl, inr, ⊎_elim, ℕ, ◌≤◌, Bool, true, false, cond, ◌&&◌, List, [], ◌∷◌, ◌++◌, length, Option, Some, None, refl, sym, ap, subst, ◌∙◌, arith}
use Rattle.std.specs.Prelude.{fold, nat_lt, ◌==◌}
use Rattle.std.proofs.lemmas.List.{length-map}
use Rattle.field_grammar.specs.Grammar.{IsBytes}
use Rattle.disk_layout.specs.declared.identity.Identity.{Identity}
use Rattle.disk_layout.specs.Contents.{entries_of, entry_of}
use Rattle.disk_layout.specs.Holds.{outline_of}
use Rattle.tftp_packet.specs.Packets.{Ack, Data, Error, Oack, PacketSpells, PacketView, Rrq, Wrq}
use Rattle.tftp_link.specs.declared.phase.Phase.{Phase}
use Rattle.tftp_link.specs.declared.phase.Phase.TheVariants.{Failed, Finished, Running, Waiting}
use Rattle.tftp_link.specs.Answers.{Again, Answer, Completes, Dropped, Fails, Grants, Proceeds, TakesBlock, TakesLast, code_of, error_answer, is_live}
use Rattle.tftp_link.specs.Negotiation.{fits_said, may_grant}
use Rattle.tftp_link.specs.Receiver.{Receiver, data_answer, is_last_block, is_next_block, receiver_after_all, receiver_answer, receiver_asking, receiver_oack_answer, taken_answer, were_granted}
use Rattle.tftp_link.specs.Sender.{Sender, ack_answer, awaited_answer, last_of, sender_answer, sender_oack_answer}
use Rattle.exchange_trace.specs.declared.trace.Side.TheVariants as sides
use Rattle.exchange_trace.specs.Logs.{Down, Event, Life, Up, event_for, target_life}
use Rattle.exchange_trace.specs.Posts.{posted_in}
use Rattle.exchange_trace.specs.Steps.{Step}
use Rattle.accept_rules.specs.Permissions.{AcceptsPermitted}
use Rattle.transfer_end.proofs.CameLemmas.{moves_came}
use Rattle.transfer_end.specs.Moves.{past_with}
use Rattle.transfer_end.proofs.OtherEndLemmas.{all_at, among_either, among_left}
use Rattle.transfer_end.specs.OtherEnds.{Among, AnswersRequest, BroughtFrom, ComesFromEnd, MovesStayFair, TellsLength, file_sent, is_asking, is_receiving, of_end, of_none}
use Rattle.transfer_end.specs.Readings.{Reading}
use Rattle.transfer_end.proofs.RfcLemmas.{end_is_of_link}
use Rattle.transfer_end.proofs.SentPacketLemmas.{read_is_spelled}
use Rattle.transfer_end.specs.Transfers.{LinkEnd, Reads, Receives, Role, Sends, ServesRead, ServesWrite, Transfer, Writes, arrived_of, begin_of, end_after, end_answer, end_in, end_moved, end_of, error_of, is_received, phase_of}
use Rattle.session_rules.proofs.BufferLemmas.{SumsJoin}
use Rattle.session_rules.specs.Fairness.{IsLoaderRole}
use Rattle.session_rules.proofs.HeardLemmas.{target_moves_heard}
use Rattle.session_rules.specs.MediaFiles.{Media}
use Rattle.session_rules.proofs.ReadFileLemmas.{RequestsAreSpelled, finished_of}
use Rattle.session_rules.specs.Roles.{HasRole, IsOfView, LiveFits, RoleReads}
use Rattle.session_rules.proofs.SoundLogLemmas.{PayloadsAreBytes, newest_bytes}
use Rattle.session_rules.specs.SoundLogs.{SoundIn}
use Rattle.session_rules.proofs.SoundnessLemmas.{HeadersAreSpelled}
use Rattle.session_rules.specs.Target.{target_decision}
use Rattle.session_rules.proofs.TargetLemmas.{HasTurned, after as after_moves, end_stays, seen_row}
use Rattle.session_rules.specs.TargetLog.{TargetReading, TargetSessionLog, target_extended, target_view}
use Rattle.session_rules.specs.TargetRows.{Awaits_lur, Gives_denial, Gives_lci, Gives_lui, Over, Reads_file, RowMove, RowView, Writes_completion, Writes_lcl, Writes_lcs, Writes_progress, Writes_ready, Writes_stop}
use Rattle.session_rules.specs.Uploads.{next_name}
use Rattle.replay_rules.specs.BothEnds.{Is_down, Is_up, Setting, TargetStanding, loader_at, reached, target_at}
use Rattle.replay_rules.proofs.CameTraceLemmas.{target_takes}
use Rattle.replay_rules.specs.CameTraces.{LifeTakesWhatCame}
use Rattle.replay_rules.specs.Causes.{BeginsSmall, HasFewLoads}
use Rattle.replay_rules.proofs.ChangeLemmas.{BringsBytes, HasTarget, TargetIsSound, changes_are_new, event_bytes, posted_bytes, target_sound}
use Rattle.replay_rules.specs.Histories.{active_in}
use Rattle.replay_rules.specs.MediaTraces.{LengthsAreTold}
use Rattle.replay_rules.specs.OtherEndTraces.{IsUninjected, WhatArrivesWasSent, former_at, loader_transfers, target_transfers, transfers_of}
use Rattle.replay_rules.proofs.AnsweredLater.{after, posted_then}
use Rattle.replay_rules.proofs.ListedTraces.{false_is_true, same_target}
use Rattle.replay_rules.proofs.Reasons.{HasText, ReadsLittle, UploadSmall, row_brings}
use Rattle.replay_rules.proofs.SentTraces.{TargetIsFair, loader_gives_media}
use Rattle.replay_rules.proofs.SessionRows.{BringsAt}
use Rattle.replay_rules.proofs.ShortTexts.{IsLittle}
use Rattle.replay_rules.proofs.SmallLoads.{HasSmallLoads, active_is_few}
use Rattle.replay_rules.proofs.StatusFiles.{AllWanted}

-- ---- a transfer fails by an ERROR alone

abbrev Never : Answer → Type 0
Never answer = (code : ℕ) → answer ≡ Fails code → ⊥

never_if : (b : Bool) (x y : Answer) → Never x → Never y → Never (cond b x y)
never_if true x y p q = p
never_if false x y p q = q

abbrev IsErrorOf : ℕ → PacketView → Type 0
IsErrorOf code (Error other message) = other ≡ code
IsErrorOf code packet = ⊥

error_fails : (phase : Phase) (other code : ℕ) → error_answer phase other ≡ Fails code → other ≡ code
error_fails Waiting other code e = cc
error_fails Running other code e = cc
error_fails Finished other code e = absurd cc
error_fails (Failed before) other code e = absurd cc

receiver_fails : (r : Receiver) (p : PacketView) (code : ℕ) → receiver_answer r p ≡ Fails code → IsErrorOf code p
receiver_fails r (Error other m) code e = error_fails r.phase other code e
receiver_fails r (Data k b) code e = absurd (by r.phase code e)
  where
    taken : Never (taken_answer r b)
    taken = never_if (nat_lt (length b) r.size) (TakesLast b) (TakesBlock b) (λ c f. cc) (λ c f. cc)

    by : (phase : Phase) → Never (data_answer phase r k b)
    by Waiting = never_if (is_next_block r k b) (taken_answer r b) Dropped taken (λ c f. cc)
    by Running = never_if (is_next_block r k b) (taken_answer r b) (cond (is_last_block r k b) Again Dropped) taken (never_if (is_last_block r k b) Again Dropped (λ c f. cc) (λ c f. cc))
    by Finished = never_if (is_last_block r k b) Again Dropped (λ c f. cc) (λ c f. cc)
    by (Failed before) = λ c f. cc
receiver_fails r (Oack o) code e = absurd (by r.phase code e)
  where
    by : (phase : Phase) → Never (receiver_oack_answer phase r o)
    by Waiting = never_if (may_grant r.asked o) (Grants o) Dropped (λ c f. cc) (λ c f. cc)
    by Running = never_if ((r.taken == 0) && were_granted r.granted o) Again Dropped (λ c f. cc) (λ c f. cc)
    by Finished = λ c f. cc
    by (Failed before) = λ c f. cc
receiver_fails r (Ack k) code e = absurd cc
receiver_fails r (Rrq name o) code e = absurd cc
receiver_fails r (Wrq name o) code e = absurd cc

sender_fails : (s : Sender) (p : PacketView) (code : ℕ) → sender_answer s p ≡ Fails code → IsErrorOf code p
sender_fails s (Error other m) code e = error_fails s.phase other code e
sender_fails s (Ack k) code e = absurd (by s.phase code e)
  where
    by : (phase : Phase) → Never (ack_answer phase s k)
    by Waiting = never_if (k == 0) Proceeds Dropped (λ c f. cc) (λ c f. cc)
    by Running = never_if (k == s.sent) (awaited_answer s) Dropped (never_if (s.sent == last_of s) Completes Proceeds (λ c f. cc) (λ c f. cc)) (λ c f. cc)
    by Finished = λ c f. cc
    by (Failed before) = λ c f. cc
sender_fails s (Oack o) code e = absurd (by s.phase code e)
  where
    by : (phase : Phase) → Never (sender_oack_answer phase s o)
    by Waiting = never_if (may_grant s.options o && fits_said (length s.file) o.blksize) (Grants o) Dropped (λ c f. cc) (λ c f. cc)
    by Running = λ c f. cc
    by Finished = λ c f. cc
    by (Failed before) = λ c f. cc
sender_fails s (Data k b) code e = absurd cc
sender_fails s (Rrq name o) code e = absurd cc
sender_fails s (Wrq name o) code e = absurd cc

end_fails : (end : LinkEnd) (p : PacketView) (code : ℕ) → end_answer end p ≡ Fails code → IsErrorOf code p
end_fails (Receives r) p code e = receiver_fails r p code e
end_fails (Sends s) p code e = sender_fails s p code e

-- its code then, or what it was
moved_code : (end : LinkEnd) (answer : Answer) (code : ℕ) → code_of (phase_of (end_moved end answer)) ≡ Some code → (code_of (phase_of end) ≡ Some code) ⊎ (answer ≡ Fails code)
moved_code (Receives r) (Fails other) code e = inr (let same : other ≡ code = cc in ap (λ (c : ℕ). Fails c) same)
moved_code (Sends s) (Fails other) code e = inr (let same : other ≡ code = cc in ap (λ (c : ℕ). Fails c) same)
moved_code (Receives r) (TakesLast b) code e = absurd cc
moved_code (Receives r) (Grants o) code e = absurd cc
moved_code (Receives r) (TakesBlock b) code e = absurd cc
moved_code (Receives r) Completes code e = inl e
moved_code (Receives r) Dropped code e = inl e
moved_code (Receives r) Again code e = inl e
moved_code (Receives r) Proceeds code e = inl e
moved_code (Sends s) (TakesLast b) code e = inl e
moved_code (Sends s) Completes code e = absurd cc
moved_code (Sends s) Dropped code e = inl e
moved_code (Sends s) Again code e = inl e
moved_code (Sends s) (Grants o) code e = absurd cc
moved_code (Sends s) (TakesBlock b) code e = inl e
moved_code (Sends s) Proceeds code e = absurd cc

-- an ERROR of this code came
pub record ErrorCame (code : ℕ) (got : List PacketView) : Type 0 where
  pub packet : PacketView
  pub among : Among packet got
  pub is : IsErrorOf code packet

failed_by : (end : LinkEnd) (got : List PacketView) (code : ℕ) → code_of (phase_of (fold end_after end got)) ≡ Some code → (code_of (phase_of end) ≡ Some code) ⊎ ErrorCame code got
failed_by end [] code e = inl e
failed_by end (p ∷ got) code e = by (failed_by (end_after end p) got code e)
  where
    by : (code_of (phase_of (end_after end p)) ≡ Some code) ⊎ ErrorCame code got → (code_of (phase_of end) ≡ Some code) ⊎ ErrorCame code (p ∷ got)
    by (inr h) = inr (record { packet = h.packet; among = inr h.among; is = h.is })
    by (inl f) = ⊎_elim (λ (x : code_of (phase_of end) ≡ Some code). inl x) (λ (x : end_answer end p ≡ Fails code). inr (record { packet = p; among = inl refl; is = end_fails end p code x })) (moved_code end (end_answer end p) code f)

begins_without : (role : Role) (code : ℕ) → code_of (phase_of (begin_of role)) ≡ Some code → ⊥
begins_without (Reads name o) code e = cc
begins_without (Writes name o file) code e = cc
begins_without (ServesRead name o file) code e = cc
begins_without (ServesWrite name o) code e = cc

error_came : (t : Transfer) (code : ℕ) → error_of t ≡ Some code → ErrorCame code t.got
unfolding end_of
error_came t code e = ⊎_elim (λ (x : code_of (phase_of (begin_of t.role)) ≡ Some code). absurd (begins_without t.role code x)) (λ (h : ErrorCame code t.got). h) (failed_by (begin_of t.role) t.got code e)

error_little : (p : PacketView) (code : ℕ) (bytes : List ℕ) → IsErrorOf code p → PacketSpells p bytes → IsLittle code
error_little (Error other m) code bytes is spells = let small = spells.number in omega (arith, is, small)
error_little (Data k b) code bytes is spells = absurd is
error_little (Ack k) code bytes is spells = absurd is
error_little (Oack o) code bytes is spells = absurd is
error_little (Rrq name o) code bytes is spells = absurd is
error_little (Wrq name o) code bytes is spells = absurd is

-- ---- a file that was read

read_role : (next : List ℕ) (role : Role) → RoleReads next role → (is_receiving role ≡ true) × (is_asking role ≡ true)
read_role next (Reads name o) is = (refl, refl)
read_role next (Writes name o file) is = absurd is
read_role next (ServesRead name o file) is = absurd is
read_role next (ServesWrite name o) is = absurd is

read_whole : (next : List ℕ) (role : Role) (got : List PacketView) → RoleReads next role → is_live (phase_of (end_of role got)) ≡ false → code_of (phase_of (end_of role got)) ≡ None → is_received (end_of role got) ≡ true
read_whole next (Reads name o) got reads over none =
    let end : end_of (Reads name o) got ≡ Receives (receiver_after_all (receiver_asking name o) got) = (end_is_of_link name [] o got).0 in
    ap is_received end ∙ finished_of (receiver_after_all (receiver_asking name o) got).phase (sym (ap (λ (x : LinkEnd). is_live (phase_of x)) end) ∙ over) (sym (ap (λ (x : LinkEnd). code_of (phase_of x)) end) ∙ none)
read_whole next (Writes name o file) got reads over none = absurd reads
read_whole next (ServesRead name o file) got reads over none = absurd reads
read_whole next (ServesWrite name o) got reads over none = absurd reads

-- what a loader gives is a file of the media set
given_little : (media : Media) (role : Role) (file arrived : List ℕ) → LengthsAreTold media → IsLoaderRole media role → is_asking role ≡ false → file_sent role ≡ Some file → (TellsLength role → arrived ≡ file) → IsLittle (length arrived)
given_little media (ServesRead name o f) file arrived told gives serves sent whole =
    let size : length f ≤ 4294967295 = told name f gives in
    let same : f ≡ file = cc in
    let is : length arrived ≡ length f = ap length (whole size ∙ sym same) in
    omega (arith, size, is)
given_little media (ServesWrite name o) file arrived told gives serves sent whole = absurd cc
given_little media (Reads name o) file arrived told gives serves sent whole = absurd cc
given_little media (Writes name o f) file arrived told gives serves sent whole = absurd cc

of_view : (row : RowView) (live : Option Transfer) (role : Role) → HasRole live role → LiveFits row live → IsOfView row role
of_view row None role was fits = absurd was
of_view row (Some t) role was fits = subst (λ (x : Role). IsOfView row x) was fits

-- ---- one step

module _ (joins : SumsJoin) (moves : MovesStayFair) (spells : HeadersAreSpelled) (payloads : PayloadsAreBytes) (requests : RequestsAreSpelled) (arrives : WhatArrivesWasSent) (set : Setting) (permits : AcceptsPermitted set.accepts) (told : LengthsAreTold set.media) (begins : BeginsSmall set.start) where
  module _ (s : Step) (earlier : List Step) (is : IsUninjected set (s ∷ earlier)) where
    module _ (r : TargetReading) (e : Event) (up : target_at set earlier ≡ Is_up r) (comes : event_for sides.Target (posted_in earlier) s.given ≡ Some e) (se : TargetSessionLog) (move : RowMove) (more : List ℕ)
        (h : HasTurned set.accepts r.active r.end se (target_decision set.accepts (target_view r) e).moves move more) where
      abbrev then : Reading
      then = after_moves r.end (target_decision set.accepts (target_view r) e).moves

      end_is : (target_extended set.accepts r e).end ≡ then
      end_is = let d = target_decision set.accepts (target_view r) e in end_stays set.accepts then r d.change

      there : Among h.ended (target_transfers set s earlier)
      there =
          subst (λ (x : Option Event). Among h.ended (transfers_of (reached set x (target_at set earlier)) ++ former_at set earlier)) (sym comes)
          (subst (λ (state : TargetStanding). Among h.ended (transfers_of (reached set (Some e) state) ++ former_at set earlier)) (sym up)
          (subst (λ (end : Reading). Among h.ended (past_with end.live end.past ++ former_at set earlier)) (sym end_is) (among_left h.ended (past_with then.live then.past) (former_at set earlier) (live_too then.live))))
        where
          in_past : Among h.ended then.past
          in_past = subst (λ (ts : List Transfer). Among h.ended ts) (sym h.past) (inl refl)

          live_too : (live : Option Transfer) → Among h.ended (past_with live then.past)
          live_too None = in_past
          live_too (Some t) = inr in_past

      code_little : (code : ℕ) → error_of h.ended ≡ Some code → IsLittle code
      code_little code f =
          let came : ErrorCame code h.ended.got = error_came h.ended code f in
          let fair : TargetIsFair (reached set (event_for sides.Target (posted_in earlier) s.given) (target_at set earlier)) (former_at set earlier) (loader_transfers set (s ∷ earlier)) (posted_then joins moves set s earlier is) = after joins moves set s earlier is in
          by came h.ended.peer (all_at (BroughtFrom (posted_then joins moves set s earlier is) sides.Loader h.ended.own h.ended.peer) h.ended.got came.packet (fair.one.got h.ended there) came.among)
        where
          by : (came : ErrorCame code h.ended.got) (peer : Option ℕ) → BroughtFrom (posted_then joins moves set s earlier is) sides.Loader h.ended.own peer came.packet → IsLittle code
          by came None brought = absurd brought
          by came (Some port) brought = error_little came.packet code brought.bytes came.is (read_is_spelled brought.bytes came.packet brought.are_bytes brought.spells)

      length_little : (next : List ℕ) → RoleReads next h.ended.role → error_of h.ended ≡ None → IsLittle (length (arrived_of h.ended))
      length_little next reads none = by ((arrives set (s ∷ earlier) is).0.at_target h.ended there (read_role next h.ended.role reads).0)
        where
          received : is_received (end_in h.ended) ≡ true
          received = read_whole next h.ended.role h.ended.got reads h.over none

          gives : (u : Transfer) → Among u (loader_transfers set (s ∷ earlier)) → IsLoaderRole set.media u.role
          gives u a = ⊎_elim (λ (b : Among u (past_with (loader_at set (s ∷ earlier)).end.live (loader_at set (s ∷ earlier)).end.past)).
              all_at (λ (t : Transfer). IsLoaderRole set.media t.role) _ u (loader_gives_media set (s ∷ earlier)) b) (λ (b : Among u []). absurd b) (among_either u _ [] a)

          by : ComesFromEnd (loader_transfers set (s ∷ earlier)) h.ended → IsLittle (length (arrived_of h.ended))
          by (of_none no_block not) = absurd (false_is_true (sym not ∙ received))
          by (of_end u b brings) = ⊎_elim (λ (request : AnswersRequest h.ended u). absurd (false_is_true (sym request.serves ∙ (read_role next h.ended.role reads).1)))
              (λ (request : AnswersRequest u h.ended). given_little set.media u.role brings.file (arrived_of h.ended) told (gives u b) request.serves brings.sent (λ tells. brings.whole tells received)) brings.ends.request

      row_little : (row : RowView) → IsOfView row h.ended.role → error_of h.ended ≡ None → ReadsLittle (arrived_of h.ended) row
      row_little (Reads_file u) role none = length_little (next_name u) role none
      row_little Gives_lci role none = tt
      row_little Writes_lcs role none = tt
      row_little Writes_lcl role none = tt
      row_little Gives_lui role none = tt
      row_little Gives_denial role none = tt
      row_little Writes_ready role none = tt
      row_little Awaits_lur role none = tt
      row_little (Writes_progress u) role none = tt
      row_little (Writes_stop e) role none = tt
      row_little (Writes_completion e loads) role none = tt
      row_little Over role none = tt

    bank_little : BeginsSmall set.start → IsLittle set.start.identity.bank
    bank_little small = let bank = small.bank in omega (arith, bank)

    brings_now : (life : Life) (state : TargetStanding) (e : Option Event) → target_at set earlier ≡ state → event_for sides.Target (posted_in earlier) s.given ≡ e → BringsBytes e → LifeTakesWhatCame life state → TargetIsSound set life state → BringsAt AllWanted UploadSmall HasText HasSmallLoads set state e
    brings_now (Up first_port log) (Is_up r) (Some e) up comes now (packets, blocks, last) (fit, sound) = λ se live move more h fits small.
        (let d = target_decision set.accepts (target_view r) e in
        let bank_now : IsLittle r.active.identity.bank = subst (λ (id : Identity). IsLittle id.bank) (sym (subst (λ (state : TargetStanding). HasTarget set state) up (same_target set earlier))) (bank_little begins) in
        let few : HasFewLoads r.active = subst (λ (state : TargetStanding). HasFewLoads (active_in state)) up (active_is_few set begins earlier (changes_are_new joins spells payloads set earlier permits is.carries.1)) in
        let count : length (entries_of r.active.loads) ≡ length r.active.loads = length-map r.active.loads entry_of in
        let bytes : IsBytes (arrived_of h.ended) = newest_bytes payloads (e ∷ log) (after_moves r.end d.moves) h.ended (now, fit) (moves_came sides.Target e log r.end d.moves (target_moves_heard set.accepts (target_view r) e) packets) h.is_newest in
        row_brings spells requests set.accepts (outline_of r.active) bank_now small (omega (arith, few, count)) (arrived_of h.ended) bytes (seen_row se) (error_of h.ended) (code_little r e up comes se move more h)
        (row_little r e up comes se move more h (seen_row se) (of_view (seen_row se) r.end.live h.ended.role h.was_live (live_fits se (subst (λ (x : Option TargetSessionLog). SoundIn set.accepts r.active r.end.live x) live sound)))) fits)
      where
        live_fits : (se : TargetSessionLog) → SoundIn set.accepts r.active r.end.live (Some se) → LiveFits (seen_row se) r.end.live
        live_fits se sound = sound.role
    brings_now (Up first_port log) (Is_up r) None up comes now takes sound = tt
    brings_now (Up first_port log) (Is_down active interrupted) e up comes now takes sound = absurd takes
    brings_now Down (Is_up r) e up comes now takes sound = absurd takes
    brings_now Down (Is_down active interrupted) None up comes now takes sound = tt
    brings_now Down (Is_down active interrupted) (Some e) up comes now takes sound = tt

    pub brings_at : BringsAt AllWanted UploadSmall HasText HasSmallLoads set (target_at set earlier) (event_for sides.Target (posted_in earlier) s.given)
    brings_at =
        brings_now (target_life earlier) (target_at set earlier) (event_for sides.Target (posted_in earlier) s.given) refl refl (event_bytes (posted_in earlier) s.given (posted_bytes earlier is.carries.1) is.carries.0.1) (target_takes set earlier)
        (target_sound joins spells payloads set permits earlier is.carries.1)
