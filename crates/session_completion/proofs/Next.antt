-- Each delivery brings a clean upload to its next stage.
use Rattle.std.proofs.Common.{◌≡◌, ℕ, zero, suc, ◌+◌, ◌*◌, ◌<◌, ◌≤◌, true, false, List, [], ◌∷◌, ◌++◌, length, Option, Some, None, refl, sym, ap, subst, ◌∙◌, arith, append-nil, inl, inr}
use Rattle.std.specs.Prelude.{◌==◌}
use Rattle.disk_layout.specs.Holds.{Outline, outline_of}
use Rattle.load_base.specs.Config.{LoadView}
use Rattle.load_base.specs.Name.{IsName}
use Rattle.load_protocol_files.specs.declared.lur.Wanted.{Wanted}
use Rattle.exchange_trace.specs.declared.trace.Side.{Side}
use Rattle.exchange_trace.specs.declared.trace.Side.TheVariants as sides
use Rattle.exchange_trace.specs.Happenings.{DatagramView}
use Rattle.exchange_trace.specs.Logs.{Event, Gets}
use Rattle.tftp_packet.specs.declared.options.Options.{Options}
use Rattle.tftp_packet.specs.Packets.{PacketView, Ack, Rrq, Wrq, packet_bytes}
use Rattle.tftp_link.specs.Answers.{Answer, Dropped, Again, Grants, TakesBlock, TakesLast, Proceeds, Completes, Fails}
use Rattle.tftp_link.specs.Receiver.{Receiver, receiver_answer, receiver_asking, receiver_moved, receiver_packet, receiver_serving}
use Rattle.tftp_link.specs.Sender.{Sender, sender_answer, sender_asking, sender_moved, sender_packet, sender_serving}
use Rattle.transfer_end.specs.Moves.{Hears, Serves, Stops, datagram, request, views_after}
use Rattle.transfer_end.specs.Packets.{has_port, is_fresh, packet_in, wanted_options, answer_of, belongs}
use Rattle.transfer_end.specs.Transfers.{LinkEnd, Reads, Receives, Role, Sends, ServesRead, ServesWrite, Writes, end_answer, end_moved, end_packet, first_packet}
use Rattle.transfer_end.specs.Views.{EndView}
use Rattle.session_rules.specs.declared.outcome.FileKind.TheVariants.{Lui, Lur, Lus}
use Rattle.session_rules.specs.Buffers.{buffered, buffered_more}
use Rattle.session_rules.proofs.BufferLemmas.{SumsJoin, buffered_on}
use Rattle.session_rules.specs.FileNames.{file_name}
use Rattle.session_rules.specs.Loader as loader
use Rattle.session_rules.specs.Loader.{LoaderSession, LoaderView, loader_after}
use Rattle.session_rules.specs.LoaderRows.{kind_taken, serves_files, Goes_on, file_turn, row_after}
use Rattle.session_rules.proofs.KeptLemmas.{installed_same}
use Rattle.session_rules.specs.Target as target
use Rattle.session_rules.specs.Target.{TargetSession, TargetView, active_in, outline_after, own_name, target_after}
use Rattle.session_rules.specs.TargetRows.{RowView, Gives_lci, Writes_lcs, Writes_lcl, Gives_lui, Gives_denial, Writes_ready, Awaits_lur, Reads_file, Writes_progress, Writes_stop, Writes_completion, Over}
use Rattle.replay_rules.specs.BothEnds.{Setting}
use Rattle.transfer_completion.proofs.BlockLemmas.{eq_false, lt_true, take_none, eq_true}
use Rattle.transfer_completion.specs.Laws.{GoesOnAtReceiver, GoesOnAtSender, TookLastBlock, MovesReceiver, MovesSender}
use Rattle.transfer_completion.specs.Positions.{HasAsked, IsBehind, IsIn, IsEndRunning, Position, Rests, StandsIn}
use Rattle.transfer_completion.specs.Steps.{IsGoing}
use Rattle.transfer_completion.proofs.TalkLemmas.{reading_begins, requests_are_read, taken_is_small, writing_begins, finished_is_whole}
use Rattle.transfer_completion.specs.Talks.{Talk, left_down, left_up, taken_of}
use Rattle.session_completion.specs.Course.{Course, IsFine, IsInUpload, IsLater, IsStep, asker, cost, cost_behind, file_in, loader_row, next_row, own_file_name, role_in, sender_in, IsAfterRequest, arrives_in}
use Rattle.session_completion.specs.Requests.{is_own_file}
use Rattle.session_completion.specs.Stages.{CameInCourse, HasRoom, HoldsReceiver, HoldsSender, InRow, KeepsWhole, LoaderIsDone, Meets, Opposite, TargetBefore, Where, as_request, asked, closing, down, early, end_at, ending, here, loader_session, may_ask, over, target_session, to_loader, to_target, up}
use Rattle.session_completion.specs.Worlds.{World, delivered_to, waits}
use Rattle.session_completion.proofs.Holding.{Holds, answers_so, goes, holds_receiver, holds_sender, is_mine, next_port, takes_last}
use Rattle.session_completion.proofs.LoaderSteps as at_loader
use Rattle.session_completion.proofs.LoaderSteps.{loader_is, loader_reaches, payload_of, loader_end_is}
use Rattle.session_completion.proofs.TargetSteps as at_target
use Rattle.session_completion.proofs.TargetSteps.{target_is, target_reaches, move_for, row_for, target_end_is}
use Rattle.session_completion.proofs.Moved.{Moved, begins_to_serve, serves_now, TookLast, hears_done, then_asks, then_stops}
use Rattle.session_completion.proofs.Reacts.{IsAfter, Reacts, Resets, after_binding, after_packet, after_serving, loader_reacts, meets_flipped, meets_next, other_row, target_reacts, after_asking, after_end}
use Rattle.session_completion.proofs.Rows.{active_identity, active_stays, loader_goes_on, lui_is_not_lci, target_asks, target_goes_on, turns_to}
use Rattle.tftp_link.specs.declared.phase.Phase.{Phase}
use Rattle.tftp_link.specs.declared.phase.Phase.TheVariants.{Running, Waiting}
use Rattle.transfer_completion.specs.Replies.{acknowledges}
use Rattle.transfer_completion.proofs.StaleLemmas.{ack_acknowledges}
use Rattle.std.proofs.Math.Seq.{take-nil}
use Rattle.transfer_end.proofs.SentPacketLemmas.{written_is_read}

fresh_for : (side : Side) (posts : List DatagramView) (own peer i : ℕ) (v : EndView) → StandsIn side posts own peer i Rests v → is_fresh v (peer + i) ≡ true
fresh_for side posts own peer i v stands = lt_true v.mark (peer + i) stands.mark.none

room_for : (side : Side) (posts : List DatagramView) (own peer i more : ℕ) (v : EndView) → StandsIn side posts own peer i Rests v → own + i + (more + 1) ≤ 65536 → has_port v ≡ true
room_for side posts own peer i more v stands room = let e = stands.port in lt_true v.next_port 65536 (omega arith)

not_59 : (own i : ℕ) → 59 < own → (own + i == 59) ≡ false
not_59 own i low = eq_false (own + i) 59 (λ e. absurd (omega arith))

module _ (set : Setting) (wanted : List Wanted) (loads : List LoadView) (joins : SumsJoin) (sequence : set.start.sequence < 4294967295) where
  -- what a delivery leads to: the next stage, with a smaller budget; and that the datagram was awaited
  pub record Leads (n : ℕ) (c : World) (budget : ℕ) (poster : Side) (e : Event) : Type 0 where
    pub left : ℕ
    pub fewer : left < budget
    pub stage : Where set wanted loads (n + 1) (delivered_to set c poster e) left
    pub resets : Resets set c poster e

  -- ---- sessions

  row_identity : (v : TargetView) (row : RowView) → v.active ≡ active_in (outline_of set.start) row → v.active.identity ≡ set.start.identity
  row_identity v row e = ap (λ (x : Outline). x.identity) e ∙ active_identity (outline_of set.start) row

  before_row : (c : World) (row : RowView) → IsLater row → TargetBefore set c.target row → InRow set wanted c sides.Target row []
  before_row c Writes_ready later h = h
  before_row c Awaits_lur later h = h
  before_row c (Reads_file u) later h = h
  before_row c (Writes_progress u) later h = h
  before_row c (Writes_completion e l) later h = h
  before_row c Gives_lui later h = absurd later
  before_row c Gives_lci later h = absurd later
  before_row c Writes_lcs later h = absurd later
  before_row c Writes_lcl later h = absurd later
  before_row c Gives_denial later h = absurd later
  before_row c (Writes_stop e) later h = absurd later
  before_row c Over later h = absurd later

  pub row_before : (c : World) (row : RowView) → IsLater row → InRow set wanted c sides.Target row [] → TargetBefore set c.target row
  row_before c Writes_ready later h = h
  row_before c Awaits_lur later h = h
  row_before c (Reads_file u) later h = h
  row_before c (Writes_progress u) later h = h
  row_before c (Writes_completion e l) later h = h
  row_before c Gives_lui later h = absurd later
  row_before c Gives_lci later h = absurd later
  row_before c Writes_lcs later h = absurd later
  row_before c Writes_lcl later h = absurd later
  row_before c Gives_denial later h = absurd later
  row_before c (Writes_stop e) later h = absurd later
  row_before c Over later h = absurd later

  -- a row of a course is a fine one
  pub fine_of : (more : ℕ) (row : RowView) → Course set wanted loads more row → IsFine set wanted row
  fine_of zero (Writes_completion e entries) h = h.0
  fine_of zero Gives_lui h = absurd h
  fine_of zero Writes_ready h = absurd h
  fine_of zero Awaits_lur h = absurd h
  fine_of zero (Reads_file u) h = absurd h
  fine_of zero (Writes_progress u) h = absurd h
  fine_of zero Gives_lci h = absurd h
  fine_of zero Writes_lcs h = absurd h
  fine_of zero Writes_lcl h = absurd h
  fine_of zero Gives_denial h = absurd h
  fine_of zero (Writes_stop e) h = absurd h
  fine_of zero Over h = absurd h
  fine_of (suc more) row h = h.0.fine

  -- and one of an upload
  goes_in : (row : RowView) (file : List ℕ) → Rattle.session_completion.specs.Course.LoaderReadsOn row file → IsInUpload row
  goes_in Gives_lui file h = tt
  goes_in Writes_ready file h = tt
  goes_in Awaits_lur file h = tt
  goes_in (Reads_file u) file h = tt
  goes_in (Writes_progress u) file h = tt
  goes_in (Writes_completion e l) file h = tt
  goes_in Gives_lci file h = h
  goes_in Writes_lcs file h = h
  goes_in Writes_lcl file h = h
  goes_in Gives_denial file h = h
  goes_in (Writes_stop e) file h = h
  goes_in Over file h = h

  pub in_course : (more : ℕ) (row : RowView) → Course set wanted loads more row → IsInUpload row
  in_course zero (Writes_completion e entries) h = tt
  in_course zero Gives_lui h = absurd h
  in_course zero Writes_ready h = absurd h
  in_course zero Awaits_lur h = absurd h
  in_course zero (Reads_file u) h = absurd h
  in_course zero (Writes_progress u) h = absurd h
  in_course zero Gives_lci h = h
  in_course zero Writes_lcs h = h
  in_course zero Writes_lcl h = h
  in_course zero Gives_denial h = h
  in_course zero (Writes_stop e) h = h
  in_course zero Over h = h
  in_course (suc more) row h = goes_in row (file_in set wanted row) h.0.goes_on

  cost_is : (more : ℕ) (row : RowView) → cost set wanted more row ≡ cost_behind set wanted more row + (2 * length (file_in set wanted row) + 6)
  cost_is zero row = omega arith
  cost_is (suc more) row = refl

  -- ---- a transfer begins

  room_flipped : (own peer i ports : ℕ) → HasRoom own peer i ports → HasRoom peer own i ports
  room_flipped own peer i ports room = record { own_ports = room.peer_ports; peer_ports = room.own_ports }

  begins_reading : (n : ℕ) (c : World) (getter poster : Side) (own peer i : ℕ) (before : List DatagramView) (more : ℕ) (row : RowView) (told : Option ℕ) (name : List ℕ)
      → Meets set n c getter poster own peer i i Rests (HasAsked (Reads name (wanted_options told 0))) before (request poster (peer + i) (Reads name (wanted_options told 0)) ∷ [])
      → HasRoom own peer i (more + 1) → Course set wanted loads more row → sender_in row ≡ getter → IsName name → may_ask set getter (Rrq name (wanted_options told 0)) ≡ true
      → Reacts set c getter poster (Gets (peer + i) 59 (packet_bytes (Rrq name (wanted_options told 0)))) own peer i (IsIn (Sends (sender_serving (file_in set wanted row) (wanted_options told 0))))
      (datagram getter (own + i) (peer + i) (sender_packet (sender_serving (file_in set wanted row) (wanted_options told 0))) ∷ [])
      → (delivered_to set c poster (Gets (peer + i) 59 (packet_bytes (Rrq name (wanted_options told 0))))).target.active.identity ≡ set.start.identity
      → InRow set wanted (delivered_to set c poster (Gets (peer + i) 59 (packet_bytes (Rrq name (wanted_options told 0))))) getter row []
      → InRow set wanted (delivered_to set c poster (Gets (peer + i) 59 (packet_bytes (Rrq name (wanted_options told 0))))) poster row []
      → Leads n c (cost set wanted more row) poster (Gets (peer + i) 59 (packet_bytes (Rrq name (wanted_options told 0))))
  begins_reading n c getter poster own peer i before more row told name m room course sends named may r id mine yours =
      let file = file_in set wanted row in
      let options = wanted_options told 0 in
      let fine = fine_of more row course in
      let d = request poster (peer + i) (Reads name options) in
      let e = Gets (peer + i) 59 (packet_bytes (Rrq name options)) in
      let talk = reading_begins name file told fine.fits in
      let came : CameInCourse (may_ask set getter) own peer i (IsIn (Sends (sender_serving file options))) d = as_request i (Rrq name options) (requests_are_read name file told named fine.fits).0 may (omega arith) refl refl in
      let next = meets_next set n c getter poster own peer i i i Rests (HasAsked (Reads name options)) (IsIn (Sends (sender_serving file options))) before [] (datagram getter (own + i) (peer + i) (sender_packet (sender_serving file options)) ∷ []) (peer + i) 59 (packet_bytes (Rrq name options))
      m (after_serving i (Sends (sender_serving file options))) came r id in
      let same = cost_is more row in
      let few = talk.1 in
      record {
        left = cost_behind set wanted more row + left_down file (receiver_asking name options) (sender_packet (sender_serving file options)) + 1;
        fewer = omega arith;
        stage = down poster getter peer own i (HasAsked (Reads name options)) (IsIn (Sends (sender_serving file options))) (before ++ d ∷ []) more row (sender_serving file options) (receiver_asking name options) (sender_packet (sender_serving file options))
            (meets_flipped set (n + 1) (delivered_to set c poster e) getter poster own peer i i (IsIn (Sends (sender_serving file options))) (HasAsked (Reads name options)) (before ++ d ∷ []) (datagram getter (own + i) (peer + i) (sender_packet (sender_serving file options)) ∷ []) next)
            (room_flipped own peer i (more + 1) room) course sends talk.0 (inr (name, options, refl, refl)) (refl, refl)
            (subst (λ (bytes : List ℕ). InRow set wanted (delivered_to set c poster e) poster row bytes) (sym (take_none file 512)) yours) mine;
        resets = r.resets;
      }

  begins_writing : (n : ℕ) (c : World) (getter poster : Side) (own peer i : ℕ) (before : List DatagramView) (more : ℕ) (row : RowView) (told : Option ℕ) (name : List ℕ) (options : Options)
      → options ≡ (sender_asking name (file_in set wanted row) (wanted_options told (length (file_in set wanted row)))).options
      → Meets set n c getter poster own peer i i Rests (HasAsked (Writes name (wanted_options told (length (file_in set wanted row))) (file_in set wanted row))) before
      (request poster (peer + i) (Writes name (wanted_options told (length (file_in set wanted row))) (file_in set wanted row)) ∷ [])
      → HasRoom own peer i (more + 1) → Course set wanted loads more row → sender_in row ≡ poster → IsName name → may_ask set getter (Wrq name options) ≡ true
      → Reacts set c getter poster (Gets (peer + i) 59 (packet_bytes (Wrq name (sender_asking name (file_in set wanted row) (wanted_options told (length (file_in set wanted row)))).options))) own peer i (IsIn (Receives (receiver_serving options)))
      (datagram getter (own + i) (peer + i) (receiver_packet (receiver_serving options)) ∷ [])
      → (delivered_to set c poster (Gets (peer + i) 59 (packet_bytes (Wrq name (sender_asking name (file_in set wanted row) (wanted_options told (length (file_in set wanted row)))).options)))).target.active.identity ≡ set.start.identity
      → InRow set wanted (delivered_to set c poster (Gets (peer + i) 59 (packet_bytes (Wrq name (sender_asking name (file_in set wanted row) (wanted_options told (length (file_in set wanted row)))).options)))) getter row []
      → InRow set wanted (delivered_to set c poster (Gets (peer + i) 59 (packet_bytes (Wrq name (sender_asking name (file_in set wanted row) (wanted_options told (length (file_in set wanted row)))).options)))) poster row []
      → Leads n c (cost set wanted more row) poster (Gets (peer + i) 59 (packet_bytes (Wrq name (sender_asking name (file_in set wanted row) (wanted_options told (length (file_in set wanted row)))).options)))
  begins_writing n c getter poster own peer i before more row told name options is_options m room course sends named may r id mine yours =
      let file = file_in set wanted row in
      let wanted_so = wanted_options told (length file) in
      let s = sender_asking name file wanted_so in
      let fine = fine_of more row course in
      let d = request poster (peer + i) (Writes name wanted_so file) in
      let e = Gets (peer + i) 59 (packet_bytes (Wrq name s.options)) in
      let talk : Talk file s (receiver_serving options) false (receiver_packet (receiver_serving options)) × (left_up file (receiver_serving options) < 2 * length file + 5) =
      subst (λ (x : Options). Talk file s (receiver_serving x) false (receiver_packet (receiver_serving x)) × (left_up file (receiver_serving x) < 2 * length file + 5)) (sym is_options) (writing_begins name file told fine.fits) in
      let came : CameInCourse (may_ask set getter) own peer i (IsIn (Receives (receiver_serving options))) d =
      as_request i (Wrq name s.options) (requests_are_read name file told named fine.fits).1 (ap (λ (x : Options). may_ask set getter (Wrq name x)) (sym is_options) ∙ may) (omega arith) refl refl in
      let next = meets_next set n c getter poster own peer i i i Rests (HasAsked (Writes name wanted_so file)) (IsIn (Receives (receiver_serving options))) before [] (datagram getter (own + i) (peer + i) (receiver_packet (receiver_serving options)) ∷ []) (peer + i) 59 (packet_bytes (Wrq name s.options))
      m (after_serving i (Receives (receiver_serving options))) came r id in
      let same = cost_is more row in
      let few = talk.1 in
      record {
        left = cost_behind set wanted more row + left_up file (receiver_serving options) + 1;
        fewer = omega arith;
        stage = up poster getter peer own i (HasAsked (Writes name wanted_so file)) (IsIn (Receives (receiver_serving options))) (before ++ d ∷ []) more row s (receiver_serving options) (receiver_packet (receiver_serving options))
            (meets_flipped set (n + 1) (delivered_to set c poster e) getter poster own peer i i (IsIn (Receives (receiver_serving options))) (HasAsked (Writes name wanted_so file)) (before ++ d ∷ []) (datagram getter (own + i) (peer + i) (receiver_packet (receiver_serving options)) ∷ []) next)
            (room_flipped own peer i (more + 1) room) course sends talk.0 (inr (name, wanted_so, file, refl, refl)) (refl, refl) yours
            (subst (λ (bytes : List ℕ). InRow set wanted (delivered_to set c poster e) getter row bytes) (sym (take_none file (receiver_serving options).size)) mine);
        resets = r.resets;
      }

  -- ---- a request is taken

  -- the loader goes on with its session
  loader_row_then : (c : World) (e : Event) (moves : List Rattle.transfer_end.specs.Moves.Move) (first more : List ℕ) (row : RowView) → loader.loader_decision set.media c.loader e ≡ record { moves = moves; change = loader.Continues more }
      → c.loader.live ≡ Some (loader_session set wanted row first) → (loader_after set.media c.loader e).live ≡ Some (loader_session set wanted row (first ++ more))
  loader_row_then c e moves first more row is live =
      ap (λ (v : LoaderView). v.live) (loader_is set.media c.loader e moves (loader.Continues more) is) ∙ loader_goes_on set wanted row first more c.loader.live live

  -- and the target with its
  target_row_then : (c : World) (e : Event) (moves : List Rattle.transfer_end.specs.Moves.Move) (first more : List ℕ) (row : RowView) → Rattle.session_completion.specs.Course.IsSummed row
      → target.target_decision set.accepts c.target e ≡ record { moves = moves; change = target.Continues more }
      → InRow set wanted c sides.Target row first
      → ((target_after set.accepts c.target e).live ≡ Some (target_session row (first ++ more))) × ((target_after set.accepts c.target e).active ≡ active_in (outline_of set.start) row)
  target_row_then c e moves first more row summed is h =
      let after = target_is set.accepts c.target e moves (target.Continues more) is in (
        ap (λ (v : TargetView). v.live) after ∙ target_goes_on joins row first more c.target.live summed h.0,
        ap (λ (v : TargetView). v.active) after ∙ h.1,
      )

  loader_takes_write : (n : ℕ) (c : World) (own peer i : ℕ) (before : List DatagramView) (more : ℕ) (row : RowView) (told : Option ℕ)
      → Meets set n c sides.Loader sides.Target own peer i i Rests (HasAsked (Writes (own_file_name set Lus) (wanted_options told (length (file_in set wanted row))) (file_in set wanted row))) before
      (request sides.Target (peer + i) (Writes (own_file_name set Lus) (wanted_options told (length (file_in set wanted row))) (file_in set wanted row)) ∷ [])
      → HasRoom own peer i (more + 1) → Course set wanted loads more row → sender_in row ≡ sides.Target → IsName (own_file_name set Lus) → kind_taken (loader_row row) ≡ Some Lus
      → InRow set wanted c sides.Loader row [] → InRow set wanted c sides.Target row []
      → Leads n c (cost set wanted more row) sides.Target (Gets (peer + i) 59 (packet_bytes (Wrq (own_file_name set Lus) (sender_asking (own_file_name set Lus) (file_in set wanted row) (wanted_options told (length (file_in set wanted row)))).options)))
  loader_takes_write n c own peer i before more row told m room course sends named kinds mine yours =
      let file = file_in set wanted row in
      let name = own_file_name set Lus in
      let options = (sender_asking name file (wanted_options told (length file))).options in
      let fine = fine_of more row course in
      let bytes = packet_bytes (Wrq name options) in
      let e = Gets (peer + i) 59 bytes in
      let is = at_loader.serves_write set.media c.loader (loader_session set wanted row []) mine (peer + i) 59 bytes (Wrq name options) (requests_are_read name file told named fine.fits).1 Lus options refl kinds refl m.me.live
      (fresh_for sides.Loader c.posts own peer i c.loader.end m.me) (room_for sides.Loader c.posts own peer i more c.loader.end m.me room.own_ports) in
      let moved = serves_now sides.Loader c.posts own peer i c.loader.end (ServesWrite name options) (refl, omega arith) m.me in
      begins_writing n c sides.Loader sides.Target own peer i before more row told name options refl m room course sends named refl
      (loader_reacts set c e own peer i (IsIn (Receives (receiver_serving options))) _ (loader_reaches set.media c.loader e (Serves (peer + i) (ServesWrite name options) ∷ []) (loader.Continues []) c.posts own peer i (IsIn (Receives (receiver_serving options))) _ is moved))
      m.identity (loader_row_then c e (Serves (peer + i) (ServesWrite name options) ∷ []) [] [] row is mine) yours

  loader_takes_read : (n : ℕ) (c : World) (own peer i : ℕ) (before : List DatagramView) (more : ℕ) (row : RowView) (told : Option ℕ) (name : List ℕ)
      → Meets set n c sides.Loader sides.Target own peer i i Rests (HasAsked (Reads name (wanted_options told 0))) before (request sides.Target (peer + i) (Reads name (wanted_options told 0)) ∷ [])
      → HasRoom own peer i (more + 1) → Course set wanted loads more row → sender_in row ≡ sides.Loader → IsName name → set.media.file name ≡ Some (file_in set wanted row) → serves_files (loader_row row) ≡ true
      → InRow set wanted c sides.Loader row [] → InRow set wanted c sides.Target row []
      → Leads n c (cost set wanted more row) sides.Target (Gets (peer + i) 59 (packet_bytes (Rrq name (wanted_options told 0))))
  loader_takes_read n c own peer i before more row told name m room course sends named has serving mine yours =
      let file = file_in set wanted row in
      let options = wanted_options told 0 in
      let fine = fine_of more row course in
      let bytes = packet_bytes (Rrq name options) in
      let e = Gets (peer + i) 59 bytes in
      let is = at_loader.serves_read set.media c.loader (loader_session set wanted row []) mine (peer + i) 59 bytes (Rrq name options) (requests_are_read name file told named fine.fits).0 name options file refl serving has refl m.me.live
      (fresh_for sides.Loader c.posts own peer i c.loader.end m.me) (room_for sides.Loader c.posts own peer i more c.loader.end m.me room.own_ports) in
      let moved = serves_now sides.Loader c.posts own peer i c.loader.end (ServesRead name options file) refl m.me in
      begins_reading n c sides.Loader sides.Target own peer i before more row told name m room course sends named (ap (λ (f : Option (List ℕ)). Rattle.std.specs.Prelude.is_some f) has)
      (loader_reacts set c e own peer i (IsIn (Sends (sender_serving file options))) _ (loader_reaches set.media c.loader e (Serves (peer + i) (ServesRead name options file) ∷ []) (loader.Continues []) c.posts own peer i (IsIn (Sends (sender_serving file options))) _ is moved))
      m.identity (loader_row_then c e (Serves (peer + i) (ServesRead name options file) ∷ []) [] [] row is mine) yours

  name_same : (v : TargetView) (kind : Rattle.session_rules.specs.declared.outcome.FileKind.FileKind) → v.active.identity ≡ set.start.identity → own_file_name set kind ≡ own_name v kind
  name_same v kind e = ap (λ (id : Rattle.disk_layout.specs.declared.identity.Identity.Identity). file_name id.hw id.pos kind) (sym e)

  target_takes_lur : (n : ℕ) (c : World) (own peer i : ℕ) (before : List DatagramView) (more : ℕ) (told : Option ℕ)
      → Meets set n c sides.Target sides.Loader own peer i i Rests (HasAsked (role_in set wanted Awaits_lur told)) before (request sides.Loader (peer + i) (role_in set wanted Awaits_lur told) ∷ [])
      → HasRoom own peer i (more + 1) → Course set wanted loads more Awaits_lur → InRow set wanted c sides.Loader Awaits_lur [] → InRow set wanted c sides.Target Awaits_lur []
      → Leads n c (cost set wanted more Awaits_lur) sides.Loader (Gets (peer + i) 59 (packet_bytes (first_packet (role_in set wanted Awaits_lur told))))
  target_takes_lur n c own peer i before more told m room course yours mine =
      let file = file_in set wanted Awaits_lur in
      let name = own_file_name set Lur in
      let options = (sender_asking name file (wanted_options told (length file))).options in
      let fine = fine_of more Awaits_lur course in
      let bytes = packet_bytes (Wrq name options) in
      let e = Gets (peer + i) 59 bytes in
      let named = name_same c.target Lur m.identity in
      let is = at_target.serves_lur set.accepts c.target (peer + i) 59 bytes (Wrq name options) (requests_are_read name file told fine.named fine.fits).1 (target_session Awaits_lur []) mine.0 options (ap (λ (x : List ℕ). Wrq x options) named) refl refl m.me.live
      (fresh_for sides.Target c.posts own peer i c.target.end m.me) (room_for sides.Target c.posts own peer i more c.target.end m.me room.own_ports) in
      let moved = serves_now sides.Target c.posts own peer i c.target.end (ServesWrite (own_name c.target Lur) options) (refl, omega arith) m.me in
      let then = target_row_then c e (Serves (peer + i) (ServesWrite (own_name c.target Lur) options) ∷ []) [] [] Awaits_lur tt is mine in
      begins_writing n c sides.Target sides.Loader own peer i before more Awaits_lur told name options refl m room course refl fine.named refl
      (target_reacts set c e own peer i (IsIn (Receives (receiver_serving options))) _ (target_reaches set.accepts c.target e (Serves (peer + i) (ServesWrite (own_name c.target Lur) options) ∷ []) (target.Continues []) c.posts own peer i (IsIn (Receives (receiver_serving options))) _ is moved))
      (row_identity (target_after set.accepts c.target e) Awaits_lur then.1) then yours

  own_file_is : (n : ℕ) → n < 4294967295 → target.own_file Lui n ≡ Rattle.session_rules.specs.Reports.accepting_lui
  own_file_is n lt = rw (eq_false n 4294967295 (λ e. absurd (omega arith))) refl

  first_is : (n : ℕ) → n < 4294967295 → ◌≡◌ {A = RowView} (Rattle.session_rules.specs.TargetRows.first_row Lui n) Gives_lui
  first_is n lt = rw (eq_false n 4294967295 (λ e. absurd (omega arith))) refl

  target_takes_lui : (n : ℕ) (c : World) (own peer i : ℕ) (before : List DatagramView) (more : ℕ) (told : Option ℕ)
      → Meets set n c sides.Target sides.Loader own peer i i Rests (HasAsked (role_in set wanted Gives_lui told)) before (request sides.Loader (peer + i) (role_in set wanted Gives_lui told) ∷ [])
      → HasRoom own peer i (more + 1) → Course set wanted loads more Gives_lui → InRow set wanted c sides.Loader Gives_lui [] → TargetBefore set c.target Gives_lui
      → Leads n c (cost set wanted more Gives_lui) sides.Loader (Gets (peer + i) 59 (packet_bytes (first_packet (role_in set wanted Gives_lui told))))
  target_takes_lui n c own peer i before more told m room course yours h =
      let file = file_in set wanted Gives_lui in
      let name = own_file_name set Lui in
      let options = wanted_options told 0 in
      let fine = fine_of more Gives_lui course in
      let bytes = packet_bytes (Rrq name options) in
      let e = Gets (peer + i) 59 bytes in
      let named = name_same c.target Lui m.identity in
      let small : c.target.active.sequence < 4294967295 = subst (λ (x : Outline). x.sequence < 4294967295) (sym h.1) sequence in
      let role = ServesRead (own_name c.target Lui) options file in
      let is = at_target.begins set.accepts c.target (peer + i) 59 bytes (Rrq name options) (requests_are_read name file told fine.named fine.fits).0 options (ap (λ (x : List ℕ). Rrq x options) named)
      (lui_is_not_lci c.target.active.identity.hw c.target.active.identity.pos) refl
      (fresh_for sides.Target c.posts own peer i c.target.end m.me) (room_for sides.Target c.posts own peer i more c.target.end m.me room.own_ports)
      ∙ ap (λ (f : List ℕ). let d : target.TargetDecision = record { moves = Stops ∷ Serves (peer + i) (ServesRead (own_name c.target Lui) options f) ∷ []; change = target.Begins Lui } in d) (own_file_is c.target.active.sequence small) in
      let moved = begins_to_serve sides.Target c.posts own peer i c.target.end role refl m.me in
      let moves = Stops ∷ Serves (peer + i) role ∷ [] in
      let after = target_is set.accepts c.target e moves (target.Begins Lui) is in
      let end = views_after sides.Target c.target.end moves in
      let then : ((target_after set.accepts c.target e).live ≡ Some (target_session Gives_lui [])) × ((target_after set.accepts c.target e).active ≡ active_in (outline_of set.start) Gives_lui) = (
        ap (λ (v : TargetView). v.live) after ∙ ap (λ (row : RowView). (target.view_turned end c.target row).live) (first_is c.target.active.sequence small),
        ap (λ (v : TargetView). v.active) after ∙ ap (λ (row : RowView). (target.view_turned end c.target row).active) (first_is c.target.active.sequence small) ∙ h.1,
      ) in
      begins_reading n c sides.Target sides.Loader own peer i before more Gives_lui told name m room course refl fine.named (is_own name)
      (target_reacts set c e own peer i (IsIn (Sends (sender_serving file options))) _ (target_reaches set.accepts c.target e moves (target.Begins Lui) c.posts own peer i (IsIn (Sends (sender_serving file options))) _ is moved))
      (row_identity (target_after set.accepts c.target e) Gives_lui then.1) then yours
    where
      is_own : (name : List ℕ) → is_own_file set.start.identity (Rrq (own_file_name set Lui) (wanted_options told 0)) ≡ true
      is_own name = rw (lui_is_not_lci set.start.identity.hw set.start.identity.pos, at_loader.same_name (own_file_name set Lui)) refl

  -- a request is next
  pub step_asked : (n : ℕ) (c : World) (getter poster : Side) (own peer i : ℕ) (before : List DatagramView) (more : ℕ) (row : RowView) (told : Option ℕ) → Opposite getter poster
      → Meets set n c getter poster own peer i i Rests (HasAsked (role_in set wanted row told)) before (request poster (peer + i) (role_in set wanted row told) ∷ []) → HasRoom own peer i (more + 1)
      → Course set wanted loads more row → asker row ≡ poster → InRow set wanted c sides.Loader row [] → TargetBefore set c.target row
      → Leads n c (cost set wanted more row) poster (Gets (peer + i) 59 (packet_bytes (first_packet (role_in set wanted row told))))
  step_asked n c getter poster own peer i before more Gives_lui told to_target m room course turn loader target = target_takes_lui n c own peer i before more told m room course loader target
  step_asked n c getter poster own peer i before more Awaits_lur told to_target m room course turn loader target = target_takes_lur n c own peer i before more told m room course loader target
  step_asked n c getter poster own peer i before more Writes_ready told to_loader m room course turn loader target =
      loader_takes_write n c own peer i before more Writes_ready told m room course refl (fine_of more Writes_ready course).named refl loader target
  step_asked n c getter poster own peer i before more (Writes_progress u) told to_loader m room course turn loader target =
      loader_takes_write n c own peer i before more (Writes_progress u) told m room course refl (fine_of more (Writes_progress u) course).named refl loader target
  step_asked n c getter poster own peer i before more (Writes_completion e l) told to_loader m room course turn loader target =
      loader_takes_write n c own peer i before more (Writes_completion e l) told m room course refl (fine_of more (Writes_completion e l) course).named refl loader target
  step_asked n c getter poster own peer i before more (Reads_file u) told to_loader m room course turn loader target =
      let fine = fine_of more (Reads_file u) course in loader_takes_read n c own peer i before more (Reads_file u) told (Rattle.session_rules.specs.Uploads.next_name u) m room course refl fine.named fine.served refl loader target
  step_asked n c getter poster own peer i before more Gives_lui told to_loader m room course turn loader target = absurd cc
  step_asked n c getter poster own peer i before more Awaits_lur told to_loader m room course turn loader target = absurd cc
  step_asked n c getter poster own peer i before more Writes_ready told to_target m room course turn loader target = absurd cc
  step_asked n c getter poster own peer i before more (Writes_progress u) told to_target m room course turn loader target = absurd cc
  step_asked n c getter poster own peer i before more (Writes_completion e l) told to_target m room course turn loader target = absurd cc
  step_asked n c getter poster own peer i before more (Reads_file u) told to_target m room course turn loader target = absurd cc
  step_asked n c getter poster own peer i before more Gives_lci told opp m room course turn loader target = absurd (in_course more Gives_lci course)
  step_asked n c getter poster own peer i before more Writes_lcs told opp m room course turn loader target = absurd (in_course more Writes_lcs course)
  step_asked n c getter poster own peer i before more Writes_lcl told opp m room course turn loader target = absurd (in_course more Writes_lcl course)
  step_asked n c getter poster own peer i before more Gives_denial told opp m room course turn loader target = absurd (in_course more Gives_denial course)
  step_asked n c getter poster own peer i before more (Writes_stop e) told opp m room course turn loader target = absurd (in_course more (Writes_stop e) course)
  step_asked n c getter poster own peer i before more Over told opp m room course turn loader target = absurd (in_course more Over course)

  -- ---- a packet moves the transfer

  -- the end goes on
  hears_going : (c : World) (getter poster : Side) (own peer i : ℕ) (mine : Position) (row : RowView) (end : LinkEnd) (p : PacketView) (a : Answer) (arrived : List ℕ) → Opposite getter poster
      → c.target.active.identity ≡ set.start.identity → 59 < own → StandsIn getter c.posts own peer i mine (end_at c getter) → Holds mine end → packet_in (packet_bytes p) ≡ Some p → end_answer end p ≡ a → IsGoing a → IsEndRunning (end_moved end a)
      → Rattle.session_completion.specs.Course.IsSummed row → InRow set wanted c getter row arrived
      → Reacts set c getter poster (Gets (peer + i) (own + i) (packet_bytes p)) own peer i (IsIn (end_moved end a)) (datagram getter (own + i) (peer + i) (end_packet (end_moved end a)) ∷ [])
      × InRow set wanted (delivered_to set c poster (Gets (peer + i) (own + i) (packet_bytes p))) getter row (arrived ++ payload_of a)
      × ((delivered_to set c poster (Gets (peer + i) (own + i) (packet_bytes p))).target.active.identity ≡ set.start.identity)
  hears_going c getter poster own peer i mine row end p a arrived to_loader id low stands holds is answers going runs summed session =
      let e = Gets (peer + i) (own + i) (packet_bytes p) in
      let new = datagram sides.Loader (own + i) (peer + i) (end_packet (end_moved end a)) ∷ [] in
      let says = answers_so sides.Loader c.posts own peer i mine end c.loader.end p holds stands ∙ answers in
      let decided = at_loader.goes_on set.media c.loader (loader_session set wanted row arrived) session (peer + i) (own + i) (packet_bytes p) p is a going (not_59 own i low) (is_mine sides.Loader c.posts own peer i mine end c.loader.end holds stands) says in
      let moved : Moved sides.Loader c.loader.end (Hears (peer + i) p ∷ []) c.posts own peer i (IsIn (end_moved end a)) new =
      subst (λ (x : Answer). Moved sides.Loader c.loader.end (Hears (peer + i) p ∷ []) c.posts own peer i (IsIn (end_moved end x)) (datagram sides.Loader (own + i) (peer + i) (end_packet (end_moved end x)) ∷ [])) answers
      (goes sides.Loader c.posts own peer i mine end c.loader.end p holds (subst (λ (x : Answer). IsGoing x) (sym answers) going) (subst (λ (x : Answer). IsEndRunning (end_moved end x)) (sym answers) runs) stands) in (
        loader_reacts set c e own peer i (IsIn (end_moved end a)) new (loader_reaches set.media c.loader e (Hears (peer + i) p ∷ []) (loader.Continues (payload_of a)) c.posts own peer i (IsIn (end_moved end a)) new decided moved),
        loader_row_then c e (Hears (peer + i) p ∷ []) arrived (payload_of a) row decided session,
        id,
      )
  hears_going c getter poster own peer i mine row end p a arrived to_target id low stands holds is answers going runs summed session =
      let e = Gets (peer + i) (own + i) (packet_bytes p) in
      let new = datagram sides.Target (own + i) (peer + i) (end_packet (end_moved end a)) ∷ [] in
      let says = answers_so sides.Target c.posts own peer i mine end c.target.end p holds stands ∙ answers in
      let decided = at_target.goes_on set.accepts c.target (peer + i) (own + i) (packet_bytes p) p is (target_session row arrived) session.0 a going (not_59 own i low) (is_mine sides.Target c.posts own peer i mine end c.target.end holds stands) says in
      let moved : Moved sides.Target c.target.end (Hears (peer + i) p ∷ []) c.posts own peer i (IsIn (end_moved end a)) new =
      subst (λ (x : Answer). Moved sides.Target c.target.end (Hears (peer + i) p ∷ []) c.posts own peer i (IsIn (end_moved end x)) (datagram sides.Target (own + i) (peer + i) (end_packet (end_moved end x)) ∷ [])) answers
      (goes sides.Target c.posts own peer i mine end c.target.end p holds (subst (λ (x : Answer). IsGoing x) (sym answers) going) (subst (λ (x : Answer). IsEndRunning (end_moved end x)) (sym answers) runs) stands) in
      let then = target_row_then c e (Hears (peer + i) p ∷ []) arrived (payload_of a) row summed decided session in (
        target_reacts set c e own peer i (IsIn (end_moved end a)) new (target_reaches set.accepts c.target e (Hears (peer + i) p ∷ []) (target.Continues (payload_of a)) c.posts own peer i (IsIn (end_moved end a)) new decided moved),
        then,
        row_identity (target_after set.accepts c.target e) row then.1,
      )

  behind_receiver : (r next : Receiver) (q : PacketView) → r.taken ≤ next.taken → IsBehind (Receives r) q → IsBehind (Receives next) q
  behind_receiver r next (Rattle.tftp_packet.specs.Packets.Data k b) le h = omega (arith, h, le)
  behind_receiver r next (Rattle.tftp_packet.specs.Packets.Oack x) le h = tt
  behind_receiver r next (Ack k) le h = absurd h
  behind_receiver r next (Rrq name x) le h = absurd h
  behind_receiver r next (Wrq name x) le h = absurd h
  behind_receiver r next (Rattle.tftp_packet.specs.Packets.Error code x) le h = absurd h

  behind_sender : (s next : Sender) (q : PacketView) → s.sent ≤ next.sent → IsBehind (Sends s) q → IsBehind (Sends next) q
  behind_sender s next (Ack k) le h = omega (arith, h, le)
  behind_sender s next (Rattle.tftp_packet.specs.Packets.Oack x) le h = tt
  behind_sender s next (Rattle.tftp_packet.specs.Packets.Data k b) le h = absurd h
  behind_sender s next (Rrq name x) le h = absurd h
  behind_sender s next (Wrq name x) le h = absurd h
  behind_sender s next (Rattle.tftp_packet.specs.Packets.Error code x) le h = absurd h

  after_receiving : (i : ℕ) (mine : Position) (r next : Receiver) → HoldsReceiver mine r → r.taken ≤ next.taken → IsAfter i mine i (IsIn (Receives next))
  after_receiving i mine r next (inl e) le = subst (λ (x : Position). IsAfter i x i (IsIn (Receives next))) (sym e) (after_packet i (Receives r) (Receives next) (λ q h. behind_receiver r next q le h))
  after_receiving i mine r next (inr (name, x, e, f)) le = subst (λ (y : Position). IsAfter i y i (IsIn (Receives next))) (sym e) (after_binding i (Reads name x) (Receives next))

  after_sending : (i : ℕ) (mine : Position) (s next : Sender) → HoldsSender mine s → s.sent ≤ next.sent → IsAfter i mine i (IsIn (Sends next))
  after_sending i mine s next (inl e) le = subst (λ (x : Position). IsAfter i x i (IsIn (Sends next))) (sym e) (after_packet i (Sends s) (Sends next) (λ q h. behind_sender s next q le h))
  after_sending i mine s next (inr (name, x, file, e, f)) le = subst (λ (y : Position). IsAfter i y i (IsIn (Sends next))) (sym e) (after_binding i (Writes name x file) (Sends next))

  -- ---- at the receiving end

  abbrev DownLeads : (n : ℕ) (c : World) (poster : Side) (own peer i more : ℕ) (row : RowView) (r : Receiver) (p : PacketView) → Type 0
  DownLeads n c poster own peer i more row r p = Leads n c (cost_behind set wanted more row + left_down (file_in set wanted row) r p + 1) poster (Gets (peer + i) (own + i) (packet_bytes p))

  receiver_went_on : (n : ℕ) (c : World) (getter poster : Side) (own peer i : ℕ) (mine yours : Position) (before : List DatagramView) (more : ℕ) (row : RowView) (s : Sender) (r next : Receiver) (p : PacketView) (payload : List ℕ)
      → Meets set n c getter poster own peer i i mine yours before (datagram poster (peer + i) (own + i) p ∷ []) → HasRoom own peer i (more + 1)
      → Course set wanted loads more row → sender_in row ≡ poster → packet_in (packet_bytes p) ≡ Some p → MovesReceiver (file_in set wanted row) s r next p payload → HoldsReceiver mine r → HoldsSender yours s
      → Reacts set c getter poster (Gets (peer + i) (own + i) (packet_bytes p)) own peer i (IsIn (Receives next)) (datagram getter (own + i) (peer + i) (receiver_packet next) ∷ [])
      → InRow set wanted (delivered_to set c poster (Gets (peer + i) (own + i) (packet_bytes p))) getter row (taken_of (file_in set wanted row) r ++ payload)
      → (delivered_to set c poster (Gets (peer + i) (own + i) (packet_bytes p))).target.active.identity ≡ set.start.identity → InRow set wanted c poster row []
      → DownLeads n c poster own peer i more row r p
  receiver_went_on n c getter poster own peer i mine yours before more row s r next p payload m room course sends is goes holds held reacts session id other =
      let file = file_in set wanted row in
      let e = Gets (peer + i) (own + i) (packet_bytes p) in
      let d = datagram poster (peer + i) (own + i) p in
      let new = datagram getter (own + i) (peer + i) (receiver_packet next) ∷ [] in
      let came : CameInCourse (may_ask set getter) own peer i (IsIn (Receives next)) d = here p is goes.behind refl refl in
      let then = meets_next set n c getter poster own peer i i i mine yours (IsIn (Receives next)) before [] new (peer + i) (own + i) (packet_bytes p) m (after_receiving i mine r next holds goes.later) came reacts id in
      let few = goes.left in
      record {
        left = cost_behind set wanted more row + left_up file next + 1;
        fewer = omega arith;
        stage = up poster getter peer own i yours (IsIn (Receives next)) (before ++ d ∷ []) more row s next (receiver_packet next)
            (meets_flipped set (n + 1) (delivered_to set c poster e) getter poster own peer i i (IsIn (Receives next)) yours (before ++ d ∷ []) new then)
            (room_flipped own peer i (more + 1) room) course sends goes.talk held (refl, refl)
            (other_row set wanted c getter poster e row [] m.opposite other)
            (subst (λ (bytes : List ℕ). InRow set wanted (delivered_to set c poster e) getter row bytes) (sym goes.taken) session);
        resets = reacts.resets;
      }

  -- ---- at the sending end

  abbrev UpLeads : (n : ℕ) (c : World) (poster : Side) (own peer i more : ℕ) (row : RowView) (r : Receiver) (p : PacketView) → Type 0
  UpLeads n c poster own peer i more row r p = Leads n c (cost_behind set wanted more row + left_up (file_in set wanted row) r + 1) poster (Gets (peer + i) (own + i) (packet_bytes p))

  sender_went_on : (n : ℕ) (c : World) (getter poster : Side) (own peer i : ℕ) (mine yours : Position) (before : List DatagramView) (more : ℕ) (row : RowView) (s next : Sender) (r : Receiver) (p : PacketView)
      → Meets set n c getter poster own peer i i mine yours before (datagram poster (peer + i) (own + i) p ∷ []) → HasRoom own peer i (more + 1)
      → Course set wanted loads more row → sender_in row ≡ getter → packet_in (packet_bytes p) ≡ Some p → MovesSender (file_in set wanted row) s next r p → HoldsSender mine s → HoldsReceiver yours r
      → Reacts set c getter poster (Gets (peer + i) (own + i) (packet_bytes p)) own peer i (IsIn (Sends next)) (datagram getter (own + i) (peer + i) (sender_packet next) ∷ [])
      → InRow set wanted (delivered_to set c poster (Gets (peer + i) (own + i) (packet_bytes p))) getter row []
      → (delivered_to set c poster (Gets (peer + i) (own + i) (packet_bytes p))).target.active.identity ≡ set.start.identity → InRow set wanted c poster row (taken_of (file_in set wanted row) r)
      → UpLeads n c poster own peer i more row r p
  sender_went_on n c getter poster own peer i mine yours before more row s next r p m room course sends is goes holds held reacts session id other =
      let file = file_in set wanted row in
      let e = Gets (peer + i) (own + i) (packet_bytes p) in
      let d = datagram poster (peer + i) (own + i) p in
      let new = datagram getter (own + i) (peer + i) (sender_packet next) ∷ [] in
      let came : CameInCourse (may_ask set getter) own peer i (IsIn (Sends next)) d = here p is goes.behind refl refl in
      let then = meets_next set n c getter poster own peer i i i mine yours (IsIn (Sends next)) before [] new (peer + i) (own + i) (packet_bytes p) m (after_sending i mine s next holds goes.later) came reacts id in
      let few = goes.left in
      record {
        left = cost_behind set wanted more row + left_down file r (sender_packet next) + 1;
        fewer = omega arith;
        stage = down poster getter peer own i yours (IsIn (Sends next)) (before ++ d ∷ []) more row next r (sender_packet next)
            (meets_flipped set (n + 1) (delivered_to set c poster e) getter poster own peer i i (IsIn (Sends next)) yours (before ++ d ∷ []) new then)
            (room_flipped own peer i (more + 1) room) course sends goes.talk held (refl, refl)
            (other_row set wanted c getter poster e row (taken_of file r) m.opposite other) session;
        resets = reacts.resets;
      }

  not_finished : (poster : Side) (posts : List DatagramView) (own peer i : ℕ) (yours : Position) (v : EndView) (r : Receiver) → HoldsReceiver yours r → StandsIn poster posts own peer i yours v → r.phase ≡ Rattle.tftp_link.specs.declared.phase.Phase.TheVariants.Finished → ⊥
  not_finished poster posts own peer i yours v r (inl e) stands f =
      let runs = subst (λ (x : Position). Rattle.transfer_completion.specs.Positions.IsUnderway x) e stands.underway in absurd (both r.phase runs.0 f)
    where
      both : (phase : Rattle.tftp_link.specs.declared.phase.Phase.Phase) → phase ≡ Rattle.tftp_link.specs.declared.phase.Phase.TheVariants.Running → phase ≡ Rattle.tftp_link.specs.declared.phase.Phase.TheVariants.Finished → ⊥
      both phase a b = absurd cc
  not_finished poster posts own peer i yours v r (inr (name, x, e, g)) stands f = absurd (waits (sym (ap (λ (y : Receiver). y.phase) g) ∙ f))
    where
      waits : Rattle.tftp_link.specs.declared.phase.Phase.TheVariants.Waiting ≡ Rattle.tftp_link.specs.declared.phase.Phase.TheVariants.Finished → ⊥
      waits h = absurd cc

  -- a packet to the sending end is next
  pub step_up : (n : ℕ) (c : World) (getter poster : Side) (own peer i : ℕ) (mine yours : Position) (before : List DatagramView) (more : ℕ) (row : RowView) (s : Sender) (r : Receiver) (p : PacketView) (a : Answer)
      → Meets set n c getter poster own peer i i mine yours before (datagram poster (peer + i) (own + i) p ∷ []) → HasRoom own peer i (more + 1)
      → Course set wanted loads more row → sender_in row ≡ getter → packet_in (packet_bytes p) ≡ Some p → sender_answer s p ≡ a → GoesOnAtSender (file_in set wanted row) s r p a → HoldsSender mine s → HoldsReceiver yours r
      → InRow set wanted c getter row [] → InRow set wanted c poster row (taken_of (file_in set wanted row) r)
      → UpLeads n c poster own peer i more row r p
  step_up n c getter poster own peer i mine yours before more row s r p (Grants x) m room course sends is answers goes holds held session other =
      let (reacts, then, id) = hears_going c getter poster own peer i mine row (Sends s) p (Grants x) [] m.opposite m.identity m.own_low m.me (holds_sender mine s holds) is answers tt refl (fine_of more row course).summed session in
      sender_went_on n c getter poster own peer i mine yours before more row s (sender_moved s (Grants x)) r p m room course sends is goes holds held reacts then id other
  step_up n c getter poster own peer i mine yours before more row s r p Proceeds m room course sends is answers goes holds held session other =
      let (reacts, then, id) = hears_going c getter poster own peer i mine row (Sends s) p Proceeds [] m.opposite m.identity m.own_low m.me (holds_sender mine s holds) is answers tt refl (fine_of more row course).summed session in
      sender_went_on n c getter poster own peer i mine yours before more row s (sender_moved s Proceeds) r p m room course sends is goes holds held reacts then id other
  step_up n c getter poster own peer i mine yours before more row s r p Completes m room course sends is answers goes holds held session other = absurd (not_finished poster c.posts peer own i yours (end_at c poster) r held m.you goes)
  step_up n c getter poster own peer i mine yours before more row s r p Dropped m room course sends is answers goes holds held session other = absurd goes
  step_up n c getter poster own peer i mine yours before more row s r p Again m room course sends is answers goes holds held session other = absurd goes
  step_up n c getter poster own peer i mine yours before more row s r p (TakesBlock b) m room course sends is answers goes holds held session other = absurd goes
  step_up n c getter poster own peer i mine yours before more row s r p (TakesLast b) m room course sends is answers goes holds held session other = absurd goes
  step_up n c getter poster own peer i mine yours before more row s r p (Fails code) m room course sends is answers goes holds held session other = absurd goes

  -- ---- the last block

  -- the sending end knows the other one
  sends_still : (poster : Side) (yours : Position) (s : Sender) → HoldsSender yours s → s.phase ≡ Running → yours ≡ IsIn (Sends s)
  sends_still poster yours s (inl e) f = e
  sends_still poster yours s (inr (name, x, file, e, g)) f = absurd (waits (sym f ∙ ap (λ (y : Sender). y.phase) g))
    where
      waits : ◌≡◌ {A = Phase} Running Waiting → ⊥
      waits h = absurd cc

  -- what the receiving end did with the last block
  record TakesLastBlock (c : World) (getter poster : Side) (own peer i : ℕ) (mine : Position) (row : RowView) (s : Sender) (r : Receiver) (p : PacketView) (payload : List ℕ) : Type 0 where
    next : Receiver
    next_is : next ≡ receiver_moved r (TakesLast payload)
    whole : TookLastBlock (file_in set wanted row) s next (receiver_packet next)
    few : 0 < left_down (file_in set wanted row) r p
    arrived : taken_of (file_in set wanted row) r ++ payload ≡ file_in set wanted row
    last : TookLast getter c.posts own peer i (end_at c getter) p r payload
    mine_is : belongs (end_at c getter).live (peer + i) (own + i) ≡ true
    answers : answer_of (end_at c getter).live p ≡ TakesLast payload
    acks : receiver_packet (receiver_moved r (TakesLast payload)) ≡ Ack s.sent
    port : own + i + 2 < 65537 → has_port (end_at c getter) ≡ true

  takes_last_block : (c : World) (getter poster : Side) (own peer i : ℕ) (mine : Position) (row : RowView) (s : Sender) (r : Receiver) (p : PacketView) (payload : List ℕ) → StandsIn getter c.posts own peer i mine (end_at c getter)
      → receiver_answer r p ≡ TakesLast payload → MovesReceiver (file_in set wanted row) s r (receiver_moved r (TakesLast payload)) p payload → HoldsReceiver mine r → TakesLastBlock c getter poster own peer i mine row s r p payload
  takes_last_block c getter poster own peer i mine row s r p payload stands is goes holds =
      let file = file_in set wanted row in
      let next = receiver_moved r (TakesLast payload) in
      let whole = finished_is_whole file s next (receiver_packet next) goes.talk refl in
      let holding = holds_receiver mine r holds in
      let small : s.sent < 65536 = (let few = whole.fits.few in let l = whole.last in omega arith) in
      let few = goes.left in
      record {
        next = next;
        next_is = refl;
        whole = whole;
        few = omega arith;
        arrived = sym goes.taken ∙ whole.taken;
        last = takes_last getter c.posts own peer i mine r (end_at c getter) p payload holds is
            (ap (λ (q : PacketView). acknowledges (datagram getter (own + i) (peer + i) q)) whole.packet ∙ ack_acknowledges getter (own + i) (peer + i) s.sent small) stands;
        mine_is = is_mine getter c.posts own peer i mine (Receives r) (end_at c getter) holding stands;
        answers = answers_so getter c.posts own peer i mine (Receives r) (end_at c getter) p holding stands ∙ is;
        acks = whole.packet;
        port = λ room. lt_true (end_at c getter).next_port 65536 (next_port getter c.posts own peer i mine (Receives r) (end_at c getter) holding stands room);
      }

  room_behind : (own peer i k : ℕ) → HasRoom own peer i (suc k + 1) → HasRoom peer own i (k + 2)
  room_behind own peer i k room = let a = room.own_ports in let b = room.peer_ports in record { own_ports = omega arith; peer_ports = omega arith }

  -- the receiving end waits then
  closes : (n : ℕ) (c : World) (getter poster : Side) (own peer i : ℕ) (mine yours : Position) (before : List DatagramView) (more : ℕ) (row : RowView) (s : Sender) (r : Receiver) (p : PacketView) (payload : List ℕ)
      → Meets set n c getter poster own peer i i mine yours before (datagram poster (peer + i) (own + i) p ∷ []) → HasRoom own peer i (suc more + 1)
      → Course set wanted loads (suc more) row → asker (next_row set wanted row) ≡ poster → sender_in row ≡ poster → packet_in (packet_bytes p) ≡ Some p → HoldsSender yours s → TakesLastBlock c getter poster own peer i mine row s r p payload
      → Reacts set c getter poster (Gets (peer + i) (own + i) (packet_bytes p)) own peer (i + 1) Rests (datagram getter (own + i) (peer + i) (receiver_packet (receiver_moved r (TakesLast payload))) ∷ [])
      → (end_at (delivered_to set c poster (Gets (peer + i) (own + i) (packet_bytes p))) getter).kept ≡ Some (record { own = own + i; peer = Some (peer + i); end = Receives (receiver_moved r (TakesLast payload)) })
      → InRow set wanted (delivered_to set c poster (Gets (peer + i) (own + i) (packet_bytes p))) getter (next_row set wanted row) []
      → (delivered_to set c poster (Gets (peer + i) (own + i) (packet_bytes p))).target.active.identity ≡ set.start.identity → InRow set wanted c poster row []
      → DownLeads n c poster own peer i (suc more) row r p
  closes n c getter poster own peer i mine yours before more row s r p payload m room course turn sends is held t reacts kept session id other =
      let file = file_in set wanted row in
      let e = Gets (peer + i) (own + i) (packet_bytes p) in
      let c' = delivered_to set c poster e in
      let d = datagram poster (peer + i) (own + i) p in
      let next = receiver_moved r (TakesLast payload) in
      let whole : TookLastBlock file s next (receiver_packet next) = subst (λ (x : Receiver). TookLastBlock file s x (receiver_packet x)) t.next_is t.whole in
      let new = datagram getter (own + i) (peer + i) (receiver_packet next) ∷ [] in
      let came : CameInCourse (may_ask set getter) own peer (i + 1) Rests d = Rattle.session_completion.specs.Stages.earlier i p is (omega arith) refl refl in
      let then = meets_next set n c getter poster own peer i i (i + 1) mine yours Rests before [] new (peer + i) (own + i) (packet_bytes p) m (after_end i mine) came reacts id in
      let flipped = meets_flipped set (n + 1) c' getter poster own peer (i + 1) i Rests yours (before ++ d ∷ []) new then in
      let placed = subst (λ (y : Position). Meets set (n + 1) c' poster getter peer own i (i + 1) y Rests (before ++ d ∷ []) new) (sends_still poster yours s held whole.running) flipped in
      let acked = subst (λ (q : PacketView). Meets set (n + 1) c' poster getter peer own i (i + 1) (IsIn (Sends s)) Rests (before ++ d ∷ []) (datagram getter (own + i) (peer + i) q ∷ [])) t.acks placed in
      let few = t.few in
      record {
        left = cost set wanted more (next_row set wanted row) + 1;
        fewer = omega arith;
        stage = closing poster getter peer own i (before ++ d ∷ []) more row s next acked (room_behind own peer i more room) sends (course.0, course.1, turn)
            (record { kept = kept; phase = refl; whole = subst (λ (q : PacketView). TookLastBlock file s next q) t.acks whole })
            (other_row set wanted c getter poster e row [] m.opposite other) session;
        resets = reacts.resets;
      }

  -- or asks for the next file
  asks_early : (n : ℕ) (c : World) (getter poster : Side) (own peer i : ℕ) (mine yours : Position) (before : List DatagramView) (more : ℕ) (row : RowView) (s : Sender) (r : Receiver) (p : PacketView) (payload : List ℕ) (told : Option ℕ)
      → Meets set n c getter poster own peer i i mine yours before (datagram poster (peer + i) (own + i) p ∷ []) → HasRoom own peer i (suc more + 1)
      → Course set wanted loads (suc more) row → asker (next_row set wanted row) ≡ getter → sender_in row ≡ poster → packet_in (packet_bytes p) ≡ Some p → HoldsSender yours s → TakesLastBlock c getter poster own peer i mine row s r p payload
      → Reacts set c getter poster (Gets (peer + i) (own + i) (packet_bytes p)) own peer (i + 1) (HasAsked (role_in set wanted (next_row set wanted row) told))
      (datagram getter (own + i) (peer + i) (receiver_packet (receiver_moved r (TakesLast payload))) ∷ request getter (own + (i + 1)) (role_in set wanted (next_row set wanted row) told) ∷ [])
      → (end_at (delivered_to set c poster (Gets (peer + i) (own + i) (packet_bytes p))) getter).kept ≡ Some (record { own = own + i; peer = Some (peer + i); end = Receives (receiver_moved r (TakesLast payload)) })
      → InRow set wanted (delivered_to set c poster (Gets (peer + i) (own + i) (packet_bytes p))) getter (next_row set wanted row) []
      → (delivered_to set c poster (Gets (peer + i) (own + i) (packet_bytes p))).target.active.identity ≡ set.start.identity → InRow set wanted c poster row []
      → DownLeads n c poster own peer i (suc more) row r p
  asks_early n c getter poster own peer i mine yours before more row s r p payload told m room course turn sends is held t reacts kept session id other =
      let file = file_in set wanted row in
      let e = Gets (peer + i) (own + i) (packet_bytes p) in
      let c' = delivered_to set c poster e in
      let d = datagram poster (peer + i) (own + i) p in
      let next = receiver_moved r (TakesLast payload) in
      let role = role_in set wanted (next_row set wanted row) told in
      let whole : TookLastBlock file s next (receiver_packet next) = subst (λ (x : Receiver). TookLastBlock file s x (receiver_packet x)) t.next_is t.whole in
      let new = datagram getter (own + i) (peer + i) (receiver_packet next) ∷ request getter (own + (i + 1)) role ∷ [] in
      let came : CameInCourse (may_ask set getter) own peer (i + 1) (HasAsked role) d = Rattle.session_completion.specs.Stages.earlier i p is (omega arith) refl refl in
      let then = meets_next set n c getter poster own peer i i (i + 1) mine yours (HasAsked role) before [] new (peer + i) (own + i) (packet_bytes p) m (after_asking i mine role) came reacts id in
      let flipped = meets_flipped set (n + 1) c' getter poster own peer (i + 1) i (HasAsked role) yours (before ++ d ∷ []) new then in
      let placed = subst (λ (y : Position). Meets set (n + 1) c' poster getter peer own i (i + 1) y (HasAsked role) (before ++ d ∷ []) new) (sends_still poster yours s held whole.running) flipped in
      let acked = subst (λ (q : PacketView). Meets set (n + 1) c' poster getter peer own i (i + 1) (IsIn (Sends s)) (HasAsked role) (before ++ d ∷ []) (datagram getter (own + i) (peer + i) q ∷ request getter (own + (i + 1)) role ∷ [])) t.acks placed in
      let few = t.few in
      record {
        left = cost set wanted more (next_row set wanted row) + 1;
        fewer = omega arith;
        stage = early poster getter peer own i (before ++ d ∷ []) more row s next told acked (room_behind own peer i more room) sends (course.0, course.1, turn)
            (record { kept = kept; phase = refl; whole = subst (λ (q : PacketView). TookLastBlock file s next q) t.acks whole })
            (other_row set wanted c getter poster e row [] m.opposite other) session;
        resets = reacts.resets;
      }

  -- ---- the last block, at the loader

  no_bytes : ◌≡◌ {A = Rattle.session_rules.specs.Buffers.Buffer} Rattle.session_rules.specs.Buffers.empty_buffer (buffered [])
  no_bytes = rw (take-nil Rattle.session_rules.specs.Buffers.buffer_size) refl

  advances : (row next : RowView) (arrived : List ℕ) (live : Option LoaderSession) → live ≡ Some (loader_session set wanted row arrived) → row_after (loader_row row) ≡ loader_row next
      → loader.advanced live ≡ Some (loader_session set wanted next [])
  advances row next arrived live e f =
      ap (λ (l : Option LoaderSession). loader.advanced l) e
      ∙ ap (λ (x : Rattle.session_rules.specs.LoaderRows.LoaderRow). let s : LoaderSession = record { start = Rattle.session_completion.specs.Stages.starting set wanted; row = x; arriving = Rattle.session_rules.specs.Buffers.empty_buffer } in Some s) f
      ∙ ap (λ (b : Rattle.session_rules.specs.Buffers.Buffer). let s : LoaderSession = record { start = Rattle.session_completion.specs.Stages.starting set wanted; row = loader_row next; arriving = b } in Some s) no_bytes

  file_turn_is : (row : RowView) (first payload file : List ℕ) (t : Rattle.session_rules.specs.LoaderRows.RowTurn) → first ++ payload ≡ file → file_turn (loader_row row) (buffered file) ≡ t
      → file_turn (loader_session set wanted row first).row (buffered_more (loader_session set wanted row first).arriving payload) ≡ t
  file_turn_is row first payload file t e f =
      ap (λ (b : Rattle.session_rules.specs.Buffers.Buffer). file_turn (loader_row row) b) (buffered_on first payload ∙ ap (λ (x : List ℕ). buffered x) e) ∙ f

  loader_row_over : (c : World) (e : Event) (moves : List Rattle.transfer_end.specs.Moves.Move) (arrived : List ℕ) (row next : RowView) → loader.loader_decision set.media c.loader e ≡ record { moves = moves; change = loader.Advances }
      → c.loader.live ≡ Some (loader_session set wanted row arrived) → row_after (loader_row row) ≡ loader_row next → (loader_after set.media c.loader e).live ≡ Some (loader_session set wanted next [])
  loader_row_over c e moves arrived row next is live f = ap (λ (v : LoaderView). v.live) (loader_is set.media c.loader e moves loader.Advances is) ∙ advances row next arrived c.loader.live live f

  loader_waits : (n : ℕ) (c : World) (own peer i : ℕ) (mine yours : Position) (before : List DatagramView) (more : ℕ) (row : RowView) (s : Sender) (r : Receiver) (p : PacketView) (payload : List ℕ)
      → Meets set n c sides.Loader sides.Target own peer i i mine yours before (datagram sides.Target (peer + i) (own + i) p ∷ []) → HasRoom own peer i (suc more + 1)
      → Course set wanted loads (suc more) row → asker (next_row set wanted row) ≡ sides.Target → sender_in row ≡ sides.Target → packet_in (packet_bytes p) ≡ Some p → HoldsSender yours s
      → TakesLastBlock c sides.Loader sides.Target own peer i mine row s r p payload
      → file_turn (loader_row row) (buffered (file_in set wanted row)) ≡ Goes_on → ◌≡◌ {A = Option Role} (loader.row_request c.loader.end.asks_size (Rattle.session_completion.specs.Stages.starting set wanted) (row_after (loader_row row))) None
      → row_after (loader_row row) ≡ loader_row (next_row set wanted row)
      → InRow set wanted c sides.Loader row (taken_of (file_in set wanted row) r) → InRow set wanted c sides.Target row []
      → DownLeads n c sides.Target own peer i (suc more) row r p
  loader_waits n c own peer i mine yours before more row s r p payload m room course turn sends is held t goes none next session other =
      let file = file_in set wanted row in
      let e = Gets (peer + i) (own + i) (packet_bytes p) in
      let first = taken_of file r in
      let decided = at_loader.takes_and_waits set.media c.loader (loader_session set wanted row first) session (peer + i) (own + i) (packet_bytes p) p is payload (file_turn_is row first payload file Goes_on t.arrived goes) none (not_59 own i m.own_low) t.mine_is t.answers in
      let moves = Hears (peer + i) p ∷ [] in
      closes n c sides.Loader sides.Target own peer i mine yours before more row s r p payload m room course turn sends is held t
      (loader_reacts set c e own peer (i + 1) Rests _ (loader_reaches set.media c.loader e moves loader.Advances c.posts own peer (i + 1) Rests _ decided t.last.moved))
      (ap (λ (x : EndView). x.kept) (loader_end_is set.media c.loader e moves loader.Advances decided) ∙ t.last.kept)
      (loader_row_over c e moves first row (next_row set wanted row) decided session next) m.identity other

  loader_asks : (n : ℕ) (c : World) (own peer i : ℕ) (mine yours : Position) (before : List DatagramView) (more : ℕ) (s : Sender) (r : Receiver) (p : PacketView) (payload : List ℕ)
      → Meets set n c sides.Loader sides.Target own peer i i mine yours before (datagram sides.Target (peer + i) (own + i) p ∷ []) → HasRoom own peer i (suc more + 1)
      → Course set wanted loads (suc more) Writes_ready → packet_in (packet_bytes p) ≡ Some p → HoldsSender yours s
      → TakesLastBlock c sides.Loader sides.Target own peer i mine Writes_ready s r p payload
      → InRow set wanted c sides.Loader Writes_ready (taken_of (file_in set wanted Writes_ready) r) → InRow set wanted c sides.Target Writes_ready []
      → DownLeads n c sides.Target own peer i (suc more) Writes_ready r p
  loader_asks n c own peer i mine yours before more s r p payload m room course is held t session other =
      let file = file_in set wanted Writes_ready in
      let e = Gets (peer + i) (own + i) (packet_bytes p) in
      let first = taken_of file r in
      let told = c.loader.end.asks_size in
      let role = role_in set wanted Awaits_lur told in
      let has_room = room.own_ports in
      let decided = at_loader.takes_and_asks set.media c.loader (loader_session set wanted Writes_ready first) session (peer + i) (own + i) (packet_bytes p) p is payload role (file_turn_is Writes_ready first payload file Goes_on t.arrived course.0.goes_on) refl (t.port (omega arith)) (not_59 own i m.own_low) t.mine_is t.answers in
      let moves = Hears (peer + i) p ∷ Rattle.transfer_end.specs.Moves.Asks role ∷ [] in
      asks_early n c sides.Loader sides.Target own peer i mine yours before more Writes_ready s r p payload told m room course refl refl is held t
      (loader_reacts set c e own peer (i + 1) (HasAsked role) _ (loader_reaches set.media c.loader e moves loader.Advances c.posts own peer (i + 1) (HasAsked role) _ decided
      (then_asks sides.Loader c.loader.end (Hears (peer + i) p) role c.posts own peer (i + 1) _ t.last.moved)))
      (ap (λ (x : EndView). x.kept) (loader_end_is set.media c.loader e moves loader.Advances decided) ∙ t.last.kept)
      (loader_row_over c e moves first Writes_ready Awaits_lur decided session refl) m.identity other

  -- ---- the last block, at the target

  turned_row : (end : EndView) (v : TargetView) (s : TargetSession) (live : Option TargetSession) (more : List ℕ) → live ≡ Some s
      → target.session_turned target.view_turned end v live (move_for set.accepts v s more) more ≡ target.view_turned end v (row_for set.accepts v s more)
  turned_row end v s live more e = ap (λ (l : Option TargetSession). target.session_turned target.view_turned end v l (move_for set.accepts v s more) more) e

  row_for_is : (v : TargetView) (first more : List ℕ) (row : RowView) → IsStep set wanted row → v.active ≡ active_in (outline_of set.start) row → first ++ more ≡ arrives_in row (file_in set wanted row)
      → row_for set.accepts v (target_session row first) more ≡ next_row set wanted row
  row_for_is v first more row step active whole =
      turns_to joins set wanted row first more v.active step.fine.summed (active ∙ active_stays (outline_of set.start) row (file_in set wanted row) step.goes_on) whole

  target_row_over : (v : TargetView) (e : Event) (moves : List Rattle.transfer_end.specs.Moves.Move) (first more : List ℕ) (row : RowView) → IsStep set wanted row
      → target.target_decision set.accepts v e ≡ record { moves = moves; change = target.Turns (move_for set.accepts v (target_session row first) more) more }
      → v.live ≡ Some (target_session row first) → v.active ≡ active_in (outline_of set.start) row → first ++ more ≡ arrives_in row (file_in set wanted row)
      → ((target_after set.accepts v e).live ≡ Some (target_session (next_row set wanted row) [])) × ((target_after set.accepts v e).active ≡ active_in (outline_of set.start) (next_row set wanted row))
  target_row_over v e moves first more row step is live active whole =
      let end = views_after sides.Target v.end moves in
      let s = target_session row first in
      let after = target_is set.accepts v e moves (target.Turns (move_for set.accepts v s more) more) is ∙ turned_row end v s v.live more live in
      let next = row_for_is v first more row step active whole in (
        ap (λ (x : TargetView). x.live) after ∙ ap (λ (x : RowView). (target.view_turned end v x).live) next,
        ap (λ (x : TargetView). x.active) after ∙ ap (λ (x : RowView). active_in v.active x) next
            ∙ ap (λ (x : Outline). active_in x (next_row set wanted row)) (active ∙ active_stays (outline_of set.start) row (file_in set wanted row) step.goes_on),
      )

  after_request : (row : RowView) → IsAfterRequest row → (asker row ≡ sides.Target) × (loader_row row ≡ Rattle.session_rules.specs.LoaderRows.Serves_files)
  after_request (Reads_file u) h = (refl, refl)
  after_request (Writes_progress u) h = (refl, refl)
  after_request (Writes_completion e l) h = (refl, refl)
  after_request Gives_lui h = absurd h
  after_request Writes_ready h = absurd h
  after_request Awaits_lur h = absurd h
  after_request Gives_lci h = absurd h
  after_request Writes_lcs h = absurd h
  after_request Writes_lcl h = absurd h
  after_request Gives_denial h = absurd h
  after_request (Writes_stop e) h = absurd h
  after_request Over h = absurd h

  target_asks_on : (n : ℕ) (c : World) (own peer i : ℕ) (mine yours : Position) (before : List DatagramView) (more : ℕ) (row : RowView) (s : Sender) (r : Receiver) (p : PacketView) (payload : List ℕ)
      → Meets set n c sides.Target sides.Loader own peer i i mine yours before (datagram sides.Loader (peer + i) (own + i) p ∷ []) → HasRoom own peer i (suc more + 1)
      → Course set wanted loads (suc more) row → sender_in row ≡ sides.Loader → arrives_in row (file_in set wanted row) ≡ file_in set wanted row → packet_in (packet_bytes p) ≡ Some p → HoldsSender yours s
      → TakesLastBlock c sides.Target sides.Loader own peer i mine row s r p payload
      → InRow set wanted c sides.Target row (taken_of (file_in set wanted row) r) → InRow set wanted c sides.Loader row []
      → DownLeads n c sides.Loader own peer i (suc more) row r p
  target_asks_on n c own peer i mine yours before more row s r p payload m room course sends whole is held t session other =
      let file = file_in set wanted row in
      let e = Gets (peer + i) (own + i) (packet_bytes p) in
      let first = taken_of file r in
      let step = course.0 in
      let next = next_row set wanted row in
      let turn = (after_request next (step.asks sends)).0 in
      let told = c.target.end.asks_size in
      let role = role_in set wanted next told in
      let all = t.arrived ∙ sym whole in
      let row_is = row_for_is c.target first payload row step session.1 all in
      let has_room = room.own_ports in
      let asks = ap (λ (x : RowView). target.row_request c.target x) row_is ∙ target_asks set wanted c.target next m.identity step.later turn in
      let decided = at_target.over_and_asks set.accepts c.target (peer + i) (own + i) (packet_bytes p) p is (target_session row first) session.0 (TakesLast payload) payload role refl asks (t.port (omega arith)) (not_59 own i m.own_low) t.mine_is t.answers in
      let moves = Hears (peer + i) p ∷ Rattle.transfer_end.specs.Moves.Asks role ∷ [] in
      let change = target.Turns (move_for set.accepts c.target (target_session row first) payload) payload in
      let then = target_row_over c.target e moves first payload row step decided session.0 session.1 all in
      asks_early n c sides.Target sides.Loader own peer i mine yours before more row s r p payload told m room course turn sends is held t
      (target_reacts set c e own peer (i + 1) (HasAsked role) _ (target_reaches set.accepts c.target e moves change c.posts own peer (i + 1) (HasAsked role) _ decided
      (then_asks sides.Target c.target.end (Hears (peer + i) p) role c.posts own peer (i + 1) _ t.last.moved)))
      (ap (λ (x : EndView). x.kept) (target_end_is set.accepts c.target e moves change decided) ∙ t.last.kept)
      then (row_identity (target_after set.accepts c.target e) next then.1) other

  -- ---- the last block of all

  is_done : (first payload : List ℕ) (row : RowView) (live : Option LoaderSession) (ended : List Rattle.session_rules.specs.Loader.EndedSession) → live ≡ Some (loader_session set wanted row first)
      → Rattle.replay_rules.specs.Promises.HasCompleted Rattle.session_rules.specs.declared.outcome.SessionKind.TheVariants.Upload (loader.ended_by Rattle.session_rules.specs.declared.outcome.Outcome.TheVariants.Completed payload live ended)
  is_done first payload row live ended e =
      subst (λ (l : Option LoaderSession). Rattle.replay_rules.specs.Promises.HasCompleted Rattle.session_rules.specs.declared.outcome.SessionKind.TheVariants.Upload (loader.ended_by Rattle.session_rules.specs.declared.outcome.Outcome.TheVariants.Completed payload l ended)) (sym e) (refl, refl)

  loader_ends : (n : ℕ) (c : World) (own peer i : ℕ) (mine yours : Position) (before : List DatagramView) (e : Rattle.session_rules.specs.TargetRows.UploadEnd) (entries : List Rattle.disk_layout.specs.Manifest.LoadEntry) (s : Sender) (r : Receiver) (p : PacketView) (payload : List ℕ)
      → Meets set n c sides.Loader sides.Target own peer i i mine yours before (datagram sides.Target (peer + i) (own + i) p ∷ []) → HasRoom own peer i 1
      → Course set wanted loads 0 (Writes_completion e entries) → packet_in (packet_bytes p) ≡ Some p → HoldsSender yours s
      → TakesLastBlock c sides.Loader sides.Target own peer i mine (Writes_completion e entries) s r p payload
      → InRow set wanted c sides.Loader (Writes_completion e entries) (taken_of (file_in set wanted (Writes_completion e entries)) r) → InRow set wanted c sides.Target (Writes_completion e entries) []
      → DownLeads n c sides.Target own peer i 0 (Writes_completion e entries) r p
  loader_ends n c own peer i mine yours before e entries s r p payload m room course is held t session other =
      let row = Writes_completion e entries in
      let file = file_in set wanted row in
      let event = Gets (peer + i) (own + i) (packet_bytes p) in
      let c' = delivered_to set c sides.Target event in
      let d = datagram sides.Target (peer + i) (own + i) p in
      let first = taken_of file r in
      let outcome = Rattle.session_rules.specs.declared.outcome.Outcome.TheVariants.Completed in
      let next = receiver_moved r (TakesLast payload) in
      let decided = at_loader.takes_and_ends set.media c.loader (loader_session set wanted row first) session (peer + i) (own + i) (packet_bytes p) p is payload outcome
      (file_turn_is row first payload file (Rattle.session_rules.specs.LoaderRows.Comes_to outcome) t.arrived course.1) (not_59 own i m.own_low) t.mine_is t.answers in
      let moves = Hears (peer + i) p ∷ Stops ∷ [] in
      let change = loader.Ends outcome payload in
      let after = loader_is set.media c.loader event moves change decided in
      let whole : TookLastBlock file s next (receiver_packet next) = subst (λ (x : Receiver). TookLastBlock file s x (receiver_packet x)) t.next_is t.whole in
      let new = datagram sides.Loader (own + i) (peer + i) (receiver_packet next) ∷ [] in
      let reacts = loader_reacts set c event own peer (i + 1) Rests new (loader_reaches set.media c.loader event moves change c.posts own peer (i + 1) Rests new decided (then_stops sides.Loader c.loader.end (Hears (peer + i) p) c.posts own peer (i + 1) new t.last.moved)) in
      let came : CameInCourse (may_ask set sides.Loader) own peer (i + 1) Rests d = Rattle.session_completion.specs.Stages.earlier i p is (omega arith) refl refl in
      let then = meets_next set n c sides.Loader sides.Target own peer i i (i + 1) mine yours Rests before [] new (peer + i) (own + i) (packet_bytes p) m (after_end i mine) came reacts m.identity in
      let flipped = meets_flipped set (n + 1) c' sides.Loader sides.Target own peer (i + 1) i Rests yours (before ++ d ∷ []) new then in
      let placed = subst (λ (y : Position). Meets set (n + 1) c' sides.Target sides.Loader peer own i (i + 1) y Rests (before ++ d ∷ []) new) (sends_still sides.Target yours s held whole.running) flipped in
      let acked = subst (λ (q : PacketView). Meets set (n + 1) c' sides.Target sides.Loader peer own i (i + 1) (IsIn (Sends s)) Rests (before ++ d ∷ []) (datagram sides.Loader (own + i) (peer + i) q ∷ [])) t.acks placed in
      let few = t.few in
      record {
        left = 1;
        fewer = omega arith;
        stage = ending peer own i (before ++ d ∷ []) row s next acked (room_flipped own peer i 1 room) course
            (record { kept = ap (λ (x : EndView). x.kept) (loader_end_is set.media c.loader event moves change decided) ∙ t.last.kept; phase = refl; whole = subst (λ (q : PacketView). TookLastBlock file s next q) t.acks whole })
            other (
              ap (λ (v : LoaderView). v.live) after,
              subst (λ (v : LoaderView). Rattle.replay_rules.specs.Promises.HasCompleted Rattle.session_rules.specs.declared.outcome.SessionKind.TheVariants.Upload v.ended) (sym after) (is_done first payload row c.loader.live c.loader.ended session),
            );
        resets = reacts.resets;
      }

  -- ---- a packet to the receiving end is next

  took_last : (n : ℕ) (c : World) (getter poster : Side) (own peer i : ℕ) (mine yours : Position) (before : List DatagramView) (more : ℕ) (row : RowView) (s : Sender) (r : Receiver) (p : PacketView) (payload : List ℕ) → Opposite getter poster
      → Meets set n c getter poster own peer i i mine yours before (datagram poster (peer + i) (own + i) p ∷ []) → HasRoom own peer i (more + 1)
      → Course set wanted loads more row → sender_in row ≡ poster → packet_in (packet_bytes p) ≡ Some p → HoldsSender yours s → TakesLastBlock c getter poster own peer i mine row s r p payload
      → InRow set wanted c getter row (taken_of (file_in set wanted row) r) → InRow set wanted c poster row []
      → DownLeads n c poster own peer i more row r p
  took_last n c getter poster own peer i mine yours before (suc more) Gives_lui s r p payload to_loader m room course sends is held t session other =
      loader_waits n c own peer i mine yours before more Gives_lui s r p payload m room course refl refl is held t course.0.goes_on refl refl session other
  took_last n c getter poster own peer i mine yours before (suc more) Writes_ready s r p payload to_loader m room course sends is held t session other =
      loader_asks n c own peer i mine yours before more s r p payload m room course is held t session other
  took_last n c getter poster own peer i mine yours before (suc more) (Writes_progress u) s r p payload to_loader m room course sends is held t session other =
      loader_waits n c own peer i mine yours before more (Writes_progress u) s r p payload m room course refl refl is held t course.0.goes_on refl refl session other
  took_last n c getter poster own peer i mine yours before zero (Writes_completion e l) s r p payload to_loader m room course sends is held t session other =
      loader_ends n c own peer i mine yours before e l s r p payload m room course is held t session other
  took_last n c getter poster own peer i mine yours before (suc more) Awaits_lur s r p payload to_target m room course sends is held t session other =
      target_asks_on n c own peer i mine yours before more Awaits_lur s r p payload m room course refl refl is held t session other
  took_last n c getter poster own peer i mine yours before (suc more) (Reads_file u) s r p payload to_target m room course sends is held t session other =
      target_asks_on n c own peer i mine yours before more (Reads_file u) s r p payload m room course refl refl is held t session other
  took_last n c getter poster own peer i mine yours before more Awaits_lur s r p payload to_loader m room course sends is held t session other = absurd cc
  took_last n c getter poster own peer i mine yours before more (Reads_file u) s r p payload to_loader m room course sends is held t session other = absurd cc
  took_last n c getter poster own peer i mine yours before more Gives_lui s r p payload to_target m room course sends is held t session other = absurd cc
  took_last n c getter poster own peer i mine yours before more Writes_ready s r p payload to_target m room course sends is held t session other = absurd cc
  took_last n c getter poster own peer i mine yours before more (Writes_progress u) s r p payload to_target m room course sends is held t session other = absurd cc
  took_last n c getter poster own peer i mine yours before more (Writes_completion e l) s r p payload to_target m room course sends is held t session other = absurd cc
  took_last n c getter poster own peer i mine yours before (suc more) (Writes_completion e l) s r p payload opp m room course sends is held t session other = absurd course.0.goes_on
  took_last n c getter poster own peer i mine yours before zero Gives_lui s r p payload opp m room course sends is held t session other = absurd course
  took_last n c getter poster own peer i mine yours before zero Writes_ready s r p payload opp m room course sends is held t session other = absurd course
  took_last n c getter poster own peer i mine yours before zero (Writes_progress u) s r p payload opp m room course sends is held t session other = absurd course
  took_last n c getter poster own peer i mine yours before zero Awaits_lur s r p payload opp m room course sends is held t session other = absurd course
  took_last n c getter poster own peer i mine yours before zero (Reads_file u) s r p payload opp m room course sends is held t session other = absurd course
  took_last n c getter poster own peer i mine yours before more Gives_lci s r p payload opp m room course sends is held t session other = absurd (in_course more Gives_lci course)
  took_last n c getter poster own peer i mine yours before more Writes_lcs s r p payload opp m room course sends is held t session other = absurd (in_course more Writes_lcs course)
  took_last n c getter poster own peer i mine yours before more Writes_lcl s r p payload opp m room course sends is held t session other = absurd (in_course more Writes_lcl course)
  took_last n c getter poster own peer i mine yours before more Gives_denial s r p payload opp m room course sends is held t session other = absurd (in_course more Gives_denial course)
  took_last n c getter poster own peer i mine yours before more (Writes_stop e) s r p payload opp m room course sends is held t session other = absurd (in_course more (Writes_stop e) course)
  took_last n c getter poster own peer i mine yours before more Over s r p payload opp m room course sends is held t session other = absurd (in_course more Over course)

  pub step_down : (n : ℕ) (c : World) (getter poster : Side) (own peer i : ℕ) (mine yours : Position) (before : List DatagramView) (more : ℕ) (row : RowView) (s : Sender) (r : Receiver) (p : PacketView) (a : Answer)
      → Meets set n c getter poster own peer i i mine yours before (datagram poster (peer + i) (own + i) p ∷ []) → HasRoom own peer i (more + 1)
      → Course set wanted loads more row → sender_in row ≡ poster → packet_in (packet_bytes p) ≡ Some p → receiver_answer r p ≡ a → GoesOnAtReceiver (file_in set wanted row) s r p a → HoldsReceiver mine r → HoldsSender yours s
      → InRow set wanted c getter row (taken_of (file_in set wanted row) r) → InRow set wanted c poster row []
      → DownLeads n c poster own peer i more row r p
  step_down n c getter poster own peer i mine yours before more row s r p (Grants x) m room course sends is answers goes holds held session other =
      let small = taken_is_small (file_in set wanted row) s (receiver_moved r (Grants x)) false (receiver_packet (receiver_moved r (Grants x))) goes.talk in
      let (reacts, then, id) = hears_going c getter poster own peer i mine row (Receives r) p (Grants x) (taken_of (file_in set wanted row) r) m.opposite m.identity m.own_low m.me (holds_receiver mine r holds) is answers tt (refl, small) (fine_of more row course).summed session in
      receiver_went_on n c getter poster own peer i mine yours before more row s r (receiver_moved r (Grants x)) p [] m room course sends is goes holds held reacts then id other
  step_down n c getter poster own peer i mine yours before more row s r p (TakesBlock b) m room course sends is answers goes holds held session other =
      let small = taken_is_small (file_in set wanted row) s (receiver_moved r (TakesBlock b)) false (receiver_packet (receiver_moved r (TakesBlock b))) goes.talk in
      let (reacts, then, id) = hears_going c getter poster own peer i mine row (Receives r) p (TakesBlock b) (taken_of (file_in set wanted row) r) m.opposite m.identity m.own_low m.me (holds_receiver mine r holds) is answers tt (refl, small) (fine_of more row course).summed session in
      receiver_went_on n c getter poster own peer i mine yours before more row s r (receiver_moved r (TakesBlock b)) p b m room course sends is goes holds held reacts then id other
  step_down n c getter poster own peer i mine yours before more row s r p (TakesLast b) m room course sends is answers goes holds held session other =
      took_last n c getter poster own peer i mine yours before more row s r p b m.opposite m room course sends is held (takes_last_block c getter poster own peer i mine row s r p b m.me answers goes holds) session other
  step_down n c getter poster own peer i mine yours before more row s r p Proceeds m room course sends is answers goes holds held session other = absurd goes
  step_down n c getter poster own peer i mine yours before more row s r p Completes m room course sends is answers goes holds held session other = absurd goes
  step_down n c getter poster own peer i mine yours before more row s r p Dropped m room course sends is answers goes holds held session other = absurd goes
  step_down n c getter poster own peer i mine yours before more row s r p Again m room course sends is answers goes holds held session other = absurd goes
  step_down n c getter poster own peer i mine yours before more row s r p (Fails code) m room course sends is answers goes holds held session other = absurd goes

  -- ---- the acknowledgement of the last block

  is_last_ack : (s : Sender) (file : List ℕ) (r : Receiver) → TookLastBlock file s r (Ack s.sent) → sender_answer s (Ack s.sent) ≡ Completes
  is_last_ack s file r whole =
      let e : s.sent ≡ Rattle.tftp_link.specs.Sender.last_of s = whole.last ∙ ap (λ (f : List ℕ). Rattle.tftp_link.specs.Negotiation.block_count (length f) s.size) (sym whole.of_file) in
      rw (whole.running, eq_true s.sent s.sent refl, eq_true s.sent (Rattle.tftp_link.specs.Sender.last_of s) e) refl

  ack_read : (s : Sender) (file : List ℕ) (r : Receiver) → TookLastBlock file s r (Ack s.sent) → packet_in (packet_bytes (Ack s.sent)) ≡ Some (Ack s.sent)
  ack_read s file r whole = let few = whole.fits.few in let l = whole.last in written_is_read (Ack s.sent) (omega arith) tt

  -- where the other end has asked already, nothing is posted
  abbrev EarlyLeads : (n : ℕ) (c : World) (poster : Side) (own peer i : ℕ) (budget : ℕ) (s : Sender) → Type 0
  EarlyLeads n c poster own peer i budget s =
      Leads n c budget poster (Gets (peer + i) (own + i) (packet_bytes (Ack s.sent))) × ((delivered_to set c poster (Gets (peer + i) (own + i) (packet_bytes (Ack s.sent)))).posts ≡ c.posts)

  abbrev AckLeads : (n : ℕ) (c : World) (poster : Side) (own peer i : ℕ) (budget : ℕ) (s : Sender) → Type 0
  AckLeads n c poster own peer i budget s = Leads n c budget poster (Gets (peer + i) (own + i) (packet_bytes (Ack s.sent)))

  room_after : (own peer i k : ℕ) → HasRoom own peer i (k + 2) → HasRoom own peer (i + 1) (k + 1)
  room_after own peer i k room = let a = room.own_ports in let b = room.peer_ports in record { own_ports = omega arith; peer_ports = omega arith }

  nothing_arrives : (row : RowView) (file : List ℕ) → sender_in row ≡ sides.Target → [] ≡ arrives_in row file
  nothing_arrives Gives_lui file e = refl
  nothing_arrives Writes_ready file e = refl
  nothing_arrives (Writes_progress u) file e = refl
  nothing_arrives (Writes_completion x l) file e = refl
  nothing_arrives Gives_lci file e = refl
  nothing_arrives Writes_lcs file e = refl
  nothing_arrives Writes_lcl file e = refl
  nothing_arrives Gives_denial file e = refl
  nothing_arrives (Writes_stop x) file e = refl
  nothing_arrives Over file e = refl
  nothing_arrives Awaits_lur file e = absurd cc
  nothing_arrives (Reads_file u) file e = absurd cc

  -- the target asks then
  pub step_closing : (n : ℕ) (c : World) (getter poster : Side) (own peer i : ℕ) (before : List DatagramView) (more : ℕ) (row : RowView) (s : Sender) (r : Receiver) → Opposite getter poster
      → Meets set n c getter poster own peer i (i + 1) (IsIn (Sends s)) Rests before (datagram poster (peer + i) (own + i) (Ack s.sent) ∷ []) → HasRoom own peer i (more + 2)
      → sender_in row ≡ getter → IsStep set wanted row → Course set wanted loads more (next_row set wanted row) → asker (next_row set wanted row) ≡ getter → KeepsWhole c poster own peer i (file_in set wanted row) s r
      → InRow set wanted c getter row [] → InRow set wanted c poster (next_row set wanted row) []
      → AckLeads n c poster own peer i (cost set wanted more (next_row set wanted row) + 1) s
  step_closing n c getter poster own peer i before more row s r to_loader m room sends step course turn keeps session other = absurd (apart (sym turn ∙ (after_request (next_row set wanted row) (step.asks sends)).0))
    where
      apart : ◌≡◌ {A = Side} sides.Loader sides.Target → ⊥
      apart e = absurd cc
  step_closing n c getter poster own peer i before more row s r to_target m room sends step course turn keeps session other =
      let p = Ack s.sent in
      let file = file_in set wanted row in
      let e = Gets (peer + i) (own + i) (packet_bytes p) in
      let c' = delivered_to set c sides.Loader e in
      let d = datagram sides.Loader (peer + i) (own + i) p in
      let is = ack_read s file r keeps.whole in
      let answers = is_last_ack s file r keeps.whole in
      let next = next_row set wanted row in
      let told = c.target.end.asks_size in
      let role = role_in set wanted next told in
      let none = nothing_arrives row file sends in
      let row_is = row_for_is c.target [] [] row step session.1 none in
      let holds = holds_sender (IsIn (Sends s)) s (inl refl) in
      let has_room = room.own_ports in
      let asks = ap (λ (x : RowView). target.row_request c.target x) row_is ∙ target_asks set wanted c.target next m.identity step.later turn in
      let says = answers_so sides.Target c.posts own peer i (IsIn (Sends s)) (Sends s) c.target.end p holds m.me ∙ answers in
      let port = lt_true c.target.end.next_port 65536 (next_port sides.Target c.posts own peer i (IsIn (Sends s)) (Sends s) c.target.end holds m.me (omega arith)) in
      let decided = at_target.over_and_asks set.accepts c.target (peer + i) (own + i) (packet_bytes p) p is (target_session row []) session.0 Completes [] role refl asks port (not_59 own i m.own_low)
      (is_mine sides.Target c.posts own peer i (IsIn (Sends s)) (Sends s) c.target.end holds m.me) says in
      let moves = Hears (peer + i) p ∷ Rattle.transfer_end.specs.Moves.Asks role ∷ [] in
      let change = target.Turns (move_for set.accepts c.target (target_session row []) []) [] in
      let then = target_row_over c.target e moves [] [] row step decided session.0 session.1 none in
      let new = request sides.Target (own + (i + 1)) role ∷ [] in
      let reacts = target_reacts set c e own peer (i + 1) (HasAsked role) new (target_reaches set.accepts c.target e moves change c.posts own peer (i + 1) (HasAsked role) new decided
      (then_asks sides.Target c.target.end (Hears (peer + i) p) role c.posts own peer (i + 1) [] (hears_done sides.Target c.posts own peer i c.target.end s p answers m.me))) in
      let came : CameInCourse (may_ask set sides.Target) own peer (i + 1) (HasAsked role) d = Rattle.session_completion.specs.Stages.earlier i p is (omega arith) refl refl in
      let met = meets_next set n c sides.Target sides.Loader own peer i (i + 1) (i + 1) (IsIn (Sends s)) Rests (HasAsked role) before [] new (peer + i) (own + i) (packet_bytes p) m (after_asking i (IsIn (Sends s)) role) came reacts (row_identity (target_after set.accepts c.target e) next then.1) in
      record {
        left = cost set wanted more next;
        fewer = omega arith;
        stage = asked sides.Loader sides.Target peer own (i + 1) (before ++ d ∷ []) more next told
            (meets_flipped set (n + 1) c' sides.Target sides.Loader own peer (i + 1) (i + 1) (HasAsked role) Rests (before ++ d ∷ []) new met)
            (room_flipped own peer (i + 1) (more + 1) (room_after own peer i more room)) course turn other (row_before c' next step.later then);
        resets = reacts.resets;
      }

  -- the other end has asked already
  early_target : (n : ℕ) (c : World) (own peer i : ℕ) (before : List DatagramView) (more : ℕ) (row : RowView) (s : Sender) (r : Receiver) (told : Option ℕ)
      → Meets set n c sides.Target sides.Loader own peer i (i + 1) (IsIn (Sends s)) (HasAsked (role_in set wanted (next_row set wanted row) told)) before
      (datagram sides.Loader (peer + i) (own + i) (Ack s.sent) ∷ request sides.Loader (peer + (i + 1)) (role_in set wanted (next_row set wanted row) told) ∷ []) → HasRoom own peer i (more + 2)
      → sender_in row ≡ sides.Target → IsStep set wanted row → Course set wanted loads more (next_row set wanted row) → asker (next_row set wanted row) ≡ sides.Loader
      → ((v : TargetView) → ◌≡◌ {A = Option Role} (target.row_request v (next_row set wanted row)) None) → target.is_over (next_row set wanted row) ≡ false → KeepsWhole c sides.Loader own peer i (file_in set wanted row) s r
      → InRow set wanted c sides.Target row [] → InRow set wanted c sides.Loader (next_row set wanted row) []
      → EarlyLeads n c sides.Loader own peer i (cost set wanted more (next_row set wanted row) + 1) s
  early_target n c own peer i before more row s r told m room sends step course turn waits goes keeps session other =
      let p = Ack s.sent in
      let file = file_in set wanted row in
      let e = Gets (peer + i) (own + i) (packet_bytes p) in
      let c' = delivered_to set c sides.Loader e in
      let d = datagram sides.Loader (peer + i) (own + i) p in
      let is = ack_read s file r keeps.whole in
      let answers = is_last_ack s file r keeps.whole in
      let next = next_row set wanted row in
      let role = role_in set wanted next told in
      let none = nothing_arrives row file sends in
      let row_is = row_for_is c.target [] [] row step session.1 none in
      let holds = holds_sender (IsIn (Sends s)) s (inl refl) in
      let says = answers_so sides.Target c.posts own peer i (IsIn (Sends s)) (Sends s) c.target.end p holds m.me ∙ answers in
      let decided = at_target.over_and_waits set.accepts c.target (peer + i) (own + i) (packet_bytes p) p is (target_session row []) session.0 Completes [] refl (ap (λ (x : RowView). target.row_request c.target x) row_is ∙ waits c.target)
      (ap (λ (x : RowView). target.is_over x) row_is ∙ goes) (not_59 own i m.own_low) (is_mine sides.Target c.posts own peer i (IsIn (Sends s)) (Sends s) c.target.end holds m.me) says in
      let moves = Hears (peer + i) p ∷ [] in
      let change = target.Turns (move_for set.accepts c.target (target_session row []) []) [] in
      let then = target_row_over c.target e moves [] [] row step decided session.0 session.1 none in
      let reacts = target_reacts set c e own peer (i + 1) Rests [] (target_reaches set.accepts c.target e moves change c.posts own peer (i + 1) Rests [] decided (hears_done sides.Target c.posts own peer i c.target.end s p answers m.me)) in
      let came : CameInCourse (may_ask set sides.Target) own peer (i + 1) Rests d = Rattle.session_completion.specs.Stages.earlier i p is (omega arith) refl refl in
      let met = meets_next set n c sides.Target sides.Loader own peer i (i + 1) (i + 1) (IsIn (Sends s)) (HasAsked role) Rests before (request sides.Loader (peer + (i + 1)) role ∷ []) [] (peer + i) (own + i) (packet_bytes p) m (after_end i (IsIn (Sends s))) came reacts
      (row_identity (target_after set.accepts c.target e) next then.1) in (
        record {
          left = cost set wanted more next;
          fewer = omega arith;
          stage = asked sides.Target sides.Loader own peer (i + 1) (before ++ d ∷ []) more next told met (room_after own peer i more room) course turn other (row_before c' next step.later then);
          resets = reacts.resets;
        },
        reacts.posts ∙ append-nil c.posts,
      )

  early_loader : (n : ℕ) (c : World) (own peer i : ℕ) (before : List DatagramView) (more : ℕ) (row : RowView) (s : Sender) (r : Receiver) (told : Option ℕ)
      → Meets set n c sides.Loader sides.Target own peer i (i + 1) (IsIn (Sends s)) (HasAsked (role_in set wanted (next_row set wanted row) told)) before
      (datagram sides.Target (peer + i) (own + i) (Ack s.sent) ∷ request sides.Target (peer + (i + 1)) (role_in set wanted (next_row set wanted row) told) ∷ []) → HasRoom own peer i (more + 2)
      → IsStep set wanted row → Course set wanted loads more (next_row set wanted row) → asker (next_row set wanted row) ≡ sides.Target
      → ◌≡◌ {A = Option Role} (loader.row_request c.loader.end.asks_size (Rattle.session_completion.specs.Stages.starting set wanted) (row_after (loader_row row))) None
      → row_after (loader_row row) ≡ loader_row (next_row set wanted row) → KeepsWhole c sides.Target own peer i (file_in set wanted row) s r
      → InRow set wanted c sides.Loader row [] → InRow set wanted c sides.Target (next_row set wanted row) []
      → EarlyLeads n c sides.Target own peer i (cost set wanted more (next_row set wanted row) + 1) s
  early_loader n c own peer i before more row s r told m room step course turn waits loaders keeps session other =
      let p = Ack s.sent in
      let file = file_in set wanted row in
      let e = Gets (peer + i) (own + i) (packet_bytes p) in
      let c' = delivered_to set c sides.Target e in
      let d = datagram sides.Target (peer + i) (own + i) p in
      let is = ack_read s file r keeps.whole in
      let answers = is_last_ack s file r keeps.whole in
      let next = next_row set wanted row in
      let role = role_in set wanted next told in
      let holds = holds_sender (IsIn (Sends s)) s (inl refl) in
      let says = answers_so sides.Loader c.posts own peer i (IsIn (Sends s)) (Sends s) c.loader.end p holds m.me ∙ answers in
      let decided = at_loader.sent_and_waits set.media c.loader (loader_session set wanted row []) session (peer + i) (own + i) (packet_bytes p) p is waits (not_59 own i m.own_low) (is_mine sides.Loader c.posts own peer i (IsIn (Sends s)) (Sends s) c.loader.end holds m.me) says in
      let moves = Hears (peer + i) p ∷ [] in
      let reacts = loader_reacts set c e own peer (i + 1) Rests [] (loader_reaches set.media c.loader e moves loader.Advances c.posts own peer (i + 1) Rests [] decided (hears_done sides.Loader c.posts own peer i c.loader.end s p answers m.me)) in
      let came : CameInCourse (may_ask set sides.Loader) own peer (i + 1) Rests d = Rattle.session_completion.specs.Stages.earlier i p is (omega arith) refl refl in
      let met = meets_next set n c sides.Loader sides.Target own peer i (i + 1) (i + 1) (IsIn (Sends s)) (HasAsked role) Rests before (request sides.Target (peer + (i + 1)) role ∷ []) [] (peer + i) (own + i) (packet_bytes p) m (after_end i (IsIn (Sends s))) came reacts m.identity in (
        record {
          left = cost set wanted more next;
          fewer = omega arith;
          stage = asked sides.Loader sides.Target own peer (i + 1) (before ++ d ∷ []) more next told met (room_after own peer i more room) course turn (loader_row_over c e moves [] row next decided session loaders) (row_before c' next step.later other);
          resets = reacts.resets;
        },
        reacts.posts ∙ append-nil c.posts,
      )

  pub step_early : (n : ℕ) (c : World) (getter poster : Side) (own peer i : ℕ) (before : List DatagramView) (more : ℕ) (row : RowView) (s : Sender) (r : Receiver) (told : Option ℕ) → Opposite getter poster
      → Meets set n c getter poster own peer i (i + 1) (IsIn (Sends s)) (HasAsked (role_in set wanted (next_row set wanted row) told)) before
      (datagram poster (peer + i) (own + i) (Ack s.sent) ∷ request poster (peer + (i + 1)) (role_in set wanted (next_row set wanted row) told) ∷ []) → HasRoom own peer i (more + 2)
      → sender_in row ≡ getter → IsStep set wanted row → Course set wanted loads more (next_row set wanted row) → asker (next_row set wanted row) ≡ poster → KeepsWhole c poster own peer i (file_in set wanted row) s r
      → InRow set wanted c getter row [] → InRow set wanted c poster (next_row set wanted row) []
      → EarlyLeads n c poster own peer i (cost set wanted more (next_row set wanted row) + 1) s
  step_early n c getter poster own peer i before more Writes_ready s r told to_target m room sends step course turn keeps session other =
      early_target n c own peer i before more Writes_ready s r told m room refl step course refl (λ v. refl) refl keeps session other
  step_early n c getter poster own peer i before more Awaits_lur s r told to_loader m room sends step course turn keeps session other =
      early_loader n c own peer i before more Awaits_lur s r told m room step course turn refl (sym (after_request (next_row set wanted Awaits_lur) (step.asks refl)).1) keeps session other
  step_early n c getter poster own peer i before more (Reads_file u) s r told to_loader m room sends step course turn keeps session other =
      early_loader n c own peer i before more (Reads_file u) s r told m room step course turn refl (sym (after_request (next_row set wanted (Reads_file u)) (step.asks refl)).1) keeps session other
  step_early n c getter poster own peer i before more Gives_lui s r told to_target m room sends step course turn keeps session other = absurd cc
  step_early n c getter poster own peer i before more (Writes_progress u) s r told to_target m room sends step course turn keeps session other = absurd cc
  step_early n c getter poster own peer i before more Awaits_lur s r told to_target m room sends step course turn keeps session other = absurd cc
  step_early n c getter poster own peer i before more (Reads_file u) s r told to_target m room sends step course turn keeps session other = absurd cc
  step_early n c getter poster own peer i before more Gives_lui s r told to_loader m room sends step course turn keeps session other = absurd cc
  step_early n c getter poster own peer i before more Writes_ready s r told to_loader m room sends step course turn keeps session other = absurd cc
  step_early n c getter poster own peer i before more (Writes_progress u) s r told to_loader m room sends step course turn keeps session other = absurd cc
  step_early n c getter poster own peer i before more (Writes_completion e l) s r told opp m room sends step course turn keeps session other = absurd step.goes_on
  step_early n c getter poster own peer i before more Gives_lci s r told opp m room sends step course turn keeps session other = absurd step.goes_on
  step_early n c getter poster own peer i before more Writes_lcs s r told opp m room sends step course turn keeps session other = absurd step.goes_on
  step_early n c getter poster own peer i before more Writes_lcl s r told opp m room sends step course turn keeps session other = absurd step.goes_on
  step_early n c getter poster own peer i before more Gives_denial s r told opp m room sends step course turn keeps session other = absurd step.goes_on
  step_early n c getter poster own peer i before more (Writes_stop e) s r told opp m room sends step course turn keeps session other = absurd step.goes_on
  step_early n c getter poster own peer i before more Over s r told opp m room sends step course turn keeps session other = absurd step.goes_on

  -- and the last acknowledgement of all
  ended : (n : ℕ) (c : World) (own peer i : ℕ) (before : List DatagramView) (x : Rattle.session_rules.specs.TargetRows.UploadEnd) (entries : List Rattle.disk_layout.specs.Manifest.LoadEntry) (s : Sender) (r : Receiver)
      → Meets set n c sides.Target sides.Loader own peer i (i + 1) (IsIn (Sends s)) Rests before (datagram sides.Loader (peer + i) (own + i) (Ack s.sent) ∷ [])
      → Course set wanted loads 0 (Writes_completion x entries) → KeepsWhole c sides.Loader own peer i (file_in set wanted (Writes_completion x entries)) s r
      → InRow set wanted c sides.Target (Writes_completion x entries) [] → LoaderIsDone c.loader
      → AckLeads n c sides.Loader own peer i 1 s
  ended n c own peer i before x entries s r m course keeps session other =
      let p = Ack s.sent in
      let row = Writes_completion x entries in
      let file = file_in set wanted row in
      let e = Gets (peer + i) (own + i) (packet_bytes p) in
      let d = datagram sides.Loader (peer + i) (own + i) p in
      let is = ack_read s file r keeps.whole in
      let answers = is_last_ack s file r keeps.whole in
      let holds = holds_sender (IsIn (Sends s)) s (inl refl) in
      let says = answers_so sides.Target c.posts own peer i (IsIn (Sends s)) (Sends s) c.target.end p holds m.me ∙ answers in
      let decided = at_target.over_and_ends set.accepts c.target (peer + i) (own + i) (packet_bytes p) p is (target_session row []) session.0 Completes [] refl refl refl (not_59 own i m.own_low)
      (is_mine sides.Target c.posts own peer i (IsIn (Sends s)) (Sends s) c.target.end holds m.me) says in
      let moves = Hears (peer + i) p ∷ Stops ∷ [] in
      let change = target.Ends None in
      let after = target_is set.accepts c.target e moves change decided in
      let active = ap (λ (v : TargetView). v.active) after ∙ session.1 in
      let reacts = target_reacts set c e own peer (i + 1) Rests [] (target_reaches set.accepts c.target e moves change c.posts own peer (i + 1) Rests [] decided
      (then_stops sides.Target c.target.end (Hears (peer + i) p) c.posts own peer (i + 1) [] (hears_done sides.Target c.posts own peer i c.target.end s p answers m.me))) in
      let came : CameInCourse (may_ask set sides.Target) own peer (i + 1) Rests d = Rattle.session_completion.specs.Stages.earlier i p is (omega arith) refl refl in
      let met = meets_next set n c sides.Target sides.Loader own peer i (i + 1) (i + 1) (IsIn (Sends s)) Rests Rests before [] [] (peer + i) (own + i) (packet_bytes p) m (after_end i (IsIn (Sends s))) came reacts (row_identity (target_after set.accepts c.target e) row active) in
      record {
        left = 0;
        fewer = omega arith;
        stage = over own peer i (before ++ d ∷ []) met other (ap (λ (v : TargetView). v.live) after) (active ∙ ap (λ (entries : List Rattle.disk_layout.specs.Manifest.LoadEntry). outline_after (outline_of set.start) entries) course.2 ∙ sym (installed_same set.start loads));
        resets = reacts.resets;
      }

  pub step_ending : (n : ℕ) (c : World) (own peer i : ℕ) (before : List DatagramView) (row : RowView) (s : Sender) (r : Receiver)
      → Meets set n c sides.Target sides.Loader own peer i (i + 1) (IsIn (Sends s)) Rests before (datagram sides.Loader (peer + i) (own + i) (Ack s.sent) ∷ [])
      → Course set wanted loads 0 row → KeepsWhole c sides.Loader own peer i (file_in set wanted row) s r → InRow set wanted c sides.Target row [] → LoaderIsDone c.loader
      → AckLeads n c sides.Loader own peer i 1 s
  step_ending n c own peer i before (Writes_completion x entries) s r m course keeps session other = ended n c own peer i before x entries s r m course keeps session other
  step_ending n c own peer i before Gives_lui s r m course keeps session other = absurd course
  step_ending n c own peer i before Writes_ready s r m course keeps session other = absurd course
  step_ending n c own peer i before Awaits_lur s r m course keeps session other = absurd course
  step_ending n c own peer i before (Reads_file u) s r m course keeps session other = absurd course
  step_ending n c own peer i before (Writes_progress u) s r m course keeps session other = absurd course
  step_ending n c own peer i before Gives_lci s r m course keeps session other = absurd course
  step_ending n c own peer i before Writes_lcs s r m course keeps session other = absurd course
  step_ending n c own peer i before Writes_lcl s r m course keeps session other = absurd course
  step_ending n c own peer i before Gives_denial s r m course keeps session other = absurd course
  step_ending n c own peer i before (Writes_stop e) s r m course keeps session other = absurd course
  step_ending n c own peer i before Over s r m course keeps session other = absurd course
