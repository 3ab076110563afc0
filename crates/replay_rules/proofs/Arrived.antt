-- The file that ends a session of the loader arrived whole, from a transfer of the target.
use Rattle.std.proofs.Common.{◌≡◌, ◌⊎◌, inl, inr, ℕ, true, false, List, [], ◌∷◌, ◌++◌, Option, Some, None, refl, sym, ap, subst, ◌∙◌, append-nil}
use Rattle.field_grammar.specs.Grammar.{IsBytes}
use Rattle.exchange_trace.specs.declared.trace.Side.TheVariants as sides
use Rattle.exchange_trace.specs.Logs.{Event, Learns, event_for, logged, loader_log}
use Rattle.exchange_trace.specs.Posts.{posted_in}
use Rattle.exchange_trace.specs.Steps.{Step}
use Rattle.transfer_end.specs.Moves.{past_with}
use Rattle.transfer_end.specs.OtherEnds.{Among, AnswersRequest, ComesFromEnd, TellsLength, file_sent, is_asking, is_receiving, of_end, of_none}
use Rattle.transfer_end.specs.Readings.{Reading}
use Rattle.transfer_end.specs.Transfers.{Transfer, arrived_of, arriving_in, end_in, is_received}
use Rattle.session_rules.specs.declared.outcome.FileKind.{FileKind}
use Rattle.session_rules.specs.declared.outcome.Outcome.{Outcome}
use Rattle.session_rules.specs.declared.outcome.Outcome.TheVariants.{BadFile}
use Rattle.session_rules.proofs.BufferLemmas.{SumsJoin, buffered_on}
use Rattle.session_rules.specs.Buffers.{Buffer, buffered, buffered_more}
use Rattle.session_rules.proofs.CompletionLemmas.{last_received}
use Rattle.session_rules.proofs.HeardLemmas.{loader_takes_what_came}
use Rattle.session_rules.specs.LoaderLog.{LoaderReading, loader_extended, loader_reading, newest}
use Rattle.session_rules.proofs.LoaderRoleLemmas.{arrived_last, longer, whole_prefix}
use Rattle.session_rules.specs.LoaderRoles.{loader_row}
use Rattle.session_rules.specs.LoaderRows.{Comes_to, bytes_turn, file_turn}
use Rattle.session_rules.proofs.SoundLogLemmas.{PayloadsAreBytes, newest_bytes}
use Rattle.session_rules.specs.SoundLogs.{LogIsBytes}
use Rattle.replay_rules.specs.BothEnds.{Setting, TargetStanding, loader_at, reached, target_at}
use Rattle.replay_rules.specs.Changes.{AllStayOrAreNew}
use Rattle.replay_rules.specs.OtherEndTraces.{AllArriveAsSent, IsUninjected, WhatArrivesWasSent, former_at, loader_transfers, target_transfers, transfers_of}
use Rattle.replay_rules.proofs.NewestStart.{asks_not}
use Rattle.replay_rules.specs.Causes.{EndsAs, IsOutcomeOfFile}
use Rattle.replay_rules.proofs.FileEnds.{EndedByFile, ended_by_file}
use Rattle.replay_rules.proofs.ListedTraces.{false_is_true, only_loader, reached_none}
use Rattle.replay_rules.proofs.Replies.{not_too_long}
use Rattle.replay_rules.proofs.TargetFiles.{BeginsWell}
use Rattle.replay_rules.proofs.TargetTells.{IsToldCause, told_cause}
use Rattle.replay_rules.proofs.ToldTraces.{loader_log_bytes}

-- ---- the file that ends a session

-- The file that ended the session is one that the target gave or wrote.
pub record EndedByTarget (set : Setting) (s : Step) (earlier : List Step) (outcome : Outcome) : Type 0 where
  pub event : Event
  pub comes : event_for sides.Loader (posted_in earlier) s.given ≡ Some event
  pub alone : event_for sides.Target (posted_in earlier) s.given ≡ None
  pub arrived : EndedByFile set.media (loader_at set earlier) event outcome
  pub bytes : List ℕ
  pub fit : IsBytes bytes
  pub turn : ((kind : FileKind) (offset : ℕ) → BadFile kind offset ≡ outcome → ⊥) → bytes_turn (loader_row arrived.ends.session) bytes ≡ Comes_to outcome
  pub comes_to : file_turn (loader_row arrived.ends.session) (buffered bytes) ≡ Comes_to outcome
  pub other : Transfer
  pub port : arrived.ends.transfer.peer ≡ Some other.own
  pub receives : is_receiving arrived.ends.live.role ≡ true
  pub serves : is_asking arrived.ends.live.role ≡ true → is_asking other.role ≡ false
  pub answers : is_asking arrived.ends.live.role ≡ false → AnswersRequest arrived.ends.transfer other
  pub among : Among other (transfers_of (target_at set earlier) ++ former_at set earlier)
  pub file : List ℕ
  pub sent : file_sent other.role ≡ Some file
  pub cause : IsToldCause set earlier other.role
  pub whole : TellsLength other.role → bytes ≡ file

module _ (joins : SumsJoin) (payloads : PayloadsAreBytes) (arrives : WhatArrivesWasSent) (set : Setting) (hw : BeginsWell set.start.identity.hw) (s : Step) (earlier : List Step) (is : IsUninjected set (s ∷ earlier)) (changes : AllStayOrAreNew set earlier)
    (outcome : Outcome) where
  module _ (e : Event) (comes : event_for sides.Loader (posted_in earlier) s.given ≡ Some e) (alone : event_for sides.Target (posted_in earlier) s.given ≡ None) (h : EndedByFile set.media (loader_at set earlier) e outcome) where
    abbrev r : LoaderReading
    r = loader_at set earlier

    abbrev ended : Transfer
    ended = h.ends.transfer

    receives : (is_receiving ended.role ≡ true) × (is_received (end_in ended) ≡ true)
    receives = subst (λ (t : Transfer). (is_receiving t.role ≡ true) × (is_received (end_in t) ≡ true)) (sym h.ends.is) (last_received h.ends.live.role h.ends.live.got h.ends.packet h.more h.last)

    sent : AllArriveAsSent set (s ∷ earlier)
    sent = arrives set (s ∷ earlier) is

    abbrev then : Reading
    then = (loader_extended set.media r e).end

    among_then : Among ended (past_with then.live then.past ++ [])
    among_then = subst (λ (ts : List Transfer). Among ended ts) (sym (append-nil (past_with then.live then.past))) (subst (λ (live : Option Transfer). Among ended (past_with live then.past)) (sym h.ends.free) (subst (λ (ts : List Transfer). Among ended ts) (sym h.ends.past) (inl refl)))

    among : Among ended (loader_transfers set (s ∷ earlier))
    among = subst (λ (x : Option Event). Among ended (past_with (loader_reading set.media (logged x (loader_log earlier))).end.live (loader_reading set.media (logged x (loader_log earlier))).end.past ++ [])) (sym comes) among_then

    file_fits : IsBytes (arrived_of ended)
    file_fits =
        newest_bytes payloads (e ∷ loader_log earlier) then ended (subst (λ (x : Option Event). LogIsBytes (logged x (loader_log earlier))) comes (loader_log_bytes (s ∷ earlier) is.carries))
        (loader_takes_what_came set.media (e ∷ loader_log earlier)).0 (ap newest h.ends.past)

    arrived_now : arrived_of h.ends.live ++ h.more ≡ arrived_of ended
    arrived_now = sym (arrived_last h.ends.live h.ends.from h.ends.packet h.more h.last) ∙ ap arrived_of (sym h.ends.is)

    comes_now : file_turn (loader_row h.ends.session) (buffered (arrived_of ended)) ≡ Comes_to outcome
    comes_now =
        ap (λ (b : Buffer). file_turn (loader_row h.ends.session) b)
        (ap buffered (sym arrived_now) ∙ (sym (buffered_on (arrived_of h.ends.live) h.more) ∙ ap (λ (x : List ℕ). buffered_more (buffered x) h.more) (sym (ap arriving_in h.ends.going))))
        ∙ h.turn

    serves_then : (u : Transfer) → AnswersRequest ended u ⊎ AnswersRequest u ended → is_asking h.ends.live.role ≡ true → is_asking u.role ≡ false
    serves_then u (inl x) asks = asks_not _ h.ends.live.role asks (sym (ap (λ (t : Transfer). is_asking t.role) h.ends.is) ∙ x.serves)
    serves_then u (inr x) asks = x.serves

    answers_then : (u : Transfer) → AnswersRequest ended u ⊎ AnswersRequest u ended → is_asking h.ends.live.role ≡ false → AnswersRequest ended u
    answers_then u (inl x) serves = x
    answers_then u (inr x) serves = asks_not _ ended.role x.asks (ap (λ (t : Transfer). is_asking t.role) h.ends.is ∙ serves)

    turned : ((kind : FileKind) (offset : ℕ) → BadFile kind offset ≡ outcome → ⊥) → bytes_turn (loader_row h.ends.session) (arrived_of ended) ≡ Comes_to outcome
    turned none_bad =
        let (short, turn) = not_too_long (loader_row h.ends.session) (buffered_more (buffered (arriving_in r.end.live)) h.more) outcome none_bad h.turn in
        let arriving : arriving_in r.end.live ≡ arrived_of h.ends.live = ap arriving_in h.ends.going in
        let bytes : (buffered_more (buffered (arriving_in r.end.live)) h.more).prefix ≡ arrived_of ended =
        whole_prefix (arriving_in r.end.live) h.more short ∙ (ap (λ (x : List ℕ). x ++ h.more) arriving ∙ (sym (arrived_last h.ends.live h.ends.from h.ends.packet h.more h.last) ∙ ap arrived_of (sym h.ends.is))) in
        ap (λ (x : List ℕ). bytes_turn (loader_row h.ends.session) x) (sym bytes) ∙ turn

    target_is : target_transfers set s earlier ≡ transfers_of (target_at set earlier) ++ former_at set earlier
    target_is = ap (λ (state : TargetStanding). transfers_of state ++ former_at set earlier) (ap (λ (x : Option Event). reached set x (target_at set earlier)) alone ∙ reached_none set (target_at set earlier))

    by : ComesFromEnd (target_transfers set s earlier) ended → EndedByTarget set s earlier outcome
    by (of_none none not) = absurd (false_is_true (sym not ∙ receives.1))
    by (of_end u b brings) = record {
      event = e;
      comes = comes;
      alone = alone;
      arrived = h;
      bytes = arrived_of ended;
      fit = file_fits;
      turn = λ none_bad. turned none_bad;
      comes_to = comes_now;
      other = u;
      port = brings.ends.port;
      receives = sym (ap (λ (t : Transfer). is_receiving t.role) h.ends.is) ∙ receives.0;
      serves = serves_then u brings.ends.request;
      answers = answers_then u brings.ends.request;
      among = subst (λ (ts : List Transfer). Among u ts) target_is b;
      file = brings.file;
      sent = brings.sent;
      cause = told_cause joins set hw earlier changes u (subst (λ (ts : List Transfer). Among u ts) target_is b);
      whole = λ tells. brings.whole tells receives.1;
    }

    by_event : EndedByTarget set s earlier outcome
    by_event = by (sent.0.at_loader ended among receives.0)

  pub ended_by_target : IsOutcomeOfFile outcome → EndsAs set s earlier outcome → EndedByTarget set s earlier outcome
  ended_by_target of_file h = by (event_for sides.Loader (posted_in earlier) s.given) refl h.ended
    where
      by : (e : Option Event) → event_for sides.Loader (posted_in earlier) s.given ≡ e → (loader_reading set.media (logged e (loader_log earlier))).ended ≡ h.session ∷ (loader_at set earlier).ended → EndedByTarget set s earlier outcome
      by None comes grew = absurd (longer (loader_at set earlier).ended h.session grew)
      by (Some e) comes grew = alone (only_loader (posted_in earlier) s.given e comes)
        where
          ended_now : EndedByFile set.media (loader_at set earlier) e outcome
          ended_now = subst (λ (x : Outcome). EndedByFile set.media (loader_at set earlier) e x) h.came_to (ended_by_file set.media (loader_log earlier) e h.session grew (subst IsOutcomeOfFile (sym h.came_to) of_file))

          alone : (event_for sides.Target (posted_in earlier) s.given ≡ None) ⊎ ((size : Option ℕ) × (e ≡ Learns size)) → EndedByTarget set s earlier outcome
          alone (inl none) = by_event e comes none ended_now
          alone (inr (size, learns)) = absurd (longer (loader_at set earlier).ended h.session (subst (λ (x : Event). (loader_extended set.media (loader_at set earlier) x).ended ≡ h.session ∷ (loader_at set earlier).ended) learns grew))
