-- Proofs that the loader's live session is that of the newest start.
use Rattle.std.proofs.Common.{◌≡◌, inl, inr, List, [], ◌∷◌, ◌++◌, Option, Some, None, refl, sym, ap, subst, ◌∙◌}
use Rattle.tftp_packet.specs.Packets.{PacketView}
use Rattle.exchange_trace.specs.declared.trace.Side.TheVariants as sides
use Rattle.exchange_trace.specs.Logs.{Event}
use Rattle.transfer_end.specs.Moves.{Move, readings_after}
use Rattle.transfer_end.proofs.OtherEndLemmas.{among_right}
use Rattle.transfer_end.specs.Readings.{Reading}
use Rattle.transfer_end.specs.Transfers.{Transfer, with_packet}
use Rattle.session_rules.specs.declared.outcome.SessionKind.{SessionKind}
use Rattle.session_rules.specs.declared.outcome.SessionKind.TheVariants.{Info, Upload}
use Rattle.session_rules.specs.Loader.{Advances, Begins, Begins_over, Continues, Ends, LoaderChange, Start, loader_decision}
use Rattle.session_rules.proofs.LoaderLemmas.{end_stays, row_of_more, row_of_none}
use Rattle.session_rules.specs.LoaderLog.{LoaderReading, SessionLog, loader_reading, loader_reading_changed, loader_view, newest}
use Rattle.session_rules.proofs.LoaderRoleLemmas.{loader_decision_fits, loader_roles_fit}
use Rattle.session_rules.specs.LoaderRoles.{EndsLive, FitsLoaderChange, IsNoError, IsOfLoaderRow, LoaderLiveFits, LoaderRoleFits, loader_row}
use Rattle.session_rules.specs.LoaderRows.{LoaderRow, Reads_lci, Reads_lui, Serves_files, Takes_lcl, Takes_lcs, Takes_lus, Writes_lur, first_row, row_after, row_of}
use Rattle.session_rules.specs.MediaFiles.{Media}
use Rattle.session_rules.specs.OwnSessions.{HasComeTo, IsOfNewestStart, LiveIsOfNewestStart, SessionsAreOfNewestStarts}
use Rattle.session_rules.proofs.RequestLemmas.{BeginsBy, loader_fits}
use Rattle.session_rules.proofs.SessionLemmas.{begun_by, decision_begins}
use Rattle.session_rules.specs.Sessions.{started_by}

first_come_to : (start : Start) (kind : SessionKind) (mine : List Transfer) → HasComeTo start (first_row kind) mine
first_come_to start Info mine = tt
first_come_to start Upload mine = tt

-- a transfer of a row is over, by a packet that was no ERROR
come_to_then : (start : Start) (row : LoaderRow) (t : Transfer) (from : _) (p : PacketView) (mine : List Transfer) → IsNoError p → IsOfLoaderRow start row t.role → HasComeTo start row mine → HasComeTo start (row_after row) (with_packet t from p ∷ mine)
come_to_then start Writes_lur t from p mine no_error is h =
    record { since = []; request = with_packet t from p; before = mine; split = refl; serves = tt; writes = is; packet = p; heard = among_right p t.got (p ∷ []) (inl refl); no_error = no_error }
come_to_then start Serves_files t from p mine no_error is h = record {
  since = with_packet t from p ∷ h.since;
  request = h.request;
  before = h.before;
  split = ap (λ (ts : List Transfer). with_packet t from p ∷ ts) h.split;
  serves = (is, h.serves);
  writes = h.writes;
  packet = h.packet;
  heard = h.heard;
  no_error = h.no_error;
}
come_to_then start Reads_lci t from p mine no_error is h = record { request = with_packet t from p; among = inl refl; asks = is; packet = p; heard = among_right p t.got (p ∷ []) (inl refl); no_error = no_error }
come_to_then start Takes_lcs t from p mine no_error is h = record { request = h.request; among = inr h.among; asks = h.asks; packet = h.packet; heard = h.heard; no_error = h.no_error }
come_to_then start Takes_lcl t from p mine no_error is h = record { request = h.request; among = inr h.among; asks = h.asks; packet = h.packet; heard = h.heard; no_error = h.no_error }
come_to_then start Reads_lui t from p mine no_error is h = tt
come_to_then start Takes_lus t from p mine no_error is h = tt

module _ (media : Media) (e : Event) (log : List Event) where
  abbrev before_now : LoaderReading
  before_now = loader_reading media log

  abbrev moves_now : List Move
  moves_now = (loader_decision media (loader_view (loader_reading media log)) e).moves

  abbrev then : Reading
  then = readings_after sides.Loader (loader_reading media log).end moves_now

  abbrev now : LoaderReading
  now = loader_reading media (e ∷ log)

  past_is : now.end.past ≡ then.past
  past_is = ap (λ (x : Reading). x.past) (end_stays then before_now (loader_decision media (loader_view before_now) e).change)

  abbrev changed : Option SessionLog → LoaderChange → LoaderReading
  changed live change = loader_reading_changed then (record { end = before_now.end; live = live; ended = before_now.ended }) change

  advanced : (s : SessionLog) → EndsLive before_now.end moves_now → [] ≡ started_by e → LoaderRoleFits before_now.end (Some s) → IsOfNewestStart media log s → now.ended ≡ before_now.ended
      → IsOfNewestStart media (e ∷ log) (record { start = s.start; done = s.done ++ newest then.past })
  advanced s ends none role h is =
      let t : Transfer = with_packet ends.live ends.from ends.packet in
      let row : loader_row (record { start = s.start; done = s.done ++ newest then.past }) ≡ row_after (loader_row s) =
      ap (λ (ts : List Transfer). row_of s.start.kind (s.done ++ ts)) (ap newest ends.past) ∙ row_of_more s.start.kind s.done t in
      let of_row : IsOfLoaderRow s.start (loader_row s) ends.live.role = subst (λ (x : Option Transfer). LoaderLiveFits s.start (loader_row s) x) ends.was_live role.0 in
      record {
        since = e ∷ h.since;
        event = h.event;
        before = h.before;
        split = ap (λ (x : List Event). e ∷ x) h.split;
        newest = (sym none, h.newest);
        started = h.started;
        ended = is ∙ h.ended;
        mine = t ∷ h.mine;
        past = past_is ∙ ends.past ∙ ap (λ (ts : List Transfer). t ∷ ts) h.past;
        come_to = subst (λ (x : LoaderRow). HasComeTo s.start x (t ∷ h.mine)) (sym row) (come_to_then s.start (loader_row s) ends.live ends.from ends.packet h.mine ends.no_error of_row h.come_to);
      }

  by_change : (live : Option SessionLog) (change : LoaderChange) → FitsLoaderChange before_now.end live moves_now change → BeginsBy media e change → begun_by change ≡ started_by e → LoaderRoleFits before_now.end live → LiveIsOfNewestStart media log live
      → now.ended ≡ (changed live change).ended → LiveIsOfNewestStart media (e ∷ log) (changed live change).live
  by_change None (Continues more) fits begins none role h is = tt
  by_change None Advances fits begins none role h is = tt
  by_change live (Ends outcome more) fits begins none role h is = tt
  by_change live (Begins_over kind outcome) fits begins none role h is = tt
  by_change live (Begins start) (role_then, past, fresh) begins none role h is = record {
    since = [];
    event = e;
    before = log;
    split = refl;
    newest = tt;
    started = begins;
    ended = refl;
    mine = [];
    past = past_is ∙ past;
    come_to = subst (λ (row : LoaderRow). HasComeTo start row []) (sym (row_of_none start.kind)) (first_come_to start start.kind []);
  }
  by_change (Some s) (Continues more) (role_then, past, fresh) begins none role h is = record {
    since = e ∷ h.since;
    event = h.event;
    before = h.before;
    split = ap (λ (x : List Event). e ∷ x) h.split;
    newest = (sym none, h.newest);
    started = h.started;
    ended = is ∙ h.ended;
    mine = h.mine;
    past = past_is ∙ past ∙ h.past;
    come_to = h.come_to;
  }
  by_change (Some s) Advances (role_then, ends, fresh) begins none role h is = advanced s ends none role h is

pub sessions_are_of_newest_starts : SessionsAreOfNewestStarts
sessions_are_of_newest_starts media [] = tt
sessions_are_of_newest_starts media (e ∷ log) =
    let r = loader_reading media log in
    let d = loader_decision media (loader_view r) e in
    by_change media e log r.live d.change (loader_decision_fits media r.end r.live r.ended e) (loader_fits media (loader_view r) e).1 (decision_begins media (loader_view r) e) (loader_roles_fit media log) (sessions_are_of_newest_starts media log) refl
